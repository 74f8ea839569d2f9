-- Where a walk's spots and blocks come from, on every table: each spot found is wanted, stands in P or I of a block read and has a place inside the limits, and
-- where every node read keeps the rules, each block read is a node block of the table.
-- Assumes nothing.
use mathlib.Core.Path.{◌≡◌, refl, sym, ap, ◌∙◌, subst}
use mathlib.Core.Logic.{◌⊎◌, inl, inr, ⊎_elim}
use mathlib.Core.Bool.{Bool, true, false, ◌&&◌}
use mathlib.Core.List.Memᴰ
use mathlib.Core.List.{List, [], ◌∷◌, ◌++◌, Memᴰ}
use Prim.Native.Nat.{ℕ, zero, suc, ◌≤◌, ◌<◌}
use native.Mathlib.Omega.{arith}
use lib.ListN.{length}
use borrow.Author.Tests.{leb-true, ltb-true}
use Rattle.octets.specs.Lists.{every, distinct}
use Rattle.octets.specs.Bitmap.{bit}
use Rattle.octets.proofs.Tests.{and_left, and_right, all-at, every-mem, every-make, keep-mem, keep-in}
use Rattle.spot.specs.Keys.{limited}
use Rattle.spot.specs.Spots.{keys, put_all}
use Rattle.spot.specs.Query.{wants}
use Rattle.spot.specs.declared.Spot.{Spot}
use Rattle.spot.specs.declared.Query.{Query}
use Rattle.spot.proofs.Buffers.{keys-mem, keys_from_lem, put_all-from}
use Rattle.block.specs.declared.Asked.{Asked}
use Rattle.block.specs.Table.{block_ok, blocks_of}
use Rattle.block.specs.Node.{Node, Store, store_of, node_of, node_from}
use Rattle.block.specs.NodeRules.{names, node_ok, child_blocks_ok}
use Rattle.block.specs.Header.{head_of}
use Rattle.block.specs.HeaderRules.{header_ok}
use Rattle.block.proofs.Making.{blocks-least}
use Rattle.block.proofs.Facts.{node-facts, head-facts}
use Rattle.tree.specs.Part.{Part, whole, children}
use Rattle.tree.specs.Reach.{reach}
use Rattle.tree.specs.Sound.{sound_at}
use Rattle.tree.specs.Walk.{spots, blocks_read, admits, takes, takes_key, finds, walk_table}
use Rattle.tree.specs.Trace.{admitted, obeys, visits, pour, gains}
use Rattle.tree.specs.ReadMap.{read_map}
use Rattle.tree.proofs.Ranges.{parts-mem}
use Rattle.tree.proofs.Marks.{map-bit, read_mem}
use Rattle.tree.proofs.Onto.{onto, onto-mem, mem-onto}
use Rattle.tree.proofs.Gather.{gather-mem, gather-in}
use Rattle.tree.proofs.Traces.{whole_if, table-trace}

-- ---- spots

-- a spot that is wanted, stands in a node of these blocks, and has a place inside the limits, as that node keeps the rules
pub record Source (m : Store) (q : Query) (bs : List ℕ) (s : Spot) : Type 0 where
  pub wanted : wants q s ≡ true
  pub block : ℕ
  pub read : Memᴰ block bs
  pub held : Memᴰ s ((m block).points ++ (m block).inserts)
  pub limits : limited s.key ≡ true

pub held-limited : (l : ℕ) (a : Asked) (n : Node) → node_ok l a n ≡ true → {s : Spot} → Memᴰ s (n.points ++ n.inserts) → limited s.key ≡ true
held-limited l a n ok i =
    let f = node-facts l a n ok in
    ⊎_elim (λ j. every-mem limited (keys n.points) f.points-limited (keys-mem n.points j))
    (λ j. every-mem limited (keys n.inserts) f.inserts-limited (keys-mem n.inserts j))
    (Memᴰ.append_cases n.points i)

pour-from : (Q : Spot → Type 0) (g : Part → List Spot → List Spot) (ps : List Part)
    → ((c : Part) → Memᴰ c ps → (found : List Spot) (s : Spot) → Memᴰ s (g c found) → Q s ⊎ Memᴰ s found)
    → (found : List Spot) (s : Spot) → Memᴰ s (pour g ps found) → Q s ⊎ Memᴰ s found
pour-from Q g [] h found s k = inr k
pour-from Q g (p ∷ ps) h found s k =
    ⊎_elim inl (λ j. h p (Memᴰ.head refl) found s j) (pour-from Q g ps (λ c i. h c (Memᴰ.tail i)) (g p found) s k)

finds-source : (m : Store) (q : Query) (named : List ℕ) (b : ℕ) (bs : List ℕ) (s : Spot) (l : ℕ) (a : Asked) → node_ok l a (m b) ≡ true → Memᴰ b bs
    → Memᴰ s (finds q named (m b))
    → Source m q bs s
unfolding finds takes_key
finds-source m q named b bs s l a ok i k =
    let r = keep-mem (takes q named) ((m b).points ++ (m b).inserts) k in
    record { wanted = all-at _ r.1 0; block = b; read = i; held = r.0; limits = held-limited l a (m b) ok r.0 }

-- every spot of a walk that keeps the rules comes from a block that it visits, or was there before
gains-from : (l : ℕ) (m : Store) (q : Query) (named : List ℕ) (p : Part) (found : List Spot) (s : Spot) → obeys l m q p ≡ true → Memᴰ s (gains l m q named p found)
    → Source m q (visits l m q p) s ⊎ Memᴰ s found
unfolding gains visits obeys
gains-from zero m q named p found s h k = inr k
gains-from (suc l) m q named p found s h k =
    let n = node_ok l p.asked (m p.block) in
    let ok = and_left n (every (obeys l m q) (admitted q m p)) h in
    ⊎_elim inl
    (λ j.
    ⊎_elim (λ i. inl (finds-source m q named p.block (visits (suc l) m q p) s l p.asked ok (Memᴰ.head refl) i)) inr
    (put_all-from (finds q named (m p.block)) found j))
    (pour-from (Source m q (visits (suc l) m q p)) _ (admitted q m p)
    (λ c i ss x j.
    ⊎_elim
    (λ (r : Source m q (visits l m q c) x).
    inl (record { wanted = r.wanted; block = r.block; read = Memᴰ.tail (gather-in (visits l m q) (admitted q m p) c i r.read); held = r.held; limits = r.limits }))
    inr
    (gains-from l m q (names (m p.block) ++ named) c ss x (every-mem (obeys l m q) (admitted q m p) (and_right n (every (obeys l m q) (admitted q m p)) h) i) j))
    (put_all (finds q named (m p.block)) found)
    s
    k)

if-source : (ok : Bool) (m : Store) (q : Query) (found : List Spot) (bs : List ℕ) (s : Spot) → (ok ≡ true → Memᴰ s found → Source m q bs s)
    → Memᴰ s (spots (whole_if ok found (onto bs [])))
    → Source m q (blocks_read (whole_if ok found (onto bs []))) s
if-source true m q found bs s h k =
    let r = h refl k in
    record { wanted = r.wanted; block = r.block; read = onto-mem bs r.read; held = r.held; limits = r.limits }
if-source false m q found bs s h k = absurd (Memᴰ.not-nil k)

-- "hands out only spots of its range", and from blocks that it reads
pub table-source : (t : List ℕ) (q : Query) (s : Spot) → Memᴰ s (spots (walk_table t q)) → Source (store_of t) q (blocks_read (walk_table t q)) s
table-source t q s k =
    let L = (head_of t).levels in
    let W = whole (head_of t) in
    let good = obeys L (store_of t) q W in
    let apart = distinct (visits L (store_of t) q W) in
    rw (table-trace t q)
    (if-source (header_ok (length t) (head_of t) && (good && apart)) (store_of t) q (gains L (store_of t) q [] W []) (visits L (store_of t) q W) s
    (λ h i.
    ⊎_elim (λ r. r) (λ j. absurd (Memᴰ.not-nil j))
    (gains-from L (store_of t) q [] W [] s (and_left good apart (and_right (header_ok (length t) (head_of t)) (good && apart) h)) i))
    (rw (table-trace t q) at k))

-- the same with the block named
pub walk-sources : (t : List ℕ) (q : Query) (s : Spot) → Memᴰ s (spots (walk_table t q))
    → (wants q s ≡ true) × ((b : ℕ) × Memᴰ b (blocks_read (walk_table t q)) × Memᴰ s ((store_of t b).points ++ (store_of t b).inserts))
walk-sources t q s k = let r = table-source t q s k in (r.wanted, (r.block, r.read, r.held))

-- spots that come from such blocks have places inside the limits
pub sources-limited : {m : Store} {q : Query} {bs : List ℕ} (ss : List Spot) → ((s : Spot) → Memᴰ s ss → Source m q bs s) → every limited (keys ss) ≡ true
sources-limited ss from = every-make limited (keys ss) (λ k i. let r = keys_from_lem ss i in ap limited r.2 ∙ (from r.0 r.1).limits)

-- ---- blocks

-- a fact of every block that a node may stand in, where each node's room is r
module _ (r : ℕ) (m : Store) (room : (b : ℕ) → (m b).room ≡ r) (P : ℕ → Type 0) (fine : (b : ℕ) → block_ok r b ≡ true → P b) where
  child-in : (l : ℕ) (a : Asked) (p : Part) → node_ok l a (m p.block) ≡ true → {c : Part} → Memᴰ c (children p (m p.block)) → P c.block
  unfolding node_ok child_blocks_ok
  child-in l a p h {c} i =
      let n = m p.block in
      let e = parts-mem p.lo p.hi n.entries i in
      fine c.block (rw (← room p.block, e.3) (every-mem _ n.entries (all-at _ h 11) e.1))

  visits-in : (l : ℕ) (q : Query) (p : Part) → obeys l m q p ≡ true → P p.block → (b : ℕ) → Memᴰ b (visits l m q p) → P b
  unfolding obeys visits
  visits-in zero q p h i b k = absurd (Memᴰ.not-nil k)
  visits-in (suc l) q p h i b k =
      ⊎_elim (λ (e : b ≡ p.block). subst P (sym e) i)
      (λ j.
      let n = node_ok l p.asked (m p.block) in
      let g = gather-mem (visits l m q) (admitted q m p) j in
      visits-in l q g.0 (every-mem (obeys l m q) (admitted q m p) (and_right n (every (obeys l m q) (admitted q m p)) h) g.1)
      (child-in l p.asked p (and_left n (every (obeys l m q) (admitted q m p)) h) (keep-in (admits q) (children p (m p.block)) g.1))
      b
      g.2)
      (Memᴰ.cases_cons k)

  reach-in : (l : ℕ) (p : Part) → sound_at l m p ≡ true → P p.block → (b : ℕ) → Memᴰ b (reach l m p) → P b
  unfolding sound_at reach
  reach-in zero p h i b k = absurd (Memᴰ.not-nil k)
  reach-in (suc l) p h i b k =
      ⊎_elim (λ (e : b ≡ p.block). subst P (sym e) i)
      (λ j.
      let g = gather-mem (reach l m) (children p (m p.block)) j in
      reach-in l g.0 (every-mem (sound_at l m) (children p (m p.block)) (all-at _ h 2) g.1) (child-in l p.asked p (all-at _ h 0) g.1) b g.2)
      (Memᴰ.cases_cons k)

-- a block that a node may stand in is one of the table
block-low : (r b : ℕ) → block_ok r b ≡ true → b < r
unfolding block_ok
block-low r b h = ltb-true b r (all-at _ h 1)

-- and not block 0
block-some : (r b : ℕ) → block_ok r b ≡ true → 1 ≤ b
unfolding block_ok
block-some r b h = leb-true 1 b (all-at _ h 0)

module _ (r : ℕ) (m : Store) (room : (b : ℕ) → (m b).room ≡ r) where
  -- blocks read are blocks of the table
  pub visits-low : (l : ℕ) (q : Query) (p : Part) → obeys l m q p ≡ true → p.block < r → (b : ℕ) → Memᴰ b (visits l m q p) → b < r
  visits-low = visits-in r m room (λ b. b < r) (block-low r)

  -- so are blocks reached
  pub reach-low : (l : ℕ) (p : Part) → sound_at l m p ≡ true → p.block < r → (b : ℕ) → Memᴰ b (reach l m p) → b < r
  reach-low = reach-in r m room (λ b. b < r) (block-low r)

-- ---- blocks of a table

-- every node of a table has the table's room
pub room-is : (t : List ℕ) (b : ℕ) → (store_of t b).room ≡ blocks_of (length t)
unfolding store_of node_of node_from
room-is t b = refl

-- a block of the table that a node may stand in
pub record InTable (t : List ℕ) (b : ℕ) : Type 0 where
  pub low : b < blocks_of (length t)
  pub some : 1 ≤ b

in_table : (t : List ℕ) (b : ℕ) → block_ok (blocks_of (length t)) b ≡ true → InTable t b
in_table t b h = record { low = block-low _ b h; some = block-some _ b h }

module _ (t : List ℕ) (h : header_ok (length t) (head_of t) ≡ true) where
  -- at most as many blocks as the map has bits, and at least 9
  pub header-few : blocks_of (length t) ≤ 4096
  header-few = (head-facts (length t) (head_of t) h).blocks-most

  -- and at least 9
  pub header-least : 9 ≤ blocks_of (length t)
  header-least = blocks-least (length t) (head-facts (length t) (head_of t) h).sized

  -- the root is a node block
  pub root_in : InTable t (head_of t).root
  unfolding header_ok
  root_in = in_table t (head_of t).root (all-at _ h 4)

  -- and so is every block that a walk from it reads
  pub table-visits : (q : Query) → let L = (head_of t).levels in let W = whole (head_of t) in obeys L (store_of t) q W ≡ true
      → (b : ℕ) → Memᴰ b (visits L (store_of t) q W) → InTable t b
  table-visits q o = visits-in _ (store_of t) (room-is t) (InTable t) (in_table t) (head_of t).levels q (whole (head_of t)) o root_in

  -- and every block reached from it
  pub table-reach : let L = (head_of t).levels in let W = whole (head_of t) in sound_at L (store_of t) W ≡ true
      → (b : ℕ) → Memᴰ b (reach L (store_of t) W) → InTable t b
  table-reach o = reach-in _ (store_of t) (room-is t) (InTable t) (in_table t) (head_of t).levels (whole (head_of t)) o root_in

-- ---- blocks that the walk of a table reads

module _ (t : List ℕ) (q : Query) where
  abbrev bs : List ℕ
  bs = blocks_read (walk_table t q)

  -- what holds of no blocks, and of those of a walk that keeps the rules and reads none twice, holds of the blocks read
  by-trace : (P : List ℕ → Type 0) → P []
      → (header_ok (length t) (head_of t) ≡ true → let L = (head_of t).levels in let W = whole (head_of t) in obeys L (store_of t) q W ≡ true
      → distinct (visits L (store_of t) q W) ≡ true
      → P (onto (visits L (store_of t) q W) []))
      → P bs
  by-trace P none some = rw (table-trace t q) (go _ refl)
    where
      W : Part
      W = whole (head_of t)

      good : Bool
      good = obeys (head_of t).levels (store_of t) q W

      apart : Bool
      apart = distinct (visits (head_of t).levels (store_of t) q W)

      go : (ok : Bool) → header_ok (length t) (head_of t) && (good && apart) ≡ ok
          → P (blocks_read (whole_if ok (gains (head_of t).levels (store_of t) q [] W []) (onto (visits (head_of t).levels (store_of t) q W) [])))
      go true e =
          let r = and_right (header_ok (length t) (head_of t)) (good && apart) e in
          some (and_left (header_ok (length t) (head_of t)) (good && apart) e) (and_left good apart r) (and_right good apart r)
      go false e = none

  -- each is a node block of the table
  pub read-in-table : (b : ℕ) → Memᴰ b bs → InTable t b
  read-in-table b = by-trace (λ xs. Memᴰ b xs → InTable t b) (λ k. absurd (Memᴰ.not-nil k)) (λ h o d k. table-visits t h q o b (mem-onto _ k))

  -- it has a bit in the map
  read-few : (b : ℕ) → Memᴰ b bs → b < 4096
  read-few b =
      by-trace (λ xs. Memᴰ b xs → b < 4096) (λ k. absurd (Memᴰ.not-nil k))
      (λ h o d k. omega (arith, header-few t h, (table-visits t h q o b (mem-onto _ k)).low))

  -- and the bit is set
  pub read-marked : (b : ℕ) → Memᴰ b bs → bit (read_map bs) b ≡ true
  read-marked b k = map-bit bs b (read-few b k) ∙ read_mem bs b k
