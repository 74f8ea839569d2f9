-- The same reading on a second table that agrees on the blocks read; and the readings that read no node.
-- Assumes nothing.
use mathlib.Core.Path.{◌≡◌, refl, ap, ap₂, sym, subst, ◌∙◌}
use mathlib.Core.Logic.{◌⊎◌, inl, inr, ⊎_elim}
use mathlib.Core.Bool.{Bool, true, false, cond, not, ◌&&◌, false≢true}
use mathlib.Core.List.Memᴰ
use mathlib.Core.List.{List, [], ◌∷◌, ◌++◌, Memᴰ}
use Prim.Native.Nat.{ℕ, zero, suc, ◌-◌, max}
use native.Mathlib.Omega.{arith}
use lib.ListN.{length}
use lib.Seq.{take-nil, drop-nil}
use lib.IntN.{ℤ}
use Rattle.octets.specs.Lists.{has, keep}
use Rattle.octets.specs.Bitmap.{bit}
use Rattle.octets.proofs.Tests.{and_left}
use Rattle.spot.specs.Keys.{rank_of}
use Rattle.spot.specs.Query.{top_query}
use Rattle.spot.specs.declared.Spot.{Spot}
use Rattle.spot.specs.declared.Query.{Query}
use Rattle.block.specs.Table.{block}
use Rattle.block.specs.Header.{head_of}
use Rattle.block.specs.HeaderRules.{header_ok}
use Rattle.block.specs.Node.{Node, Store, store_of}
use Rattle.block.specs.NodeRules.{names, node_ok}
use Rattle.block.proofs.Facts.{head-facts}
use Rattle.block.proofs.Frames.{store_same, head-same}
use Rattle.tree.specs.Part.{Part, children}
use Rattle.tree.specs.Walk.{topped, admits, finds}
use Rattle.tree.specs.BestFirst.{Pending, known, opened}
use Rattle.tree.specs.ReadMap.{read_map}
use Rattle.tree.proofs.Marks.{map-bit, read_mem, zero-marked}
use Rattle.tree.proofs.Sources.{InTable, header-few, root_in}
use Rattle.tree.proofs.BestFirstParts.{Fit, opened-fit}
use Rattle.tree.proofs.BestFirstTree.{root_of}
use Rattle.within_theory.specs.Reading.{Reading, line_up_all, ties, obeys_at, readable, read_first, certain, stopped, begun, reading, given_of, held_back, greatest, ceiling_of}
use Rattle.within_theory.proofs.Lines.{line_up_all-from}
use Rattle.within_theory.proofs.Readings.{stuck_at, reading-none}

-- ---- one step

abbrev step : Store → Query → ℕ → Reading → Reading
step m q k s = cond (stopped k s) s (read_first m q s.unread s)

-- the first in line, p, is read: its node is n
abbrev read_on : Query → Pending → List Pending → Reading → Node → Reading
read_on q p ps s n =
    record {
      whole = s.whole;
      unread = line_up_all (known (names n ++ p.named) (p.levels - 1) (keep (admits q) (children p.part n))) ps;
      found = finds q p.named n ++ s.found;
      blocks = p.part.block ∷ s.blocks;
    }

-- a reading that breaks the rules stays so
first-whole : (m : Store) (q : Query) (us : List Pending) (s : Reading) → (read_first m q us s).whole ≡ true → s.whole ≡ true
first-whole m q [] s w = w
first-whole m q (p ∷ ps) s w = go (readable m p ps s.blocks) w
  where
    go : (b : Bool) → (cond b (read_on q p ps s (m p.part.block)) (stuck_at p ps s)).whole ≡ true → s.whole ≡ true
    go true h = h
    go false h = absurd (false≢true h)

step-whole : (m : Store) (q : Query) (k : ℕ) (s : Reading) → (step m q k s).whole ≡ true → s.whole ≡ true
step-whole m q k s w = go (stopped k s) w
  where
    go : (b : Bool) → (cond b s (read_first m q s.unread s)).whole ≡ true → s.whole ≡ true
    go true h = h
    go false h = first-whole m q s.unread s h

-- what was read stays read
first-kept : (m : Store) (q : Query) (us : List Pending) (s : Reading) {b : ℕ} → Memᴰ b s.blocks → Memᴰ b (read_first m q us s).blocks
first-kept m q [] s i = i
first-kept m q (p ∷ ps) s {b} i = go (readable m p ps s.blocks)
  where
    go : (c : Bool) → Memᴰ b (cond c (read_on q p ps s (m p.part.block)) (stuck_at p ps s)).blocks
    go true = Memᴰ.tail i
    go false = i

step_kept : (m : Store) (q : Query) (k : ℕ) (s : Reading) {b : ℕ} → Memᴰ b s.blocks → Memᴰ b (step m q k s).blocks
step_kept m q k s {b} i = go (stopped k s)
  where
    go : (c : Bool) → Memᴰ b (cond c s (read_first m q s.unread s)).blocks
    go true = i
    go false = first-kept m q s.unread s i

-- ---- two stores that agree on the blocks read in the first

module _ (x y : Store) where
  obeys-same : (l : ℕ) (p : Part) → y p.block ≡ x p.block → obeys_at l y p ≡ obeys_at l x p
  obeys-same zero p e = refl
  obeys-same (suc l) p e = ap (λ (n : Node). node_ok l p.asked n) e

  readable-same : (p : Pending) (ps : List Pending) (bs : List ℕ) → y p.part.block ≡ x p.part.block → readable y p ps bs ≡ readable x p ps bs
  unfolding readable
  readable-same p ps bs e = ap (λ (b : Bool). b && (not (has p.part.block bs) && not (ties p ps))) (obeys-same p.levels p.part e)

  -- where the first in line is read, its block is among those read
  first-same : (q : Query) (us : List Pending) (s : Reading) → (read_first x q us s).whole ≡ true
      → ((b : ℕ) → Memᴰ b (read_first x q us s).blocks → y b ≡ x b)
      → read_first y q us s ≡ read_first x q us s
  first-same q [] s w h = refl
  first-same q (p ∷ ps) s w h =
      let e = here (readable x p ps s.blocks) w (h p.part.block) in
      ap₂ (λ (b : Bool) (n : Node). cond b (read_on q p ps s n) (stuck_at p ps s)) (readable-same p ps s.blocks e) e
    where
      here : (b : Bool) → (cond b (read_on q p ps s (x p.part.block)) (stuck_at p ps s)).whole ≡ true
          → (Memᴰ p.part.block (cond b (read_on q p ps s (x p.part.block)) (stuck_at p ps s)).blocks → y p.part.block ≡ x p.part.block)
          → y p.part.block ≡ x p.part.block
      here true v g = g (Memᴰ.head refl)
      here false v g = absurd (false≢true v)

  step_same : (q : Query) (k : ℕ) (s : Reading) → (step x q k s).whole ≡ true → ((b : ℕ) → Memᴰ b (step x q k s).blocks → y b ≡ x b)
      → step y q k s ≡ step x q k s
  step_same q k s w h = go (stopped k s) w h
    where
      go : (c : Bool) → (cond c s (read_first x q s.unread s)).whole ≡ true
          → ((b : ℕ) → Memᴰ b (cond c s (read_first x q s.unread s)).blocks → y b ≡ x b)
          → cond c s (read_first y q s.unread s) ≡ cond c s (read_first x q s.unread s)
      go true v g = refl
      go false v g = first-same q s.unread s v g

-- ---- two tables

begun-same : (t u : List ℕ) → length u ≡ length t → block u 0 ≡ block t 0 → begun u ≡ begun t
unfolding begun
begun-same t u n z = rw (n, head-same t u n z)

module _ (t u : List ℕ) (x1 x2 : ℤ) (k : ℕ) (n : length u ≡ length t) (z : block u 0 ≡ block t 0) where
  -- with the same header and the same blocks read
  reading-same : (a : ℕ) → (reading t x1 x2 k a).whole ≡ true → ((b : ℕ) → Memᴰ b (reading t x1 x2 k a).blocks → block u b ≡ block t b)
      → reading u x1 x2 k a ≡ reading t x1 x2 k a
  unfolding reading
  reading-same zero w h = begun-same t u n z
  reading-same (suc a) w h =
      let q = top_query x1 x2 0 in
      let s = reading t x1 x2 k a in
      let e = reading-same a (step-whole (store_of t) q k s w) (λ b i. h b (step_kept (store_of t) q k s i)) in
      ap (step (store_of u) q k) e ∙ step_same (store_of t) (store_of u) q k s w (λ b i. store_same t u n b (h b i))

-- ---- the blocks read have a bit in the map

-- what is known of a reading that keeps the rules
record Placed (t : List ℕ) (q : Query) (s : Reading) : Type 0 where
  head : header_ok (length t) (head_of t) ≡ true
  fit : (p : Pending) → Memᴰ p s.unread → Fit t q p
  places : (b : ℕ) → Memᴰ b s.blocks → InTable t b

-- a node that keeps the rules stands at a level
obeys-node : (l : ℕ) (m : Store) (p : Part) → obeys_at l m p ≡ true → (j : ℕ) × (l ≡ suc j) × (node_ok j p.asked (m p.block) ≡ true)
obeys-node zero m p h = absurd (false≢true h)
obeys-node (suc l) m p h = (l, refl, h)

module _ (t : List ℕ) (q : Query) where
  children-fit : (p : Pending) (ps : List Pending) (bs : List ℕ) → readable (store_of t) p ps bs ≡ true → Fit t q p
      → (u : Pending) → Memᴰ u (opened (store_of t) q (p.levels - 1) p)
      → Fit t q u
  unfolding readable
  children-fit p ps bs h f u i =
      let r = obeys-node p.levels (store_of t) p.part (and_left (obeys_at p.levels (store_of t) p.part) (not (has p.part.block bs) && not (ties p ps)) h) in
      let e : p.levels - 1 ≡ r.0 = omega (arith, r.1) in
      opened-fit t q r.0 p f r.1 r.2 u (subst (λ (l : ℕ). Memᴰ u (opened (store_of t) q l p)) e i)

  first-placed : (us : List Pending) (s : Reading) → s.unread ≡ us → Placed t q s → (read_first (store_of t) q us s).whole ≡ true
      → Placed t q (read_first (store_of t) q us s)
  first-placed [] s e g w = g
  first-placed (p ∷ ps) s e g w = go (readable (store_of t) p ps s.blocks) refl w
    where
      fits : (v : Pending) → Memᴰ v (p ∷ ps) → Fit t q v
      fits v i = g.fit v (subst (λ (us : List Pending). Memᴰ v us) (sym e) i)

      go : (b : Bool) → readable (store_of t) p ps s.blocks ≡ b → (cond b (read_on q p ps s (store_of t p.part.block)) (stuck_at p ps s)).whole ≡ true
          → Placed t q (cond b (read_on q p ps s (store_of t p.part.block)) (stuck_at p ps s))
      go true h v =
          let f = fits p (Memᴰ.head refl) in
          record {
            head = g.head;
            fit =
                λ u i.
                ⊎_elim (λ j. children-fit p ps s.blocks h f u j) (λ j. fits u (Memᴰ.tail j))
                (line_up_all-from (opened (store_of t) q (p.levels - 1) p) ps i);
            places = λ b i. ⊎_elim (λ (c : b ≡ p.part.block). rw c f.inside) (λ j. g.places b j) (Memᴰ.cases_cons i);
          }
      go false h v = absurd (false≢true v)

  step-placed : (k : ℕ) (s : Reading) → Placed t q s → (step (store_of t) q k s).whole ≡ true → Placed t q (step (store_of t) q k s)
  step-placed k s g w = go (stopped k s) w
    where
      go : (c : Bool) → (cond c s (read_first (store_of t) q s.unread s)).whole ≡ true → Placed t q (cond c s (read_first (store_of t) q s.unread s))
      go true v = g
      go false v = first-placed s.unread s refl g v

begun-placed : (t : List ℕ) (q : Query) → (begun t).whole ≡ true → Placed t q (begun t)
unfolding begun topped
begun-placed t q h =
    record {
      head = h;
      fit =
          λ u i.
          ⊎_elim (λ (e : u ≡ root_of t). rw e (record { some = (head-facts (length t) (head_of t) h).levels-least; few = omega arith; asks = refl; inside = root_in t h }))
          (λ j. absurd (Memᴰ.not-nil j))
          (Memᴰ.cases_cons i);
      places = λ b i. absurd (Memᴰ.not-nil i);
    }

reading-placed : (t : List ℕ) (x1 x2 : ℤ) (k a : ℕ) → (reading t x1 x2 k a).whole ≡ true → Placed t (top_query x1 x2 0) (reading t x1 x2 k a)
unfolding reading
reading-placed t x1 x2 k zero w = begun-placed t (top_query x1 x2 0) w
reading-placed t x1 x2 k (suc a) w =
    let q = top_query x1 x2 0 in
    let s = reading t x1 x2 k a in
    step-placed t q k s (reading-placed t x1 x2 k a (step-whole (store_of t) q k s w)) w

-- each block read is marked
reading-marked : (t : List ℕ) (x1 x2 : ℤ) (k a : ℕ) → (reading t x1 x2 k a).whole ≡ true → (b : ℕ) → Memᴰ b (reading t x1 x2 k a).blocks
    → bit (read_map (reading t x1 x2 k a).blocks) b ≡ true
reading-marked t x1 x2 k a w b i =
    let g = reading-placed t x1 x2 k a w in
    let bs = (reading t x1 x2 k a).blocks in
    map-bit bs b (omega (arith, header-few t g.head, (g.places b i).low)) ∙ read_mem bs b i

-- "Spots, ceiling and marks follow the second-table rule": all of what was read is the same
pub within-second : (t u : List ℕ) (x1 x2 : ℤ) (k a : ℕ) → length u ≡ length t → (reading t x1 x2 k a).whole ≡ true
    → ((b : ℕ) → bit (read_map (reading t x1 x2 k a).blocks) b ≡ true → block u b ≡ block t b)
    → reading u x1 x2 k a ≡ reading t x1 x2 k a
within-second t u x1 x2 k a n w h = reading-same t u x1 x2 k n (h 0 (zero-marked _)) a w (λ b i. h b (reading-marked t x1 x2 k a w b i))

-- ---- no node is read

reading-first : (t : List ℕ) (x1 x2 : ℤ) (k : ℕ) → reading t x1 x2 k 0 ≡ begun t
unfolding reading
reading-first t x1 x2 k = refl

-- "With allowance or k 0 it reads only block 0 and gives no spot and ceiling 2147483647"
pub within_none : (t : List ℕ) (x1 x2 : ℤ) (k a : ℕ) → (k ≡ 0) ⊎ (a ≡ 0) → reading t x1 x2 k a ≡ begun t
within_none t x1 x2 k a (inl e) = ap (λ (j : ℕ). reading t x1 x2 j a) e ∙ reading-none t x1 x2 a
within_none t x1 x2 k a (inr e) = ap (reading t x1 x2 k) e ∙ reading-first t x1 x2 k

pub none-given : (t : List ℕ) (k : ℕ) → given_of k (begun t) ≡ []
unfolding given_of certain begun
none-given t k = take-nil k

pub none-ceiling : (t : List ℕ) (k : ℕ) → ceiling_of k (begun t) ≡ 4294967295
unfolding ceiling_of held_back certain begun
none-ceiling t k = ap (λ (l : List Spot). max 4294967295 (greatest (λ x. rank_of x.key) (l ++ []))) (drop-nil k)
