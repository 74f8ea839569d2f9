-- Promises: a part's node shows no spot, and leads to no part, of a higher rank than its entry promises. A least rank leaves out just the parts that promise
-- less and the spots of a lower rank.
-- Assumes nothing.
use mathlib.Core.Path.{◌≡◌, refl, ap, sym, subst, ◌∙◌}
use mathlib.Core.Logic.{⊎_elim}
use mathlib.Core.Bool.{Bool, true, false, cond, not, ◌&&◌}
use mathlib.Core.List.Memᴰ
use mathlib.Core.List.{List, [], ◌∷◌, ◌++◌, Memᴰ}
use Prim.Native.Nat.{ℕ, zero, suc, ◌+◌, ◌*◌, ◌≤◌, ◌<◌}
use native.Mathlib.Omega.{arith}
use lib.Dec.{leb, ltb, eqb}
use lib.IntN.{ℤ}
use borrow.Author.Tests.{ltb-true, le-leb, lt-ltb}
use Rattle.octets.specs.Lists.{all, has, keep}
use Rattle.octets.specs.Bytes.{be}
use Rattle.octets.proofs.Tests.{all-at, every-mem, keep-mem, keep-in, keep-keep}
use Rattle.octets.proofs.Records.{tests-make}
use Rattle.spot.specs.declared.Spot.{Spot}
use Rattle.spot.specs.declared.Query.{Query}
use Rattle.spot.specs.Keys.{word, all_keys, rank_key, rank_of}
use Rattle.spot.specs.Spots.{key_at, keys}
use Rattle.spot.specs.Query.{top_query, from_of, last_of, is_ring, ends, meets, wants}
use Rattle.spot.proofs.Card.{key_at-lt}
use Rattle.spot.proofs.Halves.{rank-of-low}
use Rattle.spot.proofs.Places.{top_least}
use Rattle.spot.proofs.Buffers.{keys-mem, spots-small}
use Rattle.spot.proofs.Ranks.{of_rank, wants-high}
use Rattle.block.specs.declared.Entry.{Entry}
use Rattle.block.specs.declared.Asked.{Asked}
use Rattle.block.specs.declared.Asked.TheVariants.{Root, Child}
use Rattle.block.specs.Header.{head_of}
use Rattle.block.specs.Table.{block, version1}
use Rattle.block.specs.Node.{Node, Store, store_of, node_of, node_from, entry_at, points_from, inserts_from}
use Rattle.block.specs.NodeRules.{names, node_ok, tops}
use Rattle.block.proofs.Views.{every-entry}
use Rattle.block.proofs.Facts.{node-facts}
use Rattle.tree.specs.Part.{Part, children}
use Rattle.tree.specs.Walk.{topped, admits, takes, takes_key, finds}
use Rattle.tree.specs.Trace.{admitted}
use Rattle.tree.specs.BestFirst.{Pending, promise, promised, known, opened, shown}
use Rattle.tree.proofs.Live.{topped-size}
use Rattle.tree.proofs.Ranges.{parts-mem}
use Rattle.tree.proofs.Below.{tops-mem}
use Rattle.tree.proofs.Entries.{Highest, agree-held, agree-top}
use Rattle.tree.proofs.Sources.{InTable, room-is}
use Rattle.tree.proofs.BestFirstSums.{sum, counted, sum-keep}
use Rattle.tree.proofs.BestFirstTree.{pending, sum-known}

-- ---- a least rank

-- the part may hold a rank of y or above
abbrev pub due : ℕ → Pending → Bool
due y u = leb y (promised u)

module _ (x1 x2 : ℤ) (y : ℕ) where
  topped-rank : y ≤ word → (a : Asked) → topped (top_query x1 x2 y) a ≡ topped (top_query x1 x2 0) a && leb y (promise a)
  unfolding topped all
  topped-rank h (Root b) = sym (le-leb y word h)
  topped-rank h (Child e) = rw (top_least x1 x2 y, top_least x1 x2 0, le-leb 0 (rank_of e.top) (omega arith)) (go (not (eqb e.size 0)) (leb y (rank_of e.top)))
    where
      go : (a b : Bool) → a && (b && true) ≡ (a && (true && true)) && b
      go true true = refl
      go true false = refl
      go false b = refl

  admits-rank : y ≤ word → (c : Part) → admits (top_query x1 x2 y) c ≡ admits (top_query x1 x2 0) c && leb y (promise c.asked)
  unfolding admits all top_query meets ends is_ring from_of last_of
  admits-rank h c = rw (topped-rank h c.asked) (go (topped (top_query x1 x2 0) c.asked) (leb y (promise c.asked)) (meets (top_query x1 x2 0) c.lo c.hi))
    where
      go : (a b d : Bool) → (a && b) && (d && true) ≡ (a && (d && true)) && b
      go true true true = refl
      go true true false = refl
      go true false true = refl
      go true false false = refl
      go false b d = refl

  -- the children that a walk of least rank y reads are, of all that the places admit, those that promise y
  pub admitted-rank : y ≤ word → (f : Pending → ℕ) (m : Store) (named : List ℕ) (l : ℕ) (p : Part)
      → sum f (known named l (admitted (top_query x1 x2 y) m p)) ≡ sum (counted (due y) f) (known named l (admitted (top_query x1 x2 0) m p))
  admitted-rank h f m named l p =
      let cs = children p (m p.block) in
      let q = top_query x1 x2 0 in
      let high : Part → Bool = λ (c : Part). leb y (promise c.asked) in
      sum-known f named l (admitted (top_query x1 x2 y) m p) ∙
      ap (sum (λ c. f (pending l named c))) (keep-keep (admits q) high (admits (top_query x1 x2 y)) (admits-rank h) cs) ∙
      sum-keep high (λ c. f (pending l named c)) (keep (admits q) cs) ∙
      sym (sum-known (counted (due y) f) named l (keep (admits q) cs))

  takes-rank : (named : List ℕ) (s : Spot) → takes (top_query x1 x2 y) named s ≡ takes (top_query x1 x2 0) named s && of_rank y s
  unfolding takes_key all
  takes-rank named s = rw (wants-high x1 x2 y s) (go (wants (top_query x1 x2 0) s) (of_rank y s) (not (has s.key named)))
    where
      go : (a b d : Bool) → (a && b) && (d && true) ≡ (a && (d && true)) && b
      go true true true = refl
      go true true false = refl
      go true false true = refl
      go true false false = refl
      go false b d = refl

  -- what a node shows at least rank y is, of what it shows at rank 0, the spots of that rank: the test on places is the same
  pub finds-rank : (g : Spot → ℕ) (named : List ℕ) (n : Node)
      → sum g (finds (top_query x1 x2 y) named n) ≡ sum (counted (of_rank y) g) (finds (top_query x1 x2 0) named n)
  unfolding finds
  finds-rank g named n =
      let ss = n.points ++ n.inserts in
      ap (sum g) (keep-keep (takes (top_query x1 x2 0) named) (of_rank y) (takes (top_query x1 x2 y) named) (takes-rank named) ss) ∙
      sum-keep (of_rank y) g (keep (takes (top_query x1 x2 0) named) ss)

-- ---- keys of a table have 64 bits

-- the rank of a key of 8 bytes has 4
pub rank-word : (k : ℕ) → k < all_keys → rank_of k < word
rank-word k h = let e : rank_of k ≡ _ = rank-of-low k h in omega arith

-- a spot of P or I is read from bytes, so its key has 8
pub held_small : (t : List ℕ) (b : ℕ) {s : Spot} → Memᴰ s ((store_of t b).points ++ (store_of t b).inserts) → s.key < all_keys
unfolding store_of node_of node_from
held_small t b {s} i =
    let x = block t b in
    ⊎_elim (λ j. spots-small x 12 (be 1 x 4) (points_from version1 (be 1 x 7)) j) (λ j. spots-small x 12 (be 1 x 5) (inserts_from version1 (be 1 x 7) (be 1 x 4)) j)
    (Memᴰ.append_cases (store_of t b).points i)

entry-small : (s : List ℕ) (i : ℕ) → ltb (entry_at s i).top all_keys ≡ true
unfolding entry_at
entry-small s i = go (eqb (be 1 s (i + 2)) 0)
  where
    go : (b : Bool) → ltb (cond b 0 (key_at s (i + 12))) all_keys ≡ true
    go true = lt-ltb 0 all_keys (omega arith)
    go false = lt-ltb (key_at s (i + 12)) all_keys (key_at-lt s (i + 12))

-- so has the highest key that an entry names
top_small : (t : List ℕ) (b : ℕ) {e : Entry} → Memᴰ e (store_of t b).entries → e.top < all_keys
unfolding store_of node_of node_from
top_small t b {e} i =
    let s = block t b in
    let c = be 1 s 7 in
    ltb-true e.top all_keys
    (every-mem (λ (z : Entry). ltb z.top all_keys) (store_of t b).entries
    (every-entry (λ (z : Entry). ltb z.top all_keys) (λ z. refl) s c ∙ tests-make _ 28 c 8 (λ j l. entry-small s (8 + 28 * j)))
    i)

-- ---- what a node holds and its entry promises

module _ (l : ℕ) (e : Entry) (n : Node) (ok : node_ok l (Child e) n ≡ true) (some : e.size ≡ 0 → ⊥) where
  top-is : Highest n.points e.top
  top-is = let h = (node-facts l (Child e) n ok).agreed in agree-top e n h (agree-held e n h some)

  below_other : (k : ℕ) → Memᴰ k (keys n.inserts ++ n.deletes ++ tops n.entries) → rank_key k < rank_key e.top
  below_other k i = (node-facts l (Child e) n ok).above e.top k top-is.0 i

  held_below : (s : Spot) → Memᴰ s (n.points ++ n.inserts) → rank_key s.key ≤ rank_key e.top
  held_below s i =
      ⊎_elim (λ j. top-is.1 s.key (keys-mem n.points j))
      (λ j. let z = below_other s.key (Memᴰ.append_left (tops n.entries) (Memᴰ.append_left n.deletes (keys-mem n.inserts j))) in omega arith)
      (Memᴰ.append_cases n.points i)

module _ (t : List ℕ) (q : Query) (l b : ℕ) where
  -- a spot of a node is of no higher rank than its entry promises
  held-under : (a : Asked) → node_ok l a (store_of t b) ≡ true → topped q a ≡ true → (s : Spot) → Memᴰ s ((store_of t b).points ++ (store_of t b).inserts)
      → rank_of s.key ≤ promise a
  held-under (Root r) ok h s i = let z = rank-word s.key (held_small t b i) in omega arith
  held-under (Child e) ok h s i = let z = held_below l e (store_of t b) ok (topped-size q e h) s i in omega arith

  -- and so is the highest of a child
  entry-under : (a : Asked) → node_ok l a (store_of t b) ≡ true → topped q a ≡ true → (e : Entry) → Memᴰ e (store_of t b).entries → topped q (Child e) ≡ true
      → rank_of e.top ≤ promise a
  entry-under (Root r) ok h e i k = let z = rank-word e.top (top_small t b i) in omega arith
  entry-under (Child d) ok h e i k =
      let n = store_of t b in
      let z = below_other l d n ok (topped-size q d h) e.top (Memᴰ.append_right (keys n.inserts ++ n.deletes) (tops-mem n.entries i (topped-size q e k))) in
      omega arith

-- ---- the parts that become known

-- what is known of every part that is not read yet
pub record Fit (t : List ℕ) (q : Query) (u : Pending) : Type 0 where
  pub some : 1 ≤ u.levels
  pub few : u.levels ≤ (head_of t).levels
  pub asks : topped q u.part.asked ≡ true
  pub inside : InTable t u.part.block

known-mem : (named : List ℕ) (l : ℕ) (cs : List Part) {u : Pending} → Memᴰ u (known named l cs) → (c : Part) × Memᴰ c cs × (u ≡ pending l named c)
known-mem named l [] i = absurd (Memᴰ.not-nil i)
known-mem named l (c ∷ cs) i =
    ⊎_elim (λ e. (c, Memᴰ.head refl, e)) (λ j. let r = known-mem named l cs j in (r.0, Memᴰ.tail r.1, r.2)) (Memᴰ.cases_cons i)

module _ (t : List ℕ) (q : Query) (l : ℕ) (p : Pending) (f : Fit t q p) (e : p.levels ≡ suc l) (ok : node_ok l p.part.asked (store_of t p.part.block) ≡ true) where
  child-fit : (c : Part) → Memᴰ c (admitted q (store_of t) p.part) → (u : Pending) → u ≡ pending l (names (store_of t p.part.block) ++ p.named) c
      → Fit t q u × (promised u ≤ promised p)
  unfolding admits
  child-fit c i u g =
      let n = store_of t p.part.block in
      let k = keep-mem (admits q) (children p.part n) i in
      let r = parts-mem p.part.lo p.part.hi n.entries k.0 in
      let fact = node-facts l p.part.asked n ok in
      let up : topped q c.asked ≡ true = all-at _ k.1 0 in
      let asked : u.part.asked ≡ c.asked = ap (λ (x : Pending). x.part.asked) g in
      let stands : u.part.block ≡ r.0.block = ap (λ (x : Pending). x.part.block) g ∙ r.3 in
      let lev : u.levels ≡ l = ap (λ (x : Pending). x.levels) g in
      let low = fact.child-blocks r.0 r.1 in
      let deep : 1 ≤ l = levels l refl r.1 in
      let under = entry-under t q l p.part.block p.part.asked ok f.asks r.0 r.1 (rw r.2 at up) in (
        record {
          some = omega arith;
          few = omega (arith, f.few);
          asks = rw asked up;
          inside = record { low = omega (arith, low.1, room-is t p.part.block); some = omega (arith, low.0) };
        },
        rw (asked ∙ r.2) under,
      )
    where
      levels : (k : ℕ) → l ≡ k → {d : Entry} → Memᴰ d (store_of t p.part.block).entries → 1 ≤ l
      levels zero z {d} j =
          let fact = node-facts l p.part.asked (store_of t p.part.block) ok in
          absurd (Memᴰ.not-nil (subst (λ (es : List Entry). Memᴰ d es) (fact.leaf-bare (fact.same-level ∙ z)).0 j))
      levels (suc k) z j = omega arith

  opened-part : (u : Pending) → Memᴰ u (opened (store_of t) q l p) → Fit t q u × (promised u ≤ promised p)
  opened-part u i =
      let n = store_of t p.part.block in
      let r = known-mem (names n ++ p.named) l (keep (admits q) (children p.part n)) i in
      child-fit r.0 r.1 u r.2

  -- the children of a part that fits fit: their levels fall, they stand in the table, and an entry leads to each
  pub opened-fit : (u : Pending) → Memᴰ u (opened (store_of t) q l p) → Fit t q u
  opened-fit u i = (opened-part u i).0

  -- a child's highest is not above its parent's lowest, so it promises no more
  pub opened-under : (u : Pending) → Memᴰ u (opened (store_of t) q l p) → promised u ≤ promised p
  opened-under u i = (opened-part u i).1

  -- a node shows nothing above what the entry that leads to it promises
  pub shown-under : (s : Spot) → Memᴰ s (shown (store_of t) q p) → rank_of s.key ≤ promised p
  unfolding finds
  shown-under s i =
      let n = store_of t p.part.block in
      held-under t q l p.part.block p.part.asked ok f.asks s (keep-in (takes q p.named) (n.points ++ n.inserts) i)
