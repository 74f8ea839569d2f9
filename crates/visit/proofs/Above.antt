-- A node and the nodes above it: what they name in its rank order is what waits in them, and a child's nodes above are its parent's and the parent.
-- Assumes nothing.
use mathlib.Core.Path.{◌≡◌, refl, sym, ap, ap₂, subst, ◌∙◌}
use mathlib.Core.Logic.{◌⊎◌, inl, inr, ⊎_elim}
use mathlib.Core.Bool.{Bool, true, not, ◌||◌}
use mathlib.Core.List.Memᴰ
use mathlib.Core.List.{List, [], ◌∷◌, ◌++◌, Memᴰ}
use Prim.Native.Nat.{ℕ, suc, ◌+◌, ◌*◌, ◌≤◌, ◌<◌}
use native.Mathlib.Numerals.{add-one}
use native.Mathlib.Omega.{arith}
use lib.Dec.{leb, eqb}
use lib.ListN.{length, take, drop}
use borrow.Author.Tests.{leb-true, eqb-false, not-true}
use Rattle.octets.specs.Lists.{all, has, is_empty}
use Rattle.octets.specs.Bytes.{be}
use Rattle.octets.proofs.Order.{same_or_not}
use Rattle.octets.proofs.Lists.{mem-drop, mem-same}
use Rattle.octets.proofs.Tests.{all-at, every-mem, or-either, or_swap, empty-list, keep_same}
use Rattle.octets.proofs.Sets.{has-append, has-not}
use Rattle.spot.specs.Keys.{all_keys, rank_key}
use Rattle.spot.specs.Spots.{keys}
use Rattle.spot.specs.Query.{wants_key}
use Rattle.spot.specs.declared.Spot.{Spot}
use Rattle.spot.specs.declared.Query.{Query}
use Rattle.spot.proofs.Buffers.{keys-mem, keys-records, keys-small}
use Rattle.spot.proofs.Halves.{rank-small}
use Rattle.block.specs.declared.Entry.{Entry}
use Rattle.block.specs.declared.Asked.{Asked}
use Rattle.block.specs.declared.Asked.TheVariants.{Root, Child}
use Rattle.block.specs.Table.{block, version1}
use Rattle.block.specs.Node.{Node, Store, store_of, node_of, node_from, points_from}
use Rattle.block.specs.NodeRules.{names, node_ok, filled, lowest, agrees, tops, is_highest}
use Rattle.block.specs.Access.{EntryIs}
use Rattle.block.proofs.Facts.{NodeFacts, node-facts}
use Rattle.tree.specs.Part.{parts}
use Rattle.tree.specs.Walk.{topped, admits, takes_key, takes, finds}
use Rattle.tree.specs.Trace.{named_by}
use Rattle.tree.proofs.Sources.{room-is}
use Rattle.tree.proofs.Below.{tops-mem, some-point, has-insert, has-child}
use Rattle.visit.specs.declared.Path.{Path}
use Rattle.visit.specs.declared.Span.{Span}
use Rattle.visit.specs.Visit.{end_of, part_of, above, named_above, waiting, waiting_by, waiting_above, ceiling, Ancestors, entries_in, child_span, next_end}
use Rattle.std.specs.Prelude.{unwrap_or}
use Rattle.visit.proofs.Paths.{last-or-not, valid-more}
use Rattle.visit.proofs.Spans.{entry_next, entry-none}

-- ---- named and waiting

-- a key that P does not hold waits if it is named
names-waiting : (k : ℕ) (n : Node) → (Memᴰ k (keys n.points) → ⊥) → has k (names n) ≡ has k (waiting n)
unfolding names
names-waiting k n out =
    let p : List ℕ = keys n.points in
    let i : List ℕ = keys n.inserts in
    has-append k (p ++ i) n.deletes ∙ ap (λ (b : Bool). b || has k n.deletes) (has-append k p i ∙ ap (λ (b : Bool). b || has k i) (has-not k p out))
    ∙ sym (has-append k i n.deletes)

named-by : (m : Store) (k : ℕ) (bs : List ℕ) → ((b : ℕ) → Memᴰ b bs → Memᴰ k (keys (m b).points) → ⊥)
    → has k (named_by m bs) ≡ has k (waiting_by m bs)
named-by m k [] out = refl
named-by m k (b ∷ bs) out =
    has-append k (names (m b)) (named_by m bs)
    ∙ ap₂ (λ (x y : Bool). x || y) (names-waiting k (m b) (out b (Memᴰ.head refl))) (named-by m k bs (λ c i. out c (Memᴰ.tail i)))
    ∙ sym (has-append k (waiting (m b)) (waiting_by m bs))

pub named-waiting : (t : List ℕ) (p : Path) (top k : ℕ) → Ancestors t p top → rank_key k ≤ top → has k (named_above t p) ≡ has k (waiting_above t p)
named-waiting t p top k a h = named-by (store_of t) k (above p) (λ b i j. let l : top < rank_key k = a.over b i k j in omega arith)

-- ---- a node under its ceiling

-- the keys of P in a table are of 64 bits
points-small : (t : List ℕ) (b k : ℕ) → Memᴰ k (keys (store_of t b).points) → k < all_keys
unfolding store_of node_of node_from
points-small t b k i =
    let s : List ℕ = block t b in
    keys-small s 12 (be 1 s 4) (points_from version1 (be 1 s 7)) (mem-same (keys-records s 12 (be 1 s 4) (points_from version1 (be 1 s 7))) i)

-- P is no higher than the top of the entry that leads to it
points-below : (a : Asked) (n : Node) (k : ℕ) → agrees a n ≡ true → Memᴰ k (keys n.points) → k < all_keys → rank_key k ≤ ceiling a
unfolding agrees
points-below (Root b) n k h i l = let s : rank_key k < all_keys = rank-small k l in omega arith
points-below (Child e) n k h i l = ⊎_elim empty highest (or-either (is_empty n.points) (is_highest e.top (keys n.points)) (all-at _ h 1))
  where
    empty : is_empty n.points ≡ true → rank_key k ≤ rank_key e.top
    empty z = absurd (Memᴰ.not-nil (subst (λ (l : List Spot). Memᴰ k (keys l)) (empty-list n.points z) i))

    highest : is_highest e.top (keys n.points) ≡ true → rank_key k ≤ rank_key e.top
    highest z = leb-true _ _ (every-mem (λ j. leb (rank_key j) (rank_key e.top)) (keys n.points) (all-at _ z 1) i)

module _ (t : List ℕ) (b level : ℕ) (a : Asked) (ok : node_ok level a (store_of t b) ≡ true) where
  node : NodeFacts level a (store_of t b)
  node = node-facts level a (store_of t b) ok

  pub points-under : (k : ℕ) → Memᴰ k (keys (store_of t b).points) → rank_key k ≤ ceiling a
  points-under k i = points-below a (store_of t b) k node.agreed i (points-small t b k i)

  -- what lies below every point lies below the ceiling, where there is a point
  lower-under : (k : ℕ) → (lowest (store_of t b) ≡ true → ⊥)
      → Memᴰ k (keys (store_of t b).inserts ++ (store_of t b).deletes ++ tops (store_of t b).entries) → rank_key k ≤ ceiling a
  unfolding filled
  lower-under k never i =
      ⊎_elim
      (λ (f : filled (store_of t b) ≡ true). let p = some-point (store_of t b).points (leb-true _ _ (all-at _ f 0)) in
      omega (arith, points-under p.0 p.1, node.above p.0 k p.1 i))
      (λ l. absurd (never l))
      node.kind

  pub inserts-under : (k : ℕ) → Memᴰ k (keys (store_of t b).inserts) → rank_key k ≤ ceiling a
  inserts-under k i =
      let n = store_of t b in
      lower-under k (has-insert n i) (Memᴰ.append_left (tops n.entries) (Memᴰ.append_left n.deletes i))

  pub top-under : (e : Entry) → Memᴰ e (store_of t b).entries → (e.size ≡ 0 → ⊥) → rank_key e.top ≤ ceiling a
  top-under e i d =
      let n = store_of t b in
      lower-under e.top (has-child n i d) (Memᴰ.append_right (keys n.inserts ++ n.deletes) (tops-mem n.entries i d))

  pub finds-waiting : (q : Query) (p : Path) → Ancestors t p (ceiling a) → finds q (named_above t p) (store_of t b) ≡ finds q (waiting_above t p) (store_of t b)
  unfolding finds takes_key
  finds-waiting q p v = keep_same (takes q (named_above t p)) (takes q (waiting_above t p)) ((store_of t b).points ++ (store_of t b).inserts) same
    where
      under : (x : Spot) → Memᴰ x (store_of t b).points ⊎ Memᴰ x (store_of t b).inserts → rank_key x.key ≤ ceiling a
      under x (inl i) = points-under x.key (keys-mem (store_of t b).points i)
      under x (inr i) = inserts-under x.key (keys-mem (store_of t b).inserts i)

      same : (x : Spot) → Memᴰ x ((store_of t b).points ++ (store_of t b).inserts) → takes q (named_above t p) x ≡ takes q (waiting_above t p) x
      same x i =
          ap (λ (y : Bool). all (wants_key q x.key ∷ not y ∷ []))
          (named-waiting t p (ceiling a) x.key v (under x (Memᴰ.append_cases (store_of t b).points {t = (store_of t b).inserts} i)))

-- ---- one node more

pub above_step : (t : List ℕ) (p r : Path) (b level : ℕ) (a : Asked) → Ancestors t p (ceiling a) → node_ok level a (store_of t b) ≡ true
    → b * 2048 + 2048 ≤ length t
    → (e : Entry) → Memᴰ e (store_of t b).entries → (e.size ≡ 0 → ⊥)
    → p.n ≤ 6 → r.n ≡ p.n + 1 → above r ≡ above p ++ (b ∷ []) → Ancestors t r (rank_key e.top)
above_step t p r b level a v ok inside e i d h n g =
    record {
      path = valid-more t p r b v.path (record { level = level; asked = a; ok = ok; inside = inside }) h n g;
      over = λ c j k l. from c k (last-or-not p b g j) l;
    }
  where
    from : (c k : ℕ) → Memᴰ c (above p) ⊎ (c ≡ b) → Memᴰ k (keys (store_of t c).points) → rank_key e.top < rank_key k
    from c k (inl j) l = omega (arith, v.over c j k l, top-under t b level a ok e i d)
    from c k (inr q) l =
        let own = store_of t b in
        (node-facts level a own ok).above k e.top (subst (λ (x : ℕ). Memᴰ k (keys (store_of t x).points)) q l)
        (Memᴰ.append_right (keys own.inserts ++ own.deletes) (tops-mem own.entries i d))

named-append : (m : Store) (k : ℕ) (xs : List ℕ) (b : ℕ) → has k (named_by m (xs ++ (b ∷ []))) ≡ has k (names (m b)) || has k (named_by m xs)
named-append m k [] b = has-append k (names (m b)) []
named-append m k (x ∷ xs) b =
    let new : Bool = has k (names (m b)) in
    let own : Bool = has k (names (m x)) in
    let old : Bool = has k (named_by m xs) in
    has-append k (names (m x)) (named_by m (xs ++ (b ∷ [])))
    ∙ ap (λ (y : Bool). own || y) (named-append m k xs b)
    ∙ or_swap own new old
    ∙ ap (λ (y : Bool). new || y) (sym (has-append k (names (m x)) (named_by m xs)))

pub named_step : (t : List ℕ) (p r : Path) (b k : ℕ) → above r ≡ above p ++ (b ∷ []) → has k (named_above t r) ≡ has k (names (store_of t b) ++ named_above t p)
named_step t p r b k g =
    ap (λ (l : List ℕ). has k (named_by (store_of t) l)) g ∙ named-append (store_of t) k (above p) b ∙ sym (has-append k (names (store_of t b)) (named_above t p))

-- above the root there is nothing
pub above_root : (t : List ℕ) (p : Path) (top : ℕ) → p.n ≡ 0 → Ancestors t p top
above_root t p top e =
    record {
      path = record { few = omega arith; valid = λ b i. absurd (none b i) };
      over = λ b i k j. absurd (none b i);
    }
  where
    none : (b : ℕ) → Memᴰ b (above p) → ⊥
    none b i = Memᴰ.not-nil (subst (λ (l : List ℕ). Memᴰ b l) (ap (λ (n : ℕ). take n p.blocks) e) i)

-- ---- the children of a node, one after the other

-- the next child, and the parts that follow it
pub first_part : (e : Entry) (lo : ℕ) (span : Span) (es : List Entry)
    → let s : Span = record { lo = lo; hi = next_end es span.hi } in
    parts lo (end_of span) (e ∷ es) ≡ part_of e.block (Child e) s ∷ parts (unwrap_or s.hi lo) (end_of span) es
first_part e lo span [] = refl
first_part e lo span (x ∷ es) = refl

module _ (s : List ℕ) (i lo : ℕ) (span : Span) where
  pub parts_at : {e : Entry} {r : Span} → i < be 1 s 7 → EntryIs s i e → r ≡ child_span (entries_in s) i lo span
      → parts lo (end_of span) (drop i (entries_in s)) ≡ part_of e.block (Child e) r ∷ parts (unwrap_or r.hi lo) (end_of span) (drop (i + 1) (entries_in s))
  parts_at {e} {r} h v g =
      let es : List Entry = drop (suc i) (entries_in s) in
      ap (parts lo (end_of span)) (entry_next s i h ∙ ap (λ (x : Entry). x ∷ es) (sym v.same))
      ∙ first_part e lo span es
      ∙ ap (λ (x : Span). part_of e.block (Child e) x ∷ parts (unwrap_or x.hi lo) (end_of span) es) (sym g)
      ∙ ap (λ (j : ℕ). part_of e.block (Child e) r ∷ parts (unwrap_or r.hi lo) (end_of span) (drop j (entries_in s))) (sym (add-one i))

  pub parts_none : (hi : ℕ) → be 1 s 7 ≤ i → parts lo hi (drop i (entries_in s)) ≡ []
  parts_none hi h = ap (parts lo hi) (entry-none s i h)

pub entries-are : (t : List ℕ) (b : ℕ) → entries_in (block t b) ≡ (store_of t b).entries
unfolding store_of node_of node_from
entries-are t b = refl

pub entry_in : (t : List ℕ) (b i : ℕ) {e : Entry} → i < be 1 (block t b) 7 → EntryIs (block t b) i e → Memᴰ e (store_of t b).entries
entry_in t b i {e} h v =
    subst (λ (l : List Entry). Memᴰ e l) (entries-are t b) (mem-drop i (entries_in (block t b)) (subst (λ (l : List Entry). Memᴰ e l) (sym (entry_next (block t b) i h)) (Memᴰ.head v.same)))

-- a child that is read has points, stands in the table, and has a level below its parent's
pub admitted-size : (q : Query) (b : ℕ) (e : Entry) (s : Span) → admits q (part_of b (Child e) s) ≡ true → e.size ≡ 0 → ⊥
unfolding admits topped
admitted-size q b e s h = eqb-false e.size 0 (not-true (eqb e.size 0) (all-at _ (all-at _ h 0) 0))

module _ (t : List ℕ) (b level : ℕ) (a : Asked) (ok : node_ok level a (store_of t b) ≡ true) (e : Entry) (i : Memᴰ e (store_of t b).entries) where
  pub child-inside : (1 ≤ e.block) × (e.block * 2048 + 2048 ≤ length t)
  child-inside =
      let c = (node-facts level a (store_of t b) ok).child-blocks e i in
      (c.0, omega (arith, c.1, room-is t b))

  pub child-level : 1 ≤ level
  child-level = ⊎_elim leaf (λ d. omega (arith, d)) (same_or_not level 0)
    where
      leaf : level ≡ 0 → 1 ≤ level
      leaf z =
          let n = node-facts level a (store_of t b) ok in
          absurd (Memᴰ.not-nil (subst (λ (l : List Entry). Memᴰ e l) (n.leaf-bare (n.same-level ∙ z)).0 i))
