-- A slot's node: what the nodes above it name, the spots that a query finds in it, and the children that become known.
-- Assumes nothing.
use mathlib.Core.Path.{◌≡◌, refl, ap, ap₂, sym, ◌∙◌}
use mathlib.Core.Logic.{⊎_elim}
use mathlib.Core.Bool.{Bool, true, false, cond, not, ◌||◌, or_assoc, or_comm, or-false}
use mathlib.Core.List.{List, [], ◌∷◌, ◌++◌, append-nil, append_assoc, Memᴰ}
use Prim.Native.Nat.{ℕ, zero, suc, ◌+◌, ◌≤◌, ◌<◌}
use native.Mathlib.Numerals.{add-one}
use native.Mathlib.Omega.{arith}
use lib.ListN.{length, drop}
use Rattle.octets.specs.Lists.{all, has, keep, distinct}
use Rattle.octets.proofs.Order.{less-or-not}
use Rattle.octets.proofs.Tests.{keep-in, keep_same}
use Rattle.octets.proofs.Sets.{has-append, distinct-left}
use Rattle.spot.specs.Keys.{all_keys, rank_of}
use Rattle.spot.specs.Spots.{keys}
use Rattle.spot.specs.Query.{wants_key}
use Rattle.spot.specs.declared.Spot.{Spot}
use Rattle.spot.specs.declared.Query.{Query}
use Rattle.spot.proofs.Buffers.{keys-append}
use Rattle.block.specs.declared.Asked.{Asked}
use Rattle.block.specs.declared.Entry.{Entry}
use Rattle.block.specs.Table.{block, blocks_of}
use Rattle.block.specs.Node.{Store, store_of}
use Rattle.block.specs.NodeRules.{names}
use Rattle.block.specs.Access.{front_of}
use Rattle.block.proofs.Facts.{node-facts, block-facts}
use Rattle.tree.specs.Part.{Part, parts}
use Rattle.tree.specs.Walk.{admits, takes_key, takes, finds}
use Rattle.tree.specs.Trace.{named_by}
use Rattle.tree.specs.BestFirst.{Pending, known, opened}
use Rattle.visit.specs.declared.Path.{Path}
use Rattle.visit.specs.Visit.{end_of, above, named_above, waiting_above, entries_in}
use Rattle.visit.proofs.Above.{finds-waiting, entries-are}
use Rattle.frontier.specs.Frontier.{Slot, kid_count, kid_entry, kid_low, kid_part, kid_cell, Standing}
use Rattle.frontier.proofs.Spots.{spots-small}
use Rattle.frontier.proofs.Chains.{stands-valid}
use Rattle.frontier.proofs.Kids.{kid-next, kid-none, cell-is, cell-past}
use Rattle.top.specs.Reading.{flat, rev, named_up, pend_of, child_of, seat, shown_of}
use Rattle.top.proofs.Lefts.{tops, tops-distinct, tops-keep}

-- ---- named above

rev-more : (xs : List ℕ) (b : ℕ) → rev (xs ++ (b ∷ [])) ≡ b ∷ rev xs
rev-more [] b = refl
rev-more (x ∷ xs) b = ap (λ (l : List ℕ). l ++ (x ∷ [])) (rev-more xs b)

pub named-up-step : (t : List ℕ) (p r : Path) (b : ℕ) → above r ≡ above p ++ (b ∷ []) → named_up t r ≡ names (store_of t b) ++ named_up t p
named-up-step t p r b g = ap (λ (l : List ℕ). named_by (store_of t) (rev l)) g ∙ ap (named_by (store_of t)) (rev-more (above p) b)

named-join : (m : Store) (k : ℕ) (xs ys : List ℕ) → has k (named_by m (xs ++ ys)) ≡ has k (named_by m xs) || has k (named_by m ys)
named-join m k [] ys = refl
named-join m k (x ∷ xs) ys =
    let own : Bool = has k (names (m x)) in
    has-append k (names (m x)) (named_by m (xs ++ ys)) ∙ ap (λ (b : Bool). own || b) (named-join m k xs ys)
    ∙ sym (or_assoc own (has k (named_by m xs)) (has k (named_by m ys)))
    ∙ ap (λ (b : Bool). b || has k (named_by m ys)) (sym (has-append k (names (m x)) (named_by m xs)))

named-rev : (m : Store) (k : ℕ) (xs : List ℕ) → has k (named_by m (rev xs)) ≡ has k (named_by m xs)
named-rev m k [] = refl
named-rev m k (x ∷ xs) =
    let own : Bool = has k (names (m x)) in
    named-join m k (rev xs) (x ∷ [])
    ∙ ap₂ (λ (a b : Bool). a || b) (named-rev m k xs) (has-append k (names (m x)) [] ∙ or-false own)
    ∙ or_comm (has k (named_by m xs)) own
    ∙ sym (has-append k (names (m x)) (named_by m xs))

-- ---- the node of a slot

module _ (t : List ℕ) (q : Query) (s : Slot) (v : Standing t s) where
  -- what waits above decides, as the code has it
  pub shown-is : finds q (waiting_above t s.path) (store_of t s.block) ≡ shown_of t q s
  unfolding finds takes_key
  shown-is =
      let n = store_of t s.block in
      sym (
      keep_same (takes q (named_up t s.path)) (takes q (named_above t s.path)) (n.points ++ n.inserts)
      (λ x i. ap (λ (b : Bool). all (wants_key q x.key ∷ not b ∷ [])) (named-rev (store_of t) x.key (above s.path)))
      ∙ finds-waiting t s.block s.level v.asked v.ok q s.path v.ancestors)

  node-keys : {x : Spot} → Memᴰ x ((store_of t s.block).points ++ (store_of t s.block).inserts) → x.key < all_keys
  node-keys i = spots-small t s.block (stands-valid v) i

  pub shown-small : (x : Spot) → Memᴰ x (shown_of t q s) → x.key < all_keys
  unfolding finds
  shown-small x i = let n = store_of t s.block in node-keys (keep-in (takes q (named_up t s.path)) (n.points ++ n.inserts) i)

  pub shown-once : distinct (tops (shown_of t q s)) ≡ true
  unfolding finds names
  shown-once =
      let n = store_of t s.block in
      tops-keep (takes q (named_up t s.path)) (n.points ++ n.inserts)
      (tops-distinct (n.points ++ n.inserts) (λ x i. node-keys i)
      (ap distinct (keys-append n.points n.inserts) ∙ distinct-left (keys n.points ++ keys n.inserts) n.deletes (node-facts s.level v.asked n v.ok).once))

  few : kid_count t s.block ≤ 8
  unfolding store_of front_of
  few = (block-facts (blocks_of (length t)) s.level v.asked (block t s.block) v.ok).c-most

  -- ---- its children

  abbrev one : ℕ → List Pending
  one i = seat (kid_cell t s.block s.span q i) (child_of t s i)

  abbrev named : List ℕ
  named = names (store_of t s.block) ++ named_up t s.path

  -- those from the i-th on
  abbrev rest : ℕ → List Pending
  rest i = known named s.level (keep (admits q) (parts (kid_low t s.block s.span i) (end_of s.span) (drop i (entries_in (block t s.block)))))

  rest-none : (i : ℕ) → kid_count t s.block ≤ i → rest i ≡ []
  rest-none i h = ap (λ (ps : List Part). known named s.level (keep (admits q) ps)) (kid-none t s.block s.span i h)

  rest-step : (i : ℕ) → rest i ≡ one i ++ rest (i + 1)
  rest-step i = ⊎_elim past inner (less-or-not (kid_count t s.block) i)
    where
      b : ℕ
      b = s.block

      past : kid_count t b ≤ i → rest i ≡ one i ++ rest (i + 1)
      past h = rest-none i h ∙ sym (ap₂ (λ (v : ℕ) (l : List Pending). seat v (child_of t s i) ++ l) (sym (cell-past t b s.span q i h)) (rest-none (i + 1) (omega arith)))

      go : (y : Bool) (ps : List Part)
          → known named s.level (cond y (kid_part t b s.span i ∷ keep (admits q) ps) (keep (admits q) ps))
          ≡ seat (cond y (rank_of (kid_entry t b i).top + 1) 0) (child_of t s i) ++ known named s.level (keep (admits q) ps)
      go true ps = ap (λ (v : ℕ). seat v (child_of t s i) ++ known named s.level (keep (admits q) ps)) (sym (add-one (rank_of (kid_entry t b i).top)))
      go false ps = refl

      inner : i < kid_count t b → rest i ≡ one i ++ rest (i + 1)
      inner h =
          let ps = parts (kid_low t b s.span (i + 1)) (end_of s.span) (drop (i + 1) (entries_in (block t b))) in
          ap (λ (l : List Part). known named s.level (keep (admits q) l)) (kid-next t b s.span i h)
          ∙ go (admits q (kid_part t b s.span i)) ps
          ∙ ap (λ (v : ℕ). seat v (child_of t s i) ++ rest (i + 1)) (sym (cell-is t b s.span q i h))

  rest_all : (i : ℕ) → flat one i ++ rest i ≡ rest 0
  rest_all zero = refl
  rest_all (suc i) =
      append_assoc (flat one i) (one i) (rest (suc i)) ∙ ap (λ (j : ℕ). flat one i ++ (one i ++ rest j)) (sym (add-one i))
      ∙ ap (λ (l : List Pending). flat one i ++ l) (sym (rest-step i))
      ∙ rest_all i

  -- the cells are what becomes known when the node is read
  pub kids-known : (a : Asked) → flat (λ i. seat (kid_cell t s.block s.span q i) (child_of t s i)) 8 ≡ opened (store_of t) q s.level (pend_of t s a)
  kids-known a =
      sym (append-nil (flat one 8)) ∙ ap (λ (l : List Pending). flat one 8 ++ l) (sym (rest-none 8 few)) ∙ rest_all 8
      ∙ ap (λ (es : List Entry). known named s.level (keep (admits q) (parts s.span.lo (end_of s.span) es))) (entries-are t s.block)
