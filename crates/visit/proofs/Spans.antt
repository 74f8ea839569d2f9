-- Spans and children: what `meets` and `admits` ask of a span, and the entries of a block one after the other.
-- Assumes nothing.
use mathlib.Core.Path.{◌≡◌, sym, ap, ap₂, ◌∙◌}
use mathlib.Core.Bool.{Bool, cond, not, ◌&&◌}
use mathlib.Core.List.{List, [], ◌∷◌}
use Prim.Native.Nat.{ℕ, suc, ◌+◌, ◌*◌, ◌/◌, ◌≤◌, ◌<◌}
use native.Mathlib.Numerals.{add-one}
use native.Mathlib.Omega.{arith}
use lib.Dec.{ltb, leb, eqb, eqb-suc-zero}
use lib.ListN.{length, drop, drop_of_length-le}
use lib.Seq.{drop-cons}
use Rattle.octets.specs.Lists.{all}
use Rattle.octets.specs.Bytes.{be}
use Rattle.spot.specs.Keys.{word, rank_key}
use Rattle.spot.specs.Spots.{key_at}
use Rattle.spot.specs.Query.{from_of, last_of, least_of, ends, meets}
use Rattle.spot.specs.declared.Query.{Query}
use Rattle.block.specs.declared.Entry.{Entry}
use Rattle.block.specs.declared.Asked.TheVariants.{Child}
use Rattle.block.specs.Node.{node_of, node_from}
use Rattle.block.specs.Access.{front_of, entry_of}
use Rattle.block.proofs.Shut.{all2}
use Rattle.block.proofs.Reading.{entries-count, entry-is}
use Rattle.tree.specs.Walk.{topped, admits}
use Rattle.visit.specs.declared.Span.{Span}
use Rattle.visit.specs.Visit.{end_of, part_of, entries_in, child_span, next_end}
use Rattle.std.specs.Prelude.{Some}

-- ---- tests of a span

pub meets-is : (q : Query) (s : Span) {from last : ℕ} {first filled r : Bool} → from ≡ from_of q → last ≡ last_of q → first ≡ ltb from (end_of s) → filled ≡ ltb s.lo (end_of s)
    → r ≡ ends q first (leb s.lo last) → filled && r ≡ meets q s.lo (end_of s)
unfolding meets
meets-is q s {from} f l g h e =
    ap₂ ◌&&◌ h (e ∙ ap₂ (ends q) (g ∙ ap (λ (x : ℕ). ltb x (end_of s)) f) (ap (leb s.lo) l))
    ∙ sym (all2 (ltb s.lo (end_of s)) (ends q (ltb (from_of q) (end_of s)) (leb s.lo (last_of q))))

pub admits-is : (q : Query) (e : Entry) (s : Span)
    → (not (eqb e.size 0) && leb (least_of q) (rank_key e.top / word)) && meets q s.lo (end_of s) ≡ admits q (part_of e.block (Child e) s)
unfolding admits topped
admits-is q e s =
    let a : Bool = not (eqb e.size 0) in
    let b : Bool = leb (least_of q) (rank_key e.top / word) in
    let m : Bool = meets q s.lo (end_of s) in
    ap (λ (x : Bool). x && m) (sym (all2 a b)) ∙ sym (all2 (all (a ∷ b ∷ [])) m)

-- ---- the entries of a block

module _ (s : List ℕ) where
  pub entries-length : length (entries_in s) ≡ be 1 s 7
  unfolding node_of node_from front_of
  entries-length = entries-count 0 s

  pub entry_next : (i : ℕ) → i < be 1 s 7 → drop i (entries_in s) ≡ entry_of s i ∷ drop (suc i) (entries_in s)
  unfolding node_of node_from front_of
  entry_next i h =
      drop-cons (entries_in s) i (entry_of s 0) (omega (arith, entries-length))
      ∙ ap (λ (e : Entry). e ∷ drop (suc i) (entries_in s)) (entry-is 0 s i (entry_of s 0) h)

  pub entry-none : (i : ℕ) → be 1 s 7 ≤ i → drop i (entries_in s) ≡ []
  entry-none i h =
      let l : length (entries_in s) ≤ i = omega (arith, entries-length) in
      drop_of_length-le (entries_in s) l

  -- the low of an entry past the first is in its bytes
  later-low : (i : ℕ) → (entry_of s (suc i)).low ≡ key_at s (8 + 28 * suc i + 4)
  unfolding entry_of
  later-low i = ap (λ (b : Bool). cond b 0 (key_at s (8 + 28 * suc i + 4))) (eqb-suc-zero i)

  module _ (i lo : ℕ) (span : Span) where
    abbrev span_at : List Entry → Span
    span_at es = record { lo = lo; hi = next_end es span.hi }

    pub span-next : i + 1 < be 1 s 7 → record { lo = lo; hi = Some (key_at s (8 + 28 * (i + 1) + 4)) } ≡ child_span (entries_in s) i lo span
    span-next h =
        ap (λ (j : ℕ). record { lo = lo; hi = Some (key_at s (8 + 28 * j + 4)) }) (add-one i)
        ∙ sym (ap (λ (k : ℕ). record { lo = lo; hi = Some k }) (later-low i))
        ∙ sym (ap span_at (entry_next (suc i) (omega arith)))

    pub span_last : be 1 s 7 ≤ i + 1 → record { lo = lo; hi = span.hi } ≡ child_span (entries_in s) i lo span
    span_last h = sym (ap span_at (entry-none (suc i) (omega arith)))
