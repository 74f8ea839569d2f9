-- Reports counted, one after the other.
-- Assumes nothing.
use mathlib.Core.Path.{◌≡◌, refl, ap, ap₂, sym, subst, ◌∙◌}
use mathlib.Core.Logic.{⊎_elim}
use mathlib.Core.Bool.{Bool, true, false, not, ◌||◌}
use mathlib.Core.List.{List, ◌∷◌, ◌++◌, []}
use Prim.Native.Nat.{ℕ, ◌+◌, ◌*◌, ◌≤◌, ◌<◌}
use native.Mathlib.Omega.{arith}
use Rattle.std.specs.Prelude.{Option, Some, None, is_some}
use lib.ListN.{length, get_or, take, drop, set, length-append, length-drop}
use lib.Seq.{length-take-le, get_or-set_same, get_or-set_other}
use borrow.Author.Tests.{not-true, not-false}
use borrow.Rule.Slice.PartMut.{mid_of, put_mid}
use Rattle.octets.proofs.Order.{same_or_not}
use Rattle.octets.proofs.Lists.{take-push}
use Rattle.spot.specs.Spots.{spots_in}
use Rattle.block.specs.Header.{head_of}
use Rattle.block.specs.HeaderRules.{header_ok}
use Rattle.tree.specs.ReadMap.{read_map}
use Rattle.tree.specs.Walk.{Walk, is_broken, spots, blocks_read, walk_table}
use Rattle.tree.proofs.MapBits.{Bytes, read_length}
use Rattle.query.specs.Walks.{TableCounted, TableHeld}
use Rattle.tally.specs.declared.Tally.{Tally}
use Rattle.ranges.specs.Ranges.{range_at}
use Rattle.ranges.specs.declared.Range.{Range}
use Rattle.ranges.specs.declared.Batch.{Batch}
use Rattle.report.specs.Joined.{both, report_of, joined, counts_of}
use Rattle.report.proofs.Reports.{report-blocks, report-whole, report-length}
use Rattle.report.proofs.Both.{both-broken, both-spots, both-blocks}
use Rattle.report.proofs.Snoc.{joined-none, joined-more, counts-more, broken-later}
use Rattle.many.specs.Many.{Union, asked_by, OneCounted, AllCounted}
use Rattle.many.proofs.Unions.{union-read}
use Rattle.many.proofs.Slots.{slot-put, slot-before}

pub one-counted : (r : Range) {t seen few own seen' few' : List ℕ} {s : Option Tally} → TableCounted t (asked_by r) own s → TableHeld t (asked_by r) few few' s → Union seen own seen'
    → OneCounted r t seen few seen' few' s
one-counted r {t} {s = None} c h u =
    record {
      ok = c.ok ∙ ap not (sym (report-whole t r.x1 r.x2 r.y));
      spots = tt;
      bounded = tt;
      sized = u.sized;
      marks = tt;
      held = h;
    }
one-counted r {t} {seen} {seen' = seen'} {s = Some y} c h u =
    record {
      ok = c.ok ∙ ap not (sym (report-whole t r.x1 r.x2 r.y));
      spots = c.spots ∙ sym (report-length t r.x1 r.x2 r.y);
      bounded = c.few;
      sized = u.sized;
      marks = subst (λ (m : List ℕ). Union seen m seen') (c.marks ∙ sym (ap read_map (report-blocks t r.x1 r.x2 r.y))) u;
      held = h;
    }

-- the first i are counted, and n spots found so far
pub record Counting (all : List Range) (t seen few each : List ℕ) (n i : ℕ) : Type 0 where
  pub told : is_broken (joined t (take i all)) ≡ false
  pub found : n ≡ length (spots (joined t (take i all)))
  pub bounded : n ≤ 524288 * i
  pub mapped : length seen ≡ 512
  pub marks : seen ≡ read_map (blocks_read (joined t (take i all)))
  pub counts : take i each ≡ counts_of t (take i all)
  pub held : (j : ℕ) → j < i → 12 * get_or each j 0 ≤ 1536
      → spots_in (drop (1536 * j) few) (get_or each j 0) ≡ spots (walk_table t (asked_by (range_at all j)))

module _ (all : List Range) (t : List ℕ) (header : header_ok (length t) (head_of t) ≡ true) where
  pub counting-start : {seen few each : List ℕ} → seen ≡ read_map [] → Counting all t seen few each 0 0
  counting-start {seen} {few} {each} e =
      let none = joined-none t header in
      record {
        told = ap is_broken none;
        found = sym (ap (λ (w : Walk). length (spots w)) none);
        bounded = omega arith;
        mapped = ap length e ∙ read_length [];
        marks = e ∙ sym (ap (λ (w : Walk). read_map (blocks_read w)) none);
        counts = refl;
        held = λ j l. let z : ⊥ = omega arith in absurd z;
      }

  module _ {seen few each seen' part given_few : List ℕ} {n i : ℕ} {s : Option Tally} (g : Counting all t seen few each n i) (within : i < length all)
      (o : OneCounted (range_at all i) t seen given_few seen' part s) where
    -- up to the i-th, and the i-th
    abbrev J : Walk
    J = joined t (take i all)

    abbrev R : Walk
    R = report_of t (range_at all i)

    more : joined t (take (i + 1) all) ≡ both J R
    more = joined-more t header all i within

    told-next : is_some s ≡ not (is_broken (joined t (take (i + 1) all)))
    told-next = o.ok ∙ sym (ap (λ (w : Walk). not (is_broken w)) more ∙ ap not (both-broken J R) ∙ ap (λ (b : Bool). not (b || is_broken R)) g.told)

    -- the i-th is broken, and so are all together
    pub counting-broken : (m : ℕ) → i < m → is_some s ≡ false → is_broken (joined t (take m all)) ≡ true
    counting-broken m l h = broken-later t header all (i + 1) m (omega arith) (not-false (is_broken (joined t (take (i + 1) all))) (sym told-next ∙ h))

  module _ {seen few each seen' part : List ℕ} {n i : ℕ} {s : Tally} (g : Counting all t seen few each n i) (within : i < length all)
      (k : ℕ) (wide : k ≡ 1536) (o : OneCounted (range_at all i) t seen (mid_of (1536 * i) k few) seen' part (Some s)) (bytes : Bytes seen') (room : 1536 * i + k ≤ length few)
      (fits : i < length each) where
    abbrev J' : Walk
    J' = joined t (take i all)

    abbrev R' : Walk
    R' = report_of t (range_at all i)

    more' : joined t (take (i + 1) all) ≡ both J' R'
    more' = more g within o

    whole : is_broken (joined t (take (i + 1) all)) ≡ false
    whole = not-true (is_broken (joined t (take (i + 1) all))) (sym (told-next g within o))

    both-whole : is_broken (both J' R') ≡ false
    both-whole = sym (ap is_broken more') ∙ whole

    long : length part ≡ k
    long = o.held.sized ∙ length-take-le k (drop (1536 * i) few) (omega (arith, length-drop (1536 * i) few))

    abbrev few' : List ℕ
    few' = put_mid (1536 * i) k few part

    abbrev each' : List ℕ
    each' = set each i s.spots

    held_next : (j : ℕ) → j < i + 1 → 12 * get_or each' j 0 ≤ 1536
        → spots_in (drop (1536 * j) few') (get_or each' j 0) ≡ spots (walk_table t (asked_by (range_at all j)))
    held_next j l small =
        ⊎_elim
        (λ (e : j ≡ i).
        let same : get_or each' j 0 ≡ s.spots = ap (λ (m : ℕ). get_or each' m 0) e ∙ get_or-set_same each i s.spots 0 fits in
        ap₂ (λ (m v : ℕ). spots_in (drop (1536 * m) few') v) e same ∙ slot-put few (1536 * i) k s.spots part room long (omega arith) ∙
        o.held.spots (omega (arith, o.held.sized, long)) ∙
        ap (λ (m : ℕ). spots (walk_table t (asked_by (range_at all m)))) (sym e))
        (λ (d : j ≡ i → ⊥).
        let other : get_or each' j 0 ≡ get_or each j 0 = get_or-set_other each i j s.spots 0 d in
        ap (spots_in (drop (1536 * j) few')) other ∙ slot-before few (1536 * i) k (get_or each j 0) part room (1536 * j) (omega arith) ∙
        g.held j (omega arith) (omega arith))
        (same_or_not j i)

    pub counting-next : Counting all t seen' few' each' (n + s.spots) (i + 1)
    counting-next =
        record {
          told = whole;
          found =
              ap₂ (λ (a b : ℕ). a + b) g.found o.spots ∙ sym (length-append (spots J') (spots R')) ∙
              sym (ap (λ (w : Walk). length (spots w)) more' ∙ ap length (both-spots J' R' both-whole));
          bounded = omega (arith, g.bounded, o.bounded);
          mapped = o.sized;
          marks =
              union-read (blocks_read J') (blocks_read R') g.marks o.marks bytes ∙ sym (ap read_map (ap blocks_read more' ∙ both-blocks J' R' both-whole));
          counts =
              take-push each i s.spots fits ∙ ap₂ (λ (l : List ℕ) (v : ℕ). l ++ (v ∷ [])) g.counts o.spots ∙ sym (counts-more t all i within);
          held = held_next;
        }

-- the loop ends where all are counted, or at the first that is broken
pub counted-broken : (b : Batch) (t : List ℕ) {seen few each : List ℕ} → is_broken (joined t (take b.n b.all)) ≡ true → AllCounted b t seen few each None
counted-broken b t h = record { told = sym (ap not h); spots = tt; bounded = tt; marks = tt; counts = tt; held = tt }

pub counting-all : (b : Batch) (t : List ℕ) {seen few each : List ℕ} {n i : ℕ} → b.n ≤ 64 → i ≡ b.n → Counting b.all t seen few each n i → AllCounted b t seen few each (Some n)
counting-all b t {seen} {few} {each} {n} many end g =
    let all : Counting b.all t seen few each n b.n = subst (Counting b.all t seen few each n) end g in
    record {
      told = sym (ap not all.told);
      spots = all.found;
      bounded = omega (arith, all.bounded);
      marks = all.marks;
      counts = all.counts;
      held = record { spots = all.held };
    }
