-- Spots handed out, and the Report of a list that rises, in whole numbers: the live spots of a table, or those of a list that was pressed.
-- Assumes nothing.
use mathlib.Core.Path.{◌≡◌, ap, ap₂, sym, ◌∙◌}
use mathlib.Core.Logic.{◌↔◌}
use mathlib.Core.Bool.{true, ◌&&◌}
use mathlib.Core.List.{List, ◌++◌, Memᴰ}
use Prim.Native.Nat.{ℕ, ◌*◌}
use lib.ListN.{length, drop}
use lib.IntN.{ℤ}
use lib.Signed.{le_z}
use Rattle.octets.specs.Lists.{keep, rising}
use Rattle.octets.proofs.Tests.{and_left, and_right, and_both, keep-mem, keep-there}
use Rattle.spot.specs.declared.Spot.{Spot}
use Rattle.spot.specs.Spots.{keys, spots_bytes, from_on}
use Rattle.spot.specs.Range.{of_range}
use Rattle.spot.specs.Query.{query, from_of, wants}
use Rattle.spot.proofs.Signed.{Fits, fits_signed}
use Rattle.spot.proofs.Orders.{report-wants}
use Rattle.spot.proofs.Canon.{keep-rises}
use Rattle.block.specs.declared.Answer.{Answer}
use Rattle.tree.specs.Walk.{Walk, spots, Finds, live_spots}
use Rattle.tree.specs.Sound.{sound}
use Rattle.tree.proofs.Tables.{live-rises}
use Rattle.table.specs.Answers.{unless_refused, spots_answer, output_left}
use Rattle.table.specs.Queries.{walk_answer, WalkPost}
use Rattle.demands.specs.Model.{PlainSpot, place_before, as_bytes}
use Rattle.demands.specs.Demands.{LiveSpot, OfPlaces, InOrder, report_before, ReportOf, HandedOut}
use Rattle.demands.proofs.Keyed.{singly}
use Rattle.demands.proofs.Plain.{to_key_spot, keyed, SpotFits, keyed-bytes}
use Rattle.demands.proofs.Histories.{output-refused}
use Rattle.demands.proofs.Alive.{plain, Small, keyed-plain, plain-length, plain-fit, plain-mem, mem-plain, rises-in-order, same-order, before-apart, alive-fits, lives-small, listed-live, live-listed}
use Rattle.demands.proofs.Onward.{from-on-mem, mem-from-on, report-apart, turned-small, turned-in-order}

-- ---- what is handed out

module _ (found : List Spot) (small : Small found) (out : List ℕ) (r : Answer) (out'' : List ℕ) where
  bytes : as_bytes (plain found) ≡ spots_bytes found
  bytes = keyed-bytes (plain found) (plain-fit found small) ∙ ap spots_bytes (keyed-plain found)

  pub handed-by : r ≡ spots_answer (length out) (length found) → out'' ≡ output_left r.number found out → HandedOut (plain found) out r out''
  unfolding output_left
  handed-by a o =
      record {
        answer = a ∙ ap (spots_answer (length out)) (sym (plain-length found));
        output = λ z.
            o ∙ ap (λ (m : ℕ). output_left m found out) z ∙
            ap₂ (λ (bs : List ℕ) (n : ℕ). bs ++ drop (12 * n) out) (sym bytes) (sym (plain-length found));
        refused = λ n. o ∙ output-refused r.number found out n;
      }

-- by a walk that finds these spots, where lengths and arguments refuse nothing
pub found-answered : (l : ℕ) (w : Walk) (found : List Spot) → Finds w found → (bytes : ℕ) (r : Answer) → l ≡ 0 → r ≡ unless_refused l (walk_answer bytes w)
    → r ≡ spots_answer bytes (length found)
unfolding unless_refused walk_answer
found-answered l w found whole bytes r lent a = a ∙ ap₂ (λ (n : ℕ) (v : Walk). unless_refused n (walk_answer bytes v)) lent whole.1

pub handed_out : (l : ℕ) (w : Walk) (found : List Spot) → Finds w found → Small found → (out map : List ℕ) (r : Answer) (out'' map' : List ℕ) → l ≡ 0
    → WalkPost l w out map r out'' map'
    → HandedOut (plain found) out r out''
handed_out l w found whole small out map r out'' map' lent p =
    handed-by found small out r out'' (found-answered l w found whole (length out) r lent p.answered)
    (p.output ∙ ap (λ (v : Walk). output_left r.number (spots v) out) whole.1)

-- ---- lists that rise

-- the spots that L speaks of are those of a list that rises
pub record Listed (ss : List Spot) (L : PlainSpot → Type 0) : Type 0 where
  pub rises : rising (keys ss) ≡ true
  pub small : Small ss
  pub each : (s : PlainSpot) → L s ↔ (SpotFits s × Memᴰ (to_key_spot s) ss)

pub live_table : (t : List ℕ) → sound t ≡ true → Listed (live_spots t) (LiveSpot t)
live_table t g =
    record {
      rises = live-rises t g;
      small = lives-small t g;
      each = λ s. (
        λ h. (alive-fits t s h, live-listed t g (to_key_spot s) h.there),
        λ m. record { place_fits = fits_signed s.place m.0.place; rank_fits = fits_signed s.rank m.0.rank; there = listed-live t g (to_key_spot s) m.1 },
      );
    }

listed_plain : (ss : List Spot) (L : PlainSpot → Type 0) → Listed ss L → (s : PlainSpot) → Memᴰ s (plain ss) ↔ L s
listed_plain ss L l s = (λ i. (l.each s).1 (plain-mem ss l.small s i), λ h. let m = (l.each s).0 h in mem-plain ss s m.0 m.1)

-- there is one such list
pub one_list : (xs ys : List Spot) (L : PlainSpot → Type 0) → Listed xs L → Listed ys L → xs ≡ ys
one_list xs ys L l m =
    sym (keyed-plain xs)
    ∙ ap keyed
    (same-order place_before SpotFits before-apart (plain xs) (plain ys) (rises-in-order xs l.small l.rises) (rises-in-order ys m.small m.rises)
    (λ s i. let h = (listed_plain xs L l s).0 i in ((listed_plain ys L m s).1 h, ((l.each s).0 h).0))
    (λ s i. (listed_plain xs L l s).1 ((listed_plain ys L m s).0 i)))
    ∙ keyed-plain ys

-- ---- its Report

module _ (ss : List Spot) (L : PlainSpot → Type 0) (l : Listed ss L) (x1 x2 y : ℤ) where
  kept : List Spot
  kept = keep (wants (query x1 x2 y)) ss

  found : List Spot
  found = from_on (from_of (query x1 x2 y)) kept

  kept-few : Small kept
  unfolding kept
  kept-few s i = l.small s (keep-mem (wants (query x1 x2 y)) ss i).0

  found-few : Small found
  unfolding found
  found-few = turned-small (from_of (query x1 x2 y)) kept kept-few

  pub singly-few : Small (singly x1 x2 y ss)
  unfolding kept found
  singly-few = found-few

  module _ (f1 : Fits x1) (f2 : Fits x2) (fy : Fits y) where
    asked : (s : PlainSpot) → SpotFits s → of_range x1 x2 s.place && le_z y s.rank ≡ wants (query x1 x2 y) (to_key_spot s)
    asked s f = report-wants x1 x2 f1 f2 s.place s.rank f.place f.rank y fy

    to : (s : PlainSpot) → Memᴰ s (plain found) → OfPlaces x1 x2 L s × (le_z y s.rank ≡ true)
    unfolding kept found
    to s i =
        let m = plain-mem found found-few s i in
        let k = keep-mem (wants (query x1 x2 y)) ss (from-on-mem (from_of (query x1 x2 y)) kept m.1) in
        let a = asked s m.0 ∙ k.1 in (
          record { alive = (l.each s).1 (m.0, k.0); of = and_left (of_range x1 x2 s.place) (le_z y s.rank) a },
          and_right (of_range x1 x2 s.place) (le_z y s.rank) a,
        )

    from : (s : PlainSpot) → OfPlaces x1 x2 L s × (le_z y s.rank ≡ true) → Memᴰ s (plain found)
    unfolding kept found
    from s h =
        let m = (l.each s).0 h.0.alive in
        let a = and_both (of_range x1 x2 s.place) (le_z y s.rank) h.0.of h.1 in
        mem-plain found s m.0 (mem-from-on (from_of (query x1 x2 y)) kept (keep-there (wants (query x1 x2 y)) ss m.1 (sym (asked s m.0) ∙ a)))

    in-turn : InOrder (report_before x1) (plain found)
    unfolding kept found
    in-turn = turned-in-order x1 x2 y f1 kept kept-few (keep-rises (wants (query x1 x2 y)) 0 ss l.rises)

    found-report : ReportOf x1 x2 y L (plain found)
    found-report = record { rise = in-turn; each = λ s. (to s, from s) }

    pub report-of : ReportOf x1 x2 y L (plain (singly x1 x2 y ss))
    unfolding kept found
    report-of = found-report

    is_found : (given : List PlainSpot) → ReportOf x1 x2 y L given → given ≡ plain found
    is_found given h =
        same-order (report_before x1) SpotFits (report-apart x1 x2 y f1) given (plain found) h.rise in-turn
        (λ s i. let p = (h.each s).0 i in (from s p, ((l.each s).0 p.0.alive).0))
        (λ s i. (h.each s).1 (to s i))

    -- the definition settles the list: one that leaves a spot out, gives one twice or in another order is no such report
    pub report-settled : (given other : List PlainSpot) → ReportOf x1 x2 y L given → ReportOf x1 x2 y L other → given ≡ other
    report-settled given other g h = is_found given g ∙ sym (is_found other h)
