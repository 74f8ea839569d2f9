-- Demand 1 of the calls that stand apart from the table, from their promises alone.
-- Assumes nothing.
use mathlib.Core.Path.{◌≡◌, refl, sym, subst, ◌∙◌}
use mathlib.Core.Bool.{Bool, true, false, cond, true≢false}
use mathlib.Core.List.{List, [], ◌∷◌}
use mathlib.Core.Option.{Option, none, some}
use Prim.Native.Nat.{ℕ, zero, suc, ◌/◌}
use lib.Dec.{eqb, leb, ltb}
use lib.ListN.{length}
use Rattle.octets.specs.Lists.{has}
use Rattle.spot.specs.Spots.{limited_from}
use Rattle.spot.specs.declared.Spot.{Spot}
use Rattle.block.specs.declared.Answer.{Answer}
use Rattle.block.specs.Answers.{answer}
use Rattle.block.specs.Table.{map_bytes}
use Rattle.message.specs.declared.Change.{Change}
use Rattle.message.specs.Changes.{all_limited, first_outside}
use Rattle.message.specs.Messages.{limits_answer, changes_answer, bytes_left}
use Rattle.tree.specs.Walk.{Walk, broken, walked, spots, blocks_read}
use Rattle.table.specs.Answers.{unless_refused, spots_answer}
use Rattle.table.specs.Queries.{walk_answer}
use Rattle.press.specs.Press.{count_given, spots_given, pressable, press_number, tour_left}
use Rattle.catalogue.specs.Catalogue.{tour_sized}
use Rattle.tour.specs.Tour.{tour_number, tour_report}
use Rattle.demands.specs.Demands.{refusals, Refused, Demand1Apart}
use Rattle.demands.proofs.Histories.{output-refused, map-refused}

-- an answer that turns a call down, if it is not 0
abbrev Down : List ℕ → List ℕ → Answer → Type 0
Down numbers told r = (r.number ≡ 0 → ⊥) → Refused numbers told r

module _ {numbers told : List ℕ} where
  accepts : (d : ℕ) → Down numbers told (answer 0 d)
  accepts d z = absurd (z refl)

  -- a number with detail 0, and one that is told with its detail
  plainly : (n : ℕ) → has n refusals ≡ true → has n numbers ≡ true → Down numbers told (answer n 0)
  plainly n h i z = record { number = h; own = i; detail = λ d. refl }

  tells : (n d : ℕ) → has n refusals ≡ true → has n numbers ≡ true → has n told ≡ true → Down numbers told (answer n d)
  tells n d h i t z = record { number = h; own = i; detail = λ f. absurd (true≢false (sym t ∙ f)) }

-- ---- the numbers of each

abbrev PressDown : Answer → Type 0
PressDown = Down (2 ∷ 7 ∷ 9 ∷ []) []

abbrev TourDown : Answer → Type 0
TourDown = Down (1 ∷ 2 ∷ 3 ∷ 5 ∷ []) (5 ∷ [])

abbrev MessageDown : Answer → Type 0
MessageDown = Down (8 ∷ 2 ∷ 9 ∷ []) (9 ∷ [])

press-down : (bytes : ℕ) (s : List ℕ) → PressDown (answer (press_number bytes s) 0)
unfolding press_number
press-down bytes s = go (leb 32768 bytes) (pressable s) (limited_from s 12 (count_given s) 0)
  where
    go : (a b c : Bool) → PressDown (answer (cond a (cond b (cond c 0 9) 7) 2) 0)
    go true true true = accepts 0
    go true true false = plainly 9 refl refl
    go true false c = plainly 7 refl refl
    go false b c = plainly 2 refl refl

spots-down : (bytes n : ℕ) → TourDown (spots_answer bytes n)
unfolding spots_answer
spots-down bytes n = go (ltb (bytes / 12) n)
  where
    go : (b : Bool) → TourDown (record { number = cond b 5 0; detail = n })
    go true = tells 5 n refl refl refl
    go false = accepts n

walk-down : (bytes : ℕ) (w : Walk) → TourDown (walk_answer bytes w)
unfolding walk_answer
walk-down bytes broken = plainly 3 refl refl
walk-down bytes (walked found blocks) = spots-down bytes (length found)

tour-down : (bytes map : ℕ) (out : ℕ) (w : Walk) → TourDown (unless_refused (tour_number bytes map) (walk_answer out w))
unfolding tour_number unless_refused
tour-down bytes map out w = go (tour_sized bytes) (eqb map map_bytes)
  where
    go : (a b : Bool) → TourDown (unless_refused (cond a (cond b 0 2) 1) (walk_answer out w))
    go true true = walk-down out w
    go true false = plainly 2 refl refl
    go false b = plainly 1 refl refl

changes-down : (room : List Change → Bool) (o : Option (List Change)) → MessageDown (changes_answer room o)
unfolding changes_answer limits_answer
changes-down room none = plainly 8 refl refl
changes-down room (some cs) = go (room cs) (all_limited cs)
  where
    go : (a b : Bool) → MessageDown (cond a (cond b (answer 0 0) (answer 9 (first_outside cs))) (answer 2 0))
    go true true = accepts 0
    go true false = tells 9 (first_outside cs) refl refl refl
    go false b = plainly 2 refl refl

counted-down : (bytes ones : ℕ) → Down (2 ∷ []) [] (cond (eqb bytes map_bytes) (answer 0 ones) (answer 2 0))
counted-down bytes ones = go (eqb bytes map_bytes)
  where
    go : (a : Bool) → Down (2 ∷ []) [] (cond a (answer 0 ones) (answer 2 0))
    go true = accepts ones
    go false = plainly 2 refl refl

-- ---- what is lent

tour-kept : (n : ℕ) (ss : List Spot) (lent : List ℕ) → (n ≡ 0 → ⊥) → tour_left n ss lent ≡ lent
unfolding tour_left
tour-kept zero ss lent z = absurd (z refl)
tour-kept (suc n) ss lent z = refl

bytes-kept : (n : ℕ) (bytes lent : List ℕ) → (n ≡ 0 → ⊥) → bytes_left n bytes lent ≡ lent
unfolding bytes_left
bytes-kept zero bytes lent z = absurd (z refl)
bytes-kept (suc n) bytes lent z = refl

pub demand1-apart : Demand1Apart
demand1-apart =
    record {
      presses = λ s lent r lent' p z. (
        subst PressDown (sym p.answered) (press-down (length lent) s) z,
        p.tour ∙ tour-kept r.number (spots_given s) lent z,
      );
      tours = λ x1 x2 y t out map r out'' map' p z. (
        subst TourDown (sym p.answered) (tour-down (length t) (length map) (length out) (tour_report t x1 x2 y)) z,
        p.output ∙ output-refused r.number (spots (tour_report t x1 x2 y)) out z,
        p.marks ∙ map-refused r.number (blocks_read (tour_report t x1 x2 y)) map z,
      );
      writes = λ s lent r lent' p z. (
        subst MessageDown (sym p.answered) (changes-down _ _) z,
        p.message ∙ bytes-kept r.number _ lent z,
      );
      reads = λ m lent r lent' p z. (
        subst MessageDown (sym p.answered) (changes-down _ _) z,
        p.changes ∙ bytes-kept r.number _ lent z,
      );
      counted = λ map r p z. subst (Down (2 ∷ []) []) (sym p.answered) (counted-down (length map) _) z;
    }
