-- What pressing answers and leaves, for all lists of bytes and all tours lent.
-- Assumes nothing.
use Rattle.std.specs.Prelude.{◌≡◌, ℕ, zero, suc, ◌*◌, ◌/◌, ◌%◌, ◌≤◌, Bool, cond, List, [], ◌∷◌, ◌++◌, length, drop, leb, eqb}
use Rattle.octets.specs.Lists.{all, rising}
use Rattle.spot.specs.Spots.{spots_in, keys_from, limited_from}
use Rattle.spot.specs.declared.Spot.{Spot}
use Rattle.block.specs.declared.Answer.{Answer}
use Rattle.block.specs.Answers.{answer}
use Rattle.sweep.specs.Pressed.{pressed}

-- the whole spots of a list of bytes, 12 bytes each as on the card
abbrev pub count_given : List ℕ → ℕ
count_given s = length s / 12

abbrev pub spots_given : List ℕ → List Spot
spots_given s = spots_in s (count_given s)

-- "Pressing refuses with 7 .. if there are over 512 spots, the last is cut short, or the identities don't strictly rise"
unfoldable pub pressable : List ℕ → Bool
pressable s = all (leb (count_given s) 512 ∷ eqb (length s % 12) 0 ∷ rising (keys_from s 12 (count_given s) 0) ∷ [])

-- "Pressing needs at least 32,768 lent bytes, else 2"; "It refuses with 9 an addition, withdrawal or spot to be pressed outside the limits, before 3 and after
-- all others that come before 3"
unfoldable pub press_number : ℕ → List ℕ → ℕ
press_number bytes s = cond (leb 32768 bytes) (cond (pressable s) (cond (limited_from s 12 (count_given s) 0) 0 9) 7) 2

-- the tour from the front on, "and leaves those after the tour unchanged"; all of them after a refusal
unfoldable pub tour_left : ℕ → List Spot → List ℕ → List ℕ
tour_left zero ss tour = pressed ss ++ drop (length (pressed ss)) tour
tour_left (suc n) ss tour = tour

-- "6 and every later number .. have detail 0 and all lent bytes unchanged"
pub record PressPost (s lent : List ℕ) (r : Answer) (lent' : List ℕ) : Type 0 where
  pub answered : r ≡ answer (press_number (length lent) s) 0
  pub tour : lent' ≡ tour_left r.number (spots_given s) lent
  -- "at most 16 blocks"
  pub short : r.number ≡ 0 → length (pressed (spots_given s)) ≤ 16 * 2048
