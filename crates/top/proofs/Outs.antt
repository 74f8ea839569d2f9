-- The output: a spot more is written, if there is room.
-- Assumes nothing.
use mathlib.Core.Path.{◌≡◌, ap, ap₂, sym, ◌∙◌}
use mathlib.Core.Logic.{⊎_elim}
use mathlib.Core.Bool.{Bool, cond}
use mathlib.Core.List.{List, [], ◌∷◌, ◌++◌, append-nil}
use Prim.Native.Nat.{ℕ, ◌+◌, ◌-◌, ◌*◌, ◌≤◌, ◌<◌}
use native.Mathlib.Omega.{arith}
use lib.ListN.{length, take, drop, length-append, length-drop, length-take}
use lib.Seq.{take_all, take-append-le, take_at, drop-drop, drop-append-add}
use lib.Dec.{ltb}
use borrow.Author.Tests.{lt-ltb, le-ltb}
use Rattle.octets.proofs.Order.{less-or-not}
use Rattle.spot.specs.Spots.{spot_bytes, spots_bytes, put_spot}
use Rattle.spot.specs.declared.Spot.{Spot}
use Rattle.spot.proofs.Card.{put_spot-eq}
use Rattle.spot.proofs.Stored.{spots_bytes-append, length-spots_bytes}
use Rattle.top.specs.Runs.{written}

module _ (room : ℕ) (given : List Spot) (s : Spot) (base : List ℕ) (j : ℕ) (e : j ≡ length given) (fits : 12 * room ≤ length base) where
  abbrev bytes : List ℕ
  bytes = spots_bytes given

  all_in : j < room → written room given base ≡ bytes ++ drop (12 * j) base
  all_in l =
      ap (λ (ss : List Spot). spots_bytes ss ++ drop (12 * length ss) base) (take_all room given (omega arith)) ∙ ap (λ (n : ℕ). bytes ++ drop (12 * n) base) (sym e)

  more-in : j < room → written room (given ++ (s ∷ [])) base ≡ (bytes ++ spot_bytes s) ++ drop (12 * j + 12) base
  more-in l =
      let n : length (given ++ (s ∷ [])) ≡ j + 1 = omega (arith, length-append given (s ∷ [])) in
      let m : 12 * (j + 1) ≡ 12 * j + 12 = omega arith in
      ap (λ (ss : List Spot). spots_bytes ss ++ drop (12 * length ss) base) (take_all room (given ++ (s ∷ [])) (omega arith))
      ∙ ap₂ (λ (bs : List ℕ) (i : ℕ). bs ++ drop (12 * i) base) (spots_bytes-append given (s ∷ []) ∙ ap (λ (bs : List ℕ). bytes ++ bs) (append-nil (spot_bytes s))) n
      ∙ ap (λ (i : ℕ). (bytes ++ spot_bytes s) ++ drop i base) m

  put_in : j < room → put_spot (bytes ++ drop (12 * j) base) (12 * j) s ≡ (bytes ++ spot_bytes s) ++ drop (12 * j + 12) base
  put_in l =
      let n : length bytes ≡ 12 * j = omega (arith, length-spots_bytes given) in
      put_spot-eq (bytes ++ drop (12 * j) base) (12 * j) s (omega (arith, length-append bytes (drop (12 * j) base), length-drop (12 * j) base))
      ∙ ap₂ (λ (x y : List ℕ). (x ++ spot_bytes s) ++ y) (take_at bytes (drop (12 * j) base) (12 * j) n)
      (ap (λ (i : ℕ). drop (i + 12) (bytes ++ drop (12 * j) base)) (sym n) ∙ drop-append-add bytes (drop (12 * j) base) 12 ∙ drop-drop 12 (12 * j) base)

  pub written-more : cond (ltb j room) (put_spot (written room given base) (12 * j) s) (written room given base) ≡ written room (given ++ (s ∷ [])) base
  written-more =
      ⊎_elim
      (λ (l : room ≤ j).
      ap (λ (b : Bool). cond b (put_spot (written room given base) (12 * j) s) (written room given base)) (le-ltb j room l)
      ∙ ap (λ (ss : List Spot). spots_bytes ss ++ drop (12 * length ss) base) (sym (take-append-le room given (s ∷ []) (omega arith))))
      (λ (l : j < room).
      ap (λ (b : Bool). cond b (put_spot (written room given base) (12 * j) s) (written room given base)) (lt-ltb j room l)
      ∙ ap (λ (w : List ℕ). put_spot w (12 * j) s) (all_in l) ∙ put_in l ∙ sym (more-in l))
      (less-or-not room j)

-- at first nothing is written
pub written_none : (room : ℕ) (base : List ℕ) → base ≡ written room [] base
written_none room base = sym (ap (λ (ss : List Spot). spots_bytes ss ++ drop (12 * length ss) base) (take_all room [] (omega arith)))

-- nothing is written behind the room
pub written_behind : (room : ℕ) (given : List Spot) (base : List ℕ) → drop (12 * room) (written room given base) ≡ drop (12 * room) base
written_behind room given base =
    let m = length (take room given) in
    let l : m ≤ room = omega (arith, length-take room given) in
    let e : 12 * room ≡ 12 * m + (12 * room - 12 * m) = omega arith in
    let n : length (spots_bytes (take room given)) ≡ 12 * m = length-spots_bytes (take room given) in
    ap (λ (i : ℕ). drop i (written room given base)) (e ∙ ap (λ (i : ℕ). i + (12 * room - 12 * m)) (sym n))
    ∙ drop-append-add (spots_bytes (take room given)) (drop (12 * m) base) (12 * room - 12 * m)
    ∙ drop-drop (12 * room - 12 * m) (12 * m) base
    ∙ ap (λ (i : ℕ). drop i base) (sym e)
