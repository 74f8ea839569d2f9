-- Stretches of spots: two that touch are one, those above a key are those from the next rank key on, and they are what is read off the bytes.
-- Assumes nothing.
use mathlib.Core.Path.{◌≡◌, refl, sym, ap, ap₂, ◌∙◌}
use mathlib.Core.Logic.{⊎_elim}
use mathlib.Core.Bool.{Bool, true, false, ◌&&◌}
use mathlib.Core.List.{List, ◌++◌}
use Prim.Native.Nat.{ℕ, ◌+◌, ◌-◌, ◌*◌, ◌≤◌, ◌<◌}
use native.Mathlib.Omega.{arith}
use lib.ListN.{length, take, drop}
use lib.Seq.{take-add, drop-drop, take_at, drop_at}
use borrow.Author.Tests.{le-leb, lt-leb, lt-ltb, le-ltb}
use Rattle.octets.specs.Lists.{records}
use Rattle.octets.proofs.Order.{less-or-not}
use Rattle.octets.proofs.Tests.{keep_append, keep-keep, keep_all, every-make}
use Rattle.octets.proofs.Records.{length-records, records-append}
use Rattle.spot.specs.Keys.{rank_key}
use Rattle.spot.specs.Spots.{spot_at, spots_from, spots_in}
use Rattle.spot.specs.Sorted.{only}
use Rattle.spot.specs.declared.Spot.{Spot}
use Rattle.sweep.specs.Sweep.{above_passed, left}
use Rattle.plan.specs.Plans.{over, stretch, piece_spots, piece_left}
use Rattle.plan.specs.declared.Piece.{Piece}

-- two stretches that touch are one
pub stretch-join : (ss : List Spot) (a m e : ℕ) → a ≤ m → m ≤ e → stretch ss a m ++ stretch ss m e ≡ stretch ss a e
stretch-join ss a m e h k =
    let x : a + (m - a) ≡ m = omega arith in
    let y : e - a ≡ m - a + (e - m) = omega arith in
    ap (λ (l : List Spot). stretch ss a m ++ take (e - m) l) (ap (λ (i : ℕ). drop i ss) (sym x) ∙ sym (drop-drop (m - a) a ss))
    ∙ sym (take-add (m - a) (e - m) (drop a ss))
    ∙ ap (λ (i : ℕ). take i (drop a ss)) (sym y)

-- a place block takes all
pub over-all : (xs : List Spot) → only (over 0) xs ≡ xs
over-all xs = keep_all (λ (s : Spot). over 0 s.key) xs (every-make (λ (s : Spot). over 0 s.key) xs (λ s i. le-leb 0 (rank_key s.key) (omega arith)))

-- what is above p of what takes rank keys from f on
above-over : (p f : ℕ) → f ≤ rank_key p + 1 → (k : ℕ) → over (rank_key p + 1) k ≡ over f k && above_passed p k
above-over p f h k =
    ⊎_elim
    (λ (a : rank_key p + 1 ≤ rank_key k).
    rw (le-leb (rank_key p + 1) (rank_key k) a, le-leb f (rank_key k) (omega arith), lt-ltb (rank_key p) (rank_key k) (omega arith)) refl)
    (λ (a : rank_key k < rank_key p + 1). rw (lt-leb (rank_key p + 1) (rank_key k) a, le-ltb (rank_key p) (rank_key k) (omega arith)) (none (over f k)))
    (less-or-not (rank_key p + 1) (rank_key k))
  where
    none : (b : Bool) → false ≡ b && false
    none true = refl
    none false = refl

pub left_over : (p f : ℕ) (xs : List Spot) → f ≤ rank_key p + 1 → left p (only (over f) xs) ≡ only (over (rank_key p + 1)) xs
left_over p f xs h =
    sym
    (keep-keep (λ (s : Spot). over f s.key) (λ (s : Spot). above_passed p s.key) (λ (s : Spot). over (rank_key p + 1) s.key)
    (λ s. above-over p f h s.key) xs)

-- what is left of two pieces that touch
pub left_join : (ss : List Spot) (p : ℕ) (a b : Piece) → a.floor ≤ rank_key p + 1 → b.floor ≤ rank_key p + 1 → a.from ≤ a.to → b.from ≤ b.to → a.to ≡ b.from
    → left p (piece_spots ss a ++ piece_spots ss b) ≡ only (over (rank_key p + 1)) (stretch ss a.from b.to)
left_join ss p a b f g h k e =
    keep_append (λ (s : Spot). above_passed p s.key) (piece_spots ss a) (piece_spots ss b)
    ∙ ap₂ (λ (x y : List Spot). x ++ y) (left_over p a.floor (stretch ss a.from a.to) f) (left_over p b.floor (stretch ss b.from b.to) g)
    ∙ sym (keep_append (λ (s : Spot). over (rank_key p + 1) s.key) (stretch ss a.from a.to) (stretch ss b.from b.to))
    ∙ ap (only (over (rank_key p + 1)))
    (ap (λ (m : ℕ). stretch ss a.from a.to ++ stretch ss m b.to) (sym e) ∙ stretch-join ss a.from a.to b.to h (rw e k))

-- ---- read off the bytes

module _ (s : List ℕ) where
  drop-spots : (n a : ℕ) → a ≤ n → drop a (spots_in s n) ≡ spots_from s a (n - a)
  drop-spots n a h =
      let e : n ≡ a + (n - a) = omega arith in
      let z : 0 + 12 * a ≡ 12 * a = omega arith in
      ap (λ (k : ℕ). drop a (spots_in s k)) e
      ∙ ap (drop a) (records-append (spot_at s) 12 a (n - a) 0)
      ∙ drop_at (records (spot_at s) 12 a 0) (records (spot_at s) 12 (n - a) (0 + 12 * a)) a (length-records (spot_at s) 12 a 0)
      ∙ ap (records (spot_at s) 12 (n - a)) z

  take-spots : (n m i : ℕ) → m ≤ n → take m (spots_from s i n) ≡ spots_from s i m
  take-spots n m i h =
      let e : n ≡ m + (n - m) = omega arith in
      ap (λ (k : ℕ). take m (spots_from s i k)) e
      ∙ ap (take m) (records-append (spot_at s) 12 m (n - m) (12 * i))
      ∙ take_at (records (spot_at s) 12 m (12 * i)) (records (spot_at s) 12 (n - m) (12 * i + 12 * m)) m (length-records (spot_at s) 12 m (12 * i))

  stretch-read : (n a e : ℕ) → a ≤ e → e ≤ n → stretch (spots_in s n) a e ≡ spots_from s a (e - a)
  stretch-read n a e h k = ap (take (e - a)) (drop-spots n a (omega arith)) ∙ take-spots (n - a) (e - a) a (omega arith)

  -- what is counted of a piece is what the passing of p leaves of it
  pub left-of : (n p : ℕ) (x : Piece) → x.floor ≤ rank_key p + 1 → x.from ≤ x.to → x.to ≤ n
      → length (left p (piece_spots (spots_in s n) x)) ≡ piece_left s x (rank_key p + 1)
  unfolding piece_left
  left-of n p x f h k =
      ap length
      (left_over p x.floor (stretch (spots_in s n) x.from x.to) f ∙ ap (only (over (rank_key p + 1))) (stretch-read n x.from x.to h k))
