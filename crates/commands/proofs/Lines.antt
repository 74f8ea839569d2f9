-- Lines of spots, one behind another.
-- Assumes nothing.
use mathlib.Core.Path.{◌≡◌, refl, sym, ap, ap₂, ◌∙◌}
use mathlib.Core.List.{List, [], ◌++◌, append-nil}
use Prim.Native.Nat.{ℕ, ◌+◌, ◌*◌, ◌≤◌}
use native.Mathlib.Omega.{arith}
use native.Mathlib.Numerals.{add-one}
use native.Mathlib.Nat.{add-zero}
use lib.IntN.{ℤ}
use lib.ListN.{length, take, drop, take-append-drop}
use Rattle.spot.specs.Keys.{place_of, rank_in}
use Rattle.spot.specs.Spots.{spot_at}
use Rattle.spot.specs.declared.Spot.{Spot}
use Rattle.text.specs.Text.{spot_line, count_line}
use Rattle.octets.specs.Bytes.{put_bytes}
use Rattle.text.specs.Written.{Wrote}
use Rattle.text.proofs.Written.{wrote_then, wrote-within}
use Rattle.commands.specs.Printed.{line_of, lines_of, printed}

-- nothing was written yet
pub start : (s o : List ℕ) (at : ℕ) → at ≤ length s → Wrote s s at (35 * 0) (lines_of o 0) at
unfolding put_bytes lines_of
start s o at h =
    record {
      bytes =
          sym
          (ap (λ (k : ℕ). take at s ++ [] ++ drop k s) (add-zero at)
          ∙ ap (λ (r : List ℕ). r ++ drop at s) (append-nil (take at s))
          ∙ take-append-drop at s);
      behind = omega arith;
      near = omega arith;
      inside = h;
      sized = refl;
    }

more : (o : List ℕ) (i : ℕ) → lines_of o i ++ line_of (spot_at o (12 * i)) ≡ lines_of o (i + 1)
unfolding lines_of
more o i = sym (ap (lines_of o) (add-one i))

line-is : {x y : ℤ} (z : Spot) (o : List ℕ) (i : ℕ) → x ≡ place_of z.key → y ≡ rank_in z.key → z ≡ spot_at o i
    → spot_line x y z.track ≡ line_of (spot_at o i)
unfolding line_of
line-is z o i ex ey ez = ap₂ (λ (a b : ℤ). spot_line a b z.track) ex ey ∙ ap line_of ez

-- and one line more
pub next : {s t u : List ℕ} {at p q : ℕ} {x y : ℤ} (z : Spot) (o : List ℕ) (i : ℕ)
    → Wrote s t at (35 * i) (lines_of o i) p
    → Wrote t u p 35 (spot_line x y z.track) q
    → x ≡ place_of z.key → y ≡ rank_in z.key → z ≡ spot_at o (12 * i)
    → Wrote s u at (35 * (i + 1)) (lines_of o (i + 1)) q
next z o i w v ex ey ez =
    let room : 35 * i + 35 ≤ 35 * (i + 1) = omega arith in
    wrote-within (35 * (i + 1)) (lines_of o (i + 1)) room
    (ap (λ (l : List ℕ). lines_of o i ++ l) (line-is z o (12 * i) ex ey ez) ∙ more o i)
    (wrote_then w v)

-- the number and the lines
pub all : {s t u : List ℕ} {p q : ℕ} (o : List ℕ) (n : ℕ) → Wrote s t 0 11 (count_line n) p → Wrote t u p (35 * n) (lines_of o n) q
    → Wrote s u 0 (11 + 35 * n) (printed o n) q
unfolding printed
all o n w v = wrote_then w v
