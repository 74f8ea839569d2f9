-- Places inside the limits: of a list with one change, and of bytes where a spot is as it was.
-- Assumes nothing.
use mathlib.Core.Path.{◌≡◌, refl, ap, ◌∙◌}
use mathlib.Core.Bool.{true, not}
use mathlib.Core.List.{List, [], ◌∷◌}
use Prim.Native.Nat.{ℕ, ◌+◌, ◌*◌, ◌<◌}
use native.Mathlib.Omega.{arith}
use lib.Dec.{eqb}
use Rattle.octets.specs.Lists.{every}
use Rattle.octets.proofs.Tests.{and_both}
use Rattle.spot.specs.Keys.{limited}
use Rattle.spot.specs.Spots.{keys, put, without, key_at, spot_at, limited_from}
use Rattle.spot.specs.declared.Spot.{Spot}
use Rattle.spot.proofs.Buffers.{keep-every}
use Rattle.spot.proofs.Limits.{limited-each}
use Rattle.tree.proofs.Limited.{put_all-limited}

pub without-limited : (k : ℕ) (ss : List Spot) → every limited (keys ss) ≡ true → every limited (keys (without k ss)) ≡ true
unfolding without
without-limited k ss h = keep-every (λ (s : Spot). not (eqb s.key k)) limited ss h

pub replaced-limited : (s : Spot) (ss : List Spot) → limited s.key ≡ true → every limited (keys ss) ≡ true → every limited (keys (put s (without s.key ss))) ≡ true
replaced-limited s ss g h = put_all-limited (s ∷ []) (without s.key ss) (and_both (limited s.key) true g refl) (without-limited s.key ss h)

-- a spot that is as it was
pub same-limited : (list₀ list : List ℕ) (n i : ℕ) → limited_from list₀ 12 n 0 ≡ true → i < n → spot_at list (12 * i) ≡ spot_at list₀ (12 * i) → limited (key_at list (12 * i)) ≡ true
unfolding spot_at
same-limited list₀ list n i h l e =
    let g : 12 * i ≡ 0 + 12 * i = omega arith in
    ap (λ (x : Spot). limited x.key) e ∙ ap (λ (j : ℕ). limited (key_at list₀ j)) g ∙ limited-each list₀ 12 n 0 h i l
