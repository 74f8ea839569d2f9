-- What pressing made is a tour of the spots that it was given, as long as its first four bytes say.
-- Assumes nothing.
use mathlib.Core.Path.{◌≡◌, refl, sym, ap, ap₂, subst, ◌∙◌}
use mathlib.Core.List.{List, ◌++◌}
use Prim.Native.Nat.{ℕ, suc, ◌*◌}
use native.Mathlib.Omega.{arith}
use lib.ListN.{length, take, drop}
use lib.Seq.{take_at}
use lib.IntN.{ℤ}
use Rattle.octets.specs.Bytes.{be}
use Rattle.octets.proofs.Bytes.{be-left, be-part}
use Rattle.spot.specs.declared.Spot.{Spot}
use Rattle.block.specs.declared.Answer.{Answer}
use Rattle.sweep.specs.Pressed.{Pressable, tiles, pressed}
use Rattle.sweep.specs.Laws.{SweepLaws}
use Rattle.sweep.proofs.Swept.{swept}
use Rattle.press.specs.Press.{spots_given, tour_left, PressPost}
use Rattle.press.proofs.Accepting.{accepted-spots}
use Rattle.catalogue.proofs.Entries.{front_length}
use Rattle.catalogue.proofs.Blocks.{few-tiles, length-pressed, first_block}
use Rattle.tour.specs.Tour.{TourPost}
use Rattle.tour.specs.Promises.{AreBytes, OnPressed, TourReports}
use Rattle.tour.proofs.HandsOut.{hands_out_lem}
use Rattle.tour.proofs.Second.{tour-second}
use Rattle.tour.proofs.Agreement.{agrees}
use Rattle.tour.proofs.Promises.{pressing}

module _ (s lent : List ℕ) (a : Answer) (lent' : List ℕ) (b : AreBytes s) (p : PressPost s lent a lent') (z : a.number ≡ 0) where
  abbrev ss : List Spot
  ss = spots_given s

  given : Pressable ss
  given = accepted-spots (length lent) s (sym (ap (λ (x : Answer). x.number) p.answered) ∙ z) b

  laws : SweepLaws ss
  laws = swept ss given

  long : length (pressed ss) ≡ 2048 * suc (length (tiles ss))
  long = length-pressed ss given laws

  written : lent' ≡ pressed ss ++ drop (length (pressed ss)) lent
  unfolding tour_left
  written = p.tour ∙ ap (λ (n : ℕ). tour_left n ss lent) z

  -- the length stands in the first four bytes
  told : be 4 lent' 0 ≡ length (pressed ss)
  told =
      ap (λ (l : List ℕ). be 4 l 0) written ∙ be-left 4 (pressed ss) (drop (length (pressed ss)) lent) 0 (omega (arith, long))
      ∙ sym (be-part 4 0 2048 (pressed ss) 0 (omega arith))
      ∙ ap (λ (l : List ℕ). be 4 l 0) (first_block ss given laws)
      ∙ front_length (tiles ss) (few-tiles ss given laws)
      ∙ sym long

  is-tour : take (be 4 lent' 0) lent' ≡ pressed ss
  is-tour = ap₂ take told written ∙ take_at (pressed ss) (drop (length (pressed ss)) lent) (length (pressed ss)) refl

  pub reports-pressed : (x1 x2 y : ℤ) (out map : List ℕ) (r : Answer) (out'' map' : List ℕ) → TourPost x1 x2 y (take (be 4 lent' 0) lent') out map r out'' map'
      → OnPressed ss x1 x2 y out map r out'' map'
  reports-pressed x1 x2 y out map r out'' map' q =
      pressing ss given laws x1 x2 y out map r out'' map' (subst (λ (t : List ℕ). TourPost x1 x2 y t out map r out'' map') is-tour q)

-- request 2026-03
pub tour-reports : TourReports
tour-reports = record { pressing = reports-pressed; agrees = agrees; hands_out = hands_out_lem; second = tour-second }
