-- Spots in the parts of a buffer.
-- Assumes nothing.
use mathlib.Core.Path.{◌≡◌, ap, sym, ◌∙◌}
use mathlib.Core.List.{List, ◌++◌}
use Prim.Native.Nat.{ℕ, ◌+◌, ◌*◌, ◌≤◌, ◌<◌}
use native.Mathlib.Omega.{arith}
use lib.ListN.{length, get_or, take, drop, get_or-append}
use lib.Seq.{length-take-le, get_or-take, get_or-drop, get_or-append-add}
use borrow.Rule.Slice.PartMut.{mid_of, post_of, put_mid}
use Rattle.octets.proofs.Order.{stride}
use Rattle.octets.proofs.Records.{records-cong}
use Rattle.spot.specs.Spots.{spot_at, spots_in}
use Rattle.spot.proofs.Card.{spot-cong}

-- n spots that begin at a are those that begin at 0 elsewhere, if the bytes are the same
spots-at : (s u : List ℕ) (a n : ℕ) → ((x : ℕ) → x < 12 * n → get_or s (a + x) 0 ≡ get_or u x 0) → spots_in (drop a s) n ≡ spots_in u n
spots-at s u a n h =
    records-cong (spot_at (drop a s)) (spot_at u) 12 n 0 0
    (λ i l. spot-cong (drop a s) u (0 + 12 * i) (0 + 12 * i) (λ k m. get_or-drop a s (0 + 12 * i + k) 0 ∙ h (0 + 12 * i + k) (omega (arith, stride 12 l))))

module _ (few : List ℕ) (a k n : ℕ) where
  -- in a part of k bytes
  pub slot-part : 12 * n ≤ k → spots_in (mid_of a k few) n ≡ spots_in (drop a few) n
  slot-part fits = sym (spots-at few (mid_of a k few) a n (λ x l. sym (get_or-take k (drop a few) x 0 (omega arith) ∙ get_or-drop a few x 0)))

  -- in one that is written
  module _ (part : List ℕ) (room : a + k ≤ length few) where
    front : length (take a few) ≡ a
    front = length-take-le a few (omega arith)

    pub slot-put : length part ≡ k → 12 * n ≤ k → spots_in (drop a (put_mid a k few part)) n ≡ spots_in part n
    slot-put long fits =
        spots-at (put_mid a k few part) part a n
        (λ x l.
        ap (λ (j : ℕ). get_or (put_mid a k few part) (j + x) 0) (sym front) ∙ get_or-append-add (take a few) (part ++ post_of a k few) x 0 ∙
        get_or-append part (post_of a k few) 0 x (omega arith))

    -- and before one that is written
    pub slot-before : (j : ℕ) → j + 12 * n ≤ a → spots_in (drop j (put_mid a k few part)) n ≡ spots_in (drop j few) n
    slot-before j h =
        spots-at (put_mid a k few part) (drop j few) j n
        (λ x l.
        get_or-append (take a few) (part ++ post_of a k few) 0 (j + x) (omega (arith, front)) ∙ get_or-take a few (j + x) 0 (omega arith) ∙
        sym (get_or-drop j few x 0))
