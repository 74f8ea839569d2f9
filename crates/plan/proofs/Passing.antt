-- What `pass` leaves is the sweep's state after the passing.
-- Assumes nothing.
use mathlib.Core.Path.{◌≡◌, sym, ap, ap₂, subst, ◌∙◌}
use mathlib.Core.Logic.{⊎_elim}
use mathlib.Core.Bool.{false}
use mathlib.Core.List.{List, [], ◌++◌, append-nil}
use Prim.Native.Nat.{ℕ, suc, ◌+◌, ◌≤◌, ◌<◌}
use native.Mathlib.Numerals.{add-one}
use native.Mathlib.Omega.{arith}
use lib.Dec.{eqb}
use lib.ListN.{length, get_or}
use borrow.Author.Tests.{eq-eqb, ne_eqb}
use Rattle.octets.proofs.Order.{less-or-not}
use Rattle.spot.specs.Keys.{all_keys, rank_key}
use Rattle.spot.specs.declared.Spot.{Spot}
use Rattle.sweep.specs.Sweep.{StandingBlock, Fusion, left, ripe}
use Rattle.plan.specs.Plans.{piece_spots, piece_at, piece_left, left_at, PieceFits, PassedRank}
use Rattle.plan.specs.declared.Piece.{Piece}
use Rattle.plan.specs.declared.Plan.{Plan}
use Rattle.plan.proofs.Standings.{stand_of, OneFusion, fusion-here, fusion-none}
use Rattle.plan.proofs.Sweeping.{stands_in, Sweeping, Passing, order-made, stood-length, stood-at}
use Rattle.plan.proofs.Fusing.{fused-passing}

-- no more than floors rise
raised : (ss : List Spot) (floor g : ℕ) (fs : List Fusion) (p : Plan) → floor ≤ g → Sweeping ss floor fs p → Sweeping ss g fs p
raised ss floor g fs p h w =
    record {
      count = w.count;
      stands = w.stands;
      some = w.some;
      sized = w.sized;
      room = w.room;
      blocks = w.blocks;
      ended = w.ended;
      fresh = w.fresh;
      low = λ i l. omega (arith, w.low i l);
      fits = w.fits;
      made = w.made;
      whole = w.whole;
      once = w.once;
      runs = w.runs;
    }

-- what is counted of a piece is what the passing of p leaves of it
abbrev pub Counted : List ℕ → List Spot → ℕ → Type 0
Counted s ss p = (x : Piece) → x.floor ≤ rank_key p + 1 → PieceFits ss x → length (left p (piece_spots ss x)) ≡ piece_left s x (rank_key p + 1)

module _ (s : List ℕ) (ss : List Spot) (few : length ss ≤ 512) (p floor : ℕ) (fs : List Fusion) (pl : Plan) (w : Sweeping ss floor fs pl) (small : p < all_keys)
    (up : floor ≤ rank_key p + 1) (counted : Counted s ss p) where
  left-at : (j : ℕ) → j < pl.stands → length (left p (piece_spots ss (piece_at pl j))) ≡ piece_left s (piece_at pl j) (rank_key p + 1)
  left-at j h =
      let m = order-made ss few floor fs pl w j h in
      counted (piece_at pl j) (omega (arith, w.low (get_or pl.order j 0) m)) (w.fits (get_or pl.order j 0) m)

  sum-at : (j : ℕ) → j + 1 < pl.stands
      → length (left p (piece_spots ss (piece_at pl j))) + length (left p (piece_spots ss (piece_at pl (j + 1)))) ≡ left_at s pl (rank_key p + 1) j
  sum-at j h = ap₂ (λ (x y : ℕ). x + y) (left-at j (omega arith)) (left-at (j + 1) h)

  -- a standing block past the last
  abbrev d : StandingBlock
  d = record { number = 0; spots = [] }

  next-at : (j : ℕ) → j + 1 < pl.stands → get_or (stands_in ss pl) (suc j) d ≡ stand_of ss pl.pieces (get_or pl.order (j + 1) 0)
  next-at j h = ap (λ (k : ℕ). get_or (stands_in ss pl) k d) (sym (add-one j)) ∙ stood-at ss few floor fs pl w (j + 1) d h

  ripe-is : (j : ℕ) → j + 1 < pl.stands → ripe p (get_or (stands_in ss pl) j d) (get_or (stands_in ss pl) (suc j) d) ≡ eqb (left_at s pl (rank_key p + 1) j) 64
  unfolding ripe
  ripe-is j h = ap₂ (ripe p) (stood-at ss few floor fs pl w j d (omega arith)) (next-at j h) ∙ ap (λ (x : ℕ). eqb x 64) (sum-at j h)

  module _ (q : Plan) (v : PassedRank s pl (rank_key p) q) where
    unripe : (j : ℕ) → j < v.at → j + 1 < pl.stands → ripe p (get_or (stands_in ss pl) j d) (get_or (stands_in ss pl) (suc j) d) ≡ false
    unripe j l h = ripe-is j h ∙ ne_eqb (left_at s pl (rank_key p + 1) j) 64 (v.ripe.before j l h)

    one : v.at + 1 < pl.stands
        → OneFusion p (suc pl.count) (stands_in ss pl) v.at (stand_of ss pl.pieces (get_or pl.order v.at 0)) (stand_of ss pl.pieces (get_or pl.order (v.at + 1) 0))
    one h =
        let st = stands_in ss pl in
        let e = stood-at ss few floor fs pl w v.at d (omega arith) in
        let f = fusion-here p (suc pl.count) st v.at d (omega (arith, stood-length ss few floor fs pl w))
        (ripe-is v.at h ∙ eq-eqb (left_at s pl (rank_key p + 1) v.at) 64 (v.ripe.here h))
        (λ j l. unripe j l (omega arith)) in
        subst (λ (y : StandingBlock). OneFusion p (suc pl.count) st v.at (stand_of ss pl.pieces (get_or pl.order v.at 0)) y) (next-at v.at h)
        (subst (λ (x : StandingBlock). OneFusion p (suc pl.count) st v.at x (get_or st (suc v.at) d)) e f)

    idle : pl.stands ≤ v.at + 1 → Passing ss p (rank_key p + 1) fs pl pl
    idle h =
        let n = fusion-none p (suc pl.count) (stands_in ss pl) d
        (λ j l. unripe j (omega (arith, stood-length ss few floor fs pl w)) (omega (arith, stood-length ss few floor fs pl w))) in
        record {
          state =
              subst (λ (l : List Fusion). Sweeping ss (rank_key p + 1) l pl) (sym (ap (λ (l : List Fusion). fs ++ l) n.0 ∙ append-nil fs))
              (raised ss floor (rank_key p + 1) fs pl up w);
          stood = sym n.1;
          next = let e : pl.count ≡ pl.count + 0 = omega arith in e ∙ ap (λ (l : List Fusion). pl.count + length l) (sym n.0);
        }

    pub passing : Passing ss p (rank_key p + 1) fs pl q
    passing =
        ⊎_elim (λ (h : pl.stands ≤ v.at + 1). subst (Passing ss p (rank_key p + 1) fs pl) (sym (v.same h)) (idle h))
        (λ (h : v.at + 1 < pl.stands).
        fused-passing ss few p floor fs pl q w v.at small up h (v.fused h) (sum-at v.at h ∙ v.ripe.here h) (one h))
        (less-or-not pl.stands (v.at + 1))
