-- What `start` leaves is the sweep's state before the first passing.
-- Assumes nothing.
use mathlib.Core.Path.{◌≡◌, refl, sym, ap, ap₂, subst, ◌∙◌}
use mathlib.Core.Logic.{⊎_elim}
use mathlib.Core.List.{List, [], ◌∷◌, ◌++◌, append-nil, Memᴰ}
use Prim.Native.Nat.{ℕ, zero, suc, ◌+◌, ◌-◌, ◌*◌, ◌≤◌, ◌<◌, min}
use native.Mathlib.Nat.{min-eq_left, min-eq_right}
use native.Mathlib.Omega.{arith}
use lib.ListN.{length, take, drop, get_or, length-take, length-drop}
use lib.Seq.{drop-cons, drop-drop, take_all}
use Rattle.octets.specs.Lists.{up_to}
use Rattle.octets.proofs.Order.{less-or-not}
use Rattle.octets.proofs.Lists.{mem-same}
use Rattle.octets.proofs.Once.{Once}
use Rattle.octets.proofs.UpTo.{up_to-from, up_to-once}
use Rattle.spot.specs.declared.Spot.{Spot}
use Rattle.sweep.specs.Sweep.{StandingBlock, cut, cuts_for, numbered, at_first}
use Rattle.plan.specs.Plans.{stretch, piece_spots, made_by, no_piece, place_piece, PieceFits, Started}
use Rattle.plan.specs.declared.Piece.{Piece}
use Rattle.plan.specs.declared.Plan.{Plan}
use Rattle.plan.proofs.Stretches.{over-all}
use Rattle.plan.proofs.Blocks.{Block, blocks_from, place_blocks}
use Rattle.plan.proofs.Standings.{stands_of}
use Rattle.plan.proofs.Neighbours.{Runs}
use Rattle.plan.proofs.Sweeping.{order_of, stands_in, Sweeping, cuts-few}

-- ---- a place block

place_inside : (n i : ℕ) → i < cuts_for n → 64 * i < n
unfolding cuts_for
place_inside n i h = omega arith

module _ (ss : List Spot) where
  abbrev n : ℕ
  n = length ss

  place-spots : (i : ℕ) → piece_spots ss (place_piece n i) ≡ take 64 (drop (64 * i) ss)
  place-spots i =
      over-all (stretch ss (64 * i) (min (64 * i + 64) n))
      ∙ ⊎_elim
      (λ (h : 64 * i + 64 ≤ n).
      let e : min (64 * i + 64) n - 64 * i ≡ 64 = let m = min-eq_left {n = 64 * i + 64} {m = n} h in omega (arith, m) in
      ap (λ (k : ℕ). take k (drop (64 * i) ss)) e)
      (λ (h : n < 64 * i + 64).
      let l = length-drop (64 * i) ss in
      let m = min-eq_right {n = n} {m = 64 * i + 64} (omega arith) in
      take_all (min (64 * i + 64) n - 64 * i) (drop (64 * i) ss) (omega (arith, l, m)) ∙ sym (take_all 64 (drop (64 * i) ss) (omega (arith, l))))
      (less-or-not (64 * i + 64) n)

  place-fits : (i : ℕ) → i < cuts_for n → PieceFits ss (place_piece n i)
  place-fits i h =
      let l = place_inside n i h in
      let e : length (piece_spots ss (place_piece n i)) ≡ min 64 (n - 64 * i) =
      ap length (place-spots i) ∙ length-take 64 (drop (64 * i) ss) ∙ ap (min 64) (length-drop (64 * i) ss) in
      record { order = omega arith; inside = omega arith; few = omega (arith, e) }

  -- ---- a plan that holds them

  module _ (p : Plan) (t : Started n p) (few : n ≤ 512) where
    cuts : cuts_for n ≤ 8
    cuts = cuts-few ss few

    order_is : (m k : ℕ) → k + m ≤ cuts_for n → take m (drop k p.order) ≡ up_to k m
    order_is zero k h = refl
    order_is (suc m) k h =
        rw (drop-cons p.order k 0 (omega (arith, t.room, cuts)))
        (ap₂ (λ (x : ℕ) (l : List ℕ). x ∷ l) (t.ordered k (omega arith)) (order_is m (suc k) (omega arith)))

    order-all : order_of p ≡ up_to 0 (cuts_for n)
    order-all = ap (λ (k : ℕ). take k p.order) t.stands ∙ order_is (cuts_for n) 0 (omega arith)

    stands-are : (m k : ℕ) → k + m ≤ cuts_for n → stands_of ss p.pieces (up_to k m) ≡ numbered (suc k) (cut m (drop (64 * k) ss))
    stands-are zero k h = refl
    stands-are (suc m) k h =
        let e : 64 * k + 64 ≡ 64 * suc k = omega arith in
        ap₂ (λ (x : List Spot) (l : List StandingBlock). record { number = suc k; spots = x } ∷ l) (ap (piece_spots ss) (t.placed k (omega arith)) ∙ place-spots k)
        (stands-are m (suc k) (omega arith)
        ∙ ap (λ (l : List Spot). numbered (suc (suc k)) (cut m l)) (ap (λ (j : ℕ). drop j ss) (sym e) ∙ sym (drop-drop 64 (64 * k) ss)))

    blocks-are : (m k : ℕ) → k + m ≤ cuts_for n → blocks_from ss (suc k) (take m (drop k p.pieces)) ≡ place_blocks (stands_of ss p.pieces (up_to k m))
    blocks-are zero k h = refl
    blocks-are (suc m) k h =
        rw (drop-cons p.pieces k no_piece (omega (arith, t.sized, cuts)))
        (ap₂ (λ (x : ℕ) (l : List Block). record { number = suc k; made = x; spots = piece_spots ss (get_or p.pieces k no_piece) } ∷ l)
        (ap (λ (x : Piece). made_by x.floor) (t.placed k (omega arith)))
        (blocks-are m (suc k) (omega arith)))

    -- the next one begins where it ends
    place_end : (k : ℕ) → suc k < cuts_for n → (get_or p.pieces k no_piece).to ≡ 64 * suc k
    place_end k h =
        let l = place_inside n (suc k) h in
        ap (λ (x : Piece). x.to) (t.placed k (omega arith)) ∙ min-eq_left {n = 64 * k + 64} {m = n} (omega arith) ∙ omega arith

    runs-are : (m k e : ℕ) → k + m ≡ cuts_for n → (0 < m → 64 * k ≡ e) → Runs p.pieces e (up_to k m)
    runs-are zero k e h f = tt
    runs-are (suc m) k e h f = (
      ap (λ (x : Piece). x.from) (t.placed k (omega arith)) ∙ f (omega arith),
      runs-are m (suc k) (get_or p.pieces k no_piece).to (omega arith)
          (λ l. sym (place_end k (omega arith))),
    )

    pub started-stands : stands_in ss p ≡ at_first ss
    unfolding at_first
    started-stands = ap (stands_of ss p.pieces) order-all ∙ stands-are (cuts_for n) 0 (omega arith)

    blocks-all : blocks_from ss 1 (take p.count p.pieces) ≡ place_blocks (at_first ss) ++ []
    unfolding at_first
    blocks-all =
        ap (λ (k : ℕ). blocks_from ss 1 (take k p.pieces)) t.count
        ∙ blocks-are (cuts_for n) 0 (omega arith)
        ∙ ap place_blocks (stands-are (cuts_for n) 0 (omega arith))
        ∙ sym (append-nil (place_blocks (at_first ss)))

    below : (a : ℕ) → Memᴰ a (order_of p) → a < p.count
    below a j = let r = up_to-from 0 (cuts_for n) (mem-same order-all j) in omega (arith, r.1, t.count)

    placed : (i : ℕ) → i < p.count → get_or p.pieces i no_piece ≡ place_piece n i
    placed i h = t.placed i (omega (arith, t.count))

    pub started-state : Sweeping ss 0 [] p
    started-state =
        record {
          count = omega (arith, t.count);
          stands = omega (arith, t.stands);
          some = λ h. omega (arith, t.stands);
          sized = t.sized;
          room = t.room;
          blocks = blocks-all;
          ended = λ i h. ap (λ (x : Piece). x.ended) (placed i h);
          fresh = λ k h. refl;
          low = λ i h. let e : (get_or p.pieces i no_piece).floor ≡ 0 = ap (λ (x : Piece). x.floor) (placed i h) in omega (arith, e);
          fits = λ i h. subst (PieceFits ss) (sym (placed i h)) (place-fits i (omega (arith, t.count)));
          made = below;
          whole = λ a j. refl;
          once = subst Once (sym order-all) (up_to-once 0 (cuts_for n));
          runs = subst (Runs p.pieces 0) (sym order-all) (runs-are (cuts_for n) 0 0 (omega arith) (λ h. omega arith));
        }
