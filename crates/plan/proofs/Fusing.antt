-- A plan whose i-th and next block are fused holds the sweep's state after the passing that fuses them.
-- Assumes nothing.
use mathlib.Core.Path.{◌≡◌, refl, sym, ap, ap₂, subst, ◌∙◌}
use mathlib.Core.Logic.{◌⊎◌, inl, inr, ⊎_elim}
use mathlib.Core.Bool.{false}
use mathlib.Core.List.{List, [], ◌∷◌, ◌++◌, append_assoc, Memᴰ}
use Prim.Native.Nat.{ℕ, suc, ◌+◌, ◌≤◌, ◌<◌}
use native.Mathlib.Numerals.{add-one}
use native.Mathlib.Omega.{arith}
use lib.ListN.{length, take, drop, get_or, set, length-append, length-set}
use lib.Seq.{get_or-set_same, get_or-set_other, take-take, length-take-le}
use Rattle.octets.proofs.Order.{same_or_not}
use Rattle.octets.proofs.Tests.{keep_append}
use Rattle.octets.proofs.Lists.{take-push, mem-less, mem-same, mem-take, mem-drop}
use Rattle.octets.proofs.Once.{Once}
use Rattle.spot.specs.Keys.{all_keys, rank_key}
use Rattle.spot.specs.declared.Spot.{Spot}
use Rattle.spot.proofs.Halves.{rank-back}
use Rattle.sweep.specs.Sweep.{Fusion, above_passed, left, fuse, fusion_at, fused_at, at_first}
use Rattle.sweep.specs.Pressed.{ended_by}
use Rattle.sweep.specs.Laws.{consumed}
use Rattle.plan.specs.Plans.{no_piece, piece_at, piece_spots, made_by, ended_piece, ended_at, fused_piece, PieceFits, Fused}
use Rattle.plan.specs.declared.Piece.{Piece}
use Rattle.plan.specs.declared.Plan.{Plan}
use Rattle.plan.proofs.Stretches.{left_join}
use Rattle.plan.proofs.Blocks.{Block, block_of, blocks_from, place_blocks, fused_block, fused_blocks, blocks-append, fused-append, blocks-ended, core, ended-core, fits-same}
use Rattle.plan.proofs.Standings.{stand_of, stands_of, OneFusion, fused-stands}
use Rattle.plan.proofs.Neighbours.{Runs, split-two, both, once-fused, not_first, not-second, runs-touch, runs-fused}
use Rattle.sweep.proofs.Stands.{ended-none}
use Rattle.plan.proofs.Endings.{ended-other, ended_here, whole-still}
use Rattle.plan.proofs.Sweeping.{order_of, stands_in, Sweeping, Passing, count-few, order-length, order-at, order-in, order-made}

-- ---- the pieces, where a and b are ended by p and one more is stored

module _ (ps : List Piece) (a b p c : ℕ) (new : Piece) (inside : c < length ps) (ha : a < c) (hb : b < c) where
  abbrev ends : List Piece
  ends = ended_at (ended_at ps a p) b p

  abbrev grown : List Piece
  grown = set ends c new

  ends-length : length ends ≡ length ps
  ends-length = simp length-set

  new-at : get_or grown c no_piece ≡ new
  new-at = get_or-set_same ends c new no_piece (omega (arith, ends-length))

  old-at : (x : ℕ) → x < c → get_or grown x no_piece ≡ get_or ends x no_piece
  old-at x h = get_or-set_other ends c x new no_piece (λ (e : x ≡ c). let z : ⊥ = omega arith in z)

  kept : (x : ℕ) → x < c → core (get_or grown x no_piece) ≡ core (get_or ps x no_piece)
  kept x h = ap core (old-at x h) ∙ ended-core (ended_at ps a p) b p x ∙ ended-core ps a p x

  -- what ended them
  ended-second : (get_or grown b no_piece).ended ≡ p
  ended-second =
      ap (λ (q : Piece). q.ended)
      (old-at b hb ∙ get_or-set_same (ended_at ps a p) b (ended_piece (get_or (ended_at ps a p) b no_piece) p) no_piece (simp length-set (omega arith)))

  ended-first : (a ≡ b → ⊥) → (get_or grown a no_piece).ended ≡ p
  ended-first d =
      ap (λ (q : Piece). q.ended)
      (old-at a ha
      ∙ get_or-set_other (ended_at ps a p) b a (ended_piece (get_or (ended_at ps a p) b no_piece) p) no_piece d
      ∙ get_or-set_same ps a (ended_piece (get_or ps a no_piece) p) no_piece (omega arith))

  ended-rest : (x : ℕ) → x < c → (x ≡ a → ⊥) → (x ≡ b → ⊥) → (get_or grown x no_piece).ended ≡ (get_or ps x no_piece).ended
  ended-rest x h d e =
      ap (λ (q : Piece). q.ended)
      (old-at x h
      ∙ get_or-set_other (ended_at ps a p) b x (ended_piece (get_or (ended_at ps a p) b no_piece) p) no_piece e
      ∙ get_or-set_other ps a x (ended_piece (get_or ps a no_piece) p) no_piece d)

  grown-blocks : (ss : List Spot) → blocks_from ss 1 (take (c + 1) grown) ≡ blocks_from ss 1 (take c ps) ++ (block_of ss (suc c) new ∷ [])
  grown-blocks ss =
      let l : length (take c ends) ≡ c = length-take-le c ends (omega (arith, ends-length)) in
      let e : 1 + length (take c ends) ≡ suc c = omega (arith, l) in
      ap (blocks_from ss 1) (take-push ends c new (omega (arith, ends-length)))
      ∙ blocks-append ss 1 (take c ends) (new ∷ [])
      ∙ ap₂ (λ (x : List Block) (k : ℕ). x ++ (block_of ss k new ∷ []))
      (blocks-ended ss 1 c (ended_at ps a p) b p ∙ blocks-ended ss 1 c ps a p)
      e

-- ---- the state

module _ (ss : List Spot) (few : length ss ≤ 512) (p floor : ℕ) (fs : List Fusion) (pl q : Plan) (w : Sweeping ss floor fs pl) (i : ℕ) (small : p < all_keys)
    (up : floor ≤ rank_key p + 1) (h : i + 1 < pl.stands) (u : Fused pl i (rank_key p) q)
    (sum : length (left p (piece_spots ss (piece_at pl i))) + length (left p (piece_spots ss (piece_at pl (i + 1)))) ≡ 64)
    (one : OneFusion p (suc pl.count) (stands_in ss pl) i (stand_of ss pl.pieces (get_or pl.order i 0)) (stand_of ss pl.pieces (get_or pl.order (i + 1) 0))) where
  abbrev a : ℕ
  a = get_or pl.order i 0

  abbrev b : ℕ
  b = get_or pl.order (i + 1) 0

  abbrev c : ℕ
  c = pl.count

  abbrev new : Piece
  new = fused_piece (piece_at pl i) (piece_at pl (i + 1)) (rank_key p)

  abbrev qs : List Piece
  qs = set (ended_at (ended_at pl.pieces a p) b p) c new

  abbrev xs : List ℕ
  xs = take i (order_of pl)

  abbrev ys : List ℕ
  ys = drop (i + 2) (order_of pl)

  -- the fusion
  abbrev f : Fusion
  f = record { passed = p; first = suc a; second = suc b; made = record { number = suc c; spots = left p (piece_spots ss (piece_at pl i) ++ piece_spots ss (piece_at pl (i + 1))) } }

  fuse-is : fuse p (suc c) (stand_of ss pl.pieces a) (stand_of ss pl.pieces b) ≡ f
  unfolding fuse
  fuse-is = refl

  a_small : a < c
  a_small = order-made ss few floor fs pl w i (omega arith)

  b-small : b < c
  b-small = order-made ss few floor fs pl w (i + 1) h

  inside : c < length pl.pieces
  inside = omega (arith, count-few ss few floor fs pl w, w.sized)

  pieces_are : q.pieces ≡ qs
  pieces_are = u.blocks ∙ ap (λ (k : ℕ). set (ended_at (ended_at pl.pieces a k) b k) c new) (rank-back p small)

  order-was : order_of pl ≡ xs ++ (a ∷ b ∷ ys)
  order-was =
      split-two (order_of pl) i (omega (arith, order-length ss few floor fs pl w))
      ∙ ap₂ (λ (x y : ℕ). xs ++ (x ∷ y ∷ ys)) (order-at ss few floor fs pl w i (omega arith)) (order-at ss few floor fs pl w (i + 1) h)

  order_is : order_of q ≡ xs ++ (c ∷ ys)
  order_is = u.standing ∙ ap (λ (l : List ℕ). l ++ (c ∷ ys)) (sym (take-take i pl.stands pl.order (omega arith)))

  once-was : Once (xs ++ (a ∷ b ∷ ys))
  once-was = subst Once order-was w.once

  runs-was : Runs pl.pieces 0 (xs ++ (a ∷ b ∷ ys))
  runs-was = subst (Runs pl.pieces 0) order-was w.runs

  stood-before : {x : ℕ} → Memᴰ x (xs ++ ys) → Memᴰ x (order_of pl)
  stood-before j = mem-same (sym order-was) (both xs a b ys j)

  a-stood : Memᴰ a (order_of pl)
  a-stood = order-in ss few floor fs pl w i (omega arith)

  b-stood : Memᴰ b (order_of pl)
  b-stood = order-in ss few floor fs pl w (i + 1) h

  a-not-b : a ≡ b → ⊥
  a-not-b e = neighbours xs once-was
    where
      neighbours : (zs : List ℕ) → Once (zs ++ (a ∷ b ∷ ys)) → ⊥
      neighbours [] o = o.0 (Memᴰ.head e)
      neighbours (z ∷ zs) o = neighbours zs o.1

  -- the new block
  new-spots : piece_spots ss new ≡ left p (piece_spots ss (piece_at pl i) ++ piece_spots ss (piece_at pl (i + 1)))
  new-spots =
      sym
      (left_join ss p (piece_at pl i) (piece_at pl (i + 1)) (omega (arith, w.low a a_small)) (omega (arith, w.low b b-small)) (w.fits a a_small).order
      (w.fits b b-small).order (runs-touch pl.pieces 0 xs a b ys runs-was))

  new-length : length (piece_spots ss new) ≡ 64
  new-length =
      ap length (new-spots ∙ keep_append (λ (s : Spot). above_passed p s.key) (piece_spots ss (piece_at pl i)) (piece_spots ss (piece_at pl (i + 1))))
      ∙ length-append (left p (piece_spots ss (piece_at pl i))) (left p (piece_spots ss (piece_at pl (i + 1))))
      ∙ sum

  new-fits : PieceFits ss new
  new-fits =
      let touch = runs-touch pl.pieces 0 xs a b ys runs-was in
      record {
        order = omega (arith, touch, (w.fits a a_small).order, (w.fits b b-small).order);
        inside = (w.fits b b-small).inside;
        few = omega (arith, new-length);
      }

  new-made : made_by (rank_key p + 1) ≡ p
  new-made = rw (add-one (rank_key p)) (rank-back p small)

  -- of each piece
  q-new : get_or q.pieces c no_piece ≡ new
  q-new = ap (λ (l : List Piece). get_or l c no_piece) pieces_are ∙ new-at pl.pieces a b p c new inside a_small b-small

  q-kept : (x : ℕ) → x < c → core (get_or q.pieces x no_piece) ≡ core (get_or pl.pieces x no_piece)
  q-kept x l = ap (λ (z : List Piece). core (get_or z x no_piece)) pieces_are ∙ kept pl.pieces a b p c new inside a_small b-small x l

  old-or-new : (P : Piece → Type 0) → P new → ((x : ℕ) → x < c → P (get_or q.pieces x no_piece)) → (x : ℕ) → x < q.count → P (get_or q.pieces x no_piece)
  old-or-new P n o x l =
      ⊎_elim (λ (e : x ≡ c). subst P (sym (ap (λ (k : ℕ). get_or q.pieces k no_piece) e ∙ q-new)) n) (λ (d : x ≡ c → ⊥). o x (omega (arith, u.count))) (same_or_not x c)

  q-ended : (x : ℕ) → x < q.count → (get_or q.pieces x no_piece).ended ≡ ended_by (suc x) (fs ++ (f ∷ []))
  q-ended x l =
      ap (λ (z : List Piece). (get_or z x no_piece).ended) pieces_are
      ∙ ⊎_elim (λ (e : x ≡ c). newly e) (λ (d : x ≡ c → ⊥). old (omega (arith, u.count))) (same_or_not x c)
    where
      newly : x ≡ c → (get_or qs x no_piece).ended ≡ ended_by (suc x) (fs ++ (f ∷ []))
      newly e =
          ap (λ (k : ℕ). (get_or qs k no_piece).ended) e
          ∙ ap (λ (z : Piece). z.ended) (new-at pl.pieces a b p c new inside a_small b-small)
          ∙ sym (ended-none (suc x) (fs ++ (f ∷ [])) (whole-still (suc x) fs f (w.fresh (suc x) (omega arith)) (λ g. omega (arith, a_small)) (λ g. omega (arith, b-small))))

      old : x < c → (get_or qs x no_piece).ended ≡ ended_by (suc x) (fs ++ (f ∷ []))
      old s =
          ⊎_elim
          (λ (e : x ≡ a).
          ap (λ (k : ℕ). (get_or qs k no_piece).ended) e
          ∙ ended-first pl.pieces a b p c new inside a_small b-small a-not-b
          ∙ sym (ap (λ (k : ℕ). ended_by (suc k) (fs ++ (f ∷ []))) e ∙ ended_here (suc a) fs f (w.whole a a-stood) (inl refl)))
          (λ (d : x ≡ a → ⊥).
          ⊎_elim
          (λ (e : x ≡ b).
          ap (λ (k : ℕ). (get_or qs k no_piece).ended) e
          ∙ ended-second pl.pieces a b p c new inside a_small b-small
          ∙ sym (ap (λ (k : ℕ). ended_by (suc k) (fs ++ (f ∷ []))) e ∙ ended_here (suc b) fs f (w.whole b b-stood) (inr refl)))
          (λ (g : x ≡ b → ⊥).
          ended-rest pl.pieces a b p c new inside a_small b-small x s d g
          ∙ w.ended x s
          ∙ sym (ended-other (suc x) fs f (λ e. d (omega arith)) (λ e. g (omega arith))))
          (same_or_not x b))
          (same_or_not x a)

  q-blocks : blocks_from ss 1 (take q.count q.pieces) ≡ place_blocks (at_first ss) ++ fused_blocks (fs ++ (f ∷ []))
  q-blocks =
      ap₂ (λ (k : ℕ) (l : List Piece). blocks_from ss 1 (take k l)) u.count pieces_are
      ∙ grown-blocks pl.pieces a b p c new inside a_small b-small ss
      ∙ ap₂ (λ (l : List Block) (k : Block). l ++ (k ∷ [])) w.blocks (ap₂ (λ (m : ℕ) (l : List Spot). record { number = suc c; made = m; spots = l }) new-made new-spots)
      ∙ append_assoc (place_blocks (at_first ss)) (fused_blocks fs) (fused_block f ∷ [])
      ∙ ap (λ (l : List Block). place_blocks (at_first ss) ++ l) (sym (fused-append fs (f ∷ [])))

  -- of each block that stands
  new-or-stood : {x : ℕ} → Memᴰ x (order_of q) → (x ≡ c) ⊎ Memᴰ x (xs ++ ys)
  new-or-stood j = mem-less xs c ys (mem-same order_is j)

  q-whole : (x : ℕ) → Memᴰ x (order_of q) → consumed (suc x) (fs ++ (f ∷ [])) ≡ false
  q-whole x j =
      ⊎_elim
      (λ (e : x ≡ c). whole-still (suc x) fs f (w.fresh (suc x) (omega arith)) (λ g. omega (arith, a_small)) (λ g. omega (arith, b-small)))
      (λ m.
      whole-still (suc x) fs f (w.whole x (stood-before m)) (λ g. not_first xs a b ys once-was m (omega arith)) (λ g. not-second xs a b ys once-was m (omega arith)))
      (new-or-stood j)

  q-runs : Runs q.pieces 0 (order_of q)
  q-runs =
      subst (λ (o : List ℕ). Runs q.pieces 0 o) (sym order_is)
      (runs-fused pl.pieces q.pieces 0 xs a b c ys (ap (λ (z : Piece). z.from) q-new) (ap (λ (z : Piece). z.to) q-new)
      (λ x j. q-kept x (w.made x (stood-before j))) runs-was)

  q-state : Sweeping ss (rank_key p + 1) (fs ++ (f ∷ [])) q
  q-state =
      let l = length-append fs (f ∷ []) in
      record {
        count = omega (arith, u.count, w.count, l);
        stands = omega (arith, u.stands, w.stands, l);
        some = λ z. omega (arith, u.stands);
        sized = ap length pieces_are ∙ simp length-set w.sized;
        room = u.room;
        blocks = q-blocks;
        ended = q-ended;
        fresh = λ k g. whole-still k fs f (w.fresh k (omega (arith, u.count))) (λ e. omega (arith, a_small, u.count)) (λ e. omega (arith, b-small, u.count));
        low = old-or-new (λ (z : Piece). z.floor ≤ rank_key p + 1) (omega arith)
            (λ x g. let e : (get_or q.pieces x no_piece).floor ≡ (get_or pl.pieces x no_piece).floor = ap (λ (z : Piece). z.floor) (q-kept x g) in omega (arith, e, w.low x g));
        fits = old-or-new (PieceFits ss) new-fits (λ x g. fits-same ss (get_or pl.pieces x no_piece) (get_or q.pieces x no_piece) (q-kept x g) (w.fits x g));
        made = λ x j. ⊎_elim (λ (e : x ≡ c). omega (arith, u.count)) (λ m. omega (arith, u.count, w.made x (stood-before m))) (new-or-stood j);
        whole = q-whole;
        once = subst Once (sym order_is) (once-fused xs a b c ys once-was (λ x j e. omega (arith, w.made x (stood-before j))));
        runs = q-runs;
      }

  q-stood : stands_in ss q ≡ fused_at p (suc c) (stands_in ss pl)
  q-stood =
      ap (stands_of ss q.pieces) order_is
      ∙ fused-stands ss pl.pieces q.pieces (order_of pl) i c f.made
      (ap (λ (l : List Spot). record { number = suc c; spots = l }) (ap (piece_spots ss) q-new ∙ new-spots))
      (λ x j. q-kept x (w.made x (mem-take i (order_of pl) j)))
      (λ x j. q-kept x (w.made x (mem-drop (i + 2) (order_of pl) j)))
      ∙ sym (one.stands ∙ ap (λ (g : Fusion). take i (stands_in ss pl) ++ (g.made ∷ drop (i + 2) (stands_in ss pl))) fuse-is)

  pub fused-passing : Passing ss p (rank_key p + 1) fs pl q
  fused-passing =
      let e : fusion_at p (suc c) (stands_in ss pl) ≡ f ∷ [] = one.fusions ∙ ap (λ (g : Fusion). g ∷ []) fuse-is in
      record {
        state = subst (λ (l : List Fusion). Sweeping ss (rank_key p + 1) (fs ++ l) q) (sym e) q-state;
        stood = q-stood;
        next = u.count ∙ ap (λ (l : List Fusion). c + length l) (sym e);
      }
