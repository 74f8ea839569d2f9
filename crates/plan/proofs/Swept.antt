-- The whole sweep: a plan and what is left of the keys in rank order, from the first passing to the last.
-- Assumes nothing.
use mathlib.Core.Path.{◌≡◌, refl, sym, ap, ap₂, subst, ◌∙◌}
use mathlib.Core.Logic.{⊎_elim}
use mathlib.Core.Bool.{true}
use mathlib.Core.List.Memᴰ
use mathlib.Core.List.{List, [], ◌∷◌, ◌++◌, append_assoc, append-nil, Memᴰ}
use Prim.Native.Nat.{ℕ, suc, ◌+◌, ◌/◌, ◌%◌, ◌*◌, ◌≤◌, ◌<◌}
use native.Mathlib.Nat.{div-lt_iff_lt-mul}
use native.Mathlib.Numerals.{add-one}
use native.Mathlib.Omega.{arith}
use lib.Dec.{lit<}
use lib.ListN.{length, take, get_or, length-append}
use lib.Seq.{append_snoc, get_or-take, length-take-le}
use Rattle.octets.specs.Lists.{rising_from, records}
use Rattle.octets.proofs.Tests.{every-mem}
use Rattle.octets.proofs.Lists.{at_mem, mem-at, mem-here, mem-same}
use Rattle.octets.proofs.Rising.{rising-first, rising-rest, rising-make, rising-least, rising-distinct}
use Rattle.octets.proofs.Records.{length-records, records-at}
use Rattle.spot.specs.Keys.{word, rank_key, limited, end_key}
use Rattle.spot.specs.Spots.{keys, key_at, spot_at, spots_in}
use Rattle.spot.specs.declared.Spot.{Spot}
use Rattle.spot.proofs.Halves.{low, rank_is}
use Rattle.spot.proofs.Limits.{limited-to, limited-small, limited-each, limited-all, limited-spots}
use Rattle.spot.proofs.Buffers.{keys-records, keys_length}
use Rattle.sweep.specs.Sweep.{StandingBlock, Fusion, by_rank, fusion_at, fused_at, fusions, at_first, sweep}
use Rattle.sweep.specs.Pressed.{place_tiles, fused_tiles, tiles}
use Rattle.sweep.proofs.Orders.{by_rank-length, by_rank-from, by_rank-in, rank_keys, rank_keys-mem, by_rank-rises}
use Rattle.plan.specs.Plans.{no_piece, piece_at, plan_tiles, PieceFits, Spots, SpotsReadable, NextRank, Started, PlanShaped, PassedRank, SweepPlanned}
use Rattle.plan.specs.declared.Piece.{Piece}
use Rattle.plan.specs.declared.Plan.{Plan}
use Rattle.plan.proofs.Stretches.{left-of}
use Rattle.plan.proofs.Blocks.{same-tiles}
use Rattle.plan.proofs.Sweeping.{stands_in, Sweeping, stands-few, count-few, order-made}
use Rattle.plan.proofs.Passing.{passing}
use Rattle.plan.proofs.Starting.{started-stands, started-state}

-- above every rank key of a spot inside the limits
abbrev pub limit : ℕ
limit = 18446744073709551615

halves_small : (x y : ℕ) → x < word → y < 2148483649 → x * word + y < limit
halves_small x y h k = omega arith

rank-limited : (k : ℕ) → limited k ≡ true → rank_key k < limit
unfolding end_key
rank-limited k h =
    rw (rank_is k)
    (halves_small (k % word) (k / word) (low k) ((div-lt_iff_lt-mul {k = word} {x = k} {y = 2148483649} (lit< tt)).1 (limited-to k h)))

-- the first of what is left is the spot of the rank key r
pub record First (todo : List ℕ) (r : ℕ) : Type 0 where
  pub key : ℕ
  pub rest : List ℕ
  pub all : todo ≡ key ∷ rest
  pub rank : r ≡ rank_key key
  pub lim : limited key ≡ true

-- the sweep over the spots, once it has passed so many
pub record Swept (ss : List Spot) (p : Plan) (floor passed : ℕ) : Type 0 where
  pub fs : List Fusion
  pub gone : List ℕ
  pub todo : List ℕ
  pub state : Sweeping ss floor fs p
  pub order : by_rank (keys ss) ≡ gone ++ todo
  pub many : length gone ≡ passed
  pub under : (k : ℕ) → Memᴰ k gone → rank_key k < floor
  pub rise : rising_from floor (rank_keys todo) ≡ true
  pub left : sweep ss ≡ fs ++ fusions (suc p.count) (stands_in ss p) todo

module _ (s : List ℕ) (n : ℕ) (g : Spots s n) where
  abbrev ss : List Spot
  ss = spots_in s n

  many-spots : length ss ≡ n
  many-spots = length-records (spot_at s) 12 n 0

  few-spots : length ss ≤ 512
  few-spots = omega (arith, many-spots, g.few)

  pub readable : SpotsReadable s n
  readable = record { inside = g.inside; limits = g.limits }

  key_in : (i : ℕ) → i < n → Memᴰ (key_at s (12 * i)) (keys ss)
  key_in i h =
      let e : 0 + 12 * i ≡ 12 * i = omega arith in
      mem-same (sym (keys-records s 12 n 0))
      (subst (λ (k : ℕ). Memᴰ k (records (key_at s) 12 n 0)) (records-at (key_at s) 12 n 0 i 0 h ∙ ap (key_at s) e)
      (at_mem (records (key_at s) 12 n 0) i 0 (omega (arith, length-records (key_at s) 12 n 0))))

  key-from : (k : ℕ) → Memᴰ k (keys ss) → (i : ℕ) × (i < n) × (key_at s (12 * i) ≡ k)
  key-from k m =
      let r = mem-at (records (key_at s) 12 n 0) 0 (mem-same (keys-records s 12 n 0) m) in
      let l : r.0 < n = omega (arith, r.1, length-records (key_at s) 12 n 0) in
      let e : 12 * r.0 ≡ 0 + 12 * r.0 = omega arith in
      (r.0, l, ap (key_at s) e ∙ sym (records-at (key_at s) 12 n 0 r.0 0 l) ∙ r.2)

  key-limited : (k : ℕ) → Memᴰ k (keys ss) → limited k ≡ true
  key-limited k m = every-mem limited (keys ss) (sym (limited-spots s n 0) ∙ g.limits) m

  order-length : length (by_rank (keys ss)) ≡ n
  order-length = by_rank-length (keys ss) ∙ keys_length ss ∙ many-spots

  -- ---- the first passing

  pub swept-start : (p : Plan) → Started n p → Swept ss p 0 0
  unfolding sweep
  swept-start p t =
      let u : Started (length ss) p = subst (λ (k : ℕ). Started k p) (sym many-spots) t in
      record {
        fs = [];
        gone = [];
        todo = by_rank (keys ss);
        state = started-state ss p u few-spots;
        order = refl;
        many = refl;
        under = λ k m. absurd (Memᴰ.not-nil m);
        rise = by_rank-rises (keys ss) (rising-distinct 0 (keys ss) g.rise) (λ k m. limited-small k (key-limited k m));
        left = ap₂ (λ (k : ℕ) (st : List StandingBlock). fusions (suc k) st (by_rank (keys ss))) (sym u.count) (sym (started-stands ss p u few-spots));
      }

  -- ---- the next one

  module _ (floor : ℕ) (p : Plan) (passed : ℕ) (w : Swept ss p floor passed) (k : ℕ) (rest : List ℕ) (e : w.todo ≡ k ∷ rest) (lim : limited k ≡ true) where
    rise : rising_from floor (rank_keys (k ∷ rest)) ≡ true
    rise = subst (λ (l : List ℕ). rising_from floor (rank_keys l) ≡ true) e w.rise

    up : floor ≤ rank_key k
    up = rising-first floor (rank_key k) (rank_keys rest) rise

    -- the passing of k
    abbrev made : List Fusion
    made = fusion_at k (suc p.count) (stands_in ss p)

    turn : (q : Plan) → PassedRank s p (rank_key k) q → Swept ss q (rank_key k + 1) (passed + 1)
    turn q v =
        let t =
        passing s ss few-spots k floor w.fs p w.state (limited-small k lim) (omega (arith, up))
        (λ y f z. left-of s n k y f z.order (omega (arith, z.inside, many-spots))) q v in
        let c : suc q.count ≡ suc p.count + length made = omega (arith, t.next) in
        record {
          fs = w.fs ++ made;
          gone = w.gone ++ (k ∷ []);
          todo = rest;
          state = t.state;
          order = w.order ∙ ap (λ (l : List ℕ). w.gone ++ l) e ∙ sym (append_snoc w.gone k rest);
          many = omega (arith, length-append w.gone (k ∷ []), w.many);
          under = λ j m.
              ⊎_elim (λ i. omega (arith, w.under j i, up))
              (λ i. ⊎_elim (λ (d : j ≡ k). omega (arith, ap rank_key d)) (λ z. absurd (Memᴰ.not-nil z)) (Memᴰ.cases_cons i))
              (Memᴰ.append_cases w.gone m);
          rise = rw (add-one (rank_key k)) (rising-rest floor (rank_key k) (rank_keys rest) rise);
          left =
              w.left
              ∙ ap (λ (l : List ℕ). w.fs ++ fusions (suc p.count) (stands_in ss p) l) e
              ∙ sym (append_assoc w.fs made (fusions (suc p.count + length made) (fused_at k (suc p.count) (stands_in ss p)) rest))
              ∙ ap₂ (λ (j : ℕ) (st : List StandingBlock). (w.fs ++ made) ++ fusions j st rest) (sym c) (sym t.stood);
        }

  module _ (floor r : ℕ) (x : NextRank s n floor limit r) where
    first-is : (gone : List ℕ) (key : ℕ) (rest : List ℕ) → by_rank (keys ss) ≡ gone ++ (key ∷ rest) → ((k : ℕ) → Memᴰ k gone → rank_key k < floor)
        → rising_from floor (rank_keys (key ∷ rest)) ≡ true → First (key ∷ rest) r
    first-is gone key rest e u v = record { key = key; rest = rest; all = refl; rank = omega (arith, low-enough, high-enough); lim = key-limited key here }
      where
        here : Memᴰ key (keys ss)
        here = by_rank-from (keys ss) (mem-same (sym e) (mem-here gone key rest))

        low-enough : r ≤ rank_key key
        low-enough =
            let j = key-from key here in
            let a = ap rank_key j.2 in
            let b = rising-first floor (rank_key key) (rank_keys rest) v in
            let c = x.least j.0 j.1 (omega (arith, a, b)) in
            omega (arith, c, a)

        high-enough : rank_key key ≤ r
        high-enough =
            let i = x.found (omega (arith, low-enough, rank-limited key (key-limited key here))) in
            let k = key_at s (12 * i.0) in
            let up = rising-make (rank_key key) (rank_key key) (rank_keys rest) (omega arith) (rising-rest floor (rank_key key) (rank_keys rest) v) in
            ⊎_elim (λ m. let z : ⊥ = omega (arith, u k m, i.2, i.3) in absurd z)
            (λ m. omega (arith, rising-least (rank_key key) (rank_keys (key ∷ rest)) up (rank_keys-mem (key ∷ rest) m), i.3))
            (Memᴰ.append_cases gone (mem-same e (by_rank-in (keys ss) (key_in i.0 i.1))))

    first_of : (gone todo : List ℕ) → by_rank (keys ss) ≡ gone ++ todo → length gone < n → ((k : ℕ) → Memᴰ k gone → rank_key k < floor)
        → rising_from floor (rank_keys todo) ≡ true → First todo r
    first_of gone [] e h u v = let z : ⊥ = omega (arith, order-length, ap length (e ∙ append-nil gone)) in absurd z
    first_of gone (key ∷ rest) e h u v = first-is gone key rest e u v

    module _ (p : Plan) (passed : ℕ) (w : Swept ss p floor passed) (h : passed < n) where
      first : First w.todo r
      first = first_of w.gone w.todo w.order (omega (arith, w.many)) w.under w.rise

      pub rank-small : r < limit
      rank-small = omega (arith, first.rank, rank-limited first.key first.lim)

      pub swept-next : (q : Plan) → PassedRank s p r q → Swept ss q (r + 1) (passed + 1)
      swept-next q v =
          subst (λ (j : ℕ). Swept ss q (j + 1) (passed + 1)) (sym first.rank)
          (turn floor p passed w first.key first.rest first.all first.lim q (subst (λ (j : ℕ). PassedRank s p j q) first.rank v))

  -- ---- at any time

  module _ (p : Plan) (floor passed : ℕ) (w : Swept ss p floor passed) where
    pub swept-shaped : PlanShaped s p
    swept-shaped =
        record {
          few = stands-few ss few-spots floor w.fs p w.state;
          room = omega (arith, count-few ss few-spots floor w.fs p w.state);
          made = order-made ss few-spots floor w.fs p w.state;
          read = λ i h.
              let e = (w.state.fits (get_or p.order i 0) (order-made ss few-spots floor w.fs p w.state i h)).inside in
              let l : (piece_at p i).to ≤ n = omega (arith, e, many-spots) in
              record {
                inside = omega (arith, l, g.inside);
                limits = limited-all s 12 (piece_at p i).to 0 (λ j k. limited-each s 12 n 0 g.limits j (omega arith));
              };
        }

    -- ---- and at the end

    nothing_left : (todo : List ℕ) → length (w.gone ++ todo) ≡ n → n ≤ passed → todo ≡ []
    nothing_left [] e h = refl
    nothing_left (k ∷ todo) e h = let z : ⊥ = omega (arith, e, length-append w.gone (k ∷ todo), w.many) in absurd z

    sweep-is : n ≤ passed → sweep ss ≡ w.fs
    sweep-is h =
        w.left
        ∙ ap (λ (l : List ℕ). w.fs ++ fusions (suc p.count) (stands_in ss p) l) (nothing_left w.todo (sym (ap length w.order) ∙ order-length) h)
        ∙ append-nil w.fs

    all-pieces : length (take p.count p.pieces) ≡ p.count
    all-pieces = length-take-le p.count p.pieces (omega (arith, w.state.sized, count-few ss few-spots floor w.fs p w.state))

    piece_is : (i : ℕ) → i < p.count → get_or (take p.count p.pieces) i no_piece ≡ get_or p.pieces i no_piece
    piece_is i h = get_or-take p.count p.pieces i no_piece h

    tiles-are : n ≤ passed → plan_tiles ss p ≡ tiles ss
    unfolding tiles
    tiles-are h =
        same-tiles ss w.fs (at_first ss) (take p.count p.pieces) w.state.blocks
        (λ i l. ap (λ (y : Piece). y.ended) (piece_is i (omega (arith, l, all-pieces))) ∙ w.state.ended i (omega (arith, l, all-pieces)))
        ∙ ap (λ (fs : List Fusion). place_tiles fs (at_first ss) ++ fused_tiles fs fs) (sym (sweep-is h))

    pub swept_all : n ≤ passed → SweepPlanned ss p
    swept_all h =
        record {
          few = count-few ss few-spots floor w.fs p w.state;
          sized = w.state.sized;
          tiles = tiles-are h;
          fits = λ y m.
              let r = mem-at (take p.count p.pieces) no_piece m in
              let l : r.0 < p.count = omega (arith, r.1, all-pieces) in
              subst (PieceFits ss) (sym (piece_is r.0 l) ∙ r.2) (w.state.fits r.0 l);
        }
