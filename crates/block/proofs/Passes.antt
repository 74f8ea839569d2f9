-- Passes over the records of a block: what is done so far and what is left make up the whole.
-- Assumes nothing.
use mathlib.Core.Path.{◌≡◌, refl, sym, ap, ap₂, subst, ◌∙◌}
use mathlib.Core.Logic.{⊎_elim}
use mathlib.Core.Bool.{Bool, true, false, cond, ◌&&◌, ◌||◌, and_assoc, and-true, and-false}
use mathlib.Core.List.{List, [], ◌∷◌, map}
use Prim.Native.Nat.{ℕ, suc, ◌+◌, ◌-◌, ◌*◌, ◌≤◌, ◌<◌, min, max}
use native.Mathlib.Nat.{le_antisymm}
use native.Mathlib.Omega.{arith}
use lib.Dec.{leb, ltb, eqb, leb-zero}
use lib.ListN.{length, get_or, drop}
use lib.Seq.{drop-cons, drop-length}
use native.Mathlib.Numerals.{add-one}
use borrow.Author.Tests.{le-leb, lt-leb, leb-true, eq-eqb, eqb-true, ne_eqb}
use Rattle.std.specs.Prelude.{Some, None}
use Rattle.octets.specs.Lists.{every, records, rising_from, all, maximum, minimum}
use Rattle.octets.specs.Bytes.{be}
use Rattle.octets.proofs.Order.{less-or-not}
use Rattle.octets.proofs.Tests.{bool-ext}
use Rattle.spot.specs.Keys.{rank_key, end_key}
use Rattle.spot.specs.Spots.{key_at, keys_from}
use Rattle.spot.proofs.Card.{key_at-lt}
use Rattle.spot.proofs.Halves.{rank-small}
use Rattle.block.specs.declared.Extent.{Extent}
use Rattle.block.specs.Checks.{◌and◌, is_zero, ranks_under, rises_inside, rises_under, last_key, PointsAre, entry_fine, from_at, next_at, entry_shows, first_fine, entries_fine}
use Rattle.octets.proofs.Records.{left, left-all, left-cons, left-none, left-first, none_left}
use Rattle.block.proofs.Shut.{shuffle}
use Rattle.block.proofs.Inside.{goes_on, inside-first, inside-next}

-- ---- zero bytes

module _ (s : List ℕ) (at : ℕ) where
  pub zeros-next : (ok : Bool) (i : ℕ) → every is_zero (drop at s) ≡ ok && every is_zero (drop i s) → i < length s
      → every is_zero (drop at s) ≡ (ok && is_zero (get_or s i 0)) && every is_zero (drop (i + 1) s)
  zeros-next ok i p h =
      p ∙ ap (λ (l : List ℕ). ok && every is_zero l) (drop-cons s i 0 h)
      ∙ ap (λ (k : ℕ). ok && (is_zero (get_or s i 0) && every is_zero (drop k s))) (sym (add-one i))
      ∙ sym (and_assoc ok (is_zero (get_or s i 0)) (every is_zero (drop (i + 1) s)))

  pub zeros-end : (ok : Bool) (i : ℕ) → every is_zero (drop at s) ≡ ok && every is_zero (drop i s) → i ≤ length s → length s ≤ i
      → ok ≡ every is_zero (drop at s)
  zeros-end ok i p h k =
      sym (p ∙ ap (λ (j : ℕ). ok && every is_zero (drop j s)) (le_antisymm h k) ∙ ap (λ (l : List ℕ). ok && every is_zero l) (drop-length s) ∙ and-true ok)

-- ---- rising keys

module _ (s : List ℕ) (w n at floor : ℕ) where
  pub rise-none : n ≡ 0 → true ≡ rising_from floor (keys_from s w n at)
  rise-none e = sym (ap (rising_from floor) (none_left (key_at s) w n at e))

  -- after the test of key `prev` and of those before it
  abbrev pub RiseInv : Bool → ℕ → ℕ → Type 0
  RiseInv ok prev i = rising_from floor (keys_from s w n at) ≡ ok && rising_from (suc prev) (left (key_at s) w n at i)

  pub rise-start : {prev : ℕ} → 0 < n → prev ≡ key_at s at → RiseInv (leb floor prev) prev 1
  rise-start h e =
      ap (rising_from floor) (left-first (key_at s) w n at h)
      ∙ ap (λ (k : ℕ). leb floor k && rising_from (suc k) (left (key_at s) w n at 1)) (sym e)

  pub rise-next : (ok : Bool) (prev : ℕ) {k : ℕ} (i : ℕ) → RiseInv ok prev i → i < n → k ≡ key_at s (at + w * i) → RiseInv (ok && ltb prev k) k (i + 1)
  rise-next ok prev {k} i p h e =
      p ∙ ap (λ (l : List ℕ). ok && rising_from (suc prev) l) (left-cons (key_at s) w n at i h)
      ∙ ap (λ (x : ℕ). ok && (leb (suc prev) x && rising_from (suc x) (left (key_at s) w n at (i + 1)))) (sym e)
      ∙ sym (and_assoc ok (ltb prev k) (rising_from (suc k) (left (key_at s) w n at (i + 1))))

  pub rise-end : (ok : Bool) (prev i : ℕ) → RiseInv ok prev i → n ≤ i → ok ≡ rising_from floor (keys_from s w n at)
  rise-end ok prev i p h =
      sym (p ∙ ap (λ (l : List ℕ). ok && rising_from (suc prev) l) (left-none (key_at s) w n at i h) ∙ and-true ok)

  -- the same inside the limits: `goes_on` asks for them of the key `prev` too
  abbrev pub InsideInv : Bool → ℕ → ℕ → Type 0
  InsideInv ok prev i = rises_inside floor (keys_from s w n at) ≡ ok && goes_on prev (left (key_at s) w n at i)

  pub inside-start : {prev : ℕ} → 0 < n → prev ≡ key_at s at → InsideInv (leb floor prev) prev 1
  inside-start {prev} h e =
      ap (rises_inside floor) (left-first (key_at s) w n at h)
      ∙ ap (λ (k : ℕ). rises_inside floor (k ∷ left (key_at s) w n at 1)) (sym e)
      ∙ inside-first floor prev (left (key_at s) w n at 1)

  pub inside-step : (ok : Bool) (prev : ℕ) {k : ℕ} (i : ℕ) → InsideInv ok prev i → i < n → k ≡ key_at s (at + w * i) → InsideInv (ok && ltb prev k) k (i + 1)
  inside-step ok prev {k} i p h e =
      p ∙ ap (λ (l : List ℕ). ok && goes_on prev l) (left-cons (key_at s) w n at i h)
      ∙ ap (λ (x : ℕ). ok && goes_on prev (x ∷ left (key_at s) w n at (i + 1))) (sym e)
      ∙ ap (λ (b : Bool). ok && b) (inside-next prev k (left (key_at s) w n at (i + 1)))
      ∙ sym (and_assoc ok (ltb prev k) (goes_on k (left (key_at s) w n at (i + 1))))

  pub inside-end : (ok : Bool) (prev i : ℕ) → InsideInv ok prev i → n ≤ i → ok && ltb prev end_key ≡ rises_inside floor (keys_from s w n at)
  inside-end ok prev i p h =
      sym (p ∙ ap (λ (l : List ℕ). ok && goes_on prev l) (left-none (key_at s) w n at i h) ∙ ap (λ (b : Bool). ok && b) (and-true (ltb prev end_key)))

  -- the same, with the rank order's bound
  module _ (low : ℕ) where
    pub both-none : n ≡ 0 → true ≡ rises_under floor low (keys_from s w n at)
    both-none e = sym (ap (rises_under floor low) (none_left (key_at s) w n at e))

    abbrev pub BothInv : Bool → ℕ → ℕ → Type 0
    BothInv ok prev i =
        rises_under floor low (keys_from s w n at) ≡ ok && (goes_on prev (left (key_at s) w n at i) && every (ranks_under low) (left (key_at s) w n at i))

    pub both-start : {prev r : ℕ} → 0 < n → prev ≡ key_at s at → r ≡ rank_key prev → BothInv (leb floor prev && ltb r low) prev 1
    both-start {prev} h e g =
        let l : List ℕ = left (key_at s) w n at 1 in
        ap (rises_under floor low) (left-first (key_at s) w n at h)
        ∙ ap (λ (k : ℕ). rises_under floor low (k ∷ l)) (sym e)
        ∙ ap (λ (b : Bool). b && (ranks_under low prev && every (ranks_under low) l)) (inside-first floor prev l)
        ∙ shuffle true (leb floor prev) (ranks_under low prev) (goes_on prev l) (every (ranks_under low) l)
        ∙ ap (λ (q : ℕ). (leb floor prev && ltb q low) && (goes_on prev l && every (ranks_under low) l)) (sym g)

    pub both-next : (ok : Bool) (prev : ℕ) {k r : ℕ} (i : ℕ) → BothInv ok prev i → i < n → k ≡ key_at s (at + w * i) → r ≡ rank_key k
        → BothInv (ok && (ltb prev k && ltb r low)) k (i + 1)
    both-next ok prev {k} i p h e g =
        let m : List ℕ = left (key_at s) w n at (i + 1) in
        p ∙ ap (λ (l : List ℕ). ok && (goes_on prev l && every (ranks_under low) l)) (left-cons (key_at s) w n at i h)
        ∙ ap (λ (x : ℕ). ok && (goes_on prev (x ∷ m) && every (ranks_under low) (x ∷ m))) (sym e)
        ∙ ap (λ (b : Bool). ok && (b && (ranks_under low k && every (ranks_under low) m))) (inside-next prev k m)
        ∙ shuffle ok (ltb prev k) (ranks_under low k) (goes_on k m) (every (ranks_under low) m)
        ∙ ap (λ (q : ℕ). (ok && (ltb prev k && ltb q low)) && (goes_on k m && every (ranks_under low) m)) (sym g)

    pub both_end : (ok : Bool) (prev i : ℕ) → BothInv ok prev i → n ≤ i → ok && ltb prev end_key ≡ rises_under floor low (keys_from s w n at)
    both_end ok prev i p h =
        sym
        (p ∙ ap (λ (l : List ℕ). ok && (goes_on prev l && every (ranks_under low) l)) (left-none (key_at s) w n at i h)
        ∙ ap (λ (b : Bool). ok && b) (and-true (ltb prev end_key && true) ∙ and-true (ltb prev end_key)))

-- ---- one pass over P

module _ (s : List ℕ) (n at floor : ℕ) where
  pub record PointsInv (ok : Bool) (prev low high i : ℕ) : Type 0 where
    pub rise : InsideInv s 12 n at floor ok prev i
    pub least : minimum last_key (map rank_key (keys_from s 12 n at)) ≡ min low (minimum last_key (map rank_key (left (key_at s) 12 n at i)))
    pub most : maximum (map rank_key (keys_from s 12 n at)) ≡ max high (maximum (map rank_key (left (key_at s) 12 n at i)))
    pub fits : low ≤ last_key

  pub points_none : {r : Extent} → n ≡ 0 → r.low ≡ last_key → r.high ≡ 0 → PointsAre floor (keys_from s 12 n at) (Some r)
  points_none e q h =
      let g : keys_from s 12 n at ≡ [] = none_left (key_at s) 12 n at e in (
        ap (rises_inside floor) g,
        record {
          least = q ∙ sym (ap (λ (l : List ℕ). minimum last_key (map rank_key l)) g);
          most = h ∙ sym (ap (λ (l : List ℕ). maximum (map rank_key l)) g);
        },
      )

  pub points-start : {prev low : ℕ} → 0 < n → prev ≡ key_at s at → low ≡ rank_key prev → PointsInv (leb floor prev) prev low low 1
  points-start {prev} {low} h e g =
      let first : keys_from s 12 n at ≡ prev ∷ left (key_at s) 12 n at 1 =
      left-first (key_at s) 12 n at h ∙ ap (λ (k : ℕ). k ∷ left (key_at s) 12 n at 1) (sym e)
      in
      record {
        rise = inside-start s 12 n at floor h e;
        least =
            ap (λ (l : List ℕ). minimum last_key (map rank_key l)) first
            ∙ ap (λ (q : ℕ). min q (minimum last_key (map rank_key (left (key_at s) 12 n at 1)))) (sym g);
        most =
            ap (λ (l : List ℕ). maximum (map rank_key l)) first
            ∙ ap (λ (q : ℕ). max q (maximum (map rank_key (left (key_at s) 12 n at 1)))) (sym g);
        fits = let b : rank_key prev < 18446744073709551616 = rank-small prev (rw e (key_at-lt s at)) in omega arith;
      }

  pub points-next : (ok : Bool) (prev low high : ℕ) {k r low' high' : ℕ} (i : ℕ) → PointsInv ok prev low high i → i < n → k ≡ key_at s (at + 12 * i)
      → r ≡ rank_key k → low' ≡ min low r → high' ≡ max high r → PointsInv (ok && ltb prev k) k low' high' (i + 1)
  points-next ok prev low high {k} {r} {low'} {high'} i p h e g el eh =
      let next : left (key_at s) 12 n at i ≡ k ∷ left (key_at s) 12 n at (i + 1) =
      left-cons (key_at s) 12 n at i h ∙ ap (λ (x : ℕ). x ∷ left (key_at s) 12 n at (i + 1)) (sym e)
      in
      let m : ℕ = minimum last_key (map rank_key (left (key_at s) 12 n at (i + 1))) in
      let t : ℕ = maximum (map rank_key (left (key_at s) 12 n at (i + 1))) in
      record {
        rise = inside-step s 12 n at floor ok prev i p.rise h e;
        least =
            p.least ∙ ap (λ (l : List ℕ). min low (minimum last_key (map rank_key l))) next
            ∙ ap (λ (q : ℕ). min low (min q m)) (sym g) ∙ min-swap low r m ∙ ap (λ (q : ℕ). min q m) (sym el);
        most =
            p.most ∙ ap (λ (l : List ℕ). max high (maximum (map rank_key l))) next
            ∙ ap (λ (q : ℕ). max high (max q t)) (sym g) ∙ max-swap high r t ∙ ap (λ (q : ℕ). max q t) (sym eh);
        fits = let f = p.fits in omega arith;
      }
    where
      min-swap : (a b c : ℕ) → min a (min b c) ≡ min (min a b) c
      min-swap a b c = omega arith

      max-swap : (a b c : ℕ) → max a (max b c) ≡ max (max a b) c
      max-swap a b c = omega arith

  pub points-out : (ok : Bool) (prev low high i : ℕ) → PointsInv ok prev low high i → n ≤ i → ok && ltb prev end_key ≡ false → PointsAre floor (keys_from s 12 n at) None
  points-out ok prev low high i p h eo = sym (inside-end s 12 n at floor ok prev i p.rise h) ∙ eo

  pub points-in : {r : Extent} (ok : Bool) (prev low high i : ℕ) → PointsInv ok prev low high i → n ≤ i → ok && ltb prev end_key ≡ true → r.low ≡ low → r.high ≡ high
      → PointsAre floor (keys_from s 12 n at) (Some r)
  points-in ok prev low high i p h eo el eh =
      let e : left (key_at s) 12 n at i ≡ [] = left-none (key_at s) 12 n at i h in
      let f = p.fits in
      let lo : min low last_key ≡ low = omega arith in
      let hi : max high 0 ≡ high = omega arith in (
        sym (inside-end s 12 n at floor ok prev i p.rise h) ∙ eo,
        record {
          least = el ∙ sym (p.least ∙ ap (λ (l : List ℕ). min low (minimum last_key (map rank_key l))) e ∙ lo);
          most = eh ∙ sym (p.most ∙ ap (λ (l : List ℕ). max high (maximum (map rank_key l))) e ∙ hi);
        },
      )

-- ---- tests at every record

module _ (f : ℕ → Bool) (w n at : ℕ) where
  abbrev pub TestsInv : Bool → ℕ → Type 0
  TestsInv ok i = all (records f w n at) ≡ ok && all (left f w n at i)

  pub tests-start : TestsInv true 0
  tests-start = ap all (left-all f w n at)

  pub tests-next : (ok : Bool) {r : Bool} (i : ℕ) → TestsInv ok i → i < n → r ≡ f (at + w * i) → TestsInv (ok && r) (i + 1)
  unfolding all
  tests-next ok {r} i p h e =
      p ∙ ap (λ (l : List Bool). ok && all l) (left-cons f w n at i h)
      ∙ ap (λ (b : Bool). ok && (b && all (left f w n at (i + 1)))) (sym e) ∙ sym (and_assoc ok r (all (left f w n at (i + 1))))

  pub tests-end : (ok : Bool) (i : ℕ) → TestsInv ok i → n ≤ i → ok ≡ all (records f w n at)
  unfolding all
  tests-end ok i p h = sym (p ∙ ap (λ (l : List Bool). ok && all l) (left-none f w n at i h) ∙ and-true ok)

-- ---- the entries, from the last to the first

-- the tests of an entry, and then of those after it, as the loop finds them
order : (r a x k : Bool) → (r && a) && (x && k) ≡ ((a && k) && x) && r
order false a x k = sym (and-false ((a && k) && x))
order true false x k = refl
order true true x true = refl
order true true true false = refl
order true true false false = refl

order-first : (r a z x k : Bool) → (r && a) && (z && (x && k)) ≡ (((a && k) && z) && x) && r
order-first r a true x k = order r a x k ∙ ap (λ (b : Bool). (b && x) && r) (sym (and-true (a && k)))
order-first r a false x k = and-false (r && a) ∙ ap (λ (b : Bool). (b && x) && r) (sym (and-false (a && k)))

module _ (s : List ℕ) (c blocks own low floor : ℕ) where
  abbrev shows : ℕ → Bool
  shows a = entry_shows blocks own low floor (8 + 28 * c) s a

  abbrev lows_from : ℕ → List ℕ
  lows_from i = left (key_at s) 28 (c - 1) 40 i

  -- after the tests of the entries past the i-th, the first of which begins at next
  pub record EntriesInv (ok : Bool) (next i : ℕ) : Type 0 where
    pub done : ok ≡ all (left shows 28 c 8 (i + 1)) && rises_inside 0 (lows_from i)
    pub after : next ≡ next_at (8 + 28 * c) s (8 + 28 * i)

  pub entries_none : c ≡ 0 → true ≡ entries_fine s c blocks own low floor
  unfolding entries_fine first_fine ◌and◌ all
  entries_none e = ap (λ (n : ℕ). all (records (λ a. entry_shows blocks own low floor (8 + 28 * n) s a) 28 n 8) && first_fine floor s n) (sym e)

  -- where the i-th child's range ends: of the last one, and of another
  next_last : (i : ℕ) → c ≤ i + 1 → next_at (8 + 28 * c) s (8 + 28 * i) ≡ end_key
  next_last i h = ap (λ (b : Bool). cond b end_key (key_at s (8 + 28 * i + 32))) (le-leb (8 + 28 * c) (8 + 28 * i + 28) (omega arith))

  next-other : (i : ℕ) → i + 1 < c → next_at (8 + 28 * c) s (8 + 28 * i) ≡ key_at s (40 + 28 * i)
  next-other i h =
      let n : 8 + 28 * i + 32 ≡ 40 + 28 * i = omega arith in
      ap (λ (b : Bool). cond b end_key (key_at s (8 + 28 * i + 32))) (lt-leb (8 + 28 * c) (8 + 28 * i + 28) (omega arith)) ∙ ap (key_at s) n

  pub entries-start : {e : ℕ} → e ≡ end_key → 0 < c → EntriesInv true e (c - 1)
  unfolding all
  entries-start e h =
      let n : left shows 28 c 8 (c - 1 + 1) ≡ [] = left-none shows 28 c 8 (c - 1 + 1) (omega arith) in
      let m : lows_from (c - 1) ≡ [] = left-none (key_at s) 28 (c - 1) 40 (c - 1) (omega arith) in
      record {
        done = sym (ap₂ (λ (l : List Bool) (k : List ℕ). all l && rises_inside 0 k) n m);
        after = e ∙ sym (next_last (c - 1) (omega arith));
      }

  module _ (ok : Bool) (next i : ℕ) (v : EntriesInv ok next i) where
    last_none : c ≤ i + 1 → lows_from i ≡ []
    last_none h = left-none (key_at s) 28 (c - 1) 40 i (omega arith)

    other-cons : i + 1 < c → lows_from i ≡ next ∷ lows_from (i + 1)
    other-cons h =
        left-cons (key_at s) 28 (c - 1) 40 i (omega arith) ∙ ap (λ (k : ℕ). k ∷ lows_from (i + 1)) (sym (v.after ∙ next-other i h))

    inside-zero : (k : ℕ) (ks : List ℕ) → rises_inside 0 (k ∷ ks) ≡ goes_on k ks
    inside-zero k ks = inside-first 0 k ks ∙ ap (λ (t : Bool). t && goes_on k ks) (leb-zero k)

    -- the lows of the entries done follow a key that is below next
    goes-from : (from : ℕ) → goes_on from (lows_from i) ≡ ltb from next && rises_inside 0 (lows_from i)
    goes-from from =
        ⊎_elim
        (λ h. ap (goes_on from) (last_none h) ∙ ap (λ (e : ℕ). ltb from e && true) (sym (v.after ∙ next_last i h))
        ∙ ap (λ (l : List ℕ). ltb from next && rises_inside 0 l) (sym (last_none h)))
        (λ h. ap (goes_on from) (other-cons h) ∙ inside-next from next (lows_from (i + 1))
        ∙ ap (λ (b : Bool). ltb from next && b) (sym (inside-zero next (lows_from (i + 1))) ∙ ap (rises_inside 0) (sym (other-cons h))))
        (less-or-not c (i + 1))

    -- they rise from b on if the first of them is at least b
    rise-from : (b : ℕ) → rises_inside b (lows_from i) ≡ (leb c (i + 1) || leb b next) && rises_inside 0 (lows_from i)
    rise-from b =
        ⊎_elim
        (λ h. ap (rises_inside b) (last_none h)
        ∙ sym (ap₂ (λ (t : Bool) (k : List ℕ). (t || leb b next) && rises_inside 0 k) (le-leb c (i + 1) h) (last_none h)))
        (λ h. ap (rises_inside b) (other-cons h) ∙ inside-first b next (lows_from (i + 1))
        ∙ ap (λ (t : Bool). leb b next && t) (sym (inside-zero next (lows_from (i + 1))) ∙ ap (rises_inside 0) (sym (other-cons h)))
        ∙ ap (λ (t : Bool). (t || leb b next) && rises_inside 0 (lows_from i)) (sym (lt-leb c (i + 1) h)))
        (less-or-not c (i + 1))

    shows-is : {from : ℕ} {r : Bool} → from ≡ from_at floor s (8 + 28 * i) → r ≡ entry_fine blocks own low from next s (8 + 28 * i) → r ≡ shows (8 + 28 * i)
    unfolding entry_shows
    shows-is f e = e ∙ ap₂ (λ (x y : ℕ). entry_fine blocks own low x y s (8 + 28 * i)) f v.after

    pub entries_next : {from : ℕ} {r : Bool} → 0 < i → i < c → from ≡ key_at s (12 + 28 * i) → r ≡ entry_fine blocks own low from next s (8 + 28 * i)
        → EntriesInv ((ok && ltb from next) && r) from (i - 1)
    unfolding all
    entries_next {from} {r} h l e g =
        let k : i - 1 + 1 ≡ i = omega arith in
        let p : 12 + 28 * i ≡ 40 + 28 * (i - 1) = omega arith in
        let q : 12 + 28 * i ≡ 8 + 28 * i + 4 = omega arith in
        let start : from ≡ from_at floor s (8 + 28 * i) = e ∙ ap (key_at s) q ∙ sym (rw (ne_eqb (8 + 28 * i) 8 (λ z. omega arith))) in
        let first : left shows 28 c 8 (i - 1 + 1) ≡ r ∷ left shows 28 c 8 (i + 1) =
        ap (left shows 28 c 8) k ∙ left-cons shows 28 c 8 i l ∙ ap (λ (b : Bool). b ∷ left shows 28 c 8 (i + 1)) (sym (shows-is start g))
        in
        let lower : lows_from (i - 1) ≡ from ∷ lows_from i =
        left-cons (key_at s) 28 (c - 1) 40 (i - 1) (omega arith) ∙ ap₂ (λ (x j : ℕ). x ∷ lows_from j) (sym (e ∙ ap (key_at s) p)) k
        in
        record {
          done =
              sym
              (ap₂ (λ (x : List Bool) (y : List ℕ). all x && rises_inside 0 y) first lower
              ∙ ap (λ (b : Bool). (r && all (left shows 28 c 8 (i + 1))) && b) (inside-zero from (lows_from i) ∙ goes-from from)
              ∙ order r (all (left shows 28 c 8 (i + 1))) (ltb from next) (rises_inside 0 (lows_from i))
              ∙ ap (λ (b : Bool). (b && ltb from next) && r) (sym v.done));
          after = e ∙ ap (key_at s) p ∙ sym (next-other (i - 1) (omega arith));
        }

  pub entries-end : (ok : Bool) (next i : ℕ) {z : ℕ} {r : Bool} → EntriesInv ok next i → 0 < c → i ≡ 0 → z ≡ be 8 s 12
      → r ≡ entry_fine blocks own low floor next s 8 → ((ok && eqb z 0) && (eqb c 1 || leb floor next)) && r ≡ entries_fine s c blocks own low floor
  unfolding entries_fine first_fine ◌and◌ all
  entries-end ok next i {z} {r} w h o e g =
      let v : EntriesInv ok next 0 = subst (λ (k : ℕ). EntriesInv ok next k) o w in
      let one : leb c 1 ≡ eqb c 1 = bool-ext (leb c 1) (eqb c 1) (λ q. eq-eqb c 1 (omega (arith, leb-true c 1 q))) (λ q. le-leb c 1 (omega (arith, eqb-true c 1 q))) in
      let first : records shows 28 c 8 ≡ r ∷ left shows 28 c 8 1 =
      left-first shows 28 c 8 h ∙ ap (λ (b : Bool). b ∷ left shows 28 c 8 1) (sym (shows-is ok next 0 v refl g))
      in
      let rises : rises_inside floor (keys_from s 28 (c - 1) 40) ≡ (eqb c 1 || leb floor next) && rises_inside 0 (lows_from 0) =
      ap (rises_inside floor) (left-all (key_at s) 28 (c - 1) 40) ∙ rise-from ok next 0 v floor
      ∙ ap (λ (t : Bool). (t || leb floor next) && rises_inside 0 (lows_from 0)) one
      in
      sym
      (ap₂ (λ (x : List Bool) (b : Bool). all x && (b || (eqb (be 8 s 12) 0 && rises_inside floor (keys_from s 28 (c - 1) 40)))) first (ne_eqb c 0 (λ q. omega arith))
      ∙ ap₂ (λ (x : ℕ) (b : Bool). (r && all (left shows 28 c 8 1)) && (eqb x 0 && b)) (sym e) rises
      ∙ order-first r (all (left shows 28 c 8 1)) (eqb z 0) (eqb c 1 || leb floor next) (rises_inside 0 (lows_from 0))
      ∙ ap (λ (b : Bool). ((b && eqb z 0) && (eqb c 1 || leb floor next)) && r) (sym v.done))
