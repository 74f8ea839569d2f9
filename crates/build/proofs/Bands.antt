-- The spots of a band, counted one after the other; and the search for a cut by halving.
-- Assumes nothing.
use mathlib.Core.Path.{◌≡◌, refl, ap, sym, subst, ◌∙◌}
use mathlib.Core.Logic.{inl, inr, ⊎_elim}
use mathlib.Core.Bool.{Bool, true, false, cond, ◌&&◌}
use mathlib.Core.List.{List, [], ◌∷◌, ◌++◌, append-nil}
use Prim.Native.Nat.{ℕ, suc, ◌+◌, ◌-◌, ◌*◌, ◌/◌, ◌≤◌, ◌<◌}
use native.Mathlib.Omega.{arith}
use lib.ListN.{length, take, set, length-append, length-set}
use lib.Seq.{append_snoc}
use lib.Dec.{leb, ltb, leb-suc-suc, leb-suc-zero}
use Rattle.octets.specs.Lists.{all, every, rising}
use Rattle.octets.proofs.Order.{less-or-not, same_or_not}
use Rattle.octets.proofs.Records.{left, left-all, left-cons, left-none}
use Rattle.spot.specs.declared.Spot.{Spot}
use Rattle.spot.specs.Keys.{rank_key, within, all_keys}
use Rattle.spot.specs.Spots.{keys, key_at, spot_at, spots_from}
use Rattle.spot.proofs.Buffers.{spots-within}
use Rattle.rebuild_theory.specs.Build.{band}
use Rattle.rebuild_theory.proofs.Bands.{band-rises}
use Rattle.rebuild_theory.proofs.Choose.{band-none, band-step, ends-apart}
use Rattle.buffer.specs.declared.SpotBuffer.{SpotBuffer}
use Rattle.buffer.specs.Buffer.{held, Ordered}
use Rattle.octets.proofs.Lists.{take-push}
use Rattle.build.specs.Building.{limit_of, Segment, Cut}
use Rattle.std.specs.Prelude.{Some, None, unwrap_or}
use Rattle.std.specs.Prelude as maybe

-- the test of a rank key against a cut and a limit
pub test-some : (c last r : ℕ) → (leb c r && leb r last) ≡ within c (limit_of (Some last)) r
unfolding within all
test-some c last r = ap (λ (b : Bool). leb c r && b) (end (leb r last) ∙ ap (λ (b : Bool). b && true) (sym (leb-suc-suc r last)))
  where
    end : (b : Bool) → b ≡ (b && true)
    end true = refl
    end false = refl

pub test-none : (c r : ℕ) → false ≡ within c (limit_of None) r
unfolding within all
test-none c r = go (leb c r)
  where
    go : (a : Bool) → false ≡ (a && (ltb r 0 && true))
    go true = ap (λ (b : Bool). b && true) (sym (leb-suc-zero r))
    go false = refl

-- ---- one spot after the other

module _ (list : List ℕ) (from n c t : ℕ) where
  -- those of the spots from the i-th on that lie in the band
  abbrev pub after : ℕ → List Spot
  after i = band c t (left (spot_at list) 12 n (12 * from) i)

  after-all : band c t (spots_from list from n) ≡ after 0
  after-all = ap (band c t) (left-all (spot_at list) 12 n (12 * from))

  after_none : (i : ℕ) → n ≤ i → after i ≡ []
  unfolding band
  after_none i h = ap (band c t) (left-none (spot_at list) 12 n (12 * from) i h)

  -- the i-th is in it, or it isn't
  after-step : (i : ℕ) → i < n
      → after i ≡ cond (within c t (rank_key (key_at list (12 * (from + i))))) (spot_at list (12 * (from + i)) ∷ after (i + 1)) (after (i + 1))
  unfolding band spot_at
  after-step i h =
      let e : 12 * (from + i) ≡ 12 * from + 12 * i = omega arith in
      rw e (ap (band c t) (left-cons (spot_at list) 12 n (12 * from) i h))

  after-in : (i : ℕ) → i < n → within c t (rank_key (key_at list (12 * (from + i)))) ≡ true → after i ≡ spot_at list (12 * (from + i)) ∷ after (i + 1)
  after-in i h e = after-step i h ∙ ap (λ (b : Bool). cond b (spot_at list (12 * (from + i)) ∷ after (i + 1)) (after (i + 1))) e

  after-out : (i : ℕ) → i < n → within c t (rank_key (key_at list (12 * (from + i)))) ≡ false → after i ≡ after (i + 1)
  after-out i h e = after-step i h ∙ ap (λ (b : Bool). cond b (spot_at list (12 * (from + i)) ∷ after (i + 1)) (after (i + 1))) e

  -- ---- counted

  pub record Counted (sum i : ℕ) : Type 0 where
    pub inside : i ≤ n
    pub small : sum ≤ i
    pub whole : sum + length (after i) ≡ length (band c t (spots_from list from n))

  pub counted_none : Counted 0 0
  counted_none = record { inside = omega arith; small = omega arith; whole = let e = ap (λ (l : List Spot). length l) after-all in omega arith }

  module _ {sum i k : ℕ} {b : Bool} (r : Counted sum i) (l : i < n) (key : k ≡ key_at list (12 * (from + i))) (test : b ≡ within c t (rank_key k)) where
    told : within c t (rank_key (key_at list (12 * (from + i)))) ≡ b
    told = sym (test ∙ ap (λ (j : ℕ). within c t (rank_key j)) key)

    pub counted-in : b ≡ true → {sum' : ℕ} → sum' ≡ sum + 1 → Counted sum' (i + 1)
    counted-in y {sum'} e =
        let m = r.small in
        let w = r.whole in
        let g : length (after i) ≡ suc (length (after (i + 1))) = ap (λ (l : List Spot). length l) (after-in i l (told ∙ y)) in
        record { inside = omega arith; small = omega arith; whole = omega arith }

    pub counted-out : b ≡ false → {sum' : ℕ} → sum' ≡ sum → Counted sum' (i + 1)
    counted-out y {sum'} e =
        let m = r.small in
        let w = r.whole in
        let g : length (after i) ≡ length (after (i + 1)) = ap (λ (l : List Spot). length l) (after-out i l (told ∙ y)) in
        record { inside = omega arith; small = omega arith; whole = omega arith }

  pub counted-all : {sum i : ℕ} → Counted sum i → n ≤ i → (sum ≡ length (band c t (spots_from list from n))) × (sum ≤ n)
  counted-all {sum} {i} r h =
      let a = r.inside in
      let m = r.small in
      let w = r.whole in
      let z : length (after i) ≡ 0 = ap (λ (l : List Spot). length l) (after_none i h) in
      (omega arith, omega arith)

  -- ---- taken

  pub record Taken (out : SpotBuffer) (i : ℕ) : Type 0 where
    pub inside : i ≤ n
    pub long : length out.spots ≡ 80
    pub counted : out.n ≡ length (held out)
    pub whole : held out ++ after i ≡ band c t (spots_from list from n)

  pub taken_none : {out : SpotBuffer} → length out.spots ≡ 80 → out.n ≡ 0 → held out ≡ [] → Taken out 0
  taken_none h e g =
      record { inside = omega arith; long = h; counted = e ∙ sym (ap (λ (l : List Spot). length l) g); whole = ap (λ (l : List Spot). l ++ after 0) g ∙ sym after-all }

  taken-count : {out : SpotBuffer} {i : ℕ} → Taken out i → out.n + length (after i) ≡ length (band c t (spots_from list from n))
  taken-count {out} {i} r =
      ap (λ (k : ℕ). k + length (after i)) r.counted ∙ sym (length-append (held out) (after i)) ∙ ap (λ (l : List Spot). length l) r.whole

  module _ {out : SpotBuffer} {i : ℕ} {s : Spot} {b : Bool} (r : Taken out i) (l : i < n) (read : s ≡ spot_at list (12 * (from + i))) (test : b ≡ within c t (rank_key s.key)) where
    seen : within c t (rank_key (key_at list (12 * (from + i)))) ≡ b
    unfolding spot_at
    seen = sym (test ∙ ap (λ (x : Spot). within c t (rank_key x.key)) read)

    first-in : b ≡ true → after i ≡ s ∷ after (i + 1)
    first-in y = after-in i l (seen ∙ y) ∙ ap (λ (x : Spot). x ∷ after (i + 1)) (sym read)

    pub taken-room : b ≡ true → length (band c t (spots_from list from n)) ≤ 64 → out.n < 64
    taken-room y few = let k = taken-count r in let g = ap (λ (x : List Spot). length x) (first-in y) in omega arith

    pub taken_in : b ≡ true → length (band c t (spots_from list from n)) ≤ 64 → {new : SpotBuffer} → new ≡ record { n = out.n + 1; spots = set out.spots out.n s } → Taken new (i + 1)
    taken_in y few {new} q =
        subst (λ (x : SpotBuffer). Taken x (i + 1)) (sym q)
        (record {
          inside = omega arith;
          long = length-set out.spots out.n s ∙ r.long;
          counted = omega (arith, r.counted, ap (λ (x : List Spot). length x) more, length-append (held out) (s ∷ []));
          whole =
              ap (λ (x : List Spot). x ++ after (i + 1)) more ∙ append_snoc (held out) s (after (i + 1)) ∙ ap (λ (x : List Spot). held out ++ x) (sym (first-in y))
              ∙ r.whole;
        })
      where
        more : take (out.n + 1) (set out.spots out.n s) ≡ held out ++ (s ∷ [])
        more = take-push out.spots out.n s (omega (arith, taken-room y few, r.long))

    pub taken_out : b ≡ false → {new : SpotBuffer} → new ≡ out → Taken new (i + 1)
    taken_out y {new} q =
        subst (λ (x : SpotBuffer). Taken x (i + 1)) (sym q)
        (record { inside = omega arith; long = r.long; counted = r.counted; whole = ap (λ (x : List Spot). held out ++ x) (sym (after-out i l (seen ∙ y))) ∙ r.whole })

  pub taken-all : {out : SpotBuffer} {i : ℕ} → rising (keys (spots_from list from n)) ≡ true → length (band c t (spots_from list from n)) ≤ 64 → Taken out i → n ≤ i
      → Ordered out × (held out ≡ band c t (spots_from list from n)) × (out.n ≤ 64)
  taken-all {out} {i} up few r h =
      let same : held out ≡ band c t (spots_from list from n) = sym (append-nil (held out)) ∙ ap (λ (x : List Spot). held out ++ x) (sym (after_none i h)) ∙ r.whole in
      let k = taken-count r in
      (record { fits = omega arith; up = ap (λ (x : List Spot). rising (keys x)) same ∙ band-rises c t 0 (spots_from list from n) up }, same, omega arith)

-- ---- a cut between two

module _ (list : List ℕ) (from n : ℕ) (limit : maybe.Option ℕ) where
  abbrev taken : ℕ → ℕ
  taken c = length (band c (limit_of limit) (spots_from list from n))

  -- the lower cut takes too many, the upper one too few
  pub record Between (lo hi : ℕ) : Type 0 where
    pub over : 64 < taken lo
    pub short : taken hi < 32
    pub order : lo < hi
    pub under : hi ≤ limit_of limit
    pub near : hi ≤ unwrap_or limit 0

module _ (list : List ℕ) (from n : ℕ) (limit : maybe.Option ℕ) (seg : Segment list from n) where
  keyed : every (within 0 all_keys) (keys (spots_from list from n)) ≡ true
  keyed = spots-within list 12 n (12 * from)

  pub cut_all : {c r : ℕ} → c ≡ 0 → r ≡ taken list from n limit c → r ≤ 64 → Cut list from n limit c
  cut_all z e h = record { most = omega arith; least = inr z; under = omega arith }

  -- where some are taken the cut lies under the limit
  pub cut-some : {c r : ℕ} → r ≡ taken list from n limit c → r ≤ 64 → 32 ≤ r → Cut list from n limit c
  cut-some {c} {r} e h g = record { most = omega arith; least = inl (omega arith); under = ⊎_elim (λ (a : limit_of limit ≤ c). past a) (λ (a : c < limit_of limit). omega arith) (less-or-not (limit_of limit) c) }
    where
      past : limit_of limit ≤ c → c ≤ limit_of limit
      past a = let z = ap length (band-none c (limit_of limit) a (spots_from list from n)) in let q : ⊥ = omega arith in absurd q

  module _ {lo hi : ℕ} (b : Between list from n limit lo hi) where
    apart : suc lo < hi
    apart = ends-apart (limit_of limit) lo hi (spots_from list from n) seg.rises keyed b.order b.over b.short

    pub between-low : lo < lo + (hi - lo) / 2
    between-low = let a = apart in omega arith

    pub between-high : lo + (hi - lo) / 2 < hi
    between-high = let a = apart in omega arith

    pub between-up : {r : ℕ} → r ≡ taken list from n limit (lo + (hi - lo) / 2) → 64 < r → Between list from n limit (lo + (hi - lo) / 2) hi
    between-up e h = record { over = omega arith; short = b.short; order = between-high; under = b.under; near = b.near }

    pub between-down : {r : ℕ} → r ≡ taken list from n limit (lo + (hi - lo) / 2) → r < 32 → Between list from n limit lo (lo + (hi - lo) / 2)
    between-down e h =
        let g = between-high in
        let u = b.under in
        let w = b.near in
        record { over = b.over; short = omega arith; order = between-low; under = omega arith; near = omega arith }

    pub between-hit : {r : ℕ} → r ≡ taken list from n limit (lo + (hi - lo) / 2) → r ≤ 64 → 32 ≤ r → Cut list from n limit (lo + (hi - lo) / 2)
    between-hit e h g =
        let q = between-high in
        let u = b.under in
        record { most = omega arith; least = inl (omega arith); under = omega arith }

pub between_first : (list : List ℕ) (from n : ℕ) (limit : maybe.Option ℕ) → Segment list from n → {r : ℕ} → r ≡ taken list from n limit 0 → 64 < r → Between list from n limit 0 (unwrap_or limit 0)
between_first list from n None seg {r} e h =
    let g = ap length (band-none 0 0 (omega arith) (spots_from list from n)) in
    let q : ⊥ = omega arith in
    absurd q
between_first list from n (Some last) seg {r} e h =
    let s = band-step last (suc last) 0 (spots_from list from n) (keyed list from n (Some last) seg) seg.rises in
    let g = ap length (band-none (suc last) (suc last) (omega arith) (spots_from list from n)) in
    let few : taken list from n (Some last) last ≤ 1 = omega arith in
    record { over = omega arith; short = omega arith; order = positive few; under = omega arith; near = omega arith }
  where
    positive : taken list from n (Some last) last ≤ 1 → 0 < last
    positive few = ⊎_elim (λ (q : last ≡ 0). let w = ap (taken list from n (Some last)) q in let y : ⊥ = omega arith in absurd y) (λ (q : last ≡ 0 → ⊥). omega (arith, q)) (same_or_not last 0)
