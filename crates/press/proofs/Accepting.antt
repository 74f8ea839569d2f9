-- Which spots pressing accepts: the tests in turn, the limits by the first and the last key, and what is known of those that pass.
-- Assumes nothing.
use mathlib.Core.Path.{◌≡◌, refl, sym, ap, ◌∙◌}
use mathlib.Core.Bool.{Bool, true, false, cond, ◌&&◌}
use mathlib.Core.Logic.{⊎_elim}
use mathlib.Core.List.Memᴰ
use mathlib.Core.List.{List, [], ◌∷◌, ◌++◌, Memᴰ}
use Prim.Native.Nat.{ℕ, zero, suc, ◌+◌, ◌-◌, ◌*◌, ◌≤◌, ◌<◌}
use native.Mathlib.Omega.{arith}
use lib.ListN.{length, get_or}
use lib.Dec.{leb, ltb}
use borrow.Author.Tests.{leb-true, ltb-true, le-leb, lt-ltb, lt-leb}
use Rattle.octets.specs.Lists.{every, rising, rising_from, records}
use Rattle.octets.proofs.Tests.{and_left, and_right, and_both, bool-ext, all-at, every-mem, every-make, every-join, every-imp}
use Rattle.octets.proofs.Lists.{mem-same}
use Rattle.octets.proofs.Rising.{rising-rest, rising-make, rising-least, rising-before}
use Rattle.octets.proofs.Records.{left, left-first, records-more, length-records}
use Rattle.octets.proofs.Bytes.{be-lt}
use Rattle.spot.specs.Keys.{word, limited, start_key, end_key}
use Rattle.spot.specs.Spots.{key_at, keys_from, spot_at, limited_from}
use Rattle.spot.specs.declared.Spot.{Spot}
use Rattle.spot.proofs.Buffers.{keys-records}
use Rattle.spot.proofs.Limits.{limited-from, limited-to, limited-yes, limited-each, limited-spots}
use Rattle.block.specs.declared.Answer.{Answer}
use Rattle.block.specs.Answers.{answer}
use Rattle.sweep.specs.Pressed.{Pressable}
use Rattle.press.specs.Press.{count_given, spots_given, pressable, press_number, tour_left, PressPost}
use Rattle.press.specs.Writing.{PressReady, TourWritten}

-- ---- the limits

pub none-limited : (s : List ℕ) (n : ℕ) → n ≡ 0 → true ≡ limited_from s 12 n 0
unfolding limited_from
none-limited s n e = ap (λ (k : ℕ). every limited (keys_from s 12 k 0)) (sym e)

module _ (s : List ℕ) (n : ℕ) (some : 0 < n) (up : rising (keys_from s 12 n 0) ≡ true) where
  abbrev first : ℕ
  first = key_at s 0

  abbrev last : ℕ
  last = key_at s (12 * (n - 1))

  -- no key is under the first, none is over the last
  over_first : {k : ℕ} → Memᴰ k (keys_from s 12 n 0) → first ≤ k
  over_first i =
      let e : keys_from s 12 n 0 ≡ first ∷ left (key_at s) 12 n 0 1 = left-first (key_at s) 12 n 0 some in
      let r : rising_from (suc first) (left (key_at s) 12 n 0 1) ≡ true = rising-rest 0 first (left (key_at s) 12 n 0 1) (ap rising (sym e) ∙ up) in
      rising-least first (first ∷ left (key_at s) 12 n 0 1) (rising-make first first (left (key_at s) 12 n 0 1) (omega arith) r) (mem-same e i)

  under_last : every (λ k. leb k last) (keys_from s 12 n 0) ≡ true
  under_last =
      let m : ℕ = n - 1 in
      let xs : List ℕ = records (key_at s) 12 m 0 in
      let g : n ≡ suc m = omega arith in
      let z : 0 + 12 * m ≡ 12 * m = omega arith in
      let e : keys_from s 12 n 0 ≡ xs ++ (last ∷ []) =
      ap (λ (k : ℕ). keys_from s 12 k 0) g ∙ records-more (key_at s) 12 m 0 ∙ ap (λ (k : ℕ). xs ++ (key_at s k ∷ [])) z
      in
      ap (every (λ k. leb k last)) e
      ∙ every-join (λ k. leb k last) xs (last ∷ [])
      (every-imp (λ k. ltb k last) (λ k. leb k last) xs (λ k h. let l : k < last = ltb-true k last h in le-leb k last (omega arith))
      (rising-before 0 last xs [] (ap rising (sym e) ∙ up)))
      (and_both (leb last last) true (le-leb last last (omega arith)) refl)

  all-limited : leb start_key first && ltb last end_key ≡ true → limited_from s 12 n 0 ≡ true
  unfolding limited_from
  all-limited h =
      let a : start_key ≤ first = leb-true start_key first (and_left (leb start_key first) (ltb last end_key) h) in
      let b : last < end_key = ltb-true last end_key (and_right (leb start_key first) (ltb last end_key) h) in
      every-make limited (keys_from s 12 n 0)
      (λ k i.
      let f : first ≤ k = over_first i in
      let g : k ≤ last = leb-true k last (every-mem (λ k. leb k last) (keys_from s 12 n 0) under_last i) in
      limited-yes k (omega arith) (omega arith))

  ends-limited : limited_from s 12 n 0 ≡ true → leb start_key first && ltb last end_key ≡ true
  ends-limited h =
      let z : 0 + 12 * 0 ≡ 0 = omega arith in
      let y : 0 + 12 * (n - 1) ≡ 12 * (n - 1) = omega arith in
      let a : limited first ≡ true = ap (λ (k : ℕ). limited (key_at s k)) (sym z) ∙ limited-each s 12 n 0 h 0 some in
      let b : limited last ≡ true = ap (λ (k : ℕ). limited (key_at s k)) (sym y) ∙ limited-each s 12 n 0 h (n - 1) (omega arith) in
      and_both (leb start_key first) (ltb last end_key) (le-leb start_key first (limited-from first a)) (lt-ltb last end_key (limited-to last b))

  -- the first and the last decide
  pub ends-decide : {a z : ℕ} → a ≡ key_at s 0 → z ≡ key_at s (12 * (n - 1)) → leb start_key a && ltb z end_key ≡ limited_from s 12 n 0
  ends-decide ea ez =
      rw (ea, ez) (bool-ext (leb start_key first && ltb last end_key) (limited_from s 12 n 0) all-limited ends-limited)

-- ---- the number

module _ (bytes : ℕ) (s : List ℕ) where
  abbrev inner : Bool → Bool → ℕ
  inner a b = cond a (cond b 0 9) 7

  pub too_short : bytes < 32768 → 2 ≡ press_number bytes s
  unfolding press_number
  too_short h = ap (λ (b : Bool). cond b (inner (pressable s) (limited_from s 12 (count_given s) 0)) 2) (sym (lt-leb 32768 bytes h))

  module _ (long : 32768 ≤ bytes) where
    number_is_lem : press_number bytes s ≡ inner (pressable s) (limited_from s 12 (count_given s) 0)
    unfolding press_number
    number_is_lem = ap (λ (b : Bool). cond b (inner (pressable s) (limited_from s 12 (count_given s) 0)) 2) (le-leb 32768 bytes long)

    pub not-pressable : pressable s ≡ false → 7 ≡ press_number bytes s
    not-pressable h = sym (number_is_lem ∙ ap (λ (b : Bool). inner b (limited_from s 12 (count_given s) 0)) h)

    module _ (fine : pressable s ≡ true) where
      pub number-limits : (b : Bool) → limited_from s 12 (count_given s) 0 ≡ b → cond b 0 9 ≡ press_number bytes s
      number-limits b h = sym (number_is_lem ∙ ap (λ (a : Bool). inner a (limited_from s 12 (count_given s) 0)) fine ∙ ap (λ (a : Bool). inner true a) h)

-- ---- those accepted

pub keys-rise : (s : List ℕ) → pressable s ≡ true → rising (keys_from s 12 (count_given s) 0) ≡ true
unfolding pressable
keys-rise s h = all-at _ h 2

few-spots : (s : List ℕ) → pressable s ≡ true → count_given s ≤ 512
unfolding pressable
few-spots s h = leb-true (count_given s) 512 (all-at _ h 0)

pub accepted : (bytes : ℕ) (s : List ℕ) → press_number bytes s ≡ 0 → (32768 ≤ bytes) × PressReady s
unfolding press_number
accepted bytes s h = go (leb 32768 bytes) (pressable s) (limited_from s 12 (count_given s) 0) refl refl refl h
  where
    go : (a b c : Bool) → leb 32768 bytes ≡ a → pressable s ≡ b → limited_from s 12 (count_given s) 0 ≡ c → ◌≡◌ {A = ℕ} (cond a (cond b (cond c 0 9) 7) 2) 0
        → (32768 ≤ bytes) × PressReady s
    go true true true ea eb ec e = (
      leb-true 32768 bytes ea,
      record {
        inside = omega arith;
        few = few-spots s eb;
        rise = ap rising (keys-records s 12 (count_given s) 0) ∙ keys-rise s eb;
        limits = ec;
      },
    )
    go true true false ea eb ec e = let z : ⊥ = omega arith in absurd z
    go true false c ea eb ec e = let z : ⊥ = omega arith in absurd z
    go false b c ea eb ec e = let z : ⊥ = omega arith in absurd z

-- ---- the spots of what is accepted

tracks-small : (s : List ℕ) → ((k : ℕ) → get_or s k 0 < 256) → (n at : ℕ) {x : Spot} → Memᴰ x (records (spot_at s) 12 n at) → x.track < word
unfolding spot_at
tracks-small s b zero at i = absurd (Memᴰ.not-nil i)
tracks-small s b (suc n) at {x} i =
    ⊎_elim (λ (e : x ≡ spot_at s at). omega (arith, ap (λ (y : Spot). y.track) e, be-lt 4 s (at + 8) b)) (λ j. tracks-small s b n (at + 12) j) (Memᴰ.cases_cons i)

pub accepted-spots : (bytes : ℕ) (s : List ℕ) → press_number bytes s ≡ 0 → ((k : ℕ) → get_or s k 0 < 256) → Pressable (spots_given s)
accepted-spots bytes s h b =
    let r = (accepted bytes s h).1 in
    record {
      few = omega (arith, r.few, length-records (spot_at s) 12 (count_given s) 0);
      rise = r.rise;
      limits = sym (limited-spots s (count_given s) 0) ∙ r.limits;
      tracks = λ x i. tracks-small s b (count_given s) 0 i;
    }

-- ---- what pressing leaves

module _ (s lent : List ℕ) {r : Answer} (answered : r ≡ answer (press_number (length lent) s) 0) where
  pub left-alone : (r.number ≡ 0 → ⊥) → PressPost s lent r lent
  unfolding tour_left
  left-alone h =
      record {
        answered = answered;
        tour = unchanged r.number h;
        short = λ e. absurd (h e);
      }
    where
      unchanged : (k : ℕ) → (k ≡ 0 → ⊥) → lent ≡ tour_left k (spots_given s) lent
      unchanged zero g = absurd (g refl)
      unchanged (suc k) g = refl

  pub tour-pressed : {lent' : List ℕ} → r.number ≡ 0 → TourWritten (spots_given s) lent lent' → PressPost s lent r lent'
  unfolding tour_left
  tour-pressed z w =
      record {
        answered = answered;
        tour = w.bytes ∙ ap (λ (k : ℕ). tour_left k (spots_given s) lent) (sym z);
        short = λ e. w.short;
      }
