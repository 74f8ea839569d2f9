-- Rising keys: how many are below a key, by halving, and whether the first that is not below is it.
-- Assumes nothing.
use mathlib.Core.Path.{◌≡◌, refl, sym, ap, subst, ◌∙◌}
use mathlib.Core.Logic.{◌⊎◌, inl, inr, ⊎_elim}
use mathlib.Core.Bool.{Bool, true, false, ◌||◌, or-false}
use mathlib.Core.List.{List, [], ◌∷◌}
use Prim.Native.Nat.{ℕ, zero, suc, ◌+◌, ◌*◌, ◌≤◌, ◌<◌}
use native.Mathlib.Nat.{mul-zero}
use native.Mathlib.Omega.{arith}
use lib.Dec.{ltb, leb, eqb}
use lib.ListN.{length, get_or}
use mir.Val.{bool_byte}
use borrow.Author.Tests.{leb-true, lt-ltb, le-ltb, ne_eqb}
use Rattle.octets.specs.Lists.{has, rising_from, rising}
use Rattle.octets.proofs.Order.{less-or-not, eqb-flip, stride}
use Rattle.octets.proofs.Tests.{every-at, keep-length}
use Rattle.octets.proofs.Rising.{rising-first, rising-rest, rising-from, rising-least}
use Rattle.octets.proofs.Sets.{has-not}
use Rattle.octets.proofs.Records.{length-records, records-at}
use Rattle.spot.specs.Keys.{limited}
use Rattle.spot.specs.Spots.{key_at}
use Rattle.spot.proofs.Limits.{limited-each}
use Rattle.visit.specs.Visit.{Ready, below_in, keys_from}

rising-at : (a : ℕ) (ks : List ℕ) (i d : ℕ) → rising_from a ks ≡ true → i < length ks → a ≤ get_or ks i d
rising-at a ks i d p h = leb-true a (get_or ks i d) (every-at (leb a) ks d (rising-from a ks p) i h)

-- one key more, below or not
count_yes : (k x : ℕ) (ks : List ℕ) → x < k → below_in k (x ∷ ks) ≡ suc (below_in k ks)
count_yes k x ks h = rw (lt-ltb x k h)

count_no : (k x : ℕ) (ks : List ℕ) → k ≤ x → below_in k (x ∷ ks) ≡ below_in k ks
count_no k x ks h = rw (le-ltb x k h)

pub below-most : (k : ℕ) (ks : List ℕ) → below_in k ks ≤ length ks
below-most k ks = keep-length (λ j. ltb j k) ks

below_none : (k a : ℕ) (ks : List ℕ) → rising_from a ks ≡ true → k ≤ a → below_in k ks ≡ 0
below_none k a [] p h = refl
below_none k a (x ∷ ks) p h =
    let l : a ≤ x = rising-first a x ks p in
    count_no k x ks (omega arith) ∙ below_none k (suc x) ks (rising-rest a x ks p) (omega arith)

-- the key with index i tells on which side of i the count lies
pub below-past : (k a : ℕ) (ks : List ℕ) (i d : ℕ) → rising_from a ks ≡ true → i < length ks → get_or ks i d < k → i < below_in k ks
below-past k a [] i d p l h = let z : ⊥ = omega arith in absurd z
below-past k a (x ∷ ks) zero d p l h = rw (count_yes k x ks h) (omega arith)
below-past k a (x ∷ ks) (suc i) d p l h =
    let m : suc x ≤ get_or ks i d = rising-at (suc x) ks i d (rising-rest a x ks p) (omega arith) in
    let r : i < below_in k ks = below-past k (suc x) ks i d (rising-rest a x ks p) (omega arith) h in
    rw (count_yes k x ks (omega arith)) (omega arith)

pub below-within : (k a : ℕ) (ks : List ℕ) (i d : ℕ) → rising_from a ks ≡ true → i < length ks → k ≤ get_or ks i d → below_in k ks ≤ i
below-within k a [] i d p l h = let z : ⊥ = omega arith in absurd z
below-within k a (x ∷ ks) zero d p l h =
    let e : below_in k ks ≡ 0 = below_none k (suc x) ks (rising-rest a x ks p) (omega arith) in
    rw (count_no k x ks h) (omega arith)
below-within k a (x ∷ ks) (suc i) d p l h =
    let r : below_in k ks ≤ i = below-within k (suc x) ks i d (rising-rest a x ks p) (omega arith) h in
    ⊎_elim (λ (g : k ≤ x). rw (count_no k x ks g) (omega arith)) (λ (g : x < k). rw (count_yes k x ks g) (omega arith)) (less-or-not k x)

-- no fewer are below a larger key
pub below-rises : (k l : ℕ) (ks : List ℕ) → k ≤ l → below_in k ks ≤ below_in l ks
below-rises k l [] h = omega arith
below-rises k l (x ∷ ks) h =
    let r : below_in k ks ≤ below_in l ks = below-rises k l ks h in
    ⊎_elim
    (λ (g : l ≤ x). omega (arith, count_no k x ks (omega arith), count_no l x ks g))
    (λ (g : x < l). ⊎_elim (λ (f : k ≤ x). omega (arith, count_no k x ks f, count_yes l x ks g)) (λ (f : x < k). omega (arith, count_yes k x ks f, count_yes l x ks g)) (less-or-not k x))
    (less-or-not l x)

-- the key with index i has i below it
below_at : (a : ℕ) (ks : List ℕ) (i d : ℕ) → rising_from a ks ≡ true → i < length ks → below_in (get_or ks i d) ks ≡ i
below_at a [] i d p l = let z : ⊥ = omega arith in absurd z
below_at a (x ∷ ks) zero d p l = count_no x x ks (omega arith) ∙ below_none x (suc x) ks (rising-rest a x ks p) (omega arith)
below_at a (x ∷ ks) (suc i) d p l =
    let r = rising-rest a x ks p in
    let m : suc x ≤ get_or ks i d = rising-at (suc x) ks i d r (omega arith) in
    count_yes (get_or ks i d) x ks (omega arith) ∙ ap suc (below_at (suc x) ks i d r (omega arith))

-- ---- a key is there

not-under : (k a : ℕ) (ks : List ℕ) → rising_from a ks ≡ true → k < a → has k ks ≡ false
not-under k a ks p h = has-not k ks (λ i. omega (arith, rising-least a ks p i))

has-past : (k : ℕ) (ks : List ℕ) → length ks ≤ below_in k ks → has k ks ≡ false
has-past k [] h = refl
has-past k (x ∷ ks) h =
    ⊎_elim (λ (l : k ≤ x). absurd (omega (arith, count_no k x ks l, below-most k ks)))
    (λ (l : x < k). rw (ne_eqb k x (λ e. omega arith)) (has-past k ks (omega (arith, count_yes k x ks l))))
    (less-or-not k x)

-- the first key that is not below k decides
has-at : (k a : ℕ) (ks : List ℕ) (d : ℕ) → rising_from a ks ≡ true → below_in k ks < length ks → eqb k (get_or ks (below_in k ks) d) ≡ has k ks
has-at k a [] d p h = let z : ⊥ = omega arith in absurd z
has-at k a (x ∷ ks) d p h =
    let r = rising-rest a x ks p in
    ⊎_elim
    (λ (l : k ≤ x). let z : below_in k (x ∷ ks) ≡ 0 = count_no k x ks l ∙ below_none k (suc x) ks r (omega arith) in
    ap (λ (i : ℕ). eqb k (get_or (x ∷ ks) i d)) z ∙ sym (ap (λ (b : Bool). eqb k x || b) (not-under k (suc x) ks r (omega arith)) ∙ or-false (eqb k x)))
    (λ (l : x < k). ap (λ (i : ℕ). eqb k (get_or (x ∷ ks) i d)) (count_yes k x ks l) ∙ has-at k (suc x) ks d r (omega (arith, count_yes k x ks l))
    ∙ sym (ap (λ (b : Bool). b || has k ks) (ne_eqb k x (λ e. omega arith))))
    (less-or-not k x)

-- ---- counted with no branch

pub byte-most : (b : Bool) → bool_byte b ≤ 1
byte-most true = omega arith
byte-most false = omega arith

-- every eighth key is looked at: one more counts if it is below k, of which there are m in all
pub eighth-turn : (m c j x k : ℕ) → (c ≤ j) × (8 * c ≤ m) × ((c ≡ j) ⊎ (m < 8 * c + 8)) → (x < k → 8 * j + 7 < m) → (k ≤ x → m ≤ 8 * j + 7)
    → (c + bool_byte (ltb x k) ≤ j + 1) × (8 * (c + bool_byte (ltb x k)) ≤ m) × ((c + bool_byte (ltb x k) ≡ j + 1) ⊎ (m < 8 * (c + bool_byte (ltb x k)) + 8))
eighth-turn m c j x k s up down =
    ⊎_elim
    (λ (h : k ≤ x). let d : m ≤ 8 * j + 7 = down h in rw (le-ltb x k h) (omega arith, omega arith, inr (⊎_elim (λ e. omega arith) (λ l. omega arith) s.2)))
    (λ (h : x < k). let u : 8 * j + 7 < m = up h in
    rw (lt-ltb x k h) (omega arith, ⊎_elim (λ e. omega arith) (λ l. omega arith) s.2, ⊎_elim (λ e. inl (omega arith)) (λ l. absurd (omega arith)) s.2))
    (less-or-not k x)

-- every key is
pub near-turn : (m r i x k : ℕ) → (r ≤ i) × (r ≤ m) × ((r ≡ i) ⊎ (m ≤ r)) → (x < k → i < m) → (k ≤ x → m ≤ i)
    → (r + bool_byte (ltb x k) ≤ i + 1) × (r + bool_byte (ltb x k) ≤ m) × ((r + bool_byte (ltb x k) ≡ i + 1) ⊎ (m ≤ r + bool_byte (ltb x k)))
near-turn m r i x k s up down =
    ⊎_elim
    (λ (h : k ≤ x). let d : m ≤ i = down h in rw (le-ltb x k h) (omega arith, omega arith, inr (⊎_elim (λ e. omega arith) (λ l. omega arith) s.2)))
    (λ (h : x < k). let u : i < m = up h in
    rw (lt-ltb x k h) (omega arith, ⊎_elim (λ e. omega arith) (λ l. omega arith) s.2, ⊎_elim (λ e. inl (omega arith)) (λ l. absurd (omega arith)) s.2))
    (less-or-not k x)

-- ---- keys as records

-- what the reader of a key asks
abbrev pub Reads : List ℕ → ℕ → Type 0
Reads t at = (at + 8 ≤ length t) × (limited (key_at t at) ≡ true)

module _ {t : List ℕ} {at w n : ℕ} (r : Ready t at w n) where
  -- the key of the i-th of n records stands before their end
  pub key_reads : (i : ℕ) → i < n → Reads t (at + w * i)
  key_reads i h = (omega (arith, r.wide, r.inside, stride w h), limited-each t w n at r.limits i h)

  pub first_reads : 0 < n → Reads t at
  first_reads h =
      let e : at + w * 0 ≡ at = omega (arith, mul-zero w) in
      subst (Reads t) e (key_reads 0 h)

module _ (s : List ℕ) (w n at : ℕ) where
  abbrev run : List ℕ
  run = keys_from s w n at

  run_length : length run ≡ n
  run_length = length-records (key_at s) w n at

  pub run-most : (k : ℕ) → below_in k run ≤ n
  run-most k = omega (arith, below-most k run, run_length)

  module _ (p : rising run ≡ true) where
    -- a turn of the halving
    pub run_up : (k i : ℕ) → i < n → key_at s (at + w * i) < k → i < below_in k run
    run_up k i h l = below-past k 0 run i 0 p (omega (arith, run_length)) (rw (records-at (key_at s) w n at i 0 h) l)

    pub run_down : (k i : ℕ) → i < n → k ≤ key_at s (at + w * i) → below_in k run ≤ i
    run_down k i h l = below-within k 0 run i 0 p (omega (arith, run_length)) (rw (records-at (key_at s) w n at i 0 h) l)

    pub run_at : (i : ℕ) → i < n → below_in (key_at s (at + w * i)) run ≡ i
    run_at i h = rw (← records-at (key_at s) w n at i 0 h) (below_at 0 run i 0 p (omega (arith, run_length)))

    pub run-rises : (i j : ℕ) → i ≤ j → j < n → key_at s (at + w * i) ≤ key_at s (at + w * j)
    run-rises i j l h =
        ⊎_elim (λ (g : key_at s (at + w * i) ≤ key_at s (at + w * j)). g)
        (λ (g : key_at s (at + w * j) < key_at s (at + w * i)). absurd (omega (arith, run_at i (omega arith), run_up (key_at s (at + w * i)) j h g)))
        (less-or-not (key_at s (at + w * i)) (key_at s (at + w * j)))

    -- what the first key that is not below says
    pub run-has-none : {i : ℕ} (k : ℕ) → i ≡ below_in k run → n ≤ i → false ≡ has k run
    run-has-none k e h = sym (has-past k run (omega (arith, run_length)))

    pub run-has : {i x : ℕ} (k : ℕ) → i ≡ below_in k run → i < n → x ≡ key_at s (at + w * i) → eqb x k ≡ has k run
    run-has {i} {x} k e h q =
        eqb-flip x k ∙ ap (eqb k) (q ∙ sym (records-at (key_at s) w n at i 0 h) ∙ ap (λ (j : ℕ). get_or run j 0) e)
        ∙ has-at k 0 run 0 p (omega (arith, run_length))
