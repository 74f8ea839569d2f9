-- Maps of blocks: a map is its bits, what `marked` and `unseen` do to them, and the two maps that a walk and Check make: the blocks read, and the blocks
-- reached.
-- Assumes nothing.
use mathlib.Core.Path.{◌≡◌, refl, ap, ap₂, sym, ◌∙◌}
use mathlib.Core.Logic.{⊎_elim}
use mathlib.Core.Bool.{Bool, true, false, not, ◌&&◌, ◌||◌, or-true, or-false, or_assoc, and_assoc}
use mathlib.Core.List.{List, [], ◌∷◌, ◌++◌, Memᴰ}
use Prim.Native.Nat.{ℕ, zero, suc, ◌+◌, ◌*◌, ◌/◌, ◌%◌, ◌^◌, ◌≤◌, ◌<◌}
use native.Mathlib.Nat.{pow-suc}
use native.Mathlib.Omega.{arith}
use lib.ListN.{length, get_or, set, replicate, length-set, length-replicate, get_or-eq_default}
use lib.Seq.{ext_get_or, get_or-set_same, get_or-set_other}
use lib.Dec.{eqb}
use lib.Bits.{bit_or, or_lt}
use lib.Pow.{pow-lt}
use borrow.Author.Tests.{eq-eqb, ne_eqb, eqb-true}
use Rattle.octets.specs.Lists.{every, has, distinct, records, same_list}
use Rattle.octets.specs.Bitmap.{bit, set_bit, mark_byte}
use Rattle.octets.proofs.Order.{same_or_not, less-or-not, eqb-flip}
use Rattle.octets.proofs.Tests.{and_left, and_right, and_both, bool-ext, same_lists, lists-same}
use Rattle.octets.proofs.Records.{length-records, records-at}
use Rattle.octets.proofs.Digits.{digit_at, digit-zero, digit-suc, digit_lt}
use Rattle.octets.proofs.Bits.{zeros-at, bit-zeros, set_bit-length, set_bit-same, set_bit-other}
use Rattle.octets.proofs.Marks.{mark-byte-lt}
use Rattle.block.specs.Table.{map_bytes}
use Rattle.tree.specs.Sound.{map_exact}
use Rattle.tree.specs.ReadMap.{is_read, read_map}
use Rattle.tree.specs.Trace.{unseen, marked}
use Rattle.tree.proofs.Onto.{onto, has-onto}
use Rattle.tree.proofs.Marks.{map-bit, exact-once, exact-bit, exact-make}

-- every number is a byte
abbrev pub Bytes : List ℕ → Type 0
Bytes s = (i : ℕ) → get_or s i 0 < 256

-- past the end there are zeros
byte_past : (s : List ℕ) (i : ℕ) → length s ≤ i → get_or s i 0 < 256
byte_past s i l = let e : get_or s i 0 ≡ 0 = get_or-eq_default s 0 l in omega arith

-- ---- a map is its bits

-- numbers of k digits that agree in each are one
digits_same : (k x y : ℕ) → x < 2 ^ k → y < 2 ^ k → ((j : ℕ) → j < k → digit_at x j ≡ digit_at y j) → x ≡ y
digits_same zero x y a b h = omega arith
digits_same (suc k) x y a b h =
    let p : 2 ^ suc k ≡ 2 ^ k * 2 = pow-suc 2 k in
    let e : x / 2 ≡ y / 2 = digits_same k (x / 2) (y / 2) (omega arith) (omega arith) (λ j l. sym (digit-suc x j) ∙ h (suc j) (omega arith) ∙ digit-suc y j) in
    omega (arith, h 0 (omega arith), digit-zero x, digit-zero y)

digit-same : (a b : ℕ) → a < 2 → b < 2 → eqb a 1 ≡ eqb b 1 → a ≡ b
digit-same a b l m e =
    ⊎_elim (λ (x : a ≡ 1). x ∙ sym (eqb-true b 1 (sym e ∙ eq-eqb a 1 x)))
    (λ (x : a ≡ 1 → ⊥). ⊎_elim (λ (y : b ≡ 1). absurd (x (eqb-true a 1 (e ∙ eq-eqb b 1 y)))) (λ (y : b ≡ 1 → ⊥). none x y) (same_or_not b 1))
    (same_or_not a 1)
  where
    none : (a ≡ 1 → ⊥) → (b ≡ 1 → ⊥) → a ≡ b
    none x y = omega arith

bit-digit : (a b : List ℕ) (i j : ℕ) → j < 8 → bit a (8 * i + j) ≡ bit b (8 * i + j) → digit_at (get_or a i 0) j ≡ digit_at (get_or b i 0) j
unfolding bit digit_at
bit-digit a b i j l e =
    let p : (8 * i + j) / 8 ≡ i = omega arith in
    let q : (8 * i + j) % 8 ≡ j = omega arith in
    digit-same (digit_at (get_or a i 0) j) (digit_at (get_or b i 0) j) (digit_lt (get_or a i 0) j) (digit_lt (get_or b i 0) j) (rw (p, q) at e)

-- two maps with the same bits are one
pub bits-same : (a b : List ℕ) → length a ≡ length b → Bytes a → Bytes b → ((k : ℕ) → k < 8 * length a → bit a k ≡ bit b k) → a ≡ b
bits-same a b e f g h =
    ext_get_or 0 a b e (λ i l. digits_same 8 (get_or a i 0) (get_or b i 0) (f i) (g i) (λ j m. bit-digit a b i j m (h (8 * i + j) (omega arith))))

-- ---- bits that are set

-- a map with a bit set is still made of bytes
pub set_bit-bytes : (m : List ℕ) (n : ℕ) → Bytes m → Bytes (set_bit m n)
unfolding set_bit
set_bit-bytes m n f i =
    ⊎_elim
    (λ (e : i ≡ n / 8).
    ⊎_elim (λ (l : length m ≤ i). byte_past (set m (n / 8) x) i (rw (length-set m (n / 8) x) l))
    (λ (l : i < length m). rw (e, get_or-set_same m (n / 8) x 0 (omega arith)) (or_lt 8 (get_or m (n / 8) 0) (2 ^ (n % 8)) (f (n / 8)) (pow-lt small)))
    (less-or-not (length m) i))
    (λ (d : i ≡ n / 8 → ⊥). rw (get_or-set_other m (n / 8) i x 0 d) (f i))
    (same_or_not i (n / 8))
  where
    x : ℕ
    x = bit_or (get_or m (n / 8) 0) (2 ^ (n % 8))

    small : n % 8 < 8
    small = omega arith

-- its bits
pub bit-set_bit : (m : List ℕ) (n k : ℕ) → n < 8 * length m → bit (set_bit m n) k ≡ bit m k || eqb k n
bit-set_bit m n k l =
    ⊎_elim (λ (e : k ≡ n). rw (eq-eqb k n e, or-true (bit m k)) (ap (bit (set_bit m n)) e ∙ set_bit-same m n (omega arith)))
    (λ (d : k ≡ n → ⊥). rw (ne_eqb k n d, or-false (bit m k)) (set_bit-other m n k (omega arith) d))
    (same_or_not k n)

-- every block has a bit in a map of so many bytes
abbrev pub Fit : List ℕ → ℕ → Type 0
Fit bs n = (b : ℕ) → Memᴰ b bs → b < 8 * n

fit-rest : (x : ℕ) (xs : List ℕ) (m : List ℕ) → Fit (x ∷ xs) (length m) → Fit xs (length (set_bit m x))
fit-rest x xs m h b i = rw (set_bit-length m x) (h b (Memᴰ.tail i))

-- marking some blocks: the length
pub marked-length : (m bs : List ℕ) → length (marked m bs) ≡ length m
marked-length m [] = refl
marked-length m (b ∷ bs) = marked-length (set_bit m b) bs ∙ set_bit-length m b

-- the bytes
marked-bytes : (m bs : List ℕ) → Bytes m → Bytes (marked m bs)
marked-bytes m [] f = f
marked-bytes m (b ∷ bs) f = marked-bytes (set_bit m b) bs (set_bit-bytes m b f)

-- and the bits
bit-marked : (m bs : List ℕ) → Fit bs (length m) → (k : ℕ) → bit (marked m bs) k ≡ bit m k || has k bs
bit-marked m [] h k = sym (or-false (bit m k))
bit-marked m (b ∷ bs) h k =
    bit-marked (set_bit m b) bs (fit-rest b bs m h) k ∙ ap (λ (a : Bool). a || has k bs) (bit-set_bit m b k (h b (Memᴰ.head refl))) ∙
    or_assoc (bit m k) (eqb k b) (has k bs)

-- some blocks after others
pub marked_append : (m xs ys : List ℕ) → marked m (xs ++ ys) ≡ marked (marked m xs) ys
marked_append m [] ys = refl
marked_append m (x ∷ xs) ys = marked_append (set_bit m x) xs ys

-- ---- an empty map

-- n zero bytes
abbrev pub zeros : ℕ → List ℕ
zeros n = replicate n 0

-- its bytes
pub zeros-bytes : (n : ℕ) → Bytes (zeros n)
zeros-bytes n i = rw (zeros-at n i) (omega arith)

-- ---- the map of blocks read

-- block 0 and these blocks marked in an empty map of n bytes
abbrev pub fresh_marks : ℕ → List ℕ → List ℕ
fresh_marks n bs = set_bit (marked (zeros n) bs) 0

module _ (n : ℕ) (bs : List ℕ) where
  -- its length
  fresh-length : length (fresh_marks n bs) ≡ n
  fresh-length = set_bit-length (marked (zeros n) bs) 0 ∙ marked-length (zeros n) bs ∙ length-replicate n 0

  -- its bytes
  fresh-bytes : Bytes (fresh_marks n bs)
  fresh-bytes = set_bit-bytes (marked (zeros n) bs) 0 (marked-bytes (zeros n) bs (zeros-bytes n))

  -- its bits are those of the map of blocks read
  fresh-bit : 0 < n → Fit bs n → (k : ℕ) → bit (fresh_marks n bs) k ≡ is_read bs k
  unfolding is_read
  fresh-bit z h k =
      bit-set_bit (marked (zeros n) bs) 0 k (omega (arith, marked-length (zeros n) bs, length-replicate {A = ℕ} n 0)) ∙
      ap (λ (a : Bool). a || eqb k 0) (bit-marked (zeros n) bs (λ b i. rw (length-replicate {A = ℕ} n 0) (h b i)) k ∙ ap (λ (a : Bool). a || has k bs) (bit-zeros n k)) ∙
      swap (has k bs) (eqb k 0)
    where
      swap : (a b : Bool) → a || b ≡ b || a
      swap true b = sym (or-true b)
      swap false b = sym (or-false b)

-- the length of the map of blocks read
pub read_length : (bs : List ℕ) → length (read_map bs) ≡ map_bytes
unfolding read_map
read_length bs = length-records (mark_byte (is_read bs)) 8 map_bytes 0

marks-bytes : (f : ℕ → Bool) (n : ℕ) → Bytes (records (mark_byte f) 8 n 0)
marks-bytes f n i =
    ⊎_elim (λ (l : n ≤ i). byte_past (records (mark_byte f) 8 n 0) i (rw (length-records (mark_byte f) 8 n 0) l))
    (λ (l : i < n). rw (records-at (mark_byte f) 8 n 0 i 0 l) (mark-byte-lt f (0 + 8 * i)))
    (less-or-not n i)

-- and its bytes
pub read-bytes : (bs : List ℕ) → Bytes (read_map bs)
unfolding read_map
read-bytes bs = marks-bytes (is_read bs) map_bytes

-- marking makes this map
pub marks-make : (bs : List ℕ) → ((b : ℕ) → Memᴰ b bs → b < 4096) → set_bit (marked (replicate 512 0) bs) 0 ≡ read_map bs
marks-make bs h =
    bits-same (fresh_marks 512 bs) (read_map bs) (fresh-length 512 bs ∙ sym (read_length bs)) (fresh-bytes 512 bs) (read-bytes bs)
    (λ k l. fresh-bit 512 bs (omega arith) (λ b i. omega (arith, h b i)) k ∙ sym (map-bit bs k (omega (arith, fresh-length 512 bs))))

-- the order in which blocks are read leaves no trace in the map
pub read-onto : (bs : List ℕ) → read_map (onto bs []) ≡ read_map bs
unfolding is_read
read-onto bs =
    bits-same (read_map (onto bs [])) (read_map bs) (read_length (onto bs []) ∙ sym (read_length bs)) (read-bytes (onto bs [])) (read-bytes bs)
    (λ k l.
    let m : k < 8 * map_bytes = omega (arith, read_length (onto bs [])) in
    map-bit (onto bs []) k m ∙ ap (λ (a : Bool). eqb k 0 || a) (has-onto k bs) ∙ sym (map-bit bs k m))

-- ---- blocks that are not marked

clear-after : (m : List ℕ) (b : ℕ) → b < 8 * length m → (bs : List ℕ)
    → every (λ k. not (bit (set_bit m b) k)) bs ≡ not (has b bs) && every (λ k. not (bit m k)) bs
clear-after m b l [] = refl
clear-after m b l (x ∷ xs) =
    ap₂ (λ (s t : Bool). not s && t) (bit-set_bit m b x l) (clear-after m b l xs) ∙
    ap (λ (s : Bool). not (bit m x || s) && (not (has b xs) && every (λ k. not (bit m k)) xs)) (eqb-flip x b) ∙
    go (bit m x) (eqb b x) (has b xs) (every (λ k. not (bit m k)) xs)
  where
    go : (s e h r : Bool) → not (s || e) && (not h && r) ≡ not (e || h) && (not s && r)
    go true true h r = refl
    go true false true r = refl
    go true false false r = refl
    go false true h r = refl
    go false false h r = refl

-- one block, and then the others
pub unseen-cons : (m : List ℕ) (b : ℕ) (bs : List ℕ) → b < 8 * length m → unseen m (b ∷ bs) ≡ not (bit m b) && unseen (set_bit m b) bs
unfolding unseen
unseen-cons m b bs l =
    go (not (bit m b)) (every (λ k. not (bit m k)) bs) (not (has b bs)) (distinct bs) ∙
    ap (λ (t : Bool). not (bit m b) && (t && distinct bs)) (sym (clear-after m b l bs))
  where
    go : (s r h d : Bool) → (s && r) && (h && d) ≡ s && ((h && r) && d)
    go true true true d = refl
    go true true false d = refl
    go true false true d = refl
    go true false false d = refl
    go false r h d = refl

-- no block
pub unseen-nil : (m : List ℕ) → unseen m [] ≡ true
unfolding unseen
unseen-nil m = refl

-- some blocks after others
pub unseen-append : (m xs ys : List ℕ) → Fit xs (length m) → unseen m (xs ++ ys) ≡ unseen m xs && unseen (marked m xs) ys
unseen-append m [] ys h = rw (unseen-nil m)
unseen-append m (x ∷ xs) ys h =
    let l = h x (Memᴰ.head refl) in
    unseen-cons m x (xs ++ ys) l ∙ ap (λ (t : Bool). not (bit m x) && t) (unseen-append (set_bit m x) xs ys (fit-rest x xs m h)) ∙
    sym (and_assoc (not (bit m x)) (unseen (set_bit m x) xs) (unseen (marked (set_bit m x) xs) ys)) ∙
    ap (λ (t : Bool). t && unseen (marked m (x ∷ xs)) ys) (sym (unseen-cons m x xs l))

-- in an empty map only a block that stands twice is seen
pub unseen-zeros : (n : ℕ) (bs : List ℕ) → unseen (zeros n) bs ≡ distinct bs
unfolding unseen
unseen-zeros n bs = ap (λ (t : Bool). t && distinct bs) (clear bs)
  where
    clear : (xs : List ℕ) → every (λ b. not (bit (zeros n) b)) xs ≡ true
    clear [] = refl
    clear (x ∷ xs) = rw (bit-zeros n x) (clear xs)

-- ---- the map of blocks in use

-- the map is exact where no block is reached twice and it is the map that marks the blocks reached
pub exact-by : (m reached : List ℕ) → length m ≡ 512 → Bytes m → ((b : ℕ) → Memᴰ b reached → b < 4096)
    → map_exact m reached ≡ distinct reached && same_list m (set_bit (marked (replicate 512 0) reached) 0)
exact-by m reached e f h =
    bool-ext (map_exact m reached) (distinct reached && same_list m (fresh_marks 512 reached))
    (λ x.
    and_both (distinct reached) (same_list m (fresh_marks 512 reached)) (exact-once m reached x)
    (lists-same m (fresh_marks 512 reached)
    (bits-same m (fresh_marks 512 reached) (e ∙ sym (fresh-length 512 reached)) f (fresh-bytes 512 reached) (λ k l. exact-bit m reached x k (omega arith) ∙ sym (bits k)))))
    (λ x.
    exact-make m reached (and_left (distinct reached) (same_list m (fresh_marks 512 reached)) x)
    (λ b l. ap (λ (a : List ℕ). bit a b) (same_lists m (fresh_marks 512 reached) (and_right (distinct reached) (same_list m (fresh_marks 512 reached)) x)) ∙ bits b))
  where
    bits : (k : ℕ) → bit (fresh_marks 512 reached) k ≡ is_read reached k
    bits k = fresh-bit 512 reached (omega arith) (λ b i. omega (arith, h b i)) k
