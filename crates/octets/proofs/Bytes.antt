-- Big-endian numbers in lists of bytes, over the width n: read, written, and as lists of bytes.
-- Assumes nothing.
use mathlib.Core.Path.{◌≡◌, refl, sym, ap, ◌∙◌}
use mathlib.Core.Logic.{◌⊎◌, inl, inr, ⊎_elim}
use mathlib.Core.List.{List, [], ◌∷◌, ◌++◌, append_assoc, append-nil}
use Prim.Native.Nat.{ℕ, zero, suc, ◌+◌, ◌*◌, ◌/◌, ◌%◌, ◌^◌, ◌≤◌, ◌<◌}
use native.Mathlib.Nat.{add-zero, add-suc, pow-suc, mul_assoc}
use native.Mathlib.Omega.{arith}
use lib.ListN.{length, get_or, set, take, drop, length-set, length-append, length-drop, take-append-drop, get_or-append}
use lib.Seq.{get_or-set_same, get_or-set_other, get_or-take, get_or-drop, get_or-append-add, drop-cons, drop-set-lt, take-suc, set_at, length-take-le}
use Rattle.octets.specs.Bytes.{be, bytes_of, put_be}

-- ---- reading

-- equal bytes, equal numbers, wherever they stand
pub be-cong : (n : ℕ) (s t : List ℕ) (i j : ℕ) → ((k : ℕ) → k < n → get_or s (i + k) 0 ≡ get_or t (j + k) 0) → be n s i ≡ be n t j
unfolding be
be-cong zero s t i j h = refl
be-cong (suc n) s t i j h =
    let e : be n s i ≡ be n t j = be-cong n s t i j (λ k l. h k (omega arith)) in
    let f : get_or s (i + n) 0 ≡ get_or t (j + n) 0 = h n (omega arith) in
    omega arith

-- a number of n bytes is below 256 ^ n
pub be-lt : (n : ℕ) (s : List ℕ) (i : ℕ) → ((k : ℕ) → get_or s k 0 < 256) → be n s i < 256 ^ n
unfolding be
be-lt zero s i h = omega arith
be-lt (suc n) s i h =
    let e : be n s i < 256 ^ n = be-lt n s i h in
    let f : get_or s (i + n) 0 < 256 = h (i + n) in
    rw pow-suc (omega arith)

-- a byte is a number of one byte
pub be-one : (s : List ℕ) (i : ℕ) → be 1 s i ≡ get_or s i 0
unfolding be
be-one s i = simp add-zero (omega arith)

-- the first m bytes, and the n after them
pub be-split : (m n : ℕ) (s : List ℕ) (i : ℕ) → be (m + n) s i ≡ be m s i * 256 ^ n + be n s (i + m)
unfolding be
be-split m zero s i = rw add-zero (omega arith)
be-split m (suc n) s i =
    let g : i + m + n ≡ i + (m + n) = omega arith in
    let e : be (m + n) s i ≡ be m s i * 256 ^ n + be n s (i + m) = be-split m n s i in
    let p : be m s i * 256 ^ suc n ≡ be m s i * 256 ^ n * 256 = ap (λ (x : ℕ). be m s i * x) (pow-suc 256 n) ∙ sym (mul_assoc (be m s i) (256 ^ n) 256) in
    rw (add-suc m n, g) (omega arith)

-- ---- writing

pub put-length : (n : ℕ) (s : List ℕ) (i v : ℕ) → length (put_be n s i v) ≡ length s
unfolding put_be
put-length zero s i v = refl
put-length (suc n) s i v = length-set (put_be n s i (v / 256)) (i + n) (v % 256) ∙ put-length n s i (v / 256)

-- a byte outside the n written ones is as it was
pub put_other : (n : ℕ) (s : List ℕ) (i v j : ℕ) → (j < i) ⊎ (i + n ≤ j) → get_or (put_be n s i v) j 0 ≡ get_or s j 0
unfolding put_be
put_other zero s i v j h = refl
put_other (suc n) s i v j h =
    get_or-set_other (put_be n s i (v / 256)) (i + n) j (v % 256) 0 (⊎_elim (λ l e. omega arith) (λ l e. omega arith) h)
    ∙ put_other n s i (v / 256) j (⊎_elim (λ l. inl l) (λ l. inr (omega arith)) h)

-- so are all those behind them
pub drop-put-be : (n : ℕ) (s : List ℕ) (i v k : ℕ) → i + n ≤ k → drop k (put_be n s i v) ≡ drop k s
unfolding put_be
drop-put-be zero s i v k h = refl
drop-put-be (suc n) s i v k h =
    drop-set-lt k (put_be n s i (v / 256)) (i + n) (v % 256) (omega arith) ∙ drop-put-be n s i (v / 256) k (omega arith)

-- a number that stands apart from the written one is as it was
pub be-put-other : (m n : ℕ) (s : List ℕ) (i v j : ℕ) → (j + m ≤ i) ⊎ (i + n ≤ j) → be m (put_be n s i v) j ≡ be m s j
be-put-other m n s i v j h =
    be-cong m (put_be n s i v) s j j
    (λ k l. put_other n s i v (j + k) (⊎_elim (λ a. inl (omega arith)) (λ a. inr (omega arith)) h))

-- so is one that stands before it
pub be-before : (n : ℕ) (s u : List ℕ) (i v : ℕ) → u ≡ put_be n s i v → (m j : ℕ) → j + m ≤ i → be m u j ≡ be m s j
be-before n s u i v e m j l = ap (λ (x : List ℕ). be m x j) e ∙ be-put-other m n s i v j (inl l)

-- reading back what was written
pub be-put-same : (n : ℕ) (s : List ℕ) (i v : ℕ) → i + n ≤ length s → v < 256 ^ n → be n (put_be n s i v) i ≡ v
unfolding be put_be
be-put-same zero s i v h l = omega arith
be-put-same (suc n) s i v h l =
    let p : List ℕ = put_be n s i (v / 256) in
    let e : be n (set p (i + n) (v % 256)) i ≡ be n p i =
    be-cong n (set p (i + n) (v % 256)) p i i (λ k q. get_or-set_other p (i + n) (i + k) (v % 256) 0 (λ x. omega arith))
    in
    let r : be n p i ≡ v / 256 = be-put-same n s i (v / 256) (omega arith) (omega (arith, rw pow-suc at l)) in
    let len : length p ≡ length s = put-length n s i (v / 256) in
    let g : get_or (set p (i + n) (v % 256)) (i + n) 0 ≡ v % 256 = get_or-set_same p (i + n) (v % 256) 0 (omega arith) in
    omega arith

-- ---- as lists

pub length-bytes_of : (n v : ℕ) → length (bytes_of n v) ≡ n
unfolding bytes_of
length-bytes_of zero v = refl
length-bytes_of (suc n) v =
    length-append (bytes_of n (v / 256)) (v % 256 ∷ []) ∙ ap (λ (x : ℕ). x + 1) (length-bytes_of n (v / 256)) ∙ omega arith

-- what was written, as a whole list
pub put-eq : (n : ℕ) (s : List ℕ) (i v : ℕ) → i + n ≤ length s → put_be n s i v ≡ take i s ++ bytes_of n v ++ drop (i + n) s
unfolding put_be bytes_of
put-eq zero s i v h = rw (add-zero, append-nil, take-append-drop)
put-eq (suc n) s i v h =
    let b : ℕ = v % 256 in
    let p : List ℕ = take i s ++ bytes_of n (v / 256) in
    let len : length p ≡ i + n =
    length-append (take i s) (bytes_of n (v / 256)) ∙ ap (λ (x : ℕ). x + length (bytes_of n (v / 256))) (length-take-le i s (omega arith))
    ∙ ap (λ (x : ℕ). i + x) (length-bytes_of n (v / 256))
    in
    ap (λ (l : List ℕ). set l (i + n) b) (put-eq n s i (v / 256) (omega arith))
    ∙ ap (λ (r : List ℕ). set (p ++ r) (i + n) b) (drop-cons s (i + n) 0 (omega arith))
    ∙ set_at p (get_or s (i + n) 0) (drop (suc (i + n)) s) b (i + n) len
    ∙ simp (add-suc, append_assoc)

-- a number in the first of two lists, and in the second
pub be-left : (n : ℕ) (a b : List ℕ) (i : ℕ) → i + n ≤ length a → be n (a ++ b) i ≡ be n a i
be-left n a b i h = be-cong n (a ++ b) a i i (λ k l. get_or-append a b 0 (i + k) (omega arith))

pub be-right : (n : ℕ) (a b : List ℕ) (i : ℕ) → be n (a ++ b) (length a + i) ≡ be n b i
be-right n a b i =
    be-cong n (a ++ b) b (length a + i) i
    (λ k l. let e : length a + i + k ≡ length a + (i + k) = omega arith in rw e (get_or-append-add a b (i + k) 0))

-- a number in a part of a list is the number in the whole
pub be-part : (n a k : ℕ) (s : List ℕ) (i : ℕ) → i + n ≤ k → be n (take k (drop a s)) i ≡ be n s (a + i)
be-part n a k s i l =
    be-cong n (take k (drop a s)) s i (a + i)
    (λ q m. get_or-take k (drop a s) (i + q) 0 (omega arith) ∙ get_or-drop a s (i + q) 0 ∙ ap (λ (x : ℕ). get_or s x 0) (omega arith))

pub be-take : (n k : ℕ) (s : List ℕ) (i : ℕ) → i + n ≤ k → be n (take k s) i ≡ be n s i
be-take n k s i l = be-cong n (take k s) s i i (λ q m. get_or-take k s (i + q) 0 (omega arith))

-- the number of a number's bytes
pub be-bytes_of : (n v : ℕ) → v < 256 ^ n → be n (bytes_of n v) 0 ≡ v
unfolding be bytes_of
be-bytes_of zero v h = omega arith
be-bytes_of (suc n) v h =
    let a : List ℕ = bytes_of n (v / 256) in
    let len : length a ≡ n = length-bytes_of n (v / 256) in
    let z : length a + 0 ≡ 0 + n = omega arith in
    let e : be n (a ++ (v % 256 ∷ [])) 0 ≡ v / 256 =
    be-left n a (v % 256 ∷ []) 0 (omega arith) ∙ be-bytes_of n (v / 256) (omega (arith, rw pow-suc at h))
    in
    let g : get_or (a ++ (v % 256 ∷ [])) (0 + n) 0 ≡ v % 256 =
    ap (λ (x : ℕ). get_or (a ++ (v % 256 ∷ [])) x 0) (sym z) ∙ get_or-append-add a (v % 256 ∷ []) 0 0
    in
    omega arith

-- the bytes of a number that stands in a list of bytes
pub bytes_of-be : (n : ℕ) (s : List ℕ) (i : ℕ) → ((k : ℕ) → get_or s k 0 < 256) → i + n ≤ length s → bytes_of n (be n s i) ≡ take n (drop i s)
unfolding be bytes_of
bytes_of-be zero s i b h = refl
bytes_of-be (suc n) s i b h =
    let f : get_or s (i + n) 0 < 256 = b (i + n) in
    let q : (be n s i * 256 + get_or s (i + n) 0) / 256 ≡ be n s i = omega arith in
    let r : (be n s i * 256 + get_or s (i + n) 0) % 256 ≡ get_or s (i + n) 0 = omega arith in
    let l : n < length (drop i s) = rw length-drop (omega arith) in
    rw (q, r, bytes_of-be n s i b (omega arith), take-suc (drop i s) n 0 l, get_or-drop i s n 0)
