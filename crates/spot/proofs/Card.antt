-- Keys and spots on the card: read, written, and as lists of bytes.
-- Assumes nothing.
use Rattle.std.proofs.Common.{◌≡◌, ℕ, ◌+◌, ◌*◌, ◌/◌, ◌%◌, ◌<◌, ◌≤◌, ◌⊎◌, List, ◌++◌, length, get_or, take, drop, sym, refl, ap, ◌∙◌, ap₂, inl, inr, ⊎_elim, append_assoc, div-add-mod', arith, length-append, length-take-le, get_or-drop, get_or-take, drop-drop, take_at, get_or-append-add}
use lib.ListN.{get_or-append}
use lib.Seq.{drop-append-add}
use Rattle.octets.specs.Bytes.{be, bytes_of, put_be}
use Rattle.octets.proofs.Bytes.{be-cong, be-left, be-right, be-bytes_of, length-bytes_of, put-length, put_other, drop-put-be, put-eq, be-put-same, be-put-other}
use Rattle.spot.specs.declared.Spot.{Spot}
use Rattle.spot.specs.Keys.{word, all_keys, turned}
use Rattle.spot.specs.Spots.{key_at, spot_at, key_bytes, spot_bytes, put_key, put_spot}
use Rattle.spot.proofs.Signed.{turned_lt, turned-turned}
use Rattle.spot.proofs.Halves.{pair_small, high, low}

abbrev pub spot : ℕ → ℕ → Spot
spot k t = record { key = k; track = t }

-- an index moved on
shifted : (s t : List ℕ) (i j m n w : ℕ) → m + n ≤ w → ((k : ℕ) → k < w → get_or s (i + k) 0 ≡ get_or t (j + k) 0)
    → (k : ℕ) → k < n → get_or s (i + m + k) 0 ≡ get_or t (j + m + k) 0
shifted s t i j m n w l h k q =
    let e : i + m + k ≡ i + (m + k) = omega arith in
    let g : j + m + k ≡ j + (m + k) = omega arith in
    rw (e, g) (h (m + k) (omega arith))

-- ---- reading

-- what is read at a spot is its key
pub spot-key : (s : List ℕ) (at : ℕ) → key_at s at ≡ (spot_at s at).key
unfolding spot_at
spot-key s at = refl

pub key_at-lt : (s : List ℕ) (i : ℕ) → key_at s i < all_keys
unfolding key_at
key_at-lt s i = pair_small (turned (be 4 s i)) (turned (be 4 s (i + 4))) (turned_lt (be 4 s i)) (turned_lt (be 4 s (i + 4)))

-- equal bytes, equal keys and spots, wherever they stand
key-cong : (s t : List ℕ) (i j : ℕ) → ((k : ℕ) → k < 8 → get_or s (i + k) 0 ≡ get_or t (j + k) 0) → key_at s i ≡ key_at t j
unfolding key_at
key-cong s t i j h =
    ap₂ (λ (x y : ℕ). turned x * word + turned y) (be-cong 4 s t i j (λ k l. h k (omega arith)))
    (be-cong 4 s t (i + 4) (j + 4) (shifted s t i j 4 4 8 (omega arith) h))

pub spot-cong : (s t : List ℕ) (i j : ℕ) → ((k : ℕ) → k < 12 → get_or s (i + k) 0 ≡ get_or t (j + k) 0) → spot_at s i ≡ spot_at t j
unfolding spot_at
spot-cong s t i j h =
    ap₂ spot (key-cong s t i j (λ k l. h k (omega arith))) (be-cong 4 s t (i + 8) (j + 8) (shifted s t i j 8 4 12 (omega arith) h))

-- in a part of a list
part-byte : (a k : ℕ) (s : List ℕ) (i q : ℕ) → i + q < k → get_or (take k (drop a s)) (i + q) 0 ≡ get_or s (a + i + q) 0
part-byte a k s i q l =
    get_or-take k (drop a s) (i + q) 0 l ∙ get_or-drop a s (i + q) 0 ∙ ap (λ (x : ℕ). get_or s x 0) (omega arith)

pub key_at-part : (a k : ℕ) (s : List ℕ) (i : ℕ) → i + 8 ≤ k → key_at (take k (drop a s)) i ≡ key_at s (a + i)
key_at-part a k s i l = key-cong (take k (drop a s)) s i (a + i) (λ q m. part-byte a k s i q (omega arith))

pub spot_at-part : (a k : ℕ) (s : List ℕ) (i : ℕ) → i + 12 ≤ k → spot_at (take k (drop a s)) i ≡ spot_at s (a + i)
spot_at-part a k s i l = spot-cong (take k (drop a s)) s i (a + i) (λ q m. part-byte a k s i q (omega arith))

-- in the first of two lists, and in the second
pub key_at-left : (a b : List ℕ) (i : ℕ) → i + 8 ≤ length a → key_at (a ++ b) i ≡ key_at a i
key_at-left a b i h = key-cong (a ++ b) a i i (λ k l. get_or-append a b 0 (i + k) (omega arith))

pub spot_at-left : (a b : List ℕ) (i : ℕ) → i + 12 ≤ length a → spot_at (a ++ b) i ≡ spot_at a i
spot_at-left a b i h = spot-cong (a ++ b) a i i (λ k l. get_or-append a b 0 (i + k) (omega arith))

right-byte : (a b : List ℕ) (i k : ℕ) → get_or (a ++ b) (length a + i + k) 0 ≡ get_or b (i + k) 0
right-byte a b i k = let e : length a + i + k ≡ length a + (i + k) = omega arith in rw e (get_or-append-add a b (i + k) 0)

pub key_at-right : (a b : List ℕ) (i : ℕ) → key_at (a ++ b) (length a + i) ≡ key_at b i
key_at-right a b i = key-cong (a ++ b) b (length a + i) i (λ k l. right-byte a b i k)

pub spot_at-right : (a b : List ℕ) (i : ℕ) → spot_at (a ++ b) (length a + i) ≡ spot_at b i
spot_at-right a b i = spot-cong (a ++ b) b (length a + i) i (λ k l. right-byte a b i k)

-- ---- a key written

put_key-length : (s : List ℕ) (i k : ℕ) → length (put_key s i k) ≡ length s
unfolding put_key
put_key-length s i k =
    put-length 4 (put_be 4 s i (turned (k / word))) (i + 4) (turned (k % word)) ∙ put-length 4 s i (turned (k / word))

-- a byte outside the eight is as it was
put_key-other : (s : List ℕ) (i k j : ℕ) → (j < i) ⊎ (i + 8 ≤ j) → get_or (put_key s i k) j 0 ≡ get_or s j 0
unfolding put_key
put_key-other s i k j h =
    put_other 4 (put_be 4 s i (turned (k / word))) (i + 4) (turned (k % word)) j
    (⊎_elim (λ l. inl (omega arith)) (λ l. inr (omega arith)) h)
    ∙ put_other 4 s i (turned (k / word)) j (⊎_elim (λ l. inl l) (λ l. inr (omega arith)) h)

-- the two halves turned twice are the key
halves : (k : ℕ) → k < all_keys → turned (turned (k / word)) * word + turned (turned (k % word)) ≡ k
halves k l =
    ap₂ (λ (x y : ℕ). x * word + y) (turned-turned (k / word) (high k l)) (turned-turned (k % word) (low k)) ∙ div-add-mod' k word

-- reading back the key that was written
key_at-put-same : (s : List ℕ) (i k : ℕ) → i + 8 ≤ length s → k < all_keys → key_at (put_key s i k) i ≡ k
unfolding put_key key_at
key_at-put-same s i k h l =
    let a : ℕ = turned (k / word) in
    let b : ℕ = turned (k % word) in
    let t : List ℕ = put_be 4 s i a in
    let lt : length t ≡ length s = put-length 4 s i a in
    ap₂ (λ (x y : ℕ). turned x * word + turned y)
    (be-put-other 4 4 t (i + 4) b i (inl (omega arith)) ∙ be-put-same 4 s i a (omega arith) (turned_lt (k / word)))
    (be-put-same 4 t (i + 4) b (omega arith) (turned_lt (k % word)))
    ∙ halves k l

-- ---- as lists

pub length-key_bytes : (k : ℕ) → length (key_bytes k) ≡ 8
unfolding key_bytes
length-key_bytes k =
    length-append (bytes_of 4 (turned (k / word))) (bytes_of 4 (turned (k % word)))
    ∙ ap₂ (λ (x y : ℕ). x + y) (length-bytes_of 4 (turned (k / word))) (length-bytes_of 4 (turned (k % word)))

pub length-spot_bytes : (x : Spot) → length (spot_bytes x) ≡ 12
unfolding spot_bytes
length-spot_bytes x =
    length-append (key_bytes x.key) (bytes_of 4 x.track) ∙ ap₂ (λ (m n : ℕ). m + n) (length-key_bytes x.key) (length-bytes_of 4 x.track)

-- bytes put in the place of others, and then those behind them
behind : (s a b : List ℕ) (i m n : ℕ) → i + m + n ≤ length s → length a ≡ m
    → take (i + m) (take i s ++ a ++ drop (i + m) s) ++ b ++ drop (i + m + n) (take i s ++ a ++ drop (i + m) s) ≡ take i s ++ (a ++ b) ++ drop (i + m + n) s
behind s a b i m n h e =
    let p : length (take i s ++ a) ≡ i + m = length-append (take i s) a ∙ ap₂ (λ (x y : ℕ). x + y) (length-take-le i s (omega arith)) e in
    ap₂ (λ (x y : List ℕ). x ++ b ++ y) (take_at (take i s ++ a) (drop (i + m) s) (i + m) p)
    (ap (λ (k : ℕ). drop (k + n) (take i s ++ a ++ drop (i + m) s)) (sym p) ∙ drop-append-add (take i s ++ a) (drop (i + m) s) n ∙ drop-drop n (i + m) s)
    ∙ ap (λ (l : List ℕ). l ++ drop (i + m + n) s) (append_assoc (take i s) a b)

-- what was written, as a whole list
pub put_key-eq : (s : List ℕ) (i k : ℕ) → i + 8 ≤ length s → put_key s i k ≡ take i s ++ key_bytes k ++ drop (i + 8) s
unfolding put_key key_bytes
put_key-eq s i k h =
    let a : ℕ = turned (k / word) in
    let b : ℕ = turned (k % word) in
    let e : put_be 4 s i a ≡ take i s ++ bytes_of 4 a ++ drop (i + 4) s = put-eq 4 s i a (omega arith) in
    let g : i + 4 + 4 ≡ i + 8 = omega arith in
    put-eq 4 (put_be 4 s i a) (i + 4) b (omega (arith, put-length 4 s i a))
    ∙ ap (λ (t : List ℕ). take (i + 4) t ++ bytes_of 4 b ++ drop (i + 4 + 4) t) e
    ∙ behind s (bytes_of 4 a) (bytes_of 4 b) i 4 4 (omega arith) (length-bytes_of 4 a)
    ∙ ap (λ (n : ℕ). take i s ++ (bytes_of 4 a ++ bytes_of 4 b) ++ drop n s) g

-- the key of a key's bytes
pub key_at-key_bytes : (k : ℕ) → k < all_keys → key_at (key_bytes k) 0 ≡ k
unfolding key_at key_bytes
key_at-key_bytes k l =
    let a : List ℕ = bytes_of 4 (turned (k / word)) in
    let b : List ℕ = bytes_of 4 (turned (k % word)) in
    let e : length a ≡ 4 = length-bytes_of 4 (turned (k / word)) in
    let g : length a + 0 ≡ 0 + 4 = omega arith in
    ap₂ (λ (x y : ℕ). turned x * word + turned y)
    (be-left 4 a b 0 (omega arith) ∙ be-bytes_of 4 (turned (k / word)) (turned_lt (k / word)))
    (ap (be 4 (a ++ b)) (sym g) ∙ be-right 4 a b 0 ∙ be-bytes_of 4 (turned (k % word)) (turned_lt (k % word)))
    ∙ halves k l

-- ---- a spot written

pub put_spot-length : (s : List ℕ) (i : ℕ) (x : Spot) → length (put_spot s i x) ≡ length s
unfolding put_spot
put_spot-length s i x = put-length 4 (put_key s i x.key) (i + 8) x.track ∙ put_key-length s i x.key

-- a byte outside the twelve is as it was
put_spot-other : (s : List ℕ) (i : ℕ) (x : Spot) (j : ℕ) → (j < i) ⊎ (i + 12 ≤ j) → get_or (put_spot s i x) j 0 ≡ get_or s j 0
unfolding put_spot
put_spot-other s i x j h =
    put_other 4 (put_key s i x.key) (i + 8) x.track j (⊎_elim (λ l. inl (omega arith)) (λ l. inr (omega arith)) h)
    ∙ put_key-other s i x.key j (⊎_elim (λ l. inl l) (λ l. inr (omega arith)) h)

-- so are all those behind them
pub drop-put_spot : (s : List ℕ) (i : ℕ) (x : Spot) (k : ℕ) → i + 12 ≤ k → drop k (put_spot s i x) ≡ drop k s
unfolding put_spot put_key
drop-put_spot s i x k h =
    let a : List ℕ = put_be 4 s i (turned (x.key / word)) in
    drop-put-be 4 (put_be 4 a (i + 4) (turned (x.key % word))) (i + 8) x.track k (omega arith)
    ∙ drop-put-be 4 a (i + 4) (turned (x.key % word)) k (omega arith)
    ∙ drop-put-be 4 s i (turned (x.key / word)) k (omega arith)

pub spot_at-put-other : (s : List ℕ) (i : ℕ) (x : Spot) (j : ℕ) → (j + 12 ≤ i) ⊎ (i + 12 ≤ j) → spot_at (put_spot s i x) j ≡ spot_at s j
spot_at-put-other s i x j h =
    spot-cong (put_spot s i x) s j j (λ q l. put_spot-other s i x (j + q) (⊎_elim (λ a. inl (omega arith)) (λ a. inr (omega arith)) h))

pub spot_at-put-same : (s : List ℕ) (i : ℕ) (x : Spot) → i + 12 ≤ length s → x.key < all_keys → x.track < word → spot_at (put_spot s i x) i ≡ x
unfolding put_spot spot_at
spot_at-put-same s i x h k t =
    let u : List ℕ = put_key s i x.key in
    let l : length u ≡ length s = put_key-length s i x.key in
    ap₂ spot
    (key-cong (put_be 4 u (i + 8) x.track) u i i (λ q m. put_other 4 u (i + 8) x.track (i + q) (inl (omega arith)))
    ∙ key_at-put-same s i x.key (omega arith) k)
    (be-put-same 4 u (i + 8) x.track (omega arith) t)

pub put_spot-eq : (s : List ℕ) (i : ℕ) (x : Spot) → i + 12 ≤ length s → put_spot s i x ≡ take i s ++ spot_bytes x ++ drop (i + 12) s
unfolding put_spot spot_bytes
put_spot-eq s i x h =
    let a : List ℕ = key_bytes x.key in
    let b : List ℕ = bytes_of 4 x.track in
    let g : i + 8 + 4 ≡ i + 12 = omega arith in
    put-eq 4 (put_key s i x.key) (i + 8) x.track (omega (arith, put_key-length s i x.key))
    ∙ ap (λ (t : List ℕ). take (i + 8) t ++ b ++ drop (i + 8 + 4) t) (put_key-eq s i x.key (omega arith))
    ∙ behind s a b i 8 4 (omega arith) (length-key_bytes x.key)
    ∙ ap (λ (n : ℕ). take i s ++ (a ++ b) ++ drop n s) g

pub spot_at-spot_bytes : (x : Spot) → x.key < all_keys → x.track < word → spot_at (spot_bytes x) 0 ≡ x
unfolding spot_at spot_bytes
spot_at-spot_bytes x k t =
    let a : List ℕ = key_bytes x.key in
    let b : List ℕ = bytes_of 4 x.track in
    let e : length a ≡ 8 = length-key_bytes x.key in
    let g : length a + 0 ≡ 0 + 8 = omega arith in
    ap₂ spot (key_at-left a b 0 (omega arith) ∙ key_at-key_bytes x.key k)
    (ap (be 4 (a ++ b)) (sym g) ∙ be-right 4 a b 0 ∙ be-bytes_of 4 x.track t)
