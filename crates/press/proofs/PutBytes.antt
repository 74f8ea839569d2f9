-- Keys and spots written behind other bytes: an entry and the front of the catalogue; and bytes at the front of zeros make a block.
-- Assumes nothing.
use mathlib.Core.Path.{◌≡◌, sym, ap, ap₂, ◌∙◌}
use mathlib.Core.List.{List, ◌++◌, append_assoc}
use Prim.Native.Nat.{ℕ, zero, suc, ◌+◌, ◌-◌, ◌*◌, ◌≤◌}
use native.Mathlib.Omega.{arith}
use lib.ListN.{length, take, drop, replicate, length-append, length-replicate}
use lib.Seq.{drop-drop}
use borrow.Rule.Slice.PartMut.{put_mid}
use Rattle.octets.specs.Bytes.{bytes_of, put_be, put_bytes}
use Rattle.octets.proofs.Bytes.{length-bytes_of}
use Rattle.octets.proofs.Lists.{over-all}
use Rattle.octets.proofs.Parts.{bytes-length, bytes-behind, number-bytes, number_behind}
use Rattle.spot.specs.Spots.{key_bytes, spot_bytes, put_key, put_spot}
use Rattle.spot.specs.declared.Spot.{Spot}
use Rattle.spot.proofs.Card.{length-key_bytes}
use Rattle.spot.proofs.PutBytes.{key-bytes, spot-bytes}
use Rattle.sweep.specs.Pressed.{padded}
use Rattle.press.specs.Writing.{fields_bytes, head_bytes}
use Rattle.press.specs.declared.Extent.{Extent}

-- ---- one write behind the other

module _ (s a : List ℕ) {t : List ℕ} (i j : ℕ) (e : i + length a ≡ j) (p : t ≡ put_bytes s i a) where
  same-long : i + length a ≤ length s → length t ≡ length s
  same-long h = ap length p ∙ bytes-length s a i h

  key-behind : {u : List ℕ} (k : ℕ) → j + 8 ≤ length s → u ≡ put_key t j k → u ≡ put_bytes s i (a ++ key_bytes k)
  key-behind k h q =
      let l = same-long (omega arith) in
      bytes-behind s a (key_bytes k) i j e (omega arith) p (q ∙ key-bytes t j k (omega arith))

  pub spot-behind : {u : List ℕ} (x : Spot) → j + 12 ≤ length s → u ≡ put_spot t j x → u ≡ put_bytes s i (a ++ spot_bytes x)
  spot-behind x h q =
      let l = same-long (omega arith) in
      bytes-behind s a (spot_bytes x) i j e (omega arith) p (q ∙ spot-bytes t j x (omega arith))

-- an entry of the catalogue
pub fields-written : (s : List ℕ) (at : ℕ) (e : Extent) (made ended : ℕ) {a b c d u : List ℕ} → at + 36 ≤ length s → a ≡ put_be 4 s at e.n
    → b ≡ put_key a (at + 4) e.low → c ≡ put_key b (at + 12) e.high → d ≡ put_key c (at + 20) made → u ≡ put_key d (at + 28) ended
    → u ≡ put_bytes s at (fields_bytes e made ended)
unfolding fields_bytes
fields-written s at e made ended h pa pb pc pd pu =
    let n : List ℕ = bytes_of 4 e.n in
    let l : List ℕ = n ++ key_bytes e.low in
    let g : List ℕ = l ++ key_bytes e.high in
    let m : List ℕ = g ++ key_bytes made in
    let ln : length n ≡ 4 = length-bytes_of 4 e.n in
    let ll : length l ≡ 12 = omega (arith, length-append n (key_bytes e.low), length-key_bytes e.low) in
    let lg : length g ≡ 20 = omega (arith, length-append l (key_bytes e.high), length-key_bytes e.high) in
    let lm : length m ≡ 28 = omega (arith, length-append g (key_bytes made), length-key_bytes made) in
    key-behind s m at (at + 28) (omega arith)
    (key-behind s g at (at + 20) (omega arith)
    (key-behind s l at (at + 12) (omega arith)
    (key-behind s n at (at + 4) (omega arith) (pa ∙ number-bytes 4 s at e.n (omega arith)) e.low (omega arith) pb)
    e.high (omega arith) pc)
    made (omega arith) pd)
    ended (omega arith) pu

-- ---- zeros

abbrev pub zeros : ℕ → List ℕ
zeros n = replicate n 0

-- all of a list of n made zero
pub zeroed : (n : ℕ) (s : List ℕ) {u : List ℕ} → length s ≡ n → u ≡ zeros n ++ drop n s → u ≡ zeros n
zeroed n s h e = e ∙ over-all (zeros n) s n (omega arith)

-- the front of the catalogue
pub head-written : (m : ℕ) (n : ℕ) {a b u : List ℕ} → 8 ≤ m → a ≡ zeros m → b ≡ put_be 4 a 0 (2048 * (n + 1)) → u ≡ put_be 4 b 4 16777216
    → u ≡ put_bytes (zeros m) 0 (head_bytes n)
unfolding head_bytes
head-written m n h pa pb pu =
    let z : List ℕ = zeros m in
    let l : length z ≡ m = length-replicate m 0 in
    let e : n + 1 ≡ suc n = omega arith in
    let k : ℕ = 2048 * suc n in
    number_behind 4 z (bytes_of 4 k) 0 4 16777216 (ap (λ (j : ℕ). 0 + j) (length-bytes_of 4 k)) (omega arith)
    (pb ∙ ap₂ (λ (x : List ℕ) (y : ℕ). put_be 4 x 0 (2048 * y)) pa e ∙ number-bytes 4 z 0 k (omega arith))
    pu

drop-replicate : (k n : ℕ) → drop k (zeros n) ≡ zeros (n - k)
drop-replicate zero n = ap (λ (j : ℕ). zeros j) (let e : n ≡ n - 0 = omega arith in e)
drop-replicate (suc k) zero = ap (λ (j : ℕ). zeros j) (let e : 0 ≡ 0 - suc k = omega arith in e)
drop-replicate (suc k) (suc n) = drop-replicate k n ∙ ap (λ (j : ℕ). zeros j) (let e : n - k ≡ suc n - suc k = omega arith in e)

-- bytes at the front of as many zeros as a block has bytes
pub block_made : (n : ℕ) (xs : List ℕ) → n ≡ 2048 → put_bytes (zeros n) 0 xs ≡ padded xs
unfolding put_bytes padded
block_made n xs h =
    let e : 0 + length xs ≡ length xs = omega arith in
    ap (λ (l : List ℕ). xs ++ l) (ap (λ (k : ℕ). drop k (zeros n)) e ∙ drop-replicate (length xs) n)
    ∙ ap (λ (k : ℕ). xs ++ zeros (k - length xs)) h

pub length-padded : (xs : List ℕ) → length xs ≤ 2048 → length (padded xs) ≡ 2048
unfolding padded
length-padded xs h = length-append xs (zeros (2048 - length xs)) ∙ omega (arith, length-replicate {A = ℕ} (2048 - length xs) 0)

-- ---- a part of a list, lent and back

pub part-back : (t ys : List ℕ) (a e : ℕ) → length ys ≡ e - a → put_mid a (e - a) t ys ≡ put_bytes t a ys
unfolding put_bytes
part-back t ys a e h =
    sym (append_assoc (take a t) ys (drop (e - a) (drop a t)))
    ∙ ap (λ (l : List ℕ). take a t ++ ys ++ l) (drop-drop (e - a) a t ∙ ap (λ (k : ℕ). drop (a + k) t) (sym h))
