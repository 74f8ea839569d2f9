-- Bytes put in the place of others, one part behind the other, and numbers as such bytes; and what lies behind a place.
-- Assumes nothing.
use mathlib.Core.Path.{◌≡◌, sym, ap, ap₂, ◌∙◌}
use mathlib.Core.List.{List, [], ◌++◌, append_assoc, append-nil}
use Prim.Native.Nat.{ℕ, ◌+◌, ◌-◌, ◌≤◌}
use native.Mathlib.Nat.{add-zero}
use native.Mathlib.Omega.{arith}
use lib.ListN.{length, take, drop, length-append, length-drop, take-append-drop}
use lib.Seq.{take_at, length-take-le, drop-append-add, drop-drop}
use Rattle.octets.specs.Bytes.{bytes_of, put_be, put_bytes}
use Rattle.octets.proofs.Bytes.{put-eq, length-bytes_of}

module _ {A : Type 0} where
  -- what is the same behind a place is the same behind each later one
  pub drop_more : (s u : List A) (a b : ℕ) → a ≤ b → drop a s ≡ drop a u → drop b s ≡ drop b u
  drop_more s u a b h e =
      let g : b ≡ a + (b - a) = omega arith in
      ap (λ (i : ℕ). drop i s) g ∙ sym (drop-drop (b - a) a s) ∙ ap (drop (b - a)) e ∙ drop-drop (b - a) a u ∙ ap (λ (i : ℕ). drop i u) (sym g)

pub bytes-nothing : (s : List ℕ) (i : ℕ) → s ≡ put_bytes s i []
unfolding put_bytes
bytes-nothing s i = sym (rw (append-nil, add-zero) (take-append-drop i s))

pub bytes-length : (s a : List ℕ) (i : ℕ) → i + length a ≤ length s → length (put_bytes s i a) ≡ length s
unfolding put_bytes
bytes-length s a i h =
    let l : length (take i s) ≡ i = length-take-le i s (omega arith) in
    simp (length-append, length-drop) (omega arith)

-- b behind a
pub bytes-behind : (s a b : List ℕ) {t u : List ℕ} (i j : ℕ) → i + length a ≡ j → j ≤ length s → t ≡ put_bytes s i a → u ≡ put_bytes t j b → u ≡ put_bytes s i (a ++ b)
unfolding put_bytes
bytes-behind s a b i j e h p q =
    let x : List ℕ = take i s ++ a in
    let z : List ℕ = drop (i + length a) s in
    let n : length x ≡ j = length-append (take i s) a ∙ ap (λ (k : ℕ). k + length a) (length-take-le i s (omega arith)) ∙ e in
    let k : i + length a + length b ≡ i + length (a ++ b) = omega (arith, length-append a b) in
    q ∙ ap (λ (l : List ℕ). put_bytes l j b) p
    ∙ ap₂ (λ (y w : List ℕ). y ++ b ++ w) (take_at x z j n)
    (ap (λ (m : ℕ). drop (m + length b) (x ++ z)) (sym n) ∙ drop-append-add x z (length b) ∙ drop-drop (length b) (i + length a) s)
    ∙ ap₂ (λ (y : List ℕ) (m : ℕ). y ++ drop m s) (append_assoc (take i s) a b) k

-- ---- numbers

pub number-bytes : (n : ℕ) (s : List ℕ) (i v : ℕ) → i + n ≤ length s → put_be n s i v ≡ put_bytes s i (bytes_of n v)
unfolding put_bytes
number-bytes n s i v h = put-eq n s i v h ∙ ap (λ (k : ℕ). take i s ++ bytes_of n v ++ drop (i + k) s) (sym (length-bytes_of n v))

-- a number behind a
pub number_behind : (n : ℕ) (s a : List ℕ) {t u : List ℕ} (i j v : ℕ) → i + length a ≡ j → j + n ≤ length s → t ≡ put_bytes s i a → u ≡ put_be n t j v
    → u ≡ put_bytes s i (a ++ bytes_of n v)
number_behind n s a {t} i j v e h p q =
    let l : length t ≡ length s = ap length p ∙ bytes-length s a i (omega arith) in
    bytes-behind s a (bytes_of n v) i j e (omega arith) p (q ∙ number-bytes n t j v (omega arith))
