-- Changes as bytes: how many bytes they are, alone, in a list and in a message; the first bytes of a message; and zeros.
-- Assumes nothing.
use mathlib.Core.Path.{◌≡◌, refl, sym, ap, ◌∙◌}
use mathlib.Core.List.{List, [], ◌∷◌, ◌++◌, append_assoc}
use Prim.Native.Nat.{ℕ, zero, suc, ◌+◌, ◌*◌, ◌≤◌, ◌<◌}
use native.Mathlib.Omega.{arith}
use lib.ListN.{length, get_or, take, drop, replicate, length-append, length-replicate, replicate-append-replicate, take-append-drop}
use lib.Seq.{drop-drop}
use Rattle.octets.specs.Bytes.{be, bytes_of}
use Rattle.octets.proofs.Lists.{drop-next}
use Rattle.octets.proofs.Bytes.{be-lt, be-left, be-bytes_of, length-bytes_of}
use Rattle.octets.proofs.Codec.{length-coded}
use Rattle.spot.specs.declared.Spot.{Spot}
use Rattle.spot.specs.Spots.{key_bytes}
use Rattle.spot.proofs.Card.{length-key_bytes, length-spot_bytes}
use Rattle.message.specs.declared.Change.{Change}
use Rattle.message.specs.declared.Change.TheVariants.{Add, Withdraw}
use Rattle.message.specs.Changes.{change_bytes, changes_bytes, change_size, adds_of}
use Rattle.message.specs.Messages.{message_of}

-- ---- how many bytes

pub size-add : (fill : ℕ) {c : Change} {x : Spot} → c ≡ Add x → change_size fill c ≡ 13
unfolding change_size
size-add fill e = ap (change_size fill) e

pub size-withdraw : (fill : ℕ) {c : Change} {k : ℕ} → c ≡ Withdraw k → change_size fill c ≡ 9 + fill
unfolding change_size
size-withdraw fill e = ap (change_size fill) e

pub size-least : (fill : ℕ) (c : Change) → fill ≤ 4 → 9 + fill ≤ change_size fill c
size-least fill (Add s) h = omega (arith, size-add fill {x = s} refl)
size-least fill (Withdraw k) h = omega (arith, size-withdraw fill {k = k} refl)

pub length-change : (fill : ℕ) (c : Change) → length (change_bytes fill c) ≡ change_size fill c
unfolding change_bytes change_size
length-change fill (Add s) = ap suc (length-spot_bytes s)
length-change fill (Withdraw k) =
    omega (arith, length-append (key_bytes k) (replicate fill 0), length-key_bytes k, length-replicate {A = ℕ} fill 0)

-- in a list every change has 13 bytes
length-row : (c : Change) → length (change_bytes 4 c) ≡ 13
length-row (Add s) = length-change 4 (Add s) ∙ size-add 4 refl
length-row (Withdraw k) = length-change 4 (Withdraw k) ∙ size-withdraw 4 refl

pub length-list : (cs : List Change) → length (changes_bytes 4 cs) ≡ 13 * length cs
length-list = length-coded (changes_bytes 4) (change_bytes 4) 13 refl (λ c cs. refl) length-row

-- in a message a withdrawal has 9, and an addition 4 more
pub length-changes : (cs : List Change) → length (changes_bytes 0 cs) ≡ 9 * length cs + 4 * adds_of cs
length-changes [] = refl
length-changes (Add s ∷ cs) =
    omega (arith, length-append (change_bytes 0 (Add s)) (changes_bytes 0 cs), length-change 0 (Add s), size-add 0 {x = s} refl, length-changes cs)
length-changes (Withdraw k ∷ cs) =
    omega (arith, length-append (change_bytes 0 (Withdraw k)) (changes_bytes 0 cs), length-change 0 (Withdraw k), size-withdraw 0 {k = k} refl, length-changes cs)

adds-few : (cs : List Change) → adds_of cs ≤ length cs
adds-few [] = omega arith
adds-few (Add s ∷ cs) = omega (arith, adds-few cs)
adds-few (Withdraw k ∷ cs) = omega (arith, adds-few cs)

pub length_most : (cs : List Change) → length (changes_bytes 0 cs) ≤ 13 * length cs
length_most cs = omega (arith, length-changes cs, adds-few cs)

-- ---- a message: its first bytes, and the changes

abbrev pub head_of : ℕ → ℕ → List ℕ
head_of bytes n = bytes_of 4 bytes ++ (1 ∷ bytes_of 2 n)

pub length-head : (bytes n : ℕ) → length (head_of bytes n) ≡ 7
length-head bytes n = omega (arith, length-append (bytes_of 4 bytes) (1 ∷ bytes_of 2 n), length-bytes_of 4 bytes, length-bytes_of 2 n)

pub message-parts : (cs : List Change) → message_of cs ≡ head_of (7 + length (changes_bytes 0 cs)) (length cs) ++ changes_bytes 0 cs
unfolding message_of
message-parts cs = sym (append_assoc (bytes_of 4 (7 + length (changes_bytes 0 cs))) (1 ∷ bytes_of 2 (length cs)) (changes_bytes 0 cs))

pub length-message : (cs : List Change) → length (message_of cs) ≡ 7 + length (changes_bytes 0 cs)
length-message cs =
    let h : List ℕ = head_of (7 + length (changes_bytes 0 cs)) (length cs) in
    ap length (message-parts cs) ∙ length-append h (changes_bytes 0 cs)
    ∙ ap (λ (k : ℕ). k + length (changes_bytes 0 cs)) (length-head (7 + length (changes_bytes 0 cs)) (length cs))

-- ---- zeros

pub zeros_of : (n : ℕ) → bytes_of n 0 ≡ replicate n 0
unfolding bytes_of
zeros_of zero = refl
zeros_of (suc n) =
    let e : n + 1 ≡ suc n = omega arith in
    ap (λ (l : List ℕ). l ++ (0 ∷ [])) (zeros_of n) ∙ replicate-append-replicate n 1 0 ∙ ap (λ (k : ℕ). replicate k 0) e

pub be-zeros : (n : ℕ) (b : List ℕ) → be n (replicate n 0 ++ b) 0 ≡ 0
be-zeros n b =
    be-left n (replicate n 0) b 0 (omega (arith, length-replicate {A = ℕ} n 0)) ∙ ap (λ (l : List ℕ). be n l 0) (sym (zeros_of n))
    ∙ be-bytes_of n 0 (omega (arith, be-lt n [] 0 (λ k. omega arith)))

-- ---- a list in parts

-- the first, and n behind it
pub cut-first : (s : List ℕ) (i n : ℕ) → i < length s → drop i s ≡ get_or s i 0 ∷ (take n (drop (i + 1) s) ++ drop (i + 1 + n) s)
cut-first s i n h =
    drop-next s i 0 h
    ∙ ap (λ (l : List ℕ). get_or s i 0 ∷ l) (sym (take-append-drop n (drop (i + 1) s)) ∙ ap (λ (l : List ℕ). take n (drop (i + 1) s) ++ l) (drop-drop n (i + 1) s))
