-- Format: what is written makes a fresh table.
-- Assumes nothing.
use mathlib.Core.Path.{◌≡◌, refl, sym, ap, ◌∙◌}
use mathlib.Core.Bool.{true}
use mathlib.Core.List.{List, ◌++◌}
use Prim.Native.Nat.{ℕ, ◌+◌, ◌-◌, ◌*◌, ◌/◌, ◌%◌, ◌≤◌}
use native.Mathlib.Omega.{arith}
use lib.ListN.{length, drop, replicate, replicate-append-replicate, length-replicate}
use borrow.Author.Tests.{leb-true, eqb-true}
use Rattle.octets.specs.Bytes.{bytes_of, put_be}
use Rattle.octets.proofs.Tests.{all-at}
use Rattle.octets.proofs.Lists.{over-all}
use Rattle.octets.proofs.Bytes.{put-eq}
use Rattle.block.specs.Table.{sized_for, table_sized}
use Rattle.block.specs.Fresh.{fresh_header, fresh_leaf, formatted}
use Rattle.block.specs.Checks.{fresh_marks}

-- ---- a table's size

pub blocks-least : (n : ℕ) → table_sized n ≡ true → 9 ≤ n / 2048
unfolding sized_for
blocks-least n z = leb-true _ _ (all-at _ z 1)

pub blocks-most : (n : ℕ) → table_sized n ≡ true → n / 2048 ≤ 4096
unfolding sized_for
blocks-most n z = leb-true _ _ (all-at _ z 2)

pub blocks-whole : (n : ℕ) → table_sized n ≡ true → n ≡ n / 2048 * 2048
unfolding sized_for
blocks-whole n z = let e : n % 2048 ≡ 0 = eqb-true _ _ (all-at _ z 0) in omega arith

pub sized-least : (n : ℕ) → table_sized n ≡ true → 18432 ≤ n
sized-least n z = omega (arith, blocks-least n z)

pub sized-most : (n : ℕ) → table_sized n ≡ true → n ≤ 8388608
sized-most n z = omega (arith, blocks-most n z, blocks-whole n z)

-- ---- the bytes

zeros-cut : (n z : ℕ) → 4096 ≤ n → replicate n z ≡ replicate 4096 z ++ replicate (n - 4096) z
zeros-cut n z h =
    let e : 4096 + (n - 4096) ≡ n = omega arith in
    sym (replicate-append-replicate 4096 (n - 4096) z ∙ ap (λ (k : ℕ). replicate k z) e)

-- the length and the marks in a table of zeros
marks-are : (n : ℕ) (r : List ℕ) → fresh_marks (bytes_of 4 n ++ (replicate 4092 0 ++ r)) ≡ fresh_header n ++ fresh_leaf ++ r
unfolding fresh_marks bytes_of fresh_header fresh_leaf
marks-are n r = refl

pub written_is : (t : List ℕ) → 4096 ≤ length t → fresh_marks (put_be 4 (replicate (length t) 0 ++ drop (length t) t) 0 (length t)) ≡ formatted (length t)
unfolding formatted
written_is t h =
    let n : ℕ = length t in
    let z : List ℕ = replicate n 0 in
    let len : length z ≡ n = length-replicate n 0 in
    let cut : z ++ drop n t ≡ z = over-all z t n (omega arith) in
    let put : put_be 4 z 0 n ≡ bytes_of 4 n ++ drop 4 z = put-eq 4 z 0 n (omega arith) in
    ap (λ (l : List ℕ). fresh_marks (put_be 4 l 0 n)) cut
    ∙ ap fresh_marks (put ∙ ap (λ (l : List ℕ). bytes_of 4 n ++ drop 4 l) (zeros-cut n 0 h))
    ∙ marks-are n (replicate (n - 4096) 0)
