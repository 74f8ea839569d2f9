-- Laws of conjunctions and choices of tests, among them the shut conjunction `and`.
-- Assumes nothing.
use mathlib.Core.Path.{◌≡◌, refl, sym, ap, ◌∙◌}
use mathlib.Core.Bool.{Bool, true, false, not, cond, ◌&&◌, ◌||◌, or-false, and-true, and_assoc, false≢true}
use mathlib.Core.List.{[], ◌∷◌}
use borrow.Author.Tests.{not-false}
use Rattle.octets.specs.Lists.{all}
use Rattle.octets.proofs.Tests.{and_left, and_right}
use Rattle.block.specs.Checks.{◌and◌}

pub shuffle : (o a b c d : Bool) → o && ((a && c) && (b && d)) ≡ (o && (a && b)) && (c && d)
shuffle false a b c d = refl
shuffle true false b c d = refl
shuffle true true true c d = refl
shuffle true true false true d = refl
shuffle true true false false d = refl

-- a test by a call that returns r, with the contract r ≡ a, before the rest b of a conjunction
pub and-stop : {a r : Bool} (b : Bool) → r ≡ a → not r ≡ true → false ≡ (a and b)
unfolding ◌and◌
and-stop {a = true} {r = true} b e t = absurd (false≢true t)
and-stop {a = true} {r = false} b e t = absurd (false≢true e)
and-stop {a = false} b e t = refl

pub and-go : (a : Bool) {r b q : Bool} → r ≡ a → not r ≡ false → q ≡ b → q ≡ (a and b)
unfolding ◌and◌
and-go true e t p = p
and-go false e t p = absurd (false≢true (sym e ∙ not-false _ t))

-- of the shut conjunction, whose parts are found
pub fst : (a b : Bool) → (a and b) ≡ true → a ≡ true
unfolding ◌and◌
fst a b p = and_left a b p

pub snd : (a b : Bool) → (a and b) ≡ true → b ≡ true
unfolding ◌and◌
snd a b p = and_right a b p

pub pair : {a b : Bool} → a ≡ true → b ≡ true → (a and b) ≡ true
unfolding ◌and◌
pair p q = rw (p, q)

pub in_left : {a : Bool} (b : Bool) → a ≡ true → a || b ≡ true
in_left b p = rw p

pub in_right : (a : Bool) {b : Bool} → b ≡ true → a || b ≡ true
in_right true p = refl
in_right false p = p

-- a choice by a test, as a test
pub cond-or : (b x y : Bool) → cond b x y ≡ (b && x) || (not b && y)
cond-or true x y = sym (or-false x)
cond-or false x y = refl

-- ---- lists of two, three and four tests

pub all2 : (a b : Bool) → all (a ∷ b ∷ []) ≡ a && b
unfolding all
all2 a b = ap (λ (x : Bool). a && x) (and-true b)

pub all3 : (a b c : Bool) → all (a ∷ b ∷ c ∷ []) ≡ (a && b) && c
unfolding all
all3 a b c = ap (λ (x : Bool). a && (b && x)) (and-true c) ∙ sym (and_assoc a b c)

pub all4 : (a b c d : Bool) → all (a ∷ b ∷ c ∷ d ∷ []) ≡ ((a && b) && c) && d
unfolding all
all4 a b c d = ap (λ (x : Bool). a && x) (all3 b c d) ∙ sym (and_assoc a (b && c) d) ∙ ap (λ (x : Bool). x && d) (sym (and_assoc a b c))
