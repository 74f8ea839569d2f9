-- What is answered about changes that were read, or were not, and what that leaves of the lent bytes.
-- Assumes nothing.
use mathlib.Core.Path.{◌≡◌, refl, sym, ap, ◌∙◌}
use mathlib.Core.Bool.{Bool, true, false, cond, false≢true, true≢false}
use mathlib.Core.List.{List, ◌++◌}
use mathlib.Core.Option.{Option, none, some}
use Prim.Native.Nat.{ℕ}
use native.Mathlib.Omega.{arith}
use lib.ListN.{length, drop}
use Rattle.block.specs.declared.Answer.{Answer}
use Rattle.block.specs.Answers.{answer}
use Rattle.message.specs.declared.Change.{Change}
use Rattle.message.specs.Changes.{is_there, changes_of, all_limited, first_outside}
use Rattle.message.specs.Messages.{limits_answer, changes_answer, bytes_left}

-- ---- what the places decide

pub limits-inside : (cs : List Change) → all_limited cs ≡ true → limits_answer cs ≡ answer 0 0
unfolding limits_answer
limits-inside cs h = ap (λ (b : Bool). cond b (answer 0 0) (answer 9 (first_outside cs))) h

pub limits-outside : (cs : List Change) → all_limited cs ≡ false → limits_answer cs ≡ answer 9 (first_outside cs)
unfolding limits_answer
limits-outside cs h = ap (λ (b : Bool). cond b (answer 0 0) (answer 9 (first_outside cs))) h

-- no 9
pub limits-told : (cs : List Change) → (limits_answer cs).number ≡ 0 → all_limited cs ≡ true
limits-told cs z = go (all_limited cs) refl
  where
    go : (b : Bool) → all_limited cs ≡ b → all_limited cs ≡ true
    go true e = e
    go false e = let f : ◌≡◌ {A = ℕ} 9 0 = ap (λ (a : Answer). a.number) (sym (limits-outside cs e)) ∙ z in absurd (omega arith)

-- ---- the answer

-- bytes that are no changes, and bytes that are some
pub answer-eight : (room : List Change → Bool) (o : Option (List Change)) → is_there o ≡ false → answer 8 0 ≡ changes_answer room o
unfolding changes_answer
answer-eight room none h = refl
answer-eight room (some cs) h = absurd (true≢false h)

pub answer-there : (room : List Change → Bool) (o : Option (List Change)) → is_there o ≡ true
    → cond (room (changes_of o)) (limits_answer (changes_of o)) (answer 2 0) ≡ changes_answer room o
unfolding changes_answer
answer-there room none h = absurd (false≢true h)
answer-there room (some cs) h = refl

-- 0 says that they were read, and that their places are inside the limits
pub answered-zero : (room : List Change → Bool) (o : Option (List Change)) → (changes_answer room o).number ≡ 0
    → (is_there o ≡ true) × (all_limited (changes_of o) ≡ true)
unfolding changes_answer
answered-zero room none z = absurd (omega arith)
answered-zero room (some cs) z = (refl, go (room cs) z)
  where
    go : (b : Bool) → (cond b (limits_answer cs) (answer 2 0)).number ≡ 0 → all_limited cs ≡ true
    go true e = limits-told cs e
    go false e = absurd (omega arith)

pub zero-answered : (room : List Change → Bool) (o : Option (List Change)) → is_there o ≡ true → room (changes_of o) ≡ true → all_limited (changes_of o) ≡ true
    → changes_answer room o ≡ answer 0 0
zero-answered room o h fits l =
    sym (answer-there room o h) ∙ ap (λ (b : Bool). cond b (limits_answer (changes_of o)) (answer 2 0)) fits ∙ limits-inside (changes_of o) l

-- ---- the bytes

pub bytes_left_lem : (n : ℕ) (bytes lent : List ℕ) → n ≡ 0 → bytes_left n bytes lent ≡ bytes ++ drop (length bytes) lent
unfolding bytes_left
bytes_left_lem n bytes lent e = rw e
