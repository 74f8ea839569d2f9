-- A message of one change.
-- Assumes nothing.
use mathlib.Core.Path.{◌≡◌, refl, ap, sym, ◌∙◌}
use mathlib.Core.Bool.{true}
use mathlib.Core.List.{List, [], ◌∷◌}
use Prim.Native.Nat.{ℕ}
use native.Mathlib.Omega.{arith}
use lib.ListN.{length}
use Rattle.octets.specs.Bytes.{be}
use Rattle.octets.proofs.Tests.{and_left}
use Rattle.spot.specs.Keys.{limited}
use Rattle.block.specs.Answers.{answer}
use Rattle.message.specs.declared.Change.{Change}
use Rattle.message.specs.Changes.{change_key, changes_of, is_there, all_limited, read_changes}
use Rattle.message.specs.Codes.{change_at, ChangeThere}
use Rattle.message.specs.Messages.{message_answer, read_message}
use Rattle.message.proofs.Cursor.{NextThere, next-there, left-none, message-there, message-count, accepted-message}

pub record OneChange (m : List ℕ) : Type 0 where
  pub there : ChangeThere m 7
  pub is : changes_of (read_message m) ≡ change_at m 7 ∷ []
  pub limits : limited (change_key (change_at m 7)) ≡ true

pub one-change : (m : List ℕ) → message_answer m ≡ answer 0 0 → length (changes_of (read_message m)) ≡ 1 → OneChange m
one-change m h n =
    let a = accepted-message m h in
    let x = message-there m a.0 in
    let count : be 2 m 5 ≡ 1 = sym (message-count m a.0) ∙ n in
    let next : NextThere 0 0 m 7 = next-there 0 0 m 7 (ap (λ (k : ℕ). is_there (read_changes 0 k m 7)) (sym count) ∙ x.there) in
    let one : changes_of (read_message m) ≡ change_at m 7 ∷ [] =
    ap changes_of x.is ∙ ap (λ (k : ℕ). changes_of (read_changes 0 k m 7)) count ∙ next.cons ∙ ap (λ (l : List Change). change_at m 7 ∷ l) (left-none 0 0 m _ 0 (omega arith)) in
    let inside : limited (change_key (change_at m 7)) ≡ true = and_left (limited (change_key (change_at m 7))) (all_limited []) (sym (ap all_limited one) ∙ a.1) in
    record {
      there = record { inside = next.nine; room = next.room; limits = sym (ap limited next.keyed) ∙ inside };
      is = one;
      limits = inside;
    }

-- a list of none
pub length_none : (cs : List Change) → length cs ≡ 0 → cs ≡ []
length_none [] e = refl
length_none (c ∷ cs) e = let no : ⊥ = omega arith in absurd no
