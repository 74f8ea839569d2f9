-- Top with k = 0: what is left to promise once the lengths are right.
-- Assumes nothing.
use Rattle.std.specs.Prelude.{◌≡◌, ℕ, true, false, ◌⊎◌, List, [], length}
use Rattle.block.specs.declared.Answer.{Answer}
use Rattle.block.specs.Answers.{answer}
use Rattle.block.specs.Header.{head_of}
use Rattle.block.specs.HeaderRules.{header_ok}
use Rattle.tree.specs.ReadMap.{read_map}

-- 3 where block 0 breaks a rule, with the map as it was; else 0, and block 0 is marked
abbrev pub NoneGiven : List ℕ → List ℕ → Answer → List ℕ → Type 0
NoneGiven t map r map' =
    ((header_ok (length t) (head_of t) ≡ false) × (r ≡ answer 3 0) × (map' ≡ map))
    ⊎ ((header_ok (length t) (head_of t) ≡ true) × (r ≡ answer 0 0) × (map' ≡ read_map []))
