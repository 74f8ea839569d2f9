-- What changes do to a list of spots in place order, one after another.
-- Assumes nothing.
use Rattle.std.specs.Prelude.{ℕ, suc, Bool, false, cond, not, ◌&&◌, List, [], ◌∷◌, length, leb}
use Rattle.octets.specs.Lists.{has}
use Rattle.spot.specs.Spots.{keys, put, without}
use Rattle.spot.specs.declared.Spot.{Spot}
use Rattle.block.specs.declared.Answer.{Answer}
use Rattle.block.specs.Answers.{answer}
use Rattle.block.specs.Table.{capacity}
use Rattle.message.specs.declared.Change.{Change}
use Rattle.message.specs.declared.Change.TheVariants.{Add, Withdraw}

-- "Add puts the spot in; one of the same identity is replaced"; "Withdraw takes out the spot of that identity"
unfoldable pub after_change : Change → List Spot → List Spot
after_change (Add s) ss = put s (without s.key ss)
after_change (Withdraw k) ss = without k ss

-- ".. the live spots that the changes one after another would"
abbrev pub after_all : List Change → List Spot → List Spot
after_all [] ss = ss
after_all (c ∷ cs) ss = after_all cs (after_change c ss)

-- 4: "Add: capacity live spots and the identity not live"
unfoldable pub turns_down : ℕ → Change → List Spot → Bool
turns_down bytes (Add s) ss = leb (capacity bytes) (length ss) && not (has s.key (keys ss))
turns_down bytes (Withdraw k) ss = false

-- "If any would be turned down, nothing is applied and the first such one's number is returned, with its position from 0 as detail": i are before these
abbrev pub applied_from : ℕ → ℕ → List Change → List Spot → Answer
applied_from bytes i [] ss = answer 0 0
applied_from bytes i (c ∷ cs) ss = cond (turns_down bytes c ss) (answer 4 i) (applied_from bytes (suc i) cs (after_change c ss))

abbrev pub applied_answer : ℕ → List Change → List Spot → Answer
applied_answer bytes cs ss = applied_from bytes 0 cs ss
