-- `block::agrees_ok` meets its contract: the entry agrees with P by its size and its rank keys.
use borrow.Author.Rules.{rules}
use Rattle.block.specs.Checks.{agrees_fine}
use Rattle.block.proofs.agrees_ok.Goals as goal

pub returns-in-Root : goal.returns-in-Root
unfolding agrees_fine
returns-in-Root c = search rules

pub returns-in-Child : goal.returns-in-Child
unfolding agrees_fine
returns-in-Child c = cc
