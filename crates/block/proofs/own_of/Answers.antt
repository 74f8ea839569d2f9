-- `block::own_of` meets its contract: by the variant.
use borrow.Author.Rules.{rules}
use Rattle.block.specs.NodeRules.{stands_in}
use Rattle.block.proofs.own_of.Goals as goal

pub returns-in-Root : goal.returns-in-Root
unfolding stands_in
returns-in-Root c = search rules

pub returns-in-Child : goal.returns-in-Child
unfolding stands_in
returns-in-Child c = search rules
