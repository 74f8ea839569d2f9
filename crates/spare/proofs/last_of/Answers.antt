-- `spare::last_of` meets its contract.
use Rattle.spare.proofs.Taking.{spare-last}
use lib.ListN.{length}
use mathlib.Core.Path.{◌≡◌}
use borrow.Author.Rules.{rules}
use Rattle.spare.proofs.last_of.Goals as goal

pub returns : goal.returns
returns c =
    let long : length c.args.s.blocks ≡ 8 = search rules in
    spare-last c.args.s c.args.left long c.requires.0 c.requires.1
