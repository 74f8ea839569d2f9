-- `spare::one_more` meets its contract: a store behind the blocks found.
use Rattle.octets.proofs.Lists.{take-push}
use lib.ListN.{length}
use mathlib.Core.Path.{◌≡◌}
use borrow.Author.Rules.{rules}
use native.Mathlib.Omega.{arith}
use Rattle.spare.proofs.one_more.Goals as goal

pub returns : goal.returns
returns c =
    let long : length c.args.s.blocks ≡ 8 = search rules in
    (search rules, take-push c.args.s.blocks c.args.s.n c.args.b (omega arith))
