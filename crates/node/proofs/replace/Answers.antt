-- `node::replace` meets its contract: a store at i.
use mathlib.Core.Path.{◌≡◌}
use native.Mathlib.Omega.{arith}
use borrow.Author.Rules.{rules}
use lib.ListN.{length}
use Rattle.buffer.proofs.Lists.{length-image}
use Rattle.node.proofs.Listed.{replaced}
use Rattle.node.proofs.replace.Goals as goal
use Rattle.node.proofs.replace.Goals.{Start}

long : (c : Start) → length c.args.es.list ≡ 8
long c = search (rules, length-image)

pub returns : goal.returns
returns c =
    let a = c.args in
    (search rules, replaced a.es.list a.es.n a.i (omega (arith, long (goal.at.returns c).Start)) c.requires.0 a.e)
