-- `node::entry` meets its contract: what stands at i in the array stands at i among the entries.
use mathlib.Core.Path.{◌≡◌}
use native.Mathlib.Omega.{arith}
use borrow.Author.Rules.{rules}
use lib.ListN.{length}
use Rattle.buffer.proofs.Lists.{length-image}
use Rattle.node.proofs.Listed.{entry-there}
use Rattle.node.proofs.entry.Goals as goal
use Rattle.node.proofs.entry.Goals.{Start}

long : (c : Start) → length c.args.es.list ≡ 8
long c = search (rules, length-image)

pub returns : goal.returns
returns c =
    entry-there c.args.es.list c.args.es.n c.args.i (omega (arith, long (goal.at.returns c).Start)) c.requires.0
