-- `choose::low_at` meets its contract: what stands at i in the array stands at i among the entries.
use mathlib.Core.Path.{◌≡◌}
use native.Mathlib.Omega.{arith}
use borrow.Author.Rules.{rules}
use lib.ListN.{length}
use Rattle.buffer.proofs.Lists.{length-image}
use Rattle.choose.proofs.Chosen.{low-is}
use Rattle.choose.proofs.low_at.Goals as goal
use Rattle.choose.proofs.low_at.Goals.{Start}

long : (c : Start) → length c.args.es.list ≡ 8
long c = search (rules, length-image)

pub returns : goal.returns
returns c =
    low-is c.args.es.list c.args.es.n c.args.i (omega (arith, long (goal.at.returns c).Start, c.requires.1)) c.requires.0
