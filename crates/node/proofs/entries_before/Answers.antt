-- `node::entries_before` meets its contract: the first k of the first n.
use mathlib.Core.Path.{sym}
use borrow.Author.Rules.{rules}
use lib.Seq.{take-take}
use Rattle.node.proofs.entries_before.Goals as goal

pub returns : goal.returns
returns c = (search rules, sym (take-take c.args.k c.args.es.n c.args.es.list c.requires.0))
