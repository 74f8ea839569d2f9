-- `build::add_entry` meets its contract: a store behind the entries in use.
use Rattle.octets.proofs.Lists.{take-push}
use Rattle.buffer.proofs.Lists.{length-image}
use lib.ListN.{length}
use mathlib.Core.Path.{◌≡◌}
use borrow.Author.Rules.{rules}
use native.Mathlib.Omega.{arith}
use Rattle.build.proofs.add_entry.Goals as goal

pub returns : goal.returns
returns c =
    let long : length c.args.es.list ≡ 8 = search (rules, length-image) in
    (search rules, take-push c.args.es.list c.args.es.n c.args.e (omega arith))
