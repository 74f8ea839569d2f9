-- `build::open_first` meets its contract.
use Rattle.build.proofs.Own.{opened}
use Rattle.buffer.proofs.Lists.{length-image}
use lib.ListN.{length}
use mathlib.Core.Path.{◌≡◌}
use borrow.Author.Rules.{rules}
use native.Mathlib.Omega.{arith}
use Rattle.build.proofs.open_first.Goals as goal

pub returns : goal.returns
returns c =
    let long : length c.args.es.list ≡ 8 = search (rules, length-image) in
    (search rules, opened c.args.es.list c.args.es.n (omega arith))
