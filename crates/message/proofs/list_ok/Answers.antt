-- `message::list_ok` meets its contract.
use mathlib.Core.Path.{refl}
use mathlib.Core.Logic.{inr}
use native.Mathlib.Omega.{arith}
use Rattle.message.proofs.Judging.{no-list, sized-list}
use Rattle.message.proofs.list_ok.Goals as goal

pub returns-then-s-n : goal.returns-then-s-n
returns-then-s-n c = no-list c.args.s.now c.if-s-n.true

pub changes_ok-requires : goal.changes_ok-requires
changes_ok-requires c = (inr refl, omega arith)

pub returns : goal.returns
returns c = sized-list c.args.s.now c.if-s-n.false c.changes_ok.ensures
