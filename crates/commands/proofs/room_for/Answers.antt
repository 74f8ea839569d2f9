-- `commands::room_for` meets its contract.
use native.Mathlib.Omega.{arith}
use Rattle.commands.proofs.Telling.{room-is}
use Rattle.commands.proofs.room_for.Goals as goal

pub overflow_mul-result : goal.overflow_mul-result
overflow_mul-result c = let r = room-is c.args.text c.args.output c.min.result c.min.ensures in omega (arith, r.1)

pub returns : goal.returns
returns c = room-is c.args.text c.args.output c.min.result c.min.ensures
