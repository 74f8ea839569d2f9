-- `message::count_of` meets its contract.
use mathlib.Core.Path.{sym, ◌∙◌}
use native.Mathlib.Omega.{arith}
use Rattle.message.proofs.Cursor.{message-there, message-count}
use Rattle.message.proofs.count_of.Goals as goal

pub read16-requires : goal.read16-requires
read16-requires c = omega (arith, (message-there c.args.m.now c.requires).head)

pub returns : goal.returns
returns c =
    let m = c.args.m.now in
    (c.read16.ensures.0 ∙ sym (message-count m c.requires), omega (arith, (message-there m c.requires).few))
