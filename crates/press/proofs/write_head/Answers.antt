-- `press::write_head` meets its contract: two numbers at the front of zeros.
use native.Mathlib.Omega.{arith}
use Rattle.press.proofs.PutBytes.{zeroed, head-written}
use Rattle.press.proofs.write_head.Goals as goal

pub returns : goal.returns
returns c =
    head-written 2048 c.args.n (omega arith) (zeroed 2048 c.args.s.now c.requires.0 c.zero.ensures) c.write32.ensures c.write32-2.ensures
