-- `verdict::one_more` meets its contract: by whether there is room.
use Rattle.verdict.proofs.Steps.{more-full, more_room}
use native.Mathlib.Omega.{arith}
use Rattle.verdict.proofs.one_more.Goals as goal

pub returns-then-most-live : goal.returns-then-most-live
returns-then-most-live c = more-full _ _ c.if-most-live.true

pub returns : goal.returns
returns c = more_room c.args.most c.args.live _ c.if-most-live.false (omega arith)
