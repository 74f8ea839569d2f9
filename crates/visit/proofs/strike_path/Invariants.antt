-- `visit::strike_path` meets its contract: what waits in the nodes above is struck, node after node.
use Rattle.visit.proofs.Marking.{StruckBy}
use Rattle.visit.proofs.strike_path.Given as goal

abbrev pub invariant-loop-b : goal.invariant-loop-b
invariant-loop-b l = StruckBy l.t l.at l.n l.fn.p l.b-index l.initial.m l.m
