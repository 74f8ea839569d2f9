-- `frontier::run_few` meets its contract: the best of those seen so far.
use Prim.Native.Nat.{◌≤◌}
use lib.ListN.{length}
use Rattle.frontier.proofs.Fews.{Passed}
use Rattle.frontier.proofs.run_few.Given as goal

abbrev pub invariant-loop-i : goal.invariant-loop-i
invariant-loop-i l = (l.i ≤ l.to) × Passed l.t l.at l.i l.q l.most (length l.initial.few) l.few l.n l.floor
