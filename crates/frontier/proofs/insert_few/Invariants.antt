-- `frontier::insert_few` meets its contract: the rows under the new one move down, the last first.
use Prim.Native.Nat.{◌-◌, ◌≤◌}
use Rattle.frontier.proofs.Fews.{Opened}
use Rattle.frontier.proofs.insert_few.Given as goal

abbrev pub invariant-loop-i : goal.invariant-loop-i
invariant-loop-i l = Opened l.initial.few l.n l.key l.m l.few (l.i - 1) × (1 ≤ l.i)
