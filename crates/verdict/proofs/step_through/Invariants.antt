-- `verdict::step_through` meets its contract: the loop keeps `Turn`.
use Rattle.verdict.proofs.Turns.{Turn}
use Rattle.verdict.proofs.step_through.Given as goal

abbrev pub invariant-loop-i : goal.invariant-loop-i
invariant-loop-i l = Turn l.table l.m l.initial.rows l.n l.rows l.spots l.r l.at l.i
