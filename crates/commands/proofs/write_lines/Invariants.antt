-- `commands::write_lines` meets its contract. The loop's invariant: the lines of the first i spots are written.
use Prim.Native.Nat.{◌*◌, ◌≤◌}
use Rattle.text.specs.Written.{Wrote}
use Rattle.commands.specs.Printed.{lines_of}
use Rattle.commands.proofs.write_lines.Given as goal

abbrev pub invariant-loop-i : goal.invariant-loop-i
invariant-loop-i l = (l.i ≤ l.n) × (Wrote l.initial.out l.out l.at (35 * l.i) (lines_of l.output l.i) l.end)
