-- `script::make_calls` meets its contract: after i turns the first i calls were made, and the log has come to the i-th part.
use mathlib.Core.Path.{◌≡◌}
use Prim.Native.Nat.{◌*◌, ◌≤◌}
use lib.ListN.{length}
use Rattle.script.specs.Run.{run_state, run_lengths}
use Rattle.script.proofs.Turns.{Going}
use Rattle.script.proofs.make_calls.Given as goal

abbrev pub invariant-loop-i : goal.invariant-loop-i
invariant-loop-i l =
    (l.i ≤ l.n) × (l.at ≡ l.part * l.i) × (length l.log ≡ length l.initial.log)
    × Going l.script l.handed (run_lengths l.initial.table l.initial.scratch l.initial.read_map l.initial.counts l.part) (run_state l.initial.table l.initial.scratch l.initial.read_map l.initial.counts l.initial.log) l.table l.scratch l.read_map l.counts l.log l.i l.at
