-- `visit::keep_run` meets its contract: keys below lo and above last are left out.
use Prim.Native.Nat.{◌≤◌}
use Rattle.std.specs.Prelude.{Some}
use Rattle.visit.specs.Visit.{KeysKept, keys_from}
use Rattle.visit.proofs.keep_run.Given as goal

abbrev pub invariant-loop-j : goal.invariant-loop-j
invariant-loop-j l = (l.j ≤ l.n) × KeysKept (keys_from l.t l.w l.j l.at) l.lo l.last l.c l.initial.list l.list (Some l.l)
