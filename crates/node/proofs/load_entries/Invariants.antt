-- `node::load_entries` meets its contract: each entry read is put behind those before it.
use mathlib.Core.Path.{◌≡◌}
use Prim.Native.Nat.{◌≤◌}
use Rattle.node.proofs.Loading.{FirstLoaded}
use Rattle.node.proofs.load_entries.Given as goal

abbrev pub invariant-loop-i : goal.invariant-loop-i
invariant-loop-i l = (l.i ≤ l.c) × (l.c ≤ 8) × (l.out.n ≡ l.c) × FirstLoaded l.s l.out.list l.i
