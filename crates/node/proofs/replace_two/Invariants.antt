-- `node::replace_two` meets its contract: two stores at i, and behind them what stood after the i-th.
use mathlib.Core.Path.{◌≡◌}
use mathlib.Core.List.{◌++◌}
use Prim.Native.Nat.{◌+◌, ◌≤◌}
use lib.ListN.{length, take}
use Rattle.buffer.proofs.Lists.{part}
use Rattle.node.specs.Memory.{entries_of}
use Rattle.node.proofs.replace_two.Given as goal

abbrev pub invariant-loop-j : goal.invariant-loop-j
invariant-loop-j l =
    (l.initial.j ≤ l.j) × (l.j ≤ l.n) × (length l.next.list ≡ 8) × (take (l.j + 1) l.next.list ≡ take (l.initial.j + 1) l.initial.next.list ++ part l.initial.j l.j (entries_of l.es))
