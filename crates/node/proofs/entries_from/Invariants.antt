-- `node::entries_from` meets its contract: what stood from k on, from the front on.
use mathlib.Core.Path.{◌≡◌}
use Prim.Native.Nat.{◌-◌, ◌≤◌}
use lib.ListN.{length, take}
use Rattle.buffer.proofs.Lists.{part}
use Rattle.node.specs.Memory.{entries_of}
use Rattle.node.proofs.entries_from.Given as goal

abbrev pub invariant-loop-j : goal.invariant-loop-j
invariant-loop-j l = (l.k ≤ l.j) × (l.j ≤ l.n) × (length l.next.list ≡ 8) × (take (l.j - l.k) l.next.list ≡ part l.k l.j (entries_of l.es))
