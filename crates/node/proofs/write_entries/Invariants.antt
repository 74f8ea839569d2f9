-- `node::write_entries` meets its contract: each entry is written behind those before it.
use mathlib.Core.Path.{◌≡◌}
use Prim.Native.Nat.{◌≤◌}
use lib.ListN.{length, take}
use Rattle.octets.specs.Bytes.{put_bytes}
use Rattle.node.specs.Bytes.{entries_bytes, keys_fit}
use Rattle.node.specs.Memory.{entries_of}
use Rattle.octets.specs.Lists.{every}
use mathlib.Core.Bool.{true}
use Rattle.node.proofs.write_entries.Given as goal

abbrev pub invariant-loop-i : goal.invariant-loop-i
invariant-loop-i l =
    (l.i ≤ l.n) × (length l.s ≡ length l.initial.s) × (l.s ≡ put_bytes l.initial.s 8 (entries_bytes (take l.i (entries_of l.es)))) × (every keys_fit (take l.i (entries_of l.es)) ≡ true)
