-- `top::sweep` meets its contract: each turn gives what no unread part can outdo, and reads the child that promises most.
use mathlib.Core.Path.{◌≡◌}
use Prim.Native.Nat.{◌-◌, ◌≤◌}
use lib.ListN.{length}
use Rattle.top.specs.Runs.{Swept}
use Rattle.top.proofs.Sweeps.{Lens}
use Rattle.top.proofs.sweep.Given as goal

abbrev pub invariant-loop-z : goal.invariant-loop-z
invariant-loop-z l =
    (l.cap ≡ length l.initial.rows) × Lens l.initial.seen l.initial.out l.initial.rows l.initial.kids l.initial.heads l.seen l.out l.rows l.kids l.heads × Swept l.t l.q l.k l.room l.initial.out l.seen l.out l.rows l.kids l.heads l.z l.given × (l.z.slots ≤ l.most)

abbrev pub decreases-loop-z : goal.decreases-loop-z
decreases-loop-z l =
    l.cap - l.z.slots
