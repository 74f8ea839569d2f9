-- `soundness::sound_walk` meets its contract. The measure is the level. The invariant: the children checked so far and those left make up the whole.
use Prim.Native.Nat.{◌≤◌}
use Rattle.block.specs.Node.{store_of}
use Rattle.tree.specs.Reach.{reach}
use Rattle.tree.specs.Sound.{sound_at}
use Rattle.query.proofs.Threads.{Threaded}
use Rattle.soundness.proofs.Steps.{left}
use Rattle.soundness.proofs.+sound_walk.Given as goal

abbrev pub decreases-sound_walk : goal.decreases-sound_walk
decreases-sound_walk l = l.level

abbrev pub invariant-loop-i : goal.invariant-loop-i
invariant-loop-i l =
    (l.i ≤ l.c) × Threaded (sound_at l.level (store_of l.t)) (reach l.level (store_of l.t)) l.initial.seen l.seen (left l.t l.b l.span l.span.lo 0) (left l.t l.b l.span l.lo l.i)
