-- push, finish, split and settle meet their contracts: one induction, on the level.
use Prim.Native.Nat.{◌+◌, ◌*◌}
use Rattle.settle.proofs.+finish_push_settle_split.Given as goal

abbrev pub decreases-finish : goal.decreases-finish
decreases-finish l = 4 * l.level + 1

abbrev pub decreases-push : goal.decreases-push
decreases-push l = 4 * l.level

abbrev pub decreases-settle : goal.decreases-settle
decreases-settle l = 4 * l.level + 3

abbrev pub decreases-split : goal.decreases-split
decreases-split l = 4 * l.level + 2
