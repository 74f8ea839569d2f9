-- `histories::messages::spell` is safe and ends.
use Rattle.std.proofs.Common.{◌≡◌, ◌+◌, ◌*◌, ◌≤◌, length}
use Rattle.histories.proofs.messages.spell.Given as goal

abbrev pub invariant-loop-i : goal.invariant-loop-i
invariant-loop-i l = (length l.m ≡ length l.initial.m) × (l.i ≤ l.n) × (7 ≤ l.at) × (l.at ≤ 7 + 13 * l.i)
