-- When the spots of a walk can be laid out anew.
-- Assumes nothing.
use Rattle.std.specs.Prelude.{ℕ, Bool, false, ◌&&◌, length, leb}
use Rattle.octets.specs.Lists.{rising}
use Rattle.spot.specs.Spots.{keys}
use Rattle.block.specs.Table.{capacity}
use Rattle.tree.specs.Walk.{Walk, broken, walked}

-- no rule is broken, the spots rise strictly, and they are no more than the capacity of a table of so many bytes
unfoldable pub layable : ℕ → Walk → Bool
layable bytes broken = false
layable bytes (walked found blocks) = rising (keys found) && leb (length found) (capacity bytes)
