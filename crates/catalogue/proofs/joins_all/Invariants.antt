-- `catalogue::joins_all` meets its contract: the invariant: the fused blocks that are left have the whole's answer from the row that stands.
use mathlib.Core.Path.{◌≡◌}
use Prim.Native.Nat.{suc, ◌-◌, ◌≤◌}
use Rattle.octets.specs.Lists.{up_to}
use Rattle.catalogue.specs.Catalogue.{tile_entry_at, joins_all}
use Rattle.catalogue.specs.Rows.{held, RowFits}
use Rattle.catalogue.proofs.Rows.{fused_left}
use Rattle.catalogue.proofs.joins_all.Given as goal

abbrev pub invariant-loop-b : goal.invariant-loop-b
invariant-loop-b l = (1 ≤ l.b) × RowFits l.row × (joins_all (tile_entry_at l.s) (up_to (suc l.l) (l.m - l.l - 1)) (up_to 1 l.l) ≡ fused_left (tile_entry_at l.s) l.m l.b (held l.row))
