-- `catalogue::pair_at` meets its contract: the loop's invariant: no two before the i-th were ended by p.
use mathlib.Core.Path.{◌≡◌}
use Prim.Native.Nat.{◌+◌}
use lib.ListN.{drop}
use Rattle.catalogue.specs.Catalogue.{tile_entry_at}
use Rattle.catalogue.specs.Rows.{held, pair_at}
use Rattle.catalogue.proofs.pair_at.Given as goal

abbrev pub invariant-loop-i : goal.invariant-loop-i
invariant-loop-i l = pair_at (tile_entry_at l.s) l.p (held l.row) ≡ l.i + pair_at (tile_entry_at l.s) l.p (drop l.i (held l.row))
