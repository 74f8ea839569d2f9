-- A Report on a sound table finds what a Report of a tour of its live spots does.
-- Assumes nothing.
use mathlib.Core.Path.{◌≡◌, ap}
use mathlib.Core.Bool.{true}
use mathlib.Core.List.{List}
use Prim.Native.Nat.{ℕ}
use lib.IntN.{ℤ}
use Rattle.octets.specs.Lists.{keep}
use Rattle.spot.specs.Query.{query, wants}
use Rattle.tree.specs.Walk.{spots, live_spots}
use Rattle.tree.specs.Sound.{sound}
use Rattle.tree.specs.Report.{report_table}
use Rattle.tree.proofs.Tables.{report-finds}
use Rattle.report.proofs.Reports.{report-turned}
use Rattle.tour.specs.Promises.{list_report}

pub agrees : (t : List ℕ) → sound t ≡ true → (x1 x2 y : ℤ) → spots (report_table t x1 x2 y) ≡ list_report x1 x2 y (live_spots t)
agrees t s x1 x2 y =
    let q = query x1 x2 y in
    ap spots (report-turned t x1 x2 y (keep (wants q) (live_spots t)) (report-finds t s q)).1
