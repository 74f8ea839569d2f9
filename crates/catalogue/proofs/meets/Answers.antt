-- `catalogue::meets` meets its contract: its calls make up `meets_span`.
use mathlib.Core.Path.{ap₂, ◌∙◌}
use Prim.Native.Nat.{ℕ}
use lib.Dec.{leb}
use Rattle.spot.specs.Query.{ends}
use Rattle.sweep.specs.Report.{meets_span}
use Rattle.catalogue.proofs.meets.Goals as goal

pub returns : goal.returns
unfolding meets_span
returns c =
    let a = c.args in
    c.ends.ensures
    ∙ ap₂ (λ (x y : ℕ). ends a.q (leb x a.e.high) (leb a.e.low y)) c.from_key.ensures c.last_key.ensures
