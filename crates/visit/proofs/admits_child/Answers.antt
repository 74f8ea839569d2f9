-- `visit::admits_child` meets its contract.
use mathlib.Core.Path.{ap, ap₂, ◌∙◌}
use mathlib.Core.Bool.{Bool, not, ◌&&◌}
use Prim.Native.Nat.{ℕ, ◌/◌}
use lib.Dec.{eqb, leb}
use Rattle.spot.specs.Keys.{word, rank_key}
use Rattle.spot.specs.Query.{least_of}
use Rattle.visit.proofs.Spans.{admits-is}
use Rattle.visit.proofs.admits_child.Goals as goal

pub returns : goal.returns
returns c =
    let a = c.args in
    ap₂ (λ (k y : ℕ). (not (eqb a.e.size 0) && leb y (k / word)) && c.meets_span.result) c.rank_key.ensures c.least_of.ensures
    ∙ ap (λ (m : Bool). (not (eqb a.e.size 0) && leb (least_of a.q) (rank_key a.e.top / word)) && m) c.meets_span.ensures
    ∙ admits-is a.q a.e a.s
