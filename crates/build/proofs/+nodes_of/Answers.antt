-- `build::nodes_of` meets its contract. The measure is the height.
use mathlib.Core.Path.{ap, ◌∙◌}
use Prim.Native.Nat.{◌+◌, ◌*◌, ◌≤◌, ℕ}
use Rattle.build.proofs.Shapes.{nodes-none, nodes-step, nodes-few, nodes-room, power-some}
use native.Mathlib.Omega.{arith}
use Rattle.build.proofs.+nodes_of.Goals as goal
use Rattle.build.proofs.+nodes_of.Goals.{After-nodes_of}

pub returns-then-height-eq0 : goal.returns-then-height-eq0
returns-then-height-eq0 t c =
    let a = c.args in
    (nodes-none a.fan a.next a.height c.if-height-eq0.true, power-some a.height)

room : (t : ℕ) (c : After-nodes_of t) → 1 + c.args.fan * c.nodes_of.result ≤ 531441
room t c =
    let a = c.args in
    let p = c.requires in
    nodes-room a.fan a.height c.nodes_of.result c.if-height-eq0.false (p.0, p.2) c.nodes_of.ensures.1

pub returns : goal.returns
returns t c =
    let a = c.args in
    (ap (λ (k : ℕ). 1 + a.fan * k) c.nodes_of.ensures.0 ∙ nodes-step a.fan a.next a.height c.if-height-eq0.false, nodes-few a.fan a.height c.nodes_of.result c.if-height-eq0.false (omega arith) c.nodes_of.ensures.1)

pub overflow_mul-result : goal.overflow_mul-result
overflow_mul-result t c = omega (arith, room t (goal.at.overflow_mul-result t c).After-nodes_of)

pub overflow_add-result : goal.overflow_add-result
overflow_add-result t c = omega (arith, room t (goal.at.overflow_add-result t c).After-nodes_of)
