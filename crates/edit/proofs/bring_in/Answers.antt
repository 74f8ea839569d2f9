-- `edit::bring_in` meets its contract.
use mathlib.Core.Path.{◌≡◌, sym, ap, ◌∙◌}
use mathlib.Core.List.{List, []}
use native.Mathlib.Omega.{arith}
use lib.ListN.{take}
use Rattle.spot.specs.declared.Spot.{Spot}
use Rattle.buffer.specs.Buffer.{held, merged}
use Rattle.buffer.proofs.Merged.{merged-none}
use Rattle.edit.proofs.bring_in.Goals as goal

pub returns-then-n-eq0 : goal.returns-then-n-eq0
returns-then-n-eq0 c =
    let a = c.args in
    let none : held a.gathered ≡ [] = ap (λ k. take k a.gathered.spots) c.if-n-eq0.true in
    (omega arith, sym (ap (λ (l : List Spot). merged l (held a.b)) none ∙ merged-none (held a.b)), c.requires.1)
