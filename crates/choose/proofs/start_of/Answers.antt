-- `choose::start_of` meets its contract: a count of the keys below the low, or none for the first.
use mathlib.Core.Path.{ap, ◌∙◌}
use Prim.Native.Nat.{ℕ}
use Rattle.buffer.specs.Buffer.{below}
use Rattle.node.specs.Memory.{entries_of}
use Rattle.choose.proofs.Chosen.{start-later}
use Rattle.choose.proofs.start_of.Goals as goal

pub returns : goal.returns
returns g c =
    let b = c.args.b in
    c.position.ensures.0
    ∙ ap (λ (k : ℕ). below k (g.B.Item.Element.keyed.named (g.B.Buffer.held b))) c.low_at.ensures
    ∙ start-later (entries_of c.args.es) (g.B.Item.Element.keyed.named (g.B.Buffer.held b)) (g.B.Buffer.count b) c.args.i c.if-i-eq0.false
