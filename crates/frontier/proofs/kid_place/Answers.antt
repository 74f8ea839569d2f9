-- `frontier::kid_place` meets its contract.
use Rattle.visit.specs.declared.Span.{Span}
use Rattle.block.specs.declared.Entry.{Entry}
use Prim.Native.Nat.{◌-◌}
use mathlib.Core.Path.{ap₂}
use Rattle.frontier.proofs.kid_place.Goals as goal

pub returns : goal.returns
returns c =
    let p = c.args.p in
    let k = c.kid_of-kid.ensures in
    ap₂ (λ (e : Entry) (s : Span). record { block = e.block; level = p.level - 1; span = s }) k.entry k.span
