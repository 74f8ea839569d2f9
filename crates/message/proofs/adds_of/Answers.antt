-- `message::adds_of` meets its contract.
use mathlib.Core.Path.{ap, ◌∙◌}
use mathlib.Core.Option.{Option}
use mathlib.Core.List.{List}
use native.Mathlib.Omega.{arith}
use Rattle.message.specs.declared.Change.{Change}
use Rattle.message.specs.Changes.{adds_of, changes_of}
use Rattle.message.proofs.Cursor.{message-there}
use Rattle.message.proofs.Judging.{message-is, message-readable}
use Rattle.message.proofs.adds_of.Goals as goal

pub read16-requires : goal.read16-requires
read16-requires c = omega (arith, (message-there c.args.m.now c.requires).head)

pub count_adds-requires : goal.count_adds-requires
count_adds-requires c =
    message-readable c.args.m.now c.requires c.read16.ensures.0

pub returns : goal.returns
returns c =
    let m = c.args.m.now in (
      c.count_adds.ensures.0 ∙ ap (λ (o : Option (List Change)). adds_of (changes_of o)) (message-is m c.requires c.read16.ensures.0),
      omega (arith, c.count_adds.ensures.1, c.read16.ensures.0, (message-there m c.requires).few),
    )
