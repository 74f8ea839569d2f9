-- `script::apply_at` meets its contract: the message is a part of what is handed in.
use mathlib.Core.Path.{ap, ◌∙◌}
use Prim.Native.Nat.{ℕ, ◌-◌, min}
use lib.ListN.{length}
use Rattle.script.proofs.Ranged.{part-applied}
use Rattle.script.proofs.apply_at.Goals as goal

pub returns : goal.returns
returns c =
    let g = c.args.handed.now in
    let first = c.min-from in
    let some = c.min in
    rw c.told.ensures
    (part-applied g _ _ first.result some.result (first.ensures ∙ ap (λ (n : ℕ). min n (length g)) c.read32.ensures.0)
    (some.ensures ∙ ap (λ (n : ℕ). min n (length g - first.result)) c.read32-2.ensures.0)
    _
    _
    _
    _
    _
    c.apply.ensures)
