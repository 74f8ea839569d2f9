-- `carry::carry_one` meets its contract: by that of `revise::put_spot` or of `revise::take_key`.
use mathlib.Core.Path.{sym, ◌∙◌, ap}
use Rattle.spot.specs.Keys.{limited}
use mathlib.Core.List.{[], ◌∷◌}
use Rattle.message.specs.declared.Change.{Change}
use Rattle.message.specs.Changes.{change_key}
use Prim.Native.Nat.{ℕ}
use Rattle.block.specs.Answers.{answer, told}
use Rattle.carry.proofs.One.{one-change}
use Rattle.carry.proofs.Carried.{carried-add, carried-withdraw}
use Rattle.carry.proofs.carry_one.Goals as goal

pub change_at-requires : goal.change_at-requires
change_at-requires c =
    (one-change _ c.requires.0.message c.requires.1).there

pub put_spot-requires : goal.put_spot-requires
put_spot-requires c =
    let one = one-change _ c.requires.0.message c.requires.1 in
    (c.requires.0.lent, ap (λ (x : Change). limited (change_key x)) (sym c.in-Add.is ∙ c.change_at.ensures) ∙ one.limits)

pub take_key-requires : goal.take_key-requires
take_key-requires c =
    let one = one-change _ c.requires.0.message c.requires.1 in
    (c.requires.0.lent, ap (λ (x : Change). limited (change_key x)) (sym c.in-Withdraw.is ∙ c.change_at.ensures) ∙ one.limits)

pub returns-in-Add : goal.returns-in-Add
returns-in-Add c =
    let one = one-change _ c.requires.0.message c.requires.1 in
    carried-add _ _ _ c.in-Add.s c.put_spot.ensures.number _ (ap (λ (d : ℕ). answer (told c.put_spot.result).number d) c.put_spot.ensures.plain)
    (one.is ∙ ap (λ (x : Change). x ∷ []) (sym c.change_at.ensures ∙ c.in-Add.is))

pub returns-in-Withdraw : goal.returns-in-Withdraw
returns-in-Withdraw c =
    let one = one-change _ c.requires.0.message c.requires.1 in
    carried-withdraw _ _ _ c.in-Withdraw.k c.take_key.ensures.number _ (ap (λ (d : ℕ). answer (told c.take_key.result).number d) c.take_key.ensures.plain)
    (one.is ∙ ap (λ (x : Change). x ∷ []) (sym c.change_at.ensures ∙ c.in-Withdraw.is))
