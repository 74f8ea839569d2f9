-- `message::write_change` meets its contract: each arm is given the change it matched.
use mathlib.Core.Path.{sym, ap, ◌∙◌}
use native.Mathlib.Omega.{arith}
use Rattle.octets.specs.Bytes.{put_bytes}
use Rattle.message.specs.Changes.{change_bytes}
use Rattle.message.proofs.Bytes.{size-add, size-withdraw}
use Rattle.message.proofs.Writing.{add-bytes}
use Rattle.message.proofs.write_change.Goals as goal

pub write_add-requires : goal.write_add-requires
write_add-requires c =
    omega (arith, c.requires.1, size-add c.args.fill c.in-Add.is)

pub write_withdrawal-requires : goal.write_withdrawal-requires
write_withdrawal-requires c =
    (c.requires.0, omega (arith, c.requires.1, size-withdraw c.args.fill c.in-Withdraw.is))

pub returns-in-Add : goal.returns-in-Add
returns-in-Add c =
    let a = c.args in
    c.write_add.ensures ∙ ap (put_bytes a.s.now a.at) (add-bytes a.fill c.in-Add.is)

pub returns-in-Withdraw : goal.returns-in-Withdraw
returns-in-Withdraw c =
    let a = c.args in
    c.write_withdrawal.ensures ∙ ap (λ x. put_bytes a.s.now a.at (change_bytes a.fill x)) (sym c.in-Withdraw.is)
