-- `carry::carry` meets its contract, by the number of changes.
use native.Mathlib.Omega.{arith}
use Prim.Native.Nat.{◌≤◌}
use mathlib.Core.Path.{◌≡◌, refl, sym, ◌∙◌}
use lib.ListN.{length}
use Rattle.block.proofs.Making.{blocks-least}
use Rattle.message.specs.Changes.{changes_of}
use Rattle.message.specs.Messages.{read_message}
use Rattle.message.proofs.Cursor.{accepted-message}
use Rattle.carry.proofs.Carried.{carried-nothing, carried-single, carried-several, carried-unfit}
use Rattle.carry.proofs.One.{length_none}
use Rattle.carry.proofs.carry.Goals as goal

pub header_ok-requires : goal.header_ok-requires
header_ok-requires c =
    omega (arith, blocks-least (length c.args.table.now) c.requires.0.sized)

pub returns-then-not-header_ok : goal.returns-then-not-header_ok
returns-then-not-header_ok c =
    carried-unfit _ _ _ (sym c.header_ok.ensures ∙ c.if-not-header_ok.true) _ refl

pub count_of-n-requires : goal.count_of-n-requires
count_of-n-requires c =
    (accepted-message _ c.requires.1).0

pub returns-then-n-eq0 : goal.returns-then-n-eq0
returns-then-n-eq0 c =
    let none : length (changes_of (read_message c.args.m.now)) ≡ 0 = omega (arith, c.count_of-n.ensures.0, c.if-n-eq0.true) in
    carried-nothing (sym c.header_ok.ensures ∙ c.if-not-header_ok.false) (length_none _ none) refl

pub carry_one-requires : goal.carry_one-requires
carry_one-requires c =
    let one : length (changes_of (read_message c.args.m.now)) ≡ 1 = omega (arith, c.count_of-n.ensures.0, c.if-n-eq1.true) in
    (record { lent = c.requires.0; header = sym c.header_ok.ensures ∙ c.if-not-header_ok.false; message = c.requires.1 }, one)

pub returns-then-n-eq1 : goal.returns-then-n-eq1
returns-then-n-eq1 c =
    let one : length (changes_of (read_message c.args.m.now)) ≡ 1 = omega (arith, c.count_of-n.ensures.0, c.if-n-eq1.true) in
    carried-single (sym c.header_ok.ensures ∙ c.if-not-header_ok.false) one c.carry_one.ensures

pub carry_many-requires : goal.carry_many-requires
carry_many-requires c =
    record { lent = c.requires.0; header = sym c.header_ok.ensures ∙ c.if-not-header_ok.false; message = c.requires.1 }

pub returns : goal.returns
returns c =
    let many : 2 ≤ length (changes_of (read_message c.args.m.now)) = omega (arith, c.count_of-n.ensures.0, c.if-n-eq0.false, c.if-n-eq1.false) in
    carried-several (sym c.header_ok.ensures ∙ c.if-not-header_ok.false) many c.carry_many.ensures
