-- `text::compose` meets its contract.
use mathlib.Core.Path.{ap, ap₂, ◌∙◌}
use native.Mathlib.Omega.{arith}
use lib.IntN.{ℤ}
use mir.Syntax.{w32}
use mir.Val.{to_z, of_z}
use mir.ValLaws.{to_z-of_z}
use Rattle.std.specs.Prelude.{Some}
use Rattle.text.specs.declared.Command.TheVariants.{Add, Withdraw, Report, Top}
use Rattle.text.proofs.Made.{made-add, made-withdraw, made-report, made-top, made_none}
use Rattle.text.proofs.compose.Goals as goal

pub returns-in-43 : goal.returns-in-43
returns-in-43 c =
    let a = c.args in
    let f = c.ranges in
    ap₂ (λ (x y : ℤ). Some (Add x y a.n)) (to_z-of_z w32 a.x f.x) (to_z-of_z w32 a.y f.y) ∙ made-add a.sign a.x a.y a.z a.n c.in-43.is

pub returns-in-45 : goal.returns-in-45
returns-in-45 c =
    let a = c.args in
    let f = c.ranges in
    ap₂ (λ (x y : ℤ). Some (Withdraw x y)) (to_z-of_z w32 a.x f.x) (to_z-of_z w32 a.y f.y) ∙ made-withdraw a.sign a.x a.y a.z a.n c.in-45.is

pub returns-in-63 : goal.returns-in-63
returns-in-63 c =
    let a = c.args in
    let f = c.ranges in
    ap₂ (λ (x y : ℤ). Some (Report x y (to_z w32 (of_z w32 a.z)))) (to_z-of_z w32 a.x f.x) (to_z-of_z w32 a.y f.y)
    ∙ ap (λ (z : ℤ). Some (Report a.x a.y z)) (to_z-of_z w32 a.z f.z)
    ∙ made-report a.sign a.x a.y a.z a.n c.in-63.is

pub returns-in-94 : goal.returns-in-94
returns-in-94 c =
    let a = c.args in
    let f = c.ranges in
    ap₂ (λ (x y : ℤ). Some (Top x y a.n)) (to_z-of_z w32 a.x f.x) (to_z-of_z w32 a.y f.y) ∙ made-top a.sign a.x a.y a.z a.n c.in-94.is

pub returns-in_default : goal.returns-in_default
returns-in_default c =
    let a = c.args in
    made_none a.sign a.x a.y a.z a.n (λ e. omega arith) (λ e. omega arith) (λ e. omega arith) (λ e. omega arith)
