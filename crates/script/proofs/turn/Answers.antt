-- `script::turn` meets its contract: the step on what lies behind the first 12 bytes, and its answer with the ceiling in them.
use mathlib.Core.Path.{ap, ◌∙◌}
use Prim.Native.Nat.{ℕ}
use native.Mathlib.Omega.{arith}
use mir.Syntax.{w32}
use mir.ValLaws.{to_z-of_z}
use Rattle.octets.specs.Bytes.{put_be}
use Rattle.demands.specs.Model.{complement}
use Rattle.script.specs.Script.{step_at}
use Rattle.script.proofs.Turns.{turned, put-long}
use Rattle.script.proofs.turn.Goals as goal

pub write32-requires-2 : goal.write32-requires-2
write32-requires-2 c =
    omega (arith, c.write32.auto.s, put-long c.args.part.now c.step-said.new.output c.requires.1 c.step-said.auto.output)

pub write32-requires-3 : goal.write32-requires-3
write32-requires-3 c =
    omega (arith, c.write32-2.auto.s, c.write32.auto.s, put-long c.args.part.now c.step-said.new.output c.requires.1 c.step-said.auto.output)

pub returns : goal.returns
returns c =
    let v = c.write32-2 in
    let said = c.step-said.result in
    turned (step_at c.args.handed.now c.args.script.now c.args.at) _ _ _ _ _ said _ _ _ _ c.step-said.new.output c.write32.new.s v.new.s _ c.requires.1 c.step-said.auto.output c.step-said.ensures c.write32.ensures
    v.ensures
    (c.write32-3.ensures
    ∙ ap (λ (n : ℕ). put_be 4 v.new.s 8 n)
    (c.complement.ensures ∙ ap complement (to_z-of_z w32 said.ceiling (record { sfits = c.struct_told-1.given.1.0.1 }))))
