-- `change::new_root` meets its contract.
use mathlib.Core.Path.{refl, subst⁻¹}
use Prim.Native.Nat.{ℕ, ◌<◌, ◌≤◌}
use native.Mathlib.Omega.{arith}
use Rattle.block.specs.Table.{blocks_of}
use Rattle.journal.proofs.Kept.{kept_refl, kept_trans, undoable-kept}
use Rattle.settle.proofs.Ways.{last-inside}
use Rattle.change.proofs.Settles.{crown-done, room-above}
use Rattle.change.proofs.Crown.{crown-works, crown-fails, crown-stores}
use Rattle.change.proofs.new_root.Goals as goal
use Rattle.change.proofs.new_root.Goals.{Else-left-level}

-- there is a spare block, and a level more is not too many
roomy : (c : Else-left-level) → let a = c.args in (0 < a.left) × (a.level ≤ 6)
roomy c = let a = c.args in room-above a.left a.level c.if-left-level.false

pub returns-then-left-level : goal.returns-then-left-level
returns-then-left-level c = record { kept = kept_refl; crowned = record { whole = λ f low high kids finds. refl } }

pub last_of-root-requires : goal.last_of-root-requires
last_of-root-requires c = let p = c.requires in ((roomy (goal.at.last_of-root-requires c).Else-left-level).0, omega (arith, p.less, p.spares.few))

pub fill-requires : goal.fill-requires
fill-requires c =
    let p = c.requires in
    crown-works c.over-n.ensures p.undoable (roomy (goal.at.fill-requires c).Else-left-level).1 p.fits p.inside p.inside_too

pub returns-in-Err : goal.returns-in-Err
returns-in-Err c =
    record { kept = c.fill.ensures.kept; crowned = crown-fails c.over-n.ensures c.requires.zero c.in-Err.ensures.filled }

pub write_node-requires : goal.write_node-requires
write_node-requires c =
    let last = c.last_of-root in
    let p = c.requires in
    let f = c.fill.ensures in
    let full = c.in-Ok.ensures.filled in
    let i = last-inside p.spares p.less last.ensures in
    (undoable-kept f.kept p.undoable, subst⁻¹ (λ (n : ℕ). last.result < blocks_of n) f.kept.table i.1, crown-stores c.over-n.ensures full p.zero)

pub overflow_add-result : goal.overflow_add-result
overflow_add-result c =
    omega (arith, (roomy (goal.at.overflow_add-result c).Else-left-level).1)

pub overflow_sub-result : goal.overflow_sub-result
overflow_sub-result c =
    omega (arith, (roomy (goal.at.overflow_sub-result c).Else-left-level).0)

pub returns : goal.returns
returns c =
    let a = c.args in
    let p = c.requires in
    let f = c.fill.ensures in
    let full = c.in-Ok.ensures.filled in
    let w = c.write_node.ensures in
    let last = c.last_of-root in
    record { kept = kept_trans f.kept w.0; crowned = crown-done _ a.spare a.left last.result c.over-n.ensures full p.zero p.inner (roomy (goal.at.returns c).Else-left-level).1 (roomy (goal.at.returns c).Else-left-level).0 last.ensures w.1 }
