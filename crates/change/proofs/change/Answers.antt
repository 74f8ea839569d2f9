-- `change::change` meets its contract.
use mathlib.Core.Path.{◌≡◌, sym, ◌∙◌}
use mathlib.Core.Bool.{true}
use Prim.Native.Nat.{suc, ◌-◌}
use native.Mathlib.Omega.{arith}
use Rattle.block.specs.Header.{head_of}
use Rattle.block.specs.Node.{store_of}
use Rattle.block.specs.NodeRules.{node_ok}
use Rattle.block.specs.declared.Asked.TheVariants.{Root}
use Rattle.change.proofs.Start.{start-long, start-levels, start-inside, start-refused, start-valid, start-light, start-heavy, start-done}
use Rattle.change.proofs.change.Goals as goal
use Rattle.change.proofs.change.Goals.{After-levels_of-level, Else-not-block_ok}

-- the level of the root
level-is : (c : After-levels_of-level) → suc (c.levels_of-level.result - 1) ≡ (head_of c.args.t.now).levels
level-is c =
    let z = start-levels c.requires.0 in
    let e = c.levels_of-level.ensures.0 in
    omega (arith, z, e)

pub overflow_sub-level : goal.overflow_sub-level
overflow_sub-level c = let z = start-levels c.requires.0 in omega (arith, z, c.levels_of-level.ensures.0)

pub block_ok-requires : goal.block_ok-requires
block_ok-requires c = start-inside c.requires.0 c.root_of-root.ensures.0 (level-is (goal.at.block_ok-requires c).After-levels_of-level)

pub returns-then-not-block_ok : goal.returns-then-not-block_ok
returns-then-not-block_ok c =
    start-refused c.requires.0 c.root_of-root.ensures.0 (level-is (goal.at.returns-then-not-block_ok c).After-levels_of-level) _ _ (sym c.block_ok.ensures ∙ c.if-not-block_ok.true)

-- the root keeps the rules
root_ok : (c : Else-not-block_ok)
    → let root = c.root_of-root.result in
    node_ok (c.levels_of-level.result - 1) (Root root) (store_of c.args.t.now root) ≡ true
root_ok c = sym c.block_ok.ensures ∙ c.if-not-block_ok.false

pub load-n-requires : goal.load-n-requires
load-n-requires c =
    start-valid c.requires.0 c.root_of-root.ensures.0 (level-is (goal.at.load-n-requires c).After-levels_of-level) (root_ok (goal.at.load-n-requires c).Else-not-block_ok)

pub is_roomy-requires : goal.is_roomy-requires
is_roomy-requires c =
    let l = c.load-n.ensures in
    record { points = l.points; inserts = l.inserts; deletes = l.deletes }

pub light-requires : goal.light-requires
light-requires c =
    let p = c.requires in
    (start-light p.0 c.root_of-root.ensures.0 (level-is (goal.at.light-requires c).After-levels_of-level) c.load-n.ensures c.is_roomy.ensures (root_ok (goal.at.light-requires c).Else-not-block_ok) c.if-is_roomy.true, p.1, p.2)

pub heavy-requires : goal.heavy-requires
heavy-requires c =
    let p = c.requires in
    (start-heavy p.0 c.root_of-root.ensures.0 (level-is (goal.at.heavy-requires c).After-levels_of-level) c.load-n.ensures c.is_roomy.ensures c.if-is_roomy.false, p.1, p.2)

pub root_of-root-requires : goal.root_of-root-requires
root_of-root-requires c = start-long c.requires.0

pub levels_of-level-requires : goal.levels_of-level-requires
levels_of-level-requires c = start-long c.requires.0

pub returns-then-is_roomy : goal.returns-then-is_roomy
returns-then-is_roomy c = start-done _ c.light.ensures

pub returns : goal.returns
returns c = c.heavy.ensures
