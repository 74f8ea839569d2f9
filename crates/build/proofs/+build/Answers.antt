-- `build::build` meets its contract. The measure is the height; the loop over the children has the invariant `Children`.
use mathlib.Core.Path.{refl, ap, ◌∙◌}
use native.Mathlib.Omega.{arith}
use Prim.Native.Nat.{ℕ, ◌-◌, ◌*◌}
use lib.ListN.{length}
use Rattle.block.specs.Table.{blocks_of}
use Rattle.rebuild_theory.specs.Build.{shape_of}
use Rattle.build.proofs.Segments.{Under}
use Rattle.build.proofs.Children.{children-none, share-small, child-room, child-ready, child-added}
use Rattle.build.proofs.Grown.{leaf-ready, leaf-post, ready, inner-ready, inner-post}
use Rattle.build.proofs.+build.Goals as goal
use Rattle.build.proofs.+build.Goals.{Else-height-eq0}

-- what is known of the children of a node that is no leaf
parts : (t : ℕ) (c : Else-height-eq0 t)
    → let a = c.args in
    Under a.fans.fan (shape_of a.fans.next 6 (a.fans.height - 1)) a.n a.b (blocks_of (length a.t.now))
parts t c = ready c.requires 0 c.if-height-eq0.false

pub put_own-requires : goal.put_own-requires
put_own-requires t c =
    leaf-ready c.requires _ c.if-height-eq0.true c.no_entries-es.ensures.0 c.no_entries-es.ensures.1

pub returns-then-height-eq0 : goal.returns-then-height-eq0
returns-then-height-eq0 t c =
    leaf-post c.requires _ c.if-height-eq0.true c.no_entries-es.result c.no_entries-es.ensures.1 c.put_own.ensures

pub nodes_of-width-requires : goal.nodes_of-width-requires
nodes_of-width-requires t c = let p = c.requires in omega (arith, p.near, p.high)

pub loop-j-init : goal.loop-j-init
loop-j-init t c = children-none _ _ _ _ _ _ _ _ (parts t (goal.at.loop-j-init t c).Else-height-eq0) c.no_entries-es.ensures.0 c.no_entries-es.ensures.1

pub overflow_add-start : goal.overflow_add-start
overflow_add-start t c =
    let m = c.loop-j.invariant.few in
    let s = c.requires.segment.inside in
    omega (arith, c.well_formed, c.ranges)

pub overflow_add-at : goal.overflow_add-at
overflow_add-at t c = let p = c.requires in omega (arith, p.last, p.blocks)

pub overflow_mul-at : goal.overflow_mul-at
overflow_mul-at t c =
    let room = child-room _ _ _ _ _ _ _ _ (parts t (goal.at.overflow_mul-at t c).Else-height-eq0) c.loop-j.invariant (omega arith) in
    let j = c.loop-j.j in
    record { fits = omega (arith, room.1, ap (λ (k : ℕ). j * k) c.nodes_of-width.ensures.0) }

pub overflow_add-at-in-loop-j : goal.overflow_add-at-in-loop-j
overflow_add-at-in-loop-j t c =
    let room = child-room _ _ _ _ _ _ _ _ (parts t (goal.at.overflow_add-at-in-loop-j t c).Else-height-eq0) c.loop-j.invariant (omega arith) in
    let j = c.loop-j.j in
    record { fits = omega (arith, room.0, room.1, room.2, ap (λ (k : ℕ). j * k) c.nodes_of-width.ensures.0) }

pub build-e-requires : goal.build-e-requires
build-e-requires t c =
    let p = c.requires in
    let d = c.if-height-eq0.false in (
      omega (arith, c.decreases, d),
      child-ready _ _ _ _ _ _ _ _ (parts t (goal.at.build-e-requires t c).Else-height-eq0) c.loop-j.invariant (omega arith) p.segment _ 6 _ refl (omega arith) (omega (arith, p.high)) c.nodes_of-width.ensures.0,
    )

pub add_entry-es-requires : goal.add_entry-es-requires
add_entry-es-requires t c = let below = parts t (goal.at.add_entry-es-requires t c).Else-height-eq0 in omega (arith, below.eight, c.loop-j.invariant.count)

pub overflow_sub-left : goal.overflow_sub-left
overflow_sub-left t c = share-small _ _ _ _ _ _ _ _ (parts t (goal.at.overflow_sub-left t c).Else-height-eq0) c.loop-j.invariant (omega arith)

pub loop-j-preserved : goal.loop-j-preserved
loop-j-preserved t c =
    child-added _ _ _ _ _ _ _ _ (parts t (goal.at.loop-j-preserved t c).Else-height-eq0) c.loop-j.invariant (omega arith) c.nodes_of-width.ensures.0 c.limit_at-under.ensures c.build-e.ensures.0 c.build-e.ensures.1 c.add_entry-es.ensures.0 c.add_entry-es.ensures.1

pub put_own-requires-2 : goal.put_own-requires-2
put_own-requires-2 t c =
    inner-ready c.requires _ c.if-height-eq0.false _ _ refl c.choose_cut-cut.ensures c.loop-j.invariant

pub shape_of-t : goal.shape_of-t
shape_of-t t c = c.put_own-2.ensures.sized ∙ c.loop-j.invariant.sized

pub returns : goal.returns
returns t c =
    inner-post c.requires _ c.if-height-eq0.false _ _ refl c.choose_cut-cut.ensures c.loop-j.invariant (omega arith) c.put_own-2.ensures

pub choose_cut-cut-requires : goal.choose_cut-cut-requires
choose_cut-cut-requires t c = c.requires.segment

pub overflow_sub-start : goal.overflow_sub-start
overflow_sub-start t c = let m = c.loop-j.invariant.few in omega arith
