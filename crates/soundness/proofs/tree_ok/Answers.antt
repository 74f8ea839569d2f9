-- `soundness::tree_ok` meets its contract: the map in block 0 is compared with the map of the blocks reached.
use mathlib.Core.Path.{refl, ◌∙◌}
use native.Mathlib.Omega.{arith}
use lib.ListN.{take, drop}
use Rattle.tree.proofs.Sources.{header-few}
use Rattle.visit.proofs.Roots.{header-long, root-low, levels-some, levels-few}
use Rattle.soundness.proofs.Whole.{tree-no, tree-yes, equal-same}
use Rattle.soundness.proofs.tree_ok.Goals as goal

pub root_of-root-requires : goal.root_of-root-requires
root_of-root-requires c = header-long c.args.t.now c.requires

pub levels_of-level-requires : goal.levels_of-level-requires
levels_of-level-requires c = header-long c.args.t.now c.requires

pub overflow_sub-level : goal.overflow_sub-level
overflow_sub-level c =
    levels-some c.args.t.now c.requires c.root_of-root.ensures.0 c.levels_of-level.ensures.0

pub sound_walk-requires : goal.sound_walk-requires
sound_walk-requires c =
    let t = c.args.t.now in
    record {
      inside = root-low t c.requires c.root_of-root.ensures.0 c.levels_of-level.ensures.0;
      blocks = header-few t c.requires;
      mapped = refl;
      deep = levels-few t c.requires c.root_of-root.ensures.0 c.levels_of-level.ensures.0;
    }

pub returns-then-not-sound_walk : goal.returns-then-not-sound_walk
returns-then-not-sound_walk c =
    tree-no c.args.t.now c.requires (λ i. omega (arith, c.shared_slice_known-1.given i)) c.root_span.result refl c.root_of-root.ensures.0 c.levels_of-level.ensures.0 c.root_span.ensures.0
    c.root_span.ensures.1
    c.sound_walk.ensures
    c.if-not-sound_walk.true

pub slice_bounds-eq-end : goal.slice_bounds-eq-end
slice_bounds-eq-end c =
    omega (arith, header-long c.args.t.now c.requires)

pub returns : goal.returns
returns c =
    tree-yes c.args.t.now c.requires (λ i. omega (arith, c.shared_slice_known-1.given i)) c.root_span.result refl c.root_of-root.ensures.0 c.levels_of-level.ensures.0 c.root_span.ensures.0
    c.root_span.ensures.1
    c.sound_walk.ensures
    c.if-not-sound_walk.false
    c.set_bit.ensures
    (c.eq.ensures ∙ equal-same (take 512 (drop 12 c.args.t.now)) c.set_bit.new.map)
