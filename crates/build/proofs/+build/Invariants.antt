-- `build::build` meets its contract. The measure is the height; the loop over the children has the invariant `Children`.
use Rattle.rebuild_theory.specs.Build.{shape_of}
use Rattle.build.proofs.Children.{Children}
use Rattle.build.proofs.+build.Given as goal

abbrev pub decreases-build : goal.decreases-build
decreases-build l = l.fans.height

abbrev pub invariant-loop-j : goal.invariant-loop-j
invariant-loop-j l = Children l.list l.from l.n l.fan l.b l.cut (shape_of l.below.fan l.below.next l.below.height) l.initial.t l.t l.es l.left l.j
