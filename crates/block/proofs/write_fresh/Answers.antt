-- `block::write_fresh` meets its contract: its stores are those of `fresh_marks`.
use mathlib.Core.Path.{refl}
use native.Mathlib.Omega.{arith}
use lib.ListN.{length-set}
use Rattle.block.specs.Checks.{fresh_marks}
use Rattle.block.proofs.write_fresh.Goals as goal

pub bounds-t-5 : goal.bounds-t-5
bounds-t-5 c = simp length-set (omega arith)

pub bounds-t-7 : goal.bounds-t-7
bounds-t-7 c = simp length-set (omega arith)

pub bounds-t-12 : goal.bounds-t-12
bounds-t-12 c = simp length-set (omega arith)

pub bounds-t-2049 : goal.bounds-t-2049
bounds-t-2049 c = simp length-set (omega arith)

pub bounds-t-2050 : goal.bounds-t-2050
bounds-t-2050 c = simp length-set (omega arith)

pub returns : goal.returns
unfolding fresh_marks
returns c = refl
