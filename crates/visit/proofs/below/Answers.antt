-- `visit::below` meets its contract: the count lies in the eight after the eighths.
use Rattle.visit.proofs.Search.{run-most}
use native.Mathlib.Omega.{arith}
use Rattle.visit.proofs.below.Goals as goal

pub overflow_mul-a : goal.overflow_mul-a
overflow_mul-a c = omega (arith, run-most c.args.t.now c.args.w c.args.n c.args.at c.args.k)

pub overflow_add-a : goal.overflow_add-a
overflow_add-a c = omega (arith, run-most c.args.t.now c.args.w c.args.n c.args.at c.args.k)

pub near-requires : goal.near-requires
near-requires c = (c.requires, c.eighths-a.ensures.0, run-most c.args.t.now c.args.w c.args.n c.args.at c.args.k, omega arith)

pub returns-then-n-a : goal.returns-then-n-a
returns-then-n-a c = (c.near.ensures, omega (arith, c.near.ensures, run-most c.args.t.now c.args.w c.args.n c.args.at c.args.k))

pub returns : goal.returns
returns c = (c.near-2.ensures, omega (arith, c.near-2.ensures, run-most c.args.t.now c.args.w c.args.n c.args.at c.args.k))
