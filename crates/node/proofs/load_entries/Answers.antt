-- `node::load_entries` meets its contract: each entry read is put behind those before it.
use mathlib.Core.Path.{◌≡◌, refl}
use native.Mathlib.Omega.{arith}
use borrow.Author.Rules.{rules}
use Rattle.block.specs.Access.{front_of}
use Rattle.node.proofs.Loading.{none-loaded, one-loaded, all-loaded}
use Rattle.node.proofs.Loads.{counts}
use Rattle.node.proofs.load_entries.Goals as goal

pub loop-i-init : goal.loop-i-init
loop-i-init c =
    let t = c.args.s.now in
    (search rules, omega (arith, (counts t c.requires.0 (front_of t) refl).c, c.requires.1), search rules, none-loaded t _ refl)

pub entry_at-e-requires : goal.entry_at-e-requires
entry_at-e-requires c = (c.requires.0, omega (arith, c.requires.1))

pub loop-i-preserved : goal.loop-i-preserved
loop-i-preserved c =
    let l = c.loop-i in (
      omega arith,
      l.invariant.1,
      l.invariant.2,
      one-loaded c.args.s.now l.out.list l.i c.entry_at-e.result (omega arith) (omega (arith, c.requires.1)) c.entry_at-e.ensures l.invariant.3,
    )

pub returns : goal.returns
returns c =
    let l = c.loop-i in
    let e : l.i ≡ c.args.c = omega arith in
    all-loaded c.args.s.now l.out c.args.c c.requires.1 l.invariant.2 l.invariant.1 (rw e at l.invariant.3)
