-- `block::blocks_ok` meets its contract: the loop tests each of the eight places; its invariant is `TestsInv`.
use mathlib.Core.Path.{◌≡◌, sym, ap, ◌∙◌}
use mathlib.Core.Bool.{Bool, ◌||◌}
use Prim.Native.Nat.{◌+◌, ◌*◌}
use native.Mathlib.Omega.{arith}
use lib.Dec.{leb}
use borrow.Author.Tests.{le-leb}
use Rattle.octets.proofs.Records.{tests-make}
use Rattle.block.specs.Checks.{fresh_fine, place_fine, blocks_fine}
use Rattle.block.proofs.Shut.{in_left}
use Rattle.block.proofs.Passes.{tests-start, tests-next, tests-end}
use Rattle.block.proofs.blocks_ok.Goals as goal

pub returns-then-c-eq0 : goal.returns-then-c-eq0
unfolding blocks_fine
returns-then-c-eq0 c =
    let a = c.args in
    sym (tests-make (place_fine a.c a.s.now) 1 8 0 (λ i l. in_left (fresh_fine a.s.now (0 + 1 * i)) (le-leb a.c (0 + 1 * i) (omega arith))))

pub loop-j-init : goal.loop-j-init
loop-j-init c = let a = c.args in (omega arith, tests-start (place_fine a.c a.s.now) 1 8 0)

pub loop-j-preserved : goal.loop-j-preserved
loop-j-preserved c =
    let l = c.loop-j in
    let a = c.args in
    let e : l.j ≡ 0 + 1 * l.j = omega arith in
    (omega arith, tests-next (place_fine a.c a.s.now) 1 8 0 l.ok l.j l.invariant.1 (omega arith) (ap (λ (b : Bool). leb a.c l.j || b) c.fresh_ok.ensures ∙ ap (place_fine a.c a.s.now) e))

pub returns : goal.returns
unfolding blocks_fine
returns c =
    let l = c.loop-j in
    let a = c.args in
    tests-end (place_fine a.c a.s.now) 1 8 0 l.ok l.j l.invariant.1 (omega arith)
