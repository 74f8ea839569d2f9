-- `block::rises` meets its contract: the loop's invariant is `RiseInv`: what is done and what is left make up the whole.
use native.Mathlib.Omega.{arith}
use Rattle.octets.proofs.Order.{stride}
use Rattle.block.proofs.Passes.{rise-none, rise-start, rise-next, rise-end}
use Rattle.block.proofs.rises.Goals as goal

pub returns-then-n-eq0 : goal.returns-then-n-eq0
returns-then-n-eq0 c = let a = c.args in rise-none a.s.now a.w a.n a.at a.floor c.if-n-eq0.true

pub raw_key-prev-requires : goal.raw_key-prev-requires
raw_key-prev-requires c = let a = c.args in omega (arith, stride a.w {i = 0} {n = a.n} (omega arith))

pub loop-i-init : goal.loop-i-init
loop-i-init c =
    let a = c.args in
    (omega arith, omega arith, rise-start a.s.now a.w a.n a.at a.floor (omega arith) c.raw_key-prev.ensures)

pub overflow_mul-w : goal.overflow_mul-w
overflow_mul-w c = omega (arith, stride c.args.w {i = c.loop-i.i} {n = c.args.n} (omega arith))

pub overflow_add-at : goal.overflow_add-at
overflow_add-at c = omega (arith, stride c.args.w {i = c.loop-i.i} {n = c.args.n} (omega arith))

pub raw_key-k-requires : goal.raw_key-k-requires
raw_key-k-requires c = omega (arith, stride c.args.w {i = c.loop-i.i} {n = c.args.n} (omega arith))

pub loop-i-preserved : goal.loop-i-preserved
loop-i-preserved c =
    let a = c.args in
    let l = c.loop-i in
    (omega arith, omega arith, rise-next a.s.now a.w a.n a.at a.floor l.ok l.prev l.i l.invariant.2 (omega arith) c.raw_key-k.ensures)

pub returns : goal.returns
returns c =
    let a = c.args in
    let l = c.loop-i in
    rise-end a.s.now a.w a.n a.at a.floor l.ok l.prev l.i l.invariant.2 (omega arith)
