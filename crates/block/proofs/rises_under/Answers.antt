-- `block::rises_under` meets its contract: the loop's invariant is `BothInv`: what is done and what is left make up the whole.
use native.Mathlib.Omega.{arith}
use Rattle.octets.proofs.Order.{stride}
use Rattle.spot.specs.Keys.{end_key}
use Rattle.block.proofs.Passes.{both-none, both-start, both-next, both_end}
use Rattle.block.proofs.rises_under.Goals as goal

pub returns-then-n-eq0 : goal.returns-then-n-eq0
returns-then-n-eq0 c = let a = c.args in both-none a.s.now a.w a.n a.at a.floor a.low c.if-n-eq0.true

pub raw_key-prev-requires : goal.raw_key-prev-requires
raw_key-prev-requires c = let a = c.args in omega (arith, stride a.w {i = 0} {n = a.n} (omega arith))

pub loop-i-init : goal.loop-i-init
loop-i-init c =
    let a = c.args in
    (omega arith, omega arith, both-start a.s.now a.w a.n a.at a.floor a.low (omega arith) c.raw_key-prev.ensures c.rank_key.ensures)

pub overflow_mul-w : goal.overflow_mul-w
overflow_mul-w c = omega (arith, stride c.args.w {i = c.loop-i.i} {n = c.args.n} (omega arith))

pub overflow_add-at : goal.overflow_add-at
overflow_add-at c = omega (arith, stride c.args.w {i = c.loop-i.i} {n = c.args.n} (omega arith))

pub raw_key-k-requires : goal.raw_key-k-requires
raw_key-k-requires c = omega (arith, stride c.args.w {i = c.loop-i.i} {n = c.args.n} (omega arith))

pub loop-i-preserved : goal.loop-i-preserved
loop-i-preserved c =
    let a = c.args in
    let l = c.loop-i in (
      omega arith,
      omega arith,
      both-next a.s.now a.w a.n a.at a.floor a.low l.ok l.prev l.i l.invariant.2 (omega arith) c.raw_key-k.ensures c.rank_key-in-loop-i.ensures,
    )

pub returns : goal.returns
unfolding end_key
returns c =
    let a = c.args in
    let l = c.loop-i in
    both_end a.s.now a.w a.n a.at a.floor a.low l.ok l.prev l.i l.invariant.2 (omega arith)
