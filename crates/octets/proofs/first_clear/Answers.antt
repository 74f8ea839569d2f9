-- `octets::first_clear` meets its contract. The loop's invariant: every byte passed is full.
use native.Mathlib.Omega.{arith}
use Prim.Native.Nat.{◌-◌}
use lib.ListN.{get_or}
use lib.Count.{trailing_le}
use borrow.Author.Count.{below_more}
use Rattle.octets.proofs.Bits.{first-in, first-none}
use Rattle.octets.proofs.first_clear.Goals as goal

pub overflow_cast-result : goal.overflow_cast-result
overflow_cast-result c =
    omega (arith, trailing_le 8 (255 - get_or c.args.map.now c.loop-i.i 0))

pub overflow_add-result : goal.overflow_add-result
overflow_add-result c =
    omega (arith, trailing_le 8 (255 - get_or c.args.map.now c.loop-i.i 0))

pub returns-then-byte : goal.returns-then-byte
returns-then-byte c =
    first-in c.args.map.now c.loop-i.i c.loop-i.invariant
    (omega (arith, c.type_inv.map c.loop-i.i, c.if-byte.true))

pub loop-i-preserved : goal.loop-i-preserved
loop-i-preserved c = below_more _ _ c.loop-i.invariant c.if-byte.false

pub returns : goal.returns
returns c = first-none c.args.map.now (λ q l. c.loop-i.invariant q (omega arith))
