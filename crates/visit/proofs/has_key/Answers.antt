-- `visit::has_key` meets its contract: the first key that is not below decides.
use native.Mathlib.Omega.{arith}
use Prim.Native.Nat.{◌+◌, ◌*◌}
use Rattle.visit.proofs.Search.{Reads, key_reads, run-has-none, run-has}
use Rattle.visit.proofs.has_key.Goals as goal
use Rattle.visit.proofs.has_key.Goals.{Else-n-i}

pub returns-then-n-i : goal.returns-then-n-i
returns-then-n-i c =
    let a = c.args in
    run-has-none a.t.now a.w a.n a.at c.requires.rise a.k c.below-i.ensures.0 (omega arith)

-- the key may be read
reads : (c : Else-n-i) → let a = c.args in Reads a.t.now (a.at + a.w * c.below-i.result)
reads c = key_reads c.requires c.below-i.result (omega arith)

pub overflow_mul-w : goal.overflow_mul-w
overflow_mul-w c = omega (arith, (reads (goal.at.overflow_mul-w c).Else-n-i).0)

pub overflow_add-at : goal.overflow_add-at
overflow_add-at c = omega (arith, (reads (goal.at.overflow_add-at c).Else-n-i).0)

pub read_key-requires : goal.read_key-requires
read_key-requires c = reads (goal.at.read_key-requires c).Else-n-i

pub returns : goal.returns
returns c =
    let a = c.args in
    run-has a.t.now a.w a.n a.at c.requires.rise a.k c.below-i.ensures.0 (omega arith) c.read_key.ensures.0
