-- `visit::near` meets its contract: the keys counted are below, and the first that is not bounds the count.
use mathlib.Core.Logic.{⊎_elim}
use Prim.Native.Nat.{◌+◌, ◌*◌}
use Rattle.visit.specs.Visit.{below_in, keys_from}
use Rattle.visit.proofs.Search.{Reads, key_reads, run_up, run_down, near-turn}
use native.Mathlib.Omega.{arith}
use Rattle.visit.proofs.near.Goals as goal
use Rattle.visit.proofs.near.Goals.{In-loop-i}

-- the key may be read
reads : (c : In-loop-i) → let a = c.args in Reads a.t.now (a.at + a.w * c.loop-i.i)
reads c = key_reads c.requires.0 c.loop-i.i (omega arith)

pub overflow_mul-w : goal.overflow_mul-w
overflow_mul-w c = omega (arith, (reads (goal.at.overflow_mul-w c).In-loop-i).0)

pub overflow_add-at : goal.overflow_add-at
overflow_add-at c = omega (arith, (reads (goal.at.overflow_add-at c).In-loop-i).0)

pub read_key-requires : goal.read_key-requires
read_key-requires c = reads (goal.at.read_key-requires c).In-loop-i

pub loop-i-preserved : goal.loop-i-preserved
loop-i-preserved c =
    let a = c.args in
    let p = c.requires in
    let l = c.loop-i in
    let m = below_in a.k (keys_from a.t.now a.w a.n a.at) in
    let v = near-turn m l.r l.i c.read_key.result a.k (l.invariant.1, l.invariant.2, l.invariant.3)
    (λ h. run_up a.t.now a.w a.n a.at p.0.rise a.k l.i (omega arith) (omega (arith, c.read_key.ensures.0)))
    (λ h. run_down a.t.now a.w a.n a.at p.0.rise a.k l.i (omega arith) (omega (arith, c.read_key.ensures.0)))
    in
    (omega arith, v.0, v.1, v.2)

pub returns : goal.returns
returns c = ⊎_elim (λ e. omega arith) (λ l. omega arith) c.loop-i.invariant.3
