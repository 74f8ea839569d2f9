-- `visit::eighths` meets its contract: the eighths counted are below, and the first that is not bounds the count.
use mathlib.Core.Logic.{⊎_elim}
use Prim.Native.Nat.{◌+◌, ◌*◌}
use Rattle.visit.specs.Visit.{below_in, keys_from}
use Rattle.visit.proofs.Search.{Reads, key_reads, run-most, run_up, run_down, eighth-turn}
use native.Mathlib.Omega.{arith}
use Rattle.visit.proofs.eighths.Goals as goal
use Rattle.visit.proofs.eighths.Goals.{In-loop-j}

-- the key may be read
reads : (c : In-loop-j) → let a = c.args in Reads a.t.now (a.at + a.w * (8 * c.loop-j.j + 7))
reads c = key_reads c.requires (8 * c.loop-j.j + 7) (omega arith)

pub overflow_mul-w : goal.overflow_mul-w
overflow_mul-w c = omega (arith, (reads (goal.at.overflow_mul-w c).In-loop-j).0)

pub overflow_add-at : goal.overflow_add-at
overflow_add-at c = omega (arith, (reads (goal.at.overflow_add-at c).In-loop-j).0)

pub read_key-requires : goal.read_key-requires
read_key-requires c = reads (goal.at.read_key-requires c).In-loop-j

pub loop-j-preserved : goal.loop-j-preserved
loop-j-preserved c =
    let a = c.args in
    let p = c.requires in
    let l = c.loop-j in
    let m = below_in a.k (keys_from a.t.now a.w a.n a.at) in
    let v = eighth-turn m l.c l.j c.read_key.result a.k (l.invariant.1, l.invariant.2, l.invariant.3)
    (λ h. run_up a.t.now a.w a.n a.at p.rise a.k (8 * l.j + 7) (omega arith) (omega (arith, c.read_key.ensures.0)))
    (λ h. run_down a.t.now a.w a.n a.at p.rise a.k (8 * l.j + 7) (omega arith) (omega (arith, c.read_key.ensures.0)))
    in
    (omega arith, v.0, v.1, v.2)

pub returns : goal.returns
returns c =
    let a = c.args in
    (c.loop-j.invariant.2, ⊎_elim (λ e. omega (arith, run-most a.t.now a.w a.n a.at a.k)) (λ l. l) c.loop-j.invariant.3)
