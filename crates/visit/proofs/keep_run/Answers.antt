-- `visit::keep_run` meets its contract: keys below lo and above last are left out.
use Prim.Native.Nat.{◌+◌, ◌*◌}
use native.Mathlib.Omega.{arith}
use Rattle.visit.specs.Visit.{keys_from}
use Rattle.visit.proofs.Gathering.{kept-start, kept_next, kept-stop, kept-end, kept_full}
use Rattle.visit.proofs.Search.{Reads, key_reads}
use Rattle.visit.proofs.keep_run.Goals as goal
use Rattle.visit.proofs.keep_run.Goals.{In-loop-j}

pub loop-j-init : goal.loop-j-init
loop-j-init c =
    let a = c.args in
    let e = c.below-j.ensures in
    (e.1, kept-start a.t.now a.at a.w a.n a.lo a.last a.c c.requires.0.rise a.list.now e.0 e.1 (omega (arith, c.requires.1, c.requires.2)))

-- the key may be read
reads : (c : In-loop-j) → let a = c.args in Reads a.t.now (a.at + a.w * c.loop-j.j)
reads c = key_reads c.requires.0 c.loop-j.j c.loop-j-test.true

pub overflow_mul-w : goal.overflow_mul-w
overflow_mul-w c = omega (arith, (reads (goal.at.overflow_mul-w c).In-loop-j).0)

pub overflow_add-at : goal.overflow_add-at
overflow_add-at c = omega (arith, (reads (goal.at.overflow_add-at c).In-loop-j).0)

pub read_key-k-requires : goal.read_key-k-requires
read_key-k-requires c = reads (goal.at.read_key-k-requires c).In-loop-j

pub returns-then-last-k : goal.returns-then-last-k
returns-then-last-k c =
    let a = c.args in
    let l = c.loop-j in
    kept-stop a.t.now a.at a.w a.n a.lo a.last a.c c.requires.0.rise l.j c.loop-j-test.true c.read_key-k.ensures.0 c.if-last-k.true l.invariant.1

pub returns-then-l-ge64 : goal.returns-then-l-ge64
returns-then-l-ge64 c =
    let a = c.args in
    kept_full (keys_from a.t.now a.w a.n a.at) a.lo a.last a.c c.loop-j.invariant.1.sized

pub loop-j-preserved : goal.loop-j-preserved
loop-j-preserved c =
    let a = c.args in
    let l = c.loop-j in
    let v = c.keep_key-l.ensures in (
      omega (arith, c.loop-j-test.true),
      kept_next a.t.now a.at a.w a.n a.lo a.last a.c c.requires.0.rise l.j c.read_key-k.ensures.0 l.invariant.1 v.0,
    )

pub returns : goal.returns
returns c =
    let a = c.args in
    let l = c.loop-j in
    kept-end a.t.now a.at a.w a.n a.lo a.last a.c c.requires.0.rise l.j (omega (arith, l.invariant.0, c.loop-j-test.false)) l.invariant.1
