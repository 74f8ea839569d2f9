-- `visit::onward` meets its contract: the keys passed are below, and the first that is not ends the count.
use Prim.Native.Nat.{◌≤◌}
use Rattle.visit.specs.Visit.{below_in, keys_from}
use Rattle.visit.proofs.Search.{key_reads, run-most, run_up, run_down}
use native.Mathlib.Omega.{arith}
use Rattle.visit.proofs.onward.Goals as goal

pub loop-i-init : goal.loop-i-init
loop-i-init c =
    let s = c.args in
    (omega (arith, c.requires.1, run-most s.t.now 12 s.n s.at s.k), c.requires.1)

pub read_key-requires : goal.read_key-requires
read_key-requires c = key_reads c.requires.0 c.loop-i.i (omega arith)

pub returns-then-k-read_key : goal.returns-then-k-read_key
returns-then-k-read_key c =
    let s = c.args in
    let p = c.requires in
    let l = c.loop-i in
    let m : below_in s.k (keys_from s.t.now 12 s.n s.at) ≤ l.i = run_down s.t.now 12 s.n s.at p.0.rise s.k l.i (omega arith) (omega (arith, c.read_key.ensures.0)) in
    omega (arith, l.invariant.1)

pub loop-i-preserved : goal.loop-i-preserved
loop-i-preserved c =
    let s = c.args in
    let p = c.requires in
    let l = c.loop-i in
    (omega arith, omega (arith, run_up s.t.now 12 s.n s.at p.0.rise s.k l.i (omega arith) (omega (arith, c.read_key.ensures.0))))

pub returns : goal.returns
returns c =
    let s = c.args in
    omega (arith, c.loop-i.invariant.1, run-most s.t.now 12 s.n s.at s.k)
