-- `visit::strike` meets its contract: keys below lo and above hi strike none, and no spot passed has a later key.
use mathlib.Core.Path.{sym, subst}
use Prim.Native.Nat.{ℕ, ◌+◌, ◌*◌, ◌≤◌}
use Rattle.visit.proofs.Marking.{strike-start, strike-next, strike-on, strike-stop, strike-end}
use Rattle.visit.proofs.Search.{Reads, key_reads}
use Rattle.visit.specs.Visit.{keys_from, below_in}
use native.Mathlib.Omega.{arith}
use Rattle.visit.proofs.strike.Goals as goal
use Rattle.visit.proofs.strike.Goals.{In-loop-j}

pub loop-j-init : goal.loop-j-init
loop-j-init c =
    let s = c.args in
    let p = c.requires in
    (omega arith, strike-start s.t.now s.at s.n s.a s.w s.c s.lo s.hi p.1.rise s.m.now p.3 c.below-j.ensures.0 c.below-j.ensures.1, λ h. omega arith)

-- the key may be read
reads : (c : In-loop-j) → let s = c.args in Reads s.t.now (s.a + s.w * c.loop-j.j)
reads c = key_reads c.requires.1 c.loop-j.j (omega arith)

pub overflow_mul-w : goal.overflow_mul-w
overflow_mul-w c = omega (arith, (reads (goal.at.overflow_mul-w c).In-loop-j).0)

pub overflow_add-a : goal.overflow_add-a
overflow_add-a c = omega (arith, (reads (goal.at.overflow_add-a c).In-loop-j).0)

pub read_key-k-requires : goal.read_key-k-requires
read_key-k-requires c = reads (goal.at.read_key-k-requires c).In-loop-j

pub returns-then-hi-k : goal.returns-then-hi-k
returns-then-hi-k c =
    let s = c.args in
    let p = c.requires in
    let l = c.loop-j in
    strike-stop s.t.now s.at s.n s.a s.w s.c s.lo s.hi p.1.rise l.j p.3 (omega arith) c.read_key-k.ensures.0 c.if-hi-k.true l.invariant.1

pub strike_key-i-requires : goal.strike_key-i-requires
strike_key-i-requires c =
    let s = c.args in
    let p = c.requires in
    let l = c.loop-j in (
      p.0,
      omega (arith, p.2, l.invariant.1.sized),
      subst (λ (k : ℕ). l.i ≤ below_in k (keys_from s.t.now 12 s.n s.at)) (sym c.read_key-k.ensures.0) (l.invariant.2 (omega arith)),
    )

pub loop-j-preserved : goal.loop-j-preserved
loop-j-preserved c =
    let s = c.args in
    let p = c.requires in
    let l = c.loop-j in
    let e = c.read_key-k.ensures.0 in
    let v = c.strike_key-i.ensures in (
      omega arith,
      strike-next s.t.now s.at s.n s.a s.w s.c s.lo s.hi p.1.rise l.j e l.invariant.1 v.1,
      λ h. strike-on s.t.now s.at s.n s.a s.w s.c s.lo s.hi p.1.rise l.j e v.0 h,
    )

pub returns : goal.returns
returns c =
    let s = c.args in
    let p = c.requires in
    strike-end s.t.now s.at s.n s.a s.w s.c s.lo s.hi p.1.rise c.loop-j.j (omega arith) c.loop-j.invariant.1
