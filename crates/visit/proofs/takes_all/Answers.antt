-- `visit::takes_all` meets its contract: what lies in the range of what is gathered is not struck where that is nothing.
use mathlib.Core.Bool.{false≢true, ◌&&◌}
use Prim.Native.Nat.{◌-◌}
use native.Mathlib.Omega.{arith}
use lib.Dec.{eqb, leb}
use borrow.Author.Tests.{eqb-true, leb-true}
use Rattle.octets.proofs.Tests.{and_left, and_right}
use Rattle.visit.proofs.Search.{key_reads, first_reads}
use Rattle.visit.proofs.Gathering.{all-taken}
use Rattle.visit.proofs.takes_all.Goals as goal

pub returns-then-n-eq0 : goal.returns-then-n-eq0
returns-then-n-eq0 c = λ h. absurd (false≢true h)

pub read_key-first-requires : goal.read_key-first-requires
read_key-first-requires c = first_reads c.requires.0 (omega (arith, c.if-n-eq0.false))

pub read_key-last-requires : goal.read_key-last-requires
read_key-last-requires c = key_reads c.requires.0 (c.args.n - 1) (omega (arith, c.if-n-eq0.false))

pub returns : goal.returns
returns c =
    let wants = c.wants_all in
    let a = c.args in
    let none = eqb a.p.waits 0 in
    let low = leb a.p.lo c.read_key-first.result in
    let high = leb c.read_key-last.result a.p.last in
    λ h.
    let near = and_left ((none && low) && high) wants.result h in
    let first = and_left (none && low) high near in
    all-taken a.t.now a.at a.n a.q a.p a.ws.now c.requires.1 (eqb-true a.p.waits 0 (and_left none low first)) (omega (arith, c.if-n-eq0.false)) c.requires.0.rise
    (wants.ensures (and_right ((none && low) && high) wants.result h))
    (omega (arith, c.read_key-first.ensures.0, leb-true a.p.lo c.read_key-first.result (and_right none low first)))
    (omega (arith, c.read_key-last.ensures.0, leb-true c.read_key-last.result a.p.last (and_right (none && low) high near)))
