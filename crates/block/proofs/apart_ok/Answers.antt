-- `block::apart_ok` meets its contract: the loop goes along both rising lists; its invariant is `ApartInv`.
use native.Mathlib.Omega.{arith}
use Rattle.block.proofs.Apart.{apart-start, apart-few, apart-many, apart-past, apart-stop, apart-next2}
use Rattle.block.proofs.apart_ok.Goals as goal

pub loop-j-init : goal.loop-j-init
loop-j-init c =
    let a = c.args in
    (omega arith, omega arith, apart-start a.s.now a.n a.at a.d a.ad c.requires.2 c.requires.3)

pub returns-then-n-i : goal.returns-then-n-i
returns-then-n-i c =
    let a = c.args in
    let l = c.loop-j in
    let r = c.past-i.result in
    let v = apart-past a.s.now a.n a.at a.d a.ad l.i l.j r l.invariant.2 c.past-i.ensures (omega arith) c.raw_key-b.ensures in
    apart-many a.s.now a.n a.at a.d a.ad r l.j v (omega arith)

pub returns-then-raw_key-b : goal.returns-then-raw_key-b
returns-then-raw_key-b c =
    let a = c.args in
    let l = c.loop-j in
    let r = c.past-i.result in
    let v = apart-past a.s.now a.n a.at a.d a.ad l.i l.j r l.invariant.2 c.past-i.ensures (omega arith) c.raw_key-b.ensures in
    apart-stop a.s.now a.n a.at a.d a.ad r l.j v (omega arith) (omega arith) c.raw_key.ensures c.raw_key-b.ensures c.if-raw_key-b.true

pub loop-j-preserved : goal.loop-j-preserved
loop-j-preserved c =
    let a = c.args in
    let l = c.loop-j in
    let r = c.past-i.result in
    let v = apart-past a.s.now a.n a.at a.d a.ad l.i l.j r l.invariant.2 c.past-i.ensures (omega arith) c.raw_key-b.ensures in (
      omega arith,
      omega arith,
      apart-next2 a.s.now a.n a.at a.d a.ad r l.j v (omega arith) (omega arith) c.raw_key.ensures c.raw_key-b.ensures
          (omega (arith, c.past-i.ensures.reached (omega arith), c.raw_key.ensures)),
    )

pub returns : goal.returns
returns c =
    let a = c.args in
    let l = c.loop-j in
    apart-few a.s.now a.n a.at a.d a.ad l.i l.j l.invariant.2 (omega arith)
