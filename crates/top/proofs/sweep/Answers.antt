-- `top::sweep` meets its contract: each turn gives what no unread part can outdo, and reads the child that promises most.
use mathlib.Core.Path.{sym, ◌∙◌}
use Prim.Native.Nat.{◌≤◌}
use native.Mathlib.Omega.{arith}
use Rattle.tree.proofs.Sources.{header-few}
use Rattle.top.proofs.Sweeps.{swept-givable, gave-swept, all-given, kid-next, kid-stuck, kid-swept, kid-slots, kid-allowed, swept-few, swept-behind, ok-was, err-was, searched-broken, searched-short, searched-done}
use Rattle.top.proofs.sweep.Goals as goal

pub give_above-g-requires : goal.give_above-g-requires
give_above-g-requires c =
    let at_test = c.loop-z-test in
    let p = c.requires in
    let l = c.loop-z in
    let few : l.z.slots ≤ 4096 = omega (arith, at_test.true, l.invariant.0, p.few) in
    swept-givable few l.invariant.2 c.floor_of-floor.result c.floor_of-floor.ensures (omega (arith, p.fits, l.invariant.1.output))

pub ceiling_of-ceiling-requires : goal.ceiling_of-ceiling-requires
ceiling_of-ceiling-requires c =
    let at_test = c.loop-z-test in
    let at_give = c.give_above-g in
    let p = c.requires in
    let l = c.loop-z in
    let at-floor = c.floor_of-floor in
    let few : l.z.slots ≤ 4096 = omega (arith, at_test.true, l.invariant.0, p.few) in
    (gave-swept few l.invariant.2 at-floor.result at-floor.ensures at_give.ensures).sofar.headed.held.room

pub set_bit-requires : goal.set_bit-requires
set_bit-requires c =
    let l = c.loop-z in
    omega (arith, l.invariant.2.seen_is.sized)

pub shape_of-seen-then-k-given : goal.shape_of-seen-then-k-given
shape_of-seen-then-k-given c =
    let l = c.loop-z in
    c.set_bit.auto.map ∙ l.invariant.1.map

pub shape_of-rows-then-k-given : goal.shape_of-rows-then-k-given
shape_of-rows-then-k-given c =
    let l = c.loop-z in
    l.invariant.1.row

pub shape_of-kids-then-k-given : goal.shape_of-kids-then-k-given
shape_of-kids-then-k-given c =
    let l = c.loop-z in
    l.invariant.1.kid

pub shape_of-heads-then-k-given : goal.shape_of-heads-then-k-given
shape_of-heads-then-k-given c =
    let l = c.loop-z in
    let at_give = c.give_above-g in
    at_give.auto.heads ∙ l.invariant.1.head

pub shape_of-out-then-k-given : goal.shape_of-out-then-k-given
shape_of-out-then-k-given c =
    let l = c.loop-z in
    let at_give = c.give_above-g in
    at_give.auto.out ∙ l.invariant.1.output

pub returns-then-k-given : goal.returns-then-k-given
returns-then-k-given c =
    let a = c.args in
    let at_test = c.loop-z-test in
    let at-stop = c.if-k-given in
    let p = c.requires in
    let l = c.loop-z in
    let at-floor = c.floor_of-floor in
    let at_give = c.give_above-g in
    let few : l.z.slots ≤ 4096 = omega (arith, at_test.true, l.invariant.0, p.few) in
    let s = gave-swept few l.invariant.2 at-floor.result at-floor.ensures at_give.ensures in
    searched-done (swept-behind s)
    (all-given few s at-floor.result at-floor.ensures at_give.ensures.ends a.most l.invariant.3 at-stop.true c.set_bit.ensures c.ceiling_of-ceiling.ensures)

pub read_kid-requires : goal.read_kid-requires
read_kid-requires c =
    let a = c.args in
    let at_test = c.loop-z-test in
    let p = c.requires in
    let l = c.loop-z in
    let lens = l.invariant.1 in
    let more = at_test.true in
    let at-floor = c.floor_of-floor in
    let at_give = c.give_above-g in
    let few : l.z.slots ≤ 4096 = omega (arith, more, l.invariant.0, p.few) in
    let s = gave-swept few l.invariant.2 at-floor.result at-floor.ensures at_give.ensures in
    kid-next few s at-floor.result at-floor.ensures at_give.ensures.ends a.most c.if-k-given.false (omega (arith, more, l.invariant.0, lens.row)) (omega (arith, p.few, lens.row))
    (lens.kid ∙ p.kid_rows ∙ sym lens.row)
    (at_give.auto.heads ∙ lens.head ∙ p.head_rows ∙ sym lens.row)

pub shape_of-seen-in_err-z : goal.shape_of-seen-in_err-z
shape_of-seen-in_err-z c =
    let l = c.loop-z in
    let at_read = c.read_kid in
    at_read.auto.seen ∙ l.invariant.1.map

pub shape_of-rows-in_err-z : goal.shape_of-rows-in_err-z
shape_of-rows-in_err-z c =
    let l = c.loop-z in
    let at_read = c.read_kid in
    at_read.auto.rows ∙ l.invariant.1.row

pub shape_of-kids-in_err-z : goal.shape_of-kids-in_err-z
shape_of-kids-in_err-z c =
    let l = c.loop-z in
    let at_read = c.read_kid in
    at_read.auto.kids ∙ l.invariant.1.kid

pub shape_of-heads-in_err-z : goal.shape_of-heads-in_err-z
shape_of-heads-in_err-z c =
    let l = c.loop-z in
    let at_give = c.give_above-g in
    let at_read = c.read_kid in
    at_read.auto.heads ∙ at_give.auto.heads ∙ l.invariant.1.head

pub shape_of-out-in_err-z : goal.shape_of-out-in_err-z
shape_of-out-in_err-z c =
    let l = c.loop-z in
    let at_give = c.give_above-g in
    at_give.auto.out ∙ l.invariant.1.output

pub returns-in_err-z : goal.returns-in_err-z
returns-in_err-z c =
    let a = c.args in
    let at_test = c.loop-z-test in
    let at-stop = c.if-k-given in
    let at_read = c.read_kid in
    let p = c.requires in
    let l = c.loop-z in
    let at-floor = c.floor_of-floor in
    let at_give = c.give_above-g in
    let few : l.z.slots ≤ 4096 = omega (arith, at_test.true, l.invariant.0, p.few) in
    let s = gave-swept few l.invariant.2 at-floor.result at-floor.ensures at_give.ensures in
    let e = err-was _ _ c.ok_or.ensures.value c.in_err-z.was _ c.from_residual.ensures.1 in
    rw e.1 (
    searched-broken (swept-behind s) (kid-stuck few s at-floor.result at-floor.ensures at_give.ensures.ends a.most at-stop.false at_read.ensures e.0)
    )

pub loop-z-smaller : goal.loop-z-smaller
loop-z-smaller c =
    let a = c.args in
    let at_test = c.loop-z-test in
    let at-stop = c.if-k-given in
    let at_read = c.read_kid in
    let p = c.requires in
    let l = c.loop-z in
    let at-floor = c.floor_of-floor in
    let at_give = c.give_above-g in
    let more = at_test.true in
    let few : l.z.slots ≤ 4096 = omega (arith, more, l.invariant.0, p.few) in
    let s = gave-swept few l.invariant.2 at-floor.result at-floor.ensures at_give.ensures in
    omega (arith, more, kid-slots few s at-floor.result at-floor.ensures at_give.ensures.ends a.most at-stop.false at_read.ensures (ok-was _ _ c.ok_or.ensures.value c.in_ok-z.was))

pub loop-z-preserved : goal.loop-z-preserved
loop-z-preserved c =
    let a = c.args in
    let at_test = c.loop-z-test in
    let at-stop = c.if-k-given in
    let p = c.requires in
    let most = a.most in
    let l = c.loop-z in
    let lens = l.invariant.1 in
    let more = at_test.true in
    let at-floor = c.floor_of-floor in
    let at_give = c.give_above-g in
    let on = at-stop.false in
    let at_read = c.read_kid in
    let ok = ok-was at_read.result _ c.ok_or.ensures.value c.in_ok-z.was in
    let few : l.z.slots ≤ 4096 = omega (arith, more, l.invariant.0, p.few) in
    let s = gave-swept few l.invariant.2 at-floor.result at-floor.ensures at_give.ensures in (
      l.invariant.0,
      record {
        map = at_read.auto.seen ∙ lens.map;
        output = at_give.auto.out ∙ lens.output;
        row = at_read.auto.rows ∙ lens.row;
        kid = at_read.auto.kids ∙ lens.kid;
        head = at_read.auto.heads ∙ at_give.auto.heads ∙ lens.head;
      },
      kid-swept few s at-floor.result at-floor.ensures at_give.ensures.ends most on at_read.ensures ok (omega (arith, more, l.invariant.0, lens.row)),
      kid-allowed few s at-floor.result at-floor.ensures at_give.ensures.ends most on at_read.ensures ok,
    )

pub returns : goal.returns
returns c =
    let a = c.args in
    let p = c.requires in
    let l = c.loop-z in
    let s = l.invariant.2 in
    searched-short (swept-behind s) (omega (arith, swept-few p.x1 p.x2 p.asks s, header-few a.t.now s.chain.header, c.loop-z-test.false, l.invariant.0))
