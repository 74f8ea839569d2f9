-- `plan::count_left` meets its contract. The loop's invariant: what is counted, and what is still to be counted, is the whole.
use mathlib.Core.Path.{◌≡◌, sym, ap, ◌∙◌}
use Prim.Native.Nat.{◌*◌}
use native.Mathlib.Omega.{arith}
use lib.Dec.{leb}
use Rattle.spot.specs.Keys.{rank_key}
use Rattle.spot.specs.Spots.{key_at}
use Rattle.plan.proofs.Reading.{readable-at, bit-small, counted, counted-le, counted_none, counted-turn, counted_is}
use Rattle.plan.proofs.count_left.Goals as goal

pub read_key-requires : goal.read_key-requires
read_key-requires c =
    readable-at c.args.spots.now c.args.p.to c.loop-i.i c.requires (omega arith)

pub overflow_add-c : goal.overflow_add-c
overflow_add-c c =
    let l = c.loop-i in
    let k = counted-le c.args.spots.now c.args.floor c.args.p.to c.args.p.from in
    omega (arith, l.invariant, k, c.requires.inside, bit-small (leb c.args.floor c.rank_key.result))

pub loop-i-preserved : goal.loop-i-preserved
loop-i-preserved c =
    let l = c.loop-i in
    let e : c.rank_key.result ≡ rank_key (key_at c.args.spots.now (12 * l.i)) =
    c.rank_key.ensures ∙ ap rank_key c.read_key.ensures.0 in
    let k = counted-turn c.args.spots.now c.args.floor c.args.p.to l.i (omega arith) in
    rw e (omega (arith, l.invariant, k))

pub returns : goal.returns
returns c =
    let l = c.loop-i in
    let n = counted_none c.args.spots.now c.args.floor c.args.p.to l.i (omega arith) in
    let k = counted-le c.args.spots.now c.args.floor c.args.p.to c.args.p.from in
    let e : l.c ≡ counted c.args.spots.now c.args.floor c.args.p.to c.args.p.from = omega (arith, l.invariant, n) in
    (e ∙ sym (counted_is c.args.spots.now c.args.p c.args.floor), omega (arith, e, k))
