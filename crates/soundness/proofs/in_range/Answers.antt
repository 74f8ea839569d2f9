-- `soundness::in_range` meets its contract: the node's buffers, and its entries' lows from the second on.
use native.Mathlib.Omega.{arith}
use Rattle.soundness.proofs.Ranges.{front-used, points-run, inserts-run, deletes-run, lows-run, range-inner, range-leaf}
use Rattle.soundness.proofs.in_range.Goals as goal

pub points_from-requires : goal.points_from-requires
points_from-requires c =
    omega (arith, front-used c.args.t.now c.args.b c.requires c.front_of-h.ensures.0)

pub inserts_from-requires : goal.inserts_from-requires
inserts_from-requires c =
    omega (arith, front-used c.args.t.now c.args.b c.requires c.front_of-h.ensures.0)

pub deletes_from-requires : goal.deletes_from-requires
deletes_from-requires c =
    omega (arith, front-used c.args.t.now c.args.b c.requires c.front_of-h.ensures.0)

pub keys_within-requires : goal.keys_within-requires
keys_within-requires c =
    (points-run c.args.t.now c.args.b c.requires c.front_of-h.ensures.0 c.points_from.ensures).asks

pub keys_within-requires-2 : goal.keys_within-requires-2
keys_within-requires-2 c =
    (inserts-run c.args.t.now c.args.b c.requires c.front_of-h.ensures.0 c.inserts_from.ensures).asks

pub keys_within-requires-3 : goal.keys_within-requires-3
keys_within-requires-3 c =
    (deletes-run c.args.t.now c.args.b c.requires c.front_of-h.ensures.0 c.deletes_from.ensures).asks

pub returns-then-h-eq0 : goal.returns-then-h-eq0
returns-then-h-eq0 c =
    let t = c.args.t.now in
    let b = c.args.b in
    let v = c.requires in
    let e = c.front_of-h.ensures.0 in
    range-leaf t b c.args.span (points-run t b v e c.points_from.ensures) (inserts-run t b v e c.inserts_from.ensures) (deletes-run t b v e c.deletes_from.ensures)
    c.keys_within.ensures
    c.keys_within-2.ensures
    c.keys_within-3.ensures
    (lows-run t b v e)
    (omega arith)

pub keys_within-requires-4 : goal.keys_within-requires-4
keys_within-requires-4 c =
    (lows-run c.args.t.now c.args.b c.requires c.front_of-h.ensures.0).asks

pub returns : goal.returns
returns c =
    let t = c.args.t.now in
    let b = c.args.b in
    let v = c.requires in
    let e = c.front_of-h.ensures.0 in
    range-inner t b c.args.span (points-run t b v e c.points_from.ensures) (inserts-run t b v e c.inserts_from.ensures) (deletes-run t b v e c.deletes_from.ensures)
    c.keys_within.ensures
    c.keys_within-2.ensures
    c.keys_within-3.ensures
    (lows-run t b v e)
    c.keys_within-4.ensures
