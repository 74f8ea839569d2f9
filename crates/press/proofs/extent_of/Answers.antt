-- `press::extent_of` meets its contract. The loop's invariant: the spots kept so far, and what the catalogue says of them.
use mathlib.Core.Path.{◌∙◌}
use native.Mathlib.Omega.{arith}
use Rattle.press.proofs.Pieces.{shown-none, shown-room, shown-in, shown-out, shown-all, spot-inside, spot-limited}
use Rattle.press.proofs.extent_of.Goals as goal
use Rattle.press.proofs.extent_of.Goals.{then-p-rank_key, else-p-rank_key}

pub loop-i-init : goal.loop-i-init
loop-i-init c = shown-none c.args.spots.now c.args.p c.requires

pub overflow_mul-i : goal.overflow_mul-i
overflow_mul-i c =
    omega (arith, c.requires.ready.few, spot-inside c.args.spots.now c.args.p c.requires c.loop-i.i c.loop-i-test.true)

pub read_key-k-requires : goal.read_key-k-requires
read_key-k-requires c =
    let s = c.args.spots.now in
    let i = c.loop-i.i in
    let l = c.loop-i-test.true in
    (omega (arith, spot-inside s c.args.p c.requires i l), spot-limited s c.args.p c.requires i l)

pub with_key-e-requires : goal.with_key-e-requires
with_key-e-requires c =
    shown-room c.args.spots.now c.args.p c.requires c.loop-i.invariant c.loop-i-test.true c.read_key-k.ensures.0
    c.rank_key.ensures c.if-p-rank_key.true

pub loop-i-preserved : goal.loop-i-preserved
loop-i-preserved c =
    let s = c.args.spots.now in
    let p = c.args.p in
    elim c.if-p-rank_key.branch [
      | then-p-rank_key w ↦
          shown-in s p c.requires c.loop-i.invariant c.loop-i-test.true c.read_key-k.ensures.0 c.rank_key.ensures w.if-p-rank_key.true (w.e-is ∙ w.with_key-e.ensures)
      | else-p-rank_key w ↦
          shown-out s p c.requires c.loop-i.invariant c.loop-i-test.true c.read_key-k.ensures.0 c.rank_key.ensures w.if-p-rank_key.false w.e-is
    ]

pub returns : goal.returns
returns c =
    shown-all c.args.spots.now c.args.p c.requires c.loop-i.invariant c.loop-i-test.false
