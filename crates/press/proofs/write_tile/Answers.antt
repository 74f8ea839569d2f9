-- `press::write_tile` meets its contract. The loop's invariant: the spots kept so far stand at the front of the block.
use mathlib.Core.Path.{refl, sym, ◌∙◌}
use native.Mathlib.Omega.{arith}
use Rattle.press.proofs.PutBytes.{zeroed}
use Rattle.press.proofs.Pieces.{laid_none, laid-room, laid_in, laid_out_lem, laid-all, spot-inside, spot-limited}
use Rattle.press.proofs.write_tile.Goals as goal
use Rattle.press.proofs.write_tile.Goals.{then-p-rank_key, else-p-rank_key}

pub loop-i-init : goal.loop-i-init
loop-i-init c =
    laid_none c.args.spots.now c.args.p c.requires.0 2048 refl (zeroed 2048 c.args.s.now c.requires.1 c.zero.ensures)

pub overflow_mul-i : goal.overflow_mul-i
overflow_mul-i c =
    omega (arith, c.requires.0.ready.few, spot-inside c.args.spots.now c.args.p c.requires.0 c.loop-i.i c.loop-i-test.true)

pub read_spot-x-requires : goal.read_spot-x-requires
read_spot-x-requires c =
    let s = c.args.spots.now in
    let i = c.loop-i.i in
    let l = c.loop-i-test.true in
    (omega (arith, spot-inside s c.args.p c.requires.0 i l), spot-limited s c.args.p c.requires.0 i l)

pub write_spot-requires : goal.write_spot-requires
write_spot-requires c =
    omega (
      arith,
      c.loop-i.invariant.long,
      laid-room c.args.spots.now c.args.p c.requires.0 2048 refl c.loop-i.invariant c.loop-i-test.true c.read_spot-x.ensures.0
          c.rank_key.ensures c.if-p-rank_key.true,
    )

pub overflow_add-at : goal.overflow_add-at
overflow_add-at c =
    omega (
      arith,
      laid-room c.args.spots.now c.args.p c.requires.0 2048 refl c.loop-i.invariant c.loop-i-test.true c.read_spot-x.ensures.0
          c.rank_key.ensures c.if-p-rank_key.true,
    )

pub loop-i-preserved : goal.loop-i-preserved
loop-i-preserved c =
    let s = c.args.spots.now in
    let p = c.args.p in
    elim c.if-p-rank_key.branch [
      | then-p-rank_key w ↦
          laid_in s p c.requires.0 2048 refl c.loop-i.invariant c.loop-i-test.true c.read_spot-x.ensures.0 c.rank_key.ensures w.if-p-rank_key.true
          (w.s-is ∙ w.write_spot.ensures) w.at-is
      | else-p-rank_key w ↦
          laid_out_lem s p c.requires.0 2048 refl c.loop-i.invariant c.loop-i-test.true c.read_spot-x.ensures.0 c.rank_key.ensures w.if-p-rank_key.false
          w.s-is w.at-is
    ]

pub shape_of-s : goal.shape_of-s
shape_of-s c = c.loop-i.invariant.long ∙ sym c.requires.1

pub returns : goal.returns
returns c =
    laid-all c.args.spots.now c.args.p c.requires.0 2048 refl c.loop-i.invariant c.loop-i-test.false
