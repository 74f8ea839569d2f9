-- `plan::next_rank` meets its contract. The loop's invariant: the least of the first i.
use mathlib.Core.Path.{◌≡◌, ap, ◌∙◌}
use Prim.Native.Nat.{◌*◌}
use native.Mathlib.Omega.{arith}
use Rattle.spot.specs.Keys.{rank_key}
use Rattle.spot.specs.Spots.{key_at}
use Rattle.plan.specs.Plans.{Nearer}
use Rattle.plan.proofs.Reading.{readable-at, rank-turn}
use Rattle.plan.proofs.next_rank.Goals as goal

pub read_key-requires : goal.read_key-requires
read_key-requires c =
    readable-at c.args.spots.now c.args.n c.loop-i.i c.requires (omega arith)

pub loop-i-preserved : goal.loop-i-preserved
loop-i-preserved c =
    let l = c.loop-i in
    let e : c.rank_key.result ≡ rank_key (key_at c.args.spots.now (12 * l.i)) =
    c.rank_key.ensures ∙ ap rank_key c.read_key.ensures.0 in
    let k : Nearer l.best (rank_key (key_at c.args.spots.now (12 * l.i))) c.args.floor c.nearer-best.result = rw e at c.nearer-best.ensures in
    (omega arith, rank-turn c.args.spots.now c.args.floor 18446744073709551615 l.i l.best c.nearer-best.result l.invariant.1 k)
