-- `node::load_list` meets its contract: each element read is put behind those before it.
use mathlib.Core.Path.{◌∙◌}
use Prim.Native.Nat.{suc, ◌*◌, ◌≤◌}
use native.Mathlib.Nat.{mul-le-mul_right}
use native.Mathlib.Omega.{arith}
use Rattle.spot.proofs.Limits.{limited-each}
use Rattle.node.proofs.Loading.{record-pushed}
use Rattle.node.proofs.load_list.Goals as goal

pub read-requires : goal.read-requires
read-requires g c =
    let W = g.B.Item.Laid.laid.width in
    let a = c.args in
    let l = c.loop-i in
    let m : suc l.i * W ≤ a.n * W = mul-le-mul_right W (omega arith) in
    rw c.width.ensures (grind (arith, m), limited-each a.s.now W a.n a.at c.requires.2 l.i (omega arith))

pub loop-i-preserved : goal.loop-i-preserved
loop-i-preserved g c =
    let L = g.B.Item.Laid.laid in
    let a = c.args in
    let l = c.loop-i in (
      omega (arith, c.push.ensures.0, l.invariant.0),
      c.push.ensures.1 ∙ record-pushed (L.at a.s.now) L.width a.at l.i l.invariant.1 (rw c.width.ensures at c.read.ensures),
    )
