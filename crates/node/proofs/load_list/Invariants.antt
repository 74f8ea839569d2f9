-- `node::load_list` meets its contract: each element read is put behind those before it.
use mathlib.Core.Path.{◌≡◌}
use Rattle.octets.specs.Lists.{records}
use Rattle.node.proofs.load_list.Given as goal

abbrev pub invariant-loop-i : goal.invariant-loop-i
invariant-loop-i g l =
    let L = g.B.Item.Laid.laid in
    (g.B.Buffer.count l.out ≡ l.i) × (g.B.Buffer.held l.out ≡ records (L.at l.s) L.width l.i l.at)
