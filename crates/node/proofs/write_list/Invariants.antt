-- `node::write_list` meets its contract: each element is written behind those before it.
use mathlib.Core.Path.{◌≡◌}
use mathlib.Core.Bool.{true}
use lib.ListN.{length, take}
use Rattle.octets.specs.Lists.{every}
use Rattle.octets.specs.Bytes.{put_bytes}
use Rattle.node.proofs.write_list.Given as goal

abbrev pub invariant-loop-i : goal.invariant-loop-i
invariant-loop-i g l =
    let L = g.B.Item.Laid.laid in
    let xs = take l.i (g.B.Buffer.held l.fn.b) in
    (length l.s ≡ length l.initial.s) × (l.s ≡ put_bytes l.initial.s l.at (L.all_bytes xs)) × (every L.fits xs ≡ true)
