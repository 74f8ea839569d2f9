-- `change::light` meets its contract.
use mathlib.Core.Path.{◌≡◌}
use native.Mathlib.Omega.{arith}
use lib.ListN.{length}
use borrow.Author.Rules.{rules}
use Rattle.spot.specs.Spots.{keys}
use Rattle.buffer.specs.Buffer.{held, named}
use Rattle.buffer.proofs.Laws.{held-length}
use Rattle.buffer.proofs.Lists.{length-image}
use Rattle.change.proofs.Shallow.{light-receives, light-stores, light-inside, light-deep, light-head, light-done}
use Rattle.change.proofs.Roomy.{limited-in}
use Rattle.change.proofs.light.Goals as goal
use Rattle.change.proofs.light.Goals.{After-take_in-next}

long : (c : After-take_in-next) → length c.take_in-next.result.points.spots ≡ 80
long c = search (rules, length-image, c.take_in-next.type_inv.1.1.1.1.0)

pub put_node-requires : goal.put_node-requires
put_node-requires c = (light-inside c.requires.0, light-stores c.requires.0 c.take_in-next.ensures)

pub overflow_add-level : goal.overflow_add-level
overflow_add-level c = let z = light-deep c.requires.0 in omega (arith, z)

pub rehead-requires : goal.rehead-requires
rehead-requires c = light-head c.requires.0 c.take_in-next.ensures c.put_node.ensures _

pub returns : goal.returns
returns c =
    let k = c.take_in-next in
    light-done c.requires.0 k.ensures c.put_node.ensures c.rehead.ensures (held-length k.result.points (long (goal.at.returns c).After-take_in-next) k.ensures.tidy.points.fits)
    (limited-in (keys (held c.args.inserts)) c.requires.1) (limited-in (named c.args.deletes) c.requires.2)

pub take_in-next-requires : goal.take_in-next-requires
take_in-next-requires c = light-receives c.requires.0
