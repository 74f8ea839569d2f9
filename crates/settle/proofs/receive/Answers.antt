-- `settle::receive` meets its contract.
use borrow.Author.Rules.{rules}
use lib.ListN.{length}
use mathlib.Core.Path.{◌≡◌}
use Rattle.buffer.proofs.Lists.{length-image}
use Rattle.batch.proofs.Opened.{receives}
use Rattle.settle.proofs.receive.Goals as goal
use Rattle.settle.proofs.receive.Goals.{After-load-n}

-- the arrays of a node that was loaded are of their length
long : (c : After-load-n) → (length c.load-n.result.entries.list ≡ 8) × (length c.load-n.result.inserts.spots ≡ 80) × (length c.load-n.result.deletes.keys ≡ 32)
long c = (search (rules, length-image, c.load-n.type_inv.1.1.1.0), search (rules, length-image, c.load-n.type_inv.1.1.1.1.1.0), search (rules, length-image, c.load-n.type_inv.1.1.1.1.1.1.0))

pub take_in-requires : goal.take_in-requires
take_in-requires c = let w = c.requires in receives w.valid.level w.valid.asked _ _ _ _ _ w.valid.ok c.load-n.ensures w.few_i w.few_d

pub returns : goal.returns
returns c =
    let l = long (goal.at.returns c).After-load-n in
    record { node = c.load-n.result; loaded = c.load-n.ensures; taken = c.take_in.ensures; long_e = l.0; long_i = l.1; long_d = l.2 }
