-- `batch::take_in` meets its contract.
use mathlib.Core.Path.{◌≡◌}
use native.Mathlib.Omega.{arith}
use borrow.Author.Rules.{rules}
use lib.ListN.{length}
use Rattle.buffer.specs.Buffer.{held, named}
use Rattle.buffer.proofs.Lists.{length-image}
use Rattle.buffer.proofs.Laws.{held-length, named-length}
use Rattle.batch.proofs.Taking.{Counted, Changed, less-sized, less-few, taken_in}
use Rattle.batch.proofs.take_in.Goals as goal
use Rattle.batch.proofs.take_in.Goals.{After-delete_all-less, Start}

-- the buffers that were lent, and those of the node before
long-inserts : (c : Start) → length (held c.args.inserts) ≡ c.args.inserts.n
long-inserts c = held-length c.args.inserts (search (rules, length-image)) (omega (arith, c.requires.few_i))

long-deletes : (c : Start) → length (named c.args.deletes) ≡ c.args.deletes.n
long-deletes c = named-length c.args.deletes (search (rules, length-image)) (omega (arith, c.requires.few_d))

counted : (c : Start) → Counted c.args.n
counted c =
    let n = c.args.n in
    let t = c.requires.tidy in
    record {
      points = held-length n.points (search (rules, length-image)) t.points.fits;
      inserts = held-length n.inserts (search (rules, length-image)) t.inserts.fits;
      deletes = named-length n.deletes (search (rules, length-image)) t.deletes.fits;
    }

-- and after
counted-less : (c : After-delete_all-less) → Counted c.delete_all-less.result
counted-less c =
    let n = c.delete_all-less.result in
    let t = c.delete_all-less.ensures.tidy in
    record {
      points = held-length n.points (search (rules, length-image, c.delete_all-less.type_inv.1.1.1.1.0)) t.points.fits;
      inserts = held-length n.inserts (search (rules, length-image, c.delete_all-less.type_inv.1.1.1.1.1.0)) t.inserts.fits;
      deletes = named-length n.deletes (search (rules, length-image, c.delete_all-less.type_inv.1.1.1.1.1.1.0)) t.deletes.fits;
    }

changed : (c : After-delete_all-less)
    → Changed c.args.n c.insert_all-more.result c.delete_all-less.result (held c.args.inserts)
    (named c.args.deletes) c.args.inserts.n c.args.deletes.n c.threshold-r.result
changed c =
    record {
      received = c.requires;
      spots = (held-length c.args.inserts (search (rules, length-image)) (omega (arith, c.requires.few_i)));
      keys = (named-length c.args.deletes (search (rules, length-image)) (omega (arith, c.requires.few_d)));
      before = (let n = c.args.n in let t = c.requires.tidy in record { points = held-length n.points (search (rules, length-image)) t.points.fits; inserts = held-length n.inserts (search (rules, length-image)) t.inserts.fits; deletes = named-length n.deletes (search (rules, length-image)) t.deletes.fits });
      counted = counted-less c;
      threshold = c.threshold-r.ensures;
      inserted = c.insert_all-more.ensures;
      deleted = c.delete_all-less.ensures;
    }

pub spill_inner-requires : goal.spill_inner-requires
spill_inner-requires c = (c.delete_all-less.ensures.tidy, less-few (changed (goal.at.spill_inner-requires c).After-delete_all-less), (less-sized (changed (goal.at.spill_inner-requires c).After-delete_all-less)).apart)

pub returns : goal.returns
returns c = taken_in (changed (goal.at.returns c).After-delete_all-less) c.spill_inner.result c.spill_inner.ensures
