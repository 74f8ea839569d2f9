-- `node::store` meets its contract: its parts stand one behind the other, and then zeros.
use borrow.Author.Rules.{rules}
use Rattle.buffer.proofs.Lists.{length-image}
use Rattle.node.proofs.Storing.{Long, stored-in}
use Rattle.node.proofs.store.Goals as goal
use Rattle.node.proofs.store.Goals.{Start}

long : (c : Start) → Long c.args.n
long c =
    record {
      entries = search (rules, length-image);
      points = search (rules, length-image);
      inserts = search (rules, length-image);
      deletes = search (rules, length-image);
    }

pub returns : goal.returns
returns c =
    stored-in c.args.n c.args.s.now c.requires.0 c.requires.1 (long (goal.at.returns c).Start) c.write_front.ensures c.write_entries.ensures
    c.write_list.ensures c.write_list-2.ensures c.write_list-3.ensures c.zero_from.ensures
