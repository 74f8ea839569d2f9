-- `change::is_roomy` meets its contract.
use mathlib.Core.Path.{◌≡◌}
use lib.ListN.{length}
use borrow.Author.Rules.{rules}
use Rattle.buffer.proofs.Lists.{length-image}
use Rattle.change.proofs.Roomy.{has_room}
use Rattle.change.proofs.is_roomy.Goals as goal
use Rattle.change.proofs.is_roomy.Goals.{Start}

long-points : (c : Start) → length c.args.n.points.spots ≡ 80
long-points c = search (rules, length-image)

long-inserts : (c : Start) → length c.args.n.inserts.spots ≡ 80
long-inserts c = search (rules, length-image)

long-deletes : (c : Start) → length c.args.n.deletes.keys ≡ 32
long-deletes c = search (rules, length-image)

pub returns : goal.returns
returns c =
    has_room c.args.n (long-points (goal.at.returns c).Start) (long-inserts (goal.at.returns c).Start) (long-deletes (goal.at.returns c).Start) c.requires
