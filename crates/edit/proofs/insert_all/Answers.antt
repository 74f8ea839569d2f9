-- `edit::insert_all` meets its contract.
use mathlib.Core.Path.{◌≡◌}
use native.Mathlib.Omega.{arith}
use borrow.Author.Rules.{rules}
use lib.ListN.{length}
use Rattle.buffer.proofs.Lists.{length-image}
use Rattle.edit.specs.Edits.{held_in}
use Rattle.edit.proofs.Buffered.{inserts-one, edited-same}
use Rattle.edit.proofs.insert_all.Goals as goal
use Rattle.edit.proofs.insert_all.Goals.{Start}

long : (c : Start) → length c.args.batch.spots ≡ 80
long c = search (rules, length-image)

pub returns-then-size-eq1 : goal.returns-then-size-eq1
returns-then-size-eq1 c =
    let a = c.args in
    let one : a.batch.n ≡ 1 = c.if-size-eq1.true in
    edited-same c.insert_one.ensures (omega arith) (omega arith) (omega arith) (inserts-one a.r a.batch.spots a.batch.n (omega (arith, long (goal.at.returns-then-size-eq1 c).Start)) (held_in a.n) one)
