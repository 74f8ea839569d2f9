-- `message::check_limits` meets its contract.
use Rattle.message.specs.Changes.{read_changes, changes_of}
use Rattle.message.proofs.Cursor.{count-there}
use Rattle.message.proofs.Judging.{limits-nine, limits-zero}
use Rattle.message.proofs.check_limits.Goals as goal

pub returns-then-first-n : goal.returns-then-first-n
returns-then-first-n c =
    let a = c.args in
    limits-nine (changes_of (read_changes a.fill a.n a.s.now a.at)) c.first_outside-first.ensures
    (count-there a.fill a.n a.s.now a.at c.requires.0.there) c.if-first-n.true

pub returns : goal.returns
returns c =
    let a = c.args in
    limits-zero (changes_of (read_changes a.fill a.n a.s.now a.at)) c.first_outside-first.ensures
    (count-there a.fill a.n a.s.now a.at c.requires.0.there) c.if-first-n.false
