-- `edit::left_half` meets its contract.
use mathlib.Core.Path.{◌≡◌, refl, ◌∙◌}
use native.Mathlib.Omega.{arith}
use borrow.Author.Rules.{rules}
use lib.ListN.{length}
use Rattle.buffer.proofs.Lists.{length-image}
use Rattle.edit.proofs.Buffered.{same-held}
use Rattle.edit.proofs.Parts.{left-count}
use Rattle.edit.proofs.left_half.Goals as goal
use Rattle.edit.proofs.left_half.Goals.{Start}

long : (c : Start) → length c.args.n.entries.list ≡ 8
long c = search (rules, length-image)

pub returns : goal.returns
returns c =
    let es = c.args.n.entries in
    let e = c.entries_before-entries.ensures in
    let p = c.below_key-points.ensures in
    let i = c.below_key-inserts.ensures in
    let d = c.below_key-deletes.ensures in
    record {
      holds = same-held p.1 i.1 d.1;
      tidy = record { points = p.2; inserts = i.2; deletes = d.2 };
      entries = e.1;
      count = e.0 ∙ left-count es.list es.n c.args.k (omega (arith, long (goal.at.returns c).Start, c.requires.2)) c.requires.1;
      level = refl;
      points = p.0;
      inserts = i.0;
      deletes = d.0;
    }
