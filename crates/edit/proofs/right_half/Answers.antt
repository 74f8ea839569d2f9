-- `edit::right_half` meets its contract.
use mathlib.Core.Path.{◌≡◌, refl, ◌∙◌}
use Prim.Native.Nat.{◌≤◌}
use native.Mathlib.Omega.{arith}
use borrow.Author.Rules.{rules}
use lib.ListN.{length}
use Rattle.buffer.proofs.Lists.{length-image}
use Rattle.edit.proofs.Buffered.{same-held}
use Rattle.edit.proofs.Parts.{right-count, opened}
use Rattle.edit.proofs.right_half.Goals as goal
use Rattle.edit.proofs.right_half.Goals.{Start}

long : (c : Start) → length c.args.n.entries.list ≡ 8
long c = search (rules, length-image)

pub returns : goal.returns
returns c =
    let es = c.args.n.entries in
    let rest = c.entries_from-rest.ensures in
    let first = c.entry-first.ensures in
    let e = c.replace-entries.ensures in
    let p = c.from_key-points.ensures in
    let i = c.from_key-inserts.ensures in
    let d = c.from_key-deletes.ensures in
    let k : c.args.k ≤ es.n = omega (arith, c.requires.1) in
    record {
      holds = same-held p.1 i.1 d.1;
      tidy = record { points = p.2; inserts = i.2; deletes = d.2 };
      entries = opened rest.1 first e.1;
      count = e.0 ∙ rest.0 ∙ right-count es.list es.n c.args.k (omega (arith, long (goal.at.returns c).Start, c.requires.2)) k;
      level = refl;
      points = p.0;
      inserts = i.0;
      deletes = d.0;
    }
