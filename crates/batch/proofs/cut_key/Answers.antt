-- `batch::cut_key` meets its contract.
use mathlib.Core.Path.{◌≡◌, refl, ap}
use native.Mathlib.Omega.{arith}
use borrow.Author.Rules.{rules}
use lib.ListN.{length}
use Rattle.spot.specs.declared.Spot.{Spot}
use Rattle.buffer.proofs.Lists.{length-image}
use Rattle.batch.proofs.Middle.{leaf-points, inner-eight, middle-key}
use Rattle.batch.proofs.cut_key.Goals as goal
use Rattle.batch.proofs.cut_key.Goals.{Start}

long : (c : Start) → length c.args.n.points.spots ≡ 80
long c = search (rules, length-image)

pub get-middle-requires : goal.get-middle-requires
get-middle-requires c =
    let n = c.args.n in
    let two = leaf-points n.entries.n n.points.n c.requires.1 c.if-count-eq0.true in
    (omega (arith, two), c.requires.0.points.fits)

pub returns-then-count-eq0 : goal.returns-then-count-eq0
returns-then-count-eq0 c =
    let n = c.args.n in
    let none : n.entries.n ≡ 0 = c.if-count-eq0.true in
    let e = ap (λ (x : Spot). x.key) c.get-middle.ensures in
    record {
      leaf = λ z. rw e (middle-key n.points (long (goal.at.returns-then-count-eq0 c).Start) c.requires.0.points (leaf-points n.entries.n n.points.n c.requires.1 none) _ refl);
      inner = λ z. absurd (omega arith);
    }

pub entry-fifth-requires : goal.entry-fifth-requires
entry-fifth-requires c =
    let n = c.args.n in
    let e = inner-eight n.entries.n n.points.n c.requires.1 c.if-count-eq0.false in
    (omega (arith, e), omega (arith, e))

pub returns : goal.returns
returns c = record { leaf = λ z. absurd (c.if-count-eq0.false z); inner = λ z. (c.entry-fifth.result, c.entry-fifth.ensures, refl) }
