-- `choose::end_of` meets its contract: a count of the keys below the low, or of all.
use mathlib.Core.Path.{◌≡◌, sym, ap, ◌∙◌}
use Prim.Native.Nat.{ℕ}
use native.Mathlib.Omega.{arith}
use borrow.Author.Rules.{rules}
use lib.ListN.{length}
use lib.Seq.{length-take-le}
use Rattle.buffer.specs.Buffer.{below}
use Rattle.buffer.proofs.Lists.{length-image}
use Rattle.node.specs.Memory.{entries_of}
use Rattle.choose.proofs.Chosen.{end-in, end-out}
use Rattle.choose.proofs.end_of.Given.{Over}
use Rattle.choose.proofs.end_of.Goals as goal
use Rattle.choose.proofs.end_of.Goals.{Start}

long : (g : Over) (c : Start g) → length c.args.es.list ≡ 8
long g c = search (rules, length-image)

counted : (g : Over) (c : Start g) → length (entries_of c.args.es) ≡ c.args.es.n
counted g c = length-take-le c.args.es.n c.args.es.list (omega (arith, long g c, c.requires.0))

pub returns-then-i-es : goal.returns-then-i-es
returns-then-i-es g c =
    let b = c.args.b in
    c.position.ensures.0
    ∙ ap (λ (k : ℕ). below k (g.B.Item.Element.keyed.named (g.B.Buffer.held b))) c.low_at.ensures
    ∙ sym (end-in (entries_of c.args.es) (g.B.Item.Element.keyed.named (g.B.Buffer.held b)) (g.B.Buffer.count b) c.args.i (omega (arith, counted g (goal.at.returns-then-i-es g c).Start)))

pub returns : goal.returns
returns g c =
    let b = c.args.b in
    c.as_slice.ensures.1 ∙ sym (end-out (entries_of c.args.es) (g.B.Item.Element.keyed.named (g.B.Buffer.held b)) (g.B.Buffer.count b) c.args.i (omega (arith, counted g (goal.at.returns g c).Start)))
