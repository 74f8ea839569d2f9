-- `build::entry_for` meets its contract: an entry made of points agrees with every node that has them.
use Rattle.build.proofs.Own.{entry-none, entry-some}
use Rattle.buffer.specs.Buffer.{held}
use Rattle.buffer.proofs.Laws.{held-length}
use Rattle.buffer.proofs.Lists.{length-image}
use lib.ListN.{length, take}
use Prim.Native.Nat.{ℕ}
use mathlib.Core.Path.{◌≡◌, ap, sym}
use borrow.Author.Rules.{rules}
use native.Mathlib.Omega.{arith}
use Rattle.build.proofs.entry_for.Goals as goal

pub returns-then-size-eq0 : goal.returns-then-size-eq0
returns-then-size-eq0 c =
    let a = c.args in
    entry-none _ _ (held a.points) c.requires.2 (ap (λ (k : ℕ). take k a.points.spots) c.if-size-eq0.true)

pub returns : goal.returns
returns c =
    let a = c.args in
    let p = c.requires in
    let long : length a.points.spots ≡ 80 = search (rules, length-image) in
    entry-some _ _ (held a.points) a.points.n c.highest-high.result c.lowest-least.result p.2 (sym (held-length a.points long (omega (arith, p.1)))) c.if-size-eq0.false p.1 c.highest-high.ensures c.lowest-least.ensures
