-- `batch::half` meets its contract.
use mathlib.Core.Path.{◌≡◌, sym, ◌∙◌, subst}
use mathlib.Core.Bool.{true≢false}
use Prim.Native.Nat.{ℕ, ◌/◌}
use native.Mathlib.Omega.{arith}
use lib.ListN.{drop}
use lib.Dec.{leb}
use Rattle.block.specs.Node.{first_open}
use Rattle.node.specs.Memory.{entries_of}
use Rattle.edit.specs.Edits.{Half}
use Rattle.batch.proofs.Middle.{inner-eight, cut-few}
use Rattle.batch.proofs.half.Goals as goal

pub left_half-requires : goal.left_half-requires
left_half-requires c =
    let n = c.args.n in
    let few = cut-few n.entries.n n.points.n c.requires.1 in
    (c.requires.0, omega arith, few)

pub returns-then-not-upper : goal.returns-then-not-upper
returns-then-not-upper c = let low = c.if-not-upper.true in record { below = λ e. c.left_half.ensures; above = λ e. absurd (true≢false (sym e ∙ low)) }

pub returns-then-count-eq0 : goal.returns-then-count-eq0
returns-then-count-eq0 c =
    let a = c.args in
    let none : a.n.entries.n ≡ 0 = c.if-count-eq0.true in
    let z : 0 ≡ a.n.entries.n / 2 = omega arith in
    let high = c.if-not-upper.false in
    record {
      below = λ e. absurd (true≢false (sym high ∙ e));
      above = λ e. subst (λ (k : ℕ). Half a.n c.upper_leaf.result (λ j. leb a.sep j) (first_open (drop k (entries_of a.n.entries)))) z c.upper_leaf.ensures;
    }

pub right_half-requires : goal.right_half-requires
right_half-requires c =
    let n = c.args.n in
    let e = inner-eight n.entries.n n.points.n c.requires.1 c.if-count-eq0.false in
    (c.requires.0, omega (arith, e), omega (arith, e))

pub returns : goal.returns
returns c = let high = c.if-not-upper.false in record { below = λ e. absurd (true≢false (sym high ∙ e)); above = λ e. c.right_half.ensures }

pub upper_leaf-requires : goal.upper_leaf-requires
upper_leaf-requires c = (c.requires.0, c.if-count-eq0.true)
