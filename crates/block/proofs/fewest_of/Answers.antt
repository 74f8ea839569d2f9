-- `block::fewest_of` meets its contract: by the variant; a child entry's keys are of 64 bits by their type.
use mathlib.Core.Path.{ap, ◌∙◌}
use Prim.Native.Nat.{◌≤◌}
use native.Mathlib.Omega.{arith}
use borrow.Author.Tests.{le-leb}
use borrow.Author.Rules.{rules}
use Rattle.octets.proofs.Tests.{and_both}
use Rattle.block.specs.NodeRules.{fewest}
use Rattle.block.specs.Checks.{entry_keyed}
use Rattle.block.proofs.fewest_of.Goals as goal

pub returns-in-Root : goal.returns-in-Root
unfolding fewest entry_keyed
returns-in-Root c = search rules

pub returns-in-Child : goal.returns-in-Child
unfolding fewest entry_keyed
returns-in-Child c =
    let e = c.in-Child.e in
    let t : e.top ≤ 18446744073709551615 = omega (arith, c.in-Child.known_told-1-own.given) in
    let b : e.bottom ≤ 18446744073709551615 = omega (arith, c.in-Child.known_told-1-own.given) in
    (search rules, ap entry_keyed c.in-Child.is ∙ and_both _ _ (le-leb e.top 18446744073709551615 t) (le-leb e.bottom 18446744073709551615 b))
