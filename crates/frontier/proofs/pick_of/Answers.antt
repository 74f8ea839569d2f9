-- `frontier::pick_of` meets its contract: the rows are packed from the last to the second.
use mathlib.Core.Path.{refl, sym}
use Prim.Native.Nat.{◌-◌, ◌<◌}
use borrow.Author.Tests.{le-ltb, lt-ltb}
use Rattle.frontier.specs.Picks.{few_at}
use Rattle.frontier.proofs.Ladders.{pack-small, pack-next, pack-end}
use native.Mathlib.Omega.{arith}
use Rattle.frontier.proofs.pick_of.Goals as goal
use Rattle.frontier.proofs.pick_of.Goals.{After-row-1}

-- what is packed so far has room, and the next index too
small : (c : After-row-1) → c.loop-i.more < 8796093022208
small c = pack-small c.args.few.now c.args.n c.loop-i.invariant c.requires

low : (c : After-row-1) → few_at c.args.few.now (c.loop-i.i - 1) < 128
low c =
    let l = c.loop-i in
    let m = l.invariant.most in
    let t = c.loop-i-test.true in
    c.requires.low (l.i - 1) (omega arith)

pub returns-then-n-eq0 : goal.returns-then-n-eq0
returns-then-n-eq0 c =
    let e = c.if-n-eq0.true in
    record {
      there = sym (le-ltb 0 c.args.n (omega arith));
      key = λ y. let z : ⊥ = omega arith in absurd z;
      at = λ y. let z : ⊥ = omega arith in absurd z;
      more = λ y. let z : ⊥ = omega arith in absurd z;
    }

pub overflow_mul-more : goal.overflow_mul-more
overflow_mul-more c = let b = small (goal.at.overflow_mul-more c).After-row-1 in omega (arith, b)

pub overflow_add-more : goal.overflow_add-more
overflow_add-more c = let b = small (goal.at.overflow_add-more c).After-row-1 in let l = low (goal.at.overflow_add-more c).After-row-1 in omega (arith, b, l)

pub loop-i-preserved : goal.loop-i-preserved
loop-i-preserved c = let a = c.args in pack-next a.few.now a.n c.loop-i.invariant c.loop-i-test.true

pub returns : goal.returns
returns c =
    let a = c.args in
    let l = c.loop-i in
    record {
      there = sym (lt-ltb 0 a.n (omega (arith, c.if-n-eq0.false)));
      key = λ y. refl;
      at = λ y. refl;
      more = λ y. pack-end a.few.now a.n l.invariant (λ z. let e : ⊥ = omega (arith, c.loop-i-test.false) in e);
    }
