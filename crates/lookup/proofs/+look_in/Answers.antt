-- `lookup::look_in` meets its contract. The measure is the level. The invariant: the children before the i-th don't hold the key.
use mathlib.Core.Bool.{true}
use mathlib.Core.Path.{◌≡◌, sym, ap, ◌∙◌}
use Prim.Native.Nat.{ℕ}
use native.Mathlib.Omega.{arith}
use Rattle.block.specs.NodeRules.{node_ok}
use Rattle.block.specs.declared.Front.{Front}
use Rattle.block.specs.Access.{front_of}
use Rattle.block.specs.Node.{store_of}
use Rattle.visit.proofs.Children.{lent, lent-valid}
use Rattle.lookup.proofs.Steps.{broken-node, named_live, named-gone, no-child, Kid, kid-level, kid-asks, kid-next, kid-says}
use Rattle.lookup.proofs.+look_in.Goals as goal
use Rattle.lookup.proofs.+look_in.Goals.{After-child_span-part, After-front_of-c}

-- the node keeps the rules
node : (t : ℕ) (c : After-front_of-c t)
    → let a = c.args in
    node_ok a.level a.asked (store_of a.t.now a.b) ≡ true
node t c = sym c.block_ok.ensures ∙ c.if-not-block_ok.false

-- the number of its children
count : (t : ℕ) (c : After-front_of-c t)
    → let a = c.args in
    c.front_of-c.result.c ≡ (front_of (lent a.t.now a.b)).c
count t c = ap (λ (h : Front). h.c) c.front_of-c.ensures.0

-- its i-th child
kid : (t : ℕ) (c : After-child_span-part t)
    → let a = c.args in
    let l = c.loop-i in
    Kid a.t.now a.b a.level a.asked a.span a.k l.lo l.i c.entry_at-e.result c.child_span-part.result
kid t c =
    record {
      few = c.requires.blocks;
      deep = c.requires.deep;
      ok = (sym c.block_ok.ensures ∙ c.if-not-block_ok.false);
      below = omega (arith, (ap (λ (h : Front). h.c) c.front_of-c.ensures.0), c.loop-i-test.true);
      entry = c.entry_at-e.ensures;
      range = c.child_span-part.ensures;
      going = c.loop-i.invariant.1;
    }

pub returns-then-not-block_ok : goal.returns-then-not-block_ok
returns-then-not-block_ok t c =
    let a = c.args in
    broken-node a.t.now a.b a.level a.asked a.span a.k (sym c.block_ok.ensures ∙ c.if-not-block_ok.true)

pub node_says-requires : goal.node_says-requires
node_says-requires t c =
    let a = c.args in
    record { level = a.level; asked = a.asked; ok = sym c.block_ok.ensures ∙ c.if-not-block_ok.false; inside = omega (arith, c.requires.inside) }

pub returns-in-Live : goal.returns-in-Live
returns-in-Live t c =
    let a = c.args in
    named_live a.t.now a.b a.level a.asked a.span a.k (sym c.block_ok.ensures ∙ c.if-not-block_ok.false) c.in-Live.ensures

pub returns-in-Gone : goal.returns-in-Gone
returns-in-Gone t c =
    let a = c.args in
    named-gone a.t.now a.b a.level a.asked a.span a.k (sym c.block_ok.ensures ∙ c.if-not-block_ok.false) c.in-Gone.ensures

pub entry_at-e-requires : goal.entry_at-e-requires
entry_at-e-requires t c =
    let a = c.args in
    (lent-valid a.t.now a.b a.level a.asked (node t (goal.at.entry_at-e-requires t c).After-front_of-c) c.requires.inside, omega (arith, count t (goal.at.entry_at-e-requires t c).After-front_of-c, c.loop-i-test.true))

pub child_span-part-requires : goal.child_span-part-requires
unfolding front_of
child_span-part-requires t c =
    let a = c.args in (
      lent-valid a.t.now a.b a.level a.asked (node t (goal.at.child_span-part-requires t c).After-front_of-c) c.requires.inside,
      c.loop-i-test.true,
      count t (goal.at.child_span-part-requires t c).After-front_of-c,
    )

pub overflow_sub-level : goal.overflow_sub-level
overflow_sub-level t c = kid-level (kid t (goal.at.overflow_sub-level t c).After-child_span-part)

pub look_in-requires : goal.look_in-requires
look_in-requires t c = (omega (arith, kid-level (kid t (goal.at.look_in-requires t c).After-child_span-part), c.decreases), kid-asks (kid t (goal.at.look_in-requires t c).After-child_span-part))

pub returns-then-holds : goal.returns-then-holds
returns-then-holds t c =
    kid-says (kid t ((goal.at.returns-then-holds t c).After-child_span-part)) c.in-Silent.ensures (sym c.holds.ensures ∙ c.if-holds.true) c.look_in.ensures

pub loop-i-preserved : goal.loop-i-preserved
loop-i-preserved t c = (omega (arith, c.loop-i-test.true), rw c.unwrap_or-lo.ensures (kid-next (kid t (goal.at.loop-i-preserved t c).After-child_span-part) (sym c.holds.ensures ∙ c.if-holds.false)))

pub returns : goal.returns
returns t c =
    let a = c.args in
    no-child a.t.now a.b a.level a.asked a.span a.k (node t (goal.at.returns t c).After-front_of-c) c.in-Silent.ensures c.loop-i.invariant.1 (omega (arith, count t (goal.at.returns t c).After-front_of-c, c.loop-i-test.false))
