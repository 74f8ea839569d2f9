-- `soundness::sound_walk` meets its contract. The measure is the level. The invariant: the children checked so far and those left make up the whole.
use mathlib.Core.Bool.{true}
use mathlib.Core.List.{List}
use mathlib.Core.Path.{◌≡◌, refl, sym, ap, ◌∙◌}
use Prim.Native.Nat.{ℕ}
use native.Mathlib.Omega.{arith}
use lib.ListN.{length}
use Rattle.octets.proofs.Bits.{set_bit-length}
use Rattle.block.specs.NodeRules.{node_ok}
use Rattle.block.specs.declared.Front.{Front}
use Rattle.block.specs.Access.{front_of}
use Rattle.block.specs.Node.{store_of}
use Rattle.visit.proofs.Children.{lent, lent-valid}
use Rattle.soundness.proofs.Steps.{kids_fresh, no-twice, no_node, no-range, no_kids, whole_part, Kid, kid-level, kid-asks, kid-next, kid-stop, kids-done}
use Rattle.soundness.proofs.+sound_walk.Goals as goal
use Rattle.soundness.proofs.+sound_walk.Goals.{After-child_span-part, After-front_of-c}

-- the node keeps the rules
node : (t : ℕ) (c : After-front_of-c t)
    → let a = c.args in
    node_ok a.level a.asked (store_of a.t.now a.b) ≡ true
node t c = sym c.block_ok.ensures ∙ c.if-not-block_ok.false

-- the map with its bit set
map : (t : ℕ) (c : After-front_of-c t) → length c.set_bit.new.map ≡ 512
map t c =
    ap length c.set_bit.ensures ∙ set_bit-length c.args.seen.now c.args.b ∙ c.requires.mapped

-- the number of its children
count : (t : ℕ) (c : After-front_of-c t)
    → let a = c.args in
    c.front_of-c.result.c ≡ (front_of (lent a.t.now a.b)).c
count t c = ap (λ (h : Front). h.c) c.front_of-c.ensures.0

-- its i-th child
kid : (t : ℕ) (c : After-child_span-part t)
    → let a = c.args in
    let l = c.loop-i in
    Kid a.t.now c.set_bit.new.map l.seen a.b a.level a.asked a.span l.lo l.i c.entry_at-e.result c.child_span-part.result
kid t c =
    record {
      few = c.requires.blocks;
      deep = c.requires.deep;
      mapped = (ap length c.set_bit.ensures ∙ set_bit-length c.args.seen.now c.args.b ∙ c.requires.mapped);
      ok = (sym c.block_ok.ensures ∙ c.if-not-block_ok.false);
      below = omega (arith, (ap (λ (h : Front). h.c) c.front_of-c.ensures.0), c.loop-i-test.true);
      entry = c.entry_at-e.ensures;
      range = c.child_span-part.ensures;
      thread = c.loop-i.invariant.1;
    }

pub returns-then-test_bit : goal.returns-then-test_bit
returns-then-test_bit t c =
    let a = c.args in
    no-twice a.t.now a.seen.now a.b a.level a.asked a.span c.requires refl (sym c.test_bit.ensures ∙ c.if-test_bit.true)

pub returns-then-not-block_ok : goal.returns-then-not-block_ok
returns-then-not-block_ok t c =
    let a = c.args in
    no_node a.t.now a.seen.now a.b a.level a.asked a.span c.requires refl (sym c.block_ok.ensures ∙ c.if-not-block_ok.true)

pub in_range-requires : goal.in_range-requires
in_range-requires t c =
    let a = c.args in
    record { level = a.level; asked = a.asked; ok = sym c.block_ok.ensures ∙ c.if-not-block_ok.false; inside = omega (arith, c.requires.inside) }

pub returns-then-not-in_range : goal.returns-then-not-in_range
returns-then-not-in_range t c =
    let a = c.args in
    no-range a.t.now a.seen.now a.b a.level a.asked a.span c.requires refl (sym c.in_range.ensures ∙ c.if-not-in_range.true)

pub entry_at-e-requires : goal.entry_at-e-requires
entry_at-e-requires t c =
    let a = c.args in
    (lent-valid a.t.now a.b a.level a.asked (node t (goal.at.entry_at-e-requires t c).After-front_of-c) c.requires.inside, omega (arith, count t (goal.at.entry_at-e-requires t c).After-front_of-c, c.loop-i-test.true))

pub child_span-part-requires : goal.child_span-part-requires
unfolding front_of
child_span-part-requires t c =
    let a = c.args in (
      lent-valid a.t.now a.b a.level a.asked (node t (goal.at.child_span-part-requires t c).After-front_of-c) c.requires.inside,
      c.loop-i-test.true,
      count t (goal.at.child_span-part-requires t c).After-front_of-c,
    )

pub overflow_sub-level : goal.overflow_sub-level
overflow_sub-level t c = kid-level (kid t (goal.at.overflow_sub-level t c).After-child_span-part)

pub sound_walk-requires : goal.sound_walk-requires
sound_walk-requires t c = (omega (arith, kid-level (kid t (goal.at.sound_walk-requires t c).After-child_span-part), c.decreases), kid-asks (kid t (goal.at.sound_walk-requires t c).After-child_span-part))

pub shape_of-seen-then-not-sound_walk : goal.shape_of-seen-then-not-sound_walk
shape_of-seen-then-not-sound_walk t c =
    let k = kid t (goal.at.shape_of-seen-then-not-sound_walk t c).After-child_span-part in
    c.sound_walk.ensures.sized ∙ k.thread.sized ∙ ap length c.set_bit.ensures ∙ set_bit-length c.args.seen.now c.args.b

pub returns-then-not-sound_walk : goal.returns-then-not-sound_walk
returns-then-not-sound_walk t c =
    let a = c.args in
    let k = kid t (goal.at.returns-then-not-sound_walk t c).After-child_span-part in
    no_kids a.t.now a.seen.now a.b a.level a.asked a.span c.requires
    (c.sound_walk.ensures.sized ∙ k.thread.sized ∙ ap length c.set_bit.ensures ∙ set_bit-length c.args.seen.now c.args.b)
    (ap (λ (m : List ℕ). kids_fresh a.t.now a.b a.level a.span m) (sym c.set_bit.ensures) ∙ kid-stop k c.sound_walk.ensures c.if-not-sound_walk.true)

pub loop-i-preserved : goal.loop-i-preserved
loop-i-preserved t c = (omega (arith, c.loop-i-test.true), rw c.unwrap_or-lo.ensures (kid-next (kid t (goal.at.loop-i-preserved t c).After-child_span-part) c.sound_walk.ensures c.if-not-sound_walk.false))

pub returns : goal.returns
returns t c =
    let a = c.args in
    whole_part a.t.now a.seen.now a.b a.level a.asked a.span c.requires (sym c.test_bit.ensures ∙ c.if-test_bit.false) (node t (goal.at.returns t c).After-front_of-c)
    (sym c.in_range.ensures ∙ c.if-not-in_range.false)
    (kids-done a.t.now a.b a.level a.span c.loop-i.lo c.loop-i.i c.set_bit.ensures (omega (arith, count t (goal.at.returns t c).After-front_of-c, c.loop-i-test.false)) c.loop-i.invariant.1)
