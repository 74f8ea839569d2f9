-- `frontier::unwaited` meets its contract: the next under the best wanted as long as it waits.
use mathlib.Core.Bool.{false≢true}
use mathlib.Core.Path.{refl, sym, subst, ◌∙◌}
use Prim.Native.Nat.{ℕ}
use Rattle.block.specs.Node.{store_of}
use Rattle.block.specs.NodeRules.{ValidBlock}
use Rattle.tree.specs.Walk.{finds}
use Rattle.visit.specs.Visit.{waiting_above}
use Rattle.frontier.specs.declared.Pick.{Pick}
use Rattle.frontier.specs.Frontier.{block_by, slot_by}
use Rattle.frontier.specs.Picks.{wanted_in, found_in, PickedUnder}
use Rattle.frontier.proofs.Chains.{hangs-block, hangs-valid}
use Rattle.frontier.proofs.Bests.{sought-first, sought-yes, sought-next, sought-done}
use Rattle.std.specs.Prelude.{Option}
use Rattle.frontier.proofs.unwaited.Goals as goal
use Rattle.frontier.proofs.unwaited.Goals.{After-row-1}

-- the row has the node's block
valid : (c : After-row-1) → let a = c.args in ValidBlock a.t.now (block_by a.rows.now a.i)
valid c =
    let h = c.requires.0 in
    subst (λ (b : ℕ). ValidBlock c.args.t.now b) (sym (hangs-block h)) (hangs-valid h)

-- the best wanted of the slot is that of the block
there : (c : After-row-1) (limit : ℕ) → let a = c.args in let b = (slot_by a.t.now a.rows.now a.i).block in
    PickedUnder a.t.now b a.q limit (wanted_in a.t.now a.q b) a.first
    → PickedUnder a.t.now (block_by a.rows.now a.i) a.q limit (wanted_in a.t.now a.q (block_by a.rows.now a.i)) a.first
there c limit p =
    let a = c.args in
    subst (λ (b : ℕ). PickedUnder a.t.now b a.q limit (wanted_in a.t.now a.q b) a.first) (sym (hangs-block c.requires.0)) p

-- and the best found of the block is that of the slot
home : {r : Option Pick} (c : After-row-1) (limit : ℕ) → let a = c.args in let s = slot_by a.t.now a.rows.now a.i in
    PickedUnder a.t.now (block_by a.rows.now a.i) a.q limit (finds a.q (waiting_above a.t.now s.path) (store_of a.t.now (block_by a.rows.now a.i))) r
    → PickedUnder a.t.now s.block a.q limit (found_in a.t.now a.q s) r
home {r} c limit p =
    let a = c.args in
    subst (λ (b : ℕ). PickedUnder a.t.now b a.q limit (finds a.q (waiting_above a.t.now (slot_by a.t.now a.rows.now a.i).path) (store_of a.t.now b)) r) (hangs-block c.requires.0) p

pub loop-best-init : goal.loop-best-init
loop-best-init c =
    let a = c.args in
    λ limit p. sought-first a.t.now (block_by a.rows.now a.i) a.q (waiting_above a.t.now (slot_by a.t.now a.rows.now a.i).path) limit p

pub returns-then-not-waits_above : goal.returns-then-not-waits_above
returns-then-not-waits_above c =
    record {
      on = λ limit p.
          home (goal.at.returns-then-not-waits_above c).After-row-1 limit
          (sought-yes (valid (goal.at.returns-then-not-waits_above c).After-row-1) (rw c.in-Some.is at (c.loop-best.invariant limit (there (goal.at.returns-then-not-waits_above c).After-row-1 limit p)))
          refl c.key_of_top.ensures (sym c.waits_above.ensures ∙ c.if-not-waits_above.true));
    }

pub next_wanted-best-requires : goal.next_wanted-best-requires
next_wanted-best-requires c =
    let w = c.requires.1 in
    let p = (c.loop-best.invariant w.limit (there (goal.at.next_wanted-best-requires c).After-row-1 w.limit w.picked)).picked in
    (valid (goal.at.next_wanted-best-requires c).After-row-1, (rw c.in-Some.is at p.more) refl)

pub loop-best-preserved : goal.loop-best-preserved
loop-best-preserved c =
    λ limit p.
    sought-next (valid (goal.at.loop-best-preserved c).After-row-1) (rw c.in-Some.is at (c.loop-best.invariant limit p)) refl c.key_of_top.ensures (sym c.waits_above.ensures ∙ c.if-not-waits_above.false) c.next_wanted-best.ensures

pub returns : goal.returns
returns c =
    record {
      on = λ limit p.
          home (goal.at.returns c).After-row-1 limit
          (sought-done (valid (goal.at.returns c).After-row-1) (rw c.in_default.is at (c.loop-best.invariant limit (there (goal.at.returns c).After-row-1 limit p))) (λ y. absurd (false≢true y)));
    }
