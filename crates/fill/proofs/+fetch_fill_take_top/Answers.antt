-- fill, fetch and take_top meet their contracts: one induction, on the level.
use borrow.Author.Rules.{rules}
use native.Mathlib.Omega.{arith}
use Prim.Native.Nat.{ℕ}
use mathlib.Core.Path.{◌≡◌, sym, ◌∙◌}
use lib.ListN.{length}
use Rattle.std.proofs.lemmas.Result.{err_from_is_err_and}
use Rattle.buffer.proofs.Lists.{length-image}
use Rattle.buffer.proofs.Laws.{held-length, named-length}
use Rattle.journal.proofs.Kept.{kept_refl}
use Rattle.fill.specs.Filling.{RoundDone}
use Rattle.fill.proofs.Turns.{round-done, round-stopped}
use Rattle.fill.proofs.Whole.{fill_start, fill-turn, fill_fails, fill-over, fill-full, take-fails, part-valid, fill-whole, take_done, loaded-works}
use Rattle.fill.proofs.+fetch_fill_take_top.Goals as goal
use Rattle.fill.proofs.+fetch_fill_take_top.Goals.{fill-In-Ok, take_top-After-load-n}

-- what the round did
round : (t : ℕ) (c : fill-In-Ok t)
    → RoundDone c.loop-round.t c.fetch.new.t c.fetch.new.s c.fetch.new.map c.args.level c.loop-round.node c.in-Ok.r
round t c =
    let f = c.fetch.ensures in
    round-done c.loop-round.invariant.0.works c.if-node-ge32.false f.kept c.next_turn-p.result.below c.next_turn-p.result.waits _ _ c.next_turn-p.ensures c.in_ok-below.ensures.fetched c.in-Ok.ensures

-- the arrays of a node that was loaded are of their length
long : (t : ℕ) (c : take_top-After-load-n t) → (length c.load-n.result.inserts.spots ≡ 80) × (length c.load-n.result.deletes.keys ≡ 32)
long t c = (search (rules, length-image), search (rules, length-image))

pub fill-loop-round-init : goal.fill-loop-round-init
fill-loop-round-init t c = (fill_start c.requires, search (rules, length-image))

pub fill-loop-round-preserved : goal.fill-loop-round-preserved
fill-loop-round-preserved t c =
    (fill-turn c.loop-round.invariant.0 c.fetch.ensures.kept (round t (goal.at.fill-loop-round-preserved t c).In-Ok), search (rules, length-image))

pub fill-returns-then-node-ge32-clause-filled : goal.fill-returns-then-node-ge32-clause-filled
fill-returns-then-node-ge32-clause-filled t c =
    let i = c.loop-round.invariant in
    fill-full i.0 (omega (arith, c.if-node-ge32.true, held-length c.loop-round.node.points i.1 i.0.works.tidy.points.fits))

pub fill-returns-in_err-below-clause-filled : goal.fill-returns-in_err-below-clause-filled
fill-returns-in_err-below-clause-filled t c =
    let p = c.loop-round.invariant.0 in
    let turn = c.next_turn-p in
    let r = err_from_is_err_and c.from_residual.result c.from_residual.ensures.1 in rw (r.1, r.2) (fill_fails p (round-stopped p.works c.if-node-ge32.false c.fetch.ensures.kept turn.result.below turn.result.waits turn.ensures c.in_err-below.ensures.fetched))

pub fill-returns-in-Err-clause-filled : goal.fill-returns-in-Err-clause-filled
fill-returns-in-Err-clause-filled t c =
    let p = c.loop-round.invariant.0 in
    let turn = c.next_turn-p in
    fill_fails p (round-done p.works c.if-node-ge32.false c.fetch.ensures.kept turn.result.below turn.result.waits _ _ turn.ensures c.in_ok-below.ensures.fetched c.in-Err.ensures)

pub fill-returns-then-r-clause-filled : goal.fill-returns-then-r-clause-filled
fill-returns-then-r-clause-filled t c =
    fill-over c.loop-round.invariant.0 c.fetch.ensures.kept (round t (goal.at.fill-returns-then-r-clause-filled t c).In-Ok) c.if-r.true

pub fill-returns-clause-filled : goal.fill-returns-clause-filled
fill-returns-clause-filled t c =
    let i = c.loop-round.invariant in
    fill-full i.0 (omega (arith, c.if-node-lt32.false, held-length c.loop-round.node.points i.1 i.0.works.tidy.points.fits))

pub take_top-fill-requires : goal.take_top-fill-requires
take_top-fill-requires t c =
    let w = c.requires in
    (omega (arith, c.decreases), loaded-works c.args.e w.0 w.3 (sym c.block_ok.ensures ∙ c.if-not-block_ok.false) c.load-n.ensures c.without_point-open.ensures)

pub take_top-returns-then-not-block_ok-clause-took : goal.take_top-returns-then-not-block_ok-clause-took
take_top-returns-then-not-block_ok-clause-took t c =
    take-fails c.requires.0 kept_refl (part-valid c.args.t.now (sym c.block_ok.ensures ∙ c.if-not-block_ok.true))

pub take_top-returns-in-Err-clause-took : goal.take_top-returns-in-Err-clause-took
take_top-returns-in-Err-clause-took t c =
    take-fails c.requires.0 c.fill.ensures.kept (fill-whole c.load-n.ensures c.highest-spot.ensures c.without_point-open.ensures c.in-Err.ensures.filled)

pub take_top-returns-clause-took : goal.take_top-returns-clause-took
take_top-returns-clause-took t c =
    let w = c.requires in
    let q = c.write_node.ensures in
    let l = c.load-n.ensures in
    let n = c.load-n.result in
    let arrays = long t (goal.at.take_top-returns-clause-took t c).After-load-n in
    let ok = sym c.block_ok.ensures ∙ c.if-not-block_ok.false in
    take_done l c.highest-spot.ensures c.without_point-open.ensures w.0 w.2 ok c.in-Ok.ensures.filled c.fill.ensures.kept q.0 q.1 c.entry_for-entry.ensures (omega (arith, held-length n.inserts arrays.0 l.inserts.fits)) (omega (arith, named-length n.deletes arrays.1 l.deletes.fits))
