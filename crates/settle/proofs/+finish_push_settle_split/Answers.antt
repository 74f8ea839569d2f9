-- push, finish, split and settle meet their contracts: one induction, on the level.
use native.Mathlib.Omega.{arith}
use Prim.Native.Nat.{ℕ, ◌<◌}
use mathlib.Core.Path.{◌≡◌, refl, sym, subst, subst⁻¹, ◌∙◌}
use Rattle.std.proofs.lemmas.Result.{err_from_is_err_and}
use Rattle.std.specs.Prelude.{Result, Ok, Err}
use mathlib.Core.List.{List}
use Rattle.buffer.specs.Buffer.{held, named}
use Rattle.block.specs.declared.Entry.{Entry}
use Rattle.block.specs.Table.{blocks_of}
use Rattle.batch.specs.Batches.{PutBack}
use Rattle.journal.proofs.Kept.{undoable-kept}
use Rattle.fill.specs.declared.Failure.{Failure}
use Rattle.settle.specs.declared.Settled.{Settled}
use Rattle.settle.specs.Settling.{StandsFor, PlacePost, SettlePost}
use Rattle.settle.proofs.Ways.{may-push, sizes-right, both-few, last-inside, received}
use Rattle.settle.proofs.Readying.{stands, points-few, must-cut, stands-push, push_kept, left-push, right-push}
use Rattle.settle.proofs.Storing.{settle-refused, settle-placed}
use Rattle.settle.proofs.Splitting.{Halves, Halved}
use Rattle.settle.proofs.Pushing.{parts-are, push-stops, push-done}
use Rattle.settle.proofs.Refining.{refine-fails, refine-done}
use Rattle.settle.proofs.Finishing.{finish-done, finish-one, one-fails, left-fails, right-fails, finish-two}
use Rattle.settle.proofs.+finish_push_settle_split.Goals as goal
use Rattle.settle.proofs.+finish_push_settle_split.Goals.{push-Else-level-n, settle-After-receive-full, split-After-half-upper}

pub finish-returns-in-Err-clause-finished : goal.finish-returns-in-Err-clause-finished
finish-returns-in-Err-clause-finished t c = c.in-Err.ensures.worked.roomless

pub finish-stow-requires : goal.finish-stow-requires
finish-stow-requires t c =
    let w = c.in-Ok.ensures.worked in (w.works, subst⁻¹ (λ (n : ℕ). c.args.b < blocks_of n) c.push.ensures.kept.table c.requires.1, w.zero)

pub finish-returns-in_err-entry-clause-finished : goal.finish-returns-in_err-entry-clause-finished
finish-returns-in_err-entry-clause-finished t c =
    let r = err_from_is_err_and c.from_residual.result c.from_residual.ensures.1 in
    rw (r.1, r.2) (refine-fails c.in-Ok.ensures.worked c.in_err-entry.ensures.stowed)

pub finish-returns-clause-finished : goal.finish-returns-clause-finished
finish-returns-clause-finished t c =
    let s = c.in_ok-entry.ensures.stowed in finish-done (refine-done c.in-Ok.ensures.worked s.filled s.few_i s.few_d) s.stored s.entry

-- there is a level below, and room for another entry
roomy : (t : ℕ) (c : push-Else-level-n t)
    → let a = c.args in (a.level ≡ 0 → ⊥) × (0 < a.n.entries.n) × (a.n.entries.n < 8)
roomy t c = let a = c.args in may-push a.level a.n.entries.n c.if-level-n.false

pub push-returns-in_err-r-clause-worked : goal.push-returns-in_err-r-clause-worked
push-returns-in_err-r-clause-worked t c =
    let r = err_from_is_err_and c.from_residual.result c.from_residual.ensures.1 in
    let inner = (roomy t (goal.at.push-returns-in_err-r-clause-worked t c).Else-level-n).0 in
    rw (r.1, r.2)
    (record { undoable = undoable-kept c.settle.ensures.kept c.requires.works.undoable; roomless = push-stops inner c.entry-e.ensures c.pick-p.ensures c.in_err-r.ensures.settled })

pub push-returns-clause-worked : goal.push-returns-clause-worked
push-returns-clause-worked t c =
    let m = roomy t (goal.at.push-returns-clause-worked t c).Else-level-n in
    push-done c.requires c.settle.ensures.kept m.0 m.2 c.entry-e.ensures c.pick-p.ensures c.in_ok-r.ensures.settled (subst (λ (l : List Entry). PutBack c.pick-p.result.node c.pick-p.result.child l c.put_back-node.result) (parts-are c.in_ok-r.r.second c.in_ok-r.r.first) c.put_back-node.ensures)

-- the node that took in the batch stands for its block
stood : (t : ℕ) (c : settle-After-receive-full t)
    → let a = c.args in
    StandsFor a.t.now a.s.now a.map.now a.b a.level a.asked c.receive-full.result a.spare a.left
stood t c =
    let r = c.receive-full.ensures in
    let ok = sym c.block_ok.ensures ∙ c.if-not-block_ok.false in
    stands c.args.asked c.requires ok r.loaded r.taken r.long_e r.long_i r.long_d

-- what was placed is settled
settle-taken : (t : ℕ) (c : settle-After-receive-full t) (t' : List ℕ) (r : Result Settled Failure)
    → let a = c.args in
    PlacePost a.t.now t' a.level a.b a.asked c.receive-full.result a.spare a.left r
    → SettlePost a.t.now t' a.level a.b a.asked (held a.inserts) (named a.deletes) a.spare a.left r
settle-taken t c t' r =
    let a = c.args in
    let q = c.receive-full.ensures in
    settle-placed t' (held a.inserts) (named a.deletes) (stood t c) (received a.level a.asked q.loaded q.taken) r

pub settle-returns-then-not-block_ok-clause-settled : goal.settle-returns-then-not-block_ok-clause-settled
settle-returns-then-not-block_ok-clause-settled t c = settle-refused (sym c.block_ok.ensures ∙ c.if-not-block_ok.true)

pub settle-split-requires : goal.settle-split-requires
settle-split-requires t c =
    let st = stood t (goal.at.settle-split-requires t c).After-receive-full in
    (omega (arith, c.decreases), (st, must-cut st c.must_split.ensures c.if-must_split.true))

pub settle-returns-then-must_split-clause-settled : goal.settle-returns-then-must_split-clause-settled
settle-returns-then-must_split-clause-settled t c =
    settle-taken t (goal.at.settle-returns-then-must_split-clause-settled t c).After-receive-full _ c.split.result c.split.ensures.placed

pub settle-finish-requires : goal.settle-finish-requires
settle-finish-requires t c =
    let st = stood t (goal.at.settle-finish-requires t c).After-receive-full in
    (omega (arith, c.decreases), (stands-push st (points-few c.receive-full.ensures.taken c.must_split.ensures c.if-must_split.false), st.inside))

pub settle-returns-in_err-x-clause-settled : goal.settle-returns-in_err-x-clause-settled
settle-returns-in_err-x-clause-settled t c =
    let r = err_from_is_err_and c.from_residual.result c.from_residual.ensures.1 in
    rw (r.1, r.2)
    (settle-taken t (goal.at.settle-returns-in_err-x-clause-settled t c).After-receive-full c.finish.new.t (Err _) (one-fails c.in_err-x.ensures.finished))

pub settle-returns-clause-settled : goal.settle-returns-clause-settled
settle-returns-clause-settled t c =
    let at-full = (goal.at.settle-returns-clause-settled t c).After-receive-full in
    settle-taken t at-full _ (Ok _) (finish-one c.in_ok-x.ensures.finished (stood t at-full) c.low_of-low.ensures)

-- its halves
abbrev halves-at : (t : ℕ) → split-After-half-upper t → Halves
halves-at t c = record { sep = c.cut_key-sep.result; left = c.half-lower.result; right = c.half-upper.result }

halved : (t : ℕ) (c : split-After-half-upper t) → Halved c.args.n (halves-at t c)
halved t c = record { key = c.cut_key-sep.ensures; left = c.half-lower.ensures.below refl; right = c.half-upper.ensures.above refl }

pub split-finish-requires : goal.split-finish-requires
split-finish-requires t c =
    let w = c.requires in
    let few = both-few c.half-lower.result.points.n c.half-upper.result.points.n c.if-lower-upper.false in
    (omega (arith, c.decreases), (left-push w.0 w.1 (halved t (goal.at.split-finish-requires t c).After-half-upper) few.0, w.0.inside))

pub split-returns-in_err-x-clause-placed : goal.split-returns-in_err-x-clause-placed
split-returns-in_err-x-clause-placed t c =
    let r = err_from_is_err_and c.from_residual.result c.from_residual.ensures.1 in
    let w = c.requires in
    rw (r.1, r.2) (left-fails w.0 w.1 (halved t (goal.at.split-returns-in_err-x-clause-placed t c).After-half-upper) c.in_err-x.ensures.finished)

pub split-finish-requires-2 : goal.split-finish-requires-2
split-finish-requires-2 t c =
    let w = c.requires in
    let k = c.finish.ensures.kept in
    let x = c.in_ok-x.ensures.finished in
    let few = both-few c.half-lower.result.points.n c.half-upper.result.points.n c.if-lower-upper.false in
    (omega (arith, c.decreases), (push_kept (right-push w.0 w.1 (halved t (goal.at.split-finish-requires-2 t c).After-half-upper) few.1) k (omega (arith, x.same, x.refined.work.fewer)), rw k.table (last-inside w.0.spares w.0.less c.last_of-c.ensures).1))

pub split-returns-in_err-y-clause-placed : goal.split-returns-in_err-y-clause-placed
split-returns-in_err-y-clause-placed t c =
    let r = err_from_is_err_and c.from_residual-in_err-y.result c.from_residual-in_err-y.ensures.1 in
    let w = c.requires in
    rw (r.1, r.2) (right-fails w.0 w.1 (halved t (goal.at.split-returns-in_err-y-clause-placed t c).After-half-upper) c.in_ok-x.ensures.finished c.in_err-y.ensures.finished)

pub split-returns-clause-placed : goal.split-returns-clause-placed
split-returns-clause-placed t c =
    let w = c.requires in
    let h = c.if-left-eq0.false in
    finish-two w.0 w.1 (halved t (goal.at.split-returns-clause-placed t c).After-half-upper) c.in_ok-x.ensures.finished c.in_ok-y.ensures.finished c.low_of-low.ensures (omega (arith, h)) c.last_of-c.ensures
