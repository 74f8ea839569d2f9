-- `change::heavy` meets its contract.
use mathlib.Core.Bool.{true}
use mathlib.Core.Path.{◌≡◌}
use native.Mathlib.Omega.{arith}
use mathlib.Core.List.{Memᴰ}
use Prim.Native.Nat.{ℕ}
use Rattle.spot.specs.Keys.{start_key, end_key, within}
use Rattle.spot.specs.Spots.{keys}
use Rattle.buffer.specs.Buffer.{held, named}
use Rattle.journal.proofs.Kept.{kept_trans, undoable-kept}
use Rattle.change.proofs.Deep.{nine-blocks, heavy-starts, heavy-settles, heavy-undone, heavy-finishes, heavy-done}
use Rattle.change.proofs.Roomy.{limited-in}
use Rattle.change.proofs.heavy.Goals as goal
use Rattle.change.proofs.heavy.Goals.{Start}

-- the batch lies in the root's range
all-spots : (c : Start) (k : ℕ) → Memᴰ k (keys (held c.args.inserts)) → within start_key end_key k ≡ true
all-spots c = limited-in (keys (held c.args.inserts)) c.requires.1

all-keys : (c : Start) (k : ℕ) → Memᴰ k (named c.args.deletes) → within start_key end_key k ≡ true
all-keys c = limited-in (named c.args.deletes) c.requires.2

pub save-requires : goal.save-requires
save-requires c =
    (heavy-starts c.requires.0, let z = nine-blocks c.args.t.now c.requires.0.start.header in omega (arith, z))

pub grow-requires : goal.grow-requires
grow-requires c =
    let s = c.save.ensures in
    heavy-settles c.requires.0 s.0 s.1 c.spare_blocks-spare.ensures

pub undo-requires : goal.undo-requires
undo-requires c =
    undoable-kept (kept_trans c.save.ensures.0 c.grow.ensures.kept) (heavy-starts c.requires.0)

pub returns-in-Err : goal.returns-in-Err
returns-in-Err c =
    let s = c.save.ensures in
    heavy-undone c.requires.0 s.0 s.1 c.spare_blocks-spare.ensures c.grow.ensures.kept c.in-Err.ensures.grown c.undo.ensures (all-spots (goal.at.returns-in-Err c).Start) (all-keys (goal.at.returns-in-Err c).Start)

pub finish-requires : goal.finish-requires
finish-requires c =
    let s = c.save.ensures in
    heavy-finishes c.requires.0 s.0 s.1 c.spare_blocks-spare.ensures c.grow.ensures.kept c.in-Ok.ensures.grown

pub returns-in-Ok : goal.returns-in-Ok
returns-in-Ok c =
    let s = c.save.ensures in
    heavy-done c.requires.0 s.0 s.1 c.spare_blocks-spare.ensures c.grow.ensures.kept c.in-Ok.ensures.grown c.finish.ensures (all-spots (goal.at.returns-in-Ok c).Start) (all-keys (goal.at.returns-in-Ok c).Start)
