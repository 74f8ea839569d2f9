-- `block::entries_ok` meets its contract: the loop goes from the last entry to the second, and the first comes after it; the invariant is `EntriesInv`.
use mathlib.Core.Path.{refl}
use Prim.Native.Nat.{◌-◌}
use native.Mathlib.Omega.{arith}
use Rattle.spot.specs.Keys.{end_key}
use Rattle.block.proofs.Passes.{entries_none, entries-start, entries_next, entries-end}
use Rattle.block.proofs.entries_ok.Goals as goal

pub returns-then-c-eq0 : goal.returns-then-c-eq0
returns-then-c-eq0 c =
    let a = c.args in
    entries_none a.s.now a.c a.blocks a.own a.low a.floor c.if-c-eq0.true

pub loop-i-init : goal.loop-i-init
unfolding end_key
loop-i-init c =
    let a = c.args in
    entries-start a.s.now a.c a.blocks a.own a.low a.floor refl (omega arith)

pub loop-i-preserved : goal.loop-i-preserved
loop-i-preserved c =
    let l = c.loop-i in
    let a = c.args in
    entries_next a.s.now a.c a.blocks a.own a.low a.floor l.ok l.next (l.i - 1) l.invariant (omega arith) (omega arith) c.raw_key-from.ensures c.entry_ok.ensures

pub returns : goal.returns
returns c =
    let l = c.loop-i in
    let a = c.args in
    entries-end a.s.now a.c a.blocks a.own a.low a.floor l.ok l.next (l.i - 1) l.invariant (omega arith) (omega arith) c.read64.ensures.0 c.entry_ok-2.ensures
