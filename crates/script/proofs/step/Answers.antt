-- `script::step` meets its contract: the call, lent the first bytes of scratch, read map and output, and the first counts.
use mathlib.Core.Path.{ap, ◌∙◌}
use Prim.Native.Nat.{ℕ, min}
use lib.ListN.{length}
use Rattle.script.proofs.Fronts.{front_long}
use Rattle.script.proofs.Turns.{lent}
use Rattle.script.proofs.step.Goals as goal

pub slice_bounds-call-end-2 : goal.slice_bounds-call-end-2
slice_bounds-call-end-2 c =
    front_long _ c.min-c.result c.args.scratch.now c.min-c.ensures

pub slice_bounds-call-end-4 : goal.slice_bounds-call-end-4
slice_bounds-call-end-4 c =
    front_long _ c.min-b.result c.args.read_map.now c.min-b.ensures

pub slice_bounds-call-end-6 : goal.slice_bounds-call-end-6
slice_bounds-call-end-6 c =
    front_long _ c.min-d.result c.args.counts.now c.min-d.ensures

pub slice_bounds-call-end-8 : goal.slice_bounds-call-end-8
slice_bounds-call-end-8 c =
    front_long _ c.min-a.result c.args.output.now c.min-a.ensures

pub returns : goal.returns
returns c =
    let call = c.call in
    let a = c.args in
    let w = a.scratch.now in
    let m = a.read_map.now in
    let v = a.counts.now in
    let o = a.output.now in
    let i = c.min-c in
    let j = c.min-b in
    let k = c.min-a in
    lent _ a.script.now a.at _ w m v o call.result _ call.new.scratch call.new.read_map call.new.counts call.new.output i.result j.result c.min-d.result
    k.result
    (i.ensures ∙ ap (λ (n : ℕ). min n (length w)) c.read32-3.ensures.0)
    (j.ensures ∙ ap (λ (n : ℕ). min n (length m)) c.read32-2.ensures.0)
    (c.min-d.ensures ∙ ap (λ (n : ℕ). min n (length v)) c.read32-4.ensures.0)
    (k.ensures ∙ ap (λ (n : ℕ). min n (length o)) c.read32.ensures.0)
    call.auto.scratch
    call.auto.read_map
    call.auto.counts
    call.auto.output
    call.ensures
