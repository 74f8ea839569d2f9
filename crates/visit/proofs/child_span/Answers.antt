-- `visit::child_span` meets its contract: the span ends where the next entry begins, or where the parent's does.
use mathlib.Core.Path.{◌≡◌, ap, ◌∙◌}
use Rattle.std.specs.Prelude.{Some}
use mathlib.Core.List.{List}
use Prim.Native.Nat.{ℕ, ◌+◌, ◌*◌, ◌≤◌, ◌<◌}
use native.Mathlib.Omega.{arith}
use Rattle.octets.specs.Bytes.{be}
use Rattle.block.specs.Access.{front_of}
use Rattle.block.proofs.Limits.{entry-fits, low-inside}
use Rattle.visit.proofs.Spans.{span-next, span_last}
use Rattle.visit.proofs.child_span.Goals as goal
use Rattle.visit.proofs.child_span.Goals.{Start}

-- the i-th of the entries
among : (s : List ℕ) {i c : ℕ} → i < c → c ≡ be 1 s 7 → i < (front_of s).c
unfolding front_of
among s l e = omega arith

-- it stands in the block
fits : (c : Start) {i : ℕ} → i < c.args.c → 8 + 28 * i + 28 ≤ 1896
fits c {i} l = let s = c.args.s.now in (entry-fits s c.requires.0 i (among s l c.requires.2)).0

pub overflow_add-i : goal.overflow_add-i
overflow_add-i c = omega (arith, fits (goal.at.overflow_add-i c).Start c.requires.1)

pub overflow_add-i-then-i-c : goal.overflow_add-i-then-i-c
overflow_add-i-then-i-c c = omega (arith, fits (goal.at.overflow_add-i-then-i-c c).Start c.requires.1)

pub overflow_mul-i : goal.overflow_mul-i
overflow_mul-i c = omega (arith, fits (goal.at.overflow_mul-i c).Start c.if-i-c.true)

pub overflow_add-i-then-i-c-2 : goal.overflow_add-i-then-i-c-2
overflow_add-i-then-i-c-2 c = omega (arith, fits (goal.at.overflow_add-i-then-i-c-2 c).Start c.if-i-c.true)

pub overflow_add-i-then-i-c-3 : goal.overflow_add-i-then-i-c-3
overflow_add-i-then-i-c-3 c = omega (arith, fits (goal.at.overflow_add-i-then-i-c-3 c).Start c.if-i-c.true)

pub read_key-hi-requires : goal.read_key-hi-requires
read_key-hi-requires c =
    let s = c.args.s.now in (
      omega (arith, fits (goal.at.read_key-hi-requires c).Start c.if-i-c.true, c.requires.0.sized),
      low-inside s c.requires.0 (c.args.i + 1) (omega arith) (among s c.if-i-c.true c.requires.2),
    )

pub returns-then-i-c : goal.returns-then-i-c
returns-then-i-c c =
    let a = c.args in
    ap (λ (k : ℕ). record { lo = a.lo; hi = Some k }) c.read_key-hi.ensures.0
    ∙ span-next a.s.now a.i a.lo a.span (omega arith)

pub returns : goal.returns
returns c =
    let a = c.args in
    span_last a.s.now a.i a.lo a.span (omega arith)
