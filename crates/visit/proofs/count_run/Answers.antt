-- `visit::count_run` meets its contract: all are taken, or it counts the marks.
use mathlib.Core.Path.{◌≡◌, sym, ap, ◌∙◌}
use Prim.Native.Nat.{ℕ}
use native.Mathlib.Omega.{arith}
use lib.ListN.{length}
use Rattle.visit.specs.Visit.{taken}
use Rattle.visit.proofs.Marking.{marks-count}
use Rattle.visit.proofs.count_run.Goals as goal

pub returns-then-n-eq0 : goal.returns-then-n-eq0
returns-then-n-eq0 c =
    let a = c.args in
    let e : a.n ≡ 0 = omega arith in
    (sym (ap (λ (n : ℕ). length (taken a.t.now a.at n a.q a.p)) e), omega arith)

pub takes_all-requires : goal.takes_all-requires
takes_all-requires c =
    let s = c.requires in
    (s.0, s.2)

pub returns-then-takes_all : goal.returns-then-takes_all
returns-then-takes_all c = (sym (c.takes_all.ensures c.if-takes_all.true), omega arith)

pub returns : goal.returns
returns c = (c.count_marks.ensures.0 ∙ sym (marks-count c.marks-m.ensures), c.count_marks.ensures.1)
