-- `visit::marks` meets its contract: what waits above is struck from the wanted ones, by the list where they lie in its range.
use Prim.Native.Nat.{◌-◌}
use native.Mathlib.Omega.{arith}
use lib.Dec.{leb}
use borrow.Author.Tests.{leb-true}
use Rattle.octets.proofs.Tests.{and_left, and_right}
use Rattle.visit.specs.Visit.{Blank}
use Rattle.visit.proofs.Search.{key_reads, first_reads}
use Rattle.visit.proofs.Marking.{wanted-blank, marks-none, marks-struck, struck-near}
use Rattle.visit.proofs.marks.Goals as goal
use Rattle.visit.proofs.marks.Goals.{After-min-hi}

-- where the wanted ones may have marks
module _ (c : After-min-hi) where
  blank : Blank c.args.t.now c.args.at c.args.n c.max-lo.result c.min-hi.result c.wanted-m.result
  blank =
      wanted-blank c.args.t.now c.args.at c.args.n c.args.q (omega (arith, c.if-n-eq0.false)) c.requires.0.rise
      c.lowest_key.ensures c.highest_key.ensures c.read_key.ensures.0 c.read_key-2.ensures.0 c.max-lo.ensures
      c.min-hi.ensures c.wanted-m.ensures

pub returns-then-n-eq0 : goal.returns-then-n-eq0
returns-then-n-eq0 c = marks-none c.args.p (omega arith) c.wanted-m.ensures

pub read_key-requires : goal.read_key-requires
read_key-requires c = first_reads c.requires.0 (omega (arith, c.if-n-eq0.false))

pub read_key-requires-2 : goal.read_key-requires-2
read_key-requires-2 c =
    key_reads c.requires.0 (c.args.n - 1) (omega (arith, c.if-n-eq0.false))

pub strike_keys-requires : goal.strike_keys-requires
strike_keys-requires c =
    let s = c.requires in
    (s.0, omega (arith, s.0.few, c.wanted-m.ensures.sized), s.2.few)

pub returns-then-p-lo : goal.returns-then-p-lo
returns-then-p-lo c =
    let a = c.args in
    let near = c.if-p-lo.true in
    let lo = c.max-lo.result in
    let hi = c.min-hi.result in
    marks-struck a.p c.wanted-m.ensures
    (struck-near a.t.now a.at a.n a.p a.ws.now c.requires.2 (blank (goal.at.returns-then-p-lo c).After-min-hi)
    (leb-true a.p.lo lo (and_left (leb a.p.lo lo) (leb hi a.p.last) near))
    (leb-true hi a.p.last (and_right (leb a.p.lo lo) (leb hi a.p.last) near))
    c.strike_keys.ensures)

pub strike_path-requires : goal.strike_path-requires
strike_path-requires c =
    (c.requires.0, c.requires.1, omega (arith, c.requires.0.few, c.wanted-m.ensures.sized), blank (goal.at.strike_path-requires c).After-min-hi)

pub returns : goal.returns
returns c = marks-struck c.args.p c.wanted-m.ensures c.strike_path.ensures
