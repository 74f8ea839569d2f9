-- `lookup::find_run` meets its contract: the first spot whose key is not below decides.
use borrow.Author.Rules.{rules}
use native.Mathlib.Omega.{arith}
use Rattle.visit.proofs.Search.{key_reads}
use Rattle.lookup.proofs.Finds.{found-past, found_at, found-other}
use Rattle.lookup.proofs.find_run.Goals as goal

pub returns-then-n-i : goal.returns-then-n-i
returns-then-n-i c =
    let a = c.args in
    found-past a.t.now a.n a.at a.k c.requires.rise c.below-i.ensures.0 (omega arith)

pub read_spot-s-requires : goal.read_spot-s-requires
read_spot-s-requires c =
    let r = c.requires in
    (omega (arith, r.inside, c.if-n-i.false), (key_reads r c.below-i.result (omega (arith, c.if-n-i.false))).1)

pub returns-then-s-k : goal.returns-then-s-k
returns-then-s-k c =
    let a = c.args in
    found_at a.t.now a.n a.at a.k c.requires.rise c.below-i.ensures.0 (omega arith) c.read_spot-s.ensures.0 (omega arith)

pub returns : goal.returns
returns c =
    let a = c.args in
    found-other a.t.now a.n a.at a.k c.requires.rise c.below-i.ensures.0 (omega arith) c.read_spot-s.ensures.0 (search rules)
