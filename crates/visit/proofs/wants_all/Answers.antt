-- `visit::wants_all` meets its contract: what lies between two keys that pass the tests at the query's ends is of its places.
use Rattle.visit.proofs.Marking.{all_wanted}
use Rattle.visit.proofs.Search.{key_reads, first_reads}
use Prim.Native.Nat.{◌-◌}
use mathlib.Core.Bool.{false≢true}
use native.Mathlib.Omega.{arith}
use Rattle.visit.proofs.wants_all.Goals as goal

pub returns-then-n-eq0 : goal.returns-then-n-eq0
returns-then-n-eq0 c = λ h. absurd (false≢true h)

pub read_key-first-requires : goal.read_key-first-requires
read_key-first-requires c = first_reads c.requires (omega (arith, c.if-n-eq0.false))

pub read_key-last-requires : goal.read_key-last-requires
read_key-last-requires c = key_reads c.requires (c.args.n - 1) (omega (arith, c.if-n-eq0.false))

pub returns : goal.returns
returns c =
    let a = c.args in
    all_wanted a.t.now a.at a.n a.q (omega arith) c.requires.rise c.read_key-first.ensures.0 c.read_key-last.ensures.0
    c.least_of.ensures c.from_key.ensures c.last_key.ensures c.ends.ensures
