-- `visit::through` meets its contract: none, all, or those below the next key.
use Prim.Native.Nat.{◌-◌}
use Rattle.visit.proofs.Search.{key_reads}
use Rattle.visit.proofs.Marking.{through-none, through-all, through-some}
use native.Mathlib.Omega.{arith}
use Rattle.visit.proofs.through.Goals as goal

pub returns-then-n-eq0 : goal.returns-then-n-eq0
returns-then-n-eq0 c =
    let s = c.requires in
    let a = c.args in
    through-none a.t.now a.at a.n a.k s.rise (omega arith)

pub read_key-requires : goal.read_key-requires
read_key-requires c = key_reads c.requires (c.args.n - 1) (omega arith)

pub returns-then-read_key-k : goal.returns-then-read_key-k
returns-then-read_key-k c =
    let s = c.requires in
    let a = c.args in
    through-all a.t.now a.at a.n a.k s.rise (omega (arith, c.if-n-eq0.false)) c.read_key.ensures.0 c.if-read_key-k.true

pub returns : goal.returns
returns c =
    let s = c.requires in
    let a = c.args in
    through-some a.t.now a.at a.n a.k s.rise c.below.ensures.0 c.below.ensures.1
