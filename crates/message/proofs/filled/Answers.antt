-- `message::filled` meets its contract.
use mathlib.Core.Path.{sym, ap, ◌∙◌}
use Prim.Native.Nat.{ℕ}
use native.Mathlib.Omega.{arith}
use lib.Dec.{eqb}
use Rattle.octets.specs.Bytes.{be}
use Rattle.message.proofs.Judging.{no-zeros, four-zeros}
use Rattle.message.proofs.filled.Goals as goal

pub returns-then-fill-eq0 : goal.returns-then-fill-eq0
returns-then-fill-eq0 c = let a = c.args in no-zeros a.fill a.s.now a.at c.if-fill-eq0.true

pub read32-requires : goal.read32-requires
read32-requires c =
    omega (arith, four-zeros c.args.fill c.requires.0 c.if-fill-eq0.false, c.requires.1)

pub returns : goal.returns
returns c =
    let a = c.args in
    ap (λ (k : ℕ). eqb k 0) c.read32.ensures.0
    ∙ ap (λ (k : ℕ). eqb (be k a.s.now a.at) 0) (sym (four-zeros a.fill c.requires.0 c.if-fill-eq0.false))
