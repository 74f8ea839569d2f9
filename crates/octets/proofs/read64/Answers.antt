-- `octets::read64` meets its contract: two numbers of four bytes are one of eight.
use native.Mathlib.Omega.{arith}
use Rattle.octets.proofs.Bytes.{be-split}
use Rattle.octets.proofs.read64.Goals as goal

pub returns : goal.returns
returns c =
    let a = c.args in
    (omega (arith, be-split 4 4 a.s.now a.at), omega arith)
