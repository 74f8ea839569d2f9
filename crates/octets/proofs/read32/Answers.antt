-- `octets::read32` meets its contract: the sum of its four bytes is `be 4`.
use native.Mathlib.Omega.{arith}
use Rattle.octets.specs.Bytes.{be}
use native.Mathlib.Nat.{add-zero}
use Rattle.octets.proofs.read32.Goals as goal

pub returns : goal.returns
unfolding be
returns c = (simp add-zero (omega arith), omega arith)
