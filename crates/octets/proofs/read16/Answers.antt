-- `octets::read16` meets its contract: the sum of its two bytes is `be 2`.
use native.Mathlib.Omega.{arith}
use Rattle.octets.specs.Bytes.{be}
use native.Mathlib.Nat.{add-zero}
use Rattle.octets.proofs.read16.Goals as goal

pub returns : goal.returns
unfolding be
returns c = (simp add-zero (omega arith), omega arith)
