-- `octets::write8` meets its contract.
use Rattle.octets.specs.Bytes.{put_be}
use native.Mathlib.Nat.{add-zero}
use Rattle.octets.proofs.write8.Goals as goal

pub returns : goal.returns
unfolding put_be
returns c = simp add-zero
