-- `octets::write32` meets its contract: its four stores are those of `put_be 4`.
use native.Mathlib.Omega.{arith}
use Rattle.octets.specs.Bytes.{put_be}
use native.Mathlib.Nat.{add-zero}
use lib.ListN.{length-set}
use Rattle.octets.proofs.write32.Goals as goal

pub bounds-s-at-2 : goal.bounds-s-at-2
bounds-s-at-2 c = simp length-set (omega arith)

pub bounds-s-at-3 : goal.bounds-s-at-3
bounds-s-at-3 c = simp length-set (omega arith)

pub bounds-s-at-4 : goal.bounds-s-at-4
bounds-s-at-4 c = simp length-set (omega arith)

pub returns : goal.returns
unfolding put_be
returns c = simp add-zero
