-- `octets::write16` meets its contract: its two stores are those of `put_be 2`.
use native.Mathlib.Omega.{arith}
use Rattle.octets.specs.Bytes.{put_be}
use native.Mathlib.Nat.{add-zero}
use lib.ListN.{length-set}
use Rattle.octets.proofs.write16.Goals as goal

pub bounds-s-at-2 : goal.bounds-s-at-2
bounds-s-at-2 c = simp length-set (omega arith)

pub returns : goal.returns
unfolding put_be
returns c = simp add-zero
