-- `block::apart_ok` meets its contract: the loop goes along both rising lists; its invariant is `ApartInv`.
use Prim.Native.Nat.{◌≤◌}
use Rattle.block.proofs.Apart.{ApartInv}
use Rattle.block.proofs.apart_ok.Given as goal

abbrev pub invariant-loop-j : goal.invariant-loop-j
invariant-loop-j l = (l.i ≤ l.n) × (l.j ≤ l.d) × ApartInv l.s l.n l.at l.d l.ad l.i l.j
