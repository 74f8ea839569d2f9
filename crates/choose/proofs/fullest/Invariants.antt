-- `choose::fullest` meets its contract. The loop's invariant: the fullest of the first i.
use Prim.Native.Nat.{◌≤◌}
use Rattle.node.specs.Memory.{entries_of}
use Rattle.choose.proofs.Chosen.{Seen}
use Rattle.choose.proofs.fullest.Given as goal

abbrev pub invariant-loop-i : goal.invariant-loop-i
invariant-loop-i g l = (l.i ≤ l.n) × Seen (entries_of l.es) (g.B.Item.Element.keyed.named (g.B.Buffer.held l.b)) (g.B.Buffer.count l.b) l.best l.most l.start l.i
