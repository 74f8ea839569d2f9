-- The entries of a node in two halves, and an entry made of a node.
-- Assumes nothing.
use mathlib.Core.Path.{◌≡◌, sym, ap, ◌∙◌}
use mathlib.Core.Bool.{true}
use mathlib.Core.List.{List, ◌∷◌, ◌++◌}
use Prim.Native.Nat.{ℕ, ◌-◌, ◌≤◌}
use native.Mathlib.Omega.{arith}
use lib.ListN.{length, take, drop, length-drop}
use lib.Seq.{length-take-le}
use Rattle.spot.specs.declared.Spot.{Spot}
use Rattle.spot.proofs.Buffers.{find-mem}
use Rattle.block.specs.declared.Entry.{Entry}
use Rattle.block.specs.declared.Asked.TheVariants.{Child}
use Rattle.block.specs.Node.{Node, open_below, first_open}
use Rattle.block.specs.NodeRules.{agrees}
use Rattle.block.proofs.Views.{length-open}
use Rattle.tree.proofs.Entries.{agree-make}
use Rattle.buffer.specs.Buffer.{LowestIn, Highest}
use Rattle.node.specs.Memory.{EntryAt}

module _ (l : List Entry) (n k : ℕ) (h : n ≤ length l) (g : k ≤ n) where
  -- how many stand on the left
  pub left-count : k ≡ length (take k (take n l))
  left-count = let e : length (take n l) ≡ n = length-take-le n l h in sym (length-take-le k (take n l) (omega arith))

  -- and on the right
  pub right-count : n - k ≡ length (first_open (drop k (take n l)))
  right-count = let e : length (take n l) ≡ n = length-take-le n l h in sym (length-open (drop k (take n l)) ∙ length-drop k (take n l) ∙ ap (λ (m : ℕ). m - k) e)

-- the first of some entries, replaced by itself without its low
pub opened : {xs ys zs : List Entry} {e : Entry} → ys ≡ xs → EntryAt ys 0 e → zs ≡ take 0 ys ++ (open_below e ∷ drop 1 ys) → zs ≡ first_open xs
opened a s g = g ∙ sym (ap first_open (sym a ∙ s.split))

-- an entry that has the highest and the lowest of P
pub agreed : (e : Entry) (n : Node) (t b : Spot) → e.size ≡ length n.points → Highest n.points t → LowestIn n.points b → e.top ≡ t.key → e.bottom ≡ b.key
    → agrees (Child e) n ≡ true
agreed e n t b z h l p q =
    agree-make e n z (rw p (find-mem t.key n.points h.there, h.most)) (rw q (find-mem b.key n.points l.there, l.least))
