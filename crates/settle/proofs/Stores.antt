-- One node stored; and when a node must be cut in two.
-- Assumes nothing.
use mathlib.Core.Path.{◌≡◌}
use mathlib.Core.Logic.{inl, inr}
use mathlib.Core.Bool.{Bool, ◌&&◌}
use mathlib.Core.List.{List}
use Rattle.std.specs.Prelude.{None}
use Prim.Native.Nat.{ℕ}
use lib.Dec.{ltb, leb}
use borrow.Author.Tests.{ltb-true, ltb-false, leb-true}
use Rattle.octets.proofs.Tests.{and_left}
use Rattle.node.specs.Memory.{Stored}
use Rattle.node.specs.declared.NodeValue.{NodeValue}
use Rattle.edit.specs.Edits.{EntryFor}
use Rattle.settle.specs.declared.Settled.{Settled}
use Rattle.settle.specs.Settling.{SplitWhen}

pub split-leaf : (n : NodeValue) → n.level ≡ 0 → SplitWhen n (ltb 64 n.points.n)
split-leaf n z = record { must = λ e. inl (z, ltb-true 64 n.points.n e); fits = λ e h. ltb-false 64 n.points.n e }

pub split-inner : (n : NodeValue) (more : Bool) → (n.level ≡ 0 → ⊥) → SplitWhen n (leb 8 n.entries.n && more)
split-inner n more z =
    record { must = λ e. inr (z, leb-true 8 n.entries.n (and_left (leb 8 n.entries.n) more e)); fits = λ e h. absurd (z h) }

-- a node was stored in block b, and this is its entry
pub record StoredOne (t t' : List ℕ) (b floor : ℕ) (n : NodeValue) (left : ℕ) (r : Settled) : Type 0 where
  pub one : r.second ≡ None
  pub spare : r.left ≡ left
  pub first : EntryFor b floor n r.first
  pub stored : Stored t t' b n
