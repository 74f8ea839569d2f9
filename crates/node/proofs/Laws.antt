-- A node is stored, and nothing else in the table changes.
-- Assumes nothing.
use mathlib.Core.Path.{◌≡◌, sym}
use mathlib.Core.List.{List}
use Prim.Native.Nat.{ℕ}
use Rattle.block.specs.Header.{head_of}
use Rattle.block.specs.Node.{store_of}
use Rattle.block.proofs.Frames.{store_same, head-same}
use Rattle.node.specs.declared.NodeValue.{NodeValue}
use Rattle.node.specs.Memory.{Stored}

module _ (t u : List ℕ) (b : ℕ) (n : NodeValue) (st : Stored t u b n) where
  -- every other block shows what it showed, and so does block 0
  pub stored-else : (z : ℕ) → (z ≡ b → ⊥) → store_of u z ≡ store_of t z
  stored-else z d = store_same t u st.sized z (st.else z d)

  pub stored-head : (b ≡ 0 → ⊥) → head_of u ≡ head_of t
  stored-head d = head-same t u st.sized (st.else 0 (λ e. d (sym e)))
