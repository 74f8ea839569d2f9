-- Nothing that is live below lies above the entries' tops.
-- Assumes nothing.
use mathlib.Core.Path.{◌≡◌}
use mathlib.Core.List.{List, Memᴰ}
use mathlib.Core.Option.{none, some}
use Prim.Native.Nat.{ℕ, ◌<◌, ◌≤◌}
use native.Mathlib.Omega.{arith}
use Rattle.spot.specs.Keys.{rank_key}
use Rattle.block.specs.declared.Entry.{Entry}
use Rattle.block.specs.Node.{Store}
use Rattle.tree.specs.Part.{parts}
use Rattle.tree.proofs.Below.{live-top}
use Rattle.update_theory.specs.Change.{Sound}
use Rattle.update_theory.specs.Open.{under}
use Rattle.update_theory.proofs.Ready.{too-high}

-- what is live below is no higher than the tops
pub tops-bound : (l : ℕ) (m : Store) (lo hi : ℕ) (es : List Entry) → Sound l m (parts lo hi es) → (t : ℕ) → ((e : Entry) → Memᴰ e es → (e.size ≡ 0 → ⊥) → rank_key e.top ≤ t)
    → (k a : ℕ) → under l m lo hi es k ≡ some a → rank_key k ≤ t
tops-bound l m lo hi es s t h k a f =
    let b = live-top l m lo hi es s.each k a f in
    let u = h b.0 b.1 b.2 in
    omega (arith, u, b.3)

-- a key above all tops isn't below
pub tops-none : (l : ℕ) (m : Store) (lo hi : ℕ) (es : List Entry) → Sound l m (parts lo hi es) → (t : ℕ) → ((e : Entry) → Memᴰ e es → (e.size ≡ 0 → ⊥) → rank_key e.top < rank_key t)
    → under l m lo hi es t ≡ none
tops-none l m lo hi es s t h =
    too-high (rank_key t) (under l m lo hi es) (λ k a f. let b = live-top l m lo hi es s.each k a f in let u = h b.0 b.1 b.2 in omega (arith, u, b.3)) t (omega arith)
