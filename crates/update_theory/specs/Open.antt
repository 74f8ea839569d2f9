-- A node in memory during an update: its children stand in a store, its buffers are ready, and f is what is found through it. Each step of
-- settle, push, split and fill leads from one such state to another; a state with the sizes right can be stored.
-- Assumes nothing.
use Rattle.std.specs.Prelude.{◌≡◌, true, cond, ℕ, ◌<◌, ◌≤◌}
use mathlib.Core.List.{List, Memᴰ}
use Rattle.std.proofs.Math.Option.{Option, none, some}
use Rattle.octets.specs.Lists.{has, rising}
use Rattle.octets.specs.Sets.{Apart}
use Rattle.spot.specs.declared.Spot.{Spot}
use Rattle.spot.specs.Spots.{keys, find}
use Rattle.spot.specs.Keys.{rank_key, within}
use Rattle.block.specs.declared.Entry.{Entry}
use Rattle.block.specs.Node.{Store}
use Rattle.tree.specs.Part.{parts, Steps}
use Rattle.tree.specs.Lookup.{or_else, down, lookup}
use Rattle.update_theory.specs.Held.{Held}
use Rattle.update_theory.specs.Change.{Sound}

-- the word of three buffers on k, and where they have none, d
abbrev pub say : List Spot → List Spot → List ℕ → ℕ → Option ℕ → Option ℕ
say P I D k d = or_else (find k P) (or_else (find k I) (cond (has k D) none d))

abbrev pub says : Held → ℕ → Option ℕ → Option ℕ
says b k d = say b.points b.inserts b.deletes k d

-- Buffers of a node with the range [lo, hi), where `below` is found below it: P has rank r or more, all else is under r
pub record NodeReady (lo hi r : ℕ) (P I : List Spot) (D : List ℕ) (below : ℕ → Option ℕ) : Type 0 where
  pub up_p : rising (keys P) ≡ true
  pub up_i : rising (keys I) ≡ true
  pub up_d : rising D ≡ true
  pub in_p : (k : ℕ) → Memᴰ k (keys P) → within lo hi k ≡ true
  pub in_i : (k : ℕ) → Memᴰ k (keys I) → within lo hi k ≡ true
  pub in_d : (k : ℕ) → Memᴰ k D → within lo hi k ≡ true
  pub off : Apart (keys I) D
  pub above : (k : ℕ) → Memᴰ k (keys P) → r ≤ rank_key k
  pub under_i : (k : ℕ) → Memᴰ k (keys I) → rank_key k < r
  pub under_d : (k : ℕ) → Memᴰ k D → rank_key k < r
  pub deep : (k a : ℕ) → below k ≡ some a → rank_key k < r

abbrev pub Fit : ℕ → ℕ → ℕ → Held → (ℕ → Option ℕ) → Type 0
Fit lo hi r b below = NodeReady lo hi r b.points b.inserts b.deletes below

-- what is found below the entries es of a node with the range [lo, hi)
abbrev pub under : ℕ → Store → ℕ → ℕ → List Entry → ℕ → Option ℕ
under l m lo hi es k = down (lookup l m k) k (parts lo hi es)

-- a node in memory over children in a store: all of them sound, their ranges in order, the buffers ready, and f found through it
pub record Open (l : ℕ) (m : Store) (lo hi r : ℕ) (es : List Entry) (b : Held) (f : ℕ → Option ℕ) : Type 0 where
  pub kids : Sound l m (parts lo hi es)
  pub steps : Steps lo hi es
  pub ready : Fit lo hi r b (under l m lo hi es)
  pub found : (k : ℕ) → within lo hi k ≡ true → says b k (under l m lo hi es k) ≡ f k
