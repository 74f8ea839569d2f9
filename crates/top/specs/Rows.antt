-- The rows of the two heaps: the best spot that is left of each slot, and its best child that is still to be read.
-- Assumes nothing.
use Rattle.std.specs.Prelude.{◌≡◌, cond, List, [], ◌∷◌, ℕ, ◌+◌, ◌*◌, ◌/◌, ◌%◌, ◌≤◌, ◌<◌, get_or, leb, Option, is_some, IsSome}
use Rattle.spot.specs.Keys.{top_key}
use Rattle.spot.specs.declared.Query.{Query}
use Rattle.heap.specs.Heaps.{Heap}
use Rattle.heap.specs.Held.{RowsHeld}
use Rattle.frontier.specs.declared.Pick.{Pick}
use Rattle.frontier.specs.declared.KidPick.{KidPick}
use Rattle.frontier.specs.Frontier.{Slot, kid_cell, kid_key, slot_by}
use Rattle.frontier.specs.Picks.{Next, spot_count, pick_key, pick_at, pick_more, next_of, Laddered, best_key, best_at}

-- ---- rows

-- the row of slot s, whose best spot is p: its top key, and its index with the slot and the next ones' indices; a slot without one has none
abbrev pub pick_row : ℕ → Option Pick → List ℕ
pick_row s p = cond (is_some p) (pick_key p ∷ (pick_at p + 128 * (s + 4096 * pick_more p)) ∷ []) []

-- the row of slot s, whose best unread child is k; a slot without one has none
abbrev pub kid_row : ℕ → Option KidPick → List ℕ
kid_row s k = cond (is_some k) (best_key k ∷ (8 * s + best_at k) ∷ []) []

-- the key and the value of a heap's first row
abbrev pub first_key : List (List ℕ) → ℕ
first_key h = get_or (get_or h 0 []) 0 0

abbrev pub first_value : List (List ℕ) → ℕ
first_value h = get_or (get_or h 0 []) 1 0

-- the index, the slot and the next ones' indices in the first row of the heap of spots
abbrev pub lead_at : List (List ℕ) → ℕ
lead_at h = first_value h % 128

abbrev pub lead_slot : List (List ℕ) → ℕ
lead_slot h = first_value h / 128 % 4096

abbrev pub lead_more : List (List ℕ) → ℕ
lead_more h = first_value h / 524288

-- slot s and its best spot have a row
pub record Seated (s : ℕ) (p : Option Pick) : Type 0 where
  pub few : s < 4096
  pub low : IsSome p → pick_at p < 128
  pub small : IsSome p → pick_more p < 8796093022208

-- ---- the heaps

-- one slot more, whose row is x
pub record Hung (h : List (List ℕ)) (m : ℕ) (x : List ℕ) (h' : List (List ℕ)) (r : ℕ) : Type 0 where
  pub held : (row row' : ℕ → List ℕ) (n : ℕ) → RowsHeld h m row n → ((j : ℕ) → j < n → row' j ≡ row j) → row' n ≡ x → RowsHeld h' r row' (n + 1)

-- the slot of the first row takes the row x
pub record Lowered (h : List (List ℕ)) (m : ℕ) (x : List ℕ) (h' : List (List ℕ)) (r : ℕ) : Type 0 where
  pub heap : Heap r h'
  pub few : r ≤ m
  pub held : (row row' : ℕ → List ℕ) (n s : ℕ) → RowsHeld h m row n → s < n → row s ≡ get_or h 0 [] → row' s ≡ x → ((j : ℕ) → (j ≡ s → ⊥) → row' j ≡ row j) → RowsHeld h' r row' n

-- ---- spots

-- the best spot left of each slot
abbrev pub head_by : List ℕ → List (List ℕ) → (ℕ → Option Pick) → ℕ → Next
head_by t rows pick s = next_of t (slot_by t rows s).block (pick s)

-- m rows have the best spots of n slots, with the next ones wanted
pub record Heads (t : List ℕ) (q : Query) (rows heads : List (List ℕ)) (m n : ℕ) (pick : ℕ → Option Pick) : Type 0 where
  pub held : RowsHeld heads m (λ s. pick_row s (pick s)) n
  pub index : (s : ℕ) → s < n → IsSome (pick s) → pick_at (pick s) < spot_count t (slot_by t rows s).block
  pub key : (s : ℕ) → s < n → IsSome (pick s) → pick_key (pick s) ≡ top_key (head_by t rows pick s).spot.key
  pub more : (s : ℕ) → s < n → IsSome (pick s) → Laddered t (slot_by t rows s).block q (pick_key (pick s)) (pick_more (pick s))

-- ---- children

-- of a slot's children those are unread whose key is not above that of the best
unfoldable pub cell_of : List ℕ → Query → Slot → ℕ → ℕ → ℕ
cell_of t q s most i = cond (leb (kid_key t s.block s.span q i) most) (kid_cell t s.block s.span q i) 0

abbrev pub cell_by : List ℕ → Query → List (List ℕ) → (ℕ → Option KidPick) → ℕ → ℕ
cell_by t q rows kid c = cell_of t q (slot_by t rows (c / 8)) (best_key (kid (c / 8))) (c % 8)

-- m rows have the best unread children of n slots
pub record Kids (t : List ℕ) (q : Query) (rows kids : List (List ℕ)) (m n : ℕ) (kid : ℕ → Option KidPick) : Type 0 where
  pub held : RowsHeld kids m (λ s. kid_row s (kid s)) n
  pub some : (s : ℕ) → s < n → IsSome (kid s) → 0 < best_key (kid s)
  pub index : (s : ℕ) → s < n → best_at (kid s) < 8
  pub key : (s : ℕ) → s < n → 0 < best_key (kid s) → best_key (kid s) ≡ kid_key t (slot_by t rows s).block (slot_by t rows s).span q (best_at (kid s))
