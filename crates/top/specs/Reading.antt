-- Top on its way, as the code keeps it: what the slots, heads and cells of its frontier stand for.
-- Assumes nothing.
use Rattle.std.specs.Prelude.{◌≡◌, true, cond, ◌⊎◌, ℕ, zero, suc, ◌+◌, ◌*◌, ◌/◌, ◌%◌, ◌<◌, length, leb, ℤ}
use mathlib.Core.List.{List, [], ◌∷◌, ◌++◌, Memᴰ}
use Rattle.octets.specs.Lists.{keep}
use Rattle.spot.specs.Keys.{top_key, rank_of}
use Rattle.spot.specs.Query.{top_query}
use Rattle.spot.specs.declared.Spot.{Spot}
use Rattle.spot.specs.declared.Query.{Query}
use Rattle.block.specs.declared.Asked.{Asked}
use Rattle.block.specs.Node.{store_of}
use Rattle.block.specs.NodeRules.{names}
use Rattle.tree.specs.Walk.{admits, finds}
use Rattle.tree.specs.Trace.{named_by}
use Rattle.tree.specs.BestFirst.{Pending}
use Rattle.tree.proofs.BestFirst.{Progress}
use Rattle.within_theory.proofs.Following.{Follows}
use Rattle.visit.specs.declared.Path.{Path}
use Rattle.visit.specs.Visit.{part_of, above}
use Rattle.frontier.specs.Frontier.{Slot, kid_count, kid_entry, kid_part, Standing}
use Rattle.frontier.specs.Picks.{Next}

-- f 0, f 1, .. one after the other, n of them
abbrev pub flat : {A : Type 0} → (ℕ → List A) → ℕ → List A
flat f zero = []
flat f (suc n) = flat f n ++ f n

-- the last first
abbrev pub rev : List ℕ → List ℕ
rev [] = []
rev (x ∷ xs) = rev xs ++ (x ∷ [])

-- the keys that the nodes above name, the nearest node's first
abbrev pub named_up : List ℕ → Path → List ℕ
named_up t p = named_by (store_of t) (rev (above p))

-- the node of a slot before it was read
abbrev pub pend_of : List ℕ → Slot → Asked → Pending
pend_of t s a = record { levels = suc s.level; named = named_up t s.path; part = part_of s.block a s.span }

-- the i-th child of a slot's node
abbrev pub child_of : List ℕ → Slot → ℕ → Pending
child_of t s i = record { levels = s.level; named = names (store_of t s.block) ++ named_up t s.path; part = kid_part t s.block s.span i }

-- a part that is unread, unless its cell is 0
abbrev pub seat : ℕ → Pending → List Pending
seat zero p = []
seat (suc v) p = p ∷ []

unfoldable pub seats : List ℕ → (ℕ → Slot) → (ℕ → ℕ) → ℕ → List Pending
seats t slot cell c = seat (cell c) (child_of t (slot (c / 8)) (c % 8))

-- the parts that n slots know of and that are not read
abbrev pub unread_of : List ℕ → (ℕ → Slot) → (ℕ → ℕ) → ℕ → List Pending
unread_of t slot cell n = flat (seats t slot cell) (8 * n)

-- the spots that the query finds in a slot's node
abbrev pub shown_of : List ℕ → Query → Slot → List Spot
shown_of t q s = finds q (named_up t s.path) (store_of t s.block)

-- those left: the next and what lies below it
abbrev pub left_of : List Spot → Next → List Spot
left_of ss h = cond h.there (keep (λ s. leb (top_key s.key) (top_key h.spot.key)) ss) []

unfoldable pub lefts : List ℕ → Query → (ℕ → Slot) → (ℕ → Next) → ℕ → List Spot
lefts t q slot head s = left_of (shown_of t q (slot s)) (head s)

abbrev pub found_of : List ℕ → Query → (ℕ → Slot) → (ℕ → Next) → ℕ → List Spot
found_of t q slot head n = flat (lefts t q slot head) n

-- v is one more than the promise of the i-th child, which the query admits
pub record Awaits (t : List ℕ) (q : Query) (s : Slot) (i v : ℕ) : Type 0 where
  pub below : i < kid_count t s.block
  pub admitted : admits q (kid_part t s.block s.span i) ≡ true
  pub promise : v ≡ rank_of (kid_entry t s.block i).top + 1

-- what is known of the n slots, their heads and cells
pub record Known (t : List ℕ) (q : Query) (slot : ℕ → Slot) (head : ℕ → Next) (cell : ℕ → ℕ) (n : ℕ) : Type 0 where
  pub stands : (s : ℕ) → s < n → Standing t (slot s)
  pub held : (s : ℕ) → s < n → (head s).there ≡ true → Memᴰ (head s).spot (shown_of t q (slot s))
  pub awaits : (c : ℕ) → c < 8 * n → (cell c ≡ 0) ⊎ Awaits t q (slot (c / 8)) (c % 8) (cell c)

-- Top on its way
pub record Underway (t : List ℕ) (x1 x2 : ℤ) (k : ℕ) (slot : ℕ → Slot) (head : ℕ → Next) (cell : ℕ → ℕ) (n : ℕ) (given : List Spot) (blocks : List ℕ) : Type 0 where
  pub known : Known t (top_query x1 x2 0) slot head cell n
  pub progress : Progress t x1 x2 k (unread_of t slot cell n) (found_of t (top_query x1 x2 0) slot head n) given blocks
  pub follows : Follows t x1 x2 k (unread_of t slot cell n) (found_of t (top_query x1 x2 0) slot head n) given blocks
  pub count : length blocks ≡ n
