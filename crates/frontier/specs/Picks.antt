-- The best spots of a node, and its best child, under a limit.
-- Assumes nothing.
use Rattle.std.specs.Prelude.{◌≡◌, ◌⊎◌, ℕ, zero, suc, ◌+◌, ◌-◌, ◌*◌, ◌≤◌, ◌<◌, Bool, true, cond, ◌&&◌, leb, ltb, length, get_or, Option, Some, None, is_some, IsSome}
use mathlib.Core.List.{List, [], ◌∷◌, ◌++◌, Memᴰ}
use Rattle.octets.specs.Bytes.{be}
use Rattle.octets.specs.Lists.{keep}
use Rattle.spot.specs.Keys.{top_key}
use Rattle.spot.specs.Spots.{key_at, spot_at}
use Rattle.spot.specs.Query.{wants_key, wants}
use Rattle.spot.specs.declared.Spot.{Spot}
use Rattle.spot.specs.declared.Query.{Query}
use Rattle.block.specs.Table.{block, version1}
use Rattle.block.specs.Node.{Node, store_of, points_from}
use Rattle.tree.specs.Walk.{finds}
use Rattle.visit.specs.declared.Span.{Span}
use Rattle.visit.specs.Visit.{waiting_above}
use Rattle.frontier.specs.declared.Pick.{Pick}
use Rattle.frontier.specs.declared.KidPick.{KidPick}
use Rattle.frontier.specs.Frontier.{Slot, kid_count, kid_key}

-- ---- the spots of a node

-- its points, then its inserts
abbrev pub spots_of : Node → List Spot
spots_of n = n.points ++ n.inserts

-- where they begin: the inserts right behind the points
abbrev pub spots_at : List ℕ → ℕ → ℕ
spots_at t b = b * 2048 + points_from version1 (kid_count t b)

-- how many they are
abbrev pub spot_count : List ℕ → ℕ → ℕ
spot_count t b = be 1 (block t b) 4 + be 1 (block t b) 5

-- the spot with index j
abbrev pub spot_by : List ℕ → ℕ → ℕ → Spot
spot_by t b j = spot_at t (spots_at t b + 12 * j)

-- those that a query wants
abbrev pub wanted_in : List ℕ → Query → ℕ → List Spot
wanted_in t q b = keep (wants q) (spots_of (store_of t b))

-- those that it finds in a slot's node, by what waits above it
abbrev pub found_in : List ℕ → Query → Slot → List Spot
found_in t q s = finds q (waiting_above t s.path) (store_of t s.block)

-- ---- the best under a limit

-- the best spot that is left of a node, if there is one
pub record Next : Type 0 where
  pub there : Bool
  pub spot : Spot

-- h is the highest of the spots under the top key r, if there is one
pub record Under (r : ℕ) (ss : List Spot) (h : Next) : Type 0 where
  pub held : h.there ≡ true → Memᴰ h.spot ss × (top_key h.spot.key < r)
  pub some : (s : Spot) → Memᴰ s ss → top_key s.key < r → h.there ≡ true
  pub over : (s : Spot) → Memᴰ s ss → top_key s.key < r → top_key s.key ≤ top_key h.spot.key

-- spot j is the highest wanted under r
pub record Rung (t : List ℕ) (b : ℕ) (q : Query) (r j : ℕ) : Type 0 where
  pub index : j < spot_count t b
  pub wanted : Memᴰ (spot_by t b j) (wanted_in t q b)
  pub low : top_key (spot_by t b j).key < r
  pub over : (s : Spot) → Memᴰ s (wanted_in t q b) → top_key s.key < r → top_key s.key ≤ top_key (spot_by t b j).key

-- each of these spots is the highest wanted under the one before it, the first under r
abbrev pub Ladder : List ℕ → ℕ → Query → ℕ → List ℕ → Type 0
Ladder t b q r [] = Unit {0}
Ladder t b q r (j ∷ js) = Rung t b q r j × Ladder t b q (top_key (spot_by t b j).key) js

-- indices as one number: seven bits each, the first lowest, and a 1 above the last
abbrev pub packed : List ℕ → ℕ
packed [] = 1
packed (j ∷ js) = j + 128 * packed js

-- `more` has the indices of the next wanted spots under r, six at most
pub record Laddered (t : List ℕ) (b : ℕ) (q : Query) (r more : ℕ) : Type 0 where
  pub next : List ℕ
  pub few : length next ≤ 6
  pub is : more ≡ packed next
  pub ladder : Ladder t b q r next

-- a pick's top key, its index and the next ones' indices; 0 where there is no pick
abbrev pub pick_key : Option Pick → ℕ
pick_key None = 0
pick_key (Some p) = p.key

abbrev pub pick_at : Option Pick → ℕ
pick_at None = 0
pick_at (Some p) = p.at

abbrev pub pick_more : Option Pick → ℕ
pick_more None = 0
pick_more (Some p) = p.more

abbrev pub next_of : List ℕ → ℕ → Option Pick → Next
next_of t b p = record { there = is_some p; spot = spot_by t b (pick_at p) }

-- p is the highest of these spots of the node at b under the top key r, by its index, with the next wanted under it
pub record PickedUnder (t : List ℕ) (b : ℕ) (q : Query) (r : ℕ) (ss : List Spot) (p : Option Pick) : Type 0 where
  pub index : IsSome p → pick_at p < spot_count t b
  pub key : IsSome p → pick_key p ≡ top_key (spot_by t b (pick_at p)).key
  pub under : Under r ss (next_of t b p)
  pub more : IsSome p → Laddered t b q (pick_key p) (pick_more p)

-- p is the highest wanted of the node at b under some limit
pub record Wished (t : List ℕ) (b : ℕ) (q : Query) (p : Option Pick) : Type 0 where
  pub limit : ℕ
  pub picked : PickedUnder t b q limit (wanted_in t q b) p

-- p is the highest wanted of a slot's node under some limit: then r is the highest found under it
pub record Unwaited (t : List ℕ) (s : Slot) (q : Query) (p r : Option Pick) : Type 0 where
  pub on : (limit : ℕ) → PickedUnder t s.block q limit (wanted_in t q s.block) p → PickedUnder t s.block q limit (found_in t q s) r

-- ---- the best few of a run of spots, in rows of a top key and an index

abbrev pub few_key : List (List ℕ) → ℕ → ℕ
few_key few l = get_or (get_or few l []) 0 0

abbrev pub few_at : List (List ℕ) → ℕ → ℕ
few_at few l = get_or (get_or few l []) 1 0

-- the top key of spot j from `at` on
abbrev pub key_by : List ℕ → ℕ → ℕ → ℕ
key_by t at j = top_key (key_at t (at + 12 * j))

-- the first n spots have different keys
pub record KeysApart (t : List ℕ) (at n : ℕ) : Type 0 where
  pub differ : (i j : ℕ) → i < j → j < n → key_by t at i ≡ key_by t at j → ⊥

-- k is the key of one of the first n spots
pub record OneOf (t : List ℕ) (at n k : ℕ) : Type 0 where
  pub index : ℕ
  pub inside : index < n
  pub is : k ≡ key_at t (at + 12 * index)

-- spot j is wanted and not over the limit
abbrev pub Asked : List ℕ → ℕ → Query → ℕ → ℕ → Type 0
Asked t at q most j = (wants_key q (key_at t (at + 12 * j)) ≡ true) × (key_by t at j ≤ most)

-- the first m rows have the best of the first n spots that are wanted and not over the limit, the best first: all of them, or as many as there are rows
pub record Few (t : List ℕ) (at n : ℕ) (q : Query) (most : ℕ) (few : List (List ℕ)) (m : ℕ) : Type 0 where
  pub room : m ≤ length few
  pub index : (l : ℕ) → l < m → few_at few l < n
  pub key : (l : ℕ) → l < m → few_key few l ≡ key_by t at (few_at few l)
  pub asked : (l : ℕ) → l < m → Asked t at q most (few_at few l)
  pub falls : (a b : ℕ) → a < b → b < m → few_key few b < few_key few a
  pub kept : (j : ℕ) → j < n → Asked t at q most j → ((l : ℕ) × (l < m) × (few_at few l ≡ j)) ⊎ ((m ≡ length few) × (key_by t at j < few_key few (m - 1)))

-- a row comes in at `place`: those from there on move down, and the last goes out where all are taken
pub record Inserted (few : List (List ℕ)) (n key at : ℕ) (few' : List (List ℕ)) (r : ℕ) : Type 0 where
  pub grows : n < length few → r ≡ n + 1
  pub full : length few ≤ n → r ≡ n
  pub place : ℕ
  pub inside : place < r
  pub row : get_or few' place [] ≡ key ∷ at ∷ []
  pub above : (l : ℕ) → l < place → get_or few' l [] ≡ get_or few l []
  pub below : (l : ℕ) → place ≤ l → l + 1 < r → get_or few' (l + 1) [] ≡ get_or few l []
  pub higher : 0 < place → key < few_key few (place - 1)
  pub lower : (l : ℕ) → place ≤ l → l + 1 < r → few_key few l ≤ key
  pub long : length few' ≡ length few

-- what a spot must not be under to come in: the last row, where all are taken
abbrev pub few_floor : List (List ℕ) → ℕ → ℕ
few_floor few n = cond (ltb n (length few)) 0 (few_key few (n - 1))

-- the spot with the key k is not under the floor, not over the limit, and wanted
abbrev pub taken_key : Query → ℕ → ℕ → ℕ → Bool
taken_key q k most floor = leb floor (top_key k) && (leb (top_key k) most && wants_key q k)

-- the indices in k rows from row l on
abbrev pub indices : List (List ℕ) → ℕ → ℕ → List ℕ
indices few l zero = []
indices few l (suc k) = few_at few l ∷ indices few (l + 1) k

-- n rows that can be packed
pub record Packable (few : List (List ℕ)) (n : ℕ) : Type 0 where
  pub most : n ≤ 7
  pub room : n ≤ length few
  pub low : (l : ℕ) → l < n → few_at few l < 128

-- r is the first of n rows, if there is one, with the indices of the others
pub record FirstOf (few : List (List ℕ)) (n : ℕ) (r : Option Pick) : Type 0 where
  pub there : is_some r ≡ ltb 0 n
  pub key : 0 < n → pick_key r ≡ few_key few 0
  pub at : 0 < n → pick_at r ≡ few_at few 0
  pub more : 0 < n → pick_more r ≡ packed (indices few 1 (n - 1))

-- ---- children

-- a best child's key and its index; 0 where there is none
abbrev pub best_key : Option KidPick → ℕ
best_key None = 0
best_key (Some k) = k.key

abbrev pub best_at : Option KidPick → ℕ
best_at None = 0
best_at (Some k) = k.at

-- r is the child with the highest key that is at most `most`, if there is one: its key is above 0
pub record KidBest (t : List ℕ) (b : ℕ) (s : Span) (q : Query) (most : ℕ) (r : Option KidPick) : Type 0 where
  pub some : IsSome r → 0 < best_key r
  pub index : best_at r < 8
  pub held : 0 < best_key r → (best_key r ≡ kid_key t b s q (best_at r)) × (best_key r ≤ most)
  pub over : (i : ℕ) → i < 8 → kid_key t b s q i ≤ most → kid_key t b s q i ≤ best_key r
