-- The frontier of a Top: a slot for each node read, which is kept as its block and the place where it hangs, and the children of a node by index.
-- Assumes nothing.
use Rattle.std.specs.Prelude.{◌≡◌, ℕ, zero, suc, ◌+◌, ◌-◌, ◌*◌, ◌/◌, ◌%◌, ◌≤◌, ◌<◌, true, cond, ◌&&◌, List, [], ◌∷◌, ◌++◌, length, get_or, eqb, ltb, None}
use Rattle.octets.specs.Bytes.{be}
use Rattle.spot.specs.Keys.{rank_of}
use Rattle.spot.specs.declared.Query.{Query}
use Rattle.block.specs.declared.Entry.{Entry}
use Rattle.block.specs.declared.Asked.{Asked}
use Rattle.block.specs.declared.Asked.TheVariants.{Child}
use Rattle.block.specs.Header.{head_of}
use Rattle.block.specs.HeaderRules.{header_ok}
use Rattle.block.specs.Table.{block, table_sized}
use Rattle.block.specs.Access.{entry_of}
use Rattle.block.specs.Node.{store_of}
use Rattle.block.specs.NodeRules.{node_ok}
use Rattle.tree.specs.Part.{Part}
use Rattle.tree.specs.Walk.{admits}
use Rattle.visit.specs.declared.Span.{Span}
use Rattle.visit.specs.declared.Path.{Path}
use Rattle.visit.specs.Visit.{part_of, above, ceiling, Ancestors, child_span, entries_in}
use Rattle.frontier.specs.declared.Kid.{Kid}
use Rattle.frontier.specs.declared.Place.{Place}

-- ---- the children of a node, by index

abbrev pub kid_count : List ℕ → ℕ → ℕ
kid_count t b = be 1 (block t b) 7

abbrev pub kid_entry : List ℕ → ℕ → ℕ → Entry
kid_entry t b i = entry_of (block t b) i

-- where the range of the i-th child begins
abbrev pub kid_low : List ℕ → ℕ → Span → ℕ → ℕ
kid_low t b s i = cond (eqb i 0) s.lo (kid_entry t b i).low

abbrev pub kid_span : List ℕ → ℕ → Span → ℕ → Span
kid_span t b s i = child_span (entries_in (block t b)) i (kid_low t b s i) s

abbrev pub kid_part : List ℕ → ℕ → Span → ℕ → Part
kid_part t b s i = part_of (kid_entry t b i).block (Child (kid_entry t b i)) (kid_span t b s i)

-- the cell of a child that is still to be read: one more than its promise; 0 where there is none to read
unfoldable pub kid_cell : List ℕ → ℕ → Span → Query → ℕ → ℕ
kid_cell t b s q i = cond (ltb i (kid_count t b) && admits q (kid_part t b s i)) (rank_of (kid_entry t b i).top + 1) 0

-- a cell with the child's block: of equal cells the one with the lower block is above
abbrev pub keyed : ℕ → ℕ → ℕ
keyed zero b = 0
keyed (suc v) b = suc v * 65536 + (65535 - b)

-- the key by which children are read, the highest first; 0 where there is none to read
unfoldable pub kid_key : List ℕ → ℕ → Span → Query → ℕ → ℕ
kid_key t b s q i = keyed (kid_cell t b s q i) (kid_entry t b i).block

-- r is the i-th child
pub record KidIs (t : List ℕ) (b : ℕ) (s : Span) (i : ℕ) (r : Kid) : Type 0 where
  pub entry : r.entry ≡ kid_entry t b i
  pub span : r.span ≡ kid_span t b s i
  pub near : r.entry.block < 65536

-- ---- slots

-- a node that was read: its block and level, its range, and the nodes above it
pub record Slot : Type 0 where
  pub block : ℕ
  pub level : ℕ
  pub span : Span
  pub path : Path

-- the root's; nothing is gathered along the way
abbrev pub root_slot : List ℕ → Slot
root_slot t =
    record {
      block = (head_of t).root;
      level = (head_of t).levels - 1;
      span = record { lo = 0; hi = None };
      path = record { n = 0; blocks = []; lo = 0; last = 0; waits = 0 };
    }

-- the i-th child's
abbrev pub child_slot : List ℕ → Slot → ℕ → Slot
child_slot t s i =
    record {
      block = (kid_entry t s.block i).block;
      level = s.level - 1;
      span = kid_span t s.block s.span i;
      path = record { n = s.path.n + 1; blocks = above s.path ++ (s.block ∷ []); lo = 0; last = 0; waits = 0 };
    }

-- a slot without the nodes above it, as code has it by value
abbrev pub slot_place : Slot → Place
slot_place s = record { block = s.block; level = s.level; span = s.span }

abbrev pub kid_place : List ℕ → Place → ℕ → Place
kid_place t p i = record { block = (kid_entry t p.block i).block; level = p.level - 1; span = kid_span t p.block p.span i }

-- a slot's row has its block, and 8 times its parent's slot with its index among the parent's children
abbrev pub block_by : List (List ℕ) → ℕ → ℕ
block_by rows i = get_or (get_or rows i []) 0 0

abbrev pub parent_by : List (List ℕ) → ℕ → ℕ
parent_by rows i = get_or (get_or rows i []) 1 0 / 8

abbrev pub index_by : List (List ℕ) → ℕ → ℕ
index_by rows i = get_or (get_or rows i []) 1 0 % 8

-- the slot of a row, at most d steps below the root
abbrev pub slot_from : List ℕ → List (List ℕ) → ℕ → ℕ → Slot
slot_from t rows zero i = root_slot t
slot_from t rows (suc d) i = cond (eqb i 0) (root_slot t) (child_slot t (slot_from t rows d (parent_by rows i)) (index_by rows i))

unfoldable pub slot_by : List ℕ → List (List ℕ) → ℕ → Slot
slot_by t rows i = slot_from t rows i i

-- a slot's node keeps the rules, and so do the nodes above it
pub record Standing (t : List ℕ) (s : Slot) : Type 0 where
  pub asked : Asked
  pub ok : node_ok s.level asked (store_of t s.block) ≡ true
  pub inside : s.block * 2048 + 2048 ≤ length t
  pub ancestors : Ancestors t s.path (ceiling asked)
  pub deep : s.path.n + s.level ≤ 6
  pub long : length s.path.blocks ≡ s.path.n

-- n rows of slots: the first is the root's, and each other hangs under one before it
pub record Chain (t : List ℕ) (rows : List (List ℕ)) (n : ℕ) : Type 0 where
  pub sized : table_sized (length t) ≡ true
  pub header : header_ok (length t) (head_of t) ≡ true
  pub room : n ≤ length rows
  pub linked : (i : ℕ) → 0 < i → i < n → parent_by rows i < i
  pub index : (i : ℕ) → 0 < i → i < n → index_by rows i < kid_count t (slot_by t rows (parent_by rows i)).block
  pub blocks : (i : ℕ) → i < n → block_by rows i ≡ (slot_by t rows i).block
  pub stands : (i : ℕ) → i < n → Standing t (slot_by t rows i)

-- i is one of the slots of a chain
pub record Hangs (t : List ℕ) (rows : List (List ℕ)) (i : ℕ) : Type 0 where
  pub n : ℕ
  pub inside : i < n
  pub chain : Chain t rows n
