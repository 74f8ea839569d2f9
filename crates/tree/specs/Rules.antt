-- When a table is sound, in 01's own words: each rule of "When a table is sound" is a record, each of its sentences a field. The words speak of every node
-- that is reached from the root, and of no test of a block. Theorems (proofs/Rules, proofs/Converse), for every t:
--
--   rule | definition | kept by a sound table
--   1    | Rule1 t    | rule1
--   2    | Rule2 t    | rule2
--   3    | Rule3 t    | rule3
--   4    | Rule4 t    | rule4
--   5    | Rule5 t    | rule5
--   6    | Rule6 t    | rule6
--   07   | Limits t   | limits
--   all  | Rules t    | rules-of; and a table that keeps all is sound, sound-by. "Check says yes exactly if the table is sound": sound-exactly.
--
-- From the rules: the blocks named lie in 1 to n − 1 (root-inside, entry-inside), and bits of the map past the table are clear (past-clear).
-- Assumes nothing.
use Rattle.std.specs.Prelude.{◌≡◌, ◌⊎◌, ◌↔◌, true, ℕ, ◌+◌, ◌*◌, ◌≤◌, ◌<◌, length, drop}
use mathlib.Core.List.{List, [], ◌∷◌, ◌++◌, Memᴰ}
use Rattle.octets.specs.Lists.{rest, rising, distinct}
use Rattle.octets.specs.Bitmap.{bit}
use Rattle.octets.specs.Bytes.{be}
use Rattle.spot.specs.Keys.{rank_key, limited}
use Rattle.spot.specs.Spots.{keys}
use Rattle.block.specs.declared.Entry.{Entry}
use Rattle.block.specs.declared.Asked.TheVariants.{Child}
use Rattle.block.specs.Table.{version1, blocks_of, capacity, block}
use Rattle.block.specs.Header.{head_of}
use Rattle.block.specs.Node.{Node, Store, store_of, used_bytes, entry_blank, first_blank}
use Rattle.block.specs.NodeRules.{names, lows}
use Rattle.tree.specs.Part.{Part, whole}
use Rattle.tree.specs.Lookup.{is_live, live}

-- ---- the nodes reached

-- The entry at a place among the entries es of a node leads to c. The node's range is from lo up to, and without, hi.
pub record ChildAt (lo hi : ℕ) (es : List Entry) (place : ℕ) (c : Part) : Type 0 where
  pub before : List Entry
  pub entry : Entry
  pub after : List Entry
  pub among : es ≡ before ++ (entry ∷ after)
  pub placed : length before ≡ place
  pub asked : c.asked ≡ Child entry
  pub stands : c.block ≡ entry.block
  -- rule 3: "from its entry's lowest identity"; "A first child's range begins .. where its parent's does"
  pub later : 0 < place → c.lo ≡ entry.low
  pub first : place ≡ 0 → c.lo ≡ lo
  -- rule 3: "up to, and without, the next entry's"; "a last child's ends, where its parent's does"
  pub next : (e : Entry) (es : List Entry) → after ≡ e ∷ es → c.hi ≡ e.low
  pub last : after ≡ [] → c.hi ≡ hi

abbrev pub ChildOf : Store → Part → ℕ → Part → Type 0
ChildOf m p place c = ChildAt p.lo p.hi (m p.block).entries place c

-- the way leads from the node at p down to the node at c; it is the list of the places of the children that it goes to
pub data Leads (m : Store) : Part → List ℕ → Part → Type 0 where
  here : {p c : Part} → c ≡ p → Leads m p [] c
  step : {p d c : Part} {place : ℕ} {way : List ℕ} → ChildOf m p place d → Leads m d way c → Leads m p (place ∷ way) c

-- d stands below c: a way of a step or more leads there
abbrev pub Below : Store → Part → Part → Type 0
Below m c d = (place : ℕ) × (way : List ℕ) × Leads m c (place ∷ way) d

-- the used length of a node's block, by its sizes: "8 + 28c + 12(P + I) + 8D"
abbrev pub used_in : List ℕ → ℕ
used_in s = used_bytes version1 (be 1 s 7) (be 1 s 4) (be 1 s 5) (be 1 s 6)

-- rule 6: a node's block "as laid out above"
pub record Laid (s : List ℕ) : Type 0 where
  -- "bytes 0-1 length of what is used", "at most 1,896"; "2 version, 1"
  pub used : be 2 s 0 ≡ used_in s
  pub most : used_in s ≤ 1896
  pub version : be 1 s 2 ≡ 1
  -- "Unnamed bytes .. of nodes are zero"
  pub zeros : (x : ℕ) → Memᴰ x (drop (used_in s) s) → x ≡ 0
  -- "zero (1)"; "Where the child's P is empty the last two are zero and unused"
  pub blanks : (i : ℕ) → i < be 1 s 7 → entry_blank s (8 + 28 * i) ≡ true
  -- "In the first child's entry the range field is zero and unused"
  pub first : first_blank s (be 1 s 7) ≡ true

-- rule 6: "Entries agree with their children": "size of the child's P (1)", "the highest and the lowest identity of its P in rank order"
pub record Agrees (e : Entry) (n : Node) : Type 0 where
  pub size : e.size ≡ length n.points
  pub highest : (n.points ≡ [] → ⊥) → Memᴰ e.top (keys n.points) × ((k : ℕ) → Memᴰ k (keys n.points) → rank_key k ≤ rank_key e.top)
  pub lowest : (n.points ≡ [] → ⊥) → Memᴰ e.bottom (keys n.points) × ((k : ℕ) → Memᴰ k (keys n.points) → rank_key e.bottom ≤ rank_key k)

-- rule 5: "P is 32 to 64, I at most 64 and D at most 16"
pub record Filled (n : Node) : Type 0 where
  pub least : 32 ≤ length n.points
  pub most : length n.points ≤ 64
  pub inserts : length n.inserts ≤ 64
  pub deletes : length n.deletes ≤ 16

-- rule 5: "P is under 32, its I and D are empty and all P, I and D below it are empty"
pub record Lowest (m : Store) (c : Part) : Type 0 where
  pub few : length (m c.block).points < 32
  pub inserts : (m c.block).inserts ≡ []
  pub deletes : (m c.block).deletes ≡ []
  pub below : (d : Part) → Below m c d → names (m d.block) ≡ []

-- ---- the rules

module _ (t : List ℕ) where
  -- the root, rule 3: "the root's has no ends"
  abbrev pub top : Part
  top = whole (head_of t)

  -- the node in the block of c
  abbrev pub at : Part → Node
  at c = store_of t c.block

  -- c is a node of the table: a way leads there from the root
  abbrev pub IsNode : Part → Type 0
  IsNode c = (way : List ℕ) × Leads (store_of t) top way c

  -- the block b is reached from the root
  abbrev pub Reached : ℕ → Type 0
  Reached b = (c : Part) × IsNode c × (c.block ≡ b)

  pub record Rule1 : Type 0 where
    -- "A table is 9 to 4,096 blocks of 2,048 bytes"
    pub cut : length t ≡ 2048 * blocks_of (length t)
    pub least : 9 ≤ blocks_of (length t)
    pub most : blocks_of (length t) ≤ 4096
    -- "Block 0 agrees with the lent length"
    pub bytes : (head_of t).bytes ≡ length t
    -- "the map marks block 0 and exactly the blocks reached from the root"
    pub marks : (b : ℕ) → (bit (head_of t).in_use b ≡ true) ↔ ((b ≡ 0) ⊎ Reached b)
    -- "each reached once": two ways to one block are one way. Block 0 is apart from these: no way leads there.
    pub once : (v w : List ℕ) (c d : Part) → Leads (store_of t) top v c → Leads (store_of t) top w d → c.block ≡ d.block → v ≡ w
    pub apart : Reached 0 → ⊥

  pub record Rule2 : Type 0 where
    -- "The root has level h − 1"
    pub root : (at top).level + 1 ≡ (head_of t).levels
    -- "a child one level less than its parent"
    pub child : (d c : Part) (place : ℕ) → IsNode d → ChildOf (store_of t) d place c → (at c).level + 1 ≡ (at d).level
    -- "A leaf has no children"
    pub leaf : (c : Part) → IsNode c → (at c).level ≡ 0 → (at c).entries ≡ []
    -- "an inner node has 4 to 8"
    pub inner : (c : Part) → Below (store_of t) top c → ((at c).level ≡ 0 → ⊥) → (4 ≤ length (at c).entries) × (length (at c).entries ≤ 8)
    -- "the root if inner 2 to 8"
    pub inner-root : ((at top).level ≡ 0 → ⊥) → (2 ≤ length (at top).entries) × (length (at top).entries ≤ 8)

  pub record Rule3 : Type 0 where
    -- "P, I and D rise in place order"
    pub points : (c : Part) → IsNode c → rising (keys (at c).points) ≡ true
    pub inserts : (c : Part) → IsNode c → rising (keys (at c).inserts) ≡ true
    pub deletes : (c : Part) → IsNode c → rising (at c).deletes ≡ true
    -- "no identity occurs twice in one node"
    pub once : (c : Part) → IsNode c → distinct (names (at c)) ≡ true
    -- "All identities lie in the node's range: from its entry's lowest identity up to, and without, the next entry's"
    pub range : (c : Part) (k : ℕ) → IsNode c → Memᴰ k (names (at c)) → (c.lo ≤ k) × (k < c.hi)
    -- "From the second entry on, the lowest identities rise strictly"
    pub rise : (c : Part) → IsNode c → rising (rest (lows (at c).entries)) ≡ true
    -- ".. and lie in the parent's range"
    pub inside : (c : Part) (k : ℕ) → IsNode c → Memᴰ k (rest (lows (at c).entries)) → (c.lo ≤ k) × (k < c.hi)

  pub record Rule4 : Type 0 where
    -- "In rank order P lies above every identity in its own I and D"
    pub own : (c : Part) (p k : ℕ) → IsNode c → Memᴰ p (keys (at c).points) → Memᴰ k (keys (at c).inserts ++ (at c).deletes) → rank_key k < rank_key p
    -- ".. and in all P, I and D below it"
    pub below : (c d : Part) (p k : ℕ) → IsNode c → Below (store_of t) c d → Memᴰ p (keys (at c).points) → Memᴰ k (names (at d)) → rank_key k < rank_key p

  pub record Rule5 : Type 0 where
    -- "Either P is 32 to 64, I at most 64 and D at most 16, or P is under 32, its I and D are empty and all P, I and D below it are empty"
    pub sizes : (c : Part) → IsNode c → Filled (at c) ⊎ Lowest (store_of t) c
    -- "A leaf's I and D are empty"
    pub leaf : (c : Part) → IsNode c → (at c).level ≡ 0 → ((at c).inserts ≡ []) × ((at c).deletes ≡ [])

  pub record Rule6 : Type 0 where
    -- "Entries agree with their children"
    pub entries : (d c : Part) (place : ℕ) → IsNode d → (child : ChildOf (store_of t) d place c) → Agrees child.entry (at c)
    -- "The figure in bytes 8-11 lies in its limits": "never below the live count", so no list of live identities, none of them twice, is longer,
    pub figure : (ks : List ℕ) → distinct ks ≡ true → ((k : ℕ) → Memᴰ k ks → is_live (live t k) ≡ true) → length ks ≤ (head_of t).bound
    -- "and never above capacity"
    pub full : (head_of t).bound ≤ capacity (length t)
    -- "Every other field and zero byte is as laid out above". Block 0: "4 version, 1; 5 number of levels h, 1 to 7", unnamed bytes zero
    pub version : (head_of t).version ≡ 1
    pub levels : (1 ≤ (head_of t).levels) × ((head_of t).levels ≤ 7)
    pub blank : (head_of t).blank ≡ true
    -- .. and nodes
    pub laid : (c : Part) → IsNode c → Laid (block t c.block)

  -- request 2026-07: "A place read from a card or an argument must lie in −1,000,000 to 1,000,000 centimetres". The highest and the lowest of a child's P are
  -- identities that the child names (rule 6).
  pub record Limits : Type 0 where
    pub named : (c : Part) (k : ℕ) → IsNode c → Memᴰ k (names (at c)) → limited k ≡ true
    pub lowest : (c : Part) (k : ℕ) → IsNode c → Memᴰ k (rest (lows (at c).entries)) → limited k ≡ true

  -- a table that keeps 01's rules and has its places inside the limits
  pub record Rules : Type 0 where
    pub rule1 : Rule1
    pub rule2 : Rule2
    pub rule3 : Rule3
    pub rule4 : Rule4
    pub rule5 : Rule5
    pub rule6 : Rule6
    pub limits : Limits
