-- What Top learns before it may write: whether its walk is whole, and how many spots it gives.
-- Assumes nothing.
use Rattle.std.specs.Prelude.{◌≡◌, Bool, true, false, List, Option, IfSome, IfNone, ℕ, ◌*◌, ◌≤◌, ◌<◌, ℤ, length, replicate}
use Rattle.spot.specs.Query.{top_query}
use Rattle.spot.specs.declared.Query.{Query}
use Rattle.block.specs.Table.{table_sized}
use Rattle.tree.specs.Walk.{broken, is_broken, spots, blocks_read, walk_table}
use Rattle.tree.specs.ReadMap.{read_map}
use Rattle.tree.specs.Top.{top_walk, top_table}
use Rattle.top.specs.Runs.{Based}
use Rattle.table.specs.declared.Kind.{Kind}
use Rattle.table.specs.declared.Kind.TheVariants.{Held, All, Best}
use Rattle.table.specs.declared.Size.{Size}

-- the walk of Top is whole, and it gives n spots
pub record Gives (t : List ℕ) (x1 x2 : ℤ) (k n : ℕ) : Type 0 where
  pub intact : is_broken (top_walk t x1 x2 k) ≡ false
  pub many : n ≡ length (spots (top_table t x1 x2 k))
  pub few : n ≤ k

-- the n spots in range are no more than k, and the map is that of the walk that finds them
pub record AllCounted (t : List ℕ) (q : Query) (k : ℕ) (seen : List ℕ) (n : ℕ) : Type 0 where
  pub whole : is_broken (walk_table t q) ≡ false
  pub count : n ≡ length (spots (walk_table t q))
  pub few : n ≤ k
  pub map : seen ≡ read_map (blocks_read (walk_table t q))

-- the spots are in the small buffer
abbrev pub is_held : Kind → Bool
is_held Held = true
is_held All = false
is_held Best = false

-- they are all that is in range
abbrev pub is_all : Kind → Bool
is_all Held = false
is_all All = true
is_all Best = false

-- a number that is told is Top's; where none is, the map is clear
pub record TopCounted (t : List ℕ) (q : Query) (k : ℕ) (seen' : List ℕ) (r : Option Size) : Type 0 where
  pub gives : (x1 x2 : ℤ) → q ≡ top_query x1 x2 0 → IfSome r (λ z. Gives t x1 x2 k z.spots)
  pub clear : IfNone r (seen' ≡ replicate 512 0)
  pub unheld : IfSome r (λ z. is_held z.kind ≡ false)
  pub all : IfSome r (λ z. is_all z.kind ≡ true → AllCounted t q k seen' z.spots)

-- Top is whole or not, and what it gives is held in a buffer for 512 spots, with its map, or only counted
pub record TopSized (t : List ℕ) (q : Query) (k : ℕ) (few seen' few' : List ℕ) (r : Option Size) : Type 0 where
  pub fails : (x1 x2 : ℤ) → q ≡ top_query x1 x2 0 → IfNone r (top_walk t x1 x2 k ≡ broken)
  pub gives : (x1 x2 : ℤ) → q ≡ top_query x1 x2 0 → IfSome r (λ z. Gives t x1 x2 k z.spots)
  pub small : IfSome r (λ z. is_held z.kind ≡ true → z.spots ≤ 512)
  pub held : (x1 x2 : ℤ) → q ≡ top_query x1 x2 0 → IfSome r (λ z. is_held z.kind ≡ true → Based t x1 x2 k 512 few seen' few' z.spots)
  pub all : IfSome r (λ z. is_all z.kind ≡ true → AllCounted t q k seen' z.spots)

-- Top gives n spots, and the output has room for them
pub record Writable (t : List ℕ) (q : Query) (k : ℕ) (seen out : List ℕ) (n : ℕ) : Type 0 where
  pub x1 : ℤ
  pub x2 : ℤ
  pub asks : q ≡ top_query x1 x2 0
  pub sized : table_sized (length t) ≡ true
  pub some : 0 < k
  pub fits : 12 * n ≤ length out
  pub mapped : length seen ≡ 512

-- they stand at its front, with the map made
pub record AllWritten (t : List ℕ) (q : Query) (k n : ℕ) (out seen' out' : List ℕ) : Type 0 where
  pub ends : (x1 x2 : ℤ) → q ≡ top_query x1 x2 0 → Based t x1 x2 k n out seen' out' n

-- .. if its walk is whole
pub record Written (t : List ℕ) (q : Query) (k n : ℕ) (out seen' out' : List ℕ) : Type 0 where
  pub ends : (x1 x2 : ℤ) → q ≡ top_query x1 x2 0 → Gives t x1 x2 k n → Based t x1 x2 k n out seen' out' n
