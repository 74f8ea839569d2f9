-- What the functions of a walk are handed and hand back.
-- Assumes nothing.
use Rattle.std.specs.Prelude.{◌≡◌, ℕ, suc, ◌+◌, ◌*◌, ◌^◌, ◌≤◌, ◌<◌, true, not, ◌&&◌, List, ◌++◌, length, drop, Option, is_some, IfSome, OnSome}
use Rattle.octets.specs.Bitmap.{bit, set_bit, ones_below}
use Rattle.spot.specs.Spots.{put_all, spots_bytes, spots_in}
use Rattle.spot.specs.declared.Spot.{Spot}
use Rattle.spot.specs.declared.Query.{Query}
use Rattle.block.specs.declared.Asked.{Asked}
use Rattle.block.specs.Table.{blocks_of}
use Rattle.block.specs.Node.{store_of}
use Rattle.block.specs.NodeRules.{node_ok}
use Rattle.tree.specs.Part.{Part}
use Rattle.tree.specs.Walk.{finds, walk_table, is_broken, spots, blocks_read}
use Rattle.tree.specs.Trace.{obeys, visits, tally, unseen, marked}
use Rattle.tree.specs.ReadMap.{read_map, ones}
use Rattle.visit.specs.Visit.{part_of, named_above, ceiling, Ready, ValidPath, Ancestors}
use Rattle.visit.specs.declared.Span.{Span}
use Rattle.visit.specs.declared.Path.{Path}
use Rattle.tally.specs.declared.Tally.{Tally}
use Rattle.query.specs.Merging.{Orderly}

-- the blocks so far are the ones of the map, with at most 128 spots each
pub record Tallied (map : List ℕ) (y : Tally) : Type 0 where
  pub blocks : y.blocks ≡ ones_below map 4096
  pub spots : y.spots ≤ 128 * y.blocks

-- a node is read: it keeps the rules and is read for the first time, or the walk is broken
pub record Entered (t map map' : List ℕ) (b level : ℕ) (asked : Asked) (q : Query) (path : Path) (y : Tally) (r : Option Tally) : Type 0 where
  pub ok : is_some r ≡ not (bit map b) && node_ok level asked (store_of t b)
  pub sized : length map' ≡ length map
  pub spots : IfSome r (λ s. s.spots ≡ y.spots + length (finds q (named_above t path) (store_of t b)))
  pub seen : OnSome r (map' ≡ set_bit map b)
  pub tallied : IfSome r (λ s. Tallied map' s)

-- a part is walked: every node read keeps the rules and is read for the first time, or the walk is broken
pub record Counted (t map map' : List ℕ) (l : ℕ) (q : Query) (path : Path) (p : Part) (y : Tally) (r : Option Tally) : Type 0 where
  pub ok : is_some r ≡ obeys l (store_of t) q p && unseen map (visits l (store_of t) q p)
  pub sized : length map' ≡ length map
  pub spots : IfSome r (λ s. s.spots ≡ y.spots + tally l (store_of t) q (named_above t path) p)
  pub seen : OnSome r (map' ≡ marked map (visits l (store_of t) q p))
  pub tallied : IfSome r (λ s. Tallied map' s)

-- the spots `found` are put among the first n of the output: r are there then, in place order, and the rest is as it was
pub record Collected (out out'' : List ℕ) (n : ℕ) (after : List Spot) (r : ℕ) : Type 0 where
  pub spots : spots_in out'' r ≡ after
  pub count : r ≡ length after
  pub rest : drop (12 * r) out'' ≡ drop (12 * r) out
  pub sized : length out'' ≡ length out
  pub order : Orderly after

-- the first n spots of a buffer are in place order, if so many fit
abbrev pub OrderedFront : List ℕ → ℕ → Type 0
OrderedFront out n = 12 * n ≤ length out → Orderly (spots_in out n)

-- r spots are found; if they fit, they are put among the first m of the output
pub record GatheredFront (out out'' : List ℕ) (m : ℕ) (found : List Spot) (r : ℕ) : Type 0 where
  pub count : r ≡ length found
  pub sized : length out'' ≡ length out
  pub front : 12 * (m + r) ≤ length out → Collected out out'' m (put_all found (spots_in out m)) (m + r)

-- the buffer of a walk: if the walk is whole and its spots fit, they are at the front
pub record HeldFront (out out'' : List ℕ) (after : List Spot) (y : Tally) (r : Option Tally) : Type 0 where
  pub sized : length out'' ≡ length out
  pub front : IfSome r (λ s. 12 * s.spots ≤ length out → Collected out out'' y.spots after s.spots)

-- what a walk is handed: a block of the table, a map of its blocks, the nodes above, and the walk so far
pub record Walkable (t map : List ℕ) (b level : ℕ) (asked : Asked) (path : Path) (y : Tally) : Type 0 where
  pub inside : b < blocks_of (length t)
  pub blocks : blocks_of (length t) ≤ 4096
  pub mapped : length map ≡ 512
  pub deep : path.n + level ≤ 6
  pub ancestors : Ancestors t path (ceiling asked)
  pub tallied : Tallied map y

-- a run of spots that rise may be merged into the first m spots of the output, if it fits
pub record Mergeable (t out : List ℕ) (at n : ℕ) (q : Query) (p : Path) (m : ℕ) : Type 0 where
  pub run : Ready t at 12 n
  pub path : ValidPath t p
  pub order : OrderedFront out m
  pub small : m + n < 2 ^ 64

-- a part whose walk is known to be whole, and an output with room for what it finds
pub record Collectable (t out : List ℕ) (b level : ℕ) (span : Span) (q : Query) (path : Path) (m : ℕ) : Type 0 where
  pub asked : Asked
  pub obeyed : obeys (suc level) (store_of t) q (part_of b asked span) ≡ true
  pub inside : b < blocks_of (length t)
  pub blocks : blocks_of (length t) ≤ 4096
  pub deep : path.n + level ≤ 6
  pub ancestors : Ancestors t path (ceiling asked)
  pub order : Orderly (spots_in out m)
  pub room : 12 * (m + tally (suc level) (store_of t) q (named_above t path) (part_of b asked span)) ≤ length out

-- a whole table is walked: there is an r where the walk is whole, which says how many blocks it reads and spots it finds, and the map marks what it reads.
-- "The number read is the count of ones"
pub record TableCounted (t : List ℕ) (q : Query) (map' : List ℕ) (r : Option Tally) : Type 0 where
  pub ok : is_some r ≡ not (is_broken (walk_table t q))
  pub sized : length map' ≡ 512
  pub spots : IfSome r (λ s. s.spots ≡ length (spots (walk_table t q)))
  pub blocks : IfSome r (λ s. s.blocks ≡ ones map')
  pub few : IfSome r (λ s. s.spots ≤ 524288)
  pub marks : OnSome r (map' ≡ read_map (blocks_read (walk_table t q)))

-- and if it is whole and its spots fit into the buffer, they are at the front, and the rest is as it was
pub record TableHeld (t : List ℕ) (q : Query) (out out'' : List ℕ) (r : Option Tally) : Type 0 where
  pub sized : length out'' ≡ length out
  pub front : IfSome r (λ s. 12 * s.spots ≤ length out → out'' ≡ spots_bytes (spots (walk_table t q)) ++ drop (12 * s.spots) out)
  pub spots : IfSome r (λ s. 12 * s.spots ≤ length out → spots_in out'' s.spots ≡ spots (walk_table t q))
