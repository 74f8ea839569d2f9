-- What the functions of Top are handed and hand back.
-- Assumes nothing.
use Rattle.std.specs.Prelude.{◌≡◌, Bool, true, false, cond, ◌⊎◌, ℕ, ◌+◌, ◌-◌, ◌*◌, ◌/◌, ◌%◌, ◌≤◌, ◌<◌, length, take, drop, get_or, set, replicate, eqb, ℤ, Option, None, IsSome, Result, Err}
use Rattle.std.specs.Option.{ForSome}
use Rattle.std.specs.Result.{ForOk}
use mathlib.Core.List.{List, [], ◌∷◌, ◌++◌, Memᴰ}
use Rattle.octets.specs.Bitmap.{bit, set_bit}
use Rattle.octets.specs.Lists.{has}
use Rattle.spot.specs.Keys.{all_keys}
use Rattle.spot.specs.Spots.{spots_bytes}
use Rattle.spot.specs.Query.{top_query}
use Rattle.spot.specs.declared.Spot.{Spot}
use Rattle.spot.specs.declared.Query.{Query}
use Rattle.block.specs.declared.Entry.{Entry}
use Rattle.block.specs.declared.Asked.{Asked}
use Rattle.block.specs.declared.Asked.TheVariants.{Child}
use Rattle.block.specs.Table.{table_sized, blocks_of}
use Rattle.block.specs.Node.{store_of}
use Rattle.block.specs.NodeRules.{node_ok, ValidBlock}
use Rattle.tree.specs.Walk.{broken}
use Rattle.tree.specs.Top.{top_walk}
use Rattle.tree.specs.ReadMap.{read_map}
use Rattle.tree.proofs.BestFirstTop.{Done}
use Rattle.tree.proofs.Sources.{Source, InTable}
use Rattle.within_theory.specs.Reading.{reading}
use Rattle.within_theory.proofs.Following.{Sure}
use Rattle.heap.specs.Heaps.{Heap}
use Rattle.frontier.specs.declared.Pick.{Pick}
use Rattle.frontier.specs.declared.KidPick.{KidPick}
use Rattle.frontier.specs.declared.Place.{Place}
use Rattle.frontier.specs.Frontier.{Slot, kid_count, kid_entry, slot_place, child_slot, block_by, slot_by, Chain, Hangs}
use Rattle.frontier.specs.Picks.{spot_count, found_in, Laddered, PickedUnder, KidBest}
use Rattle.top.specs.declared.Sizes.{Sizes}
use Rattle.top.specs.declared.Fresh.{Fresh}
use Rattle.top.specs.declared.Given.{Given}
use Rattle.top.specs.declared.TopTally.{TopTally}
use Rattle.top.specs.declared.Stop.{Stop}
use Rattle.top.specs.declared.Stop.TheVariants.{Broken, Short}
use Rattle.top.specs.Reading.{Underway}
use Rattle.top.specs.Rows.{pick_row, kid_row, first_key, first_value, lead_at, lead_slot, lead_more, head_by, cell_by, Hung, Lowered, Heads, Kids}

-- ---- a node is read

-- a node that keeps the rules, and room for its slot
pub record Joinable (t : List ℕ) (rows kids heads : List (List ℕ)) (z : Sizes) (p : Place) (up : ℕ) : Type 0 where
  pub few : z.slots < 4096
  pub row : z.slots < length rows
  pub kid_room : z.kids < length kids
  pub head_room : z.heads < length heads
  pub kid_heap : Heap z.kids kids
  pub head_heap : Heap z.heads heads
  pub near : p.block < 4096
  pub low : up < 65536
  pub valid : ValidBlock t p.block
  pub chain : Chain t (set rows z.slots (p.block ∷ up ∷ [])) (z.slots + 1)

-- the frontier with the node in the next slot
pub record Added (t : List ℕ) (q : Query) (rows rows' kids kids' heads heads' : List (List ℕ)) (z z' : Sizes) (p : Place) (up : ℕ) : Type 0 where
  pub slots : z'.slots ≡ z.slots + 1
  pub rowed : rows' ≡ set rows z.slots (p.block ∷ up ∷ [])
  pub pick : Option Pick
  pub picked : PickedUnder t (slot_by t rows' z.slots).block q all_keys (found_in t q (slot_by t rows' z.slots)) pick
  pub headed : Hung heads z.heads (pick_row z.slots pick) heads' z'.heads
  pub kid : Option KidPick
  pub best : KidBest t p.block p.span q 18446744073709551615 kid
  pub hung : Hung kids z.kids (kid_row z.slots kid) kids' z'.kids

-- a node to be read
pub record Readable (t seen : List ℕ) (rows kids heads : List (List ℕ)) (z : Sizes) (p : Place) (a : Asked) (up : ℕ) : Type 0 where
  pub inside : p.block * 2048 + 2048 ≤ length t
  pub near : p.block < 4096
  pub mapped : length seen ≡ 512
  pub joins : node_ok p.level a (store_of t p.block) ≡ true → Joinable t rows kids heads z p up

-- it is read, or it was before, or it breaks a rule
pub record NodeRead (t : List ℕ) (q : Query) (seen seen' : List ℕ) (rows rows' kids kids' heads heads' : List (List ℕ)) (z : Sizes) (p : Place) (a : Asked) (up : ℕ) (r : Option Sizes) : Type 0 where
  pub broken : r ≡ None → (bit seen p.block ≡ true) ⊎ (node_ok p.level a (store_of t p.block) ≡ false)
  pub new : IsSome r → bit seen p.block ≡ false
  pub valid : IsSome r → node_ok p.level a (store_of t p.block) ≡ true
  pub marked : IsSome r → seen' ≡ set_bit seen p.block
  pub added : ForSome r (λ z'. Added t q rows rows' kids kids' heads heads' z z' p up)

-- ---- a child is taken

-- the slot whose child has the highest key, and the child's slot
abbrev pub top_parent : List ℕ → List (List ℕ) → List (List ℕ) → Slot
top_parent t rows kids = slot_by t rows (first_value kids / 8)

abbrev pub top_slot : List ℕ → List (List ℕ) → List (List ℕ) → Slot
top_slot t rows kids = child_slot t (top_parent t rows kids) (first_value kids % 8)

abbrev pub top_entry : List ℕ → List (List ℕ) → List (List ℕ) → Entry
top_entry t rows kids = kid_entry t (top_parent t rows kids).block (first_value kids % 8)

-- the first row is that of a slot's child
pub record Takable (t : List ℕ) (rows kids : List (List ℕ)) (m : ℕ) : Type 0 where
  pub some : 0 < m
  pub room : m ≤ length kids
  pub heap : Heap m kids
  pub key : 0 < first_key kids
  pub near : first_value kids < 32768
  pub hangs : Hangs t rows (first_value kids / 8)
  pub below : first_value kids % 8 < kid_count t (top_parent t rows kids).block
  pub level : 1 ≤ (top_parent t rows kids).level

-- it is taken, and the next of its parent's comes in
pub record KidTaken (t : List ℕ) (q : Query) (rows kids kids' : List (List ℕ)) (m : ℕ) (r : Fresh) : Type 0 where
  pub place : r.place ≡ slot_place (top_slot t rows kids)
  pub entry : r.entry ≡ top_entry t rows kids
  pub up : r.up ≡ first_value kids
  pub next : Option KidPick
  pub best : KidBest t (top_parent t rows kids).block (top_parent t rows kids).span q (first_key kids - 1) next
  pub lowered : Lowered kids m (kid_row (first_value kids / 8) next) kids' r.kids

-- the sizes with other numbers of children, or of spots
abbrev pub with_kids : Sizes → ℕ → Sizes
with_kids z m = record { slots = z.slots; kids = m; heads = z.heads }

abbrev pub with_heads : Sizes → ℕ → Sizes
with_heads z m = record { slots = z.slots; kids = z.kids; heads = m }

-- the child of the first row can be read
pub record NextKid (t : List ℕ) (q : Query) (seen : List ℕ) (rows kids heads : List (List ℕ)) (z : Sizes) : Type 0 where
  pub takes : Takable t rows kids z.kids
  pub reads : (kids' : List (List ℕ)) (f : Fresh) → KidTaken t q rows kids kids' z.kids f → length kids' ≡ length kids
      → Readable t seen rows kids' heads (with_kids z f.kids) f.place (Child f.entry) f.up

-- the first of m rows has this key
abbrev pub leads_with : List (List ℕ) → ℕ → ℕ → Bool
leads_with kids m key = cond (eqb m 0) false (eqb (first_key kids) key)

-- it is read, or another has its key
pub record KidRead (t : List ℕ) (q : Query) (seen seen' : List ℕ) (rows rows' kids kids' heads heads' : List (List ℕ)) (z : Sizes) (r : Option Sizes) : Type 0 where
  pub fresh : Fresh
  pub via : List (List ℕ)
  pub long : length via ≡ length kids
  pub taken : KidTaken t q rows kids via z.kids fresh
  pub tied : leads_with via fresh.kids (first_key kids) ≡ true → r ≡ None
  pub read : leads_with via fresh.kids (first_key kids) ≡ false
      → NodeRead t q seen seen' rows rows' via kids' heads heads' (with_kids z fresh.kids) fresh.place (Child fresh.entry) fresh.up r

-- ---- spots are given

-- the first spots given, as many as there is room for, and what lies behind them
abbrev pub written : ℕ → List Spot → List ℕ → List ℕ
written room given base = spots_bytes (take room given) ++ drop (12 * length (take room given)) base

-- the first row is that of a slot's spot
pub record LeadRow (t : List ℕ) (rows heads : List (List ℕ)) : Type 0 where
  pub some : 0 < length heads
  pub slot : lead_slot heads < length rows
  pub valid : ValidBlock t (block_by rows (lead_slot heads))
  pub index : lead_at heads < spot_count t (block_by rows (lead_slot heads))

pub record Movable (t : List ℕ) (q : Query) (rows heads : List (List ℕ)) (m : ℕ) : Type 0 where
  pub some : 0 < m
  pub room : m ≤ length heads
  pub heap : Heap m heads
  pub hangs : Hangs t rows (lead_slot heads)
  pub more : Laddered t (slot_by t rows (lead_slot heads)).block q (first_key heads) (lead_more heads)

-- the next spot of its slot, the best under its top key, takes its place
pub record MovedOn (t : List ℕ) (q : Query) (rows heads heads' : List (List ℕ)) (m r : ℕ) : Type 0 where
  pub next : Option Pick
  pub under : PickedUnder t (slot_by t rows (lead_slot heads)).block q (first_key heads) (found_in t q (slot_by t rows (lead_slot heads))) next
  pub lowered : Lowered heads m (pick_row (lead_slot heads) next) heads' r

-- Top on its way, with these spots given and written, of which there are `count`
pub record Sofar (t : List ℕ) (q : Query) (k room : ℕ) (rows heads : List (List ℕ)) (m n : ℕ) (cell : ℕ → ℕ) (base out blocks : List ℕ) (count : ℕ) : Type 0 where
  pub pick : ℕ → Option Pick
  pub headed : Heads t q rows heads m n pick
  pub given : List Spot
  pub going : (x1 x2 : ℤ) → q ≡ top_query x1 x2 0 → Underway t x1 x2 k (slot_by t rows) (head_by t rows pick) cell n given blocks
  pub counted : count ≡ length given
  pub output : out ≡ written room given base
  pub fits : 12 * room ≤ length base

-- from one such state to another
pub record Passes (t : List ℕ) (q : Query) (k room : ℕ) (rows heads heads' : List (List ℕ)) (m m' floor : ℕ) (out out' : List ℕ) (count count' : ℕ) : Type 0 where
  pub on : (n : ℕ) (cell : ℕ → ℕ) (base blocks : List ℕ) → n ≤ 4096 → Chain t rows n → ((c : ℕ) → c < 8 * n → cell c ≤ floor)
      → Sofar t q k room rows heads m n cell base out blocks count → Sofar t q k room rows heads' m' n cell base out' blocks count'

-- some state to give from
pub record Givable (t : List ℕ) (q : Query) (k room : ℕ) (rows heads : List (List ℕ)) (m floor : ℕ) (out : List ℕ) (count : ℕ) : Type 0 where
  pub n : ℕ
  pub cell : ℕ → ℕ
  pub base : List ℕ
  pub blocks : List ℕ
  pub few : n ≤ 4096
  pub chain : Chain t rows n
  pub low : (c : ℕ) → c < 8 * n → cell c ≤ floor
  pub sofar : Sofar t q k room rows heads m n cell base out blocks count
  pub fits : 12 * room ≤ length out

-- the spots above the floor are given, or k
pub record Gave (t : List ℕ) (q : Query) (k room : ℕ) (rows heads heads' : List (List ℕ)) (m floor : ℕ) (out out' : List ℕ) (count : ℕ) (r : Given) : Type 0 where
  pub passes : Passes t q k room rows heads heads' m r.heads floor out out' count r.spots
  pub ends : (k ≤ r.spots) ⊎ ((r.heads ≡ 0) ⊎ (first_key heads' / 4294967296 < floor))

-- ---- the whole of it

-- the map has just the bits of these blocks
pub record Seen (seen blocks : List ℕ) : Type 0 where
  pub sized : length seen ≡ 512
  pub bytes : (i : ℕ) → get_or seen i 0 < 256
  pub bits : (b : ℕ) → bit seen b ≡ has b blocks

-- Top on its way, with the map of the blocks read
pub record Swept (t : List ℕ) (q : Query) (k room : ℕ) (base seen out : List ℕ) (rows kids heads : List (List ℕ)) (z : Sizes) (count : ℕ) : Type 0 where
  pub some : 1 ≤ z.slots
  pub chain : Chain t rows z.slots
  pub kid : ℕ → Option KidPick
  pub known : Kids t q rows kids z.kids z.slots kid
  pub blocks : List ℕ
  pub sofar : Sofar t q k room rows heads z.heads z.slots (cell_by t q rows kid) base out blocks count
  pub seen_is : Seen seen blocks

-- the root is read
pub record Sweepable (t : List ℕ) (q : Query) (seen out : List ℕ) (rows kids heads : List (List ℕ)) (z : Sizes) (k most room : ℕ) : Type 0 where
  pub x1 : ℤ
  pub x2 : ℤ
  pub asks : q ≡ top_query x1 x2 0
  pub fits : 12 * room ≤ length out
  pub few : length rows ≤ 4096
  pub kid_rows : length kids ≡ length rows
  pub head_rows : length heads ≡ length rows
  pub allowed : z.slots ≤ most
  pub begun : Swept t q k room out seen out rows kids heads z 0

pub record Searchable (t : List ℕ) (q : Query) (seen out : List ℕ) (rows kids heads : List (List ℕ)) (k most room : ℕ) : Type 0 where
  pub x1 : ℤ
  pub x2 : ℤ
  pub asks : q ≡ top_query x1 x2 0
  pub sized : table_sized (length t) ≡ true
  pub clear : seen ≡ replicate 512 0
  pub some : 0 < k
  pub allowed : 0 < most
  pub fits : 12 * room ≤ length out
  pub slots : 1 ≤ length rows
  pub few : length rows ≤ 4096
  pub kid_rows : length kids ≡ length rows
  pub head_rows : length heads ≡ length rows

-- a search is at its end that may read `most` blocks: what it gives, reads and says of the rest is the definition's; with an allowance that no table reaches, it is Top's
pub record Halted (t : List ℕ) (x1 x2 : ℤ) (k most room : ℕ) (base seen' out' : List ℕ) (spots ceiling : ℕ) : Type 0 where
  pub given : List Spot
  pub blocks : List ℕ
  pub sure : Sure t x1 x2 k most given blocks ceiling
  pub done : 4096 ≤ most → Done t x1 x2 k given blocks
  pub from : (s : Spot) → Memᴰ s given → Source (store_of t) (top_query x1 x2 0) blocks s
  pub places : (b : ℕ) → Memᴰ b blocks → InTable t b
  pub counted : spots ≡ length given
  pub few : spots ≤ k
  pub output : out' ≡ written room given base
  pub map : seen' ≡ read_map blocks
  pub low : ceiling < 4294967296

-- a rule is broken, for a Top and for one that may read `most` blocks
pub record Stuck (t : List ℕ) (x1 x2 : ℤ) (k most : ℕ) : Type 0 where
  pub top : top_walk t x1 x2 k ≡ broken
  pub within : (reading t x1 x2 k most).whole ≡ false

-- the search of a table with `cap` slots: it is short only where they are fewer than a table may need
pub record Searched (t : List ℕ) (q : Query) (k most room cap : ℕ) (out seen' out' : List ℕ) (r : Result TopTally Stop) : Type 0 where
  pub short : r ≡ Err Short → cap ≤ 4095
  pub fails : (x1 x2 : ℤ) → q ≡ top_query x1 x2 0 → r ≡ Err Broken → Stuck t x1 x2 k most
  pub ends : (x1 x2 : ℤ) → q ≡ top_query x1 x2 0 → ForOk r (λ s. Halted t x1 x2 k most room out seen' out' s.spots s.ceiling)
  pub behind : drop (12 * room) out' ≡ drop (12 * room) out

pub record Runnable (t : List ℕ) (q : Query) (seen out : List ℕ) (k room : ℕ) : Type 0 where
  pub x1 : ℤ
  pub x2 : ℤ
  pub asks : q ≡ top_query x1 x2 0
  pub sized : table_sized (length t) ≡ true
  pub clear : seen ≡ replicate 512 0
  pub some : 0 < k
  pub fits : 12 * room ≤ length out

-- a search with slots enough: it is stuck, or at its end
pub record WideRun (t : List ℕ) (q : Query) (k most room : ℕ) (out seen' out' : List ℕ) (r : Option TopTally) : Type 0 where
  pub fails : (x1 x2 : ℤ) → q ≡ top_query x1 x2 0 → r ≡ None → Stuck t x1 x2 k most
  pub ends : (x1 x2 : ℤ) → q ≡ top_query x1 x2 0 → ForSome r (λ s. Halted t x1 x2 k most room out seen' out' s.spots s.ceiling)

-- at its end, with any bytes between the spots written and the end of the room; behind it nothing has changed
pub record HaltedOn (t : List ℕ) (x1 x2 : ℤ) (k most room : ℕ) (out seen' out' : List ℕ) (spots ceiling : ℕ) : Type 0 where
  pub base : List ℕ
  pub long : length base ≡ length out
  pub behind : drop (12 * room) base ≡ drop (12 * room) out
  pub halted : Halted t x1 x2 k most room base seen' out' spots ceiling

-- the same as a WideRun but for those bytes
pub record WithinFront (t : List ℕ) (q : Query) (k most room : ℕ) (out seen' out' : List ℕ) (r : Option TopTally) : Type 0 where
  pub fails : (x1 x2 : ℤ) → q ≡ top_query x1 x2 0 → r ≡ None → Stuck t x1 x2 k most
  pub ends : (x1 x2 : ℤ) → q ≡ top_query x1 x2 0 → ForSome r (λ s. HaltedOn t x1 x2 k most room out seen' out' s.spots s.ceiling)

-- ---- Top

-- Top is at its end: what it gives and what it reads are the definition's
pub record Ended (t : List ℕ) (x1 x2 : ℤ) (k room : ℕ) (base seen' out' : List ℕ) (spots : ℕ) : Type 0 where
  pub given : List Spot
  pub blocks : List ℕ
  pub done : Done t x1 x2 k given blocks
  pub places : (b : ℕ) → Memᴰ b blocks → b < blocks_of (length t)
  pub counted : spots ≡ length given
  pub few : spots ≤ k
  pub output : out' ≡ written room given base
  pub map : seen' ≡ read_map blocks

-- Top is at its end, with any bytes between the spots written and the end of the room; behind it nothing has changed
pub record Based (t : List ℕ) (x1 x2 : ℤ) (k room : ℕ) (out seen' out' : List ℕ) (spots : ℕ) : Type 0 where
  pub base : List ℕ
  pub long : length base ≡ length out
  pub behind : drop (12 * room) base ≡ drop (12 * room) out
  pub ended : Ended t x1 x2 k room base seen' out' spots

-- a rule is broken where the definition's walk is, else what is given, written and read is the definition's
pub record TopFront (t : List ℕ) (q : Query) (k room : ℕ) (out seen' out' : List ℕ) (r : Option TopTally) : Type 0 where
  pub fails : (x1 x2 : ℤ) → q ≡ top_query x1 x2 0 → r ≡ None → top_walk t x1 x2 k ≡ broken
  pub ends : (x1 x2 : ℤ) → q ≡ top_query x1 x2 0 → ForSome r (λ s. Based t x1 x2 k room out seen' out' s.spots)
