-- What a node block, and the entry that leads to it, can show of the rules in "When a table is sound". Each rule is a test with a name; `node_ok` is all of them.
-- Assumes nothing.
use Rattle.std.specs.Prelude.{◌≡◌, ℕ, ◌+◌, ◌*◌, ◌≤◌, Bool, true, cond, ◌&&◌, ◌||◌, List, [], ◌∷◌, ◌++◌, map, length, ltb, leb, eqb}
use Rattle.octets.specs.Lists.{all, every, has, is_empty, rest, rising, distinct}
use Rattle.spot.specs.Keys.{rank_key, limited}
use Rattle.spot.specs.Spots.{keys}
use Rattle.block.specs.declared.Entry.{Entry}
use Rattle.block.specs.declared.Asked.{Asked}
use Rattle.block.specs.declared.Asked.TheVariants.{Root, Child}
use Rattle.block.specs.Table.{block_ok}
use Rattle.block.specs.Node.{Node, node_of, store_of}

-- the keys that a node names
unfoldable pub names : Node → List ℕ
names n = keys n.points ++ keys n.inserts ++ n.deletes

-- rule 2: "A leaf has no children; an inner node has 4 to 8, the root if inner 2 to 8"
unfoldable pub fewest : Asked → ℕ
fewest (Root b) = 2
fewest (Child e) = 4

unfoldable pub child_count_ok : Asked → Node → Bool
child_count_ok a n =
    cond (eqb n.level 0) (is_empty n.entries) (all (leb (fewest a) (length n.entries) ∷ leb (length n.entries) 8 ∷ []))

-- rule 1, as far as it shows: a child stands in a block of the table
unfoldable pub child_blocks_ok : Node → Bool
child_blocks_ok n = every (λ e. block_ok n.room e.block) n.entries

-- rule 3: "P, I and D rise in place order"
unfoldable pub buffers_rise : Node → Bool
buffers_rise n = all (rising (keys n.points) ∷ rising (keys n.inserts) ∷ rising n.deletes ∷ [])

-- rule 3: "no identity occurs twice in one node"
unfoldable pub named_once : Node → Bool
named_once n = distinct (names n)

abbrev pub lows : List Entry → List ℕ
lows [] = []
lows (e ∷ es) = e.low ∷ lows es

-- "In the first child's entry the range field is zero and unused": a view of a block gives 0 there, so this says nothing of a table; updates need it of a
-- node in memory
abbrev pub zero_first : List ℕ → Bool
zero_first [] = true
zero_first (x ∷ xs) = eqb x 0

-- rule 3: "From the second entry on, the lowest identities rise strictly"
unfoldable pub lows_rise : Node → Bool
lows_rise n = all (zero_first (lows n.entries) ∷ rising (rest (lows n.entries)) ∷ [])

-- the tops of the children whose P isn't empty
abbrev pub tops : List Entry → List ℕ
tops [] = []
tops (e ∷ es) = cond (eqb e.size 0) (tops es) (e.top ∷ tops es)

-- rule 4, as far as it shows: "In rank order P lies above every identity in its own I and D", and above the highest of each child's P
unfoldable pub points_above : Node → Bool
points_above n =
    every (λ p. every (λ k. ltb (rank_key k) (rank_key p)) (keys n.inserts ++ n.deletes ++ tops n.entries)) (keys n.points)

-- rule 5: "P is 32 to 64, I at most 64 and D at most 16"
unfoldable pub filled : Node → Bool
filled n = all (leb 32 (length n.points) ∷ leb (length n.points) 64 ∷ leb (length n.inserts) 64 ∷ leb (length n.deletes) 16 ∷ [])

-- rule 5, as far as it shows: "P is under 32, its I and D are empty and all P, I and D below it are empty"
unfoldable pub lowest : Node → Bool
lowest n = all (ltb (length n.points) 32 ∷ is_empty n.inserts ∷ is_empty n.deletes ∷ every (λ e. eqb e.size 0) n.entries ∷ [])

-- rule 5: "A leaf's I and D are empty"
unfoldable pub leaf_buffers_empty : Node → Bool
leaf_buffers_empty n = cond (eqb n.level 0) (all (is_empty n.inserts ∷ is_empty n.deletes ∷ [])) true

unfoldable pub rank_keys : Node → List ℕ
rank_keys n = map rank_key (keys n.points)

-- t is the highest, or the lowest, of some keys in rank order
abbrev pub is_highest : ℕ → List ℕ → Bool
is_highest t ks = all (has t ks ∷ every (λ k. leb (rank_key k) (rank_key t)) ks ∷ [])

abbrev pub is_lowest : ℕ → List ℕ → Bool
is_lowest t ks = all (has t ks ∷ every (λ k. leb (rank_key t) (rank_key k)) ks ∷ [])

-- rule 6: "Entries agree with their children": the size of P, and the highest and the lowest of it in rank order
unfoldable pub agrees : Asked → Node → Bool
agrees (Root b) n = true
agrees (Child e) n =
    all (
    eqb e.size (length n.points) ∷
    (is_empty n.points || is_highest e.top (keys n.points)) ∷
    (is_empty n.points || is_lowest e.bottom (keys n.points)) ∷
    [])

-- rule 3, as far as the entry shows: "from its entry's lowest identity"
unfoldable pub not_below : Asked → Node → Bool
not_below (Root b) n = true
not_below (Child e) n = every (λ k. leb e.low k) (names n)

-- where the range of a node begins, as its entry says; the root's begins at 0
abbrev pub low_of : Asked → ℕ
low_of (Root b) = 0
low_of (Child e) = e.low

-- rule 3, as far as the entry shows: the lowest identities "lie in the parent's range"
unfoldable pub lows_not_below : Asked → Node → Bool
lows_not_below a n = every (λ k. leb (low_of a) k) (rest (lows n.entries))

-- the block that a node stands in, as what leads there names it
unfoldable pub stands_in : Asked → ℕ
stands_in (Root b) = b
stands_in (Child e) = e.block

abbrev pub child_blocks : List Entry → List ℕ
child_blocks [] = []
child_blocks (e ∷ es) = e.block ∷ child_blocks es

-- rule 1, as far as it shows: "each reached once". No two entries name one block, and none names the node's own.
unfoldable pub children_apart : Asked → Node → Bool
children_apart a n = distinct (stands_in a ∷ child_blocks n.entries)

-- rule 3: "up to, and without, the next entry's"; where the last child's range ends, the block does not show
abbrev pub before_next : List Entry → ℕ → Bool
before_next [] k = true
before_next (e ∷ es) k = ltb k e.low

-- rule 3, as far as it shows: k lies in the range of the child that the entry e leads to; es are the entries after it, and the node's range begins at from
unfoldable pub in_child : ℕ → Entry → List Entry → ℕ → Bool
in_child from e es k = all (leb from k ∷ leb e.low k ∷ before_next es k ∷ [])

-- rules 3, 5 and 6, as far as an entry shows them: there is a P that agrees with it. It has at most 64 spots; the highest and the lowest of one spot are the
-- same identity, of more the highest lies above the lowest; and both lie in the child's range.
unfoldable pub entry_credible : ℕ → Entry → List Entry → Bool
entry_credible from e es =
    eqb e.size 0 || all (
    leb e.size 64 ∷
    cond (eqb e.size 1) (eqb e.top e.bottom) (ltb (rank_key e.bottom) (rank_key e.top)) ∷
    in_child from e es e.top ∷
    in_child from e es e.bottom ∷
    [])

abbrev pub all_credible : ℕ → List Entry → Bool
all_credible from [] = true
all_credible from (e ∷ es) = entry_credible from e es && all_credible from es

unfoldable pub entries_credible : Asked → Node → Bool
entries_credible a n = all_credible (low_of a) n.entries

-- the highest and the lowest of each child's P that isn't empty, as the entries show them
abbrev pub extremes : List Entry → List ℕ
extremes [] = []
extremes (e ∷ es) = cond (eqb e.size 0) (extremes es) (e.top ∷ e.bottom ∷ extremes es)

-- the keys that a node stores: those that it names, the lows from the second entry on and what the entries show of a P that isn't empty. The other fields are
-- unused.
abbrev pub stored_keys : Node → List ℕ
stored_keys n = names n ++ rest (lows n.entries) ++ extremes n.entries

-- request 2026-07: "A stored place outside counts as a broken rule under 3"
unfoldable pub inside_limits : Node → Bool
inside_limits n = every limited (stored_keys n)

-- all that a node block, read at this level (rule 2), and the entry leading to it can show
unfoldable pub node_ok : ℕ → Asked → Node → Bool
node_ok level a n =
    all (
    n.laid ∷
    eqb n.level level ∷
    child_count_ok a n ∷
    buffers_rise n ∷
    named_once n ∷
    lows_rise n ∷
    points_above n ∷
    (filled n || lowest n) ∷
    leaf_buffers_empty n ∷
    agrees a n ∷
    not_below a n ∷
    child_blocks_ok n ∷
    lows_not_below a n ∷
    children_apart a n ∷
    entries_credible a n ∷
    inside_limits n ∷
    [])

-- a block of a table in which a node stands that keeps the rules of some level
pub record ValidBlock (t : List ℕ) (b : ℕ) : Type 0 where
  pub level : ℕ
  pub asked : Asked
  pub ok : node_ok level asked (store_of t b) ≡ true
  pub inside : b * 2048 + 2048 ≤ length t

-- the bytes of such a block, in a table of `room` blocks
pub record ValidBytes (s : List ℕ) : Type 0 where
  pub room : ℕ
  pub level : ℕ
  pub asked : Asked
  pub ok : node_ok level asked (node_of room s) ≡ true
  pub sized : length s ≡ 2048
