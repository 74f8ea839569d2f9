-- Request 2026-10: what a Top that is allowed so many node blocks reads, in which order, what it gives, and the ceiling of the rest. On every table, sound or not.
-- Assumes nothing.
use Rattle.std.specs.Prelude.{ℕ, zero, suc, ◌-◌, max, Bool, false, cond, not, ◌&&◌, ◌||◌, List, [], ◌∷◌, ◌++◌, length, take, drop, leb, ltb, eqb, ℤ}
use Rattle.octets.specs.Lists.{every, keep, has, is_empty, distinct}
use Rattle.spot.specs.Keys.{unbiased, rank_of}
use Rattle.spot.specs.Spots.{keys, by_top}
use Rattle.spot.specs.Query.{top_query}
use Rattle.spot.specs.declared.Spot.{Spot}
use Rattle.spot.specs.declared.Query.{Query}
use Rattle.block.specs.declared.Asked.{Asked}
use Rattle.block.specs.declared.Asked.TheVariants.{Root, Child}
use Rattle.block.specs.Header.{head_of}
use Rattle.block.specs.HeaderRules.{header_ok}
use Rattle.block.specs.Node.{Store, store_of}
use Rattle.block.specs.NodeRules.{node_ok}
use Rattle.tree.specs.Part.{Part, whole}
use Rattle.tree.specs.Walk.{Walk, broken, walked}
use Rattle.tree.specs.BestFirst.{Pending, promised, opened, shown}

-- ---- the reading order

-- "the highest rank (the lower block number on a tie)": p is read before r. Ranks alone are compared, then block numbers.
unfoldable pub read_before : Pending → Pending → Bool
read_before p r = cond (eqb (promised p) (promised r)) (leb p.part.block r.part.block) (ltb (promised r) (promised p))

-- a part put among others that stand in the order in which they are read
abbrev pub line_up : Pending → List Pending → List Pending
line_up p [] = p ∷ []
line_up p (r ∷ rs) = cond (read_before p r) (p ∷ r ∷ rs) (r ∷ line_up p rs)

abbrev pub line_up_all : List Pending → List Pending → List Pending
line_up_all [] rs = rs
line_up_all (p ∷ ps) rs = line_up p (line_up_all ps rs)

-- p, the first in line, and the next show one rank and one block: two entries lead there
abbrev pub ties : Pending → List Pending → Bool
ties p [] = false
ties p (r ∷ rs) = eqb (promised p) (promised r) && eqb p.part.block r.part.block

-- what was read so far: whether all of it keeps the rules, the parts known of and not read, in the order in which they are read ("such a child": with spots and in
-- range), the spots found in range that no node above names, and the blocks read, the last first
pub record Reading : Type 0 where
  pub whole : Bool
  pub unread : List Pending
  pub found : List Spot
  pub blocks : List ℕ

-- the node keeps the rules that it and its entry can show
abbrev pub obeys_at : ℕ → Store → Part → Bool
obeys_at zero m p = false
obeys_at (suc l) m p = node_ok l p.asked (m p.block)

-- p can be read, where ps are next in line: rule 1, "each reached once", is broken by a block that was read before, and by two entries that lead to one block
unfoldable pub readable : Store → Pending → List Pending → List ℕ → Bool
readable m p ps blocks = obeys_at p.levels m p.part && (not (has p.part.block blocks) && not (ties p ps))

-- the first in line is read: its spots are found, and its children with spots and in range become known. Where it can't be read, a rule is broken.
abbrev pub read_first : Store → Query → List Pending → Reading → Reading
read_first m q [] s = s
read_first m q (p ∷ ps) s =
    cond (readable m p ps s.blocks)
    (record { whole = s.whole; unread = line_up_all (opened m q (p.levels - 1) p) ps; found = shown m q p ++ s.found; blocks = p.part.block ∷ s.blocks })
    (record { whole = false; unread = p ∷ ps; found = s.found; blocks = s.blocks })

-- ---- what is given

-- "whose rank is above every such child's": strictly above what its entry shows; the root may hold any rank
unfoldable pub above_all : List Pending → Spot → Bool
above_all us s = every (λ u. ltb (promised u) (rank_of s.key)) us

-- in Top's order
unfoldable pub certain : Reading → List Spot
certain s = by_top (keep (above_all s.unread) s.found)

-- "It gives, in Top's order and up to k, the live spots found in range whose rank is above every such child's"
unfoldable pub given_of : ℕ → Reading → List Spot
given_of k s = take k (certain s)

-- found and not given: those that k cuts off, and those not above every such child
unfoldable pub held_back : ℕ → Reading → List Spot
held_back k s = drop k (certain s) ++ keep (λ x. not (above_all s.unread x)) s.found

-- ---- when it stops

-- "It stops when the allowance is used, k spots are given or no such child is left": all but the allowance
unfoldable pub stopped : ℕ → Reading → Bool
stopped k s = not s.whole || (is_empty s.unread || leb k (length (certain s)))

-- block 0 is read; "It reads the root" next
unfoldable pub begun : List ℕ → Reading
begun t =
    record {
      whole = header_ok (length t) (head_of t);
      unread = record { levels = (head_of t).levels; named = []; part = whole (head_of t) } ∷ [];
      found = [];
      blocks = [];
    }

-- with so many node blocks allowed: "It reads the root, then always the unread child with spots, in range, whose entry shows the highest rank". The root counts,
-- block 0 doesn't.
unfoldable pub reading : List ℕ → ℤ → ℤ → ℕ → ℕ → Reading
reading t x1 x2 k zero = begun t
reading t x1 x2 k (suc a) =
    let s = reading t x1 x2 k a in
    cond (stopped k s) s (read_first (store_of t) (top_query x1 x2 0) s.unread s)

-- ---- the ceiling

-- the greatest of some numbers, one for each element, or 0
abbrev pub greatest : {A : Type 0} → (A → ℕ) → List A → ℕ
greatest f [] = 0
greatest f (x ∷ xs) = max (f x) (greatest f xs)

-- the rank that the entry of a part shows, biased; nothing is shown of the root, which may hold the highest: "With allowance or k 0 it .. gives .. ceiling 2147483647"
abbrev pub shows_rank : Asked → ℕ
shows_rank (Root b) = 4294967295
shows_rank (Child e) = rank_of e.top

-- "The ceiling is the highest rank of such a child's entry or of a live spot found in range and not given, else the least 32-bit rank": biased, so that the least is 0
unfoldable pub ceiling_of : ℕ → Reading → ℕ
ceiling_of k s = max (greatest (λ u. shows_rank u.part.asked) s.unread) (greatest (λ x. rank_of x.key) (held_back k s))

-- ---- the call

-- what it reads and gives, as a walk
unfoldable pub within_table : List ℕ → ℤ → ℤ → ℕ → ℕ → Walk
within_table t x1 x2 k a =
    let s = reading t x1 x2 k a in
    cond s.whole (walked (given_of k s) s.blocks) broken

unfoldable pub ceiling_within : List ℕ → ℤ → ℤ → ℕ → ℕ → ℤ
ceiling_within t x1 x2 k a = unbiased (ceiling_of k (reading t x1 x2 k a))

-- no identity is found twice, as on every sound table
unfoldable pub found_once : List ℕ → ℤ → ℤ → ℕ → ℕ → Bool
found_once t x1 x2 k a = distinct (keys (reading t x1 x2 k a).found)

-- what Top reads under this rule: as many node blocks as it takes where nothing is asked of their number. A table has no more than 4,095.
unfoldable pub reads_in_all : List ℕ → ℤ → ℤ → ℕ → ℕ
reads_in_all t x1 x2 k = length (reading t x1 x2 k 4095).blocks
