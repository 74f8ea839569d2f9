-- What is known of a node and of the nodes above it while a walk reads it.
-- Assumes nothing.
use Rattle.std.specs.Prelude.{◌≡◌, ◌⊎◌, ℕ, suc, ◌+◌, ◌*◌, ◌≤◌, ◌<◌, Bool, true, false, cond, not, ◌&&◌, ◌||◌, length, take, drop, get_or, ltb, IfSome, Option, Some, unwrap_or}
use mathlib.Core.List.{List, [], ◌∷◌, ◌++◌, Memᴰ}
use Rattle.octets.specs.Lists.{has, keep, records, rising}
use Rattle.octets.specs.Bytes.{be}
use Rattle.spot.specs.Keys.{rank_key, all_keys}
use Rattle.spot.specs.Spots.{keys, key_at, spot_at, limited_from}
pub use Rattle.spot.specs.Spots.{keys_from}
use Rattle.spot.specs.Query.{wants_key}
use Rattle.spot.specs.declared.Spot.{Spot}
use Rattle.spot.specs.declared.Query.{Query}
use Rattle.block.specs.declared.Entry.{Entry}
use Rattle.block.specs.declared.Asked.{Asked}
use Rattle.block.specs.declared.Asked.TheVariants.{Root, Child}
use Rattle.block.specs.Node.{Node, Store, store_of, entry_at, first_open}
use Rattle.block.specs.NodeRules.{ValidBlock}
use Rattle.tree.specs.Part.{Part}
use Rattle.tree.specs.Walk.{takes, takes_key}
use Rattle.tree.specs.Trace.{named_by}
use Rattle.visit.specs.declared.Span.{Span}
use Rattle.visit.specs.declared.Path.{Path}

-- where a span ends: a key, or past every key
abbrev pub end_of : Span → ℕ
end_of s = unwrap_or s.hi all_keys

-- the part of the tree at a block
abbrev pub part_of : ℕ → Asked → Span → Part
part_of b a s = record { block = b; asked = a; lo = s.lo; hi = end_of s }

-- the blocks of the nodes above, from the root on
abbrev pub above : Path → List ℕ
above p = take p.n p.blocks

-- the keys that those nodes name
abbrev pub named_above : List ℕ → Path → List ℕ
named_above t p = named_by (store_of t) (above p)

-- the keys of the changes that wait in a node
abbrev pub waiting : Node → List ℕ
waiting n = keys n.inserts ++ n.deletes

-- the changes that wait in the nodes above
abbrev pub waiting_by : Store → List ℕ → List ℕ
waiting_by m [] = []
waiting_by m (b ∷ bs) = waiting (m b) ++ waiting_by m bs

abbrev pub waiting_above : List ℕ → Path → List ℕ
waiting_above t p = waiting_by (store_of t) (above p)

-- what a node's rank keys don't exceed
abbrev pub ceiling : Asked → ℕ
ceiling (Root b) = all_keys
ceiling (Child e) = rank_key e.top

-- the nodes above keep the rules
pub record ValidPath (t : List ℕ) (p : Path) : Type 0 where
  pub few : p.n ≤ 7
  pub valid : (b : ℕ) → Memᴰ b (above p) → ValidBlock t b

-- the first p .waits keys of a list are those that wait in the nodes above, as far as they lie from p.lo to p.last
pub record WaitsGathered (t : List ℕ) (p : Path) (list : List ℕ) : Type 0 where
  pub few : p.waits ≤ length list
  pub same : (k : ℕ) → p.lo ≤ k → k ≤ p.last → has k (take p.waits list) ≡ has k (waiting_above t p)

-- behind the first c keys of a list those of ks from lo to last are kept: there are r then, or too many for the list
pub record KeysKept (ks : List ℕ) (lo last c : ℕ) (list list' : List ℕ) (r : Option ℕ) : Type 0 where
  pub sized : length list' ≡ length list
  pub few : IfSome r (λ n. n ≤ length list')
  pub same : IfSome r (λ n. (k : ℕ) → lo ≤ k → k ≤ last → has k (take n list') ≡ has k (take c list) || has k ks)

-- and their P lies above this rank key, so that what they name under it is what waits in them
pub record Ancestors (t : List ℕ) (p : Path) (top : ℕ) : Type 0 where
  pub path : ValidPath t p
  pub over : (b : ℕ) → Memᴰ b (above p) → (k : ℕ) → Memᴰ k (keys (store_of t b).points) → top < rank_key k

-- n records of w bytes from at on whose keys rise and have places inside the limits
pub record Ready (t : List ℕ) (at w n : ℕ) : Type 0 where
  pub wide : 8 ≤ w
  pub near : w ≤ 12
  pub few : n ≤ 64
  pub inside : at + w * n ≤ length t
  pub rise : rising (keys_from t w n at) ≡ true
  pub limits : limited_from t w n at ≡ true

-- how many of the keys are below k
abbrev pub below_in : ℕ → List ℕ → ℕ
below_in k ks = length (keep (λ j. ltb j k) ks)

-- the spots of a run of n records from at on that a query takes
abbrev pub taken : List ℕ → ℕ → ℕ → Query → Path → List Spot
taken t at n q p = keep (takes q (waiting_above t p)) (records (spot_at t) 12 n at)

-- those elements of a list that have a mark
module _ {A : Type 0} where
  abbrev pub chosen : List Bool → List A → List A
  chosen [] xs = []
  chosen (b ∷ m) [] = []
  chosen (b ∷ m) (x ∷ xs) = cond b (x ∷ chosen m xs) (chosen m xs)

-- how many marks there are
abbrev pub marks_in : List Bool → ℕ
marks_in m = length (keep (λ b. b) m)

-- a query wants each of the n spots from at on
abbrev pub AllWanted : List ℕ → ℕ → ℕ → Query → Type 0
AllWanted t at n q = (i : ℕ) → i < n → wants_key q (key_at t (at + 12 * i)) ≡ true

-- those from a on, before e, have a mark
pub record RangeMarks (a e : ℕ) (m : List Bool) : Type 0 where
  pub sized : length m ≡ 64
  pub inside : (i : ℕ) → a ≤ i → i < e → get_or m i false ≡ true
  pub before : (i : ℕ) → i < a → get_or m i false ≡ false
  pub behind : (i : ℕ) → e ≤ i → get_or m i false ≡ false

-- those from a on, before e, have none, and the others are as they were
pub record Unmarked (a e : ℕ) (m m' : List Bool) : Type 0 where
  pub sized : length m' ≡ length m
  pub inside : (i : ℕ) → a ≤ i → i < e → get_or m' i false ≡ false
  pub outside : (i : ℕ) → (i < a) ⊎ (e ≤ i) → get_or m' i false ≡ get_or m i false

-- of the n spots from at on the first r have a key up to k
pub record Through (t : List ℕ) (at n k r : ℕ) : Type 0 where
  pub few : r ≤ n
  pub under : (i : ℕ) → i < n → key_at t (at + 12 * i) ≤ k → i < r
  pub over : (i : ℕ) → i < n → k < key_at t (at + 12 * i) → r ≤ i

-- of the n spots from at on those have a mark that a query wants
pub record Wanted (t : List ℕ) (at n : ℕ) (q : Query) (m : List Bool) : Type 0 where
  pub sized : length m ≡ 64
  pub takes : (i : ℕ) → i < n → get_or m i false ≡ wants_key q (key_at t (at + 12 * i))
  pub rest : (i : ℕ) → n ≤ i → get_or m i false ≡ false

-- of the n spots from at on none below lo or above hi has a mark
abbrev pub Blank : List ℕ → ℕ → ℕ → ℕ → ℕ → List Bool → Type 0
Blank t at n lo hi m = (i : ℕ) → i < n → (key_at t (at + 12 * i) < lo) ⊎ (hi < key_at t (at + 12 * i)) → get_or m i false ≡ false

-- the marks of the n spots from at on, but for those whose key is among ks
pub record Struck (t : List ℕ) (at n : ℕ) (ks : List ℕ) (m m' : List Bool) : Type 0 where
  pub sized : length m' ≡ length m
  pub takes : (i : ℕ) → i < n → get_or m' i false ≡ get_or m i false && not (has (key_at t (at + 12 * i)) ks)
  pub rest : (i : ℕ) → n ≤ i → get_or m' i false ≡ get_or m i false

-- of the n spots from at on those have a mark that a query takes
pub record Marks (t : List ℕ) (at n : ℕ) (q : Query) (p : Path) (m : List Bool) : Type 0 where
  pub sized : length m ≡ 64
  pub takes : (i : ℕ) → i < n → get_or m i false ≡ takes_key q (waiting_above t p) (key_at t (at + 12 * i))
  pub rest : (i : ℕ) → n ≤ i → get_or m i false ≡ false

-- the child entries of the node in a block's bytes
abbrev pub entries_in : List ℕ → List Entry
entries_in s = first_open (records (entry_at s) 28 (be 1 s 7) 8)

-- where the range before these entries ends: at the first one's low, or where the parent's does
abbrev pub next_end : List Entry → Option ℕ → Option ℕ
next_end [] hi = hi
next_end (e ∷ es) hi = Some e.low

-- the span of the i-th child: from lo, where its range begins, up to the next entry's low, or to the end of the parent's
abbrev pub child_span : List Entry → ℕ → ℕ → Span → Span
child_span es i lo s = record { lo = lo; hi = next_end (drop (suc i) es) s.hi }
