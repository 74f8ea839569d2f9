-- What the lookup of a key answers, on every table, sound or not.
-- Assumes nothing.
use Rattle.std.specs.Prelude.{◌≡◌, ℕ, zero, suc, Bool, true, false, cond, ◌&&◌, ◌||◌, List, [], ◌∷◌, length, Result, Ok, Err, Some, None}
use Rattle.std.specs.Prelude as Prelude
use Rattle.std.proofs.Math.Option.{Option, none, some}
use Rattle.octets.specs.Lists.{has}
use Rattle.spot.specs.Keys.{within}
use Rattle.block.specs.Header.{head_of}
use Rattle.block.specs.HeaderRules.{header_ok}
use Rattle.block.specs.Node.{Store, store_of}
use Rattle.block.specs.NodeRules.{names, node_ok}
use Rattle.tree.specs.Part.{Part, whole, children}
use Rattle.tree.specs.Lookup.{live}
use Rattle.lookup.specs.declared.Broken.{Broken}

-- the answer of a lookup: a live key's track, or none, or an error where a rule is broken
abbrev pub Looked : Type 0
Looked = Result (Prelude.Option ℕ) Broken

abbrev pub broken : Looked
broken = Err (record {})

-- the track of a live key, or nothing
abbrev pub told : Option ℕ → Looked
told none = Ok None
told (some a) = Ok (Some a)

-- a test of the first part whose range holds k: passed where no range does
abbrev pub along : (Part → Bool) → ℕ → List Part → Bool
along f k [] = true
along f k (p ∷ ps) = cond (within p.lo p.hi k) (f p) (along f k ps)

-- in a part of l levels, each node on the key's path, down to the first that names the key, keeps the rules that it and the entry leading to it can show
unfoldable pub path_ok : ℕ → Store → ℕ → Part → Bool
path_ok zero m k p = false
path_ok (suc l) m k p =
    let n = m p.block in
    node_ok l p.asked n && (has k (names n) || along (path_ok l m k) k (children p n))

-- the track of a live key, or nothing; broken exactly where block 0 or a node on the path, down to the first that names the key, breaks a rule
unfoldable pub looked_up : List ℕ → ℕ → Looked
looked_up t k = cond (header_ok (length t) (head_of t) && path_ok (head_of t).levels (store_of t) k (whole (head_of t))) (told (live t k)) broken

pub record LookupPost (t : List ℕ) (k : ℕ) (r : Looked) : Type 0 where
  pub is : r ≡ looked_up t k
