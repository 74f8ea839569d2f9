-- When a table is sound. Rules 3 to 6, as far as a block and its entry show them, are `node_ok`; here they are asked of every node reached.
-- Assumes nothing.
use Rattle.std.specs.Prelude.{ℕ, zero, suc, ◌≡◌, Bool, true, false, ◌||◌, List, [], ◌∷◌, length, leb, eqb}
use Rattle.std.specs.Bool.{beq}
use Rattle.octets.specs.Lists.{all, every, has, distinct, up_to, rest}
use Rattle.octets.specs.Bitmap.{bit}
use Rattle.spot.specs.Keys.{within}
use Rattle.block.specs.Table.{map_blocks}
use Rattle.block.specs.Header.{head_of}
use Rattle.block.specs.Node.{Node, Store, store_of}
use Rattle.block.specs.NodeRules.{names, lows, node_ok}
use Rattle.block.specs.HeaderRules.{header_ok}
use Rattle.tree.specs.Part.{Part, whole, children}
use Rattle.tree.specs.Reach.{reach}
use Rattle.tree.specs.Walk.{live_count}

-- rule 3: "All identities lie in the node's range"; the lowest identities "lie in the parent's range"
unfoldable pub in_range : Part → Node → Bool
in_range p n = all (every (within p.lo p.hi) (names n) ∷ every (within p.lo p.hi) (rest (lows n.entries)) ∷ [])

-- rule 2: "The root has level h − 1, a child one level less than its parent". Every node of the part keeps the rules, l levels deep.
unfoldable pub sound_at : ℕ → Store → Part → Bool
sound_at zero m p = false
sound_at (suc l) m p =
    let n = m p.block in
    all (node_ok l p.asked n ∷ in_range p n ∷ every (sound_at l m) (children p n) ∷ [])

-- rule 1: "the map marks block 0 and exactly the blocks reached from the root, each reached once"
unfoldable pub map_exact : List ℕ → List ℕ → Bool
map_exact map reached = all (distinct reached ∷ every (λ b. beq (bit map b) (eqb b 0 || has b reached)) (up_to 0 map_blocks) ∷ [])

-- "Check says yes exactly if the table is sound". Rule 6, "The figure in bytes 8-11 lies in its limits": never below the live count.
unfoldable pub sound : List ℕ → Bool
sound t =
    all (
    header_ok (length t) (head_of t) ∷
    sound_at (head_of t).levels (store_of t) (whole (head_of t)) ∷
    map_exact (head_of t).in_use (reach (head_of t).levels (store_of t) (whole (head_of t))) ∷
    leb (live_count t) (head_of t).bound ∷
    [])

-- all of soundness but the count: what a change of the tree leaves, before the figure in block 0 is known to be right
pub record Shaped (t : List ℕ) : Type 0 where
  pub header : header_ok (length t) (head_of t) ≡ true
  pub tree : sound_at (head_of t).levels (store_of t) (whole (head_of t)) ≡ true
  pub map : map_exact (head_of t).in_use (reach (head_of t).levels (store_of t) (whole (head_of t))) ≡ true
