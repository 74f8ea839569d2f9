-- What the functions of Check are handed and hand back.
-- Assumes nothing.
use Rattle.std.specs.Prelude.{◌≡◌, ℕ, ◌≤◌, ◌<◌, Bool, true, ◌&&◌, List, length}
use Rattle.block.specs.Table.{blocks_of}
use Rattle.block.specs.Header.{head_of}
use Rattle.block.specs.Node.{store_of}
use Rattle.tree.specs.Part.{Part, whole}
use Rattle.tree.specs.Reach.{reach}
use Rattle.tree.specs.Sound.{sound_at, map_exact}
use Rattle.tree.specs.Trace.{unseen, marked}

-- a part is checked: its nodes keep the rules, and each is reached for the first time
pub record Checked (t map map' : List ℕ) (l : ℕ) (p : Part) (r : Bool) : Type 0 where
  pub ok : r ≡ sound_at l (store_of t) p && unseen map (reach l (store_of t) p)
  pub sized : length map' ≡ length map
  pub seen : r ≡ true → map' ≡ marked map (reach l (store_of t) p)

-- what is asked of the block and of the map that marks the blocks seen
pub record Checkable (t map : List ℕ) (b level : ℕ) : Type 0 where
  pub inside : b < blocks_of (length t)
  pub blocks : blocks_of (length t) ≤ 4096
  pub mapped : length map ≡ 512
  pub deep : level ≤ 6

-- the rules of the tree and of the map in use
unfoldable pub shaped_below : List ℕ → Bool
shaped_below t =
    sound_at (head_of t).levels (store_of t) (whole (head_of t)) && map_exact (head_of t).in_use (reach (head_of t).levels (store_of t) (whole (head_of t)))
