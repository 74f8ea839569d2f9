-- What the live spots gathered in the scratch, and the table laid out anew with them as they are or with one change, leave behind. t is the table before
-- and t' after, w the scratch before and w' after.
-- Assumes nothing.
use Rattle.std.specs.Prelude.{◌≡◌, ℕ, Bool, true, false, ◌&&◌, List, Option, IfSome, is_some, length, drop}
use Rattle.spot.specs.Query.{everything}
use Rattle.spot.specs.Spots.{spots_in}
use Rattle.spot.specs.declared.Spot.{Spot}
use Rattle.tree.specs.Walk.{walk_table, live_spots}
use Rattle.rebuild_theory.specs.Build.{Rebuilt}
use Rattle.renew.specs.Layable.{layable}

-- there is a number exactly where the live spots can be laid out anew, and then so many stand at the front of the scratch: these
pub record Gathered (t w w' : List ℕ) (r : Option ℕ) : Type 0 where
  pub lent : length w' ≡ length w
  -- only the first bytes of the scratch are written, no more than the table has
  pub rest : drop (length t) w' ≡ drop (length t) w
  pub ok : is_some r ≡ layable (length t) (walk_table t everything)
  pub holds : IfSome r (λ n. spots_in w' n ≡ live_spots t)

-- the table holds these spots, or is as it was; `fits` says whether they are no more than the capacity
pub record Renewed (t t' w w' : List ℕ) (after : List Spot) (fits r : Bool) : Type 0 where
  pub sized : length t' ≡ length t
  pub lent : length w' ≡ length w
  pub rest : drop (length t) w' ≡ drop (length t) w
  pub is : r ≡ fits && layable (length t) (walk_table t everything)
  pub kept : r ≡ false → t' ≡ t
  pub built : r ≡ true → Rebuilt t' after
