-- What a query finds in a node is what it takes of the node's two runs of spots.
-- Assumes nothing.
use mathlib.Core.Path.{◌≡◌, refl, sym, ap₂, ◌∙◌}
use mathlib.Core.Bool.{Bool}
use mathlib.Core.List.{List, ◌++◌}
use Prim.Native.Nat.{ℕ, ◌+◌, ◌*◌}
use Rattle.octets.specs.Lists.{keep}
use Rattle.octets.proofs.Tests.{keep_append}
use Rattle.spot.specs.Spots.{key_at, spot_at}
use Rattle.spot.specs.declared.Spot.{Spot}
use Rattle.spot.specs.declared.Query.{Query}
use Rattle.block.specs.declared.Front.{Front}
use Rattle.block.specs.Table.{version1}
use Rattle.block.specs.Node.{store_of, points_from, inserts_from}
use Rattle.tree.specs.Walk.{takes, finds}
use Rattle.visit.specs.declared.Path.{Path}
use Rattle.visit.specs.Visit.{waiting_above, taken}
use Rattle.visit.proofs.Runs.{Runs}

pub spot-key : (t : List ℕ) (i : ℕ) → (spot_at t i).key ≡ key_at t i
unfolding spot_at
spot-key t i = refl

module _ (t : List ℕ) (b : ℕ) (h : Front) (r : Runs t b h) (q : Query) (p : Path) where
  pub finds-runs : {x y : ℕ} → x ≡ points_from version1 h.c → y ≡ inserts_from version1 h.c h.p
      → finds q (waiting_above t p) (store_of t b) ≡ taken t (b * 2048 + x) h.p q p ++ taken t (b * 2048 + y) h.i q p
  unfolding finds
  finds-runs e g =
      let f : Spot → Bool = takes q (waiting_above t p) in
      keep_append f (store_of t b).points (store_of t b).inserts
      ∙ ap₂ (λ (u v : List Spot). keep f u ++ keep f v) (sym r.points) (sym r.inserts)
      ∙ rw (e, g)
