-- What Top, and Top within an allowance, promise on a sound table, where no identity is found twice: all of their walks.
-- Assumes nothing.
use mathlib.Core.Path.{◌≡◌}
use mathlib.Core.Bool.{true}
use mathlib.Core.List.{List}
use Prim.Native.Nat.{ℕ}
use lib.IntN.{ℤ}
use Rattle.block.specs.declared.Answer.{Answer}
use Rattle.tree.specs.Top.{top_table}
use Rattle.tree.specs.Sound.{sound}
use Rattle.tree.proofs.Tops.{top-rises}
use Rattle.within_theory.specs.Reading.{within_table}
use Rattle.within_theory.proofs.Certain.{within-once}
use Rattle.table.specs.Calls.{top, top_within}
use Rattle.table.specs.Queries.{QueryPost, TopPost, TopWithinPost}
use Rattle.table.proofs.Searching.{searched-exact}

module _ (t : List ℕ) (g : sound t ≡ true) (x1 x2 : ℤ) (k : ℕ) {out map : List ℕ} {r : Answer} {out'' map' : List ℕ} where
  pub top-shows : TopPost x1 x2 k t out map r out'' map' → QueryPost (top x1 x2 k) (top_table t x1 x2 k) t out map r out'' map'
  top-shows p = searched-exact p (top-rises t g x1 x2 k)

  pub within-shows : (a : ℕ) {c : ℤ} → TopWithinPost x1 x2 k a t out map r out'' map' c
      → QueryPost (top_within x1 x2 k a) (within_table t x1 x2 k a) t out map r out'' map'
  within-shows a p = searched-exact p.search (within-once t g x1 x2 k a)
