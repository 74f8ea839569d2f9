-- When spots can be laid out anew: what follows, what is enough, and that a sound table's always can.
-- Assumes nothing.
use mathlib.Core.Path.{◌≡◌, refl, ap, sym, ◌∙◌}
use mathlib.Core.Bool.{true, false, true≢false, false≢true}
use mathlib.Core.List.{List}
use Prim.Native.Nat.{ℕ, ◌≤◌}
use native.Mathlib.Omega.{arith}
use lib.Dec.{leb}
use lib.ListN.{length}
use borrow.Author.Tests.{le-leb, leb-true}
use Rattle.octets.specs.Lists.{rising}
use Rattle.octets.proofs.Tests.{and_left, and_right, and_both, refuted}
use Rattle.spot.specs.Query.{everything}
use Rattle.spot.specs.Spots.{keys}
use Rattle.spot.specs.declared.Spot.{Spot}
use Rattle.block.specs.Table.{capacity}
use Rattle.block.specs.Header.{head_of}
use Rattle.block.specs.HeaderRules.{header_ok}
use Rattle.block.proofs.Facts.{head-facts}
use Rattle.tree.specs.Walk.{Walk, broken, walked, walk_table, is_broken, spots}
use Rattle.tree.specs.Sound.{sound}
use Rattle.tree.proofs.Tables.{sound-header, live-rises, live-walk, count-finds, counted}
use Rattle.query.proofs.Gathered.{whole-header}
use Rattle.renew.specs.Layable.{layable}

-- the walk is whole
pub laid-whole : (bytes : ℕ) (w : Walk) → layable bytes w ≡ true → is_broken w ≡ false
unfolding layable
laid-whole bytes broken h = absurd (false≢true h)
laid-whole bytes (walked found blocks) h = refl

pub laid-rises : (bytes : ℕ) (w : Walk) → layable bytes w ≡ true → rising (keys (spots w)) ≡ true
unfolding layable
laid-rises bytes broken h = absurd (false≢true h)
laid-rises bytes (walked found blocks) h = and_left (rising (keys found)) (leb (length found) (capacity bytes)) h

pub laid-few : (bytes : ℕ) (w : Walk) → layable bytes w ≡ true → length (spots w) ≤ capacity bytes
unfolding layable
laid-few bytes broken h = absurd (false≢true h)
laid-few bytes (walked found blocks) h =
    leb-true (length found) (capacity bytes) (and_right (rising (keys found)) (leb (length found) (capacity bytes)) h)

-- this is all
pub laid-make : (bytes : ℕ) (w : Walk) → is_broken w ≡ false → rising (keys (spots w)) ≡ true → length (spots w) ≤ capacity bytes → layable bytes w ≡ true
unfolding layable
laid-make bytes broken h up few = absurd (true≢false h)
laid-make bytes (walked found blocks) h up few =
    and_both (rising (keys found)) (leb (length found) (capacity bytes)) up (le-leb (length found) (capacity bytes) few)

-- what a table's block 0 shows is shown to the walk
pub laid-header : (t : List ℕ) → header_ok (length t) (head_of t) ≡ false → layable (length t) (walk_table t everything) ≡ false
laid-header t h =
    refuted (layable (length t) (walk_table t everything))
    (λ e. true≢false (sym (whole-header t everything (laid-whole (length t) (walk_table t everything) e)) ∙ h))

-- the live spots of a sound table can be laid out anew
pub laid-sound : (t : List ℕ) → sound t ≡ true → layable (length t) (walk_table t everything) ≡ true
laid-sound t s =
    let b = (head-facts (length t) (head_of t) (sound-header t s)).bound-most in
    laid-make (length t) (walk_table t everything) (ap is_broken (count-finds t s).1)
    (ap (λ (ss : List Spot). rising (keys ss)) (live-walk t) ∙ live-rises t s)
    (omega (arith, counted t s, ap length (live-walk t)))
