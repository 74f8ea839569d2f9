-- A sound table: its live spots as a list, and what any Report finds.
-- Assumes nothing.
use mathlib.Core.Path.{◌≡◌, refl, ap, sym, ◌∙◌}
use mathlib.Core.Bool.{Bool, true, false, cond, ◌&&◌, true≢false}
use mathlib.Core.List.{List, []}
use mathlib.Core.Option.{Option, none, some}
use Prim.Native.Nat.{ℕ, ◌≤◌}
use native.Mathlib.Omega.{arith}
use lib.ListN.{length}
use lib.Dec.{leb}
use borrow.Author.Tests.{le-leb, leb-true}
use Rattle.octets.specs.Lists.{all, keep, rising, distinct}
use Rattle.octets.proofs.Tests.{all-at, all_cons, all_nil}
use Rattle.spot.specs.declared.Spot.{Spot}
use Rattle.spot.specs.Spots.{keys, find}
use Rattle.spot.specs.Keys.{rank_of, all_keys, within}
use Rattle.spot.specs.declared.Query.{Query}
use Rattle.spot.specs.Query.{wants, wants_key, placed, everything}
use Rattle.spot.proofs.Canon.{canon, cond-none, find-only, keep-rises}
use Rattle.spot.proofs.Places.{all-least, everything-placed}
use Rattle.block.specs.Header.{head_of}
use Rattle.block.specs.Node.{store_of}
use Rattle.block.specs.HeaderRules.{header_ok}
use Rattle.tree.specs.Part.{whole}
use Rattle.tree.specs.Lookup.{lookup, live}
use Rattle.tree.specs.Sound.{sound_at, sound, Shaped}
use Rattle.tree.specs.Reach.{reach}
use Rattle.tree.specs.Walk.{Finds, live_count, walk, once, walked, spots, takes_key, walk_table, walk_from, live_spots}
use Rattle.tree.proofs.Marks.{exact-once}
use Rattle.tree.proofs.Visits.{walk-once}
use Rattle.tree.proofs.Live.{Found, sel, walk-found, lookup-within}

-- a sound table keeps these rules
pub shaped : (t : List ℕ) → sound t ≡ true → Shaped t
unfolding sound
shaped t s = record { header = all-at _ s 0; tree = all-at _ s 1; map = all-at _ s 2 }

-- and its figure is no lower than the count
pub counted : (t : List ℕ) → sound t ≡ true → length (live_spots t) ≤ (head_of t).bound
unfolding sound live_count
counted t s = leb-true (length (live_spots t)) (head_of t).bound (all-at _ s 3)

-- that is all
pub sound-from : (t : List ℕ) → Shaped t → length (live_spots t) ≤ (head_of t).bound → sound t ≡ true
unfolding sound live_count
sound-from t h c = all_cons _ _ h.header (all_cons _ _ h.tree (all_cons _ _ h.map (all_cons _ _ (le-leb (length (live_spots t)) (head_of t).bound c) all_nil)))

-- the live spots are those that a walk over everything finds
pub live-walk : (t : List ℕ) → spots (walk_table t everything) ≡ live_spots t
unfolding live_spots
live-walk t = refl

-- a table that keeps the rules, whatever its bound
module _ (t : List ℕ) (g : Shaped t) where
  apart : distinct (reach (head_of t).levels (store_of t) (whole (head_of t))) ≡ true
  apart = exact-once (head_of t).in_use _ g.map

  raw : (q : Query) → Found q [] 0 all_keys (live t) [] (walk (head_of t).levels (store_of t) q [] (whole (head_of t)) (walked [] []))
  unfolding live
  raw q = walk-found (head_of t).levels (store_of t) q [] (whole (head_of t)) [] [] g.tree (omega arith) (record { up = refl; apart = λ k w n. refl })

  -- what any Report finds
  found : (q : Query) → Found q [] 0 all_keys (live t) [] (walk_table t q)
  unfolding walk_table walk_from
  found q =
      record {
        after = (raw q).after;
        blocks = (raw q).blocks;
        is =
            rw g.header
            (ap once (raw q).is ∙ walk-once (head_of t).levels (store_of t) q [] (whole (head_of t)) (raw q).after (raw q).blocks apart (raw q).is);
        up = (raw q).up;
        found = (raw q).found;
      }

  live-is : live_spots t ≡ (found everything).after
  unfolding live_spots
  live-is = ap spots (found everything).is

  -- its live spots rise in place order
  pub tree-rises : rising (keys (live_spots t)) ≡ true
  tree-rises = rw live-is (found everything).up

  -- keys past the last are not live
  pub live-none : (k : ℕ) → within 0 all_keys k ≡ false → live t k ≡ none
  unfolding live
  live-none k w = go (lookup (head_of t).levels (store_of t) k (whole (head_of t))) refl
    where
      go : (o : Option ℕ) → lookup (head_of t).levels (store_of t) k (whole (head_of t)) ≡ o → lookup (head_of t).levels (store_of t) k (whole (head_of t)) ≡ none
      go none e = e
      go (some a) e = absurd (true≢false (sym (lookup-within (head_of t).levels (store_of t) k (whole (head_of t)) g.tree (omega arith) e) ∙ w))

  -- the root's range holds every key
  taken : (q : Query) (k : ℕ) → cond (sel q [] 0 all_keys k) (live t k) none ≡ cond (wants_key q k) (live t k) none
  unfolding takes_key all
  taken q k = go (within 0 all_keys k) refl (wants_key q k)
    where
      go : (w : Bool) → within 0 all_keys k ≡ w → (b : Bool) → cond (w && (b && true)) (live t k) none ≡ cond b (live t k) none
      go true w true = refl
      go true w false = refl
      go false w b = sym (rw (live-none k w) (cond-none b))

  everything-wants : (k : ℕ) → cond (wants_key everything k) (live t k) none ≡ live t k
  unfolding wants_key all
  everything-wants k = rw all-least (go (within 0 all_keys k) refl)
    where
      go : (w : Bool) → within 0 all_keys k ≡ w → cond (placed everything k && (leb 0 (rank_of k) && true)) (live t k) none ≡ live t k
      go true w = rw (everything-placed k w, le-leb 0 (rank_of k) (omega arith))
      go false w = rw (live-none k w) (cond-none (placed everything k && (leb 0 (rank_of k) && true)))

  -- and are found as they are live
  pub tree_finds : (k : ℕ) → find k (live_spots t) ≡ live t k
  tree_finds k = rw live-is ((found everything).found k ∙ taken everything k ∙ everything-wants k)

  -- a Report finds the live spots that it wants, in place order
  tree-report : (q : Query) → Finds (walk_table t q) (keep (wants q) (live_spots t))
  tree-report q = ((found q).blocks, (found q).is ∙ ap (λ (ss : List Spot). walked ss (found q).blocks) same)
    where
      same : (found q).after ≡ keep (wants q) (live_spots t)
      same =
          canon 0 (found q).after (keep (wants q) (live_spots t)) (found q).up (keep-rises (wants q) 0 (live_spots t) tree-rises)
          (λ k. (found q).found k ∙ taken q k ∙ sym (find-only (wants_key q) k (live_spots t) ∙ ap (λ (o : Option ℕ). cond (wants_key q k) o none) (tree_finds k)))

  -- a walk for everything finds them all
  pub tree-count : Finds (walk_table t everything) (live_spots t)
  tree-count = ((found everything).blocks, (found everything).is ∙ ap (λ (ss : List Spot). walked ss (found everything).blocks) (sym live-is))

module _ (t : List ℕ) (s : sound t ≡ true) where
  -- a sound table: its tree
  pub sound-tree : sound_at (head_of t).levels (store_of t) (whole (head_of t)) ≡ true
  unfolding sound
  sound-tree = all-at _ s 1

  -- its header
  pub sound-header : header_ok (length t) (head_of t) ≡ true
  unfolding sound
  sound-header = all-at _ s 0

  -- its live spots rise
  pub live-rises : rising (keys (live_spots t)) ≡ true
  live-rises = tree-rises t (shaped t s)

  -- and are found as they are live
  pub live-finds : (k : ℕ) → find k (live_spots t) ≡ live t k
  live-finds = tree_finds t (shaped t s)

  -- a Report finds those that it wants
  pub report-finds : (q : Query) → Finds (walk_table t q) (keep (wants q) (live_spots t))
  report-finds = tree-report t (shaped t s)

  -- and Count all
  pub count-finds : Finds (walk_table t everything) (live_spots t)
  count-finds = tree-count t (shaped t s)
