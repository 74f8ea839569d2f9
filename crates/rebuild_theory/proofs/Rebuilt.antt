-- A table that is built whole: sound, live as the list, every node settled.
-- Assumes nothing.
use mathlib.Core.Path.{◌≡◌, refl, ◌∙◌}
use mathlib.Core.Logic.{inr, ⊎_elim}
use mathlib.Core.Bool.{Bool, true, false, cond, ◌||◌}
use mathlib.Core.List.{List}
use mathlib.Core.Option.{none}
use Prim.Native.Nat.{ℕ, zero, suc, ◌-◌, ◌≤◌, ◌<◌}
use native.Mathlib.Omega.{arith}
use lib.ListN.{length}
use lib.Dec.{leb, ltb, eqb}
use borrow.Author.Tests.{le-leb, lt-leb, lt-ltb, ne_eqb}
use Rattle.octets.specs.Lists.{every, has, up_to}
use Rattle.octets.specs.Bitmap.{bit}
use Rattle.octets.proofs.Tests.{every-imp}
use Rattle.octets.proofs.Order.{less-or-not}
use Rattle.octets.proofs.UpTo.{up_to-distinct, has-up_to, has-up_to-not}
use Rattle.spot.specs.declared.Spot.{Spot}
use Rattle.spot.specs.Spots.{keys, find}
use Rattle.spot.specs.Keys.{rank_key, all_keys, within, limited}
use Rattle.spot.proofs.Halves.{rank-small}
use Rattle.spot.proofs.Canon.{cond-none, canon}
use Rattle.spot.proofs.Places.{within-yes, within-to}
use Rattle.spot.proofs.Limits.{limited-small}
use Rattle.spot.proofs.Buffers.{find-fails}
use Rattle.block.specs.Header.{head_of}
use Rattle.block.specs.Node.{store_of}
use Rattle.block.specs.Table.{map_blocks, blocks_of}
use Rattle.block.specs.declared.Asked.TheVariants.{Root}
use Rattle.block.specs.NodeRules.{agrees, fewest, stands_in}
use Rattle.tree.specs.Part.{Part, whole}
use Rattle.tree.specs.Lookup.{live}
use Rattle.tree.specs.Reach.{reach, settled}
use Rattle.tree.specs.Sound.{sound_at, map_exact, sound, Shaped}
use Rattle.tree.specs.Walk.{live_spots}
use Rattle.tree.specs.ReadMap.{is_read}
use Rattle.tree.proofs.Tables.{sound-from, tree-rises, tree_finds, live-finds}
use Rattle.tree.proofs.Marks.{exact-make}
use Rattle.tree.proofs.Sources.{header-few, header-least}
use Rattle.rebuild_theory.specs.Build.{nodes, shape, Rebuilt}
use Rattle.rebuild_theory.proofs.Shape.{Fits, shape-fits}
use Rattle.rebuild_theory.proofs.Bands.{Good}
use Rattle.rebuild_theory.proofs.Built.{built-good}

-- at the root nothing is left out
find-all : (k : ℕ) (ys : List Spot) → every (within 0 all_keys) (keys ys) ≡ true → cond (ltb (rank_key k) all_keys) (find k ys) none ≡ find k ys
find-all k ys h = go (within 0 all_keys k) refl
  where
    go : (b : Bool) → within 0 all_keys k ≡ b → cond (ltb (rank_key k) all_keys) (find k ys) none ≡ find k ys
    go true e = rw (lt-ltb (rank_key k) all_keys (rank-small k (within-to 0 all_keys k e)))
    go false e = rw (find-fails (within 0 all_keys) k ys h e) (cond-none (ltb (rank_key k) all_keys))

-- the map of a tree in blocks 1 to n
map-exact : (map : List ℕ) (n : ℕ) → ((b : ℕ) → b < map_blocks → bit map b ≡ leb b n) → map_exact map (up_to 1 n) ≡ true
unfolding is_read
map-exact map n h = exact-make map (up_to 1 n) (up_to-distinct 1 n) (λ b l. h b l ∙ one b)
  where
    one : (b : ℕ) → leb b n ≡ eqb b 0 || has b (up_to 1 n)
    one zero = le-leb 0 n (omega arith)
    one (suc b) =
        ⊎_elim (λ (l : suc b ≤ n). rw (le-leb (suc b) n l, ne_eqb (suc b) 0 (λ (e : suc b ≡ 0). omega arith), has-up_to (suc b) 1 n (omega arith) (omega arith)))
        (λ (l : n < suc b). rw (lt-leb (suc b) n l, ne_eqb (suc b) 0 (λ (e : suc b ≡ 0). omega arith), has-up_to-not (suc b) 1 n (inr (omega arith))))
        (less-or-not (suc b) n)

-- a table that is built whole
module _ (t : List ℕ) (ys : List Spot) (r : Rebuilt t ys) where
  fits : Fits (length ys) (blocks_of (length t) - 1) (shape (length ys))
  fits =
      shape-fits (length ys) (blocks_of (length t) - 1) r.few (omega (arith, header-least t r.header)) (omega (arith, header-few t r.header))

  keyed : every (within 0 all_keys) (keys ys) ≡ true
  keyed = every-imp limited (within 0 all_keys) (keys ys) (λ k h. within-yes 0 all_keys k (omega arith) (limited-small k h)) r.limits

  abbrev top : Part
  top = record { block = 1; asked = Root 1; lo = 0; hi = all_keys }

  good : Good (suc (length (shape (length ys)))) (store_of t) top ys all_keys (nodes (shape (length ys)))
  unfolding agrees fewest stands_in
  good =
      let f = fits.fits in
      let b = header-least t r.header in
      built-good (shape (length ys)) (blocks_of (length t)) (store_of t) all_keys top ys r.built
      (record { up = r.up; inside = keyed; limits = r.limits; agree = refl; low = omega arith; own = refl; order = omega arith; full = omega arith; fans = fits.fans; first = omega arith; last = omega arith })

  is-top : whole (head_of t) ≡ top
  is-top = λ i. record { block = r.root i; asked = Root (r.root i); lo = 0; hi = all_keys }

  tree-sound : sound_at (head_of t).levels (store_of t) (whole (head_of t)) ≡ true
  tree-sound = rw (is-top, r.levels) good.sound

  -- what is live is what it was built from
  pub rebuilt-live : (k : ℕ) → live t k ≡ find k ys
  unfolding live
  rebuilt-live k = rw (is-top, r.levels) (good.look k ∙ find-all k ys keyed)

  rebuilt-reach : reach (head_of t).levels (store_of t) (whole (head_of t)) ≡ up_to 1 (nodes (shape (length ys)))
  rebuilt-reach = rw (is-top, r.levels) good.reached

  rebuilt-shaped : Shaped t
  rebuilt-shaped =
      record { header = r.header; tree = tree-sound; map = rw rebuilt-reach (map-exact (head_of t).in_use (nodes (shape (length ys))) r.in_use) }

  -- so its live spots are the list
  pub rebuilt-spots : live_spots t ≡ ys
  rebuilt-spots =
      canon 0 (live_spots t) ys (tree-rises t rebuilt-shaped) r.up (λ k. tree_finds t rebuilt-shaped k ∙ rebuilt-live k)

  -- all waiting changes are carried out
  pub rebuilt-settled : every (λ b. settled (store_of t b)) (reach (head_of t).levels (store_of t) (whole (head_of t))) ≡ true
  rebuilt-settled = rw (is-top, r.levels) good.quiet

  -- the table is sound
  pub rebuilt-sound : sound t ≡ true
  rebuilt-sound = sound-from t rebuilt-shaped (rw rebuilt-spots (omega (arith, r.bound)))

-- the live spots of a sound table are fit to be built from
module _ (t : List ℕ) (s : sound t ≡ true) where
  -- Rebuild
  pub rebuild-live : (u : List ℕ) → Rebuilt u (live_spots t) → (k : ℕ) → live u k ≡ live t k
  rebuild-live u r k = rebuilt-live u (live_spots t) r k ∙ live-finds t s k
