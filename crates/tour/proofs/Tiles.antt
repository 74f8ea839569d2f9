-- A block in order is a run of spots that rise inside the limits: what is gathered of it with nothing above is what the query wants.
-- Assumes nothing.
use mathlib.Core.Path.{◌≡◌, ap, subst, ◌∙◌}
use mathlib.Core.Bool.{true, and-true}
use mathlib.Core.List.{List, []}
use Prim.Native.Nat.{ℕ, ◌+◌, ◌-◌, ◌*◌, ◌≤◌, ◌<◌}
use native.Mathlib.Omega.{arith}
use Rattle.octets.specs.Lists.{keep}
use Rattle.octets.proofs.Tests.{keep_same}
use Rattle.spot.specs.Keys.{limited}
use Rattle.spot.specs.Query.{wants, wants_key}
use Rattle.spot.specs.Spots.{key_at, spots_in, put_all, limited_from}
use Rattle.spot.specs.declared.Spot.{Spot}
use Rattle.spot.specs.declared.Query.{Query}
use Rattle.spot.proofs.Limits.{limited-from, limited-to, limited-yes, limited-all}
use Rattle.block.specs.Node.{store_of}
use Rattle.tree.specs.Walk.{takes}
use Rattle.visit.specs.Visit.{above, waiting_by, taken}
use Rattle.visit.specs.declared.Path.{Path}
use Rattle.visit.proofs.Above.{above_root}
use Rattle.visit.proofs.Marking.{takes-is}
use Rattle.visit.proofs.Search.{run-rises}
use Rattle.query.specs.Walks.{Mergeable, GatheredFront, Collected}
use Rattle.catalogue.specs.Catalogue.{tile_fine}
use Rattle.catalogue.specs.declared.Entry.{Entry}
use Rattle.catalogue.specs.Reading.{LimitedEntry}
use Rattle.catalogue.proofs.Facts.{tile-facts}
use Rattle.tour.specs.Gathering.{Gatherable}

-- the keys lie between the entry's lowest and highest
module _ (m b : ℕ) (e : Entry) (s : List ℕ) (f : LimitedEntry e) (h : tile_fine m b e s ≡ true) where
  pub tile-span : (i : ℕ) → i < e.size → (e.low ≤ key_at s (0 + 12 * i)) × (key_at s (0 + 12 * i) ≤ e.high)
  tile-span i l =
      let g = tile-facts m b e s h in
      let low : key_at s 0 ≤ key_at s (0 + 12 * i) = run-rises s 12 e.size 0 g.rise 0 i (omega arith) l in
      let o : 0 + 12 * (e.size - 1) ≡ 12 * (e.size - 1) = omega arith in
      let high : key_at s (0 + 12 * i) ≤ key_at s (12 * (e.size - 1)) = subst (λ (j : ℕ). key_at s (0 + 12 * i) ≤ key_at s j) o (run-rises s 12 e.size 0 g.rise i (e.size - 1) (omega arith) (omega (arith, f.some))) in
      (omega (arith, g.first), omega (arith, g.last))

  pub tile-limited : limited_from s 12 e.size 0 ≡ true
  tile-limited = limited-all s 12 e.size 0 each
    where
      each : (i : ℕ) → i < e.size → limited (key_at s (0 + 12 * i)) ≡ true
      each i l =
          let r = tile-span i l in
          limited-yes (key_at s (0 + 12 * i)) (omega (arith, limited-from e.low f.low, r.0)) (omega (arith, limited-to e.high f.high, r.1))

-- with nothing above, a query takes what it wants
taken-wanted : (s : List ℕ) (n : ℕ) (q : Query) (p : Path) → above p ≡ [] → taken s 0 n q p ≡ keep (wants q) (spots_in s n)
taken-wanted s n q p e =
    ap (λ (bs : List ℕ). keep (takes q (waiting_by (store_of s) bs)) (spots_in s n)) e
    ∙ keep_same (takes q []) (wants q) (spots_in s n) (λ x i. takes-is q [] x.key ∙ and-true (wants_key q x.key))

module _ {s : List ℕ} {e : Entry} {found : List ℕ} {n : ℕ} (g : Gatherable s e found n) (q : Query) (p : Path) where
  pub tile-mergeable : p.n ≡ 0 → Mergeable s found 0 e.size q p n
  tile-mergeable z =
      record {
        run =
            record {
              wide = omega arith;
              near = omega arith;
              few = g.entry.few;
              inside = omega (arith, g.entry.few, g.long);
              rise = (tile-facts g.blocks g.number e s g.fine).rise;
              limits = tile-limited g.blocks g.number e s g.entry g.fine;
            };
        path = (above_root s p 0 z).path;
        order = λ room. g.order;
        small = omega (arith, g.entry.few, g.room);
      }

  pub tile-collected : {found' : List ℕ} {r : ℕ} → above p ≡ [] → GatheredFront found found' n (taken s 0 e.size q p) r × (r ≤ e.size)
      → Collected found found' n (put_all (keep (wants q) (spots_in s e.size)) (spots_in found n)) (n + r) × (r ≤ 64)
  tile-collected {found'} {r} a h = (
    subst (λ (xs : List Spot). Collected found found' n (put_all xs (spots_in found n)) (n + r)) (taken-wanted s e.size q p a) (h.0.front (omega (arith, h.1, g.entry.few, g.room, g.buffer))),
    omega (arith, h.1, g.entry.few),
  )
