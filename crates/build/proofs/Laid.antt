-- A tree built from block 1 on, and a header that says so, are a table built whole.
-- Assumes nothing.
use mathlib.Core.Path.{◌≡◌, ap, sym, subst, ◌∙◌}
use mathlib.Core.Bool.{true}
use mathlib.Core.List.{List}
use Prim.Native.Nat.{ℕ, ◌+◌, ◌-◌, ◌≤◌, ◌<◌}
use native.Mathlib.Omega.{arith}
use lib.ListN.{length}
use lib.Dec.{leb}
use Rattle.octets.proofs.Records.{length-records}
use Rattle.spot.specs.declared.Spot.{Spot}
use Rattle.spot.specs.Keys.{all_keys}
use Rattle.spot.specs.Spots.{spot_at, spots_from}
use Rattle.spot.proofs.Limits.{limited-spots}
use Rattle.block.specs.declared.Entry.{Entry}
use Rattle.block.specs.Header.{head_of}
use Rattle.block.specs.HeaderRules.{header_ok}
use Rattle.block.specs.Node.{store_of}
use Rattle.block.specs.Table.{blocks_of, capacity, table_sized}
use Rattle.block.proofs.Frames.{store_same}
use Rattle.block.proofs.Making.{blocks-least, blocks-most as most-blocks}
use Rattle.rebuild_theory.specs.Build.{nodes, shape_of, shape, Built, BuildPost, Rebuilt}
use Rattle.rebuild_theory.proofs.Built.{nodes-some}
use Rattle.rebuild_theory.proofs.Kept.{built-kept}
use Rattle.rebuild_theory.proofs.Shape.{Fits, shape-fits}
use Rattle.build.specs.declared.Fans.{Fans}
use Rattle.build.specs.Building.{Segment, Buildable, HeaderFits, HeaderWritten, ShapeIs}
use Rattle.build.proofs.Segments.{shape-length}

module _ (t list : List ℕ) (n : ℕ) (sized : table_sized (length t) ≡ true) (few : n ≤ capacity (length t)) (seg : Segment list 0 n) (r : Fans) (sh : ShapeIs n r) where
  abbrev fs : List ℕ
  fs = shape_of r.fan r.next r.height

  abbrev ys : List Spot
  ys = spots_from list 0 n

  blocks-most : (9 ≤ blocks_of (length t)) × (blocks_of (length t) ≤ 4096)
  blocks-most = (blocks-least (length t) sized, most-blocks (length t) sized)

  fits : Fits n (blocks_of (length t) - 1) fs
  fits =
      let b = blocks-most in
      subst (λ (s : List ℕ). Fits n (blocks_of (length t) - 1) s) (sym sh.is) (shape-fits n (blocks_of (length t) - 1) few (omega (arith, b.0)) (omega (arith, b.1)))

  pub table-ready : Buildable t list 0 n r.fan r.next r.height 1
  table-ready =
      let b = blocks-most in
      record {
        segment = seg;
        fans = fits.fans;
        near = sh.next;
        high = sh.high;
        enough = fits.least;
        room = fits.most;
        first = omega arith;
        last = omega (arith, fits.fits, b.0);
        blocks = b.1;
      }

  module _ {u : List ℕ} {last : ℕ} (same : length u ≡ length t) (count : last ≡ nodes fs) where
    pub header-ready : HeaderFits u (r.height + 1) n last
    header-ready =
        let b = blocks-most in
        let h = sh.high in
        record {
          sized = subst (λ (k : ℕ). table_sized k ≡ true) (sym same) sized;
          least = omega arith;
          most = omega arith;
          bound = subst (λ (k : ℕ). n ≤ capacity k) (sym same) few;
          first = omega (arith, count, nodes-some fs);
          inside = subst (λ (k : ℕ). last < blocks_of k) (sym same) (omega (arith, count, fits.fits, b.0));
        }

  pub rebuilt : {u v : List ℕ} {e : Entry} {last : ℕ} → last ≡ nodes fs → BuildPost (blocks_of (length t)) fs 1 ys all_keys t u e → HeaderWritten u v (r.height + 1) n last
      → Rebuilt v ys × (length v ≡ length t)
  rebuilt {u} {v} {e} {last} count p w =
      let long : length ys ≡ n = length-records (spot_at list) 12 n 0 in
      let shaped : fs ≡ shape (length ys) = sh.is ∙ ap shape (sym long) in
      let same : length v ≡ length t = w.sized ∙ p.sized in
      let high = shape-length r.fan r.next r.height in
      let tree : Built fs (blocks_of (length t)) (store_of u) 1 ys all_keys = subst (λ (i : ℕ). Built fs (blocks_of (length t)) (store_of u) i ys all_keys) p.at p.built in
      let kept : Built fs (blocks_of (length t)) (store_of v) 1 ys all_keys = built-kept fs (blocks_of (length t)) (store_of u) (store_of v) all_keys 1 ys (λ i lo hi. store_same u v w.sized i (w.else i (λ (z : i ≡ 0). omega arith))) tree in (
        record {
          up = seg.rises;
          limits = sym (limited-spots list n 0) ∙ seg.limits;
          few = subst (λ (k : ℕ). length ys ≤ capacity k) (sym same) (omega arith);
          header = subst (λ (k : ℕ). header_ok k (head_of v) ≡ true) (sym w.sized) w.ok;
          root = w.root;
          levels = w.levels ∙ omega (arith, high, ap (λ (s : List ℕ). length s) shaped);
          bound = w.bound ∙ sym long;
          in_use = λ b l. w.in_use b l ∙ ap (leb b) (count ∙ ap nodes shaped);
          built = subst (λ (k : ℕ). Built (shape (length ys)) (blocks_of k) (store_of v) 1 ys all_keys) (sym same) (subst (λ (s : List ℕ). Built s (blocks_of (length t)) (store_of v) 1 ys all_keys) shaped kept);
        },
        same,
      )
