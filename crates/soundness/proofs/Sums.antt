-- All rules together: the header, the tree with its map, and the count of live spots.
-- Assumes nothing.
use mathlib.Core.Path.{◌≡◌, ap, ap₂, sym, ◌∙◌}
use mathlib.Core.Bool.{Bool, true, false, not, ◌&&◌, and-true, and-false, and_assoc, false≢true}
use mathlib.Core.List.{List}
use Prim.Native.Nat.{ℕ}
use lib.ListN.{length}
use lib.Dec.{leb}
use Rattle.octets.specs.Lists.{all}
use Rattle.octets.proofs.Tests.{and_left, and_right}
use Rattle.spot.specs.Query.{everything}
use Rattle.block.specs.Header.{head_of}
use Rattle.block.specs.HeaderRules.{header_ok}
use Rattle.block.specs.Node.{store_of}
use Rattle.tree.specs.Part.{whole}
use Rattle.tree.specs.Reach.{reach}
use Rattle.tree.specs.Sound.{sound_at, map_exact, sound, Shaped}
use Rattle.tree.specs.Walk.{Walk, is_broken, spots, live_spots, live_count}
use Rattle.tree.proofs.Tables.{tree-count}
use Rattle.tally.specs.declared.Tally.{Tally}
use Rattle.std.specs.Prelude.{Some, None}
use Rattle.query.specs.Walks.{TableCounted}
use Rattle.soundness.specs.Checks.{shaped_below}

module _ (t : List ℕ) where
  sound-is : sound t ≡ header_ok (length t) (head_of t) && (shaped_below t && leb (live_count t) (head_of t).bound)
  unfolding sound shaped_below all
  sound-is =
      let h = header_ok (length t) (head_of t) in
      let s = sound_at (head_of t).levels (store_of t) (whole (head_of t)) in
      let m = map_exact (head_of t).in_use (reach (head_of t).levels (store_of t) (whole (head_of t))) in
      let c = leb (live_count t) (head_of t).bound in
      ap (λ (x : Bool). h && (s && (m && x))) (and-true c) ∙ ap (λ (x : Bool). h && x) (sym (and_assoc s m c))

  pub no_header : header_ok (length t) (head_of t) ≡ false → false ≡ sound t
  no_header e = sym (sound-is ∙ ap (λ (x : Bool). x && (shaped_below t && leb (live_count t) (head_of t).bound)) e)

  pub no-shape : shaped_below t ≡ false → false ≡ sound t
  no-shape e =
      sym (sound-is ∙ ap (λ (x : Bool). header_ok (length t) (head_of t) && (x && leb (live_count t) (head_of t).bound)) e ∙ and-false (header_ok (length t) (head_of t)))

  module _ (ok : header_ok (length t) (head_of t) ≡ true) (below : shaped_below t ≡ true) where
    shaped : Shaped t
    unfolding shaped_below
    shaped =
        let s = sound_at (head_of t).levels (store_of t) (whole (head_of t)) in
        let m = map_exact (head_of t).in_use (reach (head_of t).levels (store_of t) (whole (head_of t))) in
        record { header = ok; tree = and_left s m below; map = and_right s m below }

    -- the walk of every live spot is whole, so the count decides
    pub count-decides : {map' : List ℕ} {r : Tally} {bound : ℕ} → TableCounted t everything map' (Some r) → bound ≡ (head_of t).bound → leb r.spots bound ≡ sound t
    unfolding live_count
    count-decides {map'} {r} {bound} c e =
        let w = (tree-count t shaped).1 in
        let n : r.spots ≡ length (live_spots t) = c.spots ∙ ap (λ (x : Walk). length (spots x)) w in
        ap (λ (k : ℕ). leb k bound) n ∙ ap (leb (length (live_spots t))) e
        ∙ sym (sound-is ∙ ap₂ (λ (x y : Bool). x && (y && leb (live_count t) (head_of t).bound)) ok below)

    pub no-broken : {map' : List ℕ} → TableCounted t everything map' None → ⊥
    no-broken c = false≢true (c.ok ∙ ap (λ (x : Walk). not (is_broken x)) (tree-count t shaped).1)
