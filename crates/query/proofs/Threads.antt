-- Parts walked one after the other, with a map of the blocks seen so far: what was to be done is what is done and what is left.
-- Assumes nothing.
use mathlib.Core.Path.{◌≡◌, refl, ap, sym, ◌∙◌}
use mathlib.Core.Bool.{Bool, true, false, ◌&&◌}
use mathlib.Core.List.{List, [], ◌∷◌, ◌++◌}
use Prim.Native.Nat.{ℕ}
use lib.ListN.{length}
use Rattle.octets.specs.Lists.{every}
use Rattle.tree.specs.Part.{Part}
use Rattle.tree.specs.Reach.{gather}
use Rattle.tree.specs.Trace.{unseen, marked}
use Rattle.tree.proofs.MapBits.{Fit, marked-length, marked_append, unseen-nil, unseen-append}

-- a test of a part, and the blocks of it
module _ (ok : Part → Bool) (v : Part → List ℕ) where
  -- the parts pass the test, and their blocks are seen for the first time
  abbrev pub fresh : List ℕ → List Part → Bool
  fresh map ps = every ok ps && unseen map (gather v ps)

  pub fresh-none : (map : List ℕ) → fresh map [] ≡ true
  fresh-none map = unseen-nil map

  pub fresh-more : (map : List ℕ) (p : Part) (ps : List Part) → (ok p ≡ true → Fit (v p) (length map))
      → fresh map (p ∷ ps) ≡ (ok p && unseen map (v p)) && fresh (marked map (v p)) ps
  fresh-more map p ps h = go (ok p) h
    where
      swap : (e u w : Bool) → e && (u && w) ≡ u && (e && w)
      swap true u w = refl
      swap false true w = refl
      swap false false w = refl

      go : (b : Bool) → (b ≡ true → Fit (v p) (length map))
          → (b && every ok ps) && unseen map (v p ++ gather v ps) ≡ (b && unseen map (v p)) && fresh (marked map (v p)) ps
      go true g =
          ap (λ (x : Bool). every ok ps && x) (unseen-append map (v p) (gather v ps) (g refl))
          ∙ swap (every ok ps) (unseen map (v p)) (unseen (marked map (v p)) (gather v ps))
      go false g = refl

  -- the parts ps₀ were to be walked from map₀ on; ps are left, and the map is as it is now
  pub record Threaded (map₀ map : List ℕ) (ps₀ ps : List Part) : Type 0 where
    pub sized : length map ≡ length map₀
    pub whole : fresh map₀ ps₀ ≡ fresh map ps
    pub seen : marked map₀ (gather v ps₀) ≡ marked map (gather v ps)

  pub thread-start : (map : List ℕ) (ps : List Part) → Threaded map map ps ps
  thread-start map ps = record { sized = refl; whole = refl; seen = refl }

  module _ {map₀ map : List ℕ} {ps₀ ps : List Part} {p : Part} {r : Bool} (h : Threaded map₀ map ps₀ (p ∷ ps)) (fits : ok p ≡ true → Fit (v p) (length map))
      (e : r ≡ ok p && unseen map (v p)) where
    -- one part more
    pub thread-next : {map' : List ℕ} → r ≡ true → map' ≡ marked map (v p) → Threaded map₀ map' ps₀ ps
    thread-next {map'} q s =
        record {
          sized = ap length s ∙ marked-length map (v p) ∙ h.sized;
          whole =
              h.whole ∙ fresh-more map p ps fits ∙ ap (λ (b : Bool). b && fresh (marked map (v p)) ps) (sym e ∙ q)
              ∙ ap (λ (m : List ℕ). fresh m ps) (sym s);
          seen = h.seen ∙ marked_append map (v p) (gather v ps) ∙ ap (λ (m : List ℕ). marked m (gather v ps)) (sym s);
        }

    -- a part that does not pass
    pub thread-stop : r ≡ false → fresh map₀ ps₀ ≡ false
    thread-stop q = h.whole ∙ fresh-more map p ps fits ∙ ap (λ (b : Bool). b && fresh (marked map (v p)) ps) (sym e ∙ q)

  pub thread-end : {map₀ map : List ℕ} {ps₀ : List Part} → Threaded map₀ map ps₀ [] → fresh map₀ ps₀ ≡ true
  thread-end {map₀} {map} h = h.whole ∙ fresh-none map
