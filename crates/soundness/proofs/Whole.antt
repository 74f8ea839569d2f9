-- The check of the whole tree and of the map in use.
-- Assumes nothing.
use mathlib.Core.Path.{◌≡◌, refl, ap, ap₂, sym, subst, ◌∙◌}
use mathlib.Core.Logic.{⊎_elim}
use mathlib.Core.Bool.{Bool, true, false, ◌&&◌}
use mathlib.Core.List.{List, [], ◌∷◌}
use lib.Dec.{eqb}
use lib.Pointwise.{pointwise}
use Prim.Native.Nat.{ℕ, suc, ◌+◌, ◌-◌, ◌≤◌, ◌<◌}
use native.Mathlib.Omega.{arith}
use lib.ListN.{length, get_or, take, drop, replicate, length-take, length-drop, get_or-eq_default}
use lib.Seq.{get_or-take, get_or-drop, length-take-le}
use Rattle.octets.specs.Lists.{distinct, same_list}
use Rattle.octets.specs.Bitmap.{set_bit}
use Rattle.octets.proofs.Order.{less-or-not}
use Rattle.spot.specs.Keys.{all_keys}
use Rattle.block.specs.declared.Asked.TheVariants.{Root}
use Rattle.block.specs.Header.{head_of}
use Rattle.block.specs.HeaderRules.{header_ok}
use Rattle.block.specs.Node.{store_of}
use Rattle.block.proofs.Heads.{map-part}
use Rattle.tree.specs.Part.{Part, whole}
use Rattle.tree.specs.Reach.{reach}
use Rattle.tree.specs.Sound.{sound_at, map_exact}
use Rattle.tree.specs.Trace.{unseen, marked}
use Rattle.tree.proofs.MapBits.{Bytes, unseen-zeros, exact-by}
use Rattle.tree.proofs.Sources.{header-few, table-reach}
use Rattle.visit.specs.declared.Span.{Span}
use Rattle.visit.specs.Visit.{end_of, part_of}
use Rattle.visit.proofs.Roots.{header-long, levels-are, root-part}
use Rattle.soundness.specs.Checks.{Checked, shaped_below}

-- `==` of slices of bytes
pub equal-same : (xs ys : List ℕ) → pointwise eqb xs ys ≡ same_list xs ys
equal-same [] [] = refl
equal-same [] (y ∷ ys) = refl
equal-same (x ∷ xs) [] = refl
equal-same (x ∷ xs) (y ∷ ys) = ap (λ (b : Bool). eqb x y && b) (equal-same xs ys)

-- a part of bytes
part_bytes : (t : List ℕ) (a n : ℕ) → ((i : ℕ) → get_or t i 0 < 256) → Bytes (take n (drop a t))
part_bytes t a n f i =
    ⊎_elim
    (λ (l : n ≤ i).
    let s : length (take n (drop a t)) ≤ i = rw (length-take n (drop a t)) (omega arith) in
    let e : get_or (take n (drop a t)) i 0 ≡ 0 = get_or-eq_default (take n (drop a t)) 0 s in
    omega arith)
    (λ (l : i < n). rw (get_or-take n (drop a t) i 0 l, get_or-drop a t i 0) (f (a + i)))
    (less-or-not n i)

module _ (t : List ℕ) (ok : header_ok (length t) (head_of t) ≡ true) (bytes : (i : ℕ) → get_or t i 0 < 256) where
  abbrev levels : ℕ
  levels = (head_of t).levels

  abbrev tree : Part
  tree = whole (head_of t)

  abbrev reached : List ℕ
  reached = reach levels (store_of t) tree

  exact : sound_at levels (store_of t) tree ≡ true
      → map_exact (head_of t).in_use reached ≡ distinct reached && same_list (head_of t).in_use (set_bit (marked (replicate 512 0) reached) 0)
  exact s =
      exact-by (head_of t).in_use reached (ap length (map-part t) ∙ length-take-le 512 (drop 12 t) (rw length-drop (omega (arith, header-long t ok))))
      (subst Bytes (sym (map-part t)) (part_bytes t 12 512 bytes))
      (λ b i. omega (arith, (table-reach t ok s b i).low, header-few t ok))

  -- the tree keeps the rules, its blocks are reached once, and the map is theirs
  shaped-is : (z : List ℕ) → z ≡ replicate 512 0
      → shaped_below t ≡ (sound_at levels (store_of t) tree && unseen z reached) && same_list (head_of t).in_use (set_bit (marked z reached) 0)
  unfolding shaped_below
  shaped-is z e = go (sound_at levels (store_of t) tree) (λ s. exact s)
    where
      go : (b : Bool) → (b ≡ true → map_exact (head_of t).in_use reached ≡ distinct reached && same_list (head_of t).in_use (set_bit (marked (replicate 512 0) reached) 0))
          → b && map_exact (head_of t).in_use reached ≡ (b && unseen z reached) && same_list (head_of t).in_use (set_bit (marked z reached) 0)
      go true h =
          h refl
          ∙ ap (λ (u : Bool). u && same_list (head_of t).in_use (set_bit (marked (replicate 512 0) reached) 0)) (sym (unseen-zeros 512 reached))
          ∙ ap (λ (x : List ℕ). unseen x reached && same_list (head_of t).in_use (set_bit (marked x reached) 0)) (sym e)
      go false h = refl

  module _ (span : Span) {z seen : List ℕ} {root level : ℕ} {r : Bool} (e : z ≡ replicate 512 0) (p : root ≡ (head_of t).root) (q : level ≡ levels)
      (lo : span.lo ≡ 0) (hi : end_of span ≡ all_keys) (k : Checked t z seen (suc (level - 1)) (part_of root (Root root) span) r) where
    at-root : Checked t z seen levels tree r
    at-root =
        subst (λ (x : Part). Checked t z seen levels x r) (root-part t span p lo hi)
        (subst (λ (n : ℕ). Checked t z seen n (part_of root (Root root) span) r) (levels-are t ok p q) k)

    pub tree-no : r ≡ false → false ≡ shaped_below t
    tree-no n = sym (shaped-is z e ∙ ap (λ (b : Bool). b && same_list (head_of t).in_use (set_bit (marked z reached) 0)) (sym at-root.ok ∙ n))

    pub tree-yes : {seen' : List ℕ} {s : Bool} → r ≡ true → seen' ≡ set_bit seen 0 → s ≡ same_list (take 512 (drop 12 t)) seen' → s ≡ shaped_below t
    tree-yes y d s =
        s ∙ ap₂ same_list (sym (map-part t)) (d ∙ ap (λ (m : List ℕ). set_bit m 0) (at-root.seen y))
        ∙ sym (shaped-is z e ∙ ap (λ (b : Bool). b && same_list (head_of t).in_use (set_bit (marked z reached) 0)) (sym at-root.ok ∙ y))
