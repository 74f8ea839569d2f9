-- What code that builds has to show: a leaf; one child more; the node over its children.
-- Assumes nothing.
use mathlib.Core.Path.{◌≡◌, refl, ap, sym, ◌∙◌}
use mathlib.Core.Logic.{◌⊎◌, inl, inr}
use mathlib.Core.Bool.{true, false, true≢false}
use mathlib.Core.List.{List, [], ◌∷◌, ◌++◌, append-nil, append_assoc}
use Prim.Native.Nat.{ℕ, suc, ◌+◌, ◌*◌, ◌≤◌}
use native.Mathlib.Omega.{arith}
use lib.ListN.{length}
use Rattle.octets.specs.Lists.{is_empty}
use Rattle.octets.proofs.Tests.{keep-length}
use Rattle.spot.specs.declared.Spot.{Spot}
use Rattle.spot.specs.Keys.{rank_key, within}
use Rattle.block.specs.declared.Entry.{Entry}
use Rattle.block.specs.Node.{Store, first_open, store_of}
use Rattle.block.specs.Table.{block}
use Rattle.block.specs.declared.Asked.TheVariants.{Child}
use Rattle.block.specs.NodeRules.{agrees}
use Rattle.block.proofs.Frames.{store_same}
use Rattle.block.proofs.Views.{length-open}
use Rattle.tree.specs.Part.{next_low}
use Rattle.rebuild_theory.specs.Build.{first_spot_key, BuildPost, nodes, band, built_node, Starts, Shares, Built}
use Rattle.rebuild_theory.proofs.Built.{nodes-some, starts-some}
use Rattle.rebuild_theory.proofs.Kept.{Alike, shares-kept, built-kept}

-- a band has no more spots than there are
pub band-length : (c t : ℕ) (ys : List Spot) → length (band c t ys) ≤ length ys
unfolding band
band-length c t ys = keep-length (λ s. within c t (rank_key s.key)) ys

-- a leaf
pub leaf-built : (room t : ℕ) (m : Store) (b : ℕ) (ys : List Spot) → m b ≡ built_node room 0 [] (band 0 t ys) → length ys ≤ 32 → Built [] room m b ys t
leaf-built room t m b ys e h = (record { is = e; most = omega (arith, band-length 0 t ys, h); least = inr refl; under = omega arith }, h)

-- one entry more
starts_more : (es : List Entry) (e : Entry) (xs zs : List Spot) → Starts es xs → Starts (e ∷ []) zs → Starts (es ++ (e ∷ [])) (xs ++ zs)
starts_more [] e xs zs h g = rw h g
starts_more (x ∷ es) e [] zs h g = absurd h
starts_more (x ∷ es) e (s ∷ ss) zs h g = h

-- one child more
shares-more : (g : ℕ → List Spot → Type 0) (m : Store) (w b : ℕ) (es : List Entry) (xs : List Spot) (e : Entry) (zs : List Spot) → Shares g m w b es xs
    → e.block ≡ b + length es * w
    → Starts (e ∷ []) zs
    → agrees (Child e) (m e.block) ≡ true
    → g e.block zs
    → Shares g m w b (es ++ (e ∷ [])) (xs ++ zs)
shares-more g m w b [] xs e zs sh at st ag built =
    let z : b + 0 * w ≡ b = omega arith in
    record {
      own = zs;
      others = [];
      split = rw sh (sym (append-nil zs));
      some = starts-some e [] zs st;
      next = refl;
      at = at ∙ z;
      agree = ag;
      built = built;
      rest = refl;
    }
shares-more g m w b (x ∷ es) xs e zs sh at st ag built =
    let d : b + suc (length es) * w ≡ b + w + length es * w = omega arith in
    record {
      own = sh.own;
      others = sh.others ++ zs;
      split = ap (λ (l : List Spot). l ++ zs) sh.split ∙ append_assoc sh.own sh.others zs;
      some = sh.some;
      next = starts_more es e sh.others zs sh.next st;
      at = sh.at;
      agree = sh.agree;
      built = sh.built;
      rest = shares-more g m w (b + w) es sh.others e zs sh.rest (at ∙ d) st ag built;
    }

module _ (fs : List ℕ) (room c : ℕ) (m m' : Store) where
  -- the loop's step: the children before stay as they are, and the next is built
  child-more : (b : ℕ) (es : List Entry) (xs : List Spot) (e : Entry) (zs : List Spot) → Shares (λ b' ys. Built fs room m b' ys c) m (nodes fs) b es xs
      → Alike m m' b (length es * nodes fs)
      → e.block ≡ b + length es * nodes fs
      → Starts (e ∷ []) zs
      → agrees (Child e) (m' e.block) ≡ true
      → Built fs room m' e.block zs c
      → Shares (λ b' ys. Built fs room m' b' ys c) m' (nodes fs) b (es ++ (e ∷ [])) (xs ++ zs)
  child-more b es xs e zs sh same at st ag built =
      shares-more (λ b' ys. Built fs room m' b' ys c) m' (nodes fs) b es xs e zs
      (shares-kept (λ b' ys. Built fs room m b' ys c) (λ b' ys. Built fs room m' b' ys c) m m' (nodes fs) (nodes-some fs)
      (λ b' ys same' h. built-kept fs room m m' c b' ys same' h)
      es
      b
      xs
      same
      sh)
      at
      st
      ag
      built

  -- a first entry opened below
  open-shares : (g : ℕ → List Spot → Type 0) (w b : ℕ) (es : List Entry) (ys : List Spot) → Shares g m' w b es ys → Shares g m' w b (first_open es) ys
  unfolding agrees
  open-shares g w b [] ys sh = sh
  open-shares g w b (e ∷ es) ys sh =
      record {
        own = sh.own;
        others = sh.others;
        split = sh.split;
        some = sh.some;
        next = sh.next;
        at = sh.at;
        agree = sh.agree;
        built = sh.built;
        rest = sh.rest;
      }

  open-low : (es : List Entry) → next_low (first_open es) 0 ≡ 0
  open-low [] = refl
  open-low (e ∷ es) = refl

  -- the node, stored last, over all its children
  inner-built : (f t b : ℕ) (es : List Entry) (ys : List Spot) → Shares (λ b' zs. Built fs room m b' zs c) m (nodes fs) (b + 1) es ys → length es ≡ f
      → Alike m m' (b + 1) (f * nodes fs)
      → m' b ≡ built_node room (suc (length fs)) (first_open es) (band c t ys)
      → c ≤ t
      → length (band c t ys) ≤ 64
      → (32 ≤ length (band c t ys)) ⊎ (c ≡ 0)
      → Built (f ∷ fs) room m' b ys t
  inner-built f t b es ys sh n same e under most least =
      let w : length es * nodes fs ≡ f * nodes fs = ap (λ (i : ℕ). i * nodes fs) n in
      record {
        c = c;
        es = first_open es;
        node = record { is = e; most = most; least = least; under = under };
        count = length-open es ∙ n;
        first = open-low es;
        shares =
            open-shares (λ b' zs. Built fs room m' b' zs c) (nodes fs) (b + 1) es ys
            (shares-kept (λ b' zs. Built fs room m b' zs c) (λ b' zs. Built fs room m' b' zs c) m m' (nodes fs) (nodes-some fs)
            (λ b' zs same' h. built-kept fs room m m' c b' zs same' h)
            es
            (b + 1)
            ys
            (λ i lo hi. same i lo (omega (arith, w, hi)))
            sh);
      }

-- the first entry begins at the first spot
starts_first : (e : Entry) (es : List Entry) (ys : List Spot) → is_empty ys ≡ false → e.low ≡ first_spot_key ys → Starts (e ∷ es) ys
starts_first e es [] h l = true≢false h
starts_first e es (s ∷ ss) h l = l

-- The same on bytes
-- the loop over the children: one call more
pub child-built : (room : ℕ) (fs : List ℕ) (c b : ℕ) (t u : List ℕ) (es : List Entry) (xs : List Spot) (e : Entry) (zs : List Spot)
    → Shares (λ b' ys. Built fs room (store_of t) b' ys c) (store_of t) (nodes fs) b es xs
    → is_empty zs ≡ false
    → BuildPost room fs (b + length es * nodes fs) zs c t u e
    → Shares (λ b' ys. Built fs room (store_of u) b' ys c) (store_of u) (nodes fs) b (es ++ (e ∷ [])) (xs ++ zs)
child-built room fs c b t u es xs e zs sh some p =
    child-more fs room c (store_of t) (store_of u) b es xs e zs sh (λ i lo hi. store_same t u p.sized i (p.other i (inl hi))) p.at (starts_first e [] zs some p.low)
    p.agree
    p.built

-- the node, stored after its children
pub node-built : (room : ℕ) (fs : List ℕ) (c f limit b : ℕ) (t u : List ℕ) (es : List Entry) (ys : List Spot)
    → Shares (λ b' zs. Built fs room (store_of t) b' zs c) (store_of t) (nodes fs) (b + 1) es ys
    → length es ≡ f
    → length u ≡ length t
    → ((i : ℕ) → (i ≡ b → ⊥) → block u i ≡ block t i)
    → store_of u b ≡ built_node room (suc (length fs)) (first_open es) (band c limit ys)
    → c ≤ limit
    → length (band c limit ys) ≤ 64
    → (32 ≤ length (band c limit ys)) ⊎ (c ≡ 0)
    → Built (f ∷ fs) room (store_of u) b ys limit
node-built room fs c f limit b t u es ys sh n l same e under most least =
    inner-built fs room c (store_of t) (store_of u) f limit b es ys sh n (λ i lo hi. store_same t u l i (same i (λ (z : i ≡ b). omega arith))) e under most least
