-- The table after a change of its tree, once block 0 says so. The tree is changed cut down to the limits; here it becomes the whole one again.
-- Assumes nothing.
use mathlib.Core.Path.{◌≡◌, refl, ap, ap₂, sym, ◌∙◌, subst, subst⁻¹}
use mathlib.Core.Logic.{inl, inr, ⊎_elim}
use mathlib.Core.Bool.{Bool, true, false, true≢false}
use mathlib.Core.List.{List, [], ◌∷◌, Memᴰ, append-nil}
use mathlib.Core.Option.{Option, none, some}
use Prim.Native.Nat.{ℕ, suc, ◌≤◌, ◌<◌}
use native.Mathlib.Omega.{arith}
use lib.ListN.{length}
use Rattle.octets.specs.Lists.{distinct}
use Rattle.octets.specs.Bitmap.{bit}
use Rattle.octets.specs.Sets.{Apart}
use Rattle.octets.proofs.Sets.{has-not}
use Rattle.octets.proofs.UpTo.{up_to-from}
use Rattle.spot.specs.Keys.{all_keys, within, start_key, end_key}
use Rattle.spot.specs.Spots.{keys, find}
use Rattle.spot.specs.declared.Spot.{Spot}
use Rattle.spot.proofs.Buffers.{find-mem}
use Rattle.spot.proofs.Limits.{limited-within}
use Rattle.block.specs.declared.Asked.TheVariants.{Root}
use Rattle.block.specs.Table.{map_blocks}
use Rattle.block.specs.Header.{Header, head_of}
use Rattle.block.specs.HeaderRules.{header_ok}
use Rattle.block.specs.NodeRules.{stands_in}
use Rattle.block.specs.Node.{Store, store_of}
use Rattle.block.proofs.Frames.{store_same}
use Rattle.tree.specs.Part.{Part, whole}
use Rattle.tree.specs.Lookup.{lookup, live, or_else}
use Rattle.tree.specs.Reach.{reach}
use Rattle.tree.specs.Sound.{sound_at, map_exact, Shaped}
use Rattle.tree.proofs.Legal.{cut-sound, widen-sound, cut-reach, cut-lookup, lookup-outside}
use Rattle.tree.proofs.Marks.{exact-once, exact-bit, read_mem}
use Rattle.tree.proofs.Sources.{table-reach, header-few}
use Rattle.update_theory.specs.Change.{part, reaches, Sound}
use Rattle.update_theory.specs.Spare.{Taken}
use Rattle.update_theory.proofs.Count.{map-after}
use Rattle.spare.specs.declared.Spare.{Spare}
use Rattle.spare.specs.Spares.{spare_of, taken_of, SpareIn, Reheaded}
use Rattle.spare.proofs.Taking.{taken_is, taken_not}
use Rattle.batch.specs.Batches.{batch_says}
use Rattle.change.specs.Growing.{Rooted}
use Rattle.change.proofs.Trees.{sound-of, of-sound, rooted-frame}

-- ---- the tree of a table that keeps the rules

-- cut down to the limits
abbrev inside : List ℕ → Part
inside t = part (head_of t).root (Root (head_of t).root) start_key end_key

module _ (t : List ℕ) (s : Shaped t) where
  same-reach : reach (head_of t).levels (store_of t) (inside t) ≡ reach (head_of t).levels (store_of t) (whole (head_of t))
  same-reach = cut-reach (head_of t).levels (store_of t) (head_of t).root (Root (head_of t).root)

  -- its parts are one
  pub inside-sound : Sound (head_of t).levels (store_of t) (inside t ∷ [])
  unfolding stands_in
  inside-sound =
      sound-of (head_of t).levels (store_of t) (inside t) refl (cut-sound (head_of t).levels (store_of t) (head_of t).root (Root (head_of t).root) s.tree)
      (ap distinct same-reach ∙ exact-once (head_of t).in_use _ s.map)

  one-reach : reaches (head_of t).levels (store_of t) (inside t ∷ []) ≡ reach (head_of t).levels (store_of t) (whole (head_of t))
  one-reach = append-nil (reach (head_of t).levels (store_of t) (inside t)) ∙ same-reach

  reached-in : (z : ℕ) → Memᴰ z (reaches (head_of t).levels (store_of t) (inside t ∷ [])) → Memᴰ z (reach (head_of t).levels (store_of t) (whole (head_of t)))
  reached-in z i = subst (λ (bs : List ℕ). Memᴰ z bs) one-reach i

  -- block 0 isn't reached
  pub zero-off : Memᴰ 0 (reaches (head_of t).levels (store_of t) (inside t ∷ [])) → ⊥
  zero-off i = let z = (table-reach t s.header s.tree 0 (reached-in 0 i)).some in omega arith

  -- nor are blocks that the map does not mark
  pub spare-apart : (spare : Spare) → SpareIn t spare → Apart (spare_of spare spare.n) (reaches (head_of t).levels (store_of t) (inside t ∷ []))
  spare-apart spare u z i j =
      let k = reached-in z j in
      let low : z < 4096 = let a = (table-reach t s.header s.tree z k).low in omega (arith, header-few t s.header) in
      true≢false (sym (exact-bit (head_of t).in_use _ s.map z low ∙ read_mem _ z k) ∙ u.unused z i)

-- ---- keys outside the limits

-- none is live
live-outside : (t : List ℕ) → Shaped t → (k : ℕ) → within start_key end_key k ≡ false → live t k ≡ none
unfolding live
live-outside t s k w = lookup-outside (head_of t).levels (store_of t) (head_of t).root (Root (head_of t).root) s.tree k (limited-within k ∙ w)

-- and a batch says nothing of them
pub says-off : (ss : List Spot) (ks : List ℕ) → ((k : ℕ) → Memᴰ k (keys ss) → within start_key end_key k ≡ true) → ((k : ℕ) → Memᴰ k ks → within start_key end_key k ≡ true)
    → (k : ℕ) → within start_key end_key k ≡ false → batch_says ss ks k none ≡ none
says-off ss ks hi hd k w =
    rw (has-not k ks (λ i. true≢false (sym (hd k i) ∙ w))) (go (find k ss) refl)
  where
    go : (o : Option ℕ) → find k ss ≡ o → or_else o none ≡ none
    go none e = refl
    go (some a) e = absurd (true≢false (sym (hi k (find-mem k ss e)) ∙ w))

-- ---- the table after it

module _ (t v u : List ℕ) (spare : Spare) (left h root bound : ℕ) (f : ℕ → Option ℕ) (y : Store) (s : Shaped t) (unused : SpareIn t spare) (less : left ≤ spare.n)
    (g : Rooted (head_of t).levels (store_of t) (inside t ∷ []) (Taken (spare_of spare spare.n) (spare_of spare left)) h y root f)
    (sized : length v ≡ length t) (head : head_of v ≡ head_of t) (else : (z : ℕ) → (z ≡ 0 → ⊥) → store_of v z ≡ y z)
    (r : Reheaded v u (taken_of spare left) h root bound) where
  tree : Rooted (head_of t).levels (store_of t) (inside t ∷ []) (Taken (spare_of spare spare.n) (spare_of spare left)) h (store_of u) root f
  tree =
      rooted-frame (head_of t).levels (store_of t) (inside t ∷ []) (Taken (spare_of spare spare.n) (spare_of spare left)) h y root f (store_of u)
      (zero-off t s) (λ i. let z = (unused.fits.inside 0 i.0).0 in omega arith)
      (λ z d. store_same v u r.sized z (r.else z d) ∙ else z d) g

  is_whole : whole (head_of u) ≡ part root (Root root) 0 all_keys
  is_whole = ap (λ (b : ℕ). part b (Root b) 0 all_keys) r.root_is

  wide : sound_at h (store_of u) (part root (Root root) 0 all_keys) ≡ true
  wide = widen-sound h (store_of u) root (Root root) (of-sound h (store_of u) (part root (Root root) start_key end_key) tree.sound).0

  map_is : map_exact (head_of u).in_use (reach h (store_of u) (part root (Root root) start_key end_key)) ≡ true
  map_is =
      map-after (head_of t).in_use (head_of u).in_use (reach (head_of t).levels (store_of t) (whole (head_of t))) (reach h (store_of u) (part root (Root root) start_key end_key))
      (spare_of spare spare.n) (spare_of spare left) s.map (of-sound h (store_of u) (part root (Root root) start_key end_key) tree.sound).1
      (λ z i. ⊎_elim (λ j. inl (reached-in t s z j)) inr (tree.reached z i))
      (λ z i. tree.still z (⊎_elim (λ j. inl (subst⁻¹ (λ (bs : List ℕ). Memᴰ z bs) (one-reach t s) j)) inr i))
      (λ z i n. r.marked z (taken_is spare left less unused.fits.once z n.0 n.1))
      (λ z i n. r.others z (let q = up_to-from 0 map_blocks i in omega arith) (λ j. n (taken_not spare left less unused.fits.once z j)) ∙ ap (λ (x : Header). bit x.in_use z) head)

  -- it keeps the rules
  pub after-shaped : Shaped u
  after-shaped =
      record {
        header = subst⁻¹ (λ (n : ℕ). header_ok n (head_of u) ≡ true) r.sized r.ok;
        tree = ap₂ (λ (n : ℕ) (p : Part). sound_at n (store_of u) p) r.levels is_whole ∙ wide;
        map = ap₂ (λ (n : ℕ) (p : Part). map_exact (head_of u).in_use (reach n (store_of u) p)) r.levels is_whole ∙ sym (ap (map_exact (head_of u).in_use) (cut-reach h (store_of u) root (Root root))) ∙ map_is;
      }

  -- and its live spots are those
  pub after-live : (k : ℕ) → within start_key end_key k ≡ true → live u k ≡ f k
  unfolding live
  after-live k w = ap₂ (λ (n : ℕ) (p : Part). lookup n (store_of u) k p) r.levels is_whole ∙ sym (cut-lookup h (store_of u) root (Root root) wide k) ∙ tree.found k w

-- with the batch's words, for every key
pub after-says : (t u : List ℕ) (ss : List Spot) (ks : List ℕ) → Shaped t → Shaped u
    → ((k : ℕ) → Memᴰ k (keys ss) → within start_key end_key k ≡ true) → ((k : ℕ) → Memᴰ k ks → within start_key end_key k ≡ true)
    → ((k : ℕ) → within start_key end_key k ≡ true → live u k ≡ batch_says ss ks k (live t k)) → (k : ℕ) → live u k ≡ batch_says ss ks k (live t k)
after-says t u ss ks s s' hi hd h k = go (within start_key end_key k) refl
  where
    go : (b : Bool) → within start_key end_key k ≡ b → live u k ≡ batch_says ss ks k (live t k)
    go true w = h k w
    go false w = live-outside u s' k w ∙ sym (ap (batch_says ss ks k) (live-outside t s k w) ∙ says-off ss ks hi hd k w)

-- ---- the root that block 0 names

module _ (t : List ℕ) (root level : ℕ) (at-root : root ≡ (head_of t).root) (at_level : suc level ≡ (head_of t).levels) where
  abbrev here : Part
  here = part root (Root root) start_key end_key

  inside_is : here ≡ inside t
  inside_is = ap (λ (b : ℕ). part b (Root b) start_key end_key) at-root

  -- its tree is sound
  pub root-sound : Shaped t → Sound (suc level) (store_of t) (part root (Root root) start_key end_key ∷ [])
  root-sound s =
      subst⁻¹ (λ (h : ℕ). Sound h (store_of t) (here ∷ [])) at_level
      (subst⁻¹ (λ (p : Part). Sound (head_of t).levels (store_of t) (p ∷ [])) inside_is (inside-sound t s))

  -- and spare blocks are none of its own
  pub root-apart : Shaped t → (spare : Spare) → SpareIn t spare → Apart (spare_of spare spare.n) (reaches (suc level) (store_of t) (part root (Root root) start_key end_key ∷ []))
  root-apart s spare u =
      subst⁻¹ (λ (h : ℕ). Apart (spare_of spare spare.n) (reaches h (store_of t) (here ∷ []))) at_level
      (subst⁻¹ (λ (p : Part). Apart (spare_of spare spare.n) (reaches (head_of t).levels (store_of t) (p ∷ []))) inside_is (spare-apart t s spare u))

  module _ (v u : List ℕ) (spare : Spare) (left h new bound : ℕ) (y : Store) (ss : List Spot) (ks : List ℕ) (s : Shaped t) (unused : SpareIn t spare) (less : left ≤ spare.n)
      (fitI : (k : ℕ) → Memᴰ k (keys ss) → within start_key end_key k ≡ true) (fitD : (k : ℕ) → Memᴰ k ks → within start_key end_key k ≡ true)
      (g : Rooted (suc level) (store_of t) (part root (Root root) start_key end_key ∷ []) (Taken (spare_of spare spare.n) (spare_of spare left)) h y new
      (λ k. batch_says ss ks k (lookup (suc level) (store_of t) k (part root (Root root) start_key end_key))))
      (sized : length v ≡ length t) (head : head_of v ≡ head_of t) (else : (z : ℕ) → (z ≡ 0 → ⊥) → store_of v z ≡ y z)
      (r : Reheaded v u (taken_of spare left) h new bound) where
    abbrev says : ℕ → Option ℕ
    says k = batch_says ss ks k (lookup (head_of t).levels (store_of t) k (inside t))

    named : Rooted (head_of t).levels (store_of t) (inside t ∷ []) (Taken (spare_of spare spare.n) (spare_of spare left)) h y new says
    named =
        subst (λ (p : Part). Rooted (head_of t).levels (store_of t) (p ∷ []) (Taken (spare_of spare spare.n) (spare_of spare left)) h y new (λ k. batch_says ss ks k (lookup (head_of t).levels (store_of t) k p))) inside_is
        (subst (λ (n : ℕ). Rooted n (store_of t) (here ∷ []) (Taken (spare_of spare spare.n) (spare_of spare left)) h y new (λ k. batch_says ss ks k (lookup n (store_of t) k here))) at_level g)

    -- the table after a change of its root
    pub change-shaped : Shaped u
    change-shaped = after-shaped t v u spare left h new bound says y s unused less named sized head else r

    -- what is live then
    pub change-live : (k : ℕ) → live u k ≡ batch_says ss ks k (live t k)
    unfolding live
    change-live =
        after-says t u ss ks s change-shaped fitI fitD
        (λ k w.
        after-live t v u spare left h new bound says y s unused less named sized head else r k w
        ∙ ap (batch_says ss ks k) (cut-lookup (head_of t).levels (store_of t) (head_of t).root (Root (head_of t).root) s.tree k))
