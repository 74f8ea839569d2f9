-- The live spots of a sound table with one spot put in or taken out: what they find, and how many they are.
-- Assumes nothing.
use mathlib.Core.Path.{◌≡◌, refl, ap, ap₂, sym, ◌∙◌}
use mathlib.Core.Logic.{⊎_elim}
use mathlib.Core.Bool.{Bool, true, false, cond, ◌&&◌, ◌||◌}
use mathlib.Core.List.{List, [], ◌∷◌}
use mathlib.Core.Option.{Option, none, some}
use Prim.Native.Nat.{ℕ, suc, ◌+◌, ◌≤◌, ◌<◌}
use native.Mathlib.Omega.{arith}
use lib.Dec.{eqb, leb}
use lib.ListN.{length}
use borrow.Author.Tests.{eq-eqb, ne_eqb, le-leb, lt-leb}
use Rattle.octets.specs.Lists.{every, rising}
use Rattle.octets.proofs.Order.{same_or_not}
use Rattle.octets.proofs.Tests.{and_both}
use Rattle.spot.specs.Keys.{limited}
use Rattle.spot.specs.declared.Spot.{Spot}
use Rattle.spot.specs.Spots.{keys, find, put, without}
use Rattle.spot.proofs.Canon.{canon, find-without, without-rises, length-put}
use Rattle.block.specs.Table.{capacity}
use Rattle.block.specs.Header.{head_of}
use Rattle.tree.specs.Lookup.{or_else, live, with_key}
use Rattle.tree.specs.Sound.{sound, Shaped}
use Rattle.tree.specs.Walk.{live_spots, live_count}
use Rattle.tree.proofs.Tables.{tree-rises, tree_finds, live-rises, live-finds, counted}
use Rattle.tree.proofs.Says.{find-replaced, replaced-rises}
use Rattle.batch.specs.Batches.{batch_says}
use Rattle.revise.specs.Numbers.{add_number}

-- the list ys rises and finds what shall be live after a change to t, if t is sound
pub record Planned (t : List ℕ) (ys : List Spot) (after : ℕ → Option ℕ) : Type 0 where
  pub up : sound t ≡ true → rising (keys ys) ≡ true
  pub finds : sound t ≡ true → (k : ℕ) → find k ys ≡ after k

pub planned-put : (t : List ℕ) (s : Spot) → Planned t (put s (without s.key (live_spots t))) (with_key s.key (some s.track) (live t))
unfolding with_key
planned-put t s =
    record {
      up = λ h. replaced-rises s (live_spots t) (live-rises t h);
      finds = λ h k. find-replaced k s (live_spots t) ∙ ap (cond (eqb k s.key) (some s.track)) (live-finds t h k);
    }

pub planned-out : (t : List ℕ) (j : ℕ) → Planned t (without j (live_spots t)) (with_key j none (live t))
unfolding with_key
planned-out t j =
    record {
      up = λ h. without-rises 0 j (live_spots t) (live-rises t h);
      finds = λ h k. find-without k j (live_spots t) ∙ ap (cond (eqb k j) none) (live-finds t h k);
    }

-- a table in which this is live has these spots
pub spots-are : {t t' : List ℕ} {ys : List Spot} {after : ℕ → Option ℕ} → Planned t ys after → sound t ≡ true → Shaped t' → ((k : ℕ) → live t' k ≡ after k) → live_spots t' ≡ ys
spots-are {t} {t'} {ys} p h g l = canon 0 (live_spots t') ys (tree-rises t' g) (p.up h) (λ k. tree_finds t' g k ∙ l k ∙ sym (p.finds h k))

-- what a batch of one says
one_in : (b : Bool) (a : ℕ) (d : Option ℕ) → or_else (cond b (some a) none) d ≡ cond b (some a) d
one_in true a d = refl
one_in false a d = refl

one_out : (b : Bool) (d : Option ℕ) → cond (b || false) none d ≡ cond b none d
one_out true d = refl
one_out false d = refl

pub says-put : {ss : List Spot} {ks : List ℕ} (s : Spot) (before : ℕ → Option ℕ) → ss ≡ s ∷ [] → ks ≡ [] → (k : ℕ)
    → batch_says ss ks k (before k) ≡ with_key s.key (some s.track) before k
unfolding with_key
says-put s before e f k = ap₂ (λ ss ks. batch_says ss ks k (before k)) e f ∙ one_in (eqb k s.key) s.track (before k)

pub says-out : {ss : List Spot} {ks : List ℕ} (j : ℕ) (before : ℕ → Option ℕ) → ss ≡ [] → ks ≡ j ∷ [] → (k : ℕ)
    → batch_says ss ks k (before k) ≡ with_key j none before k
unfolding with_key
says-out j before e f k = ap₂ (λ ss ks. batch_says ss ks k (before k)) e f ∙ one_out (eqb k j) (before k)

-- its keys are inside the limits if the one is
pub one-limited : {ks : List ℕ} (k : ℕ) → ks ≡ k ∷ [] → limited k ≡ true → every limited ks ≡ true
one-limited k e h = ap (every limited) e ∙ and_both (limited k) true h refl

-- ---- how many they are

-- a key's word is known
same_word : (k : ℕ) (o : Option ℕ) (xs : List Spot) → find k xs ≡ o → (j : ℕ) → find j xs ≡ cond (eqb j k) o (find j xs)
same_word k o xs e j =
    ⊎_elim (λ (g : j ≡ k). ap (λ (i : ℕ). find i xs) g ∙ e ∙ sym (rw (eq-eqb j k g))) (λ (g : j ≡ k → ⊥). rw (ne_eqb j k g)) (same_or_not j k)

-- a key that is there is one of them
out-fewer : (k a : ℕ) (xs : List Spot) → rising (keys xs) ≡ true → find k xs ≡ some a → length xs ≡ suc (length (without k xs))
out-fewer k a xs u e =
    let s : Spot = record { key = k; track = a } in
    ap length (canon 0 xs (put s (without k xs)) u (replaced-rises s xs u) (λ j. same_word k (some a) xs e j ∙ sym (find-replaced j s xs))) ∙ length-put s (without k xs)

-- one that is not is none of them
out_none : (k : ℕ) (xs : List Spot) → rising (keys xs) ≡ true → find k xs ≡ none → without k xs ≡ xs
out_none k xs u e = canon 0 (without k xs) xs (without-rises 0 k xs u) u (λ j. find-without j k xs ∙ sym (same_word k none xs e j))

pub live-are : (t : List ℕ) → live_count t ≡ length (live_spots t)
unfolding live_count
live-are t = refl

module _ (t : List ℕ) (h : sound t ≡ true) where
  pub count_most : live_count t ≤ (head_of t).bound
  count_most = omega (arith, live-are t, counted t h)

  module _ (s : Spot) where
    pub put-new : live t s.key ≡ none → length (put s (without s.key (live_spots t))) ≡ live_count t + 1
    put-new e =
        omega (arith, live-are t, length-put s (without s.key (live_spots t)), ap length (out_none s.key (live_spots t) (live-rises t h) (live-finds t h s.key ∙ e)))

    pub put_same : {a : ℕ} → live t s.key ≡ some a → length (put s (without s.key (live_spots t))) ≡ live_count t
    put_same {a} e =
        omega (arith, live-are t, length-put s (without s.key (live_spots t)), out-fewer s.key a (live_spots t) (live-rises t h) (live-finds t h s.key ∙ e))

  module _ (k : ℕ) where
    pub out_one : {a : ℕ} → live t k ≡ some a → length (without k (live_spots t)) + 1 ≡ live_count t
    out_one {a} e = omega (arith, live-are t, out-fewer k a (live_spots t) (live-rises t h) (live-finds t h k ∙ e))

-- ---- the number of Add

pub add-room : (bytes spots : ℕ) (there : Bool) → spots < capacity bytes → add_number bytes spots there ≡ 0
unfolding add_number
add-room bytes spots there h = rw (lt-leb (capacity bytes) spots h)

pub add-live : (bytes spots : ℕ) → add_number bytes spots true ≡ 0
unfolding add_number
add-live bytes spots = go (leb (capacity bytes) spots)
  where
    go : (b : Bool) → cond {A = ℕ} (b && false) 4 0 ≡ 0
    go true = refl
    go false = refl

pub add-full : (bytes spots : ℕ) → capacity bytes ≤ spots → add_number bytes spots false ≡ 4
unfolding add_number
add-full bytes spots h = rw (le-leb (capacity bytes) spots h)
