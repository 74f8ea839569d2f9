-- The buffers of a node in memory, over what is found below it: all the rules but the sizes. Each step of an update keeps them, and what is found.
-- Assumes nothing.
use mathlib.Core.Path.{◌≡◌, refl, ap, sym, ◌∙◌}
use mathlib.Core.Logic.{◌⊎◌, inl, inr, ⊎_elim}
use mathlib.Core.Bool.{Bool, true, false, not, cond, ◌||◌}
use mathlib.Core.List.Memᴰ
use mathlib.Core.List.{List, [], Memᴰ}
use mathlib.Core.Option.{Option, none, some, some-ne-none}
use Prim.Native.Nat.{ℕ, suc, ◌<◌, ◌≤◌}
use native.Mathlib.Omega.{arith}
use lib.Dec.{eqb}
use borrow.Author.Tests.{eq-eqb, ne_eqb, ltb-true, lt-ltb, le-ltb}
use Rattle.octets.specs.Lists.{keep, has, rising}
use Rattle.octets.proofs.Order.{same_or_not, less-or-not}
use Rattle.octets.proofs.Sets.{has-not, has-keep}
use Rattle.octets.proofs.Tests.{keep-mem}
use Rattle.octets.proofs.Rising.{keep-rises}
use Rattle.spot.specs.declared.Spot.{Spot}
use Rattle.spot.specs.Spots.{keys, find, put}
use Rattle.spot.specs.Keys.{rank_key, all_keys, within}
use Rattle.spot.specs.Sorted.{only, insert_key, but, lower}
use Rattle.spot.proofs.Canon.{cond-none, find-put, find-only}
use Rattle.spot.proofs.Places.{within-to}
use Rattle.spot.proofs.Halves.{rank-strict}
use Rattle.spot.proofs.Buffers.{only-rises, only-mem, find-mem, find_none, put-mem, put_up}
use Rattle.spot.proofs.Sorted.{has-insert_key, insert_key-mem, insert_key-rises, but-not}
use Rattle.tree.specs.Lookup.{or_else}
use Rattle.update_theory.specs.Open.{say, NodeReady}

-- fewer in each buffer, and nothing of rank r found below
pub ready-fewer : {lo hi r : ℕ} {P I : List Spot} {D : List ℕ} {below : ℕ → Option ℕ} → NodeReady lo hi r P I D below → {P' I' : List Spot} {D' : List ℕ} {below' : ℕ → Option ℕ}
    → rising (keys P') ≡ true → rising (keys I') ≡ true → rising D' ≡ true
    → ((k : ℕ) → Memᴰ k (keys P') → Memᴰ k (keys P)) → ((k : ℕ) → Memᴰ k (keys I') → Memᴰ k (keys I)) → ((k : ℕ) → Memᴰ k D' → Memᴰ k D)
    → ((k a : ℕ) → below' k ≡ some a → rank_key k < r)
    → NodeReady lo hi r P' I' D' below'
ready-fewer h up_p up_i up_d in_p in_i in_d deep =
    record {
      up_p = up_p;
      up_i = up_i;
      up_d = up_d;
      in_p = λ k i. h.in_p k (in_p k i);
      in_i = λ k i. h.in_i k (in_i k i);
      in_d = λ k i. h.in_d k (in_d k i);
      off = λ k i j. h.off k (in_i k i) (in_d k j);
      above = λ k i. h.above k (in_p k i);
      under_i = λ k i. h.under_i k (in_i k i);
      under_d = λ k i. h.under_d k (in_d k i);
      deep = deep;
    }

-- what is not of the rank that is live below is not found there
pub too-high : (r : ℕ) (below : ℕ → Option ℕ) → ((k a : ℕ) → below k ≡ some a → rank_key k < r) → (k : ℕ) → r ≤ rank_key k → below k ≡ none
too-high r below deep k h = go (below k) refl
  where
    go : (o : Option ℕ) → below k ≡ o → below k ≡ none
    go none e = e
    go (some a) e = let z = deep k a e in absurd (omega arith)

module _ (lo hi : ℕ) (full : hi ≤ all_keys) where
  under_all : (k : ℕ) → within lo hi k ≡ true → k < all_keys
  under_all k w = let z = within-to lo hi k w in omega arith

  -- of two keys of the range one is above the other
  pub strict : (a b : ℕ) → within lo hi a ≡ true → within lo hi b ≡ true → (a ≡ b → ⊥) → rank_key a ≤ rank_key b → rank_key a < rank_key b
  strict a b u v n h = rank-strict a b (under_all a u) (under_all b v) n h

  module _ (r : ℕ) (P I : List Spot) (D : List ℕ) (below : ℕ → Option ℕ) (h : NodeReady lo hi r P I D below) where
    -- where a key of P, of I, of D isn't
    P-not-I : (k : ℕ) → r ≤ rank_key k → find k I ≡ none
    P-not-I k g = find_none k I (λ i. let z = h.under_i k i in omega arith)

    P-not-D : (k : ℕ) → r ≤ rank_key k → has k D ≡ false
    P-not-D k g = has-not k D (λ i. let z = h.under_d k i in omega arith)

    not-P : (k : ℕ) → rank_key k < r → find k P ≡ none
    not-P k g = find_none k P (λ i. let z = h.above k i in omega arith)

    P-not-below : (k : ℕ) → r ≤ rank_key k → below k ≡ none
    P-not-below k g = too-high r below h.deep k g

    -- 5. FILL, one round. t is the highest of I and of what is live below; `below'` is what is found below afterwards: t is no longer there.
    module _ (t : ℕ) (wt : within lo hi t ≡ true) (below' : ℕ → Option ℕ) (gone : below' t ≡ none)
        (stays : (k : ℕ) → (k ≡ t → ⊥) → below' k ≡ below k)
        (best : (k a : ℕ) → below k ≡ some a → rank_key k ≤ rank_key t) (inn : (k a : ℕ) → below' k ≡ some a → within lo hi k ≡ true) where
      -- D's keys from t on may go
      drop-D : (k : ℕ) → within lo hi k ≡ true → (k ≡ t → ⊥) → cond (has k (keep (lower t) D)) none (below' k) ≡ cond (has k D) none (below k)
      drop-D k w n = rw (has-keep (lower t) k D, stays k n) (⊎_elim (λ g. high g) (λ (g : rank_key k < rank_key t). rw (lt-ltb (rank_key k) (rank_key t) g)) (less-or-not (rank_key t) (rank_key k)))
        where
          high : rank_key t ≤ rank_key k → cond (cond (lower t k) (has k D) false) none (below k) ≡ cond (has k D) none (below k)
          high g =
              let z = strict t k wt w (λ e. n (sym e)) g in
              let e : below k ≡ none = too-high (suc (rank_key t)) below (λ j a i. let u = best j a i in omega arith) k z in
              rw (le-ltb (rank_key k) (rank_key t) g, e) (sym (cond-none (has k D)))

      deep' : (k a : ℕ) → below' k ≡ some a → rank_key k < rank_key t
      deep' k a e = go (same_or_not k t)
        where
          go : (k ≡ t) ⊎ (k ≡ t → ⊥) → rank_key k < rank_key t
          go (inl i) = absurd (some-ne-none _ (sym e ∙ ap below' i ∙ gone))
          go (inr n) = strict k t (inn k a e) wt n (best k a (sym (stays k n) ∙ e))

      -- t, and nothing else, may come to P; all others are under it
      fill-by : (P' I' : List Spot) → rising (keys P') ≡ true → rising (keys I') ≡ true → ((k : ℕ) → Memᴰ k (keys P') → (k ≡ t) ⊎ Memᴰ k (keys P))
          → ((k : ℕ) → Memᴰ k (keys I') → Memᴰ k (keys I)) → rank_key t < r → ((k : ℕ) → Memᴰ k (keys I') → rank_key k < rank_key t)
          → NodeReady lo hi (rank_key t) P' I' (keep (lower t) D) below'
      fill-by P' I' up_p up_i from-P from-I r>t under =
          record {
            up_p = up_p;
            up_i = up_i;
            up_d = keep-rises (lower t) 0 D h.up_d;
            in_p = λ k i. ⊎_elim (λ (g : k ≡ t). ap (within lo hi) g ∙ wt) (λ j. h.in_p k j) (from-P k i);
            in_i = λ k i. h.in_i k (from-I k i);
            in_d = λ k i. h.in_d k (keep-mem (lower t) D i).0;
            off = λ k i j. h.off k (from-I k i) (keep-mem (lower t) D j).0;
            above = λ k i. ⊎_elim (λ (g : k ≡ t). rw g (omega arith)) (λ j. let z = h.above k j in omega arith) (from-P k i);
            under_i = under;
            under_d = λ k i. ltb-true (rank_key k) (rank_key t) (keep-mem (lower t) D i).1;
            deep = deep';
          }

      -- (from I; an older copy below may have been taken out)
      pub fill-I : (s : Spot) → s.key ≡ t → find t I ≡ some s.track → ((k : ℕ) → Memᴰ k (keys I) → rank_key k ≤ rank_key t)
          → NodeReady lo hi (rank_key t) (put s P) (only (but t) I) (keep (lower t) D) below'
          × ((k : ℕ) → within lo hi k ≡ true → say (put s P) (only (but t) I) (keep (lower t) D) k (below' k) ≡ say P I D k (below k))
      fill-I s e f top = (
        fill-by (put s P) (only (but t) I) (put_up s P h.up_p (λ i. let z = h.above t (rw e at i) in omega (arith, r>t))) (only-rises (but t) I h.up_i)
            (λ k i. ⊎_elim (λ g. inl (g ∙ e)) inr (put-mem s P i)) (λ k i. (only-mem (but t) I i).0) r>t
            (λ k i. let m = only-mem (but t) I i in strict k t (h.in_i k m.0) wt (but-not t k m.1) (top k m.0)),
        λ k w. rw (find-put k s P, e, find-only (but t) k I) (go k w (same_or_not k t)),
      )
        where
          r>t : rank_key t < r
          r>t = h.under_i t (find-mem t I f)

          go : (k : ℕ) → within lo hi k ≡ true → (k ≡ t) ⊎ (k ≡ t → ⊥)
              → or_else (cond (eqb k t) (some s.track) (find k P)) (or_else (cond (but t k) (find k I) none) (cond (has k (keep (lower t) D)) none (below' k))) ≡ say P I D k (below k)
          go k w (inl i) = rw (i, eq-eqb t t refl, not-P t r>t, f)
          go k w (inr n) = rw (ne_eqb k t n) (ap (λ (o : Option ℕ). or_else (find k P) (or_else (find k I) o)) (drop-D k w n))

      -- (from a child, and D doesn't name it)
      pub fill-child : (s : Spot) → s.key ≡ t → below t ≡ some s.track → ((k : ℕ) → Memᴰ k (keys I) → rank_key k < rank_key t) → has t D ≡ false
          → NodeReady lo hi (rank_key t) (put s P) I (keep (lower t) D) below' × ((k : ℕ) → within lo hi k ≡ true → say (put s P) I (keep (lower t) D) k (below' k) ≡ say P I D k (below k))
      fill-child s e f top o = (
        fill-by (put s P) I (put_up s P h.up_p (λ i. let z = h.above t (rw e at i) in omega (arith, r>t))) h.up_i (λ k i. ⊎_elim (λ g. inl (g ∙ e)) inr (put-mem s P i)) (λ k i. i) r>t top,
        λ k w. rw (find-put k s P, e) (go k w (same_or_not k t)),
      )
        where
          r>t : rank_key t < r
          r>t = h.deep t s.track f

          go : (k : ℕ) → within lo hi k ≡ true → (k ≡ t) ⊎ (k ≡ t → ⊥)
              → or_else (cond (eqb k t) (some s.track) (find k P)) (or_else (find k I) (cond (has k (keep (lower t) D)) none (below' k))) ≡ say P I D k (below k)
          go k w (inl i) = rw (i, eq-eqb t t refl, not-P t r>t, find_none t I (λ j. let z = top t j in absurd (omega arith)), o, f)
          go k w (inr n) = rw (ne_eqb k t n) (ap (λ (o : Option ℕ). or_else (find k P) (or_else (find k I) o)) (drop-D k w n))

      -- (from a child, and D names it: neither is left)
      pub fill-dead : rank_key t < r → has t D ≡ true → ((k : ℕ) → Memᴰ k (keys I) → rank_key k < rank_key t)
          → NodeReady lo hi (rank_key t) P I (keep (lower t) D) below' × ((k : ℕ) → within lo hi k ≡ true → say P I (keep (lower t) D) k (below' k) ≡ say P I D k (below k))
      fill-dead r>t o top = (fill-by P I h.up_p h.up_i (λ k i. inr i) (λ k i. i) r>t top, λ k w. go k w (same_or_not k t))
        where
          go : (k : ℕ) → within lo hi k ≡ true → (k ≡ t) ⊎ (k ≡ t → ⊥) → say P I (keep (lower t) D) k (below' k) ≡ say P I D k (below k)
          go k w (inl i) = rw (i, has-keep (lower t) t D, o, le-ltb (rank_key t) (rank_key t) (omega arith), gone)
          go k w (inr n) = ap (λ (o : Option ℕ). or_else (find k P) (or_else (find k I) o)) (drop-D k w n)

    -- nothing in I and nothing live below: D may go
    pub fill-ends : ((k : ℕ) → below k ≡ none) → NodeReady lo hi r P I [] below × ((k : ℕ) → say P I [] k (below k) ≡ say P I D k (below k))
    fill-ends e = (
      ready-fewer h h.up_p h.up_i refl (λ k i. i) (λ k i. i) (λ k i. absurd (Memᴰ.not-nil i)) h.deep,
      λ k. rw (e k) (ap (λ (o : Option ℕ). or_else (find k P) (or_else (find k I) o)) (sym (cond-none (has k D)))),
    )

    -- a key taken out of all three
    pub taken : (t : ℕ) → NodeReady lo hi r (only (but t) P) (only (but t) I) (keep (but t) D) below
    taken t =
        ready-fewer h (only-rises (but t) P h.up_p) (only-rises (but t) I h.up_i) (keep-rises (but t) 0 D h.up_d)
        (λ k i. (only-mem (but t) P i).0) (λ k i. (only-mem (but t) I i).0) (λ k i. (keep-mem (but t) D i).0) h.deep

    say-taken : (t k : ℕ) (d : Option ℕ) → say (only (but t) P) (only (but t) I) (keep (but t) D) k d ≡ cond (eqb k t) d (say P I D k d)
    say-taken t k d = rw (find-only (but t) k P, find-only (but t) k I, has-keep (but t) k D) (go (eqb k t))
      where
        go : (b : Bool)
            → or_else (cond (not b) (find k P) none) (or_else (cond (not b) (find k I) none) (cond (cond (not b) (has k D) false) none d)) ≡ cond b d (say P I D k d)
        go true = refl
        go false = refl

    -- 6. SETTLE, one change. A delete of rank r or more is done once the key is taken out.
    pub deleted-high : (t : ℕ) → r ≤ rank_key t → (k : ℕ)
        → say (only (but t) P) (only (but t) I) (keep (but t) D) k (below k) ≡ cond (eqb k t) none (say P I D k (below k))
    deleted-high t g k = say-taken t k (below k) ∙ go (same_or_not k t)
      where
        go : (k ≡ t) ⊎ (k ≡ t → ⊥) → cond (eqb k t) (below k) (say P I D k (below k)) ≡ cond (eqb k t) none (say P I D k (below k))
        go (inl i) = rw (i, eq-eqb t t refl) (P-not-below t g)
        go (inr n) = rw (ne_eqb k t n)

    -- take_top of a node: the same, where t is a key of P
    pub top_taken : (t : ℕ) → Memᴰ t (keys P) → NodeReady lo hi r (only (but t) P) I D below × ((k : ℕ) → say (only (but t) P) I D k (below k) ≡ cond (eqb k t) none (say P I D k (below k)))
    top_taken t j = (
      ready-fewer h (only-rises (but t) P h.up_p) h.up_i h.up_d (λ k i. (only-mem (but t) P i).0) (λ k i. i) (λ k i. i) h.deep,
      λ k. rw (find-only (but t) k P) (go k (same_or_not k t)),
    )
      where
        go : (k : ℕ) → (k ≡ t) ⊎ (k ≡ t → ⊥) → or_else (cond (but t k) (find k P) none) (or_else (find k I) (cond (has k D) none (below k))) ≡ cond (eqb k t) none (say P I D k (below k))
        go k (inl i) = let g = h.above t j in rw (i, eq-eqb t t refl, P-not-I t g, P-not-D t g) (P-not-below t g)
        go k (inr n) = rw (ne_eqb k t n)

    -- a delete under r goes to D
    pub delete-low : (t : ℕ) → within lo hi t ≡ true → rank_key t < r → NodeReady lo hi r (only (but t) P) (only (but t) I) (insert_key t (keep (but t) D)) below
    delete-low t w g =
        record {
          up_p = only-rises (but t) P h.up_p;
          up_i = only-rises (but t) I h.up_i;
          up_d = insert_key-rises 0 t (keep (but t) D) (omega arith) (keep-rises (but t) 0 D h.up_d) (λ i. but-not t t (keep-mem (but t) D i).1 refl);
          in_p = λ k i. h.in_p k (only-mem (but t) P i).0;
          in_i = λ k i. h.in_i k (only-mem (but t) I i).0;
          in_d = λ k i. ⊎_elim (λ (e : k ≡ t). rw e w) (λ j. h.in_d k (keep-mem (but t) D j).0) (insert_key-mem t (keep (but t) D) i);
          off = λ k i j. let m = only-mem (but t) I i in ⊎_elim (λ e. but-not t k m.1 e) (λ u. h.off k m.0 (keep-mem (but t) D u).0) (insert_key-mem t (keep (but t) D) j);
          above = λ k i. h.above k (only-mem (but t) P i).0;
          under_i = λ k i. h.under_i k (only-mem (but t) I i).0;
          under_d = λ k i. ⊎_elim (λ (e : k ≡ t). rw e g) (λ j. h.under_d k (keep-mem (but t) D j).0) (insert_key-mem t (keep (but t) D) i);
          deep = h.deep;
        }

    pub deleted-low : (t k : ℕ) → say (only (but t) P) (only (but t) I) (insert_key t (keep (but t) D)) k (below k) ≡ cond (eqb k t) none (say P I D k (below k))
    deleted-low t k = rw (find-only (but t) k P, find-only (but t) k I, has-insert_key k t (keep (but t) D), has-keep (but t) k D) (go (eqb k t))
      where
        go : (b : Bool)
            → or_else (cond (not b) (find k P) none) (or_else (cond (not b) (find k I) none) (cond (b || cond (not b) (has k D) false) none (below k))) ≡ cond b none (say P I D k (below k))
        go true = refl
        go false = refl

    -- an insert of rank r or more goes to P
    pub insert-high : (s : Spot) → within lo hi s.key ≡ true → r ≤ rank_key s.key
        → NodeReady lo hi r (put s (only (but s.key) P)) (only (but s.key) I) (keep (but s.key) D) below
    insert-high s w g =
        let t = s.key in
        let b = taken t in
        record {
          up_p = put_up s (only (but t) P) b.up_p (λ i. but-not t t (only-mem (but t) P i).1 refl);
          up_i = b.up_i;
          up_d = b.up_d;
          in_p = λ k i. ⊎_elim (λ (e : k ≡ t). ap (within lo hi) e ∙ w) (λ j. b.in_p k j) (put-mem s (only (but t) P) i);
          in_i = b.in_i;
          in_d = b.in_d;
          off = b.off;
          above = λ k i. ⊎_elim (λ (e : k ≡ t). let z : rank_key k ≡ rank_key t = ap rank_key e in omega arith) (λ j. b.above k j) (put-mem s (only (but t) P) i);
          under_i = b.under_i;
          under_d = b.under_d;
          deep = b.deep;
        }

    pub inserted-high : (s : Spot) (k : ℕ)
        → say (put s (only (but s.key) P)) (only (but s.key) I) (keep (but s.key) D) k (below k) ≡ cond (eqb k s.key) (some s.track) (say P I D k (below k))
    inserted-high s k = rw (find-put k s (only (but s.key) P), find-only (but s.key) k P, find-only (but s.key) k I, has-keep (but s.key) k D) (go (eqb k s.key))
      where
        go : (b : Bool)
            → or_else (cond b (some s.track) (cond (not b) (find k P) none)) (or_else (cond (not b) (find k I) none) (cond (cond (not b) (has k D) false) none (below k))) ≡ cond b (some s.track) (say P I D k (below k))
        go true = refl
        go false = refl

    -- an insert under r goes to I
    pub insert-low : (s : Spot) → within lo hi s.key ≡ true → rank_key s.key < r
        → NodeReady lo hi r (only (but s.key) P) (put s (only (but s.key) I)) (keep (but s.key) D) below
    insert-low s w g =
        let t = s.key in
        let b = taken t in
        record {
          up_p = b.up_p;
          up_i = put_up s (only (but t) I) b.up_i (λ i. but-not t t (only-mem (but t) I i).1 refl);
          up_d = b.up_d;
          in_p = b.in_p;
          in_i = λ k i. ⊎_elim (λ (e : k ≡ t). ap (within lo hi) e ∙ w) (λ j. b.in_i k j) (put-mem s (only (but t) I) i);
          in_d = b.in_d;
          off = λ k i j. ⊎_elim (λ (e : k ≡ t). but-not t k (keep-mem (but t) D j).1 e) (λ u. b.off k u j) (put-mem s (only (but t) I) i);
          above = b.above;
          under_i = λ k i. ⊎_elim (λ (e : k ≡ t). let z : rank_key k ≡ rank_key t = ap rank_key e in omega arith) (λ j. b.under_i k j) (put-mem s (only (but t) I) i);
          under_d = b.under_d;
          deep = b.deep;
        }

    pub inserted-low : (s : Spot) (k : ℕ)
        → say (only (but s.key) P) (put s (only (but s.key) I)) (keep (but s.key) D) k (below k) ≡ cond (eqb k s.key) (some s.track) (say P I D k (below k))
    inserted-low s k = rw (find-put k s (only (but s.key) I), find-only (but s.key) k P, find-only (but s.key) k I, has-keep (but s.key) k D) (go (eqb k s.key))
      where
        go : (b : Bool)
            → or_else (cond (not b) (find k P) none) (or_else (cond b (some s.track) (cond (not b) (find k I) none)) (cond (cond (not b) (has k D) false) none (below k))) ≡ cond b (some s.track) (say P I D k (below k))
        go true = refl
        go false = refl
