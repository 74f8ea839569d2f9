-- More steps of an update on the buffers of a node: a whole batch, the lowest of P to I, a batch pushed down, a node cut in two.
-- Assumes nothing.
use mathlib.Core.Path.{◌≡◌, refl, ap, sym, ◌∙◌}
use mathlib.Core.Logic.{◌⊎◌, inl, inr, ⊎_elim}
use mathlib.Core.Bool.{Bool, true, false, not, cond, ◌||◌}
use mathlib.Core.List.{List, [], ◌∷◌, Memᴰ}
use mathlib.Core.Option.{Option, none, some, none-ne-some}
use Prim.Native.Nat.{ℕ, suc, ◌<◌, ◌≤◌}
use native.Mathlib.Omega.{arith}
use lib.Dec.{eqb, leb}
use borrow.Author.Tests.{eq-eqb, ne_eqb, leb-true, leb-false}
use Rattle.octets.specs.Lists.{keep, has}
use Rattle.octets.proofs.Order.{same_or_not}
use Rattle.octets.proofs.Sets.{has-not, has-keep}
use Rattle.octets.proofs.Tests.{keep-mem}
use Rattle.octets.proofs.Rising.{keep-rises}
use Rattle.spot.specs.declared.Spot.{Spot}
use Rattle.spot.specs.Spots.{keys, find, put}
use Rattle.spot.specs.Keys.{rank_key, all_keys, within}
use Rattle.spot.specs.Sorted.{only, insert_key, but}
use Rattle.spot.proofs.Canon.{find-put, find-only}
use Rattle.spot.proofs.Buffers.{only-rises, only-mem, find-mem, put-mem, put_up}
use Rattle.spot.proofs.Sorted.{but-not}
use Rattle.tree.specs.Lookup.{or_else}
use Rattle.tree.proofs.Says.{else-cond}
use Rattle.update_theory.specs.Held.{Held, insert_one, delete_one, insert_all, delete_all}
use Rattle.update_theory.specs.Open.{say, says, NodeReady, Fit}
use Rattle.update_theory.proofs.Ready.{ready-fewer, strict, taken, deleted-high, delete-low, deleted-low, insert-high, inserted-high, insert-low, inserted-low}

module _ (lo hi : ℕ) (full : hi ≤ all_keys) (r : ℕ) (below : ℕ → Option ℕ) where
  insert-one : (s : Spot) (b : Held) → within lo hi s.key ≡ true → Fit lo hi r b below
      → Fit lo hi r (insert_one r s b) below × ((k : ℕ) → says (insert_one r s b) k (below k) ≡ cond (eqb k s.key) (some s.track) (says b k (below k)))
  insert-one s b w h = go (leb r (rank_key s.key)) refl
    where
      high : Held
      high = record { points = put s (only (but s.key) b.points); inserts = only (but s.key) b.inserts; deletes = keep (but s.key) b.deletes }

      low : Held
      low = record { points = only (but s.key) b.points; inserts = put s (only (but s.key) b.inserts); deletes = keep (but s.key) b.deletes }

      go : (t : Bool) → leb r (rank_key s.key) ≡ t
          → Fit lo hi r (cond t high low) below × ((k : ℕ) → says (cond t high low) k (below k) ≡ cond (eqb k s.key) (some s.track) (says b k (below k)))
      go true e = (insert-high lo hi full r b.points b.inserts b.deletes below h s w (leb-true r (rank_key s.key) e), inserted-high lo hi full r b.points b.inserts b.deletes below h s)
      go false e = (insert-low lo hi full r b.points b.inserts b.deletes below h s w (leb-false r (rank_key s.key) e), inserted-low lo hi full r b.points b.inserts b.deletes below h s)

  delete-one : (t : ℕ) (b : Held) → within lo hi t ≡ true → Fit lo hi r b below
      → Fit lo hi r (delete_one r t b) below × ((k : ℕ) → says (delete_one r t b) k (below k) ≡ cond (eqb k t) none (says b k (below k)))
  delete-one t b w h = go (leb r (rank_key t)) refl
    where
      high : Held
      high = record { points = only (but t) b.points; inserts = only (but t) b.inserts; deletes = keep (but t) b.deletes }

      low : Held
      low = record { points = only (but t) b.points; inserts = only (but t) b.inserts; deletes = insert_key t (keep (but t) b.deletes) }

      go : (u : Bool) → leb r (rank_key t) ≡ u
          → Fit lo hi r (cond u high low) below × ((k : ℕ) → says (cond u high low) k (below k) ≡ cond (eqb k t) none (says b k (below k)))
      go true e = (taken lo hi full r b.points b.inserts b.deletes below h t, deleted-high lo hi full r b.points b.inserts b.deletes below h t (leb-true r (rank_key t) e))
      go false e = (delete-low lo hi full r b.points b.inserts b.deletes below h t w (leb-false r (rank_key t) e), deleted-low lo hi full r b.points b.inserts b.deletes below h t)

  -- a batch of inserts: its word, else what was found before
  pub insert_all_lem : (ss : List Spot) (b : Held) → ((k : ℕ) → Memᴰ k (keys ss) → within lo hi k ≡ true) → Fit lo hi r b below
      → Fit lo hi r (insert_all r ss b) below × ((k : ℕ) → says (insert_all r ss b) k (below k) ≡ or_else (find k ss) (says b k (below k)))
  insert_all_lem [] b w h = (h, λ k. refl)
  insert_all_lem (s ∷ ss) b w h =
      let a = insert_all_lem ss b (λ k i. w k (Memᴰ.tail i)) h in
      let c = insert-one s (insert_all r ss b) (w s.key (Memᴰ.head refl)) a.0 in
      (c.0, λ k. c.1 k ∙ ap (cond (eqb k s.key) (some s.track)) (a.1 k) ∙ else-cond (eqb k s.key) s.track (find k ss) (says b k (below k)))

  -- a batch of deletes
  pub delete-all : (ks : List ℕ) (b : Held) → ((k : ℕ) → Memᴰ k ks → within lo hi k ≡ true) → Fit lo hi r b below
      → Fit lo hi r (delete_all r ks b) below × ((k : ℕ) → says (delete_all r ks b) k (below k) ≡ cond (has k ks) none (says b k (below k)))
  delete-all [] b w h = (h, λ k. refl)
  delete-all (t ∷ ks) b w h =
      let a = delete-all ks b (λ k i. w k (Memᴰ.tail i)) h in
      let c = delete-one t (delete_all r ks b) (w t (Memᴰ.head refl)) a.0 in
      (c.0, λ k. c.1 k ∙ ap (cond (eqb k t) none) (a.1 k) ∙ either (eqb k t) (has k ks) (says b k (below k)))
    where
      either : (t u : Bool) (d : Option ℕ) → cond t none (cond u none d) ≡ cond (t || u) none d
      either true u d = refl
      either false u d = refl

  module _ (P I : List Spot) (D : List ℕ) (h : NodeReady lo hi r P I D below) where
    -- P over 64: the lowest of it goes to I
    pub spill : (q : Spot) → Memᴰ q.key (keys P) → ((k : ℕ) → Memᴰ k (keys P) → rank_key q.key ≤ rank_key k)
        → NodeReady lo hi (suc (rank_key q.key)) (only (but q.key) P) (put q I) D below
    spill q j least =
        let t = q.key in
        let g = h.above t j in
        record {
          up_p = only-rises (but t) P h.up_p;
          up_i = put_up q I h.up_i (λ i. let z = h.under_i t i in omega arith);
          up_d = h.up_d;
          in_p = λ k i. h.in_p k (only-mem (but t) P i).0;
          in_i = λ k i. ⊎_elim (λ (e : k ≡ t). ap (within lo hi) e ∙ h.in_p t j) (λ u. h.in_i k u) (put-mem q I i);
          in_d = h.in_d;
          off = λ k i d. ⊎_elim (λ (e : k ≡ t). let z = h.under_d k d in let y : rank_key k ≡ rank_key t = ap rank_key e in absurd (omega arith)) (λ u. h.off k u d) (put-mem q I i);
          above = λ k i. let m = only-mem (but t) P i in strict lo hi full t k (h.in_p t j) (h.in_p k m.0) (λ e. but-not t k m.1 (sym e)) (least k m.0);
          under_i = λ k i. ⊎_elim (λ (e : k ≡ t). let y : rank_key k ≡ rank_key t = ap rank_key e in omega arith) (λ u. let z = h.under_i k u in omega arith) (put-mem q I i);
          under_d = λ k i. let z = h.under_d k i in omega arith;
          deep = λ k a e. let z = h.deep k a e in omega arith;
        }

    pub spilled : (q : Spot) → find q.key P ≡ some q.track → (k : ℕ) → say (only (but q.key) P) (put q I) D k (below k) ≡ say P I D k (below k)
    spilled q f k = rw (find-only (but q.key) k P, find-put k q I) (go (same_or_not k q.key))
      where
        go : (k ≡ q.key) ⊎ (k ≡ q.key → ⊥)
            → or_else (cond (but q.key k) (find k P) none) (or_else (cond (eqb k q.key) (some q.track) (find k I)) (cond (has k D) none (below k))) ≡ say P I D k (below k)
        go (inl e) = rw (eq-eqb k q.key e, ap (λ (j : ℕ). find j P) e ∙ f)
        go (inr n) = rw (ne_eqb k q.key n)

    -- PUSH: the inserts that don't pass g go below
    module _ (g : ℕ → Bool) (below' : ℕ → Option ℕ) where
      pub push-I : ((k : ℕ) → below' k ≡ or_else (find k (only (λ j. not (g j)) I)) (below k)) → NodeReady lo hi r P (only g I) D below'
      push-I e =
          ready-fewer h h.up_p (only-rises g I h.up_i) h.up_d (λ k i. i) (λ k i. (only-mem g I i).0) (λ k i. i)
          (λ k a i. go k a (find k (only (λ j. not (g j)) I)) refl (sym (e k) ∙ i))
        where
          go : (k a : ℕ) (o : Option ℕ) → find k (only (λ j. not (g j)) I) ≡ o → or_else o (below k) ≡ some a → rank_key k < r
          go k a none f i = h.deep k a i
          go k a (some b) f i = h.under_i k (only-mem (λ j. not (g j)) I (find-mem k (only (λ j. not (g j)) I) f)).0

      pub pushed-I : ((k : ℕ) → below' k ≡ or_else (find k (only (λ j. not (g j)) I)) (below k)) → (k : ℕ) → say P (only g I) D k (below' k) ≡ say P I D k (below k)
      pushed-I e k = ap (or_else (find k P)) (rw (e k, find-only g k I, find-only (λ j. not (g j)) k I) (go (g k) (find k I) refl))
        where
          go : (t : Bool) (o : Option ℕ) → find k I ≡ o
              → or_else (cond t o none) (cond (has k D) none (or_else (cond (not t) o none) (below k))) ≡ or_else o (cond (has k D) none (below k))
          go true none f = refl
          go true (some a) f = refl
          go false none f = refl
          go false (some a) f = rw (has-not k D (λ i. h.off k (find-mem k I f) i))

      -- and the deletes that don't
      pub push-D : ((k : ℕ) → below' k ≡ cond (has k (keep (λ j. not (g j)) D)) none (below k)) → NodeReady lo hi r P I (keep g D) below'
      push-D e =
          ready-fewer h h.up_p h.up_i (keep-rises g 0 D h.up_d) (λ k i. i) (λ k i. i) (λ k i. (keep-mem g D i).0)
          (λ k a i. go k a (has k (keep (λ j. not (g j)) D)) (sym (e k) ∙ i))
        where
          go : (k a : ℕ) (t : Bool) → cond t none (below k) ≡ some a → rank_key k < r
          go k a true i = absurd (none-ne-some _ i)
          go k a false i = h.deep k a i

      pub pushed-D : ((k : ℕ) → below' k ≡ cond (has k (keep (λ j. not (g j)) D)) none (below k)) → (k : ℕ) → say P I (keep g D) k (below' k) ≡ say P I D k (below k)
      pushed-D e k =
          ap (λ (o : Option ℕ). or_else (find k P) (or_else (find k I) o)) (rw (e k, has-keep g k D, has-keep (λ j. not (g j)) k D) (go (g k) (has k D)))
        where
          go : (t u : Bool) → cond (cond t u false) none (cond (cond (not t) u false) none (below k)) ≡ cond u none (below k)
          go true true = refl
          go true false = refl
          go false true = refl
          go false false = refl

-- 4. a node cut: the buffers' keys that pass g, over the part of what is below
pub cut : (lo hi lo' hi' r : ℕ) (P I : List Spot) (D : List ℕ) (below below' : ℕ → Option ℕ) (g : ℕ → Bool)
    → ((k : ℕ) → g k ≡ true → within lo hi k ≡ true → within lo' hi' k ≡ true) → ((k a : ℕ) → below' k ≡ some a → below k ≡ some a)
    → NodeReady lo hi r P I D below → NodeReady lo' hi' r (only g P) (only g I) (keep g D) below'
cut lo hi lo' hi' r P I D below below' g w d h =
    record {
      up_p = only-rises g P h.up_p;
      up_i = only-rises g I h.up_i;
      up_d = keep-rises g 0 D h.up_d;
      in_p = λ k i. let m = only-mem g P i in w k m.1 (h.in_p k m.0);
      in_i = λ k i. let m = only-mem g I i in w k m.1 (h.in_i k m.0);
      in_d = λ k i. let m = keep-mem g D i in w k m.1 (h.in_d k m.0);
      off = λ k i j. h.off k (only-mem g I i).0 (keep-mem g D j).0;
      above = λ k i. h.above k (only-mem g P i).0;
      under_i = λ k i. h.under_i k (only-mem g I i).0;
      under_d = λ k i. h.under_d k (keep-mem g D i).0;
      deep = λ k a e. h.deep k a (d k a e);
    }

-- they say of a key that passes what all said
pub cut-says : (P I : List Spot) (D : List ℕ) (g : ℕ → Bool) (k : ℕ) (d : Option ℕ) → g k ≡ true → say (only g P) (only g I) (keep g D) k d ≡ say P I D k d
cut-says P I D g k d e = rw (find-only g k P, find-only g k I, has-keep g k D, e)
