-- Keys in rank order: the same keys, as many, and their rank keys rise.
-- Assumes nothing.
use mathlib.Core.Path.{◌≡◌, refl, ap, ◌∙◌}
use mathlib.Core.Logic.{◌⊎◌, inl, inr, ⊎_elim}
use mathlib.Core.Bool.{Bool, true, false, cond}
use mathlib.Core.List.Memᴰ
use mathlib.Core.List.{List, [], ◌∷◌, ◌++◌, Memᴰ}
use Prim.Native.Nat.{ℕ, suc, ◌<◌}
use native.Mathlib.Omega.{arith}
use lib.Dec.{leb}
use lib.ListN.{length}
use Rattle.octets.specs.Lists.{distinct, rising}
use Rattle.octets.proofs.Tests.{cond-mem, every-mem}
use Rattle.octets.proofs.Sets.{distinct_head, distinct_tail}
use Rattle.octets.proofs.Rising.{rising-distinct}
use Rattle.spot.specs.Keys.{all_keys, rank_key, limited}
use Rattle.spot.specs.Spots.{keys}
use Rattle.spot.specs.Sorted.{insert_key}
use Rattle.spot.specs.declared.Spot.{Spot}
use Rattle.spot.proofs.Halves.{rank-inj}
use Rattle.spot.proofs.Limits.{limited-small}
use Rattle.spot.proofs.Buffers.{keys_length}
use Rattle.spot.proofs.Sorted.{insert_key-rises}
use Rattle.sweep.specs.Sweep.{put_rank, by_rank}
use Rattle.sweep.specs.Pressed.{Pressable}

-- ---- the same keys

put_rank-length : (k : ℕ) (xs : List ℕ) → length (put_rank k xs) ≡ suc (length xs)
put_rank-length k [] = refl
put_rank-length k (x ∷ xs) = go (leb (rank_key k) (rank_key x)) (put_rank-length k xs)
  where
    go : (b : Bool) → length (put_rank k xs) ≡ suc (length xs) → length (cond b (k ∷ x ∷ xs) (x ∷ put_rank k xs)) ≡ suc (suc (length xs))
    go true ih = refl
    go false ih = ap suc ih

pub by_rank-length : (ks : List ℕ) → length (by_rank ks) ≡ length ks
by_rank-length [] = refl
by_rank-length (k ∷ ks) = put_rank-length k (by_rank ks) ∙ ap suc (by_rank-length ks)

pub put_rank-from : (k : ℕ) (xs : List ℕ) {j : ℕ} → Memᴰ j (put_rank k xs) → (j ≡ k) ⊎ Memᴰ j xs
put_rank-from k [] i = Memᴰ.cases_cons i
put_rank-from k (x ∷ xs) i =
    ⊎_elim (λ c. Memᴰ.cases_cons c.1)
    (λ j. ⊎_elim (λ e. inr (Memᴰ.head e)) (λ h. ⊎_elim inl (λ m. inr (Memᴰ.tail m)) (put_rank-from k xs h)) (Memᴰ.cases_cons j))
    (cond-mem (leb (rank_key k) (rank_key x)) (k ∷ x ∷ xs) (x ∷ put_rank k xs) i)

pub by_rank-from : (ks : List ℕ) {j : ℕ} → Memᴰ j (by_rank ks) → Memᴰ j ks
by_rank-from [] i = i
by_rank-from (k ∷ ks) i = ⊎_elim (λ e. Memᴰ.head e) (λ j. Memᴰ.tail (by_rank-from ks j)) (put_rank-from k (by_rank ks) i)

put_rank-in : (k : ℕ) (xs : List ℕ) {j : ℕ} → (j ≡ k) ⊎ Memᴰ j xs → Memᴰ j (put_rank k xs)
put_rank-in k [] i = ⊎_elim (λ e. Memᴰ.head e) (λ m. absurd (Memᴰ.not-nil m)) i
put_rank-in k (x ∷ xs) {j} i = go (leb (rank_key k) (rank_key x)) (λ h. put_rank-in k xs h)
  where
    later : ((j ≡ k) ⊎ Memᴰ j xs → Memᴰ j (put_rank k xs)) → (j ≡ k) ⊎ Memᴰ j (x ∷ xs) → Memᴰ j (x ∷ put_rank k xs)
    later ih (inl e) = Memᴰ.tail (ih (inl e))
    later ih (inr m) = ⊎_elim (λ e. Memᴰ.head e) (λ h. Memᴰ.tail (ih (inr h))) (Memᴰ.cases_cons m)

    go : (b : Bool) → ((j ≡ k) ⊎ Memᴰ j xs → Memᴰ j (put_rank k xs)) → Memᴰ j (cond b (k ∷ x ∷ xs) (x ∷ put_rank k xs))
    go true ih = ⊎_elim (λ e. Memᴰ.head e) (λ m. Memᴰ.tail m) i
    go false ih = later ih i

pub by_rank-in : (ks : List ℕ) {j : ℕ} → Memᴰ j ks → Memᴰ j (by_rank ks)
by_rank-in [] i = i
by_rank-in (k ∷ ks) {j} i = put_rank-in k (by_rank ks) (⊎_elim (λ (e : j ≡ k). inl e) (λ (m : Memᴰ j ks). inr (by_rank-in ks m)) (Memᴰ.cases_cons i))

-- ---- in rank order

abbrev pub rank_keys : List ℕ → List ℕ
rank_keys [] = []
rank_keys (k ∷ ks) = rank_key k ∷ rank_keys ks

pub rank_keys-mem : (ks : List ℕ) {k : ℕ} → Memᴰ k ks → Memᴰ (rank_key k) (rank_keys ks)
rank_keys-mem [] i = absurd (Memᴰ.not-nil i)
rank_keys-mem (x ∷ ks) i = ⊎_elim (λ e. Memᴰ.head (ap rank_key e)) (λ m. Memᴰ.tail (rank_keys-mem ks m)) (Memᴰ.cases_cons i)

pub rank_keys-from : (ks : List ℕ) {r : ℕ} → Memᴰ r (rank_keys ks) → (k : ℕ) × Memᴰ k ks × (r ≡ rank_key k)
rank_keys-from [] i = absurd (Memᴰ.not-nil i)
rank_keys-from (x ∷ ks) {r} i =
    ⊎_elim (λ (e : r ≡ rank_key x). (x, Memᴰ.head refl, e)) (λ m. let t = rank_keys-from ks m in (t.0, Memᴰ.tail t.1, t.2)) (Memᴰ.cases_cons i)

pub rank_keys-append : (ks ls : List ℕ) → rank_keys (ks ++ ls) ≡ rank_keys ks ++ rank_keys ls
rank_keys-append [] ls = refl
rank_keys-append (k ∷ ks) ls = ap (λ (l : List ℕ). rank_key k ∷ l) (rank_keys-append ks ls)

put-ranks : (k : ℕ) (xs : List ℕ) → rank_keys (put_rank k xs) ≡ insert_key (rank_key k) (rank_keys xs)
put-ranks k [] = refl
put-ranks k (x ∷ xs) = go (leb (rank_key k) (rank_key x)) (put-ranks k xs)
  where
    go : (b : Bool) → rank_keys (put_rank k xs) ≡ insert_key (rank_key k) (rank_keys xs)
        → rank_keys (cond b (k ∷ x ∷ xs) (x ∷ put_rank k xs)) ≡ cond b (rank_key k ∷ rank_key x ∷ rank_keys xs) (rank_key x ∷ insert_key (rank_key k) (rank_keys xs))
    go true ih = refl
    go false ih = ap (λ (l : List ℕ). rank_key x ∷ l) ih

-- keys of 64 bits
abbrev pub Small : List ℕ → Type 0
Small ks = (k : ℕ) → Memᴰ k ks → k < all_keys

-- rank keys rise strictly where no key occurs twice
pub by_rank-rises : (ks : List ℕ) → distinct ks ≡ true → Small ks → rising (rank_keys (by_rank ks)) ≡ true
by_rank-rises [] d s = refl
by_rank-rises (k ∷ ks) d s =
    rw (put-ranks k (by_rank ks))
    (insert_key-rises 0 (rank_key k) (rank_keys (by_rank ks)) (omega arith) (by_rank-rises ks (distinct_tail k ks d) (λ x i. s x (Memᴰ.tail i))) new)
  where
    new : Memᴰ (rank_key k) (rank_keys (by_rank ks)) → ⊥
    new i =
        let r = rank_keys-from (by_rank ks) i in
        let j = by_rank-from ks r.1 in
        let e = rank-inj k r.0 (s k (Memᴰ.head refl)) (s r.0 (Memᴰ.tail j)) r.2 in
        distinct_head k ks d (rw (← e) at j)

-- ---- the keys of spots to be pressed

module _ (ss : List Spot) (g : Pressable ss) where
  pub given-small : Small (keys ss)
  given-small k i = limited-small k (every-mem limited (keys ss) g.limits i)

  pub given-distinct : distinct (keys ss) ≡ true
  given-distinct = rising-distinct 0 (keys ss) g.rise

  pub order-rises : rising (rank_keys (by_rank (keys ss))) ≡ true
  order-rises = by_rank-rises (keys ss) given-distinct given-small

  pub order_small : Small (by_rank (keys ss))
  order_small k i = given-small k (by_rank-from (keys ss) i)

  pub order-length : length (by_rank (keys ss)) ≡ length ss
  order-length = by_rank-length (keys ss) ∙ keys_length ss
