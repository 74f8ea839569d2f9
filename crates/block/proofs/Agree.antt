-- The entry that leads to a node: its highest and lowest key, by their rank keys.
-- Assumes nothing.
use mathlib.Core.Path.{◌≡◌, refl, sym, ap, subst, ◌∙◌}
use mathlib.Core.Bool.{Bool, true, false, ◌&&◌, ◌||◌, and-true}
use mathlib.Core.List.Memᴰ
use mathlib.Core.List.{List, [], ◌∷◌, map, Memᴰ}
use Prim.Native.Nat.{ℕ, zero, suc, ◌+◌, ◌*◌, ◌≤◌, ◌<◌}
use native.Mathlib.Omega.{arith}
use lib.Dec.{leb, eqb, eqb-suc-zero}
use borrow.Author.Tests.{leb-true, le-leb, eqb-true, eq-eqb}
use Rattle.octets.specs.Lists.{all, every, records, has, maximum, minimum}
use Rattle.spot.specs.Keys.{rank_key, all_keys}
use Rattle.spot.specs.Spots.{keys, key_at, spot_at, keys_from}
use Rattle.octets.proofs.Tests.{and_left, and_right, all-at, all_cons, all_nil, every-mem, every-make, bool-ext}
use Rattle.octets.proofs.Sets.{has-mem, mem-has}
use Rattle.octets.proofs.Extremes.{maximum-ge, max-is, maximum-mem, minimum-le, min-is, minimum-mem}
use Rattle.octets.proofs.Records.{length-records}
use Rattle.spot.proofs.Halves.{rank-small, rank-inj}
use Rattle.block.specs.declared.Asked.{Asked}
use Rattle.block.specs.declared.Asked.TheVariants.{Root, Child}
use Rattle.block.specs.Table.{version1}
use Rattle.block.specs.Node.{node_from}
use Rattle.block.specs.NodeRules.{agrees, is_highest, is_lowest}
use Rattle.block.specs.Checks.{agrees_fine, entry_keyed, last_key}
use Rattle.block.proofs.Above.{least-last}
use Rattle.spot.proofs.Buffers.{keys-records, keys-small}

module _ (t x : ℕ) (xs : List ℕ) (st : t < all_keys) (ss : (k : ℕ) → Memᴰ k (x ∷ xs) → k < all_keys) where
  abbrev ks : List ℕ
  ks = x ∷ xs

  -- the key with a rank key of the list is in the list
  back : Memᴰ (rank_key t) (map rank_key ks) → has t ks ≡ true
  back i =
      let r = Memᴰ.of_map rank_key ks i in
      mem-has t ks (Memᴰ.cast (rank-inj t r.0 st (ss r.0 r.1) (sym r.2)) r.1)

  highest-is : is_highest t ks ≡ eqb (rank_key t) (maximum (map rank_key ks))
  highest-is =
      bool-ext (is_highest t ks) (eqb (rank_key t) (maximum (map rank_key ks)))
      (λ h. eq-eqb _ _ (max-is (map rank_key ks) (rank_key t) (Memᴰ.map rank_key (has-mem t ks (all-at _ h 0))) (λ y i. most (all-at _ h 1) y i)))
      (λ h. let e : rank_key t ≡ maximum (map rank_key ks) = eqb-true _ _ h in
      all_cons _ _ (back (Memᴰ.cast e (maximum-mem (rank_key x) (map rank_key xs))))
      (all_cons _ _
      (every-make (λ k. leb (rank_key k) (rank_key t)) ks
      (λ k i. le-leb _ _ (subst (λ (m : ℕ). rank_key k ≤ m) (sym e) (maximum-ge (map rank_key ks) (Memᴰ.map rank_key i)))))
      all_nil))
    where
      most : every (λ k. leb (rank_key k) (rank_key t)) ks ≡ true → (y : ℕ) → Memᴰ y (map rank_key ks) → y ≤ rank_key t
      most h y i =
          let r = Memᴰ.of_map rank_key ks i in
          subst (λ (m : ℕ). m ≤ rank_key t) r.2 (leb-true _ _ (every-mem (λ k. leb (rank_key k) (rank_key t)) ks h r.1))

  ranks : (y : ℕ) → Memᴰ y (map rank_key ks) → y < all_keys
  ranks y i = let r = Memᴰ.of_map rank_key ks i in subst (λ (m : ℕ). m < all_keys) r.2 (rank-small r.0 (ss r.0 r.1))

  lowest-least : is_lowest t ks ≡ eqb (rank_key t) (minimum all_keys (map rank_key ks))
  lowest-least =
      bool-ext (is_lowest t ks) (eqb (rank_key t) (minimum all_keys (map rank_key ks)))
      (λ h. let l : rank_key t < all_keys = rank-small t st in
      eq-eqb _ _ (min-is all_keys (map rank_key ks) (rank_key t) (omega arith) (Memᴰ.map rank_key (has-mem t ks (all-at _ h 0))) (λ y i. least (all-at _ h 1) y i)))
      (λ h. let e : rank_key t ≡ minimum all_keys (map rank_key ks) = eqb-true _ _ h in
      all_cons _ _ (back (Memᴰ.cast e (minimum-mem all_keys (rank_key x) (map rank_key xs) ranks)))
      (all_cons _ _
      (every-make (λ k. leb (rank_key t) (rank_key k)) ks
      (λ k i. le-leb _ _ (subst (λ (m : ℕ). m ≤ rank_key k) (sym e) (minimum-le all_keys (map rank_key ks) (Memᴰ.map rank_key i)))))
      all_nil))
    where
      least : every (λ k. leb (rank_key t) (rank_key k)) ks ≡ true → (y : ℕ) → Memᴰ y (map rank_key ks) → rank_key t ≤ y
      least h y i =
          let r = Memᴰ.of_map rank_key ks i in
          subst (λ (m : ℕ). rank_key t ≤ m) r.2 (leb-true _ _ (every-mem (λ k. leb (rank_key t) (rank_key k)) ks h r.1))

  lowest-is : is_lowest t ks ≡ eqb (rank_key t) (minimum last_key (map rank_key ks))
  lowest-is =
      let b : rank_key x < 18446744073709551616 = rank-small x (ss x (Memᴰ.head refl)) in
      lowest-least ∙ ap (eqb (rank_key t)) (least-last (rank_key x) (map rank_key xs) (omega arith))

-- a list of three tests, of which the empty list decides the last two
all3 : (x : Bool) → all (x ∷ true ∷ true ∷ []) ≡ x && true
unfolding all
all3 x = refl

same_size : (x y z y' z' e : Bool) → e ≡ false → y ≡ y' → z ≡ z' → all (x ∷ (false || y) ∷ (false || z) ∷ []) ≡ x && (e || (y' && z'))
unfolding all
same_size x y z y' z' e p q r = rw (p, q, r, and-true)

module _ (blocks : ℕ) (s : List ℕ) (c i d : ℕ) where
  pub agrees-is : (a : Asked) → entry_keyed a ≡ true → (p : ℕ)
      → agrees a (node_from version1 blocks s c p i d)
      ≡ agrees_fine a p (minimum last_key (map rank_key (keys_from s 12 p (8 + 28 * c)))) (maximum (map rank_key (keys_from s 12 p (8 + 28 * c))))
  unfolding agrees agrees_fine node_from entry_keyed
  agrees-is (Root b) kd p = refl
  agrees-is (Child e) kd zero = all3 (eqb e.size 0)
  agrees-is (Child e) kd (suc p) =
      let at : ℕ = 8 + 28 * c in
      let k : keys (records (spot_at s) 12 (suc p) at) ≡ keys_from s 12 (suc p) at = keys-records s 12 (suc p) at in
      let t : e.top ≤ last_key = leb-true _ _ (and_left (leb e.top last_key) (leb e.bottom last_key) kd) in
      let b : e.bottom ≤ last_key = leb-true _ _ (and_right (leb e.top last_key) (leb e.bottom last_key) kd) in
      let ss : (j : ℕ) → Memᴰ j (keys_from s 12 (suc p) at) → j < all_keys = λ j i. keys-small s 12 (suc p) at i in
      ap (λ (n : ℕ). all (eqb e.size n ∷ (false || is_highest e.top (keys (records (spot_at s) 12 (suc p) at))) ∷ (false || is_lowest e.bottom (keys (records (spot_at s) 12 (suc p) at))) ∷ [])) (length-records (spot_at s) 12 (suc p) at)
      ∙ same_size (eqb e.size (suc p)) _ _ _ _ (eqb (suc p) 0) (eqb-suc-zero p)
      (ap (is_highest e.top) k ∙ highest-is e.top (key_at s at) (keys_from s 12 p (at + 12)) (omega arith) ss)
      (ap (is_lowest e.bottom) k ∙ lowest-is e.bottom (key_at s at) (keys_from s 12 p (at + 12)) (omega arith) ss)
