-- The buffers of a node after one change, and after a batch of them; and the node with them.
-- Assumes nothing.
use mathlib.Core.Path.{◌≡◌, refl, sym, ap, ◌∙◌}
use mathlib.Core.Bool.{false}
use mathlib.Core.List.{List, ◌∷◌}
use Prim.Native.Nat.{ℕ, suc, ◌-◌, ◌≤◌, ◌<◌}
use native.Mathlib.Omega.{arith}
use lib.ListN.{length, take, drop, get_or}
use lib.Seq.{drop-cons, get_or-take, length-take-le, slice_empty}
use borrow.Author.Tests.{le-leb, lt-leb, eq-eqb}
use Rattle.octets.specs.Lists.{has, keep}
use Rattle.octets.proofs.Sets.{has-keep}
use Rattle.spot.specs.declared.Spot.{Spot}
use Rattle.spot.specs.Keys.{rank_key}
use Rattle.spot.specs.Spots.{keys, put}
use Rattle.spot.specs.Sorted.{only, but, insert_key}
use Rattle.spot.proofs.Buffers.{keys-only}
use Rattle.buffer.specs.Buffer.{blank}
use Rattle.node.specs.declared.NodeValue.{NodeValue}
use Rattle.update_theory.specs.Held.{Held, insert_one, delete_one, insert_all, delete_all}
use Rattle.edit.specs.Edits.{held_in, Tidy, Edited}

-- P, I and D as one
abbrev pub buffers : List Spot → List Spot → List ℕ → Held
buffers p i d = record { points = p; inserts = i; deletes = d }

-- equal by their parts
pub same-held : {p q i j : List Spot} {d e : List ℕ} → p ≡ q → i ≡ j → d ≡ e → buffers p i d ≡ buffers q j e
same-held a b c = λ z. record { points = a z; inserts = b z; deletes = c z }

-- a key taken out is not there
pub key-gone : (k : ℕ) (xs : List ℕ) → has k (keep (but k) xs) ≡ false
key-gone k xs = has-keep (but k) k xs ∙ rw (eq-eqb k k refl)

-- nor is its spot
pub spot-gone : (k : ℕ) (ss : List Spot) → has k (keys (only (but k) ss)) ≡ false
spot-gone k ss = rw (keys-only (but k) ss) (key-gone k (keys ss))

-- ---- one insert and one delete

module _ (r : ℕ) (s : Spot) (b : Held) {p q i : List Spot} {d : List ℕ} where
  -- a spot at or above the threshold belongs to P
  pub inserted-high : r ≤ rank_key s.key → p ≡ only (but s.key) b.points → q ≡ put s p → i ≡ only (but s.key) b.inserts → d ≡ keep (but s.key) b.deletes
      → buffers q i d ≡ insert_one r s b
  inserted-high h e f g k = rw (le-leb r (rank_key s.key) h) (same-held (f ∙ ap (put s) e) g k)

  -- one under it waits in I
  pub inserted-low : rank_key s.key < r → i ≡ only (but s.key) b.points → p ≡ only (but s.key) b.inserts → q ≡ put s p → d ≡ keep (but s.key) b.deletes
      → buffers i q d ≡ insert_one r s b
  inserted-low h e f g k = rw (lt-leb r (rank_key s.key) h) (same-held e (g ∙ ap (put s) f) k)

module _ (r k : ℕ) (b : Held) {p i : List Spot} {d : List ℕ} where
  -- a key at or above the threshold is done with
  pub deleted-high : r ≤ rank_key k → p ≡ only (but k) b.points → i ≡ only (but k) b.inserts → d ≡ keep (but k) b.deletes → buffers p i d ≡ delete_one r k b
  deleted-high h x y z = rw (le-leb r (rank_key k) h) (same-held x y z)

  -- one under it waits in D
  pub deleted-low : {e : List ℕ} → rank_key k < r → p ≡ only (but k) b.points → i ≡ only (but k) b.inserts → d ≡ keep (but k) b.deletes → e ≡ insert_key k d → buffers p i e ≡ delete_one r k b
  deleted-low h x y z w = rw (lt-leb r (rank_key k) h) (same-held x y (w ∙ ap (insert_key k) z))

-- ---- a batch: what is done from index i on, as the loop begins and after a turn

-- one step back is one more
rest_more : {A : Type 0} (l : List A) (n i : ℕ) (x : A) → n ≤ length l → 0 < i → i ≤ n → drop (i - 1) (take n l) ≡ get_or l (i - 1) x ∷ drop i (take n l)
rest_more l n i x h g k =
    let e : suc (i - 1) ≡ i = omega arith in
    let a : i - 1 < length (take n l) = rw (length-take-le n l h) (omega arith) in
    let b : i - 1 < n = omega arith in
    drop-cons (take n l) (i - 1) x a ∙ rw (e, get_or-take n l (i - 1) x b)

module _ (r : ℕ) (l : List Spot) (n : ℕ) (h : n ≤ length l) (b : Held) where
  pub inserts-none : b ≡ insert_all r (drop n (take n l)) b
  inserts-none = rw (slice_empty n l)

  pub inserts-more : (i : ℕ) {c d : Held} → 0 < i → i ≤ n → c ≡ insert_all r (drop i (take n l)) b → d ≡ insert_one r (get_or l (i - 1) blank) c
      → d ≡ insert_all r (drop (i - 1) (take n l)) b
  inserts-more i g k e f = f ∙ ap (insert_one r (get_or l (i - 1) blank)) e ∙ ap (λ (ss : List Spot). insert_all r ss b) (sym (rest_more l n i blank h g k))

  -- a batch of one
  pub inserts-one : n ≡ 1 → insert_one r (get_or l 0 blank) b ≡ insert_all r (take n l) b
  inserts-one e = inserts-more 1 (omega arith) (omega arith) (inserts-none ∙ ap (λ (k : ℕ). insert_all r (drop k (take n l)) b) e) refl

module _ (r : ℕ) (l : List ℕ) (n : ℕ) (h : n ≤ length l) (b : Held) where
  pub deletes-none : b ≡ delete_all r (drop n (take n l)) b
  deletes-none = rw (slice_empty n l)

  pub deletes-more : (i : ℕ) {c d : Held} → 0 < i → i ≤ n → c ≡ delete_all r (drop i (take n l)) b → d ≡ delete_one r (get_or l (i - 1) 0) c
      → d ≡ delete_all r (drop (i - 1) (take n l)) b
  deletes-more i g k e f = f ∙ ap (delete_one r (get_or l (i - 1) 0)) e ∙ ap (λ (ks : List ℕ). delete_all r ks b) (sym (rest_more l n i 0 h g k))

-- ---- a node edited: not at all, once more, and by other names for the same

pub edited-none : {n : NodeValue} {b : Held} {p i d : ℕ} → held_in n ≡ b → Tidy n → n.points.n ≤ p → n.inserts.n ≤ i → n.deletes.n ≤ d → Edited n n b p i d
edited-none h t p i d = record { holds = h; tidy = t; entries = refl; level = refl; points = p; inserts = i; deletes = d }

module _ {n x : NodeValue} {b : Held} {p i d : ℕ} (e : Edited n x b p i d) {p' i' d' : ℕ} (hp : p ≤ p') (hi : i ≤ i') (hd : d ≤ d') where
  pub edited-same : {c : Held} → b ≡ c → Edited n x c p' i' d'
  edited-same h =
      record {
        holds = e.holds ∙ h;
        tidy = e.tidy;
        entries = e.entries;
        level = e.level;
        points = omega (arith, e.points);
        inserts = omega (arith, e.inserts);
        deletes = omega (arith, e.deletes);
      }

  pub edited-more : {m : NodeValue} {a c : Held} {q j k : ℕ} → Edited m n a q j k → held_in x ≡ c → Edited m x c p' i' d'
  edited-more f h = let r = edited-same (sym e.holds ∙ h) in
      record {
        holds = h;
        tidy = r.tidy;
        entries = r.entries ∙ f.entries;
        level = r.level ∙ f.level;
        points = r.points;
        inserts = r.inserts;
        deletes = r.deletes;
      }
