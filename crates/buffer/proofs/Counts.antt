-- How many numbers of a list that rises are below k: what a binary search finds.
-- Assumes nothing.
use mathlib.Core.Path.{◌≡◌, refl, sym, ap, subst, ◌∙◌}
use mathlib.Core.Bool.{Bool, true, false}
use mathlib.Core.List.{List, [], ◌∷◌, ◌++◌, append-nil, Memᴰ}
use Prim.Native.Nat.{ℕ, suc, ◌+◌, ◌≤◌, ◌<◌}
use native.Mathlib.Numerals.{add-one}
use native.Mathlib.Omega.{arith}
use lib.ListN.{length, take, drop, get_or, take-append-drop}
use lib.Seq.{split_at, take-suc, drop-cons, length-take-le}
use lib.Dec.{ltb, leb}
use borrow.Author.Tests.{ltb-true, leb-true, lt-ltb, le-ltb, le-leb}
use Rattle.octets.specs.Lists.{every, keep, has, rising, rising_from}
use Rattle.octets.proofs.Order.{ltb-same}
use Rattle.octets.proofs.Tests.{and_both, every-mem, every-imp, every-join, keep-mem, keep_append, keep_all, keep_same, keep-length}
use Rattle.octets.proofs.Lists.{no_member, mem-at}
use Rattle.octets.proofs.Sets.{not-has-mem, has-mem}
use Rattle.octets.proofs.Rising.{rising-from, rising-before, rises-after}
use Rattle.buffer.specs.Buffer.{below}

abbrev pub under : ℕ → ℕ → Bool
under k j = ltb j k

-- none is below k where all are at least k
pub none-under : (k : ℕ) (ks : List ℕ) → every (leb k) ks ≡ true → keep (under k) ks ≡ []
none-under k ks h =
    no_member (keep (under k) ks)
    (λ j i. let m = keep-mem (under k) ks i in omega (arith, ltb-true j k m.1, leb-true k j (every-mem (leb k) ks h m.0)))

-- n are below k where the first n are, and none after
pub below-is : (k : ℕ) (ks : List ℕ) (n : ℕ) → n ≤ length ks → every (under k) (take n ks) ≡ true → every (leb k) (drop n ks) ≡ true → n ≡ below k ks
below-is k ks n l lo hi =
    sym (length-take-le n ks l)
    ∙ ap length (sym (append-nil (take n ks)))
    ∙ ap length (sym (ap (λ (x : List ℕ). x ++ []) (keep_all (under k) (take n ks) lo)))
    ∙ ap length (sym (ap (λ (x : List ℕ). keep (under k) (take n ks) ++ x) (none-under k (drop n ks) hi)))
    ∙ ap length (sym (keep_append (under k) (take n ks) (drop n ks)))
    ∙ ap (λ (x : List ℕ). below k x) (take-append-drop n ks)

-- around the number at index m
module _ (ks : List ℕ) (up : rising ks ≡ true) (m : ℕ) (l : m < length ks) where
  pub before : every (under (get_or ks m 0)) (take m ks) ≡ true
  before = rising-before 0 (get_or ks m 0) (take m ks) (drop (suc m) ks) (rw (← split_at ks m 0 l) up)

  pub after : rising_from (suc (get_or ks m 0)) (drop (suc m) ks) ≡ true
  after = rises-after 0 (take m ks) (get_or ks m 0) (drop (suc m) ks) (rw (← split_at ks m 0 l) up)

  -- the first m + 1 are below k, where the one at m is; those from m on are at least k, where it is
  pub before-all : (k : ℕ) → get_or ks m 0 < k → every (under k) (take (m + 1) ks) ≡ true
  before-all k h =
      rw (add-one m, take-suc ks m 0 l)
      (every-join (under k) (take m ks) (get_or ks m 0 ∷ [])
      (every-imp (under (get_or ks m 0)) (under k) (take m ks) (λ j e. lt-ltb j k (omega (arith, ltb-true j (get_or ks m 0) e))) before)
      (and_both (under k (get_or ks m 0)) true (lt-ltb (get_or ks m 0) k h) refl))

  pub after-all : (k : ℕ) → k ≤ get_or ks m 0 → every (leb k) (drop m ks) ≡ true
  after-all k h =
      rw (drop-cons ks m 0 l)
      (and_both (leb k (get_or ks m 0)) (every (leb k) (drop (suc m) ks)) (le-leb k (get_or ks m 0) h)
      (every-imp (leb (suc (get_or ks m 0))) (leb k) (drop (suc m) ks) (λ j e. le-leb k j (omega (arith, leb-true (suc (get_or ks m 0)) j e)))
      (rising-from (suc (get_or ks m 0)) (drop (suc m) ks) after)))

pub below-le : (k : ℕ) (ks : List ℕ) → below k ks ≤ length ks
below-le k ks = keep-length (under k) ks

-- what is below a number that is in the list at index m, and what is at most that number
pub below_at : (ks : List ℕ) → rising ks ≡ true → (m : ℕ) → m < length ks → (k : ℕ) → get_or ks m 0 ≡ k → m ≡ below k ks
below_at ks up m l k e =
    below-is k ks m (omega arith) (subst (λ (z : ℕ). every (under z) (take m ks) ≡ true) e (before ks up m l)) (after-all ks up m l k (omega arith))

pub past-at : (ks : List ℕ) → rising ks ≡ true → (m : ℕ) → m < length ks → (k : ℕ) → get_or ks m 0 ≡ k → m + 1 ≡ below (suc k) ks
past-at ks up m l k e =
    below-is (suc k) ks (m + 1) (omega arith) (before-all ks up m l (suc k) (omega arith))
    (rw (add-one m)
    (subst (λ (z : ℕ). every (leb (suc z)) (drop (suc m) ks) ≡ true) e (rising-from (suc (get_or ks m 0)) (drop (suc m) ks) (after ks up m l))))

-- where k stands: at the index that the count gives
pub record Here (k : ℕ) (ks : List ℕ) : Type 0 where
  pub inside : below k ks < length ks
  pub at : get_or ks (below k ks) 0 ≡ k
  pub past : below k ks + 1 ≡ below (suc k) ks

pub here : (k : ℕ) (ks : List ℕ) → rising ks ≡ true → has k ks ≡ true → Here k ks
here k ks up h =
    let r = mem-at ks 0 (has-mem k ks h) in
    let e = below_at ks up r.0 r.1 k r.2 in
    record { inside = rw e at r.1; at = rw e at r.2; past = rw e at (past-at ks up r.0 r.1 k r.2) }

not-here : (k : ℕ) (ks : List ℕ) → has k ks ≡ false → below k ks ≡ below (suc k) ks
not-here k ks h =
    ap length
    (keep_same (under k) (under (suc k)) ks
    (λ j i. ltb-same j k j (suc k) (λ l. omega arith) (λ l. let n : j ≡ k → ⊥ = λ e. not-has-mem k ks h (subst (λ (z : ℕ). Memᴰ z ks) e i) in omega arith)))

-- k is in the list where more are at most k than are below it
pub has-between : (k p q : ℕ) (ks : List ℕ) → rising ks ≡ true → p ≡ below k ks → q ≡ below (suc k) ks → has k ks ≡ ltb p q
has-between k p q ks up e f = go (has k ks) refl
  where
    go : (t : Bool) → has k ks ≡ t → has k ks ≡ ltb p q
    go true h = h ∙ sym (lt-ltb p q (omega (arith, (here k ks up h).past)))
    go false h = h ∙ sym (le-ltb p q (omega (arith, not-here k ks h)))

-- where k does not stand at the index that the count gives, none is past
pub past-none : (k : ℕ) (ks : List ℕ) (p : ℕ) → rising ks ≡ true → p ≡ below k ks → (p < length ks → get_or ks p 0 ≡ k → ⊥) → p ≡ below (suc k) ks
past-none k ks p up e n = go (has k ks) refl
  where
    go : (t : Bool) → has k ks ≡ t → p ≡ below (suc k) ks
    go true h = let r = here k ks up h in absurd (n (rw e r.inside) (rw e r.at))
    go false h = e ∙ not-here k ks h
