-- The spots left of a node: all when it is read, one fewer when its next spot is given.
-- Assumes nothing.
use mathlib.Core.Path.{◌≡◌, refl, ap, sym, subst, ◌∙◌}
use mathlib.Core.Logic.{⊎_elim}
use mathlib.Core.Bool.{Bool, true, false, cond, true≢false}
use mathlib.Core.List.Memᴰ
use mathlib.Core.List.{List, [], ◌∷◌, Memᴰ}
use Prim.Native.Nat.{ℕ, ◌≤◌, ◌<◌}
use native.Mathlib.Omega.{arith}
use lib.Dec.{leb, ltb}
use borrow.Author.Tests.{leb-true, ltb-true, le-leb, lt-leb, lt-ltb, le-ltb}
use Rattle.octets.specs.Lists.{keep, distinct}
use Rattle.octets.proofs.Order.{less-or-not}
use Rattle.octets.proofs.Tests.{bool-ext, every-make, keep-mem, keep-in, keep-there, keep_all, keep_same}
use Rattle.octets.proofs.Sets.{distinct_head, distinct_tail, distinct_cons}
use Rattle.octets.proofs.Lists.{no_member}
use Rattle.spot.specs.Keys.{all_keys, top_key}
use Rattle.spot.specs.Spots.{keys}
use Rattle.spot.specs.declared.Spot.{Spot}
use Rattle.spot.proofs.Buffers.{keys-mem}
use Rattle.spot.proofs.TopKeys.{top_small, top-inj}
use Rattle.spot.proofs.Ranks.{tk}
use Rattle.tree.proofs.BestFirstSums.{Reordered, reordered-none, reordered-then, reordered-join, reordered-front}
use Rattle.frontier.specs.Picks.{Next, Under}
use Rattle.top.specs.Reading.{left_of}

-- ---- top keys that differ

abbrev pub tops : List Spot → List ℕ
tops [] = []
tops (s ∷ ss) = tk s ∷ tops ss

tops-from : (ss : List Spot) {r : ℕ} → Memᴰ r (tops ss) → (s : Spot) × Memᴰ s ss × (r ≡ tk s)
tops-from [] i = absurd (Memᴰ.not-nil i)
tops-from (s ∷ ss) {r} i =
    ⊎_elim (λ (e : r ≡ tk s). (s, Memᴰ.head refl, e)) (λ j. let x = tops-from ss j in (x.0, Memᴰ.tail x.1, x.2)) (Memᴰ.cases_cons i)

tops-mem : (ss : List Spot) {s : Spot} → Memᴰ s ss → Memᴰ (tk s) (tops ss)
tops-mem [] i = absurd (Memᴰ.not-nil i)
tops-mem (x ∷ ss) {s} i = ⊎_elim (λ (e : s ≡ x). Memᴰ.head (ap tk e)) (λ j. Memᴰ.tail (tops-mem ss j)) (Memᴰ.cases_cons i)

pub tops-distinct : (ss : List Spot) → ((x : Spot) → Memᴰ x ss → x.key < all_keys) → distinct (keys ss) ≡ true → distinct (tops ss) ≡ true
tops-distinct [] h d = refl
tops-distinct (s ∷ ss) h d =
    distinct_cons (tk s) (tops ss)
    (λ i.
    let r = tops-from ss i in
    let e = top-inj s.key r.0.key (h s (Memᴰ.head refl)) (h r.0 (Memᴰ.tail r.1)) r.2 in
    distinct_head s.key (keys ss) d (subst (λ (k : ℕ). Memᴰ k (keys ss)) (sym e) (keys-mem ss r.1)))
    (tops-distinct ss (λ x i. h x (Memᴰ.tail i)) (distinct_tail s.key (keys ss) d))

pub tops-keep : (f : Spot → Bool) (ss : List Spot) → distinct (tops ss) ≡ true → distinct (tops (keep f ss)) ≡ true
tops-keep f [] d = refl
tops-keep f (s ∷ ss) d = go (f s) (tops-keep f ss (distinct_tail (tk s) (tops ss) d))
  where
    go : (b : Bool) → distinct (tops (keep f ss)) ≡ true → distinct (tops (cond b (s ∷ keep f ss) (keep f ss))) ≡ true
    go true rest =
        distinct_cons (tk s) (tops (keep f ss))
        (λ i. let r = tops-from (keep f ss) i in distinct_head (tk s) (tops ss) d (Memᴰ.cast r.2 (tops-mem ss (keep-in f ss r.1))))
        rest
    go false rest = rest

-- ---- cut at a spot

abbrev at_most : ℕ → Spot → Bool
at_most r s = leb (top_key s.key) r

abbrev under : ℕ → Spot → Bool
under r s = ltb (top_key s.key) r

cut-here : (x : Spot) (xs : List Spot) → distinct (tops (x ∷ xs)) ≡ true → Reordered (keep (at_most (tk x)) (x ∷ xs)) (x ∷ keep (under (tk x)) (x ∷ xs))
cut-here x xs d =
    let a : keep (at_most (tk x)) xs ≡ keep (under (tk x)) xs =
    keep_same (at_most (tk x)) (under (tk x)) xs
    (λ y i.
    let n : tk y ≡ tk x → ⊥ = λ e. distinct_head (tk x) (tops xs) d (Memᴰ.cast (sym e) (tops-mem xs i)) in
    bool-ext (at_most (tk x) y) (under (tk x) y) (λ h. lt-ltb (tk y) (tk x) (let l = leb-true (tk y) (tk x) h in omega (arith, n)))
    (λ h. le-leb (tk y) (tk x) (let l = ltb-true (tk y) (tk x) h in omega arith)))
    in
    rw (le-leb (tk x) (tk x) (omega arith), le-ltb (tk x) (tk x) (omega arith))
    (subst (λ (ys : List Spot). Reordered (x ∷ keep (at_most (tk x)) xs) (x ∷ ys)) a (reordered-none (x ∷ keep (at_most (tk x)) xs)))

cut : (ss : List Spot) (s : Spot) → distinct (tops ss) ≡ true → Memᴰ s ss → Reordered (keep (at_most (tk s)) ss) (s ∷ keep (under (tk s)) ss)
cut [] s d i = absurd (Memᴰ.not-nil i)
cut (x ∷ xs) s d i = ⊎_elim here (λ j. there j (cut xs s (distinct_tail (tk x) (tops xs) d) j)) (Memᴰ.cases_cons i)
  where
    here : s ≡ x → Reordered (keep (at_most (tk s)) (x ∷ xs)) (s ∷ keep (under (tk s)) (x ∷ xs))
    here e = subst (λ (y : Spot). Reordered (keep (at_most (tk y)) (x ∷ xs)) (y ∷ keep (under (tk y)) (x ∷ xs))) (sym e) (cut-here x xs d)

    there : Memᴰ s xs → Reordered (keep (at_most (tk s)) xs) (s ∷ keep (under (tk s)) xs) → Reordered (keep (at_most (tk s)) (x ∷ xs)) (s ∷ keep (under (tk s)) (x ∷ xs))
    there j ih =
        let n : tk s ≡ tk x → ⊥ = λ e. distinct_head (tk x) (tops xs) d (Memᴰ.cast (sym e) (tops-mem xs j)) in
        let k = keep (at_most (tk s)) xs in
        let u = keep (under (tk s)) xs in
        ⊎_elim
        (λ (l : tk x ≤ tk s).
        rw (le-leb (tk x) (tk s) l, lt-ltb (tk x) (tk s) (omega (arith, n)))
        (reordered-then (x ∷ k) (x ∷ (s ∷ u)) (s ∷ (x ∷ u)) (reordered-join (x ∷ []) (x ∷ []) k (s ∷ u) (reordered-none (x ∷ [])) ih) (reordered-front (x ∷ []) s u)))
        (λ (l : tk s < tk x). rw (lt-leb (tk x) (tk s) l, le-ltb (tk x) (tk s) (omega arith)) ih)
        (less-or-not (tk x) (tk s))

-- ---- what is left

pub left_there : (ss : List Spot) (h : Next) → h.there ≡ true → left_of ss h ≡ keep (λ s. leb (top_key s.key) (top_key h.spot.key)) ss
left_there ss h e = rw e

pub left-gone : (ss : List Spot) (h : Next) → h.there ≡ false → left_of ss h ≡ []
left-gone ss h e = rw e

-- a spot left is one of the node's, and not above the next
pub left-mem : (ss : List Spot) (h : Next) {x : Spot} → Memᴰ x (left_of ss h) → (h.there ≡ true) × Memᴰ x ss × (tk x ≤ tk h.spot)
left-mem ss h {x} i = go h.there refl
  where
    go : (b : Bool) → h.there ≡ b → (h.there ≡ true) × Memᴰ x ss × (tk x ≤ tk h.spot)
    go true e =
        let r = keep-mem (λ s. leb (top_key s.key) (top_key h.spot.key)) ss (subst (λ (l : List Spot). Memᴰ x l) (left_there ss h e) i) in
        (e, r.0, leb-true (tk x) (tk h.spot) r.1)
    go false e = absurd (Memᴰ.not-nil (subst (λ (l : List Spot). Memᴰ x l) (left-gone ss h e) i))

-- the next is one of them
pub left-next : (ss : List Spot) (h : Next) → h.there ≡ true → Memᴰ h.spot ss → Memᴰ h.spot (left_of ss h)
left-next ss h e i =
    subst (λ (l : List Spot). Memᴰ h.spot l) (sym (left_there ss h e))
    (keep-there (at_most (tk h.spot)) ss i (le-leb (tk h.spot) (tk h.spot) (omega arith)))

-- all are left of a node just read
pub left-all : (ss : List Spot) (h : Next) → ((x : Spot) → Memᴰ x ss → x.key < all_keys) → Under all_keys ss h → left_of ss h ≡ ss
left-all ss h small b = go h.there refl
  where
    low : (x : Spot) → Memᴰ x ss → tk x < all_keys
    low x i = top_small x.key (small x i)

    go : (t : Bool) → h.there ≡ t → left_of ss h ≡ ss
    go true e = left_there ss h e ∙ keep_all _ ss (every-make _ ss (λ x i. le-leb (tk x) (tk h.spot) (b.over x i (low x i))))
    go false e = left-gone ss h e ∙ sym (no_member ss (λ x i. true≢false (sym (b.some x i (low x i)) ∙ e)))

-- the next is given
pub left-give : (ss : List Spot) (h next : Next) → distinct (tops ss) ≡ true → h.there ≡ true → Memᴰ h.spot ss → Under (tk h.spot) ss next
    → Reordered (left_of ss h) (h.spot ∷ left_of ss next)
left-give ss h next d t i u =
    let r = tk h.spot in
    rw (left_there ss h t) (subst (λ (l : List Spot). Reordered (keep (at_most r) ss) (h.spot ∷ l)) (go next.there refl) (cut ss h.spot d i))
  where
    go : (b : Bool) → next.there ≡ b → keep (under (tk h.spot)) ss ≡ left_of ss next
    go true e =
        keep_same (under (tk h.spot)) (at_most (tk next.spot)) ss
        (λ x j.
        bool-ext (under (tk h.spot) x) (at_most (tk next.spot) x) (λ l. le-leb (tk x) (tk next.spot) (u.over x j (ltb-true (tk x) (tk h.spot) l)))
        (λ l. lt-ltb (tk x) (tk h.spot) (let m = leb-true (tk x) (tk next.spot) l in omega (arith, (u.held e).1))))
        ∙ sym (left_there ss next e)
    go false e =
        no_member (keep (under (tk h.spot)) ss)
        (λ x j. let m = keep-mem (under (tk h.spot)) ss j in true≢false (sym (u.some x m.0 (ltb-true (tk x) (tk h.spot) m.1)) ∙ e))
        ∙ sym (left-gone ss next e)
