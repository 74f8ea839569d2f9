-- Parts in the order in which they are read: putting one in line keeps the order, every sum and every member. The first in line is the one that no other comes
-- before, wherever it stands in a list of the same parts.
-- Assumes nothing.
use mathlib.Core.Path.{◌≡◌, refl, ap, sym, subst}
use mathlib.Core.Logic.{◌⊎◌, inl, inr, ⊎_elim}
use mathlib.Core.Bool.{Bool, true, false, cond, ◌&&◌, false≢true}
use mathlib.Core.List.Memᴰ
use mathlib.Core.List.{List, [], ◌∷◌, ◌++◌, Memᴰ}
use Prim.Native.Nat.{ℕ, ◌+◌, ◌≤◌, ◌<◌}
use native.Mathlib.Omega.{arith}
use lib.Dec.{eqb}
use borrow.Author.Tests.{eqb-true, eq-eqb, ne_eqb, le-leb, lt-leb, lt-ltb, le-ltb}
use Rattle.octets.specs.Bitmap.{digit}
use Rattle.octets.proofs.Lists.{mem-here, mem-less}
use Rattle.octets.proofs.Order.{less-or-not, same_or_not}
use Rattle.octets.proofs.Tests.{and_left, and_right, and_both, cond-mem}
use Rattle.tree.specs.BestFirst.{Pending, promised, NonePromises}
use Rattle.tree.proofs.BestFirstSums.{sum, Reordered, sum-append, sum-middle, sum-mem, sum-some}
use Rattle.within_theory.specs.Reading.{read_before, line_up, line_up_all, ties}

-- ---- the order

-- u is not read before p
abbrev pub NotBefore : Pending → Pending → Type 0
NotBefore p u = (promised u < promised p) ⊎ ((promised u ≡ promised p) × (p.part.block ≤ u.part.block))

-- u shows the same rank and the same block
abbrev pub Ties : Pending → Pending → Type 0
Ties p u = (promised u ≡ promised p) × (u.part.block ≡ p.part.block)

pub precedes-trans : (p r u : Pending) → NotBefore p r → NotBefore r u → NotBefore p u
precedes-trans p r u (inl a) (inl b) = inl (omega arith)
precedes-trans p r u (inl a) (inr b) = inl (omega (arith, b.0))
precedes-trans p r u (inr a) (inl b) = inl (omega (arith, a.0))
precedes-trans p r u (inr a) (inr b) = inr (omega (arith, a.0, b.0), omega (arith, a.1, b.1))

-- what stands between two that show the same shows it too
pub twins-between : (p r u : Pending) → NotBefore p r → NotBefore r u → Ties p u → Ties p r
twins-between p r u (inl a) (inl b) t = let z : ⊥ = omega (arith, t.0) in absurd z
twins-between p r u (inl a) (inr b) t = let z : ⊥ = omega (arith, t.0, b.0) in absurd z
twins-between p r u (inr a) (inl b) t = let z : ⊥ = omega (arith, t.0, a.0) in absurd z
twins-between p r u (inr a) (inr b) t = (a.0, omega (arith, t.1, a.1, b.1))

-- the test says which of two is read first
pub before-or-after : (p r : Pending) → ((read_before p r ≡ true) × NotBefore p r) ⊎ ((read_before p r ≡ false) × NotBefore r p)
unfolding read_before
before-or-after p r =
    ⊎_elim
    (λ (e : promised p ≡ promised r).
    rw (eq-eqb (promised p) (promised r) e)
    (⊎_elim (λ (l : p.part.block ≤ r.part.block). inl (le-leb p.part.block r.part.block l, inr (sym e, l)))
    (λ (l : r.part.block < p.part.block). inr (lt-leb p.part.block r.part.block l, inr (e, omega arith)))
    (less-or-not p.part.block r.part.block)))
    (λ (n : promised p ≡ promised r → ⊥).
    rw (ne_eqb (promised p) (promised r) n)
    (⊎_elim (λ (l : promised p ≤ promised r). inr (le-ltb (promised r) (promised p) l, inl (less n l)))
    (λ (l : promised r < promised p). inl (lt-ltb (promised r) (promised p) l, inl l))
    (less-or-not (promised p) (promised r))))
    (same_or_not (promised p) (promised r))
  where
    less : {a b : ℕ} → (a ≡ b → ⊥) → a ≤ b → a < b
    less {a} {b} n l = ⊎_elim (λ (h : b ≤ a). absurd (n (omega arith))) (λ (h : a < b). h) (less-or-not b a)

-- ---- a line

-- none is read before one that stands before it
abbrev pub Lined : List Pending → Type 0
Lined [] = Unit {0}
Lined (p ∷ ps) = ((u : Pending) → Memᴰ u ps → NotBefore p u) × Lined ps

pub sum-line_up : (f : Pending → ℕ) (p : Pending) (rs : List Pending) → sum f (line_up p rs) ≡ f p + sum f rs
sum-line_up f p [] = refl
sum-line_up f p (r ∷ rs) = go (read_before p r) (sum-line_up f p rs)
  where
    go : (b : Bool) → sum f (line_up p rs) ≡ f p + sum f rs → sum f (cond b (p ∷ r ∷ rs) (r ∷ line_up p rs)) ≡ f p + (f r + sum f rs)
    go true e = refl
    go false e = omega arith

pub sum-line_up_all : (f : Pending → ℕ) (ps rs : List Pending) → sum f (line_up_all ps rs) ≡ sum f ps + sum f rs
sum-line_up_all f [] rs = omega arith
sum-line_up_all f (p ∷ ps) rs = omega (arith, sum-line_up f p (line_up_all ps rs), sum-line_up_all f ps rs)

pub line_up-from : (p : Pending) (rs : List Pending) {x : Pending} → Memᴰ x (line_up p rs) → (x ≡ p) ⊎ Memᴰ x rs
line_up-from p [] i = Memᴰ.cases_cons i
line_up-from p (r ∷ rs) i =
    ⊎_elim (λ c. Memᴰ.cases_cons c.1)
    (λ j. ⊎_elim (λ e. inr (Memᴰ.head e)) (λ h. ⊎_elim inl (λ n. inr (Memᴰ.tail n)) (line_up-from p rs h)) (Memᴰ.cases_cons j))
    (cond-mem (read_before p r) (p ∷ r ∷ rs) (r ∷ line_up p rs) i)

line_up-here : (p : Pending) (rs : List Pending) → Memᴰ p (line_up p rs)
line_up-here p [] = Memᴰ.head refl
line_up-here p (r ∷ rs) = go (read_before p r) (line_up-here p rs)
  where
    go : (b : Bool) → Memᴰ p (line_up p rs) → Memᴰ p (cond b (p ∷ r ∷ rs) (r ∷ line_up p rs))
    go true j = Memᴰ.head refl
    go false j = Memᴰ.tail j

line_up-more : (p : Pending) (rs : List Pending) {x : Pending} → Memᴰ x rs → Memᴰ x (line_up p rs)
line_up-more p [] i = absurd (Memᴰ.not-nil i)
line_up-more p (r ∷ rs) {x} i = go (read_before p r) (λ j. line_up-more p rs j)
  where
    go : (b : Bool) → (Memᴰ x rs → Memᴰ x (line_up p rs)) → Memᴰ x (cond b (p ∷ r ∷ rs) (r ∷ line_up p rs))
    go true ih = Memᴰ.tail i
    go false ih = ⊎_elim (λ e. Memᴰ.head e) (λ j. Memᴰ.tail (ih j)) (Memᴰ.cases_cons i)

-- nothing is lost, and nothing is brought in
pub line_up_all-in : (ps rs : List Pending) {x : Pending} → Memᴰ x ps ⊎ Memᴰ x rs → Memᴰ x (line_up_all ps rs)
line_up_all-in [] rs (inl i) = absurd (Memᴰ.not-nil i)
line_up_all-in [] rs (inr i) = i
line_up_all-in (p ∷ ps) rs {x} (inl i) =
    ⊎_elim (λ (e : x ≡ p). rw e (line_up-here p (line_up_all ps rs))) (λ j. line_up-more p (line_up_all ps rs) (line_up_all-in ps rs (inl j))) (Memᴰ.cases_cons i)
line_up_all-in (p ∷ ps) rs (inr i) = line_up-more p (line_up_all ps rs) (line_up_all-in ps rs (inr i))

pub line_up_all-from : (ps rs : List Pending) {x : Pending} → Memᴰ x (line_up_all ps rs) → Memᴰ x ps ⊎ Memᴰ x rs
line_up_all-from [] rs i = inr i
line_up_all-from (p ∷ ps) rs i =
    ⊎_elim (λ e. inl (Memᴰ.head e)) (λ j. ⊎_elim (λ h. inl (Memᴰ.tail h)) inr (line_up_all-from ps rs j)) (line_up-from p (line_up_all ps rs) i)

pub line_up-lined : (p : Pending) (rs : List Pending) → Lined rs → Lined (line_up p rs)
line_up-lined p [] l = (λ u i. absurd (Memᴰ.not-nil i), tt)
line_up-lined p (r ∷ rs) l =
    ⊎_elim
    (λ (c : (read_before p r ≡ true) × NotBefore p r).
    rw c.0 (λ u i. ⊎_elim (λ (e : u ≡ r). rw e c.1) (λ j. precedes-trans p r u c.1 (l.0 u j)) (Memᴰ.cases_cons i), l))
    (λ (c : (read_before p r ≡ false) × NotBefore r p).
    rw c.0 (λ u i. ⊎_elim (λ (e : u ≡ p). rw e c.1) (λ j. l.0 u j) (line_up-from p rs i), line_up-lined p rs l.1))
    (before-or-after p r)

pub line_up_all-lined : (ps rs : List Pending) → Lined rs → Lined (line_up_all ps rs)
line_up_all-lined [] rs l = l
line_up_all-lined (p ∷ ps) rs l = line_up-lined p (line_up_all ps rs) (line_up_all-lined ps rs l)

-- parts put in line are the same parts in another order
pub lined-up : (ps rs : List Pending) → Reordered (ps ++ rs) (line_up_all ps rs)
lined-up ps rs =
    record {
      sums = λ f. omega (arith, sum-line_up_all f ps rs, sum-append f ps rs);
      from = λ u i. ⊎_elim (λ j. Memᴰ.append_left rs j) (λ j. Memᴰ.append_right ps j) (line_up_all-from ps rs i);
    }

-- the first in line promises most
pub lined-most : (p : Pending) (ps : List Pending) → Lined (p ∷ ps) → NonePromises (promised p) ps
lined-most p ps l u i = ⊎_elim (λ (h : promised u < promised p). omega arith) (λ h. omega (arith, h.0)) (l.0 u i)

-- ---- two that show the same

abbrev pub twin : Pending → Pending → Bool
twin p u = eqb (promised p) (promised u) && eqb p.part.block u.part.block

-- how many show the same as p is the sum of this
abbrev pub twin_mark : Pending → Pending → ℕ
twin_mark p u = digit (twin p u)

pub twin-true : (p u : Pending) → twin p u ≡ true → Ties p u
twin-true p u h =
    let a = eqb (promised p) (promised u) in
    let b = eqb p.part.block u.part.block in
    (sym (eqb-true (promised p) (promised u) (and_left a b h)), sym (eqb-true p.part.block u.part.block (and_right a b h)))

pub true-twin : (p u : Pending) → Ties p u → twin p u ≡ true
true-twin p u t =
    and_both (eqb (promised p) (promised u)) (eqb p.part.block u.part.block) (eq-eqb (promised p) (promised u) (sym t.0))
    (eq-eqb p.part.block u.part.block (sym t.1))

pub twin-one : (p u : Pending) → Ties p u → twin_mark p u ≡ 1
twin-one p u t = ap digit (true-twin p u t)

pub twin-some : (p : Pending) (us : List Pending) → 0 < sum (twin_mark p) us → (u : Pending) × Memᴰ u us × Ties p u
twin-some p us h = let r = sum-some (twin_mark p) us h in (r.0, r.1, go r.0 (twin p r.0) refl r.2)
  where
    go : (u : Pending) (b : Bool) → twin p u ≡ b → 0 < digit b → Ties p u
    go u true e l = twin-true p u e
    go u false e l = let z : ⊥ = omega arith in absurd z

pub twin-counts : (p : Pending) (us : List Pending) {u : Pending} → Memᴰ u us → Ties p u → 0 < sum (twin_mark p) us
twin-counts p us {u} i t = omega (arith, twin-one p u t, sum-mem (twin_mark p) us i)

-- where one in line shows the same as the first, so does the next
pub twin-ties : (h : Pending) (rest : List Pending) → Lined (h ∷ rest) → (u : Pending) → Memᴰ u rest → Ties h u → ties h rest ≡ true
twin-ties h [] l u i t = absurd (Memᴰ.not-nil i)
twin-ties h (r ∷ rs) l u i t =
    true-twin h r
    (⊎_elim (λ (e : u ≡ r). rw (← e) t) (λ j. twins-between h r u (l.0 r (Memᴰ.head refl)) (l.1.0 u j) t) (Memᴰ.cases_cons i))

pub ties-twin : (h : Pending) (rest : List Pending) → ties h rest ≡ true → (u : Pending) × Memᴰ u rest × Ties h u
ties-twin h [] e = absurd (false≢true e)
ties-twin h (r ∷ rs) e = (r, Memᴰ.head refl, twin-true h r e)

-- ---- the first in line

module _ (us : List Pending) (p : Pending) (vs : List Pending) (h : Pending) (rest : List Pending) (o : Reordered (h ∷ rest) (us ++ (p ∷ vs)))
    (l : Lined (h ∷ rest)) (first : (u : Pending) → Memᴰ u (us ++ vs) → NotBefore p u) where
  -- p is the first in line or stands after it
  pub first-or-later : (p ≡ h) ⊎ Memᴰ p rest
  first-or-later = Memᴰ.cases_cons (o.from p (mem-here us p vs))

  -- the first in line shows what p shows
  pub head-twins : Ties p h
  head-twins =
      ⊎_elim (λ (e : p ≡ h). (ap promised (sym e), ap (λ (u : Pending). u.part.block) (sym e)))
      (λ i.
      let r = twin-some h (us ++ (p ∷ vs)) (omega (arith, o.sums (twin_mark h), twin-one h h (refl, refl))) in
      ⊎_elim (λ (e : r.0 ≡ p). flip p (subst (Ties h) e r.2)) (λ j. same r.0 (l.0 p i) (first r.0 j) r.2)
      (mem-less us p vs r.1))
      first-or-later
    where
      flip : (u : Pending) → Ties h u → Ties u h
      flip u t = (sym t.0, sym t.1)

      -- no other comes before p, and h doesn't come after it
      same : (u : Pending) → NotBefore h p → NotBefore p u → Ties h u → Ties p h
      same u a b t = flip p (twins-between h p u a b t)

  -- the others that show the same stand after the first
  pub others-after : sum (twin_mark p) rest ≡ sum (twin_mark p) (us ++ vs)
  others-after =
      omega (arith, o.sums (twin_mark p), sum-middle (twin_mark p) us p vs, twin-one p h head-twins, twin-one p p (refl, refl))
