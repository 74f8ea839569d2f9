-- Readings: what each step keeps, when they stay as they are, and how many spots are certain.
-- Assumes nothing.
use mathlib.Core.Path.{◌≡◌, refl, ap, sym, ◌∙◌}
use mathlib.Core.Logic.{⊎_elim}
use mathlib.Core.Bool.{Bool, true, false, cond, not, ◌&&◌, ◌||◌, or-true}
use mathlib.Core.List.Memᴰ
use mathlib.Core.List.{List, [], ◌∷◌, ◌++◌, Memᴰ}
use Prim.Native.Nat.{ℕ, zero, suc, ◌+◌, ◌-◌, ◌≤◌, ◌<◌}
use native.Mathlib.Omega.{arith}
use lib.Dec.{leb, ltb}
use lib.ListN.{length, take, drop, take-append-drop}
use lib.IntN.{ℤ}
use borrow.Author.Tests.{lt-ltb, ltb-true, le-leb, lt-leb}
use Rattle.octets.specs.Lists.{keep, has, is_empty}
use Rattle.octets.proofs.Order.{less-or-not}
use Rattle.octets.proofs.Tests.{refuted, every-mem, every-make}
use Rattle.spot.specs.Keys.{rank_of}
use Rattle.spot.specs.Query.{top_query}
use Rattle.spot.specs.declared.Spot.{Spot}
use Rattle.spot.specs.declared.Query.{Query}
use Rattle.spot.proofs.Ranks.{top-length}
use Rattle.block.specs.Node.{Store, store_of}
use Rattle.tree.specs.BestFirst.{Pending, promised, opened, shown}
use Rattle.tree.proofs.BestFirstSums.{sum, counted, one, sum-append, sum-length, sum-keep}
use Rattle.tree.proofs.BestFirstSpots.{sum-by_top}
use Rattle.within_theory.specs.Reading.{Reading, line_up_all, ties, obeys_at, readable, read_first, above_all, certain, given_of, held_back, stopped, begun, reading}
use Rattle.within_theory.proofs.Lines.{Lined, line_up_all-lined}

-- ---- one step

-- the first in line was read, and it could not be
abbrev pub with_first : Store → Query → Pending → List Pending → Reading → Reading
with_first m q p ps s =
    record { whole = s.whole; unread = line_up_all (opened m q (p.levels - 1) p) ps; found = shown m q p ++ s.found; blocks = p.part.block ∷ s.blocks }

abbrev pub stuck_at : Pending → List Pending → Reading → Reading
stuck_at p ps s = record { whole = false; unread = p ∷ ps; found = s.found; blocks = s.blocks }

pub first_read : (m : Store) (q : Query) (p : Pending) (ps : List Pending) (s : Reading) → readable m p ps s.blocks ≡ true
    → read_first m q (p ∷ ps) s ≡ with_first m q p ps s
first_read m q p ps s h = ap (λ (b : Bool). cond b (with_first m q p ps s) (stuck_at p ps s)) h

pub first-stuck : (m : Store) (q : Query) (p : Pending) (ps : List Pending) (s : Reading) → readable m p ps s.blocks ≡ false
    → read_first m q (p ∷ ps) s ≡ stuck_at p ps s
first-stuck m q p ps s h = ap (λ (b : Bool). cond b (with_first m q p ps s) (stuck_at p ps s)) h

module _ (t : List ℕ) (x1 x2 : ℤ) (k : ℕ) where
  -- with one more allowed
  pub reading_step : (a : ℕ) → let s = reading t x1 x2 k a in
      reading t x1 x2 k (suc a) ≡ cond (stopped k s) s (read_first (store_of t) (top_query x1 x2 0) s.unread s)
  unfolding reading
  reading_step a = refl

  -- what holds at the beginning and is kept when the first in line is read holds of every reading
  pub reading-keeps : (P : Reading → Type 0) → P (begun t)
      → ((s : Reading) → P s → stopped k s ≡ false → P (read_first (store_of t) (top_query x1 x2 0) s.unread s))
      → (a : ℕ) → P (reading t x1 x2 k a)
  unfolding reading
  reading-keeps P b h zero = b
  reading-keeps P b h (suc a) = go (reading t x1 x2 k a) (reading-keeps P b h a) (stopped k (reading t x1 x2 k a)) refl
    where
      go : (s : Reading) → P s → (c : Bool) → stopped k s ≡ c → P (cond c s (read_first (store_of t) (top_query x1 x2 0) s.unread s))
      go s i true e = i
      go s i false e = h s i e

  pub reading-stays-once : (a : ℕ) → stopped k (reading t x1 x2 k a) ≡ true → reading t x1 x2 k (suc a) ≡ reading t x1 x2 k a
  reading-stays-once a h =
      let s = reading t x1 x2 k a in
      reading_step a ∙ ap (λ (c : Bool). cond c s (read_first (store_of t) (top_query x1 x2 0) s.unread s)) h

  pub reading-goes-on : (a : ℕ) → stopped k (reading t x1 x2 k a) ≡ false
      → let s = reading t x1 x2 k a in
      reading t x1 x2 k (suc a) ≡ read_first (store_of t) (top_query x1 x2 0) s.unread s
  reading-goes-on a h =
      let s = reading t x1 x2 k a in
      reading_step a ∙ ap (λ (c : Bool). cond c s (read_first (store_of t) (top_query x1 x2 0) s.unread s)) h

  -- a reading that has stopped is the same with any larger allowance
  pub reading-stays : (a b : ℕ) → a ≤ b → stopped k (reading t x1 x2 k a) ≡ true → reading t x1 x2 k b ≡ reading t x1 x2 k a
  reading-stays a zero l h = ap (reading t x1 x2 k) (let e : zero ≡ a = omega arith in e)
  reading-stays a (suc b) l h =
      ⊎_elim
      (λ (d : a ≤ b).
      let e = reading-stays a b d h in
      reading-stays-once b (ap (stopped k) e ∙ h) ∙ e)
      (λ (d : b < a). ap (reading t x1 x2 k) (let e : suc b ≡ a = omega arith in e))
      (less-or-not a b)

-- ---- when it has stopped

pub broken-stopped : (k : ℕ) (s : Reading) → s.whole ≡ false → stopped k s ≡ true
unfolding stopped
broken-stopped k s h = rw h

pub empty-stopped : (k : ℕ) (s : Reading) → s.unread ≡ [] → stopped k s ≡ true
unfolding stopped
empty-stopped k s h = ap (λ (us : List Pending). not s.whole || (is_empty us || leb k (length (certain s)))) h ∙ or-true (not s.whole)

pub enough-stopped : (k : ℕ) (s : Reading) → k ≤ length (certain s) → stopped k s ≡ true
unfolding stopped
enough-stopped k s h = rw (le-leb k (length (certain s)) h, or-true (is_empty s.unread)) (or-true (not s.whole))

pub not_stopped : (k : ℕ) (s : Reading) → s.whole ≡ true → is_empty s.unread ≡ false → length (certain s) < k → stopped k s ≡ false
unfolding stopped
not_stopped k s w u l = none s.whole (is_empty s.unread) (leb k (length (certain s))) w u (lt-leb k (length (certain s)) l)
  where
    none : (a b c : Bool) → a ≡ true → b ≡ false → c ≡ false → not a || (b || c) ≡ false
    none a b c x y z = rw (x, y, z)

-- no spots are asked for
pub none-stopped : (s : Reading) → stopped 0 s ≡ true
none-stopped s = enough-stopped 0 s (omega arith)

-- .. so the root is never read
pub reading-none : (t : List ℕ) (x1 x2 : ℤ) (a : ℕ) → reading t x1 x2 0 a ≡ begun t
unfolding reading
reading-none t x1 x2 zero = refl
reading-none t x1 x2 (suc a) = reading-stays-once t x1 x2 0 a (none-stopped (reading t x1 x2 0 a)) ∙ reading-none t x1 x2 a

-- once broken, broken for any larger allowance
pub broken-stays : (t : List ℕ) (x1 x2 : ℤ) (k a b : ℕ) → a ≤ b → (reading t x1 x2 k a).whole ≡ false → (reading t x1 x2 k b).whole ≡ false
broken-stays t x1 x2 k a b l h =
    ap (λ (s : Reading). s.whole) (reading-stays t x1 x2 k a b l (broken-stopped k (reading t x1 x2 k a) h)) ∙ h

-- ---- the line

first-lined : (m : Store) (q : Query) (s : Reading) (ps : List Pending) → Lined ps → Lined s.unread → Lined (read_first m q ps s).unread
first-lined m q s [] l h = h
first-lined m q s (p ∷ ps) l h = go (readable m p ps s.blocks)
  where
    go : (b : Bool) → Lined (cond b (with_first m q p ps s) (stuck_at p ps s)).unread
    go true = line_up_all-lined (opened m q (p.levels - 1) p) ps l.1
    go false = l

-- what is unread stands in the order in which it is read
pub reading-lined : (t : List ℕ) (x1 x2 : ℤ) (k a : ℕ) → Lined (reading t x1 x2 k a).unread
unfolding begun
reading-lined t x1 x2 k a =
    reading-keeps t x1 x2 k (λ s. Lined s.unread) (λ u i. absurd (Memᴰ.not-nil i), tt)
    (λ s h e. first-lined (store_of t) (top_query x1 x2 0) s s.unread h h) a

-- ---- certain spots

pub above-all : (us : List Pending) (s : Spot) → ((u : Pending) → Memᴰ u us → promised u < rank_of s.key) → above_all us s ≡ true
unfolding above_all
above-all us s h = every-make (λ u. ltb (promised u) (rank_of s.key)) us (λ u i. lt-ltb (promised u) (rank_of s.key) (h u i))

pub above-each : (us : List Pending) (s : Spot) → above_all us s ≡ true → (u : Pending) → Memᴰ u us → promised u < rank_of s.key
unfolding above_all
above-each us s h u i = ltb-true (promised u) (rank_of s.key) (every-mem (λ u. ltb (promised u) (rank_of s.key)) us h i)

pub not-above : (us : List Pending) (s : Spot) (u : Pending) → Memᴰ u us → rank_of s.key ≤ promised u → above_all us s ≡ false
not-above us s u i l = refuted (above_all us s) (λ h. let z : ⊥ = omega (arith, above-each us s h u i) in z)

pub certain-many : (s : Reading) → length (certain s) ≡ sum (counted (above_all s.unread) one) s.found
unfolding certain
certain-many s =
    top-length (keep (above_all s.unread) s.found) ∙ sym (sum-length (keep (above_all s.unread) s.found)) ∙
    sum-keep (above_all s.unread) one s.found

-- ---- what is given and what is held back

-- those that pass a test and those that don't are all
sum-split : {A : Type 0} (t : A → Bool) (f : A → ℕ) (xs : List A) → sum f (keep t xs) + sum f (keep (λ x. not (t x)) xs) ≡ sum f xs
sum-split t f [] = refl
sum-split {A} t f (x ∷ xs) = go (t x) (sum-split t f xs)
  where
    go : (b : Bool) → sum f (keep t xs) + sum f (keep (λ y. not (t y)) xs) ≡ sum f xs
        → sum f (cond b (x ∷ keep t xs) (keep t xs)) + sum f (cond (not b) (x ∷ keep (λ y. not (t y)) xs) (keep (λ y. not (t y)) xs)) ≡ f x + sum f xs
    go true e = omega arith
    go false e = omega arith

-- what is given and what is held back are all that was found
pub held-sums : (k : ℕ) (s : Reading) (f : Spot → ℕ) → sum f (given_of k s) + sum f (held_back k s) ≡ sum f s.found
unfolding given_of held_back certain
held-sums k s f =
    let above = above_all s.unread in
    let c = certain s in
    let low : Spot → Bool = λ x. not (above x) in
    omega (
      arith,
      sum-append f (drop k c) (keep low s.found),
      sum-append f (take k c) (drop k c),
      ap (sum f) (take-append-drop k c),
      sum-by_top f (keep above s.found),
      sum-split above f s.found,
    )

-- ---- a part that can be read, and one that can't

module _ (m : Store) (p : Pending) (ps : List Pending) (blocks : List ℕ) where
  pub readable-yes : obeys_at p.levels m p.part ≡ true → has p.part.block blocks ≡ false → ties p ps ≡ false → readable m p ps blocks ≡ true
  unfolding readable
  readable-yes a b c = all_three (obeys_at p.levels m p.part) (has p.part.block blocks) (ties p ps) a b c
    where
      all_three : (x y z : Bool) → x ≡ true → y ≡ false → z ≡ false → x && (not y && not z) ≡ true
      all_three x y z a b c = rw (a, b, c)

  pub unreadable-node : obeys_at p.levels m p.part ≡ false → readable m p ps blocks ≡ false
  unfolding readable
  unreadable-node a = ap (λ (b : Bool). b && (not (has p.part.block blocks) && not (ties p ps))) a

  pub unreadable-again : has p.part.block blocks ≡ true → readable m p ps blocks ≡ false
  unfolding readable
  unreadable-again a = none (obeys_at p.levels m p.part) (has p.part.block blocks) (ties p ps) a
    where
      none : (x y z : Bool) → y ≡ true → x && (not y && not z) ≡ false
      none true y z e = rw e
      none false y z e = refl

  pub unreadable-tied : ties p ps ≡ true → readable m p ps blocks ≡ false
  unfolding readable
  unreadable-tied a = none (obeys_at p.levels m p.part) (has p.part.block blocks) (ties p ps) a
    where
      none : (x y z : Bool) → z ≡ true → x && (not y && not z) ≡ false
      none true true z e = refl
      none true false z e = rw e
      none false y z e = refl
