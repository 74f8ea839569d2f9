-- Blocks that stand at one time have no identity in common, where the entries agree.
-- Assumes nothing.
use mathlib.Core.Path.{◌≡◌, refl, sym, ap, subst, ◌∙◌}
use mathlib.Core.Logic.{◌⊎◌, inl, inr, ⊎_elim}
use mathlib.Core.Bool.{Bool, true, false, cond, ◌&&◌, ◌||◌, false≢true}
use mathlib.Core.List.Memᴰ
use mathlib.Core.List.{List, [], ◌∷◌, Memᴰ}
use Prim.Native.Nat.{ℕ, zero, suc, ◌+◌, ◌-◌, ◌≤◌, ◌<◌}
use native.Mathlib.Omega.{arith}
use lib.Dec.{ltb, leb, eqb}
use borrow.Author.Tests.{leb-true, ltb-true, eqb-true, lt-leb, ne_eqb}
use Rattle.octets.specs.Lists.{up_to}
use Rattle.octets.proofs.Order.{less-or-not}
use Rattle.octets.proofs.Tests.{all-at, and_left, and_right, or-either, or_left, every-mem}
use Rattle.octets.proofs.UpTo.{up_to-in, up_to-from}
use Rattle.spot.specs.Keys.{rank_key, rank_of}
use Rattle.spot.specs.Query.{least_of}
use Rattle.spot.specs.declared.Query.{Query}
use Rattle.block.specs.Table.{blocks_of}
use Rattle.catalogue.specs.declared.Entry.{Entry}
use Rattle.catalogue.specs.Catalogue.{places_of, tile_entry_at, span_fine, tile_entry_fine, apart, makers_rise, in_spans, ended_both, fused_fine, joins_from, joins, joined_from, joined_row, joins_all, entries_agree, catalogue_fine, stands}

-- the span of one ends before that of the other begins
abbrev pub Beside : Entry → Entry → Type 0
Beside x y = (x.high < y.low) ⊎ (y.high < x.low)

-- a key in the span of one of two
in_either : (x y : Entry) (k : ℕ) → in_spans x y k ≡ true → ((x.low ≤ k) × (k ≤ x.high)) ⊎ ((y.low ≤ k) × (k ≤ y.high))
unfolding in_spans
in_either x y k h = ⊎_elim (λ t. inl (between x.low x.high t)) (λ t. inr (between y.low y.high t)) (or-either (leb x.low k && leb k x.high) (leb y.low k && leb k y.high) h)
  where
    between : (a b : ℕ) → leb a k && leb k b ≡ true → (a ≤ k) × (k ≤ b)
    between a b t = (leb-true a k (and_left (leb a k) (leb k b) t), leb-true k b (and_right (leb a k) (leb k b) t))

fused-ends : (z x y : Entry) → fused_fine z x y ≡ true → (in_spans x y z.low ≡ true) × (in_spans x y z.high ≡ true)
unfolding fused_fine
fused-ends z x y h = (all-at _ h 1, all-at _ h 2)

ended-both : (p : ℕ) (x y : Entry) → ended_both p x y ≡ true → (x.ended ≡ p) × (y.ended ≡ p)
unfolding ended_both
ended-both p x y h =
    (eqb-true x.ended p (and_left (eqb x.ended p) (eqb y.ended p) h), eqb-true y.ended p (and_right (eqb x.ended p) (eqb y.ended p) h))

-- the spans of a row rise, from k on
data Spans (e : ℕ → Entry) : ℕ → List ℕ → Type 0 where
  none : {k : ℕ} → Spans e k []
  more : {k a : ℕ} {row : List ℕ} → k ≤ (e a).low → (e a).low ≤ (e a).high → Spans e (suc (e a).high) row → Spans e k (a ∷ row)

module _ (e : ℕ → Entry) where
  spans-under : {j k : ℕ} {row : List ℕ} → j ≤ k → Spans e k row → Spans e j row
  spans-under {j} h none = none
  spans-under {j} h (more {a = a} l s r) = let p : j ≤ (e a).low = omega arith in more p s r

  spans-low : {k : ℕ} {row : List ℕ} → Spans e k row → {u : ℕ} → Memᴰ u row → k ≤ (e u).low
  spans-low none i = absurd (Memᴰ.not-nil i)
  spans-low {k} (more {a = a} l s r) {u} i =
      ⊎_elim (λ (p : u ≡ a). subst (λ (x : ℕ). k ≤ (e x).low) (sym p) l) (λ j. let h = spans-low r j in omega arith) (Memᴰ.cases_cons i)

  spans-beside : {k : ℕ} {row : List ℕ} → Spans e k row → {u v : ℕ} → Memᴰ u row → Memᴰ v row → (u ≡ v → ⊥) → Beside (e u) (e v)
  spans-beside none i j d = absurd (Memᴰ.not-nil i)
  spans-beside (more {a = a} {row = row} l s r) {u} {v} i j d = go (Memᴰ.cases_cons i) (Memᴰ.cases_cons j) (λ m n. spans-beside r m n d)
    where
      go : (u ≡ a) ⊎ Memᴰ u row → (v ≡ a) ⊎ Memᴰ v row → (Memᴰ u row → Memᴰ v row → Beside (e u) (e v)) → Beside (e u) (e v)
      go (inl p) (inl q) ih = absurd (d (p ∙ sym q))
      go (inl p) (inr n) ih = inl (subst (λ (x : ℕ). (e x).high < (e v).low) (sym p) (spans-low r n))
      go (inr m) (inl q) ih = inr (subst (λ (x : ℕ). (e x).high < (e u).low) (sym q) (spans-low r m))
      go (inr m) (inr n) ih = ih m n

  -- place blocks in turn
  spans-places : (n i k : ℕ) → ((j : ℕ) → i ≤ j → j < i + n → (e j).low ≤ (e j).high) → ((j : ℕ) → i ≤ j → suc j < i + n → (e j).high < (e (suc j)).low) → (0 < n → k ≤ (e i).low)
      → Spans e k (up_to i n)
  spans-places zero i k s h l = none
  spans-places (suc n) i k s h l =
      more (l (omega arith)) (s i (omega arith) (omega arith))
      (spans-places n (suc i) (suc (e i).high) (λ j a b. s j (omega arith) (omega arith)) (λ j a b. h j (omega arith) (omega arith)) (λ z. h i (omega arith) (omega arith)))

  -- ---- block b in the place of two

  record Joined (b : ℕ) (row next : List ℕ) : Type 0 where
    rise : {k : ℕ} → (e b).low ≤ (e b).high → Spans e k row → Spans e k next
    there : Memᴰ b next
    from : {u : ℕ} → Memᴰ u next → (u ≡ b) ⊎ Memᴰ u row
    kept : {u : ℕ} → Memᴰ u row → ((e u).ended ≡ (e b).made) ⊎ Memᴰ u next

  -- at the first two, and further right
  joined-first : (b a c : ℕ) (row : List ℕ) → ended_both (e b).made (e a) (e c) ≡ true → fused_fine (e b) (e a) (e c) ≡ true → Joined b (a ∷ c ∷ row) (b ∷ row)
  joined-first b a c row t f = record { rise = rise; there = Memᴰ.head refl; from = λ i. ⊎_elim inl (λ j. inr (Memᴰ.tail (Memᴰ.tail j))) (Memᴰ.cases_cons i); kept = kept }
    where
      rise : {k : ℕ} → (e b).low ≤ (e b).high → Spans e k (a ∷ c ∷ row) → Spans e k (b ∷ row)
      rise {k} s (more la sa (more lc sc r)) =
          let low : (e a).low ≤ (e b).low = ⊎_elim (λ h. h.0) (λ h. omega (arith, h.0)) (in_either (e a) (e c) (e b).low (fused-ends (e b) (e a) (e c) f).0) in
          let high : (e b).high ≤ (e c).high = ⊎_elim (λ h. omega (arith, h.1)) (λ h. h.1) (in_either (e a) (e c) (e b).high (fused-ends (e b) (e a) (e c) f).1) in
          let under : k ≤ (e b).low = omega arith in
          let over : suc (e b).high ≤ suc (e c).high = omega arith in
          more under s (spans-under over r)

      kept : {u : ℕ} → Memᴰ u (a ∷ c ∷ row) → ((e u).ended ≡ (e b).made) ⊎ Memᴰ u (b ∷ row)
      kept {u} i =
          let h = ended-both (e b).made (e a) (e c) t in
          ⊎_elim (λ (p : u ≡ a). inl (ap (λ (x : ℕ). (e x).ended) p ∙ h.0))
          (λ j. ⊎_elim (λ (p : u ≡ c). inl (ap (λ (x : ℕ). (e x).ended) p ∙ h.1)) (λ m. inr (Memᴰ.tail m)) (Memᴰ.cases_cons j))
          (Memᴰ.cases_cons i)

  joined-later : (b a : ℕ) (row next : List ℕ) → Joined b row next → Joined b (a ∷ row) (a ∷ next)
  joined-later b a row next j =
      record {
        rise = rise;
        there = Memᴰ.tail j.there;
        from = λ i. ⊎_elim (λ p. inr (Memᴰ.head p)) (λ m. ⊎_elim inl (λ n. inr (Memᴰ.tail n)) (j.from m)) (Memᴰ.cases_cons i);
        kept = λ i. ⊎_elim (λ p. inr (Memᴰ.head p)) (λ m. ⊎_elim inl (λ n. inr (Memᴰ.tail n)) (j.kept m)) (Memᴰ.cases_cons i);
      }
    where
      rise : {k : ℕ} → (e b).low ≤ (e b).high → Spans e k (a ∷ row) → Spans e k (a ∷ next)
      rise s (more l h r) = more l h (j.rise s r)

  joined-from : (b a : ℕ) (row : List ℕ) → joins_from e b a row ≡ true → Joined b (a ∷ row) (joined_from e b a row)
  joined-from b a [] h = absurd (false≢true h)
  joined-from b a (c ∷ row) h = go (ended_both (e b).made (e a) (e c)) refl (joined-from b c row) h
    where
      go : (t : Bool) → ended_both (e b).made (e a) (e c) ≡ t → (joins_from e b c row ≡ true → Joined b (c ∷ row) (joined_from e b c row))
          → cond t (fused_fine (e b) (e a) (e c)) (joins_from e b c row) ≡ true → Joined b (a ∷ c ∷ row) (cond t (b ∷ row) (a ∷ joined_from e b c row))
      go true p ih f = joined-first b a c row p f
      go false p ih f = joined-later b a (c ∷ row) (joined_from e b c row) (ih f)

  joined-row : (b : ℕ) (row : List ℕ) → joins e b row ≡ true → Joined b row (joined_row e b row)
  joined-row b [] h = absurd (false≢true h)
  joined-row b (a ∷ row) h = joined-from b a row h

-- ---- what stands, where all spans are in order and makers rise

module _ (e : ℕ → Entry) (q : Query) (m : ℕ) (span : (b : ℕ) → 1 ≤ b → b < m → (e b).low ≤ (e b).high)
    (makers : (b c : ℕ) → places_of m < b → b ≤ c → c < m → rank_key (e b).made ≤ rank_key (e c).made) where
  abbrev Stands : ℕ → Type 0
  Stands b = stands q m b (e b) ≡ true

  made-before : (b : ℕ) → places_of m < b → Stands b → rank_of (e b).made < least_of q
  unfolding stands
  made-before b h s =
      let t = and_left (leb b (places_of m) || ltb (rank_of (e b).made) (least_of q)) (eqb (suc b) m || leb (least_of q) (rank_of (e b).ended)) s in
      ltb-true (rank_of (e b).made) (least_of q) (or_left (leb b (places_of m)) (ltb (rank_of (e b).made) (least_of q)) t (lt-leb b (places_of m) h))

  ended-after : (b : ℕ) → suc b < m → Stands b → least_of q ≤ rank_of (e b).ended
  unfolding stands
  ended-after b h s =
      let t = and_right (leb b (places_of m) || ltb (rank_of (e b).made) (least_of q)) (eqb (suc b) m || leb (least_of q) (rank_of (e b).ended)) s in
      leb-true (least_of q) (rank_of (e b).ended) (or_left (eqb (suc b) m) (leb (least_of q) (rank_of (e b).ended)) t (ne_eqb (suc b) m (λ p. omega arith)))

  -- where a block is that the maker of b ended, no block made then or later is
  not-both : (b u v : ℕ) → places_of m < b → u < b → b ≤ v → v < m → (e u).ended ≡ (e b).made → Stands u → Stands v → ⊥
  not-both b u v l h c d p s t =
      let ended : least_of q ≤ rank_of (e b).made = subst (λ (k : ℕ). least_of q ≤ rank_of k) p (ended-after u (omega arith) s) in
      let made = made-before v (omega arith) t in
      let order = makers b v l c d in
      omega arith

  -- u stands in the row, or is still to be made
  abbrev Ahead : ℕ → List ℕ → ℕ → Type 0
  Ahead b row u = Memᴰ u row ⊎ ((b ≤ u) × (u < m))

  beside : (k b : ℕ) (row : List ℕ) → b + k ≡ m → places_of m < b → ((u : ℕ) → Memᴰ u row → u < b) → Spans e 0 row → joins_all e (up_to b k) row ≡ true
      → (u v : ℕ) → Ahead b row u → Ahead b row v → Stands u → Stands v → (u ≡ v → ⊥) → Beside (e u) (e v)
  beside zero b row z l below r j u v i w s t d = go i w
    where
      go : Ahead b row u → Ahead b row v → Beside (e u) (e v)
      go (inl a) (inl c) = spans-beside e r a c d
      go (inr a) c = let y : ⊥ = omega arith in absurd y
      go (inl a) (inr c) = let y : ⊥ = omega arith in absurd y
  beside (suc k) b row z l below r j u v i w s t d = go (after i) (after w) (beside k (suc b) next (omega arith) (omega arith) older rising rest u v)
    where
      next : List ℕ
      next = joined_row e b row

      fits : joins e b row ≡ true
      fits = and_left (joins e b row) (joins_all e (up_to (suc b) k) next) j

      rest : joins_all e (up_to (suc b) k) next ≡ true
      rest = and_right (joins e b row) (joins_all e (up_to (suc b) k) next) j

      one : Joined e b row next
      one = joined-row e b row fits

      rising : Spans e 0 next
      rising = one.rise (span b (omega arith) (omega arith)) r

      older : (x : ℕ) → Memᴰ x next → x < suc b
      older x a = ⊎_elim (λ (p : x ≡ b). omega arith) (λ c. let h = below x c in omega arith) (one.from a)

      -- the maker of b ended it, or it is still ahead
      after : {x : ℕ} → Ahead b row x → (Memᴰ x row × ((e x).ended ≡ (e b).made)) ⊎ Ahead (suc b) next x
      after (inl a) = ⊎_elim (λ p. inl (a, p)) (λ n. inr (inl n)) (one.kept a)
      after {x} (inr a) = ⊎_elim (λ (h : x ≤ b). let p : x ≡ b = omega (arith, a.0) in inr (inl (subst (λ (y : ℕ). Memᴰ y next) (sym p) one.there))) (λ (h : b < x). inr (inr (h, a.1))) (less-or-not x b)

      go : (Memᴰ u row × ((e u).ended ≡ (e b).made)) ⊎ Ahead (suc b) next u → (Memᴰ v row × ((e v).ended ≡ (e b).made)) ⊎ Ahead (suc b) next v
          → (Ahead (suc b) next u → Ahead (suc b) next v → Stands u → Stands v → (u ≡ v → ⊥) → Beside (e u) (e v)) → Beside (e u) (e v)
      go (inl a) c ih = ⊎_elim (λ n. spans-beside e r a.0 n d) (λ h. absurd (not-both b u v l (below u a.0) h.0 h.1 a.1 s t)) w
      go (inr a) (inl c) ih = ⊎_elim (λ n. spans-beside e r n c.0 d) (λ h. absurd (not-both b v u l (below v c.0) h.0 h.1 c.1 t s)) i
      go (inr a) (inr c) ih = ih a c s t d

-- ---- a catalogue in order

span-rises : (n low high : ℕ) → span_fine n low high ≡ true → low ≤ high
unfolding span_fine
span-rises n low high h = go (eqb n 1) h
  where
    go : (t : Bool) → cond t (eqb low high) (ltb low high) ≡ true → low ≤ high
    go true k = let p = eqb-true low high k in omega arith
    go false k = let p = ltb-true low high k in omega arith

module _ (bytes : ℕ) (s : List ℕ) (fine : catalogue_fine bytes s ≡ true) where
  abbrev m : ℕ
  m = blocks_of bytes

  abbrev e : ℕ → Entry
  e = tile_entry_at s

  agree : entries_agree m e ≡ true
  unfolding catalogue_fine
  agree = all-at _ fine 5

  span : (b : ℕ) → 1 ≤ b → b < m → (e b).low ≤ (e b).high
  unfolding catalogue_fine tile_entry_fine
  span b l h = span-rises (e b).size (e b).low (e b).high (all-at _ (every-mem (λ x. tile_entry_fine m x (e x)) (up_to 1 (m - 1)) (all-at _ fine 3) (up_to-in 1 (m - 1) b l (omega arith))) 1)

  gap : (b : ℕ) → 1 ≤ b → b < places_of m → (e b).high < (e (suc b)).low
  unfolding entries_agree apart
  gap b l h = ltb-true (e b).high (e (suc b)).low (every-mem (apart e) (up_to 1 (places_of m - 1)) (all-at _ agree 0) (up_to-in 1 (places_of m - 1) b l (omega arith)))

  next-maker : (b : ℕ) → places_of m < b → suc b < m → rank_key (e b).made < rank_key (e (suc b)).made
  unfolding entries_agree makers_rise
  next-maker b l h =
      ltb-true (rank_key (e b).made) (rank_key (e (suc b)).made)
      (every-mem (makers_rise e) (up_to (suc (places_of m)) (m - places_of m - 2)) (all-at _ agree 1) (up_to-in (suc (places_of m)) (m - places_of m - 2) b l (omega arith)))

  makers-from : (d b : ℕ) → places_of m < b → b + d < m → rank_key (e b).made ≤ rank_key (e (b + d)).made
  makers-from zero b l h = let p : b ≡ b + 0 = omega arith in subst (λ (x : ℕ). rank_key (e b).made ≤ rank_key (e x).made) p (omega arith)
  makers-from (suc d) b l h =
      let p : suc b + d ≡ b + suc d = omega arith in
      let first = next-maker b l (omega arith) in
      let more = makers-from d (suc b) (omega arith) (omega arith) in
      subst (λ (x : ℕ). rank_key (e b).made ≤ rank_key (e x).made) p (omega arith)

  makers : (b c : ℕ) → places_of m < b → b ≤ c → c < m → rank_key (e b).made ≤ rank_key (e c).made
  makers b c l h k = let p : b + (c - b) ≡ c = omega arith in subst (λ (x : ℕ). rank_key (e b).made ≤ rank_key (e x).made) p (makers-from (c - b) b l (omega arith))

  joined-all : joins_all e (up_to (suc (places_of m)) (m - places_of m - 1)) (up_to 1 (places_of m)) ≡ true
  unfolding entries_agree
  joined-all = all-at _ agree 2

  -- two blocks that stand for a query
  pub stood-beside : (q : Query) (u v : ℕ) → 1 ≤ u → u < m → 1 ≤ v → v < m → stands q m u (e u) ≡ true → stands q m v (e v) ≡ true → (u ≡ v → ⊥) → Beside (e u) (e v)
  stood-beside q u v a b c d =
      let l = places_of m in
      beside e q m span makers (m - l - 1) (suc l) (up_to 1 l) (omega arith) (omega arith) (λ x i. let r = up_to-from 1 l i in omega (arith, r.1))
      (spans-places e l 1 0 (λ j h k. span j h (omega arith)) (λ j h k. gap j h (omega arith)) (λ z. omega arith))
      joined-all u v (where-is u a b) (where-is v c d)
    where
      where-is : (x : ℕ) → 1 ≤ x → x < m → Memᴰ x (up_to 1 (places_of m)) ⊎ ((suc (places_of m) ≤ x) × (x < m))
      where-is x h k = ⊎_elim (λ (p : x ≤ places_of m). inl (up_to-in 1 (places_of m) x h (omega arith))) (λ (p : places_of m < x). inr (p, k)) (less-or-not x (places_of m))
