-- Which numbers stand: those that stood at first and those of the blocks made, without the halves of fusions. The fusions of the keys under a rank come
-- first, and a fusion's key says of its rank on which side it is.
-- Assumes nothing.
use mathlib.Core.Path.{◌≡◌, refl, ap, ap₂, sym, ◌∙◌}
use mathlib.Core.Logic.{◌⊎◌, inl, inr, ⊎_elim}
use mathlib.Core.Bool.{Bool, true, false, cond, not, ◌&&◌, ◌||◌, and-true, and-false, or-false, or_assoc, or_comm, false≢true}
use mathlib.Core.List.{List, [], ◌∷◌, ◌++◌, Memᴰ}
use Prim.Native.Nat.{ℕ, suc, ◌≤◌, ◌<◌}
use native.Mathlib.Omega.{arith}
use lib.Dec.{ltb, leb, eqb}
use lib.ListN.{length, length-append}
use borrow.Author.Tests.{lt-ltb, le-leb, lt-leb, leb-true, ltb-true, eqb-true, ne_eqb}
use Rattle.octets.specs.Lists.{keep, has, rising, rising_from, up_to}
use Rattle.octets.proofs.Order.{less-or-not}
use Rattle.octets.proofs.Lists.{mem-more, mem-less, mem-same, no_member}
use Rattle.octets.proofs.Tests.{keep-mem, keep-passes, keep_all, every-make, or-either, neither}
use Rattle.octets.proofs.Sets.{has-append, has-not}
use Rattle.octets.proofs.Once.{once-cross, once-second}
use Rattle.octets.proofs.UpTo.{up_to-from, up_to-more}
use Rattle.octets.proofs.Rising.{rising-rest, rising-least, rising-left, rising-right}
use Rattle.spot.specs.Keys.{rank_key, rank_of}
use Rattle.spot.specs.Spots.{keys}
use Rattle.spot.specs.declared.Spot.{Spot}
use Rattle.spot.proofs.Buffers.{keys-append}
use Rattle.sweep.specs.Sweep.{StandingBlock, Fusion, by_rank, ripe, fuse, fusion_at, fused_at, next_number, fusions, standing, first_fused, at_first, sweep, keys_under}
use Rattle.sweep.specs.Pressed.{Pressable, no_key, ended_by}
use Rattle.sweep.specs.Report.{numbers, standing_spots}
use Rattle.sweep.specs.Laws.{consumed, ranked}
use Rattle.sweep.proofs.Orders.{rank_keys, rank_keys-mem, order-rises}
use Rattle.sweep.proofs.Steps.{numbers-append, spots_of-in, stepped, after, fusions-append}
use Rattle.sweep.proofs.Covers.{Kept, kept_next, under-passed}

-- ---- the blocks made by fusions

abbrev pub made_by : List Fusion → List StandingBlock
made_by [] = []
made_by (f ∷ fs) = f.made ∷ made_by fs

pub made_by-append : (fs gs : List Fusion) → made_by (fs ++ gs) ≡ made_by fs ++ made_by gs
made_by-append [] gs = refl
made_by-append (f ∷ fs) gs = ap (λ (l : List StandingBlock). f.made ∷ l) (made_by-append fs gs)

pub made_by-length : (fs : List Fusion) → length (made_by fs) ≡ length fs
made_by-length [] = refl
made_by-length (f ∷ fs) = ap suc (made_by-length fs)

-- their numbers are counted up from the next number on
pub one-numbers : (p n : ℕ) (st : List StandingBlock) → numbers (made_by (fusion_at p n st)) ≡ up_to n (length (fusion_at p n st))
unfolding fuse
one-numbers p n st = stepped (λ st m ts fs. numbers (made_by fs) ≡ up_to n (length fs)) p n (λ st. refl) (λ us a b vs h. refl) st

pub made-numbers : (n : ℕ) (st : List StandingBlock) (ps : List ℕ) → numbers (made_by (fusions n st ps)) ≡ up_to n (length (fusions n st ps))
made-numbers n st [] = refl
made-numbers n st (p ∷ ps) =
    let fs = fusion_at p n st in
    let gs = fusions (next_number p n st) (fused_at p n st) ps in
    ap numbers (made_by-append fs gs) ∙ numbers-append (made_by fs) (made_by gs) ∙
    ap₂ (λ (x y : List ℕ). x ++ y) (one-numbers p n st) (made-numbers (next_number p n st) (fused_at p n st) ps) ∙
    up_to-more n (length fs) (length gs) ∙ ap (up_to n) (sym (length-append fs gs))

-- a block made stands then
made-stands : (p n : ℕ) (st : List StandingBlock) {s : StandingBlock} → Memᴰ s (made_by (fusion_at p n st)) → Memᴰ s (fused_at p n st)
made-stands p n st {s} =
    stepped (λ st m ts fs. Memᴰ s (made_by fs) → Memᴰ s ts) p n (λ st i. absurd (mathlib.Core.List.Memᴰ.not-nil i))
    (λ us a b vs h i. mathlib.Core.List.Memᴰ.append_right us (mathlib.Core.List.Memᴰ.head (mathlib.Core.List.Memᴰ.eq_of_singleton i))) st

-- a block that stands stood before or was made
pub one_from : (p n : ℕ) (st : List StandingBlock) {s : StandingBlock} → Memᴰ s (fused_at p n st) → Memᴰ s st ⊎ Memᴰ s (made_by (fusion_at p n st))
one_from p n st {s} = stepped (λ st m ts fs. Memᴰ s ts → Memᴰ s st ⊎ Memᴰ s (made_by fs)) p n (λ st i. inl i) joins st
  where
    joins : (us : List StandingBlock) (a b : StandingBlock) (vs : List StandingBlock) → ripe p a b ≡ true → Memᴰ s (us ++ ((fuse p n a b).made ∷ vs))
        → Memᴰ s (us ++ (a ∷ b ∷ vs)) ⊎ Memᴰ s ((fuse p n a b).made ∷ [])
    joins us a b vs h i =
        ⊎_elim (λ e. inr (mathlib.Core.List.Memᴰ.head e)) (λ j. inl (mem-more us a (b ∷ vs) (mem-more us b vs j))) (mem-less us (fuse p n a b).made vs i)

pub stands_from : (n : ℕ) (st : List StandingBlock) (ps : List ℕ) {s : StandingBlock} → Memᴰ s (standing n st ps) → Memᴰ s st ⊎ Memᴰ s (made_by (fusions n st ps))
stands_from n st [] i = inl i
stands_from n st (p ∷ ps) {s} i =
    let fs = fusion_at p n st in
    let gs = fusions (next_number p n st) (fused_at p n st) ps in
    let e = sym (made_by-append fs gs) in
    ⊎_elim
    (λ (j : Memᴰ s (fused_at p n st)).
    ⊎_elim (λ (k : Memᴰ s st). inl k) (λ (k : Memᴰ s (made_by fs)). inr (mem-same e (mathlib.Core.List.Memᴰ.append_left (made_by gs) k))) (one_from p n st j))
    (λ (j : Memᴰ s (made_by gs)). inr (mem-same e (mathlib.Core.List.Memᴰ.append_right (made_by fs) j)))
    (stands_from (next_number p n st) (fused_at p n st) ps i)

-- ---- each block rises and has spots of the tour

pub record Block (ss : List Spot) (s : StandingBlock) : Type 0 where
  pub rise : rising (keys s.spots) ≡ true
  pub from : (x : Spot) → Memᴰ x s.spots → Memᴰ x ss

pub block-rises : (st : List StandingBlock) → rising (keys (standing_spots st)) ≡ true → {s : StandingBlock} → Memᴰ s st → rising (keys s.spots) ≡ true
block-rises [] h i = absurd (mathlib.Core.List.Memᴰ.not-nil i)
block-rises (t ∷ st) h i =
    let r = rw (keys-append t.spots (standing_spots st)) at h in
    ⊎_elim (λ e. ap (λ (z : StandingBlock). rising (keys z.spots)) e ∙ rising-left 0 (keys t.spots) (keys (standing_spots st)) r)
    (λ j. block-rises st (rising-right 0 (keys t.spots) (keys (standing_spots st)) r) j)
    (mathlib.Core.List.Memᴰ.cases_cons i)

module _ (ss : List Spot) where
  pub kept_block : (n : ℕ) (st : List StandingBlock) → Kept ss n st → {s : StandingBlock} → Memᴰ s st → Block ss s
  kept_block n st k i = record { rise = block-rises st k.rise i; from = λ x j. k.from x (spots_of-in st i j) }

  pub made-block : (n : ℕ) (st : List StandingBlock) (ps : List ℕ) → Kept ss n st → {s : StandingBlock} → Memᴰ s (made_by (fusions n st ps)) → Block ss s
  made-block n st [] k i = absurd (mathlib.Core.List.Memᴰ.not-nil i)
  made-block n st (p ∷ ps) k i =
      let m = kept_next ss p n st k in
      ⊎_elim (λ j. kept_block (next_number p n st) (fused_at p n st) m (made-stands p n st j)) (λ j. made-block (next_number p n st) (fused_at p n st) ps m j)
      (mathlib.Core.List.Memᴰ.append_cases (made_by (fusion_at p n st)) (mem-same (made_by-append (fusion_at p n st) (fusions (next_number p n st) (fused_at p n st) ps)) i))

-- ---- the numbers that stand

pub consumed-append : (b : ℕ) (fs gs : List Fusion) → consumed b (fs ++ gs) ≡ consumed b fs || consumed b gs
consumed-append b [] gs = refl
consumed-append b (f ∷ fs) gs =
    let t = eqb b f.first || eqb b f.second in
    ap (λ (x : Bool). t || x) (consumed-append b fs gs) ∙ sym (or_assoc t (consumed b fs) (consumed b gs))

half_of : (c x y : ℕ) → eqb c x || eqb c y ≡ true → (c ≡ x) ⊎ (c ≡ y)
half_of c x y h = ⊎_elim (λ e. inl (eqb-true c x e)) (λ e. inr (eqb-true c y e)) (or-either (eqb c x) (eqb c y) h)

-- only what stands is consumed
pub one-consumed : (c p n : ℕ) (st : List StandingBlock) → consumed c (fusion_at p n st) ≡ true → Memᴰ c (numbers st)
unfolding fuse
one-consumed c p n st = stepped (λ st m ts fs. consumed c fs ≡ true → Memᴰ c (numbers st)) p n (λ st h. absurd (false≢true h)) joins st
  where
    joins : (us : List StandingBlock) (a b : StandingBlock) (vs : List StandingBlock) → ripe p a b ≡ true → consumed c (fuse p n a b ∷ []) ≡ true
        → Memᴰ c (numbers (us ++ (a ∷ b ∷ vs)))
    joins us a b vs r h =
        mem-same (sym (numbers-append us (a ∷ b ∷ vs)))
        (mathlib.Core.List.Memᴰ.append_right (numbers us)
        (⊎_elim (λ e. mathlib.Core.List.Memᴰ.head e) (λ e. mathlib.Core.List.Memᴰ.tail (mathlib.Core.List.Memᴰ.head e)) (half_of c a.number b.number (sym (or-false _) ∙ h))))

-- two numbers x and z out, one number w in: u says that a number is left of the two, v that it is right of them
swap : (x z u v w : Bool) → (x || z ≡ true → (u ≡ false) × (v ≡ false) × (w ≡ false))
    → u || (w || v) ≡ ((u || (x || (z || v))) || (w || false)) && not ((x || z) || false)
swap true z u v w h = let r = h refl in rw (r.0, r.1, r.2)
swap false true u v w h = let r = h refl in rw (r.0, r.1, r.2)
swap false false u v w h = ap (λ (y : Bool). u || y) (or_comm w v) ∙ sym (and-true _ ∙ ap (λ (y : Bool). (u || v) || y) (or-false w) ∙ or_assoc u v w)

pub one_has : (ss : List Spot) (c p n : ℕ) (st : List StandingBlock) → Kept ss n st
    → has c (numbers (fused_at p n st)) ≡ (has c (numbers st) || has c (numbers (made_by (fusion_at p n st)))) && not (consumed c (fusion_at p n st))
unfolding fuse
one_has ss c p n st =
    stepped (λ st m ts fs. Kept ss n st → has c (numbers ts) ≡ (has c (numbers st) || has c (numbers (made_by fs))) && not (consumed c fs)) p n
    (λ st k. sym (and-true _ ∙ or-false (has c (numbers st)))) joins st
  where
    joins : (us : List StandingBlock) (a b : StandingBlock) (vs : List StandingBlock) → ripe p a b ≡ true → Kept ss n (us ++ (a ∷ b ∷ vs))
        → has c (numbers (us ++ ((fuse p n a b).made ∷ vs)))
        ≡ (has c (numbers (us ++ (a ∷ b ∷ vs))) || has c (numbers ((fuse p n a b).made ∷ []))) && not (consumed c (fuse p n a b ∷ []))
    joins us a b vs r k =
        let e = numbers-append us (a ∷ b ∷ vs) in
        let o = rw e at k.once in
        let pair = once-second (numbers us) (numbers (a ∷ b ∷ vs)) o in
        let gone : (c ≡ a.number) ⊎ (c ≡ b.number) → Memᴰ c (a.number ∷ b.number ∷ numbers vs) × (Memᴰ c (numbers vs) → ⊥) = λ h.
        ⊎_elim (λ (d : c ≡ a.number). (mathlib.Core.List.Memᴰ.head d, λ i. pair.0 (mathlib.Core.List.Memᴰ.tail (mathlib.Core.List.Memᴰ.cast (sym d) i))))
        (λ (d : c ≡ b.number). (mathlib.Core.List.Memᴰ.tail (mathlib.Core.List.Memᴰ.head d), λ i. pair.1.0 (mathlib.Core.List.Memᴰ.cast (sym d) i))) h in
        let out : eqb c a.number || eqb c b.number ≡ true → (has c (numbers us) ≡ false) × (has c (numbers vs) ≡ false) × (eqb c n ≡ false) = λ h.
        let q = gone (half_of c a.number b.number h) in
        let l = k.numbered c (mem-same (sym e) (mathlib.Core.List.Memᴰ.append_right (numbers us) q.0)) in
        (has-not c (numbers us) (λ i. once-cross (numbers us) (numbers (a ∷ b ∷ vs)) o c i q.0), has-not c (numbers vs) q.1, ne_eqb c n (λ d. omega arith)) in
        rw (numbers-append us ((fuse p n a b).made ∷ vs), has-append c (numbers us) (n ∷ numbers vs), e, has-append c (numbers us) (a.number ∷ b.number ∷ numbers vs))
        (swap (eqb c a.number) (eqb c b.number) (has c (numbers us)) (has c (numbers vs)) (eqb c n) out)

-- one passing and then others
then : (s m₁ m₂ c₁ c₂ : Bool) → (c₁ ≡ true → m₂ ≡ false) → (((s || m₁) && not c₁) || m₂) && not c₂ ≡ (s || (m₁ || m₂)) && not (c₁ || c₂)
then s m₁ m₂ true c₂ h = rw (h refl, and-false (s || m₁)) (sym (and-false (s || (m₁ || false))))
then s m₁ m₂ false c₂ h = ap (λ (x : Bool). x && not c₂) (ap (λ (x : Bool). x || m₂) (and-true (s || m₁)) ∙ or_assoc s m₁ m₂)

pub stands-has : (ss : List Spot) (c n : ℕ) (st : List StandingBlock) (ps : List ℕ) → Kept ss n st
    → has c (numbers (standing n st ps)) ≡ (has c (numbers st) || has c (numbers (made_by (fusions n st ps)))) && not (consumed c (fusions n st ps))
stands-has ss c n st [] k = sym (and-true _ ∙ or-false (has c (numbers st)))
stands-has ss c n st (p ∷ ps) k =
    let m = next_number p n st in
    let ts = fused_at p n st in
    let fs = fusion_at p n st in
    let gs = fusions m ts ps in
    let made : has c (numbers (made_by (fs ++ gs))) ≡ has c (numbers (made_by fs)) || has c (numbers (made_by gs))
    = ap (λ (l : List StandingBlock). has c (numbers l)) (made_by-append fs gs) ∙ ap (has c) (numbers-append (made_by fs) (made_by gs)) ∙ has-append c (numbers (made_by fs)) (numbers (made_by gs)) in
    -- what is made later is numbered above all that stands
    let later : consumed c fs ≡ true → has c (numbers (made_by gs)) ≡ false = λ h.
    has-not c (numbers (made_by gs)) (λ i. let r = up_to-from m (length gs) (mem-same (made-numbers m ts ps) i) in let l = k.numbered c (one-consumed c p n st h) in omega (arith, r.0, l)) in
    stands-has ss c m ts ps (kept_next ss p n st k)
    ∙ ap (λ (x : Bool). (x || has c (numbers (made_by gs))) && not (consumed c gs)) (one_has ss c p n st k)
    ∙ then (has c (numbers st)) (has c (numbers (made_by fs))) (has c (numbers (made_by gs))) (consumed c fs) (consumed c gs) later
    ∙ sym (ap₂ (λ (x y : Bool). (has c (numbers st) || x) && not y) made (consumed-append c fs gs))

-- ---- the keys passed

one-passed : (p n : ℕ) (st : List StandingBlock) {f : Fusion} → Memᴰ f (fusion_at p n st) → f.passed ≡ p
unfolding fuse
one-passed p n st {f} =
    stepped (λ st m ts fs. Memᴰ f fs → f.passed ≡ p) p n (λ st i. absurd (mathlib.Core.List.Memᴰ.not-nil i))
    (λ us a b vs h i. ap (λ (g : Fusion). g.passed) (mathlib.Core.List.Memᴰ.eq_of_singleton i)) st

pub passed-from : (n : ℕ) (st : List StandingBlock) (ps : List ℕ) {f : Fusion} → Memᴰ f (fusions n st ps) → Memᴰ f.passed ps
passed-from n st [] i = absurd (mathlib.Core.List.Memᴰ.not-nil i)
passed-from n st (p ∷ ps) i =
    ⊎_elim (λ j. mathlib.Core.List.Memᴰ.head (one-passed p n st j)) (λ j. mathlib.Core.List.Memᴰ.tail (passed-from (next_number p n st) (fused_at p n st) ps j))
    (mathlib.Core.List.Memᴰ.append_cases (fusion_at p n st) i)

-- a block that was a half of a fusion is ended by the key of one; another is not
pub ended_by_lem : (b : ℕ) (fs : List Fusion) → consumed b fs ≡ true → (f : Fusion) × Memᴰ f fs × (ended_by b fs ≡ f.passed)
ended_by_lem b [] h = let z : ◌≡◌ {A = ℕ} 0 1 = cc in absurd (omega arith)
ended_by_lem b (f ∷ fs) h = go (eqb b f.first || eqb b f.second) h (ended_by_lem b fs)
  where
    go : (t : Bool) → t || consumed b fs ≡ true → (consumed b fs ≡ true → (g : Fusion) × Memᴰ g fs × (ended_by b fs ≡ g.passed))
        → (g : Fusion) × Memᴰ g (f ∷ fs) × (cond t f.passed (ended_by b fs) ≡ g.passed)
    go true e ih = (f, mathlib.Core.List.Memᴰ.head refl, refl)
    go false e ih = let r = ih e in (r.0, mathlib.Core.List.Memᴰ.tail r.1, r.2)

pub ended-none : (b : ℕ) (fs : List Fusion) → consumed b fs ≡ false → ended_by b fs ≡ no_key
ended-none b [] h = refl
ended-none b (f ∷ fs) h = let r = neither (eqb b f.first || eqb b f.second) (consumed b fs) h in rw r.0 (ended-none b fs r.1)

-- the first of two lists of fusions decides
pub ended-append : (b : ℕ) (fs gs : List Fusion) → ended_by b (fs ++ gs) ≡ cond (consumed b fs) (ended_by b fs) (ended_by b gs)
ended-append b [] gs = refl
ended-append b (f ∷ fs) gs = go (eqb b f.first || eqb b f.second) (ended-append b fs gs)
  where
    go : (t : Bool) → ended_by b (fs ++ gs) ≡ cond (consumed b fs) (ended_by b fs) (ended_by b gs)
        → cond t f.passed (ended_by b (fs ++ gs)) ≡ cond (t || consumed b fs) (cond t f.passed (ended_by b fs)) (ended_by b gs)
    go true ih = refl
    go false ih = ih

-- ---- the keys under a rank are passed first

-- the keys of rank y and above, in rank order
abbrev pub at_least : ℕ → List Spot → List ℕ
at_least y ss = keep (ranked y) (by_rank (keys ss))

rank_split : (y a : ℕ) (xs : List ℕ) → rising_from a (rank_keys xs) ≡ true → xs ≡ keep (λ k. ltb (rank_of k) y) xs ++ keep (ranked y) xs
rank_split y a [] h = refl
rank_split y a (x ∷ xs) h =
    let r = rising-rest a (rank_key x) (rank_keys xs) h in
    ⊎_elim
    (λ (l : y ≤ rank_of x).
    let high : (k : ℕ) → Memᴰ k (x ∷ xs) → y ≤ rank_of k = λ k i.
    ⊎_elim (λ (e : k ≡ x). rw e l) (λ (j : Memᴰ k xs). let z = rising-least (suc (rank_key x)) (rank_keys xs) r (rank_keys-mem xs j) in omega arith) (mathlib.Core.List.Memᴰ.cases_cons i) in
    sym (ap₂ (λ (u v : List ℕ). u ++ v)
    (no_member (keep (λ k. ltb (rank_of k) y) (x ∷ xs)) (λ k i. let m = keep-mem (λ k. ltb (rank_of k) y) (x ∷ xs) i in omega (arith, high k m.0, ltb-true (rank_of k) y m.1)))
    (keep_all (ranked y) (x ∷ xs) (every-make (ranked y) (x ∷ xs) (λ k i. le-leb y (rank_of k) (high k i))))))
    (λ (l : rank_of x < y). rw (lt-ltb (rank_of x) y l, lt-leb y (rank_of x) l) (ap (λ (u : List ℕ). x ∷ u) (rank_split y (suc (rank_key x)) xs r)))
    (less-or-not y (rank_of x))

-- the fusions made under the rank, and the others
abbrev pub early : ℕ → List Spot → List Fusion
early y ss = fusions (first_fused ss) (at_first ss) (keys_under y ss)

abbrev pub late : ℕ → List Spot → List Fusion
late y ss = fusions (after (first_fused ss) (at_first ss) (keys_under y ss)) (standing (first_fused ss) (at_first ss) (keys_under y ss)) (at_least y ss)

module _ (y : ℕ) (ss : List Spot) where
  pub early-rank : (f : Fusion) → Memᴰ f (early y ss) → rank_of f.passed < y
  early-rank f i = under-passed y ss f.passed (passed-from (first_fused ss) (at_first ss) (keys_under y ss) i)

  pub late-rank : (f : Fusion) → Memᴰ f (late y ss) → y ≤ rank_of f.passed
  late-rank f i =
      leb-true y (rank_of f.passed)
      (keep-passes (ranked y) (by_rank (keys ss))
      (passed-from (after (first_fused ss) (at_first ss) (keys_under y ss)) (standing (first_fused ss) (at_first ss) (keys_under y ss)) (at_least y ss) i))

  module _ (g : Pressable ss) where
    pub order-split : by_rank (keys ss) ≡ keys_under y ss ++ at_least y ss
    unfolding keys_under
    order-split = rank_split y 0 (by_rank (keys ss)) (order-rises ss g)

    pub sweep-split : sweep ss ≡ early y ss ++ late y ss
    unfolding sweep
    sweep-split = ap (fusions (first_fused ss) (at_first ss)) order-split ∙ fusions-append (first_fused ss) (at_first ss) (keys_under y ss) (at_least y ss)

    -- a block is a half of an early fusion unless it is a half of none, or ended by a key of rank y or above
    pub unconsumed : (b : ℕ) → not (consumed b (early y ss)) ≡ not (consumed b (sweep ss)) || leb y (rank_of (ended_by b (sweep ss)))
    unconsumed b =
        rw (sweep-split, consumed-append b (early y ss) (late y ss), ended-append b (early y ss) (late y ss))
        (go (consumed b (early y ss)) refl (consumed b (late y ss)) refl)
      where
        go : (t : Bool) → consumed b (early y ss) ≡ t → (u : Bool) → consumed b (late y ss) ≡ u
            → not t ≡ not (t || u) || leb y (rank_of (cond t (ended_by b (early y ss)) (ended_by b (late y ss))))
        go true h u k = let r = ended_by_lem b (early y ss) h in rw r.2 (sym (lt-leb y (rank_of r.0.passed) (early-rank r.0 r.1)))
        go false h true k = let r = ended_by_lem b (late y ss) k in rw r.2 (sym (le-leb y (rank_of r.0.passed) (late-rank r.0 r.1)))
        go false h false k = refl
