-- The blocks that stand once all ranks under y are passed: they hold every spot of rank y and above, once, and rise from left to right.
-- Assumes nothing.
use mathlib.Core.Path.{◌≡◌, refl, ap, sym, ◌∙◌}
use mathlib.Core.Logic.{⊎_elim}
use mathlib.Core.Bool.{Bool, true, false, cond, ◌&&◌}
use mathlib.Core.List.Memᴰ
use mathlib.Core.List.{List, [], ◌∷◌, ◌++◌, append_assoc, Memᴰ}
use Prim.Native.Nat.{ℕ, zero, suc, ◌+◌, ◌*◌, ◌≤◌, ◌<◌}
use native.Mathlib.Omega.{arith}
use lib.Dec.{ltb}
use lib.ListN.{length, take, drop, take-append-drop, length-take, length-drop, length-append}
use borrow.Author.Tests.{lt-ltb, ltb-true, leb-true, eqb-true}
use Rattle.octets.specs.Lists.{keep, rising, rising_from, up_to}
use Rattle.octets.proofs.Lists.{mem-more, mem-less, mem-same}
use Rattle.octets.proofs.Tests.{keep_append, keep-keep, keep-in, keep-passes, bool-ext, and_right, and_both}
use Rattle.octets.proofs.Once.{Once}
use Rattle.octets.proofs.UpTo.{up_to-once, up_to-from}
use Rattle.octets.proofs.Rising.{rising-first, rising-rest, rising-make, rising-lower}
use Rattle.spot.specs.Keys.{rank_key, rank_of}
use Rattle.spot.specs.Spots.{keys}
use Rattle.spot.specs.Sorted.{only}
use Rattle.spot.specs.declared.Spot.{Spot}
use Rattle.spot.proofs.Buffers.{keys-append, keys-only}
use Rattle.sweep.specs.Sweep.{StandingBlock, cut, cuts_for, numbered, at_first, by_rank, above_passed, left, ripe, fuse, fused_at, next_number, standing, first_fused, keys_under, standing_at}
use Rattle.sweep.specs.Pressed.{Pressable}
use Rattle.sweep.specs.Report.{numbers, standing_spots}
use Rattle.sweep.specs.Laws.{ranked, Stood}
use Rattle.sweep.proofs.Steps.{spots_of-append, numbers-append, stepped, after, carried}

-- ---- what stands at first

pub cut-length : (m : ℕ) (ss : List Spot) → length (cut m ss) ≡ m
cut-length zero ss = refl
cut-length (suc m) ss = ap suc (cut-length m (drop 64 ss))

pub numbered-numbers : (n : ℕ) (bs : List (List Spot)) → numbers (numbered n bs) ≡ up_to n (length bs)
numbered-numbers n [] = refl
numbered-numbers n (b ∷ bs) = ap (λ (l : List ℕ). n ∷ l) (numbered-numbers (suc n) bs)

cut-spots : (m n : ℕ) (ss : List Spot) → length ss ≤ 64 * m → standing_spots (numbered n (cut m ss)) ≡ ss
cut-spots zero n [] h = refl
cut-spots zero n (s ∷ ss) h = let z : ⊥ = omega arith in absurd z
cut-spots (suc m) n ss h =
    ap (λ (l : List Spot). take 64 ss ++ l) (cut-spots m (suc n) (drop 64 ss) (omega (arith, length-drop 64 ss))) ∙ take-append-drop 64 ss

cut-some : (m n : ℕ) (ss : List Spot) → 64 * m < length ss + 64 → {s : StandingBlock} → Memᴰ s (numbered n (cut m ss)) → 0 < length s.spots
cut-some zero n ss h i = absurd (Memᴰ.not-nil i)
cut-some (suc m) n ss h {s} i =
    ⊎_elim (λ e. omega (arith, length-take 64 ss, ap (λ (t : StandingBlock). length t.spots) e))
    (λ j. cut-some m (suc n) (drop 64 ss) (omega (arith, length-drop 64 ss)) j) (Memᴰ.cases_cons i)

module _ (ss : List Spot) where
  pub first-numbers : numbers (at_first ss) ≡ up_to 1 (cuts_for (length ss))
  unfolding at_first
  first-numbers = numbered-numbers 1 (cut (cuts_for (length ss)) ss) ∙ ap (up_to 1) (cut-length (cuts_for (length ss)) ss)

  pub first-spots : standing_spots (at_first ss) ≡ ss
  unfolding at_first cuts_for
  first-spots = cut-spots (cuts_for (length ss)) 1 ss (omega arith)

  pub first_some : {s : StandingBlock} → Memᴰ s (at_first ss) → 0 < length s.spots
  unfolding at_first cuts_for
  first_some i = cut-some (cuts_for (length ss)) 1 ss (omega arith) i

-- ---- a fusion: the two blocks' spots that are left, in the place of all of them

pub pair-spots : (us : List StandingBlock) (a b : StandingBlock) (vs : List StandingBlock) → standing_spots (us ++ (a ∷ b ∷ vs)) ≡ standing_spots us ++ ((a.spots ++ b.spots) ++ standing_spots vs)
pair-spots us a b vs =
    spots_of-append us (a ∷ b ∷ vs) ∙ ap (λ (l : List Spot). standing_spots us ++ l) (sym (append_assoc a.spots b.spots (standing_spots vs)))

pub made-spots : (p n : ℕ) (us : List StandingBlock) (a b : StandingBlock) (vs : List StandingBlock)
    → standing_spots (us ++ ((fuse p n a b).made ∷ vs)) ≡ standing_spots us ++ (left p (a.spots ++ b.spots) ++ standing_spots vs)
unfolding fuse
made-spots p n us a b vs = spots_of-append us ((fuse p n a b).made ∷ vs)

pub length-keep-append : {A : Type 0} (f : A → Bool) (xs ys : List A) → length (keep f (xs ++ ys)) ≡ length (keep f xs) + length (keep f ys)
length-keep-append f xs ys = ap length (keep_append f xs ys) ∙ length-append (keep f xs) (keep f ys)

-- of two tests the stronger one alone decides
pub keep-stronger : {A : Type 0} (f g : A → Bool) → ((x : A) → g x ≡ true → f x ≡ true) → (xs : List A) → keep g (keep f xs) ≡ keep g xs
keep-stronger f g h xs =
    sym (keep-keep f g g (λ x. bool-ext (g x) (f x && g x) (λ t. and_both (f x) (g x) (h x t) t) (λ t. and_right (f x) (g x) t)) xs)

keep-mid : {A : Type 0} (f g : A → Bool) → ((x : A) → g x ≡ true → f x ≡ true) → (us ms vs : List A) → keep g (us ++ (keep f ms ++ vs)) ≡ keep g (us ++ (ms ++ vs))
keep-mid f g h us ms vs =
    rw (keep_append g us (keep f ms ++ vs), keep_append g us (ms ++ vs), keep_append g (keep f ms) vs, keep_append g ms vs, keep-stronger f g h ms)

mem-mid : {A : Type 0} (f : A → Bool) (us ms vs : List A) {x : A} → Memᴰ x (us ++ (keep f ms ++ vs)) → Memᴰ x (us ++ (ms ++ vs))
mem-mid f us ms vs i =
    ⊎_elim (λ j. Memᴰ.append_left (ms ++ vs) j)
    (λ j. Memᴰ.append_right us (⊎_elim (λ k. Memᴰ.append_left vs (keep-in f ms k)) (λ k. Memᴰ.append_right ms k) (Memᴰ.append_cases (keep f ms) j)))
    (Memᴰ.append_cases us i)

rising-mid : (g : ℕ → Bool) (a : ℕ) (us ms vs : List ℕ) → rising_from a (us ++ (ms ++ vs)) ≡ true → rising_from a (us ++ (keep g ms ++ vs)) ≡ true
rising-mid g a [] [] vs h = h
rising-mid g a [] (m ∷ ms) vs h =
    let l = rising-first a m (ms ++ vs) h in
    go l (g m) (rising-mid g (suc m) [] ms vs (rising-rest a m (ms ++ vs) h))
  where
    go : a ≤ m → (t : Bool) → rising_from (suc m) (keep g ms ++ vs) ≡ true → rising_from a (cond t (m ∷ keep g ms) (keep g ms) ++ vs) ≡ true
    go l true ih = rising-make a m (keep g ms ++ vs) l ih
    go l false ih = rising-lower a (suc m) (keep g ms ++ vs) (omega arith) ih
rising-mid g a (u ∷ us) ms vs h =
    rising-make a u (us ++ (keep g ms ++ vs)) (rising-first a u (us ++ (ms ++ vs)) h) (rising-mid g (suc u) us ms vs (rising-rest a u (us ++ (ms ++ vs)) h))

spots-mid : (g : ℕ → Bool) (us ms vs : List Spot) → rising (keys (us ++ (ms ++ vs))) ≡ true → rising (keys (us ++ (only g ms ++ vs))) ≡ true
spots-mid g us ms vs h =
    rw (keys-append us (only g ms ++ vs), keys-append (only g ms) vs, keys-only g ms)
    (rising-mid g 0 (keys us) (keys ms) (keys vs) (rw (keys-append us (ms ++ vs), keys-append ms vs) at h))

once-new : (us : List ℕ) (a b : ℕ) (vs : List ℕ) (n : ℕ) → Once (us ++ (a ∷ b ∷ vs)) → (Memᴰ n (us ++ vs) → ⊥) → Once (us ++ (n ∷ vs))
once-new [] a b vs n o h = (h, o.1.1)
once-new (u ∷ us) a b vs n o h = (
  λ i. ⊎_elim (λ j. o.0 (Memᴰ.append_left (a ∷ b ∷ vs) j))
      (λ j. ⊎_elim (λ (e : u ≡ n). h (Memᴰ.head (sym e))) (λ k. o.0 (Memᴰ.append_right us (Memᴰ.tail (Memᴰ.tail k)))) (Memᴰ.cases_cons j))
      (Memᴰ.append_cases us i),
  once-new us a b vs n o.1 (λ i. h (Memᴰ.tail i)),
)

-- ---- what every passing keeps

-- of the blocks that stand, made of spots of ss, and the number of the next one
pub record Kept (ss : List Spot) (n : ℕ) (st : List StandingBlock) : Type 0 where
  pub once : Once (numbers st)
  pub numbered : (b : ℕ) → Memᴰ b (numbers st) → b < n
  pub some : (s : StandingBlock) → Memᴰ s st → 0 < length s.spots
  pub rise : rising (keys (standing_spots st)) ≡ true
  pub from : (x : Spot) → Memᴰ x (standing_spots st) → Memᴰ x ss

pub kept-first : (ss : List Spot) → Pressable ss → Kept ss (first_fused ss) (at_first ss)
kept-first ss g = record {
  once = rw (first-numbers ss) (up_to-once 1 (cuts_for (length ss)));
  numbered = λ b i. let r = up_to-from 1 (cuts_for (length ss)) (mem-same (first-numbers ss) i) in omega arith;
  some = λ s i. first_some ss i;
  rise = rw (first-spots ss) g.rise;
  from = λ x i. mem-same (first-spots ss) i;
}

-- the spots left of a pair are those of both; of a ripe pair they are 64
pub left_both : (p : ℕ) (a b : StandingBlock) → length (left p (a.spots ++ b.spots)) ≡ length (left p a.spots) + length (left p b.spots)
left_both p a b = length-keep-append (λ (s : Spot). above_passed p s.key) a.spots b.spots

pub ripe-left : (p : ℕ) (a b : StandingBlock) → ripe p a b ≡ true → length (left p (a.spots ++ b.spots)) ≡ 64
unfolding ripe
ripe-left p a b h = left_both p a b ∙ eqb-true _ _ h

pub kept_next : (ss : List Spot) (p n : ℕ) (st : List StandingBlock) → Kept ss n st → Kept ss (next_number p n st) (fused_at p n st)
unfolding fuse
kept_next ss p n st = stepped (λ st m ts fs. Kept ss n st → Kept ss m ts) p n (λ st k. k) joins st
  where
    joins : (us : List StandingBlock) (a b : StandingBlock) (vs : List StandingBlock) → ripe p a b ≡ true
        → Kept ss n (us ++ (a ∷ b ∷ vs)) → Kept ss (suc n) (us ++ ((fuse p n a b).made ∷ vs))
    joins us a b vs h k =
        let e = numbers-append us (a ∷ b ∷ vs) in
        let m = numbers-append us ((fuse p n a b).made ∷ vs) in
        let old : (c : ℕ) → Memᴰ c (numbers us ++ numbers vs) → c < n = λ c i.
        k.numbered c (mem-same (sym e) (mem-more (numbers us) a.number (b.number ∷ numbers vs) (mem-more (numbers us) b.number (numbers vs) i))) in
        record {
          once = rw m (once-new (numbers us) a.number b.number (numbers vs) n (rw e at k.once) (λ i. let z = old n i in omega arith));
          numbered = λ c i.
              ⊎_elim (λ (d : c ≡ n). omega arith) (λ (j : Memᴰ c (numbers us ++ numbers vs)). let z = old c j in omega arith) (mem-less (numbers us) n (numbers vs) (mem-same m i));
          some = λ s i.
              ⊎_elim (λ d. omega (arith, ripe-left p a b h, ap (λ (t : StandingBlock). length t.spots) d))
              (λ j. k.some s (mem-more us a (b ∷ vs) (mem-more us b vs j)))
              (mem-less us (fuse p n a b).made vs i);
          rise = rw (made-spots p n us a b vs) (spots-mid (above_passed p) (standing_spots us) (a.spots ++ b.spots) (standing_spots vs) (rw (pair-spots us a b vs) at k.rise));
          from = λ x i. k.from x (mem-same (sym (pair-spots us a b vs)) (mem-mid (λ (s : Spot). above_passed p s.key) (standing_spots us) (a.spots ++ b.spots) (standing_spots vs) (mem-same (made-spots p n us a b vs) i)));
        }

pub kept-all : (ss : List Spot) (n : ℕ) (st : List StandingBlock) (ps : List ℕ) → Kept ss n st → Kept ss (after n st ps) (standing n st ps)
kept-all ss = carried (Kept ss) (kept_next ss)

-- ---- what is above every key passed is kept

pub only_next : (g : ℕ → Bool) (p n : ℕ) → ((k : ℕ) → g k ≡ true → above_passed p k ≡ true) → (st : List StandingBlock) → only g (standing_spots (fused_at p n st)) ≡ only g (standing_spots st)
only_next g p n h = stepped (λ st m ts fs. only g (standing_spots ts) ≡ only g (standing_spots st)) p n (λ st. refl) joins
  where
    joins : (us : List StandingBlock) (a b : StandingBlock) (vs : List StandingBlock) → ripe p a b ≡ true
        → only g (standing_spots (us ++ ((fuse p n a b).made ∷ vs))) ≡ only g (standing_spots (us ++ (a ∷ b ∷ vs)))
    joins us a b vs r =
        ap (only g) (made-spots p n us a b vs)
        ∙ keep-mid (λ (s : Spot). above_passed p s.key) (λ (s : Spot). g s.key) (λ s t. h s.key t) (standing_spots us) (a.spots ++ b.spots) (standing_spots vs)
        ∙ ap (only g) (sym (pair-spots us a b vs))

pub only-standing : (g : ℕ → Bool) (n : ℕ) (st : List StandingBlock) (ps : List ℕ) → ((p : ℕ) → Memᴰ p ps → (k : ℕ) → g k ≡ true → above_passed p k ≡ true)
    → only g (standing_spots (standing n st ps)) ≡ only g (standing_spots st)
only-standing g n st [] h = refl
only-standing g n st (p ∷ ps) h =
    only-standing g (next_number p n st) (fused_at p n st) ps (λ q i. h q (Memᴰ.tail i)) ∙ only_next g p n (h p (Memᴰ.head refl)) st

-- ---- the blocks that stand once all ranks under y are passed

pub under-passed : (y : ℕ) (ss : List Spot) (p : ℕ) → Memᴰ p (keys_under y ss) → rank_of p < y
unfolding keys_under
under-passed y ss p i = ltb-true (rank_of p) y (keep-passes (λ k. ltb (rank_of k) y) (by_rank (keys ss)) i)

under-above : (y : ℕ) (ss : List Spot) (p : ℕ) → Memᴰ p (keys_under y ss) → (k : ℕ) → ranked y k ≡ true → above_passed p k ≡ true
under-above y ss p i k h =
    let a = under-passed y ss p i in
    let b = leb-true y (rank_of k) h in
    lt-ltb (rank_key p) (rank_key k) (omega arith)

module _ (ss : List Spot) (g : Pressable ss) (y : ℕ) where
  pub kept_at : Kept ss (after (first_fused ss) (at_first ss) (keys_under y ss)) (standing_at y ss)
  unfolding standing_at
  kept_at = kept-all ss (first_fused ss) (at_first ss) (keys_under y ss) (kept-first ss g)

  pub stood : Stood y ss
  unfolding standing_at
  stood = record {
    covers =
        only-standing (ranked y) (first_fused ss) (at_first ss) (keys_under y ss) (under-above y ss) ∙ ap (only (ranked y)) (first-spots ss);
    rise = kept_at.rise;
    nonempty = kept_at.some;
  }
