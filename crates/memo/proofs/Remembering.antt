-- What is remembered of validated blocks: nothing at first, and what is written into a slot.
-- Assumes nothing.
use mathlib.Core.Path.{◌≡◌, refl, sym, ap, subst, ◌∙◌}
use mathlib.Core.Bool.{Bool, true, ◌&&◌}
use mathlib.Core.List.{List, [], ◌∷◌}
use mathlib.Core.Logic.{◌⊎◌, inl, inr, ⊎_elim}
use Prim.Native.Nat.{ℕ, zero, suc, ◌%◌, ◌<◌}
use native.Mathlib.Nat.{mod-lt}
use native.Mathlib.Omega.{arith}
use lib.ListN.{length-set, get_or, set, replicate}
use lib.Dec.{eqb}
use lib.Pointwise.{pointwise, bytes_decides}
use borrow.Author.Tests.{eqb-true, eq-eqb}
use Rattle.octets.proofs.Tests.{and_left, and_right, and_both}
use Rattle.block.specs.declared.Entry.{Entry}
use Rattle.block.specs.declared.Asked.{Asked}
use Rattle.block.specs.declared.Asked.TheVariants.{Root, Child}
use Rattle.block.specs.Node.{store_of}
use Rattle.block.specs.NodeRules.{node_ok, stands_in}
use Rattle.memo.specs.Known.{words_of, same_at, same_words, Known, StillKnown}

-- ---- equal words are an equal level and way

each : (a b c d e f : Bool) → a && b && c && d && e && f ≡ true → (a ≡ true) × (b ≡ true) × (c ≡ true) × (d ≡ true) × (e ≡ true) × (f ≡ true)
each a b c d e f h =
    let five = and_left (a && b && c && d && e) f h in
    let four = and_left (a && b && c && d) e five in
    let three = and_left (a && b && c) d four in
    let two = and_left (a && b) c three in
    (and_left a b two, and_right a b two, and_right (a && b) c three, and_right (a && b && c) d four, and_right (a && b && c && d) e five, and_right (a && b && c && d && e) f h)

record Words (a b : List ℕ) : Type 0 where
  word0 : get_or a 0 0 ≡ get_or b 0 0
  word1 : get_or a 1 0 ≡ get_or b 1 0
  word2 : get_or a 2 0 ≡ get_or b 2 0
  word3 : get_or a 3 0 ≡ get_or b 3 0
  word4 : get_or a 4 0 ≡ get_or b 4 0
  word5 : get_or a 5 0 ≡ get_or b 5 0

words_same : (a b : List ℕ) → same_words a b ≡ true → Words a b
unfolding same_words
words_same a b h =
    let w = each (same_at 0 a b) (same_at 1 a b) (same_at 2 a b) (same_at 3 a b) (same_at 4 a b) (same_at 5 a b) h in
    record {
      word0 = eqb-true _ _ w.0;
      word1 = eqb-true _ _ w.1;
      word2 = eqb-true _ _ w.2;
      word3 = eqb-true _ _ w.3;
      word4 = eqb-true _ _ w.4;
      word5 = eqb-true _ _ w.5;
    }

-- any words are the same as themselves
same-own : (ws : List ℕ) → same_words ws ws ≡ true
unfolding same_words
same-own ws =
    let one : (i : ℕ) → same_at i ws ws ≡ true = λ i. eq-eqb (get_or ws i 0) (get_or ws i 0) refl in
    and_both _ _ (and_both _ _ (and_both _ _ (and_both _ _ (and_both _ _ (one 0) (one 1)) (one 2)) (one 3)) (one 4)) (one 5)

entry-same : (d e : Entry) → d.block ≡ e.block → d.size ≡ e.size → d.low ≡ e.low → d.top ≡ e.top → d.bottom ≡ e.bottom → d ≡ e
entry-same d e p q r s u =
    ap (λ (k : ℕ). record { block = k; size = d.size; low = d.low; top = d.top; bottom = d.bottom }) p
    ∙ ap (λ (k : ℕ). record { block = e.block; size = k; low = d.low; top = d.top; bottom = d.bottom }) q
    ∙ ap (λ (k : ℕ). record { block = e.block; size = e.size; low = k; top = d.top; bottom = d.bottom }) r
    ∙ ap (λ (k : ℕ). record { block = e.block; size = e.size; low = e.low; top = k; bottom = d.bottom }) s
    ∙ ap (λ (k : ℕ). record { block = e.block; size = e.size; low = e.low; top = e.top; bottom = k }) u

same_way : (l m : ℕ) (a b : Asked) → Words (words_of l a) (words_of m b) → (l ≡ m) × (a ≡ b)
same_way l m (Root a) (Root b) w = (omega (arith, w.word0), ap Root w.word1)
same_way l m (Root a) (Child e) w = absurd (omega (arith, w.word0))
same_way l m (Child d) (Root b) w = absurd (omega (arith, w.word0))
same_way l m (Child d) (Child e) w = (omega (arith, w.word0), ap Child (entry-same d e w.word1 w.word2 w.word3 w.word4 w.word5))

-- ---- what is known

-- no words begin with 0
some_word : (l : ℕ) (a : Asked) (s : List ℕ) → get_or s 0 0 ≡ 0 → Words s (words_of l a) → ⊥
some_word l (Root b) s z w = omega (arith, z, w.word0)
some_word l (Child e) s z w = omega (arith, z, w.word0)

abbrev empty : List ℕ
empty = replicate 6 0

blank : (n i : ℕ) → get_or (get_or (replicate n empty) i []) 0 0 ≡ 0
blank zero i = refl
blank (suc n) zero = refl
blank (suc n) (suc i) = blank n i

-- empty slots say nothing
pub known-blank : (t : List ℕ) (n : ℕ) → Known t (replicate n empty)
known-blank t n = record { valid = λ i level a h. absurd (some_word level a (get_or (replicate n empty) i []) (blank n i) (words_same (get_or (replicate n empty) i []) (words_of level a) h)) }

put_one : (known : List (List ℕ)) (slot i : ℕ) (s : List ℕ) → (get_or (set known slot s) i [] ≡ s) ⊎ (get_or (set known slot s) i [] ≡ get_or known i [])
put_one [] slot i s = inr refl
put_one (x ∷ xs) zero zero s = inl refl
put_one (x ∷ xs) zero (suc i) s = inr refl
put_one (x ∷ xs) (suc slot) zero s = inr refl
put_one (x ∷ xs) (suc slot) (suc i) s = put_one xs slot i s

as-known : (t : List ℕ) (l m : ℕ) (a b : Asked) → (l ≡ m) × (a ≡ b) → node_ok l a (store_of t (stands_in a)) ≡ true → node_ok m b (store_of t (stands_in b)) ≡ true
as-known t l m a b e ok = ap (λ (k : ℕ). node_ok k b (store_of t (stands_in b))) (sym e.0) ∙ ap (λ (d : Asked). node_ok l d (store_of t (stands_in d))) (sym e.1) ∙ ok

put-known : (t : List ℕ) (known : List (List ℕ)) (slot level : ℕ) (a : Asked) → Known t known → node_ok level a (store_of t (stands_in a)) ≡ true
    → Known t (set known slot (words_of level a))
put-known t known slot level a k ok =
    record {
      valid = λ i m b h. ⊎_elim
          (λ (e : get_or (set known slot (words_of level a)) i [] ≡ words_of level a). as-known t level m a b (same_way level m a b (words_same (words_of level a) (words_of m b) (ap (λ (s : List ℕ). same_words s (words_of m b)) (sym e) ∙ h))) ok)
          (λ (e : get_or (set known slot (words_of level a)) i [] ≡ get_or known i []). k.valid i m b (ap (λ (s : List ℕ). same_words s (words_of m b)) (sym e) ∙ h))
          (put_one known slot i (words_of level a));
    }

-- the slot of a block is one of them
pub slot-low : (b n : ℕ) → (n ≡ 0 → ⊥) → b % n < n
slot-low b n some = mod-lt b (omega (arith, some))

-- what stands in a slot keeps the rules
pub known-found : (t : List ℕ) (known : List (List ℕ)) (slot level b : ℕ) (a : Asked) {w : List ℕ} {r : Bool} → Known t known → stands_in a ≡ b → w ≡ words_of level a
    → r ≡ pointwise eqb (get_or known slot []) w → r ≡ true → true ≡ node_ok level a (store_of t b)
known-found t known slot level b a {w} k here way found same =
    let e : get_or known slot [] ≡ words_of level a = (bytes_decides (get_or known slot []) w).0 (sym found ∙ same) ∙ way in
    sym (ap (λ (x : ℕ). node_ok level a (store_of t x)) (sym here) ∙ k.valid slot level a (ap (λ (s : List ℕ). same_words s (words_of level a)) e ∙ same-own (words_of level a)))

-- a node that keeps the rules is written into a slot
pub known-put : (t : List ℕ) (known : List (List ℕ)) (slot level b : ℕ) (a : Asked) {w : List ℕ} → Known t known → stands_in a ≡ b → w ≡ words_of level a
    → node_ok level a (store_of t b) ≡ true → StillKnown t known (set known slot w)
known-put t known slot level b a {w} k here way ok =
    record {
      right = subst (λ (s : List ℕ). Known t (set known slot s)) (sym way) (put-known t known slot level a k (ap (λ (x : ℕ). node_ok level a (store_of t x)) here ∙ ok));
      sized = length-set known slot w;
    }

pub still-more : {t : List ℕ} {known known' known'' : List (List ℕ)} → StillKnown t known known' → StillKnown t known' known'' → StillKnown t known known''
still-more s u = record { right = u.right; sized = u.sized ∙ s.sized }

pub still-as : {t : List ℕ} {known known' known'' : List (List ℕ)} → known'' ≡ known' → StillKnown t known known' → StillKnown t known known''
still-as {t} {known} e s = subst (StillKnown t known) (sym e) s

-- ---- the block that what leads to a node names

pub root_stands : (b : ℕ) → stands_in (Root b) ≡ b
unfolding stands_in
root_stands b = refl

pub child-stands : (e : Entry) → stands_in (Child e) ≡ e.block
unfolding stands_in
child-stands e = refl
