-- What changes leave of a list of spots: its order, the tests that its keys pass, what it finds, its length; and what is answered.
-- Assumes nothing.
use mathlib.Core.Path.{◌≡◌, refl, ap, sym, ◌∙◌}
use mathlib.Core.Bool.{Bool, true, false, cond, not, ◌&&◌, false≢true}
use mathlib.Core.List.{List, [], ◌∷◌, ◌++◌}
use mathlib.Core.Option.{none, some, some-ne-none}
use Prim.Native.Nat.{ℕ, suc, ◌+◌, ◌≤◌, ◌<◌}
use native.Mathlib.Omega.{arith}
use lib.Dec.{eqb, leb}
use lib.ListN.{length}
use borrow.Author.Tests.{eq-eqb, lt-leb, leb-false}
use Rattle.octets.specs.Lists.{every, has, rising}
use Rattle.octets.proofs.Tests.{every-make, keep_all}
use Rattle.octets.proofs.Sets.{has-mem, mem-has, has-not, not-has-mem}
use Rattle.spot.specs.declared.Spot.{Spot}
use Rattle.spot.specs.Spots.{keys, find, without}
use Rattle.spot.specs.Sorted.{but}
use Rattle.spot.proofs.Canon.{find-put, find-without, put-rises, length-put, without-rises, length_without}
use Rattle.spot.proofs.Buffers.{keys-mem, keep-every, put-every, find-mem, mem-find}
use Rattle.spot.proofs.Sorted.{but-yes, length-but}
use Rattle.block.specs.declared.Answer.{Answer}
use Rattle.block.specs.Answers.{answer}
use Rattle.block.specs.Table.{capacity}
use Rattle.message.specs.declared.Change.{Change}
use Rattle.message.specs.declared.Change.TheVariants.{Add, Withdraw}
use Rattle.message.specs.Changes.{change_key, adds_of}
use Rattle.message.specs.Effects.{after_change, after_all, turns_down, applied_from}

-- ---- what is found

cond-twice : {A : Type 0} (b : Bool) (x y z : A) → cond b x (cond b y z) ≡ cond b x z
cond-twice true x y z = refl
cond-twice false x y z = refl

pub find-add : (j : ℕ) (s : Spot) (ss : List Spot) → find j (after_change (Add s) ss) ≡ cond (eqb j s.key) (some s.track) (find j ss)
unfolding after_change
find-add j s ss =
    find-put j s (without s.key ss) ∙ rw (find-without j s.key ss) (cond-twice (eqb j s.key) (some s.track) none (find j ss))

pub find-withdraw : (j k : ℕ) (ss : List Spot) → find j (after_change (Withdraw k) ss) ≡ cond (eqb j k) none (find j ss)
unfolding after_change
find-withdraw j k ss = find-without j k ss

-- ---- order, and tests of keys

pub change-rises : (c : Change) (ss : List Spot) → rising (keys ss) ≡ true → rising (keys (after_change c ss)) ≡ true
unfolding after_change
change-rises (Add s) ss h =
    let gone : find s.key (without s.key ss) ≡ none = find-without s.key s.key ss ∙ rw (eq-eqb s.key s.key refl) in
    put-rises 0 s (without s.key ss) (omega arith) (without-rises 0 s.key ss h) gone
change-rises (Withdraw k) ss h = without-rises 0 k ss h

pub after-rises : (cs : List Change) (ss : List Spot) → rising (keys ss) ≡ true → rising (keys (after_all cs ss)) ≡ true
after-rises [] ss h = h
after-rises (c ∷ cs) ss h = after-rises cs (after_change c ss) (change-rises c ss h)

-- a test that the keys pass, and the change's
pub change-every : (g : ℕ → Bool) (c : Change) (ss : List Spot) → g (change_key c) ≡ true → every g (keys ss) ≡ true
    → every g (keys (after_change c ss)) ≡ true
unfolding after_change without
change-every g (Add s) ss p h =
    put-every g s (without s.key ss) p (keep-every (λ (x : Spot). not (eqb x.key s.key)) g ss h)
change-every g (Withdraw k) ss p h = keep-every (λ (x : Spot). not (eqb x.key k)) g ss h

-- ---- a key that is there, and one that isn't

pub has-found : (k : ℕ) (ss : List Spot) {a : ℕ} → find k ss ≡ some a → has k (keys ss) ≡ true
has-found k ss e = mem-has k (keys ss) (find-mem k ss e)

pub has-none : (k : ℕ) (ss : List Spot) → find k ss ≡ none → has k (keys ss) ≡ false
has-none k ss e = has-not k (keys ss) (λ i. some-ne-none _ (sym (mem-find k ss i).1 ∙ e))

without-absent : (k : ℕ) (ss : List Spot) → has k (keys ss) ≡ false → without k ss ≡ ss
unfolding without
without-absent k ss h =
    keep_all (λ (s : Spot). but k s.key) ss
    (every-make (λ (s : Spot). but k s.key) ss (λ s i. but-yes k s.key (λ (e : s.key ≡ k). not-has-mem k (keys ss) h (rw e at (keys-mem ss i)))))

without-present : (k : ℕ) (ss : List Spot) → rising (keys ss) ≡ true → has k (keys ss) ≡ true → length ss ≡ suc (length (without k ss))
unfolding without
without-present k ss r h = sym (length-but 0 k ss r (has-mem k (keys ss) h))

-- ---- lengths

pub length-withdraw-there : (k : ℕ) (ss : List Spot) → rising (keys ss) ≡ true → has k (keys ss) ≡ true
    → length ss ≡ suc (length (after_change (Withdraw k) ss))
unfolding after_change
length-withdraw-there k ss r h = without-present k ss r h

withdraw-absent : (k : ℕ) (ss : List Spot) → has k (keys ss) ≡ false → after_change (Withdraw k) ss ≡ ss
unfolding after_change
withdraw-absent k ss h = without-absent k ss h

pub length-withdraw-absent : (k : ℕ) (ss : List Spot) → has k (keys ss) ≡ false → length (after_change (Withdraw k) ss) ≡ length ss
length-withdraw-absent k ss h = ap length (withdraw-absent k ss h)

pub length-add-there : (s : Spot) (ss : List Spot) → rising (keys ss) ≡ true → has s.key (keys ss) ≡ true → length (after_change (Add s) ss) ≡ length ss
unfolding after_change
length-add-there s ss r h = length-put s (without s.key ss) ∙ sym (without-present s.key ss r h)

pub length-add-absent : (s : Spot) (ss : List Spot) → has s.key (keys ss) ≡ false → length (after_change (Add s) ss) ≡ suc (length ss)
unfolding after_change
length-add-absent s ss h = length-put s (without s.key ss) ∙ ap (λ (l : List Spot). suc (length l)) (without-absent s.key ss h)

length-add-most : (s : Spot) (ss : List Spot) → length (after_change (Add s) ss) ≤ suc (length ss)
unfolding after_change
length-add-most s ss = omega (arith, length-put s (without s.key ss), length_without s.key ss)

length-withdraw-most : (k : ℕ) (ss : List Spot) → length (after_change (Withdraw k) ss) ≤ length ss
unfolding after_change
length-withdraw-most k ss = length_without k ss

-- ---- one change more

pub after-append : (cs : List Change) (c : Change) (ss : List Spot) → after_all (cs ++ (c ∷ [])) ss ≡ after_change c (after_all cs ss)
after-append [] c ss = refl
after-append (d ∷ cs) c ss = after-append cs c (after_change d ss)

-- ---- what is answered

pub turns-add : (bytes : ℕ) (s : Spot) (ss : List Spot) → turns_down bytes (Add s) ss ≡ leb (capacity bytes) (length ss) && not (has s.key (keys ss))
unfolding turns_down
turns-add bytes s ss = refl

pub turns-withdraw : (bytes k : ℕ) (ss : List Spot) → turns_down bytes (Withdraw k) ss ≡ false
unfolding turns_down
turns-withdraw bytes k ss = refl

pub applied-turned : (bytes i : ℕ) (c : Change) (cs : List Change) (ss : List Spot) → turns_down bytes c ss ≡ true
    → applied_from bytes i (c ∷ cs) ss ≡ answer 4 i
applied-turned bytes i c cs ss h = rw h

pub applied-on : (bytes i : ℕ) (c : Change) (cs : List Change) (ss : List Spot) → turns_down bytes c ss ≡ false
    → applied_from bytes i (c ∷ cs) ss ≡ applied_from bytes (suc i) cs (after_change c ss)
applied-on bytes i c cs ss h = rw h

-- an answer of 4 is not one of 0
four-no : (i : ℕ) → answer 4 i ≡ answer 0 0 → ⊥
four-no i e = let z : ◌≡◌ {A = ℕ} 4 0 = ap (λ (a : Answer). a.number) e in omega arith

-- with room for all that add, none is turned down
pub applied-room : (bytes i : ℕ) (cs : List Change) (ss : List Spot) → length ss + adds_of cs ≤ capacity bytes → applied_from bytes i cs ss ≡ answer 0 0
applied-room bytes i [] ss h = refl
applied-room bytes i (Add s ∷ cs) ss h =
    applied-on bytes i (Add s) cs ss
    (turns-add bytes s ss ∙ ap (λ (b : Bool). b && not (has s.key (keys ss))) (lt-leb (capacity bytes) (length ss) (omega arith)))
    ∙ applied-room bytes (suc i) cs (after_change (Add s) ss) (omega (arith, length-add-most s ss))
applied-room bytes i (Withdraw k ∷ cs) ss h =
    applied-on bytes i (Withdraw k) cs ss (turns-withdraw bytes k ss)
    ∙ applied-room bytes (suc i) cs (after_change (Withdraw k) ss) (omega (arith, length-withdraw-most k ss))

-- a change that is not turned down leaves no more than the capacity
pub change-fits : (bytes : ℕ) (c : Change) (ss : List Spot) → turns_down bytes c ss ≡ false → length ss ≤ capacity bytes → rising (keys ss) ≡ true
    → length (after_change c ss) ≤ capacity bytes
change-fits bytes (Withdraw k) ss t l r = omega (arith, length-withdraw-most k ss)
change-fits bytes (Add s) ss t l r = go (leb (capacity bytes) (length ss)) (has s.key (keys ss)) refl refl (sym (turns-add bytes s ss) ∙ t)
  where
    go : (a b : Bool) → leb (capacity bytes) (length ss) ≡ a → has s.key (keys ss) ≡ b → a && not b ≡ false → length (after_change (Add s) ss) ≤ capacity bytes
    go false b p q e = let m : length ss < capacity bytes = leb-false (capacity bytes) (length ss) p in omega (arith, length-add-most s ss)
    go true true p q e = omega (arith, length-add-there s ss r q)
    go true false p q e = absurd (false≢true (sym e))

pub applied-fits : (bytes i : ℕ) (cs : List Change) (ss : List Spot) → applied_from bytes i cs ss ≡ answer 0 0 → length ss ≤ capacity bytes
    → rising (keys ss) ≡ true → length (after_all cs ss) ≤ capacity bytes
applied-fits bytes i [] ss e l r = l
applied-fits bytes i (c ∷ cs) ss e l r = go (turns_down bytes c ss) refl e (applied-fits bytes (suc i) cs (after_change c ss))
  where
    after : List Spot
    after = after_change c ss

    go : (b : Bool) → turns_down bytes c ss ≡ b → cond b (answer 4 i) (applied_from bytes (suc i) cs after) ≡ answer 0 0
        → (applied_from bytes (suc i) cs after ≡ answer 0 0 → length after ≤ capacity bytes → rising (keys after) ≡ true → length (after_all cs after) ≤ capacity bytes)
        → length (after_all cs after) ≤ capacity bytes
    go true t e ih = absurd (four-no i e)
    go false t e ih = ih e (change-fits bytes c ss t l r) (change-rises c ss r)

-- 0 with the detail 0, or 4 with the position of a change
pub record Applied (i n : ℕ) (r : Answer) : Type 0 where
  pub number : has r.number (0 ∷ 4 ∷ []) ≡ true
  pub done : r.number ≡ 0 → r ≡ answer 0 0
  pub from : r.number ≡ 4 → i ≤ r.detail
  pub to : r.number ≡ 4 → r.detail < i + n

pub applied-is : (bytes i : ℕ) (cs : List Change) (ss : List Spot) → Applied i (length cs) (applied_from bytes i cs ss)
applied-is bytes i [] ss = record { number = refl; done = λ e. refl; from = λ e. absurd (omega arith); to = λ e. absurd (omega arith) }
applied-is bytes i (c ∷ cs) ss = go (turns_down bytes c ss) (applied-is bytes (suc i) cs (after_change c ss))
  where
    go : (b : Bool) → Applied (suc i) (length cs) (applied_from bytes (suc i) cs (after_change c ss))
        → Applied i (suc (length cs)) (cond b (answer 4 i) (applied_from bytes (suc i) cs (after_change c ss)))
    go true a = record { number = refl; done = λ e. absurd (omega arith); from = λ e. omega arith; to = λ e. omega arith }
    go false a =
        record {
          number = a.number;
          done = a.done;
          from = λ e. omega (arith, a.from e);
          to = λ e. omega (arith, a.to e);
        }

pub applied-number : (bytes i : ℕ) (cs : List Change) (ss : List Spot) → has (applied_from bytes i cs ss).number (0 ∷ 4 ∷ []) ≡ true
applied-number bytes i cs ss = (applied-is bytes i cs ss).number
