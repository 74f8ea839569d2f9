-- What spots, by their keys, and bare keys have in common.
-- Assumes nothing.
use Rattle.std.specs.Prelude.{◌≡◌, ℕ, ◌≤◌, Bool, true, cond, length, List, [], ◌∷◌, ◌++◌, leb, ltb, refl}
use mathlib.Core.List.{Memᴰ}
use Rattle.std.proofs.Common.{zero-le}
use Rattle.octets.specs.Lists.{keep, rising}
use Rattle.spot.specs.declared.Spot.{Spot}
use Rattle.spot.specs.Spots.{keys, put}
use Rattle.spot.specs.Sorted.{insert_key}
use Rattle.spot.proofs.Buffers.{keys_length, keys-append, keys-only, put_up}
use Rattle.spot.proofs.Sorted.{insert_key-rises}

-- elements by their keys: the keys of a list, an element put in before the first whose key is not below its own, and the element that stands for what is past a list's end
pub record Keyed (A : Type 0) : Type 0 where
  pub key : A → ℕ
  pub blank : A
  pub named : List A → List ℕ
  pub insert : A → List A → List A
  pub named-cons : (x : A) (l : List A) → named (x ∷ l) ≡ key x ∷ named l
  pub named-length : (l : List A) → length (named l) ≡ length l
  pub named-append : (l m : List A) → named (l ++ m) ≡ named l ++ named m
  pub named_keep : (g : ℕ → Bool) (l : List A) → named (keep (λ (x : A). g (key x)) l) ≡ keep g (named l)
  pub insert-nil : (x : A) → insert x [] ≡ x ∷ []
  pub insert-cons : (x y : A) (l : List A) → insert x (y ∷ l) ≡ cond (leb (key x) (key y)) (x ∷ y ∷ l) (y ∷ insert x l)
  pub insert-up : (x : A) (l : List A) → rising (named l) ≡ true → (Memᴰ (key x) (named l) → ⊥) → rising (named (insert x l)) ≡ true

-- the spot that stands for what is past a list's end
abbrev pub blank : Spot
blank = record { key = 0; track = 0 }

abbrev pub spots : Keyed Spot
spots = record {
  key = λ s. s.key;
  blank = blank;
  named = keys;
  insert = put;
  named-cons = λ x l. refl;
  named-length = keys_length;
  named-append = keys-append;
  named_keep = keys-only;
  insert-nil = λ x. refl;
  insert-cons = λ x y l. refl;
  insert-up = put_up;
}

abbrev pub plain : Keyed ℕ
plain = record {
  key = λ k. k;
  blank = 0;
  named = λ l. l;
  insert = insert_key;
  named-cons = λ x l. refl;
  named-length = λ l. refl;
  named-append = λ l m. refl;
  named_keep = λ g l. refl;
  insert-nil = λ x. refl;
  insert-cons = λ x y l. refl;
  insert-up = λ x l h n. insert_key-rises 0 x l zero-le h n;
}

-- the elements whose keys pass a test
abbrev pub having : {A : Type 0} (K : Keyed A) → (ℕ → Bool) → List A → List A
having {A} K g l = keep (λ (x : A). g (K.key x)) l

-- a list of n with this room for it, in place order
pub record InOrder (room n : ℕ) (ks : List ℕ) : Type 0 where
  pub fits : n ≤ room
  pub up : rising ks ≡ true

-- how many of the keys are below k
abbrev pub below : ℕ → List ℕ → ℕ
below k ks = length (keep (λ j. ltb j k) ks)
