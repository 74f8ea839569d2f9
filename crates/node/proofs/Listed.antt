-- The entries of a node in memory: the first n of an array, by index, and with some put in the place of others.
-- Assumes nothing.
use mathlib.Core.Path.{◌≡◌, subst, ◌∙◌}
use mathlib.Core.List.{List, [], ◌∷◌, ◌++◌, append_assoc}
use Prim.Native.Nat.{ℕ, suc, ◌+◌, ◌-◌, ◌≤◌, ◌<◌}
use native.Mathlib.Omega.{arith}
use lib.ListN.{length, take, drop, get_or, set, length-set, length-drop}
use lib.Seq.{length-take-le, take_all, take-take, take-set-lt, set_split, split_at, get_or-take}
use Rattle.octets.proofs.Lists.{take-push, at_mem}
use Rattle.buffer.proofs.Lists.{part}
use Rattle.block.specs.declared.Entry.{Entry}
use Rattle.node.specs.Memory.{EntryAt}

abbrev pub blank : Entry
blank = record { block = 0; size = 0; low = 0; top = 0; bottom = 0 }

pub entry-there : (l : List Entry) (n i : ℕ) → n ≤ length l → i < n → EntryAt (take n l) i (get_or l i blank)
entry-there l n i h g =
    let k : i < length (take n l) = rw length-take-le (omega arith) in
    let e : get_or (take n l) i blank ≡ get_or l i blank = get_or-take n l i blank g in
    subst (EntryAt (take n l) i) e (record { split = split_at (take n l) i blank k; there = at_mem (take n l) i blank k })

module _ {A : Type 0} (l : List A) (n i : ℕ) (h : n ≤ length l) (g : i < n) where
  pub replaced : (x : A) → take n (set l i x) ≡ take i (take n l) ++ (x ∷ drop (suc i) (take n l))
  replaced x =
      let k : i < length (take n l) = rw length-take-le (omega arith) in
      take-set-lt n l i x g ∙ set_split (take n l) i x k

  -- two stored from i on
  pub two-stored : (x y : A) → i + 1 < length l → take (i + 1 + 1) (set (set l i x) (i + 1) y) ≡ take i (take n l) ++ (x ∷ y ∷ [])
  two-stored x y k =
      let a : i + 1 < length (set l i x) = rw length-set k in
      let b : i < length l = omega arith in
      let m : i ≤ n = omega arith in
      take-push (set l i x) (i + 1) y a ∙ rw (take-push l i x b, append_assoc, take-take i n l m)

-- what is left from k on
pub from_all : {A : Type 0} (l : List A) (n k : ℕ) → n ≤ length l → part k n (take n l) ≡ drop k (take n l)
from_all l n k h =
    let e : length (take n l) ≡ n = length-take-le n l h in
    let m : length (drop k (take n l)) ≤ n - k = rw length-drop (omega arith) in
    take_all (n - k) (drop k (take n l)) m
