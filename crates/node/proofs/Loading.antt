-- What is read record by record, put behind what was read before; and the node that is read so.
-- Assumes nothing.
use mathlib.Core.Path.{◌≡◌, refl, sym, ap, ap₂, subst, ◌∙◌}
use mathlib.Core.Logic.{⊎_elim}
use mathlib.Core.Bool.{cond}
use mathlib.Core.List.Memᴰ
use mathlib.Core.List.{List, [], ◌∷◌, ◌++◌, Memᴰ}
use Prim.Native.Nat.{ℕ, ◌+◌, ◌*◌, ◌≤◌, ◌<◌}
use native.Mathlib.Numerals.{add-one}
use native.Mathlib.Omega.{arith}
use lib.Dec.{eqb}
use lib.ListN.{length, take, set, length-set}
use lib.Seq.{take-suc, take_all}
use borrow.Author.Tests.{eq-eqb}
use Rattle.octets.specs.Lists.{records}
use Rattle.octets.proofs.Records.{records-more}
use Rattle.block.specs.declared.Entry.{Entry}
use Rattle.block.specs.Node.{node_of}
use Rattle.block.specs.Access.{front_of, entry_of, EntryIs}
use Rattle.block.proofs.Reading.{entries-count, entry-is}
use Rattle.octets.proofs.Lists.{take-push}
use Rattle.node.specs.declared.Entries.{Entries}
use Rattle.node.specs.Memory.{EntryFits}
use Rattle.node.specs.Blocks.{EntriesLoaded}
use Rattle.node.proofs.Listed.{blank}

-- the turn of a loop that loads
pub record-pushed : {A : Type 0} (f : ℕ → A) (w : ℕ) {l : List A} {x : A} (at i : ℕ) → l ≡ records f w i at → x ≡ f (at + w * i) → l ++ (x ∷ []) ≡ records f w (i + 1) at
record-pushed {A} f w at i e q = ap₂ (λ (y : List A) (z : A). y ++ (z ∷ [])) e q ∙ sym (rw add-one (records-more f w i at))

-- ---- entries

unused : (n k : ℕ) → n ≡ 0 → cond (eqb n 0) 0 k ≡ 0
unused n k z = rw (eq-eqb n 0 z)

-- an entry that was read
entry-fits : (s : List ℕ) (i : ℕ) (e : Entry) → EntryIs s i e → EntryFits e
unfolding entry_of
entry-fits s i e h =
    record {
      block = h.near;
      size = h.small;
      top = λ z. ap (λ (x : Entry). x.top) h.same ∙ unused _ _ (sym (ap (λ (x : Entry). x.size) h.same) ∙ z);
      bottom = λ z. ap (λ (x : Entry). x.bottom) h.same ∙ unused _ _ (sym (ap (λ (x : Entry). x.size) h.same) ∙ z);
    }

-- the first i entries of an array are those of the block
pub record FirstLoaded (s : List ℕ) (l : List Entry) (i : ℕ) : Type 0 where
  pub long : length l ≡ 8
  pub same : (room : ℕ) → take i l ≡ take i (node_of room s).entries
  pub fit : (e : Entry) → Memᴰ e (take i l) → EntryFits e

pub none-loaded : (s : List ℕ) (l : List Entry) → length l ≡ 8 → FirstLoaded s l 0
none-loaded s l h = record { long = h; same = λ room. refl; fit = λ e m. absurd (Memᴰ.not-nil m) }

pub one-loaded : (s : List ℕ) (l : List Entry) (i : ℕ) (e : Entry) → i < 8 → i < (front_of s).c → EntryIs s i e → FirstLoaded s l i → FirstLoaded s (set l i e) (i + 1)
one-loaded s l i e h g p f =
    let m : i < length l = omega (arith, f.long) in
    let q : take (i + 1) (set l i e) ≡ take i l ++ (e ∷ []) = take-push l i e m in
    record {
      long = length-set l i e ∙ f.long;
      same = λ room.
          let es : List Entry = (node_of room s).entries in
          let k : i < length es = omega (arith, entries-count room s) in
          q ∙ ap₂ (λ (y : List Entry) (z : Entry). y ++ (z ∷ [])) (f.same room) (p.same ∙ sym (entry-is room s i blank g))
          ∙ sym (rw add-one (take-suc es i blank k));
      fit = λ x n.
          ⊎_elim (λ y. f.fit x y) (λ y. subst EntryFits (sym (Memᴰ.eq_of_singleton y)) (entry-fits s i e p)) (Memᴰ.append_cases (take i l) (rw q at n));
    }

pub all-loaded : (s : List ℕ) (es : Entries) (c : ℕ) → c ≡ (front_of s).c → es.n ≡ c → c ≤ 8 → FirstLoaded s es.list c → EntriesLoaded s es
all-loaded s es c e n h f =
    record {
      is = λ room.
          ap (λ (k : ℕ). take k es.list) n ∙ f.same room
          ∙ take_all c (node_of room s).entries (omega (arith, entries-count room s));
      fit = record { few = omega arith; each = λ x m. f.fit x (subst (λ (k : ℕ). Memᴰ x (take k es.list)) n m) };
    }
