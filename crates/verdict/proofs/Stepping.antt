-- Change by change on a sound table: whether a spot is there, how many are live then, and what is turned down.
-- Assumes nothing.
use mathlib.Core.Path.{◌≡◌, refl, sym, ap, ◌∙◌}
use Prim.Native.Nat.{ℕ, suc}
use mathlib.Core.Bool.{Bool, true, false, cond, not, ◌&&◌}
use mathlib.Core.List.{List}
use mathlib.Core.Option.{Option, none, some}
use Rattle.std.specs.Prelude.{is_some, Some, None, Result, Ok, Err}
use Rattle.std.specs.Prelude.{Option as Left}
use lib.ListN.{length}
use lib.Dec.{leb}
use Rattle.octets.specs.Lists.{has, rising}
use Rattle.spot.specs.Spots.{keys, find}
use Rattle.spot.specs.declared.Spot.{Spot}
use Rattle.block.specs.Table.{capacity}
use Rattle.tree.specs.Sound.{sound}
use Rattle.tree.specs.Lookup.{live}
use Rattle.tree.specs.Walk.{live_spots}
use Rattle.tree.proofs.Tables.{live-finds}
use Rattle.lookup.specs.Answers.{Looked, looked_up}
use Rattle.lookup.proofs.Laws.{Says, looked-says, looked-whole}
use Rattle.message.specs.declared.Change.{Change}
use Rattle.message.specs.declared.Change.TheVariants.{Add, Withdraw}
use Rattle.message.specs.Changes.{change_key}
use Rattle.message.specs.Effects.{after_change, turns_down}
use Rattle.message.proofs.Effects.{has-found, has-none, length-add-there, length-add-absent, length-withdraw-there, length-withdraw-absent, turns-add, turns-withdraw}
use Rattle.rows.specs.Rows.{row_of, row_track, track_left}
use Rattle.rows.proofs.Merged.{leaves}
use Rattle.verdict.specs.declared.Refused.{Refused}
use Rattle.verdict.specs.declared.Refused.TheVariants.{NoRoom}
use Rattle.verdict.specs.Verdicts.{there_by, there_as, there_after, one_more, next_live}
use Rattle.verdict.proofs.Steps.{less_one}

-- what is found of a key says whether it is there
abbrev pub there_in : Option ℕ → Result Bool Refused
there_in none = Ok false
there_in (some a) = Ok true

as-left : (v : Left ℕ) → there_as v ≡ there_in (track_left v)
as-left None = refl
as-left (Some a) = refl

word-there : (o : Option (Left ℕ)) (d : Option ℕ) (l : Looked) → there_by l ≡ there_in d → there_after o l ≡ there_in (leaves o d)
word-there none d l e = e
word-there (some v) d l e = as-left v

-- a look-up on a sound table says whether the key is live
looked-there : (t : List ℕ) → sound t ≡ true → (k : ℕ) → there_by (looked_up t k) ≡ there_in (live t k)
looked-there t s k = go (looked_up t k) refl (looked-says {t = t} {k = k} (record { is = refl }))
  where
    go : (l : Looked) → looked_up t k ≡ l → Says l (live t k) → there_by l ≡ there_in (live t k)
    go (Ok (Some a)) e h = ap there_in (sym h)
    go (Ok None) e h = ap there_in (sym h)
    go (Err e') e h = absurd (looked-whole {t = t} {k = k} (record { is = refl }) s e)

-- so rows and look-up together know it of spots in which the rows' changes are made
pub there-is : (t : List ℕ) → sound t ≡ true → (k : ℕ) (o : Option (Left ℕ)) (ss : List Spot) → find k ss ≡ leaves o (find k (live_spots t))
    → there_after o (looked_up t k) ≡ there_in (find k ss)
there-is t s k o ss e =
    word-there o (live t k) (looked_up t k) (looked-there t s k) ∙ ap (λ (d : Option ℕ). there_in (leaves o d)) (sym (live-finds t s k)) ∙ ap there_in (sym e)

-- ---- one change

abbrev pub change_adds : Change → Bool
change_adds (Add s) = true
change_adds (Withdraw k) = false

pub row-adds : (c : Change) → is_some (row_track (row_of c)) ≡ change_adds c
row-adds (Add s) = refl
row-adds (Withdraw k) = refl

-- what a change comes to
abbrev pub stepped : ℕ → Change → List Spot → Result ℕ Refused
stepped bytes c ss = cond (turns_down bytes c ss) (Err NoRoom) (Ok (length (after_change c ss)))

module _ (bytes : ℕ) (ss : List Spot) (up : rising (keys ss) ≡ true) where
  add-there : (s : Spot) → has s.key (keys ss) ≡ true → Ok (length ss) ≡ stepped bytes (Add s) ss
  add-there s h = go (leb (capacity bytes) (length ss)) (turns-add bytes s ss ∙ ap (λ (b : Bool). leb (capacity bytes) (length ss) && not b) h)
    where
      go : (b : Bool) → turns_down bytes (Add s) ss ≡ b && false → Ok (length ss) ≡ stepped bytes (Add s) ss
      go true e = rw e (ap (λ (k : ℕ). Ok k) (sym (length-add-there s ss up h)))
      go false e = rw e (ap (λ (k : ℕ). Ok k) (sym (length-add-there s ss up h)))

  add-new : (s : Spot) → has s.key (keys ss) ≡ false → one_more (capacity bytes) (length ss) ≡ stepped bytes (Add s) ss
  unfolding one_more
  add-new s h = go (leb (capacity bytes) (length ss)) (turns-add bytes s ss ∙ ap (λ (b : Bool). leb (capacity bytes) (length ss) && not b) h)
    where
      go : (b : Bool) → turns_down bytes (Add s) ss ≡ b && true → cond b (Err NoRoom) (Ok (suc (length ss))) ≡ stepped bytes (Add s) ss
      go true e = rw e refl
      go false e = rw e (ap (λ (k : ℕ). Ok k) (sym (length-add-absent s ss h)))

  pub step_is : (c : Change) → next_live (capacity bytes) (change_adds c) (there_in (find (change_key c) ss)) (length ss) ≡ stepped bytes c ss
  step_is (Add s) = go (find s.key ss) refl
    where
      go : (o : Option ℕ) → find s.key ss ≡ o → next_live (capacity bytes) true (there_in o) (length ss) ≡ stepped bytes (Add s) ss
      go (some a) e = add-there s (has-found s.key ss e)
      go none e = add-new s (has-none s.key ss e)
  step_is (Withdraw k) = rw (turns-withdraw bytes k ss) (go (find k ss) refl)
    where
      go : (o : Option ℕ) → find k ss ≡ o → next_live (capacity bytes) false (there_in o) (length ss) ≡ Ok (length (after_change (Withdraw k) ss))
      go (some a) e = sym (less_one (length ss) (length (after_change (Withdraw k) ss)) (length-withdraw-there k ss up (has-found k ss e)))
      go none e = ap (λ (k : ℕ). Ok k) (sym (length-withdraw-absent k ss (has-none k ss e)))
