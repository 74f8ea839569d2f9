-- A node that was finished: worked on and stored. What settle and split promise of one such node, and of two halves.
-- Assumes nothing.
use mathlib.Core.Path.{◌≡◌, refl, subst, subst⁻¹}
use mathlib.Core.List.{List, [], ◌∷◌, ◌++◌}
use Rattle.std.specs.Prelude.{Some, None}
use Prim.Native.Nat.{ℕ, ◌-◌, ◌<◌}
use Rattle.block.specs.declared.Entry.{Entry}
use Rattle.block.specs.declared.Asked.{Asked}
use Rattle.tree.specs.Part.{low_of}
use Rattle.node.specs.Memory.{Stored}
use Rattle.node.specs.declared.NodeValue.{NodeValue}
use Rattle.edit.specs.Edits.{EntryFor}
use Rattle.spare.specs.declared.Spare.{Spare}
use Rattle.spare.specs.Spares.{spare_of}
use Rattle.settle.specs.declared.Worked.{Worked}
use Rattle.settle.specs.declared.Finished.{Finished}
use Rattle.fill.specs.declared.Failure.{Failure}
use Rattle.settle.specs.Settling.{Roomless, RefineDone, StandsFor, Cuttable, PlaceDone, PlaceFailed, FinishDone}
use Rattle.settle.proofs.Storing.{place-one}
use Rattle.settle.proofs.Splitting.{Halves, Halved, left-whole, right-whole, place-two}

-- ---- what finish promises

pub finish-done : {t t₁ s₁ map₁ t₂ : List ℕ} {b floor level : ℕ} {n : NodeValue} {spare : Spare} {left : ℕ} {w : Worked} {e : Entry} → RefineDone t t₁ s₁ map₁ level n spare left w
    → Stored t₁ t₂ b w.node → EntryFor b floor w.node e → FinishDone t t₂ b floor level n spare left (record { entry = e; left = w.left })
finish-done {t₁ = t₁} {s₁ = s₁} {map₁ = map₁} {w = w} p q d =
    record { table = t₁; scratch = s₁; marks = map₁; work = w; refined = p; same = refl; stored = q; entry = d }

-- ---- one node

pub finish-one : {t s map t₁ : List ℕ} {b floor level : ℕ} {asked : Asked} {n : NodeValue} {spare : Spare} {left : ℕ} {x : Finished} → FinishDone t t₁ b floor level n spare left x
    → StandsFor t s map b level asked n spare left → floor ≡ low_of asked → PlaceDone t t₁ level b asked n spare left (record { first = x.entry; second = None; left = x.left })
finish-one {b = b} {x = x} f st l =
    place-one st f.refined (record { one = refl; spare = f.same; first = subst (λ (v : ℕ). EntryFor b v f.work.node x.entry) l f.entry; stored = f.stored })

-- it could not be finished
pub one-fails : {t : List ℕ} {b level : ℕ} {asked : Asked} {n : NodeValue} {spare : Spare} {left : ℕ} {e : Failure} → Roomless t level n spare left e
    → PlaceFailed t level b asked n spare left e
one-fails h = record { whole = λ lo hi f low sound apart o. h.whole lo hi f o }

-- ---- two halves

module _ {t s map : List ℕ} {b level : ℕ} {asked : Asked} {n : NodeValue} {h : Halves} {spare : Spare} {left : ℕ} (st : StandsFor t s map b level asked n spare left) (cuts : Cuttable level n)
    (hv : Halved n h) where
  pub left-fails : {e : Failure} → Roomless t level h.left spare (left - 1) e → PlaceFailed t level b asked n spare left e
  left-fails f = record { whole = λ lo hi g low sound apart o. left-whole st cuts hv lo hi g o f }

  module _ {t₁ : List ℕ} {floor : ℕ} {x : Finished} (f : FinishDone t t₁ b floor level h.left spare (left - 1) x) where
    pub right-fails : {e : Failure} → Roomless t₁ level h.right spare x.left e → PlaceFailed t level b asked n spare left e
    right-fails {e} g =
        record { whole = λ lo hi q low sound apart o. right-whole st cuts hv lo hi q o f.refined f.stored sound apart (subst (λ (v : ℕ). Roomless t₁ level h.right spare v e) f.same g) }

    pub finish-two : {t₂ : List ℕ} {c : ℕ} {y : Finished} → FinishDone t₁ t₂ c h.sep level h.right spare x.left y → floor ≡ low_of asked → 0 < left
        → spare_of spare left ≡ spare_of spare (left - 1) ++ (c ∷ []) → PlaceDone t t₂ level b asked n spare left (record { first = x.entry; second = Some y.entry; left = y.left })
    finish-two {t₂} {c} {y} g l some last =
        subst⁻¹ (λ (v : ℕ). PlaceDone t t₂ level b asked n spare left (record { first = x.entry; second = Some y.entry; left = v })) g.same
        (place-two st cuts hv f.refined f.stored some last (subst (λ (v : ℕ). RefineDone t₁ g.table g.scratch g.marks level h.right spare v g.work) f.same g.refined) g.stored
        (subst (λ (v : ℕ). EntryFor b v f.work.node x.entry) l f.entry) g.entry)
