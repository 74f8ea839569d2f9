-- Some parts in two halves, each worked on by itself, the left first; both may take spare blocks. Both stand over the last store.
-- Assumes nothing.
use mathlib.Core.Path.{subst}
use mathlib.Core.List.Memᴰ
use mathlib.Core.List.{List, [], ◌++◌, Memᴰ, append-nil}
use mathlib.Core.Option.{Option}
use Prim.Native.Nat.{ℕ}
use Rattle.octets.specs.Sets.{Apart}
use Rattle.octets.proofs.Sets.{Split, distinct-split}
use Rattle.block.specs.Node.{Store}
use Rattle.tree.specs.Part.{Part}
use Rattle.tree.specs.Reach.{reach}
use Rattle.tree.proofs.Frame.{Same}
use Rattle.tree.proofs.Gather.{gather_append}
use Rattle.update_theory.specs.Change.{reaches, Sound, Changed}
use Rattle.update_theory.specs.Spare.{Taken, Within}
use Rattle.update_theory.proofs.Change.{among, changed-among}
use Rattle.update_theory.proofs.Spare.{spare-left, spare-trans}

module _ (l : ℕ) (s s₁ : List ℕ) (m y : Store) (A A' C : List Part) (g₁ : ℕ → Option ℕ) (all : Sound l m (A ++ C)) (free : Apart s (reaches l m (A ++ C))) (less₁ : Within s₁ s)
    (c₁ : Changed l (Taken s s₁) m A y A' g₁) where
  apart₀ : Split (reaches l m A) (reaches l m C)
  apart₀ = distinct-split (reaches l m A) (reaches l m C) (rw (gather_append (reach l m) A C) at all.once)

  -- the right half is as it was
  pub right-same : Same m y (reaches l m C)
  right-same z i = c₁.kept z (λ j. apart₀.off z j i) (λ t. free z t.0 (rw (gather_append (reach l m) A C) (Memᴰ.append_right (reaches l m A) i)))

  first : Changed l (Taken s s₁) m (A ++ C) y (A' ++ C) (among l (Taken s s₁) m y [] A A' C g₁ all (λ z t i. free z t.0 i) c₁)
  first = changed-among l (Taken s s₁) m y [] A A' C g₁ all (λ z t i. free z t.0 i) c₁

  free₁ : Apart s₁ (reaches l y (A' ++ C))
  free₁ = spare-left l s s₁ m (A ++ C) y (A' ++ C) (among l (Taken s s₁) m y [] A A' C g₁ all (λ z t i. free z t.0 i) c₁) less₁ free first

  -- and the spare blocks left are none of its own
  pub right-free : Apart s₁ (reaches l y C)
  right-free z i j = free₁ z i (rw (gather_append (reach l y) A' C) (Memᴰ.append_right (reaches l y A') j))

  -- then the right half changed
  module _ (s₂ : List ℕ) (w : Store) (C' : List Part) (g₂ : ℕ → Option ℕ) (less₂ : Within s₂ s₁) (c₂ : Changed l (Taken s₁ s₂) y C w C' g₂) where
    apart₁ : Split (reaches l y A') (reaches l y C)
    apart₁ = distinct-split (reaches l y A') (reaches l y C) (rw (gather_append (reach l y) A' C) at first.sound.once)

    -- the left half stays
    pub left-same : Same y w (reaches l y A')
    left-same z i = c₂.kept z (λ j. apart₁.off z i j) (λ t. free₁ z t.0 (rw (gather_append (reach l y) A' C) (Memᴰ.append_left (reaches l y C) i)))

    pub nil : Sound l y (A' ++ (C ++ []))
    nil = rw (append-nil C) first.sound

    pub fresh : (z : ℕ) → Taken s₁ s₂ z → Memᴰ z (reaches l y (A' ++ (C ++ []))) → ⊥
    fresh z t i = free₁ z t.0 (subst (λ (q : List Part). Memᴰ z (reaches l y (A' ++ q))) (append-nil C) i)

    -- what is found then
    abbrev pub within_both : ℕ → Option ℕ
    within_both = among l (Taken s₁ s₂) y w A' C C' [] g₂ nil fresh c₂

    second : Changed l (Taken s₁ s₂) y (A' ++ (C ++ [])) w (A' ++ (C' ++ [])) within_both
    second = changed-among l (Taken s₁ s₂) y w A' C C' [] g₂ nil fresh c₂

    -- both halves changed
    pub halves : Changed l (Taken s s₂) m (A ++ C) w (A' ++ C') within_both
    halves =
        spare-trans l s s₁ s₂ m (A ++ C) y (A' ++ C) w (A' ++ C') (among l (Taken s s₁) m y [] A A' C g₁ all (λ z t i. free z t.0 i) c₁) within_both less₁ less₂ first
        (subst (λ (q : List Part). Changed l (Taken s₁ s₂) y (A' ++ C) w (A' ++ q) within_both) (append-nil C')
        (subst (λ (q : List Part). Changed l (Taken s₁ s₂) y (A' ++ q) w (A' ++ (C' ++ [])) within_both) (append-nil C) second))
