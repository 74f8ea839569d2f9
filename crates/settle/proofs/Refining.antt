-- After the push the node is filled, and its sizes are tested.
-- Assumes nothing.
use mathlib.Core.Path.{◌≡◌, ap, sym, ◌∙◌}
use mathlib.Core.Logic.{inl}
use mathlib.Core.List.Memᴰ
use mathlib.Core.List.{List, []}
use mathlib.Core.Option.{Option}
use Prim.Native.Nat.{ℕ, ◌≤◌}
use native.Mathlib.Omega.{arith}
use lib.ListN.{length}
use Rattle.block.specs.declared.Entry.{Entry}
use Rattle.block.specs.Node.{Store, store_of}
use Rattle.block.specs.NodeRules.{zero_first}
use Rattle.block.proofs.Views.{length-lows}
use Rattle.tree.specs.Part.{parts}
use Rattle.update_theory.specs.Held.{Held}
use Rattle.update_theory.specs.Spare.{Taken}
use Rattle.update_theory.specs.Open.{under}
use Rattle.update_theory.specs.Going.{Going}
use Rattle.update_theory.proofs.Change.{changed-trans}
use Rattle.node.specs.Memory.{entries_of}
use Rattle.node.specs.declared.NodeValue.{NodeValue}
use Rattle.edit.specs.Edits.{held_in}
use Rattle.fill.specs.Filling.{FillDone, FilledBy}
use Rattle.spare.specs.declared.Spare.{Spare}
use Rattle.spare.specs.Spares.{spare_of}
use Rattle.settle.specs.declared.Worked.{Worked}
use Rattle.fill.specs.declared.Failure.{Failure}
use Rattle.settle.specs.Settling.{Opened, WorkedTo, Roomless, WorkDone, RefineDone, Unstowed}
use Rattle.settle.proofs.Lows.{lows-as}

-- an update that went on without taking a block
pub going-further : (l lo hi : ℕ) (x : Store) (s : List ℕ) (es : List Entry) (y : Store) (s₁ : List ℕ) (r : ℕ) (es₁ : List Entry) (b : Held) (f : ℕ → Option ℕ) (w : Store) (r₂ : ℕ) (es₂ : List Entry) (b₂ : Held)
    → Going l lo hi x s es y s₁ r es₁ b f → Going l lo hi y [] es₁ w [] r₂ es₂ b₂ f → Going l lo hi x s es w s₁ r₂ es₂ b₂ f
going-further l lo hi x s es y s₁ r es₁ b f w r₂ es₂ b₂ g h =
    record {
      node = h.node;
      changed = changed-trans l (Taken s s₁) (Taken [] []) (Taken s s₁) x (parts lo hi es) y (parts lo hi es₁) w (parts lo hi es₂) (under l y lo hi es₁) (under l w lo hi es₂)
          (λ z t. t) (λ z t. absurd (Memᴰ.not-nil t.0)) (λ z t. inl t) g.changed h.changed;
      spare = g.spare;
      less = g.less;
    }

-- the node was pushed
module _ {t t₁ s₁ map₁ : List ℕ} {level : ℕ} {n : NodeValue} {spare : Spare} {left : ℕ} {w : Worked} (p : WorkDone t t₁ s₁ map₁ level n spare left w) where
  -- and could not be filled
  pub refine-fails : {e : Failure} → Unstowed t₁ level w.node e → Roomless t level n spare left e
  refine-fails q = record { whole = λ lo hi f before. let a = p.done lo hi f before in q.whole lo hi a.rank f before.legal p.zero a.going.node }

  -- or was
  module _ {t₂ s₂ map₂ : List ℕ} {r : NodeValue} (q : FillDone t₁ t₂ s₂ map₂ level w.node r) where
    same_length : length (entries_of r.entries) ≡ length (entries_of w.node.entries)
    same_length = sym (length-lows (entries_of r.entries)) ∙ ap length q.same_lows ∙ length-lows (entries_of w.node.entries)

    module _ (lo hi : ℕ) (f : ℕ → Option ℕ) (before : Opened (store_of t) level lo hi n spare left f) where
      pushed : WorkedTo (store_of t) (store_of t₁) level lo hi n w.node spare left w.left f
      pushed = p.done lo hi f before

      filled : FilledBy (store_of t₁) (store_of t₂) level w.node r lo hi f
      filled = q.done lo hi pushed.rank f before.legal p.zero pushed.going.node

    pub refine-done : r.inserts.n ≤ 64 → r.deletes.n ≤ 16 → RefineDone t t₂ s₂ map₂ level n spare left (record { node = r; left = w.left })
    refine-done few_i few_d =
        record {
          work = record {
            works = q.works;
            fewer = p.fewer;
            zero = ap zero_first q.same_lows ∙ p.zero;
            more = omega (arith, same_length, p.more);
            most_i = omega (arith, q.inserts, p.most_i);
            most_d = omega (arith, q.deletes, p.most_d);
            leaf = λ z. same_length ∙ p.leaf z;
            done = λ lo hi f before.
                let a = pushed lo hi f before in
                let b = filled lo hi f before in
                record {
                  rank = b.rank;
                  going = going-further level lo hi (store_of t) (spare_of spare left) (entries_of n.entries) (store_of t₁) (spare_of spare w.left) a.rank (entries_of w.node.entries) (held_in w.node) f
                      (store_of t₂) b.rank (entries_of r.entries) (held_in r) a.going b.loop.going;
                  lows_fit = lows-as lo hi (entries_of w.node.entries) (entries_of r.entries) q.same_lows a.lows_fit;
                };
          };
          few_i = few_i;
          few_d = few_d;
          full = λ lo hi f before. (filled lo hi f before).full;
        }
