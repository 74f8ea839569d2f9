-- A change from its start: the root that block 0 names is refused, or it has room, or not.
-- Assumes nothing.
use mathlib.Core.Path.{◌≡◌, refl, ap, sym, ◌∙◌, subst}
use mathlib.Core.Bool.{Bool, true, false, true≢false}
use mathlib.Core.List.{List}
use Prim.Native.Nat.{ℕ, suc, ◌+◌, ◌*◌, ◌≤◌}
use native.Mathlib.Omega.{arith}
use lib.ListN.{length}
use Rattle.spot.specs.Keys.{start_key, end_key}
use Rattle.spot.specs.declared.Spot.{Spot}
use Rattle.block.specs.declared.Asked.TheVariants.{Root}
use Rattle.block.specs.Table.{blocks_of}
use Rattle.block.specs.Header.{head_of}
use Rattle.block.specs.Node.{store_of}
use Rattle.block.specs.NodeRules.{node_ok, ValidBlock}
use Rattle.block.proofs.Facts.{HeadFacts, head-facts}
use Rattle.tree.specs.Sound.{sound}
use Rattle.tree.proofs.Tables.{shaped}
use Rattle.update_theory.specs.Change.{part}
use Rattle.update_theory.proofs.Loose.{opened}
use Rattle.node.specs.Memory.{Loaded}
use Rattle.node.specs.declared.NodeValue.{NodeValue}
use Rattle.std.specs.Prelude.{Ok, Err}
use Rattle.fill.specs.declared.Failure.TheVariants.{Broken}
use Rattle.change.specs.Room.{roomy, root_of}
use Rattle.change.specs.Changing.{Changeable, ChangedBy}
use Rattle.change.specs.Growing.{HasRoom, LightAt, LightPost, HeavyAt}
use Rattle.change.proofs.After.{root-sound}
use Rattle.change.proofs.Deep.{whole-blocks, nine-blocks}

module _ {t w : List ℕ} {bound ni nd : ℕ} (a : Changeable t w bound ni nd) where
  head : HeadFacts (length t) (head_of t)
  head = head-facts (length t) (head_of t) a.header

  pub start-long : 2048 ≤ length t
  start-long = let z = nine-blocks t a.header in omega arith

  pub start-levels : 1 ≤ (head_of t).levels
  start-levels = head.levels-least

  module _ {root level : ℕ} (at-root : root ≡ (head_of t).root) (at_level : suc level ≡ (head_of t).levels) where
    pub start-inside : root * 2048 + 2048 ≤ length t
    start-inside = let z = head.root-most in let y = whole-blocks t a.header in omega arith

    -- the root breaks a rule: then the table was not sound
    pub start-refused : (ss : List Spot) (ks : List ℕ) → node_ok level (Root root) (store_of t root) ≡ false → ChangedBy t t w w ss ks bound (Err Broken)
    start-refused ss ks broken =
        let off : sound t ≡ true → ⊥ = λ s. true≢false (sym (opened level (store_of t) (part root (Root root) start_key end_key) (root-sound t root level at-root at_level (shaped t s))).ok ∙ broken) in
        record {
          sized = refl;
          lent_length = refl;
          rest = refl;
          kept = refl;
          header = tt;
          bound_is = tt;
          shaped = tt;
          live_is = tt;
          whole = λ s. absurd (off s);
          ready = λ s e. absurd (off s);
          light = λ e b z d. refl;
        }

    -- it keeps them: it may be loaded
    pub start-valid : node_ok level (Root root) (store_of t root) ≡ true → ValidBlock t root
    start-valid ok = record { level = level; asked = Root root; ok = ok; inside = start-inside }

    module _ {n : NodeValue} (l : Loaded t root n) {r : Bool} (h : HasRoom n r) where
      -- what is said of the value in memory is said of the block
      room-is : roomy (root_of t) ≡ r
      unfolding root_of
      room-is = ap (λ (b : ℕ). roomy (store_of t b)) (sym at-root) ∙ sym (h.same (blocks_of (length t)) ∙ ap roomy l.is)

      pub start-light : node_ok level (Root root) (store_of t root) ≡ true → r ≡ true → LightAt t root level n ni nd bound
      start-light ok yes-room =
          record { header = a.header; root_is = at-root; level_is = at_level; few = a.few; one = a.one; loaded = l; ok = ok; room = subst (HasRoom n) yes-room h }

      pub start-heavy : r ≡ false → HeavyAt t w root level ni nd bound
      start-heavy no_room = record { start = a; root_is = at-root; level_is = at_level; room = room-is ∙ no_room }

-- only block 0 and the root were written
pub start-done : {t t' : List ℕ} (w : List ℕ) {ss : List Spot} {ks : List ℕ} {bound : ℕ} → LightPost t t' ss ks bound → ChangedBy t t' w w ss ks bound (Ok tt)
start-done w p =
    record {
      sized = p.sized;
      lent_length = refl;
      rest = refl;
      kept = tt;
      header = p.header;
      bound_is = p.bound_is;
      shaped = p.shaped;
      live_is = p.live_is;
      whole = λ s. tt;
      ready = λ s e. refl;
      light = λ e. p.else;
    }
