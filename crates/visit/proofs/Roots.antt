-- A table whose header is right: it is long enough, and the whole tree is the part at its root.
-- Assumes nothing.
use mathlib.Core.Path.{◌≡◌, ap, ap₂, ◌∙◌}
use mathlib.Core.Bool.{true}
use mathlib.Core.List.{List}
use Prim.Native.Nat.{ℕ, suc, ◌-◌, ◌≤◌, ◌<◌}
use native.Mathlib.Omega.{arith}
use lib.ListN.{length}
use borrow.Author.Tests.{leb-true}
use Rattle.octets.proofs.Tests.{all-at}
use Rattle.spot.specs.Keys.{all_keys}
use Rattle.block.specs.declared.Asked.TheVariants.{Root}
use Rattle.block.specs.Table.{sized_for, table_sized, blocks_of}
use Rattle.block.specs.Header.{head_of}
use Rattle.block.specs.HeaderRules.{header_ok}
use Rattle.block.proofs.Facts.{head-facts}
use Rattle.tree.specs.Part.{whole}
use Rattle.visit.specs.declared.Span.{Span}
use Rattle.visit.specs.Visit.{end_of, part_of}

pub sized-long : (t : List ℕ) → table_sized (length t) ≡ true → 2048 ≤ length t
unfolding sized_for
sized-long t h = omega (arith, leb-true 9 (blocks_of (length t)) (all-at _ h 1))

module _ (t : List ℕ) (ok : header_ok (length t) (head_of t) ≡ true) where
  pub header-long : 2048 ≤ length t
  header-long = sized-long t (head-facts (length t) (head_of t) ok).sized

  -- as the code reads it
  module _ {root level : ℕ} (p : root ≡ (head_of t).root) (q : level ≡ (head_of t).levels) where
    pub root-low : root < blocks_of (length t)
    root-low = omega (arith, (head-facts (length t) (head_of t) ok).root-most)

    pub levels-some : 1 ≤ level
    levels-some = omega (arith, (head-facts (length t) (head_of t) ok).levels-least)

    pub levels-few : level - 1 ≤ 6
    levels-few = omega (arith, (head-facts (length t) (head_of t) ok).levels-most)

    pub levels-are : suc (level - 1) ≡ (head_of t).levels
    levels-are = omega (arith, levels-some)

pub root-part : (t : List ℕ) (span : Span) {root : ℕ} → root ≡ (head_of t).root → span.lo ≡ 0 → end_of span ≡ all_keys → part_of root (Root root) span ≡ whole (head_of t)
root-part t span p lo hi =
    ap₂ (λ (b l : ℕ). record { block = b; asked = Root b; lo = l; hi = end_of span }) p lo
    ∙ ap (λ (h : ℕ). record { block = (head_of t).root; asked = Root (head_of t).root; lo = 0; hi = h }) hi
