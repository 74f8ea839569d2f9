-- A node whose keys all have places inside the limits, made so.
-- Assumes nothing.
use mathlib.Core.Path.{◌≡◌, refl, sym, ◌∙◌}
use mathlib.Core.Bool.{Bool, true, false, cond, true≢false}
use mathlib.Core.List.{List, [], ◌∷◌, ◌++◌, Memᴰ}
use lib.Dec.{eqb}
use borrow.Author.Tests.{eq-eqb}
use Rattle.octets.specs.Lists.{every, rest}
use Rattle.octets.proofs.Tests.{and_both, every-join}
use Rattle.spot.specs.Keys.{limited}
use Rattle.block.specs.declared.Entry.{Entry}
use Rattle.block.specs.Node.{Node}
use Rattle.block.specs.NodeRules.{names, lows, extremes, inside_limits}

-- what an entry shows of a P that isn't empty
pub record Shows (e : Entry) : Type 0 where
  pub top : limited e.top ≡ true
  pub bottom : limited e.bottom ≡ true

pub extremes-inside : (es : List Entry) → ((e : Entry) → Memᴰ e es → (e.size ≡ 0 → ⊥) → Shows e) → every limited (extremes es) ≡ true
extremes-inside [] h = refl
extremes-inside (e ∷ es) h = pick (eqb e.size 0) refl (extremes-inside es (λ d i n. h d (Memᴰ.tail i) n))
  where
    pick : (b : Bool) → eqb e.size 0 ≡ b → every limited (extremes es) ≡ true
        → every limited (cond b (extremes es) (e.top ∷ e.bottom ∷ extremes es)) ≡ true
    pick true q more = more
    pick false q more =
        let s = h e (Memᴰ.head refl) (λ z. true≢false (sym (eq-eqb e.size 0 z) ∙ q)) in
        and_both _ _ s.top (and_both _ _ s.bottom more)

pub inside-limits : (n : Node) → every limited (names n) ≡ true → every limited (rest (lows n.entries)) ≡ true
    → every limited (extremes n.entries) ≡ true
    → inside_limits n ≡ true
unfolding inside_limits
inside-limits n a b c =
    every-join limited (names n ++ rest (lows n.entries)) (extremes n.entries) (every-join limited (names n) (rest (lows n.entries)) a b) c
