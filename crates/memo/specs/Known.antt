-- What is remembered of the blocks that were validated: whether a block keeps the rules hangs on its bytes, its level and what leads to it alone.
-- Assumes nothing.
use Rattle.std.specs.Prelude.{◌≡◌, ℕ, ◌+◌, ◌*◌, Bool, true, ◌&&◌, List, [], ◌∷◌, length, get_or, eqb}
use Rattle.block.specs.declared.Asked.{Asked}
use Rattle.block.specs.declared.Asked.TheVariants.{Root, Child}
use Rattle.block.specs.Node.{store_of}
use Rattle.block.specs.NodeRules.{node_ok, stands_in}

-- a level and what leads to a node, as six words; no other level or way has the same, and none begins with 0
abbrev pub words_of : ℕ → Asked → List ℕ
words_of level (Root b) = (2 * level + 2) ∷ b ∷ 0 ∷ 0 ∷ 0 ∷ 0 ∷ []
words_of level (Child e) = (2 * level + 1) ∷ e.block ∷ e.size ∷ e.low ∷ e.top ∷ e.bottom ∷ []

abbrev pub same_at : ℕ → List ℕ → List ℕ → Bool
same_at i a b = eqb (get_or a i 0) (get_or b i 0)

-- the first six words of two lists are the same
unfoldable pub same_words : List ℕ → List ℕ → Bool
same_words a b = same_at 0 a b && same_at 1 a b && same_at 2 a b && same_at 3 a b && same_at 4 a b && same_at 5 a b

-- whatever stands in a slot was found to keep the rules
pub record Known (t : List ℕ) (known : List (List ℕ)) : Type 0 where
  pub valid : (i level : ℕ) (a : Asked) → same_words (get_or known i []) (words_of level a) ≡ true → node_ok level a (store_of t (stands_in a)) ≡ true

-- and it still does, in as many slots
pub record StillKnown (t : List ℕ) (known known' : List (List ℕ)) : Type 0 where
  pub right : Known t known'
  pub sized : length known' ≡ length known
