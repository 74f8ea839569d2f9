-- What the functions of a lookup are handed and hand back.
-- Assumes nothing.
use Rattle.std.specs.Prelude.{◌≡◌, ℕ, ◌≤◌, ◌<◌, cond, List, length, Some, None}
use Rattle.std.specs.Prelude as Prelude
use Rattle.std.proofs.Math.Option.{Option, none, some}
use Rattle.block.specs.Table.{blocks_of}
use Rattle.block.specs.Node.{Store, store_of}
use Rattle.tree.specs.Part.{Part}
use Rattle.tree.specs.Lookup.{node_word, lookup}
use Rattle.lookup.specs.declared.Word.{Word}
use Rattle.lookup.specs.declared.Word.TheVariants.{Live, Gone, Silent}
use Rattle.lookup.specs.Answers.{Looked, broken, told, path_ok}

abbrev pub track_found : Prelude.Option ℕ → Option ℕ
track_found None = none
track_found (Some a) = some a

-- a node's word, where `below` is what is said below it
abbrev pub word_in : Word → Option ℕ → Option ℕ
word_in (Live a) below = some a
word_in Gone below = none
word_in Silent below = below

pub record Speaks (t : List ℕ) (b k : ℕ) (w : Word) : Type 0 where
  pub word : (below : Option ℕ) → node_word (store_of t b) k below ≡ word_in w below

-- a block of the table, at a level that it may have
pub record Lookable (t : List ℕ) (b level : ℕ) : Type 0 where
  pub inside : b < blocks_of (length t)
  pub blocks : blocks_of (length t) ≤ 4096
  pub deep : level ≤ 6

-- what is answered of k in a part of l levels
unfoldable pub looked_in : ℕ → Store → ℕ → Part → Looked
looked_in l m k p = cond (path_ok l m k p) (told (lookup l m k p)) broken
