-- The parts of a Top within an allowance.
-- Assumes nothing.
use Rattle.std.specs.Prelude.{◌≡◌, true, ℕ, ◌*◌, ◌≤◌, ◌<◌, length, drop, ℤ, pos, Result}
use mathlib.Core.List.{List, ◌++◌, Memᴰ}
use Rattle.spot.specs.Spots.{spots_bytes}
use Rattle.spot.specs.Query.{top_query}
use Rattle.spot.specs.declared.Spot.{Spot}
use Rattle.spot.specs.declared.Query.{Query}
use Rattle.block.specs.Answers.{answer_of}
use Rattle.block.specs.declared.Refusal.{Refusal}
use Rattle.block.specs.Node.{store_of}
use Rattle.block.specs.Table.{table_sized}
use Rattle.tree.specs.ReadMap.{read_map}
use Rattle.tree.proofs.Sources.{Source, InTable}
use Rattle.within_theory.proofs.Following.{Sure}
use Rattle.top.specs.Runs.{HaltedOn}
use Rattle.table.specs.Answers.{ceiling_left}
use Rattle.table.specs.Queries.{TopPost, TopWithinPost}
use Rattle.within.specs.declared.Said.{Said}

-- an answer with a ceiling
abbrev pub said_of : Result ℕ Refusal → ℤ → Said
said_of a c = record { answer = a; ceiling = c }

-- the promise, with the ceiling beside the answer
abbrev pub Saying : ℤ → ℤ → ℕ → ℕ → List ℕ → List ℕ → List ℕ → Said → List ℕ → List ℕ → Type 0
Saying x1 x2 k a t out map r out'' map' = TopWithinPost x1 x2 k a t out map (answer_of r.answer) out'' map' r.ceiling

-- as a Top of none, with the highest rank as the ceiling where it is accepted
pub record NoneSaid (x1 x2 : ℤ) (t out map : List ℕ) (r : Said) (out'' map' : List ℕ) : Type 0 where
  pub top : TopPost x1 x2 0 t out map (answer_of r.answer) out'' map'
  pub ceiling : r.ceiling ≡ ceiling_left (answer_of r.answer).number (pos 2147483647)

-- the lengths are right, and neither number is 0
pub record Askable (t map : List ℕ) (k a : ℕ) : Type 0 where
  pub sized : table_sized (length t) ≡ true
  pub mapped : length map ≡ 512
  pub some : 0 < k
  pub allowed : 0 < a

-- a search with room for 512 spots is at its end, with its map: it gave n spots, for which the output has room
pub record HeldFew (t : List ℕ) (q : Query) (k most : ℕ) (seen few out : List ℕ) (n : ℕ) : Type 0 where
  pub x1 : ℤ
  pub x2 : ℤ
  pub asks : q ≡ top_query x1 x2 0
  pub sized : table_sized (length t) ≡ true
  pub mapped : length seen ≡ 512
  pub buffer : length few ≡ 6144
  pub some : 0 < k
  pub allowed : 0 < most
  pub fits : 12 * n ≤ length out
  pub base : List ℕ
  pub ceiling : ℕ
  pub halted : HaltedOn t x1 x2 k most 512 base seen few n ceiling

-- the n spots of such a search stand at the front of the output, and the map is made
pub record GivenOut (t : List ℕ) (x1 x2 : ℤ) (k most n : ℕ) (out seen' out'' : List ℕ) : Type 0 where
  pub given : List Spot
  pub blocks : List ℕ
  pub ceiling : ℕ
  pub sure : Sure t x1 x2 k most given blocks ceiling
  pub from : (s : Spot) → Memᴰ s given → Source (store_of t) (top_query x1 x2 0) blocks s
  pub places : (b : ℕ) → Memᴰ b blocks → InTable t b
  pub counted : n ≡ length given
  pub output : out'' ≡ spots_bytes given ++ drop (12 * n) out
  pub map : seen' ≡ read_map blocks

pub record Delivered (t : List ℕ) (q : Query) (k most n : ℕ) (out seen' out'' : List ℕ) : Type 0 where
  pub ends : (x1 x2 : ℤ) → q ≡ top_query x1 x2 0 → GivenOut t x1 x2 k most n out seen' out''
