-- Whether a change of a message is turned down: decided before anything is written.
-- Assumes nothing.
use Rattle.std.specs.Prelude.{◌≡◌, ◌≢◌, ℕ, zero, suc, ◌≤◌, ◌<◌, Bool, true, false, cond, List, [], ◌∷◌, length, leb, is_some, Result, Ok, Err, IfOk, IfErr}
use Rattle.std.specs.Prelude.{Option as Left, Some, None}
use Rattle.std.proofs.Math.Option.{Option, none, some}
use Rattle.octets.specs.Lists.{has}
use Rattle.block.specs.declared.Refusal.{Refusal}
use Rattle.block.specs.declared.Refusal.TheVariants.{Broken, Full}
use Rattle.block.specs.Answers.{answer, refused, told}
use Rattle.block.specs.Table.{table_sized, capacity}
use Rattle.block.specs.Header.{head_of}
use Rattle.block.specs.HeaderRules.{header_ok}
use Rattle.tree.specs.Sound.{sound}
use Rattle.tree.specs.Walk.{live_spots}
use Rattle.lookup.specs.Answers.{Looked, looked_up}
use Rattle.message.specs.Changes.{changes_of}
use Rattle.message.specs.Messages.{read_message, message_answer}
use Rattle.message.specs.Effects.{applied_answer}
use Rattle.rows.specs.declared.Row.{Row}
use Rattle.rows.specs.Rows.{row_key, row_track, row_at}
use Rattle.rows.specs.Lining.{LinedUp}
use Rattle.verdict.specs.declared.Refused.{Refused}
use Rattle.verdict.specs.declared.Refused.TheVariants.{NoRoom, Unsound}

-- what a look-up says of a key: whether its spot is there
abbrev pub there_by : Looked → Result Bool Refused
there_by (Ok (Some a)) = Ok true
there_by (Ok None) = Ok false
there_by (Err e) = Err Unsound

-- what a row's track says of it
abbrev pub there_as : Left ℕ → Result Bool Refused
there_as v = Ok (is_some v)

-- the rows have the last word
abbrev pub there_after : Option (Left ℕ) → Looked → Result Bool Refused
there_after none l = there_by l
there_after (some v) l = there_as v

-- one live spot more, if there is room
unfoldable pub one_more : ℕ → ℕ → Result ℕ Refused
one_more most live = cond (leb most live) (Err NoRoom) (Ok (suc live))

-- one less; there is none to take away only where the table is unsound
unfoldable pub one_less : ℕ → Result ℕ Refused
one_less zero = Err Unsound
one_less (suc live) = Ok live

-- how many spots are live after a change that adds, or one that withdraws
abbrev pub next_live : ℕ → Bool → Result Bool Refused → ℕ → Result ℕ Refused
next_live most adds (Err e) live = Err e
next_live most adds (Ok true) live = cond adds (Ok live) (one_less live)
next_live most adds (Ok false) live = cond adds (one_more most live) (Ok live)

-- the same after the change of row x, where the rows rs stand for the changes before
unfoldable pub reckoned_for : List ℕ → List Row → Row → ℕ → Result ℕ Refused
reckoned_for t rs x live = next_live (capacity (length t)) (is_some (row_track x)) (there_after (row_at (row_key x) rs) (looked_up t (row_key x))) live

-- the refusal for a change that is turned down, with its position i if there is no room for it
abbrev pub refused_at : Refused → ℕ → Refusal
refused_at NoRoom i = Full i
refused_at Unsound i = Broken

-- a message may be tried
pub record Triable (t m : List ℕ) (rows : List Row) : Type 0 where
  pub sized : table_sized (length t) ≡ true
  pub header : header_ok (length t) (head_of t) ≡ true
  pub message : message_answer m ≡ answer 0 0
  pub room : 4096 ≤ length rows

-- on every table: the rows of the message, or 3 or 4. On a sound one, what the changes one after another come to; 4 on no other.
pub record Tried (t m : List ℕ) (rows rows' : List Row) (r : Result ℕ Refusal) : Type 0 where
  pub numbers : IfErr r (λ e. has (refused e).number (3 ∷ 4 ∷ []) ≡ true)
  pub detail : IfErr r (λ e. (refused e).number ≢ 4 → (refused e).detail ≡ 0)
  pub position : IfErr r (λ e. (refused e).number ≡ 4 → (refused e).detail < length (changes_of (read_message m)))
  pub lined : IfOk r (LinedUp m rows rows')
  pub judged : sound t ≡ true → told r ≡ applied_answer (length t) (changes_of (read_message m)) (live_spots t)
  pub full : IfErr r (λ e. (refused e).number ≡ 4 → sound t ≡ true)
