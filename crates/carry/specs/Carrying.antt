-- What carrying out a message leaves. t is the table before and t' after, w the work area before and w' after.
-- Assumes nothing.
use Rattle.std.specs.Prelude.{◌≡◌, ◌≢◌, ℕ, ◌≤◌, ◌<◌, Bool, true, false, List, [], ◌∷◌, length, drop}
use Rattle.octets.specs.Lists.{has}
use Rattle.spot.specs.Query.{everything}
use Rattle.spot.specs.Spots.{find}
use Rattle.block.specs.declared.Answer.{Answer}
use Rattle.block.specs.Answers.{answer}
use Rattle.block.specs.Table.{capacity}
use Rattle.block.specs.Header.{head_of}
use Rattle.block.specs.HeaderRules.{header_ok}
use Rattle.tree.specs.Lookup.{live}
use Rattle.tree.specs.Sound.{sound}
use Rattle.tree.specs.Walk.{walk_table, live_spots, live_count}
use Rattle.lookup.specs.Answers.{looked_up, broken}
use Rattle.renew.specs.Layable.{layable}
use Rattle.rebuild_theory.specs.Build.{Rebuilt}
use Rattle.message.specs.declared.Change.{Change}
use Rattle.message.specs.Changes.{change_key, changes_of}
use Rattle.message.specs.Messages.{read_message, message_answer}
use Rattle.message.specs.Effects.{after_all, applied_answer}
use Rattle.rows.specs.declared.Row.{Row}
use Rattle.rows.specs.Rows.{merged_rows}
use Rattle.revise.specs.Numbers.{Full}
use Rattle.revise.specs.Revising.{Lent}

-- the live spots of t, with the rows carried out, are laid out anew, where they can be; or the table is as it was
pub record RowsCarried (rows : List Row) (t t' w w' : List ℕ) (r : Bool) : Type 0 where
  pub sized : length t' ≡ length t
  pub lent_length : length w' ≡ length w
  pub rest : drop (length t) w' ≡ drop (length t) w
  pub kept : r ≡ false → t' ≡ t
  pub built : r ≡ true → Rebuilt t' (merged_rows rows (live_spots t))
  pub laid : r ≡ true → layable (length t) (walk_table t everything) ≡ true
  pub fits : sound t ≡ true → length (merged_rows rows (live_spots t)) ≤ capacity (length t) → r ≡ true

-- a message that is in order may be carried out on a table whose header is
pub record Carriable (m t w : List ℕ) : Type 0 where
  pub lent : Lent t w
  pub header : header_ok (length t) (head_of t) ≡ true
  pub message : message_answer m ≡ answer 0 0

-- the whole of an application but for what lengths and the message alone decide
pub record Carried (m t t' w w' : List ℕ) (r : Answer) : Type 0 where
  pub sized : length t' ≡ length t
  pub lent_length : length w' ≡ length w
  pub rest : drop (length t) w' ≡ drop (length t) w
  pub kept : r.number ≢ 0 → t' ≡ t
  pub untouched : r.number ≡ 4 → w' ≡ w
  pub numbers : has r.number (0 ∷ 3 ∷ 4 ∷ []) ≡ true
  pub detail : r.number ≢ 4 → r.detail ≡ 0
  pub position : r.number ≡ 4 → r.detail < length (changes_of (read_message m))
  pub answered : sound t ≡ true → r ≡ applied_answer (length t) (changes_of (read_message m)) (live_spots t)
  pub stays_sound : sound t ≡ true → sound t' ≡ true
  pub live_after : sound t ≡ true → r.number ≡ 0 → (k : ℕ) → live t' k ≡ find k (after_all (changes_of (read_message m)) (live_spots t))
  pub exact : sound t ≡ true → (head_of t).bound ≡ live_count t → (head_of t').bound ≡ live_count t'

-- one change, on every table: 3 and 4 as Add and Withdraw have them
pub record OneCarried (m t t' w w' : List ℕ) (r : Answer) : Type 0 where
  pub carried : Carried m t t' w w' r
  pub path : (c : Change) → changes_of (read_message m) ≡ c ∷ [] → looked_up t (change_key c) ≡ broken → r.number ≡ 3
  pub full : (c : Change) → changes_of (read_message m) ≡ c ∷ [] → r.number ≡ 4 → Full t (change_key c)

-- several, on every table: laid out anew only from a walk of everything that can be, and 4 only where the table is sound
pub record ManyCarried (m t t' w w' : List ℕ) (r : Answer) : Type 0 where
  pub carried : Carried m t t' w w' r
  pub broken : layable (length t) (walk_table t everything) ≡ false → r.number ≡ 3
  pub anew : r.number ≡ 0 → (sound t' ≡ true) × (live_spots t' ≡ after_all (changes_of (read_message m)) (live_spots t))
  pub full : r.number ≡ 4 → sound t ≡ true

-- the same on every table of the right length: 3 where the header breaks a rule, else by the number of changes
pub record CarriedOr (m t t' w w' : List ℕ) (r : Answer) : Type 0 where
  pub carried : Carried m t t' w w' r
  pub header : header_ok (length t) (head_of t) ≡ false → r.number ≡ 3
  pub none : header_ok (length t) (head_of t) ≡ true → changes_of (read_message m) ≡ [] → (r ≡ answer 0 0) × (t' ≡ t)
  pub one : length (changes_of (read_message m)) ≡ 1 → OneCarried m t t' w w' r
  pub several : 2 ≤ length (changes_of (read_message m)) → ManyCarried m t t' w w' r
