-- Request 2026-06, "Lists of changes over the air": a message, and what its writer and its reader answer and leave, for all bytes and everything lent.
-- Assumes nothing.
use Rattle.std.specs.Prelude.{◌≡◌, ℕ, zero, suc, ◌+◌, ◌*◌, ◌/◌, ◌%◌, Bool, true, cond, List, [], ◌∷◌, ◌++◌, length, get_or, drop, leb, eqb}
use Rattle.std.proofs.Math.Option.{Option, none, some}
use Rattle.octets.specs.Lists.{all}
use Rattle.octets.specs.Bytes.{be, bytes_of}
use Rattle.block.specs.declared.Answer.{Answer}
use Rattle.block.specs.Answers.{answer}
use Rattle.message.specs.declared.Change.{Change}
use Rattle.message.specs.Changes.{changes_bytes, read_changes, changes_of, all_limited, first_outside}

-- "A message has its whole length in four bytes, version byte 1, a count in two bytes, then for each change .., all big-endian"
unfoldable pub message_of : List Change → List ℕ
message_of cs = bytes_of 4 (7 + length (changes_bytes 0 cs)) ++ (1 ∷ (bytes_of 2 (length cs) ++ changes_bytes 0 cs))

-- "if the length, version, .. or the count of over 4,096 is wrong": its first seven bytes
unfoldable pub head_fits : List ℕ → Bool
head_fits m = all (leb 7 (length m) ∷ eqb (be 4 m 0) (length m) ∷ eqb (get_or m 4 0) 1 ∷ leb (be 2 m 5) 4096 ∷ [])

-- the changes of a message, if it is one. The lent bytes are the message: none lie behind it.
unfoldable pub read_message : List ℕ → Option (List Change)
read_message m = cond (head_fits m) (read_changes 0 (be 2 m 5) m 7) none

-- and those of a list, "13 bytes a change", "up to 4,096"
unfoldable pub read_list : List ℕ → Option (List Change)
read_list s = cond (all (eqb (length s % 13) 0 ∷ leb (length s / 13) 4096 ∷ [])) (read_changes 4 (length s / 13) s 0) none

-- "It refuses with 9 ..; writing, reading and applying a message give it there too, .. with the first such position"
unfoldable pub limits_answer : List Change → Answer
limits_answer cs = cond (all_limited cs) (answer 0 0) (answer 9 (first_outside cs))

-- "It refuses with 8 ..", "an output too short for writer or reader gives 2, this case alone coming after 8"; 9 "after the 2 for a short output"
unfoldable pub changes_answer : (List Change → Bool) → Option (List Change) → Answer
changes_answer room none = answer 8 0
changes_answer room (some cs) = cond (room cs) (limits_answer cs) (answer 2 0)

-- what a message alone decides, where no output is lent
unfoldable pub message_answer : List ℕ → Answer
message_answer m = changes_answer (λ _. true) (read_message m)

-- the bytes from the front on, those behind them as lent; all of them after a refusal
unfoldable pub bytes_left : ℕ → List ℕ → List ℕ → List ℕ
bytes_left zero bytes lent = bytes ++ drop (length bytes) lent
bytes_left (suc n) bytes lent = lent

-- the writer, of a list s
pub record WritePost (s lent : List ℕ) (r : Answer) (lent' : List ℕ) : Type 0 where
  pub answered : r ≡ changes_answer (λ cs. leb (length (message_of cs)) (length lent)) (read_list s)
  pub message : lent' ≡ bytes_left r.number (message_of (changes_of (read_list s))) lent

-- the reader, of a message m
pub record ReadPost (m lent : List ℕ) (r : Answer) (lent' : List ℕ) : Type 0 where
  pub answered : r ≡ changes_answer (λ cs. leb (13 * length cs) (length lent)) (read_message m)
  pub changes : lent' ≡ bytes_left r.number (changes_bytes 4 (changes_of (read_message m))) lent
