-- Writer and reader undo each other: "whatever the writer makes from up to 4,096 changes reads back as those changes, and a message that is read has no second
-- spelling".
-- Assumes nothing.
use Rattle.std.specs.Prelude.{◌≡◌, ◌↔◌, ℕ, ◌*◌, ◌≤◌, ◌<◌, true, List, ◌++◌, length, get_or, take, drop}
use Rattle.std.proofs.Math.Option.{some}
use Rattle.octets.specs.Lists.{every}
use Rattle.octets.specs.Bytes.{be}
use Rattle.block.specs.declared.Answer.{Answer}
use Rattle.block.specs.Answers.{answer}
use Rattle.message.specs.declared.Change.{Change}
use Rattle.message.specs.Changes.{change_fits, changes_bytes}
use Rattle.message.specs.Messages.{message_of, read_message, read_list, WritePost, ReadPost}

-- a lent slice holds bytes, which the lists of the definitions needn't
abbrev pub Octets : List ℕ → Type 0
Octets s = (i : ℕ) → get_or s i 0 < 256

-- changes that can be written: numbers of their 64 and 32 bits, and "up to 4,096"
pub record Sendable (cs : List Change) : Type 0 where
  pub fit : every change_fits cs ≡ true
  pub few : length cs ≤ 4096

-- one law for both directions
pub record OneSpelling : Type 0 where
  pub message : (m : List ℕ) (cs : List Change) → Octets m → (read_message m ≡ some cs) ↔ (Sendable cs × (m ≡ message_of cs))
  pub list : (s : List ℕ) (cs : List Change) → Octets s → (read_list s ≡ some cs) ↔ (Sendable cs × (s ≡ changes_bytes 4 cs))

-- the same of the two calls, where each has room. A message is as many of the lent bytes as its first four say.
pub record UndoEachOther : Type 0 where
  pub back : (s lent : List ℕ) (r : Answer) (lent' : List ℕ) → Octets s → WritePost s lent r lent' → r.number ≡ 0
      → (out : List ℕ) (a : Answer) (out'' : List ℕ) → length s ≤ length out → ReadPost (take (be 4 lent' 0) lent') out a out''
      → (a ≡ answer 0 0) × (out'' ≡ s ++ drop (length s) out)
  pub forth : (m lent : List ℕ) (r : Answer) (lent' : List ℕ) → Octets m → ReadPost m lent r lent' → r.number ≡ 0
      → (out : List ℕ) (a : Answer) (out'' : List ℕ) → length m ≤ length out → WritePost (take (13 * be 2 m 5) lent') out a out''
      → (a ≡ answer 0 0) × (out'' ≡ m ++ drop (length m) out)
