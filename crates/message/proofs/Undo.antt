-- Writer and reader undo each other, where each has room.
-- Assumes nothing.
use mathlib.Core.Path.{◌≡◌, refl, sym, ap, ap₂, ◌∙◌}
use mathlib.Core.Bool.{true}
use mathlib.Core.List.{List, ◌++◌}
use mathlib.Core.Option.{Option, some}
use Prim.Native.Nat.{ℕ, ◌*◌, ◌≤◌}
use native.Mathlib.Omega.{arith}
use lib.Dec.{leb}
use lib.ListN.{length, take, drop}
use lib.Seq.{take_at}
use borrow.Author.Tests.{le-leb}
use Rattle.octets.specs.Bytes.{be}
use Rattle.block.specs.declared.Answer.{Answer}
use Rattle.block.specs.Answers.{answer}
use Rattle.message.specs.declared.Change.{Change}
use Rattle.message.specs.Changes.{changes_bytes, is_there, changes_of, all_limited}
use Rattle.message.specs.Messages.{message_of, read_message, read_list, changes_answer, WritePost, ReadPost}
use Rattle.message.specs.Promises.{Octets, Sendable, UndoEachOther}
use Rattle.message.proofs.Bytes.{length-list}
use Rattle.message.proofs.Answers.{answered-zero, zero-answered, bytes_left_lem}
use Rattle.message.proofs.Cursor.{message-count}
use Rattle.message.proofs.Spelling.{message-size, message-back, message-spelled, list_back, list-spelled}

-- ---- there and back

module _ (s lent : List ℕ) (r : Answer) (lent' : List ℕ) (octets : Octets s) (w : WritePost s lent r lent') (z : r.number ≡ 0) where
  taken : (is_there (read_list s) ≡ true) × (all_limited (changes_of (read_list s)) ≡ true)
  taken = answered-zero _ (read_list s) (ap (λ (x : Answer). x.number) (sym w.answered) ∙ z)

  abbrev cs : List Change
  cs = changes_of (read_list s)

  sendable : Sendable cs
  sendable = (list-spelled s octets taken.0).0

  spelled : s ≡ changes_bytes 4 cs
  spelled = (list-spelled s octets taken.0).1

  written : lent' ≡ message_of cs ++ drop (length (message_of cs)) lent
  written = w.message ∙ bytes_left_lem r.number (message_of cs) lent z

  sent : take (be 4 lent' 0) lent' ≡ message_of cs
  sent =
      let rest : List ℕ = drop (length (message_of cs)) lent in
      ap₂ take (ap (λ (l : List ℕ). be 4 l 0) written ∙ message-size cs sendable.few rest) written ∙ take_at (message_of cs) rest (length (message_of cs)) refl

  module _ (out : List ℕ) (a : Answer) (out'' : List ℕ) (fits : length s ≤ length out) (p : ReadPost (take (be 4 lent' 0) lent') out a out'') where
    got : read_message (take (be 4 lent' 0) lent') ≡ some cs
    got = ap read_message sent ∙ message-back cs sendable

    answered-back : a ≡ answer 0 0
    answered-back =
        let room : 13 * length cs ≤ length out = omega (arith, length-list cs, ap length spelled) in
        p.answered ∙ ap (changes_answer (λ ds. leb (13 * length ds) (length out))) got
        ∙ zero-answered (λ ds. leb (13 * length ds) (length out)) (some cs) refl (le-leb (13 * length cs) (length out) room) taken.1

    back-again : out'' ≡ s ++ drop (length s) out
    back-again =
        p.changes ∙ bytes_left_lem a.number (changes_bytes 4 (changes_of (read_message (take (be 4 lent' 0) lent')))) out (ap (λ (x : Answer). x.number) answered-back)
        ∙ ap (λ (l : List ℕ). l ++ drop (length l) out) (ap (λ (o : Option (List Change)). changes_bytes 4 (changes_of o)) got ∙ sym spelled)

module _ (m lent : List ℕ) (r : Answer) (lent' : List ℕ) (octets : Octets m) (w : ReadPost m lent r lent') (z : r.number ≡ 0) where
  taken_in : (is_there (read_message m) ≡ true) × (all_limited (changes_of (read_message m)) ≡ true)
  taken_in = answered-zero _ (read_message m) (ap (λ (x : Answer). x.number) (sym w.answered) ∙ z)

  abbrev ds : List Change
  ds = changes_of (read_message m)

  sendable-in : Sendable ds
  sendable-in = (message-spelled m octets taken_in.0).0

  spelled-in : m ≡ message_of ds
  spelled-in = (message-spelled m octets taken_in.0).1

  listed : lent' ≡ changes_bytes 4 ds ++ drop (length (changes_bytes 4 ds)) lent
  listed = w.changes ∙ bytes_left_lem r.number (changes_bytes 4 ds) lent z

  rows : take (13 * be 2 m 5) lent' ≡ changes_bytes 4 ds
  rows =
      ap₂ take (ap (λ (k : ℕ). 13 * k) (sym (message-count m taken_in.0))) listed
      ∙ take_at (changes_bytes 4 ds) (drop (length (changes_bytes 4 ds)) lent) (13 * length ds) (length-list ds)

  module _ (out : List ℕ) (a : Answer) (out'' : List ℕ) (fits : length m ≤ length out) (p : WritePost (take (13 * be 2 m 5) lent') out a out'') where
    given-list : read_list (take (13 * be 2 m 5) lent') ≡ some ds
    given-list = ap read_list rows ∙ list_back ds sendable-in

    answered-forth : a ≡ answer 0 0
    answered-forth =
        let room : length (message_of ds) ≤ length out = omega (arith, ap length spelled-in) in
        p.answered ∙ ap (changes_answer (λ es. leb (length (message_of es)) (length out))) given-list
        ∙ zero-answered (λ es. leb (length (message_of es)) (length out)) (some ds) refl (le-leb (length (message_of ds)) (length out) room) taken_in.1

    forth-again : out'' ≡ m ++ drop (length m) out
    forth-again =
        p.message ∙ bytes_left_lem a.number (message_of (changes_of (read_list (take (13 * be 2 m 5) lent')))) out (ap (λ (x : Answer). x.number) answered-forth)
        ∙ ap (λ (l : List ℕ). l ++ drop (length l) out) (ap (λ (o : Option (List Change)). message_of (changes_of o)) given-list ∙ sym spelled-in)

pub undo-each-other : UndoEachOther
undo-each-other =
    record {
      back = λ s lent r lent' octets w z out a out'' fits p.
          (answered-back s lent r lent' octets w z out a out'' fits p, back-again s lent r lent' octets w z out a out'' fits p);
      forth = λ m lent r lent' octets w z out a out'' fits p.
          (answered-forth m lent r lent' octets w z out a out'' fits p, forth-again m lent r lent' octets w z out a out'' fits p);
    }
