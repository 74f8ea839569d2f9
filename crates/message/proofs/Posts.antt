-- What writer and reader answer and leave.
-- Assumes nothing.
use mathlib.Core.Path.{◌≡◌, refl, sym, ap, ap₂, ◌∙◌}
use mathlib.Core.Logic.{inl, inr}
use mathlib.Core.Bool.{Bool, true, false, cond}
use mathlib.Core.List.{List, ◌∷◌, ◌++◌}
use mathlib.Core.Option.{Option}
use Prim.Native.Nat.{ℕ, zero, suc, ◌+◌, ◌*◌, ◌/◌, ◌≤◌, ◌<◌}
use native.Mathlib.Omega.{arith}
use lib.ListN.{length, drop}
use lib.Dec.{leb}
use borrow.Author.Tests.{le-leb, lt-leb}
use Rattle.octets.specs.Bytes.{be, bytes_of, put_bytes}
use Rattle.octets.proofs.Parts.{bytes-behind}
use Rattle.block.specs.declared.Answer.{Answer}
use Rattle.block.specs.Answers.{answer}
use Rattle.message.specs.declared.Change.{Change}
use Rattle.message.specs.Changes.{changes_bytes, read_changes, is_there, changes_of, adds_of, all_limited}
use Rattle.message.specs.Messages.{message_of, read_message, read_list, limits_answer, changes_answer, bytes_left, WritePost, ReadPost}
use Rattle.message.specs.Codes.{ChangesThere, Recodable}
use Rattle.message.proofs.Bytes.{length-list, length-changes, head_of, length-head, message-parts, length-message}
use Rattle.message.proofs.Answers.{limits-told, answer-eight, answer-there, zero-answered, bytes_left_lem}
use Rattle.message.proofs.Cursor.{count-there, message-there, message-count, ListThere, list-there}
use Rattle.message.proofs.Judging.{message-is, message-readable}

-- ---- what writer and reader answer and leave

-- the front of what is lent
put_front : (lent xs : List ℕ) → put_bytes lent 0 xs ≡ xs ++ drop (length xs) lent
unfolding put_bytes
put_front lent xs = let z : 0 + length xs ≡ length xs = omega arith in ap (λ (k : ℕ). xs ++ drop k lent) z

-- for both: o is what was read, xs are the bytes to write
module _ (room : List Change → Bool) (o : Option (List Change)) (xs lent : List ℕ) where
  record Posted (r : Answer) (lent' : List ℕ) : Type 0 where
    pub answered : r ≡ changes_answer room o
    pub bytes : lent' ≡ bytes_left r.number xs lent

  left_alone : (k : ℕ) → (k ≡ 0 → ⊥) → lent ≡ bytes_left k xs lent
  unfolding bytes_left
  left_alone zero h = absurd (h refl)
  left_alone (suc k) h = refl

  number_is_lem : {r : Answer} {k : ℕ} → r ≡ answer k 0 → r.number ≡ k
  number_is_lem e = ap (λ (a : Answer). a.number) e

  none-posted : {r : Answer} → is_there o ≡ false → r ≡ answer 8 0 → Posted r lent
  none-posted {r} h e =
      record {
        answered = e ∙ answer-eight room o h;
        bytes = left_alone r.number (λ z. omega (arith, number_is_lem e));
      }

  module _ (there : is_there o ≡ true) where
    decided : (b : Bool) → room (changes_of o) ≡ b → cond b (limits_answer (changes_of o)) (answer 2 0) ≡ changes_answer room o
    decided b e = ap (λ (b : Bool). cond b (limits_answer (changes_of o)) (answer 2 0)) (sym e) ∙ answer-there room o there

    short-posted : {r : Answer} → room (changes_of o) ≡ false → r ≡ answer 2 0 → Posted r lent
    short-posted {r} h e =
        record {
          answered = e ∙ decided false h;
          bytes = left_alone r.number (λ z. omega (arith, number_is_lem e));
        }

    module _ (fits : room (changes_of o) ≡ true) {told : Answer} (tells : told ≡ limits_answer (changes_of o)) where
      told_is : told ≡ changes_answer room o
      told_is = tells ∙ decided true fits

      outside-posted : (told.number ≡ 0 → ⊥) → Posted told lent
      outside-posted n = record { answered = told_is; bytes = left_alone told.number n }

      all-inside : told.number ≡ 0 → all_limited (changes_of o) ≡ true
      all-inside z = limits-told (changes_of o) (ap (λ (a : Answer). a.number) (sym tells) ∙ z)

      done-posted : {r : Answer} {lent' : List ℕ} → told.number ≡ 0 → r ≡ answer 0 0 → lent' ≡ put_bytes lent 0 xs → Posted r lent'
      done-posted {r} z e p =
          record {
            answered = e ∙ sym (zero-answered room o there fits (all-inside z));
            bytes = p ∙ put_front lent xs ∙ sym (bytes_left_lem r.number xs lent (number_is_lem e));
          }

-- ---- the writer

module _ (s lent : List ℕ) where
  abbrev rows : ℕ
  rows = length s / 13

  abbrev rowed : List Change
  rowed = changes_of (read_changes 4 rows s 0)

  abbrev room-write : List Change → Bool
  room-write cs = leb (length (message_of cs)) (length lent)

  abbrev xs-write : List ℕ
  xs-write = message_of (changes_of (read_list s))

  write-post : {r : Answer} {lent' : List ℕ} → Posted room-write (read_list s) xs-write lent r lent' → WritePost s lent r lent'
  write-post p = record { answered = p.answered; message = p.bytes }

  pub write-none : {r : Answer} → is_there (read_list s) ≡ false → r ≡ answer 8 0 → WritePost s lent r lent
  write-none h e = write-post (none-posted room-write (read_list s) xs-write lent h e)

  module _ (h : is_there (read_list s) ≡ true) where
    given : ListThere s
    given = list-there s h

    given_is : changes_of (read_list s) ≡ rowed
    given_is = ap changes_of given.is

    pub write-readable : ChangesThere 4 (length s / 13) s 0 × (length s / 13 ≤ 4096)
    write-readable = (record { fills = inr refl; from = omega arith; there = given.there }, given.few)

    module _ {adds : ℕ} (counted : adds ≡ adds_of (changes_of (read_changes 4 (length s / 13) s 0))) where
      abbrev bytes : ℕ
      bytes = 7 + 9 * rows + 4 * adds

      bytes-are : bytes ≡ length (message_of rowed)
      bytes-are = omega (arith, length-message rowed, length-changes rowed, count-there 4 rows s 0 given.there)

      fits-as : leb (length (message_of (changes_of (read_list s)))) (length lent) ≡ leb bytes (length lent)
      fits-as = ap (λ (cs : List Change). leb (length (message_of cs)) (length lent)) given_is ∙ ap (λ (k : ℕ). leb k (length lent)) (sym bytes-are)

      pub write-short : {r : Answer} → length lent < 7 + 9 * (length s / 13) + 4 * adds → r ≡ answer 2 0 → WritePost s lent r lent
      write-short l e = write-post (short-posted room-write (read_list s) xs-write lent h (fits-as ∙ lt-leb bytes (length lent) l) e)

      module _ (long : 7 + 9 * (length s / 13) + 4 * adds ≤ length lent) {told : Answer}
          (tells : told ≡ limits_answer (changes_of (read_changes 4 (length s / 13) s 0))) where
        fits : leb (length (message_of (changes_of (read_list s)))) (length lent) ≡ true
        fits = fits-as ∙ le-leb bytes (length lent) long

        tells-of : told ≡ limits_answer (changes_of (read_list s))
        tells-of = tells ∙ ap limits_answer (sym given_is)

        pub write-outside : (told.number ≡ 0 → ⊥) → WritePost s lent told lent
        write-outside n = write-post (outside-posted room-write (read_list s) xs-write lent h fits tells-of n)

        module _ (z : told.number ≡ 0) where
          pub write-recodes : (m : List ℕ) → length m ≡ length lent → Recodable 4 (length s / 13) s 0 0 m 7
          write-recodes m l =
              record {
                inside = record {
                  readable = write-readable.0;
                  limits = ap all_limited (sym given_is) ∙ all-inside room-write (read_list s) xs-write lent h fits tells-of z;
                };
                fills = inl refl;
                room = omega (arith, count-there 4 rows s 0 given.there, length-changes rowed);
              }

          pub write_done : {m u : List ℕ} {r : Answer} → m ≡ put_bytes lent 0 (bytes_of 4 (7 + 9 * (length s / 13) + 4 * adds) ++ (1 ∷ bytes_of 2 (length s / 13)))
              → u ≡ put_bytes m 7 (changes_bytes 0 (changes_of (read_changes 4 (length s / 13) s 0))) → r ≡ answer 0 0 → WritePost s lent r u
          write_done {m} {u} p q e =
              let x : List ℕ = head_of bytes rows in
              let b : bytes ≡ 7 + length (changes_bytes 0 rowed) = omega (arith, count-there 4 rows s 0 given.there, length-changes rowed) in
              let w : u ≡ put_bytes lent 0 (x ++ changes_bytes 0 rowed) =
              bytes-behind lent x (changes_bytes 0 rowed) 0 7 (omega (arith, length-head bytes rows)) (omega arith) p q
              in
              write-post
              (done-posted room-write (read_list s) xs-write lent h fits tells-of z e
              (w ∙ ap (put_bytes lent 0) (ap₂ (λ (i k : ℕ). head_of i k ++ changes_bytes 0 rowed) b (sym (count-there 4 rows s 0 given.there))
              ∙ sym (message-parts rowed) ∙ ap message_of (sym given_is))))

-- ---- the reader

module _ (m lent : List ℕ) where
  abbrev room-read : List Change → Bool
  room-read cs = leb (13 * length cs) (length lent)

  abbrev xs-read : List ℕ
  xs-read = changes_bytes 4 (changes_of (read_message m))

  read-post : {r : Answer} {lent' : List ℕ} → Posted room-read (read_message m) xs-read lent r lent' → ReadPost m lent r lent'
  read-post p = record { answered = p.answered; changes = p.bytes }

  pub read_none : {r : Answer} → is_there (read_message m) ≡ false → r ≡ answer 8 0 → ReadPost m lent r lent
  read_none h e = read-post (none-posted room-read (read_message m) xs-read lent h e)

  module _ (h : is_there (read_message m) ≡ true) where
    module _ {n : ℕ} (counted : n ≡ be 2 m 5) where
      pub read-readable : ChangesThere 0 n m 7 × (n ≤ 4096)
      read-readable = (message-readable m h counted, omega (arith, (message-there m h).few))

      sent_is : changes_of (read_message m) ≡ changes_of (read_changes 0 n m 7)
      sent_is = ap changes_of (sym (message-is m h counted))

      sent-many : length (changes_of (read_message m)) ≡ n
      sent-many = message-count m h ∙ sym counted

      fits_read : leb (13 * length (changes_of (read_message m))) (length lent) ≡ leb (13 * n) (length lent)
      fits_read = ap (λ (k : ℕ). leb (13 * k) (length lent)) sent-many

      pub read_short : {r : Answer} → length lent < 13 * n → r ≡ answer 2 0 → ReadPost m lent r lent
      read_short l e = read-post (short-posted room-read (read_message m) xs-read lent h (fits_read ∙ lt-leb (13 * n) (length lent) l) e)

      module _ (long : 13 * n ≤ length lent) {told : Answer} (tells : told ≡ limits_answer (changes_of (read_changes 0 n m 7))) where
        tells-read : told ≡ limits_answer (changes_of (read_message m))
        tells-read = tells ∙ ap limits_answer (sym sent_is)

        fits-sent : leb (13 * length (changes_of (read_message m))) (length lent) ≡ true
        fits-sent = fits_read ∙ le-leb (13 * n) (length lent) long

        pub read-outside : (told.number ≡ 0 → ⊥) → ReadPost m lent told lent
        read-outside k = read-post (outside-posted room-read (read_message m) xs-read lent h fits-sent tells-read k)

        module _ (z : told.number ≡ 0) where
          pub read-recodes : Recodable 0 n m 7 4 lent 0
          read-recodes =
              let cs : List Change = changes_of (read_changes 0 n m 7) in
              record {
                inside = record {
                  readable = read-readable.0;
                  limits = ap all_limited (sym sent_is) ∙ all-inside room-read (read_message m) xs-read lent h fits-sent tells-read z;
                };
                fills = inr refl;
                room = omega (arith, length-list cs, ap (λ (l : List Change). length l) (sym sent_is) ∙ sent-many);
              }

          pub read_done : {u : List ℕ} {r : Answer} → u ≡ put_bytes lent 0 (changes_bytes 4 (changes_of (read_changes 0 n m 7))) → r ≡ answer 0 0 → ReadPost m lent r u
          read_done p e =
              read-post
              (done-posted room-read (read_message m) xs-read lent h fits-sent tells-read z e
              (p ∙ ap (λ (cs : List Change). put_bytes lent 0 (changes_bytes 4 cs)) (sym sent_is)))
