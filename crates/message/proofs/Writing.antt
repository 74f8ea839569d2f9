-- Changes as bytes put in the place of others: one, the first bytes of a message, and one behind the other.
-- Assumes nothing.
use mathlib.Core.Path.{◌≡◌, refl, sym, ap, ◌∙◌}
use mathlib.Core.Logic.{⊎_elim}
use mathlib.Core.List.{List, [], ◌∷◌, ◌++◌, append_assoc, append-nil}
use Prim.Native.Nat.{ℕ, suc, ◌+◌, ◌-◌, ◌%◌, ◌≤◌, ◌<◌}
use native.Mathlib.Nat.{add-zero}
use native.Mathlib.Omega.{arith}
use lib.ListN.{length, set, replicate, length-set, length-append}
use Rattle.octets.specs.Bytes.{bytes_of, put_be, put_bytes}
use Rattle.octets.proofs.Bytes.{length-bytes_of}
use Rattle.octets.proofs.Parts.{bytes-nothing, bytes-length, bytes-behind, number-bytes, number_behind}
use Rattle.spot.specs.Spots.{key_bytes, spot_bytes, put_key, put_spot}
use Rattle.spot.specs.declared.Spot.{Spot}
use Rattle.spot.proofs.Card.{length-key_bytes}
use Rattle.spot.proofs.PutBytes.{key-bytes, spot-bytes}
use Rattle.message.specs.declared.Change.{Change}
use Rattle.message.specs.declared.Change.TheVariants.{Add, Withdraw}
use Rattle.message.specs.Changes.{change_bytes, changes_bytes, change_size, read_changes, changes_of}
use Rattle.message.specs.Codes.{Fill, change_at, ChangeThere, Recodable}
use Rattle.message.proofs.Bytes.{length-change, zeros_of}
use Rattle.message.proofs.Cursor.{NextThere, next-there, NextInside, next-inside, none_read}

-- ---- a change written

-- a byte
byte_put : (s : List ℕ) (i v : ℕ) → v % 256 ≡ v → i + 1 ≤ length s → set s i v ≡ put_bytes s i (v ∷ [])
unfolding put_be bytes_of
byte_put s i v e h =
    let z : i + 0 ≡ i = add-zero i in
    rw z at (rw e at (number-bytes 1 s i v h))

one_byte : bytes_of 1 1 ≡ 1 ∷ []
unfolding bytes_of
one_byte = refl

module _ (s : List ℕ) (at : ℕ) where
  -- bytes behind a byte
  byte-before : {u : List ℕ} (v : ℕ) (xs : List ℕ) → v % 256 ≡ v → at + 1 ≤ length s → u ≡ put_bytes (set s at v) (at + 1) xs → u ≡ put_bytes s at (v ∷ xs)
  byte-before v xs e h q = bytes-behind s (v ∷ []) xs at (at + 1) refl h (byte_put s at v e h) q

  pub add-written : {u : List ℕ} (x : Spot) → at + 13 ≤ length s → u ≡ put_spot (set s at 1) (at + 1) x → u ≡ put_bytes s at (change_bytes 0 (Add x))
  unfolding change_bytes
  add-written x h q = byte-before 1 (spot_bytes x) refl (omega arith) (q ∙ spot-bytes (set s at 1) (at + 1) x (omega (arith, length-set s at 1)))

  key-written : {u : List ℕ} (k : ℕ) → at + 9 ≤ length s → u ≡ put_key (set s at 2) (at + 1) k → u ≡ put_bytes s at (2 ∷ key_bytes k)
  key-written k h q = byte-before 2 (key_bytes k) refl (omega arith) (q ∙ key-bytes (set s at 2) (at + 1) k (omega (arith, length-set s at 2)))

  pub withdrawal-written : {u : List ℕ} (k fill : ℕ) → Fill fill → (fill ≡ 4 → ⊥) → at + (9 + fill) ≤ length s → u ≡ put_key (set s at 2) (at + 1) k
      → u ≡ put_bytes s at (change_bytes fill (Withdraw k))
  unfolding change_bytes
  withdrawal-written k fill f n h q =
      let z : fill ≡ 0 = ⊎_elim (λ (e : fill ≡ 0). e) (λ (e : fill ≡ 4). absurd (n e)) f in
      key-written k (omega arith) q
      ∙ ap (λ (l : List ℕ). put_bytes s at (2 ∷ l)) (sym (append-nil (key_bytes k)) ∙ ap (λ (m : ℕ). key_bytes k ++ replicate m 0) (sym z))

  pub filled-written : {t u : List ℕ} (k fill : ℕ) → fill ≡ 4 → at + (9 + fill) ≤ length s → t ≡ put_key (set s at 2) (at + 1) k → u ≡ put_be 4 t (at + 9) 0
      → u ≡ put_bytes s at (change_bytes fill (Withdraw k))
  unfolding change_bytes
  filled-written k fill e h p q =
      number_behind 4 s (2 ∷ key_bytes k) at (at + 9) 0 (omega (arith, length-key_bytes k)) (omega arith) (key-written k (omega arith) p) q
      ∙ ap (λ (l : List ℕ). put_bytes s at (2 ∷ (key_bytes k ++ l))) (zeros_of 4 ∙ ap (λ (m : ℕ). replicate m 0) (sym e))

-- a spot that is added has no zeros
pub add-bytes : (fill : ℕ) {c : Change} {x : Spot} → c ≡ Add x → change_bytes 0 (Add x) ≡ change_bytes fill c
unfolding change_bytes
add-bytes fill e = sym (ap (change_bytes fill) e)

-- ---- the first bytes of a message

pub head-written : (s : List ℕ) (bytes n : ℕ) {a b u : List ℕ} → 7 ≤ length s → a ≡ put_be 4 s 0 bytes → b ≡ put_be 1 a 4 1 → u ≡ put_be 2 b 5 n
    → u ≡ put_bytes s 0 (bytes_of 4 bytes ++ (1 ∷ bytes_of 2 n))
head-written s bytes n h pa pb pu =
    let l : length (bytes_of 4 bytes) ≡ 4 = length-bytes_of 4 bytes in
    let k : length (bytes_of 4 bytes ++ bytes_of 1 1) ≡ 5 = omega (arith, length-append (bytes_of 4 bytes) (bytes_of 1 1), length-bytes_of 1 1) in
    number_behind 2 s (bytes_of 4 bytes ++ bytes_of 1 1) 0 5 n (omega arith) (omega arith)
    (number_behind 1 s (bytes_of 4 bytes) 0 4 1 (omega arith) (omega arith) (pa ∙ number-bytes 4 s 0 bytes (omega arith)) pb) pu
    ∙ ap (put_bytes s 0) (append_assoc (bytes_of 4 bytes) (bytes_of 1 1) (bytes_of 2 n) ∙ ap (λ (m : List ℕ). bytes_of 4 bytes ++ (m ++ bytes_of 2 n)) one_byte)

-- ---- changes one behind the other, with other zeros

module _ (fill m : ℕ) (s : List ℕ) (at other : ℕ) (out : List ℕ) (to : ℕ) (r : Recodable fill (suc m) s at other out to) where
  abbrev one : Change
  one = change_at s at

  abbrev rest : List Change
  rest = changes_of (read_changes fill m s (at + change_size fill one))

  first-there : NextThere fill m s at
  first-there = next-there fill m s at r.inside.readable.there

  first-inside : NextInside fill m s at
  first-inside = next-inside fill m s at first-there r.inside.limits

  room-both : to + (change_size other one + length (changes_bytes other rest)) ≤ length out
  room-both =
      let e : length (changes_bytes other (changes_of (read_changes fill (suc m) s at))) ≡ change_size other one + length (changes_bytes other rest) =
      ap (λ (cs : List Change). length (changes_bytes other cs)) first-there.cons ∙ length-append (change_bytes other one) (changes_bytes other rest)
      ∙ ap (λ (k : ℕ). k + length (changes_bytes other rest)) (length-change other one)
      in
      omega (arith, r.room)

  room-first : to + change_size other one ≤ length out
  room-first = omega (arith, room-both)

  module _ {u : List ℕ} (p : u ≡ put_bytes out to (change_bytes other one)) where
    first-long : length u ≡ length out
    first-long = ap length p ∙ bytes-length out (change_bytes other one) to (omega (arith, length-change other one, room-first))

    recode-rest : Recodable fill m s (at + change_size fill one) other u (to + change_size other one)
    recode-rest =
        record {
          inside = record {
            readable = record { fills = r.inside.readable.fills; from = first-there.inside; there = first-there.rest };
            limits = first-inside.rest;
          };
          fills = r.fills;
          room = omega (arith, room-both, first-long);
        }

    recode-whole : put_bytes u (to + change_size other one) (changes_bytes other rest) ≡ put_bytes out to (changes_bytes other (changes_of (read_changes fill (suc m) s at)))
    recode-whole =
        bytes-behind out (change_bytes other one) (changes_bytes other rest) to (to + change_size other one) (omega (arith, length-change other one)) room-first p refl
        ∙ ap (λ (cs : List Change). put_bytes out to (changes_bytes other cs)) (sym first-there.cons)

-- what a turn of the loop is given
pub record Turn (fill : ℕ) (s : List ℕ) (from other : ℕ) (out : List ℕ) (next : ℕ) : Type 0 where
  pub fills : Fill fill
  pub others : Fill other
  pub there : ChangeThere s from
  pub before : from < length s
  pub reads : from + change_size fill (change_at s from) ≤ length s
  pub writes : next + change_size other (change_at s from) ≤ length out

-- i of n changes are written, and the others behind them make the whole
pub record Recoding (fill n : ℕ) (s : List ℕ) (at other : ℕ) (out₀ : List ℕ) (to : ℕ) (out : List ℕ) (from next i : ℕ) : Type 0 where
  pub count : i ≤ n
  pub left : Recodable fill (n - i) s from other out next
  pub long : length out ≡ length out₀
  pub whole : put_bytes out next (changes_bytes other (changes_of (read_changes fill (n - i) s from)))
      ≡ put_bytes out₀ to (changes_bytes other (changes_of (read_changes fill n s at)))

module _ (fill n : ℕ) (s : List ℕ) (at other : ℕ) (out₀ : List ℕ) (to : ℕ) where
  pub recoding-none : Recodable fill n s at other out₀ to → Recoding fill n s at other out₀ to out₀ at to 0
  recoding-none r =
      let e : n - 0 ≡ n = omega arith in
      record { count = omega arith; left = rw e r; long = refl; whole = rw e }

  module _ {out : List ℕ} {from next i : ℕ} (v : Recoding fill n s at other out₀ to out from next i) where
    -- there is one more
    left-more : i < n → Recodable fill (suc (n - (i + 1))) s from other out next
    left-more h =
        let e : n - i ≡ suc (n - (i + 1)) = omega arith in
        rw e at v.left

    pub turn-given : i < n → Turn fill s from other out next
    turn-given h =
        let m : ℕ = n - (i + 1) in
        let r = left-more h in
        let x = first-there fill m s from other out next r in
        record {
          fills = r.inside.readable.fills;
          others = r.fills;
          there = (first-inside fill m s from other out next r).there;
          before = omega (arith, x.nine);
          reads = x.inside;
          writes = room-first fill m s from other out next r;
        }

    pub recoding-more : {u : List ℕ} (h : i < n) → u ≡ put_bytes out next (change_bytes other (change_at s from))
        → Recoding fill n s at other out₀ to u (from + change_size fill (change_at s from)) (next + change_size other (change_at s from)) (i + 1)
    recoding-more h p =
        let m : ℕ = n - (i + 1) in
        let e : suc (n - (i + 1)) ≡ n - i = omega arith in
        let r = left-more h in
        record {
          count = omega arith;
          left = recode-rest fill m s from other out next r p;
          long = first-long fill m s from other out next r p ∙ v.long;
          whole = recode-whole fill m s from other out next r p
              ∙ ap (λ (k : ℕ). put_bytes out next (changes_bytes other (changes_of (read_changes fill k s from)))) e ∙ v.whole;
        }

    pub recoding-all : n ≤ i → out ≡ put_bytes out₀ to (changes_bytes other (changes_of (read_changes fill n s at)))
    recoding-all h =
        let e : 0 ≡ n - i = omega arith in
        bytes-nothing out next
        ∙ ap (λ (cs : List Change). put_bytes out next (changes_bytes other cs)) (sym (none_read fill s from))
        ∙ ap (λ (k : ℕ). put_bytes out next (changes_bytes other (changes_of (read_changes fill k s from)))) e ∙ v.whole
