-- Changes as bytes, one behind the other: in a message, and in the list that the writer takes and the reader gives. The two differ in the zeros behind a
-- withdrawal alone, `fill` of them: 0 in a message, 4 in a list.
-- Assumes nothing.
use Rattle.std.specs.Prelude.{ℕ, zero, suc, ◌+◌, Bool, true, false, cond, ◌&&◌, List, [], ◌∷◌, ◌++◌, length, get_or, replicate, ltb, leb, eqb}
use Rattle.std.proofs.Math.Option.{Option, none, some}
use Rattle.octets.specs.Bytes.{be}
use Rattle.spot.specs.Keys.{word, all_keys, limited}
use Rattle.spot.specs.Spots.{key_at, spot_at, key_bytes, spot_bytes}
use Rattle.message.specs.declared.Change.{Change}
use Rattle.message.specs.declared.Change.TheVariants.{Add, Withdraw}

-- the identity that is added or withdrawn
abbrev pub change_key : Change → ℕ
change_key (Add s) = s.key
change_key (Withdraw k) = k

-- its numbers are of 64 and of 32 bits
unfoldable pub change_fits : Change → Bool
change_fits (Add s) = ltb s.key all_keys && ltb s.track word
change_fits (Withdraw k) = ltb k all_keys

-- "for each change a kind byte (1 add, 2 withdraw) and 12 or 8 bytes as on the card"; ".. 13 bytes a change, a withdrawal filled up with zeros"
unfoldable pub change_bytes : ℕ → Change → List ℕ
change_bytes fill (Add s) = 1 ∷ spot_bytes s
change_bytes fill (Withdraw k) = 2 ∷ (key_bytes k ++ replicate fill 0)

abbrev pub changes_bytes : ℕ → List Change → List ℕ
changes_bytes fill [] = []
changes_bytes fill (c ∷ cs) = change_bytes fill c ++ changes_bytes fill cs

-- how many bytes these are
unfoldable pub change_size : ℕ → Change → ℕ
change_size fill (Add s) = 13
change_size fill (Withdraw k) = 9 + fill

-- the change that begins at index at, if one does: "It refuses with 8 .. if .. a kind, such a zero .. is wrong", and where the bytes end before it does
unfoldable pub read_change : ℕ → List ℕ → ℕ → Option Change
read_change fill s at =
    cond (eqb (get_or s at 0) 1 && leb (at + 13) (length s)) (some (Add (spot_at s (at + 1))))
    (cond (eqb (get_or s at 0) 2 && (leb (at + (9 + fill)) (length s) && eqb (be fill s (at + 9)) 0)) (some (Withdraw (key_at s (at + 1)))) none)

-- a change in front of others, if there are both
abbrev pub in_front : Change → Option (List Change) → Option (List Change)
in_front c none = none
in_front c (some cs) = some (c ∷ cs)

abbrev pub read_on : ℕ → (ℕ → Option (List Change)) → ℕ → Option Change → Option (List Change)
read_on fill more at none = none
read_on fill more at (some c) = in_front c (more (at + change_size fill c))

-- n changes from index at on, of which the last ends with the last byte
abbrev pub read_changes : ℕ → ℕ → List ℕ → ℕ → Option (List Change)
read_changes fill zero s at = cond (eqb at (length s)) (some []) none
read_changes fill (suc n) s at = read_on fill (read_changes fill n s) at (read_change fill s at)

abbrev pub is_there : Option (List Change) → Bool
is_there none = false
is_there (some cs) = true

-- those that were read, or none
abbrev pub changes_of : Option (List Change) → List Change
changes_of none = []
changes_of (some cs) = cs

-- how many of them add
abbrev pub adds_of : List Change → ℕ
adds_of [] = 0
adds_of (Add s ∷ cs) = suc (adds_of cs)
adds_of (Withdraw k ∷ cs) = adds_of cs

-- request 2026-07: all have places inside the limits
abbrev pub all_limited : List Change → Bool
all_limited [] = true
all_limited (c ∷ cs) = limited (change_key c) && all_limited cs

-- ".. with the first such position": how many are inside the limits before one that isn't, or all
abbrev pub first_outside : List Change → ℕ
first_outside [] = 0
first_outside (c ∷ cs) = cond (limited (change_key c)) (suc (first_outside cs)) 0
