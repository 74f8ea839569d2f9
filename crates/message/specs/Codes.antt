-- What the parts of writer and reader need and leave.
-- Assumes nothing.
use Rattle.std.specs.Prelude.{◌≡◌, ◌⊎◌, ℕ, ◌+◌, ◌≤◌, true, cond, List, length, get_or, eqb, Option, Some, None}
use Rattle.std.proofs.Math.Option.{none, some}
use Rattle.std.proofs.Math.Option as read
use Rattle.spot.specs.Keys.{limited}
use Rattle.spot.specs.Spots.{key_at, spot_at}
use Rattle.message.specs.declared.Change.{Change}
use Rattle.message.specs.declared.Change.TheVariants.{Add, Withdraw}
use Rattle.message.specs.Changes.{change_size, changes_bytes, read_changes, changes_of, is_there, all_limited}

-- the zeros behind a withdrawal: none in a message, four in a list
abbrev pub Fill : ℕ → Type 0
Fill fill = (fill ≡ 0) ⊎ (fill ≡ 4)

-- the bytes of a change that was read
abbrev pub size_read : ℕ → read.Option Change → Option ℕ
size_read fill none = None
size_read fill (some c) = Some (change_size fill c)

-- the change at an index, where it is known that there is one
unfoldable pub change_at : List ℕ → ℕ → Change
change_at s at = cond (eqb (get_or s at 0) 1) (Add (spot_at s (at + 1))) (Withdraw (key_at s (at + 1)))

-- there is, and its place is inside the limits
pub record ChangeThere (s : List ℕ) (at : ℕ) : Type 0 where
  pub inside : at + 9 ≤ length s
  pub room : get_or s at 0 ≡ 1 → at + 13 ≤ length s
  pub limits : limited (key_at s (at + 1)) ≡ true

-- n changes stand from index at on
pub record ChangesThere (fill n : ℕ) (s : List ℕ) (at : ℕ) : Type 0 where
  pub fills : Fill fill
  pub from : at ≤ length s
  pub there : is_there (read_changes fill n s at) ≡ true

-- and all have places inside the limits
pub record ReadableInside (fill n : ℕ) (s : List ℕ) (at : ℕ) : Type 0 where
  pub readable : ChangesThere fill n s at
  pub limits : all_limited (changes_of (read_changes fill n s at)) ≡ true

-- and there is room for them elsewhere, from an index on
pub record Recodable (fill n : ℕ) (s : List ℕ) (at other : ℕ) (out : List ℕ) (to : ℕ) : Type 0 where
  pub inside : ReadableInside fill n s at
  pub fills : Fill other
  pub room : to + length (changes_bytes other (changes_of (read_changes fill n s at))) ≤ length out
