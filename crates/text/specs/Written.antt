-- Text written into lent bytes.
-- Assumes nothing.
use Rattle.std.specs.Prelude.{◌≡◌, ℕ, ◌+◌, ◌≤◌, List, length}
use Rattle.octets.specs.Bytes.{put_bytes}

-- s became s' by a text of at most `most` bytes from index at on, and r is the place behind it
pub record Wrote (s s' : List ℕ) (at most : ℕ) (text : List ℕ) (r : ℕ) : Type 0 where
  pub bytes : s' ≡ put_bytes s at text
  pub behind : r ≡ at + length text
  pub near : r ≤ at + most
  pub inside : r ≤ length s
  pub sized : length s' ≡ length s
