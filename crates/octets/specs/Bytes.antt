-- Big-endian numbers in lists of bytes: one family over the number of bytes.
-- Assumes nothing.
use Rattle.std.specs.Prelude.{ℕ, zero, suc, ◌+◌, ◌*◌, ◌/◌, ◌%◌, List, [], ◌∷◌, ◌++◌, length, get_or, set, take, drop}

-- "All numbers on it are big-endian": the number in the n bytes from index i
unfoldable pub be : ℕ → List ℕ → ℕ → ℕ
be zero s i = 0
be (suc n) s i = be n s i * 256 + get_or s (i + n) 0

-- the n lowest bytes of v, most significant first
unfoldable pub bytes_of : ℕ → ℕ → List ℕ
bytes_of zero v = []
bytes_of (suc n) v = bytes_of n (v / 256) ++ (v % 256 ∷ [])

-- s with the n lowest bytes of v from index i on
unfoldable pub put_be : ℕ → List ℕ → ℕ → ℕ → List ℕ
put_be zero s i v = s
put_be (suc n) s i v = set (put_be n s i (v / 256)) (i + n) (v % 256)

-- s with other bytes from index i on
unfoldable pub put_bytes : List ℕ → ℕ → List ℕ → List ℕ
put_bytes s i xs = take i s ++ xs ++ drop (i + length xs) s
