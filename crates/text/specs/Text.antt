-- What the bench program prints, as bytes of ASCII.
-- Assumes nothing.
use Rattle.std.specs.Prelude.{ℕ, zero, suc, ◌+◌, ◌/◌, ◌%◌, cond, List, [], ◌∷◌, ◌++◌, ltb, ℤ, pos, negsuc}

-- the digits of n, the most significant first and no zero before another digit; the first argument is how many there may be
abbrev pub digits : ℕ → ℕ → List ℕ
digits zero n = []
digits (suc k) n = cond (ltb n 10) ((48 + n) ∷ []) (digits k (n / 10) ++ ((48 + n % 10) ∷ []))

-- "Fields are decimal, written as they are printed and within their 32 bits": ten digits are enough
unfoldable pub decimal : ℕ → List ℕ
decimal n = digits 10 n

-- the same of a signed number: a minus sign before the digits of its absolute value where it is negative
unfoldable pub signed : ℤ → List ℕ
signed (pos n) = decimal n
signed (negsuc n) = 45 ∷ decimal (suc n)

-- "one space between"
unfoldable pub joined : List (List ℕ) → List ℕ
joined [] = []
joined (w ∷ []) = w
joined (w ∷ (v ∷ ws)) = w ++ (32 ∷ joined (v ∷ ws))

-- "then a line each: place, rank, track"
unfoldable pub spot_line : ℤ → ℤ → ℕ → List ℕ
spot_line place rank track = joined (signed place ∷ signed rank ∷ decimal track ∷ []) ++ (10 ∷ [])

-- "it prints the number of spots on a line"
unfoldable pub count_line : ℕ → List ℕ
count_line n = decimal n ++ (10 ∷ [])

-- "A refused call prints `R` and the number, a line of no such form `R 0`"
unfoldable pub refusal_line : ℕ → List ℕ
refusal_line n = joined ((82 ∷ []) ∷ decimal n ∷ []) ++ (10 ∷ [])
