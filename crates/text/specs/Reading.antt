-- What `parse` makes of any line before it prints the command and compares. On the text of a command it is the command.
-- Assumes nothing.
use Rattle.std.specs.Prelude.{ℕ, ◌+◌, ◌-◌, ◌*◌, ◌%◌, cond, List, [], ◌∷◌, eqb, ℤ, get_or, drop, Option, Some, None}
use Rattle.spot.specs.Keys.{word, half, unbiased}
use Rattle.text.specs.declared.Command.{Command}
use Rattle.text.specs.declared.Command.TheVariants.{Add, Withdraw, Report, Top}

-- the bytes up to the first space, and those behind it
abbrev pub front : List ℕ → List ℕ
front [] = []
front (x ∷ xs) = cond (eqb 32 x) [] (x ∷ front xs)

abbrev pub behind : List ℕ → List ℕ
behind [] = []
behind (x ∷ xs) = cond (eqb 32 x) xs (behind xs)

-- a number with one digit more, kept within 32 bits
abbrev pub step : ℕ → ℕ → ℕ
step n x = (10 * n + (x - 48)) % word

-- the number n with these bytes as further digits
abbrev pub value : ℕ → List ℕ → ℕ
value n [] = n
value n (x ∷ xs) = value (step n x) xs

-- a word as a signed number
unfoldable pub integer : List ℕ → ℤ
integer w = cond (eqb (get_or w 0 0) 45) (unbiased ((half + word - value 0 (drop 1 w)) % word)) (unbiased ((half + value 0 w) % word))

-- the command of this sign with these fields; the third is signed or not
unfoldable pub command_of : ℕ → ℤ → ℤ → ℤ → ℕ → Option Command
command_of k x y z n =
    cond (eqb k 43) (Some (Add x y n)) (cond (eqb k 45) (Some (Withdraw x y)) (cond (eqb k 63) (Some (Report x y z)) (cond (eqb k 94) (Some (Top x y n)) None)))

-- the words of a line as the fields of a command
unfoldable pub guess : List ℕ → Option Command
guess line =
    let a = behind line in
    let b = behind a in
    let c = behind b in
    command_of (get_or line 0 0) (integer (front a)) (integer (front b)) (integer (front c)) (value 0 (front c))
