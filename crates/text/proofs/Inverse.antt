-- Reading a command is the inverse of printing it.
-- Assumes nothing.
use mathlib.Core.Path.{◌≡◌, refl, ap, sym, subst, ◌∙◌}
use mathlib.Core.Bool.{Bool, true, false, cond, ◌&&◌, false≢true}
use mathlib.Core.List.{List, [], ◌∷◌}
use Prim.Native.Nat.{ℕ, ◌<◌}
use native.Mathlib.Omega.{arith}
use lib.Dec.{eqb}
use lib.IntN.{ℤ}
use lib.ListN.{get_or}
use borrow.Author.Tests.{leb-true, le-leb}
use Rattle.std.specs.Prelude.{Option, Some, None, unwrap_or, ⊤}
use Rattle.octets.specs.Lists.{has, same_list}
use Rattle.octets.proofs.Tests.{and_left, and_right, and_both, same_lists, lists-same}
use Rattle.spot.specs.Keys.{word, signed32, unsigned32}
use Rattle.spot.proofs.Signed.{signed-fits, fits_signed}
use Rattle.text.specs.Text.{decimal, signed, joined}
use Rattle.text.specs.Commands.{command_text, fits, Parsed}
use Rattle.text.specs.Reading.{front, behind, value, integer, command_of, guess}
use Rattle.text.specs.declared.Command.{Command}
use Rattle.text.specs.declared.Command.TheVariants.{Add, Withdraw, Report, Top}
use Rattle.text.proofs.Decimal.{decimal-unspaced}
use Rattle.text.proofs.Words.{joined-front, joined-behind, joined-first}
use Rattle.text.proofs.Numbers.{decimal-value, value-lt, integer-signed, integer-fits, signed-unspaced}

unsigned-lt : (n : ℕ) → unsigned32 n ≡ true → n < word
unfolding unsigned32
unsigned-lt n h = omega (arith, leb-true n 4294967295 h)

lt-unsigned : (n : ℕ) → n < word → unsigned32 n ≡ true
unfolding unsigned32
lt-unsigned n h = le-leb n 4294967295 (omega arith)

-- ---- the words of a line of three words, and of more

module _ (a b c : List ℕ) (ws : List (List ℕ)) (ha : has 32 a ≡ false) (hb : has 32 b ≡ false) (hc : has 32 c ≡ false) where
  word_two : front (behind (joined (a ∷ b ∷ c ∷ ws))) ≡ b
  word_two = ap front (joined-behind a b (c ∷ ws) ha) ∙ joined-front b (c ∷ ws) hb

  word-three : front (behind (behind (joined (a ∷ b ∷ c ∷ ws)))) ≡ c
  word-three = ap (λ (l : List ℕ). front (behind l)) (joined-behind a b (c ∷ ws) ha) ∙ ap front (joined-behind b c ws hb) ∙ joined-front c ws hc

word-four : (a b c d : List ℕ) (ws : List (List ℕ)) → has 32 a ≡ false → has 32 b ≡ false → has 32 c ≡ false → has 32 d ≡ false
    → front (behind (behind (behind (joined (a ∷ b ∷ c ∷ d ∷ ws))))) ≡ d
word-four a b c d ws ha hb hc hd = ap (λ (l : List ℕ). front (behind (behind l))) (joined-behind a b (c ∷ d ∷ ws) ha) ∙ word-three b c d ws hb hc hd

no-space : (k : ℕ) → eqb 32 k ≡ false → has 32 (k ∷ []) ≡ false
no-space k h = rw h

-- ---- the command of a text

module _ (k : ℕ) (h : eqb 32 k ≡ false) (x y : ℤ) (fx : signed32 x ≡ true) (fy : signed32 y ≡ true) where
  guess-four : (w : List ℕ) → has 32 w ≡ false
      → guess (joined ((k ∷ []) ∷ signed x ∷ signed y ∷ w ∷ [])) ≡ command_of k x y (integer w) (value 0 w)
  unfolding guess
  guess-four w hw =
      rw (
        joined-first k (signed x) (signed y ∷ w ∷ []),
        word_two (k ∷ []) (signed x) (signed y) (w ∷ []) (no-space k h) (signed-unspaced x) (signed-unspaced y),
        word-three (k ∷ []) (signed x) (signed y) (w ∷ []) (no-space k h) (signed-unspaced x) (signed-unspaced y),
        word-four (k ∷ []) (signed x) (signed y) w [] (no-space k h) (signed-unspaced x) (signed-unspaced y) hw,
        integer-signed x (signed-fits x fx),
        integer-signed y (signed-fits y fy),
      )

  guess-three : (z : ℤ) (n : ℕ) → ((u v : ℤ) (m : ℕ) → command_of k x y u m ≡ command_of k x y v n)
      → guess (joined ((k ∷ []) ∷ signed x ∷ signed y ∷ [])) ≡ command_of k x y z n
  unfolding guess
  guess-three z n same =
      rw (
        joined-first k (signed x) (signed y ∷ []),
        word_two (k ∷ []) (signed x) (signed y) [] (no-space k h) (signed-unspaced x) (signed-unspaced y),
        word-three (k ∷ []) (signed x) (signed y) [] (no-space k h) (signed-unspaced x) (signed-unspaced y),
        integer-signed x (signed-fits x fx),
        integer-signed y (signed-fits y fy),
      ) (same _ _ _)

  guess-number : (n : ℕ) → unsigned32 n ≡ true → guess (joined ((k ∷ []) ∷ signed x ∷ signed y ∷ decimal n ∷ [])) ≡ command_of k x y (integer (decimal n)) n
  guess-number n f =
      guess-four (decimal n) (decimal-unspaced n) ∙ ap (command_of k x y (integer (decimal n))) (decimal-value n (unsigned-lt n f))

  guess-signed : (z : ℤ) → signed32 z ≡ true → guess (joined ((k ∷ []) ∷ signed x ∷ signed y ∷ signed z ∷ [])) ≡ command_of k x y z (value 0 (signed z))
  guess-signed z f =
      guess-four (signed z) (signed-unspaced z) ∙ ap (λ (u : ℤ). command_of k x y u (value 0 (signed z))) (integer-signed z (signed-fits z f))

-- three tests that pass together
pub record All (a b c : Bool) : Type 0 where
  pub one : a ≡ true
  pub two : b ≡ true
  pub three : c ≡ true

all_three : (a b c : Bool) → a && (b && c) ≡ true → All a b c
all_three a b c h =
    let g = and_right a (b && c) h in
    record { one = and_left a (b && c) h; two = and_left b c g; three = and_right b c g }

guess-text : (c : Command) → fits c ≡ true → guess (command_text c) ≡ Some c
unfolding command_of
guess-text (Add x y n) f =
    let a = all_three (signed32 x) (signed32 y) (unsigned32 n) f in
    guess-number 43 refl x y a.one a.two n a.three
guess-text (Withdraw x y) f =
    guess-three 45 refl x y (and_left (signed32 x) (signed32 y) f) (and_right (signed32 x) (signed32 y) f) x 0 (λ u v m. refl)
guess-text (Report x y z) f =
    let a = all_three (signed32 x) (signed32 y) (signed32 z) f in
    guess-signed 63 refl x y a.one a.two z a.three
guess-text (Top x y n) f =
    let a = all_three (signed32 x) (signed32 y) (unsigned32 n) f in
    guess-number 94 refl x y a.one a.two n a.three

some-one : (c d : Command) → ◌≡◌ {A = Option Command} (Some c) (Some d) → c ≡ d
some-one c d e = ap (λ (o : Option Command). unwrap_or o c) e

-- two commands with the same text are the same
text-one : (c d : Command) → fits c ≡ true → fits d ≡ true → command_text c ≡ command_text d → c ≡ d
text-one c d f g e = some-one c d (sym (guess-text c f) ∙ ap guess e ∙ guess-text d g)

-- ---- what is made of a line is within 32 bits

-- a command made of these fields, if it is one
abbrev FitsIfAny : Option Command → Type 0
FitsIfAny None = ⊤
FitsIfAny (Some c) = fits c ≡ true

module _ (x y z : ℤ) (n : ℕ) (fx : signed32 x ≡ true) (fy : signed32 y ≡ true) (fz : signed32 z ≡ true) (fn : unsigned32 n ≡ true) where
  chosen-fits : (a b c d : Bool)
      → FitsIfAny (cond a (Some (Add x y n)) (cond b (Some (Withdraw x y)) (cond c (Some (Report x y z)) (cond d (Some (Top x y n)) None))))
  chosen-fits true b c d = and_both (signed32 x) (signed32 y && unsigned32 n) fx (and_both (signed32 y) (unsigned32 n) fy fn)
  chosen-fits false true c d = and_both (signed32 x) (signed32 y) fx fy
  chosen-fits false false true d = and_both (signed32 x) (signed32 y && signed32 z) fx (and_both (signed32 y) (signed32 z) fy fz)
  chosen-fits false false false true = and_both (signed32 x) (signed32 y && unsigned32 n) fx (and_both (signed32 y) (unsigned32 n) fy fn)
  chosen-fits false false false false = tt

  command-fits : (k : ℕ) → FitsIfAny (command_of k x y z n)
  unfolding command_of
  command-fits k = chosen-fits (eqb k 43) (eqb k 45) (eqb k 63) (eqb k 94)

guess-fits : (l : List ℕ) → FitsIfAny (guess l)
unfolding guess
guess-fits l =
    let a = behind l in
    let b = behind a in
    let c = behind b in
    command-fits (integer (front a)) (integer (front b)) (integer (front c)) (value 0 (front c)) (fits_signed (integer (front a)) (integer-fits (front a)))
    (fits_signed (integer (front b)) (integer-fits (front b))) (fits_signed (integer (front c)) (integer-fits (front c)))
    (lt-unsigned (value 0 (front c)) (value-lt 0 (front c) (omega arith))) (get_or l 0 0)

-- ---- the answer

abbrev Nothing : Option Command → Type 0
Nothing None = ⊤
Nothing (Some c) = ⊥

none-some : (c : Command) → ◌≡◌ {A = Option Command} None (Some c) → ⊥
none-some c e = subst Nothing e tt

-- a command with the text of the line is what was made of it
only : (line : List ℕ) (d : Command) → fits d ≡ true → line ≡ command_text d → guess line ≡ Some d
only line d f t = ap guess t ∙ guess-text d f

module _ (line : List ℕ) (c : Command) (made : Some c ≡ guess line) where
  pub parse-yes : same_list line (command_text c) ≡ true → Parsed line (Some c)
  parse-yes h =
      record {
        command =
            λ d e.
            let f : fits c ≡ true = subst FitsIfAny (sym made) (guess-fits line) in
            subst (λ (x : Command). (fits x ≡ true) × (line ≡ command_text x)) (some-one c d e) (f, same_lists line (command_text c) h);
        none = λ e d f t. absurd (none-some c (sym e));
      }

  pub parse-no : same_list line (command_text c) ≡ false → Parsed line None
  parse-no h =
      record {
        command = λ d e. absurd (none-some d e);
        none =
            λ e d (f : fits d ≡ true) t.
            let s : c ≡ d = some-one c d (made ∙ only line d f t) in
            let g : same_list line (command_text c) ≡ same_list line line = ap (same_list line) (ap command_text s ∙ sym t) in
            let r : same_list line line ≡ true = lists-same line line refl in
            false≢true (sym h ∙ g ∙ r);
      }

-- nothing was made of the line
pub parse-nothing : (line : List ℕ) → None ≡ guess line → Parsed line None
parse-nothing line made =
    record { command = λ d e. absurd (none-some d e); none = λ e d (f : fits d ≡ true) t. none-some d (made ∙ only line d f t) }

-- the answer is the inverse of printing: it is the command that the line says
parse-whole : (line : List ℕ) (r : Option Command) (c : Command) → Parsed line r → fits c ≡ true → line ≡ command_text c → r ≡ Some c
parse-whole line None c p f t = absurd (p.none refl c f t)
parse-whole line (Some d) c p f t =
    let q = p.command d refl in
    ap Some (text-one d c q.0 f (sym q.1 ∙ t))

-- so a line has one answer
pub parsed-one : (line : List ℕ) (r s : Option Command) → Parsed line r → Parsed line s → r ≡ s
parsed-one line None None p q = refl
parsed-one line (Some c) None p q = absurd (q.none refl c (p.command c refl).0 (p.command c refl).1)
parsed-one line r (Some c) p q = parse-whole line r c p (q.command c refl).0 (q.command c refl).1
