-- What a line brings about: the call that it names, on the table, and the text that is printed.
-- Assumes nothing.
use Rattle.std.specs.Prelude.{◌≡◌, ℕ, ◌+◌, ◌-◌, ◌*◌, ◌/◌, ◌≤◌, ◌<◌, min, cond, List, [], length, take, drop, eqb, Option, Some, None}
use Rattle.block.specs.declared.Answer.{Answer}
use Rattle.text.specs.declared.Command.{Command}
use Rattle.text.specs.declared.Command.TheVariants.{Add, Withdraw, Report, Top}
use Rattle.text.specs.Text.{refusal_line}
use Rattle.text.specs.Commands.{Parsed}
use Rattle.table.specs.Queries.{ReportPost, TopPost}
use Rattle.table.specs.Updates.{AddPost, WithdrawPost}
use Rattle.text.specs.Written.{Wrote}
use Rattle.commands.specs.Printed.{printed}

-- "A refused call prints `R` and the number"; an accepted `+` or `-` prints nothing
unfoldable pub change_text : Answer → List ℕ
change_text r = cond (eqb r.number 0) [] (refusal_line r.number)

-- "After ? or ^ it prints the number of spots on a line, then a line each"; output is as the call left it
unfoldable pub spots_text : Answer → List ℕ → List ℕ
spots_text r output = cond (eqb r.number 0) (printed output r.detail) (refusal_line r.number)

-- of an output of so many bytes, what is lent to a call whose spots are printed into a text of so many bytes: the number of spots takes a line of at most 11
-- bytes, each spot one of at most 35
unfoldable pub room_for : ℕ → ℕ → ℕ
room_for text output = 12 * min (output / 12) ((text - 11) / 35)

-- the command was carried out on the table t with the scratch w, the output o and the read map m, which became t', w', o' and m', and this text is to be printed; for a line of no
-- such form none is
abbrev pub CarriedOut : Option Command → List ℕ → List ℕ → List ℕ → List ℕ → List ℕ → List ℕ → List ℕ → List ℕ → List ℕ → Type 0
CarriedOut (Some (Add place rank track)) t w o m t' w' o' m' text =
    (r : Answer) × AddPost place rank track t w r t' w' × (o' ≡ o) × (m' ≡ m) × (text ≡ change_text r)
CarriedOut (Some (Withdraw place rank)) t w o m t' w' o' m' text =
    (r : Answer) × WithdrawPost place rank t w r t' w' × (o' ≡ o) × (m' ≡ m) × (text ≡ change_text r)
CarriedOut (Some (Report x1 x2 y)) t w o m t' w' o' m' text =
    (r : Answer) × ReportPost x1 x2 y t o m r o' m' × (t' ≡ t) × (w' ≡ w) × (text ≡ spots_text r o')
CarriedOut (Some (Top x1 x2 k)) t w o m t' w' o' m' text =
    (r : Answer) × TopPost x1 x2 k t o m r o' m' × (t' ≡ t) × (w' ≡ w) × (text ≡ spots_text r o')
CarriedOut None t w o m t' w' o' m' text = (t' ≡ t) × (w' ≡ w) × (o' ≡ o) × (m' ≡ m) × (text ≡ refusal_line 0)

-- an answer whose spots, where it has any, have room in the text
pub record Shown (a : Answer) (text : ℕ) : Type 0 where
  pub refusal : 13 ≤ text
  pub room : a.number ≡ 0 → 11 + 35 * a.detail ≤ text

-- every output of so many bytes has room in a text of so many
pub record Printable (output text : ℕ) : Type 0 where
  pub refusal : 13 ≤ text
  pub room : (n : ℕ) → 12 * n ≤ output → 11 + 35 * n ≤ text

-- the command was carried out, and its text stands at the front of out''
pub record Told (c : Option Command) (t w o m out t' w' o' m' out'' : List ℕ) (r : ℕ) : Type 0 where
  pub text : List ℕ
  pub carried : CarriedOut c t w o m t' w' o' m' text
  pub written : Wrote out out'' 0 (length out) text r

-- the command of the line was; of the output only the bytes whose spots have room in the text were lent to it
pub record Did (line t w o m out t' w' o' m' out'' : List ℕ) (r : ℕ) : Type 0 where
  pub command : Option Command
  pub parsed : Parsed line command
  pub told : Told command t w (take (room_for (length out) (length o)) o) m out t' w' (take (room_for (length out) (length o)) o') m' out'' r
  pub behind : drop (room_for (length out) (length o)) o' ≡ drop (room_for (length out) (length o)) o

-- a line on the table t with the scratch w, the output o and the read map m, which became t', w', o' and m': its text stands at the front of out'', and r is its
-- length. Where there is no room for the line of a refusal, nothing is done.
pub record Obeyed (line t w o m out t' w' o' m' out'' : List ℕ) (r : ℕ) : Type 0 where
  pub short : length out < 13 → (t' ≡ t) × (w' ≡ w) × (o' ≡ o) × (m' ≡ m) × (out'' ≡ out) × (r ≡ 0)
  pub done : 13 ≤ length out → Did line t w o m out t' w' o' m' out'' r
  pub inside : r ≤ length out
