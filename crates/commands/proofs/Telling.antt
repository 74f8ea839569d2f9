-- What an answer has printed, and what a command comes to.
-- Assumes nothing.
use mathlib.Core.Path.{◌≡◌, refl, sym, ap, subst, ◌∙◌}
use mathlib.Core.Bool.{Bool, cond}
use mathlib.Core.List.{List, [], ◌++◌}
use Prim.Native.Nat.{ℕ, ◌-◌, ◌*◌, ◌/◌, ◌≤◌, ◌<◌, min}
use native.Mathlib.Nat.{min-le_left, min-le_right}
use native.Mathlib.Omega.{arith}
use lib.IntN.{ℤ}
use lib.ListN.{length, take, drop, take-append-drop}
use lib.Seq.{length-take-le, take_at, drop_at}
use borrow.Author.Tests.{eq-eqb, ne_eqb}
use Rattle.std.specs.Prelude.{Option, Some, None}
use Rattle.block.specs.declared.Answer.{Answer}
use Rattle.text.specs.declared.Command.{Command}
use Rattle.text.specs.declared.Command.TheVariants.{Add, Withdraw, Report, Top}
use Rattle.text.specs.Text.{refusal_line}
use Rattle.text.specs.Commands.{Parsed}
use Rattle.text.specs.Written.{Wrote}
use Rattle.text.proofs.Written.{wrote-within}
use Rattle.table.specs.Queries.{ReportPost, TopPost, GivenInside}
use Rattle.table.specs.Updates.{AddPost, WithdrawPost}
use Rattle.commands.specs.Printed.{printed}
use Rattle.commands.specs.Obeyed.{change_text, spots_text, room_for, Shown, Printable, Told, Obeyed}

-- ---- the text of an answer

module _ (a : Answer) where
  pub says_nothing : a.number ≡ 0 → [] ≡ change_text a
  unfolding change_text
  says_nothing e = ap (λ (b : Bool). cond b [] (refusal_line a.number)) (sym (eq-eqb a.number 0 e))

  pub says-refusal : (a.number ≡ 0 → ⊥) → refusal_line a.number ≡ change_text a
  unfolding change_text
  says-refusal n = ap (λ (b : Bool). cond b [] (refusal_line a.number)) (sym (ne_eqb a.number 0 n))

  pub lists-spots : (o : List ℕ) → a.number ≡ 0 → printed o a.detail ≡ spots_text a o
  unfolding spots_text
  lists-spots o e = ap (λ (b : Bool). cond b (printed o a.detail) (refusal_line a.number)) (sym (eq-eqb a.number 0 e))

  pub lists-none : (o : List ℕ) → (a.number ≡ 0 → ⊥) → refusal_line a.number ≡ spots_text a o
  unfolding spots_text
  lists-none o n = ap (λ (b : Bool). cond b (printed o a.detail) (refusal_line a.number)) (sym (ne_eqb a.number 0 n))

-- ---- the spots of an accepted query have room

pub inside-shown : (output text : ℕ) (out'' : List ℕ) (r : Answer) → Printable output text → length out'' ≡ output → GivenInside r out'' → Shown r text
inside-shown output text out'' r p same g =
    record { refusal = p.refusal; room = λ e. p.room r.detail (subst (λ (n : ℕ). 12 * r.detail ≤ n) same (g e).0) }

-- ---- each command

module _ (c : Command) (t w o m out out'' : List ℕ) (r : ℕ) (a : Answer) where
  pub told_add : (x y x' y' : ℤ) (k : ℕ) (t' w' : List ℕ) → c ≡ Add x y k → x' ≡ x → y' ≡ y → 13 ≤ length out → AddPost x' y' k t w a t' w'
      → Wrote out out'' 0 13 (change_text a) r
      → Told (Some c) t w o m out t' w' o m out'' r
  told_add x y x' y' k t' w' e ex ey h p v =
      subst (λ (d : Command). Told (Some d) t w o m out t' w' o m out'' r) (sym e)
      (record {
        text = change_text a;
        carried =
            (a, subst (λ (z : ℤ). AddPost z y k t w a t' w') ex (subst (λ (z : ℤ). AddPost x' z k t w a t' w') ey p), refl, refl, refl);
        written = wrote-within (length out) (change_text a) h refl v;
      })

  pub told-withdraw : (x y x' y' : ℤ) (t' w' : List ℕ) → c ≡ Withdraw x y → x' ≡ x → y' ≡ y → 13 ≤ length out → WithdrawPost x' y' t w a t' w'
      → Wrote out out'' 0 13 (change_text a) r
      → Told (Some c) t w o m out t' w' o m out'' r
  told-withdraw x y x' y' t' w' e ex ey h p v =
      subst (λ (d : Command). Told (Some d) t w o m out t' w' o m out'' r) (sym e)
      (record {
        text = change_text a;
        carried = (a, subst (λ (z : ℤ). WithdrawPost z y t w a t' w') ex (subst (λ (z : ℤ). WithdrawPost x' z t w a t' w') ey p), refl, refl, refl);
        written = wrote-within (length out) (change_text a) h refl v;
      })

  pub told-report : (x1 x2 y x1' x2' y' : ℤ) (o' m' : List ℕ) → c ≡ Report x1 x2 y → x1' ≡ x1 → x2' ≡ x2 → y' ≡ y
      → ReportPost x1' x2' y' t o m a o' m'
      → Wrote out out'' 0 (length out) (spots_text a o') r
      → Told (Some c) t w o m out t w o' m' out'' r
  told-report x1 x2 y x1' x2' y' o' m' e e1 e2 ey p v =
      subst (λ (d : Command). Told (Some d) t w o m out t w o' m' out'' r) (sym e)
      (record {
        text = spots_text a o';
        carried = (
          a,
          subst (λ (z : ℤ). ReportPost z x2 y t o m a o' m') e1
              (subst (λ (z : ℤ). ReportPost x1' z y t o m a o' m') e2 (subst (λ (z : ℤ). ReportPost x1' x2' z t o m a o' m') ey p)),
          refl,
          refl,
          refl,
        );
        written = v;
      })

  pub told-top : (x1 x2 x1' x2' : ℤ) (k : ℕ) (o' m' : List ℕ) → c ≡ Top x1 x2 k → x1' ≡ x1 → x2' ≡ x2 → TopPost x1' x2' k t o m a o' m'
      → Wrote out out'' 0 (length out) (spots_text a o') r
      → Told (Some c) t w o m out t w o' m' out'' r
  told-top x1 x2 x1' x2' k o' m' e e1 e2 p v =
      subst (λ (d : Command). Told (Some d) t w o m out t w o' m' out'' r) (sym e)
      (record {
        text = spots_text a o';
        carried =
            (a, subst (λ (z : ℤ). TopPost z x2 k t o m a o' m') e1 (subst (λ (z : ℤ). TopPost x1' z k t o m a o' m') e2 p), refl, refl, refl);
        written = v;
      })

told-none : (t w o m out out'' : List ℕ) (r : ℕ) → 13 ≤ length out → Wrote out out'' 0 13 (refusal_line 0) r → Told None t w o m out t w o m out'' r
told-none t w o m out out'' r h v =
    record { text = refusal_line 0; carried = (refl, refl, refl, refl, refl); written = wrote-within (length out) (refusal_line 0) h refl v }

-- ---- a line

-- what is lent of an output, and that it is within it
pub room-is : (text output n : ℕ) → n ≡ min (output / 12) ((text - 11) / 35) → (12 * n ≡ room_for text output) × (12 * n ≤ output)
unfolding room_for
room-is text output n e = (ap (λ (k : ℕ). 12 * k) e, omega (arith, min-le_left (output / 12) ((text - 11) / 35)))

pub room-printable : (o : List ℕ) (text end : ℕ) → end ≡ room_for text (length o) → end ≤ length o → 13 ≤ text → Printable (length (take end o)) text
unfolding room_for
room-printable o text end e h p =
    subst (λ (n : ℕ). Printable n text) (sym e ∙ sym (length-take-le end o h))
    (record { refusal = p; room = λ n l. omega (arith, min-le_right (length o / 12) ((text - 11) / 35)) })

pub obeyed : (line t w o m out t' w' p m' out'' : List ℕ) (r end : ℕ) (c : Option Command) → 13 ≤ length out → end ≡ room_for (length out) (length o)
    → end ≤ length o
    → length p ≡ length (take end o)
    → Parsed line c
    → Told c t w (take end o) m out t' w' p m' out'' r
    → Obeyed line t w o m out t' w' (p ++ drop end o) m' out'' r
obeyed line t w o m out t' w' p m' out'' r end c h e i same parsed told =
    let long : length p ≡ end = same ∙ length-take-le end o i in
    record {
      short = λ s. absurd (omega arith);
      done =
          λ _. record {
            command = c;
            parsed = parsed;
            told =
                subst (λ (n : ℕ). Told c t w (take n o) m out t' w' (take n (p ++ drop end o)) m' out'' r) e
                (subst (λ (x : List ℕ). Told c t w (take end o) m out t' w' x m' out'' r) (sym (take_at p (drop end o) end long)) told);
            behind = subst (λ (n : ℕ). drop n (p ++ drop end o) ≡ drop n o) e (drop_at p (drop end o) end long);
          };
      inside = told.written.inside;
    }

-- a line that is no command
pub obeyed-none : (line t w o m out out'' : List ℕ) (r : ℕ) → 13 ≤ length out → Parsed line None → Wrote out out'' 0 13 (refusal_line 0) r
    → Obeyed line t w o m out t w o m out'' r
unfolding room_for
obeyed-none line t w o m out out'' r h parsed v =
    let end : ℕ = room_for (length out) (length o) in
    let i : end ≤ length o = omega (arith, min-le_left (length o / 12) ((length out - 11) / 35)) in
    subst (λ (x : List ℕ). Obeyed line t w o m out t w x m out'' r) (take-append-drop end o)
    (obeyed line t w o m out t w (take end o) m out'' r end None h refl i refl parsed (told-none t w (take end o) m out out'' r h v))

pub not-obeyed : (line t w o m out : List ℕ) → length out < 13 → Obeyed line t w o m out t w o m out 0
not-obeyed line t w o m out h = record { short = λ _. (refl, refl, refl, refl, refl, refl); done = λ l. absurd (omega arith); inside = omega arith }
