-- A whole script: refused, or run on a formatted table, with the model's log.
-- Assumes nothing.
use mathlib.Core.Path.{◌≡◌, refl, sym, ap, ap₂, subst, ◌∙◌}
use mathlib.Core.Bool.{Bool, true, false, cond, true≢false, ◌&&◌}
use mathlib.Core.List.{List}
use Prim.Native.Nat.{ℕ, zero, suc, ◌-◌, ◌*◌, ◌≤◌, ◌<◌}
use native.Mathlib.Nat.{div-mul-le_self}
use native.Mathlib.Omega.{arith}
use lib.ListN.{length}
use lib.Dec.{leb}
use borrow.Author.Tests.{ne_eqb, le-leb, lt-leb}
use Rattle.octets.proofs.Tests.{and_both}
use Rattle.block.specs.Table.{table_sized}
use Rattle.block.specs.Fresh.{formatted}
use Rattle.tree.specs.Sound.{sound}
use Rattle.tree.proofs.Fresh.{fresh-sized, fresh-sound}
use Rattle.table.specs.Calls.{Lengths}
use Rattle.demands.specs.Model.{begun_empty}
use Rattle.demands.specs.History.{History, AllAgreed}
use Rattle.demands.proofs.Demand.{demand3}
use Rattle.script.specs.Script.{calls_in, steps_of, log_part}
use Rattle.script.specs.Run.{RunState, run_state, Run, run_lengths, part_in, Happened, SameLengths, Ran}
use Rattle.script.proofs.Logs.{history-of, ends-sound, as-model}

parts_within : (bytes n : ℕ) → log_part bytes n * n ≤ bytes
unfolding log_part
parts_within bytes zero = omega arith
parts_within bytes (suc n) = rw (ne_eqb (suc n) 0 (λ e. omega arith)) (div-mul-le_self bytes (suc n))

-- the parts are within the log
pub parts-fit : (bytes n part : ℕ) → part ≡ log_part bytes n → part * n ≤ bytes
parts-fit bytes n part e = rw e (parts_within bytes n)

-- ---- refused: one of the two tests fails, and nothing changes

module _ (script g t w m v log : List ℕ) where
  says-not : table_sized (length t) && leb 12 (part_in script log) ≡ false → Ran script g t w m v log t w m v log false
  says-not p =
      record {
        runs = sym p;
        refused = λ e. (refl, refl, refl, refl, refl);
        stays_sound = λ e. absurd (true≢false (sym e));
        same_lengths = record { table = refl; scratch = refl; read_map = refl; counts = refl; log = refl };
        happened = λ e. absurd (true≢false (sym e));
      }

  pub says-unsized : table_sized (length t) ≡ false → Ran script g t w m v log t w m v log false
  says-unsized e = says-not (ap (λ (b : Bool). b && leb 12 (part_in script log)) e)

  pub says-short : (part : ℕ) → part ≡ part_in script log → part < 12 → table_sized (length t) ≡ true → Ran script g t w m v log t w m v log false
  says-short part e h z = says-not (ap₂ (λ (a b : Bool). a && b) z (ap (leb 12) (sym e) ∙ lt-leb 12 part h))

-- ---- run

module _ (script g t w m v log t' w' m' v' log' : List ℕ) (sized : table_sized (length t) ≡ true) where
  -- demand 3 of the run's history
  happens : (part : ℕ) (u : List ℕ) → part ≡ part_in script log → u ≡ formatted (length t)
      → Run script g (calls_in script) (run_lengths u w m v part) (run_state u w m v log) t' w' m' v' log'
      → Happened script g t w m v log t' w' m' v' log'
  happens part u ep eu r =
      let l : Lengths = run_lengths t w m v (part_in script log) in
      let h : RunState = run_state (formatted (length t)) w m v log in
      let run : Run script g (calls_in script) l h t' w' m' v' log' =
      subst (λ (k : Lengths). Run script g (calls_in script) k h t' w' m' v' log')
      (ap₂ (λ (bytes p : ℕ). record { table = bytes; output = p - 12; read_map = length m; scratch = length w; counts = length v }) (fresh-sized (length t) sized) ep)
      (subst (λ (x : List ℕ). Run script g (calls_in script) (run_lengths x w m v part) (run_state x w m v log) t' w' m' v' log') eu r)
      in
      let past : History (formatted (length t)) run.events =
      history-of l h (steps_of g script (calls_in script)) run.events run.in_turn
      in
      let agreed : AllAgreed (formatted (length t)) begun_empty run.events = demand3 (length t) sized run.events past in
      record {
        run = run;
        history = past;
        agreed = agreed;
        answers = run.log ∙ as-model l h begun_empty (steps_of g script (calls_in script)) run.events run.in_turn agreed;
      }

  pub says-run : (part : ℕ) (u : List ℕ) → part ≡ part_in script log → 12 ≤ part → u ≡ cond (table_sized (length t)) (formatted (length t)) t
      → Run script g (calls_in script) (run_lengths u w m v part) (run_state u w m v log) t' w' m' v' log'
      → SameLengths t w m v log t' w' m' v' log'
      → Ran script g t w m v log t' w' m' v' log' true
  says-run part u ep p eu r same =
      let k : Happened script g t w m v log t' w' m' v' log' =
      happens part u ep (eu ∙ ap (λ (b : Bool). cond b (formatted (length t)) t) sized) r
      in
      let l : Lengths = run_lengths t w m v (part_in script log) in
      let h : RunState = run_state (formatted (length t)) w m v log in
      record {
        runs = sym (and_both (table_sized (length t)) (leb 12 (part_in script log)) sized (ap (leb 12) (sym ep) ∙ le-leb 12 part p));
        refused = λ e. absurd (true≢false e);
        stays_sound = λ e. ap sound k.run.table ∙ ends-sound l h begun_empty k.run.events (fresh-sound (length t) sized) k.agreed;
        same_lengths = same;
        happened = λ e. k;
      }
