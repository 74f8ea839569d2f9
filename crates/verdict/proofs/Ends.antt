-- The ways in which a message is judged: with room beside the figure in block 0, not at all, or by counting.
-- Assumes nothing.
use mathlib.Core.Path.{◌≡◌, sym, ap, ◌∙◌}
use Prim.Native.Nat.{ℕ, ◌+◌, ◌≤◌}
use mathlib.Core.Bool.{Bool, true, false, not, true≢false}
use mathlib.Core.List.{List, [], ◌∷◌}
use lib.ListN.{length}
use native.Mathlib.Omega.{arith}
use Rattle.octets.specs.Lists.{has}
use Rattle.spot.specs.Query.{everything}
use Rattle.block.specs.declared.Refusal.{Refusal}
use Rattle.block.specs.Answers.{refused}
use Rattle.block.specs.Table.{capacity}
use Rattle.block.specs.Header.{head_of}
use Rattle.tree.specs.Sound.{sound}
use Rattle.tree.specs.Walk.{is_broken, live_spots, live_count}
use Rattle.tree.proofs.Tables.{counted, live-walk, count-finds}
use Rattle.tally.specs.declared.Tally.{Tally}
use Rattle.query.specs.Walks.{TableCounted}
use Rattle.message.specs.Changes.{changes_of, adds_of}
use Rattle.message.specs.Messages.{read_message}
use Rattle.message.proofs.Effects.{applied-room}
use Rattle.rows.specs.Lining.{LinedUp}
use Rattle.std.specs.Prelude.{Ok, Err, Some, None}
use Rattle.rows.specs.declared.Row.{Row}
use Rattle.verdict.specs.declared.Refused.TheVariants.{Unsound}
use Rattle.verdict.specs.Verdicts.{refused_at, Tried}

module _ (t : List ℕ) {m : List ℕ} {h k : List Row} where
  -- all that add find room
  pub roomy : {r bound adds most : ℕ} → LinedUp m h k r → bound ≡ (head_of t).bound → adds ≡ adds_of (changes_of (read_message m)) → most ≡ capacity (length t)
      → bound + adds ≤ most → Tried t m h k (Ok r)
  roomy l b d c e =
      record {
        numbers = tt;
        detail = tt;
        position = tt;
        lined = l;
        judged = λ s. sym (applied-room (length t) 0 (changes_of (read_message m)) (live_spots t) (omega (arith, counted t s, b, d, c, e)));
        full = tt;
      }

  -- a rule is broken
  pub unsound : {a : Refusal} {ok : Bool} → a ≡ refused_at Unsound 0 → ok ≡ sound t → ok ≡ false → Tried t m h k (Err a)
  unsound {a} f e n =
      let num : (refused a).number ≡ 3 = ap (λ (x : Refusal). (refused x).number) f in
      record {
        numbers = ap (λ (x : Refusal). has (refused x).number (3 ∷ 4 ∷ [])) f;
        detail = λ w. ap (λ (x : Refusal). (refused x).detail) f;
        position = λ w. absurd (omega (arith, num, w));
        lined = tt;
        judged = λ s. absurd (true≢false (sym s ∙ sym e ∙ n));
        full = λ w. absurd (omega (arith, num, w));
      }

-- a sound table's live spots are counted
pub sound-count : (t : List ℕ) {map : List ℕ} {r : Tally} → TableCounted t everything map (Some r) → r.spots ≡ live_count t
unfolding live_count
sound-count t c = c.spots ∙ ap length (live-walk t)

-- and the walk of a sound table is whole
pub sound-whole : (t : List ℕ) {map : List ℕ} → sound t ≡ true → TableCounted t everything map None → ⊥
sound-whole t s c = true≢false (sym (c.ok ∙ ap (λ x. not (is_broken x)) (count-finds t s).1))
