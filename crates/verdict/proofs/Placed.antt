-- What the row at the place of a key says of it.
-- Assumes nothing.
use mathlib.Core.Path.{◌≡◌, refl, sym, ap, subst, ◌∙◌}
use Prim.Native.Nat.{ℕ, zero, suc, ◌≤◌, ◌<◌}
use mathlib.Core.Bool.{Bool, true, cond}
use mathlib.Core.List.{List, [], ◌∷◌}
use mathlib.Core.Option.{Option, none, some}
use lib.ListN.{length, take, drop, get_or}
use lib.Dec.{leb, ltb, eqb}
use borrow.Author.Tests.{ltb-true, leb-true, eq-eqb, ne_eqb}
use native.Mathlib.Omega.{arith}
use Rattle.octets.specs.Lists.{every, rising_from}
use Rattle.octets.proofs.Tests.{and_left, and_right}
use Rattle.octets.proofs.Rising.{rising-rest, rising-first}
use Rattle.lookup.specs.Answers.{Looked, looked_up, LookupPost}
use Rattle.std.specs.Prelude.{Result}
use Rattle.std.specs.Prelude.{Option as Left}
use Rattle.rows.specs.declared.Row.{Row}
use Rattle.rows.specs.Rows.{no_row, row_key, row_track, row_keys, row_at}
use Rattle.rows.specs.Lining.{Rows, RowsBelow}
use Rattle.verdict.specs.declared.Refused.{Refused}
use Rattle.verdict.specs.Verdicts.{there_by, there_as, there_after}

module _ (key : ℕ) where
  abbrev below : ℕ → Bool
  below k = ltb k key

  -- no row of lower keys has it
  none_below : (rs : List Row) → every below (row_keys rs) ≡ true → row_at key rs ≡ none
  none_below [] h = refl
  none_below (x ∷ rs) h =
      let l : row_key x < key = ltb-true (row_key x) key (and_left (below (row_key x)) (every below (row_keys rs)) h) in
      rw (ne_eqb key (row_key x) (λ e. omega arith)) (none_below rs (and_right (below (row_key x)) (every below (row_keys rs)) h))

  -- nor one of higher keys
  none_above : (a : ℕ) (rs : List Row) → key < a → rising_from a (row_keys rs) ≡ true → row_at key rs ≡ none
  none_above a [] l h = refl
  none_above a (x ∷ rs) l h =
      let m : a ≤ row_key x = rising-first a (row_key x) (row_keys rs) h in
      rw (ne_eqb key (row_key x) (λ e. omega arith)) (none_above (suc (row_key x)) rs (omega arith) (rising-rest a (row_key x) (row_keys rs) h))

  -- the p-th, where those before are lower and it is not, is the only one that may
  at_place : (a r p : ℕ) (h : List Row) → p < r → r ≤ length h → rising_from a (row_keys (take r h)) ≡ true → every below (row_keys (take p h)) ≡ true
      → every (leb key) (row_keys (drop p (take r h))) ≡ true
      → row_at key (take r h) ≡ cond (eqb key (row_key (get_or h p no_row))) (some (row_track (get_or h p no_row))) none
  at_place a zero p h l m up u o = absurd (omega (arith, l))
  at_place a (suc r) p [] l m up u o = absurd (omega (arith, m))
  at_place a (suc r) zero (x ∷ h) l m up u o =
      let g : key ≤ row_key x = leb-true key (row_key x) (and_left (leb key (row_key x)) (every (leb key) (row_keys (take r h))) o) in
      ap (cond (eqb key (row_key x)) (some (row_track x))) (none_above (suc (row_key x)) (take r h) (omega arith) (rising-rest a (row_key x) (row_keys (take r h)) up))
  at_place a (suc r) (suc p) (x ∷ h) l m up u o =
      let g : row_key x < key = ltb-true (row_key x) key (and_left (below (row_key x)) (every below (row_keys (take p h))) u) in
      rw (ne_eqb key (row_key x) (λ e. omega arith))
      (at_place (suc (row_key x)) r p h (omega arith) (omega arith) (rising-rest a (row_key x) (row_keys (take r h)) up)
      (and_right (below (row_key x)) (every below (row_keys (take p h))) u) o)

module _ {h : List Row} {r key p : ℕ} (b : RowsBelow h r key p) where
  -- it would stand behind all rows
  behind : r ≤ p → row_at key (take r h) ≡ none
  behind l =
      let e : p ≡ r = omega (arith, b.few) in
      none_below key (take r h) (subst (λ (i : ℕ). every (λ k. ltb k key) (row_keys (take i h)) ≡ true) e b.under)

  module _ (v : Rows h r) where
    among : p < r → row_at key (take r h) ≡ cond (eqb key (row_key (get_or h p no_row))) (some (row_track (get_or h p no_row))) none
    among l = at_place key 0 r p h l v.inside v.rises b.under b.over

  module _ (t : List ℕ) {x : Result Bool Refused} where
    pub behind-there : r ≤ p → x ≡ there_by (looked_up t key) → x ≡ there_after (row_at key (take r h)) (looked_up t key)
    behind-there g e = e ∙ ap (λ (o : Option (Left ℕ)). there_after o (looked_up t key)) (sym (behind g))

    pub other-there : Rows h r → p < r → (row_key (get_or h p no_row) ≡ key → ⊥) → x ≡ there_by (looked_up t key) → x ≡ there_after (row_at key (take r h)) (looked_up t key)
    other-there v g n e =
        e ∙ ap (λ (o : Option (Left ℕ)). there_after o (looked_up t key))
        (sym (among v g ∙ ap (λ (c : Bool). cond c (some (row_track (get_or h p no_row))) none) (ne_eqb key (row_key (get_or h p no_row)) (λ q. n (sym q)))))

    pub row-there : Rows h r → p < r → row_key (get_or h p no_row) ≡ key → x ≡ there_as (row_track (get_or h p no_row)) → x ≡ there_after (row_at key (take r h)) (looked_up t key)
    row-there v g n e =
        e ∙ ap (λ (o : Option (Left ℕ)). there_after o (looked_up t key))
        (sym (among v g ∙ ap (λ (c : Bool). cond c (some (row_track (get_or h p no_row))) none) (eq-eqb key (row_key (get_or h p no_row)) (sym n))))

-- what a look-up says
pub looked-as : {t : List ℕ} {k : ℕ} {r x : Looked} → LookupPost t k r → r ≡ x → there_by x ≡ there_by (looked_up t k)
looked-as g e = ap there_by (sym e ∙ g.is)
