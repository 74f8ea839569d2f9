-- The entry with the highest top among those of children that have points, as a loop finds it.
-- Assumes nothing.
use mathlib.Core.Path.{◌≡◌, refl, subst, sym, ap, ◌∙◌}
use mathlib.Core.Logic.{◌⊎◌, inl, inr, ⊎_elim}
use mathlib.Core.Bool.{Bool, true, false, not, ◌&&◌, ◌||◌, true≢false}
use mathlib.Core.List.Memᴰ
use mathlib.Core.List.{List, Memᴰ}
use Prim.Native.Nat.{ℕ, ◌+◌, ◌≤◌, ◌<◌}
use native.Mathlib.Numerals.{add-one}
use native.Mathlib.Omega.{arith}
use lib.Dec.{ltb, eqb}
use lib.ListN.{length, take, get_or}
use lib.Seq.{take-suc, length-take-le}
use borrow.Author.Tests.{eqb-true, eqb-false, ltb-true, ltb-false, not-true}
use Rattle.octets.proofs.Tests.{and_left, and_right, or-either}
use Rattle.spot.specs.Keys.{rank_key}
use Rattle.block.specs.declared.Entry.{Entry}
use Rattle.node.proofs.Listed.{blank, entry-there}
use Rattle.std.specs.Prelude.{Option, Some, None, is_some}
use Rattle.node.specs.declared.Entries.{Entries}
use Rattle.node.specs.Memory.{entries_of}
use Rattle.edit.specs.Edits.{BestOf}

-- ---- the tests of the loop and of the threshold, as facts

pub either-yes : (a b c d : ℕ) → eqb a b || ltb c d ≡ true → (a ≡ b) ⊎ (c < d)
either-yes a b c d h = ⊎_elim (λ t. inl (eqb-true a b t)) (λ t. inr (ltb-true c d t)) (or-either (eqb a b) (ltb c d) h)

pub either-no : (a b c d : ℕ) → eqb a b || ltb c d ≡ false → (a ≡ b → ⊥) × (d ≤ c)
either-no a b c d h = go (eqb a b) refl h
  where
    go : (t : Bool) → eqb a b ≡ t → t || ltb c d ≡ false → (a ≡ b → ⊥) × (d ≤ c)
    go true e k = absurd (true≢false k)
    go false e k = (eqb-false a b e, ltb-false c d k)

pub pick_yes : (z c d : ℕ) (o : Bool) → not (eqb z 0) && (o || ltb c d) ≡ true → (z ≡ 0 → ⊥) × ((o ≡ true) ⊎ (c < d))
pick_yes z c d o h = (
  eqb-false z 0 (not-true (eqb z 0) (and_left (not (eqb z 0)) (o || ltb c d) h)),
  ⊎_elim (λ t. inl t) (λ t. inr (ltb-true c d t)) (or-either o (ltb c d) (and_right (not (eqb z 0)) (o || ltb c d) h)),
)

pub pick_no : (z c d : ℕ) (o : Bool) → not (eqb z 0) && (o || ltb c d) ≡ false → (z ≡ 0) ⊎ ((o ≡ false) × (d ≤ c))
pick_no z c d o h = go (eqb z 0) refl o refl h
  where
    go : (t : Bool) → eqb z 0 ≡ t → (u : Bool) → o ≡ u → not t && (u || ltb c d) ≡ false → (z ≡ 0) ⊎ ((o ≡ false) × (d ≤ c))
    go true e u f k = inl (eqb-true z 0 e)
    go false e true f k = absurd (true≢false k)
    go false e false f k = inr (f, ltb-false c d k)

-- ---- the entries seen

-- a child without points
abbrev pub Bare : Entry → Type 0
Bare d = d.size ≡ 0

-- its top is at most high, where it has points
abbrev pub Under : ℕ → Entry → Type 0
Under high d = (Bare d → ⊥) → rank_key d.top ≤ high

-- it holds of every entry of a list
abbrev pub Each : (Entry → Type 0) → List Entry → Type 0
Each P l = (d : Entry) → Memᴰ d l → P d

-- what is known once the first i are seen
abbrev pub Seen : List Entry → ℕ → ℕ → Option ℕ → Type 0
Seen l high i None = Each Bare (take i l)
Seen l high i (Some best) = (best < i) × (Bare (get_or l best blank) → ⊥) × (high ≡ rank_key (get_or l best blank).top) × Each (Under high) (take i l)

-- before the first turn
pub seen_none : (l : List Entry) (high : ℕ) → Seen l high 0 None
seen_none l high = λ d m. absurd (Memᴰ.not-nil m)

module _ (l : List Entry) (i : ℕ) (h : i < length l) where
  abbrev x : Entry
  x = get_or l i blank

  -- one entry more
  more : (P : Entry → Type 0) → Each P (take i l) → P x → Each P (take (i + 1) l)
  more P old new =
      rw (add-one i, take-suc l i blank h)
      (λ d m. ⊎_elim (λ j. old d j) (λ j. subst P (sym (Memᴰ.eq_of_singleton j)) new) (Memᴰ.append_cases (take i l) m))

  module _ (high : ℕ) where
    -- a turn that finds a higher top
    pub seen-new : (best : Option ℕ) (o : Bool) → is_some best ≡ not o → (Bare x → ⊥) → (o ≡ true) ⊎ (high < rank_key x.top) → Seen l high i best
        → Seen l (rank_key x.top) (i + 1) (Some i)
    seen-new best o e z a s = (omega arith, z, refl, more (Under (rank_key x.top)) (old best e a s) (λ p. omega arith))
      where
        old : (best : Option ℕ) → is_some best ≡ not o → (o ≡ true) ⊎ (high < rank_key x.top) → Seen l high i best → Each (Under (rank_key x.top)) (take i l)
        old None e a b d m p = absurd (p (b d m))
        old (Some k) e (inl t) b d m p = absurd (true≢false (e ∙ ap not t))
        old (Some k) e (inr j) (b, q, f, u) d m p = let w = u d m p in omega arith

    -- and one that does not
    pub seen-stays : (best : Option ℕ) (o : Bool) → is_some best ≡ not o → Bare x ⊎ ((o ≡ false) × (rank_key x.top ≤ high)) → Seen l high i best
        → Seen l high (i + 1) best
    seen-stays None o g (inl z) b = more Bare b z
    seen-stays None o g (inr a) b = absurd (true≢false (sym (g ∙ ap not a.0)))
    seen-stays (Some k) o g (inl z) (b, q, e, u) = (omega arith, q, e, more (Under high) u (λ p. absurd (p z)))
    seen-stays (Some k) o g (inr a) (b, q, e, u) = (omega arith, q, e, more (Under high) u (λ p. a.1))

-- after the last turn
pub seen_all : (es : Entries) (best : Option ℕ) (high : ℕ) → es.n ≤ length es.list → Seen es.list high es.n best → BestOf es best
seen_all es None high h b =
    let k : length (entries_of es) ≡ es.n = length-take-le es.n es.list h in
    record { some = λ g. absurd (omega arith); none = λ g. b }
seen_all es (Some best) high h (b, q, e, u) =
    let k : length (entries_of es) ≡ es.n = length-take-le es.n es.list h in (
      b,
      record {
        some = λ g. (get_or es.list best blank, (entry-there es.list es.n best h b).split, q, λ d m p. let w = u d m p in omega arith);
        none = λ g. absurd (omega arith);
      },
    )
