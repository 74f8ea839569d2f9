-- The loops that choose a child: what is known once the first i entries are seen.
-- Assumes nothing.
use mathlib.Core.Path.{◌≡◌, refl, sym, ap, subst, ◌∙◌}
use mathlib.Core.Logic.{⊎_elim}
use mathlib.Core.Bool.{cond}
use mathlib.Core.List.{List}
use Prim.Native.Nat.{ℕ, zero, suc, ◌+◌, ◌-◌, ◌≤◌, ◌<◌}
use native.Mathlib.Nat.{not-suc-le-zero}
use native.Mathlib.Numerals.{add-one}
use native.Mathlib.Omega.{arith}
use lib.ListN.{length, take, drop, get_or}
use lib.Seq.{drop-cons, get_or-take, length-take-le}
use borrow.Author.Tests.{lt-ltb, le-ltb}
use Rattle.octets.proofs.Order.{less-or-not}
use Rattle.block.specs.declared.Entry.{Entry}
use Rattle.tree.specs.Part.{next_low}
use Rattle.buffer.specs.Buffer.{below}
use Rattle.node.proofs.Listed.{blank}
use Rattle.choose.specs.Choices.{Fullest, start_at, end_at, share}

-- the low of the i-th entry of the first n of an array
pub low-is : (l : List Entry) (n i : ℕ) → n ≤ length l → i < n → (get_or l i blank).low ≡ next_low (drop i (take n l)) 0
low-is l n i h g =
    let k : i < length (take n l) = rw length-take-le (omega arith) in
    sym (ap (λ (x : List Entry). next_low x 0) (drop-cons (take n l) i blank k) ∙ ap (λ (e : Entry). e.low) (get_or-take n l i blank g))

-- ---- the child for most keys

module _ (es : List Entry) (ks : List ℕ) (n : ℕ) where
  pub end-in : (i : ℕ) → i < length es → end_at es ks n i ≡ below (next_low (drop i es) 0) ks
  end-in i h = ap (λ b. cond b (below (next_low (drop i es) 0) ks) n) (lt-ltb i (length es) h)

  pub end-out : (i : ℕ) → length es ≤ i → end_at es ks n i ≡ n
  end-out i h = ap (λ b. cond b (below (next_low (drop i es) 0) ks) n) (le-ltb i (length es) h)

  pub start-later : (i : ℕ) → (i ≡ 0 → ⊥) → below (next_low (drop i es) 0) ks ≡ start_at es ks i
  start-later zero h = absurd (h refl)
  start-later (suc i) h = refl

  -- the best of the first i children, and where the next one's keys begin
  pub record Seen (best most start i : ℕ) : Type 0 where
    pub few : i ≤ length es
    pub from : i < length es → start ≡ start_at es ks i
    pub there : best < length es
    pub held : most ≤ share es ks n best
    pub over : (j : ℕ) → j < i → share es ks n j ≤ most

  pub seen_none : 0 < length es → Seen 0 0 0 0
  seen_none h =
      record { few = omega arith; from = λ g. refl; there = h; held = omega arith; over = λ j g. absurd (not-suc-le-zero g) }

  pub seen_all : (best most start i : ℕ) → length es ≤ i → Seen best most start i → Fullest es ks n best
  seen_all best most start i h s =
      record { there = s.there; most = λ j g. omega (arith, s.over j (omega arith), s.held) }

  module _ (best most start i end : ℕ) (h : i < length es) (e : end ≡ end_at es ks n (i + 1)) (s : Seen best most start i) where
    ends : end ≡ end_at es ks n (suc i)
    ends = e ∙ ap (λ (x : ℕ). end_at es ks n x) (add-one i)

    -- the keys of this child
    here : end - start ≡ share es ks n i
    here = ap (λ (x : ℕ). x - start) ends ∙ ap (λ (x : ℕ). end_at es ks n (suc i) - x) (s.from h)

    next : i + 1 < length es → end ≡ start_at es ks (i + 1)
    next g =
        let k : suc i < length es = omega arith in
        ends ∙ end-in (suc i) k ∙ ap (λ (x : ℕ). start_at es ks x) (sym (add-one i))

    -- the bound on one child more
    more : (top : ℕ) → most ≤ top → end - start ≤ top → (j : ℕ) → j < i + 1 → share es ks n j ≤ top
    more top a b j g =
        ⊎_elim
        (λ (q : i ≤ j). let r : i ≡ j = omega arith in subst (λ (x : ℕ). share es ks n x ≤ top) r (subst (λ (x : ℕ). x ≤ top) here b))
        (λ (q : j < i). omega (arith, s.over j q))
        (less-or-not i j)

    -- a turn that finds more keys, and one that does not
    pub seen-new : most < end - start → Seen i (end - start) end (i + 1)
    seen-new g =
        record { few = omega arith; from = next; there = h; held = omega (arith, here); over = more (end - start) (omega arith) (omega arith) }

    pub seen-stays : end - start ≤ most → Seen best most end (i + 1)
    seen-stays g =
        record { few = omega arith; from = next; there = s.there; held = s.held; over = more most (omega arith) g }
