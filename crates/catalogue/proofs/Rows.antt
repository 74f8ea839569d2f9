-- The blocks that stand, by index: where two are joined, and what stands then.
-- Assumes nothing.
use mathlib.Core.Path.{◌≡◌, refl, sym, ap, ap₂, subst, ◌∙◌}
use mathlib.Core.Logic.{⊎_elim}
use mathlib.Core.Bool.{Bool, true, false, cond, ◌&&◌}
use mathlib.Core.List.{List, [], ◌∷◌, ◌++◌}
use Prim.Native.Nat.{ℕ, zero, suc, ◌+◌, ◌-◌, ◌≤◌, ◌<◌}
use native.Mathlib.Nat.{le_of_suc-le-suc, not-suc-le-zero}
use native.Mathlib.Numerals.{add-one}
use native.Mathlib.Omega.{arith}
use lib.ListN.{length, take, drop, get_or, length-drop, get_or-append}
use lib.Seq.{take-take, get_or-take, length-take-le, get_or-append_right, get_or-drop}
use Rattle.octets.specs.Lists.{up_to}
use Rattle.octets.proofs.Order.{same_or_not, less-or-not}
use Rattle.octets.proofs.Lists.{drop-next}
use Rattle.plan.specs.Plans.{closed_up}
use Rattle.catalogue.specs.declared.Entry.{Entry}
use Rattle.catalogue.specs.declared.Row.{Row}
use Rattle.catalogue.specs.Catalogue.{ended_both, fused_fine, joins_from, joins, joined_from, joined_row, joins_all}
use Rattle.catalogue.specs.Rows.{Numbered, held, pair_from, pair_at, RowFits}

module _ (e : ℕ → Entry) where
  -- ---- by the place of the pair

  module _ (b : ℕ) where
    abbrev p : ℕ
    p = (e b).made

    from-none : (a : ℕ) (row : List ℕ) → length row ≤ pair_from e p a row → joins_from e b a row ≡ false
    from-none a [] h = refl
    from-none a (c ∷ row) h = go (ended_both p (e a) (e c)) (from-none c row) h
      where
        go : (t : Bool) → (length row ≤ pair_from e p c row → joins_from e b c row ≡ false) → suc (length row) ≤ cond t 0 (suc (pair_from e p c row)) → cond t (fused_fine (e b) (e a) (e c)) (joins_from e b c row) ≡ false
        go true ih h = absurd (not-suc-le-zero h)
        go false ih h = ih (le_of_suc-le-suc h)

    from_found : (a : ℕ) (row : List ℕ) → pair_from e p a row < length row
        → joins_from e b a row ≡ fused_fine (e b) (e (get_or (a ∷ row) (pair_from e p a row) 0)) (e (get_or (a ∷ row) (suc (pair_from e p a row)) 0))
    from_found a [] h = absurd (not-suc-le-zero h)
    from_found a (c ∷ row) h = go (ended_both p (e a) (e c)) (from_found c row) h
      where
        go : (t : Bool)
            → (pair_from e p c row < length row → joins_from e b c row ≡ fused_fine (e b) (e (get_or (c ∷ row) (pair_from e p c row) 0)) (e (get_or (c ∷ row) (suc (pair_from e p c row)) 0)))
            → cond t 0 (suc (pair_from e p c row)) < suc (length row)
            → cond t (fused_fine (e b) (e a) (e c)) (joins_from e b c row)
            ≡ fused_fine (e b) (e (get_or (a ∷ c ∷ row) (cond t 0 (suc (pair_from e p c row))) 0)) (e (get_or (a ∷ c ∷ row) (suc (cond t 0 (suc (pair_from e p c row)))) 0))
        go true ih h = refl
        go false ih h = ih (le_of_suc-le-suc h)

    from-joined : (a : ℕ) (row : List ℕ) → pair_from e p a row < length row
        → joined_from e b a row ≡ take (pair_from e p a row) (a ∷ row) ++ (b ∷ drop (suc (suc (pair_from e p a row))) (a ∷ row))
    from-joined a [] h = absurd (not-suc-le-zero h)
    from-joined a (c ∷ row) h = go (ended_both p (e a) (e c)) (from-joined c row) h
      where
        go : (t : Bool)
            → (pair_from e p c row < length row → joined_from e b c row ≡ take (pair_from e p c row) (c ∷ row) ++ (b ∷ drop (suc (suc (pair_from e p c row))) (c ∷ row)))
            → cond t 0 (suc (pair_from e p c row)) < suc (length row)
            → cond t (b ∷ row) (a ∷ joined_from e b c row)
            ≡ take (cond t 0 (suc (pair_from e p c row))) (a ∷ c ∷ row) ++ (b ∷ drop (suc (suc (cond t 0 (suc (pair_from e p c row))))) (a ∷ c ∷ row))
        go true ih h = refl
        go false ih h = ap (λ (l : List ℕ). a ∷ l) (ih (le_of_suc-le-suc h))

    joins-none : (row : List ℕ) → length row ≤ pair_at e p row + 1 → joins e b row ≡ false
    joins-none [] h = refl
    joins-none (a ∷ row) h = from-none a row (omega arith)

    joins-found : (row : List ℕ) → pair_at e p row + 1 < length row
        → joins e b row ≡ fused_fine (e b) (e (get_or row (pair_at e p row) 0)) (e (get_or row (suc (pair_at e p row)) 0))
    joins-found [] h = absurd (not-suc-le-zero h)
    joins-found (a ∷ row) h = from_found a row (omega arith)

    joined-found : (row : List ℕ) → pair_at e p row + 1 < length row
        → joined_row e b row ≡ take (pair_at e p row) row ++ (b ∷ drop (suc (suc (pair_at e p row))) row)
    joined-found [] h = absurd (not-suc-le-zero h)
    joined-found (a ∷ row) h = from-joined a row (omega arith)

  -- ---- looking for the pair

  module _ (p : ℕ) where
    short : (l : List ℕ) → length l ≤ 1 → pair_at e p l ≡ 0
    short [] h = refl
    short (a ∷ []) h = refl
    short (a ∷ c ∷ l) h = let z : ⊥ = omega arith in absurd z

    pub pair_end : (l : List ℕ) (i : ℕ) → pair_at e p l ≡ i + pair_at e p (drop i l) → length l ≤ i + 1 → i ≡ pair_at e p l
    pair_end l i h s =
        let z : pair_at e p (drop i l) ≡ 0 = short (drop i l) (omega (arith, length-drop i l)) in
        omega arith

    module _ (l : List ℕ) (i : ℕ) (s : i + 1 < length l) where
      pair_step : pair_at e p (drop i l) ≡ cond (ended_both p (e (get_or l i 0)) (e (get_or l (i + 1) 0))) 0 (suc (pair_at e p (drop (i + 1) l)))
      pair_step =
          let n : drop (i + 1) l ≡ get_or l (i + 1) 0 ∷ drop (i + 1 + 1) l = drop-next l (i + 1) 0 s in
          ap (pair_at e p) (drop-next l i 0 (omega arith)) ∙ ap (pair_from e p (get_or l i 0)) n
          ∙ ap (λ (r : List ℕ). cond (ended_both p (e (get_or l i 0)) (e (get_or l (i + 1) 0))) 0 (suc (pair_at e p r))) (sym n)

      pub pair-here : pair_at e p l ≡ i + pair_at e p (drop i l) → ended_both p (e (get_or l i 0)) (e (get_or l (i + 1) 0)) ≡ true → i ≡ pair_at e p l
      pair-here h t =
          let z : pair_at e p (drop i l) ≡ 0 = pair_step ∙ ap (λ (c : Bool). cond c 0 (suc (pair_at e p (drop (i + 1) l)))) t in
          omega arith

      pub pair-on : pair_at e p l ≡ i + pair_at e p (drop i l) → ended_both p (e (get_or l i 0)) (e (get_or l (i + 1) 0)) ≡ false
          → pair_at e p l ≡ i + 1 + pair_at e p (drop (i + 1) l)
      pair-on h t =
          let z : pair_at e p (drop i l) ≡ suc (pair_at e p (drop (i + 1) l)) = pair_step ∙ ap (λ (c : Bool). cond c 0 (suc (pair_at e p (drop (i + 1) l)))) t in
          omega arith

  -- ---- one fused block after the other

  -- of those before m, from b on
  abbrev pub fused_left : ℕ → ℕ → List ℕ → Bool
  fused_left m b row = joins_all e (up_to b (m - b)) row

  pub fused-first : (m l : ℕ) (row : List ℕ) → row ≡ up_to 1 l → joins_all e (up_to (suc l) (m - l - 1)) (up_to 1 l) ≡ fused_left m (l + 1) row
  fused-first m l row h =
      let n : m - l - 1 ≡ m - (l + 1) = omega arith in
      ap₂ (λ (a k : ℕ). joins_all e (up_to a k) (up_to 1 l)) (sym (add-one l)) n ∙ ap (fused_left m (l + 1)) (sym h)

  module _ (m b : ℕ) (row : List ℕ) (h : b < m) where
    fused-cons : fused_left m b row ≡ joins e b row && fused_left m (b + 1) (joined_row e b row)
    fused-cons =
        let n : m - b ≡ suc (m - (b + 1)) = omega arith in
        ap (λ (k : ℕ). joins_all e (up_to b k) row) n
        ∙ ap (λ (a : ℕ). joins e b row && joins_all e (up_to a (m - (b + 1))) (joined_row e b row)) (sym (add-one b))

    pub fused-fails : joins e b row ≡ false → fused_left m b row ≡ false
    fused-fails j = fused-cons ∙ ap (λ (t : Bool). t && fused_left m (b + 1) (joined_row e b row)) j

    pub fused-passes : (next : List ℕ) → joins e b row ≡ true → next ≡ joined_row e b row → fused_left m b row ≡ fused_left m (b + 1) next
    fused-passes next j n = fused-cons ∙ ap₂ (λ (t : Bool) (r : List ℕ). t && fused_left m (b + 1) r) j (sym n)

  pub fused-none : (m b : ℕ) (row : List ℕ) → m ≤ b → fused_left m b row ≡ true
  fused-none m b row h = let n : m - b ≡ 0 = omega arith in ap (λ (k : ℕ). joins_all e (up_to b k) row) n

-- ---- a row as it is held

pub held-length : (r : Row) → RowFits r → length (held r) ≡ r.n
held-length r f = length-take-le r.n r.blocks (omega (arith, f.few, f.room))

pub held_at : (r : Row) (i : ℕ) → i < r.n → get_or (held r) i 0 ≡ get_or r.blocks i 0
held_at r i h = get_or-take r.n r.blocks i 0 h

module _ (e : ℕ → Entry) (b : ℕ) (r : Row) (f : RowFits r) where
  -- no two side by side
  pub joins-short : r.n ≤ pair_at e (e b).made (held r) + 1 → joins e b (held r) ≡ false
  joins-short h = joins-none e b (held r) (omega (arith, held-length r f))

  -- where the pair of block b stands at i
  module _ (i : ℕ) (at : i ≡ pair_at e (e b).made (held r)) (h : i + 1 < r.n) where
    inside : pair_at e (e b).made (held r) + 1 < length (held r)
    inside = omega (arith, held-length r f)

    pub joins-here : {z x y : Entry} → z ≡ e b → x ≡ e (get_or r.blocks i 0) → y ≡ e (get_or r.blocks (i + 1) 0) → fused_fine z x y ≡ joins e b (held r)
    joins-here {z} {x} {y} pz px py =
        ap₂ (fused_fine z) (px ∙ ap e (sym (held_at r i (omega arith)))) (py ∙ ap e (sym (held_at r (i + 1) h)))
        ∙ ap (λ (w : Entry). fused_fine w (e (get_or (held r) i 0)) (e (get_or (held r) (i + 1) 0))) pz
        ∙ ap₂ (λ (j k : ℕ). fused_fine (e b) (e (get_or (held r) j 0)) (e (get_or (held r) k 0))) at (add-one i ∙ ap suc at)
        ∙ sym (joins-found e b (held r) inside)

    pub joined-here : take i (held r) ++ (b ∷ drop (suc (suc i)) (held r)) ≡ joined_row e b (held r)
    joined-here =
        ap (λ (j : ℕ). take j (held r) ++ (b ∷ drop (suc (suc j)) (held r))) at ∙ sym (joined-found e b (held r) inside)

-- the first blocks, in turn
take-up_to : (i n k : ℕ) → n ≤ k → take n (up_to i k) ≡ up_to i n
take-up_to i zero k h = refl
take-up_to i (suc n) zero h = absurd (not-suc-le-zero h)
take-up_to i (suc n) (suc k) h = ap (λ (l : List ℕ). i ∷ l) (take-up_to (suc i) n k (le_of_suc-le-suc h))

at-up_to : (i n k : ℕ) → k < n → get_or (up_to i n) k 0 ≡ i + k
at-up_to i zero k h = absurd (not-suc-le-zero h)
at-up_to i (suc n) zero h = omega arith
at-up_to i (suc n) (suc k) h = at-up_to (suc i) n k (le_of_suc-le-suc h) ∙ omega arith

pub first-held : (l : ℕ) → l ≤ 8 → RowFits (record { n = l; blocks = up_to 1 8 }) × (take l (up_to 1 8) ≡ up_to 1 l)
first-held l h =
    (record { few = h; room = refl; each = λ i k. (omega (arith, at-up_to 1 8 i (omega arith)), omega (arith, at-up_to 1 8 i (omega arith))) }, take-up_to 1 l 8 h)

-- ---- two blocks give way to one

module _ (row : Row) (i b : ℕ) (f : RowFits row) (h : i + 1 < row.n) (m : Numbered b) (ys : List ℕ) (e : take (row.n - 1) ys ≡ closed_up row.blocks i row.n b) where
  front-long : length (take i row.blocks) ≡ i
  front-long = length-take-le i row.blocks (omega (arith, f.few, f.room))

  at-closed : (k : ℕ) → k < row.n - 1 → get_or ys k 0 ≡ get_or (closed_up row.blocks i row.n b) k 0
  at-closed k l = sym (get_or-take (row.n - 1) ys k 0 l) ∙ ap (λ (z : List ℕ). get_or z k 0) e

  before : (k : ℕ) → k < row.n - 1 → k < i → Numbered (get_or ys k 0)
  before k l a =
      subst Numbered (sym (at-closed k l ∙ get_or-append (take i row.blocks) _ 0 k (omega (arith, front-long)) ∙ get_or-take i row.blocks k 0 a)) (f.each k (omega arith))

  from-here : (k j : ℕ) → k < row.n - 1 → k ≡ i + j → get_or ys k 0 ≡ get_or (b ∷ drop (i + 2) (held row)) j 0
  from-here k j l a =
      let d : k - length (take i row.blocks) ≡ j = omega (arith, front-long) in
      at-closed k l ∙ get_or-append_right (take i row.blocks) _ k 0 (omega (arith, front-long)) ∙ ap (λ (z : ℕ). get_or (b ∷ drop (i + 2) (held row)) z 0) d

  behind : (k j : ℕ) → k < row.n - 1 → k ≡ i + suc j → Numbered (get_or ys k 0)
  behind k j l a =
      subst Numbered (sym (from-here k (suc j) l a ∙ get_or-drop (i + 2) (held row) j 0 ∙ held_at row (i + 2 + j) (omega arith))) (f.each (i + 2 + j) (omega arith))

  each-closed : (k : ℕ) → k < row.n - 1 → Numbered (get_or ys k 0)
  each-closed k l =
      ⊎_elim
      (λ (a : k ≤ i).
      ⊎_elim (λ (s : k ≡ i). subst Numbered (sym (from-here k 0 l (omega arith))) m) (λ (s : k ≡ i → ⊥). before k l (omega arith)) (same_or_not k i))
      (λ (a : i < k). behind k (k - i - 1) l (omega arith))
      (less-or-not k i)

  pub joined-fits : length ys ≡ 8 → RowFits (record { n = row.n - 1; blocks = ys }) × (take (row.n - 1) ys ≡ take i (held row) ++ (b ∷ drop (suc (suc i)) (held row)))
  joined-fits long =
      let two : i + 2 ≡ suc (suc i) = omega arith in (
        record { few = omega (arith, f.few); room = long; each = each-closed },
        e ∙ ap₂ (λ (l : List ℕ) (k : ℕ). l ++ (b ∷ drop k (held row))) (sym (take-take i row.n row.blocks (omega arith))) two,
      )
