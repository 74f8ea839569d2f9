-- A passing of the sweep fuses two neighbours or changes nothing; what each passing keeps, the sweep keeps.
-- Assumes nothing.
use mathlib.Core.Path.{◌≡◌, refl, ap, sym, subst, ◌∙◌}
use mathlib.Core.Logic.{⊎_elim}
use mathlib.Core.Bool.{Bool, true, false, cond}
use mathlib.Core.List.Memᴰ
use mathlib.Core.List.{List, [], ◌∷◌, ◌++◌, append_assoc, Memᴰ}
use Prim.Native.Nat.{ℕ, suc, ◌+◌}
use native.Mathlib.Omega.{arith}
use lib.ListN.{length}
use Rattle.spot.specs.declared.Spot.{Spot}
use Rattle.sweep.specs.Sweep.{StandingBlock, Fusion, ripe, fuse, fusion_from, fusion_at, fused_from, fused_at, next_number, fusions, standing}
use Rattle.sweep.specs.Report.{numbers, standing_spots}

-- ---- blocks side by side

pub spots_of-append : (st ts : List StandingBlock) → standing_spots (st ++ ts) ≡ standing_spots st ++ standing_spots ts
spots_of-append [] ts = refl
spots_of-append (s ∷ st) ts = ap (λ (l : List Spot). s.spots ++ l) (spots_of-append st ts) ∙ sym (append_assoc s.spots (standing_spots st) (standing_spots ts))

pub numbers-append : (st ts : List StandingBlock) → numbers (st ++ ts) ≡ numbers st ++ numbers ts
numbers-append [] ts = refl
numbers-append (s ∷ st) ts = ap (λ (l : List ℕ). s.number ∷ l) (numbers-append st ts)

pub numbers-in : (st : List StandingBlock) {s : StandingBlock} → Memᴰ s st → Memᴰ s.number (numbers st)
numbers-in [] i = absurd (Memᴰ.not-nil i)
numbers-in (x ∷ st) i = ⊎_elim (λ e. Memᴰ.head (ap (λ (t : StandingBlock). t.number) e)) (λ j. Memᴰ.tail (numbers-in st j)) (Memᴰ.cases_cons i)

pub numbers-from : (st : List StandingBlock) {b : ℕ} → Memᴰ b (numbers st) → (s : StandingBlock) × Memᴰ s st × (b ≡ s.number)
numbers-from [] i = absurd (Memᴰ.not-nil i)
numbers-from (x ∷ st) {b} i =
    ⊎_elim (λ (e : b ≡ x.number). (x, Memᴰ.head refl, e)) (λ j. let r = numbers-from st j in (r.0, Memᴰ.tail r.1, r.2)) (Memᴰ.cases_cons i)

pub spots_of-in : (st : List StandingBlock) {s : StandingBlock} → Memᴰ s st → {x : Spot} → Memᴰ x s.spots → Memᴰ x (standing_spots st)
spots_of-in [] i h = absurd (Memᴰ.not-nil i)
spots_of-in (t ∷ st) {s} i {x} h =
    ⊎_elim (λ (e : s ≡ t). Memᴰ.append_left (standing_spots st) (subst (λ (z : StandingBlock). Memᴰ x z.spots) e h))
    (λ j. Memᴰ.append_right t.spots (spots_of-in st j h)) (Memᴰ.cases_cons i)

-- ---- one passing

-- what holds of a passing that changes nothing and of one that fuses two neighbours holds of every passing: of the blocks before it, of the next number
-- and the blocks after it, and of its fusions
module _ (P : List StandingBlock → ℕ → List StandingBlock → List Fusion → Type 0) (p n : ℕ) (idle : (st : List StandingBlock) → P st n st [])
    (joins : (us : List StandingBlock) (a b : StandingBlock) (vs : List StandingBlock) → ripe p a b ≡ true
    → P (us ++ (a ∷ b ∷ vs)) (suc n) (us ++ ((fuse p n a b).made ∷ vs)) (fuse p n a b ∷ [])) where
  stepped-from : (us : List StandingBlock) (a : StandingBlock) (vs : List StandingBlock)
      → P (us ++ (a ∷ vs)) (n + length (fusion_from p n a vs)) (us ++ fused_from p n a vs) (fusion_from p n a vs)
  stepped-from us a [] = let e : n + 0 ≡ n = omega arith in rw e (idle (us ++ (a ∷ [])))
  stepped-from us a (b ∷ vs) = go (ripe p a b) refl (stepped-from (us ++ (a ∷ [])) b vs)
    where
      go : (t : Bool) → ripe p a b ≡ t
          → P ((us ++ (a ∷ [])) ++ (b ∷ vs)) (n + length (fusion_from p n b vs)) ((us ++ (a ∷ [])) ++ fused_from p n b vs) (fusion_from p n b vs)
          → P (us ++ (a ∷ b ∷ vs)) (n + length (cond t (fuse p n a b ∷ []) (fusion_from p n b vs))) (us ++ cond t ((fuse p n a b).made ∷ vs) (a ∷ fused_from p n b vs))
          (cond t (fuse p n a b ∷ []) (fusion_from p n b vs))
      go true h ih = let e : n + 1 ≡ suc n = omega arith in rw e (joins us a b vs h)
      go false h ih = rw (append_assoc us (a ∷ []) (b ∷ vs), append_assoc us (a ∷ []) (fused_from p n b vs)) at ih

  pub stepped : (st : List StandingBlock) → P st (next_number p n st) (fused_at p n st) (fusion_at p n st)
  stepped [] = let e : n + 0 ≡ n = omega arith in rw e (idle [])
  stepped (a ∷ vs) = stepped-from [] a vs

-- ---- the whole sweep

-- the number of the next block after a sweep over these keys
abbrev pub after : ℕ → List StandingBlock → List ℕ → ℕ
after n st [] = n
after n st (p ∷ ps) = after (next_number p n st) (fused_at p n st) ps

pub carried : (P : ℕ → List StandingBlock → Type 0) → ((p n : ℕ) (st : List StandingBlock) → P n st → P (next_number p n st) (fused_at p n st))
    → (n : ℕ) (st : List StandingBlock) (ps : List ℕ) → P n st → P (after n st ps) (standing n st ps)
carried P h n st [] s = s
carried P h n st (p ∷ ps) s = carried P h (next_number p n st) (fused_at p n st) ps (h p n st s)

-- a sweep over keys and then over others
pub fusions-append : (n : ℕ) (st : List StandingBlock) (ps qs : List ℕ) → fusions n st (ps ++ qs) ≡ fusions n st ps ++ fusions (after n st ps) (standing n st ps) qs
fusions-append n st [] qs = refl
fusions-append n st (p ∷ ps) qs =
    ap (λ (l : List Fusion). fusion_at p n st ++ l) (fusions-append (next_number p n st) (fused_at p n st) ps qs)
    ∙ sym (append_assoc (fusion_at p n st) (fusions (next_number p n st) (fused_at p n st) ps) (fusions (after n st (p ∷ ps)) (standing n st (p ∷ ps)) qs))
