-- What the tests of push, refine and split leave known, and what they ask of the functions that they call.
-- Assumes nothing.
use mathlib.Core.Path.{◌≡◌, refl, sym, subst⁻¹, ◌∙◌}
use mathlib.Core.Logic.{◌⊎◌, inl, inr}
use mathlib.Core.Bool.{false, ◌||◌, true≢false}
use mathlib.Core.List.Memᴰ
use mathlib.Core.List.{List, [], ◌∷◌, ◌++◌, Memᴰ}
use Prim.Native.Nat.{ℕ, ◌-◌, ◌≤◌, ◌<◌}
use native.Mathlib.Omega.{arith}
use lib.ListN.{length}
use lib.Dec.{eqb, leb, ltb}
use borrow.Author.Tests.{eq-eqb, leb-false, ltb-false}
use Rattle.octets.proofs.Tests.{neither}
use Rattle.spot.specs.declared.Spot.{Spot}
use Rattle.block.specs.declared.Asked.{Asked}
use Rattle.block.specs.Table.{blocks_of}
use Rattle.block.specs.Node.{store_of}
use Rattle.node.specs.Memory.{Loaded, Storable}
use Rattle.node.specs.declared.NodeValue.{NodeValue}
use Rattle.spare.specs.declared.Spare.{Spare}
use Rattle.spare.specs.Spares.{spare_of, SpareFits}
use Rattle.spare.proofs.Taking.{spare-less}
use Rattle.fill.proofs.Works.{work-stores}
use Rattle.batch.specs.Batches.{TakenIn}
use Rattle.batch.proofs.Opened.{taken-open}
use Rattle.settle.specs.declared.Worked.{Worked}
use Rattle.settle.specs.Settling.{Cuttable, RefineDone}
use Rattle.settle.proofs.Storing.{Received}

-- a node that has a child, and room for one more
pub may-push : (level k : ℕ) → ((eqb level 0 || eqb k 0) || leb 8 k) ≡ false → (level ≡ 0 → ⊥) × (0 < k) × (k < 8)
may-push level k e =
    let a = neither (eqb level 0 || eqb k 0) (leb 8 k) e in
    let b = neither (eqb level 0) (eqb k 0) a.0 in
    let no_zero : k ≡ 0 → ⊥ = λ z. true≢false (sym (eq-eqb k 0 z) ∙ b.1) in
    (λ z. true≢false (sym (eq-eqb level 0 z) ∙ b.0), omega (arith, no_zero), leb-false 8 k a.1)

-- the sizes with which a node may be stored
pub sizes-right : (i d : ℕ) → (ltb 64 i || ltb 16 d) ≡ false → (i ≤ 64) × (d ≤ 16)
sizes-right i d e = let a = neither (ltb 64 i) (ltb 16 d) e in (ltb-false 64 i a.0, ltb-false 16 d a.1)

-- two halves of few points
pub both-few : (i j : ℕ) → (ltb 64 i || ltb 64 j) ≡ false → (i ≤ 64) × (j ≤ 64)
both-few i j e = let a = neither (ltb 64 i) (ltb 64 j) e in (ltb-false 64 i a.0, ltb-false 64 j a.1)

-- it can be halved
pub cut-halves : {depth : ℕ} (n : NodeValue) → Cuttable depth n → ((n.entries.n ≡ 0) × (2 ≤ n.points.n)) ⊎ (n.entries.n ≡ 8)
cut-halves n (inl c) = let z = c.2 in inl (c.1, omega arith)
cut-halves n (inr c) = inr c.1

-- what was refined may be stored
pub refined-stores : {t t' s' map' : List ℕ} {level : ℕ} {n : NodeValue} {spare : Spare} {left : ℕ} {w : Worked} → RefineDone t t' s' map' level n spare left w → Storable w.node
refined-stores p = work-stores p.work.works p.work.zero p.few_i p.few_d

-- spare blocks of a table are spare in another of its length
pub spares-kept : (t u : List ℕ) (s : Spare) → length u ≡ length t → SpareFits t s → SpareFits u s
spares-kept t u s e f =
    record { few = f.few; inside = λ b i. let z = f.inside b i in (z.0, subst⁻¹ (λ (n : ℕ). b < blocks_of n) e z.1); once = f.once }

-- the last spare block is of the table
pub last-inside : {t : List ℕ} {spare : Spare} {left c : ℕ} → SpareFits t spare → left ≤ spare.n → spare_of spare left ≡ spare_of spare (left - 1) ++ (c ∷ []) → (1 ≤ c) × (c < blocks_of (length t))
last-inside {spare = spare} {left = left} {c = c} fits less last =
    fits.inside c (spare-less spare left spare.n less c (subst⁻¹ (λ (bs : List ℕ). Memᴰ c bs) last (Memᴰ.append_right (spare_of spare (left - 1)) (Memᴰ.head refl))))

-- what is found through a node that took in a batch
pub received : {t : List ℕ} {b : ℕ} {n m : NodeValue} {ss : List Spot} {ks : List ℕ} {ni nd : ℕ} (level : ℕ) (asked : Asked) → Loaded t b n → TakenIn n ss ks ni nd m → Received t level b asked ss ks m
received {t} {b} {n} {m} {ss} {ks} {ni} {nd} level asked l tk lo hi order full wI wD sound =
    taken-open level (store_of t) b asked lo hi order full sound (blocks_of (length t)) n l.is ss ks ni nd m wI wD tk
