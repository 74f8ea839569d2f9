-- The blocks that stand, as a plan has them from left to right, and what a passing makes of them.
-- Assumes nothing.
use mathlib.Core.Path.{◌≡◌, refl, sym, ap, ap₂, ◌∙◌}
use mathlib.Core.Bool.{true, false}
use mathlib.Core.List.{List, [], ◌∷◌, ◌++◌, Memᴰ}
use Prim.Native.Nat.{ℕ, zero, suc, ◌+◌, ◌<◌, suc-le-suc}
use native.Mathlib.Nat.{le_of_suc-le-suc}
use native.Mathlib.Omega.{arith}
use lib.ListN.{length, take, drop, get_or}
use Rattle.spot.specs.declared.Spot.{Spot}
use Rattle.sweep.specs.Sweep.{StandingBlock, ripe, fuse, fusion_at, fused_at}
use Rattle.plan.specs.Plans.{piece_spots, no_piece}
use Rattle.plan.specs.declared.Piece.{Piece}
use Rattle.plan.proofs.Blocks.{core}

-- ---- the blocks at these places among the pieces

abbrev pub stand_of : List Spot → List Piece → ℕ → StandingBlock
stand_of ss ps a = record { number = suc a; spots = piece_spots ss (get_or ps a no_piece) }

abbrev pub stands_of : List Spot → List Piece → List ℕ → List StandingBlock
stands_of ss ps [] = []
stands_of ss ps (a ∷ os) = stand_of ss ps a ∷ stands_of ss ps os

pub stands-length : (ss : List Spot) (ps : List Piece) (os : List ℕ) → length (stands_of ss ps os) ≡ length os
stands-length ss ps [] = refl
stands-length ss ps (a ∷ os) = ap suc (stands-length ss ps os)

pub stands_at : (ss : List Spot) (ps : List Piece) (os : List ℕ) (i : ℕ) (d : StandingBlock) → i < length os → get_or (stands_of ss ps os) i d ≡ stand_of ss ps (get_or os i 0)
stands_at ss ps [] i d h = let z : ⊥ = omega arith in absurd z
stands_at ss ps (a ∷ os) zero d h = refl
stands_at ss ps (a ∷ os) (suc i) d h = stands_at ss ps os i d (le_of_suc-le-suc h)

stands-take : (ss : List Spot) (ps : List Piece) (os : List ℕ) (i : ℕ) → take i (stands_of ss ps os) ≡ stands_of ss ps (take i os)
stands-take ss ps os zero = refl
stands-take ss ps [] (suc i) = refl
stands-take ss ps (a ∷ os) (suc i) = ap (λ (l : List StandingBlock). stand_of ss ps a ∷ l) (stands-take ss ps os i)

stands-drop : (ss : List Spot) (ps : List Piece) (os : List ℕ) (i : ℕ) → drop i (stands_of ss ps os) ≡ stands_of ss ps (drop i os)
stands-drop ss ps os zero = refl
stands-drop ss ps [] (suc i) = refl
stands-drop ss ps (a ∷ os) (suc i) = stands-drop ss ps os i

stands-append : (ss : List Spot) (ps : List Piece) (xs ys : List ℕ) → stands_of ss ps (xs ++ ys) ≡ stands_of ss ps xs ++ stands_of ss ps ys
stands-append ss ps [] ys = refl
stands-append ss ps (x ∷ xs) ys = ap (λ (l : List StandingBlock). stand_of ss ps x ∷ l) (stands-append ss ps xs ys)

-- the same but for what ended them
pub stands_same : (ss : List Spot) (ps qs : List Piece) (os : List ℕ) → ((a : ℕ) → Memᴰ a os → core (get_or qs a no_piece) ≡ core (get_or ps a no_piece))
    → stands_of ss qs os ≡ stands_of ss ps os
stands_same ss ps qs [] h = refl
stands_same ss ps qs (a ∷ os) h =
    ap₂ (λ (p : Piece) (l : List StandingBlock). record { number = suc a; spots = piece_spots ss p } ∷ l) (h a (Memᴰ.head refl))
    (stands_same ss ps qs os (λ x i. h x (Memᴰ.tail i)))

-- ---- a passing

-- the first pair that is ripe is fused
pub record OneFusion (p n : ℕ) (st : List StandingBlock) (i : ℕ) (a b : StandingBlock) : Type 0 where
  pub fusions : fusion_at p n st ≡ fuse p n a b ∷ []
  pub stands : fused_at p n st ≡ take i st ++ ((fuse p n a b).made ∷ drop (i + 2) st)

pub fusion-here : (p n : ℕ) (st : List StandingBlock) (i : ℕ) (d : StandingBlock) → suc i < length st → ripe p (get_or st i d) (get_or st (suc i) d) ≡ true
    → ((j : ℕ) → j < i → ripe p (get_or st j d) (get_or st (suc j) d) ≡ false) → OneFusion p n st i (get_or st i d) (get_or st (suc i) d)
fusion-here p n [] i d h r q = let z : ⊥ = omega arith in absurd z
fusion-here p n (a ∷ []) i d h r q = let z : ⊥ = omega arith in absurd z
fusion-here p n (a ∷ b ∷ st) zero d h r q = record { fusions = rw r; stands = rw r }
fusion-here p n (a ∷ b ∷ st) (suc i) d h r q =
    let f : ripe p a b ≡ false = q 0 (omega arith) in
    let e = fusion-here p n (b ∷ st) i d (le_of_suc-le-suc h) r (λ j l. q (suc j) (suc-le-suc l)) in
    let z : suc i + 2 ≡ suc (i + 2) = omega arith in
    record { fusions = rw f e.fusions; stands = rw (f, z) (ap (λ (l : List StandingBlock). a ∷ l) e.stands) }

pub fusion-none : (p n : ℕ) (st : List StandingBlock) (d : StandingBlock) → ((j : ℕ) → suc j < length st → ripe p (get_or st j d) (get_or st (suc j) d) ≡ false)
    → (fusion_at p n st ≡ []) × (fused_at p n st ≡ st)
fusion-none p n [] d q = (refl, refl)
fusion-none p n (a ∷ []) d q = (refl, refl)
fusion-none p n (a ∷ b ∷ st) d q =
    let f : ripe p a b ≡ false = q 0 (omega arith) in
    let e = fusion-none p n (b ∷ st) d (λ j l. q (suc j) (suc-le-suc l)) in
    (rw f e.0, rw f (ap (λ (l : List StandingBlock). a ∷ l) e.1))

-- what stands after a fusion, by places among the pieces
pub fused-stands : (ss : List Spot) (ps qs : List Piece) (os : List ℕ) (i c : ℕ) (made : StandingBlock) → stand_of ss qs c ≡ made
    → ((a : ℕ) → Memᴰ a (take i os) → core (get_or qs a no_piece) ≡ core (get_or ps a no_piece))
    → ((a : ℕ) → Memᴰ a (drop (i + 2) os) → core (get_or qs a no_piece) ≡ core (get_or ps a no_piece))
    → stands_of ss qs (take i os ++ (c ∷ drop (i + 2) os)) ≡ take i (stands_of ss ps os) ++ (made ∷ drop (i + 2) (stands_of ss ps os))
fused-stands ss ps qs os i c made m f g =
    stands-append ss qs (take i os) (c ∷ drop (i + 2) os)
    ∙ ap₂ (λ (x : List StandingBlock) (y : List StandingBlock). x ++ y)
    (stands_same ss ps qs (take i os) f ∙ sym (stands-take ss ps os i))
    (ap₂ (λ (x : StandingBlock) (y : List StandingBlock). x ∷ y) m (stands_same ss ps qs (drop (i + 2) os) g ∙ sym (stands-drop ss ps os (i + 2))))
