-- The blocks of a sweep, in the order of their numbers, without what ended them: those of a plan's pieces, and those that the sweep makes.
-- Assumes nothing.
use mathlib.Core.Path.{◌≡◌, refl, sym, ap, ap₂, subst, ◌∙◌}
use mathlib.Core.List.{List, [], ◌∷◌, ◌++◌}
use Prim.Native.Nat.{ℕ, zero, suc, ◌+◌, ◌<◌, suc-le-suc}
use native.Mathlib.Omega.{arith}
use lib.ListN.{length, take, get_or}
use Rattle.spot.specs.declared.Spot.{Spot}
use Rattle.sweep.specs.Sweep.{StandingBlock, Fusion}
use Rattle.sweep.specs.Pressed.{Tile, no_key, ended_by, place_tiles, fused_tiles}
use Rattle.plan.specs.Plans.{made_by, piece_spots, piece_tiles, no_piece, ended_piece, ended_at, PieceFits}
use Rattle.plan.specs.declared.Piece.{Piece}

pub record Block : Type 0 where
  pub number : ℕ
  pub made : ℕ
  pub spots : List Spot

abbrev pub block_of : List Spot → ℕ → Piece → Block
block_of ss n p = record { number = n; made = made_by p.floor; spots = piece_spots ss p }

-- of pieces numbered from n on
abbrev pub blocks_from : List Spot → ℕ → List Piece → List Block
blocks_from ss n [] = []
blocks_from ss n (p ∷ ps) = block_of ss n p ∷ blocks_from ss (suc n) ps

abbrev pub place_blocks : List StandingBlock → List Block
place_blocks [] = []
place_blocks (s ∷ st) = record { number = s.number; made = no_key; spots = s.spots } ∷ place_blocks st

abbrev pub fused_block : Fusion → Block
fused_block f = record { number = f.made.number; made = f.passed; spots = f.made.spots }

abbrev pub fused_blocks : List Fusion → List Block
fused_blocks [] = []
fused_blocks (f ∷ fs) = fused_block f ∷ fused_blocks fs

-- with what ended them
abbrev tiles_of : List Fusion → List Block → List Tile
tiles_of fs [] = []
tiles_of fs (b ∷ bs) = record { spots = b.spots; made = b.made; ended = ended_by b.number fs } ∷ tiles_of fs bs

fused-tiles : (fs gs : List Fusion) → fused_tiles fs gs ≡ tiles_of fs (fused_blocks gs)
fused-tiles fs [] = refl
fused-tiles fs (g ∷ gs) =
    ap (λ (l : List Tile). record { spots = g.made.spots; made = g.passed; ended = ended_by g.made.number fs } ∷ l) (fused-tiles fs gs)

all-tiles : (fs : List Fusion) (st : List StandingBlock) (gs : List Fusion) → place_tiles fs st ++ fused_tiles fs gs ≡ tiles_of fs (place_blocks st ++ fused_blocks gs)
all-tiles fs [] gs = fused-tiles fs gs
all-tiles fs (s ∷ st) gs =
    ap (λ (l : List Tile). record { spots = s.spots; made = no_key; ended = ended_by s.number fs } ∷ l) (all-tiles fs st gs)

piece-tiles : (ss : List Spot) (fs : List Fusion) (n : ℕ) (ps : List Piece) → ((i : ℕ) → i < length ps → (get_or ps i no_piece).ended ≡ ended_by (n + i) fs)
    → piece_tiles ss ps ≡ tiles_of fs (blocks_from ss n ps)
piece-tiles ss fs n [] h = refl
piece-tiles ss fs n (p ∷ ps) h =
    let e : n + 0 ≡ n = omega arith in
    ap₂ (λ (k : ℕ) (l : List Tile). record { spots = piece_spots ss p; made = made_by p.floor; ended = k } ∷ l)
    (h 0 (omega arith) ∙ ap (λ (k : ℕ). ended_by k fs) e)
    (piece-tiles ss fs (suc n) ps later)
  where
    later : (i : ℕ) → i < length ps → (get_or ps i no_piece).ended ≡ ended_by (suc n + i) fs
    later i l = let e : n + suc i ≡ suc n + i = omega arith in h (suc i) (suc-le-suc l) ∙ ap (λ (k : ℕ). ended_by k fs) e

-- a plan's tiles are the sweep's, where its blocks are and each is ended by the same
pub same-tiles : (ss : List Spot) (fs : List Fusion) (st : List StandingBlock) (ps : List Piece) → blocks_from ss 1 ps ≡ place_blocks st ++ fused_blocks fs
    → ((i : ℕ) → i < length ps → (get_or ps i no_piece).ended ≡ ended_by (suc i) fs) → piece_tiles ss ps ≡ place_tiles fs st ++ fused_tiles fs fs
same-tiles ss fs st ps e h = piece-tiles ss fs 1 ps from_one ∙ ap (tiles_of fs) e ∙ sym (all-tiles fs st fs)
  where
    from_one : (i : ℕ) → i < length ps → (get_or ps i no_piece).ended ≡ ended_by (1 + i) fs
    from_one i l = let z : 1 + i ≡ suc i = omega arith in h i l ∙ ap (λ (k : ℕ). ended_by k fs) (sym z)

-- ---- one block more

pub blocks-append : (ss : List Spot) (n : ℕ) (ps qs : List Piece) → blocks_from ss n (ps ++ qs) ≡ blocks_from ss n ps ++ blocks_from ss (n + length ps) qs
blocks-append ss n [] qs = let e : n + 0 ≡ n = omega arith in rw e
blocks-append ss n (p ∷ ps) qs =
    let e : n + suc (length ps) ≡ suc n + length ps = omega arith in
    rw e (ap (λ (l : List Block). block_of ss n p ∷ l) (blocks-append ss (suc n) ps qs))

pub fused-append : (fs gs : List Fusion) → fused_blocks (fs ++ gs) ≡ fused_blocks fs ++ fused_blocks gs
fused-append [] gs = refl
fused-append (f ∷ fs) gs = ap (λ (l : List Block). fused_block f ∷ l) (fused-append fs gs)

-- ---- a piece is ended

pub blocks-ended : (ss : List Spot) (n c : ℕ) (ps : List Piece) (at key : ℕ) → blocks_from ss n (take c (ended_at ps at key)) ≡ blocks_from ss n (take c ps)
blocks-ended ss n zero ps at key = refl
blocks-ended ss n (suc c) [] at key = refl
blocks-ended ss n (suc c) (p ∷ ps) zero key = refl
blocks-ended ss n (suc c) (p ∷ ps) (suc at) key = ap (λ (l : List Block). block_of ss n p ∷ l) (blocks-ended ss (suc n) c ps at key)

-- all of a piece but what ended it
abbrev pub core : Piece → Piece
core p = ended_piece p 0

pub ended-core : (ps : List Piece) (at key x : ℕ) → core (get_or (ended_at ps at key) x no_piece) ≡ core (get_or ps x no_piece)
ended-core [] at key x = refl
ended-core (p ∷ ps) zero key zero = refl
ended-core (p ∷ ps) zero key (suc x) = refl
ended-core (p ∷ ps) (suc at) key zero = refl
ended-core (p ∷ ps) (suc at) key (suc x) = ended-core ps at key x

fits-core : (ss : List Spot) (p : Piece) → PieceFits ss p → PieceFits ss (core p)
fits-core ss p f = record { order = f.order; inside = f.inside; few = f.few }

core-fits : (ss : List Spot) (p : Piece) → PieceFits ss (core p) → PieceFits ss p
core-fits ss p f = record { order = f.order; inside = f.inside; few = f.few }

pub fits-same : (ss : List Spot) (p q : Piece) → core q ≡ core p → PieceFits ss p → PieceFits ss q
fits-same ss p q e f = core-fits ss q (subst (PieceFits ss) (sym e) (fits-core ss p f))
