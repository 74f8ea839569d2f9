-- Source section 2: spots in place order are cut into blocks, and a sweep over them in rank order fuses two neighbours "once a pair has 64 spots left".
-- Assumes nothing.
use Rattle.std.specs.Prelude.{ℕ, zero, suc, ◌+◌, ◌/◌, Bool, cond, List, [], ◌∷◌, ◌++◌, length, take, drop, ltb, leb, eqb}
use Rattle.octets.specs.Lists.{keep}
use Rattle.spot.specs.Keys.{rank_key, rank_of}
use Rattle.spot.specs.Spots.{keys}
use Rattle.spot.specs.Sorted.{only}
use Rattle.spot.specs.declared.Spot.{Spot}

-- "the place blocks of 64 spots": n of them, side by side
abbrev pub cut : ℕ → List Spot → List (List Spot)
cut zero ss = []
cut (suc n) ss = take 64 ss ∷ cut n (drop 64 ss)

-- how many hold n spots: source, "ℓ = ⌈|L| / B⌉"
unfoldable pub cuts_for : ℕ → ℕ
cuts_for n = (n + 63) / 64

-- a block that stands in the sweep: its number, and its spots as they were when it was made
pub record StandingBlock : Type 0 where
  pub number : ℕ
  pub spots : List Spot

-- blocks numbered from n on
abbrev pub numbered : ℕ → List (List Spot) → List StandingBlock
numbered n [] = []
numbered n (ss ∷ rest) = record { number = n; spots = ss } ∷ numbered (suc n) rest

-- "a catalogue, the place blocks of 64 spots, then ..": the catalogue is block 0
unfoldable pub at_first : List Spot → List StandingBlock
at_first ss = numbered 1 (cut (cuts_for (length ss)) ss)

-- "The rank order compares ranks, then places": keys in that order
abbrev pub put_rank : ℕ → List ℕ → List ℕ
put_rank k [] = k ∷ []
put_rank k (x ∷ xs) = cond (leb (rank_key k) (rank_key x)) (k ∷ x ∷ xs) (x ∷ put_rank k xs)

abbrev pub by_rank : List ℕ → List ℕ
by_rank [] = []
by_rank (k ∷ ks) = put_rank k (by_rank ks)

-- the key is above p in rank order
abbrev pub above_passed : ℕ → ℕ → Bool
above_passed p k = ltb (rank_key p) (rank_key k)

-- the spots left once the sweep has passed p
abbrev pub left : ℕ → List Spot → List Spot
left p ss = only (above_passed p) ss

-- "once a pair has 64 spots left"
unfoldable pub ripe : ℕ → StandingBlock → StandingBlock → Bool
ripe p a b = eqb (length (left p a.spots) + length (left p b.spots)) 64

-- two neighbours fused by the passing of p: their numbers, and the block of the spots left
pub record Fusion : Type 0 where
  pub passed : ℕ
  pub first : ℕ
  pub second : ℕ
  pub made : StandingBlock

unfoldable pub fuse : ℕ → ℕ → StandingBlock → StandingBlock → Fusion
fuse p n a b = record { passed = p; first = a.number; second = b.number; made = record { number = n; spots = left p (a.spots ++ b.spots) } }

-- the fusion that the passing of p makes, if any, among a and the blocks right of it; n is the next block's number. "of two pairs the left"
abbrev pub fusion_from : ℕ → ℕ → StandingBlock → List StandingBlock → List Fusion
fusion_from p n a [] = []
fusion_from p n a (b ∷ rest) = cond (ripe p a b) (fuse p n a b ∷ []) (fusion_from p n b rest)

abbrev pub fusion_at : ℕ → ℕ → List StandingBlock → List Fusion
fusion_at p n [] = []
fusion_at p n (a ∷ rest) = fusion_from p n a rest

-- the blocks that stand afterwards
abbrev pub fused_from : ℕ → ℕ → StandingBlock → List StandingBlock → List StandingBlock
fused_from p n a [] = a ∷ []
fused_from p n a (b ∷ rest) = cond (ripe p a b) ((fuse p n a b).made ∷ rest) (a ∷ fused_from p n b rest)

abbrev pub fused_at : ℕ → ℕ → List StandingBlock → List StandingBlock
fused_at p n [] = []
fused_at p n (a ∷ rest) = fused_from p n a rest

-- the number of the next block after the passing of p
abbrev pub next_number : ℕ → ℕ → List StandingBlock → ℕ
next_number p n st = n + length (fusion_at p n st)

-- all fusions of the sweep over these keys, in their order
abbrev pub fusions : ℕ → List StandingBlock → List ℕ → List Fusion
fusions n st [] = []
fusions n st (p ∷ ps) = fusion_at p n st ++ fusions (next_number p n st) (fused_at p n st) ps

-- and the blocks that stand after it
abbrev pub standing : ℕ → List StandingBlock → List ℕ → List StandingBlock
standing n st [] = st
standing n st (p ∷ ps) = standing (next_number p n st) (fused_at p n st) ps

-- the number of the first fused block
abbrev pub first_fused : List Spot → ℕ
first_fused ss = suc (cuts_for (length ss))

-- "the fused blocks as the upward sweep in rank order makes them"
unfoldable pub sweep : List Spot → List Fusion
sweep ss = fusions (first_fused ss) (at_first ss) (by_rank (keys ss))

-- the keys of a rank under y, which is biased, in rank order
unfoldable pub keys_under : ℕ → List Spot → List ℕ
keys_under y ss = keep (λ k. ltb (rank_of k) y) (by_rank (keys ss))

-- the blocks "standing once all ranks under y are passed", from left to right
unfoldable pub standing_at : ℕ → List Spot → List StandingBlock
standing_at y ss = standing (first_fused ss) (at_first ss) (keys_under y ss)
