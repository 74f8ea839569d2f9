-- A Report finds every spot wanted in the blocks that it reads: they stand with all spots of rank y and above, and a block whose span misses the range has
-- none of its places.
-- Assumes nothing.
use mathlib.Core.Path.{◌≡◌, refl, ap, sym, ◌∙◌}
use mathlib.Core.Logic.{⊎_elim}
use mathlib.Core.Bool.{Bool, true, false, cond, true≢false}
use mathlib.Core.List.Memᴰ
use mathlib.Core.List.{List, [], ◌∷◌, ◌++◌, Memᴰ}
use Prim.Native.Nat.{ℕ, suc, ◌≤◌, ◌<◌}
use native.Mathlib.Omega.{arith}
use lib.Dec.{leb, leb-suc-suc}
use lib.ListN.{length}
use borrow.Author.Tests.{le-leb}
use Rattle.octets.specs.Lists.{keep, rising, rising_from}
use Rattle.octets.proofs.Lists.{no_member}
use Rattle.octets.proofs.Tests.{all-at, keep_append, keep-mem}
use Rattle.octets.proofs.Rising.{rising-first, rising-rest, rising-least}
use Rattle.spot.specs.Keys.{rank_of}
use Rattle.spot.specs.Spots.{keys}
use Rattle.spot.specs.Sorted.{only}
use Rattle.spot.specs.Query.{from_of, last_of, least_of, ends, placed, meets, wants}
use Rattle.spot.specs.declared.Spot.{Spot}
use Rattle.spot.specs.declared.Query.{Query}
use Rattle.spot.proofs.Places.{within-yes, meets_at, wants-placed, wants-rank}
use Rattle.spot.proofs.Buffers.{keys-mem}
use Rattle.sweep.specs.Sweep.{StandingBlock, standing_at}
use Rattle.sweep.specs.Pressed.{Pressable, first_key_of, last_from, last_key_of}
use Rattle.sweep.specs.Report.{meets_span, spanned, blocks_met, standing_spots}
use Rattle.sweep.specs.Laws.{ranked, Stood}
use Rattle.sweep.proofs.Covers.{keep-stronger, stood}
use Rattle.sweep.proofs.Stands.{block-rises}

-- ---- the span of a block

-- both ends are keys of it
pub lowest-in : (xs : List Spot) → 0 < length xs → Memᴰ (first_key_of xs) (keys xs)
lowest-in [] h = let e : ⊥ = omega arith in absurd e
lowest-in (x ∷ xs) h = Memᴰ.head refl

last-in : (k : ℕ) (xs : List Spot) → Memᴰ (last_from k xs) (k ∷ keys xs)
last-in k [] = Memᴰ.head refl
last-in k (x ∷ xs) = Memᴰ.tail (last-in x.key xs)

pub highest-in : (xs : List Spot) → 0 < length xs → Memᴰ (last_key_of xs) (keys xs)
highest-in [] h = let e : ⊥ = omega arith in absurd e
highest-in (x ∷ xs) h = last-in x.key xs

-- and no key lies outside
pub lowest-least : (ss : List Spot) → rising (keys ss) ≡ true → {s : Spot} → Memᴰ s ss → first_key_of ss ≤ s.key
lowest-least [] h i = absurd (Memᴰ.not-nil i)
lowest-least (x ∷ ss) h {s} i =
    ⊎_elim (λ e. omega (arith, ap (λ (z : Spot). z.key) e))
    (λ j. let l = rising-least (suc x.key) (keys ss) (rising-rest 0 x.key (keys ss) h) (keys-mem ss j) in omega arith) (Memᴰ.cases_cons i)

last-first : (k : ℕ) (ss : List Spot) → rising_from (suc k) (keys ss) ≡ true → k ≤ last_from k ss
last-first k [] h = omega arith
last-first k (x ∷ ss) h =
    let l = rising-first (suc k) x.key (keys ss) h in
    let m = last-first x.key ss (rising-rest (suc k) x.key (keys ss) h) in
    omega arith

last-most : (a k : ℕ) (ss : List Spot) → rising_from a (keys ss) ≡ true → {s : Spot} → Memᴰ s ss → s.key ≤ last_from k ss
last-most a k [] h i = absurd (Memᴰ.not-nil i)
last-most a k (x ∷ ss) h {s} i =
    let r = rising-rest a x.key (keys ss) h in
    ⊎_elim (λ e. omega (arith, ap (λ (z : Spot). z.key) e, last-first x.key ss r)) (λ j. last-most (suc x.key) x.key ss r j) (Memᴰ.cases_cons i)

pub highest-most : (ss : List Spot) → rising (keys ss) ≡ true → {s : Spot} → Memᴰ s ss → s.key ≤ last_key_of ss
highest-most ss h i = last-most 0 _ ss h i

-- a span with a place of the range meets it
pub span-met : (q : Query) (low high k : ℕ) → low ≤ k → k ≤ high → placed q k ≡ true → meets_span q low high ≡ true
unfolding meets_span meets
span-met q low high k a b h =
    ap (λ (t : Bool). ends q t (leb low (last_of q))) (sym (leb-suc-suc (from_of q) high))
    ∙ all-at _ (meets_at q low (suc high) k (within-yes low (suc high) k a (omega arith)) h) 1

-- ---- the spots wanted

unmet : (q : Query) (s : StandingBlock) → rising (keys s.spots) ≡ true → spanned q s ≡ false → keep (wants q) s.spots ≡ []
unmet q s h n =
    no_member (keep (wants q) s.spots)
    (λ x i.
    let m = keep-mem (wants q) s.spots i in
    true≢false (sym (span-met q (first_key_of s.spots) (last_key_of s.spots) x.key (lowest-least s.spots h m.0) (highest-most s.spots h m.0) (wants-placed q x.key m.1)) ∙ n))

met-spots : (q : Query) (st : List StandingBlock) → ((s : StandingBlock) → Memᴰ s st → rising (keys s.spots) ≡ true)
    → keep (wants q) (standing_spots (keep (spanned q) st)) ≡ keep (wants q) (standing_spots st)
met-spots q [] h = refl
met-spots q (s ∷ st) h = go (spanned q s) refl (met-spots q st (λ t i. h t (Memᴰ.tail i))) ∙ sym (keep_append (wants q) s.spots (standing_spots st))
  where
    go : (t : Bool) → spanned q s ≡ t → keep (wants q) (standing_spots (keep (spanned q) st)) ≡ keep (wants q) (standing_spots st)
        → keep (wants q) (standing_spots (cond t (s ∷ keep (spanned q) st) (keep (spanned q) st))) ≡ keep (wants q) s.spots ++ keep (wants q) (standing_spots st)
    go true e ih = keep_append (wants q) s.spots (standing_spots (keep (spanned q) st)) ∙ ap (λ (l : List Spot). keep (wants q) s.spots ++ l) ih
    go false e ih = ih ∙ ap (λ (l : List Spot). l ++ keep (wants q) (standing_spots st)) (sym (unmet q s (h s (Memᴰ.head refl)) e))

-- they have a rank of at least y
wanted-ranked : (q : Query) (ss : List Spot) → keep (wants q) (only (ranked (least_of q)) ss) ≡ keep (wants q) ss
wanted-ranked q ss =
    keep-stronger (λ (s : Spot). ranked (least_of q) s.key) (wants q) (λ s t. le-leb (least_of q) (rank_of s.key) (wants-rank q s.key t)) ss

-- so that the blocks that stand hold them all
pub wanted-stands : (q : Query) (ss : List Spot) → Stood (least_of q) ss → keep (wants q) (standing_spots (standing_at (least_of q) ss)) ≡ keep (wants q) ss
wanted-stands q ss h = sym (wanted-ranked q (standing_spots (standing_at (least_of q) ss))) ∙ ap (keep (wants q)) h.covers ∙ wanted-ranked q ss

pub found : (q : Query) (ss : List Spot) → Pressable ss → keep (wants q) (standing_spots (blocks_met q ss)) ≡ keep (wants q) ss
unfolding blocks_met
found q ss g =
    let st = standing_at (least_of q) ss in
    let r = stood ss g (least_of q) in
    met-spots q st (λ s i. block-rises st r.rise i) ∙ wanted-stands q ss r
