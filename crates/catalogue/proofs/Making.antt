-- The tests of a catalogue and of a block, from those of their parts.
-- Assumes nothing.
use mathlib.Core.Path.{◌≡◌, refl, sym, ap, ap₂, ◌∙◌}
use mathlib.Core.Bool.{Bool, true, false, ◌&&◌, ◌||◌, and-true, false≢true}
use mathlib.Core.List.{List, [], ◌∷◌}
use Prim.Native.Nat.{ℕ, zero, suc, ◌+◌, ◌-◌, ◌*◌, ◌%◌, ◌<◌}
use native.Mathlib.Numerals.{add-one}
use native.Mathlib.Omega.{arith}
use lib.Dec.{leb, ltb, eqb}
use lib.ListN.{length, get_or, drop}
use Rattle.std.specs.Bool.{MatchBool}
use Rattle.std.specs.List.{AllWithin, HoldsAt, range_with_len}
use Rattle.std.proofs.lemmas.List.FromFn.{length-range_with_len, get_or-range_with_len}
use Rattle.octets.proofs.Tests.{every-mem, refuted}
use Rattle.octets.proofs.UpTo.{every-up_to, up_to-in}
use Rattle.octets.specs.Lists.{all, every, records, rising, up_to}
use Rattle.octets.specs.Bytes.{be}
use Rattle.spot.specs.Keys.{word, all_keys, limited, rank_key}
use Rattle.spot.specs.Query.{least_of}
use Rattle.spot.specs.Spots.{key_at, keys_from}
use Rattle.spot.specs.declared.Query.{Query}
use Rattle.spot.proofs.Halves.{rank-of-low}
use Rattle.block.specs.Checks.{is_zero}
use Rattle.block.specs.Table.{blocks_of}
use Rattle.block.proofs.Shut.{all3}
use Rattle.catalogue.specs.declared.Entry.{Entry}
use Rattle.catalogue.specs.Catalogue.{places_of, tile_entry_at, size_fine, span_fine, made_fine, ended_fine, tile_entry_fine, apart, makers_rise, in_spans, fused_fine, joins_all, entries_agree, blocks_fine, catalogue_fine, above_maker, tile_fine, stands}

-- five tests one after the other, and six
five : (a b c d e : Bool) → (((a && b) && c) && d) && e ≡ all (a ∷ b ∷ c ∷ d ∷ e ∷ [])
unfolding all
five false b c d e = refl
five true false c d e = refl
five true true false d e = refl
five true true true false e = refl
five true true true true e = sym (and-true e)

six : (a b c d e f : Bool) → ((((a && b) && c) && d) && e) && f ≡ all (a ∷ b ∷ c ∷ d ∷ e ∷ f ∷ [])
unfolding all
six false b c d e f = refl
six true false c d e f = refl
six true true false d e f = refl
six true true true false e f = refl
six true true true true false f = refl
six true true true true true f = sym (and-true f)

pub entry-made : (m b : ℕ) (e : Entry) {s p l h x y : Bool} → s ≡ size_fine m b e.size → p ≡ span_fine e.size e.low e.high → l ≡ limited e.low → h ≡ limited e.high
    → x ≡ made_fine m b e.made → y ≡ ended_fine m b e.ended → ((((s && p) && l) && h) && x) && y ≡ tile_entry_fine m b e
unfolding tile_entry_fine
entry-made m b e {s} {p} {l} {h} {x} {y} ps pp pl ph px py =
    six s p l h x y ∙ rw (ps, pp, pl, ph, px, py) refl

-- ---- the blocks one after the other

-- what `all` says of the n numbers from a on, as the test of each
pub each-of : (f : ℕ → Bool) (a n : ℕ) (r : Bool)
    → MatchBool r (AllWithin (λ b. f b ≡ true) (range_with_len a n) 0 (length (range_with_len a n))) ((k : ℕ) × (k < length (range_with_len a n)) × HoldsAt (λ b. f b ≡ false) (range_with_len a n) k)
    → r ≡ every f (up_to a n)
each-of f a n true h =
    sym
    (every-up_to f a n
    (λ j low high.
    let long = length-range_with_len a n in
    let at : get_or (range_with_len a n) (j - a) 0 ≡ a + (j - a) = get_or-range_with_len a n (j - a) 0 (omega arith) in
    let same : a + (j - a) ≡ j = omega arith in
    ap f (sym (at ∙ same)) ∙ h (j - a) 0 (omega arith) (omega (arith, long))))
each-of f a n false h =
    let long = length-range_with_len a n in
    let k = h.0 in
    let at : get_or (range_with_len a n) k 0 ≡ a + k = get_or-range_with_len a n k 0 (omega (arith, long, h.1)) in
    sym (refuted (every f (up_to a n)) (λ e. false≢true (sym (h.2 0) ∙ ap f at ∙ every-mem f (up_to a n) e (up_to-in a n (a + k) (omega arith) (omega (arith, long, h.1))))))

-- ---- the entries beside each other

-- of m blocks l are place blocks: the fused ones but the last
pub fused-few : (f : ℕ → Bool) (l m : ℕ) → every f (up_to (l + 1) (m - 1 - (l + 1))) ≡ every f (up_to (suc l) (m - l - 2))
fused-few f l m = let n : m - 1 - (l + 1) ≡ m - l - 2 = omega arith in ap₂ (λ (a k : ℕ). every f (up_to a k)) (add-one l) n

pub fused-made : (z x y : Entry) {m l h : Bool} {r p q : ℕ} → m ≡ in_spans x y z.made → l ≡ in_spans x y z.low → h ≡ in_spans x y z.high → r ≡ rank_key z.made
    → p ≡ rank_key z.low → q ≡ rank_key z.high → (((m && l) && h) && ltb r p) && ltb r q ≡ fused_fine z x y
unfolding fused_fine
fused-made z x y {m} {l} {h} {r} {p} {q} pm pl ph pr pp pq = five m l h (ltb r p) (ltb r q) ∙ rw (pm, pl, ph, pr, pp, pq) refl

pub agree-made : (m : ℕ) (e : ℕ → Entry) {a r j : Bool} → a ≡ every (apart e) (up_to 1 (places_of m - 1)) → r ≡ every (makers_rise e) (up_to (suc (places_of m)) (m - places_of m - 2))
    → j ≡ joins_all e (up_to (suc (places_of m)) (m - places_of m - 1)) (up_to 1 (places_of m)) → (a && r) && j ≡ entries_agree m e
unfolding entries_agree
agree-made m e {a} {r} {j} pa pr pj = sym (all3 a r j) ∙ rw (pa, pr, pj) refl

-- ---- the catalogue and a block

pub catalogue-made : (bytes : ℕ) (s : List ℕ) {long version : ℕ} {each tail agree : Bool} → long ≡ be 4 s 0 → version ≡ be 4 s 4
    → each ≡ every (λ b. tile_entry_fine (blocks_of bytes) b (tile_entry_at s b)) (up_to 1 (blocks_of bytes - 1))
    → tail ≡ every is_zero (drop (8 + 36 * (blocks_of bytes - 1)) s)
    → agree ≡ entries_agree (blocks_of bytes) (tile_entry_at s)
    → ((((eqb long bytes && eqb version 16777216) && (eqb (blocks_of bytes) 1 || eqb (blocks_of bytes % 2) 0)) && each) && tail) && agree ≡ catalogue_fine bytes s
unfolding catalogue_fine blocks_fine
catalogue-made bytes s {long} {version} {each} {tail} {agree} pl pv pe pt pa =
    six (eqb long bytes) (eqb version 16777216) (eqb (blocks_of bytes) 1 || eqb (blocks_of bytes % 2) 0) each tail agree ∙ rw (pl, pv, pe, pt, pa) refl

pub tile-made : (m b : ℕ) (e : Entry) (s : List ℕ) {rise tail above : Bool} {first last : ℕ} → rise ≡ rising (keys_from s 12 e.size 0) → first ≡ key_at s 0
    → last ≡ key_at s (12 * (e.size - 1)) → tail ≡ every is_zero (drop (12 * e.size) s) → above ≡ every (above_maker m b e) (keys_from s 12 e.size 0)
    → (((rise && eqb first e.low) && eqb last e.high) && tail) && above ≡ tile_fine m b e s
unfolding tile_fine
tile-made m b e s {rise} {tail} {above} {first} {last} pr pf pl pt pa =
    five rise (eqb first e.low) (eqb last e.high) tail above ∙ rw (pr, pf, pl, pt, pa) refl

-- the test of each key of a block by its place
each-key : (g : ℕ → Bool) (s : List ℕ) (n i : ℕ) → every g (records (key_at s) 12 n (12 * i)) ≡ every (λ j. g (key_at s (12 * j))) (up_to i n)
each-key g s zero i = refl
each-key g s (suc n) i =
    let e : 12 * i + 12 ≡ 12 * suc i = omega arith in
    ap (λ (a : ℕ). g (key_at s (12 * i)) && every g (records (key_at s) 12 n a)) e ∙ ap (λ (b : Bool). g (key_at s (12 * i)) && b) (each-key g s n (suc i))

pub above-each : (m b : ℕ) (e : Entry) (s : List ℕ)
    → every (λ i. leb b (places_of m) || ltb (rank_key e.made) (rank_key (key_at s (12 * i)))) (up_to 0 e.size) ≡ every (above_maker m b e) (keys_from s 12 e.size 0)
unfolding above_maker
above-each m b e s = sym (each-key (λ k. leb b (places_of m) || ltb (rank_key e.made) (rank_key k)) s e.size 0)

-- ---- a block that stands

pub stands-made : (q : Query) (m b : ℕ) (e : Entry) {least : ℕ} {last : Bool} → least ≡ least_of q → last ≡ eqb (suc b) m → e.made < all_keys → e.ended < all_keys
    → (leb b (places_of m) || ltb (e.made % word) least) && (last || leb least (e.ended % word)) ≡ stands q m b e
unfolding stands
stands-made q m b e pl pe hm he = rw (rank-of-low e.made hm, rank-of-low e.ended he, pl, pe) refl
