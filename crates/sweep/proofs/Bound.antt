-- How many blocks a Report reads: of those that meet the range all but two lie in it, side by side, and each two neighbours have at least 65 spots to report.
-- Assumes nothing.
use mathlib.Core.Path.{◌≡◌, refl, ap, sym, ◌∙◌}
use mathlib.Core.Logic.{⊎_elim}
use mathlib.Core.Bool.{Bool, true, false, cond, ◌&&◌, ◌||◌, true≢false, and-false}
use mathlib.Core.List.Memᴰ
use mathlib.Core.List.{List, [], ◌∷◌, ◌++◌, Memᴰ}
use Prim.Native.Nat.{ℕ, suc, ◌+◌, ◌*◌, ◌/◌, ◌≤◌, ◌<◌}
use native.Mathlib.Omega.{arith}
use lib.Dec.{leb, ltb}
use lib.ListN.{length}
use borrow.Author.Tests.{leb-true, le-leb, lt-leb, ltb-true, ltb-false}
use Rattle.octets.specs.Lists.{every, keep, rising_from, rising}
use Rattle.octets.proofs.Lists.{no_member, mem-same}
use Rattle.octets.proofs.Tests.{bool-ext, every-mem, keep-in, keep-passes, keep-length, keep_same}
use Rattle.octets.proofs.Rising.{rising-rest, rising-least, rising-right}
use Rattle.spot.specs.Keys.{word, rank_key}
use Rattle.spot.specs.Spots.{keys}
use Rattle.spot.specs.Sorted.{only}
use Rattle.spot.specs.Query.{from_of, last_of, least_of, is_ring, ends, placed, wants}
use Rattle.spot.specs.declared.Spot.{Spot}
use Rattle.spot.specs.declared.Query.{Query}
use Rattle.spot.proofs.Buffers.{keys-append, keys-mem, keys_from_lem}
use Rattle.spot.proofs.Places.{placed-yes, placed-up, placed-down, wants-rank, wants-yes}
use Rattle.sweep.specs.Sweep.{StandingBlock, standing_at}
use Rattle.sweep.specs.Pressed.{Pressable, first_key_of, last_key_of}
use Rattle.sweep.specs.Report.{standing_spots, meets_span, spanned, blocks_met, most_read}
use Rattle.sweep.specs.Laws.{Stood}
use Rattle.sweep.proofs.Steps.{spots_of-append, spots_of-in}
use Rattle.sweep.proofs.Covers.{length-keep-append}
use Rattle.sweep.proofs.Found.{lowest-in, highest-in, wanted-stands}
use Rattle.sweep.proofs.Pairs.{Beside, Apart65, since, count, total, total-cons, paired-under}

-- ---- pairs in a part of the blocks

beside-left : (g : ℕ → Bool) (m : ℕ) (us vs : List StandingBlock) → Beside g m (us ++ vs) → Beside g m us
beside-left g m [] vs h = tt
beside-left g m (a ∷ us) vs h = (h.0, h.1, beside-left g (count g a) us vs h.2)

beside-right : (g : ℕ → Bool) (m : ℕ) (us vs : List StandingBlock) → Beside g m (us ++ vs) → (o : ℕ) × Beside g o vs
beside-right g m [] vs h = (m, h)
beside-right g m (a ∷ us) vs h = beside-right g (count g a) us vs h.2

-- two by two
pairs-hold : (g : ℕ → Bool) (m : ℕ) (st : List StandingBlock) → Beside g m st → 65 * (length st / 2) ≤ total g st
pairs-hold g m [] h = omega arith
pairs-hold g m (a ∷ []) h = omega arith
pairs-hold g m (a ∷ b ∷ st) h = omega (arith, total-cons g a (b ∷ st), total-cons g b st, h.2.0, pairs-hold g (count g b) st h.2.2)

-- ---- the blocks on both sides of a key

keys_of-append : (us vs : List StandingBlock) → keys (standing_spots (us ++ vs)) ≡ keys (standing_spots us) ++ keys (standing_spots vs)
keys_of-append us vs = ap keys (spots_of-append us vs) ∙ keys-append (standing_spots us) (standing_spots vs)

rising-cross : (a : ℕ) (xs ys : List ℕ) {u v : ℕ} → rising_from a (xs ++ ys) ≡ true → Memᴰ u xs → Memᴰ v ys → u < v
rising-cross a [] ys h i j = absurd (Memᴰ.not-nil i)
rising-cross a (x ∷ xs) ys {u} h i j =
    let r = rising-rest a x (xs ++ ys) h in
    ⊎_elim (λ (e : u ≡ x). omega (arith, e, rising-least (suc x) (xs ++ ys) r (Memᴰ.append_right xs j))) (λ k. rising-cross (suc x) xs ys r k j)
    (Memᴰ.cases_cons i)

some-fails : (f : ℕ → Bool) (xs : List ℕ) → every f xs ≡ false → (k : ℕ) × Memᴰ k xs × (f k ≡ false)
some-fails f [] h = absurd (true≢false h)
some-fails f (x ∷ xs) h = go (f x) refl (λ e. some-fails f xs e)
  where
    go : (b : Bool) → f x ≡ b → (every f xs ≡ false → (k : ℕ) × Memᴰ k xs × (f k ≡ false)) → (k : ℕ) × Memᴰ k (x ∷ xs) × (f k ≡ false)
    go true e ih = let r = ih (rw e at h) in (r.0, Memᴰ.tail r.1, r.2)
    go false e ih = (x, Memᴰ.head refl, e)

-- at most one block has keys on both sides of x
record Split (x : ℕ) (st : List StandingBlock) : Type 0 where
  low : List StandingBlock
  mid : List StandingBlock
  high : List StandingBlock
  is : st ≡ low ++ (mid ++ high)
  one : length mid ≤ 1
  under : (k : ℕ) → Memᴰ k (keys (standing_spots low)) → k < x
  over : (k : ℕ) → Memᴰ k (keys (standing_spots high)) → x ≤ k

split : (x : ℕ) (st : List StandingBlock) → rising (keys (standing_spots st)) ≡ true → Split x st
split x [] h = record { low = []; mid = []; high = []; is = refl; one = omega arith; under = λ k i. absurd (Memᴰ.not-nil i); over = λ k i. absurd (Memᴰ.not-nil i) }
split x (s ∷ st) h = go (every (λ k. ltb k x) (keys s.spots)) refl (split x st (rising-right 0 (keys s.spots) (keys (standing_spots st)) up))
  where
    up : rising (keys s.spots ++ keys (standing_spots st)) ≡ true
    up = rw (keys-append s.spots (standing_spots st)) at h

    go : (b : Bool) → every (λ k. ltb k x) (keys s.spots) ≡ b → Split x st → Split x (s ∷ st)
    go true e r = record {
      low = s ∷ r.low;
      mid = r.mid;
      high = r.high;
      is = ap (λ (l : List StandingBlock). s ∷ l) r.is;
      one = r.one;
      under = λ k i.
          ⊎_elim (λ j. ltb-true k x (every-mem (λ z. ltb z x) (keys s.spots) e j)) (λ j. r.under k j)
          (Memᴰ.append_cases (keys s.spots) (mem-same (keys-append s.spots (standing_spots r.low)) i));
      over = r.over;
    }
    go false e r =
        let f = some-fails (λ k. ltb k x) (keys s.spots) e in
        record {
          low = [];
          mid = s ∷ [];
          high = st;
          is = refl;
          one = omega arith;
          under = λ k i. absurd (Memᴰ.not-nil i);
          over = λ k i. let z = rising-cross 0 (keys s.spots) (keys (standing_spots st)) up f.1 i in omega (arith, z, ltb-false f.0 x f.2);
        }

-- the blocks cut by two keys: those before, between and behind, and at most two others
record Parts (x z : ℕ) (st : List StandingBlock) : Type 0 where
  low : List StandingBlock
  first : List StandingBlock
  mid : List StandingBlock
  second : List StandingBlock
  high : List StandingBlock
  is : st ≡ low ++ (first ++ (mid ++ (second ++ high)))
  one : length first ≤ 1
  two : length second ≤ 1
  low-under : (k : ℕ) → Memᴰ k (keys (standing_spots low)) → k < x
  mid-over : (k : ℕ) → Memᴰ k (keys (standing_spots mid)) → x ≤ k
  mid-under : (k : ℕ) → Memᴰ k (keys (standing_spots mid)) → k < z
  high-over : (k : ℕ) → Memᴰ k (keys (standing_spots high)) → z ≤ k

parts : (x z : ℕ) (st : List StandingBlock) → rising (keys (standing_spots st)) ≡ true → Parts x z st
parts x z st h =
    let a = split x st h in
    let up : rising (keys (standing_spots a.high)) ≡ true = later a.low a.mid a.high (rw a.is at h) in
    let b = split z a.high up in
    record {
      low = a.low;
      first = a.mid;
      mid = b.low;
      second = b.mid;
      high = b.high;
      is = a.is ∙ ap (λ (l : List StandingBlock). a.low ++ (a.mid ++ l)) b.is;
      one = a.one;
      two = b.one;
      low-under = a.under;
      mid-over = λ k i. a.over k (mem-same (sym (ap (λ (l : List StandingBlock). keys (standing_spots l)) b.is ∙ keys_of-append b.low (b.mid ++ b.high))) (Memᴰ.append_left (keys (standing_spots (b.mid ++ b.high))) i));
      mid-under = b.under;
      high-over = b.over;
    }
  where
    later : (us vs ws : List StandingBlock) → rising (keys (standing_spots (us ++ (vs ++ ws)))) ≡ true → rising (keys (standing_spots ws)) ≡ true
    later us vs ws u =
        let v = rising-right 0 (keys (standing_spots us)) (keys (standing_spots (vs ++ ws))) (rw (keys_of-append us (vs ++ ws)) at u) in
        rising-right 0 (keys (standing_spots vs)) (keys (standing_spots ws)) (rw (keys_of-append vs ws) at v)

-- ---- what a query meets of blocks, and what it wants of their spots

-- the keys of a block are among those of all
keys_of : (st : List StandingBlock) {s : StandingBlock} {k : ℕ} → Memᴰ s st → Memᴰ k (keys s.spots) → Memᴰ k (keys (standing_spots st))
keys_of st {s} i j = let r = keys_from_lem s.spots j in Memᴰ.cast r.2 (keys-mem (standing_spots st) (spots_of-in st i r.1))

abbrev Filled : List StandingBlock → Type 0
Filled st = (s : StandingBlock) → Memᴰ s st → 0 < length s.spots

module _ (q : Query) where
  abbrev met : List StandingBlock → ℕ
  met st = length (keep (spanned q) st)

  abbrev won : List StandingBlock → ℕ
  won st = length (keep (wants q) (standing_spots st))

  met-append : (us vs : List StandingBlock) → met (us ++ vs) ≡ met us + met vs
  met-append us vs = length-keep-append (spanned q) us vs

  won-append : (us vs : List StandingBlock) → won (us ++ vs) ≡ won us + won vs
  won-append us vs = ap (λ (l : List Spot). length (keep (wants q) l)) (spots_of-append us vs) ∙ length-keep-append (wants q) (standing_spots us) (standing_spots vs)

  -- blocks that lie in the range
  whole : (m : ℕ) (st : List StandingBlock) → Beside (since (least_of q * word)) m st → ((k : ℕ) → Memᴰ k (keys (standing_spots st)) → placed q k ≡ true) → 65 * (length st / 2) ≤ won st
  whole m st b p = omega (arith, pairs-hold (since (least_of q * word)) m st b, ap length same)
    where
      same : only (since (least_of q * word)) (standing_spots st) ≡ keep (wants q) (standing_spots st)
      same =
          keep_same (λ (x : Spot). since (least_of q * word) x.key) (wants q) (standing_spots st)
          (λ x i.
          bool-ext (since (least_of q * word) x.key) (wants q x)
          (λ h.
          let l = leb-true (least_of q * word) (rank_key x.key) h in
          wants-yes q x.key (p x.key (keys-mem (standing_spots st) i)) (omega (arith, l)))
          (λ h.
          let l = wants-rank q x.key h in
          le-leb (least_of q * word) (rank_key x.key) (omega (arith, l))))

  -- blocks that lie beside it
  none-met : (st : List StandingBlock) → Filled st
      → ((k l : ℕ) → Memᴰ k (keys (standing_spots st)) → Memᴰ l (keys (standing_spots st)) → meets_span q k l ≡ false) → met st ≡ 0
  none-met st f h =
      ap length
      (no_member (keep (spanned q) st)
      (λ s i.
      let j = keep-in (spanned q) st i in
      let e = h (first_key_of s.spots) (last_key_of s.spots) (keys_of st j (lowest-in s.spots (f s j))) (keys_of st j (highest-in s.spots (f s j))) in
      true≢false (sym (keep-passes (spanned q) st i) ∙ e)))

  meets-flat : is_ring q ≡ false → (k l : ℕ) → meets_span q k l ≡ leb (from_of q) l && leb k (last_of q)
  unfolding meets_span ends
  meets-flat r k l = rw r

  meets-ring : is_ring q ≡ true → (k l : ℕ) → meets_span q k l ≡ leb (from_of q) l || leb k (last_of q)
  unfolding meets_span ends
  meets-ring r k l = rw r

  module _ (x z : ℕ) (st : List StandingBlock) (p : Parts x z st) (f : Filled st) (b : Apart65 (since (least_of q * word)) st) where
    all-met : met st ≤ 2 + (met p.low + (met p.mid + met p.high))
    all-met =
        let a = ap met p.is in
        let e = met-append p.low (p.first ++ (p.mid ++ (p.second ++ p.high))) in
        let i = met-append p.first (p.mid ++ (p.second ++ p.high)) in
        let j = met-append p.mid (p.second ++ p.high) in
        let k = met-append p.second p.high in
        omega (arith, a, e, i, j, k, keep-length (spanned q) p.first, keep-length (spanned q) p.second, p.one, p.two)

    all-won : won p.low + (won p.mid + won p.high) ≤ won st
    all-won =
        let a = ap won p.is in
        let e = won-append p.low (p.first ++ (p.mid ++ (p.second ++ p.high))) in
        let i = won-append p.first (p.mid ++ (p.second ++ p.high)) in
        let j = won-append p.mid (p.second ++ p.high) in
        let k = won-append p.second p.high in
        omega (arith, a, e, i, j, k)

    beside-all : Beside (since (least_of q * word)) 65 (p.low ++ (p.first ++ (p.mid ++ (p.second ++ p.high))))
    beside-all = rw p.is at b

    beside-low : Beside (since (least_of q * word)) 65 p.low
    beside-low = beside-left (since (least_of q * word)) 65 p.low (p.first ++ (p.mid ++ (p.second ++ p.high))) beside-all

    beside-rest : (o : ℕ) × Beside (since (least_of q * word)) o (p.mid ++ (p.second ++ p.high))
    beside-rest =
        let g = since (least_of q * word) in
        let r = beside-right g 65 p.low (p.first ++ (p.mid ++ (p.second ++ p.high))) beside-all in
        beside-right g r.0 p.first (p.mid ++ (p.second ++ p.high)) r.1

    beside-mid : (o : ℕ) × Beside (since (least_of q * word)) o p.mid
    beside-mid = (beside-rest.0, beside-left (since (least_of q * word)) beside-rest.0 p.mid (p.second ++ p.high) beside-rest.1)

    beside-high : (o : ℕ) × Beside (since (least_of q * word)) o p.high
    beside-high =
        let g = since (least_of q * word) in
        let r = beside-right g beside-rest.0 p.mid (p.second ++ p.high) beside-rest.1 in
        beside-right g r.0 p.second p.high r.1

    filled-low : Filled p.low
    filled-low s i = f s (mem-same (sym p.is) (Memᴰ.append_left (p.first ++ (p.mid ++ (p.second ++ p.high))) i))

    filled-mid : Filled p.mid
    filled-mid s i =
        f s (mem-same (sym p.is) (Memᴰ.append_right p.low (Memᴰ.append_right p.first (Memᴰ.append_left (p.second ++ p.high) i))))

    filled-high : Filled p.high
    filled-high s i =
        f s (mem-same (sym p.is) (Memᴰ.append_right p.low (Memᴰ.append_right p.first (Memᴰ.append_right p.mid (Memᴰ.append_right p.second i)))))

  -- ---- the bound

  module _ (st : List StandingBlock) (up : rising (keys (standing_spots st)) ≡ true) (f : Filled st) (b : Apart65 (since (least_of q * word)) st) where
    few-flat : is_ring q ≡ false → suc (met st) ≤ 4 + 2 * (won st / 64)
    few-flat r =
        let p = parts (from_of q) (suc (last_of q)) st up in
        let low = none-met p.low (filled-low (from_of q) (suc (last_of q)) st p f b) (λ k l i j. meets-flat r k l ∙ rw (lt-leb (from_of q) l (p.low-under l j))) in
        let high = none-met p.high (filled-high (from_of q) (suc (last_of q)) st p f b)
        (λ k l i j. meets-flat r k l ∙ rw (lt-leb k (last_of q) (p.high-over k i)) (and-false (leb (from_of q) l))) in
        let m = beside-mid (from_of q) (suc (last_of q)) st p f b in
        let mid = whole m.0 p.mid m.1 (λ k i. placed-yes q k (p.mid-over k i) (omega (arith, p.mid-under k i))) in
        omega
        (arith, low, high, mid, keep-length (spanned q) p.mid, all-met (from_of q) (suc (last_of q)) st p f b, all-won (from_of q) (suc (last_of q)) st p f b)

    few-ring : is_ring q ≡ true → suc (met st) ≤ 5 + 2 * (won st / 64)
    few-ring r =
        let p = parts (suc (last_of q)) (from_of q) st up in
        let mid = none-met p.mid (filled-mid (suc (last_of q)) (from_of q) st p f b)
        (λ k l i j. meets-ring r k l ∙ rw (lt-leb (from_of q) l (p.mid-under l j), lt-leb k (last_of q) (p.mid-over k i))) in
        let low = whole 65 p.low (beside-low (suc (last_of q)) (from_of q) st p f b) (λ k i. placed-down q k r (omega (arith, p.low-under k i))) in
        let h = beside-high (suc (last_of q)) (from_of q) st p f b in
        let high = whole h.0 p.high h.1 (λ k i. placed-up q k r (p.high-over k i)) in
        omega (
          arith,
          low,
          high,
          mid,
          keep-length (spanned q) p.low,
          keep-length (spanned q) p.high,
          all-met (suc (last_of q)) (from_of q) st p f b,
          all-won (suc (last_of q)) (from_of q) st p f b,
        )

-- "at most 4 + 2 · (spots reported div 64) blocks", for a ring 5
pub few : (q : Query) (ss : List Spot) → Pressable ss → Stood (least_of q) ss → suc (length (blocks_met q ss)) ≤ most_read q (length (keep (wants q) ss))
unfolding blocks_met most_read
few q ss g h = go (is_ring q) refl
  where
    pairs : Apart65 (since (least_of q * word)) (standing_at (least_of q) ss)
    pairs = (paired-under ss g (least_of q)).pairs

    won-all : won q (standing_at (least_of q) ss) ≡ length (keep (wants q) ss)
    won-all = ap length (wanted-stands q ss h)

    go : (t : Bool) → is_ring q ≡ t → suc (met q (standing_at (least_of q) ss)) ≤ cond t 5 4 + 2 * (length (keep (wants q) ss) / 64)
    go true r = rw (← won-all) (few-ring q (standing_at (least_of q) ss) h.rise h.nonempty pairs r)
    go false r = rw (← won-all) (few-flat q (standing_at (least_of q) ss) h.rise h.nonempty pairs r)
