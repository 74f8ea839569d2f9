-- What a Report of a pressed tour gathers: the spots that it wants of those pressed, in place order.
-- Assumes nothing.
use mathlib.Core.Path.{◌≡◌, refl, sym, ap, ◌∙◌}
use mathlib.Core.Logic.{◌⊎◌, inl, inr, ⊎_elim}
use mathlib.Core.Bool.{Bool, true, false, cond}
use mathlib.Core.List.Memᴰ
use mathlib.Core.List.{List, [], ◌∷◌, Memᴰ}
use Prim.Native.Nat.{ℕ, zero, suc, ◌≤◌, ◌<◌}
use native.Mathlib.Nat.{not-suc-le-zero, le_of_suc-le-suc}
use lib.ListN.{length}
use lib.Dec.{leb}
use lib.IntN.{ℤ}
use Rattle.octets.specs.Lists.{keep, distinct, rising}
use Rattle.octets.proofs.Tests.{keep-mem, keep-there}
use Rattle.octets.proofs.Lists.{mem-same}
use Rattle.octets.proofs.Sets.{in-or-not, has-mem, Split, distinct-split}
use Rattle.octets.proofs.Once.{Once}
use Rattle.octets.proofs.Rising.{rising-distinct}
use Rattle.spot.specs.Query.{query, from_of, least_of, wants, wants_key}
use Rattle.spot.specs.Spots.{keys, find, put, put_all, from_on}
use Rattle.spot.specs.declared.Spot.{Spot}
use Rattle.spot.specs.declared.Query.{Query}
use Rattle.spot.proofs.Buffers.{keys-append, keys-mem, keys_from_lem, find_none, find-member, only-mem, keep-distinct, put_all-from, put_all-rises}
use Rattle.spot.proofs.Canon.{canon, keep-rises}
use Rattle.tree.specs.Walk.{walked, map_spots}
use Rattle.sweep.specs.Sweep.{StandingBlock, standing_at}
use Rattle.sweep.specs.Pressed.{tiles, pressed, Pressable}
use Rattle.sweep.specs.Report.{blocks_met, standing_spots}
use Rattle.catalogue.specs.Catalogue.{tile_spots, tiles_read}
use Rattle.sweep.specs.Laws.{SweepLaws}
use Rattle.sweep.proofs.Steps.{numbers-in, numbers-from, spots_of-in}
use Rattle.catalogue.proofs.Blocks.{tile-spots}
use Rattle.catalogue.proofs.Fine.{read-from, tour-fine}
use Rattle.tour.specs.Tour.{with_tile, gathered, tour_walk, tour_report}
use Rattle.tour.specs.Promises.{list_report}
use Rattle.tour.proofs.Steps.{read-once}
use Rattle.tour.proofs.Marks.{met-stands, read-to-met, met-to-read}

-- ---- spots in blocks side by side

spots_of-mem : (st : List StandingBlock) {x : Spot} → Memᴰ x (standing_spots st) → (s : StandingBlock) × Memᴰ s st × Memᴰ x s.spots
spots_of-mem [] i = absurd (Memᴰ.not-nil i)
spots_of-mem (s ∷ st) i =
    ⊎_elim (λ j. (s, Memᴰ.head refl, j)) (λ j. let r = spots_of-mem st j in (r.0, Memᴰ.tail r.1, r.2)) (Memᴰ.append_cases s.spots i)

key_in : (st : List StandingBlock) {s : StandingBlock} {k : ℕ} → Memᴰ s st → Memᴰ k (keys s.spots) → Memᴰ k (keys (standing_spots st))
key_in st {s} i j = let r = keys_from_lem s.spots j in Memᴰ.cast r.2 (keys-mem (standing_spots st) (spots_of-in st i r.1))

-- where no key stands twice, none does in a block, nor in two
first-apart : (x : StandingBlock) (st : List StandingBlock) → distinct (keys (standing_spots (x ∷ st))) ≡ true → Split (keys x.spots) (keys (standing_spots st))
first-apart x st d = distinct-split (keys x.spots) (keys (standing_spots st)) (ap distinct (sym (keys-append x.spots (standing_spots st))) ∙ d)

block-distinct : (st : List StandingBlock) → distinct (keys (standing_spots st)) ≡ true → {s : StandingBlock} → Memᴰ s st → distinct (keys s.spots) ≡ true
block-distinct [] d i = absurd (Memᴰ.not-nil i)
block-distinct (x ∷ st) d {s} i =
    ⊎_elim (λ (e : s ≡ x). ap (λ (y : StandingBlock). distinct (keys y.spots)) e ∙ (first-apart x st d).left) (λ j. block-distinct st (first-apart x st d).right j)
    (Memᴰ.cases_cons i)

one_block : (st : List StandingBlock) → distinct (keys (standing_spots st)) ≡ true → {s u : StandingBlock} {k : ℕ} → Memᴰ s st → Memᴰ u st
    → Memᴰ k (keys s.spots) → Memᴰ k (keys u.spots) → s.number ≡ u.number
one_block [] d i j a b = absurd (Memᴰ.not-nil i)
one_block (x ∷ st) d {s} {u} {k} i j a b = go (Memᴰ.cases_cons i) (Memᴰ.cases_cons j) (λ m n. one_block st (first-apart x st d).right m n a b)
  where
    go : (s ≡ x) ⊎ Memᴰ s st → (u ≡ x) ⊎ Memᴰ u st → (Memᴰ s st → Memᴰ u st → s.number ≡ u.number) → s.number ≡ u.number
    go (inl e) (inl f) ih = ap (λ (y : StandingBlock). y.number) (e ∙ sym f)
    go (inl e) (inr m) ih = absurd ((first-apart x st d).off k (mem-same (ap (λ (y : StandingBlock). keys y.spots) e) a) (key_in st m b))
    go (inr m) (inl f) ih = absurd ((first-apart x st d).off k (mem-same (ap (λ (y : StandingBlock). keys y.spots) f) b) (key_in st m a))
    go (inr m) (inr n) ih = ih m n

-- ---- lists that rise

-- two that have the same members are one
same-members : (xs ys : List Spot) → rising (keys xs) ≡ true → rising (keys ys) ≡ true → ((x : Spot) → Memᴰ x xs → Memᴰ x ys)
    → ((x : Spot) → Memᴰ x ys → Memᴰ x xs)
    → xs ≡ ys
same-members xs ys u v f g = canon 0 xs ys u v (λ k. ⊎_elim (here k) (gone k) (in-or-not k (keys xs)))
  where
    here : (k : ℕ) → Memᴰ k (keys xs) → find k xs ≡ find k ys
    here k i =
        let r = keys_from_lem xs i in
        ap (λ (j : ℕ). find j xs) r.2 ∙ find-member 0 xs u r.1 ∙ sym (find-member 0 ys v (f r.0 r.1)) ∙ ap (λ (j : ℕ). find j ys) (sym r.2)

    gone : (k : ℕ) → (Memᴰ k (keys xs) → ⊥) → find k xs ≡ find k ys
    gone k n =
        find_none k xs n
        ∙ sym (find_none k ys (λ i. let r = keys_from_lem ys i in n (Memᴰ.cast r.2 (keys-mem xs (g r.0 r.1)))))

-- ---- what is put in is there, and so is what was there before

put_in : (s : Spot) (xs : List Spot) {x : Spot} → (x ≡ s) ⊎ Memᴰ x xs → Memᴰ x (put s xs)
put_in s [] i = ⊎_elim Memᴰ.head Memᴰ.tail i
put_in s (y ∷ ys) {x} i = go (leb s.key y.key) i (put_in s ys)
  where
    go : (b : Bool) → (x ≡ s) ⊎ Memᴰ x (y ∷ ys) → ((x ≡ s) ⊎ Memᴰ x ys → Memᴰ x (put s ys)) → Memᴰ x (cond b (s ∷ y ∷ ys) (y ∷ put s ys))
    go true (inl e) ih = Memᴰ.head e
    go true (inr j) ih = Memᴰ.tail j
    go false (inl e) ih = Memᴰ.tail (ih (inl e))
    go false (inr j) ih = ⊎_elim (λ (e : x ≡ y). Memᴰ.head e) (λ h. Memᴰ.tail (ih (inr h))) (Memᴰ.cases_cons j)

put_all-found : (xs found : List Spot) {x : Spot} → Memᴰ x found → Memᴰ x (put_all xs found)
put_all-found [] found i = i
put_all-found (s ∷ xs) found i = put_in s (put_all xs found) (inr (put_all-found xs found i))

put_all-own : (xs found : List Spot) {x : Spot} → Memᴰ x xs → Memᴰ x (put_all xs found)
put_all-own [] found i = absurd (Memᴰ.not-nil i)
put_all-own (s ∷ xs) found {x} i =
    ⊎_elim (λ (e : x ≡ s). put_in s (put_all xs found) (inl e)) (λ j. put_in s (put_all xs found) (inr (put_all-own xs found j))) (Memᴰ.cases_cons i)

-- ---- what is gathered

-- no key stands twice in the lists of these blocks
pub record Disjoint (f : ℕ → List Spot) (bs : List ℕ) : Type 0 where
  pub each : (b : ℕ) → Memᴰ b bs → distinct (keys (f b)) ≡ true
  pub one : (b c k : ℕ) → Memᴰ b bs → Memᴰ c bs → Memᴰ k (keys (f b)) → Memᴰ k (keys (f c)) → b ≡ c

module _ (t : List ℕ) (q : Query) where
  abbrev pub own : ℕ → List Spot
  own b = keep (wants q) (tile_spots t b)

  pub gathered-from : (bs : List ℕ) (found : List Spot) {x : Spot} → Memᴰ x (gathered t q bs found)
      → Memᴰ x found ⊎ ((b : ℕ) × Memᴰ b bs × Memᴰ x (own b))
  unfolding with_tile
  gathered-from [] found i = inl i
  gathered-from (b ∷ bs) found i =
      ⊎_elim (λ j. ⊎_elim (λ h. inr (b, Memᴰ.head refl, h)) inl (put_all-from (own b) found j)) (λ r. inr (r.0, Memᴰ.tail r.1, r.2))
      (gathered-from bs (with_tile t q b found) i)

  gathered-found : (bs : List ℕ) (found : List Spot) {x : Spot} → Memᴰ x found → Memᴰ x (gathered t q bs found)
  unfolding with_tile
  gathered-found [] found i = i
  gathered-found (b ∷ bs) found i = gathered-found bs (with_tile t q b found) (put_all-found (own b) found i)

  gathered-in : (bs : List ℕ) (found : List Spot) {b : ℕ} {x : Spot} → Memᴰ b bs → Memᴰ x (own b) → Memᴰ x (gathered t q bs found)
  unfolding with_tile
  gathered-in [] found i j = absurd (Memᴰ.not-nil i)
  gathered-in (c ∷ bs) found {b} {x} i j =
      ⊎_elim (λ (e : b ≡ c). gathered-found bs (with_tile t q c found) (put_all-own (own c) found (mem-same (ap own e) j)))
      (λ h. gathered-in bs (with_tile t q c found) h j)
      (Memᴰ.cases_cons i)

  -- it rises in place order
  pub gathered-rises : (bs : List ℕ) (found : List Spot) → Once bs → Disjoint own bs → rising (keys found) ≡ true
      → ((b k : ℕ) → Memᴰ b bs → Memᴰ k (keys (own b)) → Memᴰ k (keys found) → ⊥)
      → rising (keys (gathered t q bs found)) ≡ true
  unfolding with_tile
  gathered-rises [] found o d u n = u
  gathered-rises (b ∷ bs) found o d u n =
      gathered-rises bs (with_tile t q b found) o.1
      (record { each = λ c i. d.each c (Memᴰ.tail i); one = λ c e k i j. d.one c e k (Memᴰ.tail i) (Memᴰ.tail j) })
      (put_all-rises (own b) found u (d.each b (Memᴰ.head refl)) (λ k h. find_none k found (n b k (Memᴰ.head refl) (has-mem k (keys (own b)) h))))
      (λ c k i j h.
      let r = keys_from_lem (put_all (own b) found) h in
      ⊎_elim
      (λ (m : Memᴰ r.0 (own b)). o.0 (Memᴰ.cast (sym (d.one c b k (Memᴰ.tail i) (Memᴰ.head refl) j (Memᴰ.cast r.2 (keys-mem (own b) m)))) i))
      (λ (m : Memᴰ r.0 found). n c k (Memᴰ.tail i) j (Memᴰ.cast r.2 (keys-mem found m)))
      (put_all-from (own b) found r.1))

-- ---- a pressed tour

module _ (ss : List Spot) (g : Pressable ss) (w : SweepLaws ss) (q : Query) where
  -- a block that is met has its spots in the tour
  met-spots : {s : StandingBlock} → Memᴰ s (blocks_met q ss) → tile_spots (pressed ss) s.number ≡ s.spots
  met-spots {s} i =
      let m = numbers-in (blocks_met q ss) i in
      let r = read-from ss g w q (met-to-read ss g w q m) in
      go s.number refl r.0 r.1
    where
      go : (b : ℕ) → s.number ≡ b → 1 ≤ b → b < suc (length (tiles ss)) → tile_spots (pressed ss) b ≡ s.spots
      go zero e h l = absurd (not-suc-le-zero h)
      go (suc j) e h l =
          let k = le_of_suc-le-suc l in
          tile-spots ss g w j k ∙ sym ((w.tile j k).same (least_of q) s (met-stands q ss i) e)

  -- and a block read is one that is met
  read-block : {b : ℕ} → Memᴰ b (tiles_read (pressed ss) q)
      → (s : StandingBlock) × Memᴰ s (blocks_met q ss) × (b ≡ s.number) × (tile_spots (pressed ss) b ≡ s.spots)
  read-block {b} i =
      let r = numbers-from (blocks_met q ss) (read-to-met ss g w q i) in
      (r.0, r.1, r.2, ap (tile_spots (pressed ss)) r.2 ∙ met-spots r.1)

  key_of : {b k : ℕ} (i : Memᴰ b (tiles_read (pressed ss) q)) → Memᴰ k (keys (own (pressed ss) q b)) → Memᴰ k (keys (read-block i).0.spots)
  key_of {b} i j = mem-same (ap keys (read-block i).3) (only-mem (wants_key q) (tile_spots (pressed ss) b) j).0

  stood-once : distinct (keys (standing_spots (standing_at (least_of q) ss))) ≡ true
  stood-once = rising-distinct 0 (keys (standing_spots (standing_at (least_of q) ss))) (w.stood (least_of q)).rise

  disjoint : Disjoint (own (pressed ss) q) (tiles_read (pressed ss) q)
  disjoint =
      record {
        each = λ b i.
            let u = read-block i in
            keep-distinct (wants q) (tile_spots (pressed ss) b)
            (ap (λ (xs : List Spot). distinct (keys xs)) u.3 ∙ block-distinct (standing_at (least_of q) ss) stood-once (met-stands q ss u.1));
        one = λ b c k i j h m.
            let u = read-block i in
            let v = read-block j in
            u.2 ∙ one_block (standing_at (least_of q) ss) stood-once (met-stands q ss u.1) (met-stands q ss v.1) (key_of i h) (key_of j m) ∙ sym v.2;
      }

  gathered-is : gathered (pressed ss) q (tiles_read (pressed ss) q) [] ≡ keep (wants q) ss
  gathered-is =
      same-members (gathered (pressed ss) q (tiles_read (pressed ss) q) []) (keep (wants q) ss)
      (gathered-rises (pressed ss) q (tiles_read (pressed ss) q) [] (read-once (pressed ss) q) disjoint refl (λ b k i j h. Memᴰ.not-nil h))
      (keep-rises (wants q) 0 ss g.rise) to from
    where
      to : (x : Spot) → Memᴰ x (gathered (pressed ss) q (tiles_read (pressed ss) q) []) → Memᴰ x (keep (wants q) ss)
      to x i =
          ⊎_elim (λ j. absurd (Memᴰ.not-nil j))
          (λ r.
          let u = read-block r.1 in
          let m = keep-mem (wants q) (tile_spots (pressed ss) r.0) r.2 in
          mem-same (w.enough q).found (keep-there (wants q) (standing_spots (blocks_met q ss)) (spots_of-in (blocks_met q ss) u.1 (mem-same u.3 m.0)) m.1))
          (gathered-from (pressed ss) q (tiles_read (pressed ss) q) [] i)

      from : (x : Spot) → Memᴰ x (keep (wants q) ss) → Memᴰ x (gathered (pressed ss) q (tiles_read (pressed ss) q) [])
      from x i =
          let m = keep-mem (wants q) (standing_spots (blocks_met q ss)) (mem-same (sym (w.enough q).found) i) in
          let r = spots_of-mem (blocks_met q ss) m.0 in
          gathered-in (pressed ss) q (tiles_read (pressed ss) q) [] (met-to-read ss g w q (numbers-in (blocks_met q ss) r.1))
          (keep-there (wants q) (tile_spots (pressed ss) r.0.number) (mem-same (sym (met-spots r.1)) r.2) m.1)

  pub walk_is : tour_walk (pressed ss) q ≡ walked (keep (wants q) ss) (tiles_read (pressed ss) q)
  unfolding tour_walk
  walk_is = rw (tour-fine ss g w q) (ap (λ (found : List Spot). walked found (tiles_read (pressed ss) q)) gathered-is)

pub report-is : (ss : List Spot) → Pressable ss → SweepLaws ss → (x1 x2 y : ℤ)
    → tour_report (pressed ss) x1 x2 y ≡ walked (list_report x1 x2 y ss) (tiles_read (pressed ss) (query x1 x2 y))
unfolding tour_report
report-is ss g w x1 x2 y = ap (map_spots (from_on (from_of (query x1 x2 y)))) (walk_is ss g w (query x1 x2 y))
