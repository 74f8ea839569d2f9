-- Marks at the spots of a run: set where the query wants the key, and struck where a change of it waits above.
-- Assumes nothing.
use mathlib.Core.Path.{◌≡◌, refl, sym, ap, ap₂, subst, ◌∙◌}
use mathlib.Core.Logic.{◌⊎◌, inl, inr, ⊎_elim}
use mathlib.Core.Bool.{Bool, true, false, cond, not, ◌&&◌, ◌||◌, and-true, and_assoc, or-false}
use mathlib.Core.List.{List, [], ◌∷◌, ◌++◌, Memᴰ}
use Prim.Native.Nat.{ℕ, zero, suc, ◌+◌, ◌-◌, ◌*◌, ◌≤◌, ◌<◌, min, max}
use native.Mathlib.Numerals.{add-one}
use native.Mathlib.Nat.{mul-suc, mul-zero}
use native.Mathlib.Omega.{arith}
use lib.Dec.{eqb, leb}
use lib.IntN.{ℤ}
use lib.ListN.{length, take, get_or, set, replicate, length-append, length-set, length-replicate, get_or-replicate, get_or-eq_default}
use lib.Seq.{take-suc, take_all, get_or-set_same, get_or-set_other}
use borrow.Author.Tests.{ne_eqb, eqb-true}
use Rattle.octets.specs.Lists.{has, keep, records, rising}
use Rattle.octets.proofs.Order.{same_or_not, less-or-not}
use Rattle.octets.proofs.Records.{left, left-cons, length-records, records-at, records-append, records-more}
use Rattle.octets.proofs.Rising.{rising-rest, rising-make, rising-least, rising-right}
use Rattle.octets.proofs.Sets.{has-append, has-not}
use Rattle.octets.proofs.Tests.{keep_append, and_left, and_right}
use Rattle.spot.specs.Spots.{key_at, spot_at}
use Rattle.spot.specs.Query.{all_places, everything, from_of, last_of, least_of, lowest_of, highest_of, is_ring, ends, placed, wants_key}
use Rattle.spot.specs.declared.Spot.{Spot}
use Rattle.spot.specs.declared.Query.{Query}
use Rattle.spot.proofs.Places.{placed-yes, placed-up, placed-down, placed-gap, covered, lowest-flat, highest-flat, unplaced-low, unplaced-high, all_placed, same_rank, unwanted, wants-yes}
use Rattle.spot.proofs.Card.{key_at-lt}
use Rattle.block.specs.Node.{store_of}
use Rattle.block.proofs.Shut.{all2}
use Rattle.tree.specs.Walk.{takes, takes_key}
use Rattle.visit.specs.declared.Path.{Path}
use Rattle.visit.specs.Visit.{above, waiting, waiting_by, waiting_above, keys_from, below_in, taken, chosen, marks_in, AllWanted, RangeMarks, Unmarked, Through, Wanted, Blank, Struck, Marks, WaitsGathered}
use Rattle.visit.proofs.Counts.{spot-key}
use Rattle.visit.proofs.Paths.{waiting-append, path-length}
use Rattle.visit.proofs.Search.{below-rises, run_up, run_down, run_at, run-rises}

pub takes-is : (q : Query) (named : List ℕ) (k : ℕ) → takes_key q named k ≡ wants_key q k && not (has k named)
unfolding takes_key
takes-is q named k = all2 (wants_key q k) (not (has k named))

-- ---- those wanted

module _ (t : List ℕ) (at : ℕ) (q : Query) where
  pub wanted-none : Wanted t at 0 q (replicate 64 false)
  wanted-none =
      record {
        sized = length-replicate 64 false;
        takes = λ i h. absurd (let z : ⊥ = omega arith in z);
        rest = λ i h.
            ⊎_elim (λ (l : 64 ≤ i). let g : length (replicate 64 false) ≤ i = omega (arith, length-replicate 64 false) in get_or-eq_default (replicate 64 false) false g)
            (λ (l : i < 64). get_or-replicate 64 i false false l)
            (less-or-not 64 i);
      }

  pub wanted-more : {m : List Bool} {b : Bool} (i : ℕ) → Wanted t at i q m → i < 64 → b ≡ wants_key q (key_at t (at + 12 * i))
      → Wanted t at (i + 1) q (set m i b)
  wanted-more {m} {b} i v l g =
      record {
        sized = length-set m i b ∙ v.sized;
        takes = λ j h.
            ⊎_elim (λ (s : j ≡ i). ap (λ (y : ℕ). get_or (set m i b) y false) s ∙ get_or-set_same m i b false (omega (arith, v.sized)) ∙ g
            ∙ sym (ap (λ (y : ℕ). wants_key q (key_at t (at + 12 * y))) s))
            (λ (d : j ≡ i → ⊥). get_or-set_other m i j b false d ∙ v.takes j (omega arith))
            (same_or_not j i);
        rest = λ j h. get_or-set_other m i j b false (λ s. omega arith) ∙ v.rest j (omega arith);
      }

-- ---- those of a range

pub range_none : (a : ℕ) → RangeMarks a a (replicate 64 false)
range_none a =
    let none = wanted-none [] 0 everything in
    record {
      sized = none.sized;
      inside = λ i h l. absurd (let z : ⊥ = omega arith in z);
      before = λ i h. none.rest i (omega arith);
      behind = λ i h. none.rest i (omega arith);
    }

pub range-more : {m : List Bool} (a i : ℕ) → RangeMarks a i m → a ≤ i → i < 64 → RangeMarks a (i + 1) (set m i true)
range-more {m} a i v f l =
    record {
      sized = length-set m i true ∙ v.sized;
      inside = λ j g h.
          ⊎_elim (λ (s : j ≡ i). ap (λ (y : ℕ). get_or (set m i true) y false) s ∙ get_or-set_same m i true false (omega (arith, v.sized)))
          (λ (d : j ≡ i → ⊥). get_or-set_other m i j true false d ∙ v.inside j g (omega arith))
          (same_or_not j i);
      before = λ j h. get_or-set_other m i j true false (λ s. omega arith) ∙ v.before j h;
      behind = λ j h. get_or-set_other m i j true false (λ s. omega arith) ∙ v.behind j (omega arith);
    }

-- a range that ends before it begins has none
pub range-end : {m : List Bool} (a e i : ℕ) → RangeMarks a i m → e ≤ i → (i ≤ e) ⊎ (i ≡ a) → RangeMarks a e m
range-end {m} a e i v h (inl l) = let s : i ≡ e = omega arith in subst (λ (j : ℕ). RangeMarks a j m) s v
range-end {m} a e i v h (inr s) =
    record {
      sized = v.sized;
      inside = λ j g l. absurd (let z : ⊥ = omega arith in z);
      before = v.before;
      behind = λ j l. ⊎_elim (λ (g : a ≤ j). v.behind j (omega arith)) (λ (g : j < a). v.before j g) (less-or-not a j);
    }

-- ---- marks taken away from a range

pub unmarked-none : {m : List Bool} (a : ℕ) → Unmarked a a m m
unmarked-none a = record { sized = refl; inside = λ i h l. absurd (let z : ⊥ = omega arith in z); outside = λ i o. refl }

pub unmarked-more : {m m' : List Bool} (a i : ℕ) → Unmarked a i m m' → a ≤ i → i < length m → Unmarked a (i + 1) m (set m' i false)
unmarked-more {m} {m'} a i v f l =
    record {
      sized = length-set m' i false ∙ v.sized;
      inside = λ j g h.
          ⊎_elim (λ (s : j ≡ i). ap (λ (y : ℕ). get_or (set m' i false) y false) s ∙ get_or-set_same m' i false false (omega (arith, v.sized)))
          (λ (d : j ≡ i → ⊥). get_or-set_other m' i j false false d ∙ v.inside j g (omega arith))
          (same_or_not j i);
      outside = λ j o.
          get_or-set_other m' i j false false (λ s. ⊎_elim (λ (h : j < a). omega arith) (λ (h : i + 1 ≤ j). omega arith) o) ∙
          v.outside j (⊎_elim (λ (h : j < a). inl h) (λ (h : i + 1 ≤ j). inr (omega arith)) o);
    }

-- a range that ends before it begins has none
pub unmarked-end : {m m' : List Bool} (a e i : ℕ) → Unmarked a i m m' → e ≤ i → (i ≤ e) ⊎ (i ≡ a) → Unmarked a e m m'
unmarked-end {m} {m'} a e i v h (inl l) = let s : i ≡ e = omega arith in subst (λ (j : ℕ). Unmarked a j m m') s v
unmarked-end {m} {m'} a e i v h (inr s) =
    record {
      sized = v.sized;
      inside = λ j g l. absurd (let z : ⊥ = omega arith in z);
      outside = λ j o. v.outside j (⊎_elim (λ (g : a ≤ j). inr (omega arith)) (λ (g : j < a). inl g) (less-or-not a j));
    }

pub first-wanted : {t : List ℕ} {at n : ℕ} {q : Query} {m : List Bool} → RangeMarks 0 n m → AllWanted t at n q → Wanted t at n q m
first-wanted v w = record { sized = v.sized; takes = λ i h. v.inside i (omega arith) h ∙ sym (w i h); rest = v.behind }

-- keys that rise from one that passes the test at the query's first end to one that passes the test at the last
pub all_wanted : (t : List ℕ) (at n : ℕ) (q : Query) {lo hi least from last : ℕ} {r : Bool} → 0 < n → rising (keys_from t 12 n at) ≡ true → lo ≡ key_at t at
    → hi ≡ key_at t (at + 12 * (n - 1)) → least ≡ least_of q → from ≡ from_of q → last ≡ last_of q → r ≡ ends q (leb from lo) (leb hi last)
    → eqb least 0 && r ≡ true → AllWanted t at n q
all_wanted t at n q {lo} {hi} {least} {from} {last} {r} some p e g y f l d h i j =
    let k : ℕ = key_at t (at + 12 * i) in
    let z : least ≡ 0 = eqb-true least 0 (and_left (eqb least 0) r h) in
    let o : at + 12 * 0 ≡ at = omega arith in
    let a : key_at t at ≤ k = subst (λ (x : ℕ). key_at t x ≤ k) o (run-rises t 12 n at p 0 i (omega arith) j) in
    let c : k ≤ key_at t (at + 12 * (n - 1)) = run-rises t 12 n at p i (n - 1) (omega arith) (omega arith) in
    let inside : ends q (leb (from_of q) lo) (leb hi (last_of q)) ≡ true =
    sym (d ∙ ap₂ (λ (x u : ℕ). ends q (leb x lo) (leb hi u)) f l) ∙ and_right (eqb least 0) r h in
    wants-yes q k (covered q lo hi inside k (omega arith) (omega arith)) (omega arith)

-- ---- where there may be marks

-- none before the query's lowest key or the run's, nor behind the highest
module _ (t : List ℕ) (at n : ℕ) (q : Query) (some : 0 < n) (p : rising (keys_from t 12 n at) ≡ true) where
  before-lo : (i : ℕ) {lo from first : ℕ} → i < n → from ≡ lowest_of q → first ≡ key_at t at → lo ≡ max from first → key_at t (at + 12 * i) < lo → key_at t (at + 12 * i) < lowest_of q
  before-lo i l d e o h =
      let z : at + 12 * 0 ≡ at = omega arith in
      let a : key_at t at ≤ key_at t (at + 12 * i) = subst (λ (x : ℕ). key_at t x ≤ key_at t (at + 12 * i)) z (run-rises t 12 n at p 0 i (omega arith) l) in
      omega arith

  behind-hi : (i : ℕ) {hi to last : ℕ} → i < n → to ≡ highest_of q → last ≡ key_at t (at + 12 * (n - 1)) → hi ≡ min to last → hi < key_at t (at + 12 * i) → highest_of q < key_at t (at + 12 * i)
  behind-hi i l d e o h =
      let a : key_at t (at + 12 * i) ≤ key_at t (at + 12 * (n - 1)) = run-rises t 12 n at p i (n - 1) (omega arith) (omega arith) in
      omega arith

  pub wanted-blank : {lo hi from to first last : ℕ} {m : List Bool} → from ≡ lowest_of q → to ≡ highest_of q → first ≡ key_at t at → last ≡ key_at t (at + 12 * (n - 1)) → lo ≡ max from first → hi ≡ min to last
      → Wanted t at n q m → Blank t at n lo hi m
  wanted-blank c d e g a b v i l o =
      let k : ℕ = key_at t (at + 12 * i) in
      v.takes i l
      ∙ unwanted q k (⊎_elim (λ h. unplaced-low q k (before-lo i l c e a h)) (λ h. unplaced-high q k (key_at-lt t (at + 12 * i)) (behind-hi i l d g b h)) o)

-- ---- those of the query's places, where it asks for no rank and is no ring

pub placed-wanted : (t : List ℕ) (at n : ℕ) (q : Query) {a e from last : ℕ} {m : List Bool} → rising (keys_from t 12 n at) ≡ true → least_of q ≡ 0 → is_ring q ≡ false → from ≡ from_of q → last ≡ last_of q
    → a ≡ below_in from (keys_from t 12 n at) → Through t at n last e → RangeMarks a e m → Wanted t at n q m
placed-wanted t at n q {a} {e} {from} {last} {m} p z r f l below through v =
    record {
      sized = v.sized;
      takes = each;
      rest = λ i h. v.behind i (omega (arith, through.few));
    }
  where
    each : (i : ℕ) → i < n → get_or m i false ≡ wants_key q (key_at t (at + 12 * i))
    each i h =
        let k : ℕ = key_at t (at + 12 * i) in
        let low = lowest-flat q r in
        let high = highest-flat q r in
        ⊎_elim
        (λ (o : from ≤ k). ⊎_elim
        (λ (u : k ≤ last). v.inside i (omega (arith, run_down t 12 n at p from i h o)) (through.under i h u) ∙ sym (wants-yes q k (placed-yes q k (omega arith) (omega arith)) (omega arith)))
        (λ (u : last < k). v.behind i (through.over i h u) ∙ sym (unwanted q k (unplaced-high q k (key_at-lt t (at + 12 * i)) (omega arith))))
        (less-or-not k last))
        (λ (o : k < from). v.before i (omega (arith, run_up t 12 n at p from i h o)) ∙ sym (unwanted q k (unplaced-low q k (omega arith))))
        (less-or-not from k)

-- ---- those of a ring

-- where no rank is asked for, every place is wanted
pub all-of-them : (t : List ℕ) (at n : ℕ) (y : ℤ) → least_of (all_places y) ≡ 0 → AllWanted t at n (all_places y)
all-of-them t at n y z i h =
    let k : ℕ = key_at t (at + 12 * i) in wants-yes (all_places y) k (all_placed y k (key_at-lt t (at + 12 * i))) (omega (arith, z))

same-least : (q : Query) → least_of (all_places q.y) ≡ least_of q
unfolding least_of
same-least q = refl

pub ring-wanted : (t : List ℕ) (at n : ℕ) (q : Query) {a e from last : ℕ} {m m' : List Bool} → rising (keys_from t 12 n at) ≡ true → is_ring q ≡ true → from ≡ from_of q → last ≡ last_of q
    → Wanted t at n (all_places q.y) m → Through t at n last a → e ≡ below_in from (keys_from t 12 n at) → e ≤ n → Unmarked a e m m' → Wanted t at n q m'
ring-wanted t at n q {a} {e} {from} {last} {m} {m'} p r f l w through below few v =
    record {
      sized = v.sized ∙ w.sized;
      takes = each;
      rest = λ i h. v.outside i (inr (omega (arith, few))) ∙ w.rest i h;
    }
  where
    each : (i : ℕ) → i < n → get_or m' i false ≡ wants_key q (key_at t (at + 12 * i))
    each i h =
        let k : ℕ = key_at t (at + 12 * i) in
        let small = key_at-lt t (at + 12 * i) in
        let same : placed q k ≡ true → get_or m i false ≡ wants_key q k = λ x. w.takes i h ∙ same_rank (all_places q.y) q k (all_placed q.y k small) x (same-least q) in
        ⊎_elim
        (λ (o : from ≤ k). v.outside i (inr (omega (arith, run_down t 12 n at p from i h o))) ∙ same (placed-up q k r (omega (arith, o, f))))
        (λ (o : k < from). ⊎_elim (λ (u : k ≤ last). v.outside i (inl (through.under i h u)) ∙ same (placed-down q k r (omega (arith, u, l))))
        (λ (u : last < k). v.inside i (through.over i h u) (omega (arith, run_up t 12 n at p from i h o)) ∙ sym (unwanted q k (placed-gap q k r (omega (arith, u, l)) (omega (arith, o, f)))))
        (less-or-not k last))
        (less-or-not from k)

-- how many have a key up to k
module _ (t : List ℕ) (at n k : ℕ) (p : rising (keys_from t 12 n at) ≡ true) where
  pub through-none : n ≡ 0 → Through t at n k 0
  through-none e = record { few = omega arith; under = λ i h l. absurd (let z : ⊥ = omega arith in z); over = λ i h l. omega arith }

  pub through-all : {x : ℕ} → 0 < n → x ≡ key_at t (at + 12 * (n - 1)) → x ≤ k → Through t at n k n
  through-all some e l =
      record {
        few = omega arith;
        under = λ i h g. h;
        over = λ i h g. absurd (let z : ⊥ = omega (arith, run-rises t 12 n at p i (n - 1) (omega arith) (omega arith)) in z);
      }

  pub through-some : {r : ℕ} → r ≡ below_in (k + 1) (keys_from t 12 n at) → r ≤ n → Through t at n k r
  through-some e l =
      record {
        few = l;
        under = λ i h g. omega (arith, run_up t 12 n at p (k + 1) i h (omega arith));
        over = λ i h g. omega (arith, run_down t 12 n at p (k + 1) i h (omega arith));
      }

-- ---- those struck

not-or : (a b : Bool) → not (a || b) ≡ not a && not b
not-or true b = refl
not-or false b = refl

module _ {t : List ℕ} {at n : ℕ} where
  -- a spot that has no mark is not struck
  struck-idle : {ks : List ℕ} (m : List Bool) → ((i : ℕ) → i < n → (has (key_at t (at + 12 * i)) ks ≡ false) ⊎ (get_or m i false ≡ false)) → Struck t at n ks m m
  struck-idle {ks} m h =
      record {
        sized = refl;
        takes = λ i l.
            let k : ℕ = key_at t (at + 12 * i) in
            ⊎_elim (λ (e : has k ks ≡ false). sym (ap (λ (b : Bool). get_or m i false && not b) e ∙ and-true (get_or m i false)))
            (λ (e : get_or m i false ≡ false). e ∙ sym (ap (λ (b : Bool). b && not (has k ks)) e))
            (h i l);
        rest = λ i l. refl;
      }

  pub struck-none : {ks : List ℕ} (m : List Bool) → ((i : ℕ) → i < n → has (key_at t (at + 12 * i)) ks ≡ false) → Struck t at n ks m m
  struck-none m h = struck-idle m (λ i l. inl (h i l))

  struck-either : {xs ys : List ℕ} {m m' : List Bool}
      → ((i : ℕ) → i < n → (has (key_at t (at + 12 * i)) xs ≡ has (key_at t (at + 12 * i)) ys) ⊎ (get_or m i false ≡ false)) → Struck t at n xs m m' → Struck t at n ys m m'
  struck-either {xs} {ys} {m} h s =
      record {
        sized = s.sized;
        takes = λ i l.
            let k : ℕ = key_at t (at + 12 * i) in
            s.takes i l
            ∙ ⊎_elim (λ (e : has k xs ≡ has k ys). ap (λ (b : Bool). get_or m i false && not b) e)
            (λ (e : get_or m i false ≡ false). ap (λ (b : Bool). b && not (has k xs)) e ∙ sym (ap (λ (b : Bool). b && not (has k ys)) e))
            (h i l);
        rest = s.rest;
      }

  pub struck-same : {xs ys : List ℕ} {m m' : List Bool} → ((i : ℕ) → i < n → has (key_at t (at + 12 * i)) xs ≡ has (key_at t (at + 12 * i)) ys)
      → Struck t at n xs m m' → Struck t at n ys m m'
  struck-same h s = struck-either (λ i l. inl (h i l)) s

  pub blank-struck : (lo hi : ℕ) {ks : List ℕ} {m m' : List Bool} → Struck t at n ks m m' → Blank t at n lo hi m → Blank t at n lo hi m'
  blank-struck lo hi {ks = ks} s blank i l o = s.takes i l ∙ ap (λ (b : Bool). b && not (has (key_at t (at + 12 * i)) ks)) (blank i l o)

  -- by some keys, and then by others
  pub struck-then : {xs ys : List ℕ} {m m' m'' : List Bool} → Struck t at n xs m m' → Struck t at n ys m' m'' → Struck t at n (xs ++ ys) m m''
  struck-then {xs} {ys} {m} r s =
      record {
        sized = s.sized ∙ r.sized;
        takes = λ i l.
            let k : ℕ = key_at t (at + 12 * i) in
            s.takes i l ∙ ap (λ (b : Bool). b && not (has k ys)) (r.takes i l) ∙ and_assoc (get_or m i false) (not (has k xs)) (not (has k ys))
            ∙ ap (λ (b : Bool). get_or m i false && b) (sym (ap not (has-append k xs ys) ∙ not-or (has k xs) (has k ys)));
        rest = λ i l. s.rest i l ∙ r.rest i l;
      }

-- by the first keys of a list, and by one more
pub struck-first : (t : List ℕ) (at n : ℕ) (ws : List ℕ) (m : List Bool) → Struck t at n (take 0 ws) m m
struck-first t at n ws m = struck-none m (λ i h. refl)

pub struck-more : (t : List ℕ) (at n : ℕ) (ws : List ℕ) {k : ℕ} {m m' m'' : List Bool} (j : ℕ) → j < length ws → k ≡ get_or ws j 0 → Struck t at n (take j ws) m m' → Struck t at n (k ∷ []) m' m''
    → Struck t at n (take (j + 1) ws) m m''
struck-more t at n ws {k} {m} {m'} {m''} j h e s v =
    subst (λ (l : List ℕ). Struck t at n l m m'')
    (ap (λ (x : ℕ). take j ws ++ (x ∷ [])) e ∙ sym (ap (λ (i : ℕ). take i ws) (add-one j) ∙ take-suc ws j 0 h))
    (struck-then s v)

-- ---- one key

module _ (t : List ℕ) (at n : ℕ) (p : rising (keys_from t 12 n at) ≡ true) (k : ℕ) {i : ℕ} (e : i ≡ below_in k (keys_from t 12 n at)) where
  -- it stands nowhere but at its place
  not-here : (j : ℕ) → j < n → (j ≡ i → ⊥) → has (key_at t (at + 12 * j)) (k ∷ []) ≡ false
  not-here j h d =
      or-false (eqb (key_at t (at + 12 * j)) k)
      ∙ ne_eqb (key_at t (at + 12 * j)) k (λ g. d (sym (run_at t 12 n at p j h) ∙ ap (λ (y : ℕ). below_in y (keys_from t 12 n at)) g ∙ sym e))

  pub struck-hit : {x : ℕ} (m : List Bool) → n ≤ length m → i < n → x ≡ key_at t (at + 12 * i)
      → Struck t at n (k ∷ []) m (set m i (get_or m i false && not (eqb x k)))
  struck-hit {x} m long h g =
      let b : Bool = get_or m i false && not (eqb x k) in
      record {
        sized = length-set m i b;
        takes = λ j l.
            ⊎_elim (λ (s : j ≡ i). ap (λ (y : ℕ). get_or (set m i b) y false) s ∙ get_or-set_same m i b false (omega arith)
            ∙ ap (λ (y : ℕ). get_or m i false && not (eqb y k)) g
            ∙ ap (λ (y : Bool). get_or m i false && not y) (sym (or-false (eqb (key_at t (at + 12 * i)) k)))
            ∙ sym (ap (λ (y : ℕ). get_or m y false && not (has (key_at t (at + 12 * y)) (k ∷ []))) s))
            (λ (d : j ≡ i → ⊥). get_or-set_other m i j b false d
            ∙ sym (ap (λ (y : Bool). get_or m j false && not y) (not-here j l d) ∙ and-true (get_or m j false)))
            (same_or_not j i);
        rest = λ j l. get_or-set_other m i j b false (λ s. omega arith);
      }

  pub struck-miss : (m : List Bool) → n ≤ i → Struck t at n (k ∷ []) m m
  struck-miss m h = struck-none m (λ j l. not-here j l (λ s. omega arith))

-- ---- the keys of a node, and those of all nodes above

has-none : (f : ℕ → ℕ) (w n at k : ℕ) → ((i : ℕ) → i < n → k ≡ f (at + w * i) → ⊥) → has k (records f w n at) ≡ false
has-none f w zero at k h = refl
has-none f w (suc n) at k h =
    ap₂ (λ (a b : Bool). a || b)
    (ne_eqb k (f at) (λ e. h 0 (omega arith) (e ∙ ap f (let g : at ≡ at + w * 0 = omega (arith, mul-zero w) in g))))
    (has-none f w n (at + w) k (λ i l e. h (suc i) (omega arith) (e ∙ ap f (let g : at + w + w * i ≡ at + w * suc i = omega (arith, mul-suc w i) in g))))

first-least : (x : ℕ) (xs : List ℕ) {k : ℕ} → rising (x ∷ xs) ≡ true → Memᴰ k (x ∷ xs) → x ≤ k
first-least x xs p i = rising-least x (x ∷ xs) (rising-make x x xs (omega arith) (rising-rest 0 x xs p)) i

-- of a run that rises, the keys before the first not below lo, and those from one above hi on, are none between lo and hi
module _ (t : List ℕ) (a w c : ℕ) (r : rising (keys_from t w c a) ≡ true) where
  pub run-skips : {j : ℕ} (lo x : ℕ) → j ≡ below_in lo (keys_from t w c a) → j ≤ c → lo ≤ x → has x (keys_from t w j a) ≡ false
  run-skips {j} lo x g l o = has-none (key_at t) w j a x (λ y z q. omega (arith, run_down t w c a r lo y (omega arith) (omega arith)))

  pub run-stops : (j hi x : ℕ) → j < c → hi < key_at t (a + w * j) → x ≤ hi → has x (keys_from t w j a) ≡ has x (keys_from t w c a)
  run-stops j hi x h l z =
      sym (
      ap (has x) whole ∙ has-append x (keys_from t w j a) (left (key_at t) w c a j)
      ∙ ap (λ (b : Bool). has x (keys_from t w j a) || b) above-last ∙ or-false (has x (keys_from t w j a)))
    where
      whole : keys_from t w c a ≡ keys_from t w j a ++ left (key_at t) w c a j
      whole =
          let y : c ≡ j + (c - j) = omega arith in
          ap (λ (x : ℕ). keys_from t w x a) y ∙ records-append (key_at t) w j (c - j) a

      rest : left (key_at t) w c a j ≡ key_at t (a + w * j) ∷ left (key_at t) w c a (j + 1)
      rest = left-cons (key_at t) w c a j h

      above-last : has x (left (key_at t) w c a j) ≡ false
      above-last =
          has-not x (left (key_at t) w c a j)
          (λ o.
          let up : rising (key_at t (a + w * j) ∷ left (key_at t) w c a (j + 1)) ≡ true = sym (ap rising rest) ∙ rising-right 0 (keys_from t w j a) (left (key_at t) w c a j) (sym (ap rising whole) ∙ r) in
          let f : key_at t (a + w * j) ≤ x = first-least (key_at t (a + w * j)) (left (key_at t) w c a (j + 1)) up (subst (λ (y : List ℕ). Memᴰ x y) rest o) in
          omega arith)

module _ (t : List ℕ) (at n a w c lo hi : ℕ) (r : rising (keys_from t w c a) ≡ true) where
  -- keys below lo strike none
  pub strike-start : {j : ℕ} (m : List Bool) → Blank t at n lo hi m → j ≡ below_in lo (keys_from t w c a) → j ≤ c → Struck t at n (keys_from t w j a) m m
  strike-start {j} m blank g l =
      struck-idle m
      (λ i h.
      ⊎_elim (λ (o : lo ≤ key_at t (at + 12 * i)). inl (run-skips t a w c r lo (key_at t (at + 12 * i)) g l o))
      (λ (o : key_at t (at + 12 * i) < lo). inr (blank i h (inl o)))
      (less-or-not lo (key_at t (at + 12 * i))))

  pub strike-next : {k : ℕ} {m m' m'' : List Bool} (j : ℕ) → k ≡ key_at t (a + w * j) → Struck t at n (keys_from t w j a) m m' → Struck t at n (k ∷ []) m' m''
      → Struck t at n (keys_from t w (j + 1) a) m m''
  strike-next {k} {m} {m'} {m''} j e s v =
      subst (λ (l : List ℕ). Struck t at n l m m'')
      (ap (λ (x : ℕ). keys_from t w j a ++ (x ∷ [])) e ∙ sym (records-more (key_at t) w j a) ∙ ap (λ (x : ℕ). keys_from t w x a) (sym (add-one j)))
      (struck-then s v)

  -- the spots below a key are below the next
  pub strike-on : {k i : ℕ} (j : ℕ) → k ≡ key_at t (a + w * j) → i ≡ below_in k (keys_from t 12 n at) → j + 1 < c → i ≤ below_in (key_at t (a + w * (j + 1))) (keys_from t 12 n at)
  strike-on {k} j e g h =
      let up : key_at t (a + w * j) ≤ key_at t (a + w * (j + 1)) = run-rises t w c a r j (j + 1) (omega arith) h in
      omega (arith, below-rises k (key_at t (a + w * (j + 1))) (keys_from t 12 n at) (omega arith))

  -- keys above hi strike none
  pub strike-stop : {k : ℕ} {m m' : List Bool} (j : ℕ) → Blank t at n lo hi m → j < c → k ≡ key_at t (a + w * j) → hi < k
      → Struck t at n (keys_from t w j a) m m' → Struck t at n (keys_from t w c a) m m'
  strike-stop {k} j blank h g l s =
      struck-either
      (λ i z.
      ⊎_elim (λ (o : key_at t (at + 12 * i) ≤ hi). inl (run-stops t a w c r j hi (key_at t (at + 12 * i)) h (omega arith) o))
      (λ (o : hi < key_at t (at + 12 * i)). inr (blank i z (inr o)))
      (less-or-not (key_at t (at + 12 * i)) hi))
      s

  pub strike-end : {m m' : List Bool} (j : ℕ) → j ≡ c → Struck t at n (keys_from t w j a) m m' → Struck t at n (keys_from t w c a) m m'
  strike-end {m} {m'} j e s = subst (λ (x : ℕ). Struck t at n (keys_from t w x a) m m') e s

-- struck by what waits in the first i nodes above
abbrev pub StruckBy : List ℕ → ℕ → ℕ → Path → ℕ → List Bool → List Bool → Type 0
StruckBy t at n p i m m' = Struck t at n (waiting_by (store_of t) (take i (above p))) m m'

module _ (t : List ℕ) (at n : ℕ) (p : Path) (long : length p.blocks ≡ 8) (few : p.n ≤ 7) where
  pub path-start : (m : List Bool) → StruckBy t at n p 0 m m
  path-start m = struck-none m (λ i h. refl)

  pub path-more : {m m' m'' : List Bool} (i : ℕ) → i < p.n → StruckBy t at n p i m m' → Struck t at n (waiting (store_of t (get_or (above p) i 0))) m' m'' → StruckBy t at n p (i + 1) m m''
  path-more {m} {m'} {m''} i h s v = struck-same same (struck-then s v)
    where
      b : ℕ
      b = get_or (above p) i 0

      one : take (i + 1) (above p) ≡ take i (above p) ++ (b ∷ [])
      one = ap (λ (j : ℕ). take j (above p)) (add-one i) ∙ take-suc (above p) i 0 (omega (arith, path-length p long few))

      same : (j : ℕ) → j < n
          → has (key_at t (at + 12 * j)) (waiting_by (store_of t) (take i (above p)) ++ waiting (store_of t b)) ≡ has (key_at t (at + 12 * j)) (waiting_by (store_of t) (take (i + 1) (above p)))
      same j l =
          let k : ℕ = key_at t (at + 12 * j) in
          let before : List ℕ = waiting_by (store_of t) (take i (above p)) in
          has-append k before (waiting (store_of t b))
          ∙ ap (λ (x : Bool). has k before || x) (sym (has-append k (waiting (store_of t b)) [] ∙ or-false (has k (waiting (store_of t b)))))
          ∙ sym (ap (λ (xs : List ℕ). has k (waiting_by (store_of t) xs)) one ∙ waiting-append (store_of t) k (take i (above p)) (b ∷ []))

  pub path-all : {m m' : List Bool} (i : ℕ) → p.n ≤ i → StruckBy t at n p i m m' → Struck t at n (waiting_above t p) m m'
  path-all {m} {m'} i h s =
      subst (λ (bs : List ℕ). Struck t at n (waiting_by (store_of t) bs) m m') (take_all i (above p) (omega (arith, path-length p long few))) s

-- what is gathered strikes as the nodes above do, where the marks lie in its range
pub struck-near : (t : List ℕ) (at n : ℕ) (p : Path) (ws : List ℕ) {lo hi : ℕ} {m m' : List Bool} → WaitsGathered t p ws → Blank t at n lo hi m → p.lo ≤ lo → hi ≤ p.last
    → Struck t at n (take p.waits ws) m m' → Struck t at n (waiting_above t p) m m'
struck-near t at n p ws {lo} {hi} v blank f l s =
    struck-either
    (λ i z.
    let k : ℕ = key_at t (at + 12 * i) in
    ⊎_elim
    (λ (o : lo ≤ k). ⊎_elim (λ (u : k ≤ hi). inl (v.same k (omega arith) (omega arith))) (λ (u : hi < k). inr (blank i z (inr u))) (less-or-not k hi))
    (λ (o : k < lo). inr (blank i z (inl o)))
    (less-or-not lo k))
    s

pub marks-struck : {t : List ℕ} {at n : ℕ} {q : Query} {m m' : List Bool} (p : Path) → Wanted t at n q m → Struck t at n (waiting_above t p) m m' → Marks t at n q p m'
marks-struck {t} {at} {n} {q} p v s =
    record {
      sized = s.sized ∙ v.sized;
      takes = λ j l.
          let k : ℕ = key_at t (at + 12 * j) in
          s.takes j l ∙ ap (λ (a : Bool). a && not (has k (waiting_above t p))) (v.takes j l) ∙ sym (takes-is q (waiting_above t p) k);
      rest = λ j l. s.rest j l ∙ v.rest j l;
    }

pub marks-none : {t : List ℕ} {at n : ℕ} {q : Query} {m : List Bool} (p : Path) → n ≡ 0 → Wanted t at n q m → Marks t at n q p m
marks-none p e v =
    record {
      sized = v.sized;
      takes = λ i h. absurd (let z : ⊥ = omega arith in z);
      rest = v.rest;
    }

-- ---- the spots with a mark

module _ {A : Type 0} where
  chosen-nil : (m : List Bool) → ◌≡◌ {A = List A} (chosen m []) []
  chosen-nil [] = refl
  chosen-nil (b ∷ m) = refl

  pub chosen-keep : (f : A → Bool) (m : List Bool) (xs : List A) (d : A) → ((i : ℕ) → i < length xs → get_or m i false ≡ f (get_or xs i d)) → keep f xs ≡ chosen m xs
  chosen-keep f m [] d h = sym (chosen-nil m)
  chosen-keep f [] (x ∷ xs) d h =
      ap (λ (b : Bool). cond b (x ∷ keep f xs) (keep f xs)) (sym (h 0 (omega arith))) ∙ chosen-keep f [] xs d (λ i l. h (suc i) (omega arith))
  chosen-keep f (b ∷ m) (x ∷ xs) d h =
      ap₂ (λ (y : Bool) (l : List A). cond y (x ∷ l) l) (sym (h 0 (omega arith))) (chosen-keep f m xs d (λ i l. h (suc i) (omega arith)))

  -- one element more
  pub chosen_more : (m : List Bool) (xs : List A) (y : A) → chosen m (xs ++ (y ∷ [])) ≡ chosen m xs ++ cond (get_or m (length xs) false) (y ∷ []) []
  chosen_more [] xs y = refl
  chosen_more (b ∷ m) [] y = ap (λ (l : List A). cond b (y ∷ l) l) (chosen-nil m)
  chosen_more (true ∷ m) (x ∷ xs) y = ap (λ (l : List A). x ∷ l) (chosen_more m xs y)
  chosen_more (false ∷ m) (x ∷ xs) y = chosen_more m xs y

  pub chosen-most : (m : List Bool) (xs : List A) → length (chosen m xs) ≤ length xs
  chosen-most [] xs = omega arith
  chosen-most (b ∷ m) [] = omega arith
  chosen-most (true ∷ m) (x ∷ xs) = omega (arith, chosen-most m xs)
  chosen-most (false ∷ m) (x ∷ xs) = omega (arith, chosen-most m xs)

  pub chosen-length : (m : List Bool) (xs : List A) → length (chosen m xs) ≡ marks_in (take (length xs) m)
  chosen-length [] [] = refl
  chosen-length [] (x ∷ xs) = refl
  chosen-length (b ∷ m) [] = refl
  chosen-length (true ∷ m) (x ∷ xs) = ap suc (chosen-length m xs)
  chosen-length (false ∷ m) (x ∷ xs) = chosen-length m xs

module _ {t : List ℕ} {at n : ℕ} {q : Query} {p : Path} {m : List Bool} (v : Marks t at n q p m) where
  -- what a query takes of a run is what has a mark
  pub marks-taken : taken t at n q p ≡ chosen m (records (spot_at t) 12 n at)
  marks-taken =
      chosen-keep (takes q (waiting_above t p)) m (records (spot_at t) 12 n at) (spot_at t 0)
      (λ i h.
      let l : i < n = omega (arith, length-records (spot_at t) 12 n at) in
      v.takes i l ∙ ap (takes_key q (waiting_above t p)) (sym (ap (λ (s : Spot). s.key) (records-at (spot_at t) 12 n at i (spot_at t 0) l) ∙ spot-key t (at + 12 * i))))

  pub marks-count : length (taken t at n q p) ≡ marks_in (take n m)
  marks-count =
      ap length marks-taken ∙ chosen-length m (records (spot_at t) 12 n at) ∙ ap (λ (k : ℕ). marks_in (take k m)) (length-records (spot_at t) 12 n at)

-- ---- counting them

module _ (m : List Bool) (i : ℕ) (h : i < length m) where
  more : marks_in (take (i + 1) m) ≡ marks_in (take i m) + marks_in (get_or m i false ∷ [])
  more =
      ap (λ (j : ℕ). marks_in (take j m)) (add-one i) ∙ ap marks_in (take-suc m i false h)
      ∙ ap length (keep_append (λ b. b) (take i m) (get_or m i false ∷ []))
      ∙ length-append (keep (λ b. b) (take i m)) (keep (λ b. b) (get_or m i false ∷ []))

  pub count-mark : {sum : ℕ} → sum ≡ marks_in (take i m) → get_or m i false ≡ true → sum + 1 ≡ marks_in (take (i + 1) m)
  count-mark e g =
      let z : marks_in (get_or m i false ∷ []) ≡ 1 = ap (λ (b : Bool). marks_in (b ∷ [])) g in
      omega (arith, more)

  pub count-blank : {sum : ℕ} → sum ≡ marks_in (take i m) → get_or m i false ≡ false → sum ≡ marks_in (take (i + 1) m)
  count-blank e g =
      let z : marks_in (get_or m i false ∷ []) ≡ 0 = ap (λ (b : Bool). marks_in (b ∷ [])) g in
      omega (arith, more)
