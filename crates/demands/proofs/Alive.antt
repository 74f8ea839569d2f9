-- The live spots of a sound table as spots in whole numbers: which they are, each once, and in the two orders.
-- Assumes nothing.
use mathlib.Core.Path.{◌≡◌, refl, ap, ap₂, sym, subst, ◌∙◌}
use mathlib.Core.Logic.{⊎_elim, ◌↔◌}
use mathlib.Core.Bool.{Bool, true}
use mathlib.Core.List.{List, [], ◌∷◌, map, Memᴰ}
use mathlib.Core.Option.{some, some-ne-none, some-injective}
use Prim.Native.Nat.{ℕ, zero, suc, ◌≤◌, ◌<◌}
use native.Mathlib.Omega.{arith}
use lib.ListN.{length, take}
use lib.Dec.{ltb}
use borrow.Author.Tests.{ltb-true, lt-ltb, le-leb, lt-leb}
use Rattle.octets.specs.Lists.{keep, rising_from}
use Rattle.octets.proofs.Lists.{mem-take}
use Rattle.octets.proofs.Tests.{every-make, every-mem, keep-mem, keep-there}
use Rattle.octets.proofs.Order.{less-or-not}
use Rattle.octets.proofs.Rising.{rising-rest, rising-least}
use Rattle.spot.specs.declared.Spot.{Spot}
use Rattle.spot.specs.Keys.{all_keys, key, place_of, rank_in}
use Rattle.spot.specs.Spots.{keys, find, put_top, by_top}
use Rattle.spot.proofs.Signed.{signed-fits, fits_signed}
use Rattle.spot.proofs.Orders.{place-of-key, rank-in-key, place-fits, rank-fits, key-of-parts}
use Rattle.spot.proofs.TopKeys.{top-inj}
use Rattle.spot.proofs.Ranks.{tk, put_top-from, by_top-from}
use Rattle.spot.proofs.Buffers.{keys-mem, keys_from_lem, find-mem, find-member}
use Rattle.spot.proofs.Canon.{spot-eq}
use Rattle.spot.proofs.Places.{within-high}
use Rattle.tree.specs.Lookup.{live}
use Rattle.tree.specs.Walk.{live_spots}
use Rattle.tree.specs.Sound.{sound}
use Rattle.tree.proofs.Tables.{shaped, live-none, live-rises, live-finds}
use Rattle.demands.specs.Model.{PlainSpot, place_before, top_before}
use Rattle.demands.specs.Demands.{LiveSpot, InOrder, AllLive}
use Rattle.demands.proofs.Plain.{to_key_spot, keyed, SpotFits, AllFit, before-is, top-is}

-- ---- a spot of the table in whole numbers

abbrev pub to_plain : Spot → PlainSpot
to_plain s = record { place = place_of s.key; rank = rank_in s.key; track = s.track }

abbrev pub plain : List Spot → List PlainSpot
plain ss = map to_plain ss

-- every key is one of 64 bits
abbrev pub Small : List Spot → Type 0
Small ss = (s : Spot) → Memᴰ s ss → s.key < all_keys

pub plain-key : (s : Spot) → to_key_spot (to_plain s) ≡ s
plain-key s = spot-eq _ s (key-of-parts s.key) refl

pub plain_fits : (s : Spot) → s.key < all_keys → SpotFits (to_plain s)
plain_fits s l = record { place = place-fits s.key l; rank = rank-fits s.key }

key-plain : (s : PlainSpot) → SpotFits s → to_plain (to_key_spot s) ≡ s
key-plain s f = λ i. record { place = place-of-key s.place s.rank f.rank f.place i; rank = rank-in-key s.place s.rank f.rank i; track = s.track }

-- lists of them
pub keyed-plain : (ss : List Spot) → keyed (plain ss) ≡ ss
keyed-plain [] = refl
keyed-plain (s ∷ ss) = ap₂ (λ (x : Spot) (l : List Spot). x ∷ l) (plain-key s) (keyed-plain ss)

pub plain-length : (ss : List Spot) → length (plain ss) ≡ length ss
plain-length [] = refl
plain-length (s ∷ ss) = ap suc (plain-length ss)

pub plain-take : (k : ℕ) (ss : List Spot) → plain (take k ss) ≡ take k (plain ss)
plain-take zero ss = refl
plain-take (suc k) [] = refl
plain-take (suc k) (s ∷ ss) = ap (λ (l : List PlainSpot). to_plain s ∷ l) (plain-take k ss)

pub plain-fit : (ss : List Spot) → Small ss → AllFit (plain ss)
plain-fit [] h = tt
plain-fit (s ∷ ss) h = (plain_fits s (h s (mathlib.Core.List.Memᴰ.head refl)), plain-fit ss (λ x i. h x (mathlib.Core.List.Memᴰ.tail i)))

from-plain : (ss : List Spot) {p : PlainSpot} → Memᴰ p (plain ss) → (s : Spot) × Memᴰ s ss × (p ≡ to_plain s)
from-plain [] i = absurd (mathlib.Core.List.Memᴰ.not-nil i)
from-plain (s ∷ ss) {p} i =
    ⊎_elim (λ (e : p ≡ to_plain s). (s, mathlib.Core.List.Memᴰ.head refl, e))
    (λ (j : Memᴰ p (plain ss)). let r = from-plain ss j in (r.0, mathlib.Core.List.Memᴰ.tail r.1, r.2))
    (mathlib.Core.List.Memᴰ.cases_cons i)

in-plain : (ss : List Spot) {s : Spot} → Memᴰ s ss → Memᴰ (to_plain s) (plain ss)
in-plain [] i = absurd (mathlib.Core.List.Memᴰ.not-nil i)
in-plain (x ∷ ss) {s} i = ⊎_elim (λ (e : s ≡ x). mathlib.Core.List.Memᴰ.head (ap to_plain e)) (λ (j : Memᴰ s ss). mathlib.Core.List.Memᴰ.tail (in-plain ss j)) (mathlib.Core.List.Memᴰ.cases_cons i)

pub plain-keyed : (ss : List PlainSpot) → AllFit ss → plain (keyed ss) ≡ ss
plain-keyed [] h = refl
plain-keyed (s ∷ ss) h = ap₂ (λ (x : PlainSpot) (l : List PlainSpot). x ∷ l) (key-plain s h.0) (plain-keyed ss h.1)

-- a spot is in the one list as its key is in the other
pub plain-mem : (ss : List Spot) → Small ss → (p : PlainSpot) → Memᴰ p (plain ss) → SpotFits p × Memᴰ (to_key_spot p) ss
plain-mem ss h p i =
    let r = from-plain ss i in
    subst (λ (q : PlainSpot). SpotFits q × Memᴰ (to_key_spot q) ss) (sym r.2)
    (plain_fits r.0 (h r.0 r.1), subst (λ (x : Spot). Memᴰ x ss) (sym (plain-key r.0)) r.1)

pub mem-plain : (ss : List Spot) (p : PlainSpot) → SpotFits p → Memᴰ (to_key_spot p) ss → Memᴰ p (plain ss)
mem-plain ss p f i = subst (λ (q : PlainSpot). Memᴰ q (plain ss)) (key-plain p f) (in-plain ss i)

-- ---- the two orders

-- each is ahead of all that follow it
abbrev pub Ahead : (Spot → Spot → Type 0) → List Spot → Type 0
Ahead R [] = Unit {0}
Ahead R (x ∷ xs) = ((y : Spot) → Memᴰ y xs → R x y) × Ahead R xs

pub in_order : (before : PlainSpot → PlainSpot → Bool) (R : Spot → Spot → Type 0)
    → ((x y : Spot) → x.key < all_keys → y.key < all_keys → R x y → before (to_plain x) (to_plain y) ≡ true)
    → (ss : List Spot) → Small ss → Ahead R ss → InOrder before (plain ss)
in_order before R same [] h a = tt
in_order before R same (x ∷ xs) h a = (
  every-make (before (to_plain x)) (plain xs)
      (λ p i.
      let r = from-plain xs i in
      ap (before (to_plain x)) r.2 ∙ same x r.0 (h x (mathlib.Core.List.Memᴰ.head refl)) (h r.0 (mathlib.Core.List.Memᴰ.tail r.1)) (a.0 r.0 r.1)),
  in_order before R same xs (λ y i. h y (mathlib.Core.List.Memᴰ.tail i)) a.1,
)

-- place order
abbrev pub Lower : Spot → Spot → Type 0
Lower x y = x.key < y.key

pub rises-ahead : (a : ℕ) (ss : List Spot) → rising_from a (keys ss) ≡ true → Ahead Lower ss
rises-ahead a [] h = tt
rises-ahead a (s ∷ ss) h =
    let r = rising-rest a s.key (keys ss) h in
    (λ y i. rising-least (suc s.key) (keys ss) r (keys-mem ss i), rises-ahead (suc s.key) ss r)

lower-before : (x y : Spot) → x.key < all_keys → y.key < all_keys → Lower x y → place_before (to_plain x) (to_plain y) ≡ true
lower-before x y f g l =
    before-is (to_plain x) (to_plain y) (plain_fits x f) (plain_fits y g) ∙ ap₂ (λ (u v : Spot). ltb u.key v.key) (plain-key x) (plain-key y) ∙
    lt-ltb x.key y.key l

pub rises-in-order : (ss : List Spot) → Small ss → rising_from 0 (keys ss) ≡ true → InOrder place_before (plain ss)
rises-in-order ss h r = in_order place_before Lower lower-before ss h (rises-ahead 0 ss r)

-- the order of Top's answers
abbrev pub Over : Spot → Spot → Type 0
Over x y = tk y < tk x

put-over : (s : Spot) (xs : List Spot) → ((y : Spot) → Memᴰ y xs → tk y ≡ tk s → ⊥) → Ahead Over xs → Ahead Over (put_top s xs)
put-over s [] d a = (λ y i. absurd (mathlib.Core.List.Memᴰ.not-nil i), tt)
put-over s (x ∷ xs) d a =
    ⊎_elim (λ (l : tk x ≤ tk s). rw (le-leb (tk x) (tk s) l) (first l, a))
    (λ (l : tk s < tk x). rw (lt-leb (tk x) (tk s) l) (later l, put-over s xs (λ y i. d y (mathlib.Core.List.Memᴰ.tail i)) a.1))
    (less-or-not (tk x) (tk s))
  where
    first : tk x ≤ tk s → (y : Spot) → Memᴰ y (x ∷ xs) → tk y < tk s
    first l y i =
        let n = d y i in
        ⊎_elim (λ (e : y ≡ x). let z = ap tk e in omega arith) (λ (j : Memᴰ y xs). let z = a.0 y j in omega arith) (mathlib.Core.List.Memᴰ.cases_cons i)

    later : tk s < tk x → (y : Spot) → Memᴰ y (put_top s xs) → tk y < tk x
    later l y i = ⊎_elim (λ (e : y ≡ s). let z = ap tk e in omega arith) (λ (j : Memᴰ y xs). a.0 y j) (put_top-from s xs i)

top-ahead : (a : ℕ) (ss : List Spot) → rising_from a (keys ss) ≡ true → Small ss → Ahead Over (by_top ss)
top-ahead a [] r h = tt
top-ahead a (s ∷ ss) r h =
    let q = rising-rest a s.key (keys ss) r in
    put-over s (by_top ss)
    (λ y i e.
    let j = by_top-from ss i in
    let l = rising-least (suc s.key) (keys ss) q (keys-mem ss j) in
    let k = top-inj y.key s.key (h y (mathlib.Core.List.Memᴰ.tail j)) (h s (mathlib.Core.List.Memᴰ.head refl)) e in
    omega arith)
    (top-ahead (suc s.key) ss q (λ x i. h x (mathlib.Core.List.Memᴰ.tail i)))

over-before : (x y : Spot) → x.key < all_keys → y.key < all_keys → Over x y → top_before (to_plain x) (to_plain y) ≡ true
over-before x y f g l =
    top-is (to_plain x) (to_plain y) (plain_fits x f) (plain_fits y g) ∙ ap₂ (λ (u v : Spot). ltb (tk u) (tk v)) (plain-key y) (plain-key x) ∙
    lt-ltb (tk y) (tk x) l

pub falls-in-order : (ss : List Spot) → Small ss → rising_from 0 (keys ss) ≡ true → InOrder top_before (plain (by_top ss))
falls-in-order ss h r = in_order top_before Over over-before (by_top ss) (λ s i. h s (by_top-from ss i)) (top-ahead 0 ss r h)

-- ---- lists in order

module _ (before : PlainSpot → PlainSpot → Bool) where
  pub take-order : (k : ℕ) (ss : List PlainSpot) → InOrder before ss → InOrder before (take k ss)
  take-order zero ss o = tt
  take-order (suc k) [] o = tt
  take-order (suc k) (s ∷ ss) o = (every-make (before s) (take k ss) (λ x i. every-mem (before s) ss o.0 (mem-take k ss i)), take-order k ss o.1)

  -- what is left out comes after all that is taken
  pub take-first : (k : ℕ) (ss : List PlainSpot) → InOrder before ss → (s : PlainSpot) → Memᴰ s ss → (Memᴰ s (take k ss) → ⊥) → (r : PlainSpot) → Memᴰ r (take k ss)
      → before r s ≡ true
  take-first zero ss o s i n r j = absurd (mathlib.Core.List.Memᴰ.not-nil j)
  take-first (suc k) [] o s i n r j = absurd (mathlib.Core.List.Memᴰ.not-nil j)
  take-first (suc k) (x ∷ ss) o s i n r j =
      ⊎_elim (λ (e : s ≡ x). absurd (n (mathlib.Core.List.Memᴰ.head e)))
      (λ (h : Memᴰ s ss).
      ⊎_elim (λ (e : r ≡ x). ap (λ (q : PlainSpot). before q s) e ∙ every-mem (before x) ss o.0 h)
      (λ (l : Memᴰ r (take k ss)). take-first k ss o.1 s h (λ m. n (mathlib.Core.List.Memᴰ.tail m)) r l)
      (mathlib.Core.List.Memᴰ.cases_cons j))
      (mathlib.Core.List.Memᴰ.cases_cons i)

  module _ (Q : PlainSpot → Type 0) (apart : (x y : PlainSpot) → Q x → Q y → before x y ≡ true → before y x ≡ true → ⊥) where
    -- two lists in order with the same spots are one
    pub same-order : (xs ys : List PlainSpot) → InOrder before xs → InOrder before ys → ((s : PlainSpot) → Memᴰ s xs → Memᴰ s ys × Q s)
        → ((s : PlainSpot) → Memᴰ s ys → Memᴰ s xs)
        → xs ≡ ys
    same-order [] [] o p f g = refl
    same-order [] (y ∷ ys) o p f g = absurd (mathlib.Core.List.Memᴰ.not-nil (g y (mathlib.Core.List.Memᴰ.head refl)))
    same-order (x ∷ xs) [] o p f g = absurd (mathlib.Core.List.Memᴰ.not-nil (f x (mathlib.Core.List.Memᴰ.head refl)).0)
    same-order (x ∷ xs) (y ∷ ys) o p f g =
        ap₂ (λ (s : PlainSpot) (l : List PlainSpot). s ∷ l) first
        (same-order xs ys o.1 p.1
        (λ s i. (
          ⊎_elim (λ (e : s ≡ y). absurd (later s i (e ∙ sym first))) (λ (j : Memᴰ s ys). j) (mathlib.Core.List.Memᴰ.cases_cons (f s (mathlib.Core.List.Memᴰ.tail i)).0),
          (f s (mathlib.Core.List.Memᴰ.tail i)).1,
        ))
        (λ s i.
        ⊎_elim (λ (e : s ≡ x). absurd (after s i (e ∙ first))) (λ (j : Memᴰ s xs). j) (mathlib.Core.List.Memᴰ.cases_cons (g s (mathlib.Core.List.Memᴰ.tail i)))))
      where
        here : Q x
        here = (f x (mathlib.Core.List.Memᴰ.head refl)).1

        there : Q y
        there = (f y (g y (mathlib.Core.List.Memᴰ.head refl))).1

        first : x ≡ y
        first =
            ⊎_elim (λ (e : x ≡ y). e)
            (λ (i : Memᴰ x ys).
            ⊎_elim (λ (e : y ≡ x). sym e)
            (λ (j : Memᴰ y xs). absurd (apart x y here there (every-mem (before x) xs o.0 j) (every-mem (before y) ys p.0 i)))
            (mathlib.Core.List.Memᴰ.cases_cons (g y (mathlib.Core.List.Memᴰ.head refl))))
            (mathlib.Core.List.Memᴰ.cases_cons (f x (mathlib.Core.List.Memᴰ.head refl)).0)

        later : (s : PlainSpot) → Memᴰ s xs → s ≡ x → ⊥
        later s i e =
            let b : before x x ≡ true = ap (before x) (sym e) ∙ every-mem (before x) xs o.0 i in
            apart x x here here b b

        after : (s : PlainSpot) → Memᴰ s ys → s ≡ y → ⊥
        after s i e =
            let b : before y y ≡ true = ap (before y) (sym e) ∙ every-mem (before y) ys p.0 i in
            apart y y there there b b

    -- of a list in order, those that come before all others of it, in order too, are the first
    pub first-order : (k : ℕ) (xs ys : List PlainSpot) → InOrder before xs → InOrder before ys → ((s : PlainSpot) → Memᴰ s xs → Memᴰ s ys)
        → ((s : PlainSpot) → Memᴰ s ys → Q s)
        → length xs ≤ k
        → (length xs < k → (s : PlainSpot) → Memᴰ s ys → Memᴰ s xs)
        → ((s : PlainSpot) → Memᴰ s ys → (Memᴰ s xs → ⊥) → (r : PlainSpot) → Memᴰ r xs → before r s ≡ true)
        → xs ≡ take k ys
    first-order zero [] ys o p f q l a h = refl
    first-order (suc k) [] [] o p f q l a h = refl
    first-order (suc k) [] (y ∷ ys) o p f q l a h = absurd (mathlib.Core.List.Memᴰ.not-nil (a (omega arith) y (mathlib.Core.List.Memᴰ.head refl)))
    first-order zero (x ∷ xs) ys o p f q l a h = let z : ⊥ = omega arith in absurd z
    first-order (suc k) (x ∷ xs) [] o p f q l a h = absurd (mathlib.Core.List.Memᴰ.not-nil (f x (mathlib.Core.List.Memᴰ.head refl)))
    first-order (suc k) (x ∷ xs) (y ∷ ys) o p f q l a h =
        ap₂ (λ (s : PlainSpot) (r : List PlainSpot). s ∷ r) same
        (first-order k xs ys o.1 p.1
        (λ s i. ⊎_elim (λ (e : s ≡ y). absurd (later s i (e ∙ sym same))) (λ (j : Memᴰ s ys). j) (mathlib.Core.List.Memᴰ.cases_cons (f s (mathlib.Core.List.Memᴰ.tail i))))
        (λ s i. q s (mathlib.Core.List.Memᴰ.tail i))
        (omega arith)
        (λ m s i. rest s i (a (omega arith) s (mathlib.Core.List.Memᴰ.tail i)))
        (λ s i n r j. h s (mathlib.Core.List.Memᴰ.tail i) (λ u. n (rest s i u)) r (mathlib.Core.List.Memᴰ.tail j)))
      where
        there : Q y
        there = q y (mathlib.Core.List.Memᴰ.head refl)

        here : Q x
        here = q x (f x (mathlib.Core.List.Memᴰ.head refl))

        -- y is not given where x comes later
        unless : Memᴰ x ys → Memᴰ y (x ∷ xs) → ⊥
        unless i j =
            let b = every-mem (before y) ys p.0 i in
            ⊎_elim (λ (e : y ≡ x). apart y x there here b (ap₂ before (sym e) e ∙ b))
            (λ (m : Memᴰ y xs). apart y x there here b (every-mem (before x) xs o.0 m))
            (mathlib.Core.List.Memᴰ.cases_cons j)

        same : x ≡ y
        same =
            ⊎_elim (λ (e : x ≡ y). e)
            (λ (i : Memᴰ x ys). absurd (apart y x there here (every-mem (before y) ys p.0 i) (h y (mathlib.Core.List.Memᴰ.head refl) (unless i) x (mathlib.Core.List.Memᴰ.head refl))))
            (mathlib.Core.List.Memᴰ.cases_cons (f x (mathlib.Core.List.Memᴰ.head refl)))

        later : (s : PlainSpot) → Memᴰ s xs → s ≡ x → ⊥
        later s i e =
            let b : before x x ≡ true = ap (before x) (sym e) ∙ every-mem (before x) xs o.0 i in
            apart x x here here b b

        rest : (s : PlainSpot) → Memᴰ s ys → Memᴰ s (x ∷ xs) → Memᴰ s xs
        rest s i j =
            ⊎_elim
            (λ (e : s ≡ x).
            let b : before y y ≡ true = ap (before y) (sym (e ∙ same)) ∙ every-mem (before y) ys p.0 i in
            absurd (apart y y there there b b))
            (λ (m : Memᴰ s xs). m)
            (mathlib.Core.List.Memᴰ.cases_cons j)

-- neither order goes both ways
pub before-apart : (x y : PlainSpot) → SpotFits x → SpotFits y → place_before x y ≡ true → place_before y x ≡ true → ⊥
before-apart x y f g a b =
    let l = ltb-true (to_key_spot x).key (to_key_spot y).key (sym (before-is x y f g) ∙ a) in
    let m = ltb-true (to_key_spot y).key (to_key_spot x).key (sym (before-is y x g f) ∙ b) in
    omega arith

pub higher-apart : (x y : PlainSpot) → SpotFits x → SpotFits y → top_before x y ≡ true → top_before y x ≡ true → ⊥
higher-apart x y f g a b =
    let l = ltb-true (tk (to_key_spot y)) (tk (to_key_spot x)) (sym (top-is x y f g) ∙ a) in
    let m = ltb-true (tk (to_key_spot x)) (tk (to_key_spot y)) (sym (top-is y x g f) ∙ b) in
    omega arith

-- ---- a list of spots as a set

-- what is found is in the list
pub find-listed : (ss : List Spot) → rising_from 0 (keys ss) ≡ true → (s : Spot) → find s.key ss ≡ some s.track → Memᴰ s ss
find-listed ss up s found =
    let r = keys_from_lem ss (find-mem s.key ss found) in
    let same : s.track ≡ r.0.track = some-injective _ _ (sym found ∙ ap (λ (k : ℕ). find k ss) r.2 ∙ find-member 0 ss up r.1) in
    subst (λ (x : Spot). Memᴰ x ss) (sym (spot-eq s r.0 r.2 same)) r.1

-- however a set is listed in place order, there are so many
pub listed-count : (ss : List Spot) (L : PlainSpot → Type 0) → InOrder place_before (plain ss) → ((s : PlainSpot) → Memᴰ s (plain ss) ↔ L s) → ((s : PlainSpot) → L s → SpotFits s)
    → (xs : List PlainSpot)
    → InOrder place_before xs
    → ((s : PlainSpot) → Memᴰ s xs ↔ L s)
    → length xs ≡ length ss
listed-count ss L up all fits xs o each =
    ap length
    (same-order place_before SpotFits before-apart xs (plain ss) o up (λ s i. let h = (each s).0 i in ((all s).1 h, fits s h)) (λ s i. (each s).1 ((all s).0 i)))
    ∙ plain-length ss

-- ---- a sound table

pub alive-fits : (t : List ℕ) (s : PlainSpot) → LiveSpot t s → SpotFits s
alive-fits t s h = record { place = signed-fits s.place h.place_fits; rank = signed-fits s.rank h.rank_fits }

module _ (t : List ℕ) (g : sound t ≡ true) where
  -- only keys of 64 bits are live
  pub live_small : (k a : ℕ) → live t k ≡ some a → k < all_keys
  live_small k a e =
      ⊎_elim (λ (l : all_keys ≤ k). absurd (some-ne-none _ (sym e ∙ live-none t (shaped t g) k (within-high 0 all_keys k l)))) (λ (l : k < all_keys). l)
      (less-or-not all_keys k)

  pub listed-live : (s : Spot) → Memᴰ s (live_spots t) → live t s.key ≡ some s.track
  listed-live s i = sym (live-finds t g s.key) ∙ find-member 0 (live_spots t) (live-rises t g) i

  pub live-listed : (s : Spot) → live t s.key ≡ some s.track → Memᴰ s (live_spots t)
  live-listed s e = find-listed (live_spots t) (live-rises t g) s (live-finds t g s.key ∙ e)

  pub lives-small : Small (live_spots t)
  lives-small s i = live_small s.key s.track (listed-live s i)

  -- the spots that pass a test
  pub kept_small : (f : Spot → Bool) → Small (keep f (live_spots t))
  kept_small f s i = lives-small s (keep-mem f (live_spots t) i).0

  module _ (f : Spot → Bool) (p : PlainSpot) where
    pub kept-live : SpotFits p × Memᴰ (to_key_spot p) (keep f (live_spots t)) → LiveSpot t p × (f (to_key_spot p) ≡ true)
    kept-live h =
        let r = keep-mem f (live_spots t) h.1 in (
          record { place_fits = fits_signed p.place h.0.place; rank_fits = fits_signed p.rank h.0.rank; there = listed-live (to_key_spot p) r.0 },
          r.1,
        )

    pub live-kept : LiveSpot t p → f (to_key_spot p) ≡ true → Memᴰ (to_key_spot p) (keep f (live_spots t))
    live-kept h e = keep-there f (live_spots t) (live-listed (to_key_spot p) h.there) e

  -- all of them, each once
  pub all_live_lem : AllLive t (plain (live_spots t))
  all_live_lem =
      record {
        rise = rises-in-order (live_spots t) lives-small (live-rises t g);
        each =
            λ p. (
              λ i.
                  let r = plain-mem (live_spots t) lives-small p i in
                  record { place_fits = fits_signed p.place r.0.place; rank_fits = fits_signed p.rank r.0.rank; there = listed-live (to_key_spot p) r.1 },
              λ h. mem-plain (live_spots t) p (alive-fits t p h) (live-listed (to_key_spot p) h.there),
            );
      }

  -- however they are listed, there are so many
  pub live-count : (ss : List PlainSpot) → AllLive t ss → length ss ≡ length (live_spots t)
  live-count ss h = listed-count (live_spots t) (LiveSpot t) all_live_lem.rise all_live_lem.each (alive-fits t) ss h.rise h.each
