-- The best few spots of a run: a row comes in at its place, and a pass keeps the best of those seen so far.
-- Assumes nothing.
use mathlib.Core.Path.{◌≡◌, refl, ap, sym, subst, ◌∙◌}
use mathlib.Core.Logic.{◌⊎◌, inl, inr, ⊎_elim}
use mathlib.Core.Bool.{Bool, true, false, cond, ◌&&◌, true≢false}
use mathlib.Core.List.{List, [], ◌∷◌}
use Prim.Native.Nat.{ℕ, ◌+◌, ◌-◌, ◌*◌, ◌/◌, ◌≤◌, ◌<◌}
use native.Mathlib.Omega.{arith}
use lib.Dec.{leb, ltb}
use lib.ListN.{length, get_or, set, length-set}
use lib.Seq.{get_or-set_same, get_or-set_other}
use borrow.Author.Tests.{ltb-false, le-ltb, leb-true, le-leb, lt-leb}
use Rattle.octets.proofs.Order.{same_or_not, less-or-not}
use Rattle.octets.proofs.Tests.{and_left, and_right}
use Rattle.spot.specs.Keys.{word, rank_key, rank_of, top_key}
use Rattle.spot.specs.Spots.{key_at}
use Rattle.spot.specs.Query.{wants_key}
use Rattle.spot.specs.declared.Query.{Query}
use Rattle.spot.proofs.TopKeys.{top-rank}
use Rattle.block.specs.declared.Front.{Front}
use Rattle.block.specs.NodeRules.{ValidBlock}
use Rattle.frontier.specs.Picks.{spots_at, few_key, few_at, key_by, KeysApart, OneOf, Asked, Few, Inserted, few_floor, taken_key}
use Rattle.frontier.proofs.Spots.{Sizes, points-above}

-- ---- a row comes in

-- m rows are to be taken and row i is free: those from there on have moved down, and none of them is above the key
pub record Opened (few₀ : List (List ℕ)) (n key m : ℕ) (few : List (List ℕ)) (i : ℕ) : Type 0 where
  pub grows : n < length few₀ → m ≡ n + 1
  pub full : length few₀ ≤ n → m ≡ n
  pub room : m ≤ length few₀
  pub inside : i < m
  pub long : length few ≡ length few₀
  pub above : (l : ℕ) → l < i → get_or few l [] ≡ get_or few₀ l []
  pub below : (l : ℕ) → i ≤ l → l + 1 < m → get_or few (l + 1) [] ≡ get_or few₀ l []
  pub lower : (l : ℕ) → i ≤ l → l + 1 < m → few_key few₀ l ≤ key

module _ {few₀ : List (List ℕ)} {n key m : ℕ} {few : List (List ℕ)} {i : ℕ} (o : Opened few₀ n key m few i) where
  -- the new row takes the free place
  pub opened-taken : (at : ℕ) → (0 < i → key < few_key few (i - 1)) → Inserted few₀ n key at (set few i (key ∷ at ∷ [])) m
  opened-taken at up =
      let x : List ℕ = key ∷ at ∷ [] in
      record {
        grows = o.grows;
        full = o.full;
        place = i;
        inside = o.inside;
        row = get_or-set_same few i x [] (let h = o.inside in let g = o.room in let k = o.long in omega arith);
        above = λ l y. get_or-set_other few i l x [] (λ e. let z : ⊥ = omega arith in z) ∙ o.above l y;
        below = λ l y w. get_or-set_other few i (l + 1) x [] (λ e. let z : ⊥ = omega arith in z) ∙ o.below l y w;
        higher = λ y. let u = up y in omega (arith, ap (λ (r : List ℕ). get_or r 0 0) (o.above (i - 1) (omega arith)));
        lower = o.lower;
        long = length-set few i x ∙ o.long;
      }

-- ---- the floor

and_no : (x : Bool) → x && false ≡ false
and_no true = refl
and_no false = refl

module _ (q : Query) (k most floor : ℕ) where
  -- turned away by one of the three questions
  pub kept-lower : top_key k < floor → taken_key q k most floor ≡ false
  kept-lower l = ap (λ (x : Bool). x && (leb (top_key k) most && wants_key q k)) (lt-leb floor (top_key k) l)

  pub kept-over : most < top_key k → taken_key q k most floor ≡ false
  kept-over l = ap (λ (x : Bool). leb floor (top_key k) && (x && wants_key q k)) (lt-leb (top_key k) most l) ∙ and_no (leb floor (top_key k))

  pub taken-wanted : floor ≤ top_key k → top_key k ≤ most → wants_key q k ≡ taken_key q k most floor
  taken-wanted l m =
      sym (ap (λ (x : Bool). x && (leb (top_key k) most && wants_key q k)) (le-leb floor (top_key k) l) ∙ ap (λ (x : Bool). x && wants_key q k) (le-leb (top_key k) most m))

  taken-says : taken_key q k most floor ≡ true → (floor ≤ top_key k) × (top_key k ≤ most) × (wants_key q k ≡ true)
  taken-says y =
      let r = and_right (leb floor (top_key k)) (leb (top_key k) most && wants_key q k) y in (
        leb-true floor (top_key k) (and_left (leb floor (top_key k)) (leb (top_key k) most && wants_key q k) y),
        leb-true (top_key k) most (and_left (leb (top_key k) most) (wants_key q k) r),
        and_right (leb (top_key k) most) (wants_key q k) r,
      )

-- a key is under the floor only where all rows are taken
pub floor-full : (few : List (List ℕ)) (n x : ℕ) → n ≤ length few → x < few_floor few n → (n ≡ length few) × (x < few_key few (n - 1))
floor-full few n x room l = go (ltb n (length few)) refl l
  where
    go : (b : Bool) → ltb n (length few) ≡ b → x < cond b 0 (few_key few (n - 1)) → (n ≡ length few) × (x < few_key few (n - 1))
    go true e w = let z : ⊥ = omega arith in absurd z
    go false e w = let y = ltb-false n (length few) e in (omega arith, w)

pub floor-last : (few : List (List ℕ)) (n : ℕ) → length few ≤ n → few_floor few n ≡ few_key few (n - 1)
floor-last few n l = ap (λ (b : Bool). cond b 0 (few_key few (n - 1))) (le-ltb n (length few) l)

-- ---- a pass

module _ (t : List ℕ) (at : ℕ) (q : Query) (most : ℕ) where
  pub few-none : (few : List (List ℕ)) → Few t at 0 q most few 0
  few-none few =
      record {
        room = omega arith;
        index = λ l y. let z : ⊥ = omega arith in absurd z;
        key = λ l y. let z : ⊥ = omega arith in absurd z;
        asked = λ l y. let z : ⊥ = omega arith in absurd z;
        falls = λ a b x y. let z : ⊥ = omega arith in absurd z;
        kept = λ j y. let z : ⊥ = omega arith in absurd z;
      }

  module _ {i n : ℕ} {few : List (List ℕ)} (h : Few t at i q most few n) where
    -- spots under the floor are passed over
    pub few_past : (m : ℕ) → i ≤ m → ((j : ℕ) → i ≤ j → j < m → Asked t at q most j → key_by t at j < few_floor few n) → Few t at m q most few n
    few_past m up low =
        record {
          room = h.room;
          index = λ l y. let e = h.index l y in omega arith;
          key = h.key;
          asked = h.asked;
          falls = h.falls;
          kept = λ j y a.
              ⊎_elim (λ (x : i ≤ j). inr (floor-full few n (key_by t at j) h.room (low j x y a))) (λ (x : j < i). h.kept j x a) (less-or-not i j);
        }

    module _ {k floor : ℕ} (e : k ≡ key_at t (at + 12 * i)) (is : floor ≡ few_floor few n) where
      pub few-skip : taken_key q k most floor ≡ false → Few t at (i + 1) q most few n
      few-skip y =
          few_past (i + 1) (omega arith)
          (λ j x w a.
          let g : key_at t (at + 12 * j) ≡ k = let s : j ≡ i = omega arith in ap (λ (z : ℕ). key_at t (at + 12 * z)) s ∙ sym e in
          ⊎_elim
          (λ (z : floor ≤ top_key k).
          absurd (true≢false (sym (ap (wants_key q) (sym g) ∙ a.0) ∙ taken-wanted q k most floor z (let m = a.1 in omega (arith, ap top_key g)) ∙ y)))
          (λ (z : top_key k < floor). omega (arith, ap top_key g))
          (less-or-not floor (top_key k)))

      module _ {key r : ℕ} {few' : List (List ℕ)} (y : taken_key q k most floor ≡ true) (s : key ≡ top_key k) (some : 0 < length few) (m : ℕ) (apart : KeysApart t at m) (inside : i < m)
          (v : Inserted few n key i few' r) where
        abbrev p : ℕ
        p = v.place

        own : key ≡ key_by t at i
        own = s ∙ ap top_key e

        counts : (n ≤ r) × (r ≤ n + 1) × (r ≤ length few)
        counts =
            let g = h.room in
            ⊎_elim (λ (l : length few ≤ n). let z = v.full l in (omega arith, omega arith, omega arith)) (λ (l : n < length few). let z = v.grows l in (omega arith, omega arith, omega arith))
            (less-or-not (length few) n)

        differ : (l : ℕ) → l < n → few_key few l ≡ key → ⊥
        differ l w z = apart.differ (few_at few l) i (h.index l w) inside (sym (h.key l w) ∙ z ∙ own)

        high : (l : ℕ) → l < p → key < few_key few l
        high l w =
            let c = counts in
            let g = v.higher (omega arith) in
            let u = v.inside in
            ⊎_elim (λ (z : l ≡ p - 1). omega (arith, ap (few_key few) z)) (λ (d : l ≡ p - 1 → ⊥). let f = h.falls l (p - 1) (omega (arith, d)) (omega (arith, c.1)) in omega arith) (same_or_not l (p - 1))

        low : (l : ℕ) → p ≤ l → l < n → few_key few l < key
        low l w x =
            let d = differ l x in
            ⊎_elim (λ (g : r ≤ l + 1). let f = end g in omega (arith, d)) (λ (g : l + 1 < r). let f = v.lower l w g in omega (arith, d)) (less-or-not r (l + 1))
          where
            end : r ≤ l + 1 → few_key few l ≤ key
            end g =
                ⊎_elim
                (λ (f : length few ≤ n).
                let u : l ≡ n - 1 = let z = v.full f in omega arith in
                omega (arith, floor-last few n f, is, s, (taken-says q k most floor y).0, ap (few_key few) u))
                (λ (f : n < length few). let z : ⊥ = omega (arith, v.grows f) in absurd z)
                (less-or-not (length few) n)

        -- what holds of the rows where they are now
        each : (P : ℕ → List ℕ → Type 0) → ((l : ℕ) → l < p → l < n → P l (get_or few l [])) → P p (key ∷ i ∷ []) → ((l : ℕ) → p ≤ l → l < n → l + 1 < r → P (l + 1) (get_or few l [])) → (l : ℕ) → l < r → P l (get_or few' l [])
        each P over here under l w =
            let c = counts in
            let u = v.inside in
            ⊎_elim
            (λ (g : p ≤ l).
            ⊎_elim (λ (z : l ≡ p). subst (λ (x : ℕ). P x (get_or few' x [])) (sym z) (subst (P p) (sym v.row) here))
            (λ (d : l ≡ p → ⊥).
            let z : l - 1 + 1 ≡ l = omega (arith, d) in
            let o : p ≤ l - 1 = omega (arith, d) in
            let a : l - 1 + 1 < r = omega (arith, d) in
            subst (λ (x : ℕ). P x (get_or few' x [])) z (subst (P (l - 1 + 1)) (sym (v.below (l - 1) o a)) (under (l - 1) o (omega (arith, c.1, d)) a)))
            (same_or_not l p))
            (λ (g : l < p). subst (P l) (sym (v.above l g)) (over l g (omega (arith, c.1))))
            (less-or-not p l)

        now-high : (l : ℕ) → l < p → key < few_key few' l
        now-high l w = let g = high l w in omega (arith, ap (λ (x : List ℕ). get_or x 0 0) (v.above l w))

        now-own : few_key few' p ≡ key
        now-own = ap (λ (x : List ℕ). get_or x 0 0) v.row

        now-under : (l : ℕ) → p < l → l < r → few_key few' l ≡ few_key few (l - 1)
        now-under l w x =
            let z : l - 1 + 1 ≡ l = omega arith in
            ap (few_key few') (sym z) ∙ ap (λ (u : List ℕ). get_or u 0 0) (v.below (l - 1) (omega arith) (omega arith))

        now-low : (l : ℕ) → p < l → l < r → few_key few' l < key
        now-low l w x = let c = counts in let g = low (l - 1) (omega arith) (omega (arith, c.1)) in omega (arith, now-under l w x)

        now-falls : (a b : ℕ) → a < b → b < r → few_key few' b < few_key few' a
        now-falls a b w x =
            let c = counts in
            let u = v.inside in
            ⊎_elim
            (λ (g : b ≤ p).
            ⊎_elim (λ (z : b ≡ p). let f = now-high a (omega arith) in omega (arith, now-own, ap (few_key few') z))
            (λ (d : b ≡ p → ⊥).
            let f = h.falls a b w (omega (arith, c.1, d)) in
            omega (arith, ap (λ (y : List ℕ). get_or y 0 0) (v.above a (omega arith)), ap (λ (y : List ℕ). get_or y 0 0) (v.above b (omega (arith, d)))))
            (same_or_not b p))
            (λ (g : p < b).
            ⊎_elim
            (λ (z : a ≤ p).
            ⊎_elim (λ (o : a ≡ p). let f = now-low b g x in omega (arith, now-own, ap (few_key few') o)) (λ (d : a ≡ p → ⊥). let f = now-low b g x in let e = now-high a (omega (arith, d)) in omega arith) (same_or_not a p))
            (λ (z : p < a). let f = h.falls (a - 1) (b - 1) (omega arith) (omega (arith, c.1)) in omega (arith, now-under a z (omega arith), now-under b g x))
            (less-or-not a p))
            (less-or-not b p)

        -- where all rows are taken, the last one is higher than before
        last_up : length few ≤ n → few_key few (n - 1) < few_key few' (r - 1)
        last_up g =
            let z = v.full g in
            let u = v.inside in
            ⊎_elim (λ (o : r - 1 ≡ p). let f = low (n - 1) (omega arith) (omega arith) in omega (arith, now-own, ap (few_key few') o))
            (λ (d : r - 1 ≡ p → ⊥).
            let w : p < r - 1 = omega (arith, d) in
            let f = h.falls (r - 1 - 1) (n - 1) (omega arith) (omega arith) in
            omega (arith, now-under (r - 1) w (omega arith)))
            (same_or_not (r - 1) p)

        now-kept : (j : ℕ) → j < i + 1 → Asked t at q most j → ((l : ℕ) × (l < r) × (few_at few' l ≡ j)) ⊎ ((r ≡ length few') × (key_by t at j < few_key few' (r - 1)))
        now-kept j w a =
            ⊎_elim (λ (z : j ≡ i). inl (p, v.inside, ap (λ (x : List ℕ). get_or x 1 0) v.row ∙ sym z))
            (λ (d : j ≡ i → ⊥). ⊎_elim held (λ u. inr (out u.0 u.1)) (h.kept j (omega (arith, d)) a))
            (same_or_not j i)
          where
            out : n ≡ length few → key_by t at j < few_key few (n - 1) → (r ≡ length few') × (key_by t at j < few_key few' (r - 1))
            out g x = let u = last_up (omega arith) in let z = v.full (omega arith) in let o = v.long in (omega arith, omega arith)

            held : (l : ℕ) × (l < n) × (few_at few l ≡ j) → ((l : ℕ) × (l < r) × (few_at few' l ≡ j)) ⊎ ((r ≡ length few') × (key_by t at j < few_key few' (r - 1)))
            held u =
                let l = u.0 in
                let c = counts in
                ⊎_elim
                (λ (g : p ≤ l).
                ⊎_elim (λ (x : r ≤ l + 1). inr (last x)) (λ (x : l + 1 < r). inl (l + 1, x, ap (λ (z : List ℕ). get_or z 1 0) (v.below l g x) ∙ u.2)) (less-or-not r (l + 1)))
                (λ (g : l < p). inl (l, omega (arith, v.inside), ap (λ (z : List ℕ). get_or z 1 0) (v.above l g) ∙ u.2))
                (less-or-not p l)
              where
                last : r ≤ u.0 + 1 → (r ≡ length few') × (key_by t at j < few_key few' (r - 1))
                last x =
                    ⊎_elim
                    (λ (f : length few ≤ n).
                    let z = v.full f in
                    let o = v.long in
                    let b = last_up f in
                    let g : u.0 ≡ n - 1 = omega (arith, u.1) in
                    let c = counts in
                    (omega (arith, c.2), omega (arith, ap (few_key few) g, h.key u.0 u.1, ap (key_by t at) u.2)))
                    (λ (f : n < length few). let z : ⊥ = omega (arith, v.grows f, u.1) in absurd z)
                    (less-or-not (length few) n)

        pub few-taken : Few t at (i + 1) q most few' r
        few-taken =
            let a = taken-says q k most floor y in
            record {
              room = omega (arith, counts.2, v.long);
              index = each (λ l x. get_or x 1 0 < i + 1) (λ l w x. let z = h.index l x in omega arith) (omega arith) (λ l w x g. let z = h.index l x in omega arith);
              key = each (λ l x. get_or x 0 0 ≡ key_by t at (get_or x 1 0)) (λ l w x. h.key l x) own (λ l w x g. h.key l x);
              asked =
                  each (λ l x. Asked t at q most (get_or x 1 0)) (λ l w x. h.asked l x) (ap (wants_key q) (sym e) ∙ a.2, omega (arith, a.1, ap top_key e)) (λ l w x g. h.asked l x);
              falls = now-falls;
              kept = now-kept;
            }

-- ---- the turns of a pass

-- where a pass is, with the floor by which it turns spots away
pub record Passed (t : List ℕ) (at i : ℕ) (q : Query) (most len : ℕ) (few : List (List ℕ)) (n floor : ℕ) : Type 0 where
  pub long : length few ≡ len
  pub floor-is : floor ≡ few_floor few n
  pub best : Few t at i q most few n

module _ {t : List ℕ} {at i : ℕ} {q : Query} {most len : ℕ} {few : List (List ℕ)} {n floor k : ℕ} (h : Passed t at i q most len few n floor) (e : k ≡ key_at t (at + 12 * i)) where
  pub passed-skip : {few' : List (List ℕ)} {n' floor' : ℕ} → taken_key q k most floor ≡ false → few' ≡ few → n' ≡ n → floor' ≡ floor → Passed t at (i + 1) q most len few' n' floor'
  passed-skip {few'} {n'} {floor'} y a b c =
      subst (λ (f : List (List ℕ)). Passed t at (i + 1) q most len f n' floor') (sym a)
      (subst (λ (m : ℕ). Passed t at (i + 1) q most len few m floor') (sym b)
      (record { long = h.long; floor-is = c ∙ h.floor-is; best = few-skip t at q most h.best e h.floor-is y }))

  pub passed-taken : {few₁ few' : List (List ℕ)} {key r n' floor₁ floor' : ℕ} → 0 < len → (m : ℕ) → KeysApart t at m → i < m → taken_key q k most floor ≡ true → key ≡ top_key k → Inserted few n key i few₁ r → floor₁ ≡ few_floor few₁ r
      → few' ≡ few₁ → n' ≡ r → floor' ≡ floor₁ → Passed t at (i + 1) q most len few' n' floor'
  passed-taken {few₁} {few'} {key} {r} {n'} {floor₁} {floor'} some m apart inside y s v g a b c =
      subst (λ (f : List (List ℕ)). Passed t at (i + 1) q most len f n' floor') (sym a)
      (subst (λ (x : ℕ). Passed t at (i + 1) q most len few₁ x floor') (sym b)
      (record {
        long = v.long ∙ h.long;
        floor-is = c ∙ g;
        best = few-taken t at q most h.best e h.floor-is y s (let l = h.long in omega arith) m apart inside v;
      }))

-- ---- the spots of a node

pub apart-first : {t : List ℕ} {at n : ℕ} (m : ℕ) → m ≤ n → KeysApart t at n → KeysApart t at m
apart-first m l h = record { differ = λ i j x y. h.differ i j x (omega arith) }

pub one-first : {t : List ℕ} {at n k : ℕ} → 0 < n → k ≡ key_at t at → OneOf t at n k
one-first {t} {at} y e = let f : at ≡ at + 12 * 0 = omega arith in record { index = 0; inside = y; is = e ∙ ap (key_at t) f }

-- where all rows are taken by points of a rank above some point's, no insert can come in
pub inserts-past : (t : List ℕ) (b : ℕ) (h : Front) → Sizes t b h → ValidBlock t b → (q : Query) (most : ℕ) {few : List (List ℕ)} {n k : ℕ} → Few t (spots_at t b) h.p q most few n
    → OneOf t (spots_at t b) h.p k → rank_of k < few_floor few n / word → Few t (spots_at t b) (h.p + h.i) q most few n
inserts-past t b h z v q most {few} {n} best one up = few_past t at q most best (h.p + h.i) (omega arith) (λ j x y a. under j x y)
  where
    at : ℕ
    at = spots_at t b

    under : (j : ℕ) → h.p ≤ j → j < h.p + h.i → key_by t at j < few_floor few n
    under j x y =
        let g = points-above t b h z v one.index (j - h.p) one.inside (omega arith) in
        let e : at + 12 * h.p + 12 * (j - h.p) ≡ at + 12 * j = omega arith in
        omega (arith, g, up, top-rank (key_at t (at + 12 * j)), ap (λ (k : ℕ). rank_key (key_at t k)) e, ap rank_key one.is)
