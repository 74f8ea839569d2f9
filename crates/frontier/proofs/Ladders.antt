-- The next spots of a node: from the rows of a pass to one number, and from it to one spot after the other.
-- Assumes nothing.
use mathlib.Core.Path.{◌≡◌, refl, ap, sym, subst, ◌∙◌}
use mathlib.Core.Logic.{⊎_elim}
use mathlib.Core.Bool.{true}
use mathlib.Core.List.{List, [], ◌∷◌, Memᴰ}
use Prim.Native.Nat.{ℕ, zero, suc, ◌+◌, ◌-◌, ◌*◌, ◌/◌, ◌%◌, ◌≤◌, ◌<◌}
use native.Mathlib.Omega.{arith}
use lib.ListN.{length}
use Rattle.std.specs.Prelude.{Option, is_some}
use borrow.Author.Tests.{ltb-true, lt-ltb}
use Rattle.octets.proofs.Order.{same_or_not, less-or-not}
use Rattle.octets.proofs.Tests.{keep-mem, keep-there}
use Rattle.spot.specs.Keys.{top_key}
use Rattle.spot.specs.Spots.{key_at}
use Rattle.spot.specs.Query.{wants_key, wants}
use Rattle.spot.specs.declared.Spot.{Spot}
use Rattle.spot.specs.declared.Query.{Query}
use Rattle.block.specs.Node.{store_of}
use Rattle.block.specs.NodeRules.{ValidBlock}
use Rattle.frontier.specs.declared.Pick.{Pick}
use Rattle.frontier.specs.Picks.{spots_of, spots_at, spot_count, spot_by, wanted_in, Rung, Ladder, packed, Laddered, pick_key, pick_at, pick_more, PickedUnder, few_key, few_at, key_by, Asked, Few, indices, Packable, FirstOf}
use Rattle.frontier.proofs.Spots.{key-by, spot-at, spot-found, spots-most}

-- ---- indices as one number

abbrev Low : List ℕ → Type 0
Low [] = Unit {0}
Low (j ∷ js) = (j < 128) × Low js

-- 2 * 128 ^ k
abbrev room_for : ℕ → ℕ
room_for zero = 2
room_for (suc k) = 128 * room_for k

room-some : (k : ℕ) → 1 < room_for k
room-some zero = omega arith
room-some (suc k) = let h = room-some k in omega arith

packed-low : (k : ℕ) (js : List ℕ) → length js ≤ k → Low js → packed js < room_for k
packed-low k [] l h = room-some k
packed-low zero (j ∷ js) l h = let z : ⊥ = omega arith in absurd z
packed-low (suc k) (j ∷ js) l h = let r = packed-low k js (omega arith) h.1 in omega (arith, h.0)

-- six of them take 43 bits
packed-small : (js : List ℕ) → length js ≤ 6 → Low js → packed js < 8796093022208
packed-small js l h = packed-low 6 js l h

ladder-low : (t : List ℕ) (b : ℕ) (q : Query) (r : ℕ) (js : List ℕ) → ValidBlock t b → Ladder t b q r js → Low js
ladder-low t b q r [] v h = tt
ladder-low t b q r (j ∷ js) v h = (omega (arith, h.0.index, spots-most t b v), ladder-low t b q (top_key (spot_by t b j).key) js v h.1)

pub laddered-small : {t : List ℕ} {b : ℕ} {q : Query} {r more : ℕ} → ValidBlock t b → Laddered t b q r more → more < 8796093022208
laddered-small {t} {b} {q} {r} v w = let l = packed-small w.next w.few (ladder-low t b q r w.next v w.ladder) in omega (arith, w.is)

-- ---- the rows of a pass as one number

indices-long : (few : List (List ℕ)) (l k : ℕ) → length (indices few l k) ≡ k
indices-long few l zero = refl
indices-long few l (suc k) = ap suc (indices-long few (l + 1) k)

indices-low : (few : List (List ℕ)) (l k : ℕ) → ((x : ℕ) → l ≤ x → x < l + k → few_at few x < 128) → Low (indices few l k)
indices-low few l zero h = tt
indices-low few l (suc k) h = (h l (omega arith) (omega arith), indices-low few (l + 1) k (λ x y z. h x (omega arith) (omega arith)))

-- rows i to n - 1 are packed
pub record Packs (few : List (List ℕ)) (n more i : ℕ) : Type 0 where
  pub some : 1 ≤ i
  pub most : i ≤ n
  pub is : more ≡ packed (indices few i (n - i))

module _ (few : List (List ℕ)) (n : ℕ) where
  module _ {more i : ℕ} (h : Packs few n more i) where
    pub pack-small : Packable few n → more < 8796093022208
    pack-small p =
        let a = h.some in
        let b = h.most in
        let c = p.most in
        let l = packed-small (indices few i (n - i)) (omega (arith, indices-long few i (n - i))) (indices-low few i (n - i) (λ x y z. p.low x (omega arith))) in
        omega (arith, h.is)

    pub pack-next : 1 < i → Packs few n (few_at few (i - 1) + 128 * more) (i - 1)
    pack-next l =
        let b = h.most in
        record {
          some = omega arith;
          most = omega arith;
          is =
              let e : n - (i - 1) ≡ suc (n - i) = omega arith in
              let f : i - 1 + 1 ≡ i = omega arith in
              ap (λ (x : ℕ). few_at few (i - 1) + 128 * x) h.is ∙ ap (λ (x : ℕ). few_at few (i - 1) + 128 * packed (indices few x (n - i))) (sym f)
              ∙ ap (λ (k : ℕ). packed (indices few (i - 1) k)) (sym e);
        }

    pub pack-end : (1 < i → ⊥) → more ≡ packed (indices few 1 (n - 1))
    pack-end l = let a = h.some in let e : i ≡ 1 = omega (arith, l) in h.is ∙ ap (λ (x : ℕ). packed (indices few x (n - x))) e

-- ---- each row is the best under the one before it

module _ {t : List ℕ} {b : ℕ} {q : Query} {most : ℕ} {few : List (List ℕ)} {m : ℕ} (v : ValidBlock t b) (h : Few t (spots_at t b) (spot_count t b) q most few m) where
  key-is : (l : ℕ) → l < m → top_key (spot_by t b (few_at few l)).key ≡ few_key few l
  key-is l w = ap top_key (key-by t b (few_at few l)) ∙ sym (h.key l w)

  under_last : (l : ℕ) → l < m → few_key few (m - 1) ≤ few_key few l
  under_last l w = ⊎_elim (λ (e : l ≡ m - 1). omega (arith, ap (few_key few) e)) (λ (d : l ≡ m - 1 → ⊥). let f = h.falls l (m - 1) (omega (arith, d)) (omega arith) in omega arith) (same_or_not l (m - 1))

  -- a wanted spot by its index
  sits : (s : Spot) → Memᴰ s (wanted_in t q b) → top_key s.key ≤ most → (j : ℕ) × (j < spot_count t b) × (top_key s.key ≡ key_by t (spots_at t b) j) × Asked t (spots_at t b) q most j
  sits s i low =
      let k = keep-mem (wants q) (spots_of (store_of t b)) i in
      let j = spot-found t b v k.0 in
      let e : s.key ≡ key_at t (spots_at t b + 12 * j.0) = ap (λ (x : Spot). x.key) j.2 ∙ key-by t b j.0 in
      (j.0, j.1, ap top_key e, (ap (wants_key q) (sym e) ∙ k.1, omega (arith, ap top_key e)))

  rung : (l r : ℕ) → l < m → r ≤ most + 1 → few_key few l < r → ((a : ℕ) → a < l → r ≤ few_key few a) → Rung t b q r (few_at few l)
  rung l r w top low up =
      record {
        index = h.index l w;
        wanted = keep-there (wants q) (spots_of (store_of t b)) (spot-at t b v (few_at few l) (h.index l w)) (ap (wants_key q) (key-by t b (few_at few l)) ∙ (h.asked l w).0);
        low = omega (arith, key-is l w);
        over = λ s i y. let j = sits s i (omega arith) in
            let e = key-is l w in
            ⊎_elim
            (λ u.
            let k : top_key s.key ≡ few_key few u.0 = j.2 ∙ sym (h.key u.0 u.1 ∙ ap (key_by t (spots_at t b)) u.2) in
            ⊎_elim
            (λ (g : l ≤ u.0).
            ⊎_elim (λ (z : l ≡ u.0). omega (arith, ap (few_key few) z)) (λ (d : l ≡ u.0 → ⊥). let f = h.falls l u.0 (omega (arith, d)) u.1 in omega arith) (same_or_not l u.0))
            (λ (g : u.0 < l). let z : ⊥ = omega (arith, up u.0 g) in absurd z)
            (less-or-not l u.0))
            (λ u. let f = under_last l w in omega (arith, u.1, j.2))
            (h.kept j.0 j.1 j.3);
      }

  first-rung : 0 < m → Rung t b q (most + 1) (few_at few 0)
  first-rung w = rung 0 (most + 1) w (omega arith) (omega (arith, h.key 0 w, (h.asked 0 w).1)) (λ a y. let z : ⊥ = omega arith in absurd z)

  next-rung : (l : ℕ) → 0 < l → l < m → Rung t b q (few_key few (l - 1)) (few_at few l)
  next-rung l some w =
      rung l (few_key few (l - 1)) w (omega (arith, h.key (l - 1) (omega arith), (h.asked (l - 1) (omega arith)).1)) (h.falls (l - 1) l (omega arith) w)
      (λ a y. ⊎_elim (λ (e : a ≡ l - 1). omega (arith, ap (few_key few) e)) (λ (d : a ≡ l - 1 → ⊥). let f = h.falls a (l - 1) (omega (arith, d)) (omega arith) in omega arith) (same_or_not a (l - 1)))

  rows-ladder : (k l : ℕ) → 0 < l → l + k ≡ m → Ladder t b q (few_key few (l - 1)) (indices few l k)
  rows-ladder zero l some e = tt
  rows-ladder (suc k) l some e =
      let f : l + 1 - 1 ≡ l = omega arith in
      (next-rung l some (omega arith), subst (λ (r : ℕ). Ladder t b q r (indices few (l + 1) k)) (ap (few_key few) f ∙ sym (key-is l (omega arith))) (rows-ladder k (l + 1) (omega arith) (omega arith)))

  pub few-packable : length few ≤ 7 → Packable few m
  few-packable l = record { most = let r = h.room in omega arith; room = h.room; low = λ x y. let i = h.index x y in let s = spots-most t b v in omega arith }

  -- the first row is the best
  pub few-picked : {p : Option Pick} → 0 < length few → length few ≤ 7 → FirstOf few m p → PickedUnder t b q (most + 1) (wanted_in t q b) p
  few-picked {p} some room f =
      record {
        index = λ y. let w = any y in let i = (first-rung w).index in omega (arith, f.at w);
        key = λ y. let w = any y in f.key w ∙ sym (key-is 0 w) ∙ ap (λ (j : ℕ). top_key (spot_by t b j).key) (sym (f.at w));
        under =
            record {
              held = λ y. let w = any y in
                  let g = first-rung w in
                  subst (λ (j : ℕ). Memᴰ (spot_by t b j) (wanted_in t q b) × (top_key (spot_by t b j).key < most + 1)) (sym (f.at w)) (g.wanted, g.low);
              some = λ s i y. f.there ∙ lt-ltb 0 m (found s i y);
              over = λ s i y. let w = found s i y in
                  subst (λ (j : ℕ). top_key s.key ≤ top_key (spot_by t b j).key) (sym (f.at w)) ((first-rung w).over s i y);
            };
        more = λ y.
            let w = any y in
            let r = h.room in
            record {
              next = indices few 1 (m - 1);
              few = omega (arith, indices-long few 1 (m - 1));
              is = f.more w;
              ladder = subst (λ (r : ℕ). Ladder t b q r (indices few 1 (m - 1))) (sym (f.key w)) (rows-ladder (m - 1) 1 (omega arith) (omega arith));
            };
      }
    where
      any : is_some p ≡ true → 0 < m
      any y = ltb-true 0 m (sym f.there ∙ y)

      found : (s : Spot) → Memᴰ s (wanted_in t q b) → top_key s.key < most + 1 → 0 < m
      found s i y =
          let j = sits s i (omega arith) in
          ⊎_elim (λ u. omega (arith, u.1)) (λ u. omega (arith, u.0)) (h.kept j.0 j.1 j.3)

-- ---- one spot after the other

-- the first of the next ones, and those after it
pub record Leading (t : List ℕ) (b : ℕ) (q : Query) (r more : ℕ) : Type 0 where
  pub rung : Rung t b q r (more % 128)
  pub rest : Laddered t b q (top_key (spot_by t b (more % 128)).key) (more / 128)

pub ladder-leads : {t : List ℕ} {b : ℕ} {q : Query} {r more : ℕ} → ValidBlock t b → Laddered t b q r more → (more ≡ 1 → ⊥) → Leading t b q r more
ladder-leads {t} {b} {q} {r} {more} v w d = go w.next w.few w.is w.ladder
  where
    go : (js : List ℕ) → length js ≤ 6 → more ≡ packed js → Ladder t b q r js → Leading t b q r more
    go [] l e h = absurd (d e)
    go (j ∷ js) l e h =
        let low : j < 128 = omega (arith, h.0.index, spots-most t b v) in
        let x : more % 128 ≡ j = omega (arith, e) in
        let y : more / 128 ≡ packed js = omega (arith, e) in
        record {
          rung = subst (Rung t b q r) (sym x) h.0;
          rest = subst (λ (i : ℕ). Laddered t b q (top_key (spot_by t b i).key) (more / 128)) (sym x) (record { next = js; few = omega arith; is = y; ladder = h.1 });
        }

pub leading-picked : {t : List ℕ} {b : ℕ} {q : Query} {r more : ℕ} {p : Option Pick} → Leading t b q r more → is_some p ≡ true → pick_key p ≡ top_key (spot_by t b (more % 128)).key → pick_at p ≡ more % 128 → pick_more p ≡ more / 128
    → PickedUnder t b q r (wanted_in t q b) p
leading-picked {t} {b} {q} {r} {more} {p} w there key at rest =
    record {
      index = λ y. let i = w.rung.index in omega arith;
      key = λ y. key ∙ ap (λ (j : ℕ). top_key (spot_by t b j).key) (sym at);
      under =
          record {
            held = λ y. subst (λ (j : ℕ). Memᴰ (spot_by t b j) (wanted_in t q b) × (top_key (spot_by t b j).key < r)) (sym at) (w.rung.wanted, w.rung.low);
            some = λ s i y. there;
            over = λ s i y. subst (λ (j : ℕ). top_key s.key ≤ top_key (spot_by t b j).key) (sym at) (w.rung.over s i y);
          };
      more = λ y. subst (Laddered t b q (pick_key p)) (sym rest) (subst (λ (k : ℕ). Laddered t b q k (more / 128)) (sym key) w.rest);
    }
