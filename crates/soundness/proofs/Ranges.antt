-- What `in_range` tests: of keys that rise the first and the last decide; and where the keys of a node stand in the table.
-- Assumes nothing.
use mathlib.Core.Path.{◌≡◌, refl, sym, ap, ap₂, subst, ◌∙◌}
use mathlib.Core.Logic.{⊎_elim}
use mathlib.Core.Bool.{Bool, true, ◌&&◌, and-true}
use mathlib.Core.List.Memᴰ
use mathlib.Core.List.{List, [], ◌∷◌, ◌++◌, Memᴰ}
use Prim.Native.Nat.{ℕ, suc, ◌+◌, ◌-◌, ◌*◌, ◌≤◌, ◌<◌}
use native.Mathlib.Nat.{mul-zero}
use native.Mathlib.Omega.{arith}
use lib.Dec.{leb, ltb}
use lib.ListN.{length}
use borrow.Author.Tests.{lt-ltb, le-leb, leb-true, ltb-true}
use Rattle.octets.specs.Lists.{every, records, rest, rising}
use Rattle.octets.specs.Bytes.{be}
use Rattle.octets.proofs.Order.{stride}
use Rattle.octets.proofs.Tests.{bool-ext, and_left, and_right, and_both, every-mem, every-make, every_append}
use Rattle.octets.proofs.Records.{records-more}
use Rattle.octets.proofs.Rising.{rising-rest, rising-least, rising-before}
use Rattle.spot.specs.Keys.{within, limited}
use Rattle.spot.specs.Spots.{keys, key_at, limited_from}
use Rattle.spot.proofs.Limits.{limited-each}
use Rattle.spot.proofs.Places.{within-yes, within-from, within-to}
use Rattle.spot.proofs.Buffers.{keys-records}
use Rattle.block.specs.declared.Asked.TheVariants.{Root}
use Rattle.block.specs.declared.Front.{Front}
use Rattle.block.specs.Table.{version1, block}
use Rattle.block.specs.Node.{node_of, node_from, store_of, points_from, inserts_from, deletes_from}
use Rattle.block.specs.NodeRules.{names, lows, ValidBlock}
use Rattle.block.specs.Access.{front_of, used_of}
use Rattle.block.proofs.Shut.{all2}
use Rattle.block.proofs.Views.{rest-lows}
use Rattle.block.proofs.Facts.{node-facts}
use Rattle.block.proofs.Frames.{part-is}
use Rattle.tree.specs.Sound.{in_range}
use Rattle.visit.specs.declared.Span.{Span}
use Rattle.visit.specs.Visit.{keys_from, Ready, end_of, part_of}
use Rattle.visit.proofs.Runs.{keys-run, Runs, runs_of, points-ready, inserts-ready, deletes-ready}
use Rattle.visit.proofs.Children.{lent, few-children}

-- ---- keys that rise

module _ (f : ℕ → ℕ) (w at : ℕ) where
  -- those between the first and the last are in the range if these are
  ends-decide : (lo hi k : ℕ) → rising (records f w (suc k) at) ≡ true
      → leb lo (f at) && ltb (f (at + w * k)) hi ≡ every (within lo hi) (records f w (suc k) at)
  ends-decide lo hi k h =
      bool-ext (leb lo first && ltb last hi) (every (within lo hi) xs)
      (λ e.
      let a : lo ≤ first = leb-true lo first (and_left (leb lo first) (ltb last hi) e) in
      let b : last < hi = ltb-true last hi (and_right (leb lo first) (ltb last hi) e) in
      every-make (within lo hi) xs (λ x i. within-yes lo hi x (omega (arith, from x i)) (omega (arith, to x i))))
      (λ e.
      let a : within lo hi first ≡ true = every-mem (within lo hi) xs e (Memᴰ.head refl) in
      let b : within lo hi last ≡ true = every-mem (within lo hi) xs e last-in in
      and_both (leb lo first) (ltb last hi) (le-leb lo first (within-from lo hi first a)) (lt-ltb last hi (within-to lo hi last b)))
    where
      first : ℕ
      first = f at

      last : ℕ
      last = f (at + w * k)

      xs : List ℕ
      xs = records f w (suc k) at

      more : xs ≡ records f w k at ++ (last ∷ [])
      more = records-more f w k at

      last-in : Memᴰ last xs
      last-in = subst (λ (l : List ℕ). Memᴰ last l) (sym more) (Memᴰ.append_right (records f w k at) (Memᴰ.head refl))

      from : (x : ℕ) → Memᴰ x xs → first ≤ x
      from x i =
          ⊎_elim (λ (e : x ≡ first). omega arith) (λ j. omega (arith, rising-least (suc first) (records f w k (at + w)) (rising-rest 0 first (records f w k (at + w)) h) j))
          (Memᴰ.cases_cons i)

      under : every (λ y. ltb y last) (records f w k at) ≡ true
      under = rising-before 0 last (records f w k at) [] (subst (λ (l : List ℕ). rising l ≡ true) more h)

      to : (x : ℕ) → Memᴰ x xs → x ≤ last
      to x i =
          ⊎_elim (λ j. omega (arith, ltb-true x last (every-mem (λ y. ltb y last) (records f w k at) under j)))
          (λ j. let e : x ≡ last = Memᴰ.eq_of_singleton j in omega arith)
          (Memᴰ.append_cases (records f w k at) (subst (λ (l : List ℕ). Memᴰ x l) more i))

pub keys_none : (t : List ℕ) (w n at lo hi : ℕ) → n ≡ 0 → true ≡ every (within lo hi) (keys_from t w n at)
keys_none t w n at lo hi e = ap (λ (k : ℕ). every (within lo hi) (keys_from t w k at)) (sym e)

pub keys-decide : (t : List ℕ) (w n at : ℕ) (s : Span) (x y : ℕ) {r : Bool} → (n ≡ 0 → ⊥) → rising (keys_from t w n at) ≡ true
    → x ≡ key_at t at → y ≡ key_at t (at + w * (n - 1)) → r ≡ ltb y (end_of s)
    → leb s.lo x && r ≡ every (within s.lo (end_of s)) (keys_from t w n at)
keys-decide t w n at s x y d h p q f =
    ap₂ (λ (a : ℕ) (b : Bool). leb s.lo a && b) p (f ∙ ap (λ (b : ℕ). ltb b (end_of s)) q)
    ∙ ends-decide (key_at t) w at s.lo (end_of s) (n - 1) (subst (λ (k : ℕ). rising (keys_from t w k at) ≡ true) e h)
    ∙ ap (λ (k : ℕ). every (within s.lo (end_of s)) (keys_from t w k at)) (sym e)
  where
    e : n ≡ suc (n - 1)
    e = omega (arith, d)

-- the last of n records ends where all do
pub last-ends : (w n : ℕ) → (n ≡ 0 → ⊥) → w * (n - 1) + w ≤ w * n
last-ends w n d = let h : n - 1 < n = omega (arith, d) in stride w h

-- the first and the last may be read
pub ends-limited : (t : List ℕ) (w n at : ℕ) → (n ≡ 0 → ⊥) → limited_from t w n at ≡ true → (limited (key_at t at) ≡ true) × (limited (key_at t (at + w * (n - 1))) ≡ true)
ends-limited t w n at d h =
    let e : at ≡ at + w * 0 = omega (arith, mul-zero w) in
    (ap (λ (i : ℕ). limited (key_at t i)) e ∙ limited-each t w n at h 0 (omega (arith, d)), limited-each t w n at h (n - 1) (omega (arith, d)))

-- ---- the keys of a node

-- a node's keys as a run in the table, of which `keys_within` can be asked
pub record Run (t : List ℕ) (w n at : ℕ) (ks : List ℕ) : Type 0 where
  pub asks : (8 ≤ w) × (w ≤ 28) × (n ≤ 64) × (at + w * n ≤ length t) × (rising (keys_from t w n at) ≡ true) × (limited_from t w n at ≡ true)
  pub same : ks ≡ keys_from t w n at

ready : {t : List ℕ} {w n at : ℕ} {ks : List ℕ} → Ready t at w n → ks ≡ keys_from t w n at → Run t w n at ks
ready r e = record { asks = (r.wide, omega (arith, r.near), r.few, r.inside, r.rise, r.limits); same = e }

-- by the front that was read in the bytes lent
module _ (t : List ℕ) (b : ℕ) (v : ValidBlock t b) {h : Front} (e : h ≡ front_of (lent t b)) where
  runs : Runs t b h
  runs = runs_of t b v (e ∙ ap front_of (part-is t b))

  pub front-used : used_of h ≤ 1896
  front-used = runs.used

  pub points-run : {x : ℕ} → x ≡ points_from version1 h.c → Run t 12 h.p (b * 2048 + x) (keys (store_of t b).points)
  points-run {x} g =
      ready (points-ready t b h runs v.inside g)
      (ap keys (sym runs.points) ∙ keys-records t 12 h.p (b * 2048 + points_from version1 h.c) ∙ ap (λ (y : ℕ). keys_from t 12 h.p (b * 2048 + y)) (sym g))

  pub inserts-run : {x : ℕ} → x ≡ inserts_from version1 h.c h.p → Run t 12 h.i (b * 2048 + x) (keys (store_of t b).inserts)
  inserts-run {x} g =
      ready (inserts-ready t b h runs v.inside g)
      (ap keys (sym runs.inserts) ∙ keys-records t 12 h.i (b * 2048 + inserts_from version1 h.c h.p) ∙ ap (λ (y : ℕ). keys_from t 12 h.i (b * 2048 + y)) (sym g))

  pub deletes-run : {x : ℕ} → x ≡ deletes_from version1 h.c h.p h.i → Run t 8 h.d (b * 2048 + x) (store_of t b).deletes
  deletes-run {x} g =
      ready (deletes-ready t b h runs v.inside g) (sym runs.deletes ∙ ap (λ (y : ℕ). keys_from t 8 h.d (b * 2048 + y)) (sym g))

  lows-are : rest (lows (store_of t b).entries) ≡ keys_from (block t b) 28 ((front_of (block t b)).c - 1) 40
  unfolding store_of node_of node_from front_of
  lows-are = rest-lows (block t b) (be 1 (block t b) 7)

  pub lows-run : Run t 28 (h.c - 1) (b * 2048 + 40) (rest (lows (store_of t b).entries))
  unfolding limited_from
  lows-run =
      let f : h ≡ front_of (block t b) = e ∙ ap front_of (part-is t b) in
      let l : h.c ≤ 8 = omega (arith, few-children t b v.level v.asked v.ok, ap (λ (x : Front). x.c) e) in
      let g : rest (lows (store_of t b).entries) ≡ keys_from t 28 (h.c - 1) (b * 2048 + 40) =
      lows-are ∙ ap (λ (x : Front). keys_from (block t b) 28 (x.c - 1) 40) (sym f) ∙ sym (keys-run t b 28 (h.c - 1) 40 (omega arith) (omega arith))
      in
      let facts = node-facts v.level v.asked (store_of t b) v.ok in
      record {
        asks = (
          omega arith,
          omega arith,
          omega arith,
          omega (arith, v.inside),
          subst (λ (x : List ℕ). rising x ≡ true) g facts.lows-rise,
          subst (λ (x : List ℕ). every limited x ≡ true) g facts.lows-limited,
        );
        same = g;
      }

-- the tests of a node's keys
module _ (t : List ℕ) (b : ℕ) (span : Span) where
  abbrev inside : ℕ → Bool
  inside = within span.lo (end_of span)

  module _ {x y z : Bool} {n1 a1 n2 a2 n3 a3 : ℕ} (p : Run t 12 n1 a1 (keys (store_of t b).points)) (i : Run t 12 n2 a2 (keys (store_of t b).inserts))
      (d : Run t 8 n3 a3 (store_of t b).deletes) (ex : x ≡ every inside (keys_from t 12 n1 a1)) (ey : y ≡ every inside (keys_from t 12 n2 a2)) (ez : z ≡ every inside (keys_from t 8 n3 a3))
    where
      names_in : (x && y) && z ≡ every inside (names (store_of t b))
      unfolding names
      names_in =
          let n = store_of t b in
          ap₂ (λ (a c : Bool). a && c)
          (ap₂ (λ (a c : Bool). a && c) (ex ∙ ap (every inside) (sym p.same)) (ey ∙ ap (every inside) (sym i.same))
          ∙ sym (every_append inside (keys n.points) (keys n.inserts)))
          (ez ∙ ap (every inside) (sym d.same))
          ∙ sym (every_append inside (keys n.points ++ keys n.inserts) n.deletes)

      pub range-inner : {w : Bool} {n4 a4 : ℕ} → Run t 28 n4 a4 (rest (lows (store_of t b).entries)) → w ≡ every inside (keys_from t 28 n4 a4)
          → ((x && y) && z) && w ≡ in_range (part_of b (Root b) span) (store_of t b)
      unfolding in_range
      range-inner l ew = ap₂ (λ (a c : Bool). a && c) names_in (ew ∙ ap (every inside) (sym l.same)) ∙ sym (all2 _ _)

      -- a leaf has no entries
      pub range-leaf : {n4 a4 : ℕ} → Run t 28 n4 a4 (rest (lows (store_of t b).entries)) → n4 ≡ 0 → (x && y) && z ≡ in_range (part_of b (Root b) span) (store_of t b)
      range-leaf {n4} {a4} l e = sym (and-true ((x && y) && z)) ∙ range-inner l (keys_none t 28 n4 a4 span.lo (end_of span) e)
