-- The loop over the children of a node: what holds before each turn, what a turn needs and makes, and what is left at the end.
-- Assumes nothing.
use mathlib.Core.Path.{◌≡◌, refl, ap, sym, subst, ◌∙◌}
use mathlib.Core.Logic.{◌⊎◌, inl, inr, ⊎_elim}
use mathlib.Core.Bool.{true, false}
use mathlib.Core.List.Memᴰ
use mathlib.Core.List.{List, [], ◌∷◌, ◌++◌, Memᴰ}
use Prim.Native.Nat.{ℕ, zero, suc, ◌+◌, ◌-◌, ◌*◌, ◌/◌, ◌≤◌, ◌<◌, max}
use native.Mathlib.Nat.{mul-zero, mul-le-mul_right}
use native.Mathlib.Omega.{arith}
use lib.ListN.{length, length-append}
use Rattle.octets.specs.Lists.{is_empty}
use Rattle.spot.specs.Spots.{spots_from}
use Rattle.spot.specs.declared.Spot.{Spot}
use Rattle.spot.proofs.Buffers.{spots-join}
use Rattle.block.specs.declared.Entry.{Entry}
use Rattle.block.specs.Node.{store_of}
use Rattle.block.specs.Table.{block, blocks_of}
use Rattle.node.specs.declared.Entries.{Entries}
use Rattle.node.specs.Memory.{entries_of, EntryFits}
use Rattle.rebuild_theory.specs.Build.{leaves, nodes, fans_ok, shape_of, Shares, Built, BuildPost}
use Rattle.rebuild_theory.proofs.Choose.{Division, divide}
use Rattle.rebuild_theory.proofs.Steps.{child-built}
use Rattle.build.specs.Building.{Segment, Buildable}
use Rattle.build.proofs.Segments.{segment-part, fans-root, Under}

spots-some : (list : List ℕ) (from n : ℕ) → 1 ≤ n → is_empty (spots_from list from n) ≡ false
spots-some list from zero h = let z : ⊥ = omega arith in absurd z
spots-some list from (suc n) h = refl

module _ (list : List ℕ) (from n fan b c : ℕ) (fs : List ℕ) (t₀ : List ℕ) where
  abbrev room : ℕ
  room = blocks_of (length t₀)

  -- j children are built, and `left` spots are left for the others
  pub record Children (t : List ℕ) (es : Entries) (left j : ℕ) : Type 0 where
    pub inside : j ≤ fan
    pub few : left ≤ n
    pub count : es.n ≡ j
    pub long : length (entries_of es) ≡ j
    pub fit : (e : Entry) → Memᴰ e (entries_of es) → EntryFits e
    pub sized : length t ≡ length t₀
    pub least : leaves fs * (fan - j) ≤ left
    pub most : left ≤ 32 * leaves fs * (fan - j)
    pub shares : Shares (λ b' ys. Built fs room (store_of t) b' ys c) (store_of t) (nodes fs) (b + 1) (entries_of es) (spots_from list from (n - left))
    pub other : (i : ℕ) → (i < b + 1) ⊎ (b + 1 + j * nodes fs ≤ i) → block t i ≡ block t₀ i

  module _ (below : Under fan fs n b room) where
    pub children-none : {es : Entries} → es.n ≡ 0 → entries_of es ≡ [] → Children t₀ es n 0
    children-none {es} e g =
        let z : fan - 0 ≡ fan = omega arith in
        let y : n - n ≡ 0 = omega arith in
        record {
          inside = omega arith;
          few = omega arith;
          count = e;
          long = ap (λ (l : List Entry). length l) g;
          fit = λ x i. absurd (Memᴰ.not-nil (subst (λ (l : List Entry). Memᴰ x l) g i));
          sized = refl;
          least = subst (λ (k : ℕ). leaves fs * k ≤ n) (sym z) below.least;
          most = subst (λ (k : ℕ). n ≤ 32 * leaves fs * k) (sym z) below.most;
          shares =
              subst (λ (l : List Entry). Shares (λ b' ys. Built fs room (store_of t₀) b' ys c) (store_of t₀) (nodes fs) (b + 1) l (spots_from list from (n - n))) (sym g)
              (ap (spots_from list from) y);
          other = λ i h. refl;
        }

    -- one child more
    module _ {t : List ℕ} {es : Entries} {left j : ℕ} (r : Children t es left j) (l : j < fan) where
      abbrev share : ℕ
      share = left / (fan - j)

      steps : fan - j ≡ suc (fan - (j + 1))
      steps = omega arith

      division : Division (fan - (j + 1)) left (leaves fs) (32 * leaves fs)
      division =
          divide (fan - (j + 1)) left (leaves fs) (32 * leaves fs) (subst (λ (k : ℕ). leaves fs * k ≤ left) steps r.least)
          (subst (λ (k : ℕ). left ≤ 32 * leaves fs * k) steps r.most)

      same-share : share ≡ left / suc (fan - (j + 1))
      same-share = ap (λ (k : ℕ). left / k) steps

      pub share-small : share ≤ left
      share-small = omega (arith, same-share, division.small)

      share-least : leaves fs ≤ share
      share-least = omega (arith, same-share, division.least)

      share-most : share ≤ 32 * leaves fs
      share-most = omega (arith, same-share, division.most)

      -- the blocks of this child lie within those of the node
      pub child-room : (b + 1 + j * nodes fs + nodes fs ≤ room) × (j * nodes fs < 4096) × (room ≤ 4096)
      child-room =
          let m : suc j * nodes fs ≤ fan * nodes fs = mul-le-mul_right (nodes fs) l in
          let d : suc j * nodes fs ≡ j * nodes fs + nodes fs = omega arith in
          let e = below.last in
          let g = below.blocks in
          (omega arith, omega arith, g)

      pub child-ready : Segment list from n → (f g h : ℕ) → fs ≡ shape_of f g h → g ≤ 8 → h ≤ 5 → {w : ℕ} → w ≡ nodes fs → Buildable t list (from + (n - left)) share f g h (b + 1 + j * w)
      child-ready seg f g h e near high {w} we =
          let few = r.few in
          let sm = share-small in
          let lo = share-least in
          let place : b + 1 + j * w ≡ b + 1 + j * nodes fs = ap (λ (k : ℕ). b + 1 + j * k) we in
          let spots : Segment list (from + (n - left)) share = segment-part list from n (n - left) share seg (omega arith) in
          let rm = child-room in
          let bl : blocks_of (length t) ≡ room = ap blocks_of r.sized in
          subst (λ (k : ℕ). Buildable t list (from + (n - left)) share f g h k) (sym place)
          (record {
            segment = spots;
            fans = subst (λ (x : List ℕ). fans_ok 2 x ≡ true) e (fans-root fs below.fans);
            near = near;
            high = high;
            enough = subst (λ (x : List ℕ). leaves x ≤ max 1 share) e (omega arith);
            room = subst (λ (x : List ℕ). share ≤ 32 * leaves x) e share-most;
            first = omega arith;
            last = subst (λ (x : List ℕ). b + 1 + j * nodes fs + nodes x ≤ blocks_of (length t)) e (omega (arith, rm.0, bl));
            blocks = omega (arith, rm.2, bl);
          })

      pub child-added : {w : ℕ} → w ≡ nodes fs → {u : List ℕ} {e : Entry} {es' : Entries} {x : ℕ} → x ≡ c → BuildPost (blocks_of (length t)) fs (b + 1 + j * w) (spots_from list (from + (n - left)) share) x t u e → EntryFits e
          → es'.n ≡ es.n + 1
          → entries_of es' ≡ entries_of es ++ (e ∷ [])
          → Children u es' (left - share) (j + 1)
      child-added {w} we {u} {e} {es'} {x} xc p fits more added =
          let few = r.few in
          let sm = share-small in
          let lo = share-least in
          let some = below.some in
          let count = r.count in
          let at : b + 1 + j * w ≡ b + 1 + length (entries_of es) * nodes fs = omega (arith, ap (λ (k : ℕ). b + 1 + j * k) we, ap (λ (k : ℕ). b + 1 + k * nodes fs) r.long) in
          let post : BuildPost room fs (b + 1 + length (entries_of es) * nodes fs) (spots_from list (from + (n - left)) share) c t u e =
          subst (λ (k : ℕ). BuildPost room fs k (spots_from list (from + (n - left)) share) c t u e) at
          (subst (λ (k : ℕ). BuildPost k fs (b + 1 + j * w) (spots_from list (from + (n - left)) share) c t u e) (ap blocks_of r.sized)
          (subst (λ (k : ℕ). BuildPost (blocks_of (length t)) fs (b + 1 + j * w) (spots_from list (from + (n - left)) share) k t u e) xc p)) in
          let together : spots_from list from (n - left) ++ spots_from list (from + (n - left)) share ≡ spots_from list from (n - (left - share)) =
          let k : n - left + share ≡ n - (left - share) = omega arith in
          sym (spots-join list from (n - left) share) ∙ ap (spots_from list from) k in
          let built = child-built room fs c (b + 1) t u (entries_of es) (spots_from list from (n - left)) e (spots_from list (from + (n - left)) share) r.shares (spots-some list (from + (n - left)) share (omega arith)) post in
          let place : b + 1 + j * w ≡ b + 1 + j * nodes fs = ap (λ (k : ℕ). b + 1 + j * k) we in
          let d : (j + 1) * nodes fs ≡ j * nodes fs + nodes fs = omega arith in
          record {
            inside = omega arith;
            few = omega arith;
            count = omega arith;
            long = ap (λ (x : List Entry). length x) added ∙ length-append (entries_of es) (e ∷ []) ∙ ap (λ (k : ℕ). k + 1) r.long;
            fit =
                λ q i.
                ⊎_elim (λ (y : Memᴰ q (entries_of es)). r.fit q y)
                (λ (y : Memᴰ q (e ∷ [])). subst (λ (z : Entry). EntryFits z) (sym (Memᴰ.eq_of_singleton y)) fits)
                (Memᴰ.append_cases (entries_of es) (subst (λ (z : List Entry). Memᴰ q z) added i));
            sized = p.sized ∙ r.sized;
            least = omega (arith, same-share, division.left);
            most = omega (arith, same-share, division.right);
            shares =
                subst (λ (x : List Entry). Shares (λ b' ys. Built fs room (store_of u) b' ys c) (store_of u) (nodes fs) (b + 1) x (spots_from list from (n - (left - share)))) (sym added)
                (subst (λ (ys : List Spot). Shares (λ b' zs. Built fs room (store_of u) b' zs c) (store_of u) (nodes fs) (b + 1) (entries_of es ++ (e ∷ [])) ys) together built);
            other =
                λ i h.
                ⊎_elim (λ (y : i < b + 1). p.other i (inl (omega arith)) ∙ r.other i (inl y))
                (λ (y : b + 1 + (j + 1) * nodes fs ≤ i). p.other i (inr (omega arith)) ∙ r.other i (inr (omega arith)))
                h;
          }

    -- all children are built
    children-left : {t : List ℕ} {es : Entries} {left j : ℕ} → Children t es left j → fan ≤ j → left ≡ 0
    children-left {t} {es} {left} {j} r h =
        let z : fan - j ≡ 0 = omega arith in
        let m = subst (λ (k : ℕ). left ≤ 32 * leaves fs * k) z r.most in
        omega (arith, m, mul-zero (32 * leaves fs))

    pub children-shares : {t : List ℕ} {es : Entries} {left j : ℕ} → Children t es left j → fan ≤ j
        → Shares (λ b' ys. Built fs room (store_of t) b' ys c) (store_of t) (nodes fs) (b + 1) (entries_of es) (spots_from list from n)
    children-shares {t} {es} {left} {j} r h =
        let k : n - left ≡ n = omega (arith, children-left r h) in
        subst (λ (x : ℕ). Shares (λ b' ys. Built fs room (store_of t) b' ys c) (store_of t) (nodes fs) (b + 1) (entries_of es) (spots_from list from x)) k r.shares
