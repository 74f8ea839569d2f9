-- A node stored over its children is a tree, and a tree with its header is a table built whole.
-- Assumes nothing.
use mathlib.Core.Path.{◌≡◌, refl, ap, sym, subst, ◌∙◌}
use mathlib.Core.Logic.{◌⊎◌, inl, inr, ⊎_elim}
use mathlib.Core.Bool.{true}
use mathlib.Core.List.Memᴰ
use mathlib.Core.List.{List, [], ◌∷◌, Memᴰ}
use Prim.Native.Nat.{ℕ, suc, ◌+◌, ◌-◌, ◌*◌, ◌≤◌, ◌<◌, max}
use native.Mathlib.Omega.{arith}
use lib.ListN.{length}
use Rattle.octets.proofs.Records.{length-records}
use Rattle.spot.specs.declared.Spot.{Spot}
use Rattle.spot.specs.Spots.{spot_at, spots_from}
use Rattle.block.specs.declared.Entry.{Entry}
use Rattle.block.specs.declared.Asked.TheVariants.{Child}
use Rattle.block.specs.Node.{Node, store_of, first_open}
use Rattle.block.specs.NodeRules.{agrees}
use Rattle.block.specs.Table.{block, blocks_of}
use Rattle.node.specs.declared.Entries.{Entries}
use Rattle.node.specs.Memory.{entries_of, EntryFits, EntriesFit}
use Rattle.rebuild_theory.specs.Build.{leaves, nodes, fans_ok, shape_of, band, built_node, first_spot_key, Built, BuildPost}
use Rattle.rebuild_theory.proofs.Built.{nodes-some}
use Rattle.rebuild_theory.proofs.Steps.{band-length, leaf-built, node-built}
use Rattle.std.specs.Prelude as maybe
use Rattle.build.specs.Building.{limit_of, Cut, Buildable, Own, OwnPut}
use Rattle.build.proofs.Segments.{shape-step, shape-leaf, shape-length, Under, under}
use Rattle.build.proofs.Children.{Children, children-shares}

-- a block that is one of the table's has its bytes in it
block_inside : (bytes b k : ℕ) → b + k ≤ blocks_of bytes → 1 ≤ k → b * 2048 + 2048 ≤ bytes
block_inside bytes b k h l = omega arith

none-fit : {es : Entries} → es.n ≡ 0 → entries_of es ≡ [] → EntriesFit es
none-fit {es} e g =
    record { few = omega arith; each = λ x i. absurd (Memᴰ.not-nil (subst (λ (l : List Entry). Memᴰ x l) g i)) }

built-points : (room level b : ℕ) (u : List ℕ) (es : List Entry) (ps : List Spot) → store_of u b ≡ built_node room level es ps → (store_of u b).points ≡ ps
unfolding built_node
built-points room level b u es ps e = ap (λ (m : Node). m.points) e

-- a tree whose node is stored last
own-post : (fs : List ℕ) (b x : ℕ) (ys : List Spot) (t₀ t : List ℕ) → length t ≡ length t₀ → ((i : ℕ) → (i < b) ⊎ (b + nodes fs ≤ i) → block t i ≡ block t₀ i)
    → {u : List ℕ} {level : ℕ} {es : List Entry} {ps : List Spot} {e : Entry} → OwnPut t u b level es ps (first_spot_key ys) e
    → Built fs (blocks_of (length t₀)) (store_of u) b ys x
    → BuildPost (blocks_of (length t₀)) fs b ys x t₀ u e
own-post fs b x ys t₀ t same old {u} {level} {es} {ps} {e} p built =
    let at = p.entry.at in
    let some = nodes-some fs in
    record {
      at = at;
      low = p.entry.low;
      agree =
          subst (λ (i : ℕ). agrees (Child e) (store_of u i) ≡ true) (sym at)
          (p.entry.agree (store_of u b) (built-points (blocks_of (length t)) level b u (first_open es) ps p.is));
      built = subst (λ (i : ℕ). Built fs (blocks_of (length t₀)) (store_of u) i ys x) (sym at) built;
      other = λ i o. p.else i (λ (z : i ≡ b). ⊎_elim (λ (y : i < b). omega arith) (λ (y : b + nodes fs ≤ i). omega arith) o) ∙ old i o;
      sized = p.sized ∙ same;
    }

module _ {t list : List ℕ} {from n f g h b : ℕ} (r : Buildable t list from n f g h b) (x : ℕ) where
  abbrev ys : List Spot
  ys = spots_from list from n

  own_room : (b * 2048 + 2048 ≤ length t) × (b < 65536)
  own_room =
      let s = nodes-some (shape_of f g h) in
      let l = r.last in
      let m = r.blocks in
      (block_inside (length t) b (nodes (shape_of f g h)) l s, omega arith)

  -- ---- a leaf

  module _ (zero_high : h ≡ 0) where
    leaf-few : n ≤ 32
    leaf-few = let e = ap (λ (fs : List ℕ). 32 * leaves fs) (shape-leaf f g h zero_high) in let m = r.room in omega arith

    pub leaf-ready : {es : Entries} → es.n ≡ 0 → entries_of es ≡ [] → Own t list from n 0 x 0 es b
    leaf-ready e q =
        record {
          segment = r.segment;
          most = let l = length-records (spot_at list) 12 n (12 * from) in let m = leaf-few in omega (arith, band-length 0 x ys);
          shallow = omega arith;
          entries = none-fit e q;
          inside = own_room.0;
          near = own_room.1;
        }

    pub leaf-post : (es : Entries) {u : List ℕ} {e : Entry} → entries_of es ≡ [] → OwnPut t u b 0 (entries_of es) (band 0 x ys) (first_spot_key ys) e
        → BuildPost (blocks_of (length t)) (shape_of f g h) b ys x t u e × EntryFits e
    leaf-post es {u} {e} q p =
        let n' = length-records (spot_at list) 12 n (12 * from) in
        let m = leaf-few in
        let is : store_of u b ≡ built_node (blocks_of (length t)) 0 [] (band 0 x ys) =
        p.is ∙ ap (λ (l : List Entry). built_node (blocks_of (length t)) 0 (first_open l) (band 0 x ys)) q in (
          subst (λ (fs : List ℕ). BuildPost (blocks_of (length t)) fs b ys x t u e) (sym (shape-leaf f g h zero_high))
              (own-post [] b x ys t t refl (λ i o. refl) p (leaf-built (blocks_of (length t)) x (store_of u) b ys is (omega arith))),
          p.entry.fits,
        )

  -- ---- an inner node

  module _ (some-high : h ≡ 0 → ⊥) where
    abbrev fs : List ℕ
    fs = shape_of g 6 (h - 1)

    shape_is : shape_of f g h ≡ f ∷ fs
    shape_is = shape-step f g h some-high

    pub ready : Under f fs n b (blocks_of (length t))
    ready =
        under f fs n b (blocks_of (length t)) (ap (fans_ok 2) (sym shape_is) ∙ r.fans) (subst (λ (s : List ℕ). leaves s ≤ max 1 n) shape_is r.enough)
        (subst (λ (s : List ℕ). n ≤ 32 * leaves s) shape_is r.room)
        r.first
        (subst (λ (s : List ℕ). b + nodes s ≤ blocks_of (length t)) shape_is r.last)
        r.blocks

    pub inner-ready : (l : maybe.Option ℕ) (c : ℕ) → x ≡ limit_of l → Cut list from n l c → {t₁ : List ℕ} {es : Entries} {left j : ℕ} → Children list from n f b c fs t t₁ es left j → Own t₁ list from n c x h es b
    inner-ready l c e cut {t₁} {es} k =
        let m = own_room in
        let z = k.sized in
        let high = r.high in
        let q = k.count in
        let i = k.inside in
        let o = ready.eight in
        record {
          segment = r.segment;
          most = subst (λ (y : ℕ). length (band c y ys) ≤ 64) (sym e) cut.most;
          shallow = omega arith;
          entries = record { few = omega arith; each = k.fit };
          inside = omega (arith, m.0);
          near = m.1;
        }

    pub inner-post : (l : maybe.Option ℕ) (c : ℕ) → x ≡ limit_of l → Cut list from n l c → {t₁ : List ℕ} {es : Entries} {left j : ℕ} → Children list from n f b c fs t t₁ es left j → f ≤ j
        → {u : List ℕ} {e : Entry} → OwnPut t₁ u b h (entries_of es) (band c x ys) (first_spot_key ys) e
        → BuildPost (blocks_of (length t)) (shape_of f g h) b ys x t u e × EntryFits e
    inner-post l c q cut {t₁} {es} {left} {j} k done {u} {e} p =
        let i = k.inside in
        let long : length (entries_of es) ≡ f = omega (arith, k.long) in
        let high : h ≡ suc (length fs) = omega (arith, ap (λ (s : List ℕ). length s) shape_is, shape-length f g h) in
        let is : store_of u b ≡ built_node (blocks_of (length t)) (suc (length fs)) (first_open (entries_of es)) (band c x ys) =
        p.is ∙ ap (λ (y : ℕ). built_node (blocks_of y) h (first_open (entries_of es)) (band c x ys)) k.sized
        ∙ ap (λ (y : ℕ). built_node (blocks_of (length t)) y (first_open (entries_of es)) (band c x ys)) high in
        let built : Built (f ∷ fs) (blocks_of (length t)) (store_of u) b ys x =
        node-built (blocks_of (length t)) fs c f x b t₁ u (entries_of es) ys (children-shares list from n f b c fs t ready k done) long p.sized p.else
        is (subst (λ (y : ℕ). c ≤ y) (sym q) cut.under) (subst (λ (y : ℕ). length (band c y ys) ≤ 64) (sym q) cut.most)
        (subst (λ (y : ℕ). (32 ≤ length (band c y ys)) ⊎ (c ≡ 0)) (sym q) cut.least) in
        let w : j * nodes fs ≡ f * nodes fs = ap (λ (y : ℕ). y * nodes fs) (omega arith) in (
          subst (λ (s : List ℕ). BuildPost (blocks_of (length t)) s b ys x t u e) (sym shape_is)
              (own-post (f ∷ fs) b x ys t t₁ k.sized (λ z o. k.other z (⊎_elim (λ (y : z < b). inl (omega arith)) (λ (y : b + suc (f * nodes fs) ≤ z). inr (omega arith)) o)) p built),
          p.entry.fits,
        )
