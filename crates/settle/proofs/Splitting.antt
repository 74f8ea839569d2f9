-- A node in memory is cut in two, each half is worked on by itself, and both are stored.
-- Assumes nothing.
use mathlib.Core.Path.{◌≡◌, refl, ap, sym, ◌∙◌, subst, subst⁻¹}
use mathlib.Core.Logic.{inl, inr, ⊎_elim}
use mathlib.Core.List.Memᴰ
use mathlib.Core.List.{List, [], ◌∷◌, ◌++◌, Memᴰ}
use Rattle.std.specs.Prelude.{Some}
use mathlib.Core.Option.{Option}
use Prim.Native.Nat.{ℕ, zero, suc, ◌-◌, ◌/◌, ◌≤◌, ◌<◌}
use native.Mathlib.Omega.{arith}
use lib.ListN.{length, take, drop}
use lib.Dec.{ltb, leb}
use Rattle.octets.specs.Sets.{Apart}
use Rattle.octets.proofs.Order.{same_or_not}
use Rattle.spot.proofs.Places.{within-from, within-to}
use Rattle.block.specs.declared.Entry.{Entry}
use Rattle.block.specs.declared.Asked.{Asked}
use Rattle.block.specs.declared.Asked.TheVariants.{Child}
use Rattle.block.specs.Table.{blocks_of}
use Rattle.block.specs.Node.{Store, store_of, open_below, first_open}
use Rattle.block.specs.NodeRules.{fewest, stands_in}
use Rattle.tree.specs.Part.{Part, parts, low_of}
use Rattle.tree.specs.Reach.{reach}
use Rattle.tree.proofs.Frame.{Same, reaches_same}
use Rattle.tree.proofs.Gather.{gather_append}
use Rattle.tree.proofs.Legal.{legal-part}
use Rattle.update_theory.specs.Held.{Held}
use Rattle.update_theory.specs.Change.{part, reaches, Sound, Changed}
use Rattle.update_theory.specs.Spare.{Taken, Within}
use Rattle.update_theory.specs.Open.{under, Open}
use Rattle.update_theory.proofs.Change.{changed-refl, changed-trans}
use Rattle.update_theory.proofs.Close.{settle-two}
use Rattle.update_theory.proofs.Open.{open-frame}
use Rattle.update_theory.proofs.Cut.{half_of, leaf-cut, open-left, open-right, cut-changed}
use Rattle.update_theory.proofs.Loose.{opened, reach_step}
use Rattle.node.specs.Memory.{entries_of, node_in, EntryAt, Stored}
use Rattle.node.specs.declared.NodeValue.{NodeValue}
use Rattle.node.proofs.Laws.{stored-else}
use Rattle.edit.specs.Edits.{held_in, EntryFor}
use Rattle.fill.proofs.Onward.{same_at}
use Rattle.spare.specs.declared.Spare.{Spare}
use Rattle.spare.specs.Spares.{spare_of}
use Rattle.spare.proofs.Taking.{spare-less, last-new, spare-step}
use Rattle.batch.specs.Batches.{CutKey, Lower, Upper}
use Rattle.settle.specs.declared.Worked.{Worked}
use Rattle.fill.specs.declared.Failure.{Failure}
use Rattle.fill.specs.declared.Failure.TheVariants.{NoRoom}
use Rattle.settle.specs.Settling.{LowsFit, Opened, WorkedTo, Roomless, RefineDone, StandsFor, Cuttable, PlacedTo, PlaceDone}
use Rattle.settle.proofs.Aside.{instead, instead-here, instead-else, changed-aside}
use Rattle.settle.proofs.Halves.{right-same, right-free, left-same, within_both, halves}
use Rattle.settle.proofs.Lows.{lows-left, lows-right, cut_high, cut_low}
use Rattle.settle.proofs.Ways.{last-inside}
use Rattle.settle.proofs.Storing.{Ground, refined-shape, block-few}

-- ---- a node and its halves

pub record Halves : Type 0 where
  pub sep : ℕ
  pub left : NodeValue
  pub right : NodeValue

pub record Halved (n : NodeValue) (h : Halves) : Type 0 where
  pub key : CutKey n h.sep
  pub left : Lower n h.sep h.left
  pub right : Upper n h.sep h.right

-- ---- eight entries, four and four

pub record Eight (es : List Entry) : Type 0 where
  pub u : Entry
  pub w : Entry
  pub us : List Entry
  pub v : Entry
  pub vs : List Entry
  pub before : take 4 es ≡ u ∷ w ∷ us
  pub from : drop 4 es ≡ v ∷ vs
  pub whole : es ≡ (u ∷ w ∷ us) ++ (v ∷ vs)
  pub at : EntryAt es 4 v
  pub four_l : length (take 4 es) ≡ 4
  pub four_r : length (first_open (drop 4 es)) ≡ 4

eight : (es : List Entry) → length es ≡ 8 → Eight es
eight [] h = let z : zero ≡ 8 = h in absurd (omega arith)
eight (a ∷ []) h = let z : suc zero ≡ 8 = h in absurd (omega arith)
eight (a ∷ b ∷ []) h = let z : suc (suc zero) ≡ 8 = h in absurd (omega arith)
eight (a ∷ b ∷ c ∷ []) h = let z : suc (suc (suc zero)) ≡ 8 = h in absurd (omega arith)
eight (a ∷ b ∷ c ∷ d ∷ []) h = let z : suc (suc (suc (suc zero))) ≡ 8 = h in absurd (omega arith)
eight (a ∷ b ∷ c ∷ d ∷ e ∷ es) h =
    record {
      u = a;
      w = b;
      us = c ∷ d ∷ [];
      v = e;
      vs = es;
      before = refl;
      from = refl;
      whole = refl;
      at = record { split = refl; there = Memᴰ.tail (Memᴰ.tail (Memᴰ.tail (Memᴰ.tail (Memᴰ.head refl)))) };
      four_l = refl;
      four_r = let z : suc (suc (suc (suc (suc (length es))))) ≡ 8 = h in omega arith;
    }

-- ---- the node cut

-- the node with the entries es and the buffers b, cut at sep
pub record CutIn (x : Store) (level lo sep hi : ℕ) (s : List ℕ) (es es₁ es₂ : List Entry) (b₁ b₂ : Held) (f : ℕ → Option ℕ) : Type 0 where
  pub rank : ℕ
  pub low : lo < sep
  pub high : sep < hi
  pub open_l : Open level x lo sep rank es₁ b₁ f
  pub open_r : Open level x sep hi rank es₂ b₂ f
  pub lows_l : LowsFit lo sep es₁
  pub lows_r : LowsFit sep hi es₂
  pub word : ℕ → Option ℕ
  pub cut : Changed level (Taken s s) x (parts lo hi es) x (parts lo sep es₁ ++ parts sep hi es₂) word

module _ (x : Store) (level lo hi : ℕ) (s : List ℕ) (r : ℕ) (b : Held) (f : ℕ → Option ℕ) where
  cut-inner : (u w : Entry) (us : List Entry) (v : Entry) (vs : List Entry) → Open level x lo hi r ((u ∷ w ∷ us) ++ (v ∷ vs)) b f → LowsFit lo hi ((u ∷ w ∷ us) ++ (v ∷ vs))
      → CutIn x level lo v.low hi s ((u ∷ w ∷ us) ++ (v ∷ vs)) (u ∷ w ∷ us) (open_below v ∷ vs) (half_of (λ k. ltb k v.low) b) (half_of (λ k. leb v.low k) b) f
  cut-inner u w us v vs o l =
      record {
        rank = r;
        low = cut_low lo hi u w us v vs l;
        high = cut_high lo hi u (w ∷ us) v vs l;
        open_l = open-left level x lo hi r u (w ∷ us) v vs b f o;
        open_r = open-right level x lo hi r u (w ∷ us) v vs b f o;
        lows_l = lows-left lo hi u (w ∷ us) v vs l;
        lows_r = lows-right lo hi u (w ∷ us) v vs l;
        word = under level x lo hi ((u ∷ w ∷ us) ++ (v ∷ vs));
        cut = cut-changed level x lo hi r u (w ∷ us) v vs b f o (Taken s s) (λ z t. t.1 t.0);
      }

  cut-leaf : (sep : ℕ) → lo < sep → sep < hi → Open level x lo hi r [] b f → CutIn x level lo sep hi s [] [] [] (half_of (λ k. ltb k sep) b) (half_of (λ k. leb sep k) b) f
  cut-leaf sep a c o =
      let h = leaf-cut level x lo sep hi r b f (omega arith) (omega arith) o in
      record {
        rank = r;
        low = a;
        high = c;
        open_l = h.0;
        open_r = h.1;
        lows_l = record { zero = refl; rise = refl; inside = refl };
        lows_r = record { zero = refl; rise = refl; inside = refl };
        word = under level x lo hi [];
        cut = changed-refl level (Taken s s) x [] (λ z t. t.1 t.0) o.kids;
      }

cut_as : {x : Store} {level lo sep hi : ℕ} {s : List ℕ} {es es₁ es₂ ds ds₁ ds₂ : List Entry} {b₁ b₂ c₁ c₂ : Held} {f : ℕ → Option ℕ} → ds ≡ es → ds₁ ≡ es₁ → ds₂ ≡ es₂ → c₁ ≡ b₁ → c₂ ≡ b₂
    → CutIn x level lo sep hi s es es₁ es₂ b₁ b₂ f → CutIn x level lo sep hi s ds ds₁ ds₂ c₁ c₂ f
cut_as {x} {level} {lo} {sep} {hi} {s} {es} {es₁} {es₂} {ds} {ds₁} {ds₂} {b₁} {b₂} {c₁} {c₂} {f} e e₁ e₂ h₁ h₂ c =
    subst⁻¹ (λ (q : List Entry). CutIn x level lo sep hi s q ds₁ ds₂ c₁ c₂ f) e
    (subst⁻¹ (λ (q : List Entry). CutIn x level lo sep hi s es q ds₂ c₁ c₂ f) e₁
    (subst⁻¹ (λ (q : List Entry). CutIn x level lo sep hi s es es₁ q c₁ c₂ f) e₂
    (subst⁻¹ (λ (q : Held). CutIn x level lo sep hi s es es₁ es₂ q c₂ f) h₁
    (subst⁻¹ (λ (q : Held). CutIn x level lo sep hi s es es₁ es₂ b₁ q f) h₂ c))))

-- the halves that were made
module _ {t s map : List ℕ} {b level : ℕ} {asked : Asked} {n : NodeValue} {h : Halves} {spare : Spare} {left : ℕ} (st : StandsFor t s map b level asked n spare left)
    (hv : Halved n h) where
  -- a leaf
  module _ (none : n.entries.n ≡ 0) where
    bare : entries_of n.entries ≡ []
    bare = ap (λ (k : ℕ). take k n.entries.list) none

    pub bare_l : entries_of h.left.entries ≡ []
    bare_l = hv.left.entries ∙ ap (λ (k : ℕ). take (k / 2) (entries_of n.entries)) none

    pub bare_r : entries_of h.right.entries ≡ []
    bare_r = hv.right.entries ∙ ap (λ (k : ℕ). first_open (drop (k / 2) (entries_of n.entries))) none ∙ ap first_open bare

    leaf-cuts : (x : Store) (lo hi : ℕ) (f : ℕ → Option ℕ) (free : List ℕ) → Opened x level lo hi n spare left f
        → CutIn x level lo h.sep hi free (entries_of n.entries) (entries_of h.left.entries) (entries_of h.right.entries) (held_in h.left) (held_in h.right) f
    leaf-cuts x lo hi f free o =
        let l = hv.key.leaf none in
        let i = o.node.ready.in_p h.sep l.0 in
        let j = o.node.ready.in_p l.1.0 l.1.1 in
        let a = within-from lo hi l.1.0 j in
        let c = l.1.2 in
        cut_as bare bare_l bare_r hv.left.holds hv.right.holds
        (cut-leaf x level lo hi free o.rank (held_in n) f h.sep (omega arith) (within-to lo hi h.sep i)
        (subst (λ (es : List Entry). Open level x lo hi o.rank es (held_in n) f) bare o.node))

  -- an inner node
  module _ (full : n.entries.n ≡ 8) where
    pub fours : Eight (entries_of n.entries)
    fours = eight (entries_of n.entries) (st.counted ∙ full)

    sep-is : h.sep ≡ fours.v.low
    sep-is = let i = hv.key.inner full in i.2 ∙ ap (λ (d : Entry). d.low) (same_at (entries_of n.entries) 4 i.0 fours.v i.1 fours.at)

    pub half_l : entries_of h.left.entries ≡ take 4 (entries_of n.entries)
    half_l = hv.left.entries ∙ ap (λ (k : ℕ). take (k / 2) (entries_of n.entries)) full

    pub half_r : entries_of h.right.entries ≡ first_open (drop 4 (entries_of n.entries))
    half_r = hv.right.entries ∙ ap (λ (k : ℕ). first_open (drop (k / 2) (entries_of n.entries))) full

    inner-cuts : (x : Store) (lo hi : ℕ) (f : ℕ → Option ℕ) (free : List ℕ) → Opened x level lo hi n spare left f
        → CutIn x level lo h.sep hi free (entries_of n.entries) (entries_of h.left.entries) (entries_of h.right.entries) (held_in h.left) (held_in h.right) f
    inner-cuts x lo hi f free o =
        cut_as fours.whole (half_l ∙ fours.before) (half_r ∙ ap first_open fours.from) hv.left.holds hv.right.holds
        (subst⁻¹ (λ (q : ℕ). CutIn x level lo q hi free ((fours.u ∷ fours.w ∷ fours.us) ++ (fours.v ∷ fours.vs)) (fours.u ∷ fours.w ∷ fours.us) (open_below fours.v ∷ fours.vs) (half_of (λ k. ltb k q) (held_in n)) (half_of (λ k. leb q k) (held_in n)) f) sep-is
        (cut-inner x level lo hi free o.rank (held_in n) f fours.u fours.w fours.us fours.v fours.vs
        (subst (λ (es : List Entry). Open level x lo hi o.rank es (held_in n) f) fours.whole o.node)
        (subst (λ (es : List Entry). LowsFit lo hi es) fours.whole o.lows_fit)))

  pub cut_of : Cuttable level n → (x : Store) (lo hi : ℕ) (f : ℕ → Option ℕ) (free : List ℕ) → Opened x level lo hi n spare left f
      → CutIn x level lo h.sep hi free (entries_of n.entries) (entries_of h.left.entries) (entries_of h.right.entries) (held_in h.left) (held_in h.right) f
  cut_of (inl c) = leaf-cuts c.1
  cut_of (inr c) = inner-cuts c.1

  -- what the halves must have to be stored
  pub ground-left : Cuttable level n → (d : Entry) → Ground level (Child d) h.left
  unfolding fewest
  ground-left c d =
      record {
        leaf_e = λ z. ⊎_elim (λ q. ap length (bare_l q.1)) (λ q. absurd (q.0 z)) c;
        least = λ z. ⊎_elim (λ q. absurd (z q.0)) (λ q. let y : length (entries_of h.left.entries) ≡ 4 = ap length (half_l q.1) ∙ (fours q.1).four_l in omega arith) c;
        leaf_i = λ z. let i = st.leaf_i z in let y = hv.left.inserts in omega arith;
        leaf_d = λ z. let i = st.leaf_d z in let y = hv.left.deletes in omega arith;
      }

  pub ground-right : Cuttable level n → (d : Entry) → Ground level (Child d) h.right
  unfolding fewest
  ground-right c d =
      record {
        leaf_e = λ z. ⊎_elim (λ q. ap length (bare_r q.1)) (λ q. absurd (q.0 z)) c;
        least = λ z. ⊎_elim (λ q. absurd (z q.0)) (λ q. let y : length (entries_of h.right.entries) ≡ 4 = ap length (half_r q.1) ∙ (fours q.1).four_r in omega arith) c;
        leaf_i = λ z. let i = st.leaf_i z in let y = hv.right.inserts in omega arith;
        leaf_d = λ z. let i = st.leaf_d z in let y = hv.right.deletes in omega arith;
      }

-- ---- both halves worked on, the left first
module _ {t s map : List ℕ} {b level : ℕ} {asked : Asked} {n : NodeValue} {h : Halves} {spare : Spare} {left : ℕ}
    (st : StandsFor t s map b level asked n spare left) (cuts : Cuttable level n) (hv : Halved n h)
    (lo hi : ℕ) (f : ℕ → Option ℕ) (o : Opened (store_of t) level lo hi n spare left f) where
  abbrev sep : ℕ
  sep = h.sep

  abbrev S : List ℕ
  S = spare_of spare (left - 1)

  less₀ : Within (spare_of spare (left - 1)) (spare_of spare left)
  less₀ = spare-less spare (left - 1) left (omega arith)

  u : CutIn (store_of t) level lo h.sep hi (spare_of spare (left - 1)) (entries_of n.entries) (entries_of h.left.entries) (entries_of h.right.entries) (held_in h.left) (held_in h.right) f
  u = cut_of st hv cuts (store_of t) lo hi f (spare_of spare (left - 1)) o

  -- the children of each half
  abbrev A : List Part
  A = parts lo sep (entries_of h.left.entries)

  abbrev C : List Part
  C = parts sep hi (entries_of h.right.entries)

  free : Apart S (reaches level (store_of t) (A ++ C))
  free z i j = ⊎_elim (λ v. o.free z (less₀ z i) v) (λ v. v.1 v.0) (u.cut.reached z j)

  -- the left half
  left_open : Opened (store_of t) level lo sep h.left spare (left - 1) f
  left_open =
      record {
        order = let z = u.low in omega arith;
        legal = let z = u.high in legal-part lo hi lo sep o.legal (omega arith) (omega arith);
        rank = u.rank;
        node = u.open_l;
        lows_fit = u.lows_l;
        free = λ z i j. free z i (rw (gather_append (reach level (store_of t)) A C) (Memᴰ.append_left (reaches level (store_of t) C) j));
      }

  pub left-whole : {e : Failure} → Roomless t level h.left spare (left - 1) e → e ≡ NoRoom
  left-whole p₁ = p₁.whole lo sep f left_open

  -- it is stored in the old block, which no child of either half reaches
  module _ {t₁ s₁ map₁ t₂ : List ℕ} {w₁ : Worked} (p₁ : RefineDone t t₁ s₁ map₁ level h.left spare (left - 1) w₁) (q₁ : Stored t₁ t₂ b w₁.node)
      (sound : Sound (suc level) (store_of t) (part b asked lo hi ∷ [])) (apart : Apart (spare_of spare left) (reaches (suc level) (store_of t) (part b asked lo hi ∷ []))) where
    abbrev S₁ : List ℕ
    S₁ = spare_of spare w₁.left

    abbrev A' : List Part
    A' = parts lo sep (entries_of w₁.node.entries)

    less₁ : Within (spare_of spare w₁.left) (spare_of spare (left - 1))
    less₁ = spare-less spare w₁.left (left - 1) p₁.work.fewer

    one : WorkedTo (store_of t) (store_of t₁) level lo sep h.left w₁.node spare (left - 1) w₁.left f
    one = p₁.work.done lo sep f left_open

    right_kept : Same (store_of t) (store_of t₁) (reaches level (store_of t) C)
    right_kept = right-same level S S₁ (store_of t) (store_of t₁) A A' C _ u.cut.sound free less₁ one.going.changed

    own : Memᴰ b (spare_of spare left) → ⊥
    own i = apart b i (Memᴰ.append_left [] (subst⁻¹ (λ (bs : List ℕ). Memᴰ b bs) (reach_step level (store_of t) (part b asked lo hi)) (Memᴰ.head refl)))

    off : Memᴰ b (reaches level (store_of t) C) → ⊥
    off i =
        ⊎_elim
        (λ j. (opened level (store_of t) (part b asked lo hi) sound).off (subst (λ (es : List Entry). Memᴰ b (reaches level (store_of t) (parts lo hi es))) st.same j))
        (λ v. v.1 v.0) (u.cut.reached b (rw (gather_append (reach level (store_of t)) A C) (Memᴰ.append_right (reaches level (store_of t) A) i)))

    not_own : (z : ℕ) → Memᴰ z (reaches level (store_of t) C) → z ≡ b → ⊥
    not_own z i e = off (subst (λ (v : ℕ). Memᴰ v (reaches level (store_of t) C)) e i)

    else₁ : (z : ℕ) → (z ≡ b → ⊥) → store_of t₂ z ≡ store_of t₁ z
    else₁ = stored-else t₁ t₂ b w₁.node q₁

    -- then the right one
    right-stays : Same (store_of t) (store_of t₂) (reaches level (store_of t) C)
    right-stays z i = else₁ z (not_own z i) ∙ right_kept z i

    reaches₂ : reaches level (store_of t₂) C ≡ reaches level (store_of t) C
    reaches₂ = reaches_same (store_of t) (store_of t₂) level C right-stays

    right-open : Opened (store_of t₂) level sep hi h.right spare w₁.left f
    right-open =
        record {
          order = let z = u.high in omega arith;
          legal = let z = u.low in legal-part lo hi sep hi o.legal (omega arith) (omega arith);
          rank = u.rank;
          node = open-frame level (store_of t) (store_of t₂) sep hi u.rank (entries_of h.right.entries) (held_in h.right) f right-stays u.open_r;
          lows_fit = u.lows_r;
          free = λ z i j.
              right-free level S S₁ (store_of t) (store_of t₁) A A' C _ u.cut.sound free less₁ one.going.changed z i
              (subst⁻¹ (λ (bs : List ℕ). Memᴰ z bs) (reaches_same (store_of t) (store_of t₁) level C right_kept) (subst (λ (bs : List ℕ). Memᴰ z bs) reaches₂ j));
        }

    pub right-whole : {e : Failure} → Roomless t₂ level h.right spare w₁.left e → e ≡ NoRoom
    right-whole p₂ = p₂.whole sep hi f right-open

    -- and it is stored in the last of the spare blocks
    module _ {t₃ s₃ map₃ t₄ : List ℕ} {c : ℕ} {d e : Entry} {w₂ : Worked} (some : 0 < left) (last : spare_of spare left ≡ spare_of spare (left - 1) ++ (c ∷ []))
        (p₂ : RefineDone t₂ t₃ s₃ map₃ level h.right spare w₁.left w₂) (q₂ : Stored t₃ t₄ c w₂.node)
        (d₁ : EntryFor b (low_of asked) w₁.node d) (d₂ : EntryFor c h.sep w₂.node e) (low : low_of asked ≤ lo) where
      abbrev S₂ : List ℕ
      S₂ = spare_of spare w₂.left

      abbrev C' : List Part
      C' = parts sep hi (entries_of w₂.node.entries)

      new : Memᴰ c (spare_of spare left) × (Memᴰ c (spare_of spare (left - 1)) → ⊥)
      new = last-new spare left c some st.less st.spares.once last

      less₂ : Within (spare_of spare w₂.left) (spare_of spare w₁.left)
      less₂ = spare-less spare w₂.left w₁.left p₂.work.fewer

      two : WorkedTo (store_of t₂) (store_of t₃) level sep hi h.right w₂.node spare w₁.left w₂.left f
      two = p₂.work.done sep hi f right-open

      not_taken : Taken S₁ S₂ b → ⊥
      not_taken v = own (less₀ b (less₁ b v.0))

      off₂ : Memᴰ b (reaches level (store_of t₂) C) → ⊥
      off₂ i = off (subst (λ (bs : List ℕ). Memᴰ b bs) reaches₂ i)

      off₃ : (z : ℕ) → Memᴰ z (reaches level (store_of t₃) C') → z ≡ b → ⊥
      off₃ z i q = ⊎_elim off₂ not_taken (two.going.changed.reached b (subst (λ (v : ℕ). Memᴰ v (reaches level (store_of t₃) C')) q i))

      -- the last store, as if the old block had not been written
      abbrev W : Store
      W = instead b (store_of t₁ b) (store_of t₃)

      same₃ : Same (store_of t₃) W (reaches level (store_of t₃) C')
      same₃ z i = instead-else b (store_of t₁ b) (store_of t₃) z (off₃ z i)

      aside : Changed level (Taken S₁ S₂) (store_of t₁) C W C' (under level (store_of t₃) sep hi (entries_of w₂.node.entries))
      aside =
          changed-aside level (Taken S₁ S₂) (store_of t₂) (store_of t₃) C C' _ two.going.changed (store_of t₁) W
          (λ z i. sym (else₁ z (not_own z (subst (λ (bs : List ℕ). Memᴰ z bs) reaches₂ i)))) same₃
          (λ z i j. ⊎_elim
          (λ (q : z ≡ b). subst⁻¹ (λ (v : ℕ). W v ≡ store_of t₁ v) q (instead-here b (store_of t₁ b) (store_of t₃)))
          (λ (q : z ≡ b → ⊥). instead-else b (store_of t₁ b) (store_of t₃) z q ∙ two.going.changed.kept z i j ∙ else₁ z q) (same_or_not z b))

      stays : Open level W lo sep one.rank (entries_of w₁.node.entries) (held_in w₁.node) f
      stays =
          open-frame level (store_of t₁) W lo sep one.rank (entries_of w₁.node.entries) (held_in w₁.node) f
          (left-same level S S₁ (store_of t) (store_of t₁) A A' C _ u.cut.sound free less₁ one.going.changed S₂ W C' _ less₂ aside) one.going.node

      opens : Open level W sep hi two.rank (entries_of w₂.node.entries) (held_in w₂.node) f
      opens = open-frame level (store_of t₃) W sep hi two.rank (entries_of w₂.node.entries) (held_in w₂.node) f same₃ two.going.node

      -- the children of both
      abbrev word : ℕ → Option ℕ
      word = within_both level S S₁ (store_of t) (store_of t₁) A A' C (under level (store_of t₁) lo sep (entries_of w₁.node.entries)) u.cut.sound free less₁ one.going.changed S₂ W C'
          (under level (store_of t₃) sep hi (entries_of w₂.node.entries)) less₂ aside

      kids : Changed level (Taken S S₂) (store_of t) (parts lo hi (store_of t b).entries) W (A' ++ C') word
      kids =
          subst (λ (es : List Entry). Changed level (Taken S S₂) (store_of t) (parts lo hi es) W (A' ++ C') word) st.same
          (changed-trans level (Taken S S) (Taken S S₂) (Taken S S₂) (store_of t) (parts lo hi (entries_of n.entries)) (store_of t) (A ++ C) W (A' ++ C') u.word word
          (λ z v. absurd (v.1 v.0)) (λ z v. v) (λ z v. inr v) u.cut
          (halves level S S₁ (store_of t) (store_of t₁) A A' C _ u.cut.sound free less₁ one.going.changed S₂ W C' _ less₂ aside))

      -- the new block is not the old
      other : b ≡ c → ⊥
      other q = own (subst⁻¹ (λ (v : ℕ). Memᴰ v (spare_of spare left)) q new.0)

      changed : Changed (suc level) (Taken (spare_of spare left) S₂) (store_of t) (part b asked lo hi ∷ []) (store_of t₄) (part b (Child d) lo sep ∷ part c (Child e) sep hi ∷ []) f
      unfolding stands_in
      changed =
          settle-two level (Taken S S₂) (Taken (spare_of spare left) S₂) (store_of t) W (store_of t₄) (part b asked lo hi) (Child d) (Child e) one.rank two.rank
          (node_in (blocks_of (length t₁)) w₁.node) (node_in (blocks_of (length t₃)) w₂.node) c sep f word sound
          (λ z v i. apart z v.0 (Memᴰ.append_left [] i)) (λ z v. (less₀ z v.0, v.1)) (λ z v. ⊎_elim (λ j. inl (j, v.1)) inr (spare-step spare left c some st.less st.spares.once last z v.0))
          (new.0, λ i. new.1 (less₁ c (less₂ c i))) (λ v. new.1 v.0) (let z = u.low in omega arith) (let z = u.high in omega arith) kids
          stays
          (refined-shape (Child d) (ground-left st hv cuts d) p₁ b lo sep d₁.block left_open.legal one.lows_fit (p₁.full lo sep f left_open) (let z = d₁.low in omega arith) (d₁.agree (blocks_of (length t₁))))
          opens
          (refined-shape (Child e) (ground-right st hv cuts e) p₂ c sep hi d₂.block right-open.legal two.lows_fit (p₂.full sep hi f right-open) (let z = d₂.low in omega arith) (d₂.agree (blocks_of (length t₃))))
          (stored-else t₃ t₄ c w₂.node q₂ b other ∙ two.going.changed.kept b off₂ not_taken ∙ q₁.here)
          q₂.here
          (λ z i j. stored-else t₃ t₄ c w₂.node q₂ z j ∙ sym (instead-else b (store_of t₁ b) (store_of t₃) z i))

      placed : PlacedTo (store_of t) (store_of t₄) level b asked lo hi spare left (record { first = d; second = Some e; left = w₂.left }) f
      placed =
          record {
            changed = subst⁻¹ (λ (v : ℕ). Changed (suc level) (Taken (spare_of spare left) S₂) (store_of t) (part b asked lo hi ∷ []) (store_of t₄) (part b (Child d) lo v ∷ part e.block (Child e) v hi ∷ []) f) d₂.low
                (subst⁻¹ (λ (v : ℕ). Changed (suc level) (Taken (spare_of spare left) S₂) (store_of t) (part b asked lo hi ∷ []) (store_of t₄) (part b (Child d) lo sep ∷ part v (Child e) sep hi ∷ []) f) d₂.block changed);
            apart = let z = d₂.low in (let a = u.low in omega arith, let a = u.high in omega arith);
          }

pub place-two : {t s map t₁ s₁ map₁ t₂ t₃ s₃ map₃ t₄ : List ℕ} {b level : ℕ} {asked : Asked} {n : NodeValue} {h : Halves} {spare : Spare} {left c : ℕ} {d e : Entry} {w₁ w₂ : Worked}
    → StandsFor t s map b level asked n spare left → Cuttable level n → Halved n h
    → RefineDone t t₁ s₁ map₁ level h.left spare (left - 1) w₁ → Stored t₁ t₂ b w₁.node → 0 < left → spare_of spare left ≡ spare_of spare (left - 1) ++ (c ∷ [])
    → RefineDone t₂ t₃ s₃ map₃ level h.right spare w₁.left w₂ → Stored t₃ t₄ c w₂.node → EntryFor b (low_of asked) w₁.node d → EntryFor c h.sep w₂.node e
    → PlaceDone t t₄ level b asked n spare left (record { first = d; second = Some e; left = w₂.left })
place-two st cuts hv p₁ q₁ some last p₂ q₂ d₁ d₂ =
    let i = last-inside st.spares st.less last in
    record {
      fewer = omega (arith, p₁.work.fewer, p₂.work.fewer);
      block = d₁.block;
      low = d₁.low;
      fits = d₁.fits (block-few st.undoable st.inside);
      second = let z = d₂.block in (omega (arith, i.0), omega (arith, i.1), d₂.fits (block-few st.undoable i.1));
      done = λ lo hi f low sound apart o. placed st cuts hv lo hi f o p₁ q₁ sound apart some last p₂ q₂ d₁ d₂ low;
    }
