-- The root settled, as one or with a new root over two: what is then known of the tree.
-- Assumes nothing.
use mathlib.Core.Path.{◌≡◌, refl, ap, sym, ◌∙◌, subst, subst⁻¹}
use mathlib.Core.Logic.{◌⊎◌, inl, inr, ⊎_elim}
use mathlib.Core.Bool.{Bool, true, false, ◌||◌, true≢false}
use mathlib.Core.List.{List, [], ◌∷◌, ◌++◌, Memᴰ}
use Rattle.std.specs.Prelude.{Some, None, IfSome, Result, Ok, Err}
use Rattle.std.specs.Prelude as maybe
use mathlib.Core.Option.{Option}
use Prim.Native.Nat.{ℕ, suc, ◌+◌, ◌-◌, ◌≤◌, ◌<◌}
use native.Mathlib.Numerals.{add-one}
use native.Mathlib.Omega.{arith}
use lib.ListN.{length}
use lib.Dec.{eqb, ltb}
use borrow.Author.Tests.{eq-eqb, ltb-false}
use Rattle.octets.specs.Lists.{distinct}
use Rattle.octets.specs.Sets.{Apart}
use Rattle.octets.proofs.Tests.{neither}
use Rattle.octets.proofs.Sets.{in-or-not}
use Rattle.spot.specs.Keys.{start_key, end_key, within}
use Rattle.spot.specs.declared.Spot.{Spot}
use Rattle.spot.proofs.Limits.{first-end}
use Rattle.block.specs.declared.Asked.TheVariants.{Root, Child}
use Rattle.block.specs.Table.{blocks_of}
use Rattle.block.specs.Node.{Store, store_of}
use Rattle.tree.specs.Part.{Part, parts}
use Rattle.tree.specs.Lookup.{lookup}
use Rattle.tree.proofs.Legal.{legal-whole}
use Rattle.update_theory.specs.Change.{part, reaches, Sound, Changed}
use Rattle.update_theory.specs.Spare.{Taken}
use Rattle.update_theory.specs.Open.{under}
use Rattle.node.specs.Memory.{EntryFits, Stored}
use Rattle.node.specs.declared.NodeValue.{NodeValue}
use Rattle.journal.specs.Journal.{Kept}
use Rattle.journal.proofs.Kept.{undoable-kept}
use Rattle.fill.specs.Filling.{FillDone}
use Rattle.fill.specs.declared.Failure.{Failure}
use Rattle.fill.specs.declared.Failure.TheVariants.{NoRoom}
use Rattle.block.specs.declared.Entry.{Entry}
use Rattle.spare.specs.declared.Spare.{Spare}
use Rattle.spare.specs.Spares.{spare_of, taken_of}
use Rattle.spare.proofs.Taking.{spare-less, taken_is, last-new, spare-step}
use Rattle.batch.specs.Batches.{batch_says}
use Rattle.settle.specs.Settling.{Settleable, WhereSound, became_as, SettleDone, SettleFailed, SettledTo}
use Rattle.settle.specs.declared.Settled.{Settled}
use Rattle.settle.proofs.Ways.{spares-kept}
use Rattle.change.specs.declared.Grown.{Grown}
use Rattle.change.specs.Growing.{Rooted, Over, Crownable, OverSound, CrownDone, CrownPost, OnTree, GrowDone, GrowFailed, GrowPost}
use Rattle.change.proofs.Trees.{rooted-one, rooted-after}
use Rattle.change.proofs.Crown.{crowned}

-- there is a spare block, and a level more is not too many
pub room-above : (left level : ℕ) → eqb left 0 || ltb 6 level ≡ false → (0 < left) × (level ≤ 6)
room-above left level h =
    let a = neither (eqb left 0) (ltb 6 level) h in
    let some : left ≡ 0 → ⊥ = λ z. true≢false (sym (eq-eqb left 0 z) ∙ a.0) in
    (omega (arith, some), ltb-false 6 level a.1)

-- ---- a new root

pub crown-done : {t t₁ s₁ map₁ : List ℕ} {first second : Entry} {level : ℕ} {n r : NodeValue} (t₂ : List ℕ) (spare : Spare) (left b : ℕ)
    → Over level first second n → FillDone t t₁ s₁ map₁ level n r → first.low ≡ 0 → 1 ≤ level → level ≤ 6 → 0 < left
    → spare_of spare left ≡ spare_of spare (left - 1) ++ (b ∷ []) → Stored t₁ t₂ b r
    → CrownDone t t₂ first second level spare left (record { levels = level + 1; root = b; left = left - 1 })
crown-done {level = level} t₂ spare left b o p zero inner deep some last st =
    record {
      some = some;
      fewer = refl;
      levels = (add-one level, deep);
      taken = last;
      done = λ f low high kids finds off. crowned o p zero inner t₂ b st f low high kids finds off;
    }

-- ---- the tree

-- what holds of a part that is sound holds of the tree
at-root : (t : List ℕ) (root level : ℕ) (ss : List Spot) (ks : List ℕ) (spare : Spare) (Then : ℕ → ℕ → Type 0) → WhereSound t level root (Root root) ss ks spare spare.n Then
    → OnTree t root level ss ks spare (Then start_key end_key)
at-root t root level ss ks spare Then h hi hd sound apart = h start_key end_key first-end legal-whole (omega arith) hi hd sound apart

-- settling failed
pub grow-fails : {t : List ℕ} {root level : ℕ} {ss : List Spot} {ks : List ℕ} {spare : Spare} {e : Failure} → SettleFailed t level root (Root root) ss ks spare spare.n e
    → GrowFailed t root level ss ks spare e
grow-fails {t} {root} {level} {ss} {ks} {spare} {e} p =
    record { whole = λ hi hd sound apart. at-root t root level ss ks spare (λ lo hi. e ≡ NoRoom) p.whole hi hd sound apart }

module _ {t w map t₁ w₁ map₁ : List ℕ} {root level ni nd : ℕ} {ss : List Spot} {ks : List ℕ} {spare : Spare} {r : Settled} (s : Settleable t w map root level ni nd spare spare.n)
    (kept : Kept t w map t₁ w₁ map₁) (p : SettleDone t t₁ level root (Root root) ss ks spare spare.n r) where
  abbrev x : Store
  x = store_of t

  abbrev whole_part : Part
  whole_part = part root (Root root) start_key end_key

  abbrev says : ℕ → Option ℕ
  says k = batch_says ss ks k (lookup (suc level) x k whole_part)

  all_of : (k : ℕ) → within start_key end_key k ≡ true → within start_key end_key k || false ≡ true
  all_of k i = ap (λ (u : Bool). u || false) i

  settled-to : OnTree t root level ss ks spare (SettledTo (store_of t) (store_of t₁) level root (Root root) start_key end_key ss ks spare spare.n r)
  settled-to = at-root t root level ss ks spare (λ lo hi. SettledTo (store_of t) (store_of t₁) level root (Root root) lo hi ss ks spare spare.n r) p.done

  -- one part
  pub grow-one : r.second ≡ None → GrowDone t t₁ root level ss ks spare (record { levels = level + 1; root = root; left = r.left })
  grow-one one =
      record {
        fewer = p.fewer;
        levels = (omega arith, omega (arith, s.deep));
        top = inl refl;
        done = λ hi hd sound apart.
            let q = settled-to hi hd sound apart in
            let c : Changed (suc level) (Taken (spare_of spare spare.n) (spare_of spare r.left)) x (whole_part ∷ []) (store_of t₁) (whole_part ∷ []) says =
            subst (λ (o : maybe.Option Entry). Changed (suc level) (Taken (spare_of spare spare.n) (spare_of spare r.left)) x (whole_part ∷ []) (store_of t₁) (became_as root (Root root) start_key end_key r.first o) says) one q.changed
            in
            subst⁻¹ (λ (h : ℕ). Rooted (suc level) x (whole_part ∷ []) (Taken (spare_of spare spare.n) (spare_of spare r.left)) h (store_of t₁) root says) (add-one level)
            (rooted-one (suc level) (Taken (spare_of spare spare.n) (spare_of spare r.left)) x root (store_of t₁) says c);
      }

  module _ (second : Entry) (two : r.second ≡ Some second) where
    fits-two : (1 ≤ second.block) × (second.block < blocks_of (length t)) × EntryFits second
    fits-two = subst (λ (o : maybe.Option Entry). IfSome o (λ d. (1 ≤ d.block) × (d.block < blocks_of (length t)) × EntryFits d)) two p.second

    -- two parts: a new root may be put over them
    pub grow-crowns : Crownable t₁ w₁ map₁ r.first second (level + 1) spare r.left
    grow-crowns =
        record {
          undoable = undoable-kept kept s.undoable;
          inner = omega arith;
          fits = (p.fits, fits-two.2);
          inside = subst⁻¹ (λ (b : ℕ). (1 ≤ b) × (b < blocks_of (length t₁))) p.block (s.first, subst⁻¹ (λ (n : ℕ). root < blocks_of n) kept.table s.inside);
          inside_too = (fits-two.0, subst⁻¹ (λ (n : ℕ). second.block < blocks_of n) kept.table fits-two.1);
          zero = p.low;
          spares = spares-kept t t₁ spare kept.table s.spares;
          less = p.fewer;
        }

    two-parts : SettledTo x (store_of t₁) level root (Root root) start_key end_key ss ks spare spare.n r
        → Changed (suc level) (Taken (spare_of spare spare.n) (spare_of spare r.left)) x (whole_part ∷ []) (store_of t₁) (parts start_key end_key (r.first ∷ second ∷ [])) says
    two-parts q =
        subst⁻¹ (λ (b : ℕ). Changed (suc level) (Taken (spare_of spare spare.n) (spare_of spare r.left)) x (whole_part ∷ []) (store_of t₁) (part b (Child r.first) start_key second.low ∷ part second.block (Child second) second.low end_key ∷ []) says) p.block
        (subst (λ (o : maybe.Option Entry). Changed (suc level) (Taken (spare_of spare spare.n) (spare_of spare r.left)) x (whole_part ∷ []) (store_of t₁) (became_as root (Root root) start_key end_key r.first o) says) two q.changed)

    -- they are sound, and what holds then of a new root over them holds
    at-crown : (Then : (ℕ → Option ℕ) → Type 0) → OverSound t₁ r.first second (level + 1) Then → SettledTo x (store_of t₁) level root (Root root) start_key end_key ss ks spare spare.n r → Then says
    at-crown Then h q =
        let a = subst (λ (o : maybe.Option Entry). IfSome o (λ d. (start_key < d.low) × (d.low < end_key))) two q.apart in
        h says a.0 a.1 (subst⁻¹ (λ (h : ℕ). Sound h (store_of t₁) (parts start_key end_key (r.first ∷ second ∷ []))) (add-one level) (two-parts q).sound)
        (subst⁻¹ (λ (h : ℕ). (k : ℕ) → within start_key end_key k ≡ true → under h (store_of t₁) start_key end_key (r.first ∷ second ∷ []) k ≡ says k) (add-one level) (λ k i. (two-parts q).found k (all_of k i)))

    -- and with it the tree is whole
    grow-crowned : (t₂ : List ℕ) (g : Grown) → CrownDone t₁ t₂ r.first second (level + 1) spare r.left g → GrowDone t t₂ root level ss ks spare g
    grow-crowned t₂ g c =
        record {
          fewer = let z = c.fewer in let y = p.fewer in omega arith;
          levels = let z = c.levels in (omega (arith, z.0), omega (arith, z.0, z.1));
          top = inr (subst⁻¹ (λ (n : ℕ). Memᴰ g.root (taken_of spare n)) c.fewer (taken_is spare (r.left - 1) lower once g.root (all-spare new.0) new.1));
          done = λ hi hd sound apart. grown (settled-to hi hd sound apart) apart;
        }
      where
        once : distinct (spare_of spare spare.n) ≡ true
        once = s.spares.once

        lower : r.left - 1 ≤ spare.n
        lower = let y = p.fewer in omega arith

        -- the new root's block was spare
        new : Memᴰ g.root (spare_of spare r.left) × (Memᴰ g.root (spare_of spare (r.left - 1)) → ⊥)
        new = last-new spare r.left g.root c.some p.fewer once c.taken

        all-spare : Memᴰ g.root (spare_of spare r.left) → Memᴰ g.root (spare_of spare spare.n)
        all-spare i = spare-less spare r.left spare.n p.fewer g.root i

        grown : SettledTo x (store_of t₁) level root (Root root) start_key end_key ss ks spare spare.n r → Apart (spare_of spare spare.n) (reaches (suc level) x (whole_part ∷ []))
            → Rooted (suc level) x (whole_part ∷ []) (Taken (spare_of spare spare.n) (spare_of spare g.left)) g.levels (store_of t₂) g.root says
        grown q apart =
            subst⁻¹ (λ (n : ℕ). Rooted (suc level) x (whole_part ∷ []) (Taken (spare_of spare spare.n) (spare_of spare n)) g.levels (store_of t₂) g.root says) c.fewer
            (subst⁻¹ (λ (h : ℕ). Rooted (suc level) x (whole_part ∷ []) (Taken (spare_of spare spare.n) (spare_of spare (r.left - 1))) h (store_of t₂) g.root says) (c.levels.0 ∙ ap suc (add-one level))
            (rooted-after (suc level) A (λ z. z ≡ g.root) (Taken (spare_of spare spare.n) (spare_of spare (r.left - 1))) x (whole_part ∷ []) (store_of t₁) qs (suc (suc level)) (store_of t₂) g.root says says
            (λ z i. (i.0, λ j. i.1 (spare-less spare (r.left - 1) r.left (omega arith) z j)))
            (λ z (d : z ≡ g.root). subst⁻¹ (λ (k : ℕ). Taken (spare_of spare spare.n) (spare_of spare (r.left - 1)) k) d (all-spare new.0, new.1))
            exact (two-parts q) over))
          where
            A : ℕ → Type 0
            A = Taken (spare_of spare spare.n) (spare_of spare r.left)

            qs : List Part
            qs = parts start_key end_key (r.first ∷ second ∷ [])

            exact : (z : ℕ) → Taken (spare_of spare spare.n) (spare_of spare (r.left - 1)) z → Taken (spare_of spare spare.n) (spare_of spare r.left) z ⊎ (z ≡ g.root)
            exact z i =
                ⊎_elim (λ j. ⊎_elim (λ k. absurd (i.1 k)) inr (spare-step spare r.left g.root c.some p.fewer once c.taken z j)) (λ n. inl (i.0, n)) (in-or-not z (spare_of spare r.left))

            over : Rooted (suc level) (store_of t₁) (parts start_key end_key (r.first ∷ second ∷ [])) (λ z. z ≡ g.root) (suc (suc level)) (store_of t₂) g.root says
            over =
                subst (λ (h : ℕ). Rooted h (store_of t₁) (parts start_key end_key (r.first ∷ second ∷ [])) (λ z. z ≡ g.root) (suc h) (store_of t₂) g.root says) (add-one level)
                (at-crown
                (λ f. (Memᴰ g.root (reaches (level + 1) (store_of t₁) (parts start_key end_key (r.first ∷ second ∷ []))) → ⊥)
                → Rooted (level + 1) (store_of t₁) (parts start_key end_key (r.first ∷ second ∷ [])) (λ z. z ≡ g.root) (suc (level + 1)) (store_of t₂) g.root f)
                c.done q
                (subst⁻¹ (λ (h : ℕ). Memᴰ g.root (reaches h (store_of t₁) (parts start_key end_key (r.first ∷ second ∷ []))) → ⊥) (add-one level)
                (λ i. ⊎_elim (λ j. apart g.root (all-spare new.0) j) (λ n. n.1 new.0) ((two-parts q).reached g.root i))))

    pub grow-two : (t₂ : List ℕ) (g : Result Grown Failure) → CrownPost t₁ t₂ r.first second (level + 1) spare r.left g → GrowPost t t₂ root level ss ks spare g
    grow-two t₂ (Ok g) c = grow-crowned t₂ g c
    grow-two t₂ (Err e) c = record { whole = λ hi hd sound apart. at-crown (λ f. e ≡ NoRoom) c.whole (settled-to hi hd sound apart) }
