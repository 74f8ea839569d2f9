-- A new root over two entries: it is filled, stored in a spare block, and is then the root of a sound tree.
-- Assumes nothing.
use mathlib.Core.Path.{◌≡◌, refl, ap, sym, ◌∙◌, subst, subst⁻¹}
use mathlib.Core.Logic.{◌⊎◌, inl, inr, ⊎_elim}
use mathlib.Core.Bool.{true, false, ◌||◌}
use mathlib.Core.List.Memᴰ
use mathlib.Core.List.{List, [], ◌∷◌, Memᴰ}
use mathlib.Core.Option.{Option}
use Prim.Native.Nat.{ℕ, suc, ◌+◌, ◌≤◌, ◌<◌}
use native.Mathlib.Omega.{arith}
use lib.ListN.{length, length-take}
use lib.Dec.{eqb, leb}
use borrow.Author.Tests.{eq-eqb, ne_eqb, le-leb, lt-ltb}
use Rattle.octets.specs.Lists.{every, rest, rising}
use Rattle.octets.proofs.Tests.{all_cons, all_nil, and_both, every-make}
use Rattle.spot.specs.Keys.{start_key, end_key, within, rank_key}
use Rattle.spot.proofs.Places.{within-yes}
use Rattle.block.specs.declared.Entry.{Entry}
use Rattle.block.specs.declared.Asked.TheVariants.{Root}
use Rattle.block.specs.Table.{blocks_of, block_ok}
use Rattle.block.specs.Node.{Node, store_of}
use Rattle.block.specs.NodeRules.{lows, zero_first, lows_rise, child_count_ok, fewest, child_blocks_ok, leaf_buffers_empty, agrees, filled, lowest, stands_in}
use Rattle.block.proofs.Views.{length-lows}
use Rattle.tree.specs.Part.{parts}
use Rattle.tree.proofs.Below.{sizes-filled, sizes-lowest}
use Rattle.tree.proofs.Legal.{legal-whole}
use Rattle.update_theory.specs.Held.{Held}
use Rattle.update_theory.specs.Change.{part, reaches, Sound}
use Rattle.update_theory.specs.Spare.{Taken}
use Rattle.update_theory.specs.Open.{under, Open}
use Rattle.update_theory.specs.Rounds.{FilledUp}
use Rattle.update_theory.proofs.Close.{Shape, raise, Raised, raised}
use Rattle.node.specs.Memory.{entries_of, node_in, EntryFits, Storable, Stored}
use Rattle.node.specs.declared.NodeValue.{NodeValue}
use Rattle.node.proofs.Laws.{stored-else}
use Rattle.edit.specs.Edits.{held_in}
use Rattle.journal.specs.Journal.{Undoable}
use Rattle.fill.proofs.Works.{work-stores}
use Rattle.fill.specs.Filling.{Workable, FillDone, FillFailed, FilledBy}
use Rattle.fill.specs.declared.Failure.{Failure}
use Rattle.change.specs.Growing.{Rooted, Over, OverSound, CrownFailed}

-- one of two
either : (e first second : Entry) → Memᴰ e (first ∷ second ∷ []) → (e ≡ first) ⊎ (e ≡ second)
either e first second i =
    ⊎_elim inl (λ j. inr (Memᴰ.eq_of_singleton j)) (Memᴰ.cases_cons i)

module _ {level : ℕ} {first second : Entry} {n : NodeValue} (o : Over level first second n) where
  same : (e : Entry) → Memᴰ e (entries_of n.entries) → Memᴰ e (first ∷ second ∷ [])
  same e i = subst (λ (es : List Entry). Memᴰ e es) o.entries i

  lows-are : lows (entries_of n.entries) ≡ first.low ∷ second.low ∷ []
  lows-are = ap lows o.entries

  -- it may be filled
  pub crown-works : {t s map : List ℕ} → Undoable t s map → level ≤ 6 → EntryFits first × EntryFits second
      → (1 ≤ first.block) × (first.block < blocks_of (length t)) → (1 ≤ second.block) × (second.block < blocks_of (length t)) → Workable t s map n level
  crown-works {t} u deep fits in₁ in₂ =
      record {
        undoable = u;
        tidy = o.tidy;
        entries = record { few = omega (arith, o.count); each = λ e i. ⊎_elim (λ (q : e ≡ first). subst⁻¹ EntryFits q fits.0) (λ (q : e ≡ second). subst⁻¹ EntryFits q fits.1) (either e first second (same e i)) };
        inside = λ e i.
            ⊎_elim (λ (q : e ≡ first). subst⁻¹ (λ (d : Entry). (1 ≤ d.block) × (d.block < blocks_of (length t))) q in₁)
            (λ (q : e ≡ second). subst⁻¹ (λ (d : Entry). (1 ≤ d.block) × (d.block < blocks_of (length t))) q in₂)
            (either e first second (same e i));
        level = o.level;
        deep = deep;
        points = omega (arith, o.points);
        inserts = omega (arith, o.inserts);
        deletes = omega (arith, o.deletes);
      }

  first-zero : first.low ≡ 0 → zero_first (lows (entries_of n.entries)) ≡ true
  first-zero zero = ap zero_first lows-are ∙ eq-eqb first.low 0 zero

  abbrev above : ℕ
  above = suc (rank_key first.top + rank_key second.top)

  -- over sound parts it stands open
  crown-open : (t : List ℕ) → OverSound t first second level (λ f. Open level (store_of t) start_key end_key above (entries_of n.entries) (held_in n) f)
  crown-open t f low high kids finds =
      subst⁻¹ (λ (ds : List Entry). Open level (store_of t) start_key end_key above ds (held_in n) f) o.entries
      (subst⁻¹ (λ (h : Held). Open level (store_of t) start_key end_key above (first ∷ second ∷ []) h f) o.holds
      (raise level (store_of t) start_key end_key above first (second ∷ []) f kids (omega arith, (omega arith, tt)) finds
      (λ d i.
      ⊎_elim (λ (q : d ≡ first). let z : rank_key d.top ≡ rank_key first.top = ap (λ (x : Entry). rank_key x.top) q in omega arith)
      (λ (q : d ≡ second). let z : rank_key d.top ≡ rank_key second.top = ap (λ (x : Entry). rank_key x.top) q in omega arith)
      (either d first second i))))

  -- it could not be filled
  pub crown-fails : {t t₁ s₁ map₁ : List ℕ} {e : Failure} → first.low ≡ 0 → FillFailed t t₁ s₁ map₁ level n e → CrownFailed t first second level e
  crown-fails {t} zero p =
      record { whole = λ f low high kids finds. p.whole start_key end_key above f legal-whole (first-zero zero) (crown-open t f low high kids finds) }

  module _ {t t₁ s₁ map₁ : List ℕ} {r : NodeValue} (p : FillDone t t₁ s₁ map₁ level n r) (zero : first.low ≡ 0) where
    -- and then stored
    pub crown-stores : Storable r
    crown-stores = work-stores p.works (ap zero_first p.same_lows ∙ first-zero zero) (omega (arith, p.inserts, o.inserts)) (omega (arith, p.deletes, o.deletes))

    module _ (inner : 1 ≤ level) (t₂ : List ℕ) (b : ℕ) (st : Stored t₁ t₂ b r) (f : ℕ → Option ℕ) (low : start_key < second.low) (high : second.low < end_key)
        (kids : Sound level (store_of t) (parts start_key end_key (first ∷ second ∷ [])))
        (finds : (k : ℕ) → within start_key end_key k ≡ true → under level (store_of t) start_key end_key (first ∷ second ∷ []) k ≡ f k)
        (off : Memᴰ b (reaches level (store_of t) (parts start_key end_key (first ∷ second ∷ []))) → ⊥) where
      abbrev m : Node
      m = node_in (blocks_of (length t₁)) r

      abbrev es : List Entry
      es = entries_of r.entries

      filled_is : FilledBy (store_of t) (store_of t₁) level n r start_key end_key f
      filled_is = p.done start_key end_key above f legal-whole (first-zero zero) (crown-open t f low high kids finds)

      lows-then : lows es ≡ first.low ∷ second.low ∷ []
      lows-then = p.same_lows ∙ lows-are

      two : length es ≡ 2
      two = sym (length-lows es) ∙ ap length lows-then

      deep : eqb r.level 0 ≡ false
      deep = ne_eqb r.level 0 (λ e. let z = p.works.level in omega arith)

      sizes : FilledUp es (held_in r) → (filled m || lowest m) ≡ true
      sizes (inl h) =
          let np = length-take r.points.n r.points.spots in
          let ni = length-take r.inserts.n r.inserts.spots in
          let nd = length-take r.deletes.n r.deletes.keys in
          sizes-filled m h (omega (arith, np, p.works.points)) (omega (arith, ni, p.inserts, o.inserts)) (omega (arith, nd, p.deletes, o.deletes))
      sizes (inr h) = sizes-lowest m h.0 h.1 h.2 h.3

      shape : Shape level b (Root b) start_key end_key m
      unfolding child_count_ok fewest lows_rise leaf_buffers_empty agrees child_blocks_ok block_ok stands_in
      shape =
          record {
            laid = refl;
            level = eq-eqb r.level level p.works.level;
            count = rw deep (all_cons _ _ (le-leb 2 (length es) (omega (arith, two))) (all_cons _ _ (le-leb (length es) 8 (omega (arith, two))) all_nil));
            lows_up = all_cons _ _ (ap zero_first p.same_lows ∙ first-zero zero) (all_cons _ _ (ap (λ (l : List ℕ). rising (rest l)) lows-then ∙ and_both (leb 0 second.low) true (le-leb 0 second.low (omega arith)) refl) all_nil);
            lows_in = ap (λ (l : List ℕ). every (within start_key end_key) (rest l)) lows-then ∙ and_both (within start_key end_key second.low) true (within-yes start_key end_key second.low (omega arith) high) refl;
            sizes = sizes filled_is.full;
            leaf = rw deep;
            agree = refl;
            low = omega arith;
            blocks = every-make _ es (λ e i. let z = p.works.inside e i in all_cons _ _ (le-leb 1 e.block z.0) (all_cons _ _ (lt-ltb e.block (blocks_of (length t₁)) z.1) all_nil));
            own = refl;
            legal = legal-whole;
          }

      -- the tree under it
      pub crowned : Rooted level (store_of t) (parts start_key end_key (first ∷ second ∷ [])) (λ z. z ≡ b) (suc level) (store_of t₂) b f
      crowned =
          subst (λ (ds : List Entry). Rooted level (store_of t) (parts start_key end_key ds) (λ z. z ≡ b) (suc level) (store_of t₂) b f) o.entries
          (record { sound = u.sound; found = u.found; reached = u.reached; still = u.still })
        where
          off_n : Memᴰ b (reaches level (store_of t) (parts start_key end_key (entries_of n.entries))) → ⊥
          off_n = subst⁻¹ (λ (ds : List Entry). Memᴰ b (reaches level (store_of t) (parts start_key end_key ds)) → ⊥) o.entries off

          u : Raised level (λ z. z ≡ b) (store_of t) (parts start_key end_key (entries_of n.entries)) (store_of t₂) (part b (Root b) start_key end_key) f
          u =
              raised level (λ z. z ≡ b) (store_of t) (parts start_key end_key (entries_of n.entries)) (store_of t₁) (store_of t₂) b (Root b) start_key end_key filled_is.rank m f
              (under level (store_of t₁) start_key end_key es) (Taken [] [])
              (λ z (e : z ≡ b) i. off_n (subst (λ (k : ℕ). Memᴰ k (reaches level (store_of t) (parts start_key end_key (entries_of n.entries)))) e i))
              (λ z i. absurd (Memᴰ.not-nil i.0)) (λ z e. inr e) refl (λ i. Memᴰ.not-nil i.0)
              filled_is.loop.going.changed filled_is.loop.going.node shape st.here (stored-else t₁ t₂ b r st)
