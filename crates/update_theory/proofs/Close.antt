-- A node in memory is stored: with the sizes right it is sound again, as one part, as two, or as a new root over two.
-- Assumes nothing.
use mathlib.Core.Path.{◌≡◌, refl, ◌∙◌, subst⁻¹}
use mathlib.Core.Logic.{◌⊎◌, inl, inr, ⊎_elim}
use mathlib.Core.Bool.{true, ◌||◌}
use mathlib.Core.List.Memᴰ
use mathlib.Core.List.{List, [], ◌∷◌, ◌++◌, Memᴰ, append-nil}
use mathlib.Core.Option.{Option}
use Prim.Native.Nat.{ℕ, suc, ◌<◌, ◌≤◌}
use native.Mathlib.Omega.{arith}
use lib.Dec.{eqb}
use Rattle.octets.specs.Lists.{every, distinct, rest}
use Rattle.octets.proofs.Tests.{all_cons, all_nil, and_both, every-make, every-imp}
use Rattle.octets.proofs.Sets.{distinct_cons}
use Rattle.spot.specs.Keys.{rank_key, within, limited}
use Rattle.block.specs.declared.Entry.{Entry}
use Rattle.block.specs.Node.{Node, Store}
use Rattle.block.specs.declared.Asked.{Asked}
use Rattle.block.specs.NodeRules.{names, node_ok, lows_rise, filled, lowest, lows, agrees, leaf_buffers_empty, child_count_ok, child_blocks_ok, stands_in}
use Rattle.block.proofs.Extremes.{inside-limits}
use Rattle.tree.specs.Part.{Part, parts, children, Steps, Legal, low_of}
use Rattle.tree.specs.Lookup.{lookup}
use Rattle.tree.specs.Reach.{reach}
use Rattle.tree.specs.Sound.{sound_at, in_range}
use Rattle.tree.proofs.Entries.{not-below}
use Rattle.tree.proofs.Credible.{lows-not-below, entries-credible, children-apart}
use Rattle.tree.proofs.Below.{live-top}
use Rattle.tree.proofs.Legal.{legal-full, legal-limited}
use Rattle.tree.proofs.Frame.{Same}
use Rattle.update_theory.specs.Change.{part, reaches, Sound, Changed}
use Rattle.update_theory.specs.Open.{under, Open}
use Rattle.update_theory.proofs.Change.{led-one}
use Rattle.update_theory.proofs.Loose.{stored-reach, stored-lookup, stored-sound, off-block, node-changed, off-old, off-new, node-split}
use Rattle.update_theory.proofs.Node.{rules-back, shown-limited}
use Rattle.update_theory.proofs.Open.{held_of}

-- what a node in memory must have beside ready buffers to be stored in block b, read at level l with a in the range [lo, hi)
pub record Shape (l b : ℕ) (a : Asked) (lo hi : ℕ) (n : Node) : Type 0 where
  pub laid : n.laid ≡ true
  pub level : eqb n.level l ≡ true
  pub count : child_count_ok a n ≡ true
  pub lows_up : lows_rise n ≡ true
  pub lows_in : every (within lo hi) (rest (lows n.entries)) ≡ true
  pub sizes : (filled n || lowest n) ≡ true
  pub leaf : leaf_buffers_empty n ≡ true
  pub agree : agrees a n ≡ true
  pub low : low_of a ≤ lo
  pub blocks : child_blocks_ok n ≡ true
  pub own : stands_in a ≡ b
  pub legal : Legal lo hi

-- then it keeps the rules, if its block is none of those below it
closed-node : (l : ℕ) (m : Store) (b : ℕ) (a : Asked) (lo hi r : ℕ) (n : Node) (f : ℕ → Option ℕ) → Open l m lo hi r n.entries (held_of n) f → Shape l b a lo hi n
    → (Memᴰ b (reaches l m (parts lo hi n.entries)) → ⊥)
    → (node_ok l a n ≡ true) × (in_range (part b a lo hi) n ≡ true)
unfolding node_ok in_range
closed-node l m b a lo hi r n f o s off =
    let u = rules-back l m (part b a lo hi) n o.kids.each o.steps r o.ready in (
      all_cons _ _ s.laid (all_cons _ _ s.level (all_cons _ _ s.count (all_cons _ _ u.rises (all_cons _ _ u.once (all_cons _ _ s.lows_up (all_cons _ _ u.above (all_cons _ _ s.sizes (all_cons _ _ s.leaf (all_cons _ _ s.agree
          (all_cons _ _ (not-below a lo hi n s.low u.inside) (all_cons _ _ s.blocks
          (all_cons _ _ (lows-not-below a lo hi n s.low s.lows_in) (all_cons _ _ (children-apart l m a b lo hi n s.own o.kids.each (distinct_cons b (reaches l m (parts lo hi n.entries)) off o.kids.once))
          (all_cons _ _ (entries-credible l m a lo hi n s.low (legal-full lo hi s.legal) s.lows_up o.steps o.kids.each)
          (all_cons _ _ (inside-limits n (every-make limited (names n) (λ k i. legal-limited lo hi k s.legal (u.inside k i)))
          (every-imp (within lo hi) limited (rest (lows n.entries)) (λ k w. legal-limited lo hi k s.legal w) s.lows_in)
          (shown-limited l m lo hi n.entries o.kids.each)) all_nil))))))))))))))),
      all_cons _ _ (every-make _ (names n) u.inside) (all_cons _ _ s.lows_in all_nil),
    )

-- STORE, one node: what settle promises of the part p, where its children changed meanwhile, and f is found through the node in memory
pub settle-one : (l : ℕ) (New : ℕ → Type 0) (x y w : Store) (p : Part) (a : Asked) (r : ℕ) (n : Node) (f g : ℕ → Option ℕ) → Sound (suc l) x (p ∷ [])
    → ((z : ℕ) → New z → Memᴰ z (reach (suc l) x p) → ⊥)
    → Changed l New x (children p (x p.block)) y (parts p.lo p.hi n.entries) g
    → Open l y p.lo p.hi r n.entries (held_of n) f → Shape l p.block a p.lo p.hi n
    → w p.block ≡ n → ((z : ℕ) → (z ≡ p.block → ⊥) → w z ≡ y z)
    → Changed (suc l) New x (p ∷ []) w (part p.block a p.lo p.hi ∷ []) f
settle-one l New x y w p a r n f g s fresh c o h at_block else =
    let k = closed-node l y p.block a p.lo p.hi r n f o h (off-block l New x y w p a n f g s fresh c at_block else) in
    node-changed l New x y w p a n f g s fresh c at_block else h.own k.0 k.1 o.found

-- STORE, two nodes
pub settle-two : (l : ℕ) (Old New : ℕ → Type 0) (x y w : Store) (p : Part) (a₁ a₂ : Asked) (r₁ r₂ : ℕ) (n₁ n₂ : Node) (b sep : ℕ) (f g : ℕ → Option ℕ) → Sound (suc l) x (p ∷ [])
    → ((z : ℕ) → New z → Memᴰ z (reach (suc l) x p) → ⊥) → ((z : ℕ) → Old z → New z) → ((z : ℕ) → New z → Old z ⊎ (z ≡ b)) → New b → (Old b → ⊥) → p.lo ≤ sep → sep ≤ p.hi
    → Changed l Old x (children p (x p.block)) y (parts p.lo sep n₁.entries ++ parts sep p.hi n₂.entries) g
    → Open l y p.lo sep r₁ n₁.entries (held_of n₁) f → Shape l p.block a₁ p.lo sep n₁
    → Open l y sep p.hi r₂ n₂.entries (held_of n₂) f → Shape l b a₂ sep p.hi n₂
    → w p.block ≡ n₁ → w b ≡ n₂ → ((z : ℕ) → (z ≡ p.block → ⊥) → (z ≡ b → ⊥) → w z ≡ y z)
    → Changed (suc l) New x (p ∷ []) w (part p.block a₁ p.lo sep ∷ part b a₂ sep p.hi ∷ []) f
settle-two l Old New x y w p a₁ a₂ r₁ r₂ n₁ n₂ b sep f g s fresh more exact new free low high c o₁ h₁ o₂ h₂ at_block at_new else =
    let K₁ = reaches l y (parts p.lo sep n₁.entries) in
    let K₂ = reaches l y (parts sep p.hi n₂.entries) in
    let off₁ = off-old l Old New x y w p a₁ a₂ n₁ n₂ b sep f g s fresh more exact new free low high c at_block at_new else in
    let off₂ = off-new l Old New x y w p a₁ a₂ n₁ n₂ b sep f g s fresh more exact new free low high c at_block at_new else in
    let k₁ = closed-node l y p.block a₁ p.lo sep r₁ n₁ f o₁ h₁ (λ i. off₁ (Memᴰ.append_left K₂ i)) in
    let k₂ = closed-node l y b a₂ sep p.hi r₂ n₂ f o₂ h₂ (λ i. off₂ (Memᴰ.append_right K₁ i)) in
    node-split l Old New x y w p a₁ a₂ n₁ n₂ b sep f g s fresh more exact new free low high c at_block at_new else h₁.own h₂.own k₁.0 k₁.1 k₂.0 k₂.1 o₁.found o₂.found

-- A NEW ROOT over what one part became: empty buffers, to be filled. r is above the tops.
pub raise : (l : ℕ) (m : Store) (lo hi r : ℕ) (e : Entry) (es : List Entry) (f : ℕ → Option ℕ) → Sound l m (parts lo hi (e ∷ es)) → Steps lo hi (e ∷ es)
    → ((k : ℕ) → within lo hi k ≡ true → under l m lo hi (e ∷ es) k ≡ f k)
    → ((d : Entry) → Memᴰ d (e ∷ es) → rank_key d.top < r)
    → Open l m lo hi r (e ∷ es) (record { points = []; inserts = []; deletes = [] }) f
raise l m lo hi r e es f s st h above =
    record {
      kids = s;
      steps = st;
      ready = record {
        up_p = refl;
        up_i = refl;
        up_d = refl;
        in_p = λ k i. absurd (Memᴰ.not-nil i);
        in_i = λ k i. absurd (Memᴰ.not-nil i);
        in_d = λ k i. absurd (Memᴰ.not-nil i);
        off = λ k i j. Memᴰ.not-nil i;
        above = λ k i. absurd (Memᴰ.not-nil i);
        under_i = λ k i. absurd (Memᴰ.not-nil i);
        under_d = λ k i. absurd (Memᴰ.not-nil i);
        deep = λ k a i. let t = live-top l m lo hi (e ∷ es) s.each k a i in let u = above t.0 t.1 in omega (arith, u, t.3);
      };
      found = h;
    }

-- the parts ps of the store x are one part of the next level in the store w, over New
pub record Raised (l : ℕ) (New : ℕ → Type 0) (x : Store) (ps : List Part) (w : Store) (q : Part) (f : ℕ → Option ℕ) : Type 0 where
  pub sound : Sound (suc l) w (q ∷ [])
  pub found : (k : ℕ) → within q.lo q.hi k ≡ true → lookup (suc l) w k q ≡ f k
  pub reached : (z : ℕ) → Memᴰ z (reach (suc l) w q) → Memᴰ z (reaches l x ps) ⊎ New z
  pub still : (z : ℕ) → Memᴰ z (reaches l x ps) ⊎ New z → Memᴰ z (reach (suc l) w q)

-- and stored, in a new block
pub raised : (l : ℕ) (New : ℕ → Type 0) (x : Store) (ps : List Part) (y w : Store) (b : ℕ) (a : Asked) (lo hi r : ℕ) (n : Node) (f g : ℕ → Option ℕ) (Old : ℕ → Type 0)
    → ((z : ℕ) → New z → Memᴰ z (reaches l x ps) → ⊥) → ((z : ℕ) → Old z → New z) → ((z : ℕ) → New z → Old z ⊎ (z ≡ b)) → New b → (Old b → ⊥)
    → Changed l Old x ps y (parts lo hi n.entries) g → Open l y lo hi r n.entries (held_of n) f → Shape l b a lo hi n
    → w b ≡ n → ((z : ℕ) → (z ≡ b → ⊥) → w z ≡ y z)
    → Raised l New x ps w (part b a lo hi) f
raised l New x ps y w b a lo hi r n f g Old fresh more exact new free c o h at_block else =
    record {
      sound = record {
        each = and_both (sound_at (suc l) w q) true (stored-sound l y w q n at_block same k.0 k.1 o.kids.each) refl;
        once = subst⁻¹ (λ (bs : List ℕ). distinct bs ≡ true) (append-nil (reach (suc l) w q) ∙ below) (distinct_cons b (reaches l y (parts lo hi n.entries)) off o.kids.once);
        led = led-one q h.own;
      };
      found = λ k i. stored-lookup l y w q n at_block same k ∙ o.found k i;
      reached = λ z i. ⊎_elim (λ (e : z ≡ b). inr (rw e new)) (λ j. ⊎_elim inl (λ u. inr (more z u)) (c.reached z j)) (Memᴰ.cases_cons (rw below at i));
      still = λ z i.
          rw below (⊎_elim (λ j. Memᴰ.tail (c.still z (inl j))) (λ j. ⊎_elim (λ u. Memᴰ.tail (c.still z (inr u))) (λ (e : z ≡ b). Memᴰ.head e) (exact z j)) i);
    }
  where
    q : Part
    q = part b a lo hi

    off : Memᴰ b (reaches l y (parts lo hi n.entries)) → ⊥
    off i = ⊎_elim (λ j. fresh b new j) free (c.reached b i)

    k : (node_ok l a n ≡ true) × (in_range (part b a lo hi) n ≡ true)
    k = closed-node l y b a lo hi r n f o h off

    same : Same y w (reaches l y (parts lo hi n.entries))
    same z i = else z (λ (e : z ≡ b). off (rw e at i))

    below : reach (suc l) w q ≡ b ∷ reaches l y (parts lo hi n.entries)
    below = stored-reach l y w q n at_block same
