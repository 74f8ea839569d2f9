-- A node in memory over children in a store, and what holds once it is stored: in its own block, or as two nodes in its own and a new block.
-- Assumes nothing.
use mathlib.Core.Path.{◌≡◌, refl, ap, ap₂, sym, ◌∙◌, subst}
use mathlib.Core.Logic.{◌⊎◌, inl, inr, ⊎_elim}
use mathlib.Core.Bool.{Bool, true, false, cond, ◌||◌, or-false}
use mathlib.Core.List.Memᴰ
use mathlib.Core.List.{List, [], ◌∷◌, ◌++◌, Memᴰ, append-nil}
use mathlib.Core.Option.{Option, none}
use Prim.Native.Nat.{ℕ, suc, ◌≤◌}
use Rattle.octets.specs.Lists.{every, distinct}
use Rattle.octets.proofs.Tests.{all-at, all_cons, all_nil, and_left, and_both, every-left, every-right, every-join}
use Rattle.octets.proofs.Sets.{distinct-split, distinct-join, distinct_head, distinct_tail, distinct_cons}
use Rattle.spot.specs.Keys.{within}
use Rattle.spot.proofs.Places.{within-join}
use Rattle.block.specs.Node.{Node, Store}
use Rattle.block.specs.declared.Asked.{Asked}
use Rattle.block.specs.NodeRules.{node_ok, stands_in}
use Rattle.tree.specs.Part.{Part, parts, children}
use Rattle.tree.specs.Lookup.{down, lookup, node_word}
use Rattle.tree.specs.Reach.{reach}
use Rattle.tree.specs.Sound.{sound_at, in_range}
use Rattle.tree.proofs.Frame.{Same, reaches_same, sounds-same, lookups-same}
use Rattle.tree.proofs.Gather.{gather_append}
use Rattle.update_theory.specs.Change.{part, covers, reaches, leads, Sound, Changed}
use Rattle.update_theory.proofs.Change.{led-one, one-led, led-parts}

-- what is found at k through a node in memory that stands for the part p
abbrev pub look : ℕ → Store → Part → Node → ℕ → Option ℕ
look l m p n k = node_word n k (down (lookup l m k) k (children p n))

-- one level of lookup
pub lookup-step : (l : ℕ) (m : Store) (k : ℕ) (p : Part) → lookup (suc l) m k p ≡ look l m p (m p.block) k
unfolding lookup
lookup-step l m k p = refl

-- and of reach
pub reach_step : (l : ℕ) (m : Store) (p : Part) → reach (suc l) m p ≡ p.block ∷ reaches l m (children p (m p.block))
unfolding reach
reach_step l m p = refl

-- the parts of a sound part
pub record Opened (l : ℕ) (m : Store) (p : Part) : Type 0 where
  pub ok : node_ok l p.asked (m p.block) ≡ true
  pub inside : in_range p (m p.block) ≡ true
  pub kids : Sound l m (children p (m p.block))
  pub off : Memᴰ p.block (reaches l m (children p (m p.block))) → ⊥
  pub own : stands_in p.asked ≡ p.block

-- a sound part is made of these
pub opened : (l : ℕ) (m : Store) (p : Part) → Sound (suc l) m (p ∷ []) → Opened l m p
unfolding sound_at
opened l m p s =
    let h = and_left (sound_at (suc l) m p) true s.each in
    let d : distinct (p.block ∷ reaches l m (children p (m p.block))) ≡ true = subst (λ (r : List ℕ). distinct r ≡ true) (append-nil (reach (suc l) m p) ∙ reach_step l m p) s.once in
    record {
      ok = all-at _ h 0;
      inside = all-at _ h 1;
      kids = record { each = all-at _ h 2; once = distinct_tail p.block (reaches l m (children p (m p.block))) d; led = led-parts p.lo p.hi (m p.block).entries };
      off = distinct_head p.block (reaches l m (children p (m p.block))) d;
      own = one-led p s.led;
    }

-- a node stored: w has it in p's block, and is y where its children reach
module _ (l : ℕ) (y w : Store) (p : Part) (n : Node) (at_block : w p.block ≡ n) (same : Same y w (reaches l y (children p n))) where
  -- what it then reaches
  pub stored-reach : reach (suc l) w p ≡ p.block ∷ reaches l y (children p n)
  stored-reach = reach_step l w p ∙ rw (at_block) (ap (λ (r : List ℕ). p.block ∷ r) (reaches_same y w l (children p n) same))

  -- what is found there
  pub stored-lookup : (k : ℕ) → lookup (suc l) w k p ≡ look l y p n k
  stored-lookup k = lookup-step l w k p ∙ rw at_block (ap (node_word n k) (lookups-same y w l (children p n) same k))

  -- and that it is sound
  pub stored-sound : node_ok l p.asked n ≡ true → in_range p n ≡ true → every (sound_at l y) (children p n) ≡ true → sound_at (suc l) w p ≡ true
  unfolding sound_at
  stored-sound a b c = rw at_block (all_cons _ _ a (all_cons _ _ b (all_cons _ _ (sounds-same y w l (children p n) same ∙ c) all_nil)))

-- what the children reach is reached
kids-in : (l : ℕ) (m : Store) (p : Part) (z : ℕ) → Memᴰ z (reaches l m (children p (m p.block))) → Memᴰ z (reach (suc l) m p)
kids-in l m p z i = rw (reach_step l m p) (Memᴰ.tail i)

-- The children of p changed, and its node is stored anew in its block: p changed.
module _ (l : ℕ) (New : ℕ → Type 0) (x y w : Store) (p : Part) (a : Asked) (n : Node) (f g : ℕ → Option ℕ) (s : Sound (suc l) x (p ∷ []))
    (fresh : (z : ℕ) → New z → Memᴰ z (reach (suc l) x p) → ⊥)
    (c : Changed l New x (children p (x p.block)) y (parts p.lo p.hi n.entries) g)
    (at_block : w p.block ≡ n) (else : (z : ℕ) → (z ≡ p.block → ⊥) → w z ≡ y z) where
  abbrev q : Part
  q = part p.block a p.lo p.hi

  o : Opened l x p
  o = opened l x p s

  -- its block is not one of theirs
  pub off-block : Memᴰ p.block (reaches l y (children q n)) → ⊥
  off-block i = ⊎_elim (λ j. o.off j) (λ j. fresh p.block j (rw (reach_step l x p) (Memᴰ.head refl))) (c.reached p.block i)

  same : Same y w (reaches l y (children q n))
  same z i = else z (λ (e : z ≡ p.block). off-block (rw e at i))

  -- if the node keeps the rules and finds f
  pub node-changed : stands_in a ≡ p.block → node_ok l a n ≡ true → in_range q n ≡ true → ((k : ℕ) → within p.lo p.hi k ≡ true → look l y q n k ≡ f k)
      → Changed (suc l) New x (p ∷ []) w (q ∷ []) f
  node-changed own ok inside h =
      record {
        sound = record { each = and_both (sound_at (suc l) w q) true (stored-sound l y w q n at_block same ok inside c.sound.each) refl; once = rw (append-nil (reach (suc l) w q), stored-reach l y w q n at_block same) (distinct_cons p.block (reaches l y (children q n)) off-block c.sound.once); led = led-one q own };
        span = λ k. refl;
        found = λ k i. rw (sym (or-false (within p.lo p.hi k)) ∙ i) (stored-lookup l y w q n at_block same k ∙ h k (sym (or-false (within p.lo p.hi k)) ∙ i));
        reached = λ z i. ⊎_elim (λ (e : z ≡ p.block). inl (rw (append-nil (reach (suc l) x p), reach_step l x p) (Memᴰ.head e)))
            (λ j. ⊎_elim (λ u. inl (rw (append-nil (reach (suc l) x p)) (kids-in l x p z u))) inr (c.reached z j))
            (Memᴰ.cases_cons (rw (append-nil (reach (suc l) w q), stored-reach l y w q n at_block same) at i));
        still = λ z i. rw (append-nil (reach (suc l) w q), stored-reach l y w q n at_block same)
            (⊎_elim (λ j. ⊎_elim (λ (e : z ≡ p.block). Memᴰ.head e) (λ u. Memᴰ.tail (c.still z (inl u))) (Memᴰ.cases_cons (rw (append-nil (reach (suc l) x p), reach_step l x p) at j)))
            (λ j. Memᴰ.tail (c.still z (inr j)))
            i);
        kept = λ z i j.
            else z (λ (e : z ≡ p.block). i (rw (append-nil (reach (suc l) x p), reach_step l x p) (Memᴰ.head e))) ∙
            c.kept z (λ u. i (rw (append-nil (reach (suc l) x p)) (kids-in l x p z u))) j;
      }

-- The same, stored as two nodes: the second in a new block, from the key sep on.
module _ (l : ℕ) (Old New : ℕ → Type 0) (x y w : Store) (p : Part) (a₁ a₂ : Asked) (n₁ n₂ : Node) (b sep : ℕ) (f g : ℕ → Option ℕ) (s : Sound (suc l) x (p ∷ []))
    (fresh : (z : ℕ) → New z → Memᴰ z (reach (suc l) x p) → ⊥) (more : (z : ℕ) → Old z → New z) (exact : (z : ℕ) → New z → Old z ⊎ (z ≡ b)) (new : New b) (free : Old b → ⊥)
    (low : p.lo ≤ sep) (high : sep ≤ p.hi)
    (c : Changed l Old x (children p (x p.block)) y (parts p.lo sep n₁.entries ++ parts sep p.hi n₂.entries) g)
    (at_block : w p.block ≡ n₁) (at_new : w b ≡ n₂) (else : (z : ℕ) → (z ≡ p.block → ⊥) → (z ≡ b → ⊥) → w z ≡ y z) where
  abbrev q₁ : Part
  q₁ = part p.block a₁ p.lo sep

  abbrev q₂ : Part
  q₂ = part b a₂ sep p.hi

  abbrev K₁ : List ℕ
  K₁ = reaches l y (children q₁ n₁)

  abbrev K₂ : List ℕ
  K₂ = reaches l y (children q₂ n₂)

  kids : reaches l y (children q₁ n₁ ++ children q₂ n₂) ≡ K₁ ++ K₂
  kids = gather_append (reach l y) (children q₁ n₁) (children q₂ n₂)

  o₂ : Opened l x p
  o₂ = opened l x p s

  itself : Memᴰ p.block (reach (suc l) x p)
  itself = rw (reach_step l x p) (Memᴰ.head refl)

  from : (z : ℕ) → Memᴰ z (K₁ ++ K₂) → Memᴰ z (reaches l x (children p (x p.block))) ⊎ Old z
  from z i = c.reached z (rw kids i)

  -- neither block is one of theirs
  pub off-old : Memᴰ p.block (K₁ ++ K₂) → ⊥
  off-old i = ⊎_elim (λ j. o₂.off j) (λ j. fresh p.block (more p.block j) itself) (from p.block i)

  pub off-new : Memᴰ b (K₁ ++ K₂) → ⊥
  off-new i = ⊎_elim (λ j. fresh b new (kids-in l x p b j)) free (from b i)

  apart : p.block ≡ b → ⊥
  apart e = fresh b new (Memᴰ.cast (sym e) itself)

  same₁ : Same y w K₁
  same₁ z i = let j : Memᴰ z (K₁ ++ K₂) = Memᴰ.append_left K₂ i in else z (λ (e : z ≡ p.block). off-old (rw e at j)) (λ (e : z ≡ b). off-new (rw e at j))

  same₂ : Same y w K₂
  same₂ z i = let j : Memᴰ z (K₁ ++ K₂) = Memᴰ.append_right K₁ i in else z (λ (e : z ≡ p.block). off-old (rw e at j)) (λ (e : z ≡ b). off-new (rw e at j))

  -- all that is reached
  all-reached : reaches (suc l) w (q₁ ∷ q₂ ∷ []) ≡ (p.block ∷ K₁) ++ (b ∷ K₂)
  all-reached =
      ap₂ (λ (u v : List ℕ). u ++ (v ++ [])) (stored-reach l y w q₁ n₁ at_block same₁) (stored-reach l y w q₂ n₂ at_new same₂) ∙
      ap (λ (v : List ℕ). (p.block ∷ K₁) ++ v) (append-nil (b ∷ K₂))

  once-two : distinct ((p.block ∷ K₁) ++ (b ∷ K₂)) ≡ true
  once-two =
      let d = distinct-split K₁ K₂ (rw kids at c.sound.once) in
      distinct-join (p.block ∷ K₁) (b ∷ K₂) (distinct_cons p.block K₁ (λ i. off-old (Memᴰ.append_left K₂ i)) d.left) (distinct_cons b K₂ (λ i. off-new (Memᴰ.append_right K₁ i)) d.right)
      (λ z i j.
      ⊎_elim (λ (e : z ≡ p.block). ⊎_elim (λ (h : z ≡ b). apart (sym e ∙ h)) (λ (h : Memᴰ z K₂). off-old (rw e at (Memᴰ.append_right K₁ h))) (Memᴰ.cases_cons j))
      (λ (g : Memᴰ z K₁). ⊎_elim (λ (h : z ≡ b). off-new (rw h at (Memᴰ.append_left K₂ g))) (λ h. d.off z g h) (Memᴰ.cases_cons j))
      (Memᴰ.cases_cons i))

  old-or-new : (z : ℕ) → Memᴰ z (K₁ ++ K₂) → Memᴰ z (reach (suc l) x p ++ []) ⊎ New z
  old-or-new z i = ⊎_elim (λ j. inl (rw (append-nil (reach (suc l) x p)) (kids-in l x p z j))) (λ j. inr (more z j)) (from z i)

  kid_in : (z : ℕ) → Memᴰ z (K₁ ++ K₂) → Memᴰ z ((p.block ∷ K₁) ++ (b ∷ K₂))
  kid_in z i = ⊎_elim (λ j. Memᴰ.append_left (b ∷ K₂) (Memᴰ.tail j)) (λ j. Memᴰ.append_right (p.block ∷ K₁) (Memᴰ.tail j)) (Memᴰ.append_cases K₁ i)

  -- if both nodes keep the rules and find f
  pub node-split : stands_in a₁ ≡ p.block → stands_in a₂ ≡ b → node_ok l a₁ n₁ ≡ true → in_range q₁ n₁ ≡ true → node_ok l a₂ n₂ ≡ true → in_range q₂ n₂ ≡ true
      → ((k : ℕ) → within p.lo sep k ≡ true → look l y q₁ n₁ k ≡ f k) → ((k : ℕ) → within sep p.hi k ≡ true → look l y q₂ n₂ k ≡ f k)
      → Changed (suc l) New x (p ∷ []) w (q₁ ∷ q₂ ∷ []) f
  node-split own₁ own₂ ok₁ in₁ ok₂ in₂ h₁ h₂ =
      record {
        sound = record {
          each = and_both (sound_at (suc l) w q₁) _ (stored-sound l y w q₁ n₁ at_block same₁ ok₁ in₁ (every-left (sound_at l y) (children q₁ n₁) (children q₂ n₂) c.sound.each))
              (and_both (sound_at (suc l) w q₂) true (stored-sound l y w q₂ n₂ at_new same₂ ok₂ in₂ (every-right (sound_at l y) (children q₁ n₁) (children q₂ n₂) c.sound.each)) refl);
          once = rw all-reached once-two;
          led = every-join leads (q₁ ∷ []) (q₂ ∷ []) (led-one q₁ own₁) (led-one q₂ own₂);
        };
        span = λ k. spans k;
        found = λ k i. go k (within p.lo sep k) refl (sym (or-false (within p.lo p.hi k)) ∙ i);
        reached = λ z i.
            ⊎_elim
            (λ j. ⊎_elim (λ (e : z ≡ p.block). inl (rw (append-nil (reach (suc l) x p), reach_step l x p) (Memᴰ.head e))) (λ u. old-or-new z (Memᴰ.append_left K₂ u)) (Memᴰ.cases_cons j))
            (λ j. ⊎_elim (λ (e : z ≡ b). inr (rw e new)) (λ u. old-or-new z (Memᴰ.append_right K₁ u)) (Memᴰ.cases_cons j))
            (Memᴰ.append_cases (p.block ∷ K₁) (rw all-reached at i));
        still = λ z i. rw all-reached
            (⊎_elim (λ j. ⊎_elim (λ (e : z ≡ p.block). Memᴰ.head e) (λ u. kid_in z (rw kids at (c.still z (inl u)))) (Memᴰ.cases_cons (rw (append-nil (reach (suc l) x p), reach_step l x p) at j)))
            (λ j. ⊎_elim (λ u. kid_in z (rw kids at (c.still z (inr u)))) (λ (e : z ≡ b). Memᴰ.append_right (p.block ∷ K₁) (Memᴰ.head e)) (exact z j))
            i);
        kept = λ z i j.
            else z (λ (e : z ≡ p.block). i (rw (append-nil (reach (suc l) x p), reach_step l x p) (Memᴰ.head e))) (λ (e : z ≡ b). j (rw e new)) ∙
            c.kept z (λ u. i (rw (append-nil (reach (suc l) x p)) (kids-in l x p z u))) (λ u. j (more z u));
      }
    where
      or_off : (u v : Bool) → u || (v || false) ≡ (u || v) || false
      or_off true v = refl
      or_off false v = refl

      spans : (k : ℕ) → covers k (q₁ ∷ q₂ ∷ []) ≡ covers k (p ∷ [])
      spans k = or_off (within p.lo sep k) (within sep p.hi k) ∙ ap (λ (u : Bool). u || false) (within-join p.lo sep p.hi k low high)

      go : (k : ℕ) (u : Bool) → within p.lo sep k ≡ u → within p.lo p.hi k ≡ true → cond u (lookup (suc l) w k q₁) (cond (within sep p.hi k) (lookup (suc l) w k q₂) none) ≡ f k
      go k true e i = stored-lookup l y w q₁ n₁ at_block same₁ k ∙ h₁ k e
      go k false e i =
          let r : within sep p.hi k ≡ true = ap (λ (u : Bool). u || within sep p.hi k) (sym e) ∙ within-join p.lo sep p.hi k low high ∙ i in
          rw r (stored-lookup l y w q₂ n₂ at_new same₂ k ∙ h₂ k r)
