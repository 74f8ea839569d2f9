-- A node in memory with more: a batch pushed into a child, the node cut in two, and the entry of a part read another way.
-- Assumes nothing.
use mathlib.Core.Path.{◌≡◌, refl, ap, sym, ◌∙◌}
use mathlib.Core.Logic.{inl, ⊎_elim}
use mathlib.Core.Bool.{Bool, true, false, not, cond, true≢false, false≢true}
use mathlib.Core.List.{List, [], ◌∷◌, ◌++◌, Memᴰ}
use mathlib.Core.Option.{Option, none}
use Prim.Native.Nat.{ℕ, zero, suc, ◌≤◌}
use native.Mathlib.Omega.{arith}
use lib.Dec.{ltb, leb}
use borrow.Author.Tests.{ltb-true, lt-ltb, leb-true, le-leb}
use Rattle.octets.specs.Lists.{every, keep, has, rest}
use Rattle.octets.proofs.Tests.{all-at, all_cons, all_nil, and_left, and_right, and_both, every-imp, every-left, every-right, every-join}
use Rattle.octets.proofs.Sets.{Split, has-not, distinct-split}
use Rattle.spot.specs.Spots.{keys, find}
use Rattle.spot.specs.Keys.{all_keys, within}
use Rattle.spot.specs.Sorted.{only}
use Rattle.spot.proofs.Places.{within-from, within-to, within-yes}
use Rattle.spot.proofs.Buffers.{find_none}
use Rattle.block.specs.declared.Entry.{Entry}
use Rattle.block.specs.Node.{Node, Store, open_below}
use Rattle.block.specs.declared.Asked.{Asked}
use Rattle.block.specs.declared.Asked.TheVariants.{Child}
use Rattle.block.specs.NodeRules.{names, lows, node_ok, agrees, not_below, child_count_ok, fewest, lows_not_below, stands_in, children_apart, entries_credible}
use Rattle.tree.specs.Part.{Part, next_low, parts, Steps}
use Rattle.tree.specs.Lookup.{or_else, down, lookup}
use Rattle.tree.specs.Reach.{reach}
use Rattle.tree.specs.Sound.{sound_at, in_range}
use Rattle.tree.proofs.Gather.{gather_append}
use Rattle.tree.proofs.Ranges.{steps-le, down-in}
use Rattle.tree.proofs.Credible.{all-lower}
use Rattle.update_theory.specs.Held.{Held}
use Rattle.update_theory.specs.Change.{part, covers, reaches, leads, Sound, Changed}
use Rattle.update_theory.specs.Open.{says, Fit, under, Open}
use Rattle.update_theory.proofs.Change.{down-append, covers-append, led-parts}
use Rattle.update_theory.proofs.Spread.{child_at, parts-append, steps-split, covers-parts, off-left}
use Rattle.update_theory.proofs.Moves.{push-I, pushed-I, push-D, pushed-D, cut, cut-says}
use Rattle.update_theory.proofs.Open.{after, open-child}
use Rattle.update_theory.proofs.Fill.{under-child}

-- PUSH: the inserts that don't stay, all in the range of the child at e, were settled there; it became one or more entries
module _ (l : ℕ) (New : ℕ → Type 0) (x y : Store) (lo hi : ℕ) (full : hi ≤ all_keys) (r : ℕ) (us vs : List Entry) (e e' : Entry) (es : List Entry) (b : Held) (f : ℕ → Option ℕ) (stay : ℕ → Bool)
    (low : e'.low ≡ e.low) (o : Open l x lo hi r (us ++ (e ∷ vs)) b f)
    (fresh : (z : ℕ) → New z → Memᴰ z (reaches l x (parts lo hi (us ++ (e ∷ vs)))) → ⊥)
    (st : Steps (child_at lo hi us vs e).lo (child_at lo hi us vs e).hi (e' ∷ es)) where
  abbrev c₀ : Part
  c₀ = child_at lo hi us vs e

  abbrev B₀ : ℕ → Option ℕ
  B₀ = under l x lo hi (us ++ (e ∷ vs))

  -- a batch that says `word` of what is below was settled in the child, and says nothing outside its range
  open-push : (b' : Held) (word : ℕ → Option ℕ → Option ℕ) → ((k : ℕ) → within c₀.lo c₀.hi k ≡ false → (d : Option ℕ) → word k d ≡ d)
      → Changed l New x (c₀ ∷ []) y (parts c₀.lo c₀.hi (e' ∷ es)) (λ k. word k (lookup l x k c₀))
      → ((B₁ : ℕ → Option ℕ) → ((k : ℕ) → B₁ k ≡ word k (B₀ k)) → Fit lo hi r b' B₁ × ((k : ℕ) → says b' k (B₁ k) ≡ says b k (B₀ k)))
      → Open l y lo hi r (us ++ ((e' ∷ es) ++ vs)) b' f
  open-push b' word off c fit =
      let q = fit (after l New x y lo hi r us vs e e' es b f (λ k. word k (lookup l x k c₀)) low o fresh c) (λ k. is k (within c₀.lo c₀.hi k) refl) in
      open-child l New x y lo hi r us vs e e' es b f (λ k. word k (lookup l x k c₀)) low o fresh c st r b' f q.0 (λ k v. q.1 k ∙ o.found k v)
    where
      is : (k : ℕ) (q : Bool) → within c₀.lo c₀.hi k ≡ q → cond q (word k (lookup l x k c₀)) (B₀ k) ≡ word k (B₀ k)
      is k true i = ap (word k) (sym (under-child l x lo hi us vs e o.steps k i))
      is k false i = sym (off k i (B₀ k))

  -- inserts
  pub open-push-I : ((k : ℕ) → Memᴰ k (keys (only (λ j. not (stay j)) b.inserts)) → within c₀.lo c₀.hi k ≡ true)
      → Changed l New x (c₀ ∷ []) y (parts c₀.lo c₀.hi (e' ∷ es)) (λ k. or_else (find k (only (λ j. not (stay j)) b.inserts)) (lookup l x k c₀))
      → Open l y lo hi r (us ++ ((e' ∷ es) ++ vs)) (record { points = b.points; inserts = only stay b.inserts; deletes = b.deletes }) f
  open-push-I w c =
      let I = only (λ j. not (stay j)) b.inserts in
      open-push (record { points = b.points; inserts = only stay b.inserts; deletes = b.deletes }) (λ k d. or_else (find k I) d)
      (λ k i d. ap (λ (q : Option ℕ). or_else q d) (find_none k I (λ j. true≢false (sym (w k j) ∙ i))))
      c
      (λ B₁ is.
      (push-I lo hi full r B₀ b.points b.inserts b.deletes o.ready stay B₁ is, pushed-I lo hi full r B₀ b.points b.inserts b.deletes o.ready stay B₁ is))

  -- deletes
  pub open-push-D : ((k : ℕ) → Memᴰ k (keep (λ j. not (stay j)) b.deletes) → within c₀.lo c₀.hi k ≡ true)
      → Changed l New x (c₀ ∷ []) y (parts c₀.lo c₀.hi (e' ∷ es)) (λ k. cond (has k (keep (λ j. not (stay j)) b.deletes)) none (lookup l x k c₀))
      → Open l y lo hi r (us ++ ((e' ∷ es) ++ vs)) (record { points = b.points; inserts = b.inserts; deletes = keep stay b.deletes }) f
  open-push-D w c =
      let D = keep (λ j. not (stay j)) b.deletes in
      open-push (record { points = b.points; inserts = b.inserts; deletes = keep stay b.deletes }) (λ k d. cond (has k D) none d)
      (λ k i d. ap (λ (q : Bool). cond q none d) (has-not k D (λ j. true≢false (sym (w k j) ∙ i))))
      c
      (λ B₁ is.
      (push-D lo hi full r B₀ b.points b.inserts b.deletes o.ready stay B₁ is, pushed-D lo hi full r B₀ b.points b.inserts b.deletes o.ready stay B₁ is))

-- an entry may be read with a lower low
relow-node : (l : ℕ) (n : Node) (e e' : Entry) → e'.block ≡ e.block → e'.size ≡ e.size → e'.top ≡ e.top → e'.bottom ≡ e.bottom → e'.low ≤ e.low
    → node_ok l (Child e) n ≡ true → node_ok l (Child e') n ≡ true
unfolding node_ok agrees not_below child_count_ok fewest lows_not_below stands_in children_apart entries_credible
relow-node l n e e' o a b c d h =
    all_cons _ _ (all-at _ h 0) (all_cons _ _ (all-at _ h 1) (all_cons _ _ (all-at _ h 2) (all_cons _ _ (all-at _ h 3) (all_cons _ _ (all-at _ h 4) (all_cons _ _ (all-at _ h 5) (all_cons _ _ (all-at _ h 6) (all_cons _ _ (all-at _ h 7) (all_cons _ _ (all-at _ h 8)
    (all_cons _ _ (rw (a, b, c) (all-at _ h 9)) (all_cons _ _ (lower (names n) (all-at _ h 10)) (all_cons _ _ (all-at _ h 11)
    (all_cons _ _ (lower (rest (lows n.entries)) (all-at _ h 12)) (all_cons _ _ (rw o (all-at _ h 13)) (all_cons _ _ (all-lower e.low e'.low n.entries d (all-at _ h 14)) (all_cons _ _ (all-at _ h 15) all_nil)))))))))))))))
  where
    lower : (ks : List ℕ) → every (λ k. leb e.low k) ks ≡ true → every (λ k. leb e'.low k) ks ≡ true
    lower ks q = every-imp _ _ ks (λ k i. le-leb e'.low k (let z = leb-true e.low k i in omega arith)) q

-- the same of a part
sound-relow : (l : ℕ) (m : Store) (b lo hi : ℕ) (e e' : Entry) → e'.block ≡ e.block → e'.size ≡ e.size → e'.top ≡ e.top → e'.bottom ≡ e.bottom → e'.low ≤ e.low
    → sound_at l m (part b (Child e) lo hi) ≡ true → sound_at l m (part b (Child e') lo hi) ≡ true
unfolding sound_at in_range
sound-relow zero m b lo hi e e' o p q r d h = absurd (false≢true h)
sound-relow (suc l) m b lo hi e e' o p q r d h = all_cons _ _ (relow-node l (m b) e e' o p q r d (all-at _ h 0)) (all_cons _ _ (all-at _ h 1) (all_cons _ _ (all-at _ h 2) all_nil))

-- reach and lookup don't ask what leads to a part
reach-asked : (l : ℕ) (m : Store) (b lo hi : ℕ) (a a' : Asked) → reach l m (part b a lo hi) ≡ reach l m (part b a' lo hi)
unfolding reach
reach-asked zero m b lo hi a a' = refl
reach-asked (suc l) m b lo hi a a' = refl

-- nor does lookup
lookup-asked : (l : ℕ) (m : Store) (k b lo hi : ℕ) (a a' : Asked) → lookup l m k (part b a lo hi) ≡ lookup l m k (part b a' lo hi)
unfolding lookup
lookup-asked zero m k b lo hi a a' = refl
lookup-asked (suc l) m k b lo hi a a' = refl

-- the first of some entries with its low put to 0, as it stands in a block
module _ (l : ℕ) (m : Store) (lo hi : ℕ) (v : Entry) (vs : List Entry) where
  -- finds the same
  under-open : (k : ℕ) → under l m lo hi (open_below v ∷ vs) k ≡ under l m lo hi (v ∷ vs) k
  under-open k = ap (λ (q : Option ℕ). cond (within lo (next_low vs hi) k) q (under l m (next_low vs hi) hi vs k)) (lookup-asked l m k v.block lo (next_low vs hi) (Child (open_below v)) (Child v))

  -- reaches the same
  reaches-open : reaches l m (parts lo hi (open_below v ∷ vs)) ≡ reaches l m (parts lo hi (v ∷ vs))
  reaches-open = ap (λ (q : List ℕ). q ++ reaches l m (parts (next_low vs hi) hi vs)) (reach-asked l m v.block lo (next_low vs hi) (Child (open_below v)) (Child v))

  -- and is sound
  sounds-open : every (sound_at l m) (parts lo hi (v ∷ vs)) ≡ true → every (sound_at l m) (parts lo hi (open_below v ∷ vs)) ≡ true
  sounds-open h =
      let a = part v.block (Child v) lo (next_low vs hi) in
      let r = every (sound_at l m) (parts (next_low vs hi) hi vs) in
      and_both (sound_at l m (part v.block (Child (open_below v)) lo (next_low vs hi))) r (sound-relow l m v.block lo (next_low vs hi) v (open_below v) refl refl refl refl (omega arith) (and_left (sound_at l m a) r h)) (and_right (sound_at l m a) r h)

-- the keys of the buffers that pass a test
abbrev pub half_of : (ℕ → Bool) → Held → Held
half_of g b = record { points = only g b.points; inserts = only g b.inserts; deletes = keep g b.deletes }

-- A side of a node that is cut: its keys are those that pass g, and what its entries find is what all found.
module _ (l : ℕ) (m : Store) (lo hi r : ℕ) (es : List Entry) (b : Held) (f : ℕ → Option ℕ) (o : Open l m lo hi r es b f) where
  open-half : (lo' hi' : ℕ) (es' : List Entry) (g : ℕ → Bool) → Sound l m (parts lo' hi' es') → Steps lo' hi' es'
      → ((k : ℕ) → g k ≡ true → within lo hi k ≡ true → within lo' hi' k ≡ true)
      → ((k : ℕ) → within lo' hi' k ≡ true → (g k ≡ true) × (within lo hi k ≡ true))
      → ((k : ℕ) → within lo' hi' k ≡ true → under l m lo hi es k ≡ under l m lo' hi' es' k)
      → Open l m lo' hi' r es' (half_of g b) f
  open-half lo' hi' es' g s st into out same =
      record {
        kids = s;
        steps = st;
        ready = cut lo hi lo' hi' r b.points b.inserts b.deletes (under l m lo hi es) (under l m lo' hi' es') g into
            (λ k a e. same k (down-in (lookup l m k) k lo' hi' es' st e) ∙ e)
            o.ready;
        found = λ k w.
            let q = out k w in
            cut-says b.points b.inserts b.deletes g k (under l m lo' hi' es' k) q.0 ∙ ap (says b k) (sym (same k w)) ∙ o.found k q.1;
      }

  -- the side below sep
  open-low : (sep : ℕ) (es' : List Entry) → sep ≤ hi → Sound l m (parts lo sep es') → Steps lo sep es'
      → ((k : ℕ) → within lo sep k ≡ true → under l m lo hi es k ≡ under l m lo sep es' k)
      → Open l m lo sep r es' (half_of (λ k. ltb k sep) b) f
  open-low sep es' h s st same =
      open-half lo sep es' (λ k. ltb k sep) s st (λ k g w. within-yes lo sep k (within-from lo hi k w) (ltb-true k sep g))
      (λ k w. let z = within-to lo sep k w in (lt-ltb k sep z, within-yes lo hi k (within-from lo sep k w) (omega arith)))
      same

  -- the side from sep on
  open-high : (sep : ℕ) (es' : List Entry) → lo ≤ sep → Sound l m (parts sep hi es') → Steps sep hi es'
      → ((k : ℕ) → within sep hi k ≡ true → under l m lo hi es k ≡ under l m sep hi es' k)
      → Open l m sep hi r es' (half_of (λ k. leb sep k) b) f
  open-high sep es' h s st same =
      open-half sep hi es' (λ k. leb sep k) s st (λ k g w. within-yes sep hi k (leb-true sep k g) (within-to lo hi k w))
      (λ k w. let z = within-from sep hi k w in (le-leb sep k z, within-yes lo hi k (omega arith) (within-to sep hi k w)))
      same

-- a leaf cut in two
pub leaf-cut : (l : ℕ) (m : Store) (lo sep hi r : ℕ) (b : Held) (f : ℕ → Option ℕ) → lo ≤ sep → sep ≤ hi → Open l m lo hi r [] b f
    → Open l m lo sep r [] (half_of (λ k. ltb k sep) b) f × Open l m sep hi r [] (half_of (λ k. leb sep k) b) f
leaf-cut l m lo sep hi r b f a c o = (
  open-low l m lo hi r [] b f o sep [] c (record { each = refl; once = refl; led = refl }) tt (λ k w. refl),
  open-high l m lo hi r [] b f o sep [] a (record { each = refl; once = refl; led = refl }) tt (λ k w. refl),
)

-- SPLIT: the entries u ∷ us on the left of v.low, v ∷ vs from there on
module _ (l : ℕ) (m : Store) (lo hi r : ℕ) (u : Entry) (us : List Entry) (v : Entry) (vs : List Entry) (b : Held) (f : ℕ → Option ℕ) (o : Open l m lo hi r ((u ∷ us) ++ (v ∷ vs)) b f) where
  abbrev sep : ℕ
  sep = v.low

  abbrev A : List Part
  A = parts lo sep (u ∷ us)

  abbrev C : List Part
  C = parts sep hi (v ∷ vs)

  cut_parts : parts lo hi ((u ∷ us) ++ (v ∷ vs)) ≡ A ++ C
  cut_parts = parts-append lo hi (u ∷ us) (v ∷ vs)

  kids : Sound l m (A ++ C)
  kids = rw cut_parts at o.kids

  both : Split (reaches l m A) (reaches l m C)
  both = distinct-split (reaches l m A) (reaches l m C) (rw (gather_append (reach l m) A C) at kids.once)

  steps-A : Steps lo sep (u ∷ us)
  steps-A = (steps-split lo hi (u ∷ us) (v ∷ vs) o.steps).0

  steps-C : Steps sep hi (v ∷ vs)
  steps-C = (steps-split lo hi (u ∷ us) (v ∷ vs) o.steps).1

  -- the cut lies in the range
  low-sep : lo ≤ sep
  low-sep = steps-le lo sep u us steps-A

  -- below its end
  sep-high : sep ≤ hi
  sep-high = steps-le sep hi v vs steps-C

  whole : (k : ℕ) → under l m lo hi ((u ∷ us) ++ (v ∷ vs)) k ≡ cond (covers k A) (under l m lo sep (u ∷ us) k) (under l m sep hi (v ∷ vs) k)
  whole k = ap (λ (ps : List Part). down (lookup l m k) k ps) cut_parts ∙ down-append (lookup l m k) k A C

  -- the left side
  pub open-left : Open l m lo sep r (u ∷ us) (half_of (λ k. ltb k sep) b) f
  open-left =
      open-low l m lo hi r ((u ∷ us) ++ (v ∷ vs)) b f o sep (u ∷ us) sep-high (record { each = every-left (sound_at l m) A C kids.each; once = both.left; led = led-parts lo sep (u ∷ us) }) steps-A
      (λ k w. whole k ∙ rw (covers-parts lo sep u us k steps-A ∙ w))

  -- the right side
  pub open-right : Open l m sep hi r (open_below v ∷ vs) (half_of (λ k. leb sep k) b) f
  open-right =
      open-high l m lo hi r ((u ∷ us) ++ (v ∷ vs)) b f o sep (open_below v ∷ vs) low-sep
      (record { each = sounds-open l m sep hi v vs (every-right (sound_at l m) A C kids.each); once = rw (reaches-open l m sep hi v vs) both.right; led = led-parts sep hi (open_below v ∷ vs) })
      steps-C
      (λ k w. whole k ∙ rw (off-left lo sep hi k (u ∷ us) steps-A (within-from sep hi k w)) (sym (under-open l m sep hi v vs k)))

  -- nothing moved
  pub cut-changed : (New : ℕ → Type 0) → ((z : ℕ) → New z → ⊥) → Changed l New m (parts lo hi ((u ∷ us) ++ (v ∷ vs))) m (A ++ parts sep hi (open_below v ∷ vs)) (under l m lo hi ((u ∷ us) ++ (v ∷ vs)))
  cut-changed New no-new =
      let e : reaches l m (A ++ parts sep hi (open_below v ∷ vs)) ≡ reaches l m (parts lo hi ((u ∷ us) ++ (v ∷ vs))) =
      gather_append (reach l m) A (parts sep hi (open_below v ∷ vs)) ∙ ap (λ (q : List ℕ). reaches l m A ++ q) (reaches-open l m sep hi v vs) ∙ sym (gather_append (reach l m) A C) ∙ ap (λ (ps : List Part). reaches l m ps) (sym cut_parts) in
      record {
        sound = record { each = every-join (sound_at l m) A (parts sep hi (open_below v ∷ vs)) (every-left (sound_at l m) A C kids.each) (sounds-open l m sep hi v vs (every-right (sound_at l m) A C kids.each)); once = rw e o.kids.once; led = every-join leads A (parts sep hi (open_below v ∷ vs)) (led-parts lo sep (u ∷ us)) (led-parts sep hi (open_below v ∷ vs)) };
        span = λ k. covers-append k A (parts sep hi (open_below v ∷ vs)) ∙ sym (ap (λ (ps : List Part). covers k ps) cut_parts ∙ covers-append k A C);
        found = λ k i. down-append (lookup l m k) k A (parts sep hi (open_below v ∷ vs)) ∙ ap (cond (covers k A) (under l m lo sep (u ∷ us) k)) (under-open l m sep hi v vs k) ∙ sym (whole k);
        reached = λ z i. inl (rw e at i);
        still = λ z i. ⊎_elim (λ j. rw e j) (λ j. absurd (no-new z j)) i;
        kept = λ z a c. refl;
      }
