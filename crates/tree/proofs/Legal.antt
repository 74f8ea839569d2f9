-- No key of a sound part lies outside the limits: its range may be cut down to them and be widened again, and what is found stays. So an update, which is said of
-- ranges inside the limits, serves the whole tree, whose root's range has no ends.
-- Assumes nothing.
use mathlib.Core.Path.{◌≡◌, refl, ap, ap₂, sym, ◌∙◌}
use mathlib.Core.Bool.{Bool, true, false, cond, ◌&&◌}
use mathlib.Core.List.{List, [], ◌∷◌, ◌++◌, Memᴰ}
use mathlib.Core.Option.{Option, none}
use Prim.Native.Nat.{ℕ, zero, suc, ◌≤◌}
use native.Mathlib.Omega.{arith}
use lib.Dec.{leb, ltb}
use borrow.Author.Tests.{le-leb, lt-ltb}
use Rattle.octets.specs.Lists.{all, every, has, rest}
use Rattle.octets.proofs.Tests.{and_left, and_right, and_both, all-at, all_cons, all_nil, every-mem}
use Rattle.spot.specs.Keys.{all_keys, limited, start_key, end_key, within}
use Rattle.spot.specs.Spots.{find}
use Rattle.spot.proofs.Buffers.{find-fails}
use Rattle.spot.proofs.Canon.{cond-none}
use Rattle.spot.proofs.Limits.{limited-from, limited-to, limited-yes, limited-small, end-small}
use Rattle.spot.proofs.Places.{within-from, within-to}
use Rattle.block.specs.declared.Entry.{Entry}
use Rattle.block.specs.declared.Asked.{Asked}
use Rattle.block.specs.declared.Asked.TheVariants.{Child}
use Rattle.block.specs.Node.{Store}
use Rattle.block.specs.NodeRules.{names, lows}
use Rattle.block.proofs.Facts.{node-facts}
use Rattle.tree.specs.Part.{Part, Legal, next_low, parts, children}
use Rattle.tree.specs.Lookup.{or_else, node_word, down, lookup}
use Rattle.tree.specs.Reach.{gather, reach}
use Rattle.tree.specs.Sound.{in_range, sound_at}

-- ---- a legal range

pub legal-full : (lo hi : ℕ) → Legal lo hi → hi ≤ all_keys
legal-full lo hi g = omega (arith, g.high, end-small)

pub legal-limited : (lo hi k : ℕ) → Legal lo hi → within lo hi k ≡ true → limited k ≡ true
legal-limited lo hi k g w = limited-yes k (omega (arith, g.low, within-from lo hi k w)) (omega (arith, g.high, within-to lo hi k w))

-- a range inside a legal one
pub legal-part : (lo hi lo' hi' : ℕ) → Legal lo hi → lo ≤ lo' → hi' ≤ hi → Legal lo' hi'
legal-part lo hi lo' hi' g a b = record { low = omega (arith, g.low); high = omega (arith, g.high) }

pub legal-whole : Legal start_key end_key
legal-whole = record { low = omega arith; high = omega arith }

-- ---- ranges that hold the same keys inside the limits

abbrev part : ℕ → Asked → ℕ → ℕ → Part
part b a lo hi = record { block = b; asked = a; lo = lo; hi = hi }

abbrev AlikeFrom : ℕ → ℕ → Type 0
AlikeFrom lo lo' = (k : ℕ) → limited k ≡ true → leb lo k ≡ leb lo' k

abbrev AlikeTo : ℕ → ℕ → Type 0
AlikeTo hi hi' = (k : ℕ) → limited k ≡ true → ltb k hi ≡ ltb k hi'

within-alike : (lo hi lo' hi' : ℕ) → AlikeFrom lo lo' → AlikeTo hi hi' → (k : ℕ) → limited k ≡ true → within lo hi k ≡ within lo' hi' k
unfolding within
within-alike lo hi lo' hi' f t k h = ap₂ (λ (a b : Bool). all (a ∷ b ∷ [])) (f k h) (t k h)

every-alike : (lo hi lo' hi' : ℕ) → AlikeFrom lo lo' → AlikeTo hi hi' → (ks : List ℕ) → every limited ks ≡ true
    → every (within lo hi) ks ≡ every (within lo' hi') ks
every-alike lo hi lo' hi' f t [] h = refl
every-alike lo hi lo' hi' f t (k ∷ ks) h =
    ap₂ (λ (a b : Bool). a && b) (within-alike lo hi lo' hi' f t k (and_left (limited k) (every limited ks) h))
    (every-alike lo hi lo' hi' f t ks (and_right (limited k) (every limited ks) h))

-- the borders between the children stay: only the first child's beginning and the last one's end differ
parts-sound : (g : Part → Bool)
    → ((b : ℕ) (a : Asked) (lo hi lo' hi' : ℕ) → AlikeFrom lo lo' → AlikeTo hi hi' → g (part b a lo hi) ≡ true → g (part b a lo' hi') ≡ true)
    → (es : List Entry) (lo hi lo' hi' : ℕ) → AlikeFrom lo lo' → AlikeTo hi hi' → every g (parts lo hi es) ≡ true → every g (parts lo' hi' es) ≡ true
parts-sound g ih [] lo hi lo' hi' f t s = refl
parts-sound g ih (e ∷ []) lo hi lo' hi' f t s = and_both _ _ (ih e.block (Child e) lo hi lo' hi' f t (and_left _ _ s)) refl
parts-sound g ih (e ∷ n ∷ es) lo hi lo' hi' f t s =
    let first = g (part e.block (Child e) lo n.low) in
    let others = every g (parts n.low hi (n ∷ es)) in
    and_both _ _ (ih e.block (Child e) lo n.low lo' n.low f (λ k h. refl) (and_left first others s))
    (parts-sound g ih (n ∷ es) n.low hi n.low hi' (λ k h. refl) t (and_right first others s))

alike-sound : (l : ℕ) (m : Store) (b : ℕ) (a : Asked) (lo hi lo' hi' : ℕ) → AlikeFrom lo lo' → AlikeTo hi hi'
    → sound_at l m (part b a lo hi) ≡ true → sound_at l m (part b a lo' hi') ≡ true
unfolding sound_at in_range
alike-sound zero m b a lo hi lo' hi' f t s = s
alike-sound (suc l) m b a lo hi lo' hi' f t s =
    let n = m b in
    let facts = node-facts l a n (all-at _ s 0) in
    let inside = all-at _ s 1 in
    let same = every-alike lo hi lo' hi' f t in
    all_cons _ _ (all-at _ s 0)
    (all_cons _ _
    (all_cons _ _ (sym (same (names n) facts.names-limited) ∙ all-at _ inside 0)
    (all_cons _ _ (sym (same (rest (lows n.entries)) facts.lows-limited) ∙ all-at _ inside 1) all_nil))
    (all_cons _ _ (parts-sound (sound_at l m) (alike-sound l m) n.entries lo hi lo' hi' f t (all-at _ s 2)) all_nil))

-- ---- what is found

-- a key inside the limits is looked for on the same path, sound or not
module _ (k : ℕ) (h : limited k ≡ true) where
  parts-down : (g : Part → Option ℕ)
      → ((b : ℕ) (a : Asked) (lo hi lo' hi' : ℕ) → AlikeFrom lo lo' → AlikeTo hi hi' → g (part b a lo hi) ≡ g (part b a lo' hi'))
      → (es : List Entry) (lo hi lo' hi' : ℕ) → AlikeFrom lo lo' → AlikeTo hi hi' → down g k (parts lo hi es) ≡ down g k (parts lo' hi' es)
  parts-down g ih [] lo hi lo' hi' f t = refl
  parts-down g ih (e ∷ []) lo hi lo' hi' f t =
      ap₂ (λ (w : Bool) (o : Option ℕ). cond w o none) (within-alike lo hi lo' hi' f t k h) (ih e.block (Child e) lo hi lo' hi' f t)
  parts-down g ih (e ∷ n ∷ es) lo hi lo' hi' f t =
      ap₂ (λ (w : Bool) (o : Option ℕ). cond w o (down g k (parts n.low hi (n ∷ es)))) (within-alike lo n.low lo' n.low f (λ k h. refl) k h)
      (ih e.block (Child e) lo n.low lo' n.low f (λ k h. refl))
      ∙ ap (cond (within lo' n.low k) (g (part e.block (Child e) lo' n.low))) (parts-down g ih (n ∷ es) n.low hi n.low hi' (λ k h. refl) t)

  alike-lookup : (l : ℕ) (m : Store) (b : ℕ) (a : Asked) (lo hi lo' hi' : ℕ) → AlikeFrom lo lo' → AlikeTo hi hi'
      → lookup l m k (part b a lo hi) ≡ lookup l m k (part b a lo' hi')
  unfolding lookup
  alike-lookup zero m b a lo hi lo' hi' f t = refl
  alike-lookup (suc l) m b a lo hi lo' hi' f t =
      ap (node_word (m b) k) (parts-down (lookup l m k) (alike-lookup l m) (m b).entries lo hi lo' hi' f t)

down-none : (g : Part → Option ℕ) (k : ℕ) (ps : List Part) → ((c : Part) → Memᴰ c ps → g c ≡ none) → down g k ps ≡ none
down-none g k [] h = refl
down-none g k (p ∷ ps) h =
    ap₂ (λ (o r : Option ℕ). cond (within p.lo p.hi k) o r) (h p (Memᴰ.head refl)) (down-none g k ps (λ c i. h c (Memᴰ.tail i)))
    ∙ cond-none (within p.lo p.hi k)

-- no node names a key outside the limits
outside : (l : ℕ) (m : Store) (k : ℕ) (p : Part) → limited k ≡ false → sound_at l m p ≡ true → lookup l m k p ≡ none
unfolding lookup sound_at
outside zero m k p h s = refl
outside (suc l) m k p h s =
    let n = m p.block in
    let facts = node-facts l p.asked n (all-at _ s 0) in
    let below : down (lookup l m k) k (children p n) ≡ none = down-none (lookup l m k) k (children p n) (λ c i. outside l m k c h (every-mem (sound_at l m) (children p n) (all-at _ s 2) i)) in
    ap (λ (o : Option ℕ). or_else o (or_else (find k n.inserts) (cond (has k n.deletes) none (down (lookup l m k) k (children p n)))))
    (find-fails limited k n.points facts.points-limited h)
    ∙ ap (λ (o : Option ℕ). or_else o (cond (has k n.deletes) none (down (lookup l m k) k (children p n)))) (find-fails limited k n.inserts facts.inserts-limited h)
    ∙ ap (cond (has k n.deletes) none) below
    ∙ cond-none (has k n.deletes)

-- ---- the blocks reached

parts-reach : (g : Part → List ℕ) → ((b : ℕ) (a : Asked) (lo hi lo' hi' : ℕ) → g (part b a lo hi) ≡ g (part b a lo' hi'))
    → (es : List Entry) (lo hi lo' hi' : ℕ) → gather g (parts lo hi es) ≡ gather g (parts lo' hi' es)
parts-reach g ih [] lo hi lo' hi' = refl
parts-reach g ih (e ∷ es) lo hi lo' hi' =
    ap₂ (λ (a b : List ℕ). a ++ b) (ih e.block (Child e) lo (next_low es hi) lo' (next_low es hi'))
    (parts-reach g ih es (next_low es hi) hi (next_low es hi') hi')

-- they don't depend on the range
any-reach : (l : ℕ) (m : Store) (b : ℕ) (a : Asked) (lo hi lo' hi' : ℕ) → reach l m (part b a lo hi) ≡ reach l m (part b a lo' hi')
unfolding reach
any-reach zero m b a lo hi lo' hi' = refl
any-reach (suc l) m b a lo hi lo' hi' = ap (λ (bs : List ℕ). b ∷ bs) (parts-reach (reach l m) (any-reach l m) (m b).entries lo hi lo' hi')

-- ---- the whole tree, cut down to the limits

cut-from : AlikeFrom 0 start_key
cut-from k h = le-leb 0 k (omega arith) ∙ sym (le-leb start_key k (limited-from k h))

cut-to : AlikeTo all_keys end_key
cut-to k h = lt-ltb k all_keys (limited-small k h) ∙ sym (lt-ltb k end_key (limited-to k h))

module _ (l : ℕ) (m : Store) (b : ℕ) (a : Asked) where
  abbrev whole_part : Part
  whole_part = record { block = b; asked = a; lo = 0; hi = all_keys }

  abbrev legal-root : Part
  legal-root = record { block = b; asked = a; lo = start_key; hi = end_key }

  pub cut-sound : sound_at l m whole_part ≡ true → sound_at l m legal-root ≡ true
  cut-sound s = alike-sound l m b a 0 all_keys start_key end_key cut-from cut-to s

  pub widen-sound : sound_at l m legal-root ≡ true → sound_at l m whole_part ≡ true
  widen-sound s = alike-sound l m b a start_key end_key 0 all_keys (λ k h. sym (cut-from k h)) (λ k h. sym (cut-to k h)) s

  pub cut-reach : reach l m legal-root ≡ reach l m whole_part
  cut-reach = any-reach l m b a start_key end_key 0 all_keys

  -- what is found stays
  pub cut-lookup : sound_at l m whole_part ≡ true → (k : ℕ) → lookup l m k legal-root ≡ lookup l m k whole_part
  cut-lookup s k = go (limited k) refl
    where
      go : (c : Bool) → limited k ≡ c → lookup l m k legal-root ≡ lookup l m k whole_part
      go true h = alike-lookup k h l m b a start_key end_key 0 all_keys (λ j i. sym (cut-from j i)) (λ j i. sym (cut-to j i))
      go false h = outside l m k legal-root h (cut-sound s) ∙ sym (outside l m k whole_part h s)

  -- nothing is found outside
  pub lookup-outside : sound_at l m whole_part ≡ true → (k : ℕ) → limited k ≡ false → lookup l m k whole_part ≡ none
  lookup-outside s k h = outside l m k whole_part h s
