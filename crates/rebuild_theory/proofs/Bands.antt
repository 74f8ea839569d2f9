-- A node as a rebuild leaves it, over parts that are as built: it keeps the rules, and its part is as built.
-- Assumes nothing.
use mathlib.Core.Path.{◌≡◌, refl, ap, subst, ◌∙◌}
use mathlib.Core.Logic.{◌⊎◌, inl, inr, ⊎_elim}
use mathlib.Core.Bool.{Bool, true, false, cond, ◌||◌}
use mathlib.Core.List.{List, [], ◌∷◌, ◌++◌, append-nil, Memᴰ}
use mathlib.Core.Option.{Option, none, some}
use Prim.Native.Nat.{ℕ, suc, ◌+◌, ◌≤◌, ◌<◌}
use native.Mathlib.Omega.{arith}
use lib.ListN.{length}
use lib.Dec.{ltb, eqb}
use borrow.Author.Tests.{ltb-true, eqb-true, lt-ltb, le-ltb, eq-eqb}
use Rattle.octets.specs.Lists.{all, every, rest, rising, rising_from, distinct, up_to}
use Rattle.octets.proofs.Tests.{all_cons, all_nil, and_both, every-imp, every-mem}
use Rattle.octets.proofs.Order.{less-or-not, same_or_not}
use Rattle.octets.proofs.Rising.{rising-distinct}
use Rattle.octets.proofs.Sets.{distinct_cons}
use Rattle.octets.proofs.UpTo.{up_to-from, up_to-distinct}
use Rattle.spot.specs.declared.Spot.{Spot}
use Rattle.spot.specs.Spots.{keys, find}
use Rattle.spot.specs.Keys.{rank_key, all_keys, within, limited}
use Rattle.spot.proofs.Places.{within-yes, within_low, within-high, within-from, within-to}
use Rattle.spot.proofs.Buffers.{keep-every, keep-pass}
use Rattle.spot.proofs.Canon.{find-only, keep-rises}
use Rattle.block.specs.declared.Entry.{Entry}
use Rattle.block.specs.Node.{Node, Store}
use Rattle.block.specs.Table.{block_ok}
use Rattle.block.specs.declared.Asked.{Asked}
use Rattle.block.specs.declared.Asked.TheVariants.{Child}
use Rattle.block.specs.NodeRules.{names, lows, zero_first, tops, extremes, node_ok, child_count_ok, child_blocks_ok, buffers_rise, named_once, lows_rise, points_above, filled, lowest, leaf_buffers_empty, agrees, stands_in, children_apart, entries_credible, inside_limits}
use Rattle.block.proofs.Extremes.{Shows, inside-limits}
use Rattle.tree.specs.Part.{Part, parts, children, low_of}
use Rattle.tree.specs.Lookup.{or_else, down, lookup}
use Rattle.tree.specs.Reach.{gather, reach, settled}
use Rattle.tree.specs.Sound.{sound_at, in_range}
use Rattle.tree.proofs.Entries.{not-below, agree-held, agree-top, agree-bottom}
use Rattle.tree.proofs.Below.{sizes-filled, sizes-lowest}
use Rattle.tree.proofs.Ranges.{steps-make}
use Rattle.tree.proofs.Credible.{lows-not-below, entries-credible, children-apart}
use Rattle.rebuild_theory.specs.Build.{band, built_node, OwnBand, Built}

-- the spots of a band: what is found there, their order, and what holds of them
find-band : (c t k : ℕ) (ys : List Spot) → find k (band c t ys) ≡ cond (within c t (rank_key k)) (find k ys) none
unfolding band
find-band c t k ys = find-only (λ j. within c t (rank_key j)) k ys

-- a band keeps the order, as every part of a rising list does
pub band-rises : (c t a : ℕ) (ys : List Spot) → rising_from a (keys ys) ≡ true → rising_from a (keys (band c t ys)) ≡ true
unfolding band
band-rises c t a ys h = keep-rises (λ s. within c t (rank_key s.key)) a ys h

-- what holds of all holds of a band
band-every : (c t : ℕ) (g : ℕ → Bool) (ys : List Spot) → every g (keys ys) ≡ true → every g (keys (band c t ys)) ≡ true
unfolding band
band-every c t g ys h = keep-every (λ s. within c t (rank_key s.key)) g ys h

band-ranks : (c t : ℕ) (ys : List Spot) → every (λ k. within c t (rank_key k)) (keys (band c t ys)) ≡ true
unfolding band
band-ranks c t ys = keep-pass (λ k. within c t (rank_key k)) ys

-- an entry that agrees with a node of such points has a top below t, or none
pub entry-low : (c t : ℕ) (ys : List Spot) (e : Entry) (n : Node) → n.points ≡ band c t ys → agrees (Child e) n ≡ true
    → (e.size ≡ 0) ⊎ (rank_key e.top < t)
entry-low c t ys e n is h =
    ⊎_elim inl
    (λ (z : e.size ≡ 0 → ⊥).
    let i = (agree-top e n h (agree-held e n h z)).0 in
    inr (within-to c t (rank_key e.top) (every-mem (λ k. within c t (rank_key k)) (keys (band c t ys)) (band-ranks c t ys) (subst (λ (ps : List Spot). Memᴰ e.top (keys ps)) is i))))
    (same_or_not e.size 0)

-- what it shows of them has its place inside the limits, where all spots have
pub entry-shows : (c t : ℕ) (ys : List Spot) (e : Entry) (n : Node) → n.points ≡ band c t ys → agrees (Child e) n ≡ true → every limited (keys ys) ≡ true
    → (e.size ≡ 0 → ⊥)
    → Shows e
entry-shows c t ys e n is h lim z =
    let held = agree-held e n h z in
    let ks = keys n.points in
    let inside : every limited ks ≡ true = ap (λ (ps : List Spot). every limited (keys ps)) is ∙ band-every c t limited ys lim in
    record { top = every-mem limited ks inside (agree-top e n h held).0; bottom = every-mem limited ks inside (agree-bottom e n h held).0 }

-- the uppermost node of what is built
pub record Topmost (room : ℕ) (m : Store) (b : ℕ) (ys : List Spot) (t : ℕ) : Type 0 where
  pub level : ℕ
  pub c : ℕ
  pub es : List Entry
  pub node : OwnBand room level m b ys t c es

-- there is one
pub topmost : (fs : List ℕ) (room : ℕ) (m : Store) (b : ℕ) (ys : List Spot) (t : ℕ) → Built fs room m b ys t → Topmost room m b ys t
topmost [] room m b ys t h = record { level = 0; c = 0; es = []; node = h.0 }
topmost (f ∷ fs) room m b ys t h = record { level = suc (length fs); c = h.c; es = h.es; node = h.node }

-- its points
pub points-band : (room level : ℕ) (m : Store) (b : ℕ) (ys : List Spot) (t c : ℕ) (es : List Entry) → OwnBand room level m b ys t c es → (m b).points ≡ band c t ys
unfolding built_node
points-band room level m b ys t c es h = ap (λ (n : Node). n.points) h.is

-- and its names
names-built : (room level : ℕ) (es : List Entry) (ps : List Spot) → names (built_node room level es ps) ≡ keys ps
unfolding names built_node
names-built room level es ps = append-nil (keys ps ++ []) ∙ append-nil (keys ps)

-- a part is as built
pub record Good (l : ℕ) (m : Store) (p : Part) (ys : List Spot) (t w : ℕ) : Type 0 where
  pub sound : sound_at l m p ≡ true
  pub look : (k : ℕ) → lookup l m k p ≡ cond (ltb (rank_key k) t) (find k ys) none
  pub reached : reach l m p ≡ up_to p.block w
  pub quiet : every (λ b. settled (m b)) (reach l m p) ≡ true

-- so are all parts of a list
pub record AllGood (l : ℕ) (m : Store) (ps : List Part) (ys : List Spot) (t b w : ℕ) : Type 0 where
  pub sounds : every (sound_at l m) ps ≡ true
  pub looks : (k : ℕ) → down (lookup l m k) k ps ≡ cond (ltb (rank_key k) t) (find k ys) none
  pub reacheds : gather (reach l m) ps ≡ up_to b w
  pub quiets : every (λ i. settled (m i)) (gather (reach l m) ps) ≡ true

-- what a node's entries must be
pub record Entries (room : ℕ) (p : Part) (c : ℕ) (es : List Entry) : Type 0 where
  pub zero-first : zero_first (lows es) ≡ true
  pub up : rising (rest (lows es)) ≡ true
  pub inside : every (within p.lo p.hi) (rest (lows es)) ≡ true
  pub limits : every limited (rest (lows es)) ≡ true
  pub shown : every limited (extremes es) ≡ true
  pub lower : every (λ k. ltb (rank_key k) c) (tops es) ≡ true
  pub last : c ≡ 0 → every (λ e. eqb e.size 0) es ≡ true
  pub blocks : every (λ e. block_ok room e.block) es ≡ true

module _ (room level : ℕ) (p : Part) (ys : List Spot) (t c : ℕ) (es : List Entry) (up : rising (keys ys) ≡ true) (inside : every (within p.lo p.hi) (keys ys) ≡ true) (limits : every limited (keys ys) ≡ true) (most : length (band c t ys) ≤ 64) (least : (32 ≤ length (band c t ys)) ⊎ (c ≡ 0)) (entries : Entries room p c es) where
  unfoldable ps : List Spot
  ps = band c t ys

  unfoldable n : Node
  n = built_node room level es ps

  named_in : every (within p.lo p.hi) (names n) ≡ true
  unfolding n ps
  named_in = rw (names-built room level es (band c t ys)) (band-every c t (within p.lo p.hi) ys inside)

  sizes : (filled n || lowest n) ≡ true
  unfolding n ps built_node
  sizes =
      ⊎_elim (λ (l : 32 ≤ length (band c t ys)). sizes-filled (built_node room level es (band c t ys)) l most (omega arith) (omega arith))
      (λ (l : length (band c t ys) < 32).
      sizes-lowest (built_node room level es (band c t ys)) l refl refl
      (λ e i. eqb-true e.size 0 (every-mem _ es (entries.last (⊎_elim (λ (g : 32 ≤ length (band c t ys)). absurd (omega arith)) (λ g. g) least)) i)))
      (less-or-not 32 (length (band c t ys)))

  above : points_above n ≡ true
  unfolding n ps built_node points_above
  above =
      every-imp (λ k. within c t (rank_key k)) (λ q. every (λ k. ltb (rank_key k) (rank_key q)) (tops es)) (keys (band c t ys))
      (λ q w.
      every-imp (λ k. ltb (rank_key k) c) (λ k. ltb (rank_key k) (rank_key q)) (tops es)
      (λ k l. lt-ltb (rank_key k) (rank_key q) (omega (arith, ltb-true (rank_key k) c l, within-from c t (rank_key q) w)))
      entries.lower)
      (band-ranks c t ys)

  rises : buffers_rise n ≡ true
  unfolding n ps built_node buffers_rise
  rises = all_cons _ _ (band-rises c t 0 ys up) (all_cons _ _ refl (all_cons _ _ refl all_nil))

  once : named_once n ≡ true
  unfolding n ps named_once
  once = rw (names-built room level es (band c t ys)) (rising-distinct 0 (keys (band c t ys)) (band-rises c t 0 ys up))

  leaf-empty : leaf_buffers_empty n ≡ true
  unfolding n ps built_node leaf_buffers_empty all
  leaf-empty = go (eqb level 0)
    where
      go : (b : Bool) → cond b true true ≡ true
      go true = refl
      go false = refl

  entries-up : lows_rise n ≡ true
  unfolding n ps built_node lows_rise
  entries-up = all_cons _ _ entries.zero-first (all_cons _ _ entries.up all_nil)

  blocks-ok : child_blocks_ok n ≡ true
  unfolding n ps built_node child_blocks_ok
  blocks-ok = entries.blocks

  node-laid : n.laid ≡ true
  unfolding n built_node
  node-laid = refl

  node-level : eqb n.level level ≡ true
  unfolding n built_node
  node-level = eq-eqb level level refl

  lows-in : every (within p.lo p.hi) (rest (lows n.entries)) ≡ true
  unfolding n built_node
  lows-in = entries.inside

  limits-kept : inside_limits n ≡ true
  unfolding n ps built_node
  limits-kept =
      inside-limits (built_node room level es (band c t ys)) (rw (names-built room level es (band c t ys)) (band-every c t limited ys limits)) entries.limits entries.shown

  node_ok_lem : (a : Asked) → child_count_ok a n ≡ true → agrees a n ≡ true → low_of a ≤ p.lo → children_apart a n ≡ true → entries_credible a n ≡ true → node_ok level a n ≡ true
  unfolding node_ok
  node_ok_lem a cc ag lo off fine =
      all_cons _ _ node-laid (all_cons _ _ node-level (all_cons _ _ cc (all_cons _ _ rises (all_cons _ _ once (all_cons _ _ entries-up
      (all_cons _ _ above (all_cons _ _ sizes (all_cons _ _ leaf-empty (all_cons _ _ ag (all_cons _ _ (not-below a p.lo p.hi n lo (λ k i. every-mem _ _ named_in i)) (all_cons _ _ blocks-ok
      (all_cons _ _ (lows-not-below a p.lo p.hi n lo lows-in) (all_cons _ _ off (all_cons _ _ fine (all_cons _ _ limits-kept all_nil)))))))))))))))

  in-range : in_range p n ≡ true
  unfolding in_range n ps built_node
  in-range = all_cons _ _ named_in (all_cons _ _ lows-in all_nil)

-- nothing else is said
pub or-none : (o : Option ℕ) → or_else o none ≡ o
or-none none = refl
or-none (some x) = refl

-- the track of a key, by the node's own band or below it
band-law : (c t r : ℕ) (o : Option ℕ) → c ≤ t → or_else (cond (within c t r) o none) (cond (ltb r c) o none) ≡ cond (ltb r t) o none
band-law c t r o h =
    ⊎_elim
    (λ (a : c ≤ r).
    ⊎_elim (λ (b : t ≤ r). rw (within-high c t r b, le-ltb r c a, le-ltb r t b)) (λ (b : r < t). rw (within-yes c t r a b, le-ltb r c a, lt-ltb r t b) (or-none o)) (less-or-not t r))
    (λ (a : r < c). rw (within_low c t r a, lt-ltb r c a, lt-ltb r t (omega arith)))
    (less-or-not c r)

-- a node over parts that are as built
module _ (room l : ℕ) (m : Store) (p : Part) (ys : List Spot) (t c w : ℕ) (es : List Entry) (own : OwnBand room l m p.block ys t c es) (below : AllGood l m (parts p.lo p.hi es) ys c (p.block + 1) w) where
  sounds-here : every (sound_at l m) (children p (built_node room l es (band c t ys))) ≡ true
  unfolding built_node
  sounds-here = below.sounds

  own-quiet : settled (m p.block) ≡ true
  unfolding settled built_node
  own-quiet = rw own.is (all_cons _ _ refl (all_cons _ _ refl all_nil))

  look-here : (k : ℕ) → lookup (suc l) m k p ≡ cond (ltb (rank_key k) t) (find k ys) none
  unfolding lookup built_node
  look-here k = rw (own.is, find-band c t k ys, below.looks k) (band-law c t (rank_key k) (find k ys) own.under)

  reached-here : reach (suc l) m p ≡ up_to p.block (suc w)
  unfolding reach built_node
  reached-here = let e : p.block + 1 ≡ suc p.block = omega arith in rw own.is (ap (λ (x : List ℕ). p.block ∷ x) (below.reacheds ∙ ap (λ (i : ℕ). up_to i w) e))

  quiet-here : every (λ b. settled (m b)) (reach (suc l) m p) ≡ true
  unfolding reach built_node
  quiet-here = and_both (settled (m p.block)) (every (λ b. settled (m b)) (gather (reach l m) (children p (m p.block)))) own-quiet (rw own.is below.quiets)

  sound-here : node_ok l p.asked (built_node room l es (band c t ys)) ≡ true → in_range p (built_node room l es (band c t ys)) ≡ true → sound_at (suc l) m p ≡ true
  unfolding sound_at
  sound-here ok inside = rw own.is (all_cons _ _ ok (all_cons _ _ inside (all_cons _ _ sounds-here all_nil)))

  -- no block is reached twice
  reached-once : distinct (p.block ∷ gather (reach l m) (children p (built_node room l es (band c t ys)))) ≡ true
  unfolding built_node
  reached-once = rw below.reacheds (distinct_cons p.block (up_to (p.block + 1) w) (λ i. let z = up_to-from (p.block + 1) w i in omega (arith, z.0)) (up_to-distinct (p.block + 1) w))

  kids-apart : stands_in p.asked ≡ p.block → children_apart p.asked (built_node room l es (band c t ys)) ≡ true
  kids-apart at = children-apart l m p.asked p.block p.lo p.hi (built_node room l es (band c t ys)) at sounds-here reached-once

  kids-credible : low_of p.asked ≤ p.lo → p.lo ≤ p.hi → p.hi ≤ all_keys → Entries room p c es → entries_credible p.asked (built_node room l es (band c t ys)) ≡ true
  unfolding built_node lows_rise
  kids-credible lo order full entries =
      entries-credible l m p.asked p.lo p.hi (built_node room l es (band c t ys)) lo full (all_cons _ _ entries.zero-first (all_cons _ _ entries.up all_nil))
      (steps-make es p.lo p.hi order entries.up (λ k i. every-mem _ _ entries.inside i)) below.sounds

  -- the node is as built
  pub node-good : rising (keys ys) ≡ true → every (within p.lo p.hi) (keys ys) ≡ true → every limited (keys ys) ≡ true → Entries room p c es
      → child_count_ok p.asked (built_node room l es (band c t ys)) ≡ true
      → agrees p.asked (m p.block) ≡ true
      → low_of p.asked ≤ p.lo
      → stands_in p.asked ≡ p.block
      → p.lo ≤ p.hi
      → p.hi ≤ all_keys
      → Good (suc l) m p ys t (suc w)
  unfolding n ps
  node-good up inside limits entries cc ag lo at order full =
      record {
        sound =
            sound-here (node_ok_lem room l p ys t c es up inside limits own.most own.least entries p.asked cc (rw own.is at ag) lo (kids-apart at) (kids-credible lo order full entries))
            (in-range room l p ys t c es up inside limits own.most own.least entries);
        look = look-here;
        reached = reached-here;
        quiet = quiet-here;
      }
