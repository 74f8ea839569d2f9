-- A sound table keeps 01's rules (specs/Rules), each of their sentences.
-- Assumes nothing.
use mathlib.Core.Path.{◌≡◌, refl, ap, sym, ◌∙◌, subst}
use mathlib.Core.Logic.{◌⊎◌, inl, inr, ⊎_elim}
use mathlib.Core.Bool.{true, false, false≢true, true≢false}
use mathlib.Core.List.Memᴰ
use mathlib.Core.List.{List, [], ◌∷◌, ◌++◌, Memᴰ}
use Prim.Native.Nat.{ℕ, zero, suc, ◌+◌, ◌≤◌, ◌<◌}
use native.Mathlib.Omega.{arith}
use lib.ListN.{length, length-take}
use lib.Dec.{eqb}
use borrow.Author.Tests.{leb-true, ltb-true, eqb-true, eq-eqb, ne_eqb}
use Rattle.octets.specs.Lists.{is_empty, rest, distinct}
use Rattle.octets.specs.Bitmap.{bit}
use Rattle.octets.proofs.Order.{less-or-not}
use Rattle.octets.proofs.Tests.{all-at, every-mem, or-either, empty-list, refuted}
use Rattle.octets.proofs.Lists.{no_member, mem-here}
use Rattle.octets.proofs.Bits.{bit_past}
use Rattle.octets.proofs.Records.{tests-at}
use Rattle.octets.proofs.Sets.{has-mem}
use Rattle.octets.proofs.Once.{once-distinct, fewer}
use Rattle.spot.specs.Spots.{keys}
use Rattle.spot.specs.Keys.{rank_key, within, limited}
use Rattle.spot.proofs.Buffers.{keys_length}
use Rattle.spot.proofs.Places.{within-from, within-to}
use Rattle.block.specs.declared.Entry.{Entry}
use Rattle.block.specs.declared.Asked.{Asked}
use Rattle.block.specs.declared.Asked.TheVariants.{Child}
use Rattle.block.specs.Table.{block}
use Rattle.block.specs.Header.{head_of}
use Rattle.block.specs.Node.{Node, Store, store_of, node_of, node_from, laid_out, entry_blank}
use Rattle.block.specs.NodeRules.{names, lows, fewest, child_count_ok, buffers_rise, named_once, lows_rise, points_above, filled, lowest, leaf_buffers_empty, tops, agrees, node_ok}
use Rattle.block.proofs.Facts.{HeadFacts, head-facts, node-facts}
use Rattle.block.proofs.Heads.{map-part}
use Rattle.block.proofs.Making.{blocks-whole}
use Rattle.tree.specs.Part.{Part}
use Rattle.tree.specs.Lookup.{is_live, live}
use Rattle.tree.specs.Reach.{reach}
use Rattle.tree.specs.Walk.{live_spots}
use Rattle.tree.specs.Sound.{in_range, sound_at, map_exact, sound}
use Rattle.tree.specs.Rules.{ChildOf, Leads, here, step, Below, Laid, Agrees, Filled, Lowest, top, at, IsNode, Reached, Rule1, Rule2, Rule3, Rule4, Rule5, Rule6, Limits, Rules}
use Rattle.tree.proofs.Marks.{read_mem, read-in, exact-once, exact-bit}
use Rattle.tree.proofs.Says.{has-keys}
use Rattle.tree.proofs.Sources.{InTable, header-least, header-few, table-reach}
use Rattle.tree.proofs.Nodes.{Stands, node-of-child, node-stands, child-sound}
use Rattle.tree.proofs.Ways.{child-mem, first_step, child-node, leads-node, node-leads, reach_leads, leads-reach, once-one-way}
use Rattle.tree.proofs.Entries.{agree-size, agree-top, agree-bottom}
use Rattle.tree.proofs.Below.{Under, under-point, under-lower, filled-by, has-insert, has-delete, has-child, entry_top, tops-mem}
use Rattle.tree.proofs.Tables.{sound-tree, sound-header, live-finds, counted}

module _ (t : List ℕ) (s : sound t ≡ true) where
  abbrev m : Store
  m = store_of t

  head : HeadFacts (length t) (head_of t)
  head = head-facts (length t) (head_of t) (sound-header t s)

  -- a node keeps the rules that its block and its entry show
  stands : {c : Part} → IsNode t c → Stands m c
  stands r = node-stands (head_of t).levels m (top t) (sound-tree t s) (leads-node m r.1)

  -- a node of a node is a node
  is_below : {c d : Part} {way : List ℕ} → IsNode t c → Leads m c way d → IsNode t d
  is_below r q = node-leads m (node-of-child m (leads-node m r.1) (leads-node m q))

  -- ---- rule 1

  abbrev blocks : List ℕ
  blocks = reach (head_of t).levels m (top t)

  -- the map is exact, and the blocks reached are blocks of the table
  exact : map_exact (head_of t).in_use blocks ≡ true
  unfolding sound
  exact = all-at _ s 2

  reached : {b : ℕ} → Reached t b → Memᴰ b blocks
  reached r = Memᴰ.cast (sym r.2) (leads-reach m (head_of t).levels (sound-tree t s) r.1.1)

  in_table : {b : ℕ} → Reached t b → InTable t b
  in_table {b} r = table-reach t (sound-header t s) (sound-tree t s) b (reached r)

  -- its bits, past the map too
  marks : (b : ℕ) → bit (head_of t).in_use b ≡ true → (b ≡ 0) ⊎ Reached t b
  marks b e =
      ⊎_elim
      (λ (l : 4096 ≤ b).
      let few : length (head_of t).in_use ≤ 512 = rw (map-part t, length-take) (omega arith) in
      absurd (true≢false (sym e ∙ bit_past (head_of t).in_use b (omega arith))))
      (λ (l : b < 4096).
      ⊎_elim inl (λ k. inr (reach_leads m (head_of t).levels (top t) k)) (Memᴰ.cases_cons (read-in blocks b (sym (exact-bit (head_of t).in_use blocks exact b l) ∙ e))))
      (less-or-not 4096 b)

  marked : (b : ℕ) → (b ≡ 0) ⊎ Reached t b → bit (head_of t).in_use b ≡ true
  marked b o =
      ⊎_elim (λ (z : b ≡ 0). ap (bit (head_of t).in_use) z ∙ head.zero-used)
      (λ (r : Reached t b).
      exact-bit (head_of t).in_use blocks exact b (omega (arith, (in_table r).low, header-few t (sound-header t s))) ∙ read_mem blocks b (reached r))
      o

  pub rule1 : Rule1 t
  rule1 =
      record {
        cut = omega (arith, blocks-whole (length t) head.sized);
        least = header-least t (sound-header t s);
        most = header-few t (sound-header t s);
        bytes = head.same_bytes;
        marks = λ b. (marks b, marked b);
        once = once-one-way m (head_of t).levels (top t) (sound-tree t s) (once-distinct blocks (exact-once (head_of t).in_use blocks exact));
        apart = λ r. omega (arith, (in_table r).some);
      }

  -- ---- rule 2

  -- the level is the number of levels below
  level-left : (l : ℕ) (c : Part) → sound_at l m c ≡ true → (at t c).level + 1 ≡ l
  unfolding sound_at node_ok
  level-left zero c h = absurd (false≢true h)
  level-left (suc l) c h = let e = eqb-true (at t c).level l (all-at _ (all-at _ h 0) 1) in omega arith

  level-is : {c : Part} (r : IsNode t c) → (at t c).level ≡ (stands r).left
  unfolding node_ok
  level-is {c} r = eqb-true (at t c).level (stands r).left (all-at _ (stands r).ok 1)

  child-level : (d c : Part) (i : ℕ) → IsNode t d → ChildOf m d i c → (at t c).level + 1 ≡ (at t d).level
  child-level d c i r k =
      let e = level-left (stands r).left c (child-sound m d (stands r) (child-mem d.lo d.hi (at t d).entries i c k)) in
      omega (arith, level-is r)

  -- the number of children
  bare : {c : Part} → IsNode t c → (at t c).level ≡ 0 → (at t c).entries ≡ []
  unfolding node_ok child_count_ok
  bare {c} r z = empty-list (at t c).entries (rw (eq-eqb (at t c).level 0 z) at (all-at _ (stands r).ok 2))

  counts : (c : Part) → IsNode t c → ((at t c).level ≡ 0 → ⊥) → (fewest c.asked ≤ length (at t c).entries) × (length (at t c).entries ≤ 8)
  unfolding node_ok child_count_ok
  counts c r n =
      let h = rw (ne_eqb (at t c).level 0 n) at (all-at _ (stands r).ok 2) in
      (leb-true _ _ (all-at _ h 0), leb-true _ _ (all-at _ h 1))

  -- what leads to a node below another is an entry
  led : {p c : Part} {i : ℕ} {way : List ℕ} → Leads m p (i ∷ way) c → (e : Entry) × (c.asked ≡ Child e)
  led (step k (here e)) = (k.entry, ap (λ (x : Part). x.asked) e ∙ k.asked)
  led (step {d = d} k (step j r)) = led {p = d} (step j r)

  fewest-below : {c : Part} → Below m (top t) c → fewest c.asked ≡ 4
  unfolding fewest
  fewest-below b = ap fewest (led b.2).1

  fewest-top : fewest (top t).asked ≡ 2
  unfolding fewest
  fewest-top = refl

  pub rule2 : Rule2 t
  rule2 =
      record {
        root = level-left (head_of t).levels (top t) (sound-tree t s);
        child = child-level;
        leaf = λ c r z. bare r z;
        inner = λ c b n. let h = counts c (b.0 ∷ b.1, b.2) n in omega (arith, h, fewest-below b);
        inner-root = λ n. let h = counts (top t) ([], here refl) n in omega (arith, h, fewest-top);
      }

  -- ---- rule 3

  -- what a node names, and its lows, lie in its range
  own_range : (c : Part) (k : ℕ) → IsNode t c → Memᴰ k (names (at t c)) → within c.lo c.hi k ≡ true
  unfolding in_range
  own_range c k r j = every-mem (within c.lo c.hi) (names (at t c)) (all-at _ (stands r).range 0) j

  low-range : (c : Part) (k : ℕ) → IsNode t c → Memᴰ k (rest (lows (at t c).entries)) → within c.lo c.hi k ≡ true
  unfolding in_range
  low-range c k r j = every-mem (within c.lo c.hi) (rest (lows (at t c).entries)) (all-at _ (stands r).range 1) j

  between : (lo hi k : ℕ) → within lo hi k ≡ true → (lo ≤ k) × (k < hi)
  between lo hi k w = (within-from lo hi k w, within-to lo hi k w)

  pub rule3 : Rule3 t
  unfolding node_ok buffers_rise named_once lows_rise
  rule3 =
      record {
        points = λ c r. all-at _ (all-at _ (stands r).ok 3) 0;
        inserts = λ c r. all-at _ (all-at _ (stands r).ok 3) 1;
        deletes = λ c r. all-at _ (all-at _ (stands r).ok 3) 2;
        once = λ c r. all-at _ (stands r).ok 4;
        range = λ c k r j. omega (arith, between c.lo c.hi k (own_range c k r j));
        rise = λ c r. all-at _ (all-at _ (stands r).ok 5) 1;
        inside = λ c k r j. omega (arith, between c.lo c.hi k (low-range c k r j));
      }

  -- ---- rules 4 and 5: an identity below a node is no higher than the highest of its child's P on the way there, which is below the node's own P

  -- what a node names is under the highest of its P
  named-under : (c : Part) → IsNode t c → (k : ℕ) → Memᴰ k (names (at t c)) → Under k (at t c)
  unfolding names node_ok
  named-under c r k j =
      let w = stands r in
      ⊎_elim
      (λ i.
      ⊎_elim (λ p. under-point (at t c) p)
      (λ b.
      under-lower (at t c) k (filled-by (at t c) (all-at _ w.ok 7) (λ low. has-insert (at t c) b low)) (all-at _ w.ok 6)
      (Memᴰ.append_left (tops (at t c).entries) (Memᴰ.append_left (at t c).deletes b)))
      (Memᴰ.append_cases (keys (at t c).points) i))
      (λ d.
      under-lower (at t c) k (filled-by (at t c) (all-at _ w.ok 7) (λ low. has-delete (at t c) d low)) (all-at _ w.ok 6)
      (Memᴰ.append_left (tops (at t c).entries) (Memᴰ.append_right (keys (at t c).inserts) d)))
      (Memᴰ.append_cases (keys (at t c).points ++ keys (at t c).inserts) j)

  -- a child and the entry that leads there
  module _ (d c : Part) (i : ℕ) (r : IsNode t d) (k : ChildOf m d i c) where
    entry_in : Memᴰ k.entry (at t d).entries
    entry_in = subst (λ (l : List Entry). Memᴰ k.entry l) (sym k.among) (mem-here k.before k.entry k.after)

    entry-agrees : agrees (Child k.entry) (at t c) ≡ true
    unfolding node_ok
    entry-agrees = subst (λ (a : Asked). agrees a (at t c) ≡ true) k.asked (all-at _ (stands (child-node m r k)).ok 9)

    -- what is under the child's P is under the top of its entry, which is one of the tops
    under_top : (j : ℕ) → Under j (at t c)
        → (rank_key j ≤ rank_key k.entry.top) × Memᴰ k.entry.top (tops (at t d).entries) × (lowest (at t d) ≡ true → ⊥)
    under_top j u =
        let e = entry_top k.entry (at t c) entry-agrees u.held in
        (omega (arith, u.below, e.1), tops-mem (at t d).entries entry_in e.0, has-child (at t d) entry_in e.0)

    -- .. and under the parent's P
    under_parent : (j : ℕ) → Under j (at t c) → Under j (at t d)
    unfolding node_ok
    under_parent j u =
        let e = under_top j u in
        let w = stands r in
        let full = filled-by (at t d) (all-at _ w.ok 7) e.2 in
        let v = under-lower (at t d) k.entry.top full (all-at _ w.ok 6) (Memᴰ.append_right (keys (at t d).inserts ++ (at t d).deletes) e.1) in
        record { held = v.held; below = omega (arith, v.below, e.0) }

  under_all : {p c : Part} {way : List ℕ} → IsNode t p → Leads m p way c → (j : ℕ) → Under j (at t c) → Under j (at t p)
  under_all r (here e) j u = subst (λ (x : Part). Under j (at t x)) e u
  under_all r (step {p = p} {d = d} {place = i} k q) j u = under_parent p d i r k j (under_all (child-node m r k) q j u)

  -- what a node below another names is under a top of the other's entries
  below_top : (c d : Part) → IsNode t c → Below m c d → (k : ℕ) → Memᴰ k (names (at t d))
      → (e : ℕ) × (rank_key k ≤ rank_key e) × Memᴰ e (tops (at t c).entries) × (lowest (at t c) ≡ true → ⊥)
  below_top c d r b k j =
      let f = first_step m b.2 in
      let q = child-node m r f.1 in
      let u = under_all q f.2 k (named-under d (is_below q f.2) k j) in
      let e = under_top c f.0 b.0 r f.1 k u in
      (f.1.entry.top, e.0, e.1, e.2)

  above : (c : Part) (p k : ℕ) → IsNode t c → Memᴰ p (keys (at t c).points) → Memᴰ k (keys (at t c).inserts ++ (at t c).deletes ++ tops (at t c).entries)
      → rank_key k < rank_key p
  unfolding node_ok points_above
  above c p k r i j = ltb-true (rank_key k) (rank_key p) (every-mem _ _ (every-mem _ _ (all-at _ (stands r).ok 6) i) j)

  pub rule4 : Rule4 t
  rule4 =
      record {
        own = λ c p k r i j. above c p k r i (Memᴰ.append_left (tops (at t c).entries) j);
        below = λ c d p k r b i j.
            let e = below_top c d r b k j in
            let l = above c p e.0 r i (Memᴰ.append_right (keys (at t c).inserts ++ (at t c).deletes) e.2) in
            omega (arith, l, e.1);
      }

  sizes : (c : Part) → IsNode t c → Filled (at t c) ⊎ Lowest m c
  unfolding node_ok filled lowest
  sizes c r =
      ⊎_elim
      (λ h. inl (record { least = leb-true _ _ (all-at _ h 0); most = leb-true _ _ (all-at _ h 1); inserts = leb-true _ _ (all-at _ h 2); deletes = leb-true _ _ (all-at _ h 3) }))
      (λ h. inr
      (record {
        few = ltb-true _ _ (all-at _ h 0);
        inserts = empty-list (at t c).inserts (all-at _ h 1);
        deletes = empty-list (at t c).deletes (all-at _ h 2);
        below = λ d b. no_member (names (at t d)) (λ k j. (below_top c d r b k j).3 h);
      }))
      (or-either (filled (at t c)) (lowest (at t c)) (all-at _ (stands r).ok 7))

  still : (c : Part) → IsNode t c → (at t c).level ≡ 0 → ((at t c).inserts ≡ []) × ((at t c).deletes ≡ [])
  unfolding node_ok leaf_buffers_empty
  still c r z =
      let h = rw (eq-eqb (at t c).level 0 z) at (all-at _ (stands r).ok 8) in
      (empty-list (at t c).inserts (all-at _ h 0), empty-list (at t c).deletes (all-at _ h 1))

  pub rule5 : Rule5 t
  rule5 = record { sizes = sizes; leaf = still }

  -- ---- rule 6

  some-points : (n : Node) → (n.points ≡ [] → ⊥) → is_empty n.points ≡ false
  some-points n h = refuted (is_empty n.points) (λ e. h (empty-list n.points e))

  agree : (d c : Part) (i : ℕ) → IsNode t d → (k : ChildOf m d i c) → Agrees k.entry (at t c)
  agree d c i r k =
      let h = entry-agrees d c i r k in
      record {
        size = agree-size k.entry (at t c) h;
        highest = λ n. agree-top k.entry (at t c) h (some-points (at t c) n);
        lowest = λ n. agree-bottom k.entry (at t c) h (some-points (at t c) n);
      }

  -- live identities are found among the live spots
  figure : (ks : List ℕ) → distinct ks ≡ true → ((k : ℕ) → Memᴰ k ks → is_live (live t k) ≡ true) → length ks ≤ (head_of t).bound
  figure ks d h =
      let ss = live_spots t in
      let f = fewer ks (keys ss) (once-distinct ks d) (λ k i. has-mem k (keys ss) (has-keys k ss ∙ ap is_live (live-finds t s k) ∙ h k i)) in
      omega (arith, f, keys_length ss, counted t s)

  laid : (c : Part) → IsNode t c → Laid (block t c.block)
  unfolding node_ok store_of node_of node_from laid_out
  laid c r =
      let h = all-at _ (stands r).ok 0 in
      record {
        used = eqb-true _ _ (all-at _ h 0);
        most = leb-true _ _ (all-at _ h 1);
        version = eqb-true _ _ (all-at _ h 2);
        zeros = λ x i. eqb-true x 0 (every-mem (λ y. eqb y 0) _ (all-at _ h 3) i);
        blanks = λ i l. tests-at (entry_blank (block t c.block)) 28 _ 8 i (all-at _ h 4) l;
        first = all-at _ h 5;
      }

  pub rule6 : Rule6 t
  rule6 =
      record {
        entries = agree;
        figure = figure;
        full = head.bound-most;
        version = head.version;
        levels = (head.levels-least, head.levels-most);
        blank = head.blank;
        laid = laid;
      }

  -- ---- all six

  -- ---- the limits

  pub limits : Limits t
  limits =
      record {
        named = λ c k r j. every-mem limited (names (at t c)) (node-facts _ _ (at t c) (stands r).ok).names-limited j;
        lowest = λ c k r j. every-mem limited (rest (lows (at t c).entries)) (node-facts _ _ (at t c) (stands r).ok).lows-limited j;
      }

  pub rules-of : Rules t
  rules-of = record { rule1 = rule1; rule2 = rule2; rule3 = rule3; rule4 = rule4; rule5 = rule5; rule6 = rule6; limits = limits }
