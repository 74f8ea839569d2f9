-- A table that keeps 01's rules (specs/Rules) is sound: what each block and the entry leading to it show follows from the rules, so "Check says yes exactly if
-- the table is sound".
-- Assumes nothing.
use mathlib.Core.Path.{◌≡◌, refl, ap, sym, ◌∙◌, subst, subst⁻¹}
use mathlib.Core.Logic.{◌⊎◌, inl, inr, ⊎_elim, ◌↔◌}
use mathlib.Core.Bool.{true, false, ◌||◌}
use mathlib.Core.List.Memᴰ
use mathlib.Core.List.{List, [], ◌∷◌, ◌++◌, Memᴰ}
use Prim.Native.Nat.{ℕ, zero, suc, ◌+◌, ◌*◌, ◌%◌, ◌≤◌, ◌<◌}
use native.Mathlib.Omega.{arith}
use lib.ListN.{length, take, drop_of_length-le}
use borrow.Author.Tests.{le-leb, lt-ltb, eq-eqb, ne_eqb, eqb-true}
use Rattle.octets.specs.Lists.{every, is_empty, rest, distinct, records}
use Rattle.octets.specs.Bitmap.{bit}
use Rattle.octets.specs.Bytes.{be}
use Rattle.octets.proofs.Order.{same_or_not, less-or-not}
use Rattle.octets.proofs.Tests.{all_cons, all_nil, every-make, refuted, bool-ext}
use Rattle.octets.proofs.Lists.{no_member, mem-same}
use Rattle.octets.proofs.Records.{tests-make}
use Rattle.octets.proofs.Rising.{rising-distinct}
use Rattle.octets.proofs.Sets.{mem-has}
use Rattle.octets.proofs.Once.{distinct-once}
use Rattle.spot.specs.declared.Spot.{Spot}
use Rattle.spot.specs.Spots.{keys}
use Rattle.spot.specs.Keys.{rank_key, all_keys, within, limited}
use Rattle.spot.proofs.Buffers.{keys_length, keys-mem}
use Rattle.spot.proofs.Places.{within-yes}
use Rattle.block.specs.declared.Entry.{Entry}
use Rattle.block.specs.declared.Asked.{Asked}
use Rattle.block.specs.declared.Asked.TheVariants.{Child}
use Rattle.block.specs.Table.{blocks_of, sized_for, table_sized, block, block_ok}
use Rattle.block.specs.Header.{head_of}
use Rattle.block.specs.HeaderRules.{header_ok}
use Rattle.block.specs.Node.{Node, Store, store_of, node_of, node_from, laid_out, entry_at, entry_blank}
use Rattle.block.specs.NodeRules.{names, lows, zero_first, fewest, child_count_ok, child_blocks_ok, buffers_rise, named_once, lows_rise, points_above, filled, lowest, leaf_buffers_empty, tops, agrees, stands_in, node_ok, inside_limits}
use Rattle.block.proofs.Facts.{head-made}
use Rattle.block.proofs.Extremes.{extremes-inside, inside-limits}
use Rattle.block.proofs.Views.{open-zero}
use Rattle.tree.specs.Part.{Part, children, low_of, Steps}
use Rattle.tree.specs.Lookup.{is_live}
use Rattle.tree.specs.Reach.{gather, reach}
use Rattle.tree.specs.Walk.{live_spots}
use Rattle.tree.specs.Sound.{in_range, sound_at, map_exact, sound, Shaped}
use Rattle.tree.specs.ReadMap.{is_read}
use Rattle.tree.specs.Rules.{ChildOf, here, step, Below, Agrees, Filled, Lowest, top, at, IsNode, Reached, Rules}
use Rattle.tree.proofs.Says.{has-keys, names-P}
use Rattle.tree.proofs.Sources.{room-is}
use Rattle.tree.proofs.Marks.{read-header, read_mem, read-in, exact-make}
use Rattle.tree.proofs.Ways.{child-mem, mem-child, entry-child, child-node, child-below, reach_leads, leads-reach, OneWay, one-way-child, one-way-once}
use Rattle.tree.proofs.Ranges.{steps-make, part-bounds}
use Rattle.tree.proofs.Entries.{agree-make, agree-empty, not-below}
use Rattle.tree.proofs.Below.{tops-from, sizes-filled, sizes-lowest}
use Rattle.tree.proofs.Credible.{lows-not-below, entries-credible, children-apart}
use Rattle.tree.proofs.Tables.{tree-rises, tree_finds, sound-from}
use Rattle.tree.proofs.Rules.{rules-of}

-- past the table's end there is no version
version-none : (s : List ℕ) → s ≡ [] → be 1 s 2 ≡ 0
unfolding be
version-none s e = ap (λ (l : List ℕ). be 1 l 2) e

-- the first entry of a node is open below
zero-first : (t : List ℕ) (b : ℕ) → zero_first (lows (store_of t b).entries) ≡ true
unfolding store_of node_of node_from
zero-first t b = open-zero (records (entry_at (block t b)) 28 (be 1 (block t b) 7) 8)

-- a node that names nothing has no points
none_named : (n : Node) → names n ≡ [] → length n.points ≡ 0
none_named n e = ap length (no_member n.points (λ x i. Memᴰ.not-nil (mem-same e (names-P n (keys-mem n.points i)))))

module _ (t : List ℕ) (k : Rules t) where
  abbrev m : Store
  m = store_of t

  -- ---- the blocks named

  -- block 0 is apart, and what is past the end is not laid out
  node-inside : (c : Part) → IsNode t c → (1 ≤ c.block) × (c.block < blocks_of (length t))
  node-inside c r = (some, low)
    where
      some : 1 ≤ c.block
      some = ⊎_elim (λ (e : c.block ≡ 0). absurd (k.rule1.apart (c, r, e))) (λ (n : c.block ≡ 0 → ⊥). omega arith) (same_or_not c.block 0)

      past : blocks_of (length t) ≤ c.block → ⊥
      past h =
          let far : length t ≤ c.block * 2048 = omega (arith, k.rule1.cut) in
          let e = ap (take 2048) (drop_of_length-le t far) in
          let v = (k.rule6.laid c r).version in
          omega (arith, version-none (block t c.block) e)

      low : c.block < blocks_of (length t)
      low = ⊎_elim (λ h. absurd (past h)) (λ h. h) (less-or-not (blocks_of (length t)) c.block)

  -- the root lies in 1 to n − 1
  pub root-inside : (1 ≤ (head_of t).root) × ((head_of t).root < blocks_of (length t))
  root-inside = node-inside (top t) ([], here refl)

  -- and so does the block that an entry of a node names
  pub entry-inside : (d : Part) (e : Entry) → IsNode t d → Memᴰ e (at t d).entries → (1 ≤ e.block) × (e.block < blocks_of (length t))
  entry-inside d e r j =
      let q = entry-child d.lo d.hi (at t d).entries j in
      let n = node-inside q.0 (child-node m r q.2) in
      let same = q.2.stands ∙ ap (λ (x : Entry). x.block) q.3 in
      omega arith

  -- bits of the map past the table are clear
  pub past-clear : (b : ℕ) → blocks_of (length t) ≤ b → bit (head_of t).in_use b ≡ false
  past-clear b l =
      refuted (bit (head_of t).in_use b)
      (λ e.
      ⊎_elim (λ (z : b ≡ 0). omega (arith, k.rule1.least)) (λ (r : Reached t b). let n = node-inside r.0 r.1 in omega (arith, r.2))
      ((k.rule1.marks b).0 e))

  -- ---- a node as it is entered from above

  -- what leads to a node agrees with its range, its block, its P and its entries, and one way leads to each block from there
  record Entered (c : Part) : Type 0 where
    node : IsNode t c
    one : OneWay m c
    low : low_of c.asked ≤ c.lo
    order : c.lo ≤ c.hi
    high : c.hi ≤ all_keys
    own : stands_in c.asked ≡ c.block
    agreed : agrees c.asked (at t c) ≡ true
    count : ((at t c).level ≡ 0 → ⊥) → (fewest c.asked ≤ length (at t c).entries) × (length (at t c).entries ≤ 8)

  entered-top : Entered (top t)
  unfolding stands_in agrees fewest
  entered-top =
      record {
        node = ([], here refl);
        one = k.rule1.once;
        low = omega arith;
        order = omega arith;
        high = omega arith;
        own = refl;
        agreed = refl;
        count = k.rule2.inner-root;
      }

  -- rule 3, of the lows
  low-inside : (c : Part) → IsNode t c → (j : ℕ) → Memᴰ j (rest (lows (at t c).entries)) → within c.lo c.hi j ≡ true
  low-inside c r j i = let h = k.rule3.inside c j r i in within-yes c.lo c.hi j (omega arith) (omega arith)

  steps : (c : Part) → IsNode t c → c.lo ≤ c.hi → Steps c.lo c.hi (at t c).entries
  steps c r h = steps-make (at t c).entries c.lo c.hi h (k.rule3.rise c r) (low-inside c r)

  -- a child
  module _ (d c : Part) (i : ℕ) (e : Entered d) (h : ChildOf m d i c) where
    bounds : (d.lo ≤ c.lo) × (c.hi ≤ d.hi) × (c.lo ≤ c.hi)
    bounds =
        part-bounds d.lo d.hi (at t d).entries (steps d e.node e.order) (child-mem d.lo d.hi (at t d).entries i c h)

    -- its entry's low is not past its range: a first one's is 0
    low-not-past : h.entry.low ≤ c.lo
    low-not-past =
        ⊎_elim (λ (z : i ≡ 0). let q = first-low h.before (h.placed ∙ z) h.among in omega arith)
        (λ (n : i ≡ 0 → ⊥). let q = h.later (omega arith) in omega arith) (same_or_not i 0)
      where
        first-low : (bs : List Entry) → length bs ≡ 0 → (at t d).entries ≡ bs ++ (h.entry ∷ h.after) → h.entry.low ≡ 0
        first-low [] n q = eqb-true h.entry.low 0 (sym (ap (λ (es : List Entry). zero_first (lows es)) q) ∙ zero-first t d.block)
        first-low (b ∷ bs) n q = let z : ⊥ = omega arith in absurd z

    entry-agrees : agrees (Child h.entry) (at t c) ≡ true
    entry-agrees = go (at t c).points refl
      where
        a : Agrees h.entry (at t c)
        a = k.rule6.entries d c i e.node h

        go : (ss : List Spot) → (at t c).points ≡ ss → agrees (Child h.entry) (at t c) ≡ true
        go [] q = agree-empty h.entry (at t c) (a.size ∙ ap length q) q
        go (x ∷ ss) q =
            let held : (at t c).points ≡ [] → ⊥ = λ z. let n = ap length (sym q ∙ z) in omega arith in
            agree-make h.entry (at t c) a.size (a.highest held) (a.lowest held)

    entered-child : Entered c
    unfolding stands_in fewest
    entered-child =
        record {
          node = child-node m e.node h;
          one = one-way-child m e.one h;
          low = subst (λ (x : Asked). low_of x ≤ c.lo) (sym h.asked) low-not-past;
          order = bounds.2;
          high = omega (arith, bounds, e.high);
          own = ap stands_in h.asked ∙ sym h.stands;
          agreed = subst (λ (x : Asked). agrees x (at t c) ≡ true) (sym h.asked) entry-agrees;
          count = λ n. let few = ap fewest h.asked in omega (arith, k.rule2.inner c (child-below m e.node.1 h) n);
        }

  -- ---- the tests of a node

  -- rule 6
  laid-ok : (c : Part) → IsNode t c → (at t c).laid ≡ true
  unfolding store_of node_of node_from laid_out
  laid-ok c r =
      let h = k.rule6.laid c r in
      all_cons _ _ (eq-eqb _ _ h.used)
      (all_cons _ _ (le-leb _ 1896 h.most)
      (all_cons _ _ (eq-eqb _ 1 h.version)
      (all_cons _ _ (every-make _ _ (λ x i. eq-eqb x 0 (h.zeros x i)))
      (all_cons _ _ (tests-make (entry_blank (block t c.block)) 28 _ 8 h.blanks) (all_cons _ _ h.first all_nil)))))

  -- rule 2
  counts-ok : (c : Part) → Entered c → child_count_ok c.asked (at t c) ≡ true
  unfolding child_count_ok
  counts-ok c e =
      ⊎_elim (λ z. rw (eq-eqb (at t c).level 0 z) (ap is_empty (k.rule2.leaf c e.node z)))
      (λ n. let h = e.count n in rw (ne_eqb (at t c).level 0 n) (all_cons _ _ (le-leb _ _ h.0) (all_cons _ _ (le-leb _ 8 h.1) all_nil)))
      (same_or_not (at t c).level 0)

  -- rule 3
  rise-ok : (c : Part) → IsNode t c → buffers_rise (at t c) ≡ true
  unfolding buffers_rise
  rise-ok c r = all_cons _ _ (k.rule3.points c r) (all_cons _ _ (k.rule3.inserts c r) (all_cons _ _ (k.rule3.deletes c r) all_nil))

  lows-ok : (c : Part) → IsNode t c → lows_rise (at t c) ≡ true
  unfolding lows_rise
  lows-ok c r = all_cons _ _ (zero-first t c.block) (all_cons _ _ (k.rule3.rise c r) all_nil)

  -- an entry of a node leads to a child, with which it agrees
  record Led (c : Part) (e : Entry) : Type 0 where
    child : Part
    node : IsNode t child
    below : Below m c child
    agree : Agrees e (at t child)

  led-to : (c : Part) (e : Entry) → IsNode t c → Memᴰ e (at t c).entries → Led c e
  led-to c e r j =
      let q = entry-child c.lo c.hi (at t c).entries j in
      subst (λ (x : Entry). Led c x) q.3
      (record { child = q.0; node = child-node m r q.2; below = (q.1, [], step q.2 (here refl)); agree = k.rule6.entries c q.0 q.1 r q.2 })

  -- rule 4: of what is below, the children's tops show
  above-ok : (c : Part) → IsNode t c → points_above (at t c) ≡ true
  unfolding points_above
  above-ok c r = every-make _ (keys (at t c).points) (λ p i. every-make _ _ (λ j h. lt-ltb (rank_key j) (rank_key p) (below p i j h)))
    where
      -- a child's top is a key of its P
      by-top : (p : ℕ) → Memᴰ p (keys (at t c).points) → (j : ℕ) → Memᴰ j (tops (at t c).entries) → rank_key j < rank_key p
      by-top p i j h =
          let f = tops-from (at t c).entries h in
          let d = led-to c f.0 r f.1 in
          let n = at t d.child in
          let held : n.points ≡ [] → ⊥ = λ z. f.2 (d.agree.size ∙ ap length z) in
          subst⁻¹ (λ (x : ℕ). rank_key x < rank_key p) f.3 (k.rule4.below c d.child p f.0.top r d.below i (names-P n (d.agree.highest held).0))

      below : (p : ℕ) → Memᴰ p (keys (at t c).points) → (j : ℕ) → Memᴰ j (keys (at t c).inserts ++ (at t c).deletes ++ tops (at t c).entries) → rank_key j < rank_key p
      below p i j h =
          ⊎_elim (λ q. k.rule4.own c p j r i q) (λ q. by-top p i j q) (Memᴰ.append_cases (keys (at t c).inserts ++ (at t c).deletes) h)

  -- rule 5: of what is below, the children's sizes show
  sizes-ok : (c : Part) → IsNode t c → (filled (at t c) || lowest (at t c)) ≡ true
  sizes-ok c r =
      ⊎_elim (λ (f : Filled (at t c)). sizes-filled (at t c) f.least f.most f.inserts f.deletes)
      (λ (f : Lowest m c).
      sizes-lowest (at t c) f.few f.inserts f.deletes
      (λ e i. let d = led-to c e r i in d.agree.size ∙ none_named (at t d.child) (f.below d.child d.below)))
      (k.rule5.sizes c r)

  leaf-ok : (c : Part) → IsNode t c → leaf_buffers_empty (at t c) ≡ true
  unfolding leaf_buffers_empty
  leaf-ok c r =
      ⊎_elim
      (λ z. let h = k.rule5.leaf c r z in rw (eq-eqb (at t c).level 0 z) (all_cons _ _ (ap is_empty h.0) (all_cons _ _ (ap is_empty h.1) all_nil)))
      (λ n. rw (ne_eqb (at t c).level 0 n))
      (same_or_not (at t c).level 0)

  -- rule 3, of what the node names
  named-inside : (c : Part) → IsNode t c → (j : ℕ) → Memᴰ j (names (at t c)) → within c.lo c.hi j ≡ true
  named-inside c r j i = let h = k.rule3.range c j r i in within-yes c.lo c.hi j (omega arith) (omega arith)

  -- rule 1, of the blocks that it names
  blocks-ok : (c : Part) → IsNode t c → child_blocks_ok (at t c) ≡ true
  unfolding child_blocks_ok block_ok
  blocks-ok c r =
      rw (room-is t c.block)
      (every-make _ (at t c).entries (λ e i. let h = entry-inside c e r i in all_cons _ _ (le-leb 1 e.block h.0) (all_cons _ _ (lt-ltb e.block _ h.1) all_nil)))

  in-range : (c : Part) → IsNode t c → in_range c (at t c) ≡ true
  unfolding in_range
  in-range c r = all_cons _ _ (every-make _ _ (named-inside c r)) (all_cons _ _ (every-make _ _ (low-inside c r)) all_nil)

  -- rule 1, of the blocks reached from it
  apart : (l : ℕ) (c : Part) → OneWay m c → distinct (c.block ∷ gather (reach l m) (children c (at t c))) ≡ true
  unfolding reach
  apart l c one = distinct-once (reach (suc l) m c) (one-way-once m (suc l) c one)

  -- the limits: what an entry shows of a child's P, the child names
  inside-ok : (c : Part) → IsNode t c → inside_limits (at t c) ≡ true
  inside-ok c r =
      inside-limits (at t c) (every-make limited (names (at t c)) (λ j i. k.limits.named c j r i))
      (every-make limited (rest (lows (at t c).entries)) (λ j i. k.limits.lowest c j r i))
      (extremes-inside (at t c).entries
      (λ e i n.
      let d = led-to c e r i in
      let held : (at t d.child).points ≡ [] → ⊥ = λ z. n (d.agree.size ∙ ap length z) in
      let child = d.node in
      record {
        top = k.limits.named d.child e.top child (names-P (at t d.child) (d.agree.highest held).0);
        bottom = k.limits.named d.child e.bottom child (names-P (at t d.child) (d.agree.lowest held).0);
      }))

  -- over sound children, all of them
  node_ok_lem : (l : ℕ) (c : Part) → Entered c → (at t c).level ≡ l → every (sound_at l m) (children c (at t c)) ≡ true → node_ok l c.asked (at t c) ≡ true
  unfolding node_ok named_once
  node_ok_lem l c e level below =
      let r = e.node in
      let n = at t c in
      all_cons _ _ (laid-ok c r)
      (all_cons _ _ (eq-eqb n.level l level)
      (all_cons _ _ (counts-ok c e)
      (all_cons _ _ (rise-ok c r)
      (all_cons _ _ (k.rule3.once c r)
      (all_cons _ _ (lows-ok c r)
      (all_cons _ _ (above-ok c r)
      (all_cons _ _ (sizes-ok c r)
      (all_cons _ _ (leaf-ok c r)
      (all_cons _ _ e.agreed
      (all_cons _ _ (not-below c.asked c.lo c.hi n e.low (named-inside c r))
      (all_cons _ _ (blocks-ok c r)
      (all_cons _ _ (lows-not-below c.asked c.lo c.hi n e.low (every-make _ _ (low-inside c r)))
      (all_cons _ _ (children-apart l m c.asked c.block c.lo c.hi n e.own below (apart l c e.one))
      (all_cons _ _ (entries-credible l m c.asked c.lo c.hi n e.low e.high (lows-ok c r) (steps c r e.order) below) (all_cons _ _ (inside-ok c r) all_nil)))))))))))))))

  -- ---- the whole tree, from the leaves up: rule 2 bounds the levels

  tree-sound : (l : ℕ) (c : Part) → Entered c → (at t c).level + 1 ≡ l → sound_at l m c ≡ true
  unfolding sound_at
  tree-sound zero c e h = let z : ⊥ = omega arith in absurd z
  tree-sound (suc l) c e h =
      let below =
      every-make (sound_at l m) (children c (at t c))
      (λ d j.
      let q = mem-child c.lo c.hi (at t c).entries j in
      let low = k.rule2.child c d q.0 e.node q.1 in
      tree-sound l d (entered-child c d q.0 e q.1) (omega arith)) in
      all_cons _ _ (node_ok_lem l c e (omega arith) below) (all_cons _ _ (in-range c e.node) (all_cons _ _ below all_nil))

  tree : sound_at (head_of t).levels m (top t) ≡ true
  tree = tree-sound (head_of t).levels (top t) entered-top k.rule2.root

  -- ---- block 0

  sized : table_sized (length t) ≡ true
  unfolding sized_for
  sized =
      let whole : length t % 2048 ≡ 0 = omega (arith, k.rule1.cut) in
      all_cons _ _ (eq-eqb _ 0 whole) (all_cons _ _ (le-leb 9 _ k.rule1.least) (all_cons _ _ (le-leb _ 4096 k.rule1.most) all_nil))

  header : header_ok (length t) (head_of t) ≡ true
  header =
      head-made (length t) (head_of t)
      (record {
        same_bytes = k.rule1.bytes;
        version = k.rule6.version;
        levels-least = k.rule6.levels.0;
        levels-most = k.rule6.levels.1;
        root-least = root-inside.0;
        root-most = root-inside.1;
        bound-most = k.rule6.full;
        zero-used = (k.rule1.marks 0).1 (inl refl);
        root-used = (k.rule1.marks (head_of t).root).1 (inr (top t, ([], here refl), refl));
        past-clear = λ b l g. past-clear b l;
        blank = k.rule6.blank;
        sized = sized;
        blocks-most = k.rule1.most;
      })

  abbrev blocks : List ℕ
  blocks = reach (head_of t).levels m (top t)

  map-ok : map_exact (head_of t).in_use blocks ≡ true
  map-ok =
      exact-make (head_of t).in_use blocks (distinct-once blocks (one-way-once m (head_of t).levels (top t) k.rule1.once))
      (λ b l. bool-ext (bit (head_of t).in_use b) (is_read blocks b) (λ e. to b ((k.rule1.marks b).0 e)) (λ e. (k.rule1.marks b).1 (from b (Memᴰ.cases_cons (read-in blocks b e)))))
    where
      to : (b : ℕ) → (b ≡ 0) ⊎ Reached t b → is_read blocks b ≡ true
      to b o = ⊎_elim (λ z. ap (is_read blocks) z ∙ read-header blocks) (λ r. read_mem blocks b (Memᴰ.cast (sym r.2) (leads-reach m (head_of t).levels tree r.1.1))) o

      from : (b : ℕ) → (b ≡ 0) ⊎ Memᴰ b blocks → (b ≡ 0) ⊎ Reached t b
      from b o = ⊎_elim inl (λ i. inr (reach_leads m (head_of t).levels (top t) i)) o

  shape : Shaped t
  shape = record { header = header; tree = tree; map = map-ok }

  -- the live spots are live identities, each once
  few : length (live_spots t) ≤ (head_of t).bound
  few =
      let ss = live_spots t in
      let h = k.rule6.figure (keys ss) (rising-distinct 0 (keys ss) (tree-rises t shape)) (λ j i. ap is_live (sym (tree_finds t shape j)) ∙ sym (has-keys j ss) ∙ mem-has j (keys ss) i) in
      omega (arith, h, keys_length ss)

  -- a table that keeps 01's rules is sound
  pub sound-by : sound t ≡ true
  sound-by = sound-from t shape few

-- "Check says yes exactly if the table is sound"
pub sound-exactly : (t : List ℕ) → (sound t ≡ true) ↔ Rules t
sound-exactly t = (rules-of t, sound-by t)
