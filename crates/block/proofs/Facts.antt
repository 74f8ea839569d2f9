-- What a node and a header that pass their tests are: the facts that users need, by name. `NodeFacts` is of any node, `BlockFacts` of the bytes of a block,
-- `HeadFacts` of block 0.
-- Assumes nothing.
use mathlib.Core.Path.{◌≡◌, ap, subst}
use mathlib.Core.Logic.{◌⊎◌, ⊎_elim}
use mathlib.Core.Bool.{true, false, not}
use mathlib.Core.List.{List, [], ◌∷◌, ◌++◌, Memᴰ}
use Prim.Native.Nat.{ℕ, ◌+◌, ◌-◌, ◌*◌, ◌/◌, ◌≤◌, ◌<◌}
use native.Mathlib.Omega.{arith}
use lib.Dec.{leb, ltb}
use lib.ListN.{length, drop}
use borrow.Author.Tests.{eqb-true, eq-eqb, ne_eqb, leb-true, ltb-true, le-leb, lt-ltb, not-true}
use Rattle.octets.specs.Lists.{all, every, rest, rising, distinct, up_to}
use Rattle.octets.specs.Bitmap.{bit}
use Rattle.octets.specs.Bytes.{be}
use Rattle.octets.proofs.Order.{same_or_not}
use Rattle.octets.proofs.UpTo.{up_to-in, every-up_to}
use Rattle.octets.proofs.Tests.{all-at, all_cons, all_nil, every-mem, every-left, every-right, or-either, empty-list, empty-length}
use Rattle.spot.specs.Keys.{rank_key, limited}
use Rattle.spot.specs.Spots.{keys}
use Rattle.block.specs.declared.Entry.{Entry}
use Rattle.block.specs.declared.Asked.{Asked}
use Rattle.block.specs.Table.{version1, block_ok, blocks_of, capacity, table_sized}
use Rattle.block.specs.Header.{Header}
use Rattle.block.specs.HeaderRules.{header_ok, map_shows}
use Rattle.block.specs.Node.{Node, node_of, node_from, laid_out, points_from, inserts_from}
use Rattle.block.specs.NodeRules.{node_ok, names, fewest, child_count_ok, child_blocks_ok, buffers_rise, named_once, lows, zero_first, lows_rise, tops, points_above, filled, lowest, leaf_buffers_empty, agrees, not_below, extremes, inside_limits}
use Rattle.block.specs.Access.{front_of, used_of}
use Rattle.block.specs.Checks.{is_zero}
use Rattle.block.proofs.Making.{blocks-most}
use Rattle.block.proofs.Reading.{entries-count, points-count, inserts-count, deletes-count}

pub record NodeFacts (level : ℕ) (a : Asked) (n : Node) : Type 0 where
  pub laid : n.laid ≡ true
  pub same-level : n.level ≡ level
  pub entries-most : length n.entries ≤ 8
  pub points-most : length n.points ≤ 64
  pub inserts-most : length n.inserts ≤ 64
  pub deletes-most : length n.deletes ≤ 16
  pub points-rise : rising (keys n.points) ≡ true
  pub inserts-rise : rising (keys n.inserts) ≡ true
  pub deletes-rise : rising n.deletes ≡ true
  pub once : distinct (names n) ≡ true
  pub first-open : zero_first (lows n.entries) ≡ true
  pub lows-rise : rising (rest (lows n.entries)) ≡ true
  pub above : (p k : ℕ) → Memᴰ p (keys n.points) → Memᴰ k (keys n.inserts ++ n.deletes ++ tops n.entries) → rank_key k < rank_key p
  pub child-blocks : (e : Entry) → Memᴰ e n.entries → (1 ≤ e.block) × (e.block < n.room)
  pub kind : (filled n ≡ true) ⊎ (lowest n ≡ true)
  pub leaf-bare : n.level ≡ 0 → (n.entries ≡ []) × (n.inserts ≡ []) × (n.deletes ≡ [])
  pub inner-least : (n.level ≡ 0 → ⊥) → fewest a ≤ length n.entries
  pub agreed : agrees a n ≡ true
  pub from_low : not_below a n ≡ true
  pub names-limited : every limited (names n) ≡ true
  pub points-limited : every limited (keys n.points) ≡ true
  pub inserts-limited : every limited (keys n.inserts) ≡ true
  pub deletes-limited : every limited n.deletes ≡ true
  pub lows-limited : every limited (rest (lows n.entries)) ≡ true
  pub extremes-limited : every limited (extremes n.entries) ≡ true

module _ (level : ℕ) (a : Asked) (n : Node) (ok : node_ok level a n ≡ true) where
  counted : child_count_ok a n ≡ true
  unfolding node_ok
  counted = all-at _ ok 2

  count-leaf : n.level ≡ 0 → n.entries ≡ []
  unfolding child_count_ok
  count-leaf e = empty-list n.entries (rw (eq-eqb n.level 0 e) at counted)

  count-inner : (n.level ≡ 0 → ⊥) → (fewest a ≤ length n.entries) × (length n.entries ≤ 8)
  unfolding child_count_ok
  count-inner d =
      let h : all (leb (fewest a) (length n.entries) ∷ leb (length n.entries) 8 ∷ []) ≡ true = rw (ne_eqb n.level 0 d) at counted in
      (leb-true _ _ (all-at _ h 0), leb-true _ _ (all-at _ h 1))

  kinds : (filled n ≡ true) ⊎ (lowest n ≡ true)
  unfolding node_ok
  kinds = or-either (filled n) (lowest n) (all-at _ ok 7)

  bare : n.level ≡ 0 → (n.inserts ≡ []) × (n.deletes ≡ [])
  unfolding node_ok leaf_buffers_empty
  bare e =
      let h = rw (eq-eqb n.level 0 e) at (all-at _ ok 8) in
      (empty-list n.inserts (all-at _ h 0), empty-list n.deletes (all-at _ h 1))

  rises : buffers_rise n ≡ true
  unfolding node_ok
  rises = all-at _ ok 3

  low : lows_rise n ≡ true
  unfolding node_ok
  low = all-at _ ok 5

  over : points_above n ≡ true
  unfolding node_ok
  over = all-at _ ok 6

  stands : child_blocks_ok n ≡ true
  unfolding node_ok
  stands = all-at _ ok 11

  sizes : (length n.points ≤ 64) × (length n.inserts ≤ 64) × (length n.deletes ≤ 16)
  unfolding filled lowest
  sizes =
      ⊎_elim (λ h. (leb-true _ _ (all-at _ h 1), leb-true _ _ (all-at _ h 2), leb-true _ _ (all-at _ h 3)))
      (λ h. let p : length n.points < 32 = ltb-true _ _ (all-at _ h 0) in
      let i : length n.inserts ≡ 0 = empty-length n.inserts (all-at _ h 1) in
      let d : length n.deletes ≡ 0 = empty-length n.deletes (all-at _ h 2) in
      (omega arith, omega arith, omega arith))
      kinds

  -- the keys that it names, the lows and the extremes
  limits : every limited (names n ++ rest (lows n.entries) ++ extremes n.entries) ≡ true
  unfolding node_ok inside_limits
  limits = all-at _ ok 15

  limited-more : every limited (names n ++ rest (lows n.entries)) ≡ true
  limited-more = every-left limited (names n ++ rest (lows n.entries)) (extremes n.entries) limits

  limited-names : every limited (keys n.points ++ keys n.inserts ++ n.deletes) ≡ true
  unfolding names
  limited-names = every-left limited (names n) (rest (lows n.entries)) limited-more

  limited-spots : every limited (keys n.points ++ keys n.inserts) ≡ true
  limited-spots = every-left limited (keys n.points ++ keys n.inserts) n.deletes limited-names

  pub node-facts : NodeFacts level a n
  unfolding node_ok named_once buffers_rise lows_rise points_above child_blocks_ok block_ok
  node-facts =
      record {
        laid = all-at _ ok 0;
        same-level = eqb-true _ _ (all-at _ ok 1);
        entries-most = ⊎_elim (λ e. let z : length n.entries ≡ 0 = ap length (count-leaf e) in omega arith) (λ d. (count-inner d).1) (same_or_not n.level 0);
        points-most = sizes.0;
        inserts-most = sizes.1;
        deletes-most = sizes.2;
        points-rise = all-at _ rises 0;
        inserts-rise = all-at _ rises 1;
        deletes-rise = all-at _ rises 2;
        once = all-at _ ok 4;
        first-open = all-at _ low 0;
        lows-rise = all-at _ low 1;
        above = λ p k i j.
            ltb-true _ _
            (every-mem (λ q. ltb (rank_key q) (rank_key p)) (keys n.inserts ++ n.deletes ++ tops n.entries)
            (every-mem (λ r. every (λ q. ltb (rank_key q) (rank_key r)) (keys n.inserts ++ n.deletes ++ tops n.entries)) (keys n.points) over i)
            j);
        child-blocks = λ e i.
            let h = every-mem (λ e. block_ok n.room e.block) n.entries stands i in
            (leb-true _ _ (all-at _ h 0), ltb-true _ _ (all-at _ h 1));
        kind = kinds;
        leaf-bare = λ e. (count-leaf e, (bare e).0, (bare e).1);
        inner-least = λ d. (count-inner d).0;
        agreed = all-at _ ok 9;
        from_low = all-at _ ok 10;
        names-limited = every-left limited (names n) (rest (lows n.entries)) limited-more;
        points-limited = every-left limited (keys n.points) (keys n.inserts) limited-spots;
        inserts-limited = every-right limited (keys n.points) (keys n.inserts) limited-spots;
        deletes-limited = every-right limited (keys n.points ++ keys n.inserts) n.deletes limited-names;
        lows-limited = every-right limited (names n) (rest (lows n.entries)) limited-more;
        extremes-limited = every-right limited (names n ++ rest (lows n.entries)) (extremes n.entries) limits;
      }

-- the bytes of a block: its counts, and where the lists of its node end
pub record BlockFacts (blocks level : ℕ) (a : Asked) (s : List ℕ) : Type 0 where
  pub node : NodeFacts level a (node_of blocks s)
  pub used : (front_of s).used ≡ used_of (front_of s)
  pub used-most : used_of (front_of s) ≤ 1896
  pub version : (front_of s).version ≡ 1
  pub blank : every is_zero (drop (used_of (front_of s)) s) ≡ true
  pub c-most : (front_of s).c ≤ 8
  pub p-most : (front_of s).p ≤ 64
  pub i-most : (front_of s).i ≤ 64
  pub d-most : (front_of s).d ≤ 16
  pub entries-end : 8 + 28 * (front_of s).c ≤ 1896
  pub points-end : points_from version1 (front_of s).c + 12 * (front_of s).p ≤ 1896
  pub inserts-end : inserts_from version1 (front_of s).c (front_of s).p + 12 * (front_of s).i ≤ 1896

module _ (blocks level : ℕ) (a : Asked) (s : List ℕ) (ok : node_ok level a (node_of blocks s) ≡ true) where
  facts : NodeFacts level a (node_of blocks s)
  facts = node-facts level a (node_of blocks s) ok

  laid_out_lem : laid_out version1 s (be 1 s 7) (be 1 s 4) (be 1 s 5) (be 1 s 6) ≡ true
  unfolding node_of node_from
  laid_out_lem = facts.laid

  fits : used_of (front_of s) ≤ 1896
  unfolding laid_out front_of
  fits = leb-true _ _ (all-at _ laid_out_lem 1)

  pub block-facts : BlockFacts blocks level a s
  unfolding laid_out front_of
  block-facts =
      record {
        node = facts;
        used = eqb-true _ _ (all-at _ laid_out_lem 0);
        used-most = fits;
        version = eqb-true _ _ (all-at _ laid_out_lem 2);
        blank = all-at _ laid_out_lem 3;
        c-most = subst (λ (k : ℕ). k ≤ 8) (entries-count blocks s) facts.entries-most;
        p-most = subst (λ (k : ℕ). k ≤ 64) (points-count blocks s) facts.points-most;
        i-most = subst (λ (k : ℕ). k ≤ 64) (inserts-count blocks s) facts.inserts-most;
        d-most = subst (λ (k : ℕ). k ≤ 16) (deletes-count blocks s) facts.deletes-most;
        entries-end = omega (arith, fits);
        points-end = omega (arith, fits);
        inserts-end = omega (arith, fits);
      }

-- ---- block 0

pub record HeadFacts (bytes : ℕ) (h : Header) : Type 0 where
  pub same_bytes : h.bytes ≡ bytes
  pub version : h.version ≡ 1
  pub levels-least : 1 ≤ h.levels
  pub levels-most : h.levels ≤ 7
  pub root-least : 1 ≤ h.root
  pub root-most : h.root < bytes / 2048
  pub bound-most : h.bound ≤ capacity bytes
  pub zero-used : bit h.in_use 0 ≡ true
  pub root-used : bit h.in_use h.root ≡ true
  pub past-clear : (b : ℕ) → bytes / 2048 ≤ b → b < 4096 → bit h.in_use b ≡ false
  pub blank : h.blank ≡ true
  pub sized : table_sized bytes ≡ true
  pub blocks-most : bytes / 2048 ≤ 4096

module _ (bytes : ℕ) (h : Header) (ok : header_ok bytes h ≡ true) where
  root_in : block_ok (blocks_of bytes) h.root ≡ true
  unfolding header_ok
  root_in = all-at _ ok 4

  shows : map_shows (blocks_of bytes) h ≡ true
  unfolding header_ok
  shows = all-at _ ok 6

  right : table_sized bytes ≡ true
  unfolding header_ok
  right = all-at _ ok 8

  pub head-facts : HeadFacts bytes h
  unfolding header_ok block_ok map_shows
  head-facts =
      record {
        same_bytes = eqb-true _ _ (all-at _ ok 0);
        version = eqb-true _ _ (all-at _ ok 1);
        levels-least = leb-true _ _ (all-at _ ok 2);
        levels-most = leb-true _ _ (all-at _ ok 3);
        root-least = leb-true _ _ (all-at _ root_in 0);
        root-most = ltb-true _ _ (all-at _ root_in 1);
        bound-most = leb-true _ _ (all-at _ ok 5);
        zero-used = all-at _ shows 0;
        root-used = all-at _ shows 1;
        past-clear = λ b l g.
            let k = bytes / 2048 in
            let w : b < k + (4096 - k) = omega arith in
            not-true (bit h.in_use b) (every-mem (λ b. not (bit h.in_use b)) (up_to k (4096 - k)) (all-at _ shows 2) (up_to-in k (4096 - k) b l w));
        blank = all-at _ ok 7;
        sized = right;
        blocks-most = blocks-most bytes right;
      }

-- and a header of which they hold passes the tests
module _ (bytes : ℕ) (h : Header) (f : HeadFacts bytes h) where
  shows-made : map_shows (blocks_of bytes) h ≡ true
  unfolding map_shows
  shows-made =
      let k = bytes / 2048 in
      let l = f.blocks-most in
      all_cons _ _ f.zero-used
      (all_cons _ _ f.root-used (all_cons _ _ (every-up_to _ k (4096 - k) (λ b lo hi. ap not (f.past-clear b lo (omega arith)))) all_nil))

  pub head-made : header_ok bytes h ≡ true
  unfolding header_ok block_ok
  head-made =
      all_cons _ _ (eq-eqb _ _ f.same_bytes)
      (all_cons _ _ (eq-eqb _ _ f.version)
      (all_cons _ _ (le-leb 1 h.levels f.levels-least)
      (all_cons _ _ (le-leb h.levels 7 f.levels-most)
      (all_cons _ _ (all_cons _ _ (le-leb 1 h.root f.root-least) (all_cons _ _ (lt-ltb h.root (blocks_of bytes) f.root-most) all_nil))
      (all_cons _ _ (le-leb h.bound (capacity bytes) f.bound-most)
      (all_cons _ _ shows-made (all_cons _ _ f.blank (all_cons _ _ f.sized all_nil))))))))
