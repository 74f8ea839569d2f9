-- Reading best first arrives at Top: a part that breaks a rule, or is reached twice, breaks its walk; once k spots are given, or nothing is left, the walk is whole,
-- has read the same blocks, and its best are the spots given.
-- Assumes nothing.
use mathlib.Core.Path.{◌≡◌, refl, ap, sym, subst, ◌∙◌}
use mathlib.Core.Logic.{◌⊎◌, inl, inr, ⊎_elim}
use mathlib.Core.Bool.{Bool, true, false, not, ◌||◌}
use mathlib.Core.List.{List, [], ◌∷◌, ◌++◌, append-nil, Memᴰ}
use Prim.Native.Nat.{ℕ, zero, suc, ◌+◌, ◌≤◌, ◌<◌, min}
use native.Mathlib.Omega.{arith}
use lib.Dec.{eqb}
use lib.IntN.{ℤ}
use lib.ListN.{length, take, length-append, length-take}
use lib.Seq.{take_all, take-append_seam}
use borrow.Author.Tests.{le-leb, lt-leb}
use Rattle.octets.specs.Lists.{has, keep, records, rising}
use Rattle.octets.specs.Bitmap.{digit, mark_byte}
use Rattle.octets.proofs.Lists.{mem-here, mem-less}
use Rattle.octets.proofs.Order.{less-or-not}
use Rattle.octets.proofs.Tests.{bool-ext, keep-in}
use Rattle.octets.proofs.Sets.{has-mem, mem-has}
use Rattle.spot.specs.declared.Spot.{Spot}
use Rattle.spot.specs.Keys.{word, rank_of}
use Rattle.spot.specs.Spots.{keys, by_top}
use Rattle.spot.specs.Query.{top_query}
use Rattle.spot.proofs.TopKeys.{top-rank}
use Rattle.spot.proofs.Ranks.{of_rank, by_top-from, by_top-in}
use Rattle.block.specs.Table.{map_bytes}
use Rattle.block.specs.Header.{head_of}
use Rattle.block.specs.HeaderRules.{header_ok}
use Rattle.block.specs.Node.{store_of}
use Rattle.block.specs.NodeRules.{node_ok}
use Rattle.tree.specs.Walk.{broken, walked, spots, blocks_read, is_broken, walk_table}
use Rattle.tree.specs.ReadMap.{is_read, read_map}
use Rattle.tree.specs.Top.{enough, threshold, top_walk, top_table}
use Rattle.tree.specs.BestFirst.{Pending, promised, NonePromises}
use Rattle.tree.proofs.Sources.{Source}
use Rattle.tree.proofs.BestFirstSums.{sum, Same, counted, one, counted-yes, counted-no, sum-append, sum_same, sum-mem, sum-length, sum-keep, mark, mark-self, mark-mem, mem-mark, same_length}
use Rattle.tree.proofs.BestFirstSpots.{sum-by_top, same_spot, Descends, top-descends, descends-join, Sharp, descends-same, rising-sharp}
use Rattle.tree.proofs.BestFirstTree.{weighs, weigh-first, at_node, on_block, fault_at, fault, root_of, Whole, walk-faulty, walk-twice}
use Rattle.tree.proofs.BestFirstParts.{due, rank-word}
use Rattle.tree.proofs.BestFirstSteps.{NoneRanks, Last, Progress}
use Rattle.tree.proofs.BestFirstEnd.{threshold-le, threshold-under, threshold-is, top-walk, numbers-mem, at_some, none_of, all_of, at_most, descends-last, some, source, small, sums, every-block, whole-at, spots-at, few-at, enough-at}

-- ---- a walk that breaks

module _ (t : List ℕ) (x1 x2 : ℤ) (k : ℕ) (us : List Pending) (p : Pending) (vs : List Pending) (found given : List Spot) (blocks : List ℕ) (g : Progress t x1 x2 k (us ++ (p ∷ vs)) found given blocks) (most : NonePromises (promised p) (us ++ vs)) (low : NoneRanks (promised p) found) (room : length given < k) where
  closed-above : (y : ℕ) → promised p < y → (u : Pending) → Memᴰ u (us ++ (p ∷ vs)) → promised u < y
  closed-above y h u i =
      ⊎_elim (λ (e : u ≡ p). omega (arith, ap promised e)) (λ j. let z = most u j in omega arith) (mem-less us p vs i)

  few-above : (y : ℕ) → y ≤ word → promised p < y → enough k (walk_table t (top_query x1 x2 y)) ≡ false
  few-above y l h =
      few-at t x1 x2 k (us ++ (p ∷ vs)) found given blocks g y l (closed-above y h) (none_of (promised p) y found low h) (let z = at_most y given in omega arith)

  -- the walk of Top reads p
  breaks : ((y : ℕ) → y ≤ word → y ≤ promised p → walk_table t (top_query x1 x2 y) ≡ broken) → top_walk t x1 x2 k ≡ broken
  breaks h =
      top-walk t x1 x2 k (omega arith) ∙
      h (threshold t x1 x2 k) (threshold-le t x1 x2 k) (threshold-under t x1 x2 k (promised p) few-above)

  -- what p adds to what the walk sums up
  adds : (y : ℕ) → y ≤ word → y ≤ promised p → (w : Pending → ℕ)
      → sum (counted (due y) w) g.read + w p ≤ weighs w (store_of t) (top_query x1 x2 y) (root_of t)
  adds y l h w =
      let f = weighs w (store_of t) (top_query x1 x2 y) in
      omega (
        arith,
        g.tree y l w,
        sum-mem (counted (due y) f) (us ++ (p ∷ vs)) (mem-here us p vs),
        counted-yes (due y) f p (le-leb y (promised p) h),
        weigh-first w (store_of t) (top_query x1 x2 y) p,
      )

  breaks-faulty : 0 < fault (store_of t) p → top_walk t x1 x2 k ≡ broken
  breaks-faulty f = breaks (λ y l h. walk-faulty t (top_query x1 x2 y) (omega (arith, adds y l h (fault (store_of t)))))

  -- the node breaks a rule
  pub broken-node : (l : ℕ) → p.levels ≡ suc l → node_ok l p.part.asked (store_of t p.part.block) ≡ false → top_walk t x1 x2 k ≡ broken
  broken-node l e h =
      let z = ap (λ (n : ℕ). fault_at n (store_of t) p.part) e ∙ ap (λ (b : Bool). digit (not b)) h in
      breaks-faulty (omega arith)

  -- the block was read before
  pub broken-twice : has p.part.block blocks ≡ true → top_walk t x1 x2 k ≡ broken
  broken-twice h =
      let b = p.part.block in
      let r = numbers-mem g.read (subst (λ (bs : List ℕ). Memᴰ b bs) g.stand (has-mem b blocks h)) in
      breaks
      (λ y l d.
      let w = on_block (mark b) in
      let over = g.behind r.0 r.1 p (mem-here us p vs) in
      walk-twice t (top_query x1 x2 y) b
      (omega (
        arith,
        adds y l d w,
        sum-mem (counted (due y) w) g.read r.1,
        counted-yes (due y) w r.0 (le-leb y (promised r.0) (omega arith)),
        once_more r.0 r.1 (mark b r.0.part.block),
        mark-self b r.0.part.block r.2,
        at_some p.levels (mark b b) (g.fit p (mem-here us p vs)).some,
        mark-self b b refl,
      )))
    where
      once_more : (r : Pending) → Memᴰ r g.read → (x : ℕ) → at_node r.levels x ≡ x
      once_more r i x = at_some r.levels x (go r.levels (g.fine r i))
        where
          go : (n : ℕ) → fault_at n (store_of t) r.part ≡ 0 → 1 ≤ n
          go zero e = let z : ⊥ = omega arith in absurd z
          go (suc n) e = omega arith

-- a header that breaks a rule
pub broken-head : (t : List ℕ) (x1 x2 : ℤ) (k : ℕ) → header_ok (length t) (head_of t) ≡ false → top_walk t x1 x2 k ≡ broken
unfolding top_walk walk_table
broken-head t x1 x2 zero h = rw h
broken-head t x1 x2 (suc k) h = rw h

-- ---- the end

-- what is given is what Top gives, and the blocks read are those that it reads
pub record Done (t : List ℕ) (x1 x2 : ℤ) (k : ℕ) (given : List Spot) (blocks : List ℕ) : Type 0 where
  pub intact : is_broken (top_walk t x1 x2 k) ≡ false
  pub marks : Same (blocks_read (top_walk t x1 x2 k)) blocks
  pub reads : (b : ℕ) → Memᴰ b (blocks_read (top_walk t x1 x2 k)) → Memᴰ b blocks
  pub stand : (b : ℕ) → Memᴰ b blocks → Memᴰ b (blocks_read (top_walk t x1 x2 k))
  pub same : rising (keys (spots (top_walk t x1 x2 k))) ≡ true → given ≡ spots (top_table t x1 x2 k)
  pub many : length given ≡ length (spots (top_table t x1 x2 k))
  pub from : (s : Spot) → Memᴰ s given → Source (store_of t) (top_query x1 x2 0) blocks s
  pub map : read_map (blocks_read (top_table t x1 x2 k)) ≡ read_map blocks

-- lists with the same blocks make the same map
has_same : (xs ys : List ℕ) → Same xs ys → (b : ℕ) → has b xs ≡ has b ys
has_same xs ys e b = bool-ext (has b xs) (has b ys) (over xs ys (e (mark b))) (over ys xs (sym (e (mark b))))
  where
    over : (us vs : List ℕ) → sum (mark b) us ≡ sum (mark b) vs → has b us ≡ true → has b vs ≡ true
    over us vs z h = mem-has b vs (mark-mem b vs (omega (arith, mem-mark b us (has-mem b us h))))

map_same : (xs ys : List ℕ) → Same xs ys → read_map xs ≡ read_map ys
unfolding read_map is_read
map_same xs ys e = ap (λ (f : ℕ → Bool). records (mark_byte f) 8 map_bytes 0) (λ i b. eqb b 0 || has_same xs ys e b i)

module _ (t : List ℕ) (x1 x2 : ℤ) (k : ℕ) (unread : List Pending) (found given : List Spot) (blocks : List ℕ) (g : Progress t x1 x2 k unread found given blocks) where
  -- the threshold is y, and all that is read promised y
  record At (y : ℕ) : Type 0 where
    inside : y ≤ word
    closed : (u : Pending) → Memᴰ u unread → promised u < y
    hit : threshold t x1 x2 k ≡ y
    over : (r : Pending) → Memᴰ r g.read → y ≤ promised r
    ranks : (s : Spot) → Memᴰ s given → y ≤ rank_of s.key
    full : (k ≤ length given) ⊎ (found ≡ [])

  module _ (y : ℕ) (a : At y) where
    whole : Whole t (top_query x1 x2 y)
    whole = whole-at t x1 x2 k unread found given blocks g y a.inside a.closed

    top-is : top_walk t x1 x2 k ≡ walked whole.found whole.blocks
    top-is =
        top-walk t x1 x2 k (some t x1 x2 k unread found given blocks g) ∙ ap (λ (z : ℕ). walk_table t (top_query x1 x2 z)) a.hit ∙ whole.is

    block-sums : Same whole.blocks blocks
    unfolding whole
    block-sums f =
        whole.reads f ∙ sums t x1 x2 k unread found given blocks g y a.inside a.closed (on_block f) ∙
        sum_same (counted (due y) (on_block f)) (on_block f) g.read (λ r i. counted-yes (due y) (on_block f) r (le-leb y (promised r) (a.over r i))) ∙
        every-block t x1 x2 k unread found given blocks g y a.inside a.closed f

    spot-sums : (f : Spot → ℕ) → sum f whole.found ≡ sum (counted (of_rank y) f) found + sum f given
    unfolding whole
    spot-sums f = omega (arith, spots-at t x1 x2 k unread found given blocks g y a.inside a.closed f, all_of y f given a.ranks)

    -- what is given, and after it what is found of that rank
    ranking : List Spot
    ranking = given ++ by_top (keep (of_rank y) found)

    ranking-same : Same ranking (by_top whole.found)
    unfolding ranking
    ranking-same f =
        omega (
          arith,
          sum-append f given (by_top (keep (of_rank y) found)),
          sum-by_top f (keep (of_rank y) found),
          sum-keep (of_rank y) f found,
          sum-by_top f whole.found,
          spot-sums f,
        )

    ranking-falls : Descends ranking
    unfolding ranking
    ranking-falls =
        descends-join given (by_top (keep (of_rank y) found)) g.falls (top-descends (keep (of_rank y) found))
        (λ x i s j. g.lower x i s (keep-in (of_rank y) found (by_top-from (keep (of_rank y) found) j)))

    -- every spot of the walk is found or given
    walk_from : (s : Spot) → Memᴰ s (by_top whole.found) → Memᴰ s found ⊎ Memᴰ s given
    unfolding ranking
    walk_from s i =
        ⊎_elim (λ j. inr j) (λ j. inl (keep-in (of_rank y) found (by_top-from (keep (of_rank y) found) j)))
        (mathlib.Core.List.Memᴰ.append_cases given (same_spot (by_top whole.found) ranking (λ f. sym (ranking-same f)) i))

    sharp : rising (keys whole.found) ≡ true → Sharp (by_top whole.found)
    sharp h s u i j =
        rising-sharp 0 whole.found h (λ x n. small t x1 x2 k unread found given blocks g x (walk_from x (by_top-in whole.found n))) s u
        (by_top-from whole.found i)
        (by_top-from whole.found j)

    first : take k ranking ≡ given
    unfolding ranking
    first =
        ⊎_elim
        (λ (h : k ≤ length given).
        let e : k ≡ length given = omega (arith, g.few) in
        ap (λ (n : ℕ). take n (given ++ by_top (keep (of_rank y) found))) e ∙ take-append_seam given (by_top (keep (of_rank y) found)))
        (λ (h : found ≡ []).
        ap (λ (ss : List Spot). take k (given ++ by_top (keep (of_rank y) ss))) h ∙ ap (take k) (append-nil given) ∙ take_all k given g.few)
        a.full

    best-same : rising (keys whole.found) ≡ true → given ≡ take k (by_top whole.found)
    best-same h =
        sym first ∙
        ap (take k) (descends-same ranking (by_top whole.found) ranking-falls (top-descends whole.found) ranking-same (sharp h))

    best-many : length given ≡ length (take k (by_top whole.found))
    best-many =
        ap length (sym first) ∙ length-take k ranking ∙
        ap (λ (n : ℕ). min k n) (same_length ranking (by_top whole.found) ranking-same) ∙
        sym (length-take k (by_top whole.found))

    done_at : Done t x1 x2 k given blocks
    unfolding top_table
    done_at =
        record {
          intact = ap is_broken top-is;
          marks = rw top-is block-sums;
          reads = λ b i. mark-mem b blocks (let z = block-sums (mark b) in omega (arith, mem-mark b whole.blocks (rw top-is at i)));
          stand = λ b i. rw top-is (mark-mem b whole.blocks (let z = block-sums (mark b) in omega (arith, mem-mark b blocks i)));
          same = λ h. rw top-is (best-same (rw top-is at h));
          many = rw top-is best-many;
          from = λ s i. source t x1 x2 k unread found given blocks g s (inr i);
          map = rw top-is (map_same whole.blocks blocks block-sums);
        }

  -- k spots are given
  at_last : (h : k ≤ length given) → At (rank_of (g.last h).spot.key)
  at_last h =
      let r = g.last h in
      let y = rank_of r.spot.key in
      let held : Memᴰ r.spot given = subst (λ (ss : List Spot). Memᴰ r.spot ss) (sym r.is) (mem-here r.before r.spot []) in
      let low : y < word = rank-word r.spot.key (small t x1 x2 k unread found given blocks g r.spot (inr held)) in
      let ranks : (s : Spot) → Memᴰ s given → y ≤ rank_of s.key =
      λ s i.
      let z = descends-last r.before r.spot (subst Descends r.is g.falls) s (subst (λ (ss : List Spot). Memᴰ s ss) r.is i) in
      omega (arith, top-rank r.spot.key, top-rank s.key) in
      let many : k ≤ sum (counted (of_rank y) one) given = omega (arith, all_of y one given ranks, sum-length given) in
      record {
        inside = omega arith;
        closed = r.under;
        hit =
            threshold-is t x1 x2 k y low
            (λ z l d.
            few-at t x1 x2 k unread found given blocks g z l (λ u i. let b = r.under u i in omega arith) (none_of y z found r.left d)
            (fewer r z d))
            (enough-at t x1 x2 k unread found given blocks g y (omega arith) r.under many);
        over = r.over;
        ranks = ranks;
        full = inl h;
      }
    where
      -- above the last rank fewer than k are given
      fewer : (r : Last g.read unread found given) (z : ℕ) → rank_of r.spot.key < z → sum (counted (of_rank z) one) given < k
      fewer r z d =
          let e : counted (of_rank z) one r.spot ≡ 0 = counted-no (of_rank z) one r.spot (lt-leb z (rank_of r.spot.key) d) in
          omega (
            arith,
            ap (sum (counted (of_rank z) one)) r.is,
            sum-append (counted (of_rank z) one) r.before (r.spot ∷ []),
            at_most z r.before,
            ap length r.is,
            length-append r.before (r.spot ∷ []),
            g.few,
          )

  -- with k given, the threshold is the rank of the last: above it fewer than k are found, from it on k are, and just the parts read promise it
  pub done_full : k ≤ length given → Done t x1 x2 k given blocks
  done_full h = done_at (rank_of (g.last h).spot.key) (at_last h)

  -- nothing is left
  at-empty : unread ≡ [] → found ≡ [] → length given < k → At 0
  at-empty n e h =
      let closed : (z : ℕ) (u : Pending) → Memᴰ u unread → promised u < z =
      λ z u i. absurd (mathlib.Core.List.Memᴰ.not-nil (subst (λ (us : List Pending). Memᴰ u us) n i)) in
      record {
        inside = omega arith;
        closed = closed 0;
        hit =
            let b : threshold t x1 x2 k ≤ 0 =
            threshold-under t x1 x2 k 0
            (λ z l d.
            few-at t x1 x2 k unread found given blocks g z l (closed z) (ap (sum (counted (of_rank z) one)) e) (let c = at_most z given in omega arith)) in
            omega arith;
        over = λ r i. omega arith;
        ranks = λ s i. omega arith;
        full = inr e;
      }

  -- with nothing left and fewer than k given, the threshold is the lowest rank, and all that the walk finds is given
  pub done-empty : unread ≡ [] → found ≡ [] → Done t x1 x2 k given blocks
  done-empty n e =
      ⊎_elim (λ (h : k ≤ length given). done_full h) (λ (h : length given < k). done_at 0 (at-empty n e h)) (less-or-not k (length given))
