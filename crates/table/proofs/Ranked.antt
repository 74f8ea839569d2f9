-- All that is in range, sorted: where there are no more than k, it is what Top gives. Where there are fewer, Top's walk is the walk at the lowest rank; where there
-- are k, it is the one from the rank of the last.
-- Assumes nothing.
use mathlib.Core.Path.{◌≡◌, refl, ap, sym, subst, ◌∙◌}
use mathlib.Core.Logic.{◌⊎◌, ⊎_elim}
use mathlib.Core.Bool.{Bool, true, false, not, true≢false}
use mathlib.Core.List.Memᴰ
use mathlib.Core.List.{List, [], ◌∷◌, ◌++◌, Memᴰ}
use Prim.Native.Nat.{ℕ, zero, suc, ◌+◌, ◌≤◌, ◌<◌}
use native.Mathlib.Omega.{arith}
use lib.IntN.{ℤ}
use lib.ListN.{length, take, length-append}
use lib.Seq.{take_all}
use borrow.Author.Tests.{le-leb, lt-leb, leb-true, leb-false}
use Rattle.octets.specs.Lists.{rising}
use Rattle.octets.specs.Bitmap.{digit}
use Rattle.octets.proofs.Lists.{mem-here}
use Rattle.octets.proofs.Tests.{and_left}
use Rattle.octets.proofs.Order.{less-or-not}
use Rattle.octets.proofs.UpTo.{largest-hit, largest-above}
use Rattle.spot.specs.declared.Spot.{Spot}
use Rattle.spot.specs.declared.Query.{Query}
use Rattle.spot.specs.Keys.{word, all_keys, rank_of}
use Rattle.spot.specs.Spots.{keys, by_top}
use Rattle.spot.specs.Query.{top_query, wants}
use Rattle.spot.proofs.TopKeys.{top-rank}
use Rattle.spot.proofs.Ranks.{of_rank, wants-high, top-length, by_top-from}
use Rattle.block.specs.Header.{head_of}
use Rattle.block.specs.Node.{store_of}
use Rattle.block.specs.NodeRules.{names, node_ok}
use Rattle.block.proofs.Facts.{head-facts}
use Rattle.tree.specs.Part.{Part}
use Rattle.tree.specs.Walk.{Walk, broken, walked, is_broken, spots, blocks_read, topped, walk_table}
use Rattle.tree.specs.Top.{enough, threshold, top_walk, best, top_table}
use Rattle.tree.specs.ReadMap.{read_map}
use Rattle.tree.specs.Trace.{admitted}
use Rattle.tree.specs.BestFirst.{Pending, promised, known, opened, shown}
use Rattle.tree.proofs.Sources.{Source, table-source, root_in}
use Rattle.tree.proofs.BestFirstSums.{sum, Same, counted, one, counted-yes, counted-no, sum-append, sum_same, sum-none, sum-mem, sum-length, same_length, mark}
use Rattle.tree.proofs.BestFirstSpots.{sum-by_top, same_spot, Descends, top-descends, Sharp, descends-same, rising-sharp}
use Rattle.tree.proofs.BestFirstTree.{weighs, weigh-step, on_block, on_spots, fault_at, fault, root_of, Whole, walk-whole, walk-faulty, walk-twice}
use Rattle.tree.proofs.BestFirstParts.{due, admitted-rank, finds-rank, rank-word, held_small, Fit, opened-fit, opened-under, shown-under}
use Rattle.tree.proofs.BestFirstEnd.{threshold-le, top-walk, at_some, all_of, at_most, descends-last}
use Rattle.tree.proofs.BestFirstTop.{Done}
use Rattle.tree.proofs.TopCounts.{top-counts}
use Rattle.query.proofs.Gathered.{whole-header}

-- ---- a walk that is whole, by its sums

module _ (t : List ℕ) (q : Query) (whole : is_broken (walk_table t q) ≡ false) where
  unbroken : walk_table t q ≡ broken → ⊥
  unbroken e = true≢false (sym (ap is_broken e) ∙ whole)

  faultless : weighs (fault (store_of t)) (store_of t) q (root_of t) ≡ 0
  faultless =
      let n = weighs (fault (store_of t)) (store_of t) q (root_of t) in
      ⊎_elim (λ (l : n ≤ 0). omega arith) (λ (l : 0 < n). absurd (unbroken (walk-faulty t q l))) (less-or-not n 0)

  sums-of : Whole t q
  sums-of =
      walk-whole t q (whole-header t q whole) faultless
      (λ b. let n = weighs (on_block (mark b)) (store_of t) q (root_of t) in ⊎_elim (λ (l : n ≤ 1). l) (λ (l : 1 < n). absurd (unbroken (walk-twice t q b l))) (less-or-not n 1))

  pub found-sums : (f : Spot → ℕ) → sum f (spots (walk_table t q)) ≡ weighs (on_spots f (store_of t) q) (store_of t) q (root_of t)
  found-sums f = ap (λ (w : Walk). sum f (spots w)) sums-of.is ∙ sums-of.finds f

-- ---- a least rank leaves out just the spots under it

known-level : (named : List ℕ) (l : ℕ) (cs : List Part) (u : Pending) → Memᴰ u (known named l cs) → u.levels ≡ l
known-level named l [] u i = absurd (Memᴰ.not-nil i)
known-level named l (c ∷ cs) u i = ⊎_elim (λ e. ap (λ (x : Pending). x.levels) e) (λ j. known-level named l cs u j) (Memᴰ.cases_cons i)

module _ (t : List ℕ) (x1 x2 : ℤ) (y : ℕ) (inside : y ≤ word) (f : Spot → ℕ) where
  -- what is counted of a part: all at the least rank y, and those of rank y at the lowest
  upper : Pending → ℕ
  upper = on_spots f (store_of t) (top_query x1 x2 y)

  ranked : Pending → ℕ
  ranked = on_spots (counted (of_rank y) f) (store_of t) (top_query x1 x2 0)

  -- the part's node and its children, where none of them has a fault
  module _ (u : Pending) (l : ℕ) (e : u.levels ≡ suc l) (fit : Fit t (top_query x1 x2 0) u) (fine : weighs (fault (store_of t)) (store_of t) (top_query x1 x2 0) u ≡ 0) where
    kids : List Pending
    kids = opened (store_of t) (top_query x1 x2 0) l u

    step-fault : fault (store_of t) u + sum (weighs (fault (store_of t)) (store_of t) (top_query x1 x2 0)) kids ≡ 0
    unfolding kids
    step-fault = sym (weigh-step (fault (store_of t)) (store_of t) (top_query x1 x2 0) u l e) ∙ fine

    node-fine : node_ok l u.part.asked (store_of t u.part.block) ≡ true
    node-fine =
        go (node_ok l u.part.asked (store_of t u.part.block))
        (sym (ap (λ (n : ℕ). fault_at n (store_of t) u.part) e) ∙ (let z = step-fault in omega arith))
      where
        go : (b : Bool) → digit (not b) ≡ 0 → b ≡ true
        go true h = refl
        go false h = let z : ⊥ = omega arith in absurd z

    kid-level : (c : Pending) → Memᴰ c kids → c.levels ≡ l
    unfolding kids
    kid-level c i = known-level (names (store_of t u.part.block) ++ u.named) l (admitted (top_query x1 x2 0) (store_of t) u.part) c i

    kid-fit : (c : Pending) → Memᴰ c kids → Fit t (top_query x1 x2 0) c
    unfolding kids
    kid-fit c i = opened-fit t (top_query x1 x2 0) l u fit e node-fine c i

    kid-fine : (c : Pending) → Memᴰ c kids → weighs (fault (store_of t)) (store_of t) (top_query x1 x2 0) c ≡ 0
    kid-fine c i = omega (arith, step-fault, sum-mem (weighs (fault (store_of t)) (store_of t) (top_query x1 x2 0)) kids i)

    kid_under : (c : Pending) → Memᴰ c kids → promised c ≤ promised u
    unfolding kids
    kid_under c i = opened-under t (top_query x1 x2 0) l u fit e node-fine c i

    -- the node's own spots
    own-none : promised u < y → ranked u ≡ 0
    unfolding ranked
    own-none d =
        at_some u.levels _ fit.some ∙
        sum-none (counted (of_rank y) f) (shown (store_of t) (top_query x1 x2 0) u)
        (λ s i. counted-no (of_rank y) f s (lt-leb y (rank_of s.key) (let z = shown-under t (top_query x1 x2 0) l u fit e node-fine s i in omega arith)))

    own-ranked : upper u ≡ ranked u
    unfolding upper ranked
    own-ranked =
        at_some u.levels _ fit.some ∙ finds-rank x1 x2 y f u.named (store_of t u.part.block) ∙ sym (at_some u.levels _ fit.some)

    ranked-step : weighs ranked (store_of t) (top_query x1 x2 0) u ≡ ranked u + sum (weighs ranked (store_of t) (top_query x1 x2 0)) kids
    unfolding kids
    ranked-step = weigh-step ranked (store_of t) (top_query x1 x2 0) u l e

    upper-step : weighs upper (store_of t) (top_query x1 x2 y) u ≡ upper u + sum (counted (due y) (weighs upper (store_of t) (top_query x1 x2 y))) kids
    unfolding kids
    upper-step =
        weigh-step upper (store_of t) (top_query x1 x2 y) u l e ∙
        ap (λ (n : ℕ). upper u + n)
        (admitted-rank x1 x2 y inside (weighs upper (store_of t) (top_query x1 x2 y)) (store_of t) (names (store_of t u.part.block) ++ u.named) l u.part)

  -- under a part that promises less nothing has rank y
  none-under : (n : ℕ) (u : Pending) → u.levels ≡ n → Fit t (top_query x1 x2 0) u → weighs (fault (store_of t)) (store_of t) (top_query x1 x2 0) u ≡ 0
      → promised u < y → weighs ranked (store_of t) (top_query x1 x2 0) u ≡ 0
  none-under zero u e fit fine d = let z : ⊥ = omega (arith, fit.some) in absurd z
  none-under (suc l) u e fit fine d =
      omega (
        arith,
        ranked-step u l e fit fine,
        own-none u l e fit fine d,
        sum-none (weighs ranked (store_of t) (top_query x1 x2 0)) (kids u l e fit fine)
            (λ c i.
            none-under l c (kid-level u l e fit fine c i) (kid-fit u l e fit fine c i) (kid-fine u l e fit fine c i)
            (let z = kid_under u l e fit fine c i in omega arith)),
      )

  upper-ranked : (n : ℕ) (u : Pending) → u.levels ≡ n → Fit t (top_query x1 x2 0) u → weighs (fault (store_of t)) (store_of t) (top_query x1 x2 0) u ≡ 0
      → weighs upper (store_of t) (top_query x1 x2 y) u ≡ weighs ranked (store_of t) (top_query x1 x2 0) u
  upper-ranked zero u e fit fine = let z : ⊥ = omega (arith, fit.some) in absurd z
  upper-ranked (suc l) u e fit fine =
      let at_y = weighs upper (store_of t) (top_query x1 x2 y) in
      let low = weighs ranked (store_of t) (top_query x1 x2 0) in
      omega (
        arith,
        upper-step u l e fit fine,
        ranked-step u l e fit fine,
        own-ranked u l e fit fine,
        sum_same (counted (due y) at_y) low (kids u l e fit fine)
            (λ c i.
            ⊎_elim
            (λ (d : y ≤ promised c).
            counted-yes (due y) at_y c (le-leb y (promised c) d) ∙ upper-ranked l c (kid-level u l e fit fine c i) (kid-fit u l e fit fine c i) (kid-fine u l e fit fine c i))
            (λ (d : promised c < y).
            counted-no (due y) at_y c (lt-leb y (promised c) d) ∙
            sym (none-under l c (kid-level u l e fit fine c i) (kid-fit u l e fit fine c i) (kid-fine u l e fit fine c i) d))
            (less-or-not y (promised c))),
      )

  -- a walk from rank y that is whole finds the spots of rank y of the walk at the lowest
  pub found-ranked : is_broken (walk_table t (top_query x1 x2 0)) ≡ false → is_broken (walk_table t (top_query x1 x2 y)) ≡ false
      → sum f (spots (walk_table t (top_query x1 x2 y))) ≡ sum (counted (of_rank y) f) (spots (walk_table t (top_query x1 x2 0)))
  unfolding upper ranked topped
  found-ranked whole above =
      let h = whole-header t (top_query x1 x2 0) whole in
      found-sums t (top_query x1 x2 y) above f ∙
      upper-ranked (head_of t).levels (root_of t) refl (record { some = (head-facts (length t) (head_of t) h).levels-least; few = omega arith; asks = refl; inside = root_in t h })
      (faultless t (top_query x1 x2 0) whole) ∙
      sym (found-sums t (top_query x1 x2 0) whole (counted (of_rank y) f))

-- ---- what is in range, sorted

-- the threshold is the lowest rank, or the walk from it finds enough; above it none does
module _ (t : List ℕ) (x1 x2 : ℤ) (k : ℕ) where
  enough-there : (threshold t x1 x2 k ≡ 0) ⊎ (enough k (walk_table t (top_query x1 x2 (threshold t x1 x2 k))) ≡ true)
  unfolding threshold
  enough-there = largest-hit (λ i. enough k (walk_table t (top_query x1 x2 i))) word

  none_above : (y : ℕ) → threshold t x1 x2 k < y → y < word → enough k (walk_table t (top_query x1 x2 y)) ≡ false
  unfolding threshold
  none_above y = largest-above (λ i. enough k (walk_table t (top_query x1 x2 i))) word y

enough-many : (k : ℕ) (w : Walk) → enough k w ≡ true → is_broken w ≡ false → k ≤ length (spots w)
enough-many k broken h e = absurd (true≢false e)
enough-many k (walked found blocks) h e = leb-true k (length found) h

not-enough : (k : ℕ) (w : Walk) → enough k w ≡ false → (is_broken w ≡ false) × (length (spots w) < k)
not-enough k broken h = absurd (true≢false h)
not-enough k (walked found blocks) h = (refl, leb-false k (length found) h)

best-spots : (k : ℕ) (w : Walk) → is_broken w ≡ false → spots (best k w) ≡ take k (by_top (spots w))
best-spots k broken e = absurd (true≢false e)
best-spots k (walked found blocks) e = refl

best-reads : (k : ℕ) (w : Walk) → blocks_read (best k w) ≡ blocks_read w
best-reads k broken = refl
best-reads k (walked found blocks) = refl

module _ (t : List ℕ) (x1 x2 : ℤ) (k : ℕ) (given : List Spot) (whole : is_broken (walk_table t (top_query x1 x2 0)) ≡ false)
    (same : Same (spots (walk_table t (top_query x1 x2 0))) given) (falls : Descends given) (few : length given ≤ k) where
  found-given : (y : ℕ) → y ≤ word → is_broken (walk_table t (top_query x1 x2 y)) ≡ false → (f : Spot → ℕ)
      → sum f (spots (walk_table t (top_query x1 x2 y))) ≡ sum (counted (of_rank y) f) given
  found-given y l above f = found-ranked t x1 x2 y l f whole above ∙ same (counted (of_rank y) f)

  many-given : (y : ℕ) → y ≤ word → is_broken (walk_table t (top_query x1 x2 y)) ≡ false → length (spots (walk_table t (top_query x1 x2 y))) ≡ sum (counted (of_rank y) one) given
  many-given y l above = sym (sum-length (spots (walk_table t (top_query x1 x2 y)))) ∙ found-given y l above one

  -- a spot given has a key of 8 bytes
  given-small : (s : Spot) → Memᴰ s given → s.key < all_keys
  given-small s i =
      let r = table-source t (top_query x1 x2 0) s (same_spot given (spots (walk_table t (top_query x1 x2 0))) (λ f. sym (same f)) i) in
      held_small t r.block r.held

  -- fewer than k are given: Top's walk is the walk at the lowest rank, since from a higher threshold it would find k
  pub lowest-walk : length given < k → top_walk t x1 x2 k ≡ walk_table t (top_query x1 x2 0)
  lowest-walk l =
      let z = threshold t x1 x2 k in
      let is = top-walk t x1 x2 k (omega arith) in
      let there : is_broken (walk_table t (top_query x1 x2 z)) ≡ false = ap is_broken (sym is) ∙ (top-counts t x1 x2 whole k).intact in
      is ∙
      ap (λ (i : ℕ). walk_table t (top_query x1 x2 i))
      (⊎_elim (λ (e : z ≡ 0). e)
      (λ (h : enough k (walk_table t (top_query x1 x2 z)) ≡ true).
      let c : ⊥ = omega (arith, enough-many k (walk_table t (top_query x1 x2 z)) h there, many-given z (threshold-le t x1 x2 k) there, at_most z given) in
      absurd c)
      (enough-there t x1 x2 k))

  -- ---- Top's walk is the walk from rank y

  module _ (y : ℕ) (inside : y ≤ word) (is : top_walk t x1 x2 k ≡ walk_table t (top_query x1 x2 y)) (ranks : (s : Spot) → Memᴰ s given → y ≤ rank_of s.key) where
    pub whole-there : is_broken (walk_table t (top_query x1 x2 y)) ≡ false
    whole-there = ap is_broken (sym is) ∙ (top-counts t x1 x2 whole k).intact

    same-there : Same (spots (walk_table t (top_query x1 x2 y))) given
    same-there f = found-given y inside whole-there f ∙ all_of y f given ranks

    sharp-there : rising (keys (spots (walk_table t (top_query x1 x2 y)))) ≡ true → Sharp (by_top (spots (walk_table t (top_query x1 x2 y))))
    sharp-there h s u i j =
        let ss = spots (walk_table t (top_query x1 x2 y)) in
        rising-sharp 0 ss h (λ x n. given-small x (same_spot ss given same-there n)) s u (by_top-from ss i) (by_top-from ss j)

    first-there : rising (keys (spots (walk_table t (top_query x1 x2 y)))) ≡ true → given ≡ take k (by_top (spots (walk_table t (top_query x1 x2 y))))
    first-there h =
        let ss = spots (walk_table t (top_query x1 x2 y)) in
        let n = same_length ss given same-there in
        descends-same given (by_top ss) falls (top-descends ss) (λ f. sym (same-there f) ∙ sym (sum-by_top f ss)) (sharp-there h) ∙
        sym (take_all k (by_top ss) (omega (arith, top-length ss, n, few)))

    source-there : (s : Spot) → Memᴰ s given → Source (store_of t) (top_query x1 x2 0) (blocks_read (walk_table t (top_query x1 x2 y))) s
    source-there s i =
        let r = table-source t (top_query x1 x2 y) s (same_spot given (spots (walk_table t (top_query x1 x2 y))) (λ f. sym (same-there f)) i) in
        record {
          wanted = and_left (wants (top_query x1 x2 0) s) (of_rank y s) (sym (wants-high x1 x2 y s) ∙ r.wanted);
          block = r.block;
          read = r.read;
          held = r.held;
          limits = r.limits;
        }

    pub done-there : Done t x1 x2 k given (blocks_read (walk_table t (top_query x1 x2 y)))
    unfolding top_table
    done-there =
        record {
          intact = (top-counts t x1 x2 whole k).intact;
          marks = λ f. ap (λ (w : Walk). sum f (blocks_read w)) is;
          reads = λ b i. subst (λ (w : Walk). Memᴰ b (blocks_read w)) is i;
          stand = λ b i. subst (λ (w : Walk). Memᴰ b (blocks_read w)) (sym is) i;
          same = λ h.
              first-there (ap (λ (w : Walk). rising (keys (spots w))) (sym is) ∙ h) ∙ ap (λ (w : Walk). take k (by_top (spots w))) (sym is) ∙
              sym (best-spots k (top_walk t x1 x2 k) (top-counts t x1 x2 whole k).intact);
          many = omega (arith, same_length (spots (walk_table t (top_query x1 x2 0))) given same, (top-counts t x1 x2 whole k).many, few);
          from = source-there;
          map = ap read_map (best-reads k (top_walk t x1 x2 k) ∙ ap blocks_read is);
        }

  -- ---- k are given

  module _ (us : List Spot) (x : Spot) (last : given ≡ us ++ (x ∷ [])) (full : length given ≡ k) where
    abbrev y : ℕ
    y = rank_of x.key

    held-last : Memᴰ x given
    held-last = subst (λ (ss : List Spot). Memᴰ x ss) (sym last) (mem-here us x [])

    pub last-low : y < word
    last-low = rank-word x.key (given-small x held-last)

    pub last-ranks : (s : Spot) → Memᴰ s given → y ≤ rank_of s.key
    last-ranks s i =
        let z = descends-last us x (subst Descends last falls) s (subst (λ (ss : List Spot). Memᴰ s ss) last i) in
        omega (arith, top-rank x.key, top-rank s.key)

    -- above the last rank fewer are found
    fewer : (z : ℕ) → y < z → sum (counted (of_rank z) one) given < k
    fewer z d =
        let f : Spot → ℕ = counted (of_rank z) one in
        omega (
          arith,
          ap (sum f) last,
          sum-append f us (x ∷ []),
          at_most z us,
          counted-no (of_rank z) one x (lt-leb z y d),
          ap length last,
          length-append us (x ∷ []),
        )

    some : 0 < k
    some = omega (arith, ap length last, length-append us (x ∷ []))

    -- the threshold isn't above the last rank: the walk there is whole, and finds too few
    not-above : threshold t x1 x2 k ≤ y
    not-above =
        let z = threshold t x1 x2 k in
        let there : is_broken (walk_table t (top_query x1 x2 z)) ≡ false = ap is_broken (sym (top-walk t x1 x2 k some)) ∙ (top-counts t x1 x2 whole k).intact in
        ⊎_elim (λ (l : z ≤ y). l)
        (λ (l : y < z).
        absurd
        (⊎_elim (λ (e : z ≡ 0). omega arith)
        (λ (h : enough k (walk_table t (top_query x1 x2 z)) ≡ true). omega (arith, enough-many k (walk_table t (top_query x1 x2 z)) h there, many-given z (threshold-le t x1 x2 k) there, fewer z l))
        (enough-there t x1 x2 k)))
        (less-or-not z y)

    -- nor under it: from there on k are found
    not-under : y ≤ threshold t x1 x2 k
    not-under =
        let z = threshold t x1 x2 k in
        ⊎_elim (λ (l : y ≤ z). l)
        (λ (l : z < y).
        let r = not-enough k (walk_table t (top_query x1 x2 y)) (none_above t x1 x2 k y l last-low) in
        let low = last-low in
        let c : ⊥ = omega (arith, r.1, many-given y (omega arith) r.0, all_of y one given last-ranks, sum-length given, full) in
        absurd c)
        (less-or-not y z)

    pub last-walk : top_walk t x1 x2 k ≡ walk_table t (top_query x1 x2 y)
    last-walk =
        let a = not-above in
        let b = not-under in
        let e : threshold t x1 x2 k ≡ y = omega arith in
        top-walk t x1 x2 k some ∙ ap (λ (z : ℕ). walk_table t (top_query x1 x2 z)) e
