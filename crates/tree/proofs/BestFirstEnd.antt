-- The threshold of Top, and the walks at least ranks that no unread part promises: each is whole, and finds and reads what the parts read that promise as much
-- hold.
-- Assumes nothing.
use mathlib.Core.Path.{◌≡◌, refl, ap, sym, subst, ◌∙◌}
use mathlib.Core.Logic.{◌⊎◌, ⊎_elim}
use mathlib.Core.Bool.{true, false, true≢false}
use mathlib.Core.List.Memᴰ
use mathlib.Core.List.{List, [], ◌∷◌, ◌++◌, Memᴰ}
use Prim.Native.Nat.{ℕ, zero, suc, ◌+◌, ◌≤◌, ◌<◌}
use native.Mathlib.Omega.{arith}
use lib.IntN.{ℤ}
use lib.ListN.{length, length-append}
use borrow.Author.Tests.{le-leb, lt-leb}
use Rattle.octets.proofs.Lists.{mem-here}
use Rattle.octets.proofs.Order.{less-or-not}
use Rattle.octets.proofs.Tests.{all-at, keep-mem}
use Rattle.octets.proofs.UpTo.{largest-hit, largest-le, largest-above}
use Rattle.spot.specs.declared.Spot.{Spot}
use Rattle.spot.specs.Keys.{word, all_keys, rank_of, limited}
use Rattle.spot.specs.Query.{top_query}
use Rattle.spot.proofs.Ranks.{tk, of_rank}
use Rattle.block.specs.Node.{Store, store_of}
use Rattle.block.specs.NodeRules.{node_ok}
use Rattle.tree.specs.Part.{Part}
use Rattle.tree.specs.Walk.{spots, takes, takes_key, finds, walk_table}
use Rattle.tree.specs.Top.{enough, threshold, top_walk}
use Rattle.tree.specs.BestFirst.{Pending, promised, shown}
use Rattle.tree.proofs.Sources.{Source, held-limited}
use Rattle.tree.proofs.BestFirstSums.{sum, counted, one, counted-yes, counted-no, counted-le, sum_same, sum-le, sum-none, sum-length, mark, distinct-marks}
use Rattle.tree.proofs.BestFirstSpots.{spot_mark, spot-from, Descends}
use Rattle.tree.proofs.BestFirstTree.{weighs, at_node, on_block, on_spots, fault_at, fault, no_digit, root_of, Whole, walk-whole}
use Rattle.tree.proofs.BestFirstParts.{due, finds-rank, held_small}
use Rattle.tree.proofs.BestFirstSteps.{NoneRanks, numbers, Progress}

-- ---- the threshold

module _ (t : List ℕ) (x1 x2 : ℤ) (k : ℕ) where
  -- the threshold is sought among the ranks, and is past them where none finds k
  pub threshold-le : threshold t x1 x2 k ≤ word
  unfolding threshold
  threshold-le = largest-le (λ y. enough k (walk_table t (top_query x1 x2 y))) word

  threshold-hit : (threshold t x1 x2 k ≡ 0) ⊎ (enough k (walk_table t (top_query x1 x2 (threshold t x1 x2 k))) ≡ true)
  unfolding threshold
  threshold-hit = largest-hit (λ y. enough k (walk_table t (top_query x1 x2 y))) word

  threshold-above : (y : ℕ) → threshold t x1 x2 k < y → y < word → enough k (walk_table t (top_query x1 x2 y)) ≡ false
  unfolding threshold
  threshold-above y = largest-above (λ y. enough k (walk_table t (top_query x1 x2 y))) word y

  -- for k above 0 the walk of Top is the walk at its threshold, by definition
  pub top-walk : 0 < k → top_walk t x1 x2 k ≡ walk_table t (top_query x1 x2 (threshold t x1 x2 k))
  unfolding top_walk
  top-walk h = go k h refl
    where
      go : (n : ℕ) → 0 < n → n ≡ k → top_walk t x1 x2 n ≡ walk_table t (top_query x1 x2 (threshold t x1 x2 n))
      go zero l e = let z : ⊥ = omega arith in absurd z
      go (suc n) l e = refl

  -- above r no walk finds enough, so the threshold is not above r
  pub threshold-under : (r : ℕ) → ((y : ℕ) → y ≤ word → r < y → enough k (walk_table t (top_query x1 x2 y)) ≡ false) → threshold t x1 x2 k ≤ r
  threshold-under r h =
      ⊎_elim (λ (l : threshold t x1 x2 k ≤ r). l)
      (λ (l : r < threshold t x1 x2 k).
      absurd
      (⊎_elim (λ (e : threshold t x1 x2 k ≡ 0). omega arith) (λ e. true≢false (sym e ∙ h (threshold t x1 x2 k) threshold-le l)) threshold-hit))
      (less-or-not (threshold t x1 x2 k) r)

  -- it is y where no walk above y finds enough, and the one at y does
  pub threshold-is : (y : ℕ) → y < word → ((z : ℕ) → z ≤ word → y < z → enough k (walk_table t (top_query x1 x2 z)) ≡ false)
      → enough k (walk_table t (top_query x1 x2 y)) ≡ true
      → threshold t x1 x2 k ≡ y
  threshold-is y l none here =
      let a = threshold-under y none in
      ⊎_elim (λ (b : y ≤ threshold t x1 x2 k). omega arith) (λ (b : threshold t x1 x2 k < y). absurd (true≢false (sym here ∙ threshold-above y b l)))
      (less-or-not y (threshold t x1 x2 k))

-- ---- lists of parts

sum-numbers : (f : ℕ → ℕ) (rs : List Pending) → sum f (numbers rs) ≡ sum (λ r. f r.part.block) rs
sum-numbers f [] = refl
sum-numbers f (r ∷ rs) = omega (arith, sum-numbers f rs)

-- a block among the numbers of some parts is the block of one of them
pub numbers-mem : (rs : List Pending) {b : ℕ} → Memᴰ b (numbers rs) → (r : Pending) × Memᴰ r rs × (b ≡ r.part.block)
numbers-mem [] i = absurd (Memᴰ.not-nil i)
numbers-mem (r ∷ rs) i =
    ⊎_elim (λ e. (r, Memᴰ.head refl, e)) (λ j. let z = numbers-mem rs j in (z.0, Memᴰ.tail z.1, z.2)) (Memᴰ.cases_cons i)

numbers-in : (rs : List Pending) {r : Pending} → Memᴰ r rs → Memᴰ r.part.block (numbers rs)
numbers-in [] i = absurd (Memᴰ.not-nil i)
numbers-in (x ∷ xs) i =
    ⊎_elim (λ e. Memᴰ.head (ap (λ (u : Pending). u.part.block) e)) (λ j. Memᴰ.tail (numbers-in xs j)) (Memᴰ.cases_cons i)

-- a part without fault has a node
at-node : (m : Store) (u : Pending) → fault m u ≡ 0 → (x : ℕ) → at_node u.levels x ≡ x
at-node m u h x = go u.levels h
  where
    go : (n : ℕ) → fault_at n m u.part ≡ 0 → at_node n x ≡ x
    go zero e = let z : ⊥ = omega arith in absurd z
    go (suc n) e = refl

-- its spots have places inside the limits
fine-limited : (n : ℕ) (m : Store) (p : Part) → fault_at n m p ≡ 0 → {s : Spot} → Memᴰ s ((m p.block).points ++ (m p.block).inserts) → limited s.key ≡ true
fine-limited zero m p e i = let z : ⊥ = omega arith in absurd z
fine-limited (suc l) m p e i = held-limited l p.asked (m p.block) (no_digit (node_ok l p.asked (m p.block)) e) i

-- a part with a level left counts
pub at_some : (n x : ℕ) → 1 ≤ n → at_node n x ≡ x
at_some zero x h = let z : ⊥ = omega arith in absurd z
at_some (suc n) x h = refl

-- of spots of no higher rank than r, none is counted from z on
pub none_of : (r z : ℕ) (ss : List Spot) → NoneRanks r ss → r < z → sum (counted (of_rank z) one) ss ≡ 0
none_of r z ss h l = sum-none (counted (of_rank z) one) ss (λ s i. counted-no (of_rank z) one s (lt-leb z (rank_of s.key) (let a = h s i in omega arith)))

-- of spots of rank y and above, all are counted
pub all_of : (y : ℕ) (f : Spot → ℕ) (ss : List Spot) → ((s : Spot) → Memᴰ s ss → y ≤ rank_of s.key) → sum (counted (of_rank y) f) ss ≡ sum f ss
all_of y f ss h = sum_same (counted (of_rank y) f) f ss (λ s i. counted-yes (of_rank y) f s (le-leb y (rank_of s.key) (h s i)))

-- those of a rank are no more than all
pub at_most : (y : ℕ) (ss : List Spot) → sum (counted (of_rank y) one) ss ≤ length ss
at_most y ss = omega (arith, sum-le (counted (of_rank y) one) one ss (λ s i. counted-le (of_rank y) one s), sum-length ss)

-- the last of a list that descends is no higher than the others
pub descends-last : (xs : List Spot) (s : Spot) → Descends (xs ++ (s ∷ [])) → (x : Spot) → Memᴰ x (xs ++ (s ∷ [])) → tk s ≤ tk x
descends-last [] s d x i = ⊎_elim (λ (e : x ≡ s). omega (arith, ap tk e)) (λ j. absurd (Memᴰ.not-nil j)) (Memᴰ.cases_cons i)
descends-last (y ∷ ys) s d x i =
    ⊎_elim (λ (e : x ≡ y). let z = d.0 s (mem-here ys s []) in omega (arith, ap tk e)) (λ j. descends-last ys s d.1 x j) (Memᴰ.cases_cons i)

-- ---- the walks at least ranks that no unread part promises

module _ (t : List ℕ) (x1 x2 : ℤ) (k : ℕ) (unread : List Pending) (found given : List Spot) (blocks : List ℕ) (g : Progress t x1 x2 k unread found given blocks) where
  abbrev pub Closed : ℕ → Type 0
  Closed y = (u : Pending) → Memᴰ u unread → promised u < y

  -- k isn't 0
  pub some : 0 < k
  some =
      ⊎_elim
      (λ (h : k ≤ length given).
      let r = g.last h in
      omega (arith, g.few, ap length r.is, length-append r.before (r.spot ∷ [])))
      (λ (h : length given < k). omega arith)
      (less-or-not k (length given))

  -- where a spot that is found or given stands
  comes : (s : Spot) → Memᴰ s found ⊎ Memᴰ s given → (r : Pending) × Memᴰ r g.read × Memᴰ s (shown (store_of t) (top_query x1 x2 0) r)
  comes s =
      ⊎_elim (λ i. spot-from s found (shown (store_of t) (top_query x1 x2 0)) g.read i (omega (arith, g.spots (spot_mark s))))
      (λ i. spot-from s given (shown (store_of t) (top_query x1 x2 0)) g.read i (omega (arith, g.spots (spot_mark s))))

  -- a spot that is found or given was shown by a node that was read
  pub source : (s : Spot) → Memᴰ s found ⊎ Memᴰ s given → Source (store_of t) (top_query x1 x2 0) blocks s
  unfolding finds takes_key
  source s i =
      let r = comes s i in
      let n = store_of t r.0.part.block in
      let h = keep-mem (takes (top_query x1 x2 0) r.0.named) (n.points ++ n.inserts) r.2 in
      record {
        wanted = all-at _ h.1 0;
        block = r.0.part.block;
        read = subst (λ (bs : List ℕ). Memᴰ r.0.part.block bs) (sym g.stand) (numbers-in g.read r.1);
        held = h.0;
        limits = fine-limited r.0.levels (store_of t) r.0.part (g.fine r.0 r.1) h.0;
      }

  -- .. so its key is one of 8 bytes
  pub small : (s : Spot) → Memᴰ s found ⊎ Memᴰ s given → s.key < all_keys
  small s i = let r = source s i in held_small t r.block r.held

  module _ (y : ℕ) (inside : y ≤ word) (closed : Closed y) where
    pub sums : (w : Pending → ℕ) → weighs w (store_of t) (top_query x1 x2 y) (root_of t) ≡ sum (counted (due y) w) g.read
    sums w =
        let f = weighs w (store_of t) (top_query x1 x2 y) in
        omega (
          arith,
          g.tree y inside w,
          sum-none (counted (due y) f) unread (λ u i. counted-no (due y) f u (lt-leb y (promised u) (closed u i))),
        )

    faultless : weighs (fault (store_of t)) (store_of t) (top_query x1 x2 y) (root_of t) ≡ 0
    faultless =
        let f = fault (store_of t) in
        sums f ∙ sum-none (counted (due y) f) g.read (λ r i. omega (arith, counted-le (due y) f r, g.fine r i))

    -- the blocks of all parts read
    pub every-block : (f : ℕ → ℕ) → sum (on_block f) g.read ≡ sum f blocks
    every-block f =
        sum_same (on_block f) (λ r. f r.part.block) g.read (λ r i. at-node (store_of t) r (g.fine r i) (f r.part.block)) ∙
        sym (sum-numbers f g.read) ∙
        ap (sum f) (sym g.stand)

    pub whole-at : Whole t (top_query x1 x2 y)
    whole-at =
        walk-whole t (top_query x1 x2 y) g.head faultless
        (λ b.
        let f = on_block (mark b) in
        omega (
          arith,
          sums f,
          sum-le (counted (due y) f) f g.read (λ r i. counted-le (due y) f r),
          every-block (mark b),
          distinct-marks blocks g.once b,
        ))

    -- a part read: of its spots, the walk finds those of rank y
    part-spots : (f : Spot → ℕ) (r : Pending) → Memᴰ r g.read
        → counted (due y) (on_spots f (store_of t) (top_query x1 x2 y)) r ≡ sum (counted (of_rank y) f) (shown (store_of t) (top_query x1 x2 0) r)
    part-spots f r i =
        let m = store_of t in
        let own = on_spots f m (top_query x1 x2 y) in
        ⊎_elim
        (λ (d : y ≤ promised r).
        counted-yes (due y) own r (le-leb y (promised r) d) ∙ at-node m r (g.fine r i) _ ∙ finds-rank x1 x2 y f r.named (m r.part.block))
        (λ (d : promised r < y).
        counted-no (due y) own r (lt-leb y (promised r) d) ∙
        sym
        (sum-none (counted (of_rank y) f) (shown m (top_query x1 x2 0) r)
        (λ s j. counted-no (of_rank y) f s (lt-leb y (rank_of s.key) (let z = g.high r i s j in omega arith)))))
        (less-or-not y (promised r))

    pub spots-at : (f : Spot → ℕ) → sum f whole-at.found ≡ sum (counted (of_rank y) f) found + sum (counted (of_rank y) f) given
    spots-at f =
        whole-at.finds f ∙ sums (on_spots f (store_of t) (top_query x1 x2 y)) ∙ sum_same _ _ g.read (part-spots f) ∙
        sym (g.spots (counted (of_rank y) f))

    many-at : length whole-at.found ≡ sum (counted (of_rank y) one) found + sum (counted (of_rank y) one) given
    many-at = sym (sum-length whole-at.found) ∙ spots-at one

    -- too few are found
    pub few-at : sum (counted (of_rank y) one) found ≡ 0 → sum (counted (of_rank y) one) given < k → enough k (walk_table t (top_query x1 x2 y)) ≡ false
    few-at a b = ap (enough k) whole-at.is ∙ lt-leb k (length whole-at.found) (omega (arith, many-at))

    -- and here enough
    pub enough-at : k ≤ sum (counted (of_rank y) one) given → enough k (walk_table t (top_query x1 x2 y)) ≡ true
    enough-at a = ap (enough k) whole-at.is ∙ le-leb k (length whole-at.found) (omega (arith, many-at))
