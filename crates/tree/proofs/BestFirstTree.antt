-- A walk by its sums: what it sums up over the nodes that it reads says whether it is whole, which blocks it reads and which spots it finds.
-- Assumes nothing.
use mathlib.Core.Path.{◌≡◌, refl, ap, sym, ◌∙◌}
use mathlib.Core.Bool.{Bool, true, false, cond, not, ◌&&◌, false≢true}
use mathlib.Core.List.{List, [], ◌∷◌, ◌++◌}
use Prim.Native.Nat.{ℕ, zero, suc, ◌+◌, ◌≤◌, ◌<◌}
use native.Mathlib.Omega.{arith}
use lib.ListN.{length}
use Rattle.octets.specs.Lists.{every, distinct}
use Rattle.octets.specs.Bitmap.{digit}
use Rattle.octets.proofs.Tests.{and_left, and_right, and_both, refuted, every-mem, every-make}
use Rattle.spot.specs.Spots.{put_all}
use Rattle.spot.specs.declared.Spot.{Spot}
use Rattle.spot.specs.declared.Query.{Query}
use Rattle.block.specs.Header.{head_of}
use Rattle.block.specs.HeaderRules.{header_ok}
use Rattle.block.specs.Node.{Store, store_of}
use Rattle.block.specs.NodeRules.{names, node_ok}
use Rattle.tree.specs.Part.{Part, whole}
use Rattle.tree.specs.Reach.{gather}
use Rattle.tree.specs.Walk.{Walk, broken, walked, finds, walk_table}
use Rattle.tree.specs.Trace.{admitted, obeys, visits, pour, gains}
use Rattle.tree.specs.BestFirst.{Pending, known}
use Rattle.tree.proofs.Onto.{onto}
use Rattle.tree.proofs.Traces.{table-trace}
use Rattle.tree.proofs.BestFirstSums.{sum, sum-append, sum_same, sum-none, sum-mem, mark, distinct-marks, marks-distinct}
use Rattle.tree.proofs.BestFirstSpots.{sum-put_all}

-- ---- the sum over a walk

abbrev pub pending : ℕ → List ℕ → Part → Pending
pending l named c = record { levels = l; named = named; part = c }

-- the sum of w over the nodes that the walk of a part reads, and the parts at which its levels end
unfoldable pub weigh : ℕ → (Pending → ℕ) → Store → Query → List ℕ → Part → ℕ
weigh zero w m q named p = w (pending zero named p)
weigh (suc l) w m q named p = w (pending (suc l) named p) + sum (weigh l w m q (names (m p.block) ++ named)) (admitted q m p)

abbrev pub weighs : (Pending → ℕ) → Store → Query → Pending → ℕ
weighs w m q u = weigh u.levels w m q u.named u.part

-- a sum over parts that become known, all with the same nodes above
pub sum-known : (f : Pending → ℕ) (named : List ℕ) (l : ℕ) (cs : List Part) → sum f (known named l cs) ≡ sum (λ c. f (pending l named c)) cs
sum-known f named l [] = refl
sum-known f named l (c ∷ cs) = omega (arith, sum-known f named l cs)

-- a part known of is made of its three fields
pending-is : (u : Pending) (l : ℕ) → u.levels ≡ l → pending l u.named u.part ≡ u
pending-is u l e = λ i. record { levels = sym e i; named = u.named; part = u.part }

-- a node with its children
pub weigh-step : (w : Pending → ℕ) (m : Store) (q : Query) (u : Pending) (l : ℕ) → u.levels ≡ suc l
    → weighs w m q u ≡ w u + sum (weighs w m q) (known (names (m u.part.block) ++ u.named) l (admitted q m u.part))
unfolding weigh
weigh-step w m q u l e =
    ap (λ (n : ℕ). weigh n w m q u.named u.part) e ∙
    omega (arith, ap w (pending-is u (suc l) e), sum-known (weighs w m q) (names (m u.part.block) ++ u.named) l (admitted q m u.part))

-- a node itself
pub weigh-first : (w : Pending → ℕ) (m : Store) (q : Query) (u : Pending) → w u ≤ weighs w m q u
unfolding weigh
weigh-first w m q u = go u.levels refl
  where
    go : (n : ℕ) → u.levels ≡ n → w u ≤ weigh u.levels w m q u.named u.part
    go zero e = let h = ap (λ (n : ℕ). weigh n w m q u.named u.part) e in omega (arith, ap w (pending-is u zero e))
    go (suc l) e = omega (arith, weigh-step w m q u l e)

-- ---- blocks

-- x at a node, and nothing where the levels end
abbrev pub at_node : ℕ → ℕ → ℕ
at_node zero x = 0
at_node (suc l) x = x

abbrev pub on_block : (ℕ → ℕ) → Pending → ℕ
on_block g u = at_node u.levels (g u.part.block)

sum-gather : (g : ℕ → ℕ) (v : Part → List ℕ) (ps : List Part) → sum g (gather v ps) ≡ sum (λ p. sum g (v p)) ps
sum-gather g v [] = refl
sum-gather g v (p ∷ ps) = omega (arith, sum-append g (v p) (gather v ps), sum-gather g v ps)

visits-weigh : (g : ℕ → ℕ) (l : ℕ) (m : Store) (q : Query) (named : List ℕ) (p : Part) → sum g (visits l m q p) ≡ weigh l (on_block g) m q named p
unfolding visits weigh
visits-weigh g zero m q named p = refl
visits-weigh g (suc l) m q named p =
    ap (λ (n : ℕ). g p.block + n)
    (sum-gather g (visits l m q) (admitted q m p) ∙
    sum_same (λ c. sum g (visits l m q c)) (weigh l (on_block g) m q (names (m p.block) ++ named)) (admitted q m p)
    (λ c i. visits-weigh g l m q (names (m p.block) ++ named) c))

-- ---- faults

-- 1 at a node that breaks the rules, or where the levels end
abbrev pub fault_at : ℕ → Store → Part → ℕ
fault_at zero m p = 1
fault_at (suc l) m p = digit (not (node_ok l p.asked (m p.block)))

abbrev pub fault : Store → Pending → ℕ
fault m u = fault_at u.levels m u.part

pub no_digit : (b : Bool) → digit (not b) ≡ 0 → b ≡ true
no_digit true e = refl
no_digit false e = let z : ⊥ = omega arith in absurd z

weigh-obeys : (l : ℕ) (m : Store) (q : Query) (named : List ℕ) (p : Part) → weigh l (fault m) m q named p ≡ 0 → obeys l m q p ≡ true
unfolding weigh obeys
weigh-obeys zero m q named p h = let z : ⊥ = omega arith in absurd z
weigh-obeys (suc l) m q named p h =
    let deeper = weigh l (fault m) m q (names (m p.block) ++ named) in
    and_both (node_ok l p.asked (m p.block)) (every (obeys l m q) (admitted q m p)) (no_digit (node_ok l p.asked (m p.block)) (omega arith))
    (every-make (obeys l m q) (admitted q m p) (λ c i. weigh-obeys l m q (names (m p.block) ++ named) c (omega (arith, sum-mem deeper (admitted q m p) i))))

obeys-weigh : (l : ℕ) (m : Store) (q : Query) (named : List ℕ) (p : Part) → obeys l m q p ≡ true → weigh l (fault m) m q named p ≡ 0
unfolding weigh obeys
obeys-weigh zero m q named p h = absurd (false≢true h)
obeys-weigh (suc l) m q named p h =
    let n = node_ok l p.asked (m p.block) in
    let rest = every (obeys l m q) (admitted q m p) in
    let own : digit (not n) ≡ 0 = ap (λ (b : Bool). digit (not b)) (and_left n rest h) in
    let below = sum-none (weigh l (fault m) m q (names (m p.block) ++ named)) (admitted q m p)
    (λ c i. obeys-weigh l m q (names (m p.block) ++ named) c (every-mem (obeys l m q) (admitted q m p) (and_right n rest h) i)) in
    omega arith

-- ---- spots

abbrev pub on_spots : (Spot → ℕ) → Store → Query → Pending → ℕ
on_spots g m q u = at_node u.levels (sum g (finds q u.named (m u.part.block)))

sum-pour : (g : Spot → ℕ) (h : Part → List Spot → List Spot) (f : Part → ℕ)
    → ((p : Part) (found : List Spot) → sum g (h p found) ≡ sum g found + f p)
    → (ps : List Part) (found : List Spot) → sum g (pour h ps found) ≡ sum g found + sum f ps
sum-pour g h f e [] found = omega arith
sum-pour g h f e (p ∷ ps) found = omega (arith, sum-pour g h f e ps (h p found), e p found)

gains-weigh : (g : Spot → ℕ) (l : ℕ) (m : Store) (q : Query) (named : List ℕ) (p : Part) (found : List Spot)
    → sum g (gains l m q named p found) ≡ sum g found + weigh l (on_spots g m q) m q named p
unfolding gains weigh
gains-weigh g zero m q named p found = omega arith
gains-weigh g (suc l) m q named p found =
    let deeper = names (m p.block) ++ named in
    let own = finds q named (m p.block) in
    omega (
      arith,
      sum-pour g (gains l m q deeper) (weigh l (on_spots g m q) m q deeper) (λ c ss. gains-weigh g l m q deeper c ss) (admitted q m p) (put_all own found),
      sum-put_all g own found,
    )

-- ---- the walk of a table

abbrev pub root_of : List ℕ → Pending
root_of t = pending (head_of t).levels [] (whole (head_of t))

-- a walk that is whole, with its sums
pub record Whole (t : List ℕ) (q : Query) : Type 0 where
  pub found : List Spot
  pub blocks : List ℕ
  pub is : walk_table t q ≡ walked found blocks
  pub finds : (g : Spot → ℕ) → sum g found ≡ weighs (on_spots g (store_of t) q) (store_of t) q (root_of t)
  pub reads : (g : ℕ → ℕ) → sum g blocks ≡ weighs (on_block g) (store_of t) q (root_of t)

sum-onto : (g : ℕ → ℕ) (xs acc : List ℕ) → sum g (onto xs acc) ≡ sum g xs + sum g acc
sum-onto g [] acc = omega arith
sum-onto g (x ∷ xs) acc = omega (arith, sum-onto g xs (x ∷ acc))

not-and : (a b c : Bool) (w : Walk) → b ≡ false → cond (a && (b && c)) w broken ≡ broken
not-and true b c w e = rw e
not-and false b c w e = refl

not_last : (a b c : Bool) (w : Walk) → c ≡ false → cond (a && (b && c)) w broken ≡ broken
not_last true true c w e = rw e
not_last true false c w e = refl
not_last false b c w e = refl

module _ (t : List ℕ) (q : Query) where
  -- a walk without a fault that reads no block twice is whole, and its spots and blocks have the sums of its nodes
  pub walk-whole : header_ok (length t) (head_of t) ≡ true → weighs (fault (store_of t)) (store_of t) q (root_of t) ≡ 0
      → ((b : ℕ) → weighs (on_block (mark b)) (store_of t) q (root_of t) ≤ 1)
      → Whole t q
  walk-whole h f d =
      let L = (head_of t).levels in
      let m = store_of t in
      let W = whole (head_of t) in
      let v = visits L m q W in
      record {
        found = gains L m q [] W [];
        blocks = onto v [];
        is =
            table-trace t q ∙
            rw (h, weigh-obeys L m q [] W f, marks-distinct v (λ b. omega (arith, d b, visits-weigh (mark b) L m q [] W)));
        finds = λ g. gains-weigh g L m q [] W [] ∙ omega arith;
        reads = λ g. sum-onto g v [] ∙ omega (arith, visits-weigh g L m q [] W);
      }

  -- a node that breaks a rule
  pub walk-faulty : 0 < weighs (fault (store_of t)) (store_of t) q (root_of t) → walk_table t q ≡ broken
  walk-faulty f =
      let L = (head_of t).levels in
      let m = store_of t in
      let W = whole (head_of t) in
      table-trace t q ∙
      not-and (header_ok (length t) (head_of t)) (obeys L m q W) _ _
      (refuted (obeys L m q W) (λ o. let z : ⊥ = omega (arith, obeys-weigh L m q [] W o) in z))

  -- a block that is read twice
  pub walk-twice : (b : ℕ) → 1 < weighs (on_block (mark b)) (store_of t) q (root_of t) → walk_table t q ≡ broken
  walk-twice b f =
      let L = (head_of t).levels in
      let m = store_of t in
      let W = whole (head_of t) in
      let v = visits L m q W in
      table-trace t q ∙
      not_last (header_ok (length t) (head_of t)) (obeys L m q W) (distinct v) _
      (refuted (distinct v) (λ o. let z : ⊥ = omega (arith, distinct-marks v o b, visits-weigh (mark b) L m q [] W) in z))
