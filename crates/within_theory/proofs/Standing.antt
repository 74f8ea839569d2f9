-- Where a reading stands on a sound table, for a k above 0: it is whole, and what is given and held back is a Top on its way. Each read keeps that, adds a block,
-- and raises neither the edge nor the ceiling.
-- Assumes nothing.
use mathlib.Core.Path.{◌≡◌, refl, ap, sym, subst, ◌∙◌}
use mathlib.Core.Logic.{inl, ⊎_elim}
use mathlib.Core.Bool.{Bool, true, false, not, true≢false}
use mathlib.Core.List.Memᴰ
use mathlib.Core.List.{List, [], ◌∷◌, ◌++◌, Memᴰ}
use Prim.Native.Nat.{ℕ, zero, suc, ◌-◌, ◌≤◌, ◌<◌}
use native.Mathlib.Omega.{arith}
use lib.Dec.{eqb}
use lib.IntN.{ℤ}
use lib.ListN.{length, take, drop, take-append-drop, length-append}
use lib.Seq.{take-take}
use borrow.Author.Tests.{le-leb, leb-false, eqb-true}
use Rattle.octets.specs.Lists.{has, keep}
use Rattle.octets.proofs.Lists.{mem-drop}
use Rattle.octets.proofs.Tests.{and_right, refuted, neither}
use Rattle.spot.specs.Keys.{rank_of}
use Rattle.spot.specs.Spots.{by_top}
use Rattle.spot.specs.Query.{top_query}
use Rattle.spot.specs.declared.Spot.{Spot}
use Rattle.spot.proofs.TopKeys.{top-rank}
use Rattle.spot.proofs.Ranks.{tk, of_rank}
use Rattle.block.specs.Node.{store_of}
use Rattle.block.specs.NodeRules.{node_ok}
use Rattle.tree.specs.Sound.{sound}
use Rattle.tree.specs.BestFirst.{Pending, promised, opened, shown, NoneAbove}
use Rattle.tree.proofs.Tables.{sound-header}
use Rattle.tree.proofs.BestFirstSums.{sum, sum-append, counted-yes, mark, mark-self, Reordered}
use Rattle.tree.proofs.BestFirstSpots.{same_spot, Descends}
use Rattle.tree.proofs.BestFirstTree.{weighs, weigh-first, on_block}
use Rattle.tree.proofs.BestFirstParts.{due, rank-word, opened-under, shown-under}
use Rattle.tree.proofs.BestFirstSteps.{NoneRanks}
use Rattle.tree.proofs.BestFirstEnd.{at_some, small}
use Rattle.tree.proofs.BestFirst.{Progress, start, read-part, reorder, broken-node, broken-twice}
use Rattle.within_theory.specs.Reading.{Reading, line_up_all, ties, obeys_at, readable, read_first, certain, given_of, held_back, stopped, begun, reading, shows_rank, ceiling_of}
use Rattle.within_theory.proofs.Lines.{Lined, line_up_all-from, line_up_all-lined, lined-up, lined-most}
use Rattle.within_theory.proofs.Readings.{held-sums, reading-stays-once, reading-goes-on}
use Rattle.within_theory.proofs.Edges.{edge, edge-over, edge-under, shows-under, shows-over, certain-edge, certain-high, certain-descends, ceiling-part, ceiling-held, ceiling-le, given-certain, given-many, given-all, held-cases, held_low}
use Rattle.within_theory.proofs.Soundly.{once-only, top-whole, opened-small}
use Rattle.within_theory.proofs.Giving.{Cut, descends-cut, give_all, none_kept, ranks-first}

-- a reading by its parts
abbrev made : Bool → List Pending → List Spot → List ℕ → Reading
made w us found blocks = record { whole = w; unread = us; found = found; blocks = blocks }

pub record Stands (t : List ℕ) (x1 x2 : ℤ) (k : ℕ) (r : Reading) : Type 0 where
  pub whole : r.whole ≡ true
  pub line : Lined r.unread
  pub progress : Progress t x1 x2 k r.unread (held_back k r) (given_of k r) r.blocks

-- one read after another
pub record Next (t : List ℕ) (x1 x2 : ℤ) (k : ℕ) (r after : Reading) : Type 0 where
  pub stands : Stands t x1 x2 k after
  pub more : length after.blocks ≡ suc (length r.blocks)
  pub edges : edge after.unread ≤ edge r.unread
  pub ceiling : ceiling_of k after ≤ ceiling_of k r

certainly : (b : Bool) → (b ≡ false → ⊥) → b ≡ true
certainly true n = refl
certainly false n = absurd (n refl)

-- block 0 is read
pub stands-begun : (t : List ℕ) → sound t ≡ true → (x1 x2 : ℤ) (j : ℕ) → Stands t x1 x2 (suc j) (begun t)
unfolding begun certain given_of held_back
stands-begun t s x1 x2 j =
    record { whole = sound-header t s; line = (λ u i. absurd (Memᴰ.not-nil i), tt); progress = start t x1 x2 j (sound-header t s) }

begins-so : (t : List ℕ) → sound t ≡ true → (x1 x2 : ℤ) (j : ℕ) → Stands t x1 x2 (suc j) (reading t x1 x2 (suc j) 0)
unfolding reading
begins-so t s x1 x2 j = stands-begun t s x1 x2 j

module _ (t : List ℕ) (s : sound t ≡ true) (x1 x2 : ℤ) (k : ℕ) where
  -- two parts of one block are not both unread: a walk at the lowest rank would read the block twice
  untied : (p : Pending) (ps : List Pending) (found given : List Spot) (blocks : List ℕ) → Progress t x1 x2 k (p ∷ ps) found given blocks → ties p ps ≡ false
  untied p [] found given blocks g = refl
  untied p (r ∷ rs) found given blocks g =
      refuted (ties p (r ∷ rs))
      (λ h.
      let q = top_query x1 x2 0 in
      let b = p.part.block in
      let w = on_block (mark b) in
      let f = weighs w (store_of t) q in
      let same : b ≡ r.part.block =
      eqb-true b r.part.block (and_right (eqb (promised p) (promised r)) (eqb b r.part.block) h) in
      let z : ⊥ = omega (
        arith,
        g.tree 0 (omega arith) w,
        once-only t s q b,
        counted-yes (due 0) f p (le-leb 0 (promised p) (omega arith)),
        counted-yes (due 0) f r (le-leb 0 (promised r) (omega arith)),
        weigh-first w (store_of t) q p,
        weigh-first w (store_of t) q r,
        at_some p.levels (mark b b) (g.fit p (Memᴰ.head refl)).some,
        at_some r.levels (mark b r.part.block) (g.fit r (Memᴰ.tail (Memᴰ.head refl))).some,
        mark-self b b refl,
        mark-self b r.part.block same,
      ) in
      z)

  -- the first in line is read
  module _ (w : Bool) (p : Pending) (ps : List Pending) (found : List Spot) (blocks : List ℕ)
      (st : Stands t x1 x2 k (made w (p ∷ ps) found blocks)) (few : length (certain (made w (p ∷ ps) found blocks)) < k) where
    abbrev now : Reading
    now = made w (p ∷ ps) found blocks

    abbrev l : ℕ
    l = p.levels - 1

    abbrev kids : List Pending
    kids = opened (store_of t) (top_query x1 x2 0) l p

    abbrev own : List Spot
    own = shown (store_of t) (top_query x1 x2 0) p

    abbrev after : Reading
    after = record { whole = w; unread = line_up_all kids ps; found = own ++ found; blocks = p.part.block ∷ blocks }

    room : length (given_of k now) < k
    room = omega (arith, given-many now k)

    -- no other part promises more, and no spot held back has a higher rank
    last-edge : edge (p ∷ ps) ≤ suc (promised p)
    last-edge =
        edge-under (suc (promised p)) (p ∷ ps)
        (λ u i. ⊎_elim (λ (e : u ≡ p). omega (arith, ap promised e)) (λ j. let z = lined-most p ps st.line u j in omega arith) (Memᴰ.cases_cons i))

    low : NoneRanks (promised p) (held_back k now)
    low x i = let z = held_low now k (omega arith) x i in omega (arith, last-edge)

    deep : p.levels ≡ suc l
    deep = let z = (st.progress.fit p (Memᴰ.head refl)).some in omega arith

    -- it can be read, as Top's walk is whole
    ok : node_ok l p.part.asked (store_of t p.part.block) ≡ true
    ok =
        certainly (node_ok l p.part.asked (store_of t p.part.block))
        (λ e. top-whole t s x1 x2 k (broken-node t x1 x2 k [] p ps (held_back k now) (given_of k now) blocks st.progress (lined-most p ps st.line) low room l deep e))

    new : has p.part.block blocks ≡ false
    new =
        refuted (has p.part.block blocks)
        (λ e. top-whole t s x1 x2 k (broken-twice t x1 x2 k [] p ps (held_back k now) (given_of k now) blocks st.progress (lined-most p ps st.line) low room e))

    can-read : readable (store_of t) p ps blocks ≡ true
    unfolding readable
    can-read =
        let fine : obeys_at p.levels (store_of t) p.part ≡ true = ap (λ (n : ℕ). obeys_at n (store_of t) p.part) deep ∙ ok in
        rw (fine, new, untied p ps (held_back k now) (given_of k now) blocks st.progress)

    reads_first : read_first (store_of t) (top_query x1 x2 0) (p ∷ ps) now ≡ after
    reads_first = rw can-read

    -- what becomes known and what is found is not above it
    under : (u : Pending) → Memᴰ u kids → promised u ≤ promised p
    under = opened-under t (top_query x1 x2 0) l p (st.progress.fit p (Memᴰ.head refl)) deep ok

    own-under : NoneRanks (promised p) own
    own-under = shown-under t (top_query x1 x2 0) l p (st.progress.fit p (Memᴰ.head refl)) deep ok

    first_edge : promised p < edge (p ∷ ps)
    first_edge = edge-over (p ∷ ps) (Memᴰ.head refl)

    edges : edge (line_up_all kids ps) ≤ edge (p ∷ ps)
    edges =
        edge-under (edge (p ∷ ps)) (line_up_all kids ps)
        (λ u i.
        ⊎_elim (λ j. let z = under u j in omega (arith, first_edge)) (λ j. edge-over (p ∷ ps) (Memᴰ.tail j)) (line_up_all-from kids ps i))

    -- what is given now is given first
    begins : certain now ≡ take (length (certain now)) (certain after)
    begins =
        let y = edge (p ∷ ps) in
        let here : certain now ≡ by_top (keep (of_rank y) (own ++ found)) =
        certain-edge now ∙ ap by_top (sym (none_kept y own found (λ x i. let z = own-under x i in omega (arith, first_edge)))) in
        here ∙ ranks-first y (edge (line_up_all kids ps)) (own ++ found) edges ∙
        ap (λ (ss : List Spot). take (length ss) (by_top (keep (of_rank (edge (line_up_all kids ps))) (own ++ found)))) (sym here) ∙
        ap (take (length (certain now))) (sym (certain-edge after))

    abbrev extra : List Spot
    extra = drop (length (certain now)) (given_of k after)

    -- and the others after it
    grows : given_of k after ≡ given_of k now ++ extra
    unfolding given_of
    grows =
        let n = length (certain now) in
        sym (take-append-drop n (take k (certain after))) ∙
        ap (λ (ss : List Spot). ss ++ drop n (take k (certain after)))
        (take-take n k (certain after) (omega arith) ∙ sym begins ∙ sym (given-all now k (omega arith)))

    -- the spots found are given now or were held back
    left-same : Reordered (own ++ held_back k now) (extra ++ held_back k after)
    left-same =
        record {
          sums = sums;
          from = λ x i. same_spot (extra ++ held_back k after) (own ++ held_back k now) (λ f. sym (sums f)) i;
        }
      where
        sums : (f : Spot → ℕ) → sum f (own ++ held_back k now) ≡ sum f (extra ++ held_back k after)
        sums f =
            omega (
              arith,
              sum-append f own (held_back k now),
              sum-append f extra (held_back k after),
              held-sums k now f,
              held-sums k after f,
              ap (sum f) grows,
              sum-append f (given_of k now) extra,
              sum-append f own found,
            )

    read-on : Progress t x1 x2 k (kids ++ ps) (own ++ held_back k now) (given_of k now) (p.part.block ∷ blocks)
    read-on = read-part t x1 x2 k [] p ps (held_back k now) (given_of k now) blocks st.progress (lined-most p ps st.line) low room l deep ok new

    cut : Cut (given_of k after) (drop k (certain after))
    unfolding given_of
    cut =
        descends-cut (take k (certain after)) (drop k (certain after)) (subst Descends (sym (take-append-drop k (certain after))) (certain-descends after))

    extra-cut : Cut (given_of k now) extra
    extra-cut = descends-cut (given_of k now) extra (subst Descends grows cut.first)

    extra-over : (x : Spot) → Memᴰ x extra → NoneAbove (tk x) (held_back k after)
    extra-over x i z j =
        let given = mem-drop (length (certain now)) (given_of k after) i in
        let high = certain-high after x (given-certain after k x given) in
        ⊎_elim (λ h. cut.over x given z h) (λ (h : rank_of z.key < edge (line_up_all kids ps)). omega (arith, top-rank z.key, top-rank x.key)) (held-cases after k z j)

    next-stands : Stands t x1 x2 k after
    next-stands =
        record {
          whole = st.whole;
          line = line_up_all-lined kids ps st.line.1;
          progress =
              subst (λ (ss : List Spot). Progress t x1 x2 k (line_up_all kids ps) (held_back k after) ss (p.part.block ∷ blocks)) (sym grows)
              (give_all t x1 x2 k (line_up_all kids ps) (held_back k after) (p.part.block ∷ blocks) extra (given_of k now)
              (reorder t x1 x2 k (kids ++ ps) (line_up_all kids ps) (own ++ held_back k now) (extra ++ held_back k after) (given_of k now) (p.part.block ∷ blocks) read-on (lined-up kids ps) left-same)
              extra-cut.second
              extra-over
              (λ x i u j.
              let high = certain-high after x (given-certain after k x (mem-drop (length (certain now)) (given_of k after) i)) in
              omega (arith, edge-over (line_up_all kids ps) j))
              (omega (arith, ap length grows, length-append (given_of k now) extra, given-many after k)));
        }

    -- neither a child nor a spot of its own shows more than p does
    kid-low : (u : Pending) → Memᴰ u kids → shows_rank u.part.asked ≤ ceiling_of k now
    kid-low u i =
        let a = opened-small t (top_query x1 x2 0) l p u i in
        omega (
          arith,
          shows-over (promised u) a p.part.asked (under u i),
          shows-under u.part.asked,
          ceiling-part now k (Memᴰ.head refl),
        )

    own-low : (x : Spot) → Memᴰ x own → rank_of x.key ≤ ceiling_of k now
    own-low x i =
        let a = small t x1 x2 k (kids ++ ps) (own ++ held_back k now) (given_of k now) (p.part.block ∷ blocks) read-on x (inl (Memᴰ.append_left (held_back k now) i)) in
        omega (arith, shows-over (rank_of x.key) (rank-word x.key a) p.part.asked (own-under x i), ceiling-part now k (Memᴰ.head refl))

    lower : ceiling_of k after ≤ ceiling_of k now
    lower =
        ceiling-le after k (ceiling_of k now)
        (λ u i. ⊎_elim (λ j. kid-low u j) (λ j. ceiling-part now k (Memᴰ.tail j)) (line_up_all-from kids ps i))
        (λ x i.
        ⊎_elim (λ j. own-low x j) (λ j. ceiling-held now k j) (Memᴰ.append_cases own (left-same.from x (Memᴰ.append_right extra i))))

    next_here : Next t x1 x2 k now (read_first (store_of t) (top_query x1 x2 0) (p ∷ ps) now)
    next_here =
        subst (λ (r : Reading). Next t x1 x2 k now r) (sym reads_first) (record { stands = next-stands; more = refl; edges = edges; ceiling = lower })

  -- a reading that goes on
  next-made : (w : Bool) (us : List Pending) (found : List Spot) (blocks : List ℕ) → let r = made w us found blocks in
      Stands t x1 x2 k r → stopped k r ≡ false → Next t x1 x2 k r (read_first (store_of t) (top_query x1 x2 0) us r)
  unfolding stopped
  next-made w [] found blocks st h = absurd (true≢false (neither (not w) true h).1)
  next-made w (p ∷ ps) found blocks st h =
      next_here w p ps found blocks st (leb-false k (length (certain (made w (p ∷ ps) found blocks))) (neither (not w) _ h).1)

  pub next : (a : ℕ) → Stands t x1 x2 k (reading t x1 x2 k a) → stopped k (reading t x1 x2 k a) ≡ false → Next t x1 x2 k (reading t x1 x2 k a) (reading t x1 x2 k (suc a))
  next a st h =
      let r = reading t x1 x2 k a in
      subst (λ (z : Reading). Next t x1 x2 k r z) (sym (reading-goes-on t x1 x2 k a h)) (next-made r.whole r.unread r.found r.blocks st h)

pub stands_at : (t : List ℕ) → sound t ≡ true → (x1 x2 : ℤ) (j a : ℕ) → Stands t x1 x2 (suc j) (reading t x1 x2 (suc j) a)
stands_at t s x1 x2 j zero = begins-so t s x1 x2 j
stands_at t s x1 x2 j (suc a) = go (stopped (suc j) (reading t x1 x2 (suc j) a)) refl (stands_at t s x1 x2 j a)
  where
    go : (b : Bool) → stopped (suc j) (reading t x1 x2 (suc j) a) ≡ b → Stands t x1 x2 (suc j) (reading t x1 x2 (suc j) a) → Stands t x1 x2 (suc j) (reading t x1 x2 (suc j) (suc a))
    go true e st = subst (λ (r : Reading). Stands t x1 x2 (suc j) r) (sym (reading-stays-once t x1 x2 (suc j) a e)) st
    go false e st = (next t s x1 x2 (suc j) a st e).stands
