-- Code that reads best first follows the definition: after as many reads as there are blocks it knows of the same parts, has found the same spots and read the same
-- blocks, in any order of its lists. What is given and the ceiling at its end are the definition's, and where it can't read on, neither can the definition.
-- Assumes nothing.
use mathlib.Core.Path.{◌≡◌, refl, ap, ap₂, sym, subst, ◌∙◌}
use mathlib.Core.Logic.{◌⊎◌, inl, inr, ⊎_elim}
use mathlib.Core.Bool.{Bool, true, false, true≢false}
use mathlib.Core.List.Memᴰ
use mathlib.Core.List.{List, [], ◌∷◌, ◌++◌, append-nil, Memᴰ}
use Prim.Native.Nat.{ℕ, suc, ◌+◌, ◌-◌, ◌/◌, ◌≤◌, ◌<◌, max, min}
use native.Mathlib.Omega.{arith}
use lib.ListN.{length, take, length-append, length-take}
use lib.Seq.{take_all, take-append_seam}
use lib.IntN.{ℤ}
use Rattle.octets.specs.Lists.{keep, has, is_empty, distinct}
use Rattle.octets.proofs.Sets.{distinct_head, distinct_tail}
use Rattle.octets.proofs.Lists.{no_member, mem-same, mem-here, mem-more, mem-three}
use Rattle.octets.proofs.Tests.{refuted, empty-list, keep-mem, keep-in}
use Rattle.spot.specs.Keys.{word, rank_of}
use Rattle.spot.specs.Query.{top_query}
use Rattle.spot.specs.Spots.{keys, by_top}
use Rattle.spot.specs.declared.Spot.{Spot}
use Rattle.spot.proofs.Buffers.{keys-mem}
use Rattle.spot.proofs.Ranks.{tk, by_top-from}
use Rattle.spot.proofs.TopKeys.{top-inj, top-rank}
use Rattle.block.specs.declared.Asked.{Asked}
use Rattle.block.specs.declared.Asked.TheVariants.{Root, Child}
use Rattle.block.specs.Header.{head_of}
use Rattle.block.specs.HeaderRules.{header_ok}
use Rattle.block.specs.Node.{store_of}
use Rattle.block.specs.NodeRules.{node_ok}
use Rattle.tree.specs.BestFirst.{Pending, promise, promised, opened, shown}
use Rattle.tree.proofs.BestFirstSums.{sum, Same, Reordered, counted, one, counted-yes, counted-no, counted-le, sum-append, sum-middle, sum-three, sum_same, sum-none, sum-le, sum-length, sum-keep, same_length, reordered-none, reordered-then}
use Rattle.tree.proofs.BestFirstSpots.{sum-by_top, same_spot, Descends, top-descends, descends-join, Sharp, descends-same}
use Rattle.tree.proofs.BestFirstTree.{root_of}
use Rattle.tree.proofs.BestFirstSteps.{NoneRanks}
use Rattle.tree.proofs.BestFirstEnd.{small}
use Rattle.tree.proofs.BestFirst.{Progress}
use Rattle.within_theory.specs.Reading.{Reading, line_up_all, ties, obeys_at, readable, read_first, above_all, certain, stopped, begun, reading, given_of, held_back, shows_rank, ceiling_of, found_once, greatest}
pub use Rattle.within_theory.proofs.Lines.{NotBefore, Ties}
use Rattle.within_theory.proofs.Lines.{Lined, sum-line_up_all, line_up_all-in, twin-some, twin-counts, twin-ties, ties-twin, first-or-later, head-twins, others-after}
use Rattle.within_theory.proofs.Greatest.{SameBy, same_by, same-as-great, same-greatest, greatest-same, first-tops}
use Rattle.within_theory.proofs.Readings.{first_read, first-stuck, reading-goes-on, reading-stays, broken-stays, empty-stopped, enough-stopped, not_stopped, reading-lined, above-all, not-above, certain-many, held-sums, readable-yes, unreadable-node, unreadable-again, unreadable-tied}

-- the lists of a search after as many reads as blocks, and what is given of the spots found
pub record Follows (t : List ℕ) (x1 x2 : ℤ) (k : ℕ) (unread : List Pending) (found given : List Spot) (blocks : List ℕ) : Type 0 where
  pub whole : (reading t x1 x2 k (length blocks)).whole ≡ true
  pub read : (reading t x1 x2 k (length blocks)).blocks ≡ blocks
  pub line : Reordered (reading t x1 x2 k (length blocks)).unread unread
  pub spots : (f : Spot → ℕ) → sum f (reading t x1 x2 k (length blocks)).found ≡ sum f found + sum f given

-- block 0 is read
pub follows-begun : (t : List ℕ) (x1 x2 : ℤ) (k : ℕ) → header_ok (length t) (head_of t) ≡ true → Follows t x1 x2 k (root_of t ∷ []) [] [] []
unfolding reading begun
follows-begun t x1 x2 k h = record { whole = h; read = refl; line = reordered-none (root_of t ∷ []); spots = λ f. refl }

-- the lists in another order
pub follows-reordered : (t : List ℕ) (x1 x2 : ℤ) (k : ℕ) (unread after : List Pending) (found left given : List Spot) (blocks : List ℕ)
    → Follows t x1 x2 k unread found given blocks → Reordered unread after → Reordered found left
    → Follows t x1 x2 k after left given blocks
follows-reordered t x1 x2 k unread after found left given blocks g a b =
    record {
      whole = g.whole;
      read = g.read;
      line = reordered-then (reading t x1 x2 k (length blocks)).unread unread after g.line a;
      spots = λ f. omega (arith, g.spots f, b.sums f);
    }

-- a spot is given
pub follows-given : (t : List ℕ) (x1 x2 : ℤ) (k : ℕ) (unread : List Pending) (us : List Spot) (s : Spot) (vs given : List Spot) (blocks : List ℕ)
    → Follows t x1 x2 k unread (us ++ (s ∷ vs)) given blocks
    → Follows t x1 x2 k unread (us ++ vs) (given ++ (s ∷ [])) blocks
follows-given t x1 x2 k unread us s vs given blocks g =
    record {
      whole = g.whole;
      read = g.read;
      line = g.line;
      spots = λ f. omega (arith, g.spots f, sum-middle f us s vs, sum-append f given (s ∷ []));
    }

-- p is the part that is read next: no other comes before it, and no spot found and left is above what it shows
module _ (t : List ℕ) (x1 x2 : ℤ) (k : ℕ) (us : List Pending) (p : Pending) (vs : List Pending) (found given : List Spot) (blocks : List ℕ)
    (g : Follows t x1 x2 k (us ++ (p ∷ vs)) found given blocks)
    (first : (u : Pending) → Memᴰ u (us ++ vs) → NotBefore p u)
    (low : NoneRanks (promised p) found) (room : length given < k) where
  abbrev now : Reading
  now = reading t x1 x2 k (length blocks)

  in-line : Memᴰ p now.unread
  in-line = g.line.from p (mem-here us p vs)

  -- of the spots found and left none is certain, and fewer than k are given
  few-certain : length (certain now) < k
  few-certain =
      let above = above_all now.unread in
      omega (
        arith,
        certain-many now,
        g.spots (counted above one),
        sum-none (counted above one) found (λ x i. counted-no above one x (not-above now.unread x p in-line (low x i))),
        sum-le (counted above one) one given (λ x i. counted-le above one x),
        sum-length given,
      )

  goes_on_lem : stopped k now ≡ false
  goes_on_lem =
      not_stopped k now g.whole (refuted (is_empty now.unread) (λ e. Memᴰ.not-nil (mem-same (empty-list now.unread e) in-line))) few-certain

  module _ (h : Pending) (rest : List Pending) (is : now.unread ≡ h ∷ rest) where
    same_parts : Reordered (h ∷ rest) (us ++ (p ∷ vs))
    same_parts = subst (λ (l : List Pending). Reordered l (us ++ (p ∷ vs))) is g.line

    in_order : Lined (h ∷ rest)
    in_order = subst Lined is (reading-lined t x1 x2 k (length blocks))

    next : reading t x1 x2 k (suc (length blocks)) ≡ read_first (store_of t) (top_query x1 x2 0) (h ∷ rest) now
    next = reading-goes-on t x1 x2 k (length blocks) goes_on_lem ∙ ap (λ (l : List Pending). read_first (store_of t) (top_query x1 x2 0) l now) is

    -- the first in line can't be read
    stuck : readable (store_of t) h rest now.blocks ≡ false → (a : ℕ) → length blocks < a → (reading t x1 x2 k a).whole ≡ false
    stuck e a more =
        broken-stays t x1 x2 k (suc (length blocks)) a more
        (ap (λ (r : Reading). r.whole) (next ∙ first-stuck (store_of t) (top_query x1 x2 0) h rest now e))

    alike : Ties p h
    alike = head-twins us p vs h rest same_parts in_order first

    -- where p stands later in line, the next shows the same as the first
    tied-later : Memᴰ p rest → ties h rest ≡ true
    tied-later i = twin-ties h rest in_order p i (sym alike.0, sym alike.1)

    stuck-if : (p ≡ h → readable (store_of t) h rest now.blocks ≡ false) → readable (store_of t) h rest now.blocks ≡ false
    stuck-if f =
        ⊎_elim f (λ i. unreadable-tied (store_of t) h rest now.blocks (tied-later i)) (first-or-later us p vs h rest same_parts in_order first)

    node_at : (l : ℕ) → p.levels ≡ suc l → node_ok l p.part.asked (store_of t p.part.block) ≡ false → readable (store_of t) h rest now.blocks ≡ false
    node_at l e bad =
        stuck-if
        (λ (d : p ≡ h).
        unreadable-node (store_of t) h rest now.blocks
        (ap (λ (u : Pending). obeys_at u.levels (store_of t) u.part) (sym d) ∙ ap (λ (n : ℕ). obeys_at n (store_of t) p.part) e ∙ bad))

    twice-at : has p.part.block blocks ≡ true → readable (store_of t) h rest now.blocks ≡ false
    twice-at again =
        unreadable-again (store_of t) h rest now.blocks
        (ap (λ (b : ℕ). has b now.blocks) alike.1 ∙ ap (has p.part.block) g.read ∙ again)

    tied_at : (u : Pending) → Memᴰ u (us ++ vs) → Ties p u → readable (store_of t) h rest now.blocks ≡ false
    tied_at u i tied =
        let r = twin-some p rest (omega (arith, others-after us p vs h rest same_parts in_order first, twin-counts p (us ++ vs) i tied)) in
        unreadable-tied (store_of t) h rest now.blocks
        (twin-ties h rest in_order r.0 r.1 (r.2.0 ∙ sym alike.0, r.2.1 ∙ sym alike.1))

    -- none shows the same as p: it is the first in line, and no other stands beside it
    module _ (alone : (u : Pending) → Memᴰ u (us ++ vs) → Ties p u → ⊥) where
      none-later : (u : Pending) → Memᴰ u rest → Ties p u → ⊥
      none-later u i tied =
          let r = twin-some p (us ++ vs) (omega (arith, others-after us p vs h rest same_parts in_order first, twin-counts p rest i tied)) in
          alone r.0 r.1 r.2

      is-first : p ≡ h
      is-first =
          ⊎_elim (λ (e : p ≡ h). e) (λ i. absurd (none-later p i (refl, refl))) (first-or-later us p vs h rest same_parts in_order first)

      untied : ties p rest ≡ false
      untied = refuted (ties p rest) (λ e. let r = ties-twin p rest e in none-later r.0 r.1 r.2)

      -- what is left in line is what is left
      left-line : (u : Pending) → Memᴰ u (us ++ vs) → Memᴰ u rest
      left-line u i =
          ⊎_elim (λ (e : u ≡ h). absurd (alone u i (let d = e ∙ sym is-first in (ap promised d, ap (λ (v : Pending). v.part.block) d)))) (λ j. j)
          (Memᴰ.cases_cons (same_parts.from u (mem-more us p vs i)))

      left-sums : (f : Pending → ℕ) → sum f rest ≡ sum f (us ++ vs)
      left-sums f = omega (arith, same_parts.sums f, sum-middle f us p vs, ap f is-first)

      module _ (l : ℕ) (e : p.levels ≡ suc l) (ok : node_ok l p.part.asked (store_of t p.part.block) ≡ true) (new : has p.part.block blocks ≡ false) where
        abbrev after : Reading
        after =
            record {
              whole = now.whole;
              unread = line_up_all (opened (store_of t) (top_query x1 x2 0) l p) rest;
              found = shown (store_of t) (top_query x1 x2 0) p ++ now.found;
              blocks = p.part.block ∷ now.blocks;
            }

        becomes : reading t x1 x2 k (suc (length blocks)) ≡ after
        becomes =
            let m = store_of t in
            let q = top_query x1 x2 0 in
            let low-level : p.levels - 1 ≡ l = omega arith in
            next ∙ ap (λ (u : Pending). read_first m q (u ∷ rest) now) (sym is-first) ∙
            first_read m q p rest now
            (readable-yes m p rest now.blocks (ap (λ (n : ℕ). obeys_at n m p.part) e ∙ ok) (ap (has p.part.block) g.read ∙ new) untied) ∙
            ap
            (λ (n : ℕ).
            record {
              whole = now.whole;
              unread = line_up_all (opened m q n p) rest;
              found = shown m q p ++ now.found;
              blocks = p.part.block ∷ now.blocks;
            })
            low-level

        read-first : Follows t x1 x2 k (us ++ (opened (store_of t) (top_query x1 x2 0) l p ++ vs)) (shown (store_of t) (top_query x1 x2 0) p ++ found) given (p.part.block ∷ blocks)
        read-first =
            let m = store_of t in
            let q = top_query x1 x2 0 in
            let cs = opened m q l p in
            record {
              whole = ap (λ (r : Reading). r.whole) becomes ∙ g.whole;
              read = ap (λ (r : Reading). r.blocks) becomes ∙ ap (λ (bs : List ℕ). p.part.block ∷ bs) g.read;
              line =
                  subst (λ (r : Reading). Reordered r.unread (us ++ (cs ++ vs))) (sym becomes)
                  (record {
                    sums = λ f. omega (arith, sum-line_up_all f cs rest, left-sums f, sum-three f us cs vs);
                    from =
                        λ u i.
                        line_up_all-in cs rest (⊎_elim (λ j. inl j) (λ j. inr (left-line u j)) (mem-three us cs vs i));
                  });
              spots =
                  λ f.
                  ap (λ (r : Reading). sum f r.found) becomes ∙
                  omega (arith, g.spots f, sum-append f (shown m q p) now.found, sum-append f (shown m q p) found);
            }

  -- the line has a first
  with_first : {A : Type 0} → ((h : Pending) (rest : List Pending) → now.unread ≡ h ∷ rest → A) → A
  with_first {A} f = go now.unread refl
    where
      go : (l : List Pending) → now.unread ≡ l → A
      go [] e = absurd (Memᴰ.not-nil (mem-same e in-line))
      go (h ∷ rest) e = f h rest e

  -- it is read
  pub follows-read : ((u : Pending) → Memᴰ u (us ++ vs) → Ties p u → ⊥)
      → (l : ℕ) → p.levels ≡ suc l → node_ok l p.part.asked (store_of t p.part.block) ≡ true → has p.part.block blocks ≡ false
      → Follows t x1 x2 k (us ++ (opened (store_of t) (top_query x1 x2 0) l p ++ vs)) (shown (store_of t) (top_query x1 x2 0) p ++ found) given (p.part.block ∷ blocks)
  follows-read alone l e ok new = with_first (λ h rest is. read-first h rest is alone l e ok new)

  -- it can't be read, with any larger allowance
  pub stuck-node : (l : ℕ) → p.levels ≡ suc l → node_ok l p.part.asked (store_of t p.part.block) ≡ false → (a : ℕ) → length blocks < a → (reading t x1 x2 k a).whole ≡ false
  stuck-node l e bad a more = with_first (λ h rest is. stuck h rest is (node_at h rest is l e bad) a more)

  pub stuck-twice : has p.part.block blocks ≡ true → (a : ℕ) → length blocks < a → (reading t x1 x2 k a).whole ≡ false
  stuck-twice again a more = with_first (λ h rest is. stuck h rest is (twice-at h rest is again) a more)

  pub stuck-tied : (u : Pending) → Memᴰ u (us ++ vs) → Ties p u → (a : ℕ) → length blocks < a → (reading t x1 x2 k a).whole ≡ false
  stuck-tied u i tied a more = with_first (λ h rest is. stuck h rest is (tied_at h rest is u i tied) a more)

-- a header that breaks a rule
pub stuck-head : (t : List ℕ) (x1 x2 : ℤ) (k a : ℕ) → header_ok (length t) (head_of t) ≡ false → (reading t x1 x2 k a).whole ≡ false
unfolding reading begun
stuck-head t x1 x2 k a h = broken-stays t x1 x2 k 0 a (omega arith) h

-- why a search ends that may read `a` blocks: k spots are given; or no part is unread or the allowance is used, and no spot that is left is above every unread part
abbrev pub Halts : ℕ → ℕ → List Pending → List Spot → List Spot → List ℕ → Type 0
Halts k a unread found given blocks =
    (k ≤ length given) ⊎
    (((unread ≡ []) ⊎ (length blocks ≡ a)) × ((s : Spot) → Memᴰ s found → (u : Pending) × Memᴰ u unread × (rank_of s.key ≤ promised u)))

-- what a search that may read `a` blocks gives, reads and says of the rest. Where an identity is found twice, which only an unsound table has, the choice between the
-- two is free: how many are given and the ceiling don't hang on it.
pub record Sure (t : List ℕ) (x1 x2 : ℤ) (k a : ℕ) (given : List Spot) (blocks : List ℕ) (c : ℕ) : Type 0 where
  pub whole : (reading t x1 x2 k a).whole ≡ true
  pub read : (reading t x1 x2 k a).blocks ≡ blocks
  pub many : length given ≡ length (given_of k (reading t x1 x2 k a))
  pub same : found_once t x1 x2 k a ≡ true → given ≡ given_of k (reading t x1 x2 k a)
  pub ceiling : c ≡ ceiling_of k (reading t x1 x2 k a)

-- where no identity stands twice, two spots of one identity are one
distinct-spot : (ss : List Spot) → distinct (keys ss) ≡ true → (s u : Spot) → Memᴰ s ss → Memᴰ u ss → s.key ≡ u.key → s ≡ u
distinct-spot [] d s u i j e = absurd (Memᴰ.not-nil i)
distinct-spot (x ∷ xs) d s u i j e =
    let off = distinct_head x.key (keys xs) d in
    ⊎_elim
    (λ (a : s ≡ x).
    ⊎_elim (λ (b : u ≡ x). a ∙ sym b) (λ (b : Memᴰ u xs). absurd (off (Memᴰ.cast (ap (λ (z : Spot). z.key) (sym a) ∙ e) (keys-mem xs b))))
    (Memᴰ.cases_cons j))
    (λ (a : Memᴰ s xs).
    ⊎_elim (λ (b : u ≡ x). absurd (off (Memᴰ.cast (ap (λ (z : Spot). z.key) (sym b) ∙ sym e) (keys-mem xs a))))
    (λ (b : Memᴰ u xs). distinct-spot xs (distinct_tail x.key (keys xs) d) s u a b e)
    (Memᴰ.cases_cons j))
    (Memᴰ.cases_cons i)

-- what the entry of a part below the root shows is its promise
shows-promise : (a : Asked) → promise a < word → shows_rank a ≡ promise a
shows-promise (Root b) h = let z : ⊥ = omega arith in absurd z
shows-promise (Child e) h = refl

module _ (t : List ℕ) (x1 x2 : ℤ) (k : ℕ) (unread : List Pending) (found given : List Spot) (blocks : List ℕ)
    (p : Progress t x1 x2 k unread found given blocks) (g : Follows t x1 x2 k unread found given blocks) where
  abbrev here : Reading
  here = reading t x1 x2 k (length blocks)

  abbrev above : Spot → Bool
  above = above_all here.unread

  given_above : (x : Spot) → Memᴰ x given → above x ≡ true
  given_above x i =
      above-all here.unread x
      (λ u j. let r = same-as-great promised here.unread unread (same_by promised here.unread unread g.line.sums) j in omega (arith, r.2, p.ahead x i r.0 r.1))

  -- what is given, and after it what is found and certain
  ranking : List Spot
  ranking = given ++ by_top (keep above found)

  ranking-same : Same ranking (certain here)
  unfolding ranking certain
  ranking-same f =
      omega (
        arith,
        sum-append f given (by_top (keep above found)),
        sum-by_top f (keep above found),
        sum-keep above f found,
        sum-by_top f (keep above here.found),
        sum-keep above f here.found,
        g.spots (counted above f),
        sum_same (counted above f) f given (λ x i. counted-yes above f x (given_above x i)),
      )

  given-certain : length given ≤ length (certain here)
  unfolding ranking
  given-certain = omega (arith, same_length ranking (certain here) ranking-same, length-append given (by_top (keep above found)))

  ranking-falls : Descends ranking
  unfolding ranking
  ranking-falls =
      descends-join given (by_top (keep above found)) p.falls (top-descends (keep above found))
      (λ x i s j. p.lower x i s (keep-in above found (by_top-from (keep above found) j)))

  -- every spot that the reading found is found or given
  found_from : (s : Spot) → Memᴰ s here.found → Memᴰ s found ⊎ Memᴰ s given
  found_from s i =
      Memᴰ.append_cases found (same_spot here.found (found ++ given) (λ f. omega (arith, g.spots f, sum-append f found given)) i)

  sharp : distinct (keys here.found) ≡ true → Sharp (certain here)
  unfolding certain
  sharp d s u i j e =
      let all = here.found in
      let si = keep-in above all (by_top-from (keep above all) i) in
      let uj = keep-in above all (by_top-from (keep above all) j) in
      distinct-spot all d s u si uj
      (top-inj s.key u.key (small t x1 x2 k unread found given blocks p s (found_from s si)) (small t x1 x2 k unread found given blocks p u (found_from u uj)) e)

  -- k are given, or none that is left is certain
  module _ (full : (k ≤ length given) ⊎ (keep above found ≡ [])) where
    first-given : take k ranking ≡ given
    unfolding ranking
    first-given =
        ⊎_elim
        (λ (h : k ≤ length given).
        let e : k ≡ length given = omega (arith, p.few) in
        ap (λ (n : ℕ). take n (given ++ by_top (keep above found))) e ∙ take-append_seam given (by_top (keep above found)))
        (λ (h : keep above found ≡ []).
        ap (λ (ss : List Spot). take k (given ++ by_top ss)) h ∙ ap (take k) (append-nil given) ∙ take_all k given p.few)
        full

    many-here : length given ≡ length (given_of k here)
    unfolding given_of
    many-here =
        ap length (sym first-given) ∙ length-take k ranking ∙ ap (λ (n : ℕ). min k n) (same_length ranking (certain here) ranking-same) ∙
        sym (length-take k (certain here))

    same_here : distinct (keys here.found) ≡ true → given ≡ given_of k here
    unfolding given_of certain
    same_here d =
        sym first-given ∙
        ap (take k) (descends-same ranking (certain here) ranking-falls (top-descends (keep above here.found)) ranking-same (sharp d))

    -- the ranks given are the definition's, whichever of two spots of one identity is given; so are those of what is left
    given-ranks : SameBy (λ s. rank_of s.key) given (given_of k here)
    unfolding given_of certain
    given-ranks f =
        ap (sum (λ s. f (rank_of s.key))) (sym first-given) ∙ by-top (take k ranking) ∙
        first-tops k ranking (certain here) ranking-falls (top-descends (keep above here.found)) (same_by tk ranking (certain here) ranking-same) (λ n. f (n / word)) ∙
        sym (by-top (take k (certain here)))
      where
        by-top : (ss : List Spot) → sum (λ s. f (rank_of s.key)) ss ≡ sum (λ s. f (tk s / word)) ss
        by-top ss = sum_same (λ s. f (rank_of s.key)) (λ s. f (tk s / word)) ss (λ s i. ap f (sym (top-rank s.key)))

    held-ranks : SameBy (λ s. rank_of s.key) (held_back k here) found
    held-ranks f =
        let r : Spot → ℕ = λ s. f (rank_of s.key) in
        omega (arith, held-sums k here r, g.spots r, given-ranks f)

    ceiling-here : ((u : Pending) → Memᴰ u unread → promised u < word)
        → max (greatest promised unread) (greatest (λ (s : Spot). rank_of s.key) found) ≡ ceiling_of k here
    unfolding ceiling_of
    ceiling-here kids =
        let shows : Pending → ℕ = λ u. shows_rank u.part.asked in
        let rank : Spot → ℕ = λ s. rank_of s.key in
        ap₂ max
        (greatest-same promised shows unread (λ u i. sym (shows-promise u.part.asked (kids u i))) ∙
        sym (same-greatest shows here.unread unread (same_by shows here.unread unread g.line.sums)))
        (sym (same-greatest rank (held_back k here) found held-ranks))

  -- why it ends
  module _ (a : ℕ) (few : length blocks ≤ a) (why : Halts k a unread found given blocks) where
    full-at-end : (k ≤ length given) ⊎ (keep above found ≡ [])
    full-at-end =
        ⊎_elim (λ (h : k ≤ length given). inl h)
        (λ (h : ((unread ≡ []) ⊎ (length blocks ≡ a)) × ((s : Spot) → Memᴰ s found → (u : Pending) × Memᴰ u unread × (rank_of s.key ≤ promised u))).
        inr
        (no_member (keep above found)
        (λ s i.
        let c = keep-mem above found i in
        let r = h.1 s c.0 in
        true≢false (sym c.1 ∙ not-above here.unread s r.0 (g.line.from r.0 r.1) r.2))))
        why

    -- the reading is no other with what is left of the allowance
    rests : reading t x1 x2 k a ≡ here
    rests =
        ⊎_elim (λ (h : k ≤ length given). stays (enough-stopped k here (omega (arith, given-certain))))
        (λ h. ⊎_elim (λ (e : unread ≡ []). stays (empty-stopped k here (emptied e))) (λ (e : length blocks ≡ a). ap (reading t x1 x2 k) (sym e)) h.0)
        why
      where
        stays : stopped k here ≡ true → reading t x1 x2 k a ≡ here
        stays h = reading-stays t x1 x2 k (length blocks) a few h

        emptied : unread ≡ [] → here.unread ≡ []
        emptied e =
            no_member here.unread
            (λ u i.
            let r = same-as-great promised here.unread unread (same_by promised here.unread unread g.line.sums) i in
            Memᴰ.not-nil (mem-same e r.1))

-- at its end, with the root read
pub sure-at-end : (t : List ℕ) (x1 x2 : ℤ) (k a : ℕ) (unread : List Pending) (found given : List Spot) (blocks : List ℕ) (ceiling : ℕ)
    → Progress t x1 x2 k unread found given blocks → Follows t x1 x2 k unread found given blocks
    → length blocks ≤ a → Halts k a unread found given blocks
    → ((u : Pending) → Memᴰ u unread → promised u < word)
    → ceiling ≡ max (greatest promised unread) (greatest (λ (s : Spot). rank_of s.key) found)
    → Sure t x1 x2 k a given blocks ceiling
unfolding found_once
sure-at-end t x1 x2 k a unread found given blocks ceiling p g few why kids is =
    let full = full-at-end t x1 x2 k unread found given blocks p g a few why in
    let rest = rests t x1 x2 k unread found given blocks p g a few why in
    let once : distinct (keys (reading t x1 x2 k a).found) ≡ true → distinct (keys (reading t x1 x2 k (length blocks)).found) ≡ true =
    λ h. ap (λ (r : Reading). distinct (keys r.found)) (sym rest) ∙ h in
    record {
      whole = ap (λ (r : Reading). r.whole) rest ∙ g.whole;
      read = ap (λ (r : Reading). r.blocks) rest ∙ g.read;
      many = many-here t x1 x2 k unread found given blocks p g full ∙ ap (λ (r : Reading). length (given_of k r)) (sym rest);
      same = λ h. same_here t x1 x2 k unread found given blocks p g full (once h) ∙ ap (given_of k) (sym rest);
      ceiling = is ∙ ceiling-here t x1 x2 k unread found given blocks p g full kids ∙ ap (ceiling_of k) (sym rest);
    }
