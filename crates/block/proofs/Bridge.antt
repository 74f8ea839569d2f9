-- The tests of the code are the rules of a node.
-- Assumes nothing.
use mathlib.Core.Path.{◌≡◌, refl, sym, ap, ap₂, subst, ◌∙◌}
use mathlib.Core.Bool.{Bool, true, false, cond, ◌&&◌, ◌||◌}
use mathlib.Core.Logic.{◌⊎◌, inl, inr, ⊎_elim}
use mathlib.Core.List.{List, [], ◌∷◌, ◌++◌, map}
use Prim.Native.Nat.{ℕ, ◌+◌, ◌-◌, ◌*◌, ◌≤◌, ◌<◌}
use native.Mathlib.Omega.{arith}
use lib.Dec.{leb, ltb, eqb, leb-suc-zero}
use lib.ListN.{drop}
use borrow.Author.Tests.{eqb-true, leb-true, le-ltb}
use Rattle.octets.specs.Lists.{all, every, records, rising, rising_from, distinct, minimum}
use Rattle.octets.specs.Bytes.{be}
use Rattle.spot.specs.Keys.{rank_key, limited}
use Rattle.spot.specs.Spots.{key_at, keys_from}
use Rattle.spot.proofs.Card.{key_at-lt}
use Rattle.spot.proofs.Halves.{rank-small}
use Rattle.block.specs.declared.Entry.{Entry}
use Rattle.block.specs.declared.Front.{Front}
use Rattle.block.specs.declared.Asked.{Asked}
use Rattle.block.specs.Table.{block_ok, version1}
use Rattle.block.specs.Node.{Node, node_of, node_from, laid_out, used_bytes, entry_at, entry_blank, first_blank, first_open}
use Rattle.block.specs.NodeRules.{low_of, stands_in, node_ok, fewest, buffers_rise, named_once, points_above, tops, filled, lowest, entries_credible, extremes, inside_limits}
use Rattle.block.specs.Access.{front_of}
use Rattle.block.specs.Checks.{◌and◌, entry_keyed, is_zero, ranks_under, apart, last_key, start_of, rises_inside, rises_under, sizes_fine, other_block, entry_shows, first_fine, entries_fine, blocks_fine, above_tops, count_fine, front_fine, lists_fine, rest_fine, body_fine}
use Rattle.octets.proofs.Tests.{and_left, and_right, and_both, or-either, or_right, bool-ext, all-at, all_cons, all_nil, every-left, every-right, every-join}
use Rattle.octets.proofs.Sets.{distinct-split, distinct-join}
use Rattle.octets.proofs.Rising.{rising-lower, rising-from, rising-distinct}
use Rattle.octets.proofs.Records.{left, left-first, none_left, records-cong, tests-at, tests-make}
use Rattle.block.proofs.Shut.{fst, snd, pair, in_left, in_right}
use Rattle.block.proofs.Apart.{apart-test, apart-fact}
use Rattle.block.proofs.Above.{above, above-under, least_above, above_apart}
use Rattle.block.proofs.Agree.{agrees-is}
use Rattle.spot.proofs.Buffers.{keys-records}
use Rattle.block.proofs.Views.{every-entry, every-top, tests-mono}
use Rattle.block.proofs.Marks.{credible_at, fine-make, fine-blank, fine-block, fine-other, fine-top, fine-credible}
use Rattle.block.proofs.Rules.{rising-floor, floor-forward, floor-back, names-are, count-is, count_most, filled_is, lowest-is, leaf-is, lows-is, limits-are, blocks_is}
use Rattle.block.proofs.Inside.{inside-make, inside-from, inside-before, inside-rise, inside-limited}
use Rattle.block.proofs.Children.{once_is, lows-above-is, apart-is, credible-is}

module _ (s : List ℕ) (blocks level : ℕ) (a : Asked) (keys64 : entry_keyed a ≡ true) (c p i d : ℕ) where
  abbrev node : Node
  node = node_from version1 blocks s c p i d

  abbrev head : Front
  head = record { used = be 2 s 0; version = be 1 s 2; level = be 1 s 3; p = p; i = i; d = d; c = c }

  abbrev ps : List ℕ
  ps = keys_from s 12 p (8 + 28 * c)

  abbrev is : List ℕ
  is = keys_from s 12 i (8 + 28 * c + 12 * p)

  abbrev ds : List ℕ
  ds = keys_from s 8 d (8 + 28 * c + 12 * (p + i))

  abbrev es : List Entry
  es = first_open (records (entry_at s) 28 c 8)

  abbrev low : ℕ
  low = minimum last_key (map rank_key ps)

  -- what stands below P in rank order
  abbrev ks : List ℕ
  ks = (is ++ ds) ++ tops es

  abbrev empties : ℕ → Bool
  empties e = eqb (be 1 s (e + 2)) 0

  abbrev topped : ℕ → Bool
  topped e = empties e || ranks_under low (key_at s (e + 12))

  tops_are : every (ranks_under low) (tops es) ≡ all (records topped 28 c 8)
  unfolding entry_at
  tops_are =
      every-top (ranks_under low) es ∙ every-entry (λ e. eqb e.size 0 || ranks_under low e.top) (λ e. refl) s c
      ∙ ap all (records-cong _ topped 28 c 8 8 (λ j l. unused (be 1 s (8 + 28 * j + 2)) (key_at s (8 + 28 * j + 12))))
    where
      unused : (n k : ℕ) → eqb n 0 || ranks_under low (cond (eqb n 0) 0 k) ≡ eqb n 0 || ranks_under low k
      unused n k = pick (eqb n 0)
        where
          pick : (b : Bool) → b || ranks_under low (cond b 0 k) ≡ b || ranks_under low k
          pick true = refl
          pick false = refl

  above-are : points_above node ≡ above rank_key ks ps
  unfolding points_above node_from
  above-are = ap₂ (λ (x y : List ℕ). above rank_key ((x ++ ds) ++ tops es) y) (keys-records s 12 i (8 + 28 * c + 12 * p)) (keys-records s 12 p (8 + 28 * c))

  abbrev full : Bool
  full = leb 32 p && leb p 64 && leb i 64 && leb d 16

  abbrev thin : Bool
  thin = ltb p 32 && eqb i 0 && eqb d 0

  full-p : full ≡ true → leb 32 p ≡ true
  full-p h = and_left (leb 32 p) (leb p 64) (and_left (leb 32 p && leb p 64) (leb i 64) (and_left (leb 32 p && leb p 64 && leb i 64) (leb d 16) h))

  -- what the tops lie below
  abbrev over : ℕ
  over = above_tops p low

  full-over : full ≡ true → over ≡ low
  unfolding above_tops
  full-over h = rw (le-ltb p 32 (leb-true 32 p (full-p h)))

  thin-over : thin ≡ true → over ≡ 0
  unfolding above_tops
  thin-over h = rw (and_left (ltb p 32) (eqb i 0) (and_left (ltb p 32 && eqb i 0) (eqb d 0) h))

  -- the lows from the second entry on
  abbrev ls : List ℕ
  ls = keys_from s 28 (c - 1) 40

  abbrev shows : ℕ → Bool
  shows e = entry_shows blocks (stands_in a) over (start_of a) (8 + 28 * c) s e

  abbrev others : ℕ → Bool
  others e = other_block (stands_in a) s e

  abbrev covered : ℕ → Bool
  covered e = empties e || ranks_under over (key_at s (e + 12))

  abbrev agreeable : ℕ → Bool
  agreeable e = credible_at (start_of a) (8 + 28 * c) s e

  thin-i : thin ≡ true → is ≡ []
  thin-i h = none_left (key_at s) 12 i (8 + 28 * c + 12 * p) (eqb-true i 0 (and_right (ltb p 32) (eqb i 0) (and_left (ltb p 32 && eqb i 0) (eqb d 0) h)))

  thin-d : thin ≡ true → ds ≡ []
  thin-d h = none_left (key_at s) 8 d (8 + 28 * c + 12 * (p + i)) (eqb-true d 0 (and_right (ltb p 32 && eqb i 0) (eqb d 0) h))

  -- ---- from the rules to the tests
  module _ (ok : node_ok level a node ≡ true) where
    laid : laid_out version1 s c p i d ≡ true
    unfolding node_ok node_from
    laid = all-at _ ok 0

    kinds : (filled node ≡ true) ⊎ (lowest node ≡ true)
    unfolding node_ok
    kinds = or-either (filled node) (lowest node) (all-at _ ok 7)

    kind : (full ≡ true) ⊎ ((thin ≡ true) × (all (records empties 28 c 8) ≡ true))
    kind =
        ⊎_elim (λ h. inl (sym (filled_is blocks s c p i d) ∙ h))
        (λ h. let q : thin && all (records empties 28 c 8) ≡ true = sym (lowest-is blocks s c p i d) ∙ h in
        inr (and_left thin (all (records empties 28 c 8)) q, and_right thin (all (records empties 28 c 8)) q))
        kinds

    to-head : front_fine level (fewest a) head ≡ true
    unfolding front_fine node_ok laid_out sizes_fine node_from
    to-head =
        pair
        (pair
        (pair (pair (pair (pair (all-at _ laid 0) (all-at _ laid 1)) (all-at _ laid 2)) (all-at _ ok 1)) (sym (count-is blocks s c p i d a) ∙ all-at _ ok 2))
        (⊎_elim (λ h. in_left thin h) (λ h. in_right full h.0) kind))
        (sym (leaf-is blocks s c p i d) ∙ all-at _ ok 8)

    used : be 2 s 0 ≡ used_bytes version1 c p i d
    unfolding laid_out
    used = eqb-true _ _ (all-at _ laid 0)

    above-ok : above rank_key ks ps ≡ true
    unfolding node_ok
    above-ok = sym above-are ∙ all-at _ ok 6

    under-full : full ≡ true → every (ranks_under low) ks ≡ true
    under-full h =
        let at : ℕ = 8 + 28 * c in
        let first : ps ≡ key_at s at ∷ left (key_at s) 12 p at 1 = left-first (key_at s) 12 p at (omega (arith, leb-true 32 p (full-p h))) in
        let b : rank_key (key_at s at) < 18446744073709551616 = rank-small (key_at s at) (key_at-lt s at) in
        subst (λ (l : List ℕ). every (λ k. ltb (rank_key k) (minimum last_key (map rank_key l))) ks ≡ true) (sym first)
        (above-under rank_key last_key (key_at s at) ks (left (key_at s) 12 p at 1) (omega arith) (ap (above rank_key ks) (sym first) ∙ above-ok))

    under-i : every (ranks_under low) is ≡ true
    under-i =
        ⊎_elim (λ h. every-left (ranks_under low) is ds (every-left (ranks_under low) (is ++ ds) (tops es) (under-full h)))
        (λ h. ap (every (ranks_under low)) (thin-i h.0)) kind

    under-d : every (ranks_under low) ds ≡ true
    under-d =
        ⊎_elim (λ h. every-right (ranks_under low) is ds (every-left (ranks_under low) (is ++ ds) (tops es) (under-full h)))
        (λ h. ap (every (ranks_under low)) (thin-d h.0)) kind

    limits : (every limited (ps ++ (is ++ ds)) && every limited ls) && every limited (extremes es) ≡ true
    unfolding node_ok
    limits = sym (limits-are blocks s c p i d) ∙ all-at _ ok 15

    limited-names : every limited (ps ++ (is ++ ds)) && every limited ls ≡ true
    limited-names = and_left (every limited (ps ++ (is ++ ds)) && every limited ls) (every limited (extremes es)) limits

    rise : (xs : List ℕ) → ((f : ℕ → Bool) → every f (ps ++ (is ++ ds)) ≡ true → every f xs ≡ true) → rising xs ≡ true → rises_inside (start_of a) xs ≡ true
    unfolding node_ok
    rise xs part h =
        inside-make a xs (floor-forward a node (ps ++ (is ++ ds)) xs (names-are blocks s c p i d) part (all-at _ ok 10) h)
        (part limited (and_left (every limited (ps ++ (is ++ ds))) (every limited ls) limited-names))

    buffers : buffers_rise node ≡ true
    unfolding node_ok
    buffers = all-at _ ok 3

    to-lists : lists_fine s a head ≡ true
    unfolding lists_fine buffers_rise node_from
    to-lists =
        pair
        (pair (rise ps (λ f q. every-left f ps (is ++ ds) q) (ap rising (sym (keys-records s 12 p (8 + 28 * c))) ∙ all-at _ buffers 0))
        (and_both _ _
        (rise is (λ f q. every-left f is ds (every-right f ps (is ++ ds) q)) (ap rising (sym (keys-records s 12 i (8 + 28 * c + 12 * p))) ∙ all-at _ buffers 1))
        under-i))
        (and_both _ _ (rise ds (λ f q. every-right f is ds (every-right f ps (is ++ ds) q)) (all-at _ buffers 2)) under-d)

    to-apart : apart is ds ≡ true
    unfolding node_ok named_once
    to-apart =
        apart-test is ds (distinct-split is ds (distinct-split ps (is ++ ds) (ap distinct (sym (names-are blocks s c p i d)) ∙ all-at _ ok 4)).right).off

    to-zeros : every is_zero (drop (be 2 s 0) s) ≡ true
    unfolding laid_out
    to-zeros = ap (λ (k : ℕ). every is_zero (drop k s)) used ∙ all-at _ laid 3

    count : c ≤ 8
    unfolding node_ok
    count = count_most blocks s c p i d (fewest a) (sym (count-is blocks s c p i d a) ∙ all-at _ ok 2)

    lows-inside : rises_inside (start_of a) ls ≡ true
    unfolding node_ok
    lows-inside =
        inside-make a ls (rising-floor (low_of a) ls (sym (lows-is blocks s c p i d) ∙ all-at _ ok 5) (sym (lows-above-is blocks s c p i d a) ∙ all-at _ ok 12))
        (and_right (every limited (ps ++ (is ++ ds))) (every limited ls) limited-names)

    children : all (records others 28 c 8) && distinct (records (be 2 s) 28 c 8) ≡ true
    unfolding node_ok
    children = sym (apart-is blocks s c p i d a) ∙ all-at _ ok 13

    blank : all (records (entry_blank s) 28 c 8) ≡ true
    unfolding laid_out
    blank = all-at _ laid 4

    in_table : all (records (λ e. block_ok blocks (be 2 s e)) 28 c 8) ≡ true
    unfolding node_ok
    in_table = sym (blocks_is blocks s c p i d) ∙ all-at _ ok 11

    agreeing : all (records agreeable 28 c 8) ≡ true
    unfolding node_ok node_from
    agreeing =
        sym (credible-is blocks s c p i d a (rising-from (start_of a) ls (inside-from a ls lows-inside)) (inside-before a ls lows-inside))
        ∙ and_both _ _ (all-at _ ok 14) (and_right (every limited (ps ++ (is ++ ds)) && every limited ls) (every limited (extremes es)) limits)

    covers : all (records covered 28 c 8) ≡ true
    covers =
        ⊎_elim
        (λ h. subst (λ (l : ℕ). all (records (λ e. empties e || ranks_under l (key_at s (e + 12))) 28 c 8) ≡ true) (sym (full-over h))
        (sym tops_are ∙ every-right (ranks_under low) (is ++ ds) (tops es) (under-full h)))
        (λ h. tests-mono empties 28 covered (λ e q. in_left (ranks_under over (key_at s (e + 12))) q) c 8 h.1)
        kind

    to-entries : all (records shows 28 c 8) ≡ true
    to-entries =
        tests-make shows 28 c 8
        (λ j l.
        fine-make blocks (stands_in a) over (start_of a) (8 + 28 * c) s (8 + 28 * j) (tests-at (entry_blank s) 28 c 8 j blank l) (tests-at (λ e. block_ok blocks (be 2 s e)) 28 c 8 j in_table l)
        (tests-at others 28 c 8 j (and_left (all (records others 28 c 8)) (distinct (records (be 2 s) 28 c 8)) children) l) (tests-at covered 28 c 8 j covers l)
        (tests-at agreeable 28 c 8 j agreeing l))

    to-first : first_fine (start_of a) s c ≡ true
    unfolding first_fine laid_out first_blank
    to-first =
        ⊎_elim (λ h. in_left (eqb (be 8 s 12) 0 && rises_inside (start_of a) ls) h)
        (λ h. in_right (eqb c 0) (and_both _ _ h lows-inside))
        (or-either (eqb c 0) (eqb (be 8 s 12) 0) (all-at _ laid 5))

    to-blocks : blocks_fine s c ≡ true
    to-blocks = sym (once_is s c count) ∙ and_right (all (records others 28 c 8)) (distinct (records (be 2 s) 28 c 8)) children

    to-body : body_fine s blocks a head ≡ true
    unfolding body_fine rest_fine entries_fine node_ok
    to-body = pair to-lists (pair (pair (pair (pair to-apart to-zeros) (pair to-entries to-first)) to-blocks) (sym (agrees-is blocks s c i d a keys64 p) ∙ all-at _ ok 9))

  -- ---- and back
  module _ (hd : front_fine level (fewest a) head ≡ true) (bd : body_fine s blocks a head ≡ true) where
    lists : lists_fine s a head ≡ true
    unfolding body_fine
    lists = fst _ _ bd

    more : rest_fine s blocks a head ≡ true
    unfolding body_fine
    more = snd _ _ bd

    used-back : eqb (be 2 s 0) (used_bytes version1 c p i d) ≡ true
    unfolding front_fine
    used-back = fst _ _ (fst _ _ (fst _ _ (fst _ _ (fst _ _ (fst _ _ hd)))))

    inside-p : rises_inside (start_of a) ps ≡ true
    unfolding lists_fine
    inside-p = fst _ _ (fst _ _ lists)

    both-i : rises_under (start_of a) low is ≡ true
    unfolding lists_fine
    both-i = snd _ _ (fst _ _ lists)

    both-d : rises_under (start_of a) low ds ≡ true
    unfolding lists_fine
    both-d = snd _ _ lists

    inside-i : rises_inside (start_of a) is ≡ true
    inside-i = and_left (rises_inside (start_of a) is) (every (ranks_under low) is) both-i

    inside-d : rises_inside (start_of a) ds ≡ true
    inside-d = and_left (rises_inside (start_of a) ds) (every (ranks_under low) ds) both-d

    rise-p : rising_from (low_of a) ps ≡ true
    rise-p = inside-rise a ps inside-p

    rise-i : rising_from (low_of a) is ≡ true
    rise-i = inside-rise a is inside-i

    rise-d : rising_from (low_of a) ds ≡ true
    rise-d = inside-rise a ds inside-d

    under-id : every (ranks_under low) (is ++ ds) ≡ true
    under-id =
        every-join (ranks_under low) is ds (and_right (rises_inside (start_of a) is) (every (ranks_under low) is) both-i)
        (and_right (rises_inside (start_of a) ds) (every (ranks_under low) ds) both-d)

    entries : all (records shows 28 c 8) ≡ true
    unfolding rest_fine entries_fine
    entries = fst _ _ (snd _ _ (fst _ _ (fst _ _ more)))

    first : first_fine (start_of a) s c ≡ true
    unfolding rest_fine entries_fine
    first = snd _ _ (snd _ _ (fst _ _ (fst _ _ more)))

    counted : count_fine (be 1 s 3) (fewest a) c ≡ true
    unfolding front_fine
    counted = snd _ _ (fst _ _ (fst _ _ hd))

    sizes : sizes_fine p i d ≡ true
    unfolding front_fine
    sizes = snd _ _ (fst _ _ hd)

    from-laid : laid_out version1 s c p i d ≡ true
    unfolding laid_out front_fine rest_fine first_fine first_blank
    from-laid =
        all_cons _ _ used-back
        (all_cons _ _ (snd _ _ (fst _ _ (fst _ _ (fst _ _ (fst _ _ (fst _ _ hd))))))
        (all_cons _ _ (snd _ _ (fst _ _ (fst _ _ (fst _ _ (fst _ _ hd)))))
        (all_cons _ _ (ap (λ (k : ℕ). every is_zero (drop k s)) (sym (eqb-true (be 2 s 0) (used_bytes version1 c p i d) used-back)) ∙ snd _ _ (fst _ _ (fst _ _ (fst _ _ more))))
        (all_cons _ _ (tests-mono shows 28 (entry_blank s) (λ e q. fine-blank blocks (stands_in a) over (start_of a) (8 + 28 * c) s e q) c 8 entries)
        (all_cons _ _
        (⊎_elim (λ h. in_left (eqb (be 8 s 12) 0) h)
        (λ h. in_right (eqb c 0) (and_left (eqb (be 8 s 12) 0) (rises_inside (start_of a) ls) h))
        (or-either (eqb c 0) (eqb (be 8 s 12) 0 && rises_inside (start_of a) ls) first))
        all_nil)))))

    from-rise : buffers_rise node ≡ true
    unfolding buffers_rise node_from
    from-rise =
        all_cons _ _ (ap rising (keys-records s 12 p (8 + 28 * c)) ∙ rising-lower 0 (low_of a) ps (omega arith) rise-p)
        (all_cons _ _ (ap rising (keys-records s 12 i (8 + 28 * c + 12 * p)) ∙ rising-lower 0 (low_of a) is (omega arith) rise-i)
        (all_cons _ _ (rising-lower 0 (low_of a) ds (omega arith) rise-d) all_nil))

    from_named : named_once node ≡ true
    unfolding named_once rest_fine
    from_named =
        ap distinct (names-are blocks s c p i d)
        ∙ distinct-join ps (is ++ ds) (rising-distinct (low_of a) ps rise-p)
        (distinct-join is ds (rising-distinct (low_of a) is rise-i) (rising-distinct (low_of a) ds rise-d) (apart-fact is ds (fst _ _ (fst _ _ (fst _ _ (fst _ _ more))))))
        (above_apart rank_key (is ++ ds) ps (least_above rank_key last_key (is ++ ds) ps under-id))

    inside-l : rises_inside (start_of a) ls ≡ true
    unfolding first_fine
    inside-l =
        ⊎_elim (λ h. let e : c - 1 ≡ 0 = omega (arith, eqb-true c 0 h) in ap (λ (k : ℕ). rises_inside (start_of a) (keys_from s 28 k 40)) e)
        (λ h. and_right (eqb (be 8 s 12) 0) (rises_inside (start_of a) ls) h)
        (or-either (eqb c 0) (eqb (be 8 s 12) 0 && rises_inside (start_of a) ls) first)

    from-lows : rising_from (low_of a) ls ≡ true
    from-lows = inside-rise a ls inside-l

    -- an entry's top is below P's lowest, or there is none
    from-topped : all (records topped 28 c 8) ≡ true
    unfolding above_tops
    from-topped = tests-mono shows 28 topped (λ e q. pick (ltb p 32) (empties e) (rank_key (key_at s (e + 12))) (fine-top blocks (stands_in a) over (start_of a) (8 + 28 * c) s e q)) c 8 entries
      where
        pick : (t b : Bool) (r : ℕ) → b || ltb r (cond t 0 low) ≡ true → b || ltb r low ≡ true
        pick true b r q = in_left (ltb r low) (or_right b (ltb r 0) q (leb-suc-zero r))
        pick false b r q = q

    from-above : points_above node ≡ true
    from-above =
        above-are ∙ least_above rank_key last_key ks ps (every-join (ranks_under low) (is ++ ds) (tops es) under-id (tops_are ∙ from-topped))

    from-kind : filled node || lowest node ≡ true
    unfolding sizes_fine
    from-kind =
        ⊎_elim (λ h. in_left (lowest node) (filled_is blocks s c p i d ∙ h))
        (λ h. in_right (filled node)
        (lowest-is blocks s c p i d
        ∙ and_both _ _ h
        (tests-mono shows 28 empties
        (λ e q. or_right (empties e) (ranks_under 0 (key_at s (e + 12))) (subst (λ (l : ℕ). empties e || ranks_under l (key_at s (e + 12)) ≡ true) (thin-over h) (fine-top blocks (stands_in a) over (start_of a) (8 + 28 * c) s e q)) (leb-suc-zero (rank_key (key_at s (e + 12)))))
        c 8 entries)))
        (or-either full thin sizes)

    from-others : all (records others 28 c 8) ≡ true
    from-others = tests-mono shows 28 others (λ e q. fine-other blocks (stands_in a) over (start_of a) (8 + 28 * c) s e q) c 8 entries

    from-credible : entries_credible a node && every limited (extremes node.entries) ≡ true
    from-credible =
        credible-is blocks s c p i d a (rising-from (start_of a) ls (inside-from a ls inside-l)) (inside-before a ls inside-l)
        ∙ tests-mono shows 28 agreeable (λ e q. fine-credible blocks (stands_in a) over (start_of a) (8 + 28 * c) s e q) c 8 entries

    from-limits : inside_limits node ≡ true
    unfolding node_from
    from-limits =
        limits-are blocks s c p i d
        ∙ and_both _ _
        (and_both _ _ (every-join limited ps (is ++ ds) (inside-limited a ps inside-p) (every-join limited is ds (inside-limited a is inside-i) (inside-limited a ds inside-d)))
        (inside-limited a ls inside-l))
        (and_right (entries_credible a node) (every limited (extremes es)) from-credible)

    from_all : node_ok level a node ≡ true
    unfolding node_ok front_fine rest_fine node_from
    from_all =
        all_cons _ _ from-laid
        (all_cons _ _ (snd _ _ (fst _ _ (fst _ _ (fst _ _ hd))))
        (all_cons _ _ (count-is blocks s c p i d a ∙ snd _ _ (fst _ _ (fst _ _ hd)))
        (all_cons _ _ from-rise
        (all_cons _ _ from_named
        (all_cons _ _ (lows-is blocks s c p i d ∙ rising-lower 0 (low_of a) ls (omega arith) from-lows)
        (all_cons _ _ from-above
        (all_cons _ _ from-kind
        (all_cons _ _ (leaf-is blocks s c p i d ∙ snd _ _ hd)
        (all_cons _ _ (agrees-is blocks s c i d a keys64 p ∙ snd _ _ more)
        (all_cons _ _ (floor-back a node ps is ds (names-are blocks s c p i d) rise-p rise-i rise-d)
        (all_cons _ _ (blocks_is blocks s c p i d ∙ tests-mono shows 28 (λ e. block_ok blocks (be 2 s e)) (λ e q. fine-block blocks (stands_in a) over (start_of a) (8 + 28 * c) s e q) c 8 entries)
        (all_cons _ _ (lows-above-is blocks s c p i d a ∙ rising-from (low_of a) ls from-lows)
        (all_cons _ _ (apart-is blocks s c p i d a ∙ and_both _ _ from-others (once_is s c (count_most blocks s c p i d (fewest a) counted) ∙ snd _ _ (fst _ _ more)))
        (all_cons _ _ (and_left (entries_credible a node) (every limited (extremes node.entries)) from-credible)
        (all_cons _ _ from-limits
        all_nil)))))))))))))))

  same : (front_fine level (fewest a) head and body_fine s blocks a head) ≡ node_ok level a node
  same =
      bool-ext (front_fine level (fewest a) head and body_fine s blocks a head) (node_ok level a node) (λ q. from_all (fst _ _ q) (snd _ _ q)) (λ q. pair (to-head q) (to-body q))

-- the node of a block passes exactly if its front and its body pass
pub node-is : (s : List ℕ) (blocks level : ℕ) (a : Asked) → entry_keyed a ≡ true
    → (front_fine level (fewest a) (front_of s) and body_fine s blocks a (front_of s)) ≡ node_ok level a (node_of blocks s)
unfolding front_of node_of
node-is s blocks level a k = same s blocks level a k (be 1 s 7) (be 1 s 4) (be 1 s 5) (be 1 s 6)
