-- Demand 2, from the promises of the calls alone.
-- Assumes nothing.
use mathlib.Core.Path.{◌≡◌, refl, ap, ap₂, sym, subst, ◌∙◌}
use mathlib.Core.Logic.{◌⊎◌, inl, inr, ⊎_elim, ◌↔◌}
use mathlib.Core.Bool.{Bool, true, false, cond, not, ◌&&◌, ◌||◌, true≢false}
use mathlib.Core.List.{List, [], ◌∷◌, Memᴰ}
use mathlib.Core.Option.{Option, none, some, some-injective, none-ne-some}
use Prim.Native.Nat.{ℕ, ◌-◌, ◌*◌, ◌/◌, ◌≤◌, ◌<◌}
use native.Mathlib.Omega.{arith}
use lib.ListN.{length, take, length-take}
use lib.Seq.{take_all}
use lib.Dec.{leb, ltb, eqb}
use lib.IntN.{ℤ}
use lib.Signed.{le_z}
use borrow.Author.Tests.{leb-true, le-leb, lt-ltb, eq-eqb, eqb-true, ne_eqb}
use Rattle.octets.specs.Lists.{all, every, has, keep, is_empty}
use Rattle.octets.proofs.Lists.{mem-same, mem-take}
use Rattle.octets.proofs.Tests.{all-at, and_left, or_left, or_right, refuted, every-mem, every-make, empty-list}
use Rattle.octets.proofs.Order.{less-or-not, same_or_not}
use Rattle.spot.specs.declared.Spot.{Spot}
use Rattle.spot.specs.Keys.{all_keys, key, signed32, unsigned32}
use Rattle.spot.specs.Spots.{keys, find, by_top}
use Rattle.spot.specs.Range.{of_range}
use Rattle.spot.specs.Query.{query, top_query, wants}
use Rattle.spot.proofs.Signed.{Fits, fits_signed}
use Rattle.spot.proofs.Orders.{top-wants}
use Rattle.spot.proofs.Ranks.{by_top-from, by_top-in}
use Rattle.spot.proofs.Canon.{keep-rises}
use Rattle.spot.proofs.Buffers.{keys_from_lem}
use Rattle.block.specs.declared.Answer.{Answer}
use Rattle.block.specs.Answers.{answer}
use Rattle.block.specs.Node.{store_of}
use Rattle.block.specs.Header.{head_of}
use Rattle.block.specs.Table.{table_sized}
use Rattle.block.proofs.Facts.{head-facts}
use Rattle.message.specs.declared.Change.{Change}
use Rattle.message.specs.Effects.{after_all, applied_answer}
use Rattle.message.proofs.Effects.{applied-is, applied-number}
use Rattle.tree.specs.Lookup.{live, is_live, with_key}
use Rattle.tree.specs.Walk.{Walk, spots, live_spots, live_count}
use Rattle.tree.specs.Report.{report_table}
use Rattle.tree.specs.Top.{top_table}
use Rattle.tree.specs.Sound.{sound}
use Rattle.tree.specs.Reach.{settled}
use Rattle.tree.proofs.Tables.{live-rises, live-finds, report-finds, count-finds, counted, sound-header}
use Rattle.tree.proofs.Tops.{top-finds}
use Rattle.within_theory.specs.Reading.{reading, given_of, within_table}
use Rattle.within_theory.proofs.Certain.{within_first}
use Rattle.revise.specs.Numbers.{add_number}
use Rattle.ranges.specs.Ranges.{for_each}
use Rattle.ranges.specs.declared.Range.{Range}
use Rattle.report.specs.Joined.{joined, counts_of}
use Rattle.table.specs.Calls.{add, withdraw, report, top, count, rebuild, report_many, top_within, apply, range_fits, arguments_fit}
use Rattle.table.specs.Answers.{of_table, with_scratch, with_output, with_counts, early_number, unless_refused, counts_left}
use Rattle.table.specs.Queries.{count_answer, ReportPost, ManyPost, TopPost, TopWithinPost, CountPost}
use Rattle.table.specs.Updates.{AddPost, WithdrawPost, RebuildPost, ApplyPost}
use Rattle.demands.specs.Model.{PlainSpot, PlainChange, plain_message, no_message, nothing_said, said_in, changes_outside, has_identity, top_before}
use Rattle.demands.specs.TopMarks.{MarksFew}
use Rattle.demands.specs.Demands.{LiveSpot, OfPlaces, InOrder, AtCapacity, ReportOf, TopOf, WithinOf, HandedOut, CountedOut, AddedTo, WithdrawnFrom, FirstDown, AppliedTo, RebuiltFrom, Demand2}
use Rattle.demands.proofs.Plain.{to_key_spot, SpotFits, identity-key, two-fit, three-fit, range-fit, early-is}
use Rattle.demands.proofs.Messages.{keyed_changes, changes-fit, changes-are}
use Rattle.demands.proofs.Applying.{same-identity, Lives, holds-all, none-down, first-down}
use Rattle.table.proofs.Changes.{number_is_lem}
use Rattle.demands.proofs.Keyed.{singly, singly_in, highest_by}
use Rattle.demands.proofs.Histories.{map-accepted, counts-refused, many-finds, many-counts}
use Rattle.demands.proofs.Demand.{tree_laws}
use Rattle.demands.proofs.Shown.{top-shows, within-shows}
use Rattle.demands.proofs.Reported.{handed_out, live_table, singly-few, report-of}
use Rattle.demands.proofs.MarksFew.{marks-few}
use Rattle.demands.proofs.Withins.{given-few, within-finds, within-left, under-ceiling}
use Rattle.report.proofs.Reports.{report-turned}
use Rattle.report.proofs.Joined.{for-each-map, for-each-mem, count-each-same}
use Rattle.demands.proofs.Alive.{to_plain, plain, Small, keyed-plain, plain-length, plain-take, plain-fit, plain-mem, mem-plain, falls-in-order, take-order, take-first, first-order, higher-apart, alive-fits, lives-small, kept_small, kept-live, live-kept, all_live_lem, live-count}

-- ---- Report

module _ (t : List ℕ) (g : sound t ≡ true) where
  report-given : (x1 x2 y : ℤ) → Fits x1 → Fits x2 → Fits y → (out map : List ℕ) (r : Answer) (out'' map' : List ℕ) → early_number (with_output t out map) (report x1 x2 y) ≡ 0
      → ReportPost x1 x2 y t out map r out'' map'
      → (given : List PlainSpot) × ReportOf x1 x2 y (LiveSpot t) given × HandedOut given out r out''
  report-given x1 x2 y f1 f2 fy out map r out'' map' l p = (
    plain (singly x1 x2 y (live_spots t)),
    report-of (live_spots t) (LiveSpot t) (live_table t g) x1 x2 y f1 f2 fy,
    handed_out _ (report_table t x1 x2 y) (singly x1 x2 y (live_spots t)) (report-turned t x1 x2 y _ (report-finds t g (query x1 x2 y)))
        (singly-few (live_spots t) (LiveSpot t) (live_table t g) x1 x2 y)
        out
        map
        r
        out''
        map'
        l
        p,
  )

  -- ---- many ranges

  given-in : Range → List PlainSpot
  given-in r = plain (singly_in (live_spots t) r)

  many-given : (rs : List Range) (counts out map : List ℕ) (r : Answer) (counts' out'' map' : List ℕ) → every range_fits rs ≡ true
      → early_number (with_counts t out map counts) (report_many rs) ≡ 0
      → ManyPost rs t counts out map r counts' out'' map'
      → (given : Range → List PlainSpot) × ((x : Range) → Memᴰ x rs → ReportOf x.x1 x.x2 x.y (LiveSpot t) (given x)) ×
      HandedOut (for_each given rs) out r out'' ×
      CountedOut given rs counts r counts'
  unfolding given-in counts_left
  many-given rs counts out map r counts' out'' map' fit l p = (
    given-in,
    λ x i. let f = range-fit x (every-mem range_fits rs fit i) in report-of (live_spots t) (LiveSpot t) (live_table t g) x.x1 x.x2 x.y f.0 f.1 f.2,
    subst (λ (ss : List PlainSpot). HandedOut ss out r out'') (for-each-map to_plain (singly_in (live_spots t)) rs)
        (handed_out _ (joined t rs) (for_each (singly_in (live_spots t)) rs) (many-finds tree_laws t g rs)
        (λ s i. let m = for-each-mem (singly_in (live_spots t)) rs i in singly-few (live_spots t) (LiveSpot t) (live_table t g) m.0.x1 m.0.x2 m.0.y s m.2)
        out
        map
        r
        out''
        map'
        l
        p.handed),
    record {
      counted = λ z. p.counted ∙ ap (λ (n : ℕ). counts_left n (counts_of t rs) counts) z ∙ many-counts tree_laws t g rs ∙
          count-each-same (singly_in (live_spots t)) given-in rs (λ x i. sym (plain-length (singly_in (live_spots t) x)));
      refused = λ n. p.counted ∙ counts-refused r.number (counts_of t rs) counts n;
    },
  )

  -- ---- Top

  module _ (x1 x2 : ℤ) (f1 : Fits x1) (f2 : Fits x2) (k : ℕ) where
    of_places : List Spot
    of_places = keep (wants (top_query x1 x2 0)) (live_spots t)

    ranked : List PlainSpot
    ranked = plain (by_top of_places)

    few : Small of_places
    unfolding of_places
    few = kept_small t g (wants (top_query x1 x2 0))

    few-ranked : Small (by_top of_places)
    few-ranked s i = few s (by_top-from of_places i)

    asked-places : (s : PlainSpot) → SpotFits s → of_range x1 x2 s.place ≡ wants (top_query x1 x2 0) (to_key_spot s)
    asked-places s f = top-wants x1 x2 f1 f2 s.place s.rank f.place f.rank

    to-places : (s : PlainSpot) → Memᴰ s ranked → OfPlaces x1 x2 (LiveSpot t) s
    unfolding of_places ranked
    to-places s i =
        let m = plain-mem (by_top of_places) few-ranked s i in
        let l = kept-live t g (wants (top_query x1 x2 0)) s (m.0, by_top-from of_places m.1) in
        record { alive = l.0; of = asked-places s m.0 ∙ l.1 }

    places-in : (s : PlainSpot) → OfPlaces x1 x2 (LiveSpot t) s → Memᴰ (to_key_spot s) of_places
    unfolding of_places
    places-in s h = live-kept t g (wants (top_query x1 x2 0)) s h.alive (sym (asked-places s (alive-fits t s h.alive)) ∙ h.of)

    from_places : (s : PlainSpot) → OfPlaces x1 x2 (LiveSpot t) s → Memᴰ s ranked
    unfolding ranked
    from_places s h = mem-plain (by_top of_places) s (alive-fits t s h.alive) (by_top-in of_places (places-in s h))

    falls : InOrder top_before ranked
    unfolding of_places ranked
    falls = falls-in-order of_places few (keep-rises (wants (top_query x1 x2 0)) 0 (live_spots t) (live-rises t g))

    -- fewer than k are all
    all_of : length (take k ranked) < k → take k ranked ≡ ranked
    all_of l =
        ⊎_elim (λ (h : length ranked ≤ k). take_all k ranked h) (λ (h : k < length ranked). let e = length-take k ranked in let z : ⊥ = omega arith in absurd z)
        (less-or-not (length ranked) k)

    top_of : TopOf x1 x2 k t (take k ranked)
    top_of =
        record {
          fall = take-order top_before k ranked falls;
          wanted = λ s i. to-places s (mem-take k ranked i);
          most = let e = length-take k ranked in omega arith;
          all = λ l s h. mem-same (sym (all_of l)) (from_places s h);
          highest = λ s h n r j. take-first top_before k ranked falls s (from_places s h) n r j;
        }

    is-first : (given : List PlainSpot) → TopOf x1 x2 k t given → given ≡ take k ranked
    is-first given h =
        first-order top_before SpotFits higher-apart k given ranked h.fall falls (λ s i. from_places s (h.wanted s i))
        (λ s i. alive-fits t s (to-places s i).alive)
        h.most
        (λ l s i. h.all l s (to-places s i))
        (λ s i n r j. h.highest s (to-places s i) n r j)

    -- and so for Top
    pub top-settled : (given other : List PlainSpot) → TopOf x1 x2 k t given → TopOf x1 x2 k t other → given ≡ other
    top-settled given other g h = is-first given g ∙ sym (is-first other h)

    -- the same, of the spots as the table has them
    few-first : Small (take k (by_top of_places))
    few-first s i = few-ranked s (mem-take k (by_top of_places) i)

    first_of : TopOf x1 x2 k t (plain (take k (by_top of_places)))
    unfolding ranked
    first_of = subst (TopOf x1 x2 k t) (sym (plain-take k (by_top of_places))) top_of

    top-given : (out map : List ℕ) (r : Answer) (out'' map' : List ℕ) → early_number (with_output t out map) (top x1 x2 k) ≡ 0 → TopPost x1 x2 k t out map r out'' map'
        → (given : List PlainSpot) × TopOf x1 x2 k t given × HandedOut given out r out''
    unfolding of_places
    top-given out map r out'' map' l p = (
      plain (take k (by_top of_places)),
      first_of,
      handed_out _ (top_table t x1 x2 k) (take k (by_top of_places)) (top-finds t g x1 x2 k) few-first out map r out'' map' l (top-shows t g x1 x2 k p),
    )

    -- and what it marks
    pub top-little : (out map : List ℕ) (r : Answer) (out'' map' : List ℕ) → TopPost x1 x2 k t out map r out'' map' → r.number ≡ 0 → (given : List PlainSpot) → TopOf x1 x2 k t given
        → MarksFew x1 x2 k given t map'
    unfolding of_places ranked
    top-little out map r out'' map' p z given h =
        let found = take k (by_top of_places) in
        subst (λ (l : List PlainSpot). MarksFew x1 x2 k l t map') (plain-take k (by_top of_places) ∙ sym (is-first given h))
        (marks-few t g x1 x2 (fits_signed x1 f1) (fits_signed x2 f2) k (plain found) (plain-fit found few-first)
        (keyed-plain found ∙ sym (ap spots (top-finds t g x1 x2 k).1))
        map'
        (p.marks ∙ map-accepted _ _ _ z))

  -- ---- Top within an allowance

  within-given : (x1 x2 : ℤ) → Fits x1 → Fits x2 → (k a : ℕ) (out map : List ℕ) (r : Answer) (out'' map' : List ℕ) (c : ℤ)
      → early_number (with_output t out map) (top_within x1 x2 k a) ≡ 0
      → TopWithinPost x1 x2 k a t out map r out'' map' c
      → (given : List PlainSpot) × WithinOf x1 x2 k t given r c × HandedOut given out r out''
  unfolding of_places
  within-given x1 x2 f1 f2 k a out map r out'' map' c l p =
      let n = length (given_of k (reading t x1 x2 k a)) in
      let found = highest_by x1 x2 n (live_spots t) in
      let same = within_first t g x1 x2 k a in
      let long : length (plain found) ≡ n = plain-length found ∙ ap length (sym same) in (
        plain found,
        record {
          first = subst (λ (m : ℕ). TopOf x1 x2 m t (plain found)) (sym long) (first_of x1 x2 f1 f2 n);
          few = omega (arith, long, given-few k (reading t x1 x2 k a));
          over = λ z s h out.
              let f = alive-fits t s h.alive in
              ap (le_z s.rank) (within-left t g x1 x2 k a _ _ r _ map' c p z).ceiling ∙
              under-ceiling t g x1 x2 k a s f (places-in x1 x2 f1 f2 n s h) (λ j. out (mem-plain found s f (mem-same same j)));
        },
        handed_out _ (within_table t x1 x2 k a) found (within-finds t g x1 x2 k a) (few-first x1 x2 f1 f2 n) out map r out'' map' l
            (within-shows t g x1 x2 k a p),
      )

-- ---- Add and Withdraw

with-key : (k : ℕ) (o : Option ℕ) (before : ℕ → Option ℕ) → with_key k o before k ≡ o
unfolding with_key
with-key k o before = rw (eq-eqb k k refl)

module _ (place rank : ℤ) (fp : Fits place) (fr : Fits rank) where
  -- what is live once the track of the identity is changed
  module _ (t t' : List ℕ) (o : Option ℕ) (after : (k : ℕ) → live t' k ≡ with_key (key place rank) o (live t) k) where
    now : (s : PlainSpot) → SpotFits s → (b : Bool) → has_identity place rank s ≡ b → live t' (key s.place s.rank) ≡ cond b o (live t (key s.place s.rank))
    unfolding with_key
    now s f b e =
        after (key s.place s.rank) ∙
        ap (λ (x : Bool). cond x o (live t (key s.place s.rank))) (sym (identity-key place rank fp fr s f) ∙ e)

    -- the others are as they were
    pub others : (s : PlainSpot) → LiveSpot t s → has_identity place rank s ≡ false → LiveSpot t' s
    others s h e = record { place_fits = h.place_fits; rank_fits = h.rank_fits; there = now s (alive-fits t s h) false e ∙ h.there }

    -- one that is live afterwards has the identity, and what it was given there, or was live before
    pub of_either : (s : PlainSpot) → LiveSpot t' s
        → ((has_identity place rank s ≡ true) × (o ≡ some s.track)) ⊎ (LiveSpot t s × (has_identity place rank s ≡ false))
    of_either s h = go (has_identity place rank s) refl
      where
        go : (b : Bool) → has_identity place rank s ≡ b
            → ((has_identity place rank s ≡ true) × (o ≡ some s.track)) ⊎ (LiveSpot t s × (has_identity place rank s ≡ false))
        go true e = inl (e, sym (now s (alive-fits t' s h) true e) ∙ h.there)
        go false e = inr (record { place_fits = h.place_fits; rank_fits = h.rank_fits; there = sym (now s (alive-fits t' s h) false e) ∙ h.there }, e)

  module _ (t : List ℕ) (g : sound t ≡ true) where
    none-live : is_live (live t (key place rank)) ≡ false ↔ ((s : PlainSpot) → LiveSpot t s → has_identity place rank s ≡ false)
    none-live = (
      λ n s h. refuted (has_identity place rank s)
          (λ e.
          let i = same-identity place rank fp fr s (alive-fits t s h) e in
          true≢false (ap is_live (sym h.there ∙ ap₂ (λ (p q : ℤ). live t (key p q)) i.0 i.1) ∙ n)),
      λ h. go (live t (key place rank)) refl h,
    )
      where
        go : (o : Option ℕ) → live t (key place rank) ≡ o → ((s : PlainSpot) → LiveSpot t s → has_identity place rank s ≡ false) → is_live o ≡ false
        go none e h = refl
        go (some a) e h =
            let s : PlainSpot = record { place = place; rank = rank; track = a } in
            absurd
            (true≢false
            (sym (identity-key place rank fp fr s (record { place = fp; rank = fr }) ∙ eq-eqb (key place rank) (key place rank) refl) ∙
            h s (record { place_fits = fits_signed place fp; rank_fits = fits_signed rank fr; there = e })))

    -- there are never more than the capacity
    few-live : length (live_spots t) ≤ 16 * (length t / 2048 - 1)
    few-live = omega (arith, counted t g, (head-facts (length t) (head_of t) (sound-header t g)).bound-most)

    Full : Type 0
    Full = AtCapacity t × ((s : PlainSpot) → LiveSpot t s → has_identity place rank s ≡ false)

    due : ℕ
    due = add_number (length t) (live_count t) (is_live (live t (key place rank)))

    full-number : (due ≡ 4) ↔ Full
    unfolding due add_number live_count Full
    full-number = four (leb (16 * (length t / 2048 - 1)) (length (live_spots t))) refl (is_live (live t (key place rank))) refl
      where
        four : (b : Bool) → leb (16 * (length t / 2048 - 1)) (length (live_spots t)) ≡ b → (l : Bool) → is_live (live t (key place rank)) ≡ l
            → ◌≡◌ {A = ℕ} (cond (b && not l) 4 0) 4 ↔ Full
        four true e false n =
            let h = leb-true (16 * (length t / 2048 - 1)) (length (live_spots t)) e in
            let m = few-live in
            (λ q. (record { spots = plain (live_spots t); all_live = all_live_lem t g; many = plain-length (live_spots t) ∙ omega arith }, none-live.0 n), λ q. refl)
        four true e true n = (λ (q : ◌≡◌ {A = ℕ} 0 4). absurd (omega arith), λ q. absurd (true≢false (sym n ∙ none-live.1 q.1)))
        four false e l n = (
          λ (q : ◌≡◌ {A = ℕ} 0 4). absurd (omega arith),
          λ q.
              let many = live-count t g q.0.spots q.0.all_live in
              let size = q.0.many in
              absurd (true≢false (sym (le-leb (16 * (length t / 2048 - 1)) (length (live_spots t)) (omega arith)) ∙ e)),
        )

    not_full : (due ≡ 4 → ⊥) → due ≡ 0
    unfolding due add_number
    not_full = go (leb (16 * (length t / 2048 - 1)) (live_count t) && not (is_live (live t (key place rank))))
      where
        go : (b : Bool) → (◌≡◌ {A = ℕ} (cond b 4 0) 4 → ⊥) → ◌≡◌ {A = ℕ} (cond b 4 0) 0
        go true n = absurd (n refl)
        go false n = refl

    added-to : (track : ℕ) (w : List ℕ) (r : Answer) (t' w' : List ℕ) → early_number (with_scratch t w) (add place rank track) ≡ 0 → AddPost place rank track t w r t' w'
        → AddedTo place rank track t r t'
    unfolding due Full
    added-to track w r t' w' l p =
        let n : r.number ≡ due = number_is_lem (p.update.answered g l) in
        record {
          full = (λ q. full-number.0 (sym n ∙ q), λ q. n ∙ full-number.1 q);
          accepted = λ q. n ∙ not_full (λ e. q (n ∙ e));
          after = λ z s. (
            λ h. ⊎_elim
                (λ (e : (has_identity place rank s ≡ true) × (some track ≡ some s.track)).
                let i = same-identity place rank fp fr s (alive-fits t' s h) e.0 in
                inl (λ j. record { place = i.0 j; rank = i.1 j; track = some-injective _ _ (sym e.1) j }))
                (λ (e : LiveSpot t s × (has_identity place rank s ≡ false)). inr e)
                (of_either t t' (some track) (p.update.live_after g z) s h),
            ⊎_elim
                (λ (e : s ≡ record { place = place; rank = rank; track = track }). subst (LiveSpot t') (sym e) (new-live track t' (p.update.live_after g z)))
                (λ (e : LiveSpot t s × (has_identity place rank s ≡ false)). others t t' (some track) (p.update.live_after g z) s e.0 e.1),
          );
          refused = p.update.unchanged;
          stays_sound = p.update.stays_sound g;
        }
      where
        new-live : (track : ℕ) (t' : List ℕ) → ((k : ℕ) → live t' k ≡ with_key (key place rank) (some track) (live t) k)
            → LiveSpot t' (record { place = place; rank = rank; track = track })
        new-live track t' h =
            record { place_fits = fits_signed place fp; rank_fits = fits_signed rank fr; there = h (key place rank) ∙ with-key (key place rank) (some track) (live t) }

    withdrawn-from : (w : List ℕ) (r : Answer) (t' w' : List ℕ) → early_number (with_scratch t w) (withdraw place rank) ≡ 0 → WithdrawPost place rank t w r t' w'
        → WithdrawnFrom place rank t r t'
    withdrawn-from w r t' w' l p =
        let z : r.number ≡ 0 = number_is_lem (p.update.answered g l) in
        record {
          accepted = z;
          after = λ s. (
            λ h. ⊎_elim (λ (e : (has_identity place rank s ≡ true) × (none ≡ some s.track)). absurd (none-ne-some _ e.1))
                (λ (e : LiveSpot t s × (has_identity place rank s ≡ false)). e)
                (of_either t t' none (p.update.live_after g z) s h),
            λ e. others t t' none (p.update.live_after g z) s e.0 e.1,
          );
          stays_sound = p.update.stays_sound g;
        }

-- ---- a message

zero-or-four : (n : ℕ) → has n (0 ∷ 4 ∷ []) ≡ true → (n ≡ 0) ⊎ (n ≡ 4)
zero-or-four n h =
    ⊎_elim (λ (e : n ≡ 0). inl e)
    (λ (d : n ≡ 0 → ⊥). inr (eqb-true n 4 (or_right (eqb n 4) false (or_left (eqb n 0) (eqb n 4 || false) h (ne_eqb n 0 d)) refl)))
    (same_or_not n 0)

module _ (t : List ℕ) (g : sound t ≡ true) where
  all-lives : Lives (length t) (live_spots t) (LiveSpot t)
  all-lives =
      record {
        holds = λ s. (
          λ h. (alive-fits t s h, live-finds t g (key s.place s.rank) ∙ h.there),
          λ i. record { place_fits = fits_signed s.place i.0.place; rank_fits = fits_signed s.rank i.0.rank; there = sym (live-finds t g (key s.place s.rank)) ∙ i.1 },
        );
        small = every-make (λ k. ltb k all_keys) (keys (live_spots t)) (λ k i. let r = keys_from_lem (live_spots t) i in ap (λ (j : ℕ). ltb j all_keys) r.2 ∙ lt-ltb r.0.key all_keys (lives-small t g r.0 r.1));
        rises = live-rises t g;
        few = omega (arith, counted t g, (head-facts (length t) (head_of t) (sound-header t g)).bound-most);
      }

  module _ (m w : List ℕ) (r : Answer) (t' w' : List ℕ) (l : early_number (with_scratch t w) (apply m) ≡ 0) (p : ApplyPost m t w r t' w') where
    is_said : plain_message m ≡ some (said_in (plain_message m))
    unfolding no_message
    is_said =
        go (table_sized (length t)) (leb (length t) (length w)) (plain_message m) (changes_outside (apply m)) (sym (early-is (with_scratch t w) (apply m)) ∙ l)
      where
        go : (a b : Bool) (o : Option (List PlainChange)) (f : Bool) → ◌≡◌ {A = ℕ} (cond a (cond b (cond (nothing_said o) 8 (cond f 9 0)) 2) 1) 0 → o ≡ some (said_in o)
        go true true none f h = absurd (omega (arith, h))
        go true true (some cs) f h = refl
        go true false o f h = absurd (omega (arith, h))
        go false b o f h = absurd (omega (arith, h))

    message-due : r ≡ applied_answer (length t) (keyed_changes (said_in (plain_message m))) (live_spots t)
    message-due = p.update.answered g l ∙ ap (λ (ks : List Change). applied_answer (length t) ks (live_spots t)) (changes-are m)

    number-due : r.number ≡ (applied_answer (length t) (keyed_changes (said_in (plain_message m))) (live_spots t)).number
    number-due = ap (λ (a : Answer). a.number) message-due

    applied-to : AppliedTo (said_in (plain_message m)) t r t'
    applied-to =
        let cs = said_in (plain_message m) in
        let fit = changes-fit m in
        record {
          numbers = zero-or-four r.number (ap (λ (n : ℕ). has n (0 ∷ 4 ∷ [])) number-due ∙ applied-number (length t) 0 (keyed_changes cs) (live_spots t));
          turned_down = λ z.
              let d = first-down (length t) 0 cs fit (live_spots t) (LiveSpot t) all-lives (sym number-due ∙ z) in
              let at : d.0 ≡ r.detail = sym (ap (λ (a : Answer). a.detail) message-due ∙ d.1 ∙ omega arith) in
              (subst (λ (i : ℕ). FirstDown (length t) i cs (LiveSpot t)) at d.2, p.update.unchanged (λ y. omega (arith, y, z)));
          accepted = λ z. (
            ap (λ (a : Answer). a.detail) (message-due ∙ (applied-is (length t) 0 (keyed_changes cs) (live_spots t)).done (sym number-due ∙ z)),
            none-down (length t) 0 cs fit (live_spots t) (LiveSpot t) all-lives (sym number-due ∙ z),
          );
          after = λ z s.
              let h = holds-all cs fit (live_spots t) (LiveSpot t) all-lives.holds s in
              let now : live t' (key s.place s.rank) ≡ find (key s.place s.rank) (after_all (keyed_changes cs) (live_spots t)) =
              p.update.live_after g z (key s.place s.rank) ∙ ap (λ (ks : List Change). find (key s.place s.rank) (after_all ks (live_spots t))) (changes-are m) in (
                λ a. h.1 (alive-fits t' s a, sym now ∙ a.there),
                λ a. let i = h.0 a in record { place_fits = fits_signed s.place i.0.place; rank_fits = fits_signed s.rank i.0.rank; there = now ∙ i.1 },
              );
          stays_sound = p.update.stays_sound g;
        }

-- ---- Count and Rebuild

module _ (t : List ℕ) (g : sound t ≡ true) where
  count-given : (r : Answer) → early_number (of_table t) count ≡ 0 → CountPost t r → r ≡ answer 0 (length (plain (live_spots t)))
  unfolding unless_refused count_answer
  count-given r l p =
      p.answered ∙ ap₂ (λ (n : ℕ) (w : Walk). unless_refused n (count_answer w)) l (count-finds t g).1 ∙ ap (answer 0) (sym (plain-length (live_spots t)))

  rebuilt-from : (w : List ℕ) (r : Answer) (t' w' : List ℕ) → early_number (with_scratch t w) rebuild ≡ 0 → RebuildPost t w r t' w' → RebuiltFrom t r t'
  unfolding settled
  rebuilt-from w r t' w' l p =
      let a : r ≡ answer 0 0 = p.update.answered g l in
      let z : r.number ≡ 0 = number_is_lem a in
      let same : (k : ℕ) → live t' k ≡ live t k = p.update.live_after g z in
      record {
        accepted = a;
        after = λ s. (
          λ h. record { place_fits = h.place_fits; rank_fits = h.rank_fits; there = sym (same (key s.place s.rank)) ∙ h.there },
          λ h. record { place_fits = h.place_fits; rank_fits = h.rank_fits; there = same (key s.place s.rank) ∙ h.there },
        );
        carried_out = λ b i.
            let e : all (is_empty (store_of t' b).inserts ∷ is_empty (store_of t' b).deletes ∷ []) ≡ true = every-mem (λ n. settled (store_of t' n)) _ (p.carried_out z) i in
            (empty-list (store_of t' b).inserts (all-at _ e 0), empty-list (store_of t' b).deletes (all-at _ e 1));
        stays_sound = p.update.stays_sound g;
      }

-- ---- the demand

pub demand2 : Demand2
unfolding arguments_fit
demand2 =
    record {
      adds = λ place rank track t w r t' w' h p.
          let f = two-fit place rank (and_left (signed32 place && signed32 rank) (unsigned32 track) h.arguments) in
          added-to place rank f.0 f.1 t h.table track w r t' w' h.lent p;
      withdraws = λ place rank t w r t' w' h p.
          let f = two-fit place rank h.arguments in
          withdrawn-from place rank f.0 f.1 t h.table w r t' w' h.lent p;
      reports = λ x1 x2 y t out map r out'' map' h p.
          let f = three-fit x1 x2 y h.arguments in
          report-given t h.table x1 x2 y f.0 f.1 f.2 out map r out'' map' h.lent p;
      tops = λ x1 x2 k t out map r out'' map' h p.
          let f = two-fit x1 x2 (and_left (signed32 x1 && signed32 x2) (unsigned32 k) h.arguments) in
          top-given t h.table x1 x2 f.0 f.1 k out map r out'' map' h.lent p;
      manys = λ rs t counts out map r counts' out'' map' h p. many-given t h.table rs counts out map r counts' out'' map' h.arguments h.lent p;
      withins = λ x1 x2 k a t out map r out'' map' c h p.
          let b = and_left (signed32 x1 && signed32 x2 && unsigned32 k) (unsigned32 a) h.arguments in
          let f = two-fit x1 x2 (and_left (signed32 x1 && signed32 x2) (unsigned32 k) b) in
          within-given t h.table x1 x2 f.0 f.1 k a out map r out'' map' c h.lent p;
      applies = λ m t w r t' w' h p.
          (said_in (plain_message m), is_said t h.table m w r t' w' h.lent p, applied-to t h.table m w r t' w' h.lent p);
      counts = λ t r h p. (plain (live_spots t), all_live_lem t h.table, count-given t h.table r h.lent p);
      rebuilds = λ t w r t' w' h p. rebuilt-from t h.table w r t' w' h.lent p;
    }
