-- The model against the plain list over keys: as long as all numbers are within their 32 bits they answer alike, and hold the same spots.
-- Assumes nothing.
use mathlib.Core.Path.{◌≡◌, refl, sym, ap, ap₂, subst, ◌∙◌}
use mathlib.Core.Bool.{Bool, true, false, cond, not, ◌&&◌, ◌||◌, false≢true}
use mathlib.Core.List.{List, [], ◌∷◌, ◌++◌, map, map-append, Memᴰ}
use mathlib.Core.Option.{Option, some}
use Prim.Native.Nat.{ℕ, zero, suc, ◌-◌, ◌*◌, ◌/◌, ◌%◌}
use lib.ListN.{length, take, drop}
use lib.Dec.{leb, ltb, eqb}
use lib.IntN.{ℤ}
use lib.Signed.{le_z, lt_z}
use Rattle.octets.specs.Lists.{all, every, has, keep}
use Rattle.octets.proofs.Tests.{and_left, and_right, cond-not, every-mem}
use Rattle.octets.proofs.Order.{eqb-flip, not-leb}
use Rattle.spot.specs.declared.Spot.{Spot}
use Rattle.spot.specs.Keys.{key, top_key, in_limits, signed32, unsigned32}
use Rattle.spot.specs.Spots.{spot_bytes, spots_bytes, keys, find, put, put_top, by_top, from_on, without}
use Rattle.spot.specs.Range.{of_range}
use Rattle.spot.specs.Query.{query, top_query, from_of, wants}
use Rattle.spot.proofs.Signed.{Fits, signed-fits}
use Rattle.spot.proofs.Orders.{report-wants, top-wants}
use Rattle.block.specs.declared.Answer.{Answer}
use Rattle.block.specs.Answers.{answer}
use Rattle.block.specs.Table.{sized_for, table_sized}
use Rattle.message.specs.declared.Change.{Change}
use Rattle.message.specs.Effects.{after_change, after_all, turns_down, applied_from, applied_answer}
use Rattle.tree.specs.Lookup.{is_live}
use Rattle.ranges.specs.Ranges.{for_each, count_each}
use Rattle.ranges.specs.declared.Range.{Range}
use Rattle.report.proofs.Joined.{for-each-same, for-each-map, count-each-same}
use Rattle.table.specs.Calls.{Call, format, add, withdraw, report, top, count, check, rebuild, report_many, top_within, apply, Kind, makes, updates, queries, queries_each, tells, kind, Lengths, range_fits, arguments_fit}
use Rattle.revise.specs.Numbers.{add_number}
use Rattle.table.proofs.Changes.{early-detail}
use Rattle.table.specs.Answers.{lent, few_enough, argument_number, early_number, early_detail, spots_answer, output_left, counts_left}
use Rattle.demands.specs.Model.{PlainSpot, has_identity, place_before, top_before, of_places, of_report, chosen, from_onward, reported, reported_in, insert_by, sort_by, listed, taken_out, brought_in, highest, four_bytes, complement, as_bytes, Plain, begun_empty, Reply, output_after, refuse, accept, bad_table, bad_lent, too_many, PlainChange, hang, take_down, plain_message, changes_in, no_message, said_in, outside, position_outside, changes_outside, full, turned_down, changed_by, applied, hand_out, own_reply, reply}
use Rattle.demands.proofs.Keyed.{KeyReply, key_reply, reply_to, refused_or, accepted, changed, next_by, gives, singly, singly_in, highest_by}
use Rattle.demands.proofs.Messages.{to_key_change, keyed_changes, ChangeFits, ChangesFit, changes-fit, changes-are, message-number, message-detail}
use Rattle.demands.proofs.Orders.{not-both, outside-limits, model-places, model-tops, model-identity, model-from, model-under, four_bytes_lem, key-bytes}

-- a spot of the model as the table's definitions have it
abbrev pub to_key_spot : PlainSpot → Spot
to_key_spot s = record { key = key s.place s.rank; track = s.track }

-- and a list of them
abbrev pub keyed : List PlainSpot → List Spot
keyed ss = map to_key_spot ss

-- its place and rank are within 32 bits
pub record SpotFits (s : PlainSpot) : Type 0 where
  pub place : Fits s.place
  pub rank : Fits s.rank

-- so it is with each spot of a list
abbrev pub AllFit : List PlainSpot → Type 0
AllFit [] = Unit {0}
AllFit (s ∷ ss) = SpotFits s × AllFit ss

-- ---- the operations on lists, each against its fellow on keys

-- the length
pub keyed-length : (ss : List PlainSpot) → length (keyed ss) ≡ length ss
keyed-length [] = refl
keyed-length (s ∷ ss) = ap suc (keyed-length ss)

keyed-take : (k : ℕ) (ss : List PlainSpot) → keyed (take k ss) ≡ take k (keyed ss)
keyed-take zero ss = refl
keyed-take (suc k) [] = refl
keyed-take (suc k) (s ∷ ss) = ap (λ (l : List Spot). to_key_spot s ∷ l) (keyed-take k ss)

take-fit : (k : ℕ) (ss : List PlainSpot) → AllFit ss → AllFit (take k ss)
take-fit zero ss f = tt
take-fit (suc k) [] f = tt
take-fit (suc k) (s ∷ ss) f = (f.0, take-fit k ss f.1)

append-fit : (xs ys : List PlainSpot) → AllFit xs → AllFit ys → AllFit (xs ++ ys)
append-fit [] ys f g = g
append-fit (x ∷ xs) ys f g = (f.0, append-fit xs ys f.1 g)

keyed-cond : (b : Bool) (xs ys : List PlainSpot) → keyed (cond b xs ys) ≡ cond b (keyed xs) (keyed ys)
keyed-cond true xs ys = refl
keyed-cond false xs ys = refl

cond-fit : (b : Bool) (xs ys : List PlainSpot) → AllFit xs → AllFit ys → AllFit (cond b xs ys)
cond-fit true xs ys f g = f
cond-fit false xs ys f g = g

module _ (f : PlainSpot → Bool) where
  chosen-fit : (ss : List PlainSpot) → AllFit ss → AllFit (chosen f ss)
  chosen-fit [] h = tt
  chosen-fit (s ∷ ss) h = cond-fit (f s) (s ∷ chosen f ss) (chosen f ss) (h.0, chosen-fit ss h.1) (chosen-fit ss h.1)

  keyed-chosen : (g : Spot → Bool) → ((s : PlainSpot) → SpotFits s → f s ≡ g (to_key_spot s)) → (ss : List PlainSpot) → AllFit ss
      → keyed (chosen f ss) ≡ keep g (keyed ss)
  keyed-chosen g same [] h = refl
  keyed-chosen g same (s ∷ ss) h =
      keyed-cond (f s) (s ∷ chosen f ss) (chosen f ss) ∙
      ap₂ (λ (b : Bool) (l : List Spot). cond b (to_key_spot s ∷ l) l) (same s h.0) (keyed-chosen g same ss h.1)

module _ (before : PlainSpot → PlainSpot → Bool) where
  insert-fit : (s : PlainSpot) (xs : List PlainSpot) → SpotFits s → AllFit xs → AllFit (insert_by before s xs)
  insert-fit s [] f h = (f, tt)
  insert-fit s (x ∷ xs) f h =
      cond-fit (before x s) (x ∷ insert_by before s xs) (s ∷ x ∷ xs) (h.0, insert-fit s xs f h.1) (f, h)

  sort-fit : (ss : List PlainSpot) → AllFit ss → AllFit (sort_by before ss)
  sort-fit [] h = tt
  sort-fit (s ∷ ss) h = insert-fit s (sort_by before ss) h.0 (sort-fit ss h.1)

-- one step of an insertion
step_in : (b : Bool) (s x : PlainSpot) (ins xs : List PlainSpot) (c : Bool) (l : List Spot) → b ≡ not c → keyed ins ≡ l
    → keyed (cond b (x ∷ ins) (s ∷ x ∷ xs)) ≡ cond c (to_key_spot s ∷ to_key_spot x ∷ keyed xs) (to_key_spot x ∷ l)
step_in b s x ins xs c l e k =
    keyed-cond b (x ∷ ins) (s ∷ x ∷ xs) ∙
    ap₂ (λ (t : Bool) (m : List Spot). cond t (to_key_spot x ∷ m) (to_key_spot s ∷ to_key_spot x ∷ keyed xs)) e k ∙
    cond-not c (to_key_spot x ∷ l) (to_key_spot s ∷ to_key_spot x ∷ keyed xs)

-- place order is the order of keys
pub before-is : (x s : PlainSpot) → SpotFits x → SpotFits s → place_before x s ≡ ltb (to_key_spot x).key (to_key_spot s).key
unfolding place_before
before-is x s f g = model-places x.place x.rank s.place s.rank f.place f.rank g.place g.rank

before-keys : (x s : PlainSpot) → SpotFits x → SpotFits s → place_before x s ≡ not (leb (to_key_spot s).key (to_key_spot x).key)
before-keys x s f g = before-is x s f g ∙ sym (not-leb (to_key_spot s).key (to_key_spot x).key)

-- the order of Top's answers is that of top keys
pub top-is : (x s : PlainSpot) → SpotFits x → SpotFits s → top_before x s ≡ ltb (top_key (to_key_spot s).key) (top_key (to_key_spot x).key)
unfolding top_before
top-is x s f g = model-tops s.place s.rank x.place x.rank g.place g.rank f.place f.rank

top-keys : (x s : PlainSpot) → SpotFits x → SpotFits s → top_before x s ≡ not (leb (top_key (to_key_spot x).key) (top_key (to_key_spot s).key))
top-keys x s f g = top-is x s f g ∙ sym (not-leb (top_key (to_key_spot x).key) (top_key (to_key_spot s).key))

keyed-put : (s : PlainSpot) (xs : List PlainSpot) → SpotFits s → AllFit xs → keyed (insert_by place_before s xs) ≡ put (to_key_spot s) (keyed xs)
keyed-put s [] f h = refl
keyed-put s (x ∷ xs) f h =
    step_in (place_before x s) s x (insert_by place_before s xs) xs (leb (to_key_spot s).key (to_key_spot x).key) (put (to_key_spot s) (keyed xs)) (before-keys x s h.0 f) (keyed-put s xs f h.1)

keyed-top : (s : PlainSpot) (xs : List PlainSpot) → SpotFits s → AllFit xs → keyed (insert_by top_before s xs) ≡ put_top (to_key_spot s) (keyed xs)
keyed-top s [] f h = refl
keyed-top s (x ∷ xs) f h =
    step_in (top_before x s) s x (insert_by top_before s xs) xs (leb (top_key (to_key_spot x).key) (top_key (to_key_spot s).key)) (put_top (to_key_spot s) (keyed xs)) (top-keys x s h.0 f) (keyed-top s xs f h.1)

keyed-sort : (ss : List PlainSpot) → AllFit ss → keyed (sort_by top_before ss) ≡ by_top (keyed ss)
keyed-sort [] h = refl
keyed-sort (s ∷ ss) h =
    keyed-top s (sort_by top_before ss) h.0 (sort-fit top_before ss h.1) ∙ ap (put_top (to_key_spot s)) (keyed-sort ss h.1)

-- the arguments, from the tests
pub two-fit : (x y : ℤ) → signed32 x && signed32 y ≡ true → Fits x × Fits y
two-fit x y a = (signed-fits x (and_left (signed32 x) (signed32 y) a), signed-fits y (and_right (signed32 x) (signed32 y) a))

-- three, as a Report has them
pub three-signed : (x1 x2 y : ℤ) → signed32 x1 && signed32 x2 && signed32 y ≡ true → (signed32 x1 ≡ true) × (signed32 x2 ≡ true) × (signed32 y ≡ true)
three-signed x1 x2 y a =
    let f = and_left (signed32 x1 && signed32 x2) (signed32 y) a in
    (and_left (signed32 x1) (signed32 x2) f, and_right (signed32 x1) (signed32 x2) f, and_right (signed32 x1 && signed32 x2) (signed32 y) a)

pub three-fit : (x1 x2 y : ℤ) → signed32 x1 && signed32 x2 && signed32 y ≡ true → Fits x1 × Fits x2 × Fits y
three-fit x1 x2 y a = let s = three-signed x1 x2 y a in (signed-fits x1 s.0, signed-fits x2 s.1, signed-fits y s.2)

-- and as a range has them
pub range-fit : (r : Range) → range_fits r ≡ true → Fits r.x1 × Fits r.x2 × Fits r.y
unfolding range_fits
range-fit r a = three-fit r.x1 r.x2 r.y a

-- one identity, one key
module _ (place rank : ℤ) (fp : Fits place) (fr : Fits rank) where
  -- one identity, one key
  pub identity-key : (s : PlainSpot) → SpotFits s → has_identity place rank s ≡ eqb (to_key_spot s).key (key place rank)
  unfolding has_identity
  identity-key s f = model-identity s.place s.rank place rank f.place f.rank fp fr

  keyed-out : (ss : List PlainSpot) → AllFit ss → keyed (taken_out place rank ss) ≡ without (key place rank) (keyed ss)
  unfolding taken_out without
  keyed-out ss h =
      keyed-chosen (λ s. not (has_identity place rank s)) (λ s. not (eqb s.key (key place rank))) (λ s f. ap not (identity-key s f)) ss h

  -- what is left fits
  pub out-fit : (ss : List PlainSpot) → AllFit ss → AllFit (taken_out place rank ss)
  unfolding taken_out
  out-fit ss h = chosen-fit (λ s. not (has_identity place rank s)) ss h

  live_cond : (b : Bool) (a : ℕ) (o : Option ℕ) → is_live (cond b (some a) o) ≡ b || is_live o
  live_cond true a o = refl
  live_cond false a o = refl

  listed-live : (ss : List PlainSpot) → AllFit ss → listed place rank ss ≡ is_live (find (key place rank) (keyed ss))
  listed-live [] h = refl
  listed-live (s ∷ ss) h =
      ap₂ (λ (a b : Bool). a || b) (identity-key s h.0 ∙ eqb-flip (to_key_spot s).key (key place rank)) (listed-live ss h.1) ∙
      sym (live_cond (eqb (key place rank) (to_key_spot s).key) s.track (find (key place rank) (keyed ss)))

  listed_has : (ss : List PlainSpot) → AllFit ss → listed place rank ss ≡ has (key place rank) (keys (keyed ss))
  listed_has [] h = refl
  listed_has (s ∷ ss) h =
      ap₂ (λ (a b : Bool). a || b) (identity-key s h.0 ∙ eqb-flip (to_key_spot s).key (key place rank)) (listed_has ss h.1)

  module _ (track : ℕ) where
    -- the new spot
    abbrev pub new : PlainSpot
    new = record { place = place; rank = rank; track = track }

    keyed-in : (ss : List PlainSpot) → AllFit ss
        → keyed (brought_in new ss)
        ≡ put (record { key = key place rank; track = track }) (without (key place rank) (keyed ss))
    unfolding brought_in
    keyed-in ss h =
        keyed-put new (taken_out place rank ss) (record { place = fp; rank = fr }) (out-fit ss h) ∙
        ap (put (record { key = key place rank; track = track })) (keyed-out ss h)

    pub in-fit : (ss : List PlainSpot) → AllFit ss → AllFit (brought_in new ss)
    unfolding brought_in
    in-fit ss h = insert-fit place_before new (taken_out place rank ss) (record { place = fp; rank = fr }) (out-fit ss h)

report-fit : (x1 x2 y : ℤ) (ss : List PlainSpot) → AllFit ss → AllFit (reported x1 x2 y ss)
unfolding reported from_onward
report-fit x1 x2 y ss h =
    let f = chosen-fit (of_report x1 x2 y) ss h in
    append-fit (chosen (λ s. le_z x1 s.place) (chosen (of_report x1 x2 y) ss)) _ (chosen-fit _ (chosen (of_report x1 x2 y) ss) f) (chosen-fit _ (chosen (of_report x1 x2 y) ss) f)

module _ (x1 x2 : ℤ) (f1 : Fits x1) (f2 : Fits x2) where
  -- the spots from x1 up first
  keyed-onward : (y : ℤ) (ss : List PlainSpot) → AllFit ss → keyed (from_onward x1 ss) ≡ from_on (from_of (query x1 x2 y)) (keyed ss)
  unfolding from_onward from_on
  keyed-onward y ss h =
      map-append to_key_spot (chosen (λ s. le_z x1 s.place) ss) (chosen (λ s. lt_z s.place x1) ss) ∙
      ap₂ (λ (l m : List Spot). l ++ m)
      (keyed-chosen _ (λ s. leb (from_of (query x1 x2 y)) s.key) (λ s f. model-from x1 x2 y s.place s.rank f1 f.place f.rank) ss h)
      (keyed-chosen _ (λ s. ltb s.key (from_of (query x1 x2 y))) (λ s f. model-under x1 x2 y s.place s.rank f1 f.place f.rank) ss h)

  keyed-report : (y : ℤ) → Fits y → (ss : List PlainSpot) → AllFit ss → keyed (reported x1 x2 y ss) ≡ singly x1 x2 y (keyed ss)
  unfolding reported of_report of_places of_range
  keyed-report y fy ss h =
      keyed-onward y (chosen (of_report x1 x2 y) ss) (chosen-fit (of_report x1 x2 y) ss h) ∙
      ap (from_on (from_of (query x1 x2 y)))
      (keyed-chosen (of_report x1 x2 y) (wants (query x1 x2 y)) (λ s f. report-wants x1 x2 f1 f2 s.place s.rank f.place f.rank y fy) ss h)

  -- what Top gives, and that it fits
  pub keyed-highest : (k : ℕ) (ss : List PlainSpot) → AllFit ss → keyed (highest x1 x2 k ss) ≡ highest_by x1 x2 k (keyed ss)
  unfolding highest of_places of_range
  keyed-highest k ss h =
      keyed-take k (sort_by top_before (chosen (of_places x1 x2) ss)) ∙
      ap (take k)
      (keyed-sort (chosen (of_places x1 x2) ss) (chosen-fit (of_places x1 x2) ss h) ∙
      ap by_top
      (keyed-chosen (of_places x1 x2) (wants (top_query x1 x2 0)) (λ s f. top-wants x1 x2 f1 f2 s.place s.rank f.place f.rank) ss h))

  pub highest-fit : (k : ℕ) (ss : List PlainSpot) → AllFit ss → AllFit (highest x1 x2 k ss)
  unfolding highest
  highest-fit k ss h = take-fit k (sort_by top_before (chosen (of_places x1 x2) ss)) (sort-fit top_before (chosen (of_places x1 x2) ss) (chosen-fit (of_places x1 x2) ss h))

-- many ranges
module _ (ss : List PlainSpot) (h : AllFit ss) where
  each-fit : (rs : List Range) → AllFit (for_each (reported_in ss) rs)
  each-fit [] = tt
  each-fit (r ∷ rs) = append-fit (reported_in ss r) (for_each (reported_in ss) rs) (report-fit r.x1 r.x2 r.y ss h) (each-fit rs)

  module _ (rs : List Range) (fit : every range_fits rs ≡ true) where
    keyed-one : (r : Range) → Memᴰ r rs → keyed (reported_in ss r) ≡ singly_in (keyed ss) r
    keyed-one r i = let f = range-fit r (every-mem range_fits rs fit i) in keyed-report r.x1 r.x2 f.0 f.1 r.y f.2 ss h

    keyed-each : keyed (for_each (reported_in ss) rs) ≡ for_each (singly_in (keyed ss)) rs
    keyed-each = for-each-map to_key_spot (reported_in ss) rs ∙ for-each-same _ (singly_in (keyed ss)) rs keyed-one

    counts_each : count_each (reported_in ss) rs ≡ count_each (singly_in (keyed ss)) rs
    counts_each = count-each-same (reported_in ss) (singly_in (keyed ss)) rs (λ r i. sym (keyed-length (reported_in ss r)) ∙ ap length (keyed-one r i))

-- ---- bytes

spot-bytes : (s : PlainSpot) → SpotFits s
    → four_bytes (complement s.place) ++ four_bytes (complement s.rank) ++ four_bytes s.track ≡ spot_bytes (to_key_spot s)
unfolding spot_bytes
spot-bytes s f =
    ap₂ (λ (x y : List ℕ). x ++ y) (key-bytes s.place s.rank f.place f.rank) (four_bytes_lem s.track)

-- the bytes
pub keyed-bytes : (ss : List PlainSpot) → AllFit ss → as_bytes ss ≡ spots_bytes (keyed ss)
keyed-bytes [] h = refl
keyed-bytes (s ∷ ss) h = ap₂ (λ (x y : List ℕ). x ++ y) (spot-bytes s h.0) (keyed-bytes ss h.1)

-- ---- replies

-- a reply of the model and one of the plain list over keys say the same
pub record Like (r : Reply) (k : KeyReply) : Type 0 where
  pub answer : r.answer ≡ k.answer
  pub output : (out : List ℕ) → output_after r out ≡ output_left k.answer.number k.given out
  pub counts : r.counts ≡ k.counts
  pub next : keyed r.next.spots ≡ k.next
  pub fit : AllFit r.next.spots

like-accept : (d : ℕ) (next : Plain) → AllFit next.spots → Like (accept d [] [] next) (accepted d (keyed next.spots))
unfolding accept accepted output_after output_left
like-accept d next f = record { answer = refl; output = λ out. refl; counts = refl; next = refl; fit = f }

module _ (ps : Plain) (fit : AllFit ps.spots) where
  -- a refusal that both give
  like-refused : (n d e : ℕ) (y : KeyReply) → e ≡ d → Like (refuse (suc n) d ps) (refused_or (suc n) e (keyed ps.spots) y)
  unfolding refuse refused_or output_after output_left
  like-refused n d e y q = record { answer = ap (answer (suc n)) (sym q); output = λ out. refl; counts = refl; next = refl; fit = fit }

  -- 1, 2, 6, 8 and 9, by lengths and arguments; 9 has the detail d
  module _ (detail : ℕ → ℕ) (plain : (n : ℕ) → eqb n 9 ≡ false → detail n ≡ 0) (d : ℕ) (x : Reply) (y : KeyReply) (own : Like x y) where
    early : Bool → Bool → Bool → Bool → Bool → ℕ
    early sized lent few nothing out = cond sized (cond lent (cond few (cond nothing 8 (cond out 9 0)) 6) 2) 1

    like-early : (sized lent few nothing out : Bool) → (nothing ≡ false → out ≡ true → detail 9 ≡ d)
        → Like (cond (not sized) (refuse 1 0 ps) (cond (not lent) (refuse 2 0 ps) (cond (not few) (refuse 6 0 ps) (cond nothing (refuse 8 0 ps) (cond out (refuse 9 d ps) x)))))
        (refused_or (early sized lent few nothing out) (detail (early sized lent few nothing out)) (keyed ps.spots) y)
    unfolding early refused_or
    like-early true true true false false h = own
    like-early true true true false true h = like-refused 8 d (detail 9) y (h refl refl)
    like-early true true true true out h = like-refused 7 0 (detail 8) y (plain 8 refl)
    like-early true true false nothing out h = like-refused 5 0 (detail 6) y (plain 6 refl)
    like-early true false few nothing out h = like-refused 1 0 (detail 2) y (plain 2 refl)
    like-early false lent few nothing out h = like-refused 0 0 (detail 1) y (plain 1 refl)

  -- 4, or the list is another
  like-full : (b : Bool) (next : Plain) (keys : List Spot) → AllFit next.spots → keyed next.spots ≡ keys
      → Like (cond b (refuse 4 0 ps) (accept 0 [] [] next)) (changed (answer (cond b 4 0) 0) (keyed ps.spots) keys)
  unfolding refuse accept changed next_by output_after output_left
  like-full true next keys f e = record { answer = refl; output = λ out. refl; counts = refl; next = refl; fit = fit }
  like-full false next keys f e = record { answer = refl; output = λ out. refl; counts = refl; next = e; fit = f }

  -- 4 of a message
  like-turned : (i : ℕ) (keys : List Spot) → Like (refuse 4 i ps) (changed (answer 4 i) (keyed ps.spots) keys)
  unfolding refuse changed next_by output_after output_left
  like-turned i keys = record { answer = refl; output = λ out. refl; counts = refl; next = refl; fit = fit }

  turned_or : (b : Bool) (i : ℕ) (x : Reply) (a : Answer) (keys : List Spot) → Like x (changed a (keyed ps.spots) keys)
      → Like (cond b (refuse 4 i ps) x) (changed (cond b (answer 4 i) a) (keyed ps.spots) keys)
  turned_or true i x a keys h = like-turned i keys
  turned_or false i x a keys h = h

  -- 5
  like-out : (b : Bool) (found : List PlainSpot) (counts : List ℕ) → AllFit found
      → Like (cond b (refuse 5 (length found) ps) (accept (length found) found counts ps))
      (record { answer = record { number = cond b 5 0; detail = length found }; given = keyed found; counts = counts_left (cond b 5 0) counts []; next = keyed ps.spots })
  unfolding refuse accept output_after output_left counts_left
  like-out true found counts f = record { answer = refl; output = λ out. refl; counts = refl; next = refl; fit = fit }
  like-out false found counts f =
      record {
        answer = refl;
        output = λ out. ap₂ (λ (l : List ℕ) (n : ℕ). l ++ drop (12 * n) out) (keyed-bytes found f) (sym (keyed-length found));
        counts = refl;
        next = refl;
        fit = fit;
      }

  like-given : (bytes : ℕ) (found : List PlainSpot) (keys : List Spot) (counts counted : List ℕ) → AllFit found → keyed found ≡ keys → counts ≡ counted
      → Like (hand_out bytes found counts ps) (gives bytes keys counted (keyed ps.spots))
  unfolding hand_out gives spots_answer
  like-given bytes found keys counts counted f e k = rw (← e, ← k, keyed-length found) (like-out (ltb (bytes / 12) (length found)) found counts f)

-- 1
not-all : (a b c : Bool) → not a || not b || not c ≡ not (all (a ∷ b ∷ c ∷ []))
unfolding all
not-all true true true = refl
not-all true true false = refl
not-all true false c = refl
not-all false b c = refl

-- a table of a wrong length
pub bad-table : (bytes : ℕ) → bad_table bytes ≡ not (table_sized bytes)
unfolding bad_table sized_for
bad-table bytes =
    ap₂ (λ (a b : Bool). not (eqb (bytes % 2048) 0) || a || b) (sym (not-leb 9 (bytes / 2048))) (sym (not-leb (bytes / 2048) 4096)) ∙
    not-all (eqb (bytes % 2048) 0) (leb 9 (bytes / 2048)) (leb (bytes / 2048) 4096)

-- and what is lent beside it
bad-lent : (l : Lengths) (k : Kind) → bad_lent l k ≡ not (lent l k)
unfolding bad_lent
bad-lent l makes = refl
bad-lent l updates = sym (not-leb l.table l.scratch)
bad-lent l queries = refl
bad-lent l (queries_each n) = not-both (eqb l.read_map 512) (eqb l.counts n)
bad-lent l tells = refl

-- 6
too_many_lem : (k : Kind) → too_many k ≡ not (few_enough k)
unfolding too_many
too_many_lem makes = refl
too_many_lem updates = refl
too_many_lem queries = refl
too_many_lem (queries_each n) = sym (not-leb n 64)
too_many_lem tells = refl

-- 8 and 9
plain-number : (b : Bool) → cond {A = ℕ} (not b) 9 0 ≡ cond b 0 9
plain-number true = refl
plain-number false = refl

place-number : (place : ℤ) → cond {A = ℕ} (in_limits place) 0 9 ≡ cond (outside place || false) 9 0
place-number place = sym (ap (λ (b : Bool). cond {A = ℕ} b 9 0) (or-none (outside place) ∙ outside-limits place) ∙ plain-number (in_limits place))
  where
    or-none : (b : Bool) → b || false ≡ b
    or-none true = refl
    or-none false = refl

pub argument-number : (c : Call) → argument_number c ≡ cond (no_message c) 8 (cond (changes_outside c) 9 0)
unfolding no_message changes_outside
argument-number format = refl
argument-number (add place rank track) = place-number place
argument-number (withdraw place rank) = place-number place
argument-number (report x1 x2 y) = refl
argument-number (top x1 x2 k) = refl
argument-number count = refl
argument-number check = refl
argument-number rebuild = refl
argument-number (report_many rs) = refl
argument-number (top_within x1 x2 k a) = refl
argument-number (apply m) = message-number m

-- and the detail of 9
place-position : (b : Bool) → b || false ≡ true → ◌≡◌ {A = ℕ} 0 (cond b 0 1)
place-position true h = refl
place-position false h = absurd (false≢true h)

outside-detail : (c : Call) → no_message c ≡ false → changes_outside c ≡ true → early_detail c 9 ≡ position_outside (said_in (changes_in c))
unfolding no_message changes_outside
outside-detail format n h = refl
outside-detail (add place rank track) n h = place-position (outside place) h
outside-detail (withdraw place rank) n h = place-position (outside place) h
outside-detail (report x1 x2 y) n h = refl
outside-detail (top x1 x2 k) n h = refl
outside-detail count n h = refl
outside-detail check n h = refl
outside-detail rebuild n h = refl
outside-detail (report_many rs) n h = refl
outside-detail (top_within x1 x2 k a) n h = refl
outside-detail (apply m) n h = message-detail m n h

-- 4
full-number : (bytes : ℕ) (place rank : ℤ) (ss : List PlainSpot) → Fits place → Fits rank → AllFit ss
    → add_number bytes (length (keyed ss)) (is_live (find (key place rank) (keyed ss))) ≡ cond (full bytes place rank ss) 4 0
unfolding full add_number
full-number bytes place rank ss fp fr h = rw (keyed-length ss, ← listed-live place rank fp fr ss h)

-- ---- a message

-- one change of it
keyed-change : (c : PlainChange) (ss : List PlainSpot) → ChangeFits c → AllFit ss → keyed (changed_by c ss) ≡ after_change (to_key_change c) (keyed ss)
unfolding changed_by after_change
keyed-change (hang s) ss f h = keyed-in s.place s.rank f.0 f.1 s.track ss h
keyed-change (take_down place rank) ss f h = keyed-out place rank f.0 f.1 ss h

change-fit : (c : PlainChange) (ss : List PlainSpot) → ChangeFits c → AllFit ss → AllFit (changed_by c ss)
unfolding changed_by
change-fit (hang s) ss f h = in-fit s.place s.rank f.0 f.1 s.track ss h
change-fit (take_down place rank) ss f h = out-fit place rank f.0 f.1 ss h

turned_down_lem : (bytes : ℕ) (c : PlainChange) (ss : List PlainSpot) → ChangeFits c → AllFit ss → turned_down bytes c ss ≡ turns_down bytes (to_key_change c) (keyed ss)
unfolding turned_down turns_down full
turned_down_lem bytes (hang s) ss f h =
    ap₂ (λ (n : ℕ) (b : Bool). leb (16 * (bytes / 2048 - 1)) n && not b) (sym (keyed-length ss)) (listed_has s.place s.rank f.0 f.1 ss h)
turned_down_lem bytes (take_down place rank) ss f h = refl

-- all of them, one after another
module _ (bytes : ℕ) (ps : Plain) (fit : AllFit ps.spots) where
  like-applied : (i : ℕ) (cs : List PlainChange) (ss : List PlainSpot) → ChangesFit cs → AllFit ss
      → Like (applied bytes i cs ss ps) (changed (applied_from bytes i (keyed_changes cs) (keyed ss)) (keyed ps.spots) (after_all (keyed_changes cs) (keyed ss)))
  unfolding accept changed next_by output_after output_left
  like-applied i [] ss f h = record { answer = refl; output = λ out. refl; counts = refl; next = refl; fit = h }
  like-applied i (c ∷ cs) ss f h =
      let due : Reply = applied bytes i (c ∷ cs) ss ps in
      let ks : List Change = keyed_changes cs in
      let next : List Spot = keyed (changed_by c ss) in
      subst (λ (l : List Spot). Like due (changed (cond (turns_down bytes (to_key_change c) (keyed ss)) (answer 4 i) (applied_from bytes (suc i) ks l)) (keyed ps.spots) (after_all ks l)))
      (keyed-change c ss f.0 h)
      (subst (λ (b : Bool). Like due (changed (cond b (answer 4 i) (applied_from bytes (suc i) ks next)) (keyed ps.spots) (after_all ks next))) (turned_down_lem bytes c ss f.0 h)
      (turned_or ps fit (turned_down bytes c ss) i _ _ _ (like-applied (suc i) cs (changed_by c ss) f.1 (change-fit c ss f.0 h))))

-- the highest, for a call of Top's kind
like-top : (l : Lengths) (x1 x2 : ℤ) (k : ℕ) (ps : Plain) → signed32 x1 && signed32 x2 ≡ true → (h : AllFit ps.spots)
    → Like (hand_out l.output (highest x1 x2 k ps.spots) [] ps) (gives l.output (highest_by x1 x2 k (keyed ps.spots)) [] (keyed ps.spots))
like-top l x1 x2 k ps a h =
    let f = two-fit x1 x2 a in
    like-given ps h l.output (highest x1 x2 k ps.spots) _ [] [] (highest-fit x1 x2 f.0 f.1 k ps.spots h)
    (keyed-highest x1 x2 f.0 f.1 k ps.spots h)
    refl

-- every call is answered alike
like-own : (l : Lengths) (c : Call) (ps : Plain) → arguments_fit c ≡ true → AllFit ps.spots → Like (own_reply l c ps) (reply_to l c (keyed ps.spots))
unfolding own_reply reply_to arguments_fit
like-own l format ps a h = like-accept 0 begun_empty tt
like-own l (add place rank track) ps a h =
    let f = two-fit place rank (and_left (signed32 place && signed32 rank) (unsigned32 track) a) in
    rw (full-number l.table place rank ps.spots f.0 f.1 h)
    (like-full ps h (full l.table place rank ps.spots) _ _ (in-fit place rank f.0 f.1 track ps.spots h)
    (keyed-in place rank f.0 f.1 track ps.spots h))
like-own l (withdraw place rank) ps a h =
    let f = two-fit place rank a in
    like-full ps h false _ _ (out-fit place rank f.0 f.1 ps.spots h) (keyed-out place rank f.0 f.1 ps.spots h)
like-own l (report x1 x2 y) ps a h =
    let f = three-fit x1 x2 y a in
    like-given ps h l.output (reported x1 x2 y ps.spots) _ [] [] (report-fit x1 x2 y ps.spots h) (keyed-report x1 x2 f.0 f.1 y f.2 ps.spots h) refl
like-own l (top x1 x2 k) ps a h = like-top l x1 x2 k ps (and_left (signed32 x1 && signed32 x2) (unsigned32 k) a) h
like-own l count ps a h = rw (keyed-length ps.spots) (like-accept (length ps.spots) ps h)
like-own l check ps a h = like-accept 1 ps h
like-own l rebuild ps a h = like-full ps h false ps _ h refl
like-own l (report_many rs) ps a h =
    like-given ps h l.output (for_each (reported_in ps.spots) rs) _ (count_each (reported_in ps.spots) rs) _ (each-fit ps.spots h rs)
    (keyed-each ps.spots h rs a)
    (counts_each ps.spots h rs a)
like-own l (top_within x1 x2 k a) ps b h =
    like-top l x1 x2 k ps (and_left (signed32 x1 && signed32 x2) (unsigned32 k) (and_left (signed32 x1 && signed32 x2 && unsigned32 k) (unsigned32 a) b)) h
like-own l (apply m) ps a h =
    subst (λ (ks : List Change). Like (own_reply l (apply m) ps) (changed (applied_answer l.table ks (keyed ps.spots)) (keyed ps.spots) (after_all ks (keyed ps.spots))))
    (sym (changes-are m))
    (like-applied l.table ps h 0 (said_in (plain_message m)) ps.spots (changes-fit m) h)

-- lengths and arguments decide alike
pub early-is : (l : Lengths) (c : Call)
    → early_number l c
    ≡ cond (table_sized l.table) (cond (lent l (kind c)) (cond (few_enough (kind c)) (cond (no_message c) 8 (cond (changes_outside c) 9 0)) 6) 2) 1
unfolding early_number
early-is l c = ap (λ (n : ℕ). cond (table_sized l.table) (cond (lent l (kind c)) (cond (few_enough (kind c)) n 6) 2) 1) (argument-number c)

pub like : (l : Lengths) (c : Call) (ps : Plain) → arguments_fit c ≡ true → AllFit ps.spots → Like (reply l c ps) (key_reply l c (keyed ps.spots))
unfolding reply key_reply early
like l c ps a h =
    subst (λ (n : ℕ). Like (reply l c ps) (refused_or n (early_detail c n) (keyed ps.spots) (reply_to l c (keyed ps.spots)))) (sym (early-is l c))
    (rw (bad-table l.table, bad-lent l (kind c), too_many_lem (kind c))
    (like-early ps h (early_detail c) (early-detail c) (position_outside (said_in (changes_in c))) _ _ (like-own l c ps a h) (table_sized l.table) (lent l (kind c)) (few_enough (kind c)) (no_message c)
    (changes_outside c)
    (outside-detail c)))
