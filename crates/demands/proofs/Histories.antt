-- Each call of a history against the plain list over keys, from what it promises and from laws of the tree, which are taken as a parameter here (they are the work of the real crates).
-- Assumes nothing else.
use mathlib.Core.Path.{◌≡◌, refl, ap, sym, subst, ◌∙◌}
use mathlib.Core.Logic.{◌⊎◌, inl, inr, ⊎_elim, ◌≢◌}
use mathlib.Core.Bool.{Bool, true, false, cond, ◌&&◌, true≢false, false≢true}
use mathlib.Core.List.{List, [], ◌++◌}
use mathlib.Core.Option.{Option, none, some}
use Prim.Native.Nat.{ℕ, zero, suc, ◌+◌, ◌*◌, ◌/◌, ◌≤◌}
use native.Mathlib.Omega.{arith}
use lib.ListN.{length, drop}
use lib.Dec.{leb, eqb}
use lib.IntN.{ℤ, pos}
use borrow.Author.Tests.{eqb-true}
use Rattle.octets.specs.Lists.{keep, rising}
use Rattle.octets.specs.Bitmap.{bit}
use Rattle.octets.proofs.Lists.{over-all}
use Rattle.spot.specs.declared.Spot.{Spot}
use Rattle.spot.specs.Keys.{key}
use Rattle.spot.specs.Spots.{keys, find, put, without}
use Rattle.spot.specs.declared.Query.{Query}
use Rattle.spot.specs.Query.{query, wants, everything}
use Rattle.spot.proofs.Canon.{canon, find-without, without-rises}
use Rattle.block.specs.Answers.{answer}
use Rattle.block.specs.Table.{block, table_sized}
use Rattle.block.specs.Header.{head_of}
use Rattle.block.specs.HeaderRules.{header_ok}
use Rattle.block.specs.Fresh.{formatted}
use Rattle.block.specs.declared.Answer.{Answer}
use Rattle.message.specs.Changes.{changes_of}
use Rattle.message.specs.Messages.{read_message}
use Rattle.message.specs.Effects.{after_all}
use Rattle.message.proofs.Effects.{after-rises}
use Rattle.tree.specs.Walk.{Finds, Walk, broken, walked, is_broken, spots, blocks_read, walk_table, live_spots, live_count}
use Rattle.tree.specs.Report.{report_table}
use Rattle.tree.specs.Top.{top_walk, top_table}
use Rattle.tree.specs.ReadMap.{read_map, ones}
use Rattle.tree.specs.Sound.{sound}
use Rattle.tree.specs.Lookup.{live, with_key}
use Rattle.within_theory.specs.Reading.{reading, given_of, within_table, ceiling_within, found_once}
use Rattle.tree.proofs.Says.{find-replaced, replaced-rises}
use Rattle.ranges.specs.Ranges.{for_each, count_each}
use Rattle.ranges.specs.declared.Range.{Range}
use Rattle.report.specs.Joined.{report_of, joined, counts_of}
use Rattle.table.specs.Calls.{Call, format, add, withdraw, report, top, count, check, rebuild, report_many, top_within, apply, Kind, makes, updates, queries, queries_each, tells, kind, takes_output, takes_counts, is_query, is_counting, has_ceiling}
use Rattle.table.specs.Answers.{with_scratch, with_output, with_counts, early_number, early_detail, spots_answer, output_left, unless_refused, map_left, counts_left}
use Rattle.table.specs.Queries.{walk_answer, count_answer, WalkPost}
use Rattle.table.specs.Updates.{UpdatePost}
use Rattle.table.proofs.Searching.{searched-exact, ceiling-refused}
use Rattle.demands.specs.Model.{told_call}
use Rattle.demands.specs.History.{Event, MetBy, lengths_in, certain_in, SecondTable, SameOnSecond, Agreed}
use Rattle.demands.proofs.Keyed.{KeyReply, key_reply, reply_to, refused_or, accepted, changed, next_by, gives, singly_in, highest_by}
use Rattle.report.proofs.Reports.{report-blocks, report-length, report-turned, report-same}
use Rattle.report.proofs.Joined.{count-each-long, count-each-same, joined-finds, second-joined, second-counts}

-- what the tree's theorems give of a sound table
pub record TreeLaws : Type 0 where
  pub fresh-sized : (n : ℕ) → table_sized n ≡ true → length (formatted n) ≡ n
  pub fresh-sound : (n : ℕ) → table_sized n ≡ true → sound (formatted n) ≡ true
  pub fresh-empty : (n : ℕ) → table_sized n ≡ true → live_spots (formatted n) ≡ []
  pub header : (t : List ℕ) → sound t ≡ true → header_ok (length t) (head_of t) ≡ true
  pub rises : (t : List ℕ) → sound t ≡ true → rising (keys (live_spots t)) ≡ true
  pub finds : (t : List ℕ) → sound t ≡ true → (k : ℕ) → find k (live_spots t) ≡ live t k
  pub reports : (t : List ℕ) → sound t ≡ true → (q : Query) → Finds (walk_table t q) (keep (wants q) (live_spots t))
  pub counts : (t : List ℕ) → sound t ≡ true → Finds (walk_table t everything) (live_spots t)
  pub tops : (t : List ℕ) → sound t ≡ true → (x1 x2 : ℤ) (k : ℕ) → Finds (top_table t x1 x2 k) (highest_by x1 x2 k (live_spots t))
  pub bound : (t : List ℕ) → sound t ≡ true → (q : Query)
      → ones (read_map (blocks_read (walk_table t q))) ≤ 1 + 36 * (head_of t).levels + 9 * (length (spots (walk_table t q)) / 16)
  pub second : (t u : List ℕ) → sound t ≡ true → (q : Query) → length u ≡ length t
      → ((b : ℕ) → bit (read_map (blocks_read (walk_table t q))) b ≡ true → block u b ≡ block t b)
      → walk_table u q ≡ walk_table t q
  pub second-top : (t u : List ℕ) → sound t ≡ true → (x1 x2 : ℤ) (k : ℕ) → length u ≡ length t
      → ((b : ℕ) → bit (read_map (blocks_read (top_table t x1 x2 k))) b ≡ true → block u b ≡ block t b)
      → (top_walk u x1 x2 k ≡ top_walk t x1 x2 k) × (top_table u x1 x2 k ≡ top_table t x1 x2 k)
  pub top-rises : (t : List ℕ) → sound t ≡ true → (x1 x2 : ℤ) (k : ℕ) → rising (keys (spots (top_walk t x1 x2 k))) ≡ true
  pub withins : (t : List ℕ) → sound t ≡ true → (x1 x2 : ℤ) (k a : ℕ)
      → Finds (within_table t x1 x2 k a) (highest_by x1 x2 (length (given_of k (reading t x1 x2 k a))) (live_spots t))
  pub within-once : (t : List ℕ) → sound t ≡ true → (x1 x2 : ℤ) (k a : ℕ) → found_once t x1 x2 k a ≡ true
  pub second-within : (t u : List ℕ) → sound t ≡ true → (x1 x2 : ℤ) (k a : ℕ) → length u ≡ length t
      → ((b : ℕ) → bit (read_map (blocks_read (within_table t x1 x2 k a))) b ≡ true → block u b ≡ block t b)
      → reading u x1 x2 k a ≡ reading t x1 x2 k a

-- a refusal by the lengths is the same on both sides
refused-same : (l : ℕ) (ss : List Spot) (a : Answer) (r : KeyReply) → a ≡ r.answer → unless_refused l a ≡ (refused_or l 0 ss r).answer
unfolding unless_refused refused_or
refused-same zero ss a r e = e
refused-same (suc l) ss a r e = refl

-- what a query is due where l refuses it or nothing does: these spots, these counts
abbrev query_due : ℕ → ℕ → List Spot → List ℕ → List Spot → KeyReply
query_due l bytes found counts ss = refused_or l 0 ss (gives bytes found counts ss)

output-same : (l bytes : ℕ) (found : List Spot) (counts : List ℕ) (ss : List Spot) (out : List ℕ)
    → output_left (query_due l bytes found counts ss).answer.number found out
    ≡ output_left (query_due l bytes found counts ss).answer.number (query_due l bytes found counts ss).given out
unfolding refused_or gives output_left
output-same zero bytes found counts ss out = refl
output-same (suc l) bytes found counts ss out = refl

-- as many counts are lent as there are, or the call is refused
counts_same : (l bytes : ℕ) (found : List Spot) (counts : List ℕ) (ss : List Spot) (lent : List ℕ) → (l ≡ 0 → length lent ≡ length counts)
    → counts_left (query_due l bytes found counts ss).answer.number counts lent
    ≡ (query_due l bytes found counts ss).counts ++ drop (length (query_due l bytes found counts ss).counts) lent
unfolding refused_or gives counts_left
counts_same zero bytes found counts ss lent h = go (spots_answer bytes (length found)).number
  where
    go : (n : ℕ) → counts_left n counts lent ≡ counts_left n counts [] ++ drop (length (counts_left n counts [])) lent
    go zero = sym (over-all counts lent (length counts) (omega (arith, h refl)))
    go (suc n) = refl
counts_same (suc l) bytes found counts ss lent h = refl

query-next : (l bytes : ℕ) (found : List Spot) (counts : List ℕ) (ss : List Spot) → (query_due l bytes found counts ss).next ≡ ss
unfolding refused_or gives
query-next zero bytes found counts ss = refl
query-next (suc l) bytes found counts ss = refl

found-answer : (bytes : ℕ) (found : List Spot) (counts : List ℕ) (ss : List Spot) (bs : List ℕ) → walk_answer bytes (walked found bs) ≡ (gives bytes found counts ss).answer
unfolding walk_answer gives
found-answer bytes found counts ss bs = refl

-- an accepted query's detail is the number of spots
found-detail : (l bytes : ℕ) (found : List Spot) (counts : List ℕ) (ss : List Spot) (r : Answer) → r ≡ (query_due l bytes found counts ss).answer → r.number ≡ 0
    → r.detail ≡ length found
unfolding refused_or gives spots_answer
found-detail zero bytes found counts ss r e z = ap (λ (a : Answer). a.detail) e
found-detail (suc l) bytes found counts ss r e z = let h : suc l ≡ 0 = sym (ap (λ (a : Answer). a.number) e) ∙ z in omega arith

-- the read map of an accepted query
pub map-accepted : (n : ℕ) (bs map : List ℕ) → n ≡ 0 → map_left n bs map ≡ read_map bs
unfolding map_left
map-accepted zero bs map e = refl
map-accepted (suc n) bs map e = let z : ⊥ = omega arith in absurd z

-- its walk is whole, and its detail the number of spots
pub walk-accepted : (l bytes : ℕ) (w : Walk) (r : Answer) → r ≡ unless_refused l (walk_answer bytes w) → r.number ≡ 0 → (is_broken w ≡ false) × (r.detail ≡ length (spots w))
unfolding unless_refused walk_answer spots_answer
walk-accepted zero bytes broken r a z = let h : ◌≡◌ {A = ℕ} 3 0 = sym (ap (λ (x : Answer). x.number) a) ∙ z in let y : ⊥ = omega arith in absurd y
walk-accepted zero bytes (walked found blocks) r a z = (refl, ap (λ (x : Answer). x.detail) a)
walk-accepted (suc l) bytes w r a z = let h : suc l ≡ 0 = sym (ap (λ (x : Answer). x.number) a) ∙ z in let y : ⊥ = omega arith in absurd y

-- a refusal leaves what was lent
pub output-refused : (n : ℕ) (found : List Spot) (out : List ℕ) → (n ≡ 0 → ⊥) → output_left n found out ≡ out
unfolding output_left
output-refused zero found out z = absurd (z refl)
output-refused (suc n) found out z = refl

pub map-refused : (n : ℕ) (bs map : List ℕ) → (n ≡ 0 → ⊥) → map_left n bs map ≡ map
unfolding map_left
map-refused zero bs map z = absurd (z refl)
map-refused (suc n) bs map z = refl

pub counts-refused : (n : ℕ) (found counts : List ℕ) → (n ≡ 0 → ⊥) → counts_left n found counts ≡ counts
unfolding counts_left
counts-refused zero found counts z = absurd (z refl)
counts-refused (suc n) found counts z = refl

-- the reply of the plain list over keys, told of the table what the model is told
abbrev pub key_reply_in : Call → List ℕ → List Spot → Event → KeyReply
key_reply_in c t ss e = key_reply (lengths_in t e) (told_call c (certain_in c t)) ss

-- what a step of the history keeps: the claim, and that list as the live spots
pub record Kept (c : Call) (t : List ℕ) (e : Event) : Type 0 where
  pub agreed : Agreed c t (key_reply_in c t (live_spots t) e).answer
      (output_left (key_reply_in c t (live_spots t) e).answer.number (key_reply_in c t (live_spots t) e).given e.output)
      ((key_reply_in c t (live_spots t) e).counts ++ drop (length (key_reply_in c t (live_spots t) e).counts) e.counts)
      e
  pub sized : length e.table' ≡ length t
  pub next : (key_reply_in c t (live_spots t) e).next ≡ live_spots e.table'

-- what an event shows of a walk, where lengths and arguments decide the number l
abbrev Shows : ℕ → Walk → Event → Type 0
Shows l w e = WalkPost l w e.output e.read_map e.answer e.output' e.read_map'

shows-as : {l m : ℕ} {v w : Walk} (f : Event) → m ≡ l → v ≡ w → Shows m v f → Shows l w f
shows-as {l} {m} {v} {w} f e x p = subst (λ (n : ℕ). Shows n w f) e (subst (λ (y : Walk). Shows m y f) x p)

-- equal lengths decide the same number
early-again : (c : Call) (t u : List ℕ) (e f : Event) (counts again : List ℕ) → SecondTable c t e u f → again ≡ counts
    → early_number (with_counts u f.output f.read_map again) c ≡ early_number (with_counts t e.output e.read_map counts) c
early-again c t u e f counts again h n = rw (h.bytes, h.output, h.read_map, n)

-- the same call elsewhere shows the same walk
record Again (c : Call) (l : ℕ) (w : Walk) (e f : Event) : Type 0 where
  shown : Shows l w f
  counts : is_counting c ≡ true → f.answer ≡ e.answer → f.counts' ≡ e.counts'
  ceiling : has_ceiling c ≡ true → f.answer ≡ e.answer → f.ceiling' ≡ e.ceiling'

second-same : (c : Call) (l : ℕ) (w : Walk) (e f : Event) → Shows l w e → Again c l w e f → f.output ≡ e.output → f.read_map ≡ e.read_map → SameOnSecond c e f
second-same c l w e f p q o m =
    record {
      answer = answers;
      output = q.shown.output ∙ rw (answers, o) (sym p.output);
      marks = q.shown.marks ∙ rw (answers, m) (sym p.marks);
      counts = λ i. q.counts i answers;
      ceiling = λ i. q.ceiling i answers;
    }
  where
    answers : f.answer ≡ e.answer
    answers = q.shown.answered ∙ rw o (sym p.answered)

-- the counts of a call that hands them out: left by its number, and as many as are lent
record Counted (l : ℕ) (counts : List ℕ) (e : Event) : Type 0 where
  left : e.counts' ≡ counts_left e.answer.number counts e.counts
  long : l ≡ 0 → length e.counts ≡ length counts

-- a query, for any walk that is whole
query-kept : (c : Call) (l : ℕ) (w : Walk) (found : List Spot) (counts t : List ℕ) (e : Event) → sound t ≡ true → e.table' ≡ t → Finds w found → Shows l w e
    → key_reply_in c t (live_spots t) e ≡ query_due l (length e.output) found counts (live_spots t)
    → (is_counting c ≡ true → Counted l counts e)
    → (has_ceiling c ≡ true → (e.answer.number ≡ 0 → ⊥) → e.ceiling' ≡ pos 0)
    → ((x1 x2 y : ℤ) → c ≡ report x1 x2 y → ones (read_map (blocks_read w)) ≤ 1 + 36 * (head_of t).levels + 9 * (length (spots w) / 16))
    → ((u : List ℕ) (f : Event) → SecondTable c t e u f → ((b : ℕ) → bit (read_map (blocks_read w)) b ≡ true → block u b ≡ block t b) → Again c l w e f)
    → Kept c t e
query-kept c l w found counts t e s same whole p model counted refused bound second =
    record {
      agreed =
          record {
            answer = rw model as-model;
            output = λ q. rw model
                (p.output ∙ ap (λ (a : Answer). output_left a.number (spots w) e.output) as-model ∙
                ap (λ (v : Walk). output_left due.answer.number (spots v) e.output) whole.1 ∙
                output-same l (length e.output) found counts ss e.output);
            counts = λ q. rw model
                ((counted q).left ∙ ap (λ (a : Answer). counts_left a.number counts e.counts) as-model ∙
                counts_same l (length e.output) found counts ss e.counts (counted q).long);
            ceiling = refused;
            stays_sound = rw same s;
            bounded = λ x1 x2 y q z.
                rw (marks-are z, found-detail l (length e.output) found counts ss e.answer as-model z, ← ap spots whole.1) (bound x1 x2 y q);
            second = λ q z u f h. second-same c l w e f p (second u f h (λ b k. h.marked b (rw (marks-are z) k))) h.output h.read_map;
          };
      sized = ap length same;
      next = rw (model, same) (query-next l (length e.output) found counts ss);
    }
  where
    ss : List Spot
    ss = live_spots t

    due : KeyReply
    due = query_due l (length e.output) found counts ss

    as-model : e.answer ≡ due.answer
    as-model = p.answered ∙ refused-same l ss _ _ (ap (walk_answer (length e.output)) whole.1 ∙ found-answer (length e.output) found counts ss whole.0)

    marks-are : e.answer.number ≡ 0 → e.read_map' ≡ read_map (blocks_read w)
    marks-are z = p.marks ∙ map-accepted _ _ _ z

-- many ranges: where lengths and arguments don't refuse, the counts are as many as the ranges
counts-long : (t out map counts : List ℕ) (rs : List Range) → early_number (with_counts t out map counts) (report_many rs) ≡ 0 → length counts ≡ length rs
unfolding early_number
counts-long t out map counts rs = go (table_sized (length t)) (eqb (length map) 512) (eqb (length counts) (length rs)) refl (leb (length rs) 64)
  where
    go : (a b c : Bool) → eqb (length counts) (length rs) ≡ c → (d : Bool) → ◌≡◌ {A = ℕ} (cond a (cond (b && c) (cond d 0 6) 2) 1) 0 → length counts ≡ length rs
    go true true true e d h = eqb-true (length counts) (length rs) e
    go true true false e d h = absurd (omega (arith, h))
    go true false c e d h = absurd (omega (arith, h))
    go false b c e d h = absurd (omega (arith, h))

-- an update: the answer, then what is held afterwards
changed-answer : (l d : ℕ) (due : Answer) (ss next : List Spot) (r : Answer) → (l ≢ 0 → r ≡ answer l d) → (l ≡ 0 → r ≡ due)
    → r ≡ (refused_or l d ss (changed due ss next)).answer
unfolding refused_or changed
changed-answer zero d due ss next r a b = b refl
changed-answer (suc l) d due ss next r a b = a (λ e. omega arith)

-- refused, and the list is as it was; or accepted, with the next list
changed-next : (l d : ℕ) (due : Answer) (ss next : List Spot)
    → (((refused_or l d ss (changed due ss next)).answer.number ≢ 0) × ((refused_or l d ss (changed due ss next)).next ≡ ss)) ⊎
    (((refused_or l d ss (changed due ss next)).answer.number ≡ 0) × ((refused_or l d ss (changed due ss next)).next ≡ next))
unfolding refused_or changed next_by
changed-next zero d due ss next = go due.number
  where
    go : (n : ℕ) → ((n ≢ 0) × (next_by n ss next ≡ ss)) ⊎ ((n ≡ 0) × (next_by n ss next ≡ next))
    go zero = inr (refl, refl)
    go (suc n) = inl (λ e. omega arith, refl)
changed-next (suc l) d due ss next = inl (λ e. omega arith, refl)

-- a call that hands out no spots hands out no counts
pub no-counts : (c : Call) → is_query c ≡ false → is_counting c ≡ false
no-counts c = go (kind c)
  where
    go : (k : Kind) → takes_output k ≡ false → takes_counts k ≡ false
    go makes h = refl
    go updates h = refl
    go queries h = refl
    go (queries_each n) h = h
    go tells h = refl

-- nor has it a ceiling
pub no-ceiling : (c : Call) → is_query c ≡ false → has_ceiling c ≡ false
no-ceiling format h = refl
no-ceiling (add place rank track) h = refl
no-ceiling (withdraw place rank) h = refl
no-ceiling (report x1 x2 y) h = refl
no-ceiling (top x1 x2 k) h = refl
no-ceiling count h = refl
no-ceiling check h = refl
no-ceiling rebuild h = refl
no-ceiling (report_many rs) h = refl
no-ceiling (top_within x1 x2 k a) h = h
no-ceiling (apply m) h = refl

no-query : (c : Call) (t : List ℕ) (due : Answer) (left counted : List ℕ) (e : Event) → is_query c ≡ false → e.answer ≡ due → sound e.table' ≡ true
    → Agreed c t due left counted e
no-query c t due left counted e n a s =
    record {
      answer = a;
      output = λ q. absurd (true≢false (sym q ∙ n));
      counts = λ q. absurd (true≢false (sym q ∙ no-counts c n));
      ceiling = λ q. absurd (true≢false (sym q ∙ no-ceiling c n));
      stays_sound = s;
      bounded = λ x1 x2 y q. absurd (true≢false (sym (ap is_query q) ∙ n));
      second = λ q. absurd (true≢false (sym q ∙ n));
    }

module _ (laws : TreeLaws) where
  update-kept : (c : Call) (due : Answer) (after : ℕ → Option ℕ) (t : List ℕ) (e : Event) (next : List Spot) → sound t ≡ true
      → UpdatePost c due after t e.scratch e.answer e.table' e.scratch'
      → key_reply_in c t (live_spots t) e
      ≡ refused_or (early_number (with_scratch t e.scratch) c) (early_detail c (early_number (with_scratch t e.scratch) c)) (live_spots t) (changed due (live_spots t) next)
      → rising (keys next) ≡ true
      → ((k : ℕ) → find k next ≡ after k)
      → is_query c ≡ false
      → Kept c t e
  update-kept c due after t e next s p model up found nq =
      record {
        agreed = no-query c t _ _ _ e nq (rw model number) (p.stays_sound s);
        sized = p.sized;
        next =
            rw model
            (⊎_elim
            (λ h. h.1 ∙ ap live_spots (sym (p.unchanged (λ z. h.0 (sym (ap (λ (a : Answer). a.number) number) ∙ z)))))
            (λ h. h.1 ∙ held (ap (λ (a : Answer). a.number) number ∙ h.0))
            (changed-next l (early_detail c l) due ss next));
      }
    where
      ss : List Spot
      ss = live_spots t

      l : ℕ
      l = early_number (with_scratch t e.scratch) c

      number : e.answer ≡ (refused_or l (early_detail c l) ss (changed due ss next)).answer
      number = changed-answer l (early_detail c l) due ss next e.answer p.refusals (p.answered s)

      held : e.answer.number ≡ 0 → next ≡ live_spots e.table'
      held z =
          canon 0 next (live_spots e.table') up (laws.rises e.table' (p.stays_sound s))
          (λ k. found k ∙ sym (p.live_after s z k) ∙ sym (laws.finds e.table' (p.stays_sound s) k))

  -- a call that hands out no spots and keeps the live ones, or starts them anew
  plain-kept : (c : Call) (t : List ℕ) (e : Event) → e.answer ≡ (key_reply_in c t (live_spots t) e).answer → sound e.table' ≡ true
      → length e.table' ≡ length t
      → (key_reply_in c t (live_spots t) e).next ≡ live_spots e.table'
      → is_query c ≡ false
      → Kept c t e
  plain-kept c t e a s z n nq = record { agreed = no-query c t _ _ _ e nq a s; sized = z; next = n }

  -- the model's list after an addition and after a withdrawal: it rises, and finds what it should
  module _ (t : List ℕ) (s : sound t ≡ true) (k : ℕ) where
    without-up : rising (keys (without k (live_spots t))) ≡ true
    without-up = without-rises 0 k (live_spots t) (laws.rises t s)

    without-found : (j : ℕ) → find j (without k (live_spots t)) ≡ with_key k none (live t) j
    unfolding with_key
    without-found j = find-without j k (live_spots t) ∙ rw (laws.finds t s j)

    put_up : (track : ℕ) → rising (keys (put (record { key = k; track = track }) (without k (live_spots t)))) ≡ true
    put_up track = replaced-rises (record { key = k; track = track }) (live_spots t) (laws.rises t s)

    put-found : (track j : ℕ) → find j (put (record { key = k; track = track }) (without k (live_spots t))) ≡ with_key k (some track) (live t) j
    unfolding with_key
    put-found track j = find-replaced j (record { key = k; track = track }) (live_spots t) ∙ rw (laws.finds t s j)

  -- on a sound table many ranges find what each finds
  single-finds : (t : List ℕ) → sound t ≡ true → (r : Range) → Finds (report_of t r) (singly_in (live_spots t) r)
  single-finds t s r = report-turned t r.x1 r.x2 r.y _ (laws.reports t s (query r.x1 r.x2 r.y))

  pub many-finds : (t : List ℕ) → sound t ≡ true → (rs : List Range) → Finds (joined t rs) (for_each (singly_in (live_spots t)) rs)
  many-finds t s rs = joined-finds t (laws.header t s) (singly_in (live_spots t)) (single-finds t s) rs

  pub many-counts : (t : List ℕ) → sound t ≡ true → (rs : List Range) → counts_of t rs ≡ count_each (singly_in (live_spots t)) rs
  many-counts t s rs = count-each-same (λ r. spots (report_of t r)) (singly_in (live_spots t)) rs (λ r i. ap (λ (w : Walk). length (spots w)) (single-finds t s r).1)

  -- where all of what was read is the same, so is what a Top within an allowance shows
  within_same : (t u : List ℕ) (x1 x2 : ℤ) (k a : ℕ) → reading u x1 x2 k a ≡ reading t x1 x2 k a
      → (found_once u x1 x2 k a ≡ found_once t x1 x2 k a) × (within_table u x1 x2 k a ≡ within_table t x1 x2 k a) × (ceiling_within u x1 x2 k a ≡ ceiling_within t x1 x2 k a)
  unfolding found_once within_table ceiling_within
  within_same t u x1 x2 k a e = (rw e, rw e, rw e)

  -- each call keeps the model's list and the live spots one
  pub step : (c : Call) (t : List ℕ) (e : Event) → table_sized (length t) ≡ true → sound t ≡ true → MetBy c t e → Kept c t e
  unfolding key_reply reply_to early_number refused_or unless_refused accepted changed next_by count_answer live_count
  step format t e z s p =
      let left : e.table' ≡ formatted (length t) = p.promised.written ∙ rw z in
      plain-kept format t e (p.promised.answered ∙ rw z) (rw left (laws.fresh-sound (length t) z)) (rw left (laws.fresh-sized (length t) z))
      (rw (z, left) (sym (laws.fresh-empty (length t) z)))
      refl
  step (add place rank track) t e z s p =
      update-kept (add place rank track) _ _ t e (put (record { key = key place rank; track = track }) (without (key place rank) (live_spots t))) s p.promised.update
      (rw (laws.finds t s (key place rank)))
      (put_up t s (key place rank) track)
      (put-found t s (key place rank) track)
      refl
  step (withdraw place rank) t e z s p =
      update-kept (withdraw place rank) _ _ t e (without (key place rank) (live_spots t)) s p.promised.update refl (without-up t s (key place rank))
      (without-found t s (key place rank))
      refl
  step (report x1 x2 y) t e z s p =
      query-kept (report x1 x2 y) (early_number (with_output t e.output e.read_map) (report x1 x2 y)) (report_table t x1 x2 y) _ [] t e s (p.unchanged refl)
      (report-turned t x1 x2 y _ (laws.reports t s (query x1 x2 y)))
      p.promised
      refl
      (λ q. absurd (false≢true q))
      (λ q. absurd (false≢true q))
      (λ a b d q. rw (report-blocks t x1 x2 y, report-length t x1 x2 y) (laws.bound t s (query x1 x2 y)))
      (λ u f h m. record {
        shown =
            shows-as f (early-again (report x1 x2 y) t u e f [] [] h refl)
            (report-same t x1 x2 y u (laws.second t u s (query x1 x2 y) h.bytes (λ b i. m b (rw (report-blocks t x1 x2 y) i))))
            h.met.promised;
        counts = λ q. absurd (false≢true q);
        ceiling = λ q. absurd (false≢true q);
      })
  step (top x1 x2 k) t e z s p =
      query-kept (top x1 x2 k) (early_number (with_output t e.output e.read_map) (top x1 x2 k)) (top_table t x1 x2 k) _ [] t e s (p.unchanged refl) (laws.tops t s x1 x2 k)
      (searched-exact p.promised (laws.top-rises t s x1 x2 k))
      refl
      (λ q. absurd (false≢true q))
      (λ q. absurd (false≢true q))
      (λ a b d q. let z : ◌≡◌ {A = ℕ} 0 1 = cc in omega arith)
      (λ u f h m.
      let same = laws.second-top t u s x1 x2 k h.bytes m in
      record {
        shown = shows-as f (early-again (top x1 x2 k) t u e f [] [] h refl) same.1 (searched-exact h.met.promised (rw same.0 (laws.top-rises t s x1 x2 k)));
        counts = λ q. absurd (false≢true q);
        ceiling = λ q. absurd (false≢true q);
      })
  step count t e z s p =
      plain-kept count t e (p.promised.answered ∙ rw (z, (laws.counts t s).1)) (rw (p.unchanged refl) s) (ap length (p.unchanged refl)) (rw (z, p.unchanged refl)) refl
  step check t e z s p =
      plain-kept check t e (p.promised.answered ∙ rw (z, s)) (rw (p.unchanged refl) s) (ap length (p.unchanged refl)) (rw (z, p.unchanged refl)) refl
  step rebuild t e z s p = update-kept rebuild _ (live t) t e (live_spots t) s p.promised.update refl (laws.rises t s) (laws.finds t s) refl
  step (report_many rs) t e z s p =
      let whole = many-finds t s rs in
      let unbroken : is_broken (joined t rs) ≡ false = ap is_broken whole.1 in
      query-kept (report_many rs) (early_number (with_counts t e.output e.read_map e.counts) (report_many rs)) (joined t rs) _ (count_each (singly_in (live_spots t)) rs) t e s (p.unchanged refl)
      whole
      p.promised.handed
      refl
      (λ q. record {
        left = p.promised.counted ∙ ap (λ (ns : List ℕ). counts_left e.answer.number ns e.counts) (many-counts t s rs);
        long = λ h. counts-long t e.output e.read_map e.counts rs h ∙ sym (count-each-long (singly_in (live_spots t)) rs);
      })
      (λ q. absurd (false≢true q))
      (λ a b d q. let z : ◌≡◌ {A = ℕ} 0 1 = cc in omega arith)
      (λ u f h m. record {
        shown = shows-as f (early-again (report_many rs) t u e f e.counts f.counts h (h.counts refl)) (second-joined t u h.bytes rs unbroken m) h.met.promised.handed;
        counts = λ q a. h.met.promised.counted ∙ rw (a, second-counts t u h.bytes rs unbroken m, h.counts refl) (sym p.promised.counted);
        ceiling = λ q. absurd (false≢true q);
      })
  step (top_within x1 x2 k a) t e z s p =
      let once = laws.within-once t s x1 x2 k a in
      query-kept (top_within x1 x2 k a) (early_number (with_output t e.output e.read_map) (top_within x1 x2 k a)) (within_table t x1 x2 k a) _ [] t e s (p.unchanged refl)
      (laws.withins t s x1 x2 k a)
      (searched-exact p.promised.search once)
      refl
      (λ q. absurd (false≢true q))
      (λ q r. p.promised.ceiling ∙ ceiling-refused e.answer.number _ r)
      (λ a b d q. let z : ◌≡◌ {A = ℕ} 0 1 = cc in omega arith)
      (λ u f h m.
      let same = within_same t u x1 x2 k a (laws.second-within t u s x1 x2 k a h.bytes m) in
      record {
        shown = shows-as f (early-again (top_within x1 x2 k a) t u e f [] [] h refl) same.1 (searched-exact h.met.promised.search (same.0 ∙ once));
        counts = λ q. absurd (false≢true q);
        ceiling = λ q r. h.met.promised.ceiling ∙ rw (r, same.2) (sym p.promised.ceiling);
      })
  step (apply m) t e z s p =
      let cs = changes_of (read_message m) in
      update-kept (apply m) _ _ t e (after_all cs (live_spots t)) s p.promised.update refl (after-rises cs (live_spots t) (laws.rises t s)) (λ k. refl) refl
