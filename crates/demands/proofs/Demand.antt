-- Demand 3, from the promises of the calls alone.
-- Assumes nothing.
use mathlib.Core.Path.{◌≡◌, refl, ap, sym, ◌∙◌, subst}
use mathlib.Core.Logic.{◌⊎◌, inl, inr, ⊎_elim, ◌↔◌}
use mathlib.Core.Bool.{Bool, true, false, cond, not, ◌&&◌}
use mathlib.Core.List.{List, [], ◌∷◌, ◌++◌, Memᴰ}
use Prim.Native.Nat.{ℕ, ◌-◌, ◌*◌, ◌/◌, ◌≤◌, ◌<◌}
use native.Mathlib.Omega.{arith}
use lib.ListN.{length, drop}
use lib.Dec.{ltb}
use borrow.Author.Tests.{le-leb, leb-true}
use lib.IntN.{ℤ}
use Rattle.spot.specs.declared.Spot.{Spot}
use Rattle.block.specs.Fresh.{formatted}
use Rattle.block.specs.Table.{table_sized}
use Rattle.octets.specs.Bitmap.{bit}
use Rattle.octets.specs.Lists.{every}
use Rattle.spot.specs.Keys.{signed32, unsigned32}
use Rattle.spot.proofs.Signed.{Fits, signed-fits}
use Rattle.block.specs.declared.Answer.{Answer}
use Rattle.tree.specs.Read.{ReadBlock}
use Rattle.tree.specs.ReadMap.{read_map}
use Rattle.tree.specs.Sound.{sound}
use Rattle.tree.specs.Walk.{is_broken, blocks_read, live_spots}
use Rattle.tree.specs.Report.{report_table}
use Rattle.within_theory.specs.Reading.{reading, given_of}
use Rattle.within_theory.proofs.Certain.{within-once}
use Rattle.ranges.specs.declared.Range.{Range}
use Rattle.report.specs.Joined.{report_of}
use Rattle.table.specs.Calls.{Call, format, add, withdraw, report, top, count, check, rebuild, report_many, top_within, apply, queries, Lengths, range_fits, arguments_fit}
use Rattle.demands.specs.Model.{Plain, PlainSpot, Reply, begun_empty, output_after, counts_after, refuse, accept, bad_table, bad_lent, too_many, no_message, changes_outside, hand_out, own_reply, reply, told_call, highest}
use Rattle.demands.specs.TopMarks.{MarksFew}
use Rattle.demands.specs.History.{Event, MetBy, History, Agreed, FullExactly, MarksExactly, UnionMarked, TopMarksFew, SaidWithin, WithinSaid, TopReached, AllAgreed, Demand3, lengths_in, certain_in, reply_in, model_after}
use Rattle.tree.proofs.Fresh.{fresh-sized, fresh-sound, fresh-empty}
use Rattle.octets.proofs.Tests.{and_left, and_right, and_both, every-mem}
use Rattle.demands.proofs.Histories.{TreeLaws, key_reply_in, map-accepted, many-finds, step}
use Rattle.demands.proofs.Plain.{keyed, AllFit, three-signed, Like, like, bad-table, highest-fit}
use Rattle.demands.proofs.MarksFew.{marks-few}
use Rattle.demands.proofs.Withins.{given-few, within-finds, reading-second, top-keyed, said-within, given-reached}
use Rattle.report.proofs.Reports.{report-blocks}
use Rattle.report.proofs.Joined.{marks-joined}
use Rattle.demands.proofs.Sorted.{stays-held, says-full}
use Rattle.tree.proofs.Tables.{sound-header, live-rises, live-finds, report-finds, count-finds}
use Rattle.tree.proofs.Second.{report-second}
use Rattle.tree.proofs.Tops.{top-finds, top-rises}
use Rattle.tree.proofs.TopSecond.{top-second, top-walk-second}
use Rattle.tree.proofs.Bound.{report-bound}
use Rattle.tree.proofs.ReadWords.{marks-exact-words}

-- what is proved of trees, as a step of a history uses it
pub tree_laws : TreeLaws
tree_laws =
    record {
      fresh-sized = fresh-sized;
      fresh-sound = fresh-sound;
      fresh-empty = fresh-empty;
      header = sound-header;
      rises = live-rises;
      finds = live-finds;
      reports = report-finds;
      counts = count-finds;
      tops = top-finds;
      bound = report-bound;
      second = λ t u s q n a. report-second t s u q n a;
      second-top = λ t u s x1 x2 k n a. (top-walk-second t s x1 x2 u n k a, top-second t s x1 x2 u n k a);
      top-rises = top-rises;
      withins = within-finds;
      within-once = within-once;
      second-within = λ t u s x1 x2 k a n h. reading-second t s x1 x2 k a u n h;
    }

-- the claim of one call, where the model holds the live spots
record Step (t : List ℕ) (ps : Plain) (e : Event) : Type 0 where
  agreed : Agreed e.call t (reply_in e.call t ps e).answer (output_after (reply_in e.call t ps e) e.output) (counts_after (reply_in e.call t ps e) e.counts) e
  sized : length e.table' ≡ length t
  holds : keyed (model_after t ps e).spots ≡ live_spots e.table'
  fit : AllFit (model_after t ps e).spots
  full : FullExactly e.call t ps e
  held : length (model_after t ps e).spots ≤ 16 * (length e.table' / 2048 - 1)

full-exactly : (c : Call) (t : List ℕ) (ps : Plain) (e : Event) → table_sized (length t) ≡ true → length ps.spots ≤ 16 * (length t / 2048 - 1)
    → e.answer ≡ (reply_in c t ps e).answer
    → FullExactly c t ps e
full-exactly c t ps e z h a place rank track q w i = rw (a, q) (says-full (lengths_in t e) place rank track ps (bad-table (length t) ∙ ap not z) w i h)

-- what a single report marks, in the paper's words
single-marks : (t : List ℕ) → sound t ≡ true → (x1 x2 y : ℤ) → signed32 x1 && signed32 x2 && signed32 y ≡ true → (b : ℕ) → b < 4096
    → (bit (read_map (blocks_read (report_table t x1 x2 y))) b ≡ true) ↔ ((b ≡ 0) ⊎ ReadBlock t x1 x2 y b)
single-marks t s x1 x2 y a b l =
    let f = three-signed x1 x2 y a in
    rw (report-blocks t x1 x2 y) (marks-exact-words t x1 x2 y s f.0 f.1 f.2 b l)

pub marks-exactly : (c : Call) (t : List ℕ) (e : Event) → sound t ≡ true → arguments_fit c ≡ true → MetBy c t e → MarksExactly c t e
unfolding arguments_fit
marks-exactly c t e s a p x1 x2 y q z b l =
    let m : MetBy (report x1 x2 y) t e = subst (λ (d : Call). MetBy d t e) q p in
    rw (m.promised.marks ∙ map-accepted _ _ _ z) (single-marks t s x1 x2 y (ap arguments_fit (sym q) ∙ a) b l)

-- and what many ranges mark
pub union-marked : (c : Call) (t : List ℕ) (e : Event) → sound t ≡ true → arguments_fit c ≡ true → MetBy c t e → UnionMarked c t e
unfolding arguments_fit range_fits
union-marked c t e s a p rs q z b l =
    let m : MetBy (report_many rs) t e = subst (λ (d : Call). MetBy d t e) q p in
    let fits : every range_fits rs ≡ true = ap arguments_fit (sym q) ∙ a in
    let union = marks-joined t rs (ap is_broken (many-finds tree_laws t s rs).1) b l in
    let words : (x : Range) → Memᴰ x rs → (bit (read_map (blocks_read (report_of t x))) b ≡ true) ↔ ((b ≡ 0) ⊎ ReadBlock t x.x1 x.x2 x.y b) =
    λ x i. single-marks t s x.x1 x.x2 x.y (every-mem range_fits rs fits i) b l in
    rw (m.promised.handed.marks ∙ map-accepted _ _ _ z) (
      λ k. ⊎_elim inl
          (λ (r : (x : Range) × Memᴰ x rs × (bit (read_map (blocks_read (report_of t x))) b ≡ true)).
          ⊎_elim inl (λ d. inr (r.0, r.1, d)) ((words r.0 r.1).0 r.2))
          (union.0 k),
      λ k. union.1
          (⊎_elim inl (λ (r : (x : Range) × Memᴰ x rs × ReadBlock t x.x1 x.x2 x.y b). inr (r.0, r.1, (words r.0 r.1).1 (inr r.2))) k),
    )

-- an accepted Top of the model gives the highest
gives-highest : (l : Lengths) (x1 x2 : ℤ) (k : ℕ) (ps : Plain) → (reply l (top x1 x2 k) ps).answer.number ≡ 0
    → (reply l (top x1 x2 k) ps).given ≡ highest x1 x2 k ps.spots
unfolding reply too_many no_message changes_outside own_reply hand_out refuse accept
gives-highest l x1 x2 k ps = go (bad_table l.table) (bad_lent l queries) (ltb (l.output / 12) (length (highest x1 x2 k ps.spots)))
  where
    found : List PlainSpot
    found = highest x1 x2 k ps.spots

    due : Bool → Bool → Bool → Reply
    due a b c = cond a (refuse 1 0 ps) (cond b (refuse 2 0 ps) (cond c (refuse 5 (length found) ps) (accept (length found) found [] ps)))

    go : (a b c : Bool) → (due a b c).answer.number ≡ 0 → (due a b c).given ≡ found
    go true b c e = absurd (omega (arith, e))
    go false true c e = absurd (omega (arith, e))
    go false false true e = absurd (omega (arith, e))
    go false false false e = refl

-- so it is with an accepted call that the model takes for one
given-in : (c : Call) (t : List ℕ) (ps : Plain) (e : Event) (x1 x2 : ℤ) (k : ℕ) → told_call c (certain_in c t) ≡ top x1 x2 k → e.answer ≡ (reply_in c t ps e).answer → e.answer.number ≡ 0
    → (reply_in c t ps e).given ≡ highest x1 x2 k ps.spots
given-in c t ps e x1 x2 k q due z =
    let l = lengths_in t e in
    ap (λ (d : Call). (reply l d ps).given) q ∙
    gives-highest l x1 x2 k ps (ap (λ (d : Call). (reply l d ps).answer.number) (sym q) ∙ ap (λ (r : Answer). r.number) (sym due) ∙ z)

-- the two places of a Top, from the test of its arguments
top-places : (x1 x2 : ℤ) (k : ℕ) → arguments_fit (top x1 x2 k) ≡ true → (signed32 x1 ≡ true) × (signed32 x2 ≡ true)
unfolding arguments_fit
top-places x1 x2 k a =
    let f = and_left (signed32 x1 && signed32 x2) (unsigned32 k) a in
    (and_left (signed32 x1) (signed32 x2) f, and_right (signed32 x1) (signed32 x2) f)

top-marks-few : (c : Call) (t : List ℕ) (ps : Plain) (e : Event) → sound t ≡ true → keyed ps.spots ≡ live_spots t → AllFit ps.spots → arguments_fit c ≡ true → MetBy c t e
    → e.answer ≡ (reply_in c t ps e).answer
    → TopMarksFew c t (reply_in c t ps e).given e
top-marks-few c t ps e s same fit a p due x1 x2 k q z =
    let m : MetBy (top x1 x2 k) t e = subst (λ (d : Call). MetBy d t e) q p in
    let h = top-places x1 x2 k (ap arguments_fit (sym q) ∙ a) in
    let f1 = signed-fits x1 h.0 in
    let f2 = signed-fits x2 h.1 in
    let gives = given-in c t ps e x1 x2 k (ap (λ (d : Call). told_call d (certain_in d t)) q) due z in
    subst (λ (l : List PlainSpot). MarksFew x1 x2 k l t e.read_map') (sym gives)
    (marks-few t s x1 x2 h.0 h.1 k (highest x1 x2 k ps.spots) (highest-fit x1 x2 f1 f2 k ps.spots fit) (top-keyed t s ps same fit x1 x2 f1 f2 k) e.read_map'
    (m.promised.marks ∙ map-accepted _ _ _ z))

-- ---- a Top within an allowance

-- what the model is told fits its 32 bits: no more than k are given
told-fits : (c : Call) (t : List ℕ) → arguments_fit c ≡ true → arguments_fit (told_call c (certain_in c t)) ≡ true
unfolding arguments_fit unsigned32
told-fits format t h = h
told-fits (add place rank track) t h = h
told-fits (withdraw place rank) t h = h
told-fits (report x1 x2 y) t h = h
told-fits (top x1 x2 k) t h = h
told-fits count t h = h
told-fits check t h = h
told-fits rebuild t h = h
told-fits (report_many rs) t h = h
told-fits (apply m) t h = h
told-fits (top_within x1 x2 k a) t h =
    let n = length (given_of k (reading t x1 x2 k a)) in
    let b = and_left (signed32 x1 && signed32 x2 && unsigned32 k) (unsigned32 a) h in
    and_both (signed32 x1 && signed32 x2) (unsigned32 n) (and_left (signed32 x1 && signed32 x2) (unsigned32 k) b)
    (le-leb n 4294967295 (omega (arith, given-few k (reading t x1 x2 k a), leb-true k 4294967295 (and_right (signed32 x1 && signed32 x2) (unsigned32 k) b))))

-- equal spots make equal replies to a Top
same-reply : (l : Lengths) (x1 x2 : ℤ) (n k : ℕ) (ps : Plain) → highest x1 x2 n ps.spots ≡ highest x1 x2 k ps.spots → reply l (top x1 x2 n) ps ≡ reply l (top x1 x2 k) ps
unfolding reply no_message changes_outside own_reply
same-reply l x1 x2 n k ps e =
    ap (λ (found : List PlainSpot). cond (bad_table l.table) (refuse 1 0 ps)
    (cond (bad_lent l queries) (refuse 2 0 ps) (cond (too_many queries) (refuse 6 0 ps) (hand_out l.output found [] ps))))
    e

module _ (c : Call) (t : List ℕ) (ps : Plain) (e : Event) (s : sound t ≡ true) (same : keyed ps.spots ≡ live_spots t) (fit : AllFit ps.spots) (a : arguments_fit c ≡ true) where
  -- its two places
  within-places : (x1 x2 : ℤ) (k b : ℕ) → c ≡ top_within x1 x2 k b → Fits x1 × Fits x2
  within-places x1 x2 k b q =
      let h = top-places x1 x2 _ (told-fits (top_within x1 x2 k b) t (ap arguments_fit (sym q) ∙ a)) in
      (signed-fits x1 h.0, signed-fits x2 h.1)

  within-said : MetBy c t e → e.answer ≡ (reply_in c t ps e).answer → WithinSaid c t ps (reply_in c t ps e).given e
  within-said p due x1 x2 k b q z =
      let m : MetBy (top_within x1 x2 k b) t e = subst (λ (d : Call). MetBy d t e) q p in
      let f = within-places x1 x2 k b q in
      let gives = given-in c t ps e x1 x2 _ (ap (λ (d : Call). told_call d (certain_in d t)) q) due z in
      subst (λ (l : List PlainSpot). SaidWithin x1 x2 k b t ps l e) (sym gives) (said-within t s ps same fit x1 x2 f.0 f.1 k b e m z)

  top_reached : TopReached c t ps e
  top_reached x1 x2 k b q h =
      let f = within-places x1 x2 k b q in
      ap (λ (d : Call). reply_in d t ps e) q ∙
      same-reply (lengths_in t e) x1 x2 (certain_in (top_within x1 x2 k b) t) k ps (given-reached t s ps same fit x1 x2 f.0 f.1 k b h)

-- ---- the history

one-step : (t : List ℕ) (ps : Plain) (e : Event) → table_sized (length t) ≡ true → sound t ≡ true → keyed ps.spots ≡ live_spots t → AllFit ps.spots
    → length ps.spots ≤ 16 * (length t / 2048 - 1)
    → arguments_fit e.call ≡ true
    → MetBy e.call t e
    → Step t ps e
unfolding counts_after
one-step t ps e z s same fit h a m =
    let k = step tree_laws e.call t e z s m in
    let alike = subst (λ (l : List Spot). Like (reply_in e.call t ps e) (key_reply_in e.call t l e)) same (like _ _ ps (told-fits e.call t a) fit) in
    record {
      agreed =
          record {
            answer = k.agreed.answer ∙ sym alike.answer;
            output = λ q. k.agreed.output q ∙ sym (alike.output e.output);
            counts = λ q. k.agreed.counts q ∙ ap (λ (ns : List ℕ). ns ++ drop (length ns) e.counts) (sym alike.counts);
            ceiling = k.agreed.ceiling;
            stays_sound = k.agreed.stays_sound;
            bounded = k.agreed.bounded;
            second = k.agreed.second;
          };
      sized = k.sized;
      holds = alike.next ∙ k.next;
      fit = alike.fit;
      full = full-exactly e.call t ps e z h (k.agreed.answer ∙ sym alike.answer);
      held = rw k.sized (stays-held (lengths_in t e) _ ps (told-fits e.call t a) h);
    }

-- a whole history, from any sound table and a model that holds its live spots
all-agreed : (t : List ℕ) (ps : Plain) (es : List Event) → table_sized (length t) ≡ true → sound t ≡ true → keyed ps.spots ≡ live_spots t → AllFit ps.spots
    → length ps.spots ≤ 16 * (length t / 2048 - 1)
    → History t es
    → AllAgreed t ps es
all-agreed t ps [] z s same fit n h = tt
all-agreed t ps (e ∷ es) z s same fit n h =
    let k = one-step t ps e z s same fit n h.0 h.1 in (
      k.agreed,
      k.full,
      marks-exactly e.call t e s h.0 h.1,
      union-marked e.call t e s h.0 h.1,
      top-marks-few e.call t ps e s same fit h.0 h.1 k.agreed.answer,
      within-said e.call t ps e s same fit h.0 h.1 k.agreed.answer,
      top_reached e.call t ps e s same fit h.0,
      all-agreed e.table' _ es (ap table_sized k.sized ∙ z) k.agreed.stays_sound k.holds k.fit k.held h.2,
    )

-- every history of calls that keep their promises, from a formatted table on, answers as the model does
pub demand3 : Demand3
demand3 bytes z es h =
    all-agreed (formatted bytes) begun_empty es (ap table_sized (fresh-sized bytes z) ∙ z) (fresh-sound bytes z) (sym (fresh-empty bytes z)) tt (omega arith) h
