-- Request 2026-10: a Top within an allowance on a sound table, from the laws of its reading. What an accepted call leaves, the same on a second table, and what is
-- said of it where the model holds the live spots.
-- Assumes nothing.
use mathlib.Core.Path.{◌≡◌, refl, ap, ap₂, sym, subst, ◌∙◌}
use mathlib.Core.Logic.{◌⊎◌, ⊎_elim}
use mathlib.Core.Bool.{Bool, true, cond}
use mathlib.Core.List.Memᴰ
use mathlib.Core.List.{List, [], ◌∷◌, Memᴰ}
use Prim.Native.Nat.{ℕ, zero, suc, ◌≤◌}
use native.Mathlib.Omega.{arith}
use lib.ListN.{length, take, length-take}
use lib.Seq.{take-take}
use lib.IntN.{ℤ, pos}
use lib.Signed.{le_z}
use Rattle.octets.specs.Lists.{keep}
use Rattle.octets.specs.Bitmap.{bit}
use Rattle.octets.proofs.Lists.{mem-same}
use Rattle.octets.proofs.Tests.{keep-there}
use Rattle.spot.specs.declared.Spot.{Spot}
use Rattle.spot.specs.Keys.{biased, unbiased}
use Rattle.spot.specs.Range.{of_range}
use Rattle.spot.specs.Query.{top_query, wants}
use Rattle.spot.proofs.Signed.{Fits, unbiased-biased}
use Rattle.spot.proofs.Orders.{rank-of, top-wants}
use Rattle.block.specs.declared.Answer.{Answer}
use Rattle.block.specs.Table.{block}
use Rattle.tree.specs.Walk.{Walk, broken, walked, spots, blocks_read, Finds, live_spots}
use Rattle.tree.specs.Top.{top_table}
use Rattle.tree.specs.ReadMap.{read_map}
use Rattle.tree.specs.Sound.{sound}
use Rattle.tree.proofs.Tops.{top-finds}
use Rattle.within_theory.specs.Reading.{Reading, certain, given_of, begun, reading, ceiling_of, within_table, ceiling_within, reads_in_all}
use Rattle.within_theory.proofs.Certain.{within-whole, within_first, within-over, within-longer, within-lower, within-top}
use Rattle.within_theory.proofs.Repeated.{within-second, within_none, none-given, none-ceiling}
use Rattle.table.specs.Calls.{top_within}
use Rattle.table.specs.Answers.{ceiling_left}
use Rattle.table.specs.Queries.{TopWithinPost}
use Rattle.demands.specs.Model.{Plain, PlainSpot, top_before, of_places, chosen, sort_by, highest}
use Rattle.demands.specs.History.{Event, MetBy, SaidWithin}
use Rattle.demands.specs.OnSound.{LeftWithin}
use Rattle.demands.proofs.Orders.{unbiased-rises}
use Rattle.demands.proofs.Keyed.{highest_by}
use Rattle.demands.proofs.Plain.{to_key_spot, keyed, SpotFits, AllFit, keyed-length, keyed-highest, highest-fit}
use Rattle.demands.proofs.Alive.{plain-keyed, mem-plain}
use Rattle.demands.proofs.Histories.{map-accepted, walk-accepted}
use Rattle.demands.proofs.MarksFew.{map-words}

-- no more than k are given, whatever was read
pub given-few : (k : ℕ) (s : Reading) → length (given_of k s) ≤ k
unfolding given_of
given-few k s = omega (arith, length-take k (certain s))

-- ---- what an accepted call leaves

pub record Left (x1 x2 : ℤ) (k a : ℕ) (t : List ℕ) (r : Answer) (map' : List ℕ) (c : ℤ) : Type 0 where
  pub detail : r.detail ≡ length (given_of k (reading t x1 x2 k a))
  pub marks : map' ≡ read_map (reading t x1 x2 k a).blocks
  pub ceiling : c ≡ unbiased (ceiling_of k (reading t x1 x2 k a))

module _ (t : List ℕ) (g : sound t ≡ true) (x1 x2 : ℤ) (k a : ℕ) where
  pub walk_is : within_table t x1 x2 k a ≡ walked (given_of k (reading t x1 x2 k a)) (reading t x1 x2 k a).blocks
  unfolding within_table
  walk_is = ap (λ (b : Bool). cond b (walked (given_of k (reading t x1 x2 k a)) (reading t x1 x2 k a).blocks) broken) (within-whole t g x1 x2 k a)

  pub within-finds : Finds (within_table t x1 x2 k a) (highest_by x1 x2 (length (given_of k (reading t x1 x2 k a))) (live_spots t))
  within-finds = ((reading t x1 x2 k a).blocks, walk_is ∙ ap (λ (ss : List Spot). walked ss (reading t x1 x2 k a).blocks) (within_first t g x1 x2 k a))

  pub reading-second : (u : List ℕ) → length u ≡ length t → ((b : ℕ) → bit (read_map (blocks_read (within_table t x1 x2 k a))) b ≡ true → block u b ≡ block t b)
      → reading u x1 x2 k a ≡ reading t x1 x2 k a
  reading-second u n h =
      within-second t u x1 x2 k a n (within-whole t g x1 x2 k a) (λ b i. h b (ap (λ (w : Walk). bit (read_map (blocks_read w)) b) walk_is ∙ i))

  pub within-left : (out map : List ℕ) (r : Answer) (out'' map' : List ℕ) (c : ℤ) → TopWithinPost x1 x2 k a t out map r out'' map' c → r.number ≡ 0 → Left x1 x2 k a t r map' c
  unfolding ceiling_within ceiling_left
  within-left out map r out'' map' c p z =
      record {
        detail = (walk-accepted _ (length out) (within_table t x1 x2 k a) r p.search.answered z).1 ∙ ap (λ (w : Walk). length (spots w)) walk_is;
        marks = p.search.marks ∙ map-accepted _ _ _ z ∙ ap (λ (w : Walk). read_map (blocks_read w)) walk_is;
        ceiling = p.ceiling ∙ ap (λ (n : ℕ). ceiling_left n (ceiling_within t x1 x2 k a)) z;
      }

  -- a live spot of the range that is not given is not above the ceiling
  pub under-ceiling : (s : PlainSpot) → SpotFits s → Memᴰ (to_key_spot s) (keep (wants (top_query x1 x2 0)) (live_spots t))
      → (Memᴰ (to_key_spot s) (given_of k (reading t x1 x2 k a)) → ⊥)
      → le_z s.rank (unbiased (ceiling_of k (reading t x1 x2 k a))) ≡ true
  under-ceiling s f i out =
      let c = ceiling_of k (reading t x1 x2 k a) in
      ap (λ (y : ℤ). le_z y (unbiased c)) (sym (unbiased-biased s.rank f.rank)) ∙
      unbiased-rises (biased s.rank) c
      (subst (λ (y : ℕ). y ≤ c) (rank-of s.place s.rank f.rank f.place) (within-over t g x1 x2 k a (to_key_spot s) i out))

-- with allowance or k 0 nothing is read or given
none_within : (t : List ℕ) (x1 x2 : ℤ) (k a : ℕ) → (k ≡ 0) ⊎ (a ≡ 0)
    → (length (given_of k (reading t x1 x2 k a)) ≡ 0) × (unbiased (ceiling_of k (reading t x1 x2 k a)) ≡ pos 2147483647) × ((reading t x1 x2 k a).blocks ≡ [])
unfolding unbiased begun
none_within t x1 x2 k a h =
    let e = within_none t x1 x2 k a h in (
      ap (λ (s : Reading). length (given_of k s)) e ∙ ap length (none-given t k),
      ap unbiased (ap (ceiling_of k) e ∙ none-ceiling t k),
      ap (λ (s : Reading). s.blocks) e,
    )

-- the same in the paper's words
pub left-within : (x1 x2 : ℤ) (k a : ℕ) (t : List ℕ) (r : Answer) (map' : List ℕ) (c : ℤ) → Left x1 x2 k a t r map' c → LeftWithin x1 x2 k a t r map' c
left-within x1 x2 k a t r map' c left =
    record {
      ceiling = left.ceiling;
      marks = λ b l. rw left.marks (map-words (reading t x1 x2 k a).blocks b l);
      none = λ h. let e = none_within t x1 x2 k a h in (left.detail ∙ e.0, left.ceiling ∙ e.1, e.2);
    }

-- a larger allowance
pub left-grows : (t : List ℕ) → sound t ≡ true → (x1 x2 : ℤ) (k a b : ℕ) → a ≤ b → {r q : Answer} {m n : List ℕ} {c d : ℤ} → Left x1 x2 k a t r m c → Left x1 x2 k b t q n d
    → (r.detail ≤ q.detail) × (le_z d c ≡ true)
left-grows t g x1 x2 k a b h left more = (
  omega (arith, left.detail, more.detail, within-longer t g x1 x2 k a b h),
  ap₂ le_z more.ceiling left.ceiling ∙ unbiased-rises _ _ (within-lower t g x1 x2 k a b h),
)

-- ---- the highest of the model

-- as many as were taken
take-taken : {A : Type 0} (k : ℕ) (l : List A) → take (length (take k l)) l ≡ take k l
take-taken zero l = refl
take-taken (suc k) [] = refl
take-taken (suc k) (x ∷ l) = ap (λ (r : List _). x ∷ r) (take-taken k l)

highest-taken : (x1 x2 : ℤ) (k : ℕ) (ss : List PlainSpot) → highest x1 x2 (length (highest x1 x2 k ss)) ss ≡ highest x1 x2 k ss
unfolding highest
highest-taken x1 x2 k ss = take-taken k (sort_by top_before (chosen (of_places x1 x2) ss))

-- the n highest are the first of the k highest
highest-first : (x1 x2 : ℤ) (n k : ℕ) (ss : List PlainSpot) → n ≤ k → highest x1 x2 n ss ≡ take (length (highest x1 x2 n ss)) (highest x1 x2 k ss)
unfolding highest
highest-first x1 x2 n k ss h =
    let l = sort_by top_before (chosen (of_places x1 x2) ss) in
    sym (take-take (length (take n l)) k l (omega (arith, length-take n l)) ∙ take-taken n l)

fit-mem : (ss : List PlainSpot) → AllFit ss → (s : PlainSpot) → Memᴰ s ss → SpotFits s
fit-mem [] h s i = absurd (Memᴰ.not-nil i)
fit-mem (x ∷ ss) h s i = ⊎_elim (λ (e : s ≡ x). subst SpotFits (sym e) h.0) (λ j. fit-mem ss h.1 s j) (Memᴰ.cases_cons i)

-- ---- where the model holds the live spots

module _ (t : List ℕ) (g : sound t ≡ true) (ps : Plain) (same : keyed ps.spots ≡ live_spots t) (fit : AllFit ps.spots) (x1 x2 : ℤ) (f1 : Fits x1)
    (f2 : Fits x2) (k : ℕ) where
  -- the model's Top is the table's
  pub top-keyed : keyed (highest x1 x2 k ps.spots) ≡ spots (top_table t x1 x2 k)
  top-keyed = keyed-highest x1 x2 f1 f2 k ps.spots fit ∙ ap (highest_by x1 x2 k) same ∙ sym (ap spots (top-finds t g x1 x2 k).1)

  module _ (a : ℕ) where
    abbrev many : ℕ
    many = length (given_of k (reading t x1 x2 k a))

    abbrev given : List PlainSpot
    given = highest x1 x2 many ps.spots

    given-keyed : keyed given ≡ given_of k (reading t x1 x2 k a)
    given-keyed = keyed-highest x1 x2 f1 f2 many ps.spots fit ∙ ap (highest_by x1 x2 many) same ∙ sym (within_first t g x1 x2 k a)

    given-over : (s : PlainSpot) → Memᴰ s ps.spots → of_places x1 x2 s ≡ true → (Memᴰ s given → ⊥)
        → le_z s.rank (unbiased (ceiling_of k (reading t x1 x2 k a))) ≡ true
    unfolding of_places of_range
    given-over s i w out =
        let f = fit-mem ps.spots fit s i in
        under-ceiling t g x1 x2 k a s f
        (keep-there (wants (top_query x1 x2 0)) (live_spots t) (mem-same same (Memᴰ.map to_key_spot i)) (sym (top-wants x1 x2 f1 f2 s.place s.rank f.place f.rank) ∙ w))
        (λ j. out (mem-same (plain-keyed given (highest-fit x1 x2 f1 f2 many ps.spots fit)) (mem-plain (keyed given) s f (mem-same (sym given-keyed) j))))

    given-none : many ≡ 0 → given ≡ []
    unfolding highest
    given-none e = ap (λ (n : ℕ). highest x1 x2 n ps.spots) e

    pub said-within : (e : Event) → MetBy (top_within x1 x2 k a) t e → e.answer.number ≡ 0 → SaidWithin x1 x2 k a t ps given e
    said-within e p z =
        let left = within-left t g x1 x2 k a e.output e.read_map e.answer e.output' e.read_map' e.ceiling' p.promised z in
        let words = left-within x1 x2 k a t e.answer e.read_map' e.ceiling' left in
        record {
          first = highest-first x1 x2 many k ps.spots (given-few k (reading t x1 x2 k a));
          ceiling = words.ceiling;
          over = λ s i w out. ap (le_z s.rank) left.ceiling ∙ given-over s i w out;
          grows = λ b f h q y.
              left-grows t g x1 x2 k a b h left
              (within-left t g x1 x2 k b f.output f.read_map f.answer f.output' f.read_map' f.ceiling' q.promised y);
          marks = words.marks;
          none = λ h. let r = words.none h in (given-none (sym left.detail ∙ r.0), r.1, r.2);
        }

    -- once the allowance reaches what Top reads, these are Top's spots
    pub given-reached : reads_in_all t x1 x2 k ≤ a → given ≡ highest x1 x2 k ps.spots
    given-reached h =
        ap (λ (n : ℕ). highest x1 x2 n ps.spots) (ap length (within-top t g x1 x2 k a h ∙ sym top-keyed) ∙ keyed-length (highest x1 x2 k ps.spots)) ∙
        highest-taken x1 x2 k ps.spots
