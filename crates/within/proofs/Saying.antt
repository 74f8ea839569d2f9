-- The promise of a Top within an allowance, one law for each way that the call ends.
-- Assumes nothing.
use mathlib.Core.Path.{◌≡◌, refl, ap, sym, subst, ◌∙◌}
use mathlib.Core.Logic.{◌⊎◌, inl, inr, ⊎_elim}
use mathlib.Core.Bool.{Bool, true, false, cond, ◌||◌}
use mathlib.Core.List.{List, [], ◌++◌}
use Prim.Native.Nat.{ℕ, ◌*◌, ◌/◌, ◌≤◌, ◌<◌}
use native.Mathlib.Omega.{arith}
use lib.ListN.{length, drop}
use lib.Dec.{eqb}
use lib.IntN.{ℤ, pos}
use borrow.Author.Tests.{eqb-true, eqb-false}
use Rattle.octets.specs.Lists.{rising}
use Rattle.octets.proofs.Tests.{or-either, neither}
use Rattle.spot.specs.Keys.{unbiased}
use Rattle.spot.specs.Spots.{keys, spots_bytes}
use Rattle.spot.specs.declared.Spot.{Spot}
use Rattle.block.specs.declared.Answer.{Answer}
use Rattle.block.specs.Answers.{answer, refused, answer_of}
use Rattle.block.specs.declared.Refusal.{Refusal}
use Rattle.block.specs.declared.Refusal.TheVariants.{TableLength, LentLength, Broken, Output}
use Rattle.std.specs.Prelude.{Ok, Err}
use Rattle.block.proofs.Answers.{refused-numbered}
use Rattle.block.specs.Header.{head_of}
use Rattle.block.specs.HeaderRules.{header_ok}
use Rattle.block.specs.Table.{table_sized}
use Rattle.tree.specs.Walk.{Walk, broken, walked, is_broken, spots, blocks_read}
use Rattle.tree.specs.Top.{top_walk, best, top_table}
use Rattle.tree.specs.ReadMap.{read_map}
use Rattle.within_theory.specs.Reading.{Reading, begun, reading, given_of, ceiling_of, within_table, ceiling_within, found_once}
use Rattle.within_theory.proofs.Following.{Sure}
use Rattle.within_theory.proofs.Repeated.{within_none, none-given, none-ceiling}
use Rattle.table.specs.Calls.{Call, top_within}
use Rattle.table.specs.Answers.{with_output, early_number, unless_refused, output_left, map_left, ceiling_left}
use Rattle.table.specs.Queries.{walk_answer, SearchPost, TopWithinPost}
use Rattle.table.proofs.Searching.{ceiling-refused, Serves, search-short, search-lent, search-broken, search-many, search-given}
use Rattle.within.specs.Within.{said_of, Saying, NoneSaid, GivenOut}
use Rattle.within.specs.declared.Said.{Said}

-- the highest rank
abbrev pub highest : ℤ
highest = pos 2147483647

-- a ceiling is left where the call is accepted
pub ceiling-accepted : (n : ℕ) (c : ℤ) → n ≡ 0 → ceiling_left n c ≡ c
unfolding ceiling_left
ceiling-accepted n c h = ap (λ (i : ℕ). ceiling_left i c) h

-- the ceiling as it is held
pub ceiling-as : {x1 x2 : ℤ} {k a : ℕ} {t out map : List ℕ} {r : Answer} {out'' map' : List ℕ} {c d : ℤ} → c ≡ d → TopWithinPost x1 x2 k a t out map r out'' map' c
    → TopWithinPost x1 x2 k a t out map r out'' map' d
ceiling-as {x1} {x2} {k} {a} {t} {out} {map} {r} {out''} {map'} e v = subst (λ (z : ℤ). TopWithinPost x1 x2 k a t out map r out'' map' z) e v

-- the test for a call that reads no node
pub none-asked : (k a : ℕ) → eqb k 0 || eqb a 0 ≡ true → (k ≡ 0) ⊎ (a ≡ 0)
none-asked k a h =
    ⊎_elim (λ (e : eqb k 0 ≡ true). inl (eqb-true k 0 e)) (λ (e : eqb a 0 ≡ true). inr (eqb-true a 0 e)) (or-either (eqb k 0) (eqb a 0) h)

pub some-asked : (k a : ℕ) → eqb k 0 || eqb a 0 ≡ false → (0 < k) × (0 < a)
some-asked k a h =
    let both = neither (eqb k 0) (eqb a 0) h in
    let e = eqb-false k 0 both.0 in
    let f = eqb-false a 0 both.1 in
    (omega arith, omega arith)

module _ (x1 x2 : ℤ) (k a : ℕ) (t out map : List ℕ) where
  abbrev call : Call
  call = top_within x1 x2 k a

  abbrev once : Bool
  once = found_once t x1 x2 k a

  abbrev gives : Walk
  gives = within_table t x1 x2 k a

  abbrev ended : Reading
  ended = reading t x1 x2 k a

  abbrev Search : Answer → Type 0
  Search r = SearchPost call x1 x2 gives once t out map r out map

  -- refused
  refused_as : (e : Refusal) (s : Said) → s ≡ said_of (Err e) (pos 0) → Search (refused e) → Saying x1 x2 k a t out map s out map
  refused_as e s h v =
      subst (λ (z : Said). Saying x1 x2 k a t out map z out map) (sym h) (record { search = v; ceiling = sym (ceiling-refused (refused e).number (ceiling_within t x1 x2 k a) (refused-numbered e)) })

  pub within-short : (s : Said) → table_sized (length t) ≡ false → s ≡ said_of (Err TableLength) (pos 0) → Saying x1 x2 k a t out map s out map
  within-short s e h = refused_as TableLength s h (search-short call refl refl x1 x2 gives once t out map (answer 1 0) e refl)

  module _ (e : table_sized (length t) ≡ true) where
    pub within-lent : (s : Said) → eqb (length map) 512 ≡ false → s ≡ said_of (Err LentLength) (pos 0) → Saying x1 x2 k a t out map s out map
    within-lent s f h = refused_as LentLength s h (search-lent call refl refl x1 x2 gives once t out map (answer 2 0) e f refl)

    module _ (f : eqb (length map) 512 ≡ true) where
      walk_of : (b : Bool) → ended.whole ≡ b → gives ≡ cond b (walked (given_of k ended) ended.blocks) broken
      unfolding within_table
      walk_of b h = ap (λ (z : Bool). cond z (walked (given_of k ended) ended.blocks) broken) h

      -- a rule is broken
      pub within-broken : (s : Said) → ended.whole ≡ false → s ≡ said_of (Err Broken) (pos 0) → Saying x1 x2 k a t out map s out map
      within-broken s w h =
          refused_as Broken s h (search-broken call refl refl x1 x2 gives once t out map (answer 3 0) e f (ap is_broken (walk_of false w)) refl)

      -- more spots than the output holds
      pub within-many : (s : Said) (n : ℕ) → ended.whole ≡ true → n ≡ length (given_of k ended) → length out / 12 < n → s ≡ said_of (Err (Output n)) (pos 0)
          → Saying x1 x2 k a t out map s out map
      within-many s n w m l h =
          let is = walk_of true w in
          refused_as (Output n) s h
          (search-many call refl refl x1 x2 gives once t out map (answer 5 n) e f n (ap is_broken is) (m ∙ sym (ap (λ (v : Walk). length (spots v)) is)) l refl)

      serves : {n : ℕ} {seen' out'' : List ℕ} (g : GivenOut t x1 x2 k a n out seen' out'') → Serves t x1 x2 gives once g.given g.blocks
      serves g =
          let is = walk_of true g.sure.whole in
          record {
            intact = ap is_broken is;
            many = g.sure.many ∙ sym (ap (λ (v : Walk). length (spots v)) is);
            same = λ h. g.sure.same h ∙ sym (ap spots is);
            from = g.from;
            places = g.places;
            map = ap (λ (v : Walk). read_map (blocks_read v)) is ∙ ap read_map g.sure.read;
          }

      -- accepted: the spots given, and the ceiling c of a search for the same
      pub within-given : (s : Said) (n c : ℕ) (seen' out'' map' : List ℕ) {given : List Spot} {blocks : List ℕ} → GivenOut t x1 x2 k a n out seen' out'' → Sure t x1 x2 k a given blocks c
          → n ≤ length out / 12 → map' ≡ seen' → s ≡ said_of (Ok n) (unbiased c)
          → Saying x1 x2 k a t out map s out'' map'
      unfolding ceiling_left ceiling_within
      within-given s n c seen' out'' map' g sure l m h =
          subst (λ (z : Said). Saying x1 x2 k a t out map z out'' map') (sym h)
          (record {
            search =
                search-given call refl refl x1 x2 gives once t out map (answer 0 n) e f n out'' map' (serves g) g.counted l refl
                (g.output ∙ ap (λ (i : ℕ). spots_bytes g.given ++ drop (12 * i) out) g.counted)
                (m ∙ g.map);
            ceiling = ap unbiased sure.ceiling;
          })

-- ---- no node is read

module _ (x1 x2 : ℤ) (t : List ℕ) where
  -- what is read is block 0, and nothing is given
  abbrev none_if : Bool → Walk
  none_if b = cond b (walked [] []) broken

  top-none : top_table t x1 x2 0 ≡ none_if (header_ok (length t) (head_of t))
  unfolding top_table top_walk
  top-none = go (header_ok (length t) (head_of t))
    where
      go : (b : Bool) → best 0 (none_if b) ≡ none_if b
      go true = refl
      go false = refl

  -- the order of no spots
  none-rising : rising (keys (spots (top_walk t x1 x2 0))) ≡ true
  unfolding top_walk
  none-rising = go (header_ok (length t) (head_of t))
    where
      go : (b : Bool) → rising (keys (spots (none_if b))) ≡ true
      go true = refl
      go false = refl

  module _ (k a : ℕ) (none : (k ≡ 0) ⊎ (a ≡ 0)) where
    walk_none : within_table t x1 x2 k a ≡ none_if (header_ok (length t) (head_of t))
    unfolding within_table begun
    walk_none =
        ap (λ (s : Reading). cond s.whole (walked (given_of k s) s.blocks) broken) (within_none t x1 x2 k a none)
        ∙ ap (λ (ss : List Spot). cond (header_ok (length t) (head_of t)) (walked ss []) broken) (none-given t k)

    ceiling-none : ceiling_within t x1 x2 k a ≡ highest
    unfolding ceiling_within unbiased
    ceiling-none = ap unbiased (ap (ceiling_of k) (within_none t x1 x2 k a none) ∙ none-ceiling t k)

    -- as a Top of none
    pub within-zero : (out map : List ℕ) (s : Said) (out'' map' : List ℕ) → NoneSaid x1 x2 t out map s out'' map' → Saying x1 x2 k a t out map s out'' map'
    unfolding early_number
    within-zero out map s out'' map' v =
        let post = v.top in
        let same : top_table t x1 x2 0 ≡ within_table t x1 x2 k a = top-none ∙ sym walk_none in
        record {
          search =
              record {
                answered = post.answered ∙ ap (λ (w : Walk). unless_refused (early_number (with_output t out map) (top_within x1 x2 k a)) (walk_answer (length out) w)) same;
                marks = post.marks ∙ ap (λ (w : Walk). map_left (answer_of s.answer).number (blocks_read w) map) same;
                output = λ h. post.output none-rising ∙ ap (λ (w : Walk). output_left (answer_of s.answer).number (spots w) out) same;
                unchanged = post.unchanged;
                hands_out = post.hands_out;
              };
          ceiling = v.ceiling ∙ ap (ceiling_left (answer_of s.answer).number) (sym ceiling-none);
        }
