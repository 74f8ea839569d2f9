-- The posts of a Report of many ranges, one law for each way that the call ends.
-- Assumes nothing.
use mathlib.Core.Path.{◌≡◌, refl, ap, sym, subst, ◌∙◌}
use mathlib.Core.Bool.{Bool, true, false, not, ◌&&◌, ◌||◌, true≢false, false≢true}
use mathlib.Core.List.{List}
use Prim.Native.Nat.{ℕ, zero, suc, ◌/◌, ◌≤◌, ◌<◌}
use native.Mathlib.Omega.{arith}
use lib.Dec.{eqb}
use lib.ListN.{length, take}
use borrow.Author.Tests.{not-true, not-false, eq-eqb, eqb-true, le-leb, lt-leb}
use Rattle.octets.proofs.Tests.{and_both, refuted}
use Rattle.block.specs.Answers.{answer}
use Rattle.block.specs.Header.{head_of}
use Rattle.block.specs.HeaderRules.{header_ok}
use Rattle.block.specs.Table.{table_sized}
use Rattle.block.specs.declared.Answer.{Answer}
use Rattle.tree.specs.Walk.{is_broken}
use Rattle.ranges.specs.declared.Range.{Range}
use Rattle.ranges.specs.declared.Batch.{Batch}
use Rattle.report.specs.Joined.{joined, counts_of}
use Rattle.report.proofs.Joined.{header-joined}
use Rattle.table.specs.Calls.{report_many}
use Rattle.table.specs.Answers.{with_counts, early_number, counts_left}
use Rattle.table.specs.Queries.{WalkPost}
use Rattle.table.proofs.Answering.{number_short, number-lent, number-over, number-fine, walk-early, walk-broken, walk-many, walk-given}
use Rattle.many.specs.Many.{given, AllCounted, AllGiven, Answered, ManyOf}
use Rattle.std.specs.Prelude.{Some, None}

-- refused: the counts are as they were
left-counts : (found counts : List ℕ) (n d : ℕ) (r : Answer) → 0 < n → r ≡ answer n d → counts ≡ counts_left r.number found counts
unfolding counts_left
left-counts found counts zero d r h a = let z : ⊥ = omega arith in absurd z
left-counts found counts (suc n) d r h a = sym (ap (λ (x : Answer). counts_left x.number found counts) a)

-- ---- all are counted

module _ (b : Batch) (t counts out map : List ℕ) {seen few each : List ℕ} (r : Answer) where
  pub all-broken : AllCounted b t seen few each None → r ≡ answer 3 0 → Answered b t counts out map r counts out map
  all-broken g a =
      record {
        handed = walk-broken (joined t (given b)) out map refl r (not-false (is_broken (joined t (given b))) (sym g.told)) a;
        counted = left-counts (counts_of t (given b)) counts 3 0 r (omega arith) a;
      }

  module _ {n : ℕ} (g : AllCounted b t seen few each (Some n)) where
    all-whole : is_broken (joined t (given b)) ≡ false
    all-whole = not-true (is_broken (joined t (given b))) (sym g.told)

    pub all-many : length out / 12 < n → r ≡ answer 5 n → Answered b t counts out map r counts out map
    all-many l a =
        record {
          handed = walk-many (joined t (given b)) out map refl r all-whole (subst (λ (i : ℕ). length out / 12 < i) g.spots l) (a ∙ ap (answer 5) g.spots);
          counted = left-counts (counts_of t (given b)) counts 5 n r (omega arith) a;
        }

    pub all-given : {counts' out'' map' : List ℕ} → n ≤ length out / 12 → r ≡ answer 0 n → AllGiven b t out out'' → counts' ≡ take b.n each → map' ≡ seen
        → Answered b t counts out map r counts' out'' map'
    unfolding counts_left
    all-given {counts'} {out''} {map'} l a o k m =
        record {
          handed = walk-given (joined t (given b)) out map refl r out'' map' all-whole (subst (λ (i : ℕ). i ≤ length out / 12) g.spots l) (a ∙ ap (answer 0) g.spots) o.output (m ∙ g.marks);
          counted = k ∙ g.counts ∙ sym (ap (λ (x : Answer). counts_left x.number (counts_of t (given b)) counts) a);
        }

-- ---- a batch that has the ranges of a list

-- the test of the two lengths
pub lengths-right : (map counts : List ℕ) (n : ℕ) → not (eqb (length map) 512) || not (eqb (length counts) n) ≡ false → (length map ≡ 512) × (length counts ≡ n)
lengths-right map counts n h =
    let both = go (eqb (length map) 512) (eqb (length counts) n) h in
    (eqb-true (length map) 512 both.0, eqb-true (length counts) n both.1)
  where
    go : (a b : Bool) → not a || not b ≡ false → (a ≡ true) × (b ≡ true)
    go true true g = (refl, refl)
    go true false g = absurd (true≢false g)
    go false b g = absurd (true≢false g)

lengths-wrong : (a b : Bool) → not a || not b ≡ true → a && b ≡ false
lengths-wrong true true h = absurd (false≢true h)
lengths-wrong true false h = refl
lengths-wrong false b h = refl

module _ (b : Batch) (t counts out map : List ℕ) (r : Answer) where
  -- refused by lengths and arguments
  early : (n : ℕ) → ((rs : List Range) → b.n ≡ length rs → early_number (with_counts t out map counts) (report_many rs) ≡ suc n) → r ≡ answer (suc n) 0 → ManyOf b t counts out map r counts out map
  early n e a rs h =
      record {
        handed = walk-early (joined t rs) out map n r (e rs h.count) a;
        counted = left-counts (counts_of t rs) counts (suc n) 0 r (omega arith) a;
      }

  pub many-short : table_sized (length t) ≡ false → r ≡ answer 1 0 → ManyOf b t counts out map r counts out map
  many-short e a = early 0 (λ rs k. number_short (with_counts t out map counts) (report_many rs) e) a

  module _ (e : table_sized (length t) ≡ true) where
    pub many-lent : not (eqb (length map) 512) || not (eqb (length counts) b.n) ≡ true → r ≡ answer 2 0 → ManyOf b t counts out map r counts out map
    many-lent f a =
        early 1
        (λ rs k.
        number-lent (with_counts t out map counts) (report_many rs) e
        (ap (λ (n : ℕ). eqb (length map) 512 && eqb (length counts) n) (sym k) ∙ lengths-wrong (eqb (length map) 512) (eqb (length counts) b.n) f))
        a

    module _ (f : length map ≡ 512) (m : length counts ≡ b.n) where
      lent-right : (n : ℕ) → b.n ≡ n → eqb (length map) 512 && eqb (length counts) n ≡ true
      lent-right n k = and_both (eqb (length map) 512) (eqb (length counts) n) (eq-eqb (length map) 512 f) (eq-eqb (length counts) n (m ∙ k))

      pub many-over : 64 < b.n → r ≡ answer 6 0 → ManyOf b t counts out map r counts out map
      many-over l a =
          early 5 (λ rs k. number-over (with_counts t out map counts) (report_many rs) e (lent-right (length rs) k) (lt-leb (length rs) 64 (subst (λ (n : ℕ). 64 < n) k l))) a

      module _ (few : b.n ≤ 64) where
        fine : (rs : List Range) → b.n ≡ length rs → early_number (with_counts t out map counts) (report_many rs) ≡ 0
        fine rs k =
            number-fine (with_counts t out map counts) (report_many rs) e (lent-right (length rs) k) (le-leb (length rs) 64 (subst (λ (n : ℕ). n ≤ 64) k few)) refl

        -- block 0 breaks a rule
        pub many-header : header_ok (length t) (head_of t) ≡ false → r ≡ answer 3 0 → ManyOf b t counts out map r counts out map
        many-header x a rs h =
            record {
              handed =
                  walk-broken (joined t rs) out map (fine rs h.count) r
                  (not-false (is_broken (joined t rs))
                  (refuted (not (is_broken (joined t rs))) (λ y. true≢false (sym (header-joined t rs (not-true (is_broken (joined t rs)) y)) ∙ x))))
                  a;
              counted = left-counts (counts_of t rs) counts 3 0 r (omega arith) a;
            }

        pub many-answered : {counts' out'' map' : List ℕ} → Answered b t counts out map r counts' out'' map' → ManyOf b t counts out map r counts' out'' map'
        many-answered {counts'} {out''} {map'} g rs h =
            record {
              handed = subst (λ (n : ℕ). WalkPost n (joined t rs) out map r out'' map') (sym (fine rs h.count)) (subst (λ (xs : List Range). WalkPost 0 (joined t xs) out map r out'' map') (h.all few) g.handed);
              counted = g.counted ∙ ap (λ (xs : List Range). counts_left r.number (counts_of t xs) counts) (h.all few);
            }
