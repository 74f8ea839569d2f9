-- How many spots Top gives: by a count of the walk at the lowest rank, or by the search itself.
-- Assumes nothing.
use mathlib.Core.Path.{◌≡◌, refl, ap, sym, ◌∙◌}
use mathlib.Core.Bool.{Bool, true, false, not, false≢true}
use mathlib.Core.List.{List}
use Prim.Native.Nat.{ℕ, min, ◌≤◌}
use native.Mathlib.Omega.{arith}
use lib.IntN.{ℤ}
use lib.ListN.{length, replicate}
use Rattle.std.specs.Prelude.{Some, None}
use Rattle.spot.specs.Query.{top_query}
use Rattle.spot.specs.declared.Query.{Query}
use Rattle.tree.specs.Walk.{is_broken, spots, walk_table}
use Rattle.tree.proofs.TopCounts.{top-counts}
use Rattle.top.specs.Runs.{Ended, TopFront}
use Rattle.top.specs.declared.TopTally.{TopTally}
use Rattle.table.specs.declared.Kind.TheVariants.{Held, Best}
use Rattle.table.specs.declared.Size.{Size}
use Rattle.table.specs.TopSizes.{Gives, TopCounted, TopSized}
use Rattle.table.proofs.Answering.{told-whole}

-- a count m of a walk that is whole: Top gives k of them, or all
pub count_gives : (t : List ℕ) (q : Query) (k n m : ℕ) (ok : Bool) → ok ≡ not (is_broken (walk_table t q)) → ok ≡ true → m ≡ length (spots (walk_table t q)) → n ≡ min k m
    → (x1 x2 : ℤ) → q ≡ top_query x1 x2 0 → Gives t x1 x2 k n
count_gives t q k n m ok e h c s x1 x2 a =
    let whole : is_broken (walk_table t (top_query x1 x2 0)) ≡ false = ap (λ (p : Query). is_broken (walk_table t p)) (sym a) ∙ told-whole ok t q e h in
    let r = top-counts t x1 x2 whole k in
    record {
      intact = r.intact;
      many = s ∙ ap (min k) (c ∙ ap (λ (p : Query). length (spots (walk_table t p))) a) ∙ sym r.many;
      few = omega arith;
    }

-- a search that came to its end
pub run-gives : (t : List ℕ) (x1 x2 : ℤ) (k room : ℕ) (base seen out : List ℕ) (n : ℕ) → Ended t x1 x2 k room base seen out n → Gives t x1 x2 k n
run-gives t x1 x2 k room base seen out n v = record { intact = v.done.intact; many = v.counted ∙ v.done.many; few = v.few }

-- a search that breaks a rule, or that came to its end: its spots are held, or too many
pub run_broken : {t : List ℕ} {q : Query} {k : ℕ} {few seen few' : List ℕ} → TopFront t q k 512 few seen few' None → TopSized t q k few seen few' None
run_broken v = record { fails = λ x1 x2 a. v.fails x1 x2 a refl; gives = λ x1 x2 a. tt; small = tt; held = λ x1 x2 a. tt; all = tt }

module _ {t : List ℕ} {q : Query} {k : ℕ} {few seen few' : List ℕ} {s : TopTally} (v : TopFront t q k 512 few seen few' (Some s)) where
  pub run-held : s.spots ≤ 512 → TopSized t q k few seen few' (Some (record { spots = s.spots; kind = Held }))
  run-held h =
      record {
        fails = λ x1 x2 a. tt;
        gives = λ x1 x2 a. run-gives _ _ _ _ _ _ _ _ _ (v.ends x1 x2 a _ refl).ended;
        small = λ e. h;
        held = λ x1 x2 a e. v.ends x1 x2 a _ refl;
        all = λ e. absurd (false≢true e);
      }

  pub run-sized : TopSized t q k few seen few' (Some (record { spots = s.spots; kind = Best }))
  run-sized =
      record {
        fails = λ x1 x2 a. tt;
        gives = λ x1 x2 a. run-gives _ _ _ _ _ _ _ _ _ (v.ends x1 x2 a _ refl).ended;
        small = λ e. absurd (false≢true e);
        held = λ x1 x2 a e. absurd (false≢true e);
        all = λ e. absurd (false≢true e);
      }

-- ---- what is told without a search

module _ {t : List ℕ} {q : Query} (k : ℕ) {seen : List ℕ} where
  pub none_told : seen ≡ replicate 512 0 → TopCounted t q k seen None
  none_told e = record { gives = λ x1 x2 a. tt; clear = e; unheld = tt; all = tt }

  pub count-told : {few few' : List ℕ} {z : Size} → TopCounted t q k seen (Some z) → TopSized t q k few seen few' (Some z)
  count-told v =
      record {
        fails = λ x1 x2 a. tt;
        gives = v.gives;
        small = λ e. absurd (false≢true (sym v.unheld ∙ e));
        held = λ x1 x2 a e. absurd (false≢true (sym v.unheld ∙ e));
        all = v.all;
      }
