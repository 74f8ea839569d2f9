-- The spots of a table whose walk is whole, collected at the front of an output.
-- Assumes nothing.
use mathlib.Core.Path.{◌≡◌, refl, ap, sym, subst, ◌∙◌}
use mathlib.Core.Bool.{Bool, true, false, cond, ◌&&◌, true≢false}
use mathlib.Core.List.{List, [], ◌++◌}
use Prim.Native.Nat.{ℕ, suc, ◌+◌, ◌-◌, ◌*◌, ◌≤◌, ◌<◌}
use native.Mathlib.Omega.{arith}
use lib.ListN.{length, get_or, drop, take-append-drop}
use borrow.Author.Tests.{not-true}
use Rattle.octets.specs.Lists.{distinct}
use Rattle.octets.proofs.Tests.{and_left, and_right}
use Rattle.spot.specs.Keys.{all_keys}
use Rattle.spot.specs.Spots.{spots_bytes, spots_in}
use Rattle.spot.specs.declared.Query.{Query}
use Rattle.spot.proofs.Stored.{spots_bytes-records}
use Rattle.block.specs.declared.Asked.TheVariants.{Root}
use Rattle.block.specs.Header.{head_of}
use Rattle.block.specs.HeaderRules.{header_ok}
use Rattle.block.specs.Node.{store_of}
use Rattle.tree.specs.Part.{Part, whole}
use Rattle.tree.specs.Walk.{Walk, walked, broken, walk_table, is_broken, spots}
use Rattle.tree.specs.Trace.{obeys, visits, gains, tally, named_by}
use Rattle.tree.proofs.Onto.{onto}
use Rattle.tree.proofs.Traces.{table-trace, gains-length}
use Rattle.tree.proofs.Sources.{header-few}
use Rattle.visit.specs.declared.Span.{Span}
use Rattle.visit.specs.declared.Path.{Path}
use Rattle.visit.specs.Visit.{above, named_above, end_of, part_of}
use Rattle.visit.proofs.Above.{above_root}
use Rattle.tally.specs.declared.Tally.{Tally}
use Rattle.std.specs.Prelude.{Option, None, Some}
use Rattle.query.specs.Walks.{Collected, Collectable, HeldFront, TableCounted, TableHeld}
use Rattle.visit.proofs.Roots.{root-low, levels-few, levels-are, root-part}

whole_by : (b : Bool) (w : Walk) → is_broken (cond b w broken) ≡ false → b ≡ true
whole_by true w e = refl
whole_by false w e = absurd (true≢false e)

module _ (t : List ℕ) (q : Query) (h : is_broken (walk_table t q) ≡ false) where
  abbrev L : ℕ
  L = (head_of t).levels

  abbrev W : Part
  W = whole (head_of t)

  abbrev tests : Bool
  tests = header_ok (length t) (head_of t) && (obeys L (store_of t) q W && distinct (visits L (store_of t) q W))

  pass : tests ≡ true
  pass = whole_by tests (walked (gains L (store_of t) q [] W []) (onto (visits L (store_of t) q W) [])) (sym (ap is_broken (table-trace t q)) ∙ h)

  pub whole-header : header_ok (length t) (head_of t) ≡ true
  whole-header = and_left (header_ok (length t) (head_of t)) (obeys L (store_of t) q W && distinct (visits L (store_of t) q W)) pass

  obeyed : obeys L (store_of t) q W ≡ true
  obeyed =
      and_left (obeys L (store_of t) q W) (distinct (visits L (store_of t) q W))
      (and_right (header_ok (length t) (head_of t)) (obeys L (store_of t) q W && distinct (visits L (store_of t) q W)) pass)

  found : spots (walk_table t q) ≡ gains L (store_of t) q [] W []
  found = ap spots (table-trace t q ∙ ap (λ (b : Bool). cond b (walked (gains L (store_of t) q [] W []) (onto (visits L (store_of t) q W) [])) broken) pass)

  -- from the root, as the code calls it
  module _ (span : Span) (path : Path) {root level : ℕ} (p : root ≡ (head_of t).root) (l : level ≡ (head_of t).levels) (lo : span.lo ≡ 0) (hi : end_of span ≡ all_keys)
      (n : path.n ≡ 0) (none : above path ≡ []) (out : List ℕ) (room : 12 * length (spots (walk_table t q)) ≤ length out) where
    same-part : part_of root (Root root) span ≡ W
    same-part = root-part t span p lo hi

    same-level : suc (level - 1) ≡ L
    same-level = levels-are t whole-header p l

    tally-is : tally (suc (level - 1)) (store_of t) q (named_above t path) (part_of root (Root root) span) ≡ length (spots (walk_table t q))
    tally-is =
        ap (λ (k : ℕ). tally k (store_of t) q (named_above t path) (part_of root (Root root) span)) same-level
        ∙ ap (tally L (store_of t) q (named_above t path)) same-part
        ∙ ap (λ (bs : List ℕ). tally L (store_of t) q (named_by (store_of t) bs) W) none
        ∙ omega (arith, gains-length L (store_of t) q [] W [], ap length found)

    pub root-asks : Collectable t out root (level - 1) span q path 0
    root-asks =
        record {
          asked = Root root;
          obeyed =
              ap (λ (k : ℕ). obeys k (store_of t) q (part_of root (Root root) span)) same-level ∙ ap (obeys L (store_of t) q) same-part ∙ obeyed;
          inside = root-low t whole-header p l;
          blocks = header-few t whole-header;
          deep = omega (arith, levels-few t whole-header p l);
          ancestors = above_root t path _ n;
          order = record { rise = refl; limits = refl };
          room = omega (arith, tally-is);
        }

    module _ {out' : List ℕ} {r : ℕ} (bytes : (k : ℕ) → get_or out' k 0 < 256)
        (c : Collected out out' 0 (gains (suc (level - 1)) (store_of t) q (named_above t path) (part_of root (Root root) span) (spots_in out 0)) r) where
      gained : gains (suc (level - 1)) (store_of t) q (named_above t path) (part_of root (Root root) span) [] ≡ spots (walk_table t q)
      gained =
          ap (λ (k : ℕ). gains k (store_of t) q (named_above t path) (part_of root (Root root) span) []) same-level
          ∙ ap (λ (x : Part). gains L (store_of t) q (named_above t path) x []) same-part
          ∙ ap (λ (bs : List ℕ). gains L (store_of t) q (named_by (store_of t) bs) W []) none
          ∙ sym found

      count-is : r ≡ length (spots (walk_table t q))
      count-is = c.count ∙ ap length gained

      pub root-collected : (r ≡ length (spots (walk_table t q))) × (out' ≡ spots_bytes (spots (walk_table t q)) ++ drop (12 * r) out) × (spots_in out' r ≡ spots (walk_table t q))
      root-collected = (
        count-is,
        sym (take-append-drop (12 * r) out')
            ∙ ap (λ (x : List ℕ). x ++ drop (12 * r) out')
            (sym (spots_bytes-records out' bytes r 0 (omega (arith, count-is, c.sized))) ∙ ap spots_bytes (c.spots ∙ gained))
            ∙ ap (λ (x : List ℕ). spots_bytes (spots (walk_table t q)) ++ x) c.rest,
        c.spots ∙ gained,
      )

-- ---- the buffer of a walk from the root

module _ {t : List ℕ} {q : Query} {out out' : List ℕ} where
  pub table_none : length out' ≡ length out → TableHeld t q out out' None
  table_none l = record { sized = l; front = tt; spots = tt }

  pub table-held : {map' : List ℕ} {root level : ℕ} {y r all : Tally} (span : Span) (path : Path) → root ≡ (head_of t).root → level ≡ (head_of t).levels → span.lo ≡ 0 → end_of span ≡ all_keys
      → path.n ≡ 0 → above path ≡ [] → ((k : ℕ) → get_or out' k 0 < 256) → y.spots ≡ 0
      → HeldFront out out' (gains (suc (level - 1)) (store_of t) q (named_above t path) (part_of root (Root root) span) (spots_in out y.spots)) y (Some r)
      → all.spots ≡ r.spots + 0 → TableCounted t q map' (Some all) → TableHeld t q out out' (Some all)
  table-held {map'} {root} {level} {y} {r} {all} span path p l lo hi n none bytes z h e c =
      record {
        sized = h.sized;
        front = λ room. (collected room).1 ∙ ap (λ (j : ℕ). spots_bytes (spots (walk_table t q)) ++ drop (12 * j) out) same;
        spots = λ room. ap (spots_in out') (sym same) ∙ (collected room).2;
      }
    where
      same : r.spots ≡ all.spots
      same = omega (arith, e)

      collected : 12 * all.spots ≤ length out
          → (r.spots ≡ length (spots (walk_table t q))) × (out' ≡ spots_bytes (spots (walk_table t q)) ++ drop (12 * r.spots) out) × (spots_in out' r.spots ≡ spots (walk_table t q))
      collected room =
          root-collected t q (not-true _ (sym c.ok)) span path p l lo hi n none out (omega (arith, c.spots)) bytes
          (subst (λ (j : ℕ). Collected out out' j (gains (suc (level - 1)) (store_of t) q (named_above t path) (part_of root (Root root) span) (spots_in out j)) r.spots) z
          (h.front (omega (arith, same))))

-- a query that the code has made
pub held-as : {t out out' : List ℕ} {p q : Query} {r : Option Tally} → q ≡ p → TableHeld t q out out' r → TableHeld t p out out' r
held-as {t} {out} {out'} {p} {q} {r} e = subst (λ (x : Query). TableHeld t x out out' r) e
