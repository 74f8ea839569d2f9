-- The spots of a search that is at its end, given from the small buffer or by a second search.
-- Assumes nothing.
use mathlib.Core.Path.{◌≡◌, refl, ap, sym, ◌∙◌}
use mathlib.Core.Bool.{true≢false}
use mathlib.Core.List.{List, ◌++◌}
use Prim.Native.Nat.{ℕ, ◌*◌, ◌≤◌}
use native.Mathlib.Omega.{arith}
use lib.ListN.{length, take, drop}
use lib.Seq.{take_all, take_at}
use lib.IntN.{ℤ}
use Rattle.spot.specs.Query.{top_query}
use Rattle.spot.specs.Spots.{spots_bytes}
use Rattle.spot.specs.declared.Spot.{Spot}
use Rattle.spot.specs.declared.Query.{Query}
use Rattle.spot.proofs.Stored.{length-spots_bytes}
use Rattle.top.specs.Runs.{Halted, WithinFront}
use Rattle.top.specs.declared.TopTally.{TopTally}
use Rattle.std.specs.Prelude.{Option, Some, None}
use Rattle.within.specs.Within.{HeldFew, GivenOut, Delivered}

-- a search at its end, which gave n spots
module _ {t : List ℕ} {x1 x2 : ℤ} {k most room : ℕ} {base seen held : List ℕ} {m c : ℕ} (n : ℕ) (h : Halted t x1 x2 k most room base seen held m c) (e : n ≡ length h.given) where
  -- it had room for all
  all_held : n ≤ room → held ≡ spots_bytes h.given ++ drop (12 * n) base
  all_held l =
      let g = h.given in
      h.output ∙ ap (λ (ss : List Spot). spots_bytes ss ++ drop (12 * length ss) base) (take_all room g (omega arith))
      ∙ ap (λ (i : ℕ). spots_bytes g ++ drop (12 * i) base) (sym e)

  -- they stand at the front of the output
  given_by : (out out'' : List ℕ) → out'' ≡ spots_bytes h.given ++ drop (12 * n) out → GivenOut t x1 x2 k most n out seen out''
  given_by out out'' o =
      record {
        given = h.given;
        blocks = h.blocks;
        ceiling = c;
        sure = h.sure;
        from = h.from;
        places = h.places;
        counted = e;
        output = o;
        map = h.map;
      }

module _ (t : List ℕ) (q : Query) (k most n : ℕ) (read few out : List ℕ) (v : HeldFew t q k most read few out n) where
  -- the search that is at its end, by the places that the query asks for
  first_run : (x1 x2 : ℤ) → q ≡ top_query x1 x2 0 → Halted t x1 x2 k most 512 v.halted.base read few n v.ceiling
  unfolding top_query
  first_run x1 x2 a =
      let e : v.x1 ≡ x1 = ap (λ (p : Query). p.x1) (sym v.asks ∙ a) in
      let f : v.x2 ≡ x2 = ap (λ (p : Query). p.x2) (sym v.asks ∙ a) in
      rw (e, f) at v.halted.halted

  -- the spots are held, and copied
  pub few-delivered : n ≤ 512 → (out'' : List ℕ) → out'' ≡ take (12 * n) few ++ drop (12 * n) out → Delivered t q k most n out read out''
  few-delivered small out'' o =
      record {
        ends = λ x1 x2 a.
            let h = first_run x1 x2 a in
            let g = h.given in
            let front : take (12 * n) few ≡ spots_bytes g =
            ap (take (12 * n)) (all_held n h h.counted small)
            ∙ take_at (spots_bytes g) (drop (12 * n) v.halted.base) (12 * n) (length-spots_bytes g ∙ ap (λ (i : ℕ). 12 * i) (sym h.counted)) in
            given_by n h h.counted out out'' (o ∙ ap (λ (x : List ℕ). x ++ drop (12 * n) out) front);
      }

  -- the search is made again, straight into the output: it breaks no rule that the first kept, and gives as many
  pub wide-delivered : (read' out'' : List ℕ) (z : Option TopTally) → WithinFront t q k most n out read' out'' z → Delivered t q k most n out read' out''
  wide-delivered read' out'' None w = record { ends = λ x1 x2 a. absurd (true≢false (sym (first_run x1 x2 a).sure.whole ∙ (w.fails x1 x2 a refl).within)) }
  wide-delivered read' out'' (Some z) w =
      record {
        ends = λ x1 x2 a.
            let u = first_run x1 x2 a in
            let on = w.ends x1 x2 a z refl in
            let h = on.halted in
            let many : n ≡ length h.given = u.counted ∙ u.sure.many ∙ sym h.sure.many in
            given_by n h many out out'' (all_held n h many (omega arith) ∙ ap (λ (bs : List ℕ). spots_bytes h.given ++ bs) on.behind);
      }
