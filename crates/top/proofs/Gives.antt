-- Spots are given, one after the other.
-- Assumes nothing.
use mathlib.Core.Path.{◌≡◌, ap, ap₂, sym, subst, ◌∙◌}
use mathlib.Core.Logic.{◌⊎◌, inl, inr, ⊎_elim}
use mathlib.Core.Bool.{Bool, true, cond, ◌&&◌}
use mathlib.Core.List.{List, [], ◌∷◌, ◌++◌}
use Prim.Native.Nat.{ℕ, ◌+◌, ◌*◌, ◌/◌, ◌≤◌, ◌<◌}
use native.Mathlib.Omega.{arith}
use lib.ListN.{length-append}
use Rattle.std.specs.Prelude.{Option, is_some}
use lib.Dec.{ltb, eqb}
use lib.IntN.{ℤ}
use borrow.Author.Tests.{ltb-true, eq-eqb, ne_eqb}
use Rattle.octets.proofs.Order.{same_or_not}
use Rattle.octets.proofs.Tests.{and_left, and_right}
use Rattle.spot.specs.Keys.{top_key, rank_of}
use Rattle.spot.specs.Spots.{put_spot}
use Rattle.spot.specs.Query.{top_query}
use Rattle.spot.specs.declared.Spot.{Spot}
use Rattle.spot.specs.declared.Query.{Query}
use Rattle.spot.proofs.TopKeys.{top-rank}
use Rattle.block.specs.NodeRules.{ValidBlock}
use Rattle.frontier.specs.declared.Pick.{Pick}
use Rattle.frontier.specs.Frontier.{block_by, slot_by, Chain}
use Rattle.frontier.specs.Picks.{spot_count, spot_by, found_in, Under, Laddered, pick_key, pick_at, pick_more, next_of, PickedUnder}
use Rattle.frontier.proofs.Chains.{stands-valid}
use Rattle.frontier.proofs.Spots.{spots-most}
use Rattle.top.specs.Reading.{shown_of, Underway}
use Rattle.top.specs.Rows.{pick_row, first_key, lead_at, lead_slot, lead_more, head_by, Heads}
use Rattle.top.specs.Runs.{LeadRow, Movable, MovedOn, Sofar, Passes, Givable}
use Rattle.top.proofs.Heaps.{put, put_same, put_other, put_all, First, first-row, first-most}
use Rattle.top.proofs.Ups.{shown-is}
use Rattle.top.proofs.Steps.{spot-given}
use Rattle.top.proofs.Outs.{written-more}

-- ---- the first row of the heap of spots

module _ {t : List ℕ} {q : Query} {k room : ℕ} {rows heads : List (List ℕ)} {m n : ℕ} {cell : ℕ → ℕ} {base out blocks : List ℕ} {count : ℕ}
    (few : n ≤ 4096) (chain : Chain t rows n) (s : Sofar t q k room rows heads m n cell base out blocks count) where
  abbrev pick : ℕ → Option Pick
  pick = s.pick

  module _ (some : 0 < m) where
    -- the slot of the first row
    lead-row : First heads (λ i. is_some (pick i)) (λ i. pick_key (pick i)) (λ i. pick_at (pick i) + 128 * (i + 4096 * pick_more (pick i))) n
    lead-row = first-row (λ i. is_some (pick i)) (λ i. pick_key (pick i)) (λ i. pick_at (pick i) + 128 * (i + 4096 * pick_more (pick i))) s.headed.held some

    abbrev i : ℕ
    i = lead-row.at

    lead-index : (pick_at (pick i)) < spot_count t (slot_by t rows i).block
    lead-index = s.headed.index i lead-row.inside lead-row.there

    lead_low : (pick_at (pick i)) < 128
    lead_low = omega (arith, lead-index, spots-most t (slot_by t rows i).block (stands-valid (chain.stands i lead-row.inside)))

    lead-slot : lead_slot heads ≡ i
    lead-slot = let e = lead-row.value-is in let l = lead_low in let g = lead-row.inside in omega arith

    lead-at : lead_at heads ≡ pick_at (pick i)
    lead-at = let e = lead-row.value-is in let l = lead_low in omega arith

    lead-more : lead_more heads ≡ pick_more (pick i)
    lead-more = let e = lead-row.value-is in let l = lead_low in let g = lead-row.inside in omega arith

    lead_block : block_by rows (lead_slot heads) ≡ (slot_by t rows i).block
    lead_block = ap (block_by rows) lead-slot ∙ chain.blocks i lead-row.inside

    lead-spot : spot_by t (block_by rows (lead_slot heads)) (lead_at heads) ≡ (head_by t rows pick i).spot
    lead-spot = ap₂ (spot_by t) lead_block lead-at

    lead-key : first_key heads ≡ top_key (head_by t rows pick i).spot.key
    lead-key = lead-row.key-is ∙ s.headed.key i lead-row.inside lead-row.there

    pub leads : LeadRow t rows heads
    leads =
        let r = s.headed.held.room in
        let c = chain.room in
        let l = lead-row.inside in
        let e = lead-slot in
        record {
          some = omega arith;
          slot = omega arith;
          valid = subst (ValidBlock t) (sym lead_block) (stands-valid (chain.stands i l));
          index = let z : lead_at heads < spot_count t (slot_by t rows i).block = omega (arith, lead-at, lead-index) in subst (λ (b : ℕ). lead_at heads < spot_count t b) (sym lead_block) z;
        }

    pub movable : Movable t q rows heads m
    movable =
        let l = lead-row.inside in
        let e = lead-slot in
        record {
          some = some;
          room = s.headed.held.room;
          heap = s.headed.held.heap;
          hangs = record { n = n; inside = omega arith; chain = chain };
          more =
              subst (λ (x : ℕ). Laddered t (slot_by t rows (lead_slot heads)).block q (first_key heads) x) (sym lead-more)
              (subst (λ (x : ℕ). Laddered t (slot_by t rows (lead_slot heads)).block q x (pick_more (pick i))) (sym lead-row.key-is)
              (subst (λ (j : ℕ). Laddered t (slot_by t rows j).block q (pick_key (pick i)) (pick_more (pick i))) (sym e) (s.headed.more i l lead-row.there)));
        }

    -- ---- it is given

    module _ {heads' : List (List ℕ)} {m' : ℕ} (v : MovedOn t q rows heads heads' m m') where
      abbrev next : ℕ → Option Pick
      next = put pick i v.next

      follows : PickedUnder t (slot_by t rows i).block q (first_key heads) (found_in t q (slot_by t rows i)) v.next
      follows = subst (λ (j : ℕ). PickedUnder t (slot_by t rows j).block q (first_key heads) (found_in t q (slot_by t rows j)) v.next) lead-slot v.under

      moved-heads : Heads t q rows heads' m' n next
      moved-heads =
          record {
            held =
                v.lowered.held (λ j. pick_row j (pick j)) (λ j. pick_row j (next j)) n i s.headed.held lead-row.inside lead-row.row_is
                (ap (pick_row i) (put_same pick i v.next) ∙ ap (λ (j : ℕ). pick_row j v.next) (sym lead-slot))
                (λ j d. ap (pick_row j) (put_other pick i v.next j d));
            index =
                put_all pick i v.next (λ j p. j < n → is_some p ≡ true → pick_at p < spot_count t (slot_by t rows j).block) (λ l. follows.index) (λ j d. s.headed.index j);
            key =
                put_all pick i v.next (λ j p. j < n → is_some p ≡ true → pick_key p ≡ top_key (spot_by t (slot_by t rows j).block (pick_at p)).key) (λ l. follows.key) (λ j d. s.headed.key j);
            more =
                put_all pick i v.next (λ j p. j < n → is_some p ≡ true → Laddered t (slot_by t rows j).block q (pick_key p) (pick_more p)) (λ l. follows.more) (λ j d. s.headed.more j);
          }

      module _ (floor : ℕ) (low : (c : ℕ) → c < 8 * n → cell c ≤ floor) (over : floor ≤ first_key heads / 4294967296) (less : count < k) where
        given-going : (x1 x2 : ℤ) → q ≡ top_query x1 x2 0 → Underway t x1 x2 k (slot_by t rows) (head_by t rows next) cell n (s.given ++ ((head_by t rows pick i).spot ∷ [])) blocks
        given-going x1 x2 asks =
            let e = lead-key in
            let o = top-rank (head_by t rows pick i).spot.key in
            let c = s.counted in
            spot-given t x1 x2 k (slot_by t rows) (head_by t rows pick) cell n s.given blocks (s.going x1 x2 asks) i lead-row.inside lead-row.there
            (λ j l h. omega (arith, (first-most (λ y. is_some (pick y)) (λ y. pick_key (pick y)) (λ y. pick_at (pick y) + 128 * (y + 4096 * pick_more (pick y))) s.headed.held j l h).1, s.headed.key j l h))
            floor
            low
            (omega arith)
            (omega arith)
            (head_by t rows next)
            (λ j d. ap (next_of t (slot_by t rows j).block) (put_other pick i v.next j d))
            (subst (Under (top_key (head_by t rows pick i).spot.key) (shown_of t (top_query x1 x2 0) (slot_by t rows i))) (sym (ap (next_of t (slot_by t rows i).block) (put_same pick i v.next)))
            (subst (λ (u : Query). Under (top_key (head_by t rows pick i).spot.key) (shown_of t u (slot_by t rows i)) (next_of t (slot_by t rows i).block v.next)) asks
            (subst (λ (ss : List Spot). Under (top_key (head_by t rows pick i).spot.key) ss (next_of t (slot_by t rows i).block v.next)) (shown-is t q (slot_by t rows i) (chain.stands i lead-row.inside))
            (subst (λ (r : ℕ). Under r (found_in t q (slot_by t rows i)) (next_of t (slot_by t rows i).block v.next)) lead-key follows.under))))

        given-sofar : {out' : List ℕ} {x : Spot} → x ≡ spot_by t (block_by rows (lead_slot heads)) (lead_at heads) → out' ≡ cond (ltb count room) (put_spot out (12 * count) x) out
            → Sofar t q k room rows heads' m' n cell base out' blocks (count + 1)
        given-sofar {out'} {x} is o =
            let y = (head_by t rows pick i).spot in
            let c = s.counted in
            record {
              pick = next;
              headed = moved-heads;
              given = s.given ++ (y ∷ []);
              going = given-going;
              counted = omega (arith, length-append s.given (y ∷ []));
              output =
                  o ∙ ap (λ (z : Spot). cond (ltb count room) (put_spot out (12 * count) z) out) (is ∙ lead-spot)
                  ∙ ap (λ (w : List ℕ). cond (ltb count room) (put_spot w (12 * count) y) w) s.output
                  ∙ written-more room s.given y base count c s.fits;
              fits = s.fits;
            }

  -- no spot that is left reaches the floor
  pub none-reaches : (floor : ℕ) → (m ≡ 0) ⊎ (first_key heads / 4294967296 < floor) → (j : ℕ) → j < n → (head_by t rows pick j).there ≡ true → rank_of (head_by t rows pick j).spot.key < floor
  none-reaches floor e j l h =
      let f = first-most (λ y. is_some (pick y)) (λ y. pick_key (pick y)) (λ y. pick_at (pick y) + 128 * (y + 4096 * pick_more (pick y))) s.headed.held j l h in
      let r = s.headed.key j l h in
      ⊎_elim (λ (z : m ≡ 0). let y : ⊥ = omega (arith, f.0) in absurd y) (λ (z : first_key heads / 4294967296 < floor). omega (arith, f.1, top-rank (head_by t rows pick j).spot.key)) e

  -- the rank of the first row, 0 where there is none, is the highest of the next spots
  module _ (rank : ℕ) (is : rank ≡ cond (eqb m 0) 0 (first_key heads / 4294967296)) where
    rank-row : 0 < m → rank ≡ first_key heads / 4294967296
    rank-row l = is ∙ ap (λ (b : Bool). cond b 0 (first_key heads / 4294967296)) (ne_eqb m 0 (λ z. let y : ⊥ = omega arith in y))

    pub ranks-under : (j : ℕ) → j < n → (head_by t rows pick j).there ≡ true → rank_of (head_by t rows pick j).spot.key ≤ rank
    ranks-under j l h =
        let f = first-most (λ y. is_some (pick y)) (λ y. pick_key (pick y)) (λ y. pick_at (pick y) + 128 * (y + 4096 * pick_more (pick y))) s.headed.held j l h in
        omega (arith, f.1, rank-row f.0, s.headed.key j l h, top-rank (head_by t rows pick j).spot.key)

    pub ranks-met : (rank ≡ 0) ⊎ ((j : ℕ) × (j < n) × ((head_by t rows s.pick j).there ≡ true) × (rank_of (head_by t rows s.pick j).spot.key ≡ rank))
    ranks-met =
        ⊎_elim (λ (e : m ≡ 0). inl (is ∙ ap (λ (b : Bool). cond b 0 (first_key heads / 4294967296)) (eq-eqb m 0 e)))
        (λ (d : m ≡ 0 → ⊥).
        let l : 0 < m = omega (arith, d) in
        let r = lead-row l in
        inr (r.at, r.inside, r.there, omega (arith, lead-key l, rank-row l, top-rank (head_by t rows pick r.at).spot.key)))
        (same_or_not m 0)

-- ---- one after the other

pub give-step : {t : List ℕ} {q : Query} {k room : ℕ} {rows first heads heads' : List (List ℕ)} {m₀ m m' floor : ℕ} {out₀ out out' : List ℕ} {count₀ count : ℕ} {x : Spot}
    → Passes t q k room rows first heads m₀ m floor out₀ out count₀ count → 0 < m → count < k → floor ≤ first_key heads / 4294967296
    → x ≡ spot_by t (block_by rows (lead_slot heads)) (lead_at heads) → out' ≡ cond (ltb count room) (put_spot out (12 * count) x) out → MovedOn t q rows heads heads' m m'
    → Passes t q k room rows first heads' m₀ m' floor out₀ out' count₀ (count + 1)
give-step {floor = floor} p some less over is o v =
    record { on = λ n cell base blocks few chain low s. given-sofar few chain (p.on n cell base blocks few chain low s) some v floor low over less is o }

-- where the loop is
pub give_at : {t : List ℕ} {q : Query} {k room : ℕ} {rows first heads : List (List ℕ)} {m₀ m floor : ℕ} {out₀ out : List ℕ} {count₀ count : ℕ} (g : Givable t q k room rows first m₀ floor out₀ count₀)
    → Passes t q k room rows first heads m₀ m floor out₀ out count₀ count → Sofar t q k room rows heads m g.n g.cell g.base out g.blocks count
give_at g p = p.on g.n g.cell g.base g.blocks g.few g.chain g.low g.sofar

-- where it goes on, and where it ends
pub give-on : (j k left : ℕ) → ltb j k && ltb 0 left ≡ true → (j < k) × (0 < left)
give-on j k left h = (ltb-true j k (and_left (ltb j k) (ltb 0 left) h), ltb-true 0 left (and_right (ltb j k) (ltb 0 left) h))
