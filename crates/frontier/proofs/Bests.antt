-- The best child of a node, and its best spot that no change above waits for.
-- Assumes nothing.
use mathlib.Core.Path.{◌≡◌, ap, sym, ◌∙◌}
use mathlib.Core.Logic.{⊎_elim}
use mathlib.Core.Bool.{true, false, not, ◌&&◌, true≢false}
use mathlib.Core.List.{List, Memᴰ}
use Prim.Native.Nat.{ℕ, ◌+◌, ◌≤◌, ◌<◌}
use native.Mathlib.Omega.{arith}
use lib.Dec.{leb, ltb}
use Rattle.std.specs.Prelude.{Option, Some, None, is_some}
use borrow.Author.Tests.{ltb-true, lt-ltb, leb-true, le-leb, not-true}
use Rattle.octets.specs.Lists.{has, keep}
use Rattle.octets.proofs.Order.{same_or_not, less-or-not}
use Rattle.octets.proofs.Tests.{and_left, and_right, and_both, all-at, all_cons, all_nil, keep-mem, keep-there}
use Rattle.spot.specs.Keys.{top_key, key_of_top}
use Rattle.spot.specs.Query.{wants_key, wants}
use Rattle.spot.specs.declared.Spot.{Spot}
use Rattle.spot.specs.declared.Query.{Query}
use Rattle.spot.proofs.TopKeys.{top_back}
use Rattle.block.specs.Node.{Node, store_of}
use Rattle.block.specs.NodeRules.{ValidBlock}
use Rattle.tree.specs.Walk.{takes_key, takes, finds}
use Rattle.visit.specs.declared.Span.{Span}
use Rattle.frontier.specs.declared.Pick.{Pick}
use Rattle.frontier.specs.declared.KidPick.{KidPick}
use Rattle.frontier.specs.Frontier.{kid_key}
use Rattle.frontier.specs.Picks.{spots_of, spot_by, wanted_in, pick_key, pick_at, next_of, Under, PickedUnder}
use Rattle.frontier.proofs.Spots.{spots-small}

-- ---- the best child of the first n

pub record KidsBest (t : List ℕ) (b : ℕ) (s : Span) (q : Query) (most n : ℕ) (r : KidPick) : Type 0 where
  pub index : r.at < 8
  pub held : 0 < r.key → (r.key ≡ kid_key t b s q r.at) × (r.key ≤ most)
  pub over : (i : ℕ) → i < n → kid_key t b s q i ≤ most → kid_key t b s q i ≤ r.key

module _ (t : List ℕ) (b : ℕ) (s : Span) (q : Query) (most : ℕ) where
  module _ (i : ℕ) {k : ℕ} {r : KidPick} (h : KidsBest t b s q most i r) (e : k ≡ kid_key t b s q i) where
    pub kids-take : i < 8 → ltb r.key k && leb k most ≡ true → KidsBest t b s q most (i + 1) (record { key = k; at = i })
    kids-take l y =
        let over = ltb-true r.key k (and_left (ltb r.key k) (leb k most) y) in
        record {
          index = l;
          held = λ z. (e, leb-true k most (and_right (ltb r.key k) (leb k most) y));
          over = λ j m g.
              ⊎_elim (λ (z : j ≡ i). omega (arith, ap (kid_key t b s q) z, e)) (λ (d : j ≡ i → ⊥). let w = h.over j (omega (arith, d)) g in omega (arith, w, over)) (same_or_not j i);
        }

    pub kids-skip : ltb r.key k && leb k most ≡ false → KidsBest t b s q most (i + 1) r
    kids-skip y =
        record {
          index = h.index;
          held = h.held;
          over = λ j m g.
              ⊎_elim (λ (z : j ≡ i). let w = lower (ap (kid_key t b s q) z) g in w) (λ (d : j ≡ i → ⊥). h.over j (omega (arith, d)) g) (same_or_not j i);
        }
      where
        lower : {x : ℕ} → x ≡ kid_key t b s q i → x ≤ most → x ≤ r.key
        lower {x} z g =
            ⊎_elim (λ (w : x ≤ r.key). w)
            (λ (w : r.key < x).
            absurd (true≢false (sym (and_both (ltb r.key k) (leb k most) (lt-ltb r.key k (omega (arith, z, e))) (le-leb k most (omega (arith, z, e)))) ∙ y)))
            (less-or-not x r.key)

-- ---- the best spot that no change above waits for

-- r is the best wanted under a limit, and no spot that is found lies between the limit and `most`
pub record Sought (t : List ℕ) (b : ℕ) (q : Query) (waits : List ℕ) (most : ℕ) (r : Option Pick) : Type 0 where
  pub limit : ℕ
  pub low : limit ≤ most
  pub picked : PickedUnder t b q limit (wanted_in t q b) r
  pub none : (s : Spot) → Memᴰ s (finds q waits (store_of t b)) → top_key s.key < most → top_key s.key < limit

-- a spot is found if it is wanted and does not wait
found-is : (q : Query) (waits : List ℕ) (n : Node) {s : Spot} → Memᴰ s (finds q waits n) → Memᴰ s (keep (wants q) (spots_of n)) × (has s.key waits ≡ false)
unfolding finds takes_key
found-is q waits n i =
    let k = keep-mem (takes q waits) (spots_of n) i in
    (keep-there (wants q) (spots_of n) k.0 (all-at _ k.1 0), not-true _ (all-at _ k.1 1))

is_found : (q : Query) (waits : List ℕ) (n : Node) {s : Spot} → Memᴰ s (keep (wants q) (spots_of n)) → has s.key waits ≡ false → Memᴰ s (finds q waits n)
unfolding finds takes_key
is_found q waits n {s} i f =
    let k = keep-mem (wants q) (spots_of n) i in
    keep-there (takes q waits) (spots_of n) k.0 (all_cons (wants_key q s.key) _ k.1 (all_cons (not (has s.key waits)) _ (ap not f) all_nil))

pub sought-first : (t : List ℕ) (b : ℕ) (q : Query) (waits : List ℕ) (most : ℕ) {r : Option Pick} → PickedUnder t b q most (wanted_in t q b) r → Sought t b q waits most r
sought-first t b q waits most p = record { limit = most; low = omega arith; picked = p; none = λ s i m. m }

module _ {t : List ℕ} {b : ℕ} {q : Query} {waits : List ℕ} {most : ℕ} {r : Option Pick} (v : ValidBlock t b) (w : Sought t b q waits most r) where
  best : Under w.limit (wanted_in t q b) (next_of t b r)
  best = w.picked.under

  over-found : (s : Spot) → Memᴰ s (finds q waits (store_of t b)) → top_key s.key < most → (is_some r ≡ true) × (top_key s.key ≤ top_key (spot_by t b (pick_at r)).key)
  over-found s i m =
      let f = found-is q waits (store_of t b) i in
      let l = w.none s i m in
      (best.some s f.0 l, best.over s f.0 l)

  -- it is found itself, or it is none
  pub sought-done : (is_some r ≡ true → Memᴰ (spot_by t b (pick_at r)) (finds q waits (store_of t b))) → PickedUnder t b q most (finds q waits (store_of t b)) r
  sought-done y =
      record {
        index = w.picked.index;
        key = w.picked.key;
        under =
            record {
              held = λ e. (y e, let l = w.low in omega (arith, (best.held e).1));
              some = λ s i m. (over-found s i m).0;
              over = λ s i m. (over-found s i m).1;
            };
        more = w.picked.more;
      }

  module _ (there : is_some r ≡ true) where
    own_key : key_of_top (pick_key r) ≡ (spot_by t b (pick_at r)).key
    own_key = ap key_of_top (w.picked.key there) ∙ top_back (spot_by t b (pick_at r)).key (spots-small t b v (keep-mem (wants q) (spots_of (store_of t b)) (best.held there).0).0)

    pub sought-yes : {k : ℕ} → k ≡ key_of_top (pick_key r) → has k waits ≡ false → PickedUnder t b q most (finds q waits (store_of t b)) r
    sought-yes e f =
        sought-done (λ y. is_found q waits (store_of t b) (best.held there).0 (ap (λ (x : ℕ). has x waits) (sym (e ∙ own_key)) ∙ f))

    -- a spot that waits is not found
    below : {k : ℕ} → k ≡ key_of_top (pick_key r) → has k waits ≡ true → (s : Spot) → Memᴰ s (finds q waits (store_of t b)) → top_key s.key < most → top_key s.key < pick_key r
    below e f s i m =
        let o = (over-found s i m).1 in
        ⊎_elim
        (λ (y : top_key s.key ≡ pick_key r).
        let own : s.key ≡ (spot_by t b (pick_at r)).key = sym (top_back s.key (spots-small t b v (keep-mem (wants q) (spots_of (store_of t b)) (found-is q waits (store_of t b) i).0).0)) ∙ ap key_of_top y ∙ own_key in
        absurd (true≢false (sym f ∙ ap (λ (x : ℕ). has x waits) (e ∙ own_key ∙ sym own) ∙ (found-is q waits (store_of t b) i).1)))
        (λ (d : top_key s.key ≡ pick_key r → ⊥). omega (arith, d, o, w.picked.key there))
        (same_or_not (top_key s.key) (pick_key r))

    pub sought-next : {k : ℕ} {n : Option Pick} → k ≡ key_of_top (pick_key r) → has k waits ≡ true → PickedUnder t b q (pick_key r) (wanted_in t q b) n → Sought t b q waits most n
    sought-next e f p =
        record {
          limit = pick_key r;
          low = let l = w.low in omega (arith, (best.held there).1, w.picked.key there);
          picked = p;
          none = below e f;
        }

-- one more than a pick's key; 0 where there is none
abbrev pub fall : Option Pick → ℕ
fall None = 0
fall (Some p) = p.key + 1
