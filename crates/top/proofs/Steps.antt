-- Top's steps on the frontier: a node is read, a spot is given, and it ends.
-- Assumes nothing.
use mathlib.Core.Path.{◌≡◌, refl, ap, ap₂, sym, subst, ◌∙◌}
use mathlib.Core.Logic.{◌⊎◌, inl, inr, ⊎_elim}
use mathlib.Core.Bool.{true, false}
use mathlib.Core.List.Memᴰ
use mathlib.Core.List.{List, [], ◌∷◌, ◌++◌, Memᴰ}
use Prim.Native.Nat.{ℕ, zero, suc, ◌+◌, ◌-◌, ◌*◌, ◌/◌, ◌%◌, ◌≤◌, ◌<◌}
use native.Mathlib.Numerals.{add-one}
use native.Mathlib.Omega.{arith}
use lib.ListN.{length}
use lib.IntN.{ℤ}
use Rattle.octets.specs.Lists.{has}
use Rattle.octets.proofs.Order.{same_or_not, less-or-not}
use Rattle.octets.proofs.Tests.{refuted}
use Rattle.spot.specs.Keys.{all_keys, rank_of}
use Rattle.spot.specs.Query.{top_query}
use Rattle.spot.specs.declared.Spot.{Spot}
use Rattle.spot.specs.declared.Query.{Query}
use Rattle.spot.proofs.Ranks.{tk}
use Rattle.spot.proofs.TopKeys.{top-rank}
use Rattle.block.specs.declared.Asked.{Asked}
use Rattle.block.specs.Header.{head_of}
use Rattle.block.specs.HeaderRules.{header_ok}
use Rattle.block.specs.Table.{blocks_of}
use Rattle.block.specs.Node.{store_of}
use Rattle.block.specs.NodeRules.{node_ok}
use Rattle.tree.specs.BestFirst.{Pending, promised, NonePromises}
use Rattle.tree.proofs.BestFirstSums.{Reordered, reordered-none, reordered-swap}
use Rattle.tree.proofs.BestFirstTree.{root_of}
use Rattle.tree.proofs.BestFirstSteps.{NoneRanks}
use Rattle.tree.proofs.BestFirstTop.{Done}
use Rattle.tree.proofs.BestFirst.{Progress, start, read-part, broken-node, broken-twice, give, reorder, done_full, done-empty, blocks-few}
use Rattle.within_theory.proofs.Following.{Follows, NotBefore, Ties, follows-begun, follows-reordered, follows-given, follows-read, stuck-node, stuck-twice, stuck-tied}
use Rattle.frontier.specs.Picks.{Next, Under}
use Rattle.frontier.specs.Frontier.{Slot, kid_entry, kid_cell, Standing}
use Rattle.frontier.proofs.Kids.{cell-says}
use Rattle.top.specs.Reading.{flat, pend_of, child_of, seat, seats, unread_of, shown_of, left_of, lefts, found_of, Awaits, Known, Underway}
use Rattle.top.specs.Runs.{Stuck}
use Rattle.top.proofs.Flats.{flat-same, flat-mem, flat_in, flat-none, flat-add, flat_out}
use Rattle.top.proofs.Lefts.{left-mem, left-next, left-gone, left-all, left-give}
use Rattle.top.proofs.Ups.{shown-small, shown-once, kids-known}
use Rattle.top.proofs.Ties.{broken-tied}

-- ---- what is unread, and what is found

seat-mem : (v : ℕ) (p : Pending) {u : Pending} → Memᴰ u (seat v p) → (u ≡ p) × (0 < v)
seat-mem zero p i = absurd (Memᴰ.not-nil i)
seat-mem (suc v) p i = (Memᴰ.eq_of_singleton i, omega arith)

seat-in : (v : ℕ) (p : Pending) → 0 < v → Memᴰ p (seat v p)
seat-in zero p l = let z : ⊥ = omega arith in absurd z
seat-in (suc v) p l = Memᴰ.head refl

-- the unread parts are the children of the cells that are not 0
pub unread-in : (t : List ℕ) (slot : ℕ → Slot) (cell : ℕ → ℕ) (n c : ℕ) → c < 8 * n → 0 < cell c → Memᴰ (child_of t (slot (c / 8)) (c % 8)) (unread_of t slot cell n)
unfolding seats
unread-in t slot cell n c l some = flat_in (seats t slot cell) (8 * n) c l (seat-in (cell c) (child_of t (slot (c / 8)) (c % 8)) some)

pub unread-at : (t : List ℕ) (slot : ℕ → Slot) (cell : ℕ → ℕ) (n : ℕ) {u : Pending} → Memᴰ u (unread_of t slot cell n)
    → (c : ℕ) × (c < 8 * n) × (0 < cell c) × (u ≡ child_of t (slot (c / 8)) (c % 8))
unfolding seats
unread-at t slot cell n i =
    let r = flat-mem (seats t slot cell) (8 * n) i in
    let m = seat-mem (cell r.0) (child_of t (slot (r.0 / 8)) (r.0 % 8)) r.2 in
    (r.0, r.1, m.1, m.0)

pub unread-none : (t : List ℕ) (slot : ℕ → Slot) (cell : ℕ → ℕ) (n : ℕ) → ((c : ℕ) → c < 8 * n → cell c ≡ 0) → unread_of t slot cell n ≡ []
unfolding seats
unread-none t slot cell n none = flat-none (seats t slot cell) (8 * n) (λ c l. ap (λ (v : ℕ). seat v (child_of t (slot (c / 8)) (c % 8))) (none c l))

module _ (t : List ℕ) (q : Query) (slot : ℕ → Slot) (head : ℕ → Next) (cell : ℕ → ℕ) (n : ℕ) (g : Known t q slot head cell n) where
  -- a cell that is not 0 is one more than what its child promises
  pub cell-promise : (c : ℕ) → c < 8 * n → 0 < cell c → promised (child_of t (slot (c / 8)) (c % 8)) + 1 ≡ cell c
  cell-promise c l some =
      ⊎_elim (λ (e : cell c ≡ 0). let z : ⊥ = omega arith in absurd z) (λ (a : Awaits t q (slot (c / 8)) (c % 8) (cell c)). sym a.promise) (g.awaits c l)

  pub unread-cell : {u : Pending} → Memᴰ u (unread_of t slot cell n)
      → (c : ℕ) × (c < 8 * n) × (promised u + 1 ≡ cell c) × (0 < cell c) × (u ≡ child_of t (slot (c / 8)) (c % 8))
  unread-cell i =
      let r = unread-at t slot cell n i in
      (r.0, r.1, ap (λ (x : Pending). promised x + 1) r.3 ∙ cell-promise r.0 r.1 r.2, r.2, r.3)

  -- a spot found is not above its slot's next
  pub found-head : {x : Spot} → Memᴰ x (found_of t q slot head n) → (s : ℕ) × (s < n) × ((head s).there ≡ true) × (tk x ≤ tk (head s).spot)
  unfolding lefts
  found-head i =
      let r = flat-mem (lefts t q slot head) n i in
      let m = left-mem (shown_of t q (slot r.0)) (head r.0) r.2 in
      (r.0, r.1, m.0, m.2)

  -- the next of a slot is one of them
  pub head-found : (s : ℕ) → s < n → (head s).there ≡ true → Memᴰ (head s).spot (found_of t q slot head n)
  unfolding lefts
  head-found s l e = flat_in (lefts t q slot head) n s l (left-next (shown_of t q (slot s)) (head s) e (g.held s l e))

-- the block of the child of a cell
abbrev pub block_at : List ℕ → (ℕ → Slot) → ℕ → ℕ
block_at t slot c = (kid_entry t (slot (c / 8)).block (c % 8)).block

-- ---- a part to be read

pub record Poised (t : List ℕ) (x1 x2 : ℤ) (k : ℕ) (slot : ℕ → Slot) (head : ℕ → Next) (cell : ℕ → ℕ) (n : ℕ) (given : List Spot) (blocks : List ℕ) (p : Pending) : Type 0 where
  pub known : Known t (top_query x1 x2 0) slot head cell n
  pub progress : Progress t x1 x2 k (p ∷ unread_of t slot cell n) (found_of t (top_query x1 x2 0) slot head n) given blocks
  pub follows : Follows t x1 x2 k (p ∷ unread_of t slot cell n) (found_of t (top_query x1 x2 0) slot head n) given blocks
  pub first : (u : Pending) → Memᴰ u (unread_of t slot cell n) → NotBefore p u
  pub low : NoneRanks (promised p) (found_of t (top_query x1 x2 0) slot head n)
  pub room : length given < k
  pub count : length blocks ≡ n

-- the root
pub root-poised : (t : List ℕ) (x1 x2 : ℤ) (k : ℕ) (slot : ℕ → Slot) (head : ℕ → Next) (cell : ℕ → ℕ) → 0 < k → header_ok (length t) (head_of t) ≡ true
    → Poised t x1 x2 k slot head cell 0 [] [] (root_of t)
root-poised t x1 x2 zero slot head cell l h = let z : ⊥ = omega arith in absurd z
root-poised t x1 x2 (suc k) slot head cell l h =
    record {
      known =
          record {
            stands = λ s m. let z : ⊥ = omega arith in absurd z;
            held = λ s m. let z : ⊥ = omega arith in absurd z;
            awaits = λ c m. let z : ⊥ = omega arith in absurd z;
          };
      progress = start t x1 x2 k h;
      follows = follows-begun t x1 x2 (suc k) h;
      first = λ u i. absurd (Memᴰ.not-nil i);
      low = λ s i. absurd (Memᴰ.not-nil i);
      room = omega arith;
      count = refl;
    }

-- the child that is the first in order, where no next spot has as high a rank
module _ (t : List ℕ) (x1 x2 : ℤ) (k : ℕ) (slot : ℕ → Slot) (head : ℕ → Next) (cell : ℕ → ℕ) (n : ℕ) (given : List Spot) (blocks : List ℕ) (g : Underway t x1 x2 k slot head cell n given blocks)
    (c : ℕ) (inside : c < 8 * n) (some : 0 < cell c)
    (order : (j : ℕ) → j < 8 * n → 0 < cell j → (cell j < cell c) ⊎ ((cell j ≡ cell c) × (block_at t slot c ≤ block_at t slot j)))
    (quiet : (s : ℕ) → s < n → (head s).there ≡ true → rank_of (head s).spot.key < cell c) (room : length given < k) where
  abbrev child : Pending
  child = child_of t (slot (c / 8)) (c % 8)

  module _ (after : ℕ → ℕ) (clear : after c ≡ 0) (same : (j : ℕ) → (j ≡ c → ⊥) → after j ≡ cell j) where
    known-after : Known t (top_query x1 x2 0) slot head after n
    known-after =
        record {
          stands = g.known.stands;
          held = g.known.held;
          awaits = λ j l.
              ⊎_elim (λ (e : j ≡ c). inl (ap after e ∙ clear))
              (λ d. subst (λ (v : ℕ). (v ≡ 0) ⊎ Awaits t (top_query x1 x2 0) (slot (j / 8)) (j % 8) v) (sym (same j d)) (g.known.awaits j l))
              (same_or_not j c);
        }

    out : Reordered (seats t slot cell c) (child ∷ seats t slot after c)
    unfolding seats
    out = go (cell c) some
      where
        go : (v : ℕ) → 0 < v → Reordered (seat v child) (child ∷ seat (after c) child)
        go zero l = let z : ⊥ = omega arith in absurd z
        go (suc v) l = rw clear (reordered-none (child ∷ []))

    seats-same : (j : ℕ) → (j ≡ c → ⊥) → seats t slot cell j ≡ seats t slot after j
    unfolding seats
    seats-same j d = ap (λ (v : ℕ). seat v (child_of t (slot (j / 8)) (j % 8))) (sym (same j d))

    pub child-poised : Poised t x1 x2 k slot head after n given blocks (child_of t (slot (c / 8)) (c % 8))
    child-poised =
        let q = top_query x1 x2 0 in
        let e = cell-promise t q slot head cell n g.known c inside some in
        let us = unread_of t slot cell n in
        let fs = found_of t q slot head n in
        let goes = flat_out (seats t slot cell) (seats t slot after) (8 * n) c child inside (λ j l d. seats-same j d) out in
        record {
          known = known-after;
          progress = reorder t x1 x2 k us (child ∷ unread_of t slot after n) fs fs given blocks g.progress goes (reordered-none fs);
          follows = follows-reordered t x1 x2 k us (child ∷ unread_of t slot after n) fs fs given blocks g.follows goes (reordered-none fs);
          first = λ u i.
              let r = unread-cell t q slot head after n known-after i in
              ⊎_elim (λ (z : r.0 ≡ c). let y : ⊥ = omega (arith, ap after z, clear, r.3) in absurd y)
              (λ d.
              let v = same r.0 d in
              ⊎_elim (λ (l : cell r.0 < cell c). inl (omega (arith, r.2, e, v)))
              (λ w. inr (omega (arith, r.2, e, v, w.0), omega (arith, w.1, ap (λ (x : Pending). x.part.block) r.4)))
              (order r.0 r.1 (omega (arith, r.3, v))))
              (same_or_not r.0 c);
          low = λ x i.
              let r = found-head t q slot head cell n g.known i in
              omega (arith, quiet r.0 r.1 r.2, r.3, e, top-rank x.key, top-rank (head r.0).spot.key);
          room = room;
          count = g.count;
        }

-- ---- a part is read

module _ (t : List ℕ) (x1 x2 : ℤ) (k : ℕ) (slot : ℕ → Slot) (head : ℕ → Next) (cell : ℕ → ℕ) (n : ℕ) (given : List Spot) (blocks : List ℕ) (s : Slot) (a : Asked)
    (g : Poised t x1 x2 k slot head cell n given blocks (pend_of t s a)) where
  abbrev p : Pending
  p = pend_of t s a

  abbrev unread : List Pending
  unread = unread_of t slot cell n

  abbrev found : List Spot
  found = found_of t (top_query x1 x2 0) slot head n

  -- none promises more
  highest : NonePromises (promised p) unread
  highest u i = ⊎_elim (λ (l : promised u < promised p). omega arith) (λ e. omega (arith, e.0)) (g.first u i)

  -- ---- it can't be read

  module _ (most : ℕ) (more : n < most) where
    left : length blocks < most
    left = omega (arith, g.count)

    pub node-stuck : node_ok s.level a (store_of t s.block) ≡ false → Stuck t x1 x2 k most
    node-stuck h =
        record {
          top = broken-node t x1 x2 k [] p unread found given blocks g.progress highest g.low g.room s.level refl h;
          within = stuck-node t x1 x2 k [] p unread found given blocks g.follows g.first g.low g.room s.level refl h most left;
        }

    pub twice-stuck : has s.block blocks ≡ true → Stuck t x1 x2 k most
    twice-stuck h =
        record {
          top = broken-twice t x1 x2 k [] p unread found given blocks g.progress highest g.low g.room h;
          within = stuck-twice t x1 x2 k [] p unread found given blocks g.follows g.first g.low g.room h most left;
        }

    pub tied-stuck : (u : Pending) → Memᴰ u (unread_of t slot cell n) → Ties (pend_of t s a) u → Stuck t x1 x2 k most
    tied-stuck u i e =
        record {
          top = broken-tied t x1 x2 k p unread found given blocks g.progress highest g.low g.room s.level refl u i e;
          within = stuck-tied t x1 x2 k [] p unread found given blocks g.follows g.first g.low g.room u i e most left;
        }

  -- ---- it is read

  module _ (alone : (u : Pending) → Memᴰ u (unread_of t slot cell n) → Ties (pend_of t s a) u → ⊥) (ok : node_ok s.level a (store_of t s.block) ≡ true) (new : has s.block blocks ≡ false) (v : Standing t s)
      (slot' : ℕ → Slot) (head' : ℕ → Next) (cell' : ℕ → ℕ)
      (slots : (j : ℕ) → j < n → slot' j ≡ slot j) (slotted : slot' n ≡ s)
      (heads : (j : ℕ) → j < n → head' j ≡ head j) (headed : Under all_keys (shown_of t (top_query x1 x2 0) s) (head' n))
      (cells : (j : ℕ) → j < 8 * n → cell' j ≡ cell j) (celled : (i : ℕ) → i < 8 → cell' (8 * n + i) ≡ kid_cell t s.block s.span (top_query x1 x2 0) i) where
    abbrev q : Query
    q = top_query x1 x2 0

    old-seats : (c : ℕ) → c < 8 * n → seats t slot' cell' c ≡ seats t slot cell c
    unfolding seats
    old-seats c l =
        let m : c / 8 < n = omega arith in
        ap₂ (λ (x : ℕ) (y : Slot). seat x (child_of t y (c % 8))) (cells c l) (slots (c / 8) m)

    new-seats : (i : ℕ) → i < 8 → seats t slot' cell' (8 * n + i) ≡ seat (kid_cell t s.block s.span q i) (child_of t s i)
    unfolding seats
    new-seats i l =
        let e : (8 * n + i) / 8 ≡ n = omega arith in
        let m : (8 * n + i) % 8 ≡ i = omega arith in
        ap₂ (λ (x : ℕ) (y : Slot). seat x (child_of t y ((8 * n + i) % 8))) (celled i l) (ap slot' e ∙ slotted)
        ∙ ap (λ (j : ℕ). seat (kid_cell t s.block s.span q i) (child_of t s j)) m

    unread-is : unread_of t slot' cell' (n + 1) ≡ unread_of t slot cell n ++ flat (λ i. seat (kid_cell t s.block s.span q i) (child_of t s i)) 8
    unread-is =
        let e : 8 * (n + 1) ≡ 8 * n + 8 = omega arith in
        ap (flat (seats t slot' cell')) e ∙ flat-add (seats t slot' cell') (8 * n) 8
        ∙ ap₂ (λ (x y : List Pending). x ++ y) (flat-same (seats t slot' cell') (seats t slot cell) (8 * n) old-seats)
        (flat-same (λ i. seats t slot' cell' (8 * n + i)) (λ i. seat (kid_cell t s.block s.span q i) (child_of t s i)) 8 new-seats)

    found-is : found_of t q slot' head' (n + 1) ≡ found_of t q slot head n ++ shown_of t q s
    unfolding lefts
    found-is =
        ap (flat (lefts t q slot' head')) (add-one n)
        ∙ ap₂ (λ (x y : List Spot). x ++ y)
        (flat-same (lefts t q slot' head') (lefts t q slot head) n (λ j l. ap₂ (λ (x : Slot) (y : Next). left_of (shown_of t q x) y) (slots j l) (heads j l)))
        (ap (λ (x : Slot). left_of (shown_of t q x) (head' n)) slotted ∙ left-all (shown_of t q s) (head' n) (shown-small t q s v) headed)

    known_next : Known t q slot' head' cell' (n + 1)
    known_next =
        record {
          stands = λ j l.
              ⊎_elim (λ (e : j ≡ n). subst (Standing t) (sym (ap slot' e ∙ slotted)) v)
              (λ d. let m : j < n = omega (arith, d) in subst (Standing t) (sym (slots j m)) (g.known.stands j m))
              (same_or_not j n);
          held = λ j l.
              ⊎_elim
              (λ (e : j ≡ n).
              subst (λ (i : ℕ). (head' i).there ≡ true → Memᴰ (head' i).spot (shown_of t q (slot' i))) (sym e)
              (λ h. subst (λ (x : Slot). Memᴰ (head' n).spot (shown_of t q x)) (sym slotted) (headed.held h).0))
              (λ d.
              let m : j < n = omega (arith, d) in
              subst (λ (x : Next). x.there ≡ true → Memᴰ x.spot (shown_of t q (slot' j))) (sym (heads j m))
              (λ h. subst (λ (x : Slot). Memᴰ (head j).spot (shown_of t q x)) (sym (slots j m)) (g.known.held j m h)))
              (same_or_not j n);
          awaits = λ c l.
              ⊎_elim
              (λ (h : 8 * n ≤ c).
              let i : ℕ = c - 8 * n in
              let b : i < 8 = omega arith in
              let e : 8 * n + i ≡ c = omega arith in
              let d : c / 8 ≡ n = omega arith in
              let m : c % 8 ≡ i = omega arith in
              let w : cell' c ≡ kid_cell t s.block s.span q i = ap cell' (sym e) ∙ celled i b in
              ⊎_elim (λ (z : kid_cell t s.block s.span q i ≡ 0). inl (w ∙ z))
              (λ z.
              inr
              (subst (λ (x : Slot). Awaits t q x (c % 8) (cell' c)) (sym (ap slot' d ∙ slotted))
              (subst (λ (j : ℕ). Awaits t q s j (cell' c)) (sym m) (record { below = z.0; admitted = z.1; promise = w ∙ z.2 }))))
              (cell-says t s.block s.span q i))
              (λ (h : c < 8 * n).
              let d : c / 8 < n = omega arith in
              ⊎_elim (λ (z : cell c ≡ 0). inl (cells c h ∙ z))
              (λ z.
              inr
              (subst (λ (x : Slot). Awaits t q x (c % 8) (cell' c)) (sym (slots (c / 8) d))
              (subst (λ (w : ℕ). Awaits t q (slot (c / 8)) (c % 8) w) (sym (cells c h)) z)))
              (g.known.awaits c h))
              (less-or-not (8 * n) c);
        }

    pub node-read : Underway t x1 x2 k slot' head' cell' (n + 1) given (s.block ∷ blocks)
    node-read =
        let ks = flat (λ i. seat (kid_cell t s.block s.span q i) (child_of t s i)) 8 in
        let us = unread_of t slot' cell' (n + 1) in
        let fs = found_of t q slot' head' (n + 1) in
        let parts = subst (λ (l : List Pending). Reordered (ks ++ unread) l) (sym unread-is) (reordered-swap ks unread) in
        let spots = subst (λ (l : List Spot). Reordered (shown_of t q s ++ found) l) (sym found-is) (reordered-swap (shown_of t q s) found) in
        record {
          known = known_next;
          progress =
              reorder t x1 x2 k (ks ++ unread) us (shown_of t q s ++ found) fs given (s.block ∷ blocks)
              (subst (λ (l : List Pending). Progress t x1 x2 k (l ++ unread) (shown_of t q s ++ found) given (s.block ∷ blocks)) (sym (kids-known t q s v a))
              (read-part t x1 x2 k [] p unread found given blocks g.progress highest g.low g.room s.level refl ok new))
              parts
              spots;
          follows =
              follows-reordered t x1 x2 k (ks ++ unread) us (shown_of t q s ++ found) fs given (s.block ∷ blocks)
              (subst (λ (l : List Pending). Follows t x1 x2 k (l ++ unread) (shown_of t q s ++ found) given (s.block ∷ blocks)) (sym (kids-known t q s v a))
              (follows-read t x1 x2 k [] p unread found given blocks g.follows g.first g.low g.room alone s.level refl ok new))
              parts
              spots;
          count = let e = g.count in omega arith;
        }

-- ---- a spot is given

module _ (t : List ℕ) (x1 x2 : ℤ) (k : ℕ) (slot : ℕ → Slot) (head : ℕ → Next) (cell : ℕ → ℕ) (n : ℕ) (given : List Spot) (blocks : List ℕ) (g : Underway t x1 x2 k slot head cell n given blocks) where
  -- the next of slot j is the highest, and every unread part promises less
  module _ (j : ℕ) (inside : j < n) (there : (head j).there ≡ true) (first : (s : ℕ) → s < n → (head s).there ≡ true → tk (head s).spot ≤ tk (head j).spot)
      (floor : ℕ) (highest : (c : ℕ) → c < 8 * n → cell c ≤ floor) (over : floor ≤ rank_of (head j).spot.key) (room : length given < k)
      (head' : ℕ → Next) (others : (s : ℕ) → (s ≡ j → ⊥) → head' s ≡ head s) (next : Under (tk (head j).spot) (shown_of t (top_query x1 x2 0) (slot j)) (head' j)) where
    known-then : Known t (top_query x1 x2 0) slot head' cell n
    known-then =
        record {
          stands = g.known.stands;
          held = λ s l.
              ⊎_elim (λ (e : s ≡ j). subst (λ (i : ℕ). (head' i).there ≡ true → Memᴰ (head' i).spot (shown_of t (top_query x1 x2 0) (slot i))) (sym e) (λ h. (next.held h).0))
              (λ d. subst (λ (x : Next). x.there ≡ true → Memᴰ x.spot (shown_of t (top_query x1 x2 0) (slot s))) (sym (others s d)) (g.known.held s l))
              (same_or_not s j);
          awaits = g.known.awaits;
        }

    taken_out : Reordered (found_of t (top_query x1 x2 0) slot head n) ((head j).spot ∷ found_of t (top_query x1 x2 0) slot head' n)
    unfolding lefts
    taken_out =
        flat_out (lefts t (top_query x1 x2 0) slot head) (lefts t (top_query x1 x2 0) slot head') n j (head j).spot inside (λ s l d. ap (left_of (shown_of t (top_query x1 x2 0) (slot s))) (sym (others s d)))
        (left-give (shown_of t (top_query x1 x2 0) (slot j)) (head j) (head' j) (shown-once t (top_query x1 x2 0) (slot j) (g.known.stands j inside)) there (g.known.held j inside there) next)

    pub spot-given : Underway t x1 x2 k slot head' cell n (given ++ ((head j).spot ∷ [])) blocks
    spot-given =
        let fs = found_of t (top_query x1 x2 0) slot head' n in
        let s = (head j).spot in
        let us = unread_of t slot cell n in
        record {
          known = known-then;
          progress =
              give t x1 x2 k us [] s fs given blocks
              (reorder t x1 x2 k us us (found_of t (top_query x1 x2 0) slot head n) (s ∷ fs) given blocks g.progress (reordered-none us) taken_out)
              (λ x i. let r = found-head t (top_query x1 x2 0) slot head' cell n known-then i in
              ⊎_elim (λ (e : r.0 ≡ j). omega (arith, r.3, ap (λ (y : ℕ). tk (head' y).spot) e, (next.held (ap (λ (y : ℕ). (head' y).there) (sym e) ∙ r.2)).1))
              (λ d. omega (arith, r.3, ap (λ (y : Next). tk y.spot) (others r.0 d), first r.0 r.1 (ap (λ (y : Next). y.there) (sym (others r.0 d)) ∙ r.2)))
              (same_or_not r.0 j))
              (λ u i. let r = unread-cell t (top_query x1 x2 0) slot head cell n g.known i in omega (arith, r.2, highest r.0 r.1))
              room;
          follows =
              follows-given t x1 x2 k us [] s fs given blocks
              (follows-reordered t x1 x2 k us us (found_of t (top_query x1 x2 0) slot head n) (s ∷ fs) given blocks g.follows (reordered-none us) taken_out);
          count = g.count;
        }

  -- ---- the end

  pub ends-full : k ≤ length given → Done t x1 x2 k given blocks
  ends-full h = done_full t x1 x2 k (unread_of t slot cell n) (found_of t (top_query x1 x2 0) slot head n) given blocks g.progress h

  pub ends-empty : ((c : ℕ) → c < 8 * n → cell c ≡ 0) → ((s : ℕ) → s < n → (head s).there ≡ true → ⊥) → Done t x1 x2 k given blocks
  unfolding lefts
  ends-empty none gone =
      done-empty t x1 x2 k (unread_of t slot cell n) (found_of t (top_query x1 x2 0) slot head n) given blocks g.progress
      (unread-none t slot cell n none)
      (flat-none (lefts t (top_query x1 x2 0) slot head) n (λ s l. left-gone (shown_of t (top_query x1 x2 0) (slot s)) (head s) (refuted (head s).there (gone s l))))

  -- there are fewer slots than blocks
  pub slots-few : n ≤ blocks_of (length t) - 1
  slots-few = omega (arith, blocks-few t x1 x2 k (unread_of t slot cell n) (found_of t (top_query x1 x2 0) slot head n) given blocks g.progress, g.count)
