-- The search: spots are given, a child is read, and the end.
-- Assumes nothing.
use mathlib.Core.Path.{◌≡◌, refl, ap, sym, subst, ◌∙◌}
use mathlib.Core.Logic.{◌⊎◌, inl, inr, ⊎_elim}
use mathlib.Core.Bool.{Bool, true, false, cond, ◌||◌, or_comm, true≢false}
use mathlib.Core.List.Memᴰ
use mathlib.Core.List.{List, ◌++◌, Memᴰ}
use Prim.Native.Nat.{ℕ, ◌+◌, ◌-◌, ◌*◌, ◌/◌, ◌%◌, ◌≤◌, ◌<◌, max}
use native.Mathlib.Omega.{arith}
use lib.ListN.{length, drop, replicate, length-replicate}
use lib.Dec.{leb, eqb}
use lib.IntN.{ℤ}
use borrow.Author.Tests.{leb-true, leb-false, eqb-true, eqb-false, eq-eqb, ne_eqb}
use Rattle.octets.specs.Lists.{has}
use Rattle.octets.specs.Bitmap.{set_bit}
use Rattle.octets.proofs.Bits.{set_bit-length}
use Rattle.octets.proofs.Order.{same_or_not}
use Rattle.octets.proofs.Tests.{or-either}
use Rattle.octets.proofs.Lists.{over-all}
use Rattle.spot.specs.Keys.{rank_of}
use Rattle.spot.specs.Query.{top_query}
use Rattle.spot.specs.declared.Query.{Query}
use Rattle.block.specs.declared.Entry.{Entry}
use Rattle.block.specs.declared.Asked.TheVariants.{Root, Child}
use Rattle.block.specs.Header.{head_of}
use Rattle.block.specs.HeaderRules.{header_ok}
use Rattle.block.specs.Table.{blocks_of}
use Rattle.tree.specs.BestFirst.{Pending, promised}
use Rattle.tree.specs.ReadMap.{is_read, read_map}
use Rattle.tree.proofs.BestFirst.{given-few, blocks-in}
use Rattle.tree.proofs.BestFirstEnd.{source}
use Rattle.tree.proofs.BestFirstTop.{Done, broken-head}
use Rattle.tree.proofs.Sources.{header-few}
use Rattle.tree.proofs.Marks.{map-bit}
use Rattle.tree.proofs.MapBits.{bits-same, set_bit-bytes, bit-set_bit, read_length, read-bytes}
use Rattle.within_theory.proofs.Following.{Ties, stuck-head}
use Rattle.frontier.specs.declared.Place.{Place}
use Rattle.frontier.specs.declared.KidPick.{KidPick}
use Rattle.frontier.specs.Frontier.{root_slot, slot_place, slot_by, Standing}
use Rattle.frontier.proofs.Chains.{child-inside}
use Rattle.top.specs.declared.Sizes.{Sizes}
use Rattle.top.specs.declared.Fresh.{Fresh}
use Rattle.top.specs.declared.Given.{Given}
use Rattle.top.specs.declared.TopTally.{TopTally}
use Rattle.top.specs.declared.Stop.TheVariants.{Broken, Short}
use Rattle.std.specs.Prelude.{Option, Some, None, Result, Ok, Err}
use Rattle.std.specs.Result.{IsErrAnd}
use Rattle.std.specs.Option.{ok_or}
use Rattle.frontier.specs.Picks.{best_key}
use Rattle.top.specs.Reading.{pend_of, child_of, unread_of, found_of}
use Rattle.top.specs.Rows.{first_key, first_value, head_by, cell_by}
use Rattle.top.specs.Runs.{top_parent, top_slot, top_entry, with_kids, with_heads, leads_with, KidTaken, Readable, NodeRead, NextKid, KidRead, Givable, Gave, Seen, Swept, Searchable, Halted, Stuck, Searched, Runnable, WideRun, WithinFront, TopFront}
use Rattle.top.proofs.Heaps.{put}
use Rattle.top.proofs.Steps.{unread-in, unread-at, Poised, child-poised, ends-full, ends-empty, slots-few}
use Rattle.top.proofs.Outs.{written_behind}
use Rattle.top.proofs.Gives.{none-reaches, ranks-under, ranks-met}
use Rattle.top.proofs.Takes.{cell-rank, cells_low, kid-row, kid-cell, kid-cell-some, kid-inside, kid-below, kid-admitted, kid-order, parent-inside, takable, taken-kids, cell-clear, cell_same, kid-alone, kid-tied}
use Rattle.top.proofs.Ends.{search-sure, search-low}
use Rattle.top.proofs.Joins.{Enters, root-enters, child-enters, child-pend, Ready, root-ready, ready-stuck, ready-tied, ready-readable, ready-swept}

-- ---- lengths that stay

pub record Lens (seen out : List ℕ) (rows kids heads : List (List ℕ)) (seen' out' : List ℕ) (rows' kids' heads' : List (List ℕ)) : Type 0 where
  pub map : length seen' ≡ length seen
  pub output : length out' ≡ length out
  pub row : length rows' ≡ length rows
  pub kid : length kids' ≡ length kids
  pub head : length heads' ≡ length heads

-- ---- the map

seen-map : {seen blocks : List ℕ} → Seen seen blocks → set_bit seen 0 ≡ read_map blocks
unfolding is_read
seen-map {seen} {blocks} s =
    let n : length (set_bit seen 0) ≡ 512 = set_bit-length seen 0 ∙ s.sized in
    bits-same (set_bit seen 0) (read_map blocks) (n ∙ sym (read_length blocks)) (set_bit-bytes seen 0 s.bytes) (read-bytes blocks)
    (λ k l.
    bit-set_bit seen 0 k (omega (arith, s.sized)) ∙ ap (λ (x : Bool). x || eqb k 0) (s.bits k) ∙ or_comm (has k blocks) (eqb k 0)
    ∙ sym (map-bit blocks k (omega (arith, n))))

-- ---- spots are given

module _ {t : List ℕ} {q : Query} {k room : ℕ} {base seen out : List ℕ} {rows kids heads : List (List ℕ)} {z : Sizes} {count : ℕ} (few : z.slots ≤ 4096)
    (s : Swept t q k room base seen out rows kids heads z count) (floor : ℕ) (is : floor ≡ cond (eqb z.kids 0) 0 (first_key kids / 65536)) where
  low : (c : ℕ) → c < 8 * z.slots → cell_by t q rows s.kid c ≤ floor
  low = cells_low s.kid s.known floor is

  pub swept-givable : 12 * room ≤ length out → Givable t q k room rows heads z.heads floor out count
  swept-givable fits =
      record {
        n = z.slots;
        cell = cell_by t q rows s.kid;
        base = base;
        blocks = s.blocks;
        few = few;
        chain = s.chain;
        low = low;
        sofar = s.sofar;
        fits = fits;
      }

  pub gave-swept : {heads' : List (List ℕ)} {out' : List ℕ} {g : Given} → Gave t q k room rows heads heads' z.heads floor out out' count g
      → Swept t q k room base seen out' rows kids heads' (with_heads z g.heads) g.spots
  gave-swept v =
      record {
        some = s.some;
        chain = s.chain;
        kid = s.kid;
        known = s.known;
        blocks = s.blocks;
        sofar = v.passes.on z.slots (cell_by t q rows s.kid) base s.blocks few s.chain low s.sofar;
        seen_is = s.seen_is;
      }

  -- ---- the child of the first row, where something is unread

  module _ (above : 0 < floor) where
    kids-some : 0 < z.kids
    kids-some =
        ⊎_elim
        (λ (e : z.kids ≡ 0).
        let f : floor ≡ 0 = is ∙ ap (λ (b : Bool). cond b 0 (first_key kids / 65536)) (eq-eqb z.kids 0 e) in
        let y : ⊥ = omega arith in absurd y)
        (λ (d : z.kids ≡ 0 → ⊥). omega (arith, d))
        (same_or_not z.kids 0)

    floor-top : floor ≡ first_key kids / 65536
    floor-top = let l = kids-some in is ∙ ap (λ (b : Bool). cond b 0 (first_key kids / 65536)) (ne_eqb z.kids 0 (λ e. let y : ⊥ = omega arith in y))

    cell-floor : cell_by t q rows s.kid (first_value kids) ≡ floor
    cell-floor = kid-cell s.kid s.known s.chain kids-some ∙ sym floor-top

  -- ---- no spot that is left reaches the floor, or k are given

  module _ (ends : (k ≤ count) ⊎ ((z.heads ≡ 0) ⊎ (first_key heads / 4294967296 < floor))) (most : ℕ) where
    quiet : count < k → (j : ℕ) → j < z.slots → (head_by t rows s.sofar.pick j).there ≡ true → rank_of (head_by t rows s.sofar.pick j).spot.key < floor
    quiet l j i h = ⊎_elim (λ (m : k ≤ count). let y : ⊥ = omega arith in absurd y) (λ e. none-reaches few s.chain s.sofar floor e j i h) ends

    -- the end
    module _ (allowed : z.slots ≤ most) (h : (leb k count || eqb floor 0) || leb most z.slots ≡ true) where
      why : (k ≤ count) ⊎ ((floor ≡ 0) ⊎ (z.slots ≡ most))
      why =
          ⊎_elim
          (λ e. ⊎_elim (λ (l : leb k count ≡ true). inl (leb-true k count l)) (λ (l : eqb floor 0 ≡ true). inr (inl (eqb-true floor 0 l))) (or-either (leb k count) (eqb floor 0) e))
          (λ (l : leb most z.slots ≡ true). let m = leb-true most z.slots l in inr (inr (omega arith)))
          (or-either (leb k count || eqb floor 0) (leb most z.slots) h)

      pub all-given : {seen' : List ℕ} → seen' ≡ set_bit seen 0 → {ceiling : ℕ} → ceiling ≡ max (floor - 1) (cond (eqb z.heads 0) 0 (first_key heads / 4294967296))
          → (x1 x2 : ℤ) → q ≡ top_query x1 x2 0 → Halted t x1 x2 k most room base seen' out count ceiling
      all-given e {ceiling} highest x1 x2 asks =
          let o = s.sofar in
          let n = z.slots in
          let slot = slot_by t rows in
          let head = head_by t rows o.pick in
          let cell = cell_by t q rows s.kid in
          let unread = unread_of t slot cell n in
          let found = found_of t (top_query x1 x2 0) slot head n in
          let going = o.going x1 x2 asks in
          let c = o.counted in
          let rank = cond (eqb z.heads 0) 0 (first_key heads / 4294967296) in
          let under = ranks-under few s.chain o rank refl in
          let met = ranks-met few s.chain o rank refl in
          let hit : 0 < floor → (i : ℕ) × (i < 8 * n) × (cell i ≡ floor) =
          λ l. (first_value kids, kid-inside s.kid s.known s.chain (kids-some l), cell-floor l) in
          let full : k ≤ count → Done t x1 x2 k o.given s.blocks = λ l. ends-full t x1 x2 k slot head cell n o.given s.blocks going (omega arith) in
          record {
            given = o.given;
            blocks = s.blocks;
            sure =
                search-sure t x1 x2 k slot head cell n o.given s.blocks going floor low hit rank under met ceiling highest most allowed (λ l. quiet (omega arith))
                (⊎_elim (λ (l : k ≤ count). inl (omega arith)) (λ w. inr w) why);
            done = λ all.
                ⊎_elim full
                (λ w.
                ⊎_elim
                (λ (f : floor ≡ 0).
                ⊎_elim full
                (λ y.
                ends-empty t x1 x2 k slot head cell n o.given s.blocks going (λ i m. let w = low i m in omega arith)
                (λ i m there. let b : ⊥ = omega (arith, none-reaches few s.chain o floor y i m there) in b))
                ends)
                (λ (f : n ≡ most). let y : ⊥ = omega (arith, slots-few t x1 x2 k slot head cell n o.given s.blocks going, header-few t s.chain.header) in absurd y)
                w)
                why;
            from = λ x i. source t x1 x2 k unread found o.given s.blocks going.progress x (inr i);
            places = blocks-in t x1 x2 k unread found o.given s.blocks going.progress;
            counted = c;
            few = omega (arith, given-few t x1 x2 k unread found o.given s.blocks going.progress);
            output = o.output;
            map = e ∙ seen-map s.seen_is;
            low = search-low t x1 x2 k slot head cell n o.given s.blocks going floor low hit rank under met ceiling highest;
          }

    -- or the child of the first row is read next
    module _ (h : (leb k count || eqb floor 0) || leb most z.slots ≡ false) where
      more : (count < k) × (0 < floor) × (z.slots < most)
      more = go (leb k count) (eqb floor 0) (leb most z.slots) refl refl refl h
        where
          go : (x y w : Bool) → leb k count ≡ x → eqb floor 0 ≡ y → leb most z.slots ≡ w → (x || y) || w ≡ false → (count < k) × (0 < floor) × (z.slots < most)
          go true y w e f g b = absurd (true≢false b)
          go false true w e f g b = absurd (true≢false b)
          go false false true e f g b = absurd (true≢false b)
          go false false false e f g b = (leb-false k count e, (let d = eqb-false floor 0 f in omega (arith, d)), leb-false most z.slots g)

      some-kids : 0 < z.kids
      some-kids = kids-some more.1

      floor-cell : cell_by t q rows s.kid (first_value kids) ≡ floor
      floor-cell = cell-floor more.1

      parent-stands : Standing t (top_parent t rows kids)
      parent-stands = s.chain.stands (first_value kids / 8) (parent-inside s.kid s.known s.chain some-kids)

      -- the child to be read, as a part
      child-is : child_of t (top_parent t rows kids) (first_value kids % 8) ≡ pend_of t (top_slot t rows kids) (Child (top_entry t rows kids))
      child-is =
          child-pend t (top_parent t rows kids) (first_value kids % 8) parent-stands.long
          (child-inside t (top_parent t rows kids) parent-stands (first_value kids % 8) (kid-below s.kid s.known s.chain some-kids)).1

      enters : z.slots < length rows → Enters t rows z.slots (top_slot t rows kids) (Child (top_entry t rows kids)) (first_value kids)
      enters l =
          let m = s.some in
          child-enters t rows z.slots (first_value kids) s.chain (omega arith) l few (parent-inside s.kid s.known s.chain some-kids)
          (kid-below s.kid s.known s.chain some-kids)
          q
          (kid-admitted s.kid s.known s.chain some-kids)

      ready : {kids' : List (List ℕ)} {f : Fresh} → KidTaken t q rows kids kids' z.kids f
          → Ready t q k room base seen out rows kids' heads (with_kids z f.kids) count (top_slot t rows kids) (Child (top_entry t rows kids))
      ready v =
          let o = s.sofar in
          let u = s.known in
          let at = (kid-row s.kid u s.chain some-kids).at in
          let kid = put s.kid at v.next in
          record {
            kid = kid;
            known = taken-kids s.kid u s.chain some-kids v.next v.best v.lowered;
            pick = o.pick;
            headed = o.headed;
            given = o.given;
            blocks = s.blocks;
            poised = λ x1 x2 asks.
                subst (Poised t x1 x2 k (slot_by t rows) (head_by t rows o.pick) (cell_by t q rows kid) z.slots o.given s.blocks)
                child-is
                (child-poised t x1 x2 k (slot_by t rows) (head_by t rows o.pick) (cell_by t q rows s.kid) z.slots o.given s.blocks (o.going x1 x2 asks) (first_value kids)
                (kid-inside s.kid u s.chain some-kids)
                (omega (arith, more.1, floor-cell))
                (kid-order s.kid u s.chain some-kids)
                (λ j l y. omega (arith, quiet more.0 j l y, floor-cell))
                (let c = o.counted in omega (arith, more.0))
                (cell_by t q rows kid)
                (cell-clear s.kid u s.chain some-kids v.next v.best)
                (cell_same s.kid u s.chain some-kids v.next v.best));
            counted = o.counted;
            output = o.output;
            fits = o.fits;
            seen_is = s.seen_is;
          }

      pub kid-next : z.slots < length rows → length rows ≤ 4096 → length kids ≡ length rows → length heads ≡ length rows → NextKid t q seen rows kids heads z
      kid-next l cap kr hr =
          record {
            takes = takable s.kid s.known s.chain some-kids few;
            reads = λ kids' f v e.
                subst (λ (p : Place). Readable t seen rows kids' heads (with_kids z f.kids) p (Child f.entry) f.up) (sym v.place)
                (subst (λ (x : Entry). Readable t seen rows kids' heads (with_kids z f.kids) (slot_place (top_slot t rows kids)) (Child x) f.up) (sym v.entry)
                (subst (Readable t seen rows kids' heads (with_kids z f.kids) (slot_place (top_slot t rows kids)) (Child (top_entry t rows kids))) (sym v.up)
                (ready-readable (ready v) (enters l) l cap (e ∙ kr) hr)));
          }

      module _ {seen' : List ℕ} {rows' kids' heads' : List (List ℕ)} {r : Option Sizes} (v : KidRead t q seen seen' rows rows' kids kids' heads heads' z r) where
        abbrev tie : Bool
        tie = leads_with v.via v.fresh.kids (first_key kids)

        read : tie ≡ false → NodeRead t q seen seen' rows rows' v.via kids' heads heads' (with_kids z v.fresh.kids) (slot_place (top_slot t rows kids)) (Child (top_entry t rows kids)) (first_value kids) r
        read e =
            let y = with_kids z v.fresh.kids in
            subst (λ (u : ℕ). NodeRead t q seen seen' rows rows' v.via kids' heads heads' y (slot_place (top_slot t rows kids)) (Child (top_entry t rows kids)) u r) v.taken.up
            (subst (λ (x : Entry). NodeRead t q seen seen' rows rows' v.via kids' heads heads' y (slot_place (top_slot t rows kids)) (Child x) v.fresh.up r) v.taken.entry
            (subst (λ (p : Place). NodeRead t q seen seen' rows rows' v.via kids' heads heads' y p (Child v.fresh.entry) v.fresh.up r) v.taken.place (v.read e)))

        -- what is unread once it is taken
        abbrev after : ℕ → ℕ
        after = cell_by t q rows (ready v.taken).kid

        -- cells that are not 0 are one more than their ranks
        rank-at : (kid : ℕ → Option KidPick) (c : ℕ) → 0 < cell_by t q rows kid c → promised (child_of t (slot_by t rows (c / 8)) (c % 8)) + 1 ≡ cell_by t q rows kid c
        rank-at kid c l = cell-rank t q (slot_by t rows (c / 8)) (best_key (kid (c / 8))) (c % 8) l

        rank-here : promised (pend_of t (top_slot t rows kids) (Child (top_entry t rows kids))) + 1 ≡ cell_by t q rows s.kid (first_value kids)
        rank-here = rank-at s.kid (first_value kids) (kid-cell-some s.kid s.known s.chain some-kids)

        tied : tie ≡ true → (x1 x2 : ℤ) → q ≡ top_query x1 x2 0 → Stuck t x1 x2 k most
        unfolding ready
        tied e x1 x2 asks =
            let w = kid-tied s.kid s.known s.chain some-kids v.taken.next v.taken.best v.taken.lowered e in
            ready-tied (ready v.taken) most more.2 x1 x2 asks (child_of t (slot_by t rows (w.0 / 8)) (w.0 % 8))
            (unread-in t (slot_by t rows) after z.slots w.0 w.1 w.2)
            (omega (arith, rank-at (ready v.taken).kid w.0 w.2, rank-here, w.3), w.4)

        alone : tie ≡ false → (u : Pending) → Memᴰ u (unread_of t (slot_by t rows) after z.slots) → Ties (pend_of t (top_slot t rows kids) (Child (top_entry t rows kids))) u → ⊥
        unfolding ready
        alone e u i d =
            let r = unread-at t (slot_by t rows) after z.slots i in
            kid-alone s.kid s.known s.chain some-kids v.taken.next v.taken.best v.taken.lowered e r.0 r.1 r.2
            (omega (arith, rank-at (ready v.taken).kid r.0 r.2, rank-here, ap promised r.3, d.0))
            (sym (ap (λ (x : Pending). x.part.block) r.3) ∙ d.1)

        pub kid-stuck : r ≡ None → (x1 x2 : ℤ) → q ≡ top_query x1 x2 0 → Stuck t x1 x2 k most
        kid-stuck e x1 x2 asks = go tie refl
          where
            go : (b : Bool) → tie ≡ b → Stuck t x1 x2 k most
            go true f = tied f x1 x2 asks
            go false f = ready-stuck (ready v.taken) most more.2 x1 x2 asks ((read f).broken e)

        module _ {z' : Sizes} (e : r ≡ Some z') where
          apart : tie ≡ false
          apart = go tie refl
            where
              go : (b : Bool) → tie ≡ b → tie ≡ false
              go true f = let y : ⊥ = cc (v.tied f) in absurd y
              go false f = f

          pub kid-swept : z.slots < length rows → Swept t q k room base seen' out rows' kids' heads' z' count
          kid-swept l = ready-swept (ready v.taken) (enters l) (alone apart) (read apart) e

          pub kid-slots : z'.slots ≡ z.slots + 1
          kid-slots = ((v.read apart).added z' e).slots

          pub kid-allowed : z'.slots ≤ most
          kid-allowed = omega (arith, kid-slots, more.2)

-- ---- from the root

module _ {t : List ℕ} {q : Query} {k most room : ℕ} {seen out : List ℕ} {rows kids heads : List (List ℕ)} (p : Searchable t q seen out rows kids heads k most room)
    (ok : header_ok (length t) (head_of t) ≡ true) {root : Place} (is : root ≡ slot_place (root_slot t)) where
  abbrev none : Sizes
  none = record { slots = 0; kids = 0; heads = 0 }

  root-set : Ready t q k room out seen out rows kids heads none 0 (root_slot t) (Root (root_slot t).block)
  root-set = root-ready ok p.some p.clear p.fits

  root_in : Enters t rows 0 (root_slot t) (Root (root_slot t).block) 0
  root_in = root-enters t rows p.sized ok (omega (arith, p.slots))

  pub root-reads : Readable t seen rows kids heads (record { slots = 0; kids = 0; heads = 0 }) root (Root root.block) 0
  root-reads =
      subst (λ (x : Place). Readable t seen rows kids heads none x (Root x.block) 0) (sym is)
      (ready-readable root-set root_in (omega (arith, p.slots)) p.few p.kid_rows p.head_rows)

  module _ {seen' : List ℕ} {rows' kids' heads' : List (List ℕ)} {r : Option Sizes}
      (v : NodeRead t q seen seen' rows rows' kids kids' heads heads' (record { slots = 0; kids = 0; heads = 0 }) root (Root root.block) 0 r) where
    root-read : NodeRead t q seen seen' rows rows' kids kids' heads heads' none (slot_place (root_slot t)) (Root (root_slot t).block) 0 r
    root-read = subst (λ (x : Place). NodeRead t q seen seen' rows rows' kids kids' heads heads' none x (Root x.block) 0 r) is v

    pub root-stuck : r ≡ None → (x1 x2 : ℤ) → q ≡ top_query x1 x2 0 → Stuck t x1 x2 k most
    root-stuck e x1 x2 asks = ready-stuck root-set most p.allowed x1 x2 asks (root-read.broken e)

    pub root-swept : {z' : Sizes} → r ≡ Some z' → Swept t q k room out seen' out rows' kids' heads' z' 0
    root-swept e = ready-swept root-set root_in (λ u i d. Memᴰ.not-nil i) root-read e

    -- it is the first of the blocks allowed
    pub root-allowed : {z' : Sizes} → r ≡ Some z' → z'.slots ≤ most
    root-allowed {z'} e = omega (arith, (v.added z' e).slots, p.allowed)

-- a header that breaks a rule
pub head-stuck : (t : List ℕ) (x1 x2 : ℤ) (k most : ℕ) → header_ok (length t) (head_of t) ≡ false → Stuck t x1 x2 k most
head-stuck t x1 x2 k most h = record { top = broken-head t x1 x2 k h; within = stuck-head t x1 x2 k most h }

-- nothing is written behind the room
pub swept-behind : {t : List ℕ} {q : Query} {k room : ℕ} {base seen out : List ℕ} {rows kids heads : List (List ℕ)} {z : Sizes} {count : ℕ}
    → Swept t q k room base seen out rows kids heads z count → drop (12 * room) out ≡ drop (12 * room) base
swept-behind {room = room} {base = base} s = ap (drop (12 * room)) s.sofar.output ∙ written_behind room s.sofar.given base

-- the slots run out only where they are few
pub swept-few : {t : List ℕ} (x1 x2 : ℤ) {q : Query} {k room : ℕ} {base seen out : List ℕ} {rows kids heads : List (List ℕ)} {z : Sizes} {count : ℕ} → q ≡ top_query x1 x2 0
    → Swept t q k room base seen out rows kids heads z count → z.slots ≤ blocks_of (length t) - 1
swept-few {t} x1 x2 {q} {k} {rows = rows} {z = z} asks s =
    let o = s.sofar in
    slots-few t x1 x2 k (slot_by t rows) (head_by t rows o.pick) (cell_by t q rows s.kid) z.slots o.given s.blocks (o.going x1 x2 asks)

-- ---- what a `?` at `ok_or` says of the option

pub ok-was : {A E : Type 0} (o : Option A) (e : E) {r : Result A E} {x : A} → r ≡ ok_or o e → r ≡ Ok x → o ≡ Some x
ok-was None e f g = let y : ⊥ = cc in absurd y
ok-was (Some y) e f g = cc

pub err-was : {A B E : Type 0} (o : Option A) (e : E) {d : E} {r : Result A E} → r ≡ ok_or o e → r ≡ Err d → (r' : Result B E) → IsErrAnd r' (λ x. x ≡ d) → (o ≡ None) × (r' ≡ Err e)
err-was None e f g (Ok x) h = absurd h
err-was None e f g (Err x) h = (refl, cc)
err-was (Some y) e f g r' h = let z : ⊥ = cc in absurd z

-- ---- a search that gives nothing: a rule is broken, or the slots are few

module _ {t : List ℕ} {q : Query} {k most room cap : ℕ} {out seen' out' : List ℕ} where
  pub searched-broken : drop (12 * room) out' ≡ drop (12 * room) out → ((x1 x2 : ℤ) → q ≡ top_query x1 x2 0 → Stuck t x1 x2 k most)
      → Searched t q k most room cap out seen' out' (Err Broken)
  searched-broken d h = record { short = λ z. let y : ⊥ = cc in absurd y; fails = λ x1 x2 a y. h x1 x2 a; ends = λ x1 x2 a s z. let y : ⊥ = cc in absurd y; behind = d }

  pub searched-short : drop (12 * room) out' ≡ drop (12 * room) out → cap ≤ 4095 → Searched t q k most room cap out seen' out' (Err Short)
  searched-short d l = record { short = λ z. l; fails = λ x1 x2 a z. let y : ⊥ = cc in absurd y; ends = λ x1 x2 a s z. let y : ⊥ = cc in absurd y; behind = d }

  -- and one that is at its end
  pub searched-done : {s : TopTally} → drop (12 * room) out' ≡ drop (12 * room) out → ((x1 x2 : ℤ) → q ≡ top_query x1 x2 0 → Halted t x1 x2 k most room out seen' out' s.spots s.ceiling)
      → Searched t q k most room cap out seen' out' (Ok s)
  searched-done {s} d h =
      record {
        short = λ z. let y : ⊥ = cc in absurd y;
        fails = λ x1 x2 a z. let y : ⊥ = cc in absurd y;
        ends = λ x1 x2 a x z. let e : s ≡ x = cc in subst (λ (y : TopTally). Halted t x1 x2 k most room out seen' out' y.spots y.ceiling) e (h x1 x2 a);
        behind = d;
      }

-- ---- a whole search

-- n cleared slots
pub look-ready : {t : List ℕ} {q : Query} {seen out : List ℕ} {k most room : ℕ} (n : ℕ) → 1 ≤ n → n ≤ 4096 → Runnable t q seen out k room × (0 < most)
    → Searchable t q seen out (replicate n (replicate 2 0)) (replicate n (replicate 2 0)) (replicate n (replicate 2 0)) k most room
look-ready n some few r =
    let p = r.0 in
    let e : length (replicate n (replicate {A = ℕ} 2 0)) ≡ n = length-replicate n (replicate {A = ℕ} 2 0) in
    record {
      x1 = p.x1;
      x2 = p.x2;
      asks = p.asks;
      sized = p.sized;
      clear = p.clear;
      some = p.some;
      allowed = r.1;
      fits = p.fits;
      slots = omega arith;
      few = omega arith;
      kid_rows = refl;
      head_rows = refl;
    }

pub run-again : {t : List ℕ} {q : Query} {k most room : ℕ} {out via seen' out' : List ℕ} {r : Option TopTally} → length via ≡ length out → drop (12 * room) via ≡ drop (12 * room) out
    → WideRun t q k most room via seen' out' r → WithinFront t q k most room out seen' out' r
run-again {via = via} e d s = record { fails = s.fails; ends = λ x1 x2 a x g. record { base = via; long = e; behind = d; halted = s.ends x1 x2 a x g } }

-- with an allowance that no table reaches it is Top
pub run-top : {t : List ℕ} {q : Query} {k most room : ℕ} {out seen' out' : List ℕ} {r : Option TopTally} → 4096 ≤ most → WithinFront t q k most room out seen' out' r → TopFront t q k room out seen' out' r
run-top all s =
    record {
      fails = λ x1 x2 a f. (s.fails x1 x2 a f).top;
      ends = λ x1 x2 a x g.
          let h = s.ends x1 x2 a x g in
          let z = h.halted in
          record {
            base = h.base;
            long = h.long;
            behind = h.behind;
            ended =
                record {
                  given = z.given;
                  blocks = z.blocks;
                  done = z.done all;
                  places = λ b i. (z.places b i).low;
                  counted = z.counted;
                  few = z.few;
                  output = z.output;
                  map = z.map;
                };
          };
    }

pub zeroed : (seen : List ℕ) {after : List ℕ} → length seen ≡ 512 → after ≡ replicate 512 0 ++ drop 512 seen → after ≡ replicate 512 0
zeroed seen l e = e ∙ over-all (replicate 512 0) seen 512 (omega arith)
