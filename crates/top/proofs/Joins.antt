-- A node is read into the next slot: the root's, or a child's.
-- Assumes nothing.
use mathlib.Core.Path.{◌≡◌, refl, ap, ap₂, sym, subst, ◌∙◌}
use mathlib.Core.Logic.{◌⊎◌, ⊎_elim}
use mathlib.Core.Bool.{Bool, true, false, ◌||◌, or_comm}
use mathlib.Core.List.{List, [], ◌∷◌, Memᴰ}
use Prim.Native.Nat.{ℕ, suc, ◌+◌, ◌-◌, ◌*◌, ◌/◌, ◌%◌, ◌≤◌, ◌<◌}
use native.Mathlib.Omega.{arith}
use lib.ListN.{length, set, replicate, length-replicate}
use lib.Dec.{eqb}
use Rattle.std.specs.Prelude.{Option, Some, None, is_some}
use lib.IntN.{ℤ}
use Rattle.octets.specs.Lists.{has}
use Rattle.octets.specs.Bitmap.{bit, set_bit}
use Rattle.octets.proofs.Bits.{set_bit-length, bit-zeros}
use Rattle.spot.specs.Keys.{all_keys, top_key}
use Rattle.spot.specs.Query.{top_query}
use Rattle.spot.specs.declared.Spot.{Spot}
use Rattle.spot.specs.declared.Query.{Query}
use Rattle.block.specs.declared.Asked.{Asked}
use Rattle.block.specs.declared.Asked.TheVariants.{Root, Child}
use Rattle.block.specs.Header.{head_of}
use Rattle.block.specs.HeaderRules.{header_ok}
use Rattle.block.specs.Table.{table_sized}
use Rattle.block.specs.Node.{store_of}
use Rattle.block.specs.NodeRules.{node_ok}
use Rattle.tree.specs.Part.{Part}
use Rattle.tree.specs.Walk.{admits}
use Rattle.tree.specs.BestFirst.{Pending}
use Rattle.tree.proofs.MapBits.{set_bit-bytes, bit-set_bit, zeros-bytes}
use Rattle.tree.proofs.Sources.{header-few}
use Rattle.tree.proofs.BestFirstTree.{root_of}
use Rattle.within_theory.proofs.Following.{Ties}
use Rattle.visit.specs.Visit.{part_of}
use Rattle.visit.proofs.Roots.{root-low, levels-are, root-part}
use Rattle.heap.proofs.Held.{held_none, held-few}
use Rattle.frontier.specs.declared.Pick.{Pick}
use Rattle.frontier.specs.declared.KidPick.{KidPick}
use Rattle.frontier.specs.Frontier.{Slot, kid_count, kid_entry, kid_part, kid_cell, kid_key, root_slot, child_slot, slot_place, slot_by, Standing, Chain}
use Rattle.frontier.specs.Picks.{spot_count, spot_by, found_in, Under, Laddered, pick_key, pick_at, pick_more, next_of, best_key, best_at}
use Rattle.frontier.proofs.Chains.{slot-first, child-above, stands-valid, root_stands, child-stands, child-inside, chain_first, chain_more, chain-new, chain-old}
use Rattle.top.specs.declared.Sizes.{Sizes}
use Rattle.top.specs.Reading.{pend_of, child_of, unread_of, shown_of, Underway}
use Rattle.top.specs.Rows.{pick_row, kid_row, head_by, cell_of, cell_by, Heads, Kids}
use Rattle.top.specs.Runs.{written, Added, Readable, NodeRead, Sofar, Seen, Swept, Stuck}
use Rattle.top.proofs.Heaps.{put, put_same, put-old, put_all}
use Rattle.top.proofs.Takes.{cell-first}
use Rattle.top.proofs.Ups.{named-up-step, shown-is}
use Rattle.top.proofs.Steps.{Poised, root-poised, node-stuck, twice-stuck, tied-stuck, node-read}
use Rattle.top.proofs.Outs.{written_none}

-- ---- the map

seen_start : {seen : List ℕ} → seen ≡ replicate 512 0 → Seen seen []
seen_start {seen} e =
    subst (λ (m : List ℕ). Seen m []) (sym e) (record { sized = length-replicate {A = ℕ} 512 0; bytes = zeros-bytes 512; bits = bit-zeros 512 })

seen_more : {seen blocks : List ℕ} (b : ℕ) → b < 4096 → Seen seen blocks → Seen (set_bit seen b) (b ∷ blocks)
seen_more {seen} {blocks} b l s =
    record {
      sized = set_bit-length seen b ∙ s.sized;
      bytes = set_bit-bytes seen b s.bytes;
      bits = λ k. bit-set_bit seen b k (omega (arith, s.sized)) ∙ ap (λ (x : Bool). x || eqb k b) (s.bits k) ∙ or_comm (has k blocks) (eqb k b);
    }

-- ---- a slot that comes next

-- s is to be slot n, and hangs at `up`
pub record Enters (t : List ℕ) (rows : List (List ℕ)) (n : ℕ) (s : Slot) (a : Asked) (up : ℕ) : Type 0 where
  pub inside : s.block * 2048 + 2048 ≤ length t
  pub near : s.block < 4096
  pub low : up < 65536
  pub stands : node_ok s.level a (store_of t s.block) ≡ true → Standing t s
  pub chain : node_ok s.level a (store_of t s.block) ≡ true → Chain t (set rows n (s.block ∷ up ∷ [])) (n + 1)
  pub new : node_ok s.level a (store_of t s.block) ≡ true → slot_by t (set rows n (s.block ∷ up ∷ [])) n ≡ s
  pub old : (i : ℕ) → i < n → slot_by t (set rows n (s.block ∷ up ∷ [])) i ≡ slot_by t rows i

pub root-enters : (t : List ℕ) (rows : List (List ℕ)) → table_sized (length t) ≡ true → header_ok (length t) (head_of t) ≡ true → 0 < length rows
    → Enters t rows 0 (root_slot t) (Root (root_slot t).block) 0
root-enters t rows sized ok room =
    let low = root-low t ok {root = (head_of t).root} {level = (head_of t).levels} refl refl in
    record {
      inside = omega (arith, low);
      near = omega (arith, low, header-few t ok);
      low = omega arith;
      stands = root_stands t ok;
      chain = λ h. chain_first t rows sized ok room 0 (root_stands t ok h);
      new = λ h. slot-first t (set rows 0 ((root_slot t).block ∷ 0 ∷ []));
      old = λ i l. let z : ⊥ = omega arith in absurd z;
    }

pub child-enters : (t : List ℕ) (rows : List (List ℕ)) (n up : ℕ) → Chain t rows n → 0 < n → n < length rows → n ≤ 4096 → up / 8 < n → (below : up % 8 < kid_count t (slot_by t rows (up / 8)).block)
    → (q : Query) → admits q (kid_part t (slot_by t rows (up / 8)).block (slot_by t rows (up / 8)).span (up % 8)) ≡ true
    → Enters t rows n (child_slot t (slot_by t rows (up / 8)) (up % 8)) (Child (kid_entry t (slot_by t rows (up / 8)).block (up % 8))) up
child-enters t rows n up c some room few parent below q a =
    let s = slot_by t rows (up / 8) in
    let v = c.stands (up / 8) parent in
    let inside = (child-inside t s v (up % 8) below).0 in
    record {
      inside = inside;
      near = omega (arith, header-few t c.header);
      low = omega arith;
      stands = child-stands t s v (up % 8) below q a;
      chain = λ h. chain_more t rows n c some room up parent below (child-stands t s v (up % 8) below q a h);
      new = λ h. chain-new t rows n c some room up parent below (child-stands t s v (up % 8) below q a h);
      old = chain-old t rows n c ((child_slot t s (up % 8)).block ∷ up ∷ []);
    }

-- what a slot's node was before it was read
root-pend : (t : List ℕ) → header_ok (length t) (head_of t) ≡ true → root_of t ≡ pend_of t (root_slot t) (Root (root_slot t).block)
root-pend t ok =
    let root = (head_of t).root in
    sym (
    ap (λ (l : ℕ). record { levels = l; named = []; part = part_of root (Root root) (root_slot t).span }) (levels-are t ok {root = root} {level = (head_of t).levels} refl refl)
    ∙ ap (λ (x : Part). record { levels = (head_of t).levels; named = []; part = x }) (root-part t (root_slot t).span {root = root} refl refl refl))

pub child-pend : (t : List ℕ) (s : Slot) (i : ℕ) → length s.path.blocks ≡ s.path.n → 1 ≤ s.level → child_of t s i ≡ pend_of t (child_slot t s i) (Child (kid_entry t s.block i))
child-pend t s i long l =
    let e : s.level ≡ suc (s.level - 1) = omega arith in
    ap₂ (λ (n : ℕ) (nm : List ℕ). record { levels = n; named = nm; part = kid_part t s.block s.span i }) e
    (sym (named-up-step t s.path (child_slot t s i).path s.block (child-above t s i long)))

-- ---- it is read

-- Top on its way, about to read the node of s
pub record Ready (t : List ℕ) (q : Query) (k room : ℕ) (base seen out : List ℕ) (rows kids heads : List (List ℕ)) (z : Sizes) (count : ℕ) (s : Slot) (a : Asked) : Type 0 where
  pub kid : ℕ → Option KidPick
  pub known : Kids t q rows kids z.kids z.slots kid
  pub pick : ℕ → Option Pick
  pub headed : Heads t q rows heads z.heads z.slots pick
  pub given : List Spot
  pub blocks : List ℕ
  pub poised : (x1 x2 : ℤ) → q ≡ top_query x1 x2 0 → Poised t x1 x2 k (slot_by t rows) (head_by t rows pick) (cell_by t q rows kid) z.slots given blocks (pend_of t s a)
  pub counted : count ≡ length given
  pub output : out ≡ written room given base
  pub fits : 12 * room ≤ length base
  pub seen_is : Seen seen blocks

pub root-ready : {t : List ℕ} {q : Query} {k room : ℕ} {seen out : List ℕ} {rows kids heads : List (List ℕ)} → header_ok (length t) (head_of t) ≡ true → 0 < k → seen ≡ replicate 512 0 → 12 * room ≤ length out
    → Ready t q k room out seen out rows kids heads (record { slots = 0; kids = 0; heads = 0 }) 0 (root_slot t) (Root (root_slot t).block)
root-ready {t} {q} {k} {room} {seen} {out} {rows} {kids} {heads} ok some clear fits =
    record {
      kid = kid;
      known = record { held = held_none kids (λ s. kid_row s (kid s)); some = λ s l. let z : ⊥ = omega arith in absurd z; index = λ s l. let z : ⊥ = omega arith in absurd z; key = λ s l. let z : ⊥ = omega arith in absurd z };
      pick = pick;
      headed = record { held = held_none heads (λ s. pick_row s (pick s)); index = λ s l. let z : ⊥ = omega arith in absurd z; key = λ s l. let z : ⊥ = omega arith in absurd z; more = λ s l. let z : ⊥ = omega arith in absurd z };
      given = [];
      blocks = [];
      poised = λ x1 x2 e.
          subst (Poised t x1 x2 k (slot_by t rows) (head_by t rows pick) (cell_by t q rows kid) 0 [] []) (root-pend t ok)
          (root-poised t x1 x2 k (slot_by t rows) (head_by t rows pick) (cell_by t q rows kid) some ok);
      counted = refl;
      output = written_none room out;
      fits = fits;
      seen_is = seen_start clear;
    }
  where
    kid : ℕ → Option KidPick
    kid s = None

    pick : ℕ → Option Pick
    pick s = None

module _ {t : List ℕ} {q : Query} {k room : ℕ} {base seen out : List ℕ} {rows kids heads : List (List ℕ)} {z : Sizes} {count : ℕ} {s : Slot} {a : Asked}
    (y : Ready t q k room base seen out rows kids heads z count s a) where
  module _ (most : ℕ) (more : z.slots < most) (x1 x2 : ℤ) (asks : q ≡ top_query x1 x2 0) where
    -- the node can't be read
    pub ready-stuck : (bit seen s.block ≡ true) ⊎ (node_ok s.level a (store_of t s.block) ≡ false) → Stuck t x1 x2 k most
    ready-stuck e =
        let n = z.slots in
        let g = y.poised x1 x2 asks in
        ⊎_elim
        (λ h.
        twice-stuck t x1 x2 k (slot_by t rows) (head_by t rows y.pick) (cell_by t q rows y.kid) n y.given y.blocks s a g most more (sym (y.seen_is.bits s.block) ∙ h))
        (λ h. node-stuck t x1 x2 k (slot_by t rows) (head_by t rows y.pick) (cell_by t q rows y.kid) n y.given y.blocks s a g most more h)
        e

    -- another leads to it
    pub ready-tied : (u : Pending) → Memᴰ u (unread_of t (slot_by t rows) (cell_by t q rows y.kid) z.slots) → Ties (pend_of t s a) u → Stuck t x1 x2 k most
    ready-tied u i e =
        tied-stuck t x1 x2 k (slot_by t rows) (head_by t rows y.pick) (cell_by t q rows y.kid) z.slots y.given y.blocks s a (y.poised x1 x2 asks) most more u i e

  module _ {up : ℕ} (e : Enters t rows z.slots s a up) where
    pub ready-readable : z.slots < length rows → length rows ≤ 4096 → length kids ≡ length rows → length heads ≡ length rows → Readable t seen rows kids heads z (slot_place s) a up
    ready-readable room few kr hr =
        record {
          inside = e.inside;
          near = e.near;
          mapped = y.seen_is.sized;
          joins = λ h.
              record {
                few = omega arith;
                row = room;
                kid_room = omega (arith, held-few (λ j. kid_row j (y.kid j)) y.known.held);
                head_room = omega (arith, held-few (λ j. pick_row j (y.pick j)) y.headed.held);
                kid_heap = y.known.held.heap;
                head_heap = y.headed.held.heap;
                near = e.near;
                low = e.low;
                valid = stands-valid (e.stands h);
                chain = e.chain h;
              };
        }

    module _ (alone : (u : Pending) → Memᴰ u (unread_of t (slot_by t rows) (cell_by t q rows y.kid) z.slots) → Ties (pend_of t s a) u → ⊥)
        {seen' : List ℕ} {rows' kids' heads' : List (List ℕ)} {r : Option Sizes} {z' : Sizes} (v : NodeRead t q seen seen' rows rows' kids kids' heads heads' z (slot_place s) a up r) (ok : r ≡ Some z') where
      abbrev n : ℕ
      n = z.slots

      abbrev d : Added t q rows rows' kids kids' heads heads' z z' (slot_place s) up
      d = v.added z' ok

      abbrev kid : ℕ → Option KidPick
      kid = put y.kid n d.kid

      abbrev pick : ℕ → Option Pick
      pick = put y.pick n d.pick

      valid : node_ok s.level a (store_of t s.block) ≡ true
      valid = v.valid (ap is_some ok)

      new : slot_by t rows' n ≡ s
      new = ap (λ (l : List (List ℕ)). slot_by t l n) d.rowed ∙ e.new valid

      old : (i : ℕ) → i < n → slot_by t rows' i ≡ slot_by t rows i
      old i l = ap (λ (x : List (List ℕ)). slot_by t x i) d.rowed ∙ e.old i l

      chain : Chain t rows' (n + 1)
      chain = subst (λ (l : List (List ℕ)). Chain t l (n + 1)) (sym d.rowed) (e.chain valid)

      stands : Standing t s
      stands = e.stands valid

      known : Kids t q rows' kids' z'.kids (n + 1) kid
      known =
          record {
            held =
                d.hung.held (λ j. kid_row j (y.kid j)) (λ j. kid_row j (kid j)) n y.known.held (λ j l. ap (kid_row j) (put-old y.kid n d.kid n refl j l))
                (ap (kid_row n) (put_same y.kid n d.kid));
            some = put_all y.kid n d.kid (λ j x. j < n + 1 → is_some x ≡ true → 0 < best_key x) (λ l. d.best.some) (λ j f l. y.known.some j (omega (arith, f)));
            index = put_all y.kid n d.kid (λ j x. j < n + 1 → best_at x < 8) (λ l. d.best.index) (λ j f l. y.known.index j (omega (arith, f)));
            key =
                put_all y.kid n d.kid (λ j x. j < n + 1 → 0 < best_key x → best_key x ≡ kid_key t (slot_by t rows' j).block (slot_by t rows' j).span q (best_at x))
                (λ l p. (d.best.held p).0 ∙ ap (λ (w : Slot). kid_key t w.block w.span q (best_at d.kid)) (sym new))
                (λ j f l p.
                let i : j < n = omega (arith, f) in
                y.known.key j i p ∙ ap (λ (w : Slot). kid_key t w.block w.span q (best_at (y.kid j))) (sym (old j i)));
          }

      headed : Heads t q rows' heads' z'.heads (n + 1) pick
      headed =
          record {
            held =
                d.headed.held (λ j. pick_row j (y.pick j)) (λ j. pick_row j (pick j)) n y.headed.held (λ j l. ap (pick_row j) (put-old y.pick n d.pick n refl j l))
                (ap (pick_row n) (put_same y.pick n d.pick));
            index =
                put_all y.pick n d.pick (λ j x. j < n + 1 → is_some x ≡ true → pick_at x < spot_count t (slot_by t rows' j).block) (λ l. d.picked.index)
                (λ j f l h.
                let i : j < n = omega (arith, f) in
                subst (λ (w : Slot). pick_at (y.pick j) < spot_count t w.block) (sym (old j i)) (y.headed.index j i h));
            key =
                put_all y.pick n d.pick (λ j x. j < n + 1 → is_some x ≡ true → pick_key x ≡ top_key (spot_by t (slot_by t rows' j).block (pick_at x)).key) (λ l. d.picked.key)
                (λ j f l h.
                let i : j < n = omega (arith, f) in
                subst (λ (w : Slot). pick_key (y.pick j) ≡ top_key (spot_by t w.block (pick_at (y.pick j))).key) (sym (old j i)) (y.headed.key j i h));
            more =
                put_all y.pick n d.pick (λ j x. j < n + 1 → is_some x ≡ true → Laddered t (slot_by t rows' j).block q (pick_key x) (pick_more x)) (λ l. d.picked.more)
                (λ j f l h.
                let i : j < n = omega (arith, f) in
                subst (λ (w : Slot). Laddered t w.block q (pick_key (y.pick j)) (pick_more (y.pick j))) (sym (old j i)) (y.headed.more j i h));
          }

      going : (x1 x2 : ℤ) → q ≡ top_query x1 x2 0 → Underway t x1 x2 k (slot_by t rows') (head_by t rows' pick) (cell_by t q rows' kid) (n + 1) y.given (s.block ∷ y.blocks)
      going x1 x2 asks =
          node-read t x1 x2 k (slot_by t rows) (head_by t rows y.pick) (cell_by t q rows y.kid) n y.given y.blocks s a (y.poised x1 x2 asks) alone valid
          (sym (y.seen_is.bits s.block) ∙ v.new (ap is_some ok)) stands (slot_by t rows') (head_by t rows' pick) (cell_by t q rows' kid)
          old
          new
          (λ j l. ap₂ (λ (w : Slot) (p : Option Pick). next_of t w.block p) (old j l) (put-old y.pick n d.pick n refl j l))
          (subst (Under all_keys (shown_of t (top_query x1 x2 0) s)) (ap (next_of t (slot_by t rows' n).block) (sym (put_same y.pick n d.pick)))
          (subst (λ (u : Query). Under all_keys (shown_of t u s) (next_of t (slot_by t rows' n).block d.pick)) asks
          (subst (λ (ss : List Spot). Under all_keys ss (next_of t (slot_by t rows' n).block d.pick)) (ap (found_in t q) new ∙ shown-is t q s stands) d.picked.under)))
          (λ j l.
          let i : j / 8 < n = omega arith in
          ap₂ (λ (w : Slot) (x : Option KidPick). cell_of t q w (best_key x) (j % 8)) (old (j / 8) i) (put-old y.kid n d.kid n refl (j / 8) i))
          (λ i l.
          let g : (8 * n + i) / 8 ≡ n = omega arith in
          let h : (8 * n + i) % 8 ≡ i = omega arith in
          ap₂ (λ (x c : ℕ). cell_of t q (slot_by t rows' x) (best_key (kid x)) c) g h
          ∙ ap₂ (λ (w : Slot) (x : Option KidPick). cell_of t q w (best_key x) i) new (put_same y.kid n d.kid)
          ∙ cell-first t q s d.best i l
          ∙ ap (λ (u : Query). kid_cell t s.block s.span u i) asks)

      pub ready-swept : Swept t q k room base seen' out rows' kids' heads' z' count
      ready-swept =
          let w = sym d.slots in
          record {
            some = omega arith;
            chain = subst (Chain t rows') w chain;
            kid = kid;
            known = subst (λ (i : ℕ). Kids t q rows' kids' z'.kids i kid) w known;
            blocks = s.block ∷ y.blocks;
            sofar =
                subst (λ (i : ℕ). Sofar t q k room rows' heads' z'.heads i (cell_by t q rows' kid) base out (s.block ∷ y.blocks) count) w
                (record { pick = pick; headed = headed; given = y.given; going = going; counted = y.counted; output = y.output; fits = y.fits });
            seen_is = subst (λ (m : List ℕ). Seen m (s.block ∷ y.blocks)) (sym (v.marked (ap is_some ok))) (seen_more s.block e.near y.seen_is);
          }
