-- A node in memory with the sizes right is stored in its block, and what settle promises follows.
-- Assumes nothing.
use mathlib.Core.Path.{◌≡◌, refl, ap, sym, ◌∙◌, subst, subst⁻¹}
use mathlib.Core.Logic.{inl, inr}
use mathlib.Core.Bool.{Bool, true, false, cond, ◌||◌, true≢false}
use mathlib.Core.List.Memᴰ
use mathlib.Core.List.{List, [], ◌∷◌, Memᴰ}
use Rattle.std.specs.Prelude.{IfSome, Result, Ok, Err}
use Rattle.std.specs.Prelude as maybe
use mathlib.Core.Option.{Option}
use Prim.Native.Nat.{ℕ, suc, ◌≤◌, ◌<◌}
use native.Mathlib.Omega.{arith}
use lib.ListN.{length, length-take}
use lib.Dec.{eqb, leb}
use borrow.Author.Tests.{eq-eqb, eqb-true, le-leb, lt-ltb}
use Rattle.octets.specs.Lists.{all, is_empty, every, rest}
use Rattle.octets.specs.Sets.{Apart}
use Rattle.octets.proofs.Tests.{all-at, all_cons, all_nil, every-make}
use Rattle.spot.specs.declared.Spot.{Spot}
use Rattle.spot.specs.Keys.{all_keys, within}
use Rattle.spot.specs.Spots.{keys}
use Rattle.block.specs.declared.Entry.{Entry}
use Rattle.block.specs.declared.Asked.{Asked}
use Rattle.block.specs.declared.Asked.TheVariants.{Root, Child}
use Rattle.block.specs.Table.{blocks_of, block_ok}
use Rattle.block.specs.Node.{Node, store_of}
use Rattle.block.specs.NodeRules.{node_ok, lows, agrees, fewest, filled, lowest, child_count_ok, child_blocks_ok, lows_rise, leaf_buffers_empty, stands_in}
use Rattle.tree.specs.Part.{Legal, parts, low_of}
use Rattle.tree.specs.Lookup.{lookup}
use Rattle.tree.specs.Sound.{in_range}
use Rattle.tree.proofs.Below.{sizes-filled, sizes-lowest}
use Rattle.tree.proofs.Empty.{none-length}
use Rattle.tree.proofs.Legal.{legal-full}
use Rattle.update_theory.specs.Change.{part, reaches, Sound, Changed}
use Rattle.update_theory.specs.Spare.{Taken}
use Rattle.update_theory.specs.Open.{Open}
use Rattle.update_theory.specs.Going.{Going}
use Rattle.update_theory.specs.Rounds.{FilledUp}
use Rattle.update_theory.proofs.Close.{Shape}
use Rattle.update_theory.proofs.Going.{going_done}
use Rattle.update_theory.proofs.Loose.{opened, reach_step}
use Rattle.node.specs.Memory.{entries_of, node_in, EntryFits}
use Rattle.node.specs.declared.NodeValue.{NodeValue}
use Rattle.node.proofs.Laws.{stored-else}
use Rattle.edit.specs.Edits.{held_in}
use Rattle.journal.specs.Journal.{Undoable}
use Rattle.fill.specs.declared.Failure.{Failure}
use Rattle.spare.specs.declared.Spare.{Spare}
use Rattle.spare.specs.Spares.{spare_of}
use Rattle.batch.specs.Batches.{batch_says}
use Rattle.settle.specs.declared.Settled.{Settled}
use Rattle.settle.specs.declared.Worked.{Worked}
use Rattle.settle.proofs.Stores.{StoredOne}
use Rattle.settle.specs.Settling.{again, became_as, LowsFit, Opened, WorkedTo, RefineDone, StandsFor, PlacedTo, PlaceDone, PlacePost, SettleFailed, SettlePost}

-- ---- the shape of a node that was worked on

-- what a node must have had before, to be stored with a: enough children, and a leaf none, and nothing waits at a leaf
pub record Ground (level : ℕ) (a : Asked) (n : NodeValue) : Type 0 where
  pub leaf_e : level ≡ 0 → length (entries_of n.entries) ≡ 0
  pub least : (level ≡ 0 → ⊥) → fewest a ≤ length (entries_of n.entries)
  pub leaf_i : level ≡ 0 → n.inserts.n ≡ 0
  pub leaf_d : level ≡ 0 → n.deletes.n ≡ 0

module _ {t t' s' map' : List ℕ} {level : ℕ} {n : NodeValue} {spare : Spare} {left : ℕ} {w : Worked} (a : Asked) (g : Ground level a n) (p : RefineDone t t' s' map' level n spare left w) where
  abbrev m : NodeValue
  m = w.node

  abbrev room : ℕ
  room = blocks_of (length t')

  count : child_count_ok a (node_in room m) ≡ true
  unfolding child_count_ok
  count = go (eqb m.level 0) refl
    where
      go : (q : Bool) → eqb m.level 0 ≡ q → cond q (is_empty (entries_of m.entries)) (all (leb (fewest a) (length (entries_of m.entries)) ∷ leb (length (entries_of m.entries)) 8 ∷ [])) ≡ true
      go true e = let z : level ≡ 0 = sym p.work.works.level ∙ eqb-true m.level 0 e in none-length (entries_of m.entries) (omega (arith, p.work.leaf z, g.leaf_e z))
      go false e =
          let z = g.least (λ h. true≢false (sym (eq-eqb m.level 0 (p.work.works.level ∙ h)) ∙ e)) in
          all_cons _ _ (le-leb (fewest a) (length (entries_of m.entries)) (omega (arith, p.work.more)))
          (all_cons _ _ (le-leb (length (entries_of m.entries)) 8 (let y = length-take m.entries.n m.entries.list in omega (arith, p.work.works.entries.few))) all_nil)

  leaf : leaf_buffers_empty (node_in room m) ≡ true
  unfolding leaf_buffers_empty
  leaf = go (eqb m.level 0) refl
    where
      go : (q : Bool) → eqb m.level 0 ≡ q → cond q (all (is_empty (held_in m).inserts ∷ is_empty (held_in m).deletes ∷ [])) true ≡ true
      go true e =
          let z : level ≡ 0 = sym p.work.works.level ∙ eqb-true m.level 0 e in
          let i = length-take m.inserts.n m.inserts.spots in
          let d = length-take m.deletes.n m.deletes.keys in
          all_cons _ _ (none-length (held_in m).inserts (omega (arith, p.work.most_i, g.leaf_i z))) (all_cons _ _ (none-length (held_in m).deletes (omega (arith, p.work.most_d, g.leaf_d z))) all_nil)
      go false e = refl

  sizes : FilledUp (entries_of m.entries) (held_in m) → (filled (node_in room m) || lowest (node_in room m)) ≡ true
  sizes (inl h) =
      let a = length-take m.points.n m.points.spots in
      let b = length-take m.inserts.n m.inserts.spots in
      let c = length-take m.deletes.n m.deletes.keys in
      sizes-filled (node_in room m) h (omega (arith, p.work.works.points)) (omega (arith, p.few_i)) (omega (arith, p.few_d))
  sizes (inr h) = sizes-lowest (node_in room m) h.0 h.1 h.2 h.3

  pub refined-shape : (b lo hi : ℕ) → stands_in a ≡ b → Legal lo hi → LowsFit lo hi (entries_of w.node.entries) → FilledUp (entries_of w.node.entries) (held_in w.node) → low_of a ≤ lo
      → agrees a (node_in (blocks_of (length t')) w.node) ≡ true → Shape level b a lo hi (node_in (blocks_of (length t')) w.node)
  unfolding lows_rise child_blocks_ok block_ok
  refined-shape b lo hi own legal l full low agree =
      record {
        laid = refl;
        level = eq-eqb m.level level p.work.works.level;
        count = count;
        lows_up = all_cons _ _ l.zero (all_cons _ _ l.rise all_nil);
        lows_in = l.inside;
        sizes = sizes full;
        leaf = leaf;
        agree = agree;
        low = low;
        blocks = every-make _ (entries_of m.entries) (λ e i. let z = p.work.works.inside e i in all_cons _ _ (le-leb 1 e.block z.0) (all_cons _ _ (lt-ltb e.block room z.1) all_nil));
        own = own;
        legal = legal;
      }

-- ---- what leads to a part that was settled as one

again-fewest : (a : Asked) (e : Entry) → fewest (again a e) ≡ fewest a
unfolding fewest
again-fewest (Root b) e = refl
again-fewest (Child d) e = refl

again-agrees : (a : Asked) (e : Entry) (n : Node) → agrees (Child e) n ≡ true → agrees (again a e) n ≡ true
unfolding agrees
again-agrees (Root b) e n h = refl
again-agrees (Child d) e n h = h

again-low : (a : Asked) (e : Entry) (lo : ℕ) → e.low ≡ low_of a → low_of a ≤ lo → low_of (again a e) ≤ lo
again-low (Root b) e lo h g = g
again-low (Child d) e lo h g = omega arith

again-own : (a : Asked) (e : Entry) (b : ℕ) → e.block ≡ b → stands_in a ≡ b → stands_in (again a e) ≡ b
unfolding stands_in
again-own (Root c) e b h g = g
again-own (Child d) e b h g = h

-- ---- stored as one

-- no block of a table is past what an entry holds
pub block-few : {t s map : List ℕ} {b : ℕ} → Undoable t s map → b < blocks_of (length t) → b < 65536
block-few u h = omega (arith, u.most)

-- the node n that stands for block b became w .node, and was stored there
module _ {t s map t₁ s₁ map₁ t₂ : List ℕ} {level b : ℕ} {asked : Asked} {n : NodeValue} {spare : Spare} {left : ℕ} {w : Worked} {r : Settled}
    (st : StandsFor t s map b level asked n spare left) (p : RefineDone t t₁ s₁ map₁ level n spare left w) (q : StoredOne t₁ t₂ b (low_of asked) w.node w.left r) where
  ground : Ground level (again asked r.first) n
  ground =
      record {
        leaf_e = λ z. st.counted ∙ st.leaf_e z;
        least = λ z. let y = again-fewest asked r.first in let v = st.least z in let u = st.counted in omega arith;
        leaf_i = st.leaf_i;
        leaf_d = st.leaf_d;
      }

  module _ (lo hi : ℕ) (f : ℕ → Option ℕ) (low : low_of asked ≤ lo) (sound : Sound (suc level) (store_of t) (part b asked lo hi ∷ []))
      (apart : Apart (spare_of spare left) (reaches (suc level) (store_of t) (part b asked lo hi ∷ []))) (o : Opened (store_of t) level lo hi n spare left f) where
    worked : WorkedTo (store_of t) (store_of t₁) level lo hi n w.node spare left w.left f
    worked = p.work.done lo hi f o

    changed : Changed (suc level) (Taken (spare_of spare left) (spare_of spare w.left)) (store_of t) (part b asked lo hi ∷ []) (store_of t₂) (part b (again asked r.first) lo hi ∷ []) f
    changed =
        going_done level (store_of t) (store_of t₁) (store_of t₂) (part b asked lo hi) (again asked r.first) (spare_of spare left) (spare_of spare w.left) worked.rank (node_in (blocks_of (length t₁)) w.node) f sound
        (λ z i j. apart z i (Memᴰ.append_left [] j))
        (subst (λ (es : List Entry). Going level lo hi (store_of t) (spare_of spare left) es (store_of t₁) (spare_of spare w.left) worked.rank (entries_of w.node.entries) (held_in w.node) f) st.same worked.going)
        (refined-shape (again asked r.first) ground p b lo hi (again-own asked r.first b q.first.block (opened level (store_of t) (part b asked lo hi) sound).own) o.legal worked.lows_fit (p.full lo hi f o) (again-low asked r.first lo q.first.low low)
        (again-agrees asked r.first (node_in (blocks_of (length t₁)) w.node) (q.first.agree (blocks_of (length t₁)))))
        q.stored.here
        (stored-else t₁ t₂ b w.node q.stored)

    placed : PlacedTo (store_of t) (store_of t₂) level b asked lo hi spare left r f
    placed =
        record {
          changed = subst⁻¹ (λ (v : ℕ). Changed (suc level) (Taken (spare_of spare left) (spare_of spare v)) (store_of t) (part b asked lo hi ∷ []) (store_of t₂) (became_as b asked lo hi r.first r.second) f) q.spare
              (subst⁻¹ (λ (o : maybe.Option Entry). Changed (suc level) (Taken (spare_of spare left) (spare_of spare w.left)) (store_of t) (part b asked lo hi ∷ []) (store_of t₂) (became_as b asked lo hi r.first o) f) q.one changed);
          apart = subst⁻¹ (λ (o : maybe.Option Entry). IfSome o (λ d. (lo < d.low) × (d.low < hi))) q.one tt;
        }

  pub place-one : PlaceDone t t₂ level b asked n spare left r
  place-one =
      record {
        fewer = let z = q.spare in omega (arith, p.work.fewer);
        block = q.first.block;
        low = q.first.low;
        fits = q.first.fits (block-few st.undoable st.inside);
        second = subst⁻¹ (λ (o : maybe.Option Entry). IfSome o (λ d. (1 ≤ d.block) × (d.block < blocks_of (length t)) × EntryFits d)) q.one tt;
        done = λ lo hi f low sound apart o. placed lo hi f low sound apart o;
      }

-- ---- what settle promises

-- the block breaks a rule: then the part was not sound
pub settle-refused : {t : List ℕ} {level b : ℕ} {asked : Asked} {ss : List Spot} {ks : List ℕ} {spare : Spare} {left : ℕ} {e : Failure}
    → node_ok level asked (store_of t b) ≡ false → SettleFailed t level b asked ss ks spare left e
settle-refused {t} {level = level} {b = b} {asked = asked} refused =
    record { whole = λ lo hi order legal low in_i in_d sound apart. absurd (true≢false (sym (opened level (store_of t) (part b asked lo hi) sound).ok ∙ refused)) }

-- what a node in memory finds that took in a batch, in the range [lo, hi)
abbrev pub Received : List ℕ → ℕ → ℕ → Asked → List Spot → List ℕ → NodeValue → Type 0
Received t level b asked ss ks n =
    (lo hi : ℕ) → lo ≤ hi → hi ≤ all_keys → ((k : ℕ) → Memᴰ k (keys ss) → within lo hi k ≡ true) → ((k : ℕ) → Memᴰ k ks → within lo hi k ≡ true)
    → Sound (suc level) (store_of t) (part b asked lo hi ∷ [])
    → (rank : ℕ) × Open level (store_of t) lo hi rank (entries_of n.entries) (held_in n) (λ k. batch_says ss ks k (lookup (suc level) (store_of t) k (part b asked lo hi)))

-- it stands open over the table's store
standing-open : {t s map : List ℕ} {b level : ℕ} {asked : Asked} {n : NodeValue} {spare : Spare} {left : ℕ} (st : StandsFor t s map b level asked n spare left) (lo hi rank : ℕ) (f : ℕ → Option ℕ)
    → lo ≤ hi → Legal lo hi → Sound (suc level) (store_of t) (part b asked lo hi ∷ []) → Apart (spare_of spare left) (reaches (suc level) (store_of t) (part b asked lo hi ∷ []))
    → Open level (store_of t) lo hi rank (entries_of n.entries) (held_in n) f → Opened (store_of t) level lo hi n spare left f
unfolding in_range
standing-open {t} {b = b} {level = level} {asked = asked} {spare = spare} {left = left} st lo hi rank f order legal sound apart o =
    record {
      order = order;
      legal = legal;
      rank = rank;
      node = o;
      lows_fit = record { zero = st.zero; rise = st.rise; inside = ap (λ (es : List Entry). every (within lo hi) (rest (lows es))) st.same ∙ all-at _ (opened level (store_of t) (part b asked lo hi) sound).inside 1 };
      free = subst⁻¹ (λ (es : List Entry). Apart (spare_of spare left) (reaches level (store_of t) (parts lo hi es))) st.same
          (λ z i j. apart z i (Memᴰ.append_left [] (subst⁻¹ (λ (bs : List ℕ). Memᴰ z bs) (reach_step level (store_of t) (part b asked lo hi)) (Memᴰ.tail j))));
    }

-- the node was stored, or not
module _ {t s map : List ℕ} (t' : List ℕ) {b level : ℕ} {asked : Asked} (ss : List Spot) (ks : List ℕ) {n : NodeValue} {spare : Spare} {left : ℕ} (st : StandsFor t s map b level asked n spare left)
    (rec : Received t level b asked ss ks n) where
  abbrev says : ℕ → ℕ → ℕ → Option ℕ
  says lo hi k = batch_says ss ks k (lookup (suc level) (store_of t) k (part b asked lo hi))

  stood : (lo hi : ℕ) → lo ≤ hi → Legal lo hi → ((k : ℕ) → Memᴰ k (keys ss) → within lo hi k ≡ true) → ((k : ℕ) → Memᴰ k ks → within lo hi k ≡ true)
      → Sound (suc level) (store_of t) (part b asked lo hi ∷ []) → Apart (spare_of spare left) (reaches (suc level) (store_of t) (part b asked lo hi ∷ []))
      → Opened (store_of t) level lo hi n spare left (says lo hi)
  stood lo hi order legal in_i in_d sound apart = let o = rec lo hi order (legal-full lo hi legal) in_i in_d sound in standing-open st lo hi o.0 (says lo hi) order legal sound apart o.1

  pub settle-placed : (r : Result Settled Failure) → PlacePost t t' level b asked n spare left r → SettlePost t t' level b asked ss ks spare left r
  settle-placed (Ok r) p =
      record {
        fewer = p.fewer;
        block = p.block;
        low = p.low;
        fits = p.fits;
        second = p.second;
        done = λ lo hi order legal low in_i in_d sound apart.
            let d = p.done lo hi (says lo hi) low sound apart (stood lo hi order legal in_i in_d sound apart) in
            record { changed = d.changed; apart = d.apart };
      }
  settle-placed (Err e) p =
      record { whole = λ lo hi order legal low in_i in_d sound apart. p.whole lo hi (says lo hi) low sound apart (stood lo hi order legal in_i in_d sound apart) }
