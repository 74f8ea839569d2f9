-- A node that was read and took in a batch stands for its block; it, or each of its halves, may be worked on.
-- Assumes nothing.
use mathlib.Core.Path.{◌≡◌, refl, ap, sym, ◌∙◌, subst⁻¹}
use mathlib.Core.Logic.{inl, inr, ⊎_elim}
use mathlib.Core.Bool.{Bool, true, false}
use mathlib.Core.List.{List, [], ◌∷◌, Memᴰ}
use Prim.Native.Nat.{ℕ, ◌-◌, ◌/◌, ◌≤◌, ◌<◌}
use native.Mathlib.Omega.{arith}
use lib.ListN.{length, drop}
use lib.Seq.{length-take-le}
use Rattle.octets.specs.Lists.{rest, rising}
use Rattle.octets.proofs.Order.{same_or_not}
use Rattle.octets.proofs.Lists.{mem-take, mem-drop}
use Rattle.spot.specs.declared.Spot.{Spot}
use Rattle.block.specs.declared.Entry.{Entry}
use Rattle.block.specs.declared.Asked.{Asked}
use Rattle.block.specs.Table.{blocks_of}
use Rattle.block.specs.Node.{Node, store_of, first_open}
use Rattle.block.specs.NodeRules.{zero_first, lows, node_ok}
use Rattle.block.proofs.Facts.{NodeFacts, node-facts}
use Rattle.block.proofs.Views.{open-all}
use Rattle.buffer.proofs.Laws.{held-length, named-length}
use Rattle.node.specs.Memory.{entries_of, node_in, EntriesFit, EntryFits, Loaded}
use Rattle.node.specs.declared.Entries.{Entries}
use Rattle.node.specs.declared.NodeValue.{NodeValue}
use Rattle.node.proofs.Fits.{open-fits}
use Rattle.edit.specs.Edits.{Half}
use Rattle.journal.specs.Journal.{Kept}
use Rattle.fill.specs.Filling.{Inside}
use Rattle.fill.proofs.Works.{work-kept}
use Rattle.spare.specs.declared.Spare.{Spare}
use Rattle.batch.specs.Batches.{TakenIn}
use Rattle.settle.specs.Settling.{Settleable, StandsFor, SplitWhen, Cuttable, Pushable}
use Rattle.settle.proofs.Ways.{spares-kept}
use Rattle.settle.proofs.Lows.{rise-left, rise-right}
use Rattle.settle.proofs.Splitting.{Halves, Halved, bare_l, bare_r, half_l, half_r, fours}

-- ---- the node that was read and took in a batch

module _ {t s map : List ℕ} {b level ni nd : ℕ} (asked : Asked) {spare : Spare} {left : ℕ} {n m : NodeValue} {ss : List Spot} {ks : List ℕ} (p : Settleable t s map b level ni nd spare left)
    (ok : node_ok level asked (store_of t b) ≡ true) (l : Loaded t b n) (tk : TakenIn n ss ks ni nd m)
    (long_e : length n.entries.list ≡ 8) (long_i : length n.inserts.spots ≡ 80) (long_d : length n.deletes.keys ≡ 32) where
  facts : NodeFacts level asked (node_in (blocks_of (length t)) n)
  facts = node-facts level asked (node_in (blocks_of (length t)) n) (ap (node_ok level asked) l.is ∙ ok)

  same_entries : entries_of m.entries ≡ entries_of n.entries
  same_entries = ap entries_of tk.entries

  as_many : length (entries_of n.entries) ≡ n.entries.n
  as_many = length-take-le n.entries.n n.entries.list (omega (arith, l.storable.entries.few))

  count_same : m.entries.n ≡ n.entries.n
  count_same = ap (λ (es : Entries). es.n) tk.entries

  at_leaf : level ≡ 0 → n.level ≡ 0
  at_leaf z = facts.same-level ∙ z

  pub stands : StandsFor t s map b level asked m spare left
  stands =
      record {
        undoable = p.undoable;
        inside = p.inside;
        tidy = tk.tidy;
        entries = subst⁻¹ EntriesFit tk.entries l.storable.entries;
        children = subst⁻¹ (λ (es : List Entry). Inside t es) same_entries facts.child-blocks;
        level = tk.level ∙ facts.same-level;
        deep = p.deep;
        most_i = omega (arith, tk.most_i, l.storable.inserts, p.few_i);
        most_d = omega (arith, tk.most_d, l.storable.deletes, p.few_d);
        zero = ap (λ (es : List Entry). zero_first (lows es)) same_entries ∙ facts.first-open;
        rise = ap (λ (es : List Entry). rising (rest (lows es))) same_entries ∙ facts.lows-rise;
        spares = p.spares;
        less = p.less;
        same = same_entries ∙ ap (λ (v : Node). v.entries) l.is;
        counted = ap length same_entries ∙ as_many ∙ sym count_same;
        least = λ z. let y = facts.inner-least (λ q. z (sym facts.same-level ∙ q)) in let a = as_many in let c = count_same in omega arith;
        leaf_e = λ z. count_same ∙ sym as_many ∙ ap length (facts.leaf-bare (at_leaf z)).0;
        leaf_i = λ z. tk.leaf_i (at_leaf z) (sym (held-length n.inserts long_i l.inserts.fits) ∙ ap length (facts.leaf-bare (at_leaf z)).1);
        leaf_d = λ z. tk.leaf_d (at_leaf z) (sym (named-length n.deletes long_d l.deletes.fits) ∙ ap length (facts.leaf-bare (at_leaf z)).2);
      }

-- it need not be cut
pub points-few : {n m : NodeValue} {ss : List Spot} {ks : List ℕ} {ni nd : ℕ} {q : Bool} → TakenIn n ss ks ni nd m → SplitWhen m q → q ≡ false → m.points.n ≤ 64
points-few {n} {m} tk w e = ⊎_elim (λ (z : m.level ≡ 0). w.fits e z) (λ (z : m.level ≡ 0 → ⊥). tk.most_p (λ h. z (tk.level ∙ h))) (same_or_not m.level 0)

-- or it can be
pub must-cut : {t s map : List ℕ} {b level : ℕ} {asked : Asked} {n : NodeValue} {spare : Spare} {left : ℕ} {q : Bool} → StandsFor t s map b level asked n spare left → SplitWhen n q → q ≡ true → Cuttable level n
must-cut st w e =
    ⊎_elim (λ z. let y = sym st.level ∙ z.0 in inl (y, st.leaf_e y, z.1)) (λ z. inr (λ h. z.0 (st.level ∙ h), (let y = z.1 in omega (arith, st.entries.few)))) (w.must e)

-- ---- what may be worked on

pub stands-push : {t s map : List ℕ} {b level : ℕ} {asked : Asked} {n : NodeValue} {spare : Spare} {left : ℕ} → StandsFor t s map b level asked n spare left → n.points.n ≤ 64
    → Pushable t s map n level spare left
stands-push st h =
    record {
      works = record { undoable = st.undoable; tidy = st.tidy; entries = st.entries; inside = st.children; level = st.level; deep = st.deep; points = h; inserts = st.most_i; deletes = st.most_d };
      spares = st.spares;
      less = st.less;
      zero = st.zero;
      rise = st.rise;
    }

-- the table changed meanwhile, and spare blocks were taken
pub push_kept : {t s map t' s' map' : List ℕ} {level : ℕ} {n : NodeValue} {spare : Spare} {left left' : ℕ} → Pushable t s map n level spare left → Kept t s map t' s' map' → left' ≤ left
    → Pushable t' s' map' n level spare left'
push_kept p k h =
    record {
      works = work-kept p.works k;
      spares = spares-kept _ _ _ k.table p.spares;
      less = omega (arith, p.less);
      zero = p.zero;
      rise = p.rise;
    }

-- ---- the halves

-- the entries of a half: their lows, and how many
abbrev Fine : List Entry → Type 0
Fine es = (zero_first (lows es) ≡ true) × (rising (rest (lows es)) ≡ true) × (length es ≤ 8)

module _ {t s map : List ℕ} {b level : ℕ} {asked : Asked} {n : NodeValue} {h : Halves} {spare : Spare} {left : ℕ} (st : StandsFor t s map b level asked n spare left) (cuts : Cuttable level n)
    (hv : Halved n h) where
  -- a half with some of the entries
  half-push : {x : NodeValue} {g : ℕ → Bool} {es : List Entry} → Half n x g es → x.points.n ≤ 64 → Fine (entries_of x.entries) → ((d : Entry) → Memᴰ d es → EntryFits d) → Inside t es
      → Pushable t s map x level spare (left - 1)
  half-push f p fine each inside =
      record {
        works = record {
          undoable = st.undoable;
          tidy = f.tidy;
          entries = record { few = let z = ap length f.entries in omega (arith, f.count, z, fine.2); each = subst⁻¹ (λ (q : List Entry). (d : Entry) → Memᴰ d q → EntryFits d) f.entries each };
          inside = subst⁻¹ (λ (q : List Entry). Inside t q) f.entries inside;
          level = f.level ∙ st.level;
          deep = st.deep;
          points = p;
          inserts = omega (arith, f.inserts, st.most_i);
          deletes = omega (arith, f.deletes, st.most_d);
        };
        spares = st.spares;
        less = let z = st.less in omega arith;
        zero = fine.0;
        rise = fine.1;
      }

  fine-none : Fine []
  fine-none = (refl, refl, omega arith)

  fine-left : Fine (entries_of h.left.entries)
  fine-left =
      ⊎_elim (λ c. subst⁻¹ Fine (bare_l st hv c.1) fine-none)
      (λ c. let e = fours st hv c.1 in
      subst⁻¹ Fine (half_l st hv c.1 ∙ e.before) (
        ap (λ (es : List Entry). zero_first (lows es)) (sym e.whole) ∙ st.zero,
        rise-left e.u (e.w ∷ e.us) e.v e.vs (ap (λ (es : List Entry). rising (rest (lows es))) (sym e.whole) ∙ st.rise),
        (let z = ap length e.before in omega (arith, z, e.four_l)),
      ))
      cuts

  fine-right : Fine (entries_of h.right.entries)
  fine-right =
      ⊎_elim (λ c. subst⁻¹ Fine (bare_r st hv c.1) fine-none)
      (λ c. let e = fours st hv c.1 in
      subst⁻¹ Fine (half_r st hv c.1 ∙ ap first_open e.from) (
        refl,
        rise-right e.u (e.w ∷ e.us) e.v e.vs (ap (λ (es : List Entry). rising (rest (lows es))) (sym e.whole) ∙ st.rise),
        (let z = ap (λ (q : List Entry). length (first_open q)) e.from in omega (arith, z, e.four_r)),
      ))
      cuts

  pub left-push : h.left.points.n ≤ 64 → Pushable t s map h.left level spare (left - 1)
  left-push p =
      half-push hv.left p fine-left (λ d i. st.entries.each d (mem-take (n.entries.n / 2) (entries_of n.entries) i)) (λ d i. st.children d (mem-take (n.entries.n / 2) (entries_of n.entries) i))

  pub right-push : h.right.points.n ≤ 64 → Pushable t s map h.right level spare (left - 1)
  right-push p =
      half-push hv.right p fine-right
      (open-fits (drop (n.entries.n / 2) (entries_of n.entries)) (λ d i. st.entries.each d (mem-drop (n.entries.n / 2) (entries_of n.entries) i)))
      (open-all (λ d. (1 ≤ d.block) × (d.block < blocks_of (length t))) (λ d q. q) (drop (n.entries.n / 2) (entries_of n.entries)) (λ d i. st.children d (mem-drop (n.entries.n / 2) (entries_of n.entries) i)))
