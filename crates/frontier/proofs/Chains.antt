-- The slots of a chain of rows: the root's, a child's, and the chain with one row more.
-- Assumes nothing.
use mathlib.Core.Path.{◌≡◌, refl, ap, sym, subst, ◌∙◌}
use mathlib.Core.Logic.{◌⊎◌, inl, inr, ⊎_elim}
use mathlib.Core.Bool.{Bool, true, cond}
use mathlib.Core.List.{List, [], ◌∷◌, ◌++◌, Memᴰ}
use Prim.Native.Nat.{ℕ, zero, suc, ◌+◌, ◌-◌, ◌*◌, ◌/◌, ◌%◌, ◌≤◌, ◌<◌}
use native.Mathlib.Omega.{arith}
use lib.ListN.{length, get_or, set, length-set, length-append}
use lib.Seq.{take_all, get_or-set_same, get_or-set_other}
use borrow.Author.Tests.{ne_eqb}
use Rattle.octets.proofs.Order.{same_or_not}
use Rattle.octets.proofs.Lists.{mem-drop}
use Rattle.spot.specs.declared.Query.{Query}
use Rattle.block.specs.declared.Entry.{Entry}
use Rattle.block.specs.declared.Asked.TheVariants.{Root, Child}
use Rattle.block.specs.Header.{head_of}
use Rattle.block.specs.HeaderRules.{header_ok}
use Rattle.block.specs.Table.{block, table_sized}
use Rattle.block.specs.Node.{store_of}
use Rattle.block.specs.NodeRules.{ValidBlock, node_ok}
use Rattle.tree.specs.Walk.{admits}
use Rattle.visit.specs.Visit.{above, ceiling, entries_in}
use Rattle.visit.proofs.Spans.{entry_next}
use Rattle.visit.proofs.Above as Above
use Rattle.visit.proofs.Roots.{root-low, levels-few}
use Rattle.frontier.specs.Frontier.{kid_count, kid_entry, kid_span, kid_part, Slot, root_slot, child_slot, parent_by, index_by, block_by, slot_from, slot_by, Standing, Chain, Hangs}

-- ---- the slot of a row

module _ (t : List ℕ) where
  from_first : (rows : List (List ℕ)) (d : ℕ) → slot_from t rows d 0 ≡ root_slot t
  from_first rows zero = refl
  from_first rows (suc d) = refl

  from_step : (rows : List (List ℕ)) (d i : ℕ) → 0 < i → slot_from t rows (suc d) i ≡ child_slot t (slot_from t rows d (parent_by rows i)) (index_by rows i)
  from_step rows d i h =
      ap (λ (b : Bool). cond b (root_slot t) (child_slot t (slot_from t rows d (parent_by rows i)) (index_by rows i))) (ne_eqb i 0 (λ z. let y : ⊥ = omega arith in y))

  module _ (rows : List (List ℕ)) (n : ℕ) (linked : (i : ℕ) → 0 < i → i < n → parent_by rows i < i) where
    -- any number of steps that is enough
    from-enough : (d e i : ℕ) → i < n → i ≤ d → i ≤ e → slot_from t rows d i ≡ slot_from t rows e i
    from-enough zero e i l g h = let z : i ≡ 0 = omega arith in ap (slot_from t rows zero) z ∙ sym (ap (slot_from t rows e) z ∙ from_first rows e)
    from-enough (suc d) zero i l g h = let z : i ≡ 0 = omega arith in ap (slot_from t rows (suc d)) z
    from-enough (suc d) (suc e) i l g h =
        ⊎_elim (λ (z : i ≡ 0). ap (slot_from t rows (suc d)) z ∙ sym (ap (slot_from t rows (suc e)) z))
        (λ (z : i ≡ 0 → ⊥).
        let some : 0 < i = omega (arith, z) in
        let p = linked i some l in
        from_step rows d i some
        ∙ ap (λ (s : Slot). child_slot t s (index_by rows i)) (from-enough d e (parent_by rows i) (omega (arith, p)) (omega (arith, p)) (omega (arith, p)))
        ∙ sym (from_step rows e i some))
        (same_or_not i 0)

    pub slot-child : (i : ℕ) → 0 < i → i < n → slot_by t rows i ≡ child_slot t (slot_by t rows (parent_by rows i)) (index_by rows i)
    unfolding slot_by
    slot-child i h l =
        let e : i ≡ suc (i - 1) = omega arith in
        let p = linked i h l in
        ap (λ (d : ℕ). slot_from t rows d i) e
        ∙ from_step rows (i - 1) i h
        ∙ ap (λ (s : Slot). child_slot t s (index_by rows i)) (from-enough (i - 1) (parent_by rows i) (parent_by rows i) (omega (arith, p)) (omega (arith, p)) (omega arith))

    -- the first n slots stay where the first n rows stay
    same_from : (rows' : List (List ℕ)) → ((i : ℕ) → i < n → get_or rows' i [] ≡ get_or rows i []) → (d i : ℕ) → i < n → slot_from t rows' d i ≡ slot_from t rows d i
    same_from rows' same zero i l = refl
    same_from rows' same (suc d) zero l = refl
    same_from rows' same (suc d) (suc i) l =
        let p = linked (suc i) (omega arith) l in
        from_step rows' d (suc i) (omega arith)
        ∙ ap (λ (r : List ℕ). child_slot t (slot_from t rows' d (get_or r 1 0 / 8)) (get_or r 1 0 % 8)) (same (suc i) l)
        ∙ ap (λ (s : Slot). child_slot t s (index_by rows (suc i))) (same_from rows' same d (parent_by rows (suc i)) (omega (arith, p)))
        ∙ sym (from_step rows d (suc i) (omega arith))

  pub slot-first : (rows : List (List ℕ)) → slot_by t rows 0 ≡ root_slot t
  unfolding slot_by
  slot-first rows = refl

pub slot_same : (t : List ℕ) (rows rows' : List (List ℕ)) (n : ℕ) → ((i : ℕ) → 0 < i → i < n → parent_by rows i < i) → ((i : ℕ) → i < n → get_or rows' i [] ≡ get_or rows i [])
    → (i : ℕ) → i < n → slot_by t rows' i ≡ slot_by t rows i
unfolding slot_by
slot_same t rows rows' n linked same i l = same_from t rows n linked rows' same i i l

-- ---- slots that stand

-- the nodes above a child are those above its parent, and the parent
above-long : (s : Slot) → length s.path.blocks ≡ s.path.n → length (above s.path ++ (s.block ∷ [])) ≡ s.path.n + 1
above-long s h = omega (arith, length-append (above s.path) (s.block ∷ []), ap length (take_all s.path.n s.path.blocks (omega arith)))

pub child-above : (t : List ℕ) (s : Slot) (i : ℕ) → length s.path.blocks ≡ s.path.n → above (child_slot t s i).path ≡ above s.path ++ (s.block ∷ [])
child-above t s i h = take_all (s.path.n + 1) (above s.path ++ (s.block ∷ [])) (omega (arith, above-long s h))

pub stands-valid : {t : List ℕ} {s : Slot} → Standing t s → ValidBlock t s.block
stands-valid {t} {s} v = record { level = s.level; asked = v.asked; ok = v.ok; inside = v.inside }

-- the root's, once its node keeps the rules
pub root_stands : (t : List ℕ) → header_ok (length t) (head_of t) ≡ true → node_ok (root_slot t).level (Root (root_slot t).block) (store_of t (root_slot t).block) ≡ true
    → Standing t (root_slot t)
root_stands t h ok =
    record {
      asked = Root (root_slot t).block;
      ok = ok;
      inside = omega (arith, root-low t h {root = (head_of t).root} {level = (head_of t).levels} refl refl);
      ancestors = Above.above_root t (root_slot t).path (ceiling (Root (root_slot t).block)) refl;
      deep = omega (arith, levels-few t h {root = (head_of t).root} {level = (head_of t).levels} refl refl);
      long = refl;
    }

module _ (t : List ℕ) (s : Slot) (v : Standing t s) (i : ℕ) (below : i < kid_count t s.block) where
  kid_in : Memᴰ (kid_entry t s.block i) (store_of t s.block).entries
  kid_in =
      let es = entries_in (block t s.block) in
      subst (λ (l : List Entry). Memᴰ (kid_entry t s.block i) l) (Above.entries-are t s.block)
      (mem-drop i es (subst (λ (l : List Entry). Memᴰ (kid_entry t s.block i) l) (sym (entry_next (block t s.block) i below)) (Memᴰ.head refl)))

  pub child-inside : ((child_slot t s i).block * 2048 + 2048 ≤ length t) × (1 ≤ s.level)
  child-inside = (
    (Above.child-inside t s.block s.level v.asked v.ok (kid_entry t s.block i) kid_in).1,
    Above.child-level t s.block s.level v.asked v.ok (kid_entry t s.block i) kid_in,
  )

  -- a child's, where the query admits it and its node keeps the rules
  pub child-stands : (q : Query) → admits q (kid_part t s.block s.span i) ≡ true
      → node_ok (child_slot t s i).level (Child (kid_entry t s.block i)) (store_of t (child_slot t s i).block) ≡ true → Standing t (child_slot t s i)
  child-stands q a ok =
      let e = kid_entry t s.block i in
      record {
        asked = Child e;
        ok = ok;
        inside = child-inside.0;
        ancestors =
            Above.above_step t s.path (child_slot t s i).path s.block s.level v.asked v.ancestors v.ok v.inside e kid_in
            (Above.admitted-size q e.block e (kid_span t s.block s.span i) a)
            (omega (arith, v.deep, child-inside.1))
            refl
            (child-above t s i v.long);
        deep = omega (arith, v.deep, child-inside.1);
        long = above-long s v.long;
      }

-- ---- chains

pub hangs-valid : {t : List ℕ} {rows : List (List ℕ)} {i : ℕ} → Hangs t rows i → ValidBlock t (slot_by t rows i).block
hangs-valid {t} {rows} {i} h = stands-valid (h.chain.stands i h.inside)

pub hangs-block : {t : List ℕ} {rows : List (List ℕ)} {i : ℕ} → Hangs t rows i → block_by rows i ≡ (slot_by t rows i).block
hangs-block {i = i} h = h.chain.blocks i h.inside

-- and its parent is a slot before it
pub hangs-lower : {t : List ℕ} {rows : List (List ℕ)} {i : ℕ} → Hangs t rows i → 0 < i → parent_by rows i < i
hangs-lower {i = i} h some = h.chain.linked i some h.inside

pub hangs-up : {t : List ℕ} {rows : List (List ℕ)} {i : ℕ} → Hangs t rows i → 0 < i → Hangs t rows (parent_by rows i)
hangs-up h some = record { n = h.n; inside = omega (arith, hangs-lower h some, h.inside); chain = h.chain }

pub hangs-child : {t : List ℕ} {rows : List (List ℕ)} {i : ℕ} → Hangs t rows i → 0 < i → slot_by t rows i ≡ child_slot t (slot_by t rows (parent_by rows i)) (index_by rows i)
hangs-child {t} {rows} {i} h some = slot-child t rows h.n h.chain.linked i some h.inside

-- the first row
pub chain_first : (t : List ℕ) (rows : List (List ℕ)) → table_sized (length t) ≡ true → header_ok (length t) (head_of t) ≡ true → 0 < length rows → (up : ℕ) → Standing t (root_slot t)
    → Chain t (set rows 0 ((root_slot t).block ∷ up ∷ [])) 1
chain_first t rows sized header some up v =
    record {
      sized = sized;
      header = header;
      room = omega (arith, length-set rows 0 row);
      linked = λ i l m. let z : ⊥ = omega arith in absurd z;
      index = λ i l m. let z : ⊥ = omega arith in absurd z;
      blocks = λ i l.
          let e : i ≡ 0 = omega arith in
          subst (λ (j : ℕ). block_by rows' j ≡ (slot_by t rows' j).block) (sym e)
          (ap (λ (r : List ℕ). get_or r 0 0) (get_or-set_same rows 0 row [] some) ∙ ap (λ (s : Slot). s.block) (sym (slot-first t rows')));
      stands = λ i l. let e : i ≡ 0 = omega arith in subst (Standing t) (sym (ap (slot_by t rows') e ∙ slot-first t rows')) v;
    }
  where
    row : List ℕ
    row = (root_slot t).block ∷ up ∷ []

    rows' : List (List ℕ)
    rows' = set rows 0 row

pub chain-old : (t : List ℕ) (rows : List (List ℕ)) (n : ℕ) → Chain t rows n → (r : List ℕ) (i : ℕ) → i < n → slot_by t (set rows n r) i ≡ slot_by t rows i
chain-old t rows n c r = slot_same t rows (set rows n r) n c.linked (λ i l. get_or-set_other rows n i r [] (λ e. let z : ⊥ = omega arith in z))

-- one row more
module _ (t : List ℕ) (rows : List (List ℕ)) (n : ℕ) (c : Chain t rows n) (some : 0 < n) (room : n < length rows) (up : ℕ) (parent : up / 8 < n)
    (below : up % 8 < kid_count t (slot_by t rows (up / 8)).block) (stands : Standing t (child_slot t (slot_by t rows (up / 8)) (up % 8))) where
  abbrev row : List ℕ
  row = (child_slot t (slot_by t rows (up / 8)) (up % 8)).block ∷ up ∷ []

  abbrev more : List (List ℕ)
  more = set rows n row

  last-or-not : (i : ℕ) → i < n + 1 → (i ≡ n) ⊎ (i < n)
  last-or-not i l = ⊎_elim (λ (e : i ≡ n). inl e) (λ (d : i ≡ n → ⊥). inr (omega (arith, d))) (same_or_not i n)

  row_new : get_or more n [] ≡ row
  row_new = get_or-set_same rows n row [] room

  row_old : (i : ℕ) → i < n → get_or more i [] ≡ get_or rows i []
  row_old i l = get_or-set_other rows n i row [] (λ e. let z : ⊥ = omega arith in z)

  links : (i : ℕ) → 0 < i → i < n + 1 → parent_by more i < i
  links i h l = ⊎_elim
      (λ (e : i ≡ n). subst (λ (j : ℕ). parent_by more j < j) (sym e) (subst (λ (r : List ℕ). get_or r 1 0 / 8 < n) (sym row_new) parent))
      (λ (m : i < n). subst (λ (r : List ℕ). get_or r 1 0 / 8 < i) (sym (row_old i m)) (c.linked i h m))
      (last-or-not i l)

  pub chain-new : slot_by t (set rows n ((child_slot t (slot_by t rows (up / 8)) (up % 8)).block ∷ up ∷ [])) n ≡ child_slot t (slot_by t rows (up / 8)) (up % 8)
  chain-new =
      slot-child t more (n + 1) links n some (omega arith)
      ∙ ap (λ (r : List ℕ). child_slot t (slot_by t more (get_or r 1 0 / 8)) (get_or r 1 0 % 8)) row_new
      ∙ ap (λ (s : Slot). child_slot t s (up % 8)) (chain-old t rows n c row (up / 8) parent)

  -- the parent of a row, and its slot
  parent-slot : (i : ℕ) → i < n → 0 < i → slot_by t more (parent_by more i) ≡ slot_by t rows (parent_by rows i)
  parent-slot i m h =
      ap (λ (r : List ℕ). slot_by t more (get_or r 1 0 / 8)) (row_old i m)
      ∙ chain-old t rows n c row (parent_by rows i) (omega (arith, c.linked i h m))

  pub chain_more : Chain t (set rows n ((child_slot t (slot_by t rows (up / 8)) (up % 8)).block ∷ up ∷ [])) (n + 1)
  chain_more =
      record {
        sized = c.sized;
        header = c.header;
        room = omega (arith, length-set rows n row);
        linked = links;
        index = λ i h l. ⊎_elim (λ (e : i ≡ n). subst (λ (j : ℕ). Indexed j) (sym e) index-new) (λ (m : i < n). index-old i h m) (last-or-not i l);
        blocks = λ i l. ⊎_elim (λ (e : i ≡ n). subst (λ (j : ℕ). block_by more j ≡ (slot_by t more j).block) (sym e) block_new)
            (λ (m : i < n). ap (λ (r : List ℕ). get_or r 0 0) (row_old i m) ∙ c.blocks i m ∙ sym (ap (λ (s : Slot). s.block) (chain-old t rows n c row i m)))
            (last-or-not i l);
        stands = λ i l. ⊎_elim (λ (e : i ≡ n). subst (Standing t) (sym (ap (slot_by t more) e ∙ chain-new)) stands)
            (λ (m : i < n). subst (Standing t) (sym (chain-old t rows n c row i m)) (c.stands i m))
            (last-or-not i l);
      }
    where
      Indexed : ℕ → Type 0
      Indexed j = index_by more j < kid_count t (slot_by t more (parent_by more j)).block

      index-new : Indexed n
      index-new =
          subst (λ (r : List ℕ). get_or r 1 0 % 8 < kid_count t (slot_by t more (get_or r 1 0 / 8)).block) (sym row_new)
          (subst (λ (s : Slot). up % 8 < kid_count t s.block) (sym (chain-old t rows n c row (up / 8) parent)) below)

      index-old : (i : ℕ) → 0 < i → i < n → Indexed i
      index-old i h m =
          subst (λ (s : Slot). index_by more i < kid_count t s.block) (sym (parent-slot i m h))
          (subst (λ (r : List ℕ). get_or r 1 0 % 8 < kid_count t (slot_by t rows (parent_by rows i)).block) (sym (row_old i m)) (c.index i h m))

      block_new : block_by more n ≡ (slot_by t more n).block
      block_new = ap (λ (r : List ℕ). get_or r 0 0) row_new ∙ ap (λ (s : Slot). s.block) (sym chain-new)
