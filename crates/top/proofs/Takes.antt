-- The child with the highest key is taken: its cell becomes 0, and no other cell changes.
-- Assumes nothing.
use mathlib.Core.Path.{◌≡◌, refl, ap, ap₂, sym, subst, ◌∙◌}
use mathlib.Core.Logic.{◌⊎◌, inl, inr, ⊎_elim}
use mathlib.Core.Bool.{Bool, true, false, cond, true≢false, false≢true}
use mathlib.Core.List.{List}
use Prim.Native.Nat.{ℕ, ◌+◌, ◌-◌, ◌*◌, ◌/◌, ◌%◌, ◌≤◌, ◌<◌}
use native.Mathlib.Omega.{arith}
use lib.ListN.{length}
use Rattle.std.specs.Prelude.{Option, Some, None, is_some}
use lib.Dec.{eqb}
use borrow.Author.Tests.{le-leb, lt-leb, eqb-true, eqb-false, eq-eqb, ne_eqb}
use Rattle.octets.proofs.Order.{same_or_not, less-or-not}
use Rattle.octets.specs.Bytes.{be}
use Rattle.spot.specs.Keys.{all_keys, rank_of}
use Rattle.spot.specs.declared.Query.{Query}
use Rattle.spot.specs.Spots.{key_at}
use Rattle.spot.proofs.Card.{key_at-lt}
use Rattle.spot.proofs.Halves.{rank-small}
use Rattle.block.specs.Access.{entry_of}
use Rattle.block.specs.NodeRules.{ValidBlock}
use Rattle.block.specs.Table.{block, table_sized}
use Rattle.tree.specs.Walk.{admits}
use Rattle.tree.proofs.Sources.{header-few}
use Rattle.frontier.specs.declared.KidPick.{KidPick}
use Rattle.frontier.specs.Frontier.{Slot, kid_count, kid_entry, kid_part, kid_cell, kid_key, slot_by, Chain}
use Rattle.frontier.specs.Picks.{best_key, best_at, KidBest}
use Rattle.frontier.proofs.Kids.{cell-says, key-cell, key-some, some_key, key-yes, keys-apart}
use Rattle.frontier.proofs.Chains.{stands-valid, child-inside}
use Rattle.top.specs.Rows.{kid_row, first_key, first_value, cell_of, cell_by, Lowered, Kids}
use Rattle.top.specs.Runs.{Takable, leads_with}
use Rattle.top.proofs.Heaps.{put, put_same, put_other, put_all, First, first-row, first-most}
use Rattle.top.proofs.Steps.{block_at}

-- a child whose key is above 0 is there
kid-there : (k : Option KidPick) → 0 < best_key k → is_some k ≡ true
kid-there None h = let z : ⊥ = omega arith in absurd z
kid-there (Some x) h = refl

-- ---- keys are small

pub top_small : (t : List ℕ) (b i : ℕ) → (kid_entry t b i).top < all_keys
unfolding entry_of
top_small t b i = go (be 1 (block t b) (8 + 28 * i + 2))
  where
    go : (n : ℕ) → cond (eqb n 0) 0 (key_at (block t b) (8 + 28 * i + 12)) < all_keys
    go n =
        ⊎_elim (λ (e : n ≡ 0). rw (eq-eqb n 0 e) (omega arith)) (λ (d : n ≡ 0 → ⊥). rw (ne_eqb n 0 d) (key_at-lt (block t b) (8 + 28 * i + 12)))
        (same_or_not n 0)

-- ---- keys of a cell and a block

-- the greater key has the greater cell, or the same and the lower block
keys-order : (v w a b : ℕ) → a < 65536 → b < 65536 → v * 65536 + (65535 - a) ≤ w * 65536 + (65535 - b) → (v < w) ⊎ ((v ≡ w) × (b ≤ a))
keys-order v w a b l m h =
    ⊎_elim (λ (g : w ≤ v). let e : v ≡ w = omega arith in inr (e, omega arith)) (λ (g : v < w). inl g) (less-or-not w v)

keys-same : (v w a b : ℕ) → a < 65536 → b < 65536 → v * 65536 + (65535 - a) ≡ w * 65536 + (65535 - b) → (v ≡ w) × (a ≡ b)
keys-same v w a b l m h = let e : v ≡ w = omega arith in (e, omega arith)

-- ---- the cells of a slot

module _ (t : List ℕ) (q : Query) (s : Slot) where
  abbrev key : ℕ → ℕ
  key i = kid_key t s.block s.span q i

  abbrev cell : ℕ → ℕ
  cell i = kid_cell t s.block s.span q i

  key-small : (i : ℕ) → key i ≤ 18446744073709551615
  key-small i =
      let e = key-cell t s.block s.span q i in
      let l = rank-small (kid_entry t s.block i).top (top_small t s.block i) in
      ⊎_elim (λ (z : cell i ≡ 0). omega arith) (λ w. omega (arith, w.2)) (cell-says t s.block s.span q i)

  -- unread
  cell_in : (most i : ℕ) → key i ≤ most → cell_of t q s most i ≡ cell i
  unfolding cell_of
  cell_in most i l = ap (λ (b : Bool). cond b (cell i) 0) (le-leb (key i) most l)

  -- read
  cell_out : (most i : ℕ) → most < key i → cell_of t q s most i ≡ 0
  unfolding cell_of
  cell_out most i l = ap (λ (b : Bool). cond b (cell i) 0) (lt-leb (key i) most l)

  cell-most : (most i : ℕ) → cell_of t q s most i ≤ most / 65536
  cell-most most i =
      let e = key-cell t s.block s.span q i in
      ⊎_elim (λ (l : key i ≤ most). omega (arith, cell_in most i l)) (λ (l : most < key i). omega (arith, cell_out most i l)) (less-or-not (key i) most)

  -- an unread child: its key is not above the best, and its cell is one more than its rank
  cell-unread : (most i : ℕ) → 0 < cell_of t q s most i → (key i ≤ most) × (i < kid_count t s.block) × (rank_of (kid_entry t s.block i).top + 1 ≡ cell i) × (cell_of t q s most i ≡ cell i)
  cell-unread most i some =
      ⊎_elim
      (λ (l : key i ≤ most).
      let e = cell_in most i l in
      ⊎_elim (λ (z : cell i ≡ 0). let y : ⊥ = omega arith in absurd y) (λ w. (l, w.0, sym w.2, e)) (cell-says t s.block s.span q i))
      (λ (l : most < key i). let y : ⊥ = omega (arith, cell_out most i l) in absurd y)
      (less-or-not (key i) most)

  pub cell-rank : (most i : ℕ) → 0 < cell_of t q s most i → rank_of (kid_entry t s.block i).top + 1 ≡ cell_of t q s most i
  cell-rank most i some = let w = cell-unread most i some in w.2 ∙ sym w.3

  -- its key is made of its cell and its block
  cell-key : (most i : ℕ) → 0 < cell_of t q s most i
      → (key i ≤ most) × (0 < key i) × (key i ≡ cell_of t q s most i * 65536 + (65535 - (kid_entry t s.block i).block)) × (i < kid_count t s.block)
  cell-key most i some =
      let w = cell-unread most i some in
      let b = (kid_entry t s.block i).block in (
        w.0,
        some_key t s.block s.span q i (omega (arith, w.3)),
        sym (key-yes t s.block s.span q i (rank_of (kid_entry t s.block i).top) w.2 refl) ∙ ap (λ (x : ℕ). x * 65536 + (65535 - b)) (w.2 ∙ sym w.3),
        w.1,
      )

  -- all are unread at first
  pub cell-first : {r : Option KidPick} → KidBest t s.block s.span q 18446744073709551615 r → (i : ℕ) → i < 8 → cell_of t q s (best_key r) i ≡ cell i
  cell-first {r} b i l = cell_in (best_key r) i (b.over i l (key-small i))

  -- the best is taken
  module _ (v : ValidBlock t s.block) (sized : table_sized (length t) ≡ true) (most at : ℕ) (some : 0 < most) (is : most ≡ key at) (r : Option KidPick) (b : KidBest t s.block s.span q (most - 1) r) where
    next_low_lem : (best_key r) < most
    next_low_lem = ⊎_elim (λ (z : (best_key r) ≡ 0). omega arith) (λ (d : (best_key r) ≡ 0 → ⊥). let l : 0 < (best_key r) = omega (arith, d) in omega (arith, (b.held l).1)) (same_or_not (best_key r) 0)

    cell-taken : cell_of t q s (best_key r) at ≡ 0
    cell-taken = let l = next_low_lem in cell_out (best_key r) at (omega arith)

    cell-kept : (i : ℕ) → i < 8 → (i ≡ at → ⊥) → cell_of t q s (best_key r) i ≡ cell_of t q s most i
    cell-kept i l d =
        let m = next_low_lem in
        let n : key i ≡ most → ⊥ = λ e. d (keys-apart t s.block v sized s.span q i at (omega arith) (e ∙ is)) in
        ⊎_elim
        (λ (h : key i ≤ most - 1). let g = b.over i l h in cell_in (best_key r) i g ∙ sym (cell_in most i (omega arith)))
        (λ (h : most - 1 < key i). let g : most < key i = omega (arith, n) in cell_out (best_key r) i (omega arith) ∙ sym (cell_out most i g))
        (less-or-not (key i) (most - 1))

-- ---- the first row of the heap of children

module _ {t : List ℕ} {q : Query} {rows kids : List (List ℕ)} {m n : ℕ} (kid : ℕ → Option KidPick) (u : Kids t q rows kids m n kid) where
  -- no cell is above the floor
  pub cells_low : (floor : ℕ) → floor ≡ cond (eqb m 0) 0 (first_key kids / 65536) → (c : ℕ) → c < 8 * n → cell_by t q rows kid c ≤ floor
  cells_low floor e c l =
      let s = c / 8 in
      let i : s < n = omega arith in
      let f = cell-most t q (slot_by t rows s) (best_key (kid s)) (c % 8) in
      ⊎_elim (λ (z : (best_key (kid s)) ≡ 0). omega arith)
      (λ (d : (best_key (kid s)) ≡ 0 → ⊥).
      let g = first-most (λ j. is_some (kid j)) (λ j. best_key (kid j)) (λ j. 8 * j + best_at (kid j)) u.held s i (kid-there (kid s) (omega (arith, d))) in
      let w : floor ≡ first_key kids / 65536 = e ∙ ap (λ (b : Bool). cond b 0 (first_key kids / 65536)) (ne_eqb m 0 (λ z. let y : ⊥ = omega (arith, g.0) in y)) in
      omega (arith, g.1))
      (same_or_not (best_key (kid s)) 0)

  module _ (chain : Chain t rows n) where
    -- the block of a child is one of the table's
    child-near : (c : ℕ) → c < 8 * n → c % 8 < kid_count t (slot_by t rows (c / 8)).block → block_at t (slot_by t rows) c < 65536
    child-near c l below =
        let i : c / 8 < n = omega arith in
        omega (arith, (child-inside t (slot_by t rows (c / 8)) (chain.stands (c / 8) i) (c % 8) below).0, header-few t chain.header)

    -- the key of an unread child is not above the first row's
    unread-key : (c : ℕ) → c < 8 * n → 0 < cell_by t q rows kid c
        → (0 < m) × (cell_by t q rows kid c * 65536 + (65535 - block_at t (slot_by t rows) c) ≤ first_key kids) × (block_at t (slot_by t rows) c < 65536)
    unread-key c l some =
        let s = c / 8 in
        let i : s < n = omega arith in
        let k = cell-key t q (slot_by t rows s) (best_key (kid s)) (c % 8) some in
        let g = first-most (λ j. is_some (kid j)) (λ j. best_key (kid j)) (λ j. 8 * j + best_at (kid j)) u.held s i (kid-there (kid s) (omega (arith, k.0, k.1))) in
        (g.0, omega (arith, k.0, k.2, g.1), child-near c l k.3)

  module _ (chain : Chain t rows n) (some : 0 < m) where
    pub kid-row : First kids (λ j. is_some (kid j)) (λ j. best_key (kid j)) (λ j. 8 * j + best_at (kid j)) n
    kid-row = first-row (λ j. is_some (kid j)) (λ j. best_key (kid j)) (λ j. 8 * j + best_at (kid j)) u.held some

    abbrev s : ℕ
    s = kid-row.at

    abbrev parent : Slot
    parent = slot_by t rows s

    index : (best_at (kid s)) < 8
    index = u.index s kid-row.inside

    kid-slot : first_value kids / 8 ≡ s
    kid-slot = let e = kid-row.value-is in let l = index in omega arith

    kid_at : first_value kids % 8 ≡ best_at (kid s)
    kid_at = let e = kid-row.value-is in let l = index in omega arith

    key-some-row : 0 < best_key (kid s)
    key-some-row = u.some s kid-row.inside kid-row.there

    kid-key-some : 0 < first_key kids
    kid-key-some = let e = kid-row.key-is in let l = key-some-row in omega arith

    key-is : (best_key (kid s)) ≡ kid_key t parent.block parent.span q (best_at (kid s))
    key-is = u.key s kid-row.inside key-some-row

    -- its cell is the floor
    pub kid-cell : cell_by t q rows kid (first_value kids) ≡ first_key kids / 65536
    kid-cell =
        let e = key-is in
        ap₂ (λ (a b : ℕ). cell_of t q (slot_by t rows a) (best_key (kid a)) b) kid-slot kid_at ∙ cell_in t q parent (best_key (kid s)) (best_at (kid s)) (omega arith)
        ∙ sym (key-cell t parent.block parent.span q (best_at (kid s))) ∙ ap (λ (x : ℕ). x / 65536) (sym key-is ∙ sym kid-row.key-is)

    pub kid-inside : first_value kids < 8 * n
    kid-inside = let e = kid-row.value-is in let l = kid-row.inside in let i = index in omega arith

    pub kid-cell-some : 0 < cell_by t q rows kid (first_value kids)
    kid-cell-some =
        let e = kid-row.key-is in
        let l = key-some t parent.block parent.span q (best_at (kid s)) (subst (λ (x : ℕ). 0 < x) key-is key-some-row) in
        omega (arith, kid-cell, key-is, key-cell t parent.block parent.span q (best_at (kid s)))

    -- its key is made of its cell and its block
    kid-key : (first_key kids ≡ cell_by t q rows kid (first_value kids) * 65536 + (65535 - block_at t (slot_by t rows) (first_value kids))) × (block_at t (slot_by t rows) (first_value kids) < 65536)
    kid-key =
        let c = first_value kids in
        let k = cell-key t q (slot_by t rows (c / 8)) (best_key (kid (c / 8))) (c % 8) kid-cell-some in
        (kid-row.key-is ∙ key-is ∙ sym (ap₂ (λ (a b : ℕ). kid_key t (slot_by t rows a).block (slot_by t rows a).span q b) kid-slot kid_at) ∙ k.2, child-near chain c kid-inside k.3)

    -- it is a child that the query admits
    kid-says : (best_at (kid s) < kid_count t parent.block) × (admits q (kid_part t parent.block parent.span (best_at (kid s))) ≡ true)
    kid-says =
        let l = key-some t parent.block parent.span q (best_at (kid s)) (subst (λ (x : ℕ). 0 < x) key-is key-some-row) in
        ⊎_elim (λ (z : kid_cell t parent.block parent.span q (best_at (kid s)) ≡ 0). let y : ⊥ = omega arith in absurd y) (λ w. (w.0, w.1))
        (cell-says t parent.block parent.span q (best_at (kid s)))

    pub kid-below : first_value kids % 8 < kid_count t (slot_by t rows (first_value kids / 8)).block
    kid-below =
        let e = kid_at in
        subst (λ (j : ℕ). first_value kids % 8 < kid_count t (slot_by t rows j).block) (sym kid-slot) (subst (λ (i : ℕ). i < kid_count t parent.block) (sym e) kid-says.0)

    pub kid-admitted : admits q (kid_part t (slot_by t rows (first_value kids / 8)).block (slot_by t rows (first_value kids / 8)).span (first_value kids % 8)) ≡ true
    kid-admitted =
        ap₂ (λ (a b : ℕ). admits q (kid_part t (slot_by t rows a).block (slot_by t rows a).span b)) kid-slot kid_at ∙ kid-says.1

    -- it is the first in order of all unread
    pub kid-order : (j : ℕ) → j < 8 * n → 0 < cell_by t q rows kid j
        → (cell_by t q rows kid j < cell_by t q rows kid (first_value kids))
        ⊎ ((cell_by t q rows kid j ≡ cell_by t q rows kid (first_value kids)) × (block_at t (slot_by t rows) (first_value kids) ≤ block_at t (slot_by t rows) j))
    kid-order j l above =
        let k = unread-key chain j l above in
        keys-order (cell_by t q rows kid j) (cell_by t q rows kid (first_value kids)) (block_at t (slot_by t rows) j) (block_at t (slot_by t rows) (first_value kids)) k.2 kid-key.1
        (omega (arith, k.1, kid-key.0))

    pub parent-inside : first_value kids / 8 < n
    parent-inside = let e = kid-slot in let l = kid-row.inside in omega arith

    pub takable : n ≤ 4096 → Takable t rows kids m
    takable few =
        let l = kid-inside in
        record {
          some = some;
          room = u.held.room;
          heap = u.held.heap;
          key = kid-key-some;
          near = omega arith;
          hangs = record { n = n; inside = parent-inside; chain = chain };
          below = kid-below;
          level = (child-inside t (slot_by t rows (first_value kids / 8)) (chain.stands (first_value kids / 8) parent-inside) (first_value kids % 8) kid-below).1;
        }

    -- ---- it is taken

    module _ (next : Option KidPick) (b : KidBest t (slot_by t rows (first_value kids / 8)).block (slot_by t rows (first_value kids / 8)).span q (first_key kids - 1) next) where
      best : KidBest t parent.block parent.span q ((best_key (kid s)) - 1) next
      best =
          subst (λ (x : ℕ). KidBest t parent.block parent.span q (x - 1) next) kid-row.key-is
          (subst (λ (j : ℕ). KidBest t (slot_by t rows j).block (slot_by t rows j).span q (first_key kids - 1) next) kid-slot b)

      pub taken-kids : {kids' : List (List ℕ)} {m' : ℕ} → Lowered kids m (kid_row (first_value kids / 8) next) kids' m' → Kids t q rows kids' m' n (put kid s next)
      taken-kids v =
          record {
            held =
                v.held (λ j. kid_row j (kid j)) (λ j. kid_row j (put kid s next j)) n s u.held kid-row.inside kid-row.row_is
                (ap (kid_row s) (put_same kid s next) ∙ ap (λ (j : ℕ). kid_row j next) (sym kid-slot))
                (λ j d. ap (kid_row j) (put_other kid s next j d));
            some = put_all kid s next (λ j k. j < n → is_some k ≡ true → 0 < best_key k) (λ l. best.some) (λ j d. u.some j);
            index = put_all kid s next (λ j k. j < n → best_at k < 8) (λ l. best.index) (λ j d. u.index j);
            key =
                put_all kid s next (λ j k. j < n → 0 < best_key k → best_key k ≡ kid_key t (slot_by t rows j).block (slot_by t rows j).span q (best_at k))
                (λ l p. (best.held p).0)
                (λ j d. u.key j);
          }

      valid : ValidBlock t parent.block
      valid = stands-valid (chain.stands s kid-row.inside)

      pub cell-clear : cell_by t q rows (put kid s next) (first_value kids) ≡ 0
      cell-clear =
          ap₂ (λ (a i : ℕ). cell_of t q (slot_by t rows a) (best_key (put kid s next a)) i) kid-slot kid_at
          ∙ ap (λ (k : Option KidPick). cell_of t q parent (best_key k) (best_at (kid s))) (put_same kid s next)
          ∙ cell-taken t q parent valid chain.sized (best_key (kid s)) (best_at (kid s)) key-some-row key-is next best

      pub cell_same : (j : ℕ) → (j ≡ first_value kids → ⊥) → cell_by t q rows (put kid s next) j ≡ cell_by t q rows kid j
      cell_same j d =
          let v = kid-row.value-is in
          ⊎_elim
          (λ (e : j / 8 ≡ s).
          let n : j % 8 ≡ best_at (kid s) → ⊥ = λ z. let y : ⊥ = omega (arith, d) in y in
          ap (λ (a : ℕ). cell_of t q (slot_by t rows a) (best_key (put kid s next a)) (j % 8)) e
          ∙ ap (λ (k : Option KidPick). cell_of t q parent (best_key k) (j % 8)) (put_same kid s next)
          ∙ cell-kept t q parent valid chain.sized (best_key (kid s)) (best_at (kid s)) key-some-row key-is next best (j % 8) (omega arith) n
          ∙ sym (ap (λ (a : ℕ). cell_of t q (slot_by t rows a) (best_key (kid a)) (j % 8)) e))
          (λ (e : j / 8 ≡ s → ⊥). ap (λ (k : Option KidPick). cell_of t q (slot_by t rows (j / 8)) (best_key k) (j % 8)) (put_other kid s next (j / 8) e))
          (same_or_not (j / 8) s)

-- ---- another with the same key

module _ {t : List ℕ} {q : Query} {rows kids : List (List ℕ)} {m n : ℕ} (kid : ℕ → Option KidPick) (u : Kids t q rows kids m n kid) (chain : Chain t rows n) (some : 0 < m) (next : Option KidPick)
    (b : KidBest t (slot_by t rows (first_value kids / 8)).block (slot_by t rows (first_value kids / 8)).span q (first_key kids - 1) next)
    {via : List (List ℕ)} {m' : ℕ} (v : Lowered kids m (kid_row (first_value kids / 8) next) via m') where
  abbrev top : First kids (λ j. is_some (kid j)) (λ j. best_key (kid j)) (λ j. 8 * j + best_at (kid j)) n
  top = kid-row kid u chain some

  abbrev after : ℕ → Option KidPick
  after = put kid top.at next

  abbrev left : Kids t q rows via m' n after
  left = taken-kids kid u chain some next b v

  abbrev where-is : ℕ → ℕ
  where-is = block_at t (slot_by t rows)

  leads : leads_with via m' (first_key kids) ≡ true → (0 < m') × (first_key via ≡ first_key kids)
  leads h = go (eqb m' 0) refl h
    where
      go : (b : Bool) → eqb m' 0 ≡ b → cond b false (eqb (first_key via) (first_key kids)) ≡ true → (0 < m') × (first_key via ≡ first_key kids)
      go true e f = absurd (false≢true f)
      go false e f = (let d = eqb-false m' 0 e in omega (arith, d), eqb-true (first_key via) (first_key kids) f)

  -- no row left is above the one taken
  lower-first : 0 < m' → first_key via ≤ first_key kids
  lower-first l =
      let s = top.at in
      let r = kid-row after left chain l in
      ⊎_elim
      (λ (e : r.at ≡ s).
      let w : first_key via ≡ (best_key next) = r.key-is ∙ ap (λ (j : ℕ). best_key (after j)) e ∙ ap (λ (k : Option KidPick). best_key k) (put_same kid s next) in
      omega (
        arith,
        w,
        top.key-is,
        next_low_lem t q (slot_by t rows s) (valid kid u chain some next b) chain.sized (best_key (kid s)) (best_at (kid s)) (key-some-row kid u chain some) (key-is kid u chain some) next (best kid u chain some next b),
      ))
      (λ (d : r.at ≡ s → ⊥).
      let k = put_other kid s next r.at d in
      let w = first-most (λ j. is_some (kid j)) (λ j. best_key (kid j)) (λ j. 8 * j + best_at (kid j)) u.held r.at r.inside (ap (λ (x : Option KidPick). is_some x) (sym k) ∙ r.there) in
      omega (arith, r.key-is, ap (λ (x : Option KidPick). best_key x) k, w.1))
      (same_or_not r.at s)

  -- where the first row left has another key, no unread child shows the same rank and block
  pub kid-alone : leads_with via m' (first_key kids) ≡ false → (j : ℕ) → j < 8 * n → 0 < cell_by t q rows (put kid (kid-row kid u chain some).at next) j
      → cell_by t q rows (put kid (kid-row kid u chain some).at next) j ≡ cell_by t q rows kid (first_value kids) → block_at t (slot_by t rows) j ≡ block_at t (slot_by t rows) (first_value kids) → ⊥
  kid-alone h j l above e f =
      let k = unread-key after left chain j l above in
      let w : first_key via ≡ first_key kids = omega (arith, k.1, e, f, (kid-key kid u chain some).0, lower-first k.0) in
      true≢false
      (sym (ap (λ (b : Bool). cond b false (eqb (first_key via) (first_key kids))) (ne_eqb m' 0 (λ z. let y : ⊥ = omega (arith, k.0) in y)) ∙ eq-eqb (first_key via) (first_key kids) w) ∙ h)

  -- where it has the same, its child does
  pub kid-tied : leads_with via m' (first_key kids) ≡ true
      → (j : ℕ) × (j < 8 * n) × (0 < cell_by t q rows (put kid (kid-row kid u chain some).at next) j)
      × (cell_by t q rows (put kid (kid-row kid u chain some).at next) j ≡ cell_by t q rows kid (first_value kids)) × (block_at t (slot_by t rows) j ≡ block_at t (slot_by t rows) (first_value kids))
  kid-tied h =
      let r = leads h in
      let j = first_value via in
      let c = first_value kids in
      let k = kid-key after left chain r.0 in
      let g = kid-key kid u chain some in
      let w = keys-same (cell_by t q rows after j) (cell_by t q rows kid c) (where-is j) (where-is c) k.1 g.1 (sym k.0 ∙ r.1 ∙ g.0) in
      (j, kid-inside after left chain r.0, kid-cell-some after left chain r.0, w.0, w.1)
