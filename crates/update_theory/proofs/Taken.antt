-- take_top's node: opened without its top, and stored once it is filled.
-- Assumes nothing.
use mathlib.Core.Path.{◌≡◌, refl, ap, sym, ◌∙◌, subst}
use mathlib.Core.Logic.{inl, inr, ⊎_elim}
use mathlib.Core.Bool.{Bool, true, false, cond, ◌&&◌, ◌||◌}
use mathlib.Core.List.Memᴰ
use mathlib.Core.List.{List, [], ◌∷◌, Memᴰ}
use mathlib.Core.Option.{Option, none, some}
use Prim.Native.Nat.{ℕ, suc, ◌≤◌}
use native.Mathlib.Omega.{arith}
use lib.ListN.{length}
use lib.Dec.{eqb, leb}
use Rattle.octets.specs.Lists.{all, every, is_empty}
use Rattle.octets.proofs.Tests.{all-at, all_cons, all_nil, and_left, or_left, empty-length}
use Rattle.spot.specs.declared.Spot.{Spot}
use Rattle.spot.specs.Spots.{keys, find}
use Rattle.spot.specs.Keys.{rank_key, all_keys}
use Rattle.spot.specs.Sorted.{only, but}
use Rattle.spot.proofs.Places.{within-to}
use Rattle.spot.proofs.Halves.{rank-inj}
use Rattle.block.specs.declared.Entry.{Entry}
use Rattle.block.specs.Node.{Node, Store}
use Rattle.block.specs.Table.{block_ok}
use Rattle.block.specs.declared.Asked.TheVariants.{Child}
use Rattle.block.specs.NodeRules.{node_ok, lows, lows_rise, agrees, filled, lowest, fewest, child_count_ok, child_blocks_ok, leaf_buffers_empty, stands_in, child_blocks}
use Rattle.tree.specs.Part.{Part, Legal}
use Rattle.tree.specs.Lookup.{lookup}
use Rattle.tree.specs.Sound.{sound_at, in_range}
use Rattle.tree.proofs.Below.{node-sound, sizes-filled, sizes-lowest}
use Rattle.tree.proofs.Entries.{Highest, deepest, agree-size, agree-top}
use Rattle.tree.proofs.Empty.{none-length, held-some, none-held, empty-keys}
use Rattle.update_theory.specs.Held.{Held}
use Rattle.update_theory.specs.Change.{part, Sound, Changed}
use Rattle.update_theory.specs.Spare.{Taken}
use Rattle.update_theory.specs.Open.{Open}
use Rattle.update_theory.specs.Rounds.{Loop, FilledUp}
use Rattle.update_theory.proofs.Loose.{opened, lookup-step}
use Rattle.update_theory.proofs.Open.{held_of, open-node, open-lowest}
use Rattle.update_theory.proofs.Fill.{open-take}
use Rattle.update_theory.proofs.Close.{Shape}
use Rattle.update_theory.proofs.Node.{Top, top_of, point-live}
use Rattle.update_theory.proofs.Going.{going_done}

-- what hangs on the entries' blocks alone
length-blocks : (es : List Entry) → length (child_blocks es) ≡ length es
length-blocks [] = refl
length-blocks (e ∷ es) = ap suc (length-blocks es)

empty-blocks : (es : List Entry) → is_empty (child_blocks es) ≡ is_empty es
empty-blocks [] = refl
empty-blocks (e ∷ es) = refl

every-blocks : (room : ℕ) (es : List Entry) → every (λ e. block_ok room e.block) es ≡ every (block_ok room) (child_blocks es)
every-blocks room [] = refl
every-blocks room (e ∷ es) = ap (λ (b : Bool). block_ok room e.block && b) (every-blocks room es)

-- the node after: the entries and buffers that fill left
abbrev pub after : Node → List Entry → Held → Node
after n es b = record { level = n.level; entries = es; points = b.points; inserts = b.inserts; deletes = b.deletes; laid = n.laid; room = n.room }

shape_of : (l : ℕ) (c : Part) (e e' : Entry) (n : Node) (es : List Entry) (b : Held) → c.asked ≡ Child e → node_ok l c.asked n ≡ true → in_range c n ≡ true
    → lows es ≡ lows n.entries → child_blocks es ≡ child_blocks n.entries → length b.points ≤ 64 → length b.inserts ≤ length n.inserts → length b.deletes ≤ length n.deletes
    → length n.inserts ≤ 64 → length n.deletes ≤ 16 → FilledUp es b
    → e'.low ≤ c.lo → agrees (Child e') (after n es b) ≡ true → e'.block ≡ c.block → Legal c.lo c.hi
    → Shape l c.block (Child e') c.lo c.hi (after n es b)
unfolding node_ok in_range child_count_ok fewest lows_rise leaf_buffers_empty child_blocks_ok stands_in
shape_of l c e e' n es b asks ok inside same-lows same_blocks_lem np ni nd ni₀ nd₀ full low agree own legal =
    record {
      laid = all-at _ ok 0;
      level = all-at _ ok 1;
      count = count (eqb n.level 0) (rw asks at (all-at _ ok 2));
      lows_up = rw same-lows (all-at _ ok 5);
      lows_in = rw same-lows (all-at _ inside 1);
      sizes = sizes full;
      leaf = leaf (eqb n.level 0) (all-at _ ok 8);
      agree = agree;
      low = low;
      blocks = every-blocks n.room es ∙ ap (every (block_ok n.room)) same_blocks_lem ∙ sym (every-blocks n.room n.entries) ∙ all-at _ ok 11;
      own = own;
      legal = legal;
    }
  where
    same_length : length es ≡ length n.entries
    same_length = sym (length-blocks es) ∙ ap length same_blocks_lem ∙ length-blocks n.entries

    count : (t : Bool) → cond t (is_empty n.entries) (all (leb 4 (length n.entries) ∷ leb (length n.entries) 8 ∷ [])) ≡ true
        → cond t (is_empty es) (all (leb 4 (length es) ∷ leb (length es) 8 ∷ [])) ≡ true
    count true h = sym (empty-blocks es) ∙ ap is_empty same_blocks_lem ∙ empty-blocks n.entries ∙ h
    count false h = rw same_length h

    leaf : (t : Bool) → cond t (all (is_empty n.inserts ∷ is_empty n.deletes ∷ [])) true ≡ true → cond t (all (is_empty b.inserts ∷ is_empty b.deletes ∷ [])) true ≡ true
    leaf true h =
        let i = empty-length n.inserts (all-at _ h 0) in
        let d = empty-length n.deletes (all-at _ h 1) in
        all_cons _ _ (none-length b.inserts (omega arith)) (all_cons _ _ (none-length b.deletes (omega arith)) all_nil)
    leaf false h = refl

    sizes : FilledUp es b → (filled (after n es b) || lowest (after n es b)) ≡ true
    sizes (inl h) = sizes-filled (after n es b) h np (omega arith) (omega arith)
    sizes (inr h) = sizes-lowest (after n es b) h.0 h.1 h.2 h.3

-- STORED, once it is filled: w is the store y of the loop's end with the node in its block, and e' the entry made of it
pub take-finish : (ni nd l : ℕ) (x y w : Store) (c : Part) (e e' : Entry) → c.asked ≡ Child e → e'.block ≡ c.block → e'.low ≡ e.low → e.low ≤ c.lo → Legal c.lo c.hi → Sound (suc l) x (c ∷ [])
    → ni ≤ length (x c.block).inserts → nd ≤ length (x c.block).deletes → length (x c.block).inserts ≤ 64 → length (x c.block).deletes ≤ 16
    → (r : ℕ) (es : List Entry) (b : Held) (f : ℕ → Option ℕ) → Loop ni nd l c.lo c.hi x (x c.block).entries y r es b f → FilledUp es b
    → agrees (Child e') (after (x c.block) es b) ≡ true
    → w c.block ≡ after (x c.block) es b → ((z : ℕ) → (z ≡ c.block → ⊥) → w z ≡ y z)
    → Changed (suc l) (Taken [] []) x (c ∷ []) w (part c.block (Child e') c.lo c.hi ∷ []) f
take-finish ni nd l x y w c e e' asks own same low legal s ni₁ nd₁ ni₀ nd₀ r es b f p full agree at_block else =
    let o = opened l x c s in
    going_done l x y w c (Child e') [] [] r (after (x c.block) es b) f s (λ z i. absurd (Memᴰ.not-nil i)) p.going
    (shape_of l c e e' (x c.block) es b asks o.ok o.inside p.same_lows p.same_blocks p.few_p (omega (arith, p.few_i, ni₁)) (omega (arith, p.few_d, nd₁)) ni₀ nd₀ full (omega arith) agree own legal)
    at_block else

-- OPENED: the node without its top
module _ (l : ℕ) (x : Store) (c : Part) (e : Entry) (asks : c.asked ≡ Child e) (full : c.hi ≤ all_keys) (s : Sound (suc l) x (c ∷ [])) where
  sc : sound_at (suc l) x c ≡ true
  sc = and_left (sound_at (suc l) x c) true s.each

  -- the highest point is the top that the entry names
  pub top-is : (t : ℕ) → Highest (x c.block).points t → (e.size ≡ 0 → ⊥) × (t ≡ e.top)
  top-is t h = (
    some-points,
    rank-inj t e.top (let v = within-to c.lo c.hi t (point-live (suc l) x c sc t h.0).1 in omega arith) (let v = within-to c.lo c.hi e.top (point-live (suc l) x c sc e.top top.0).1 in omega arith) (let u = h.1 e.top top.0 in let v = top.1 t h.0 in omega arith),
  )
    where
      g : agrees (Child e) (x c.block) ≡ true
      g = rw asks at (node-sound (suc l) x c sc).entry

      held : is_empty (x c.block).points ≡ false
      held = sym (empty-keys (x c.block).points) ∙ held-some (keys (x c.block).points) h.0

      some-points : e.size ≡ 0 → ⊥
      some-points z = none-held (keys (x c.block).points) (empty-keys (x c.block).points ∙ none-length (x c.block).points (let y = agree-size e (x c.block) g in omega arith)) h.0

      top : Highest (x c.block).points e.top
      top = agree-top e (x c.block) g held

  -- it is found
  pub top-found : (a : ℕ) → find e.top (x c.block).points ≡ some a → lookup (suc l) x e.top c ≡ some a
  top-found a h = lookup-step l x e.top c ∙ rw h

  -- the child's node without its highest spot: what lies below stays under the rest of P, and the word on that key alone becomes none
  pub take_open : c.lo ≤ c.hi → (e.size ≡ 0 → ⊥)
      → (r : ℕ) × Open l x c.lo c.hi r (x c.block).entries (record { points = only (but e.top) (x c.block).points; inserts = (x c.block).inserts; deletes = (x c.block).deletes }) (λ k. cond (eqb k e.top) none (lookup (suc l) x k c))
  take_open order size = go (filled (x c.block)) refl
    where
      t : Top (suc l) x c e.top
      t = top_of (suc l) x c e asks sc size

      taken : (r : ℕ) → Open l x c.lo c.hi r (x c.block).entries (held_of (x c.block)) (λ k. lookup (suc l) x k c)
          → (r : ℕ) × Open l x c.lo c.hi r (x c.block).entries (record { points = only (but e.top) (x c.block).points; inserts = (x c.block).inserts; deletes = (x c.block).deletes }) (λ k. cond (eqb k e.top) none (lookup (suc l) x k c))
      taken r q = (r, open-take l x c.lo c.hi full r (x c.block).entries (held_of (x c.block)) (λ k. lookup (suc l) x k c) q e.top t.point)

      go : (q : Bool) → filled (x c.block) ≡ q
          → (r : ℕ) × Open l x c.lo c.hi r (x c.block).entries (record { points = only (but e.top) (x c.block).points; inserts = (x c.block).inserts; deletes = (x c.block).deletes }) (λ k. cond (eqb k e.top) none (lookup (suc l) x k c))
      go true h =
          ⊎_elim (λ (z : (x c.block).points ≡ []). absurd (Memᴰ.not-nil (subst (λ (xs : List Spot). Memᴰ e.top (keys xs)) z t.point)))
          (λ q. taken (rank_key q.0) (open-node l x c order s q.0 q.1.0 q.1.1))
          (deepest (x c.block).points)
      go false h = taken 0 (open-lowest l x c order s (or_left (filled (x c.block)) (lowest (x c.block)) (node-sound (suc l) x c sc).sizes h))
