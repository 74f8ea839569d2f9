-- The root takes a change in and is stored again: no other node is touched.
-- Assumes nothing.
use mathlib.Core.Path.{◌≡◌, refl, ap, sym, ◌∙◌, subst, subst⁻¹}
use mathlib.Core.Logic.{inl}
use mathlib.Core.Bool.{true, false}
use mathlib.Core.List.Memᴰ
use mathlib.Core.List.{List, [], ◌∷◌, Memᴰ}
use mathlib.Core.Option.{Option}
use Prim.Native.Nat.{ℕ, suc, ◌+◌, ◌*◌, ◌≤◌}
use native.Mathlib.Numerals.{add-one}
use native.Mathlib.Omega.{arith}
use lib.ListN.{length, length-take}
use lib.Dec.{eqb}
use borrow.Author.Tests.{eq-eqb, ne_eqb, le-leb, lt-ltb}
use Rattle.octets.specs.Lists.{every, rest, rising}
use Rattle.octets.specs.Bitmap.{bit}
use Rattle.octets.proofs.Tests.{all-at, all_cons, all_nil, every-make}
use Rattle.spot.specs.Keys.{start_key, end_key, within}
use Rattle.spot.specs.Spots.{keys}
use Rattle.spot.specs.declared.Spot.{Spot}
use Rattle.spot.proofs.Limits.{first-end, end-small}
use Rattle.block.specs.declared.Entry.{Entry}
use Rattle.block.specs.declared.Asked.TheVariants.{Root}
use Rattle.block.specs.Table.{blocks_of, block_ok, capacity}
use Rattle.block.specs.Header.{Header, head_of}
use Rattle.block.specs.HeaderRules.{header_ok}
use Rattle.block.specs.Node.{Node, store_of}
use Rattle.block.specs.NodeRules.{lows, zero_first, lows_rise, child_count_ok, fewest, child_blocks_ok, leaf_buffers_empty, agrees, stands_in}
use Rattle.block.proofs.Facts.{NodeFacts, node-facts, HeadFacts, head-facts}
use Rattle.tree.specs.Part.{Part}
use Rattle.tree.specs.Lookup.{lookup}
use Rattle.tree.specs.Sound.{in_range}
use Rattle.tree.proofs.Below.{sizes-filled}
use Rattle.tree.proofs.Legal.{legal-whole}
use Rattle.tree.proofs.Tables.{shaped}
use Rattle.update_theory.specs.Change.{part, Sound}
use Rattle.update_theory.specs.Spare.{Taken}
use Rattle.update_theory.specs.Going.{Going}
use Rattle.update_theory.proofs.Loose.{opened}
use Rattle.update_theory.proofs.Close.{Shape}
use Rattle.update_theory.proofs.Going.{going_start, going_done}
use Rattle.buffer.specs.Buffer.{held}
use Rattle.node.specs.Memory.{entries_of, node_in, EntriesFit, Storable, Stored}
use Rattle.node.specs.declared.Entries.{Entries}
use Rattle.node.specs.declared.NodeValue.{NodeValue}
use Rattle.node.proofs.Laws.{stored-else, stored-head}
use Rattle.edit.specs.Edits.{held_in}
use Rattle.spare.specs.declared.Spare.{Spare}
use Rattle.spare.specs.Spares.{SpareFits, SpareIn, HeadFits, Reheaded}
use Rattle.batch.specs.Batches.{batch_says, Receives, TakenIn}
use Rattle.batch.proofs.Opened.{taken-open, receives}
use Rattle.change.specs.Growing.{Rooted, LightAt, LightPost}
use Rattle.change.proofs.Trees.{rooted-one}
use Rattle.change.proofs.After.{root-sound, change-shaped, change-live}

-- no spare blocks
abbrev pub none : List ℕ → Spare
none blocks = record { n = 0; blocks = blocks }

none-fits : (t blocks : List ℕ) → SpareFits t (none blocks)
none-fits t blocks = record { few = omega arith; inside = λ b i. absurd (Memᴰ.not-nil i); once = refl }

none_in : (t blocks : List ℕ) → SpareIn t (none blocks)
none_in t blocks = record { fits = none-fits t blocks; unused = λ b i. absurd (Memᴰ.not-nil i) }

module _ {t : List ℕ} {root level : ℕ} {n : NodeValue} {ni nd bound : ℕ} (a : LightAt t root level n ni nd bound) where
  facts : NodeFacts level (Root root) (store_of t root)
  facts = node-facts level (Root root) (store_of t root) a.ok

  head : HeadFacts (length t) (head_of t)
  head = head-facts (length t) (head_of t) a.header

  root-some : 1 ≤ root
  root-some = let z = head.root-least in let y = a.root_is in omega arith

  -- the root is a block of the table, and its level is small
  pub light-inside : root * 2048 + 2048 ≤ length t
  light-inside = let z = head.root-most in let y = a.root_is in omega arith

  pub light-deep : level ≤ 6
  light-deep = let z = head.levels-most in let y = a.level_is in omega arith

  -- the root may take it in
  pub light-receives : Receives n ni nd
  light-receives = receives level (Root root) t root n ni nd a.ok a.loaded (omega (arith, a.one)) (omega (arith, a.one))

  module _ {ss : List Spot} {ks : List ℕ} {m : NodeValue} (k : TakenIn n ss ks ni nd m) where
    -- and be stored then
    pub light-stores : Storable m
    light-stores =
        record {
          level = let z = k.level in let y = a.loaded.storable.level in omega arith;
          entries = subst⁻¹ EntriesFit k.entries a.loaded.storable.entries;
          first = ap (λ (es : Entries). zero_first (lows (entries_of es))) k.entries ∙ a.loaded.storable.first;
          points = k.most_p (a.room.inner refl);
          inserts = let z = k.most_i in let y = a.room.inserts refl in omega (arith, a.one);
          deletes = let z = k.most_d in let y = a.room.deletes refl in omega (arith, a.one);
        }

    module _ {t₁ : List ℕ} (st : Stored t t₁ root m) where
      same_head : head_of t₁ ≡ head_of t
      same_head = stored-head t t₁ root m st (λ e. let z = root-some in omega arith)

      -- block 0 may be brought up to date
      pub light-head : (blocks : List ℕ) → HeadFits t₁ (none blocks) 0 (level + 1) root bound
      light-head blocks =
          record {
            ok = subst⁻¹ (λ (h : Header). header_ok (length t₁) h ≡ true) same_head (subst⁻¹ (λ (l : ℕ). header_ok l (head_of t) ≡ true) st.sized a.header);
            spare = none-fits t₁ blocks;
            less = omega arith;
            least = omega arith;
            most = let z = head.levels-most in let y = a.level_is in omega arith;
            first = root-some;
            last = let z = head.root-most in let y = a.root_is in let x = st.sized in omega arith;
            used = inl (ap (λ (h : Header). bit h.in_use root) same_head ∙ ap (bit (head_of t).in_use) a.root_is ∙ head.root-used);
            few = subst⁻¹ (λ (l : ℕ). bound ≤ capacity l) st.sized a.few;
          }

      -- the table as it is then, where it was sound
      module _ {t₂ : List ℕ} (r : Reheaded t₁ t₂ [] (level + 1) root bound) (long : length (held m.points) ≡ m.points.n)
          (fitI : (k : ℕ) → Memᴰ k (keys ss) → within start_key end_key k ≡ true) (fitD : (k : ℕ) → Memᴰ k ks → within start_key end_key k ≡ true) where
        abbrev here : Part
        here = part root (Root root) start_key end_key

        abbrev node : Node
        node = node_in (blocks_of (length t)) m

        abbrev says : ℕ → Option ℕ
        says k = batch_says ss ks k (lookup (suc level) (store_of t) k here)

        same_entries : entries_of m.entries ≡ (store_of t root).entries
        same_entries = ap entries_of k.entries ∙ ap (λ (x : Node). x.entries) a.loaded.is

        deep : eqb m.level 0 ≡ false
        deep = ne_eqb m.level 0 (λ e. a.room.inner refl (sym k.level ∙ e))

        tall : ((store_of t root).level ≡ 0) → ⊥
        tall e = a.room.inner refl (ap (λ (x : Node). x.level) a.loaded.is ∙ e)

        shape : in_range here (store_of t root) ≡ true → Shape level root (Root root) start_key end_key node
        unfolding in_range child_count_ok fewest lows_rise leaf_buffers_empty agrees child_blocks_ok block_ok stands_in
        shape inside =
            let size : length (entries_of m.entries) ≡ length (store_of t root).entries = ap length same_entries in
            let i = length-take m.inserts.n m.inserts.spots in
            let d = length-take m.deletes.n m.deletes.keys in
            record {
              laid = refl;
              level = eq-eqb m.level level (k.level ∙ ap (λ (x : Node). x.level) a.loaded.is ∙ facts.same-level);
              count = rw deep (all_cons _ _ (le-leb 2 (length (entries_of m.entries)) (omega (arith, size, facts.inner-least tall))) (all_cons _ _ (le-leb (length (entries_of m.entries)) 8 (omega (arith, size, facts.entries-most))) all_nil));
              lows_up = all_cons _ _ (ap (λ (es : List Entry). zero_first (lows es)) same_entries ∙ facts.first-open) (all_cons _ _ (ap (λ (es : List Entry). rising (rest (lows es))) same_entries ∙ facts.lows-rise) all_nil);
              lows_in = ap (λ (es : List Entry). every (within start_key end_key) (rest (lows es))) same_entries ∙ all-at _ inside 1;
              sizes = sizes-filled node (let z = k.least_p in let y = a.room.points refl in omega (arith, long, a.one)) (omega (arith, long, light-stores.points)) (omega (arith, i, light-stores.inserts)) (omega (arith, d, light-stores.deletes));
              leaf = rw deep;
              agree = refl;
              low = omega arith;
              blocks = every-make _ (entries_of m.entries) (λ e i. let z = facts.child-blocks e (subst (λ (es : List Entry). Memᴰ e es) same_entries i) in all_cons _ _ (le-leb 1 e.block z.0) (all_cons _ _ (lt-ltb e.block (blocks_of (length t)) (omega (arith, z.1, ap (λ (x : Node). x.room) a.loaded.is))) all_nil));
              own = refl;
              legal = legal-whole;
            }

        rooted : Sound (suc level) (store_of t) (here ∷ []) → Rooted (suc level) (store_of t) (here ∷ []) (Taken [] []) (level + 1) (store_of t₁) root says
        rooted s =
            let o = taken-open level (store_of t) root (Root root) start_key end_key first-end end-small s (blocks_of (length t)) n a.loaded.is ss ks ni nd m fitI fitD k in
            let g = going_start level start_key end_key (store_of t) [] o.0 (entries_of m.entries) (held_in m) says o.1 (λ z i. absurd (Memᴰ.not-nil i)) in
            let g' : Going level start_key end_key (store_of t) [] (store_of t root).entries (store_of t) [] o.0 (entries_of m.entries) (held_in m) says =
            subst (λ (es : List Entry). Going level start_key end_key (store_of t) [] es (store_of t) [] o.0 (entries_of m.entries) (held_in m) says) same_entries g
            in
            subst⁻¹ (λ (h : ℕ). Rooted (suc level) (store_of t) (here ∷ []) (Taken [] []) h (store_of t₁) root says) (add-one level)
            (rooted-one (suc level) (Taken [] []) (store_of t) root (store_of t₁) says
            (going_done level (store_of t) (store_of t) (store_of t₁) here (Root root) [] [] o.0 node says s (λ z i. absurd (Memᴰ.not-nil i)) g' (shape (opened level (store_of t) here s).inside) st.here (stored-else t t₁ root m st)))

        -- what light promises
        pub light-done : LightPost t t₂ ss ks bound
        light-done =
            record {
              sized = r.sized ∙ st.sized;
              header = subst (λ (l : ℕ). header_ok l (head_of t₂) ≡ true) st.sized r.ok;
              bound_is = r.bound_is;
              shaped = λ s. let u = shaped t s in
                  change-shaped t root level a.root_is a.level_is t₁ t₂ (none []) 0 (level + 1) root bound (store_of t₁) ss ks u (none_in t []) (omega arith) fitI fitD
                  (rooted (root-sound t root level a.root_is a.level_is u)) st.sized same_head (λ z d. refl) r;
              live_is = λ s. let u = shaped t s in
                  change-live t root level a.root_is a.level_is t₁ t₂ (none []) 0 (level + 1) root bound (store_of t₁) ss ks u (none_in t []) (omega arith) fitI fitD
                  (rooted (root-sound t root level a.root_is a.level_is u)) st.sized same_head (λ z d. refl) r;
              else = λ b z d. r.else b z ∙ st.else b (λ e. d (e ∙ a.root_is));
            }
