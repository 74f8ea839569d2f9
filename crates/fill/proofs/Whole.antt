-- The loop of fill from its start to its end, and take_top's post-condition from what its calls give.
-- Assumes nothing.
use mathlib.Core.Path.{◌≡◌, refl, sym, ap, ◌∙◌, subst, subst⁻¹}
use mathlib.Core.Logic.{inl}
use mathlib.Core.Bool.{true, false, cond, true≢false}
use mathlib.Core.List.Memᴰ
use mathlib.Core.List.{List, [], ◌∷◌, Memᴰ}
use mathlib.Core.Option.{none, some}
use Prim.Native.Nat.{ℕ, suc, ◌≤◌, ◌<◌}
use native.Mathlib.Omega.{arith}
use lib.ListN.{length, length-take}
use lib.Dec.{eqb}
use borrow.Author.Tests.{eqb-true, leb-true, ltb-true}
use Rattle.octets.proofs.Tests.{all-at, every-mem}
use Rattle.spot.specs.declared.Spot.{Spot}
use Rattle.spot.specs.Keys.{rank_key}
use Rattle.spot.specs.Spots.{keys, find}
use Rattle.spot.specs.Sorted.{only, but}
use Rattle.spot.proofs.Buffers.{find-mem}
use Rattle.block.specs.declared.Entry.{Entry}
use Rattle.block.specs.declared.Asked.TheVariants.{Child}
use Rattle.block.specs.Table.{blocks_of, block_ok}
use Rattle.block.specs.Node.{Node, store_of}
use Rattle.block.specs.NodeRules.{node_ok, child_blocks_ok, zero_first, lows, agrees}
use Rattle.buffer.specs.Buffer.{held, named, Highest}
use Rattle.tree.specs.Part.{Legal}
use Rattle.tree.specs.Lookup.{lookup}
use Rattle.tree.proofs.Legal.{legal-full}
use Rattle.update_theory.specs.Held.{Held}
use Rattle.update_theory.specs.Change.{part, Sound, Changed}
use Rattle.update_theory.specs.Spare.{Taken}
use Rattle.update_theory.specs.Open.{Open}
use Rattle.update_theory.specs.Rounds.{Loop, FilledUp}
use Rattle.update_theory.proofs.Going.{going_start}
use Rattle.update_theory.proofs.Loose.{opened}
use Rattle.update_theory.proofs.Taken.{after, take-finish, take_open, top-is, top-found}
use Rattle.node.specs.Memory.{entries_of, node_in, Storable, Stored, Loaded}
use Rattle.node.specs.declared.Entries.{Entries}
use Rattle.node.specs.declared.NodeValue.{NodeValue}
use Rattle.node.proofs.Laws.{stored-else}
use Rattle.edit.specs.Edits.{held_in, Edited, EntryFor}
use Rattle.journal.specs.Journal.{Undoable, Kept}
use Rattle.journal.proofs.Kept.{undoable-kept, kept_refl, kept_trans}
use Rattle.fill.specs.declared.Failure.{Failure}
use Rattle.fill.specs.declared.Failure.TheVariants.{NoRoom}
use Rattle.fill.specs.declared.Round.{Round}
use Rattle.fill.specs.Filling.{Workable, OnNode, FillDone, FillFailed, FilledBy, RoundDone, RoundFailed, OnChild, TakeDone, TakeFailed}
use Rattle.fill.proofs.Works.{work-stores}

-- ---- fill

-- where the loop stands: the call began with n₀ over the table t₀
pub record Filling (t₀ s₀ map₀ : List ℕ) (depth : ℕ) (n₀ : NodeValue) (t s map : List ℕ) (n : NodeValue) : Type 0 where
  pub kept : Kept t₀ s₀ map₀ t s map
  pub works : Workable t s map n depth
  pub few_i : n.inserts.n ≤ n₀.inserts.n
  pub few_d : n.deletes.n ≤ n₀.deletes.n
  pub count : n.entries.n ≡ n₀.entries.n
  pub same_lows : lows (entries_of n.entries) ≡ lows (entries_of n₀.entries)
  pub goes : OnNode t₀ depth n₀ (λ lo hi f.
      (r : ℕ) × Loop n₀.inserts.n n₀.deletes.n depth lo hi (store_of t₀) (entries_of n₀.entries) (store_of t) r (entries_of n.entries) (held_in n) f)

pub fill_start : {t s map : List ℕ} {level : ℕ} {n : NodeValue} → Workable t s map n level → Filling t s map level n t s map n
fill_start {t} {s} {map} {level} {n} w =
    record {
      kept = kept_refl;
      works = w;
      few_i = omega arith;
      few_d = omega arith;
      count = refl;
      same_lows = refl;
      goes = λ lo hi rank f legal z o. (
        rank,
        record {
          going = going_start level lo hi (store_of t) [] rank (entries_of n.entries) (held_in n) f o (λ k i. absurd (Memᴰ.not-nil i));
          same_lows = refl;
          same_blocks = refl;
          few_p = let q = length-take n.points.n n.points.spots in omega (arith, w.points);
          few_i = omega (arith, length-take n.inserts.n n.inserts.spots);
          few_d = omega (arith, length-take n.deletes.n n.deletes.keys);
        },
      );
    }

module _ {t₀ s₀ map₀ : List ℕ} {level : ℕ} {n₀ : NodeValue} {t s map : List ℕ} {n : NodeValue} (p : Filling t₀ s₀ map₀ level n₀ t s map n) where
  -- the post-condition, whatever ends the loop
  pub fill-ends : OnNode t₀ level n₀ (λ lo hi f. FilledUp (entries_of n.entries) (held_in n)) → FillDone t₀ t s map level n₀ n
  fill-ends h =
      record {
        works = p.works;
        inserts = p.few_i;
        deletes = p.few_d;
        count = p.count;
        same_lows = p.same_lows;
        done = λ lo hi rank f legal z o. let q = p.goes lo hi rank f legal z o in record { rank = q.0; loop = q.1; full = h lo hi rank f legal z o };
      }

  -- P is full
  pub fill-full : 32 ≤ length (held n.points) → FillDone t₀ t s map level n₀ n
  fill-full h = fill-ends (λ lo hi rank f legal z o. inl h)

  -- it gave up
  pub fill-stops : FillFailed t₀ t s map level n₀ NoRoom
  fill-stops = record { undoable = p.works.undoable; whole = λ lo hi rank f legal z o. refl }

module _ {t₀ s₀ map₀ : List ℕ} {level : ℕ} {n₀ : NodeValue} {t s map : List ℕ} {n : NodeValue} (p : Filling t₀ s₀ map₀ level n₀ t s map n) {t' s' map' : List ℕ} where
  -- a round that fails
  pub fill_fails : {e : Failure} → RoundFailed t t' s' map' level n e → FillFailed t₀ t' s' map' level n₀ e
  fill_fails q =
      record {
        undoable = q.undoable;
        whole = λ lo hi rank f legal z o. let a = p.goes lo hi rank f legal z o in q.whole n₀.inserts.n n₀.deletes.n lo hi a.0 (store_of t₀) (entries_of n₀.entries) f legal z a.1;
      }

  module _ {r : Round} (k : Kept t s map t' s' map') (q : RoundDone t t' s' map' level n r) where
    -- a round more
    pub fill-turn : Filling t₀ s₀ map₀ level n₀ t' s' map' r.node
    fill-turn =
        record {
          kept = kept_trans p.kept k;
          works = q.works;
          few_i = omega (arith, p.few_i, q.inserts);
          few_d = omega (arith, p.few_d, q.deletes);
          count = q.count ∙ p.count;
          same_lows = q.same_lows ∙ p.same_lows;
          goes = λ lo hi rank f legal z o.
              let a = p.goes lo hi rank f legal z o in
              let b = q.goes_on n₀.inserts.n n₀.deletes.n lo hi a.0 (store_of t₀) (entries_of n₀.entries) f legal z a.1 in
              (b.0, b.1);
        }

    -- one that is the last
    pub fill-over : r.over ≡ true → FillDone t₀ t' s' map' level n₀ r.node
    fill-over over =
        fill-ends fill-turn
        (λ lo hi rank f legal z o. let a = p.goes lo hi rank f legal z o in
        (q.goes_on n₀.inserts.n n₀.deletes.n lo hi a.0 (store_of t₀) (entries_of n₀.entries) f legal z a.1).2 over)

-- ---- take_top

-- nothing was taken
pub take-fails : {t s map t' s' map' : List ℕ} {level : ℕ} {e : Entry} {x : Failure} → Undoable t s map → Kept t s map t' s' map'
    → OnChild t level e (λ lo hi. x ≡ NoRoom) → TakeFailed t t' s' map' level e x
take-fails u k w = record { undoable = undoable-kept k u; sized = k.table; whole = w }

-- a block that breaks a rule is not that of a sound part
pub part-valid : (t : List ℕ) {level : ℕ} {e : Entry} → node_ok level (Child e) (store_of t e.block) ≡ false → {x : Failure} → OnChild t level e (λ lo hi. x ≡ NoRoom)
part-valid t {level} {e} refused lo hi order legal low sound = absurd (true≢false (sym (opened level (store_of t) (part e.block (Child e) lo hi) sound).ok ∙ refused))

-- the node of a block that was tested may be worked on
pub loaded-works : {t s map : List ℕ} {level : ℕ} (e : Entry) {n m : NodeValue} {b : Held} → Undoable t s map → level ≤ 6 → node_ok level (Child e) (store_of t e.block) ≡ true
    → Loaded t e.block n → Edited n m b n.points.n n.inserts.n n.deletes.n → Workable t s map m level
unfolding node_ok child_blocks_ok block_ok
loaded-works {t} {level = level} e {n = n} {m = m} u deep ok l d =
    let own : node_ok level (Child e) (node_in (blocks_of (length t)) n) ≡ true = ap (node_ok level (Child e)) l.is ∙ ok in
    record {
      undoable = u;
      tidy = d.tidy;
      entries = rw d.entries l.storable.entries;
      inside = λ x i.
          let z = every-mem _ (entries_of n.entries) (all-at _ own 11) (subst (λ (es : Entries). Memᴰ x (entries_of es)) d.entries i) in
          (leb-true 1 x.block (all-at _ z 0), ltb-true x.block (blocks_of (length t)) (all-at _ z 1));
      level = d.level ∙ eqb-true n.level level (all-at _ own 1);
      deep = deep;
      points = omega (arith, d.points, l.storable.points);
      inserts = omega (arith, d.inserts, l.storable.inserts);
      deletes = omega (arith, d.deletes, l.storable.deletes);
    }

-- its first entry's low is 0
edited-zero : {t : List ℕ} {b : ℕ} {n m : NodeValue} {h : Held} {i j k : ℕ} → Loaded t b n → Edited n m h i j k → zero_first (lows (entries_of m.entries)) ≡ true
edited-zero l d = ap zero_first (ap (λ (es : Entries). lows (entries_of es)) d.entries) ∙ l.storable.first

-- and what fill makes of it may be stored
pub filled-stores : {t t' s' map' : List ℕ} {level : ℕ} {b : ℕ} {n m : NodeValue} {h : Held} {r : NodeValue} → Loaded t b n → Edited n m h n.points.n n.inserts.n n.deletes.n
    → FillDone t t' s' map' level m r → Storable r
filled-stores l d p =
    work-stores p.works (ap zero_first p.same_lows ∙ edited-zero l d) (omega (arith, p.inserts, d.inserts, l.storable.inserts)) (omega (arith, p.deletes, d.deletes, l.storable.deletes))

-- the top is left out of the loaded node, which becomes m
module _ {t : List ℕ} {level : ℕ} {e : Entry} {spot : Spot} {n m : NodeValue} (l : Loaded t e.block n) (high : Highest (held n.points) spot)
    (d : Edited n m (record { points = only (but spot.key) (held n.points); inserts = held n.inserts; deletes = named n.deletes }) n.points.n n.inserts.n n.deletes.n) where
  module _ (lo hi : ℕ) (order : lo ≤ hi) (legal : Legal lo hi) (low : e.low ≤ lo) (sound : Sound (suc level) (store_of t) (part e.block (Child e) lo hi ∷ [])) where
    top : (e.size ≡ 0 → ⊥) × (spot.key ≡ e.top)
    top =
        top-is level (store_of t) (part e.block (Child e) lo hi) e refl (legal-full lo hi legal) sound spot.key
        (subst (λ (v : Node). Memᴰ spot.key (keys v.points) × ((k : ℕ) → Memᴰ k (keys v.points) → rank_key k ≤ rank_key spot.key)) l.is (find-mem spot.key (held n.points) high.there, high.most))

    live : lookup (suc level) (store_of t) e.top (part e.block (Child e) lo hi) ≡ some spot.track
    live =
        top-found level (store_of t) (part e.block (Child e) lo hi) e refl (legal-full lo hi legal) sound spot.track
        (subst (λ (v : Node). find e.top v.points ≡ some spot.track) l.is (ap (λ (j : ℕ). find j (held n.points)) (sym top.1) ∙ high.there))

    open-part : (rank : ℕ) × Open level (store_of t) lo hi rank (entries_of m.entries) (held_in m) (λ j. cond (eqb j e.top) none (lookup (suc level) (store_of t) j (part e.block (Child e) lo hi)))
    open-part =
        let o = take_open level (store_of t) (part e.block (Child e) lo hi) e refl (legal-full lo hi legal) sound order top.0 in
        let o₁ = subst⁻¹ (λ (v : Node). Open level (store_of t) lo hi o.0 v.entries (record { points = only (but e.top) v.points; inserts = v.inserts; deletes = v.deletes }) (λ j. cond (eqb j e.top) none (lookup (suc level) (store_of t) j (part e.block (Child e) lo hi)))) l.is o.1 in
        let same : held_in m ≡ record { points = only (but e.top) (held n.points); inserts = held n.inserts; deletes = named n.deletes } =
        d.holds ∙ ap (λ (j : ℕ). record { points = only (but j) (held n.points); inserts = held n.inserts; deletes = named n.deletes }) top.1
        in (
          o.0,
          subst⁻¹ (λ (es : Entries). Open level (store_of t) lo hi o.0 (entries_of es) (held_in m) (λ j. cond (eqb j e.top) none (lookup (suc level) (store_of t) j (part e.block (Child e) lo hi)))) d.entries
              (subst⁻¹ (λ (b : Held). Open level (store_of t) lo hi o.0 (entries_of n.entries) b (λ j. cond (eqb j e.top) none (lookup (suc level) (store_of t) j (part e.block (Child e) lo hi)))) same o₁),
        )

  -- fill finds no block that breaks a rule
  pub fill-whole : {t' s' map' : List ℕ} {x : Failure} → FillFailed t t' s' map' level m x → OnChild t level e (λ lo hi. x ≡ NoRoom)
  fill-whole p lo hi order legal low sound = let o = open-part lo hi order legal low sound in p.whole lo hi o.0 _ legal (edited-zero l d) o.1

  -- and what it fills to r over the table t' is stored to t''
  module _ {s map t' s' map' t'' s'' map'' : List ℕ} {e' : Entry} {r : NodeValue} (u : Undoable t s map) (inside : e.block < blocks_of (length t))
      (ok : node_ok level (Child e) (store_of t e.block) ≡ true) (p : FillDone t t' s' map' level m r) (k : Kept t s map t' s' map') (k' : Kept t' s' map' t'' s'' map'')
      (st : Stored t' t'' e.block r) (made : EntryFor e.block e.low r e') (long_i : n.inserts.n ≤ length (held n.inserts))
      (long_d : n.deletes.n ≤ length (named n.deletes)) where
    module _ (lo hi : ℕ) (order : lo ≤ hi) (legal : Legal lo hi) (low : e.low ≤ lo) (sound : Sound (suc level) (store_of t) (part e.block (Child e) lo hi ∷ [])) where
      filled : FilledBy (store_of t) (store_of t') level m r lo hi (λ j. cond (eqb j e.top) none (lookup (suc level) (store_of t) j (part e.block (Child e) lo hi)))
      filled = let o = open-part lo hi order legal low sound in p.done lo hi o.0 _ legal (edited-zero l d) o.1

      -- the node that is stored
      is-node : node_in (blocks_of (length t)) r ≡ after (store_of t e.block) (entries_of r.entries) (held_in r)
      unfolding node_ok
      is-node =
          let own : node_ok level (Child e) (node_in (blocks_of (length t)) n) ≡ true = ap (node_ok level (Child e)) l.is ∙ ok in
          let levels : r.level ≡ n.level = p.works.level ∙ sym (eqb-true n.level level (all-at _ own 1)) in
          ap (λ (v : ℕ). after (node_in (blocks_of (length t)) (record { level = v; entries = n.entries; points = n.points; inserts = n.inserts; deletes = n.deletes })) (entries_of r.entries) (held_in r)) levels
          ∙ ap (λ (v : Node). after v (entries_of r.entries) (held_in r)) l.is

      changed : Changed (suc level) (Taken [] []) (store_of t) (part e.block (Child e) lo hi ∷ []) (store_of t'') (part e.block (Child e') lo hi ∷ []) (λ j. cond (eqb j e.top) none (lookup (suc level) (store_of t) j (part e.block (Child e) lo hi)))
      changed =
          take-finish m.inserts.n m.deletes.n level (store_of t) (store_of t') (store_of t'') (part e.block (Child e) lo hi) e e' refl made.block made.low low legal sound
          (subst (λ (v : Node). m.inserts.n ≤ length v.inserts) l.is (omega (arith, d.inserts, long_i)))
          (subst (λ (v : Node). m.deletes.n ≤ length v.deletes) l.is (omega (arith, d.deletes, long_d)))
          (subst (λ (v : Node). length v.inserts ≤ 64) l.is (let z = length-take n.inserts.n n.inserts.spots in omega (arith, l.storable.inserts)))
          (subst (λ (v : Node). length v.deletes ≤ 16) l.is (let z = length-take n.deletes.n n.deletes.keys in omega (arith, l.storable.deletes)))
          filled.rank (entries_of r.entries) (held_in r) _
          (subst (λ (es : List Entry). Loop m.inserts.n m.deletes.n level lo hi (store_of t) es (store_of t') filled.rank (entries_of r.entries) (held_in r) (λ j. cond (eqb j e.top) none (lookup (suc level) (store_of t) j (part e.block (Child e) lo hi))))
          (ap entries_of d.entries ∙ ap (λ (v : Node). v.entries) l.is) filled.loop)
          filled.full
          (subst (λ (v : Node). agrees (Child e') v ≡ true) is-node (made.agree (blocks_of (length t))))
          (st.here ∙ ap (λ (j : ℕ). node_in (blocks_of j) r) k.table ∙ is-node)
          (stored-else t' t'' e.block r st)

    pub take_done : TakeDone t t'' s'' map'' level e (record { entry = e'; spot = spot })
    take_done =
        record {
          undoable = undoable-kept (kept_trans k k') u;
          sized = k'.table ∙ k.table;
          block = made.block;
          low = made.low;
          fits = λ q. made.fits (omega (arith, u.most));
          done = λ lo hi order legal low sound. record { changed = changed lo hi order legal low sound; key = (top lo hi order legal low sound).1; live = live lo hi order legal low sound };
        }
