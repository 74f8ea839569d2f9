-- A node that may be worked on may still be after each step, and a round's post-condition is made of these.
-- Assumes nothing.
use mathlib.Core.Path.{◌≡◌, refl, sym, ap, ◌∙◌, subst, subst⁻¹}
use mathlib.Core.Logic.{◌⊎◌, inl, inr, ⊎_elim}
use mathlib.Core.Bool.{true, false}
use mathlib.Core.List.{List, ◌∷◌, ◌++◌, Memᴰ}
use Prim.Native.Nat.{ℕ, suc, ◌≤◌, ◌<◌}
use native.Mathlib.Omega.{arith}
use lib.ListN.{length, take, drop}
use Rattle.octets.proofs.Lists.{mem-more, mem-less}
use Rattle.block.specs.declared.Entry.{Entry}
use Rattle.block.specs.Table.{blocks_of}
use Rattle.block.specs.Node.{store_of}
use Rattle.block.specs.NodeRules.{zero_first, lows}
use Rattle.buffer.specs.Buffer.{Ordered, OrderedKeys}
use Rattle.buffer.specs.declared.SpotBuffer.{SpotBuffer}
use Rattle.buffer.specs.declared.KeyBuffer.{KeyBuffer}
use Rattle.update_theory.proofs.Spare.{lows-same}
use Rattle.node.specs.Memory.{entries_of, EntriesFit, EntryFits, EntryAt, Storable}
use Rattle.node.specs.declared.Entries.{Entries}
use Rattle.node.specs.declared.NodeValue.{NodeValue}
use Rattle.update_theory.specs.Held.{Held}
use Rattle.edit.specs.Edits.{Edited}
use Rattle.journal.specs.Journal.{Kept}
use Rattle.journal.proofs.Kept.{undoable-kept}
use Rattle.fill.specs.declared.Round.{Round}
use Rattle.fill.specs.declared.Failure.{Failure}
use Rattle.fill.specs.declared.Failure.TheVariants.{NoRoom}
use Rattle.fill.specs.Filling.{Inside, Workable, RoundDone, RoundFailed, OnLoop, GoesOn, Replaced, Lifted}

-- one entry for another: what is there then
one_more : (us vs : List Entry) (e e' : Entry) {d : Entry} → Memᴰ d (us ++ (e' ∷ vs)) → (d ≡ e') ⊎ Memᴰ d (us ++ (e ∷ vs))
one_more us vs e e' i = ⊎_elim inl (λ j. inr (mem-more us e vs j)) (mem-less us e' vs i)

-- the table changed below the node
pub work-kept : {t s map t' s' map' : List ℕ} {n : NodeValue} {level : ℕ} → Workable t s map n level → Kept t s map t' s' map' → Workable t' s' map' n level
work-kept w k =
    record {
      undoable = undoable-kept k w.undoable;
      tidy = w.tidy;
      entries = w.entries;
      inside = λ e i. let z = w.inside e i in (z.0, rw k.table z.1);
      level = w.level;
      deep = w.deep;
      points = w.points;
      inserts = w.inserts;
      deletes = w.deletes;
    }

-- with the sizes right it may be stored
pub work-stores : {t s map : List ℕ} {n : NodeValue} {level : ℕ} → Workable t s map n level → zero_first (lows (entries_of n.entries)) ≡ true → n.inserts.n ≤ 64 → n.deletes.n ≤ 16 → Storable n
work-stores w first few_i few_d =
    record { level = let z = w.level in omega (arith, w.deep); entries = w.entries; first = first; points = w.points; inserts = few_i; deletes = few_d }

-- the buffers changed at the end of a round
pub work-lifted : {t s map : List ℕ} {n : NodeValue} {r : Round} {level : ℕ} → Workable t s map n level → n.points.n < 32 → Lifted n r → Workable t s map r.node level
work-lifted {t} w h l =
    record {
      undoable = w.undoable;
      tidy = l.tidy;
      entries = subst⁻¹ EntriesFit l.entries w.entries;
      inside = subst⁻¹ (λ (es : Entries). Inside t (entries_of es)) l.entries w.inside;
      level = l.level ∙ w.level;
      deep = w.deep;
      points = omega (arith, l.points);
      inserts = omega (arith, l.inserts, w.inserts);
      deletes = omega (arith, l.deletes, w.deletes);
    }

-- a child's entry changed, and its block stayed
pub work-replaced : {t s map t' s' map' : List ℕ} {n r : NodeValue} {level c : ℕ} {e e' : Entry} → Workable t s map n level → Kept t s map t' s' map'
    → EntryAt (entries_of n.entries) c e → e'.block ≡ e.block → (EntryFits e → EntryFits e') → Replaced n c e' r → Workable t' s' map' r level
work-replaced {t} {t' = t'} {n = n} {r = r} {c = c} {e = e} {e' = e'} w k a b f p =
    record {
      undoable = undoable-kept k w.undoable;
      tidy = record { points = subst⁻¹ Ordered p.points w.tidy.points; inserts = subst⁻¹ Ordered p.inserts w.tidy.inserts; deletes = subst⁻¹ OrderedKeys p.deletes w.tidy.deletes };
      entries = record { few = omega (arith, p.count, w.entries.few); each = λ d i. ⊎_elim (λ (q : d ≡ e'). subst⁻¹ EntryFits q (f (w.entries.each e a.there))) (w.entries.each d) (member d i) };
      inside = λ d i. ⊎_elim (λ (q : d ≡ e'). subst⁻¹ (λ (v : ℕ). (1 ≤ v) × (v < blocks_of (length t'))) (ap (λ (x : Entry). x.block) q ∙ b) (there e a.there)) (there d) (member d i);
      level = p.level ∙ w.level;
      deep = w.deep;
      points = let z : r.points.n ≡ n.points.n = ap (λ (x : SpotBuffer). x.n) p.points in omega (arith, w.points);
      inserts = let z : r.inserts.n ≡ n.inserts.n = ap (λ (x : SpotBuffer). x.n) p.inserts in omega (arith, w.inserts);
      deletes = let z : r.deletes.n ≡ n.deletes.n = ap (λ (x : KeyBuffer). x.n) p.deletes in omega (arith, w.deletes);
    }
  where
    member : (d : Entry) → Memᴰ d (entries_of r.entries) → (d ≡ e') ⊎ Memᴰ d (entries_of n.entries)
    member d i =
        ⊎_elim inl (λ j. inr (subst⁻¹ (λ (q : List Entry). Memᴰ d q) a.split j))
        (one_more (take c (entries_of n.entries)) (drop (suc c) (entries_of n.entries)) e e' (subst (λ (q : List Entry). Memᴰ d q) p.entries i))

    there : (d : Entry) → Memᴰ d (entries_of n.entries) → (1 ≤ d.block) × (d.block < blocks_of (length t'))
    there d i = let z = w.inside d i in (z.0, rw k.table z.1)

-- and the lows stayed
pub replaced-lows : {n r : NodeValue} {c : ℕ} {e e' : Entry} → EntryAt (entries_of n.entries) c e → e'.low ≡ e.low → Replaced n c e' r → lows (entries_of r.entries) ≡ lows (entries_of n.entries)
replaced-lows {n} {c = c} {e = e} {e' = e'} a l p =
    ap lows p.entries ∙ lows-same (take c (entries_of n.entries)) e e' (drop (suc c) (entries_of n.entries)) l ∙ sym (ap lows a.split)

-- ---- the post-condition of a round

-- it failed
pub round-failed : {t s map t' s' map' : List ℕ} {n : NodeValue} {level : ℕ} {e : Failure} → Workable t s map n level → Kept t s map t' s' map'
    → OnLoop (store_of t) level n (λ ni nd lo hi x es₀ f. e ≡ NoRoom) → RoundFailed t t' s' map' level n e
round-failed w k v = record { undoable = undoable-kept k w.undoable; whole = v }

-- the store stayed
pub round-lifted : {t s map : List ℕ} {n : NodeValue} {r : Round} {level : ℕ} → Workable t s map n level → n.points.n < 32 → Lifted n r
    → GoesOn (store_of t) (store_of t) level n r.node r.over → RoundDone t t s map level n r
round-lifted w h l g =
    record {
      works = work-lifted w h l;
      inserts = l.inserts;
      deletes = l.deletes;
      count = ap (λ (es : Entries). es.n) l.entries;
      same_lows = ap (λ (es : Entries). lows (entries_of es)) l.entries;
      goes_on = g;
    }

-- it was the last
pub round-ended : {t s map : List ℕ} {n m : NodeValue} {b : Held} {level : ℕ} → Workable t s map n level → n.points.n < 32 → Edited n m b n.points.n n.inserts.n 0
    → GoesOn (store_of t) (store_of t) level n m true → RoundDone t t s map level n (record { over = true; node = m })
round-ended {m = m} w h l g =
    record {
      works = work-lifted {r = record { over = false; node = m }} w h
          (record { over = refl; tidy = l.tidy; entries = l.entries; level = l.level; points = omega (arith, l.points); inserts = l.inserts; deletes = omega (arith, l.deletes) });
      inserts = l.inserts;
      deletes = omega (arith, l.deletes);
      count = ap (λ (es : Entries). es.n) l.entries;
      same_lows = ap (λ (es : Entries). lows (entries_of es)) l.entries;
      goes_on = g;
    }

-- a child's top was taken
pub round-taken : {t s map t' s' map' : List ℕ} {n m : NodeValue} {r : Round} {level c : ℕ} {e e' : Entry} → Workable t s map n level → n.points.n < 32 → Kept t s map t' s' map'
    → EntryAt (entries_of n.entries) c e → e'.block ≡ e.block → e'.low ≡ e.low → (EntryFits e → EntryFits e') → Replaced n c e' m → Lifted m r
    → GoesOn (store_of t) (store_of t') level n r.node r.over → RoundDone t t' s' map' level n r
round-taken {n = n} {m = m} w h k a b l f p u g =
    let q = work-replaced w k a b f p in
    record {
      works = work-lifted q (let z : m.points.n ≡ n.points.n = ap (λ (x : SpotBuffer). x.n) p.points in omega arith) u;
      inserts = let z : m.inserts.n ≡ n.inserts.n = ap (λ (x : SpotBuffer). x.n) p.inserts in omega (arith, u.inserts);
      deletes = let z : m.deletes.n ≡ n.deletes.n = ap (λ (x : KeyBuffer). x.n) p.deletes in omega (arith, u.deletes);
      count = ap (λ (es : Entries). es.n) u.entries ∙ p.count;
      same_lows = ap (λ (es : Entries). lows (entries_of es)) u.entries ∙ replaced-lows a l p;
      goes_on = g;
    }
