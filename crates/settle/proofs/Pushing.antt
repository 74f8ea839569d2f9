-- A batch was handed down: the child became one entry or two, and the node in memory stands over them.
-- Assumes nothing.
use mathlib.Core.Path.{◌≡◌, refl, ap, sym, ◌∙◌, subst, subst⁻¹}
use mathlib.Core.Logic.{◌⊎◌, inl, inr, ⊎_elim}
use mathlib.Core.Bool.{Bool, true, false, not, cond}
use mathlib.Core.List.Memᴰ
use mathlib.Core.List.{List, [], ◌∷◌, ◌++◌, Memᴰ}
use Rattle.std.specs.Prelude.{Some, None, IfSome, is_some, unwrap_or, option_to_list}
use Rattle.std.specs.Prelude as maybe
use mathlib.Core.Option.{Option}
use Prim.Native.Nat.{ℕ, suc, ◌-◌, ◌≤◌, ◌<◌}
use native.Mathlib.Omega.{arith}
use lib.ListN.{length, take, drop, length-append}
use Rattle.octets.proofs.Tests.{keep-mem}
use Rattle.octets.specs.Sets.{Apart}
use Rattle.octets.proofs.Lists.{mem-more, mem-three}
use Rattle.spot.specs.Keys.{within}
use Rattle.spot.specs.Spots.{keys}
use Rattle.spot.specs.declared.Spot.{Spot}
use Rattle.spot.proofs.Buffers.{only-mem}
use Rattle.spot.proofs.Places.{within-yes}
use Rattle.block.specs.declared.Entry.{Entry}
use Rattle.block.specs.declared.Asked.TheVariants.{Child}
use Rattle.block.specs.Table.{blocks_of}
use Rattle.block.specs.Node.{Store, store_of}
use Rattle.block.specs.NodeRules.{zero_first, lows}
use Rattle.buffer.specs.Buffer.{held, named, Ordered, OrderedKeys}
use Rattle.buffer.specs.declared.SpotBuffer.{SpotBuffer}
use Rattle.buffer.specs.declared.KeyBuffer.{KeyBuffer}
use Rattle.tree.specs.Part.{Part, next_low, parts, Steps}
use Rattle.tree.specs.Lookup.{lookup}
use Rattle.tree.proofs.Ranges.{part-bounds}
use Rattle.tree.proofs.Legal.{legal-full, legal-part}
use Rattle.update_theory.specs.Held.{Held}
use Rattle.update_theory.specs.Change.{part, reaches, Sound, Changed}
use Rattle.update_theory.specs.Spare.{Taken, Within}
use Rattle.update_theory.specs.Open.{Open}
use Rattle.update_theory.specs.Going.{Going}
use Rattle.update_theory.proofs.Spare.{lows-same}
use Rattle.update_theory.proofs.Spread.{start, first-low, child_at, child-in}
use Rattle.update_theory.proofs.Cut.{open-push-I, open-push-D}
use Rattle.update_theory.proofs.Going.{going_start, going-child, going-fresh, going_on}
use Rattle.node.specs.Memory.{entries_of, EntryFits, EntryAt}
use Rattle.node.specs.declared.Entries.{Entries}
use Rattle.node.specs.declared.NodeValue.{NodeValue}
use Rattle.edit.specs.Edits.{held_in}
use Rattle.journal.specs.Journal.{Kept}
use Rattle.journal.proofs.Kept.{undoable-kept}
use Rattle.fill.specs.Filling.{Workable}
use Rattle.fill.proofs.Turns.{deeper}
use Rattle.spare.specs.declared.Spare.{Spare}
use Rattle.spare.specs.Spares.{spare_of}
use Rattle.spare.proofs.Taking.{spare-less}
use Rattle.batch.specs.declared.Picked.{Picked}
use Rattle.batch.specs.Batches.{batch_says, Parted, by_inserts, by_deletes, Picking, PutBack}
use Rattle.batch.proofs.Opened.{child-range}
use Rattle.settle.specs.declared.Settled.{Settled}
use Rattle.fill.specs.declared.Failure.{Failure}
use Rattle.fill.specs.declared.Failure.TheVariants.{NoRoom}
use Rattle.settle.specs.Settling.{became_as, LowsFit, Opened, WorkedTo, Pushable, Roomless, WorkDone, SettledTo, WhereSound, SettleDone, SettleFailed}
use Rattle.settle.proofs.Lows.{lows-as, zero-put, lows-both}

-- ---- nothing was handed down

-- nothing is too large
pub push-none : {t s map : List ℕ} {level : ℕ} {n : NodeValue} {spare : Spare} {left : ℕ} → Pushable t s map n level spare left
    → WorkDone t t s map level n spare left (record { node = n; left = left })
push-none {t} {level = level} {n = n} {spare = spare} {left = left} w =
    record {
      works = w.works;
      fewer = omega arith;
      zero = w.zero;
      more = omega arith;
      most_i = omega arith;
      most_d = omega arith;
      leaf = λ z. refl;
      done = λ lo hi f o.
          record {
            rank = o.rank;
            going = going_start level lo hi (store_of t) (spare_of spare left) o.rank (entries_of n.entries) (held_in n) f o.node o.free;
            lows_fit = o.lows_fit;
          };
    }

-- ---- one entry became one or two

-- the second, where there is one
pub others : maybe.Option Entry → List Entry
others None = []
others (Some g) = g ∷ []

pub parts-are : (o : maybe.Option Entry) (f : Entry) → f ∷ option_to_list o ≡ cond (is_some o) (f ∷ unwrap_or o f ∷ []) (f ∷ [])
parts-are None f = refl
parts-are (Some s) f = refl

others-are : (o : maybe.Option Entry) (f : Entry) → cond (is_some o) (f ∷ unwrap_or o f ∷ []) (f ∷ []) ≡ f ∷ others o
unfolding others
others-are None f = refl
others-are (Some g) f = refl

others-each : (P : Entry → Type 0) (o : maybe.Option Entry) → IfSome o P → (d : Entry) → Memᴰ d (others o) → P d
unfolding others
others-each P None h d i = absurd (Memᴰ.not-nil i)
others-each P (Some g) h d i = ⊎_elim (λ (q : d ≡ g). subst⁻¹ P q h) (λ z. absurd (Memᴰ.not-nil z)) (Memᴰ.cases_cons i)

-- no entry of the others went
more-put : (us vs fs : List Entry) (e f : Entry) → length (us ++ (e ∷ vs)) ≤ length (us ++ ((f ∷ fs) ++ vs))
more-put us vs fs e f = omega (arith, length-append us (e ∷ vs), length-append us ((f ∷ fs) ++ vs), length-append (f ∷ fs) vs)

member-put : (us vs fs : List Entry) (e f : Entry) {d : Entry} → Memᴰ d (us ++ ((f ∷ fs) ++ vs)) → (d ≡ f) ⊎ (Memᴰ d fs ⊎ Memᴰ d (us ++ (e ∷ vs)))
member-put us vs fs e f i =
    ⊎_elim (λ j. ⊎_elim inl (λ k. inr (inl k)) (Memᴰ.cases_cons j)) (λ j. inr (inr (mem-more us e vs j))) (mem-three us (f ∷ fs) vs i)

steps-put : (o : maybe.Option Entry) (lo hi : ℕ) (f : Entry) → lo ≤ hi → IfSome o (λ d. (lo < d.low) × (d.low < hi)) → Steps lo hi (f ∷ others o)
unfolding others
steps-put None lo hi f order a = (order, tt)
steps-put (Some g) lo hi f order a = (let y = a.0 in omega arith, (let y = a.1 in omega arith, tt))

-- the parts that the child became, by its entries
became-parts : (P : List Part → Type 0) (o : maybe.Option Entry) (lo hi block : ℕ) (e f : Entry) → f.block ≡ block → P (became_as block (Child e) lo hi f o) → P (parts lo hi (f ∷ others o))
unfolding others
became-parts P (Some g) lo hi block e f q h = subst⁻¹ (λ (v : ℕ). P (part v (Child f) lo g.low ∷ part g.block (Child g) g.low hi ∷ [])) q h
became-parts P None lo hi block e f q h = subst⁻¹ (λ (v : ℕ). P (part v (Child f) lo hi ∷ [])) q h

lows-put : (o : maybe.Option Entry) (lo hi : ℕ) (us vs : List Entry) (e f : Entry) → f.low ≡ e.low → IfSome o (λ g. (start lo us e.low < g.low) × (g.low < next_low vs hi))
    → lo ≤ start lo us e.low → next_low vs hi ≤ hi → LowsFit lo hi (us ++ (e ∷ vs)) → LowsFit lo hi (us ++ ((f ∷ others o) ++ vs))
unfolding others
lows-put (Some g) lo hi us vs e f h a x y z =
    let u = a.0 in
    let v = a.1 in
    lows-both lo hi us e f g vs h u v (within-yes lo hi g.low (omega arith) (omega arith)) z
lows-put None lo hi us vs e f h a x y z = lows-as lo hi (us ++ (e ∷ vs)) (us ++ ((f ∷ []) ++ vs)) (lows-same us e f vs h) z

-- ---- the node over them

-- the child of n at e is handed what was picked, over the level l
module _ (t : List ℕ) (l : ℕ) (n : NodeValue) (p : Picked) (e : Entry) (spare : Spare) (left : ℕ) (a : EntryAt (entries_of n.entries) p.child e) (pk : Picking n p)
    (lo hi : ℕ) (f : ℕ → Option ℕ) (o : Opened (store_of t) (suc l) lo hi n spare left f) where
  abbrev us : List Entry
  us = take p.child (entries_of n.entries)

  abbrev vs : List Entry
  vs = drop (suc p.child) (entries_of n.entries)

  abbrev x : Store
  x = store_of t

  abbrev S : List ℕ
  S = spare_of spare left

  abbrev c₀ : Part
  c₀ = child_at lo hi us vs e

  node : Open (suc l) x lo hi o.rank (us ++ (e ∷ vs)) (held_in n) f
  node = subst (λ (es : List Entry). Open (suc l) x lo hi o.rank es (held_in n) f) a.split o.node

  free : Apart S (reaches (suc l) x (parts lo hi (us ++ (e ∷ vs))))
  free = subst (λ (es : List Entry). Apart S (reaches (suc l) x (parts lo hi es))) a.split o.free

  lows_fit : LowsFit lo hi (us ++ (e ∷ vs))
  lows_fit = subst (λ (es : List Entry). LowsFit lo hi es) a.split o.lows_fit

  start-going : Going (suc l) lo hi x S (us ++ (e ∷ vs)) x S o.rank (us ++ (e ∷ vs)) (held_in n) f
  start-going = going_start (suc l) lo hi x S o.rank (us ++ (e ∷ vs)) (held_in n) f node free

  child : Sound (suc l) x (c₀ ∷ []) × Apart S (reaches (suc l) x (c₀ ∷ []))
  child = going-child (suc l) lo hi x S (us ++ (e ∷ vs)) x S o.rank us vs e (held_in n) f start-going

  bounds : (lo ≤ c₀.lo) × (c₀.hi ≤ hi) × (c₀.lo ≤ c₀.hi)
  bounds = part-bounds lo hi (us ++ (e ∷ vs)) node.steps (child-in lo hi us vs e)

  -- the batch lies in the child's range
  batch-I : (k : ℕ) → Memᴰ k (keys (held p.inserts)) → within c₀.lo c₀.hi k ≡ true
  batch-I k i = child-range lo hi (entries_of n.entries) k p.child e (pk.for_i k i) a (inside pk.parted)
    where
      inside : Parted n p → within lo hi k ≡ true
      inside (by_inserts stay h d b) = node.ready.in_i k (only-mem (λ j. not (stay j)) (held n.inserts) (subst (λ (ss : List Spot). Memᴰ k (keys ss)) h i)).0
      inside (by_deletes stay d h b) = absurd (Memᴰ.not-nil (subst (λ (ss : List Spot). Memᴰ k (keys ss)) h i))

  batch-D : (k : ℕ) → Memᴰ k (named p.deletes) → within c₀.lo c₀.hi k ≡ true
  batch-D k i = child-range lo hi (entries_of n.entries) k p.child e (pk.for_d k i) a (inside pk.parted)
    where
      inside : Parted n p → within lo hi k ≡ true
      inside (by_inserts stay h d b) = absurd (Memᴰ.not-nil (subst (λ (ks : List ℕ). Memᴰ k ks) d i))
      inside (by_deletes stay d h b) = node.ready.in_d k (keep-mem (λ j. not (stay j)) (named n.deletes) (subst (λ (ks : List ℕ). Memᴰ k ks) d i)).0

  -- it is sound, and what holds then holds of it
  at-child : (Then : ℕ → ℕ → Type 0) → WhereSound t l e.block (Child e) (held p.inserts) (named p.deletes) spare left Then → Then c₀.lo c₀.hi
  at-child Then h =
      h c₀.lo c₀.hi bounds.2 (legal-part lo hi c₀.lo c₀.hi o.legal bounds.0 bounds.1) (first-low lo us vs e lows_fit.zero) batch-I batch-D child.0 child.1

  pub child-whole : {q : Failure} → SettleFailed t l e.block (Child e) (held p.inserts) (named p.deletes) spare left q → q ≡ NoRoom
  child-whole {q} h = at-child (λ a b. q ≡ NoRoom) h.whole

  -- it was settled by the store y, and its entries put back in m
  module _ (t₁ : List ℕ) (m : NodeValue) (r : Settled) (sp : SettleDone t t₁ l e.block (Child e) (held p.inserts) (named p.deletes) spare left r)
      (same : held_in m ≡ held_in p.node)
      (back : entries_of m.entries ≡ take p.child (entries_of n.entries) ++ ((r.first ∷ others r.second) ++ drop (suc p.child) (entries_of n.entries))) where
    abbrev y : Store
    y = store_of t₁

    abbrev S' : List ℕ
    S' = spare_of spare r.left

    abbrev fs : List Entry
    fs = others r.second

    low : r.first.low ≡ e.low
    low = sp.low

    settled : SettledTo x y l e.block (Child e) c₀.lo c₀.hi (held p.inserts) (named p.deletes) spare left r
    settled = at-child (λ a b. SettledTo x y l e.block (Child e) a b (held p.inserts) (named p.deletes) spare left r) sp.done

    steps : Steps c₀.lo c₀.hi (r.first ∷ fs)
    steps = steps-put r.second c₀.lo c₀.hi r.first bounds.2 settled.apart

    -- what the batch says of a key, where d is found in the child
    abbrev Word : (ℕ → Option ℕ → Option ℕ) → Type 0
    Word word = Changed (suc l) (Taken S S') x (c₀ ∷ []) y (parts c₀.lo c₀.hi (r.first ∷ fs)) (λ k. word k (lookup (suc l) x k c₀))

    changed : Word (λ k d. batch_says (held p.inserts) (named p.deletes) k d)
    changed =
        became-parts (λ (ps : List Part). Changed (suc l) (Taken S S') x (c₀ ∷ []) y ps (λ k. batch_says (held p.inserts) (named p.deletes) k (lookup (suc l) x k c₀)))
        r.second c₀.lo c₀.hi e.block e r.first sp.block settled.changed

    less : Within S' S
    less = spare-less spare r.left left sp.fewer

    fresh : (z : ℕ) → Taken S S' z → Memᴰ z (reaches (suc l) x (parts lo hi (us ++ (e ∷ vs)))) → ⊥
    fresh = going-fresh (suc l) lo hi x S (us ++ (e ∷ vs)) x S o.rank us vs e (held_in n) f start-going S'

    opens : Parted n p → Open (suc l) y lo hi o.rank (us ++ ((r.first ∷ fs) ++ vs)) (held_in p.node) f
    opens (by_inserts stay h d b) =
        subst⁻¹ (λ (v : Held). Open (suc l) y lo hi o.rank (us ++ ((r.first ∷ fs) ++ vs)) v f) b
        (open-push-I (suc l) (Taken S S') x y lo hi (legal-full lo hi o.legal) o.rank us vs e r.first fs (held_in n) f stay low node fresh steps
        (λ k i. batch-I k (subst⁻¹ (λ (ss : List Spot). Memᴰ k (keys ss)) h i))
        (subst (λ (ss : List Spot). Word (λ k q. batch_says ss [] k q)) h (subst (λ (ks : List ℕ). Word (λ k q. batch_says (held p.inserts) ks k q)) d changed)))
    opens (by_deletes stay d h b) =
        subst⁻¹ (λ (v : Held). Open (suc l) y lo hi o.rank (us ++ ((r.first ∷ fs) ++ vs)) v f) b
        (open-push-D (suc l) (Taken S S') x y lo hi (legal-full lo hi o.legal) o.rank us vs e r.first fs (held_in n) f stay low node fresh steps
        (λ k i. batch-D k (subst⁻¹ (λ (ks : List ℕ). Memᴰ k ks) d i))
        (subst (λ (ks : List ℕ). Word (λ k q. batch_says [] ks k q)) d (subst (λ (ss : List Spot). Word (λ k q. batch_says ss (named p.deletes) k q)) h changed)))

    pub pushed : WorkedTo (store_of t) (store_of t₁) (suc l) lo hi n m spare left r.left f
    pushed =
        let g = going_on (suc l) lo hi x S (us ++ (e ∷ vs)) x S o.rank us vs e (held_in n) f start-going y S' r.first fs
        (λ k. batch_says (held p.inserts) (named p.deletes) k (lookup (suc l) x k c₀)) f o.rank (held_in p.node) less low changed (opens pk.parted) in
        record {
          rank = o.rank;
          going = subst⁻¹ (λ (es : List Entry). Going (suc l) lo hi x S es y S' o.rank (entries_of m.entries) (held_in m) f) a.split
              (subst⁻¹ (λ (es : List Entry). Going (suc l) lo hi x S (us ++ (e ∷ vs)) y S' o.rank es (held_in m) f) back
              (subst⁻¹ (λ (v : Held). Going (suc l) lo hi x S (us ++ (e ∷ vs)) y S' o.rank (us ++ ((r.first ∷ fs) ++ vs)) v f) same g));
          lows_fit = subst⁻¹ (λ (es : List Entry). LowsFit lo hi es) back
              (lows-put r.second lo hi us vs e r.first low settled.apart bounds.0 bounds.1 lows_fit);
        }

-- ---- what push promises

-- the child could not be settled
pub push-stops : {t : List ℕ} {level : ℕ} {n : NodeValue} {p : Picked} {e : Entry} {spare : Spare} {left : ℕ} {q : Failure} → (level ≡ 0 → ⊥) → EntryAt (entries_of n.entries) p.child e → Picking n p
    → SettleFailed t (level - 1) e.block (Child e) (held p.inserts) (named p.deletes) spare left q → Roomless t level n spare left q
push-stops {t} {level} {n} {p} {e} {spare} {left} {q} inner a pk sp =
    record {
      whole = λ lo hi f.
          subst⁻¹ (λ (v : ℕ). Opened (store_of t) v lo hi n spare left f → q ≡ NoRoom) (deeper level inner) (λ o. child-whole t (level - 1) n p e spare left a pk lo hi f o sp);
    }

few-backs : (b : Bool) (f g : Entry) → length (cond b (f ∷ g ∷ []) (f ∷ [])) ≤ 2
few-backs true f g = omega arith
few-backs false f g = omega arith

module _ {t s map t₁ s₁ map₁ : List ℕ} {level : ℕ} {n m : NodeValue} {p : Picked} {e : Entry} {r : Settled} {spare : Spare} {left : ℕ} (w : Pushable t s map n level spare left)
    (k : Kept t s map t₁ s₁ map₁) (inner : level ≡ 0 → ⊥) (room : n.entries.n < 8) (a : EntryAt (entries_of n.entries) p.child e) (pk : Picking n p)
    (sp : SettleDone t t₁ (level - 1) e.block (Child e) (held p.inserts) (named p.deletes) spare left r)
    (pb : PutBack p.node p.child (cond (is_some r.second) (r.first ∷ unwrap_or r.second r.first ∷ []) (r.first ∷ [])) m) where
  abbrev ds : List Entry
  ds = entries_of n.entries

  abbrev es₁ : List Entry
  es₁ = take p.child ds

  abbrev es₂ : List Entry
  es₂ = drop (suc p.child) ds

  abbrev gs : List Entry
  gs = others r.second

  entries-back : entries_of m.entries ≡ es₁ ++ ((r.first ∷ gs) ++ es₂)
  entries-back =
      pb.entries
      ∙ ap (λ (v : Entries). take p.child (entries_of v) ++ (cond (is_some r.second) (r.first ∷ unwrap_or r.second r.first ∷ []) (r.first ∷ []) ++ drop (suc p.child) (entries_of v))) pk.entries
      ∙ ap (λ (q : List Entry). es₁ ++ (q ++ es₂)) (others-are r.second r.first)

  held_back : held_in m ≡ held_in p.node
  held_back = λ i. record { points = held (pb.points i); inserts = held (pb.inserts i); deletes = named (pb.deletes i) }

  -- what holds of the entries before and of the new ones holds of all
  each_back : (P : Entry → Type 0) → ((d : Entry) → Memᴰ d ds → P d) → P r.first → IfSome r.second P → (d : Entry) → Memᴰ d (entries_of m.entries) → P d
  each_back P old f g d i =
      ⊎_elim (λ (q : d ≡ r.first). subst⁻¹ P q f)
      (λ j. ⊎_elim (others-each P r.second g d) (λ v. old d (subst⁻¹ (λ (q : List Entry). Memᴰ d q) a.split v)) j)
      (member-put es₁ es₂ gs e r.first (subst (λ (q : List Entry). Memᴰ d q) entries-back i))

  -- what is said of the second, where there is one, and of the table's length
  second-fits : IfSome r.second EntryFits
  second-fits = go r.second sp.second
    where
      go : (o : maybe.Option Entry) → IfSome o (λ d. (1 ≤ d.block) × (d.block < blocks_of (length t)) × EntryFits d) → IfSome o EntryFits
      go None h = tt
      go (Some g) h = h.2

  second-inside : IfSome r.second (λ d. (1 ≤ d.block) × (d.block < blocks_of (length t₁)))
  second-inside = go r.second sp.second
    where
      go : (o : maybe.Option Entry) → IfSome o (λ d. (1 ≤ d.block) × (d.block < blocks_of (length t)) × EntryFits d) → IfSome o (λ d. (1 ≤ d.block) × (d.block < blocks_of (length t₁)))
      go None h = tt
      go (Some g) h = (h.0, rw k.table h.1)

  works-back : Workable t₁ s₁ map₁ m level
  works-back =
      let v = w.works in
      record {
        undoable = undoable-kept k v.undoable;
        tidy = record { points = subst⁻¹ Ordered pb.points pk.tidy.points; inserts = subst⁻¹ Ordered pb.inserts pk.tidy.inserts; deletes = subst⁻¹ OrderedKeys pb.deletes pk.tidy.deletes };
        entries = record {
          few = let z : p.node.entries.n ≡ n.entries.n = ap (λ (q : Entries). q.n) pk.entries in omega (arith, pb.count, few-backs (is_some r.second) r.first (unwrap_or r.second r.first));
          each = each_back EntryFits v.entries.each sp.fits second-fits;
        };
        inside = each_back (λ d. (1 ≤ d.block) × (d.block < blocks_of (length t₁))) (λ d i. let z = v.inside d i in (z.0, rw k.table z.1))
            (let z = v.inside e a.there in let q = sp.block in (omega (arith, z.0), rw k.table (omega (arith, z.1)))) second-inside;
        level = pb.level ∙ pk.level ∙ v.level;
        deep = v.deep;
        points = let z : m.points.n ≡ n.points.n = ap (λ (q : SpotBuffer). q.n) (pb.points ∙ pk.points) in omega (arith, v.points);
        inserts = let z : m.inserts.n ≡ p.node.inserts.n = ap (λ (q : SpotBuffer). q.n) pb.inserts in omega (arith, pk.most_i, v.inserts);
        deletes = let z : m.deletes.n ≡ p.node.deletes.n = ap (λ (q : KeyBuffer). q.n) pb.deletes in omega (arith, pk.most_d, v.deletes);
      }

  pub push-done : WorkDone t t₁ s₁ map₁ level n spare left (record { node = m; left = r.left })
  push-done =
      record {
        works = works-back;
        fewer = sp.fewer;
        zero = ap (λ (q : List Entry). zero_first (lows q)) entries-back ∙ zero-put es₁ es₂ gs e r.first sp.low (ap (λ (q : List Entry). zero_first (lows q)) (sym a.split) ∙ w.zero);
        more = let y : length ds ≡ length (es₁ ++ (e ∷ es₂)) = ap length a.split in let z : length (entries_of m.entries) ≡ length (es₁ ++ ((r.first ∷ gs) ++ es₂)) = ap length entries-back in omega (arith, more-put es₁ es₂ gs e r.first);
        most_i = let z : m.inserts.n ≡ p.node.inserts.n = ap (λ (q : SpotBuffer). q.n) pb.inserts in omega (arith, pk.most_i);
        most_d = let z : m.deletes.n ≡ p.node.deletes.n = ap (λ (q : KeyBuffer). q.n) pb.deletes in omega (arith, pk.most_d);
        leaf = λ z. absurd (inner z);
        done = λ lo hi f.
            subst⁻¹ (λ (v : ℕ). Opened (store_of t) v lo hi n spare left f → WorkedTo (store_of t) (store_of t₁) v lo hi n m spare left r.left f) (deeper level inner)
            (λ o. pushed t (level - 1) n p e spare left a pk lo hi f o t₁ m r sp held_back entries-back);
      }
