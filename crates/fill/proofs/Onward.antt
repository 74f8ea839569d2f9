-- The loop of fill goes on: each kind of round, on the node in memory and the table's store.
-- Assumes nothing.
use mathlib.Core.Path.{◌≡◌, refl, sym, ap, ◌∙◌, subst, subst⁻¹}
use mathlib.Core.Logic.{inr}
use mathlib.Core.Bool.{Bool, true, false, cond, true≢false}
use mathlib.Core.List.{List, [], ◌∷◌, ◌++◌, Memᴰ}
use mathlib.Core.Option.{Option, none}
use Prim.Native.Nat.{ℕ, zero, suc, ◌≤◌, ◌<◌}
use native.Mathlib.Omega.{arith}
use lib.ListN.{length, take, drop, length-take}
use lib.Dec.{eqb}
use Rattle.octets.specs.Lists.{has, keep, rest}
use Rattle.spot.specs.declared.Spot.{Spot}
use Rattle.spot.specs.Keys.{rank_key}
use Rattle.spot.specs.Spots.{keys, find, put}
use Rattle.spot.specs.Sorted.{only, but, lower}
use Rattle.spot.proofs.Buffers.{find-mem}
use Rattle.block.specs.declared.Entry.{Entry}
use Rattle.block.specs.declared.Asked.TheVariants.{Child}
use Rattle.block.specs.Node.{Store}
use Rattle.block.specs.NodeRules.{zero_first, lows}
use Rattle.buffer.specs.Buffer.{held, named, Highest}
use Rattle.tree.specs.Part.{Part, Legal}
use Rattle.tree.specs.Lookup.{lookup}
use Rattle.tree.proofs.Legal.{legal-full, legal-part}
use Rattle.update_theory.specs.Held.{Held}
use Rattle.update_theory.specs.Change.{part, Sound, Changed}
use Rattle.update_theory.specs.Spare.{Taken}
use Rattle.update_theory.specs.Rounds.{Loop}
use Rattle.update_theory.proofs.Spread.{child_at}
use Rattle.update_theory.proofs.Rounds.{child-bounds, child-low, child-sound, round-insert, round-end, round-dead, round-child, round-both}
use Rattle.node.specs.Memory.{entries_of, EntryAt}
use Rattle.node.specs.declared.Entries.{Entries}
use Rattle.node.specs.declared.NodeValue.{NodeValue}
use Rattle.edit.specs.Edits.{held_in, BestChild, Edited}
use Rattle.fill.specs.declared.Took.{Took}
use Rattle.fill.specs.declared.Round.{Round}
use Rattle.fill.specs.Filling.{GoesOn, Replaced, InsertMoved, ChildMoved, TookOut}

-- ---- the entry with the highest top

first : Entry → List Entry → Entry
first d [] = d
first d (x ∷ xs) = x

same_first : (us vs ws : List Entry) (d e : Entry) → us ++ (d ∷ vs) ≡ us ++ (e ∷ ws) → d ≡ e
unfolding first
same_first [] vs ws d e h = ap (first d) h
same_first (u ∷ us) vs ws d e h = same_first us vs ws d e (ap rest h)

-- an entry at a place stands inside
at-inside : (i : ℕ) (es : List Entry) (e : Entry) → es ≡ take i es ++ (e ∷ drop (suc i) es) → i < length es
at-inside zero [] e h = let z : 0 ≡ suc 0 = ap length h in absurd (omega arith)
at-inside zero (x ∷ es) e h = omega arith
at-inside (suc i) [] e h = let z : 0 ≡ suc 0 = ap length h in absurd (omega arith)
at-inside (suc i) (x ∷ es) e h = let z = at-inside i es e (ap rest h) in omega arith

-- only one stands there
pub same_at : (es : List Entry) (i : ℕ) (d e : Entry) → EntryAt es i d → EntryAt es i e → d ≡ e
same_at es i d e a b = same_first (take i es) (drop (suc i) es) (drop (suc i) es) d e (sym a.split ∙ b.split)

-- what the choice says of it
pub best-at : (es : List Entry) (i : ℕ) (e : Entry) → EntryAt es i e → BestChild es i
    → (e.size ≡ 0 → ⊥) × ((d : Entry) → Memᴰ d es → (d.size ≡ 0 → ⊥) → rank_key d.top ≤ rank_key e.top)
best-at es i e a b =
    let c = b.some (at-inside i es e a.split) in
    let q : c.0 ≡ e = same_first (take i es) (drop (suc i) es) (drop (suc i) es) c.0 e (sym c.1 ∙ a.split) in
    (λ z. c.2 (ap (λ (x : Entry). x.size) q ∙ z), λ d j m. subst (λ (x : Entry). rank_key d.top ≤ rank_key x.top) q (c.3 d j m))

-- ---- the rounds

-- where the loop stands, in other words
loop-as : {ni nd l lo hi : ℕ} {x : Store} {es₀ : List Entry} {y : Store} {r : ℕ} {es es' : List Entry} {b b' : Held} {f : ℕ → Option ℕ} → es' ≡ es → b' ≡ b
    → Loop ni nd l lo hi x es₀ y r es b f → Loop ni nd l lo hi x es₀ y r es' b' f
loop-as {ni} {nd} {l} {lo} {hi} {x} {es₀} {y} {r} {es} {es'} {b} {b'} {f} g h p =
    subst⁻¹ (λ (u : List Entry). Loop ni nd l lo hi x es₀ y r u b' f) g (subst⁻¹ (λ (v : Held). Loop ni nd l lo hi x es₀ y r es v f) h p)

-- from I alone
pub on-insert : (y : Store) (level : ℕ) (n : NodeValue) (r : Round) (s : Spot) → n.points.n < 32 → InsertMoved n s r → Highest (held n.inserts) s
    → ((d : Entry) → Memᴰ d (entries_of n.entries) → (d.size ≡ 0 → ⊥) → rank_key d.top < rank_key s.key)
    → GoesOn y y level n r.node r.over
on-insert y level n r s less u h tops ni nd lo hi rank x es₀ f legal z p = (
  rank_key s.key,
  loop-as (ap entries_of u.lifted.entries) u.raised
      (round-insert ni nd level lo hi (legal-full lo hi legal) x es₀ f y rank (entries_of n.entries) (held_in n) p (let q = length-take n.points.n n.points.spots in omega arith) s (find-mem s.key (held n.inserts) h.there) h.there h.most tops),
  λ o. absurd (true≢false (sym o ∙ u.lifted.over)),
)

-- nothing in I, and no child has points
pub on-end : (y : Store) (level : ℕ) (n r : NodeValue) (over : Bool) {p i d : ℕ} → n.points.n < 32 → Edited n r (record { points = held n.points; inserts = held n.inserts; deletes = [] }) p i d
    → n.inserts.n ≡ 0 → ((d : Entry) → Memᴰ d (entries_of n.entries) → d.size ≡ 0) → GoesOn y y level n r over
on-end y level n r over less u bare sizes ni nd lo hi rank x es₀ f legal z p = (
  rank,
  loop-as (ap entries_of u.entries) u.holds (round-end ni nd level lo hi (legal-full lo hi legal) x es₀ f y rank (entries_of n.entries) (held_in n) p sizes),
  λ o. inr (
    subst⁻¹ (λ (b : Held). length b.points < 32) u.holds (let q = length-take n.points.n n.points.spots in omega arith),
    ap (λ (b : Held). b.inserts) u.holds ∙ ap (λ (k : ℕ). take k n.inserts.spots) bare,
    ap (λ (b : Held). b.deletes) u.holds,
    subst⁻¹ (λ (es : Entries). (d : Entry) → Memᴰ d (entries_of es) → d.size ≡ 0) u.entries sizes,
  ),
)

-- the buffers then
abbrev inserted : Spot → ℕ → Held → Held
inserted s k b = record { points = put s b.points; inserts = only (but k) b.inserts; deletes = keep (lower k) b.deletes }

abbrev raised : Spot → ℕ → Held → Held
raised s k b = record { points = put s b.points; inserts = b.inserts; deletes = keep (lower k) b.deletes }

abbrev dropped : ℕ → Held → Held
dropped k b = record { points = b.points; inserts = b.inserts; deletes = keep (lower k) b.deletes }

-- a child whose top may be taken
pub record ChildReady (l : ℕ) (y : Store) (e : Entry) (lo hi : ℕ) : Type 0 where
  pub order : lo ≤ hi
  pub legal : Legal lo hi
  pub low : e.low ≤ lo
  pub sound : Sound (suc l) y (part e.block (Child e) lo hi ∷ [])

-- the child with the highest top
module _ (y : Store) (l : ℕ) (n : NodeValue) (c : ℕ) (e : Entry) (at_c : EntryAt (entries_of n.entries) c e) (best : BestChild (entries_of n.entries) c) where
  abbrev us : List Entry
  us = take c (entries_of n.entries)

  abbrev vs : List Entry
  vs = drop (suc c) (entries_of n.entries)

  pts : e.size ≡ 0 → ⊥
  pts = (best-at (entries_of n.entries) c e at_c best).0

  most : (d : Entry) → Memᴰ d (take c (entries_of n.entries) ++ (e ∷ drop (suc c) (entries_of n.entries))) → (d.size ≡ 0 → ⊥) → rank_key d.top ≤ rank_key e.top
  most d i = (best-at (entries_of n.entries) c e at_c best).1 d (subst⁻¹ (λ (q : List Entry). Memᴰ d q) at_c.split i)

  -- where the loop stands
  module _ (ni nd lo hi rank : ℕ) (x : Store) (es₀ : List Entry) (f : ℕ → Option ℕ) (legal : Legal lo hi) (zero₀ : zero_first (lows es₀) ≡ true)
      (p : Loop ni nd (suc l) lo hi x es₀ y rank (entries_of n.entries) (held_in n) f) where
    split_at : Loop ni nd (suc l) lo hi x es₀ y rank (take c (entries_of n.entries) ++ (e ∷ drop (suc c) (entries_of n.entries))) (held_in n) f
    split_at = subst (λ (q : List Entry). Loop ni nd (suc l) lo hi x es₀ y rank q (held_in n) f) at_c.split p

    pub child-ready : ChildReady l y e (child_at lo hi us vs e).lo (child_at lo hi us vs e).hi
    child-ready =
        let b = child-bounds ni nd (suc l) lo hi (legal-full lo hi legal) x es₀ f zero₀ y rank us vs e (held_in n) split_at pts most in
        record {
          order = b.2;
          legal = legal-part lo hi (child_at lo hi us vs e).lo (child_at lo hi us vs e).hi legal b.0 b.1;
          low = child-low ni nd (suc l) lo hi (legal-full lo hi legal) x es₀ f zero₀ y rank us vs e (held_in n) split_at pts most;
          sound = child-sound ni nd (suc l) lo hi (legal-full lo hi legal) x es₀ f zero₀ y rank us vs e (held_in n) split_at pts most;
        }

  -- its top was taken
  module _ (z : Store) (m : NodeValue) (took : Took) (r : Round) (less : n.points.n < 32) (block : took.entry.block ≡ e.block) (low : took.entry.low ≡ e.low)
      (done : (lo hi : ℕ) → lo ≤ hi → Legal lo hi → e.low ≤ lo → Sound (suc l) y (part e.block (Child e) lo hi ∷ []) → TookOut y z l e lo hi took)
      (put_in : Replaced n c took.entry m) (same : r.node.entries ≡ m.entries) where
    entries-as : entries_of r.node.entries ≡ take c (entries_of n.entries) ++ ((took.entry ∷ []) ++ drop (suc c) (entries_of n.entries))
    entries-as = ap entries_of same ∙ put_in.entries

    held-as : held_in m ≡ held_in n
    held-as = λ i. record { points = held (put_in.points i); inserts = held (put_in.inserts i); deletes = named (put_in.deletes i) }

    -- what all kinds use, where the loop stands
    module _ (ni nd lo hi rank : ℕ) (x : Store) (es₀ : List Entry) (f : ℕ → Option ℕ) (legal : Legal lo hi) (zero₀ : zero_first (lows es₀) ≡ true)
        (p : Loop ni nd (suc l) lo hi x es₀ y rank (entries_of n.entries) (held_in n) f) where
      p' : Loop ni nd (suc l) lo hi x es₀ y rank (take c (entries_of n.entries) ++ (e ∷ drop (suc c) (entries_of n.entries))) (held_in n) f
      p' = split_at ni nd lo hi rank x es₀ f legal zero₀ p

      abbrev child : Part
      child = child_at lo hi (take c (entries_of n.entries)) (drop (suc c) (entries_of n.entries)) e

      out : TookOut y z l e child.lo child.hi took
      out =
          let b = child-ready ni nd lo hi rank x es₀ f legal zero₀ p in
          done child.lo child.hi b.order b.legal b.low b.sound

      changed : Changed (suc l) (Taken [] []) y (child ∷ []) z (part took.entry.block (Child took.entry) child.lo child.hi ∷ []) (λ k. cond (eqb k e.top) none (lookup (suc l) y k child))
      changed = subst⁻¹ (λ (b : ℕ). Changed (suc l) (Taken [] []) y (child ∷ []) z (part b (Child took.entry) child.lo child.hi ∷ []) (λ k. cond (eqb k e.top) none (lookup (suc l) y k child))) block out.changed

      room : length (held n.points) < 32
      room = let q = length-take n.points.n n.points.spots in omega arith

      child-on : ChildMoved m took.spot r → ((k : ℕ) → Memᴰ k (keys (held n.inserts)) → rank_key k < rank_key e.top)
          → (after : ℕ) × Loop ni nd (suc l) lo hi x es₀ z after (entries_of r.node.entries) (held_in r.node) f
      child-on u above = go (has e.top (named n.deletes)) refl
        where
          names : {q : Bool} → has e.top (named n.deletes) ≡ q → has took.spot.key (named m.deletes) ≡ q
          names h = ap (λ (k : ℕ). has k (named m.deletes)) out.key ∙ ap (λ (b : Held). has e.top b.deletes) held-as ∙ h

          go : (q : Bool) → has e.top (named n.deletes) ≡ q → (after : ℕ) × Loop ni nd (suc l) lo hi x es₀ z after (entries_of r.node.entries) (held_in r.node) f
          go true h = (
            rank_key e.top,
            loop-as entries-as (u.dropped (names h) ∙ ap (λ (k : ℕ). dropped k (held_in m)) out.key ∙ ap (dropped e.top) held-as)
                (round-dead ni nd (suc l) lo hi (legal-full lo hi legal) x es₀ f zero₀ y rank us vs e (held_in n) p' pts most z took.entry low block changed above h),
          )
          go false h = (
            rank_key e.top,
            loop-as entries-as (u.raised (names h) ∙ ap (λ (k : ℕ). raised took.spot k (held_in m)) out.key ∙ ap (raised took.spot e.top) held-as)
                (round-child ni nd (suc l) lo hi (legal-full lo hi legal) x es₀ f zero₀ y rank us vs e (held_in n) p' pts most z took.entry low block changed room took.spot out.key out.live above h),
          )

      both-on : (s : Spot) → InsertMoved m s r → Highest (held n.inserts) s → s.key ≡ e.top
          → (after : ℕ) × Loop ni nd (suc l) lo hi x es₀ z after (entries_of r.node.entries) (held_in r.node) f
      both-on s u high at-t = (
        rank_key e.top,
        loop-as entries-as (u.raised ∙ ap (λ (k : ℕ). inserted s k (held_in m)) at-t ∙ ap (inserted s e.top) held-as)
            (round-both ni nd (suc l) lo hi (legal-full lo hi legal) x es₀ f zero₀ y rank us vs e (held_in n) p' pts most z took.entry low block changed room s at-t
            (ap (λ (k : ℕ). find k (held n.inserts)) (sym at-t) ∙ high.there) (λ k i. let q : rank_key s.key ≡ rank_key e.top = ap rank_key at-t in let v = high.most k i in omega arith)),
      )

    -- from the child
    pub on-child : ChildMoved m took.spot r → ((k : ℕ) → Memᴰ k (keys (held n.inserts)) → rank_key k < rank_key e.top) → GoesOn y z (suc l) n r.node r.over
    on-child u above ni nd lo hi rank x es₀ f legal zero₀ p =
        let q = child-on ni nd lo hi rank x es₀ f legal zero₀ p u above in
        (q.0, q.1, λ o. absurd (true≢false (sym o ∙ u.lifted.over)))

    -- from I, and the child's goes
    pub on_both : (s : Spot) → InsertMoved m s r → Highest (held n.inserts) s → s.key ≡ e.top → GoesOn y z (suc l) n r.node r.over
    on_both s u high at-t ni nd lo hi rank x es₀ f legal zero₀ p =
        let q = both-on ni nd lo hi rank x es₀ f legal zero₀ p s u high at-t in
        (q.0, q.1, λ o. absurd (true≢false (sym o ∙ u.lifted.over)))
