-- The calls of take_in put together.
-- Assumes nothing.
use mathlib.Core.Path.{◌≡◌, sym, ap, subst, ◌∙◌}
use mathlib.Core.Logic.{◌⊎◌, inl, inr, ⊎_elim}
use mathlib.Core.List.{List, []}
use Prim.Native.Nat.{ℕ, ◌+◌, ◌≤◌, ◌<◌}
use native.Mathlib.Omega.{arith}
use lib.ListN.{length, take}
use Rattle.octets.proofs.Order.{same_or_not, less-or-not}
use Rattle.spot.specs.declared.Spot.{Spot}
use Rattle.buffer.specs.Buffer.{held, named}
use Rattle.buffer.specs.declared.KeyBuffer.{KeyBuffer}
use Rattle.node.specs.declared.NodeValue.{NodeValue}
use Rattle.update_theory.specs.Held.{Held, insert_all, delete_all}
use Rattle.edit.specs.Edits.{held_in, Tidy, Edited, Threshold, Spilled}
use Rattle.batch.specs.Batches.{Receives, SpilledInner, TakenIn}
use Rattle.batch.proofs.Sizes.{Sized, sized-start, sized-inserts, sized-deletes, inserts-bare, deletes-bare}

-- a node's buffers are as long as it says
pub record Counted (n : NodeValue) : Type 0 where
  pub points : length (held n.points) ≡ n.points.n
  pub inserts : length (held n.inserts) ≡ n.inserts.n
  pub deletes : length (named n.deletes) ≡ n.deletes.n

-- what a leaf that stays, and an inner node that spills, have in common
record After (n x : NodeValue) : Type 0 where
  pub spilled : Spilled (held_in n) (held_in x)
  pub tidy : Tidy x
  pub entries : x.entries ≡ n.entries
  pub level : x.level ≡ n.level
  pub deletes : x.deletes ≡ n.deletes
  pub either : (x ≡ n) ⊎ ((x.points.n ≡ 64) × (x.points.n + x.inserts.n ≡ n.points.n + n.inserts.n))

after : (n x : NodeValue) → Tidy n → SpilledInner n x → After n x
after n x t s =
    ⊎_elim
    (λ (z : n.level ≡ 0).
    let e = s.leaf z in
    record {
      spilled = subst (λ (y : NodeValue). Spilled (held_in n) (held_in y)) (sym e) Spilled.none;
      tidy = subst Tidy (sym e) t;
      entries = ap (λ (y : NodeValue). y.entries) e;
      level = ap (λ (y : NodeValue). y.level) e;
      deletes = ap (λ (y : NodeValue). y.deletes) e;
      either = inl e;
    })
    (λ z.
    let p = s.inner z in
    record {
      spilled = p.spilled;
      tidy = p.tidy;
      entries = p.entries;
      level = p.level;
      deletes = p.deletes;
      either = ⊎_elim (λ (g : n.points.n ≤ 64). inl (p.kept g)) (λ (g : 64 < n.points.n). inr (p.full g, p.total)) (less-or-not n.points.n 64);
    })
    (same_or_not n.level 0)

-- the first 0 of a list
none-taken : {A : Type 0} (l : List A) (m : ℕ) → m ≡ 0 → take m l ≡ []
none-taken l m e = ap (λ (k : ℕ). take k l) e

none-length : {A : Type 0} (l : List A) → l ≡ [] → length l ≡ 0
none-length l e = ap length e

-- what the calls before the spill say
pub record Changed (n more less : NodeValue) (ss : List Spot) (ks : List ℕ) (ni nd rank : ℕ) : Type 0 where
  pub received : Receives n ni nd
  pub spots : length ss ≡ ni
  pub keys : length ks ≡ nd
  pub before : Counted n
  pub counted : Counted less
  pub threshold : Threshold n rank
  pub inserted : Edited n more (insert_all rank ss (held_in n)) (n.points.n + ni) (n.inserts.n + ni) n.deletes.n
  pub deleted : Edited more less (delete_all rank ks (held_in more)) more.points.n more.inserts.n (more.deletes.n + nd)

module _ {n more less : NodeValue} {ss : List Spot} {ks : List ℕ} {ni nd rank : ℕ} (w : Changed n more less ss ks ni nd rank) where
  abbrev all : Held
  all = delete_all rank ks (insert_all rank ss (held_in n))

  is_all : held_in less ≡ all
  is_all = w.deleted.holds ∙ ap (delete_all rank ks) w.inserted.holds

  -- before P spills
  pub less-sized : Sized (held_in n) (held_in less) (length ss) (length ks + length ss)
  less-sized =
      subst (λ (h : Held). Sized (held_in n) h (length ss) (length ks + length ss)) (sym is_all)
      (sized-deletes (held_in n) (insert_all rank ss (held_in n)) rank (length ss) (length ss) ks
      (sized-inserts (held_in n) rank ss (sized-start (held_in n) w.received.tidy.points.up w.received.apart)))

  -- so few that they fit
  pub less-few : less.points.n + less.inserts.n ≤ 144
  less-few = omega (arith, less-sized.most, w.spots, w.keys, w.before.points, w.before.inserts, w.counted.points, w.counted.inserts, w.received.points, w.received.inserts, w.received.few_i)

  bare : n.level ≡ 0 → rank ≡ 0
  bare e = w.threshold.nothing (inl e)

  same-level : less.level ≡ n.level
  same-level = w.deleted.level ∙ w.inserted.level

  module _ (r : NodeValue) (s : SpilledInner less r) where
    at_leaf : n.level ≡ 0 → r ≡ less
    at_leaf e = s.leaf (same-level ∙ e)

    pub taken_in : TakenIn n ss ks ni nd r
    taken_in =
        let f = after less r w.deleted.tidy s in
        record {
          rank = rank;
          threshold = w.threshold;
          spilled = subst (λ (h : Held). Spilled h (held_in r)) is_all f.spilled;
          leaf = λ e. ap held_in (at_leaf e) ∙ is_all;
          tidy = f.tidy;
          entries = f.entries ∙ w.deleted.entries ∙ w.inserted.entries;
          level = f.level ∙ same-level;
          most_p = λ z. (s.inner (λ e. z (sym same-level ∙ e))).few;
          least_p = ⊎_elim
              (λ (e : r ≡ less). let g = ap (λ (y : NodeValue). y.points.n) e in omega (arith, less-sized.least, w.spots, w.keys, w.before.points, w.counted.points))
              (λ (e : (r.points.n ≡ 64) × (r.points.n + r.inserts.n ≡ less.points.n + less.inserts.n)). omega (arith, w.received.points, e.0))
              f.either;
          most_i = ⊎_elim
              (λ (e : r ≡ less). let g = ap (λ (y : NodeValue). y.inserts.n) e in omega (arith, w.inserted.inserts, w.deleted.inserts))
              (λ (e : (r.points.n ≡ 64) × (r.points.n + r.inserts.n ≡ less.points.n + less.inserts.n)).
              omega (arith, less-sized.most, w.spots, w.keys, w.before.points, w.before.inserts, w.counted.points, w.counted.inserts, w.received.points, e.0, e.1))
              f.either;
          most_d = let g = ap (λ (y : KeyBuffer). y.n) f.deletes in omega (arith, w.inserted.deletes, w.deleted.deletes);
          leaf_i = λ e z.
              let g = ap (λ (y : NodeValue). y.inserts.n) (at_leaf e) in
              let i = (inserts-bare rank ss (held_in n) (bare e)).0 (none-taken n.inserts.spots n.inserts.n z) in
              let d = (deletes-bare rank ks (insert_all rank ss (held_in n)) (bare e)).0 i in
              let v = none-length (held less.inserts) (ap (λ (h : Held). h.inserts) is_all ∙ d) in
              omega (arith, w.counted.inserts);
          leaf_d = λ e z.
              let g = ap (λ (y : NodeValue). y.deletes.n) (at_leaf e) in
              let i = (inserts-bare rank ss (held_in n) (bare e)).1 (none-taken n.deletes.keys n.deletes.n z) in
              let d = (deletes-bare rank ks (insert_all rank ss (held_in n)) (bare e)).1 i in
              let v = none-length (named less.deletes) (ap (λ (h : Held). h.deletes) is_all ∙ d) in
              omega (arith, w.counted.deletes);
        }
