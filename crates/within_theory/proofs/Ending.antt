-- Readings that go on, one allowance after another: the edge and the ceiling never rise, and a reading with room has stopped. Where it has stopped it is Top's.
-- Assumes nothing.
use mathlib.Core.Path.{◌≡◌, refl, ap, sym, subst, ◌∙◌}
use mathlib.Core.Logic.{◌⊎◌, inl, inr, ⊎_elim}
use mathlib.Core.Bool.{Bool, true, false, not}
use mathlib.Core.List.{List}
use Prim.Native.Nat.{ℕ, zero, suc, ◌-◌, ◌≤◌, ◌<◌}
use native.Mathlib.Omega.{arith}
use lib.Dec.{leb}
use lib.IntN.{ℤ}
use lib.ListN.{length}
use borrow.Author.Tests.{leb-true}
use Rattle.octets.specs.Lists.{is_empty}
use Rattle.octets.proofs.Lists.{no_member}
use Rattle.octets.proofs.Order.{less-or-not}
use Rattle.octets.proofs.Tests.{or-either, or_left, empty-list}
use Rattle.block.specs.Table.{blocks_of}
use Rattle.tree.specs.Walk.{spots, blocks_read}
use Rattle.tree.specs.Top.{top_walk, top_table}
use Rattle.tree.specs.Sound.{sound}
use Rattle.tree.proofs.Sources.{header-few}
use Rattle.tree.proofs.Tables.{sound-header}
use Rattle.tree.proofs.Tops.{top-finds, top-rises}
use Rattle.tree.proofs.BestFirstSums.{Same}
use Rattle.tree.proofs.BestFirstTop.{Done}
use Rattle.tree.proofs.BestFirst.{done_full, done-empty, blocks-few}
use Rattle.within_theory.specs.Reading.{Reading, certain, given_of, held_back, stopped, begun, reading, ceiling_of, reads_in_all}
use Rattle.within_theory.proofs.Edges.{edge, given-many, held_low}
use Rattle.within_theory.proofs.Readings.{reading-stays-once, reading-stays, reading-none}
use Rattle.within_theory.proofs.Standing.{Stands, Next, next, stands_at}

-- ---- one after another

-- what holds at a, and from each on at the next, holds from a on
pub from_on : (P : ℕ → Type 0) (a : ℕ) → P a → ((b : ℕ) → a ≤ b → P b → P (suc b)) → (b : ℕ) → a ≤ b → P b
from_on P a h step zero l = let e : a ≡ 0 = omega arith in subst P e h
from_on P a h step (suc b) l =
    ⊎_elim (λ (d : a ≤ b). step b d (from_on P a h step b d)) (λ (d : b < a). let e : a ≡ suc b = omega arith in subst P e h) (less-or-not a b)

falls-on : (f : ℕ → ℕ) → ((a : ℕ) → f (suc a) ≤ f a) → (a b : ℕ) → a ≤ b → f b ≤ f a
falls-on f h a = from_on (λ (b : ℕ). f b ≤ f a) a (omega arith) (λ b d l. omega (arith, h b))

module _ (t : List ℕ) (s : sound t ≡ true) (x1 x2 : ℤ) (j : ℕ) where
  abbrev at : ℕ → Reading
  at a = reading t x1 x2 (suc j) a

  -- the reading stays, or reads on
  either : (a : ℕ) → ((stopped (suc j) (at a) ≡ true) × (at (suc a) ≡ at a)) ⊎ Next t x1 x2 (suc j) (at a) (at (suc a))
  either a = go (stopped (suc j) (at a)) refl
    where
      go : (b : Bool) → stopped (suc j) (at a) ≡ b → ((stopped (suc j) (at a) ≡ true) × (at (suc a) ≡ at a)) ⊎ Next t x1 x2 (suc j) (at a) (at (suc a))
      go true e = inl (e, reading-stays-once t x1 x2 (suc j) a e)
      go false e = inr (next t s x1 x2 (suc j) a (stands_at t s x1 x2 j a) e)

  edge-step : (a : ℕ) → edge (at (suc a)).unread ≤ edge (at a).unread
  edge-step a = ⊎_elim (λ h. omega (arith, ap (λ (r : Reading). edge r.unread) h.1)) (λ n. n.edges) (either a)

  ceiling-step : (a : ℕ) → ceiling_of (suc j) (at (suc a)) ≤ ceiling_of (suc j) (at a)
  ceiling-step a = ⊎_elim (λ h. omega (arith, ap (λ (r : Reading). ceiling_of (suc j) r) h.1)) (λ n. n.ceiling) (either a)

  blocks_step : (a : ℕ) → length (at a).blocks ≤ length (at (suc a)).blocks
  blocks_step a =
      ⊎_elim (λ h. omega (arith, ap (λ (r : Reading). length r.blocks) h.1))
      (λ (n : Next t x1 x2 (suc j) (at a) (at (suc a))). omega (arith, n.more))
      (either a)

  nothing_read : length (at 0).blocks ≡ 0
  unfolding reading begun
  nothing_read = refl

  -- a reading that has not stopped has used its allowance
  used : (a : ℕ) → (stopped (suc j) (at a) ≡ true) ⊎ (length (at a).blocks ≡ a)
  used zero = inr nothing_read
  used (suc a) =
      ⊎_elim (λ e. inl (ap (stopped (suc j)) (reading-stays-once t x1 x2 (suc j) a e) ∙ e))
      (λ (n : length (at a).blocks ≡ a).
      ⊎_elim (λ h. inl (ap (stopped (suc j)) h.1 ∙ h.0)) (λ (r : Next t x1 x2 (suc j) (at a) (at (suc a))). inr (omega (arith, r.more))) (either a))
      (used a)

  -- there are no more blocks
  stops : (n : ℕ) → blocks_of (length t) - 1 ≤ n → stopped (suc j) (at n) ≡ true
  stops n h =
      ⊎_elim (λ e. e)
      (λ (u : length (at n).blocks ≡ n).
      ⊎_elim (λ e. e.0)
      (λ (r : Next t x1 x2 (suc j) (at n) (at (suc n))).
      let g = r.stands.progress in
      let z : ⊥ = omega (arith, r.more, blocks-few t x1 x2 (suc j) (at (suc n)).unread (held_back (suc j) (at (suc n))) (given_of (suc j) (at (suc n))) (at (suc n)).blocks g) in
      absurd z)
      (either n))
      (used n)

  stays_on : (a : ℕ) → stopped (suc j) (at a) ≡ true → (b : ℕ) → a ≤ b → at b ≡ at a
  stays_on a h b l = reading-stays t x1 x2 (suc j) a b l h

  blocks-rise : (a b : ℕ) → a ≤ b → length (at a).blocks ≤ length (at b).blocks
  blocks-rise a = from_on (λ (b : ℕ). length (at a).blocks ≤ length (at b).blocks) a (omega arith) (λ b d l. omega (arith, blocks_step b))

  -- an allowance of as many blocks as a reading that has stopped has read is enough
  enough : (n : ℕ) → stopped (suc j) (at n) ≡ true → (a : ℕ) → length (at n).blocks ≤ a → stopped (suc j) (at a) ≡ true
  enough n h a l =
      ⊎_elim
      (λ (d : n ≤ a). ap (stopped (suc j)) (stays_on n h a d) ∙ h)
      (λ (d : a < n).
      ⊎_elim (λ e. e)
      (λ (u : length (at a).blocks ≡ a).
      ⊎_elim (λ e. e.0)
      (λ (r : Next t x1 x2 (suc j) (at a) (at (suc a))).
      let z : ⊥ = omega (arith, r.more, blocks-rise (suc a) n d) in
      absurd z)
      (either a))
      (used a))
      (less-or-not n a)

  reads_all : (a : ℕ) → reads_in_all t x1 x2 (suc j) ≤ a → stopped (suc j) (at a) ≡ true
  unfolding reads_in_all
  reads_all a h = enough 4095 (stops 4095 (omega (arith, header-few t (sound-header t s)))) a h

-- ---- the end

-- a reading that has stopped has k spots, or has read all and holds nothing back
stopped-done : (t : List ℕ) (x1 x2 : ℤ) (k : ℕ) (r : Reading) → Stands t x1 x2 k r → stopped k r ≡ true → Done t x1 x2 k (given_of k r) r.blocks
unfolding stopped
stopped-done t x1 x2 k r st h =
    ⊎_elim (λ (l : k ≤ length (certain r)). full l)
    (λ (l : length (certain r) < k).
    ⊎_elim
    (λ (e : is_empty r.unread ≡ true).
    let none = empty-list r.unread e in
    done-empty t x1 x2 k r.unread (held_back k r) (given_of k r) r.blocks st.progress none
    (no_member (held_back k r) (λ x i. let z = held_low r k (omega arith) x i in omega (arith, ap edge none))))
    (λ e. full (leb-true k (length (certain r)) e))
    (or-either (is_empty r.unread) (leb k (length (certain r))) (or_left (not r.whole) _ h (ap not st.whole))))
    (less-or-not k (length (certain r)))
  where
    full : k ≤ length (certain r) → Done t x1 x2 k (given_of k r) r.blocks
    full l = done_full t x1 x2 k r.unread (held_back k r) (given_of k r) r.blocks st.progress (omega (arith, given-many r k))

-- ---- for every k

module _ (t : List ℕ) (s : sound t ≡ true) (x1 x2 : ℤ) where
  -- with k = 0 the reading never changes
  same_none : (f : Reading → ℕ) (a : ℕ) → f (reading t x1 x2 0 (suc a)) ≤ f (reading t x1 x2 0 a)
  same_none f a = omega (arith, ap f (reading-none t x1 x2 (suc a)), ap f (reading-none t x1 x2 a))

  pub edge-falls : (k a b : ℕ) → a ≤ b → edge (reading t x1 x2 k b).unread ≤ edge (reading t x1 x2 k a).unread
  edge-falls zero = falls-on (λ (i : ℕ). edge (reading t x1 x2 0 i).unread) (same_none (λ (r : Reading). edge r.unread))
  edge-falls (suc j) = falls-on (λ (i : ℕ). edge (reading t x1 x2 (suc j) i).unread) (edge-step t s x1 x2 j)

  pub ceiling-falls : (k a b : ℕ) → a ≤ b → ceiling_of k (reading t x1 x2 k b) ≤ ceiling_of k (reading t x1 x2 k a)
  ceiling-falls zero = falls-on (λ (i : ℕ). ceiling_of 0 (reading t x1 x2 0 i)) (same_none (λ (r : Reading). ceiling_of 0 r))
  ceiling-falls (suc j) = falls-on (λ (i : ℕ). ceiling_of (suc j) (reading t x1 x2 (suc j) i)) (ceiling-step t s x1 x2 j)

  done_at : (j a : ℕ) → reads_in_all t x1 x2 (suc j) ≤ a → Done t x1 x2 (suc j) (given_of (suc j) (reading t x1 x2 (suc j) a)) (reading t x1 x2 (suc j) a).blocks
  done_at j a h = stopped-done t x1 x2 (suc j) (reading t x1 x2 (suc j) a) (stands_at t s x1 x2 j a) (reads_all t s x1 x2 j a h)

  pub given-top : (k a : ℕ) → reads_in_all t x1 x2 k ≤ a → given_of k (reading t x1 x2 k a) ≡ spots (top_table t x1 x2 k)
  unfolding given_of
  given-top zero a h = sym (ap spots (top-finds t s x1 x2 0).1)
  given-top (suc j) a h = (done_at j a h).same (top-rises t s x1 x2 (suc j))

  none_read : Same (blocks_read (top_walk t x1 x2 0)) (begun t).blocks
  unfolding top_walk begun
  none_read f = rw (sound-header t s)

  pub reads-top : (k a : ℕ) → reads_in_all t x1 x2 k ≤ a → Same (blocks_read (top_walk t x1 x2 k)) (reading t x1 x2 k a).blocks
  reads-top zero a h = subst (λ (r : Reading). Same (blocks_read (top_walk t x1 x2 0)) r.blocks) (sym (reading-none t x1 x2 a)) none_read
  reads-top (suc j) a h = (done_at j a h).marks
