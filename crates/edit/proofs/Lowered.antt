-- The lowest of P gathered turn by turn, and brought into I.
-- Assumes nothing.
use mathlib.Core.Path.{◌≡◌, refl, sym, ap, subst, ◌∙◌}
use mathlib.Core.Logic.{⊎_elim}
use mathlib.Core.Bool.{false}
use mathlib.Core.List.Memᴰ
use mathlib.Core.List.{List, [], Memᴰ}
use Prim.Native.Nat.{suc, ◌+◌, ◌≤◌, ◌<◌}
use native.Mathlib.Omega.{arith}
use lib.ListN.{length}
use Rattle.octets.specs.Lists.{has, rising}
use Rattle.octets.specs.Sets.{Apart}
use Rattle.octets.proofs.Lists.{mem-same}
use Rattle.octets.proofs.Sets.{has-not}
use Rattle.spot.specs.declared.Spot.{Spot}
use Rattle.spot.specs.Spots.{keys, put}
use Rattle.spot.specs.Sorted.{only, but}
use Rattle.spot.proofs.Canon.{length-put}
use Rattle.spot.proofs.Buffers.{find-mem, only-mem, put-mem}
use Rattle.spot.proofs.Sorted.{but-not, length-but}
use Rattle.buffer.specs.declared.SpotBuffer.{SpotBuffer}
use Rattle.buffer.specs.declared.KeyBuffer.{KeyBuffer}
use Rattle.buffer.specs.Buffer.{held, named, Ordered, LowestIn, merged}
use Rattle.buffer.proofs.Laws.{held-length}
use Rattle.buffer.proofs.Merged.{merged-none, merged-length, merged-more}
use Rattle.node.specs.declared.NodeValue.{NodeValue}
use Rattle.update_theory.specs.Held.{Held}
use Rattle.edit.specs.Edits.{Tidy, Spilled, SpillPost}
use Rattle.edit.proofs.Buffered.{buffers, same-held}

-- p is what P has become, and g what has gathered
pub record Lowering (p₀ i₀ : SpotBuffer) (d : KeyBuffer) (p g : SpotBuffer) : Type 0 where
  pub long : length p.spots ≡ 80
  pub points : Ordered p
  pub gathered : Ordered g
  pub count : length (held g) ≡ g.n
  pub apart : Apart (keys (held p)) (keys (held g))
  pub clear : Apart (keys (held p)) (keys (held i₀))
  pub off : Apart (keys (held g)) (keys (held i₀))
  pub total : p.n + g.n ≡ p₀.n
  pub on : (c : Held) → Spilled (buffers (held p) (merged (held g) (held i₀)) (named d)) c → Spilled (buffers (held p₀) (held i₀) (named d)) c
  pub full : 64 ≤ p.n

-- before the first turn
pub lowering-none : (p i g : SpotBuffer) (d : KeyBuffer) → length p.spots ≡ 80 → Ordered p → Apart (keys (held p)) (keys (held i)) → 64 < p.n → g.n ≡ 0 → held g ≡ []
    → Lowering p i d p g
lowering-none p i g d w a o h z e =
    record {
      long = w;
      points = a;
      gathered = record { fits = omega arith; up = ap (λ (l : List Spot). rising (keys l)) e };
      count = ap length e ∙ sym z;
      apart = λ k x y. Memᴰ.not-nil (mem-same (ap keys e) y);
      clear = o;
      off = λ k x y. Memᴰ.not-nil (mem-same (ap keys e) x);
      total = omega arith;
      on = λ c s. subst (λ (l : List Spot). Spilled (buffers (held p) l (named d)) c) (ap (λ (l : List Spot). merged l (held i)) e ∙ merged-none (held i)) s;
      full = omega arith;
    }

module _ (p : SpotBuffer) (l : List Spot) (q : Spot) (least : LowestIn (held p) q) (o : Apart (keys (held p)) (keys l)) where
  -- the lowest of P is in no list apart from P
  lowest-out : Memᴰ q.key (keys l) → ⊥
  lowest-out = o q.key (find-mem q.key (held p) least.there)

  pub lowest-new : has q.key (keys l) ≡ false
  lowest-new = has-not q.key (keys l) lowest-out

-- P without it stays apart from what P was apart from
less-apart : (q : Spot) (ps is : List Spot) {rs : List Spot} → rs ≡ only (but q.key) ps → Apart (keys ps) (keys is) → Apart (keys rs) (keys is)
less-apart q ps is e o z a = o z (only-mem (but q.key) ps (mem-same (ap keys e) a)).0

-- and from what has gathered with it
still-apart : (q : Spot) (ps gs : List Spot) {rs hs : List Spot} → rs ≡ only (but q.key) ps → hs ≡ put q gs → Apart (keys ps) (keys gs) → Apart (keys rs) (keys hs)
still-apart q ps gs e f o z a b =
    let m = only-mem (but q.key) ps (mem-same (ap keys e) a) in
    ⊎_elim (λ (h : z ≡ q.key). but-not q.key z m.1 h) (λ j. o z m.0 j) (put-mem q gs (mem-same (ap keys f) b))

-- what has gathered with it stays apart from I
more-off : (q : Spot) (gs is : List Spot) {hs : List Spot} → hs ≡ put q gs → (Memᴰ q.key (keys is) → ⊥) → Apart (keys gs) (keys is) → Apart (keys hs) (keys is)
more-off q gs is f n o z a b = ⊎_elim (λ (h : z ≡ q.key). n (rw h at b)) (λ j. o z j b) (put-mem q gs (mem-same (ap keys f) a))

-- P has one fewer
pub one_fewer : (p p' : SpotBuffer) (q : Spot) → LowestIn (held p) q → held p' ≡ only (but q.key) (held p) → length p.spots ≡ 80 → Ordered p → length p'.spots ≡ 80
    → Ordered p' → suc p'.n ≡ p.n
one_fewer p p' q l e w o v u =
    ap suc (sym (held-length p' v u.fits) ∙ ap length e) ∙ length-but 0 q.key (held p) o.up (find-mem q.key (held p) l.there) ∙ held-length p w o.fits

-- after a turn
pub lowering-more : {p₀ i₀ : SpotBuffer} {d : KeyBuffer} (p g p' g' : SpotBuffer) (q : Spot) → Lowering p₀ i₀ d p g → Ordered i₀ → LowestIn (held p) q → 64 < p.n
    → held p' ≡ only (but q.key) (held p) → length p'.spots ≡ 80 → Ordered p' → g'.n ≡ g.n + 1 → held g' ≡ put q (held g) → Ordered g'
    → Lowering p₀ i₀ d p' g'
lowering-more {p₀} {i₀} {d} p g p' g' q s u l h e w a n f b =
    let c = one_fewer p p' q l e s.long s.points w a in
    let z = lowest-out p (held i₀) q l s.clear in
    let one : put q (merged (held g) (held i₀)) ≡ merged (held g') (held i₀)
    = merged-more q (held g) (held i₀) s.gathered.up u.up (lowest-out p (held g) q l s.apart) z ∙ ap (λ (x : List Spot). merged x (held i₀)) (sym f) in
    record {
      long = w;
      points = a;
      gathered = b;
      count = ap length f ∙ length-put q (held g) ∙ omega (arith, s.count);
      apart = still-apart q (held p) (held g) e f s.apart;
      clear = less-apart q (held p) (held i₀) e s.clear;
      off = more-off q (held g) (held i₀) f z s.off;
      total = omega (arith, s.total);
      on = λ y t. s.on y (Spilled.more q l (subst (λ (x : Held). Spilled x y) (same-held e (sym one) refl) t));
      full = omega arith;
    }

-- after the last, with what has gathered brought into I
pub lowering-all : (n : NodeValue) (p g i : SpotBuffer) → Lowering n.points n.inserts n.deletes p g → p.n ≤ 64 → 64 < n.points.n → Tidy n
    → length n.inserts.spots ≡ 80 → length i.spots ≡ 80 → held i ≡ merged (held g) (held n.inserts) → Ordered i
    → SpillPost n (record { level = n.level; entries = n.entries; points = p; inserts = i; deletes = n.deletes })
lowering-all n p g i s h k t v w e o =
    let size : i.n ≡ length (held g) + length (held n.inserts) = sym (held-length i w o.fits) ∙ ap length e ∙ merged-length (held g) (held n.inserts) s.off in
    record {
      spilled = s.on _ (subst (λ (l : List Spot). Spilled (buffers (held p) l (named n.deletes)) (buffers (held p) (held i) (named n.deletes))) e Spilled.none);
      tidy = record { points = s.points; inserts = o; deletes = t.deletes };
      entries = refl;
      level = refl;
      few = h;
      full = λ z. omega (arith, s.full);
      kept = λ z. absurd (omega arith);
      total = omega (arith, s.total, s.count, held-length n.inserts v t.inserts.fits);
      deletes = refl;
    }

-- nothing to spill
pub spilled-none : (n : NodeValue) → Tidy n → n.points.n ≤ 64 → SpillPost n n
spilled-none n t h =
    record { spilled = Spilled.none; tidy = t; entries = refl; level = refl; few = h; full = λ k. absurd (omega arith); kept = λ k. refl; total = refl; deletes = refl }
