-- A batch of inserts in two parts, each gathered for its buffer, turn by turn.
-- Assumes nothing.
use mathlib.Core.Path.{◌≡◌, refl, sym, ap, ◌∙◌}
use mathlib.Core.Logic.{⊎_elim}
use mathlib.Core.List.Memᴰ
use mathlib.Core.List.{List, [], Memᴰ}
use Prim.Native.Nat.{ℕ, ◌+◌, ◌≤◌, ◌<◌}
use native.Mathlib.Omega.{arith}
use Rattle.octets.specs.Lists.{keep, rising}
use Rattle.octets.proofs.Lists.{mem-same}
use Rattle.spot.specs.declared.Spot.{Spot}
use Rattle.spot.specs.Keys.{rank_key}
use Rattle.spot.specs.Spots.{keys, put}
use Rattle.spot.specs.Sorted.{only, but}
use Rattle.spot.proofs.Buffers.{only-mem, put-mem}
use Rattle.buffer.specs.declared.SpotBuffer.{SpotBuffer}
use Rattle.buffer.specs.declared.KeyBuffer.{KeyBuffer}
use Rattle.buffer.specs.Buffer.{held, named, Ordered, OrderedKeys, merged}
use Rattle.buffer.proofs.Merged.{merged-none, merged-over, merged-but}
use Rattle.node.specs.declared.NodeValue.{NodeValue}
use Rattle.update_theory.specs.Held.{Held, insert_one}
use Rattle.edit.specs.Edits.{Edited}
use Rattle.edit.proofs.Buffered.{buffers, same-held, inserted-high, inserted-low}

-- ---- one part: g has gathered for b

-- all of g is of this kind, g has at most m, and b at most n
pub record Part (T : ℕ → Type 0) (m n : ℕ) (g b : SpotBuffer) : Type 0 where
  pub new : Ordered g
  pub old : Ordered b
  pub kind : (k : ℕ) → Memᴰ k (keys (held g)) → T k
  pub few : g.n ≤ m
  pub fits : b.n ≤ n

-- g and b as one
abbrev pub joined : SpotBuffer → SpotBuffer → List Spot
joined g b = merged (held g) (held b)

module _ (T : ℕ → Type 0) where
  -- nothing has gathered
  pub part_none : (g b : SpotBuffer) (m : ℕ) → g.n ≡ 0 → held g ≡ [] → Ordered b → Part T m b.n g b
  part_none g b m z e o =
      record {
        new = record { fits = omega arith; up = ap (λ (l : List Spot). rising (keys l)) e };
        old = o;
        kind = λ k i. absurd (Memᴰ.not-nil (mem-same (ap keys e) i));
        few = omega arith;
        fits = omega arith;
      }

  module _ {m n : ℕ} (g b : SpotBuffer) (part : Part T m n g b) {m' : ℕ} (more : m + 1 ≤ m') where
    -- one more of its kind
    pub part-more : (s : Spot) (o g' : SpotBuffer) → T s.key → o.n ≤ g.n → held o ≡ only (but s.key) (held g) → g'.n ≡ o.n + 1 → held g' ≡ put s (held o) → Ordered g'
        → Part T m' n g' b
    part-more s o g' t h e z f u =
        record {
          new = u;
          old = part.old;
          kind = λ k i.
              ⊎_elim (λ (j : k ≡ s.key). rw j t) (λ j. part.kind k (only-mem (but s.key) (held g) (mem-same (ap keys e) j)).0)
              (put-mem s (held o) (mem-same (ap keys f) i));
          few = omega (arith, part.few);
          fits = part.fits;
        }

    -- and one of another kind: its key is taken out of the buffer
    pub part-less : (b' : SpotBuffer) → b'.n ≤ b.n → Ordered b' → Part T m' n g b'
    part-less b' h u = record { new = part.new; old = u; kind = part.kind; few = omega (arith, part.few); fits = omega (arith, part.fits) }

  module _ {m n : ℕ} (g b : SpotBuffer) (part : Part T m n g b) where
    pub joined-more : (s : Spot) {o g' : List Spot} → o ≡ only (but s.key) (held g) → g' ≡ put s o → merged g' (held b) ≡ put s (only (but s.key) (joined g b))
    joined-more s e f = ap (λ (l : List Spot). merged l (held b)) (f ∙ ap (put s) e) ∙ sym (merged-over (held g) (held b) part.new.up part.old.up s)

    pub joined-less : (k : ℕ) {b' : List Spot} → (T k → ⊥) → b' ≡ only (but k) (held b) → merged (held g) b' ≡ only (but k) (joined g b)
    joined-less k t e =
        ap (λ (l : List Spot). merged (held g) l) e ∙ sym (merged-but (held g) (held b) part.new.up part.old.up k (λ i. t (part.kind k i)))

-- ---- both parts: what is at least r in rank order gathers for P, the others for I

abbrev pub High : ℕ → ℕ → Type 0
High r k = r ≤ rank_key k

abbrev pub Low : ℕ → ℕ → Type 0
Low r k = rank_key k < r

-- h and l have gathered, at most m each, and with p, i and d they stand for c
pub record Gathered (r : ℕ) (p₀ i₀ : SpotBuffer) (d₀ : KeyBuffer) (c : Held) (m : ℕ) (p i : SpotBuffer) (d : KeyBuffer) (h l : SpotBuffer) : Type 0 where
  pub high : Part (High r) m p₀.n h p
  pub low : Part (Low r) m i₀.n l i
  pub deletes : OrderedKeys d
  pub names : d.n ≤ d₀.n
  pub holds : buffers (joined h p) (joined l i) (named d) ≡ c

-- before the first turn
pub gathered_none : (r : ℕ) (p i : SpotBuffer) (d : KeyBuffer) (m : ℕ) (h l : SpotBuffer) {c : Held} → Ordered p → Ordered i → OrderedKeys d → h.n ≡ 0 → held h ≡ [] → l.n ≡ 0 → held l ≡ []
    → buffers (held p) (held i) (named d) ≡ c → Gathered r p i d c m p i d h l
gathered_none r p i d m h l op oi od z e y f g =
    record {
      high = part_none (High r) h p m z e op;
      low = part_none (Low r) l i m y f oi;
      deletes = od;
      names = omega arith;
      holds = same-held (ap (λ (x : List Spot). merged x (held p)) e ∙ merged-none (held p)) (ap (λ (x : List Spot). merged x (held i)) f ∙ merged-none (held i)) refl ∙ g;
    }

-- a turn with s, which makes c' of c; its key is taken out of D
module _ {r : ℕ} {p₀ i₀ : SpotBuffer} {d₀ : KeyBuffer} {c c' : Held} {m m' : ℕ} (p i : SpotBuffer) (d : KeyBuffer) (h l : SpotBuffer) (g : Gathered r p₀ i₀ d₀ c m p i d h l)
    (s : Spot) (more : m + 1 ≤ m') (turn : (b : Held) → b ≡ insert_one r s (buffers (joined h p) (joined l i) (named d)) → b ≡ c')
    (d' : KeyBuffer) (dn : d'.n ≤ d.n) (de : named d' ≡ keep (but s.key) (named d)) (du : OrderedKeys d') where
  -- a turn for P
  pub gathered-high : (i' o h' : SpotBuffer) → r ≤ rank_key s.key → i'.n ≤ i.n → held i' ≡ only (but s.key) (held i) → Ordered i'
      → o.n ≤ h.n → held o ≡ only (but s.key) (held h) → h'.n ≡ o.n + 1 → held h' ≡ put s (held o) → Ordered h'
      → Gathered r p₀ i₀ d₀ c' m' p i' d' h' l
  gathered-high i' o h' t a e u b f z k v =
      record {
        high = part-more (High r) h p g.high more s o h' t b f z k v;
        low = part-less (Low r) l i g.low more i' a u;
        deletes = du;
        names = omega (arith, g.names);
        holds = turn (buffers (joined h' p) (joined l i') (named d'))
            (inserted-high r s (buffers (joined h p) (joined l i) (named d)) t refl (joined-more (High r) h p g.high s f k)
            (joined-less (Low r) l i g.low s.key (λ (x : rank_key s.key < r). omega arith) e) de);
      }

  -- and one for I
  pub gathered-low : (p' o l' : SpotBuffer) → rank_key s.key < r → p'.n ≤ p.n → held p' ≡ only (but s.key) (held p) → Ordered p'
      → o.n ≤ l.n → held o ≡ only (but s.key) (held l) → l'.n ≡ o.n + 1 → held l' ≡ put s (held o) → Ordered l'
      → Gathered r p₀ i₀ d₀ c' m' p' i d' h l'
  gathered-low p' o l' t a e u b f z k v =
      record {
        high = part-less (High r) h p g.high more p' a u;
        low = part-more (Low r) l i g.low more s o l' t b f z k v;
        deletes = du;
        names = omega (arith, g.names);
        holds = turn (buffers (joined h p') (joined l' i) (named d'))
            (inserted-low r s (buffers (joined h p) (joined l i) (named d)) t
            (joined-less (High r) h p g.high s.key (λ (x : r ≤ rank_key s.key). omega arith) e) refl (joined-more (Low r) l i g.low s f k) de);
      }

-- after the last, with both parts brought in
pub gathered-all : (r : ℕ) (n : NodeValue) (p i : SpotBuffer) (d : KeyBuffer) (h l p' i' : SpotBuffer) {c : Held} {m : ℕ} → Gathered r n.points n.inserts n.deletes c m p i d h l
    → p'.n ≤ h.n + p.n → held p' ≡ joined h p → Ordered p' → i'.n ≤ l.n + i.n → held i' ≡ joined l i → Ordered i'
    → Edited n (record { level = n.level; entries = n.entries; points = p'; inserts = i'; deletes = d }) c (n.points.n + m) (n.inserts.n + m) n.deletes.n
gathered-all r n p i d h l p' i' g a e u b f v =
    record {
      holds = same-held e f refl ∙ g.holds;
      tidy = record { points = u; inserts = v; deletes = g.deletes };
      entries = refl;
      level = refl;
      points = omega (arith, g.high.few, g.high.fits);
      inserts = omega (arith, g.low.few, g.low.fits);
      deletes = g.names;
    }
