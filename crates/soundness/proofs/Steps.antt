-- The check of a part, one node and then its children: what `sound_walk` answers at each of its returns.
-- Assumes nothing.
use mathlib.Core.Path.{◌≡◌, refl, ap, ap₂, sym, subst, ◌∙◌}
use Rattle.std.specs.Prelude.{unwrap_or}
use mathlib.Core.Bool.{Bool, true, false, not, ◌&&◌, and-false, false≢true}
use mathlib.Core.List.{List, [], ◌∷◌}
use Prim.Native.Nat.{ℕ, suc, ◌+◌, ◌-◌, ◌*◌, ◌≤◌, ◌<◌}
use native.Mathlib.Omega.{arith}
use lib.ListN.{length, drop}
use Rattle.octets.specs.Lists.{every, all}
use Rattle.octets.specs.Bitmap.{bit, set_bit}
use Rattle.octets.proofs.Bits.{set_bit-length}
use Rattle.block.specs.declared.Entry.{Entry}
use Rattle.block.specs.declared.Asked.{Asked}
use Rattle.block.specs.declared.Asked.TheVariants.{Root, Child}
use Rattle.block.specs.Table.{blocks_of}
use Rattle.block.specs.Node.{store_of}
use Rattle.block.specs.NodeRules.{node_ok}
use Rattle.block.specs.Access.{front_of, EntryIs}
use Rattle.tree.specs.Part.{Part, parts}
use Rattle.tree.specs.Reach.{gather, reach}
use Rattle.tree.specs.Sound.{in_range, sound_at}
use Rattle.tree.specs.Trace.{unseen}
use Rattle.tree.proofs.MapBits.{Fit, unseen-cons}
use Rattle.tree.proofs.Sources.{reach-low, room-is}
use Rattle.query.proofs.Threads.{fresh, Threaded, thread-next, thread-stop, thread-end}
use Rattle.visit.specs.declared.Span.{Span}
use Rattle.visit.specs.Visit.{end_of, part_of, child_span, entries_in}
use Rattle.visit.proofs.Children.{lent, lent-parts, lent_none, lent-low, lent_level}
use Rattle.soundness.specs.Checks.{Checked, Checkable}

-- the children of the node at b from the i-th on
abbrev pub left : List ℕ → ℕ → Span → ℕ → ℕ → List Part
left t b span lo i = parts lo (end_of span) (drop i (store_of t b).entries)

-- what is asked of the children together
abbrev pub kids_fresh : List ℕ → ℕ → ℕ → Span → List ℕ → Bool
kids_fresh t b level span map = fresh (sound_at level (store_of t)) (reach level (store_of t)) map (left t b span span.lo 0)

module _ (t map : List ℕ) (b level : ℕ) (a : Asked) (span : Span) (pre : Checkable t map b level) where
  low : b < 8 * length map
  low = omega (arith, pre.inside, pre.blocks, pre.mapped)

  step : sound_at (suc level) (store_of t) (part_of b a span) && unseen map (reach (suc level) (store_of t) (part_of b a span))
      ≡ not (bit map b) && (node_ok level a (store_of t b) && (in_range (part_of b (Root b) span) (store_of t b) && kids_fresh t b level span (set_bit map b)))
  unfolding sound_at reach all in_range
  step =
      let n = node_ok level a (store_of t b) in
      let r = in_range (part_of b (Root b) span) (store_of t b) in
      let e = every (sound_at level (store_of t)) (left t b span span.lo 0) in
      let bs = gather (reach level (store_of t)) (left t b span span.lo 0) in
      ap (λ (u : Bool). (n && (r && (e && true))) && u) (unseen-cons map b bs low)
      ∙ go n r e (not (bit map b)) (unseen (set_bit map b) bs)
    where
      go : (n r e s u : Bool) → (n && (r && (e && true))) && (s && u) ≡ s && (n && (r && (e && u)))
      go true true true s u = refl
      go true true false s u = sym (and-false s)
      go true false e s u = sym (and-false s)
      go false r e s u = sym (and-false s)

  -- a return of false
  module _ {map' : List ℕ} (sized : length map' ≡ length map) where
    no_part : sound_at (suc level) (store_of t) (part_of b a span) && unseen map (reach (suc level) (store_of t) (part_of b a span)) ≡ false
        → Checked t map map' (suc level) (part_of b a span) false
    no_part e = record { ok = sym e; sized = sized; seen = λ q. absurd (false≢true q) }

    pub no-twice : bit map b ≡ true → Checked t map map' (suc level) (part_of b a span) false
    no-twice e = no_part (step ∙ ap (λ (s : Bool). not s && (node_ok level a (store_of t b) && (in_range (part_of b (Root b) span) (store_of t b) && kids_fresh t b level span (set_bit map b)))) e)

    pub no_node : node_ok level a (store_of t b) ≡ false → Checked t map map' (suc level) (part_of b a span) false
    no_node e =
        no_part (step ∙ ap (λ (n : Bool). not (bit map b) && (n && (in_range (part_of b (Root b) span) (store_of t b) && kids_fresh t b level span (set_bit map b)))) e ∙ and-false (not (bit map b)))

    pub no-range : in_range (part_of b (Root b) span) (store_of t b) ≡ false → Checked t map map' (suc level) (part_of b a span) false
    no-range e =
        no_part (
        step ∙ ap (λ (r : Bool). not (bit map b) && (node_ok level a (store_of t b) && (r && kids_fresh t b level span (set_bit map b)))) e
        ∙ ap (λ (x : Bool). not (bit map b) && x) (and-false (node_ok level a (store_of t b)))
        ∙ and-false (not (bit map b)))

    pub no_kids : kids_fresh t b level span (set_bit map b) ≡ false → Checked t map map' (suc level) (part_of b a span) false
    no_kids e =
        no_part (
        step ∙ ap (λ (k : Bool). not (bit map b) && (node_ok level a (store_of t b) && (in_range (part_of b (Root b) span) (store_of t b) && k))) e
        ∙ ap (λ (x : Bool). not (bit map b) && (node_ok level a (store_of t b) && x)) (and-false (in_range (part_of b (Root b) span) (store_of t b)))
        ∙ ap (λ (x : Bool). not (bit map b) && x) (and-false (node_ok level a (store_of t b)))
        ∙ and-false (not (bit map b)))

  -- a return of true
  pub whole_part : {map' : List ℕ} → bit map b ≡ false → node_ok level a (store_of t b) ≡ true → in_range (part_of b (Root b) span) (store_of t b) ≡ true
      → Threaded (sound_at level (store_of t)) (reach level (store_of t)) (set_bit map b) map' (left t b span span.lo 0) []
      → Checked t map map' (suc level) (part_of b a span) true
  unfolding reach
  whole_part s n r h =
      record {
        ok =
            sym (
            step
            ∙ ap (λ (x : Bool). not x && (node_ok level a (store_of t b) && (in_range (part_of b (Root b) span) (store_of t b) && kids_fresh t b level span (set_bit map b)))) s
            ∙ ap₂ (λ (x y : Bool). x && (y && kids_fresh t b level span (set_bit map b))) n r
            ∙ thread-end (sound_at level (store_of t)) (reach level (store_of t)) h);
        sized = h.sized ∙ set_bit-length map b;
        seen = λ q. sym h.seen;
      }

-- ---- a child

-- the i-th child of a node that keeps the rules, and the walk of those before it
pub record Kid (t seen₀ seen : List ℕ) (b level : ℕ) (a : Asked) (span : Span) (lo i : ℕ) (e : Entry) (part : Span) : Type 0 where
  pub few : blocks_of (length t) ≤ 4096
  pub deep : level ≤ 6
  pub mapped : length seen₀ ≡ 512
  pub ok : node_ok level a (store_of t b) ≡ true
  pub below : i < (front_of (lent t b)).c
  pub entry : EntryIs (lent t b) i e
  pub range : part ≡ child_span (entries_in (lent t b)) i lo span
  pub thread : Threaded (sound_at level (store_of t)) (reach level (store_of t)) seen₀ seen (left t b span span.lo 0) (left t b span lo i)

module _ {t seen₀ seen : List ℕ} {b level : ℕ} {a : Asked} {span : Span} {lo i : ℕ} {e : Entry} {part : Span} (k : Kid t seen₀ seen b level a span lo i e part) where
  kid-low : e.block < blocks_of (length t)
  kid-low = lent-low t b level a k.ok i k.below k.entry

  pub kid-level : 1 ≤ level
  kid-level = lent_level t b level a k.ok i k.below k.entry

  pub kid-asks : Checkable t seen e.block (level - 1)
  kid-asks = record { inside = kid-low; blocks = k.few; mapped = k.thread.sized ∙ k.mapped; deep = omega (arith, k.deep) }

  -- the child is the first of those left
  kid-first : Threaded (sound_at level (store_of t)) (reach level (store_of t)) seen₀ seen (left t b span span.lo 0)
      (part_of e.block (Child e) part ∷ left t b span (unwrap_or part.hi lo) (i + 1))
  kid-first =
      subst (λ (ps : List Part). Threaded (sound_at level (store_of t)) (reach level (store_of t)) seen₀ seen (left t b span span.lo 0) ps)
      (lent-parts t b i lo span k.below k.entry k.range)
      k.thread

  kid-fits : sound_at level (store_of t) (part_of e.block (Child e) part) ≡ true → Fit (reach level (store_of t) (part_of e.block (Child e) part)) (length seen)
  kid-fits s z j =
      omega (
        arith,
        reach-low (blocks_of (length t)) (store_of t) (room-is t) level (part_of e.block (Child e) part) s kid-low z j,
        k.thread.sized,
        k.mapped,
        k.few,
      )

  module _ {seen' : List ℕ} {r : Bool} (h : Checked t seen seen' (suc (level - 1)) (part_of e.block (Child e) part) r) where
    same : Checked t seen seen' level (part_of e.block (Child e) part) r
    same =
        let z : suc (level - 1) ≡ level = omega (arith, kid-level) in
        subst (λ (l : ℕ). Checked t seen seen' l (part_of e.block (Child e) part) r) z h

    pub kid-next : r ≡ true
        → Threaded (sound_at level (store_of t)) (reach level (store_of t)) seen₀ seen' (left t b span span.lo 0) (left t b span (unwrap_or part.hi lo) (i + 1))
    kid-next y = thread-next (sound_at level (store_of t)) (reach level (store_of t)) kid-first kid-fits same.ok y (same.seen y)

    pub kid-stop : r ≡ false → kids_fresh t b level span seen₀ ≡ false
    kid-stop y = thread-stop (sound_at level (store_of t)) (reach level (store_of t)) kid-first kid-fits same.ok y

-- no child is left
pub kids-done : (t : List ℕ) (b level : ℕ) (span : Span) (lo i : ℕ) {seen₀ seen' map : List ℕ} → seen₀ ≡ map → (front_of (lent t b)).c ≤ i
    → Threaded (sound_at level (store_of t)) (reach level (store_of t)) seen₀ seen' (left t b span span.lo 0) (left t b span lo i)
    → Threaded (sound_at level (store_of t)) (reach level (store_of t)) map seen' (left t b span span.lo 0) []
kids-done t b level span lo i {seen₀} {seen'} {map} e l h =
    subst (λ (m : List ℕ). Threaded (sound_at level (store_of t)) (reach level (store_of t)) m seen' (left t b span span.lo 0) []) e
    (subst (λ (ps : List Part). Threaded (sound_at level (store_of t)) (reach level (store_of t)) seen₀ seen' (left t b span span.lo 0) ps) (lent_none t b i lo span l) h)
