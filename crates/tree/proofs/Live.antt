-- On a sound table a walk finds exactly the live spots that the query wants, in place order, and is whole.
-- Assumes nothing.
use mathlib.Core.Path.{◌≡◌, refl, ap, sym, ◌∙◌, subst⁻¹}
use mathlib.Core.Logic.{⊎_elim}
use mathlib.Core.Bool.{Bool, true, false, cond, not, ◌&&◌, ◌||◌, true≢false, false≢true}
use mathlib.Core.List.{List, [], ◌∷◌, ◌++◌}
use mathlib.Core.Option.{Option, none, some, none-ne-some}
use Prim.Native.Nat.{ℕ, zero, suc, ◌≤◌, ◌<◌}
use native.Mathlib.Omega.{arith}
use borrow.Author.Tests.{eqb-false, leb-true, ne_eqb, le-leb, not-true}
use lib.Dec.{eqb}
use Rattle.octets.specs.Lists.{all, every, keep, has, distinct, rising}
use Rattle.octets.proofs.Tests.{all-at, all_cons, all_nil, and_left, and_right, neither}
use Rattle.octets.proofs.Order.{less-or-not}
use Rattle.octets.proofs.Sets.{has-append, every-has, distinct-left}
use Rattle.spot.specs.declared.Spot.{Spot}
use Rattle.spot.specs.Spots.{keys, find, put_all}
use Rattle.spot.specs.Keys.{rank_key, rank_of, within}
use Rattle.spot.specs.declared.Query.{Query}
use Rattle.spot.specs.Query.{least_of, wants_key}
use Rattle.spot.proofs.Canon.{cond-none, find-only}
use Rattle.spot.proofs.Places.{within-yes, within_low, within-high, within-from, within-to, meets_at, wants-placed, wants-rank}
use Rattle.spot.proofs.Buffers.{keys-append, keep-distinct, put_all-rises}
use Rattle.block.specs.declared.Entry.{Entry}
use Rattle.block.specs.Node.{Node, Store}
use Rattle.block.specs.declared.Asked.TheVariants.{Child}
use Rattle.block.specs.NodeRules.{names, node_ok, lows_rise, named_once}
use Rattle.tree.specs.Part.{Part, next_low, parts, children, Steps}
use Rattle.tree.specs.Lookup.{or_else, down, lookup, is_live}
use Rattle.tree.specs.Sound.{sound_at, in_range}
use Rattle.tree.specs.Walk.{Walk, walked, takes, takes_key, topped, admits, finds, through, enter, walk}
use Rattle.tree.proofs.Below.{under_live, node-sound, entry_top}
use Rattle.tree.proofs.Ranges.{next_le, steps_of, down-in}
use Rattle.tree.proofs.Says.{has-keys, has-names, not_named, find-append, find-put_all}

abbrev Step : Type 0
Step = Part → Walk → Walk

-- where k lies: below, in, or past a range
data Lies (lo hi k : ℕ) : Type 0 where
  under : k < lo → Lies lo hi k
  inside : lo ≤ k → k < hi → Lies lo hi k
  past : lo ≤ k → hi ≤ k → Lies lo hi k

lies : (lo hi k : ℕ) → Lies lo hi k
lies lo hi k = ⊎_elim (λ a. ⊎_elim (λ b. past a b) (λ b. inside a b) (less-or-not hi k)) (λ a. under a) (less-or-not lo k)

-- an entry that a query goes down into has points, and a top of the rank asked
pub topped-size : (q : Query) (e : Entry) → topped q (Child e) ≡ true → e.size ≡ 0 → ⊥
unfolding topped
topped-size q e h = eqb-false e.size 0 (not-true (eqb e.size 0) (all-at _ h 0))

pub topped-rank : (q : Query) (e : Entry) → topped q (Child e) ≡ true → least_of q ≤ rank_of e.top
unfolding topped
topped-rank q e h = leb-true (least_of q) (rank_of e.top) (all-at _ h 1)

pub topped-made : (q : Query) (e : Entry) → (e.size ≡ 0 → ⊥) → least_of q ≤ rank_of e.top → topped q (Child e) ≡ true
unfolding topped
topped-made q e z h = all_cons _ _ (ap not (ne_eqb e.size 0 z)) (all_cons _ _ (le-leb (least_of q) (rank_of e.top) h) all_nil)

-- one that leads to a wanted key is such
tall : (q : Query) (e : Entry) (k : ℕ) → (e.size ≡ 0 → ⊥) → rank_key k ≤ rank_key e.top → wants_key q k ≡ true → topped q (Child e) ≡ true
tall q e k z h w = let r = wants-rank q k w in topped-made q e z (omega arith)

admitted : (q : Query) (c : Part) (k : ℕ) → topped q c.asked ≡ true → within c.lo c.hi k ≡ true → wants_key q k ≡ true → admits q c ≡ true
unfolding admits
admitted q c k t w h = all_cons _ _ t (all_cons _ _ (meets_at q c.lo c.hi k w (wants-placed q k h)) all_nil)

-- a child that the query doesn't admit has nothing that it wants
prune : (q : Query) (l : ℕ) (m : Store) (c : Part) (e : Entry) → c.asked ≡ Child e → sound_at l m c ≡ true → admits q c ≡ false
    → (k : ℕ) → within c.lo c.hi k ≡ true → wants_key q k ≡ true → lookup l m k c ≡ none
prune q l m c e asks s out k w h = go (lookup l m k c) refl
  where
    go : (o : Option ℕ) → lookup l m k c ≡ o → lookup l m k c ≡ none
    go none g = g
    go (some a) g =
        let u = under_live l m k c s g in
        let t = entry_top e (m c.block) (rw asks at (node-sound l m c s).entry) u.held in
        let lower : rank_key k ≤ rank_key e.top = omega (arith, t.1, u.below) in
        absurd (true≢false (sym (admitted q c k (rw asks (tall q e k t.0 lower h)) w h) ∙ out))

-- before a part is walked: the list rises, and holds no key of the range that isn't named above
pub record Ready (lo hi : ℕ) (named : List ℕ) (acc : List Spot) : Type 0 where
  pub up : rising (keys acc) ≡ true
  pub apart : (k : ℕ) → within lo hi k ≡ true → has k named ≡ false → find k acc ≡ none

-- the keys that a walk of a range takes
abbrev pub sel : Query → List ℕ → ℕ → ℕ → ℕ → Bool
sel q named lo hi k = within lo hi k && takes_key q named k

-- after it: the walk is whole, the list rises, and finds what `look` finds at those keys, and elsewhere what it found before
pub record Found (q : Query) (named : List ℕ) (lo hi : ℕ) (look : ℕ → Option ℕ) (acc : List Spot) (w : Walk) : Type 0 where
  pub after : List Spot
  pub blocks : List ℕ
  pub is : w ≡ walked after blocks
  pub up : rising (keys after) ≡ true
  pub found : (k : ℕ) → find k after ≡ cond (sel q named lo hi k) (look k) (find k acc)

takes-named : (q : Query) (named : List ℕ) (k : ℕ) → takes_key q named k ≡ true → has k named ≡ false
unfolding takes_key
takes-named q named k h = not-true (has k named) (all-at _ h 1)

takes-wants : (q : Query) (named : List ℕ) (k : ℕ) → takes_key q named k ≡ true → wants_key q k ≡ true
unfolding takes_key
takes-wants q named k h = all-at _ h 0

-- nothing to walk: what would be looked up is nothing
none_found : (q : Query) (named : List ℕ) (lo hi : ℕ) (look : ℕ → Option ℕ) (acc : List Spot) (bs : List ℕ) → Ready lo hi named acc
    → ((k : ℕ) → within lo hi k ≡ true → wants_key q k ≡ true → look k ≡ none)
    → Found q named lo hi look acc (walked acc bs)
none_found q named lo hi look acc bs r h = record { after = acc; blocks = bs; is = refl; up = r.up; found = λ k. go k (within lo hi k) refl (takes_key q named k) refl }
  where
    go : (k : ℕ) (a : Bool) → within lo hi k ≡ a → (b : Bool) → takes_key q named k ≡ b → find k acc ≡ cond (a && b) (look k) (find k acc)
    go k true i true t = r.apart k i (takes-named q named k t) ∙ sym (h k i (takes-wants q named k t))
    go k true i false t = refl
    go k false i b t = refl

-- one range after the other
module _ (q : Query) (named : List ℕ) (lo mid hi : ℕ) (lm : lo ≤ mid) (mh : mid ≤ hi) (first second : ℕ → Option ℕ) (acc : List Spot) (v : Walk) (a : Found q named lo mid first acc v) where
  ready-next : Ready lo hi named acc → Ready mid hi named a.after
  ready-next r = record { up = a.up; apart = λ k w n. a.found k ∙ rw (within-high lo mid k (within-from mid hi k w)) (r.apart k (within-yes lo hi k (omega (arith, within-from mid hi k w)) (within-to mid hi k w)) n) }

  join-found : (w : Walk) → Found q named mid hi second a.after w → Found q named lo hi (λ k. cond (within lo mid k) (first k) (second k)) acc w
  join-found w b = record { after = b.after; blocks = b.blocks; is = b.is; up = b.up; found = λ k. b.found k ∙ go k (lies lo mid k) }
    where
      go : (k : ℕ) → Lies lo mid k → cond (sel q named mid hi k) (second k) (find k a.after) ≡ cond (sel q named lo hi k) (cond (within lo mid k) (first k) (second k)) (find k acc)
      go k (under x) = rw (within_low mid hi k (omega arith), a.found k, within_low lo mid k x, within_low lo hi k x)
      go k (inside x y) = rw (within_low mid hi k y, a.found k, within-yes lo mid k x y, within-yes lo hi k x (omega arith))
      go k (past x y) = rw (a.found k, within-high lo mid k y) (later k y (lies mid hi k))
        where
          later : (k : ℕ) → mid ≤ k → Lies mid hi k → cond (sel q named mid hi k) (second k) (find k acc) ≡ cond (sel q named lo hi k) (second k) (find k acc)
          later k y (under z) = let e : ⊥ = omega arith in absurd e
          later k y (inside z u) = rw (within-yes mid hi k z u, within-yes lo hi k (omega arith) u)
          later k y (past z u) = rw (within-high mid hi k u, within-high lo hi k u)

-- the children, from left to right
module _ (q : Query) (named : List ℕ) (l : ℕ) (m : Store) (deeper : (c : Part) (acc : List Spot) (bs : List ℕ) → sound_at l m c ≡ true → c.lo ≤ c.hi → Ready c.lo c.hi named acc → Found q named c.lo c.hi (λ k. lookup l m k c) acc (walk l m q named c (walked acc bs))) where
  children-found : (es : List Entry) (lo hi : ℕ) (acc : List Spot) (bs : List ℕ) → Steps lo hi es → every (sound_at l m) (parts lo hi es) ≡ true
      → Ready lo hi named acc
      → Found q named lo hi (λ k. down (lookup l m k) k (parts lo hi es)) acc (through (walk l m q named) (keep (admits q) (parts lo hi es)) (walked acc bs))
  children-found [] lo hi acc bs ch s r = none_found q named lo hi (λ k. none) acc bs r (λ k w h. refl)
  children-found (e ∷ es) lo hi acc bs ch s r =
      go (admits q c) refl (λ acc' bs' r'. children-found es mid hi acc' bs' ch.1 (and_right (sound_at l m c) (every (sound_at l m) (parts mid hi es)) s) r')
    where
      mid : ℕ
      mid = next_low es hi

      c : Part
      c = record { block = e.block; asked = Child e; lo = lo; hi = mid }

      f : Step
      f = walk l m q named

      first : lo ≤ mid
      first = ch.0

      last : mid ≤ hi
      last = next_le hi es ch.1

      sound-c : sound_at l m c ≡ true
      sound-c = and_left (sound_at l m c) (every (sound_at l m) (parts mid hi es)) s

      ready-c : Ready lo mid named acc
      ready-c = record { up = r.up; apart = λ k w n. r.apart k (within-yes lo hi k (within-from lo mid k w) (omega (arith, last, within-to lo mid k w))) n }

      Later : Type 0
      Later =
          (acc' : List Spot) (bs' : List ℕ) → Ready mid hi named acc'
          → Found q named mid hi (λ k. down (lookup l m k) k (parts mid hi es)) acc' (through f (keep (admits q) (parts mid hi es)) (walked acc' bs'))

      -- this child, and then the others
      onward : (v : Walk) → Found q named lo mid (λ k. lookup l m k c) acc v → Later
          → Found q named lo hi (λ k. down (lookup l m k) k (c ∷ parts mid hi es)) acc (through f (keep (admits q) (parts mid hi es)) v)
      onward v a ih =
          join-found q named lo mid hi first last (λ k. lookup l m k c) (λ k. down (lookup l m k) k (parts mid hi es)) acc v a _
          (subst⁻¹ (λ (x : Walk). Found q named mid hi (λ k. down (lookup l m k) k (parts mid hi es)) a.after (through f (keep (admits q) (parts mid hi es)) x)) a.is
          (ih a.after a.blocks (ready-next q named lo mid hi first last (λ k. lookup l m k c) (λ k. none) acc v a r)))

      go : (b : Bool) → admits q c ≡ b → Later
          → Found q named lo hi (λ k. down (lookup l m k) k (c ∷ parts mid hi es)) acc
          (through f (cond b (c ∷ keep (admits q) (parts mid hi es)) (keep (admits q) (parts mid hi es))) (walked acc bs))
      go true ad ih = onward (f c (walked acc bs)) (deeper c acc bs sound-c first ready-c) ih
      go false ad ih =
          onward (walked acc bs) (none_found q named lo mid (λ k. lookup l m k c) acc bs ready-c (λ k w h. prune q l m c e refl sound-c ad k w h)) ih

-- what a node adds, as a law of tests: W in the range, T wanted, C named above; what P, I and the children give, and what was found before
node_law : (W T C : Bool) (oP oI : Option ℕ) (hD : Bool) (dn fa : Option ℕ) → (W ≡ false → is_live oP ≡ false) → (W ≡ false → is_live oI ≡ false)
    → (W ≡ true → C ≡ false → fa ≡ none)
    → cond (W && all (T ∷ not (((is_live oP || is_live oI) || hD) || C) ∷ [])) dn (or_else (cond (all (T ∷ not C ∷ [])) (or_else oP oI) none) fa)
    ≡ cond (W && all (T ∷ not C ∷ [])) (or_else oP (or_else oI (cond hD none dn))) fa
unfolding all
node_law false T C (some a) oI hD dn fa p i n = absurd (true≢false (p refl))
node_law false T C none (some a) hD dn fa p i n = absurd (true≢false (i refl))
node_law false T C none none hD dn fa p i n = ap (λ (o : Option ℕ). or_else o fa) (cond-none (T && (not C && true)))
node_law true false C oP oI hD dn fa p i n = refl
node_law true true true (some a) oI hD dn fa p i n = refl
node_law true true true none (some a) hD dn fa p i n = refl
node_law true true true none none true dn fa p i n = refl
node_law true true true none none false dn fa p i n = refl
node_law true true false (some a) oI hD dn fa p i n = refl
node_law true true false none (some a) hD dn fa p i n = refl
node_law true true false none none true dn fa p i n = n refl refl
node_law true true false none none false dn fa p i n = refl

-- the part of a sound node's rules that a walk needs
pub record Node· (p : Part) (n : Node) : Type 0 where
  pub once : distinct (names n) ≡ true
  pub place : every (within p.lo p.hi) (names n) ≡ true

-- from the rules of a sound part
pub node-rules : (l : ℕ) (m : Store) (p : Part) → sound_at (suc l) m p ≡ true → Node· p (m p.block)
unfolding sound_at node_ok lows_rise named_once in_range
node-rules l m p h =
    let ok = all-at _ h 0 in
    let ranges = all-at _ h 1 in
    record { once = all-at _ ok 4; place = all-at _ ranges 0 }

module _ (q : Query) (named : List ℕ) (p : Part) (n : Node) (ru : Node· p n) (acc : List Spot) (r : Ready p.lo p.hi named acc) where
  own : List Spot
  own = finds q named n

  find-own : (k : ℕ) → find k own ≡ cond (takes_key q named k) (or_else (find k n.points) (find k n.inserts)) none
  unfolding own finds
  find-own k = find-only (takes_key q named) k (n.points ++ n.inserts) ∙ rw (find-append k n.points n.inserts)

  -- outside the range nothing is named
  outside : (k : ℕ) → within p.lo p.hi k ≡ false → has k (names n) ≡ false
  outside k w = go (has k (names n)) refl
    where
      go : (b : Bool) → has k (names n) ≡ b → has k (names n) ≡ false
      go true e = absurd (true≢false (sym (every-has (within p.lo p.hi) k (names n) ru.place e) ∙ w))
      go false e = e

  own-once : distinct (keys own) ≡ true
  unfolding own finds names
  own-once =
      keep-distinct (takes q named) (n.points ++ n.inserts)
      (rw (keys-append n.points n.inserts) (distinct-left (keys n.points ++ keys n.inserts) n.deletes ru.once))

  own_new : (k : ℕ) → has k (keys own) ≡ true → find k acc ≡ none
  own_new k h = go (takes_key q named k) refl (within p.lo p.hi k) refl
    where
      shown : is_live (cond (takes_key q named k) (or_else (find k n.points) (find k n.inserts)) none) ≡ true
      shown = ap is_live (sym (find-own k)) ∙ sym (has-keys k own) ∙ h

      go : (t : Bool) → takes_key q named k ≡ t → (w : Bool) → within p.lo p.hi k ≡ w → find k acc ≡ none
      go true t true w = r.apart k w (takes-named q named k t)
      go true t false w =
          absurd
          (false≢true
          (rw (t, (not_named k n (outside k w)).0, (not_named k n (outside k w)).1) at shown))
      go false t w e = absurd (false≢true (rw t at shown))

  find-next : (k : ℕ) → find k (put_all own acc) ≡ or_else (cond (takes_key q named k) (or_else (find k n.points) (find k n.inserts)) none) (find k acc)
  find-next k = find-put_all k own acc ∙ rw (find-own k)

  ready-below : Ready p.lo p.hi (names n ++ named) (put_all own acc)
  ready-below =
      record {
        up = put_all-rises own acc r.up own-once own_new;
        apart =
            λ k w h.
            let e = sym (has-append k (names n) named) ∙ h in
            let here = neither (has k (names n)) (has k named) e in
            find-next k ∙
            rw ((not_named k n here.0).0, (not_named k n here.0).1, r.apart k w here.1)
            (ap (λ (o : Option ℕ). or_else o none) (cond-none (takes_key q named k)));
      }

  node-found : (k : ℕ) (dn : Option ℕ)
      → cond (sel q (names n ++ named) p.lo p.hi k) dn (find k (put_all own acc))
      ≡ cond (sel q named p.lo p.hi k) (or_else (find k n.points) (or_else (find k n.inserts) (cond (has k n.deletes) none dn))) (find k acc)
  unfolding takes_key
  node-found k dn =
      rw (find-next k, has-append k (names n) named, has-names k n)
      (node_law (within p.lo p.hi k) (wants_key q k) (has k named) (find k n.points) (find k n.inserts) (has k n.deletes) dn (find k acc)
      (λ w. ap is_live (not_named k n (outside k w)).0)
      (λ w. ap is_live (not_named k n (outside k w)).1)
      (λ w c. r.apart k w c))

-- a node that keeps the rules is entered
enter-ok : (ok : Bool) (f : Step) (ps : List Part) (ss : List Spot) (b : ℕ) (acc : List Spot) (bs : List ℕ) → ok ≡ true
    → enter ok f ps ss b (walked acc bs) ≡ through f ps (walked (put_all ss acc) (b ∷ bs))
unfolding enter
enter-ok true f ps ss b acc bs h = refl
enter-ok false f ps ss b acc bs h = absurd (false≢true h)

-- the walk of a sound part
pub walk-found : (l : ℕ) (m : Store) (q : Query) (named : List ℕ) (p : Part) (acc : List Spot) (bs : List ℕ) → sound_at l m p ≡ true → p.lo ≤ p.hi
    → Ready p.lo p.hi named acc
    → Found q named p.lo p.hi (λ k. lookup l m k p) acc (walk l m q named p (walked acc bs))
unfolding sound_at lookup walk own
walk-found zero m q named p acc bs s h r = absurd (false≢true s)
walk-found (suc l) m q named p acc bs s h r =
    let n = m p.block in
    let ru = node-rules l m p s in
    let cf =
    children-found q (names n ++ named) l m (λ c acc' bs' s' h' r'. walk-found l m q (names n ++ named) c acc' bs' s' h' r') n.entries p.lo p.hi
    (put_all (finds q named n) acc)
    (p.block ∷ bs)
    (steps_of l p n h (all-at _ s 0) (all-at _ s 1))
    (all-at _ s 2)
    (ready-below q named p n ru acc r) in
    record {
      after = cf.after;
      blocks = cf.blocks;
      is = enter-ok _ _ _ _ _ acc bs (all-at _ s 0) ∙ cf.is;
      up = cf.up;
      found = λ k. cf.found k ∙ node-found q named p n ru acc r k (down (lookup l m k) k (parts p.lo p.hi n.entries));
    }

-- what a part has live lies in its range
pub lookup-within : (l : ℕ) (m : Store) (k : ℕ) (p : Part) {a : ℕ} → sound_at l m p ≡ true → p.lo ≤ p.hi → lookup l m k p ≡ some a
    → within p.lo p.hi k ≡ true
unfolding lookup sound_at
lookup-within zero m k p s h e = absurd (false≢true s)
lookup-within (suc l) m k p {a} s h e = by_names (has k (names n)) refl
  where
    n : Node
    n = m p.block

    ru : Node· p n
    ru = node-rules l m p s

    by-deletes : (b : Bool) → cond b none (down (lookup l m k) k (children p n)) ≡ some a → within p.lo p.hi k ≡ true
    by-deletes true g = absurd (none-ne-some _ g)
    by-deletes false g = down-in (lookup l m k) k p.lo p.hi n.entries (steps_of l p n h (all-at _ s 0) (all-at _ s 1)) g

    by_names : (b : Bool) → has k (names n) ≡ b → within p.lo p.hi k ≡ true
    by_names true g = every-has (within p.lo p.hi) k (names n) ru.place g
    by_names false g =
        by-deletes (has k n.deletes) (rw ((not_named k n g).0, (not_named k n g).1) at e)
