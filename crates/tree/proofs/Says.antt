-- What lists of spots say of a key: its track, or nothing. The first of two that says something counts.
-- Assumes nothing.
use mathlib.Core.Path.{◌≡◌, refl, ap, sym, ◌∙◌}
use mathlib.Core.Bool.{Bool, true, false, cond, ◌||◌, true≢false}
use mathlib.Core.List.Memᴰ
use mathlib.Core.List.{List, [], ◌∷◌, ◌++◌, Memᴰ}
use mathlib.Core.Option.{Option, none, some}
use Prim.Native.Nat.{ℕ}
use native.Mathlib.Omega.{arith}
use lib.Dec.{eqb}
use borrow.Author.Tests.{eq-eqb}
use Rattle.octets.specs.Lists.{has, rising}
use Rattle.octets.proofs.Tests.{neither}
use Rattle.octets.proofs.Sets.{has-append}
use Rattle.spot.specs.declared.Spot.{Spot}
use Rattle.spot.specs.Spots.{keys, find, put, put_all, without}
use Rattle.spot.proofs.Canon.{find-put, find-without, put-rises, without-rises}
use Rattle.block.specs.Node.{Node}
use Rattle.block.specs.NodeRules.{names}
use Rattle.tree.specs.Lookup.{or_else, is_live}

-- a second choice by the same test changes nothing
cond-twice : (b : Bool) (x y z : Option ℕ) → cond b x (cond b y z) ≡ cond b x z
cond-twice true x y z = refl
cond-twice false x y z = refl

-- nothing is said
not_live : (o : Option ℕ) → is_live o ≡ false → o ≡ none
not_live none h = refl
not_live (some a) h = absurd (true≢false h)

or-live : (b : Bool) (t : ℕ) (o : Option ℕ) → b || is_live o ≡ is_live (cond b (some t) o)
or-live true t o = refl
or-live false t o = refl

-- a key is named where something is said of it
pub has-keys : (k : ℕ) (ss : List Spot) → has k (keys ss) ≡ is_live (find k ss)
has-keys k [] = refl
has-keys k (s ∷ ss) = ap (λ (b : Bool). eqb k s.key || b) (has-keys k ss) ∙ or-live (eqb k s.key) s.track (find k ss)

-- the names of a node
pub has-names : (k : ℕ) (n : Node) → has k (names n) ≡ ((is_live (find k n.points) || is_live (find k n.inserts)) || has k n.deletes)
unfolding names
has-names k n =
    has-append k (keys n.points ++ keys n.inserts) n.deletes ∙
    rw (has-append k (keys n.points) (keys n.inserts), has-keys k n.points, has-keys k n.inserts)

-- what is not named is said nothing of in P and I
pub not_named : (k : ℕ) (n : Node) → has k (names n) ≡ false → (find k n.points ≡ none) × (find k n.inserts ≡ none)
not_named k n h =
    let p = is_live (find k n.points) in
    let i = is_live (find k n.inserts) in
    let r = neither p i (neither (p || i) (has k n.deletes) (sym (has-names k n) ∙ h)).0 in
    (not_live (find k n.points) r.0, not_live (find k n.inserts) r.1)

-- what is named: a point
pub names-P : (n : Node) {k : ℕ} → Memᴰ k (keys n.points) → Memᴰ k (names n)
unfolding names
names-P n i = Memᴰ.append_left n.deletes (Memᴰ.append_left (keys n.inserts) i)

-- an insert
pub names-I : (n : Node) {k : ℕ} → Memᴰ k (keys n.inserts) → Memᴰ k (names n)
unfolding names
names-I n i = Memᴰ.append_left n.deletes (Memᴰ.append_right (keys n.points) i)

-- a delete
pub names-D : (n : Node) {k : ℕ} → Memᴰ k n.deletes → Memᴰ k (names n)
unfolding names
names-D n i = Memᴰ.append_right (keys n.points ++ keys n.inserts) i

-- a first spot that names the key counts before all others
pub else-cond : (b : Bool) (t : ℕ) (o r : Option ℕ) → cond b (some t) (or_else o r) ≡ or_else (cond b (some t) o) r
else-cond true t o r = refl
else-cond false t o r = refl

-- one list after the other
pub find-append : (k : ℕ) (xs ys : List Spot) → find k (xs ++ ys) ≡ or_else (find k xs) (find k ys)
find-append k [] ys = refl
find-append k (x ∷ xs) ys = ap (cond (eqb k x.key) (some x.track)) (find-append k xs ys) ∙ else-cond (eqb k x.key) x.track (find k xs) (find k ys)

-- one list put into the other
pub find-put_all : (k : ℕ) (own acc : List Spot) → find k (put_all own acc) ≡ or_else (find k own) (find k acc)
find-put_all k [] acc = refl
find-put_all k (s ∷ ss) acc =
    find-put k s (put_all ss acc) ∙ ap (cond (eqb k s.key) (some s.track)) (find-put_all k ss acc) ∙ else-cond (eqb k s.key) s.track (find k ss) (find k acc)

-- a spot put in for the one of its key
pub find-replaced : (j : ℕ) (s : Spot) (xs : List Spot) → find j (put s (without s.key xs)) ≡ cond (eqb j s.key) (some s.track) (find j xs)
find-replaced j s xs =
    find-put j s (without s.key xs) ∙ rw (find-without j s.key xs) (cond-twice (eqb j s.key) (some s.track) none (find j xs))

-- the list still rises
pub replaced-rises : (s : Spot) (xs : List Spot) → rising (keys xs) ≡ true → rising (keys (put s (without s.key xs))) ≡ true
replaced-rises s xs h =
    let gone : find s.key (without s.key xs) ≡ none = find-without s.key s.key xs ∙ rw (eq-eqb s.key s.key refl) in
    put-rises 0 s (without s.key xs) (omega arith) (without-rises 0 s.key xs h) gone
