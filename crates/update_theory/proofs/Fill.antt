-- One round of fill that takes the top t out of a child, for a node in memory over a store.
-- Assumes nothing.
use mathlib.Core.Path.{◌≡◌, refl, ap, sym, ◌∙◌}
use mathlib.Core.Logic.{◌⊎◌, inl, inr}
use mathlib.Core.Bool.{Bool, true, false, cond}
use mathlib.Core.List.{List, [], ◌∷◌, ◌++◌, Memᴰ}
use mathlib.Core.Option.{Option, none, some, some-ne-none}
use Prim.Native.Nat.{ℕ, ◌<◌, ◌≤◌}
use native.Mathlib.Omega.{arith}
use lib.Dec.{eqb}
use borrow.Author.Tests.{eq-eqb, ne_eqb}
use Rattle.octets.specs.Lists.{keep, has}
use Rattle.octets.proofs.Order.{same_or_not}
use Rattle.spot.specs.declared.Spot.{Spot}
use Rattle.spot.specs.Spots.{keys, find, put}
use Rattle.spot.specs.Keys.{rank_key, all_keys, within}
use Rattle.spot.specs.Sorted.{only, but, lower}
use Rattle.spot.proofs.Places.{within-from, within-to}
use Rattle.block.specs.declared.Entry.{Entry}
use Rattle.block.specs.Node.{Store}
use Rattle.tree.specs.Part.{parts, Steps}
use Rattle.tree.specs.Lookup.{lookup}
use Rattle.tree.proofs.Ranges.{down-in, down-at}
use Rattle.update_theory.specs.Held.{Held}
use Rattle.update_theory.specs.Change.{reaches, Changed}
use Rattle.update_theory.specs.Open.{under, Open}
use Rattle.update_theory.proofs.Spread.{child_at, child-in}
use Rattle.update_theory.proofs.Ready.{fill-I, fill-child, fill-dead, fill-ends, top_taken}
use Rattle.update_theory.proofs.Open.{open-held, after, open-child}

-- the part whose range holds the key says what is found
pub under-child : (l : ℕ) (m : Store) (lo hi : ℕ) (us vs : List Entry) (e : Entry) → Steps lo hi (us ++ (e ∷ vs)) → (k : ℕ)
    → within (child_at lo hi us vs e).lo (child_at lo hi us vs e).hi k ≡ true → under l m lo hi (us ++ (e ∷ vs)) k ≡ lookup l m k (child_at lo hi us vs e)
under-child l m lo hi us vs e st k w = down-at (lookup l m k) k lo hi (us ++ (e ∷ vs)) (child_at lo hi us vs e) st (child-in lo hi us vs e) w

-- TAKE TOP, at the node itself: its highest point (any point) goes, and is found no more
pub open-take : (l : ℕ) (m : Store) (lo hi : ℕ) → hi ≤ all_keys → (r : ℕ) (es : List Entry) (b : Held) (f : ℕ → Option ℕ) → Open l m lo hi r es b f → (t : ℕ) → Memᴰ t (keys b.points)
    → Open l m lo hi r es (record { points = only (but t) b.points; inserts = b.inserts; deletes = b.deletes }) (λ k. cond (eqb k t) none (f k))
open-take l m lo hi full r es b f o t i =
    let q = top_taken lo hi full r b.points b.inserts b.deletes (under l m lo hi es) o.ready t i in
    open-held l m lo hi r r es b (record { points = only (but t) b.points; inserts = b.inserts; deletes = b.deletes }) f (λ k. cond (eqb k t) none (f k)) o q.0
    (λ k w. q.1 k ∙ ap (cond (eqb k t) none) (o.found k w))

-- the last round: nothing in I, nothing below
pub open-ends : (l : ℕ) (m : Store) (lo hi : ℕ) → hi ≤ all_keys → (r : ℕ) (es : List Entry) (b : Held) (f : ℕ → Option ℕ) → Open l m lo hi r es b f → ((k : ℕ) → under l m lo hi es k ≡ none)
    → Open l m lo hi r es (record { points = b.points; inserts = b.inserts; deletes = [] }) f
open-ends l m lo hi full r es b f o e =
    let q = fill-ends lo hi full r b.points b.inserts b.deletes (under l m lo hi es) o.ready e in
    open-held l m lo hi r r es b (record { points = b.points; inserts = b.inserts; deletes = [] }) f f o q.0 (λ k w. q.1 k ∙ o.found k w)

-- from I, and t isn't below
pub open-fill-I : (l : ℕ) (m : Store) (lo hi : ℕ) → hi ≤ all_keys → (r : ℕ) (es : List Entry) (b : Held) (f : ℕ → Option ℕ) → Open l m lo hi r es b f → (s : Spot)
    → find s.key b.inserts ≡ some s.track → ((k : ℕ) → Memᴰ k (keys b.inserts) → rank_key k ≤ rank_key s.key)
    → ((k a : ℕ) → under l m lo hi es k ≡ some a → rank_key k ≤ rank_key s.key) → under l m lo hi es s.key ≡ none → within lo hi s.key ≡ true
    → Open l m lo hi (rank_key s.key) es (record { points = put s b.points; inserts = only (but s.key) b.inserts; deletes = keep (lower s.key) b.deletes }) f
open-fill-I l m lo hi full r es b f o s g top best gone w =
    let B = under l m lo hi es in
    let b' : Held = record { points = put s b.points; inserts = only (but s.key) b.inserts; deletes = keep (lower s.key) b.deletes } in
    let q = fill-I lo hi full r b.points b.inserts b.deletes B o.ready s.key w B gone (λ k n. refl) best (λ k a i. down-in (lookup l m k) k lo hi es o.steps i) s refl g top in
    open-held l m lo hi r (rank_key s.key) es b b' f f o q.0 (λ k v. q.1 k v ∙ o.found k v)

-- t is taken out of the child at e, whose entry becomes e'
module _ (l : ℕ) (New : ℕ → Type 0) (x y : Store) (lo hi : ℕ) (full : hi ≤ all_keys) (r : ℕ) (us vs : List Entry) (e e' : Entry) (b : Held) (f : ℕ → Option ℕ) (t : ℕ)
    (low : e'.low ≡ e.low) (o : Open l x lo hi r (us ++ (e ∷ vs)) b f)
    (fresh : (z : ℕ) → New z → Memᴰ z (reaches l x (parts lo hi (us ++ (e ∷ vs)))) → ⊥)
    (c : Changed l New x (child_at lo hi us vs e ∷ []) y (parts (child_at lo hi us vs e).lo (child_at lo hi us vs e).hi (e' ∷ [])) (λ k. cond (eqb k t) none (lookup l x k (child_at lo hi us vs e))))
    (holds : within (child_at lo hi us vs e).lo (child_at lo hi us vs e).hi t ≡ true)
    (best : (k a : ℕ) → under l x lo hi (us ++ (e ∷ vs)) k ≡ some a → rank_key k ≤ rank_key t)
    (wt : within lo hi t ≡ true) where
  abbrev g : ℕ → Option ℕ
  g k = cond (eqb k t) none (lookup l x k (child_at lo hi us vs e))

  abbrev B₀ : ℕ → Option ℕ
  B₀ = under l x lo hi (us ++ (e ∷ vs))

  abbrev B₁ : ℕ → Option ℕ
  B₁ = after l New x y lo hi r us vs e e' [] b f g low o fresh c

  gone : B₁ t ≡ none
  gone = rw (holds, eq-eqb t t refl)

  stays : (k : ℕ) → (k ≡ t → ⊥) → B₁ k ≡ B₀ k
  stays k n = go (within (child_at lo hi us vs e).lo (child_at lo hi us vs e).hi k) refl
    where
      go : (q : Bool) → within (child_at lo hi us vs e).lo (child_at lo hi us vs e).hi k ≡ q → cond q (g k) (B₀ k) ≡ B₀ k
      go true w = rw (ne_eqb k t n) (sym (under-child l x lo hi us vs e o.steps k w))
      go false w = refl

  inn : (k a : ℕ) → B₁ k ≡ some a → within lo hi k ≡ true
  inn k a h = go (same_or_not k t)
    where
      go : (k ≡ t) ⊎ (k ≡ t → ⊥) → within lo hi k ≡ true
      go (inl i) = absurd (some-ne-none _ (sym h ∙ ap B₁ i ∙ gone))
      go (inr n) = down-in (lookup l x k) k lo hi (us ++ (e ∷ vs)) o.steps (sym (stays k n) ∙ h)

  one : Steps (child_at lo hi us vs e).lo (child_at lo hi us vs e).hi (e' ∷ [])
  one = let u = within-from _ _ t holds in let v = within-to _ _ t holds in (omega arith, tt)

  -- from I, and the older copy is dropped
  pub open-fill-both : (s : Spot) → s.key ≡ t → find t b.inserts ≡ some s.track → ((k : ℕ) → Memᴰ k (keys b.inserts) → rank_key k ≤ rank_key t)
      → Open l y lo hi (rank_key t) (us ++ ((e' ∷ []) ++ vs)) (record { points = put s b.points; inserts = only (but t) b.inserts; deletes = keep (lower t) b.deletes }) f
  open-fill-both s i h top =
      let b' : Held = record { points = put s b.points; inserts = only (but t) b.inserts; deletes = keep (lower t) b.deletes } in
      let q = fill-I lo hi full r b.points b.inserts b.deletes B₀ o.ready t wt B₁ gone stays best inn s i h top in
      open-child l New x y lo hi r us vs e e' [] b f g low o fresh c one (rank_key t) b' f q.0 (λ k w. q.1 k w ∙ o.found k w)

  -- from a child, and D doesn't name it
  pub open-fill-child : (s : Spot) → s.key ≡ t → B₀ t ≡ some s.track → ((k : ℕ) → Memᴰ k (keys b.inserts) → rank_key k < rank_key t) → has t b.deletes ≡ false
      → Open l y lo hi (rank_key t) (us ++ ((e' ∷ []) ++ vs)) (record { points = put s b.points; inserts = b.inserts; deletes = keep (lower t) b.deletes }) f
  open-fill-child s i h top d =
      let b' : Held = record { points = put s b.points; inserts = b.inserts; deletes = keep (lower t) b.deletes } in
      let q = fill-child lo hi full r b.points b.inserts b.deletes B₀ o.ready t wt B₁ gone stays best inn s i h top d in
      open-child l New x y lo hi r us vs e e' [] b f g low o fresh c one (rank_key t) b' f q.0 (λ k w. q.1 k w ∙ o.found k w)

  -- from a child, and D names it
  pub open-fill-dead : (a : ℕ) → B₀ t ≡ some a → ((k : ℕ) → Memᴰ k (keys b.inserts) → rank_key k < rank_key t) → has t b.deletes ≡ true
      → Open l y lo hi (rank_key t) (us ++ ((e' ∷ []) ++ vs)) (record { points = b.points; inserts = b.inserts; deletes = keep (lower t) b.deletes }) f
  open-fill-dead a h top d =
      let b' : Held = record { points = b.points; inserts = b.inserts; deletes = keep (lower t) b.deletes } in
      let q = fill-dead lo hi full r b.points b.inserts b.deletes B₀ o.ready t wt B₁ gone stays best inn (o.ready.deep t a h) d top in
      open-child l New x y lo hi r us vs e e' [] b f g low o fresh c one (rank_key t) b' f q.0 (λ k w. q.1 k w ∙ o.found k w)
