-- What a message does to sets of spots in whole numbers, against what it does to the list of the live ones.
-- Assumes nothing.
use mathlib.Core.Path.{◌≡◌, refl, ap, ap₂, sym, subst, ◌∙◌}
use mathlib.Core.Logic.{◌⊎◌, inl, inr, ⊎_elim, ◌↔◌}
use mathlib.Core.Bool.{Bool, true, false, cond, not, true≢false}
use mathlib.Core.List.{List, [], ◌∷◌, Memᴰ}
use mathlib.Core.Option.{Option, none, some, some-injective, none-ne-some}
use Prim.Native.Nat.{ℕ, suc, ◌+◌, ◌-◌, ◌*◌, ◌/◌, ◌≤◌}
use native.Mathlib.Omega.{arith}
use lib.ListN.{length}
use lib.Dec.{leb, ltb}
use lib.IntN.{ℤ}
use borrow.Author.Tests.{eqb-true, eq-eqb, leb-true, le-leb, ltb-true, lt-ltb, not-true}
use Rattle.octets.specs.Lists.{every, has, rising}
use Rattle.octets.proofs.Tests.{and_left, and_right, and_both, every-mem, refuted}
use Rattle.spot.specs.declared.Spot.{Spot}
use Rattle.spot.specs.Keys.{all_keys, key}
use Rattle.spot.specs.Spots.{keys, find}
use Rattle.spot.proofs.Signed.{Fits, biased-lt}
use Rattle.spot.proofs.Orders.{key-inj}
use Rattle.spot.proofs.Halves.{pair_small}
use Rattle.spot.proofs.Buffers.{keys-mem, find-member}
use Rattle.block.specs.Answers.{answer}
use Rattle.message.specs.declared.Change.TheVariants.{Add, Withdraw}
use Rattle.message.specs.Changes.{change_key}
use Rattle.message.specs.Effects.{after_change, after_all, turns_down, applied_from}
use Rattle.message.proofs.Effects.{find-add, find-withdraw, change-rises, change-every, change-fits, has-found, has-none, turns-add, turns-withdraw}
use Rattle.demands.specs.Model.{PlainSpot, PlainChange, hang, take_down, has_identity, place_before}
use Rattle.demands.specs.Demands.{InOrder, AfterChange, AfterAll, TurnedDownAt, NoneDown, FirstDown}
use Rattle.demands.proofs.Plain.{to_key_spot, SpotFits, identity-key}
use Rattle.demands.proofs.Messages.{to_key_change, keyed_changes, ChangeFits, ChangesFit}
use Rattle.demands.proofs.Alive.{plain, Small, plain-length, plain-mem, mem-plain, rises-in-order, find-listed, listed-count}

-- a spot that has the identity
pub same-identity : (place rank : ℤ) → Fits place → Fits rank → (s : PlainSpot) → SpotFits s → has_identity place rank s ≡ true → (s.place ≡ place) × (s.rank ≡ rank)
same-identity place rank fp fr s f h =
    key-inj s.place s.rank place rank f.place f.rank fp fr (eqb-true _ _ (sym (identity-key place rank fp fr s f) ∙ h))

-- ---- a list of spots as a set of spots in whole numbers

abbrev pub In : List Spot → PlainSpot → Type 0
In ss s = SpotFits s × (find (key s.place s.rank) ss ≡ some s.track)

abbrev pub Holds : List Spot → (PlainSpot → Type 0) → Type 0
Holds ss L = (s : PlainSpot) → L s ↔ In ss s

-- after a spot is hung
module _ (x : PlainSpot) (f : SpotFits x) (ss : List Spot) (L : PlainSpot → Type 0) (h : Holds ss L) where
  found-now : (s : PlainSpot) → SpotFits s → (b : Bool) → has_identity x.place x.rank s ≡ b
      → find (key s.place s.rank) (after_change (Add (to_key_spot x)) ss) ≡ cond b (some x.track) (find (key s.place s.rank) ss)
  found-now s g b e =
      find-add (key s.place s.rank) (to_key_spot x) ss ∙
      ap (λ (c : Bool). cond c (some x.track) (find (key s.place s.rank) ss)) (sym (identity-key x.place x.rank f.place f.rank s g) ∙ e)

  itself : has_identity x.place x.rank x ≡ true
  itself = identity-key x.place x.rank f.place f.rank x f ∙ eq-eqb (key x.place x.rank) (key x.place x.rank) refl

  hung-in : (s : PlainSpot) → AfterChange (hang x) L s → In (after_change (Add (to_key_spot x)) ss) s
  hung-in s =
      ⊎_elim (λ (e : s ≡ x). subst (In (after_change (Add (to_key_spot x)) ss)) (sym e) (f, found-now x f true itself))
      (λ (l : L s × (has_identity x.place x.rank s ≡ false)). let i = (h s).0 l.0 in (i.0, found-now s i.0 false l.1 ∙ i.1))

  in-hung : (s : PlainSpot) → In (after_change (Add (to_key_spot x)) ss) s → AfterChange (hang x) L s
  in-hung s i = go (has_identity x.place x.rank s) refl
    where
      go : (b : Bool) → has_identity x.place x.rank s ≡ b → AfterChange (hang x) L s
      go true e =
          let q = same-identity x.place x.rank f.place f.rank s i.0 e in
          let track = some-injective _ _ (sym i.1 ∙ found-now s i.0 true e) in
          inl (λ j. record { place = q.0 j; rank = q.1 j; track = track j })
      go false e = inr ((h s).1 (i.0, sym (found-now s i.0 false e) ∙ i.1), e)

-- after one is taken down
module _ (place rank : ℤ) (fp : Fits place) (fr : Fits rank) (ss : List Spot) (L : PlainSpot → Type 0) (h : Holds ss L) where
  left-now : (s : PlainSpot) → SpotFits s → (b : Bool) → has_identity place rank s ≡ b
      → find (key s.place s.rank) (after_change (Withdraw (key place rank)) ss) ≡ cond b none (find (key s.place s.rank) ss)
  left-now s g b e =
      find-withdraw (key s.place s.rank) (key place rank) ss ∙
      ap (λ (c : Bool). cond c none (find (key s.place s.rank) ss)) (sym (identity-key place rank fp fr s g) ∙ e)

  taken_in : (s : PlainSpot) → AfterChange (take_down place rank) L s → In (after_change (Withdraw (key place rank)) ss) s
  taken_in s l = let i = (h s).0 l.0 in (i.0, left-now s i.0 false l.1 ∙ i.1)

  in_taken : (s : PlainSpot) → In (after_change (Withdraw (key place rank)) ss) s → AfterChange (take_down place rank) L s
  in_taken s i = go (has_identity place rank s) refl
    where
      go : (b : Bool) → has_identity place rank s ≡ b → AfterChange (take_down place rank) L s
      go true e = absurd (none-ne-some _ (sym (left-now s i.0 true e) ∙ i.1))
      go false e = ((h s).1 (i.0, sym (left-now s i.0 false e) ∙ i.1), e)

holds-change : (c : PlainChange) → ChangeFits c → (ss : List Spot) (L : PlainSpot → Type 0) → Holds ss L → Holds (after_change (to_key_change c) ss) (AfterChange c L)
holds-change (hang x) f ss L h s = let g : SpotFits x = record { place = f.0; rank = f.1 } in (hung-in x g ss L h s, in-hung x g ss L h s)
holds-change (take_down place rank) f ss L h s = (taken_in place rank f.0 f.1 ss L h s, in_taken place rank f.0 f.1 ss L h s)

-- all changes, one after another
pub holds-all : (cs : List PlainChange) → ChangesFit cs → (ss : List Spot) (L : PlainSpot → Type 0) → Holds ss L → Holds (after_all (keyed_changes cs) ss) (AfterAll cs L)
holds-all [] f ss L h = h
holds-all (c ∷ cs) f ss L h = holds-all cs f.1 (after_change (to_key_change c) ss) (AfterChange c L) (holds-change c f.0 ss L h)

-- ---- a change that is turned down

-- a list of live spots: its set, and what it keeps to
pub record Lives (bytes : ℕ) (ss : List Spot) (L : PlainSpot → Type 0) : Type 0 where
  pub holds : Holds ss L
  pub small : every (λ k. ltb k all_keys) (keys ss) ≡ true
  pub rises : rising (keys ss) ≡ true
  pub few : length ss ≤ 16 * (bytes / 2048 - 1)

module _ (bytes : ℕ) (ss : List Spot) (L : PlainSpot → Type 0) (l : Lives bytes ss L) where
  all_small : Small ss
  all_small s i = ltb-true s.key all_keys (every-mem (λ k. ltb k all_keys) (keys ss) l.small (keys-mem ss i))

  each-one : (s : PlainSpot) → Memᴰ s (plain ss) ↔ L s
  each-one s = (
    λ i. let m = plain-mem ss all_small s i in (l.holds s).1 (m.0, find-member 0 ss l.rises m.1),
    λ h. let i = (l.holds s).0 h in mem-plain ss s i.0 (find-listed ss l.rises (to_key_spot s) i.1),
  )

  in-place-order : InOrder place_before (plain ss)
  in-place-order = rises-in-order ss all_small l.rises

  -- no spot of the set has the identity exactly where the key isn't found
  module _ (x : PlainSpot) (f : SpotFits x) where
    none_has : has (key x.place x.rank) (keys ss) ≡ false → (s : PlainSpot) → L s → has_identity x.place x.rank s ≡ false
    none_has n s h =
        refuted (has_identity x.place x.rank s)
        (λ e.
        let i = (l.holds s).0 h in
        let q = same-identity x.place x.rank f.place f.rank s i.0 e in
        true≢false (sym (has-found (key x.place x.rank) ss (ap₂ (λ (a b : ℤ). find (key a b) ss) (sym q.0) (sym q.1) ∙ i.1)) ∙ n))

    has-not : ((s : PlainSpot) → L s → has_identity x.place x.rank s ≡ false) → has (key x.place x.rank) (keys ss) ≡ false
    has-not n = go (find (key x.place x.rank) ss) refl
      where
        go : (o : Option ℕ) → find (key x.place x.rank) ss ≡ o → has (key x.place x.rank) (keys ss) ≡ false
        go none e = has-none (key x.place x.rank) ss e
        go (some a) e =
            let s : PlainSpot = record { place = x.place; rank = x.rank; track = a } in
            let g : SpotFits s = record { place = f.place; rank = f.rank } in
            absurd
            (true≢false
            (sym (identity-key x.place x.rank f.place f.rank s g ∙ eq-eqb (key x.place x.rank) (key x.place x.rank) refl) ∙
            n s ((l.holds s).1 (g, e))))

    hung-down : turns_down bytes (Add (to_key_spot x)) ss ≡ true → TurnedDownAt bytes (hang x) L
    hung-down e =
        let both = sym (turns-add bytes (to_key_spot x) ss) ∙ e in
        let m = leb-true (16 * (bytes / 2048 - 1)) (length ss) (and_left (leb (16 * (bytes / 2048 - 1)) (length ss)) (not (has (key x.place x.rank) (keys ss))) both) in
        let n = not-true (has (key x.place x.rank) (keys ss)) (and_right (leb (16 * (bytes / 2048 - 1)) (length ss)) (not (has (key x.place x.rank) (keys ss))) both) in
        (record { spots = plain ss; rise = in-place-order; each = each-one; many = plain-length ss ∙ omega (arith, l.few, m) }, none_has n)

    down-hung : TurnedDownAt bytes (hang x) L → turns_down bytes (Add (to_key_spot x)) ss ≡ true
    down-hung d =
        turns-add bytes (to_key_spot x) ss ∙
        and_both (leb (16 * (bytes / 2048 - 1)) (length ss)) (not (has (key x.place x.rank) (keys ss)))
        (le-leb (16 * (bytes / 2048 - 1)) (length ss) (omega (arith, listed-count ss L in-place-order each-one (λ s h. ((l.holds s).0 h).0) d.0.spots d.0.rise d.0.each, d.0.many)))
        (ap not (has-not d.1))

  down_is : (c : PlainChange) → ChangeFits c → (turns_down bytes (to_key_change c) ss ≡ true) ↔ TurnedDownAt bytes c L
  down_is (hang x) f = let g : SpotFits x = record { place = f.0; rank = f.1 } in (hung-down x g, down-hung x g)
  down_is (take_down place rank) f = (λ e. absurd (true≢false (sym e ∙ turns-withdraw bytes (key place rank) ss)), λ d. absurd d)

  -- one that isn't leaves such a list
  change-small : (c : PlainChange) → ChangeFits c → ltb (change_key (to_key_change c)) all_keys ≡ true
  change-small (hang x) f = lt-ltb (key x.place x.rank) all_keys (pair_small _ _ (biased-lt x.place f.0) (biased-lt x.rank f.1))
  change-small (take_down place rank) f = lt-ltb (key place rank) all_keys (pair_small _ _ (biased-lt place f.0) (biased-lt rank f.1))

  next-lives : (c : PlainChange) → ChangeFits c → turns_down bytes (to_key_change c) ss ≡ false → Lives bytes (after_change (to_key_change c) ss) (AfterChange c L)
  next-lives c f e =
      record {
        holds = holds-change c f ss L l.holds;
        small = change-every (λ k. ltb k all_keys) (to_key_change c) ss (change-small c f) l.small;
        rises = change-rises (to_key_change c) ss l.rises;
        few = change-fits bytes (to_key_change c) ss e l.few l.rises;
      }

-- ---- a message

-- i changes came before these: accepted, and none is turned down; or the first that is has its position
module _ (bytes : ℕ) where
  pub none-down : (i : ℕ) (cs : List PlainChange) → ChangesFit cs → (ss : List Spot) (L : PlainSpot → Type 0) → Lives bytes ss L
      → (applied_from bytes i (keyed_changes cs) ss).number ≡ 0
      → NoneDown bytes cs L
  none-down i [] f ss L l z = tt
  none-down i (c ∷ cs) f ss L l z =
      go (turns_down bytes (to_key_change c) ss) refl z (none-down (suc i) cs f.1 (after_change (to_key_change c) ss) (AfterChange c L))
    where
      go : (b : Bool) → turns_down bytes (to_key_change c) ss ≡ b
          → (cond b (answer 4 i) (applied_from bytes (suc i) (keyed_changes cs) (after_change (to_key_change c) ss))).number ≡ 0
          → (Lives bytes (after_change (to_key_change c) ss) (AfterChange c L) → (applied_from bytes (suc i) (keyed_changes cs) (after_change (to_key_change c) ss)).number ≡ 0
          → NoneDown bytes cs (AfterChange c L))
          → (TurnedDownAt bytes c L → ⊥) × NoneDown bytes cs (AfterChange c L)
      go true e n ih = absurd (omega (arith, n))
      go false e n ih = (λ d. true≢false (sym ((down_is bytes ss L l c f.0).1 d) ∙ e), ih (next-lives bytes ss L l c f.0 e) n)

  pub first-down : (i : ℕ) (cs : List PlainChange) → ChangesFit cs → (ss : List Spot) (L : PlainSpot → Type 0) → Lives bytes ss L
      → (applied_from bytes i (keyed_changes cs) ss).number ≡ 4
      → (j : ℕ) × ((applied_from bytes i (keyed_changes cs) ss).detail ≡ i + j) × FirstDown bytes j cs L
  first-down i [] f ss L l z = absurd (omega (arith, z))
  first-down i (c ∷ cs) f ss L l z =
      go (turns_down bytes (to_key_change c) ss) refl z (first-down (suc i) cs f.1 (after_change (to_key_change c) ss) (AfterChange c L))
    where
      go : (b : Bool) → turns_down bytes (to_key_change c) ss ≡ b
          → (cond b (answer 4 i) (applied_from bytes (suc i) (keyed_changes cs) (after_change (to_key_change c) ss))).number ≡ 4
          → (Lives bytes (after_change (to_key_change c) ss) (AfterChange c L) → (applied_from bytes (suc i) (keyed_changes cs) (after_change (to_key_change c) ss)).number ≡ 4
          → (j : ℕ) × ((applied_from bytes (suc i) (keyed_changes cs) (after_change (to_key_change c) ss)).detail ≡ suc i + j) × FirstDown bytes j cs (AfterChange c L))
          → (j : ℕ) × ((cond b (answer 4 i) (applied_from bytes (suc i) (keyed_changes cs) (after_change (to_key_change c) ss))).detail ≡ i + j) × FirstDown bytes j (c ∷ cs) L
      go true e n ih = (
        0,
        omega arith,
        record { earlier = []; change = c; later = cs; are = refl; position = refl; accepted = tt; down = (down_is bytes ss L l c f.0).0 e },
      )
      go false e n ih =
          let r = ih (next-lives bytes ss L l c f.0 e) n in
          let d = r.2 in (
            suc r.0,
            r.1 ∙ omega arith,
            record {
              earlier = c ∷ d.earlier;
              change = d.change;
              later = d.later;
              are = ap (λ (x : List PlainChange). c ∷ x) d.are;
              position = ap suc d.position;
              accepted = (λ y. true≢false (sym ((down_is bytes ss L l c f.0).1 y) ∙ e), d.accepted);
              down = d.down;
            },
          )
