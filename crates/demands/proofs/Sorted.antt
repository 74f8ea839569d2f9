-- The model by itself: it is kept in place order, holds no identity twice and never more spots than the capacity, and says 4 exactly when it is full.
-- Assumes nothing.
use mathlib.Core.Path.{◌≡◌, refl, ap, sym, ◌∙◌}
use mathlib.Core.Logic.{◌⊎◌, inl, inr, ⊎_elim, ◌↔◌}
use mathlib.Core.Bool.{Bool, true, false, cond, not, ◌&&◌, ◌||◌, true≢false, false≢true}
use mathlib.Core.List.{List, [], ◌∷◌}
use Prim.Native.Nat.{ℕ, suc, ◌-◌, ◌*◌, ◌/◌, ◌≤◌, ◌<◌}
use native.Mathlib.Omega.{arith}
use lib.ListN.{length}
use lib.Dec.{leb, ltb}
use borrow.Author.Tests.{leb-true, ltb-true, ltb-false, eqb-false, le-leb, lt-ltb, le-ltb, ne_eqb, leb-false}
use lib.IntN.{ℤ}
use Rattle.octets.specs.Lists.{every, keep}
use Rattle.octets.proofs.Tests.{and_left, and_right, and_both, every-mem, every-make, keep-in, keep-length, neither}
use Rattle.octets.proofs.Order.{less-or-not}
use Rattle.spot.specs.Keys.{key, signed32, unsigned32}
use Rattle.spot.proofs.Signed.{Fits}
use Rattle.ranges.specs.Ranges.{for_each}
use Rattle.table.specs.Calls.{Call, format, add, withdraw, report, top, count, check, rebuild, report_many, top_within, apply, kind, Lengths, arguments_fit}
use Rattle.demands.specs.Model.{PlainSpot, PlainChange, hang, take_down, plain_message, said_in, no_message, turned_down, changed_by, applied, has_identity, place_before, chosen, reported, reported_in, insert_by, listed, taken_out, brought_in, highest, Plain, Reply, refuse, accept, bad_table, bad_lent, too_many, outside, changes_outside, full, hand_out, own_reply, reply}
use Rattle.demands.specs.Demands.{InOrder}
use Rattle.demands.proofs.Plain.{to_key_spot, SpotFits, AllFit, before-is, identity-key, out-fit, in-fit, two-fit}
use Rattle.demands.proofs.Messages.{ChangeFits, ChangesFit, changes-fit}

-- no identity stands twice
abbrev pub IdentityOnce : List PlainSpot → Type 0
IdentityOnce [] = Unit {0}
IdentityOnce (s ∷ ss) = (listed s.place s.rank ss ≡ false) × IdentityOnce ss

-- ---- place order on spots that fit

before-trans : (x y z : PlainSpot) → SpotFits x → SpotFits y → SpotFits z → place_before x y ≡ true → place_before y z ≡ true → place_before x z ≡ true
before-trans x y z f g h a b =
    let l = ltb-true (to_key_spot x).key (to_key_spot y).key (sym (before-is x y f g) ∙ a) in
    let m = ltb-true (to_key_spot y).key (to_key_spot z).key (sym (before-is y z g h) ∙ b) in
    before-is x z f h ∙ lt-ltb (to_key_spot x).key (to_key_spot z).key (less _ _ _ l m)
  where
    less : (a b c : ℕ) → a < b → b < c → a < c
    less a b c l m = omega arith

before-total : (s x : PlainSpot) → SpotFits s → SpotFits x → place_before x s ≡ false → has_identity s.place s.rank x ≡ false → place_before s x ≡ true
before-total s x f g a b =
    let l = ltb-false (to_key_spot x).key (to_key_spot s).key (sym (before-is x s g f) ∙ a) in
    let n = eqb-false (to_key_spot x).key (to_key_spot s).key (sym (identity-key s.place s.rank f.place f.rank x g) ∙ b) in
    before-is s x f g ∙ lt-ltb (to_key_spot s).key (to_key_spot x).key (less _ _ l n)
  where
    less : (a b : ℕ) → a ≤ b → (b ≡ a → ⊥) → a < b
    less a b l n = omega arith

before-other : (s x : PlainSpot) → SpotFits s → SpotFits x → place_before s x ≡ true → has_identity s.place s.rank x ≡ false
before-other s x f g a =
    let l = ltb-true (to_key_spot s).key (to_key_spot x).key (sym (before-is s x f g) ∙ a) in
    identity-key s.place s.rank f.place f.rank x g ∙ ne_eqb (to_key_spot x).key (to_key_spot s).key (apart _ _ l)
  where
    apart : (a b : ℕ) → a < b → b ≡ a → ⊥
    apart a b l e = omega arith

-- ---- lists

or-none : (a b : Bool) → a ≡ false → b ≡ false → a || b ≡ false
or-none a b p q = rw (p, q)

every-cond : (g : PlainSpot → Bool) (b : Bool) (xs ys : List PlainSpot) → every g xs ≡ true → every g ys ≡ true → every g (cond b xs ys) ≡ true
every-cond g true xs ys p q = p
every-cond g false xs ys p q = q

-- the model's choice is `keep`
chosen-keep : (f : PlainSpot → Bool) (ss : List PlainSpot) → chosen f ss ≡ keep f ss
chosen-keep f [] = refl
chosen-keep f (s ∷ ss) = ap (λ (l : List PlainSpot). cond (f s) (s ∷ l) l) (chosen-keep f ss)

every-chosen : (g f : PlainSpot → Bool) (ss : List PlainSpot) → every g ss ≡ true → every g (chosen f ss) ≡ true
every-chosen g f ss h = rw (chosen-keep f ss) (every-make g (keep f ss) (λ x i. every-mem g ss h (keep-in f ss i)))

order-chosen : (f : PlainSpot → Bool) (ss : List PlainSpot) → InOrder place_before ss → InOrder place_before (chosen f ss)
order-chosen f [] h = tt
order-chosen f (s ∷ ss) h = go (f s) (order-chosen f ss h.1)
  where
    go : (b : Bool) → InOrder place_before (chosen f ss) → InOrder place_before (cond b (s ∷ chosen f ss) (chosen f ss))
    go true ih = (every-chosen (place_before s) f ss h.0, ih)
    go false ih = ih

every-insert : (g : PlainSpot → Bool) (before : PlainSpot → PlainSpot → Bool) (s : PlainSpot) (xs : List PlainSpot) → g s ≡ true → every g xs ≡ true
    → every g (insert_by before s xs) ≡ true
every-insert g before s [] p h = and_both (g s) true p refl
every-insert g before s (x ∷ xs) p h =
    every-cond g (before x s) (x ∷ insert_by before s xs) (s ∷ x ∷ xs)
    (and_both (g x) (every g (insert_by before s xs)) (and_left (g x) (every g xs) h) (every-insert g before s xs p (and_right (g x) (every g xs) h)))
    (and_both (g s) (every g (x ∷ xs)) p h)

every-after : (s x : PlainSpot) (ys : List PlainSpot) → SpotFits s → SpotFits x → AllFit ys → place_before s x ≡ true → every (place_before x) ys ≡ true
    → every (place_before s) ys ≡ true
every-after s x [] f g h p q = refl
every-after s x (y ∷ ys) f g h p q =
    and_both (place_before s y) (every (place_before s) ys)
    (before-trans s x y f g h.0 p (and_left (place_before x y) (every (place_before x) ys) q))
    (every-after s x ys f g h.1 p (and_right (place_before x y) (every (place_before x) ys) q))

order-insert : (s : PlainSpot) (xs : List PlainSpot) → SpotFits s → AllFit xs → listed s.place s.rank xs ≡ false → InOrder place_before xs
    → InOrder place_before (insert_by place_before s xs)
order-insert s [] f h n o = (refl, tt)
order-insert s (x ∷ xs) f h n o = go (place_before x s) refl (order-insert s xs f h.1 away.1 o.1)
  where
    away : (has_identity s.place s.rank x ≡ false) × (listed s.place s.rank xs ≡ false)
    away = neither (has_identity s.place s.rank x) (listed s.place s.rank xs) n

    go : (b : Bool) → place_before x s ≡ b → InOrder place_before (insert_by place_before s xs) → InOrder place_before (cond b (x ∷ insert_by place_before s xs) (s ∷ x ∷ xs))
    go true e ih = (every-insert (place_before x) place_before s xs e o.0, ih)
    go false e ih =
        let p = before-total s x f h.0 e away.0 in
        (and_both (place_before s x) (every (place_before s) xs) p (every-after s x xs f h.0 h.1 p o.0), o)

-- what is taken out is not listed any more
listed-out : (place rank : ℤ) (ss : List PlainSpot) → listed place rank (taken_out place rank ss) ≡ false
unfolding taken_out
listed-out place rank [] = refl
listed-out place rank (s ∷ ss) = go (has_identity place rank s) refl (listed-out place rank ss)
  where
    go : (b : Bool) → has_identity place rank s ≡ b → listed place rank (taken_out place rank ss) ≡ false
        → listed place rank (cond (not b) (s ∷ taken_out place rank ss) (taken_out place rank ss)) ≡ false
    go true e ih = ih
    go false e ih = or-none (has_identity place rank s) (listed place rank (taken_out place rank ss)) e ih

-- place order leaves no identity twice
pub order-once : (ss : List PlainSpot) → AllFit ss → InOrder place_before ss → IdentityOnce ss
order-once [] h o = tt
order-once (s ∷ ss) h o = (none_after ss h.1 o.0, order-once ss h.1 o.1)
  where
    none_after : (xs : List PlainSpot) → AllFit xs → every (place_before s) xs ≡ true → listed s.place s.rank xs ≡ false
    none_after [] f p = refl
    none_after (x ∷ xs) f p =
        or-none (has_identity s.place s.rank x) (listed s.place s.rank xs)
        (before-other s x h.0 f.0 (and_left (place_before s x) (every (place_before s) xs) p))
        (none_after xs f.1 (and_right (place_before s x) (every (place_before s) xs) p))

-- ---- replies

module _ (P : List PlainSpot → Type 0) (l : Lengths) (ps : Plain) (kept : P ps.spots) where
  -- a refusal keeps what holds of the list
  refused-or : (b : Bool) (n d : ℕ) (r : Reply) → (b ≡ false → P r.next.spots) → P (cond b (refuse n d ps) r).next.spots
  unfolding refuse
  refused-or true n d r h = kept
  refused-or false n d r h = h refl

  -- what holds of no spots, and after an addition and a withdrawal, holds after every call
  module _ (none : P [])
      (added : (place rank : ℤ) (track : ℕ) (ss : List PlainSpot) → Fits place → Fits rank → P ss → full l.table place rank ss ≡ false
      → P (brought_in (record { place = place; rank = rank; track = track }) ss))
      (withdrawn : (place rank : ℤ) (ss : List PlainSpot) → Fits place → Fits rank → P ss → P (taken_out place rank ss)) where
    after-change : (c : PlainChange) (ss : List PlainSpot) → ChangeFits c → P ss → turned_down l.table c ss ≡ false → P (changed_by c ss)
    unfolding changed_by turned_down
    after-change (hang s) ss f p h = added s.place s.rank s.track ss f.0 f.1 p h
    after-change (take_down place rank) ss f p h = withdrawn place rank ss f.0 f.1 p

    -- a message
    after-changes : (i : ℕ) (cs : List PlainChange) (ss : List PlainSpot) → ChangesFit cs → P ss → P (applied l.table i cs ss ps).next.spots
    unfolding accept
    after-changes i [] ss f p = p
    after-changes i (c ∷ cs) ss f p =
        refused-or (turned_down l.table c ss) 4 i _ (λ z. after-changes (suc i) cs (changed_by c ss) f.1 (after-change c ss f.0 p z))

    after_call : (c : Call) → arguments_fit c ≡ true → P (own_reply l c ps).next.spots
    unfolding own_reply accept hand_out arguments_fit
    after_call format a = none
    after_call (add place rank track) a =
        let f = two-fit place rank (and_left (signed32 place && signed32 rank) (unsigned32 track) a) in
        refused-or (full l.table place rank ps.spots) 4 0 _ (added place rank track ps.spots f.0 f.1 kept)
    after_call (withdraw place rank) a = let f = two-fit place rank a in withdrawn place rank ps.spots f.0 f.1 kept
    after_call (report x1 x2 y) a = refused-or (ltb (l.output / 12) (length (reported x1 x2 y ps.spots))) 5 _ _ (λ z. kept)
    after_call (top x1 x2 k) a = refused-or (ltb (l.output / 12) (length (highest x1 x2 k ps.spots))) 5 _ _ (λ z. kept)
    after_call count a = kept
    after_call check a = kept
    after_call rebuild a = kept
    after_call (report_many rs) a = refused-or (ltb (l.output / 12) (length (for_each (reported_in ps.spots) rs))) 5 _ _ (λ z. kept)
    after_call (top_within x1 x2 k b) a = refused-or (ltb (l.output / 12) (length (highest x1 x2 k ps.spots))) 5 _ _ (λ z. kept)
    after_call (apply m) a = after-changes 0 (said_in (plain_message m)) ps.spots (changes-fit m) kept

    stays : (c : Call) → arguments_fit c ≡ true → P (reply l c ps).next.spots
    unfolding reply
    stays c a =
        refused-or (bad_table l.table) 1 0 _
        (λ z.
        refused-or (bad_lent l (kind c)) 2 0 _
        (λ y. refused-or (too_many (kind c)) 6 0 _ (λ x. refused-or (no_message c) 8 0 _ (λ v. refused-or (changes_outside c) 9 _ _ (λ w. after_call c a)))))

-- in place order, with numbers that fit
abbrev Sorted : List PlainSpot → Type 0
Sorted ss = AllFit ss × InOrder place_before ss

-- "It holds spots, no identity twice": every call keeps the list in place order
pub stays-in-order : (l : Lengths) (c : Call) (ps : Plain) → arguments_fit c ≡ true → AllFit ps.spots → InOrder place_before ps.spots → InOrder place_before (reply l c ps).next.spots
unfolding taken_out brought_in
stays-in-order l c ps a h o =
    (stays Sorted l ps (h, o) (tt, tt)
    (λ place rank track ss f g p n. (
      in-fit place rank f g track ss p.0,
      order-insert (record { place = place; rank = rank; track = track }) (taken_out place rank ss) (record { place = f; rank = g }) (out-fit place rank f g ss p.0)
          (listed-out place rank ss)
          (order-chosen (λ s. not (has_identity place rank s)) ss p.1),
    ))
    (λ place rank ss f g p. (out-fit place rank f g ss p.0, order-chosen (λ s. not (has_identity place rank s)) ss p.1))
    c
    a
    ).1

-- ---- the number of spots

length-cond : (b : Bool) (xs ys : List PlainSpot) (n : ℕ) → length xs ≤ n → length ys ≤ n → length (cond b xs ys) ≤ n
length-cond true xs ys n p q = p
length-cond false xs ys n p q = q

length-chosen : (f : PlainSpot → Bool) (ss : List PlainSpot) → length (chosen f ss) ≤ length ss
length-chosen f ss = rw (chosen-keep f ss) (keep-length f ss)

length-insert : (before : PlainSpot → PlainSpot → Bool) (s : PlainSpot) (xs : List PlainSpot) → length (insert_by before s xs) ≤ suc (length xs)
length-insert before s [] = omega arith
length-insert before s (x ∷ xs) =
    let i = length-insert before s xs in
    length-cond (before x s) (x ∷ insert_by before s xs) (s ∷ x ∷ xs) (suc (suc (length xs))) (omega arith) (omega arith)

length-out : (place rank : ℤ) (ss : List PlainSpot) → listed place rank ss ≡ true → length (taken_out place rank ss) < length ss
unfolding taken_out
length-out place rank [] e = absurd (false≢true e)
length-out place rank (s ∷ ss) e = go (has_identity place rank s) e (length-chosen (λ x. not (has_identity place rank x)) ss) (length-out place rank ss)
  where
    go : (b : Bool) → b || listed place rank ss ≡ true → length (taken_out place rank ss) ≤ length ss
        → (listed place rank ss ≡ true → length (taken_out place rank ss) < length ss)
        → length (cond (not b) (s ∷ taken_out place rank ss) (taken_out place rank ss)) < suc (length ss)
    go true k i ih = omega arith
    go false k i ih = let j = ih k in omega arith

fewer-out : (place rank : ℤ) (ss : List PlainSpot) → length (taken_out place rank ss) ≤ length ss
unfolding taken_out
fewer-out place rank ss = length-chosen (λ s. not (has_identity place rank s)) ss

-- not full: there is room, or a spot of this identity goes out
not_full : (n cap : ℕ) (there : Bool) → leb cap n && not there ≡ false → (n < cap) ⊎ (there ≡ true)
not_full n cap true h = inr refl
not_full n cap false h = ⊎_elim (λ (l : cap ≤ n). absurd (true≢false (sym (and_both (leb cap n) true (le-leb cap n l) refl) ∙ h))) (λ l. inl l) (less-or-not cap n)

-- spots never outnumber the capacity of a table of this many bytes
abbrev Held : ℕ → List PlainSpot → Type 0
Held bytes ss = length ss ≤ 16 * (bytes / 2048 - 1)

held-add : (bytes : ℕ) (place rank : ℤ) (track : ℕ) (ss : List PlainSpot) → Held bytes ss → full bytes place rank ss ≡ false
    → Held bytes (brought_in (record { place = place; rank = rank; track = track }) ss)
unfolding full brought_in
held-add bytes place rank track ss h e =
    let i = length-insert place_before (record { place = place; rank = rank; track = track }) (taken_out place rank ss) in
    let j = fewer-out place rank ss in
    ⊎_elim (λ (l : length ss < 16 * (bytes / 2048 - 1)). omega arith) (λ k. let m = length-out place rank ss k in omega arith)
    (not_full (length ss) (16 * (bytes / 2048 - 1)) (listed place rank ss) e)

-- no call makes more
pub stays-held : (l : Lengths) (c : Call) (ps : Plain) → arguments_fit c ≡ true → Held l.table ps.spots → Held l.table (reply l c ps).next.spots
stays-held l c ps a h =
    stays (Held l.table) l ps h (omega arith) (λ place rank track ss f g p n. held-add l.table place rank track ss p n)
    (λ place rank ss f g p. let j = fewer-out place rank ss in omega arith)
    c
    a

-- "full" comes exactly when the list holds 16 spots for each block after the first and the new spot's place and rank are not among them
pub says-full : (l : Lengths) (place rank : ℤ) (track : ℕ) (ps : Plain) → bad_table l.table ≡ false → l.table ≤ l.scratch → outside place ≡ false
    → length ps.spots ≤ 16 * (l.table / 2048 - 1)
    → ((reply l (add place rank track) ps).answer.number ≡ 4) ↔ ((length ps.spots ≡ 16 * (l.table / 2048 - 1)) × (listed place rank ps.spots ≡ false))
unfolding reply bad_lent too_many no_message changes_outside own_reply full refuse accept
says-full l place rank track ps z w i h =
    rw (z, le-ltb l.scratch l.table w, i) (four (leb (16 * (l.table / 2048 - 1)) (length ps.spots)) refl (listed place rank ps.spots) refl)
  where
    four : (b : Bool) → leb (16 * (l.table / 2048 - 1)) (length ps.spots) ≡ b → (there : Bool) → listed place rank ps.spots ≡ there
        → ((cond (b && not there) (refuse 4 0 ps) (accept 0 [] [] (record { spots = brought_in (record { place = place; rank = rank; track = track }) ps.spots }))).answer.number ≡ 4)
        ↔ ((length ps.spots ≡ 16 * (l.table / 2048 - 1)) × (there ≡ false))
    four true e false f = (λ q. (let m = leb-true (16 * (l.table / 2048 - 1)) (length ps.spots) e in omega arith, refl), λ q. refl)
    four true e true f = (λ (q : ◌≡◌ {A = ℕ} 0 4). absurd (omega arith), λ q. absurd (true≢false q.1))
    four false e there f = (
      λ (q : ◌≡◌ {A = ℕ} 0 4). absurd (omega arith),
      λ q. let m = leb-false (16 * (l.table / 2048 - 1)) (length ps.spots) e in let n = q.0 in absurd (omega arith),
    )
