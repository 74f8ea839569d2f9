-- How changes of parts go together: one after the other, and some parts among others.
-- Assumes nothing.
use mathlib.Core.Path.{◌≡◌, refl, ap, sym, ◌∙◌}
use mathlib.Core.Logic.{◌⊎◌, inl, inr, ⊎_elim}
use mathlib.Core.Bool.{Bool, true, false, cond, ◌||◌}
use mathlib.Core.List.Memᴰ
use mathlib.Core.List.{List, [], ◌∷◌, ◌++◌, Memᴰ}
use mathlib.Core.Option.{Option}
use Prim.Native.Nat.{ℕ}
use borrow.Author.Tests.{eq-eqb, eqb-true}
use Rattle.octets.specs.Lists.{every, distinct}
use Rattle.octets.proofs.Tests.{and_left, and_both, every-left, every-right, every-join}
use Rattle.octets.proofs.Sets.{Split, distinct-split, distinct-join}
use Rattle.spot.specs.Keys.{within}
use Rattle.block.specs.declared.Entry.{Entry}
use Rattle.block.specs.Node.{Store}
use Rattle.block.specs.NodeRules.{stands_in}
use Rattle.tree.specs.Part.{Part, next_low, parts}
use Rattle.tree.specs.Lookup.{down, lookup}
use Rattle.tree.specs.Reach.{reach}
use Rattle.tree.specs.Sound.{sound_at}
use Rattle.tree.proofs.Frame.{Same, reaches_same, sounds-same, lookups-same}
use Rattle.tree.proofs.Gather.{gather_append}
use Rattle.update_theory.specs.Change.{covers, reaches, leads, Sound, Changed}

-- one part, led to by what names its block
pub led-one : (p : Part) → stands_in p.asked ≡ p.block → every leads (p ∷ []) ≡ true
led-one p h = and_both (leads p) true (eq-eqb (stands_in p.asked) p.block h) refl

pub one-led : (p : Part) → every leads (p ∷ []) ≡ true → stands_in p.asked ≡ p.block
one-led p h = eqb-true (stands_in p.asked) p.block (and_left (leads p) true h)

-- entries lead to their children
pub led-parts : (lo hi : ℕ) (es : List Entry) → every leads (parts lo hi es) ≡ true
unfolding stands_in
led-parts lo hi [] = refl
led-parts lo hi (e ∷ es) = and_both _ (every leads (parts (next_low es hi) hi es)) (eq-eqb e.block e.block refl) (led-parts (next_low es hi) hi es)

-- what is found may be said in other words
pub changed-as : (l : ℕ) (New : ℕ → Type 0) (x : Store) (ps : List Part) (y : Store) (qs : List Part) (f g : ℕ → Option ℕ)
    → ((k : ℕ) → covers k ps ≡ true → f k ≡ g k) → Changed l New x ps y qs f → Changed l New x ps y qs g
changed-as l New x ps y qs f g h c =
    record { sound = c.sound; span = c.span; found = λ k i. c.found k i ∙ h k i; reached = c.reached; still = c.still; kept = c.kept }

-- nothing changed
pub changed-refl : (l : ℕ) (New : ℕ → Type 0) (x : Store) (ps : List Part) → ((z : ℕ) → New z → ⊥) → Sound l x ps → Changed l New x ps x ps (λ k. down (lookup l x k) k ps)
changed-refl l New x ps no-new s = record { sound = s; span = λ k. refl; found = λ k i. refl; reached = λ z i. inl i; still = λ z i. ⊎_elim (λ j. j) (λ j. absurd (no-new z j)) i; kept = λ z a b. refl }

-- one change after the other
pub changed-trans : (l : ℕ) (A B New : ℕ → Type 0) (x : Store) (ps : List Part) (y : Store) (qs : List Part) (w : Store) (rs : List Part) (f g : ℕ → Option ℕ)
    → ((z : ℕ) → A z → New z) → ((z : ℕ) → B z → New z) → ((z : ℕ) → New z → A z ⊎ B z)
    → Changed l A x ps y qs f → Changed l B y qs w rs g → Changed l New x ps w rs g
changed-trans l A B New x ps y qs w rs f g a b exact c d =
    record {
      sound = d.sound;
      span = λ k. d.span k ∙ c.span k;
      found = λ k i. d.found k (c.span k ∙ i);
      reached = λ z i. ⊎_elim (λ j. ⊎_elim inl (λ n. inr (a z n)) (c.reached z j)) (λ n. inr (b z n)) (d.reached z i);
      still = λ z i. d.still z (⊎_elim (λ j. inl (c.still z (inl j))) (λ n. ⊎_elim (λ j. inl (c.still z (inr j))) inr (exact z n)) i);
      kept = λ z n o. d.kept z (λ i. ⊎_elim n (λ j. o (a z j)) (c.reached z i)) (λ j. o (b z j)) ∙ c.kept z n (λ j. o (a z j));
    }

-- a search among some parts and others
pub down-append : (f : Part → Option ℕ) (k : ℕ) (ps qs : List Part) → down f k (ps ++ qs) ≡ cond (covers k ps) (down f k ps) (down f k qs)
down-append f k [] qs = refl
down-append f k (p ∷ ps) qs = go (within p.lo p.hi k) (down-append f k ps qs)
  where
    go : (b : Bool) → down f k (ps ++ qs) ≡ cond (covers k ps) (down f k ps) (down f k qs)
        → cond b (f p) (down f k (ps ++ qs)) ≡ cond (b || covers k ps) (cond b (f p) (down f k ps)) (down f k qs)
    go true h = refl
    go false h = h

-- the range of some parts and others
pub covers-append : (k : ℕ) (ps qs : List Part) → covers k (ps ++ qs) ≡ covers k ps || covers k qs
covers-append k [] qs = refl
covers-append k (p ∷ ps) qs = go (within p.lo p.hi k) (covers-append k ps qs)
  where
    go : (b : Bool) → covers k (ps ++ qs) ≡ covers k ps || covers k qs → b || covers k (ps ++ qs) ≡ (b || covers k ps) || covers k qs
    go true h = refl
    go false h = h

-- A change of some parts among others. New blocks are none of those reached before.
module _ (l : ℕ) (New : ℕ → Type 0) (x y : Store) (us ps qs vs : List Part) (f : ℕ → Option ℕ) (s : Sound l x (us ++ (ps ++ vs)))
    (fresh : (z : ℕ) → New z → Memᴰ z (reaches l x (us ++ (ps ++ vs))) → ⊥) (c : Changed l New x ps y qs f) where
  before : reaches l x (us ++ (ps ++ vs)) ≡ reaches l x us ++ (reaches l x ps ++ reaches l x vs)
  before = gather_append (reach l x) us (ps ++ vs) ∙ ap (λ (r : List ℕ). reaches l x us ++ r) (gather_append (reach l x) ps vs)

  after : reaches l y (us ++ (qs ++ vs)) ≡ reaches l y us ++ (reaches l y qs ++ reaches l y vs)
  after = gather_append (reach l y) us (qs ++ vs) ∙ ap (λ (r : List ℕ). reaches l y us ++ r) (gather_append (reach l y) qs vs)

  outer : Split (reaches l x us) (reaches l x ps ++ reaches l x vs)
  outer = distinct-split (reaches l x us) (reaches l x ps ++ reaches l x vs) (rw before at s.once)

  inner : Split (reaches l x ps) (reaches l x vs)
  inner = distinct-split (reaches l x ps) (reaches l x vs) outer.right

  in-as : (z : ℕ) → Memᴰ z (reaches l x us) → Memᴰ z (reaches l x (us ++ (ps ++ vs)))
  in-as z i = rw before (Memᴰ.append_left (reaches l x ps ++ reaches l x vs) i)

  in-ps : (z : ℕ) → Memᴰ z (reaches l x ps) → Memᴰ z (reaches l x (us ++ (ps ++ vs)))
  in-ps z i = rw before (Memᴰ.append_right (reaches l x us) (Memᴰ.append_left (reaches l x vs) i))

  in-bs : (z : ℕ) → Memᴰ z (reaches l x vs) → Memᴰ z (reaches l x (us ++ (ps ++ vs)))
  in-bs z i = rw before (Memᴰ.append_right (reaches l x us) (Memᴰ.append_right (reaches l x ps) i))

  -- the others are us they were
  same-as : Same x y (reaches l x us)
  same-as z i = c.kept z (λ j. outer.off z i (Memᴰ.append_left (reaches l x vs) j)) (λ n. fresh z n (in-as z i))

  same-bs : Same x y (reaches l x vs)
  same-bs z i = c.kept z (λ j. inner.off z j i) (λ n. fresh z n (in-bs z i))

  reach-as : reaches l y us ≡ reaches l x us
  reach-as = reaches_same x y l us same-as

  reach-bs : reaches l y vs ≡ reaches l x vs
  reach-bs = reaches_same x y l vs same-bs

  once_after : distinct (reaches l y (us ++ (qs ++ vs))) ≡ true
  once_after =
      rw (after, reach-as, reach-bs)
      (distinct-join (reaches l x us) (reaches l y qs ++ reaches l x vs) outer.left
      (distinct-join (reaches l y qs) (reaches l x vs) c.sound.once inner.right
      (λ z i j. ⊎_elim (λ g. inner.off z g j) (λ n. fresh z n (in-bs z j)) (c.reached z i)))
      (λ z i j.
      ⊎_elim (λ g. ⊎_elim (λ h. outer.off z i (Memᴰ.append_left (reaches l x vs) h)) (λ n. fresh z n (in-as z i)) (c.reached z g))
      (λ g. outer.off z i (Memᴰ.append_right (reaches l x ps) g))
      (Memᴰ.append_cases (reaches l y qs) j)))

  reached-after : (z : ℕ) → Memᴰ z (reaches l y (us ++ (qs ++ vs))) → Memᴰ z (reaches l x (us ++ (ps ++ vs))) ⊎ New z
  reached-after z i =
      ⊎_elim (λ g. inl (in-as z (rw reach-as at g)))
      (λ g. ⊎_elim (λ h. ⊎_elim (λ j. inl (in-ps z j)) inr (c.reached z h)) (λ h. inl (in-bs z (rw reach-bs at h))) (Memᴰ.append_cases (reaches l y qs) g))
      (Memᴰ.append_cases (reaches l y us) (rw after at i))

  out-us : (z : ℕ) → Memᴰ z (reaches l x us) → Memᴰ z (reaches l y (us ++ (qs ++ vs)))
  out-us z i = rw (after, reach-as) (Memᴰ.append_left (reaches l y qs ++ reaches l y vs) i)

  out-qs : (z : ℕ) → Memᴰ z (reaches l y qs) → Memᴰ z (reaches l y (us ++ (qs ++ vs)))
  out-qs z i = rw after (Memᴰ.append_right (reaches l y us) (Memᴰ.append_left (reaches l y vs) i))

  out-vs : (z : ℕ) → Memᴰ z (reaches l x vs) → Memᴰ z (reaches l y (us ++ (qs ++ vs)))
  out-vs z i = rw (after, reach-bs) (Memᴰ.append_right (reaches l y us) (Memᴰ.append_right (reaches l y qs) i))

  still_after : (z : ℕ) → Memᴰ z (reaches l x (us ++ (ps ++ vs))) ⊎ New z → Memᴰ z (reaches l y (us ++ (qs ++ vs)))
  still_after z (inl i) =
      ⊎_elim (out-us z) (λ j. ⊎_elim (λ h. out-qs z (c.still z (inl h))) (out-vs z) (Memᴰ.append_cases (reaches l x ps) j)) (Memᴰ.append_cases (reaches l x us) (rw before at i))
  still_after z (inr n) = out-qs z (c.still z (inr n))

  -- what is found then: f among these parts, and the others us before
  abbrev pub among : ℕ → Option ℕ
  among k = cond (covers k us) (down (lookup l x k) k us) (cond (covers k ps) (f k) (down (lookup l x k) k vs))

  -- a search finds that
  pub found_after : (k : ℕ) → down (lookup l y k) k (us ++ (qs ++ vs)) ≡ among k
  found_after k =
      down-append (lookup l y k) k us (qs ++ vs) ∙
      rw (lookups-same x y l us same-as k, down-append (lookup l y k) k qs vs, lookups-same x y l vs same-bs k, c.span k)
      (ap (cond (covers k us) (down (lookup l x k) k us)) (go (covers k ps) refl))
    where
      go : (b : Bool) → covers k ps ≡ b → cond b (down (lookup l y k) k qs) (down (lookup l x k) k vs) ≡ cond b (f k) (down (lookup l x k) k vs)
      go true e = c.found k e
      go false e = refl

  -- and all parts together changed
  pub changed-among : Changed l New x (us ++ (ps ++ vs)) y (us ++ (qs ++ vs)) among
  changed-among =
      let e = every-right (sound_at l x) us (ps ++ vs) s.each in
      record {
        sound =
            record {
              each =
                  every-join (sound_at l y) us (qs ++ vs) (sounds-same x y l us same-as ∙ every-left (sound_at l x) us (ps ++ vs) s.each)
                  (every-join (sound_at l y) qs vs c.sound.each (sounds-same x y l vs same-bs ∙ every-right (sound_at l x) ps vs e));
              once = once_after;
              led =
                  every-join leads us (qs ++ vs) (every-left leads us (ps ++ vs) s.led)
                  (every-join leads qs vs c.sound.led (every-right leads ps vs (every-right leads us (ps ++ vs) s.led)));
            };
        span = λ k. covers-append k us (qs ++ vs) ∙ rw (covers-append k qs vs, c.span k, ← (covers-append k ps vs)) (sym (covers-append k us (ps ++ vs)));
        found = λ k i. found_after k;
        reached = reached-after;
        still = still_after;
        kept = λ z n o. c.kept z (λ i. n (in-ps z i)) o;
      }
