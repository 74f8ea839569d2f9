-- A part of a list in order, by index: it is what some test of keys leaves out, and all of it is for one child.
-- Assumes nothing.
use mathlib.Core.Path.{◌≡◌, refl, sym, ap, subst, ◌∙◌}
use mathlib.Core.Logic.{⊎_elim}
use mathlib.Core.Bool.{Bool, true, not, not-not}
use mathlib.Core.List.{List, ◌++◌, Memᴰ}
use Prim.Native.Nat.{ℕ, zero, suc, ◌+◌, ◌-◌, ◌≤◌, ◌<◌}
use native.Mathlib.Numerals.{add-one}
use native.Mathlib.Omega.{arith}
use lib.ListN.{length, take, drop, get_or, length-drop}
use lib.Seq.{get_or-drop, get_or-take, length-take-le}
use Rattle.octets.specs.Lists.{rest, rising}
use Rattle.octets.proofs.Order.{less-or-not}
use Rattle.octets.proofs.Tests.{keep_same}
use Rattle.octets.proofs.Rising.{rising-from}
use Rattle.spot.specs.Keys.{within}
use Rattle.block.specs.declared.Entry.{Entry}
use Rattle.block.specs.NodeRules.{lows}
use Rattle.buffer.specs.Buffer.{below}
use Rattle.octets.proofs.Lists.{mem-at}
use Rattle.buffer.proofs.Counts.{below-is, past-at}
use Rattle.buffer.proofs.Keyed.{Keyed, having, named-at, among-is, apart-is}
use Rattle.choose.specs.Choices.{ChildFor, start_at, end_at}
use Rattle.choose.proofs.Shares.{below_up, share-for}

-- an index is the number of keys below some key
module _ (ks : List ℕ) (up : rising ks ≡ true) where
  count-key : (f : ℕ) → f ≤ length ks → (c : ℕ) × (f ≡ below c ks)
  count-key zero h = (0, below-is 0 ks 0 h refl (rising-from 0 ks up))
  count-key (suc f) h = (suc (get_or ks f 0), sym (add-one f) ∙ past-at ks up f h (get_or ks f 0) refl)

  -- and so are two of them, in order
  pub record Ends (f t : ℕ) : Type 0 where
    pub lo : ℕ
    pub cut : ℕ
    pub order : lo ≤ cut
    pub at-lo : f ≡ below lo ks
    pub at_cut : t ≡ below cut ks

  ends_of : (f t : ℕ) → f ≤ t → t ≤ length ks → Ends f t
  ends_of f t h g =
      let a = count-key f (omega arith) in
      let b = count-key t g in
      ⊎_elim (λ (w : a.0 ≤ b.0). record { lo = a.0; cut = b.0; order = w; at-lo = a.1; at_cut = b.1 })
      (λ (w : b.0 < a.0).
      let v : t ≡ f = omega (arith, a.1, b.1, below_up b.0 a.0 ks (omega arith)) in
      record { lo = a.0; cut = a.0; order = omega arith; at-lo = a.1; at_cut = v ∙ a.1 })
      (less-or-not a.0 b.0)

module _ {A : Type 0} (K : Keyed A) (l : List A) (up : rising (K.named l) ≡ true) where
  -- which keys stay when those from f up to t go
  pub record Cut (f t : ℕ) : Type 0 where
    pub stay : ℕ → Bool
    pub goes : take (t - f) (drop f l) ≡ having K (λ j. not (stay j)) l
    pub stays : take f l ++ drop t l ≡ having K stay l

  pub cut_of : (f t : ℕ) → f ≤ t → t ≤ length l → Cut f t
  cut_of f t h g =
      let e = ends_of (K.named l) up f t h (omega (arith, K.named-length l)) in
      record {
        stay = λ j. not (within e.lo e.cut j);
        goes = among-is K e.lo e.cut 0 l e.order up f t e.at-lo e.at_cut
            ∙ keep_same (λ (x : A). within e.lo e.cut (K.key x)) (λ x. not (not (within e.lo e.cut (K.key x)))) l (λ x i. sym (not-not (within e.lo e.cut (K.key x))));
        stays = apart-is K e.lo e.cut 0 l e.order up f t e.at-lo e.at_cut;
      }

  -- a key of the part stands at an index of it
  pub part-at : (f m : ℕ) (d : A) {k : ℕ} → f + m ≤ length l → Memᴰ k (K.named (take m (drop f l))) → (p : ℕ) × (f ≤ p) × (p < f + m) × (get_or (K.named l) p 0 ≡ k)
  part-at f m d {k} h i =
      let part = take m (drop f l) in
      let w : length part ≡ m = length-take-le m (drop f l) (rw (length-drop f l) (omega arith)) in
      let r = mem-at (K.named part) 0 i in
      let n : r.0 < length part = omega (arith, r.1, K.named-length part) in
      let j : r.0 < m = omega arith in
      let v : f + r.0 < length l = omega arith in (
        f + r.0,
        omega arith,
        omega arith,
        named-at K l (f + r.0) d v ∙ ap K.key (sym (get_or-take m (drop f l) r.0 d j ∙ get_or-drop f l r.0 d)) ∙ sym (named-at K part r.0 d n) ∙ r.2,
      )

  -- all of a part of a child's keys is for that child
  pub part-for : (es : List Entry) (n c f t : ℕ) (d : A) {k : ℕ} → rising (rest (lows es)) ≡ true → n ≡ length l → c < length es
      → f ≡ start_at es (K.named l) c → f ≤ t → t ≤ end_at es (K.named l) n (suc c) → t ≤ n
      → Memᴰ k (K.named (take (t - f) (drop f l))) → ChildFor es k c
  part-for es n c f t d u e h a g b s i =
      let r = part-at f (t - f) d (omega arith) i in
      subst (λ (z : ℕ). ChildFor es z c) r.3
      (share-for es (K.named l) n u (e ∙ sym (K.named-length l)) up c r.0 h (omega (arith, r.1)) (omega (arith, r.2)))
