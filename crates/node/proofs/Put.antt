-- Bytes put in the place of others, one part behind the other: the front of a node, an entry, and lists of records.
-- Assumes nothing.
use mathlib.Core.Path.{◌≡◌, refl, sym, ap, ap₂, ◌∙◌}
use mathlib.Core.Bool.{Bool, true, false}
use mathlib.Core.List.{List, [], ◌∷◌, ◌++◌, append_assoc, append-nil}
use Prim.Native.Nat.{ℕ, zero, suc, ◌+◌, ◌-◌, ◌*◌, ◌≤◌, ◌<◌}
use native.Mathlib.Nat.{le_of_suc-le-suc, not-suc-le-zero}
use native.Mathlib.Omega.{arith}
use lib.Dec.{eqb, eqb-suc-zero}
use lib.ListN.{length, take, drop, replicate, get_or, length-append}
use lib.Seq.{take-take, split_at, get_or-take, length-take-le, drop-length}
use borrow.Rule.Slice.PartMut.{mid_of, put_mid, Post-is, mid_len}
use Rattle.octets.specs.Bytes.{bytes_of, put_be, put_bytes}
use Rattle.octets.proofs.Parts.{bytes-behind, number-bytes, number_behind}
use Rattle.octets.proofs.Codec.{coded-append, length-coded, record-behind}
use Rattle.octets.proofs.Lists.{over-all}
use Rattle.spot.proofs.Card.{length-key_bytes}
use Rattle.block.specs.declared.Entry.{Entry}
use Rattle.block.specs.declared.Front.{Front}
use Rattle.node.specs.Bytes.{front_bytes, bytes_unless, entry_bytes, later_bytes, entries_bytes}

-- ---- the front

pub front-written : (h : Front) (s : List ℕ) {a b c d e f g : List ℕ} → 8 ≤ length s → a ≡ put_be 2 s 0 h.used → b ≡ put_be 1 a 2 h.version
    → c ≡ put_be 1 b 3 h.level → d ≡ put_be 1 c 4 h.p → e ≡ put_be 1 d 5 h.i → f ≡ put_be 1 e 6 h.d → g ≡ put_be 1 f 7 h.c → g ≡ put_bytes s 0 (front_bytes h)
unfolding front_bytes bytes_of
front-written h s l pa pb pc pd pe pf pg =
    number_behind 1 s _ 0 7 h.c refl (omega arith)
    (number_behind 1 s _ 0 6 h.d refl (omega arith)
    (number_behind 1 s _ 0 5 h.i refl (omega arith)
    (number_behind 1 s _ 0 4 h.p refl (omega arith)
    (number_behind 1 s _ 0 3 h.level refl (omega arith)
    (number_behind 1 s _ 0 2 h.version refl (omega arith) (pa ∙ number-bytes 2 s 0 h.used (omega arith)) pb) pc) pd) pe) pf) pg

-- ---- an entry

pub length-unless : (u : Bool) (k : ℕ) → length (bytes_unless u k) ≡ 8
unfolding bytes_unless
length-unless true k = refl
length-unless false k = length-key_bytes k

-- zeros, where the key is unused
pub unused-bytes : (s : List ℕ) {t u : List ℕ} (i k : ℕ) → i + 8 ≤ length s → t ≡ put_be 4 s i 0 → u ≡ put_be 4 t (i + 4) 0 → u ≡ put_bytes s i (bytes_unless true k)
unfolding bytes_unless bytes_of
unused-bytes s i k h p q = number_behind 4 s (bytes_of 4 0) i (i + 4) 0 refl (omega arith) (p ∙ number-bytes 4 s i 0 (omega arith)) q

length-entry : (first : Bool) (e : Entry) → length (entry_bytes first e) ≡ 28
unfolding entry_bytes bytes_of
length-entry first e = simp (length-append, length-unless)

pub entry-written : (first : Bool) (e : Entry) (s : List ℕ) {a b c d f g : List ℕ} (at : ℕ) → at + 28 ≤ length s → a ≡ put_be 2 s at e.block
    → b ≡ put_be 1 a (at + 2) e.size → c ≡ put_be 1 b (at + 3) 0 → d ≡ put_bytes c (at + 4) (bytes_unless first e.low)
    → f ≡ put_bytes d (at + 12) (bytes_unless (eqb e.size 0) e.top) → g ≡ put_bytes f (at + 20) (bytes_unless (eqb e.size 0) e.bottom)
    → g ≡ put_bytes s at (entry_bytes first e)
unfolding entry_bytes bytes_of
entry-written first e s {a} {b} {c} at h pa pb pc pd pf pg =
    let n : List ℕ = bytes_of 2 e.block ++ bytes_of 1 e.size ++ bytes_of 1 0 in
    let l : List ℕ = bytes_unless first e.low in
    let t : List ℕ = bytes_unless (eqb e.size 0) e.top in
    let u : List ℕ = bytes_unless (eqb e.size 0) e.bottom in
    let q : c ≡ put_bytes s at n =
    number_behind 1 s (bytes_of 2 e.block ++ bytes_of 1 e.size) at (at + 3) 0 refl (omega arith)
    (number_behind 1 s (bytes_of 2 e.block) at (at + 2) e.size refl (omega arith) (pa ∙ number-bytes 2 s at e.block (omega arith)) pb)
    pc
    in
    bytes-behind s (n ++ l ++ t) u at (at + 20) (simp (length-append, length-unless)) (omega arith)
    (bytes-behind s (n ++ l) t at (at + 12) (simp length-unless) (omega arith) (bytes-behind s n l at (at + 4) refl (omega arith) q pd) pf)
    pg

-- ---- lists of records

module _ {A : Type 0} (E : List A → List ℕ) (enc : A → List ℕ) (w : ℕ) (nil : E [] ≡ []) (cons : (x : A) (xs : List A) → E (x ∷ xs) ≡ enc x ++ E xs) where
  -- the part that record i puts behind the first i
  coded-split : (l : List A) (i : ℕ) (d : A) → i < length l → E l ≡ E (take i l) ++ (enc (get_or l i d) ++ E (drop (suc i) l))
  coded-split l i d h =
      ap E (split_at l i d h) ∙ coded-append E enc w nil cons (take i l) (get_or l i d ∷ drop (suc i) l)
      ∙ ap (λ (z : List ℕ). E (take i l) ++ z) (cons (get_or l i d) (drop (suc i) l))

  -- record i behind the first i, all of them w bytes long
  pub nth-behind : (wide : (x : A) → length (enc x) ≡ w) (s : List ℕ) {t u : List ℕ} (at : ℕ) (l : List A) (i : ℕ) (d : A) → i < length l → at + w * i ≤ length s
      → t ≡ put_bytes s at (E (take i l)) → u ≡ put_bytes t (at + w * i) (enc (get_or l i d)) → u ≡ put_bytes s at (E (take (i + 1) l))
  nth-behind wide s at l i d h k p q =
      let n : length (take i l) ≡ i = length-take-le i l (omega arith) in
      let m : at + length (E (take i l)) ≡ at + w * i = ap (λ (z : ℕ). at + z) (length-coded E enc w nil cons wide (take i l) ∙ ap (λ (z : ℕ). w * z) n) in
      record-behind E enc w nil cons s [] at (at + w * i) l i d h m k p q

length-later : (es : List Entry) → length (later_bytes es) ≡ 28 * length es
length-later = length-coded later_bytes (entry_bytes false) 28 refl (λ e es. refl) (length-entry false)

pub length-entries : (es : List Entry) → length (entries_bytes es) ≡ 28 * length es
length-entries [] = refl
length-entries (e ∷ es) =
    length-append (entry_bytes true e) (later_bytes es) ∙ omega (arith, length-entry true e, length-later es)

pub entries-split : (es : List Entry) (i : ℕ) (d : Entry) → i < length es
    → entries_bytes es ≡ entries_bytes (take i es) ++ (entry_bytes (eqb i 0) (get_or es i d) ++ later_bytes (drop (suc i) es))
entries-split [] i d h = absurd (not-suc-le-zero h)
entries-split (e ∷ es) zero d h = refl
entries-split (e ∷ es) (suc i) d h =
    ap (λ (z : List ℕ). entry_bytes true e ++ z) (coded-split later_bytes (entry_bytes false) 28 refl (λ e es. refl) es i d (le_of_suc-le-suc h))
    ∙ sym (append_assoc (entry_bytes true e) (later_bytes (take i es)) (entry_bytes false (get_or es i d) ++ later_bytes (drop (suc i) es)))
    ∙ ap (λ (b : Bool). entry_bytes true e ++ later_bytes (take i es) ++ (entry_bytes b (get_or es i d) ++ later_bytes (drop (suc i) es))) (sym (eqb-suc-zero i))

-- the turn of a loop that writes the first n of an array: entries
pub entry-behind : (s : List ℕ) {t u : List ℕ} (n : ℕ) (l : List Entry) (i : ℕ) (d : Entry) → i < n → n ≤ length l → 8 + 28 * n ≤ length s
    → t ≡ put_bytes s 8 (entries_bytes (take i (take n l))) → u ≡ put_bytes t (8 + 28 * i) (entry_bytes (eqb i 0) (get_or l i d))
    → u ≡ put_bytes s 8 (entries_bytes (take (i + 1) (take n l)))
entry-behind s n l i d h g k p q =
    let es : List Entry = take n l in
    let e : length es ≡ n = length-take-le n l g in
    let f : length (take (i + 1) es) ≡ i + 1 = length-take-le (i + 1) es (omega arith) in
    let m : 8 + length (entries_bytes (take i es)) ≡ 8 + 28 * i = omega (arith, length-entries (take i es), length-take-le i es (omega arith)) in
    let a : i < i + 1 = omega arith in
    let b : i ≤ i + 1 = omega arith in
    let r : suc i ≡ length (take (i + 1) es) = omega arith in
    let z : drop (suc i) (take (i + 1) es) ≡ [] = ap (λ (x : ℕ). drop x (take (i + 1) es)) r ∙ drop-length (take (i + 1) es) in
    bytes-behind s (entries_bytes (take i es)) (entry_bytes (eqb i 0) (get_or l i d)) 8 (8 + 28 * i) m (omega arith) p q
    ∙ ap (put_bytes s 8)
    (sym (entries-split (take (i + 1) es) i d (omega arith) ∙ rw (take-take i (i + 1) es b, get_or-take (i + 1) es i d a, get_or-take n l i d h, z, append-nil)))

-- the part from at on, lent and zeroed
pub zeroed : (s : List ℕ) {u : List ℕ} (at : ℕ) → at ≤ length s
    → u ≡ replicate (length s - at) 0 ++ drop (length s - at) (mid_of at (length s - at) s) → put_mid at (length s - at) s u ≡ take at s ++ replicate (length s - at) 0
zeroed s {u} at h e =
    let k : ℕ = length s - at in
    let m : length (mid_of at k s) ≡ k = mid_len at (length s) s (omega arith) in
    ap (λ (z : List ℕ). take at s ++ z)
    (ap₂ (λ (x y : List ℕ). x ++ y) (e ∙ over-all (replicate k 0) (mid_of at k s) k (omega arith)) (Post-is at (length s) s h ∙ drop-length s)
    ∙ append-nil (replicate k 0))
