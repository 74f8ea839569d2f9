-- The bytes of a node, written one part behind the other, are the node.
-- Assumes nothing.
use mathlib.Core.Path.{◌≡◌, refl, sym, ap, ap₂, subst, ◌∙◌}
use mathlib.Core.Logic.{⊎_elim}
use mathlib.Core.Bool.{Bool, true, false, cond, not, ◌&&◌, ◌||◌, or-true}
use mathlib.Core.List.{List, [], ◌∷◌, ◌++◌, append_assoc, Memᴰ}
use Prim.Native.Nat.{ℕ, zero, suc, ◌+◌, ◌*◌, ◌≤◌, ◌<◌}
use native.Mathlib.Omega.{arith}
use lib.Dec.{eqb}
use lib.ListN.{length, take, drop, replicate, get_or, length-append}
use lib.Seq.{ext_get_or, drop_at, length-take-le}
use borrow.Author.Tests.{eqb-true, eq-eqb, le-leb}
use Rattle.octets.specs.Lists.{every, records}
use Rattle.octets.specs.Bytes.{be}
use Rattle.octets.proofs.Order.{same_or_not}
use Rattle.octets.proofs.Tests.{all_cons, all_nil, every-at, every-replicate}
use Rattle.octets.proofs.Records.{tests-make}
use Rattle.octets.proofs.Codec.{coded-back, length-coded}
use Rattle.spot.specs.Spots.{key_at, spot_at, key_bytes, spots_bytes}
use Rattle.spot.specs.declared.Spot.{Spot}
use Rattle.spot.proofs.Card.{length-key_bytes}
use Rattle.spot.proofs.Places.{within-to}
use Rattle.spot.proofs.Stored.{key_back, spots-back, length-spots_bytes}
use Rattle.block.specs.declared.Entry.{Entry}
use Rattle.block.specs.declared.Front.{Front}
use Rattle.block.specs.Table.{version1}
use Rattle.block.specs.Node.{Node, node_of, node_from, laid_out, entry_blank, first_blank}
use Rattle.block.specs.NodeRules.{zero_first, lows}
use Rattle.block.specs.Access.{front_of, used_of, entry_of}
use Rattle.block.proofs.Reading.{entries-count, entry-is}
use Rattle.octets.proofs.Lists.{at_mem}
use Rattle.node.specs.Memory.{EntryFits}
use Rattle.node.specs.Bytes.{front_bytes, entry_bytes, later_bytes, entries_bytes, keys_bytes, key_fits, spot_fits, keys_fit}
use Rattle.node.proofs.Listed.{blank}
use Rattle.node.proofs.Put.{length-entries, entries-split}
use Rattle.node.proofs.Back.{FrontThere, front-back, length_front, EntryThere, entry-back}

-- ---- lists of spots and of keys

spots-there : (xs : List Spot) (a b : List ℕ) {s : List ℕ} {n at : ℕ} → every spot_fits xs ≡ true → s ≡ a ++ (spots_bytes xs ++ b) → n ≡ length xs
    → at ≡ length a → records (spot_at s) 12 n at ≡ xs
spots-there xs a b {s} f e p q =
    ap₂ (λ (n at : ℕ). records (spot_at s) 12 n at) p q ∙ ap (λ (z : List ℕ). records (spot_at z) 12 (length xs) (length a)) e ∙ spots-back xs f a b

keys-there : (ks : List ℕ) (a b : List ℕ) {s : List ℕ} {n at : ℕ} → every key_fits ks ≡ true → s ≡ a ++ (keys_bytes ks ++ b) → n ≡ length ks
    → at ≡ length a → records (key_at s) 8 n at ≡ ks
keys-there ks a b {s} f e p q =
    ap₂ (λ (n at : ℕ). records (key_at s) 8 n at) p q ∙ ap (λ (z : List ℕ). records (key_at z) 8 (length ks) (length a)) e
    ∙ coded-back keys_bytes key_bytes 8 refl (λ k ks. refl) key_at key_fits length-key_bytes (λ k h. key_back k (within-to 0 _ k h)) ks f a b

length-keys_bytes : (ks : List ℕ) → length (keys_bytes ks) ≡ 8 * length ks
length-keys_bytes = length-coded keys_bytes key_bytes 8 refl (λ k ks. refl) length-key_bytes

-- ---- an entry that stands there

pick : (b : Bool) (x y : ℕ) → (b ≡ true → x ≡ 0) → (b ≡ false → y ≡ x) → cond b 0 y ≡ x
pick true x y p q = sym (p refl)
pick false x y p q = q refl

first-zero : (es : List Entry) (i : ℕ) → zero_first (lows es) ≡ true → i < length es → eqb i 0 ≡ true → (get_or es i blank).low ≡ 0
first-zero [] i z h e = let c : ⊥ = omega arith in absurd c
first-zero (x ∷ es) zero z h e = eqb-true x.low 0 z
first-zero (x ∷ es) (suc i) z h e = let c : suc i ≡ 0 = eqb-true (suc i) 0 e in let d : ⊥ = omega arith in absurd d

same-entry : {b b' n n' l l' t t' u u' : ℕ} → b ≡ b' → n ≡ n' → l ≡ l' → t ≡ t' → u ≡ u'
    → ◌≡◌ {A = Entry} (record { block = b; size = n; low = l; top = t; bottom = u }) (record { block = b'; size = n'; low = l'; top = t'; bottom = u' })
same-entry p q r v w = cc

entry-same : (s : List ℕ) (i : ℕ) (e : Entry) → EntryThere (eqb i 0) e s (8 + 28 * i) → EntryFits e → (eqb i 0 ≡ true → e.low ≡ 0) → entry_of s i ≡ e
unfolding entry_of
entry-same s i e t f z =
    let at : ℕ = 8 + 28 * i in
    let n : be 1 s (at + 2) ≡ e.size = t.size in
    let low : cond (eqb i 0) 0 (key_at s (at + 4)) ≡ e.low = pick (eqb i 0) e.low (key_at s (at + 4)) z t.low.0 in
    let top : cond (eqb (be 1 s (at + 2)) 0) 0 (key_at s (at + 12)) ≡ e.top =
    rw n (pick (eqb e.size 0) e.top (key_at s (at + 12)) (λ q. f.top (eqb-true e.size 0 q)) t.top.0)
    in
    let bottom : cond (eqb (be 1 s (at + 2)) 0) 0 (key_at s (at + 20)) ≡ e.bottom =
    rw n (pick (eqb e.size 0) e.bottom (key_at s (at + 20)) (λ q. f.bottom (eqb-true e.size 0 q)) t.bottom.0)
    in
    same-entry t.block n low top bottom

either-zero : (b c d : Bool) → (b ≡ true → c ≡ true) → (b ≡ true → d ≡ true) → not b || (c && d) ≡ true
either-zero true c d p q = rw (p refl, q refl)
either-zero false c d p q = refl

blank-there : (first : Bool) (e : Entry) (s : List ℕ) (at : ℕ) → EntryThere first e s at → entry_blank s at ≡ true
unfolding entry_blank
blank-there first e s at t =
    rw (t.bare, t.size)
    (either-zero (eqb e.size 0) (eqb (be 8 s (at + 12)) 0) (eqb (be 8 s (at + 20)) 0) (λ q. eq-eqb (be 8 s (at + 12)) 0 (t.top.1 q))
    (λ q. eq-eqb (be 8 s (at + 20)) 0 (t.bottom.1 q)))

pub same-node : {l l' : ℕ} {e e' : List Entry} {p p' i i' : List Spot} {d d' : List ℕ} {a a' : Bool} {r r' : ℕ} → l ≡ l' → e ≡ e' → p ≡ p' → i ≡ i' → d ≡ d' → a ≡ a'
    → r ≡ r'
    → ◌≡◌ {A = Node} (record { level = l; entries = e; points = p; inserts = i; deletes = d; laid = a; room = r })
    (record { level = l'; entries = e'; points = p'; inserts = i'; deletes = d'; laid = a'; room = r' })
same-node x y z u v w t = cc

-- ---- the whole

-- the node that a front and lists make, as it can be written
pub record Parts (h : Front) (es : List Entry) (ps is : List Spot) (ds : List ℕ) : Type 0 where
  pub level : h.level < 256
  pub version : h.version ≡ 1
  pub used : h.used ≡ used_of h
  pub c : h.c ≡ length es
  pub p : h.p ≡ length ps
  pub i : h.i ≡ length is
  pub d : h.d ≡ length ds
  pub c-most : h.c ≤ 8
  pub p-most : h.p ≤ 64
  pub i-most : h.i ≤ 64
  pub d-most : h.d ≤ 16
  pub each : (e : Entry) → Memᴰ e es → EntryFits e
  pub first : zero_first (lows es) ≡ true
  pub entries_fit : every keys_fit es ≡ true
  pub points-fit : every spot_fits ps ≡ true
  pub inserts-fit : every spot_fits is ≡ true
  pub deletes-fit : every key_fits ds ≡ true

-- their bytes, and k zeros
unfoldable pub whole_bytes : Front → List Entry → List Spot → List Spot → List ℕ → ℕ → List ℕ
whole_bytes h es ps is ds k = front_bytes h ++ entries_bytes es ++ spots_bytes ps ++ spots_bytes is ++ keys_bytes ds ++ replicate k 0

module _ (h : Front) (es : List Entry) (ps is : List Spot) (ds : List ℕ) (g : Parts h es ps is ds) where
  -- how long what stands before each list is
  pub length-b : length (front_bytes h ++ entries_bytes es) ≡ 8 + 28 * h.c
  length-b = length-append (front_bytes h) (entries_bytes es) ∙ omega (arith, length_front h, length-entries es, g.c)

  pub length-p : length (front_bytes h ++ entries_bytes es ++ spots_bytes ps) ≡ 8 + 28 * h.c + 12 * h.p
  length-p = length-append (front_bytes h ++ entries_bytes es) (spots_bytes ps) ∙ omega (arith, length-b, length-spots_bytes ps, g.p)

  pub length-i : length (front_bytes h ++ entries_bytes es ++ spots_bytes ps ++ spots_bytes is) ≡ 8 + 28 * h.c + 12 * (h.p + h.i)
  length-i = length-append (front_bytes h ++ entries_bytes es ++ spots_bytes ps) (spots_bytes is) ∙ omega (arith, length-p, length-spots_bytes is, g.i)

  pub length-d : length (front_bytes h ++ entries_bytes es ++ spots_bytes ps ++ spots_bytes is ++ keys_bytes ds) ≡ used_of h
  length-d =
      length-append (front_bytes h ++ entries_bytes es ++ spots_bytes ps ++ spots_bytes is) (keys_bytes ds) ∙ omega (arith, length-i, length-keys_bytes ds, g.d)

module _ (h : Front) (es : List Entry) (ps is : List Spot) (ds : List ℕ) (k : ℕ) (g : Parts h es ps is ds) where
  abbrev s : List ℕ
  s = whole_bytes h es ps is ds k

  abbrev behind-entries : List ℕ
  behind-entries = spots_bytes ps ++ (spots_bytes is ++ (keys_bytes ds ++ replicate k 0))

  split : s ≡ front_bytes h ++ (entries_bytes es ++ behind-entries)
  unfolding whole_bytes
  split = simp append_assoc

  front : FrontThere h s
  front =
      subst (FrontThere h) (sym split)
      (front-back h (entries_bytes es ++ behind-entries)
      (record {
        used = omega (arith, g);
        version = omega (arith, g);
        level = g.level;
        p = omega (arith, g);
        i = omega (arith, g);
        d = omega (arith, g);
        c = omega (arith, g);
      }))

  -- the lists
  points : (room : ℕ) → (node_of room s).points ≡ ps
  unfolding node_of node_from
  points room =
      spots-there ps (front_bytes h ++ entries_bytes es) (spots_bytes is ++ (keys_bytes ds ++ replicate k 0)) g.points-fit (split ∙ simp append_assoc)
      (front.p ∙ g.p) (ap (λ (n : ℕ). 8 + 28 * n) front.c ∙ sym (length-b h es ps is ds g))

  inserts : (room : ℕ) → (node_of room s).inserts ≡ is
  unfolding node_of node_from
  inserts room =
      spots-there is (front_bytes h ++ entries_bytes es ++ spots_bytes ps) (keys_bytes ds ++ replicate k 0) g.inserts-fit (split ∙ simp append_assoc)
      (front.i ∙ g.i) (ap₂ (λ (n m : ℕ). 8 + 28 * n + 12 * m) front.c front.p ∙ sym (length-p h es ps is ds g))

  deletes : (room : ℕ) → (node_of room s).deletes ≡ ds
  unfolding node_of node_from
  deletes room =
      keys-there ds (front_bytes h ++ entries_bytes es ++ spots_bytes ps ++ spots_bytes is) (replicate k 0) g.deletes-fit (split ∙ simp append_assoc)
      (front.d ∙ g.d) (rw (front.c, front.p, front.i) (sym (length-i h es ps is ds g)))

  -- the entries
  entry-there : (i : ℕ) → i < length es → EntryThere (eqb i 0) (get_or es i blank) s (8 + 28 * i)
  entry-there i l =
      let e : Entry = get_or es i blank in
      let f : EntryFits e = g.each e (at_mem es i blank l) in
      let a : List ℕ = front_bytes h ++ entries_bytes (take i es) in
      let b : List ℕ = later_bytes (drop (suc i) es) ++ behind-entries in
      let m : length a ≡ 8 + 28 * i =
      length-append (front_bytes h) (entries_bytes (take i es)) ∙ omega (arith, length_front h, length-entries (take i es), length-take-le i es (omega arith))
      in
      let q : s ≡ a ++ (entry_bytes (eqb i 0) e ++ b) =
      split ∙ ap (λ (z : List ℕ). front_bytes h ++ (z ++ behind-entries)) (entries-split es i blank l) ∙ simp append_assoc
      in
      subst (λ (n : ℕ). EntryThere (eqb i 0) e s n) m
      (subst (λ (z : List ℕ). EntryThere (eqb i 0) e z (length a)) (sym q) (entry-back (eqb i 0) e a b f.block f.size (every-at keys_fit es blank g.entries_fit i l)))

  entries : (room : ℕ) → (node_of room s).entries ≡ es
  unfolding front_of
  entries room =
      let n : length (node_of room s).entries ≡ length es = entries-count room s ∙ front.c ∙ g.c in
      ext_get_or blank (node_of room s).entries es n
      (λ i l. let m : i < length es = omega arith in
      entry-is room s i blank (omega (arith, front.c, g.c))
      ∙ entry-same s i (get_or es i blank) (entry-there i m) (g.each (get_or es i blank) (at_mem es i blank m)) (first-zero es i g.first m))

  -- the layout
  first-blank : first_blank s h.c ≡ true
  unfolding first_blank
  first-blank =
      ⊎_elim (λ (e : h.c ≡ 0). rw (eq-eqb h.c 0 e))
      (λ (d : h.c ≡ 0 → ⊥). let t = entry-there 0 (omega (arith, g.c)) in rw (t.low.1 refl) (or-true (eqb h.c 0)))
      (same_or_not h.c 0)

  laid : laid_out version1 s h.c h.p h.i h.d ≡ true
  unfolding laid_out whole_bytes
  laid =
      all_cons _ _ (eq-eqb _ _ (front.used ∙ g.used))
      (all_cons _ _ (le-leb (used_of h) 1896 (omega (arith, g)))
      (all_cons _ _ (eq-eqb _ _ (front.version ∙ g.version))
      (all_cons _ _ (ap (every (λ x. eqb x 0)) (drop_at (front_bytes h ++ entries_bytes es ++ spots_bytes ps ++ spots_bytes is ++ keys_bytes ds) (replicate k 0) (used_of h) (length-d h es ps is ds g)) ∙ every-replicate (λ x. eqb x 0) k 0 refl)
      (all_cons _ _ (tests-make (entry_blank s) 28 h.c 8 (λ i l. blank-there (eqb i 0) (get_or es i blank) s (8 + 28 * i) (entry-there i (omega (arith, g.c)))))
      (all_cons _ _ first-blank all_nil)))))

  level-is : (room : ℕ) → (node_of room s).level ≡ h.level
  unfolding node_of node_from
  level-is room = front.level

  laid-is : (room : ℕ) → (node_of room s).laid ≡ true
  unfolding node_of node_from
  laid-is room = rw (front.c, front.p, front.i, front.d) laid

  room-is : (room : ℕ) → (node_of room s).room ≡ room
  unfolding node_of node_from
  room-is room = refl

  pub whole_is : (room : ℕ) → node_of room s ≡ record { level = h.level; entries = es; points = ps; inserts = is; deletes = ds; laid = true; room = room }
  whole_is room = same-node (level-is room) (entries room) (points room) (inserts room) (deletes room) (laid-is room) (room-is room)
