-- The pairs of the sweep: at all times two neighbours have at least 65 spots left, and no block has more than 64.
-- Assumes nothing.
use mathlib.Core.Path.{◌≡◌, refl, ap, sym, ◌∙◌}
use mathlib.Core.Logic.{◌⊎◌, inl, inr, ⊎_elim}
use mathlib.Core.Bool.{Bool, true, false, cond, ◌&&◌}
use mathlib.Core.List.Memᴰ
use mathlib.Core.List.{List, [], ◌∷◌, ◌++◌, Memᴰ}
use Prim.Native.Nat.{ℕ, zero, suc, ◌+◌, ◌*◌, ◌≤◌, ◌<◌}
use native.Mathlib.Omega.{arith}
use lib.Dec.{leb, ltb}
use lib.ListN.{length, take, drop, length-take, length-drop}
use borrow.Author.Tests.{leb-true, le-leb, lt-ltb, eqb-false}
use Rattle.octets.specs.Lists.{rising_from, rising}
use Rattle.octets.proofs.Order.{less-or-not}
use Rattle.octets.proofs.Lists.{mem-same}
use Rattle.octets.proofs.Tests.{and_left, and_right, and_both, bool-ext, every-make, keep-in, keep-there, keep_all, keep_same, keep-keep, length-keep-imp}
use Rattle.octets.proofs.Rising.{rising-first, rising-rest, rising-least, rising-left}
use Rattle.spot.specs.Keys.{word, all_keys, rank_key, rank_of}
use Rattle.spot.specs.Spots.{keys}
use Rattle.spot.specs.Sorted.{only, but}
use Rattle.spot.specs.declared.Spot.{Spot}
use Rattle.spot.proofs.Halves.{rank-small}
use Rattle.spot.proofs.Buffers.{keys-mem, keys-only, only-rises}
use Rattle.spot.proofs.Sorted.{but-not, but-yes, length-but}
use Rattle.sweep.specs.Sweep.{StandingBlock, cut, cuts_for, numbered, at_first, by_rank, above_passed, ripe, fuse, fused_from, fused_at, next_number, standing, first_fused, keys_under, standing_at}
use Rattle.sweep.specs.Pressed.{Pressable}
use Rattle.sweep.specs.Report.{standing_spots}
use Rattle.sweep.proofs.Orders.{rank_keys, rank_keys-mem, rank_keys-append, by_rank-from, by_rank-in, order-rises, order_small}
use Rattle.sweep.proofs.Covers.{first-spots, length-keep-append, keep-stronger, left_both, ripe-left, only_next, under-passed}
use Rattle.sweep.proofs.Stands.{at_least, order-split}

-- ---- spots left

-- how many spots of a block pass a test of keys, and of all blocks
abbrev pub count : (ℕ → Bool) → StandingBlock → ℕ
count g s = length (only g s.spots)

abbrev pub total : (ℕ → Bool) → List StandingBlock → ℕ
total g st = length (only g (standing_spots st))

-- the key is not below r in rank order: with 0 all keys, with one more than p's those left once p is passed
abbrev pub since : ℕ → ℕ → Bool
since r k = leb r (rank_key k)

pub total-cons : (g : ℕ → Bool) (s : StandingBlock) (st : List StandingBlock) → total g (s ∷ st) ≡ count g s + total g st
total-cons g s st = length-keep-append (λ (x : Spot). g x.key) s.spots (standing_spots st)

abbrev Inside : (ℕ → Bool) → (ℕ → Bool) → Type 0
Inside f g = (k : ℕ) → f k ≡ true → g k ≡ true

fewer-pass : (f g : ℕ → Bool) → Inside f g → (xs : List Spot) → length (only f xs) ≤ length (only g xs)
fewer-pass f g h xs = length-keep-imp (λ (x : Spot). f x.key) (λ (x : Spot). g x.key) (λ x e. h x.key e) xs

only-inside : (f g : ℕ → Bool) → Inside f g → (xs : List Spot) → only f (only g xs) ≡ only f xs
only-inside f g h xs = keep-stronger (λ (x : Spot). g x.key) (λ (x : Spot). f x.key) (λ x e. h x.key e) xs

since-inside : (r e : ℕ) → r ≤ e → Inside (since e) (since r)
since-inside r e l k h = le-leb r (rank_key k) (omega (arith, leb-true e (rank_key k) h))

-- ---- the invariant

-- beside a block with m spots left
abbrev pub Beside : (ℕ → Bool) → ℕ → List StandingBlock → Type 0
Beside g m [] = Unit {0}
Beside g m (s ∷ st) = (65 ≤ m + count g s) × (count g s ≤ 64) × Beside g (count g s) st

-- every pair has at least 65 left
abbrev pub Apart65 : (ℕ → Bool) → List StandingBlock → Type 0
Apart65 g st = Beside g 65 st

-- where no spot is passed
beside_same : (f g : ℕ → Bool) → Inside f g → (st : List StandingBlock) (m o : ℕ) → m ≤ o → total g st ≤ total f st → Beside g m st → Beside f o st
beside_same f g h [] m o l t b = tt
beside_same f g h (s ∷ st) m o l t b =
    let c = fewer-pass f g h s.spots in
    let d = fewer-pass f g h (standing_spots st) in
    let e = total-cons f s st in
    let i = total-cons g s st in
    (omega (arith, b.0), omega (arith, b.1), beside_same f g h st (count g s) (count f s) (omega arith) (omega arith) b.2)

-- the block of a fusion has the spots left of both
fused-count : (p n : ℕ) (a b : StandingBlock) → count (above_passed p) (fuse p n a b).made ≡ count (above_passed p) a + count (above_passed p) b
unfolding fuse
fused-count p n a b = ap length (only-inside (above_passed p) (above_passed p) (λ k e. e) (a.spots ++ b.spots)) ∙ left_both p a b

ripe-not : (p : ℕ) (a b : StandingBlock) → ripe p a b ≡ false → count (above_passed p) a + count (above_passed p) b ≡ 64 → ⊥
unfolding ripe
ripe-not p a b h = eqb-false _ 64 h

-- the passing of one spot, in the block before (of m spots left, then o) or in these: one fusion at most makes good for it
module _ (g : ℕ → Bool) (p n : ℕ) (h : Inside (above_passed p) g) where
  beside-pass : (rest : List StandingBlock) (a : StandingBlock) (m o : ℕ) → o ≤ m → m + total g (a ∷ rest) ≤ suc (o + total (above_passed p) (a ∷ rest))
      → (o + count (above_passed p) a ≡ 64 → ⊥) → Beside g m (a ∷ rest) → Beside (above_passed p) o (fused_from p n a rest)
  beside-pass [] a m o l t u b =
      let c = fewer-pass (above_passed p) g h a.spots in
      let e = total-cons (above_passed p) a [] in
      let i = total-cons g a [] in
      let z : (64 < o + count (above_passed p) a) ⊎ (o + count (above_passed p) a ≤ 64) = ⊎_elim inr inl (less-or-not (o + count (above_passed p) a) 64) in
      (⊎_elim (λ x. x) (λ x. absurd (u (omega (arith, b.0)))) z, omega (arith, b.1), tt)
  beside-pass (c ∷ rest) a m o l t u b =
      go (ripe p a c) refl (λ e. beside-pass rest c (count g a) (count (above_passed p) a) la (omega (arith, t, gs, fs, l)) (ripe-not p a c e) b.2)
    where
      gs : total g (a ∷ c ∷ rest) ≡ count g a + total g (c ∷ rest)
      gs = total-cons g a (c ∷ rest)

      fs : total (above_passed p) (a ∷ c ∷ rest) ≡ count (above_passed p) a + total (above_passed p) (c ∷ rest)
      fs = total-cons (above_passed p) a (c ∷ rest)

      la : count (above_passed p) a ≤ count g a
      la = fewer-pass (above_passed p) g h a.spots

      lc : count (above_passed p) c ≤ count g c
      lc = fewer-pass (above_passed p) g h c.spots

      lr : total (above_passed p) (c ∷ rest) ≤ total g (c ∷ rest)
      lr = fewer-pass (above_passed p) g h (standing_spots (c ∷ rest))

      lt : total (above_passed p) rest ≤ total g rest
      lt = fewer-pass (above_passed p) g h (standing_spots rest)

      go : (x : Bool) → ripe p a c ≡ x → (ripe p a c ≡ false → Beside (above_passed p) (count (above_passed p) a) (fused_from p n c rest))
          → Beside (above_passed p) o (cond x ((fuse p n a c).made ∷ rest) (a ∷ fused_from p n c rest))
      go true e ih =
          let k = sym (left_both p a c) ∙ ripe-left p a c e in
          let d = fused-count p n a c in
          let i = total-cons g c rest in
          let j = total-cons (above_passed p) c rest in (
            omega (arith, b.0, b.1, b.2.0, t, gs, fs, la, lc, lt),
            omega (arith, d, k),
            beside_same (above_passed p) g h rest (count g c) (count (above_passed p) (fuse p n a c).made) (omega (arith, b.2.1, d, k)) (omega (arith, b.0, b.2.0, t, gs, fs, la, lc, lt)) b.2.2,
          )
      go false e ih =
          (⊎_elim (λ x. absurd (u (omega (arith, b.0, t, gs, fs, la, lr, l, x)))) (λ x. x) (less-or-not (o + count (above_passed p) a) 64), omega (arith, b.1, la), ih e)

-- ---- the sweep

-- keys to be passed next: those of ks that are not below r, up to and without e, in rank order
pub record Queue (ks : List ℕ) (r e : ℕ) (ps : List ℕ) : Type 0 where
  pub order : r ≤ e
  pub rise : rising_from r (rank_keys ps) ≡ true
  pub from : (k : ℕ) → Memᴰ k ps → Memᴰ k ks
  pub under : (k : ℕ) → Memᴰ k ps → rank_key k < e
  pub whole : (k : ℕ) → Memᴰ k ks → r ≤ rank_key k → rank_key k < e → Memᴰ k ps

pub queue-next : (ks : List ℕ) (r e p : ℕ) (ps : List ℕ) → Queue ks r e (p ∷ ps) → Queue ks (suc (rank_key p)) e ps
queue-next ks r e p ps q =
    let f = rising-first r (rank_key p) (rank_keys ps) q.rise in
    record {
      order = q.under p (Memᴰ.head refl);
      rise = rising-rest r (rank_key p) (rank_keys ps) q.rise;
      from = λ k i. q.from k (Memᴰ.tail i);
      under = λ k i. q.under k (Memᴰ.tail i);
      whole = λ k i l u. ⊎_elim (λ (x : k ≡ p). absurd (let z = ap rank_key x in omega (arith, z, l))) (λ j. j) (Memᴰ.cases_cons (q.whole k i (omega (arith, f, l)) u));
    }

-- the blocks that stand where all keys below r are passed
pub record Paired (ss : List Spot) (r : ℕ) (st : List StandingBlock) : Type 0 where
  pub covers : only (since r) (standing_spots st) ≡ only (since r) ss
  pub pairs : Apart65 (since r) st

covers-on : (ss : List Spot) (r e : ℕ) (st : List StandingBlock) → r ≤ e → only (since r) (standing_spots st) ≡ only (since r) ss → only (since e) (standing_spots st) ≡ only (since e) ss
covers-on ss r e st l h =
    let i = since-inside r e l in
    sym (only-inside (since e) (since r) i (standing_spots st)) ∙ ap (only (since e)) h ∙ only-inside (since e) (since r) i ss

module _ (ss : List Spot) (up : rising (keys ss) ≡ true) where
  -- the passing of a key takes one spot
  takes_one : (r e p : ℕ) (ps : List ℕ) → Queue (keys ss) r e (p ∷ ps) → length (only (since r) ss) ≡ suc (length (only (above_passed p) ss))
  takes_one r e p ps q =
      let same = keep_same (λ (x : Spot). above_passed p x.key) (λ (x : Spot). since r x.key && but p x.key) ss (λ x i. test x.key (keys-mem ss i)) in
      let two = keep-keep (λ (x : Spot). since r x.key) (λ (x : Spot). but p x.key) (λ (x : Spot). since r x.key && but p x.key) (λ x. refl) ss in
      let here = keep-there (since r) (keys ss) (q.from p (Memᴰ.head refl)) (le-leb r (rank_key p) first) in
      sym (length-but 0 p (only (since r) ss) (only-rises (since r) ss up) (mem-same (sym (keys-only (since r) ss)) here)) ∙
      ap (λ (l : List Spot). suc (length l)) (sym (same ∙ two))
    where
      first : r ≤ rank_key p
      first = rising-first r (rank_key p) (rank_keys ps) q.rise

      later : (k : ℕ) → Memᴰ k (keys ss) → r ≤ rank_key k → (k ≡ p → ⊥) → rank_key p < rank_key k
      later k i l d =
          ⊎_elim (λ (h : e ≤ rank_key k). omega (arith, h, q.under p (Memᴰ.head refl)))
          (λ (h : rank_key k < e).
          ⊎_elim (λ (x : k ≡ p). absurd (d x))
          (λ j. rising-least (suc (rank_key p)) (rank_keys ps) (rising-rest r (rank_key p) (rank_keys ps) q.rise) (rank_keys-mem ps j))
          (Memᴰ.cases_cons (q.whole k i l h)))
          (less-or-not e (rank_key k))

      test : (k : ℕ) → Memᴰ k (keys ss) → above_passed p k ≡ since r k && but p k
      test k i =
          bool-ext (above_passed p k) (since r k && but p k)
          (λ h.
          let l = leb-true (suc (rank_key p)) (rank_key k) h in
          and_both (since r k) (but p k) (le-leb r (rank_key k) (omega (arith, l, first))) (but-yes p k (λ x. let z = ap rank_key x in omega (arith, z, l))))
          (λ h.
          le-leb (suc (rank_key p)) (rank_key k)
          (later k i (leb-true r (rank_key k) (and_left (since r k) (but p k) h)) (but-not p k (and_right (since r k) (but p k) h))))

  pub paired-next : (r e p n : ℕ) (ps : List ℕ) (st : List StandingBlock) → Queue (keys ss) r e (p ∷ ps) → Paired ss r st → Paired ss (suc (rank_key p)) (fused_at p n st)
  paired-next r e p n ps st q k = record { covers = only_next (above_passed p) p n (λ k h. h) st ∙ on; pairs = go st taken k.pairs }
    where
      first : r ≤ suc (rank_key p)
      first = omega (arith, rising-first r (rank_key p) (rank_keys ps) q.rise)

      on : only (above_passed p) (standing_spots st) ≡ only (above_passed p) ss
      on = covers-on ss r (suc (rank_key p)) st first k.covers

      taken : total (since r) st ≤ suc (total (above_passed p) st)
      taken = omega (arith, ap length k.covers, ap length on, takes_one r e p ps q)

      go : (bs : List StandingBlock) → total (since r) bs ≤ suc (total (above_passed p) bs) → Apart65 (since r) bs → Apart65 (above_passed p) (fused_at p n bs)
      go [] t b = tt
      go (a ∷ rest) t b =
          beside-pass (since r) p n (since-inside r (suc (rank_key p)) first) rest a 65 65 (omega arith) (omega (arith, t)) (λ x. omega (arith, x)) b

  paired-last : (r e : ℕ) (st : List StandingBlock) → Queue (keys ss) r e [] → Paired ss r st → Paired ss e st
  paired-last r e st q k =
      record {
        covers = on;
        pairs = beside_same (since e) (since r) (since-inside r e q.order) st 65 65 (omega arith) (omega (arith, ap length k.covers, ap length on, ap length none)) k.pairs;
      }
    where
      on : only (since e) (standing_spots st) ≡ only (since e) ss
      on = covers-on ss r e st q.order k.covers

      past : (x : ℕ) → Memᴰ x (keys ss) → r ≤ rank_key x → e ≤ rank_key x
      past x i l = ⊎_elim (λ (h : e ≤ rank_key x). h) (λ (h : rank_key x < e). absurd (Memᴰ.not-nil (q.whole x i l h))) (less-or-not e (rank_key x))

      none : only (since r) ss ≡ only (since e) ss
      none =
          keep_same (λ (x : Spot). since r x.key) (λ (x : Spot). since e x.key) ss
          (λ x i.
          bool-ext (since r x.key) (since e x.key) (λ h. le-leb e (rank_key x.key) (past x.key (keys-mem ss i) (leb-true r (rank_key x.key) h)))
          (λ h. since-inside r e q.order x.key h))

  pub paired : (ps : List ℕ) (r e n : ℕ) (st : List StandingBlock) → Queue (keys ss) r e ps → Paired ss r st → Paired ss e (standing n st ps)
  paired [] r e n st q k = paired-last r e st q k
  paired (p ∷ ps) r e n st q k =
      paired ps (suc (rank_key p)) e (next_number p n st) (fused_at p n st) (queue-next (keys ss) r e p ps q) (paired-next r e p n ps st q k)

-- ---- the place blocks

-- a number of blocks that holds n spots, the last one not empty
pub record Cuts (n c : ℕ) : Type 0 where
  pub enough : n ≤ 64 * c
  pub needed : 64 * c < n + 64

pub cuts-for : (n : ℕ) → Cuts n (cuts_for n)
unfolding cuts_for
cuts-for n = record { enough = omega arith; needed = omega arith }

-- of the first block, and of the others
pub cut_parts : (c : ℕ) (ss : List Spot) → Cuts (length ss) (suc c)
    → (0 < length (take 64 ss)) × (length (take 64 ss) ≤ 64) × (0 < c → length (take 64 ss) ≡ 64) × Cuts (length (drop 64 ss)) c
cut_parts c ss h =
    let t = length-take 64 ss in
    let d = length-drop 64 ss in
    (omega arith, omega arith, λ p. omega arith, record { enough = omega arith; needed = omega arith })

only-first : (ss : List Spot) → only (since 0) ss ≡ ss
only-first ss = keep_all (λ (x : Spot). since 0 x.key) ss (every-make (λ (x : Spot). since 0 x.key) ss (λ x i. le-leb 0 (rank_key x.key) (omega arith)))

beside-cut : (c n m : ℕ) (ss : List Spot) → (0 < c → 64 ≤ m) → Cuts (length ss) c → Beside (since 0) m (numbered n (cut c ss))
beside-cut zero n m ss l h = tt
beside-cut (suc c) n m ss l h =
    let r = cut_parts c ss h in
    let e = ap length (only-first (take 64 ss)) in (
      omega (arith, l (omega arith), e, r.0),
      omega (arith, e, r.1),
      beside-cut c (suc n) (length (only (since 0) (take 64 ss))) (drop 64 ss) (λ p. omega (arith, e, r.2 p)) r.3,
    )

pub paired-first : (ss : List Spot) → Paired ss 0 (at_first ss)
unfolding at_first
paired-first ss =
    record { covers = ap (only (since 0)) (first-spots ss); pairs = beside-cut (cuts_for (length ss)) 1 65 ss (λ p. omega arith) (cuts-for (length ss)) }

-- ---- the whole sweep, and that of the ranks under y

module _ (ss : List Spot) (g : Pressable ss) where
  -- all keys, before any is passed
  pub queue-all : Queue (keys ss) 0 all_keys (by_rank (keys ss))
  queue-all =
      record {
        order = omega arith;
        rise = order-rises ss g;
        from = λ k i. by_rank-from (keys ss) i;
        under = λ k i. rank-small k (order_small ss g k i);
        whole = λ k i l u. by_rank-in (keys ss) i;
      }

  pub paired-all : Paired ss all_keys (standing (first_fused ss) (at_first ss) (by_rank (keys ss)))
  paired-all = paired ss g.rise (by_rank (keys ss)) 0 all_keys (first_fused ss) (at_first ss) queue-all (paired-first ss)

  pub paired-under : (y : ℕ) → Paired ss (y * word) (standing_at y ss)
  unfolding standing_at keys_under
  paired-under y = paired ss g.rise (keys_under y ss) 0 (y * word) (first_fused ss) (at_first ss) queue (paired-first ss)
    where
      up : rising (rank_keys (keys_under y ss) ++ rank_keys (at_least y ss)) ≡ true
      up = ap rising (sym (ap rank_keys (order-split y ss g) ∙ rank_keys-append (keys_under y ss) (at_least y ss))) ∙ order-rises ss g

      queue : Queue (keys ss) 0 (y * word) (keys_under y ss)
      queue =
          record {
            order = omega arith;
            rise = rising-left 0 (rank_keys (keys_under y ss)) (rank_keys (at_least y ss)) up;
            from = λ k i. by_rank-from (keys ss) (keep-in (λ x. ltb (rank_of x) y) (by_rank (keys ss)) i);
            under = λ k i. let l = under-passed y ss k i in omega arith;
            whole = λ k i l u. keep-there (λ x. ltb (rank_of x) y) (by_rank (keys ss)) (by_rank-in (keys ss) i) (lt-ltb (rank_of k) y (omega (arith, u)));
          }
