-- The fusions again as the tiles show them: a row of numbers in which each fused block takes the place of two side by side. Of the blocks that stand only those two are ended by its
-- maker, since every other is ended by a later passing; and the maker is a spot of one of them, since they had at least 65 left before it and have 64 after it.
-- Assumes nothing.
use mathlib.Core.Path.{◌≡◌, refl, ap, ap₂, sym, subst, ◌∙◌}
use mathlib.Core.Logic.{◌⊎◌, inl, inr, ⊎_elim}
use mathlib.Core.Bool.{Bool, true, false, cond, not, ◌&&◌, ◌||◌, or-true}
use mathlib.Core.List.{List, [], ◌∷◌, ◌++◌, Memᴰ}
use Prim.Native.Nat.{ℕ, zero, suc, ◌+◌, ◌-◌, ◌≤◌, ◌<◌}
use native.Mathlib.Omega.{arith}
use lib.Dec.{eqb}
use lib.ListN.{length}
use borrow.Author.Tests.{leb-true, ltb-false, eq-eqb, ne_eqb, not-true}
use Rattle.octets.specs.Lists.{has, keep, up_to}
use Rattle.octets.proofs.Lists.{mem-same, mem-more, mem-here}
use Rattle.octets.proofs.Tests.{and_left, and_right, or-either, refuted}
use Rattle.octets.proofs.Sets.{has-mem, mem-has}
use Rattle.octets.proofs.Once.{once-cross}
use Rattle.octets.proofs.UpTo.{up_to-from}
use Rattle.octets.proofs.Rising.{rising-rest, rising-least}
use Rattle.spot.specs.Keys.{all_keys, rank_key}
use Rattle.spot.specs.Spots.{keys}
use Rattle.spot.specs.declared.Spot.{Spot}
use Rattle.spot.proofs.Buffers.{keys-mem}
use Rattle.sweep.specs.Sweep.{StandingBlock, Fusion, cuts_for, at_first, by_rank, above_passed, left, ripe, fuse, fusion_at, fused_at, next_number, fusions, first_fused, sweep}
use Rattle.sweep.specs.Pressed.{Tile, Pressable, ended_by, tiles}
use Rattle.sweep.specs.Report.{numbers, standing_spots}
use Rattle.sweep.specs.Laws.{consumed, tile_by, FusedOf, Joining, Joins, Fused}
use Rattle.sweep.proofs.Orders.{rank_keys, rank_keys-mem}
use Rattle.sweep.proofs.Steps.{numbers-append, numbers-in, numbers-from, spots_of-in, stepped}
use Rattle.sweep.proofs.Covers.{first-numbers, length-keep-append, Kept, kept-first, kept_next, ripe-left}
use Rattle.sweep.proofs.Stands.{made_by, made_by-append, one-numbers, one_from, one_has, one-consumed, consumed-append, ended_by_lem, ended-append, passed-from}
use Rattle.sweep.proofs.Tiles.{fused-numbers, tiles-length}
use Rattle.sweep.proofs.Pairs.{count, since, Beside, Apart65, Queue, queue-next, Paired, paired-next, paired-first, queue-all}
use Rattle.sweep.proofs.Counts.{sizes}
use Rattle.sweep.proofs.Named.{Named, first-named, MadeTile, made-tile, tiles-apart, makers-rise, tile-above}

-- ---- counting

-- of two tests, one that more elements pass has one that the other leaves out
module _ {A : Type 0} (f g : A → Bool) where
  abbrev Out : List A → Type 0
  Out xs = (x : A) × Memᴰ x xs × (f x ≡ true) × (g x ≡ false)

  passes-more : (xs : List A) → length (keep g xs) < length (keep f xs) → Out xs
  passes-more [] h = let e : ⊥ = omega arith in absurd e
  passes-more (x ∷ xs) h = go (f x) refl (g x) refl h (passes-more xs)
    where
      later : Out xs → Out (x ∷ xs)
      later r = (r.0, mathlib.Core.List.Memᴰ.tail r.1, r.2, r.3)

      go : (a : Bool) → f x ≡ a → (b : Bool) → g x ≡ b → length (cond b (x ∷ keep g xs) (keep g xs)) < length (cond a (x ∷ keep f xs) (keep f xs))
          → (length (keep g xs) < length (keep f xs) → Out xs) → Out (x ∷ xs)
      go true e false d l ih = (x, mathlib.Core.List.Memᴰ.head refl, e, d)
      go true e true d l ih = later (ih (omega arith))
      go false e true d l ih = later (ih (omega arith))
      go false e false d l ih = later (ih l)

-- two neighbours have 65 left
pair-65 : (g : ℕ → Bool) (m : ℕ) (us : List StandingBlock) (a b : StandingBlock) (vs : List StandingBlock) → Beside g m (us ++ (a ∷ b ∷ vs)) → 65 ≤ count g a + count g b
pair-65 g m [] a b vs h = h.2.0
pair-65 g m (u ∷ us) a b vs h = pair-65 g (count g u) us a b vs h.2

-- ---- one passing

module _ (ss : List Spot) (g : Pressable ss) where
  -- what is known where p is passed next, with the fusions fs of its passing and the later ones gs: all standing blocks are tiles, and what ends them is still ahead
  record Next (r p n : ℕ) (gs : List Fusion) (st : List StandingBlock) (fs : List Fusion) : Type 0 where
    kept : Kept ss n st
    pairs : Apart65 (since r) st
    alone : (k : ℕ) → Memᴰ k (keys ss) → since r k ≡ true → above_passed p k ≡ false → k ≡ p
    named : (s : StandingBlock) → Memᴰ s st → Named ss s
    whole : (f : Fusion) → Memᴰ f (fs ++ gs) → Memᴰ f (sweep ss)
    ended : (b : ℕ) → Memᴰ b (numbers st) → ended_by b (sweep ss) ≡ ended_by b (fs ++ gs)
    used : (b : ℕ) → Memᴰ b (numbers st) → consumed b (sweep ss) ≡ consumed b (fs ++ gs)
    later : (f : Fusion) → Memᴰ f gs → f.passed ≡ p → ⊥

  module _ (r p n : ℕ) (gs : List Fusion) (us : List StandingBlock) (a b : StandingBlock) (vs : List StandingBlock) (h : ripe p a b ≡ true)
      (k : Next r p n gs (us ++ (a ∷ b ∷ vs)) (fuse p n a b ∷ [])) where
    a-stands : Memᴰ a (us ++ (a ∷ b ∷ vs))
    a-stands = mem-here us a (b ∷ vs)

    b-stands : Memᴰ b (us ++ (a ∷ b ∷ vs))
    b-stands = mem-more us a (b ∷ vs) (mem-here us b vs)

    -- the block made
    made : MadeTile ss (fuse p n a b)
    made = made-tile ss (k.whole (fuse p n a b) (mathlib.Core.List.Memᴰ.head refl))

    maker-is : (tile_by ss n).made ≡ p
    unfolding fuse
    maker-is = ap (λ (t : Tile). t.made) made.is

    -- the maker is a spot of the two
    maker-in : Memᴰ p (keys (a.spots ++ b.spots))
    maker-in =
        let xs = a.spots ++ b.spots in
        let x = passes-more (λ (s : Spot). since r s.key) (λ (s : Spot). above_passed p s.key) xs
        (omega (arith, ripe-left p a b h, length-keep-append (λ (s : Spot). since r s.key) a.spots b.spots, pair-65 (since r) 65 us a b vs k.pairs)) in
        let j : Memᴰ x.0 (standing_spots (us ++ (a ∷ b ∷ vs))) = ⊎_elim (λ i. spots_of-in (us ++ (a ∷ b ∷ vs)) a-stands i) (λ i. spots_of-in (us ++ (a ∷ b ∷ vs)) b-stands i) (mathlib.Core.List.Memᴰ.append_cases a.spots x.1) in
        let e = k.alone x.0.key (keys-mem ss (k.kept.from x.0 j)) x.2 x.3 in
        mathlib.Core.List.Memᴰ.cast (sym e) (keys-mem xs x.1)

    -- the two, by what the tiles show
    spots-first : (tile_by ss a.number).spots ≡ a.spots
    spots-first = ap (λ (t : Tile). t.spots) (k.named a a-stands).2

    spots-second : (tile_by ss b.number).spots ≡ b.spots
    spots-second = ap (λ (t : Tile). t.spots) (k.named b b-stands).2

    fused-of : FusedOf (tile_by ss n) (tile_by ss a.number) (tile_by ss b.number)
    unfolding fuse
    fused-of =
        let both : (tile_by ss a.number).spots ++ (tile_by ss b.number).spots ≡ a.spots ++ b.spots = ap₂ (λ (x y : List Spot). x ++ y) spots-first spots-second in
        record {
          spots = ap (λ (t : Tile). t.spots) made.is ∙ sym (ap₂ left maker-is both);
          maker = mem-same (sym (ap keys both)) (mathlib.Core.List.Memᴰ.cast maker-is maker-in);
        }

    -- a half is ended by p
    half-ended : (s : StandingBlock) → Memᴰ s (us ++ (a ∷ b ∷ vs)) → eqb s.number a.number || eqb s.number b.number ≡ true
        → (tile_by ss s.number).ended ≡ (tile_by ss n).made
    unfolding fuse
    half-ended s i t =
        ap (λ (x : Tile). x.ended) (k.named s i).2 ∙ k.ended s.number (numbers-in (us ++ (a ∷ b ∷ vs)) i)
        ∙ ap (λ (x : Bool). cond x p (ended_by s.number gs)) t ∙ sym maker-is

    -- another by a later passing: it is not the last block, which is not made yet
    other-ended : (s : StandingBlock) → Memᴰ s us → (tile_by ss s.number).ended ≡ (tile_by ss n).made → ⊥
    unfolding fuse
    other-ended s i e =
        let st = us ++ (a ∷ b ∷ vs) in
        let j : Memᴰ s st = mathlib.Core.List.Memᴰ.append_left (a ∷ b ∷ vs) i in
        let x = s.number in
        let m = numbers-in st j in
        let o = once-cross (numbers us) (numbers (a ∷ b ∷ vs)) (rw (numbers-append us (a ∷ b ∷ vs)) at k.kept.once) x (numbers-in us i) in
        let t : eqb x a.number || eqb x b.number ≡ false =
        ap₂ (λ (y z : Bool). y || z) (ne_eqb x a.number (λ q. o (mathlib.Core.List.Memᴰ.head q))) (ne_eqb x b.number (λ q. o (mathlib.Core.List.Memᴰ.tail (mathlib.Core.List.Memᴰ.head q)))) in
        let u : consumed x (sweep ss) ≡ consumed x gs = k.used x m ∙ ap (λ (y : Bool). y || consumed x gs) t in
        let w = ended_by_lem x gs (sym u ∙ early x (k.named s j).1 (omega (arith, k.kept.numbered x m, made.inside))) in
        let q : ended_by x (sweep ss) ≡ ended_by x gs = k.ended x m ∙ ap (λ (y : Bool). cond y p (ended_by x gs)) t in
        k.later w.0 w.1 (sym w.2 ∙ sym q ∙ sym (ap (λ (z : Tile). z.ended) (k.named s j).2) ∙ e ∙ maker-is)
      where
        early : (x : ℕ) → 0 < x → x < length (tiles ss) → consumed x (sweep ss) ≡ true
        early zero h l = let z : ⊥ = omega arith in absurd z
        early (suc i) h l = (sizes ss g).ends i (omega arith) ∙ ap not (ne_eqb (suc i) (length (tiles ss)) (λ e. omega arith))

    joining : Joining ss n (numbers (us ++ (a ∷ b ∷ vs)))
    joining =
        record {
          before = numbers us;
          first = a.number;
          second = b.number;
          behind = numbers vs;
          parts = numbers-append us (a ∷ b ∷ vs);
          others = λ x i e. let u = numbers-from us i in other-ended u.0 u.1 (ap (λ (y : ℕ). (tile_by ss y).ended) (sym u.2) ∙ e);
          ends-first = half-ended a a-stands (ap (λ (x : Bool). x || eqb a.number b.number) (eq-eqb a.number a.number refl));
          ends-second = half-ended b b-stands (ap (λ (x : Bool). eqb b.number a.number || x) (eq-eqb b.number b.number refl) ∙ or-true (eqb b.number a.number));
          fused = fused-of;
        }

  joins_at : (r p n : ℕ) (gs : List Fusion) (bs : List ℕ) (st : List StandingBlock) → Next r p n gs st (fusion_at p n st) → Joins ss bs (numbers (fused_at p n st))
      → Joins ss (numbers (made_by (fusion_at p n st)) ++ bs) (numbers st)
  unfolding fuse joining
  joins_at r p n gs bs st =
      stepped (λ st m ts fs. Next r p n gs st fs → Joins ss bs (numbers ts) → Joins ss (numbers (made_by fs) ++ bs) (numbers st)) p n (λ st k j. j)
      (λ us a b vs h k j. (joining r p n gs us a b vs h k, subst (Joins ss bs) (numbers-append us ((fuse p n a b).made ∷ vs)) j)) st

  -- ---- the whole sweep

  made-from : (fs : List Fusion) {s : StandingBlock} → Memᴰ s (made_by fs) → (f : Fusion) × Memᴰ f fs × (f.made ≡ s)
  made-from [] i = absurd (mathlib.Core.List.Memᴰ.not-nil i)
  made-from (f ∷ fs) {s} i =
      ⊎_elim (λ (e : s ≡ f.made). (f, mathlib.Core.List.Memᴰ.head refl, sym e)) (λ (j : Memᴰ s (made_by fs)). let r = made-from fs j in (r.0, mathlib.Core.List.Memᴰ.tail r.1, r.2)) (mathlib.Core.List.Memᴰ.cases_cons i)

  -- what stands after a passing, or is numbered later, was no half of its fusion
  record Stays (p n : ℕ) (st : List StandingBlock) (c : ℕ) : Type 0 where
    before : Memᴰ c (numbers st) ⊎ (n ≤ c)
    unused : consumed c (fusion_at p n st) ≡ false

  stays : (p n : ℕ) (st : List StandingBlock) → Kept ss n st → (c : ℕ) → Memᴰ c (numbers (fused_at p n st)) ⊎ (next_number p n st ≤ c) → Stays p n st c
  stays p n st k c (inl i) =
      let old = has c (numbers st) in
      let new = has c (numbers (made_by (fusion_at p n st))) in
      let t : (old || new) && not (consumed c (fusion_at p n st)) ≡ true = sym (one_has ss c p n st k) ∙ mem-has c (numbers (fused_at p n st)) i in
      record {
        before =
            ⊎_elim (λ (h : old ≡ true). inl (has-mem c (numbers st) h))
            (λ (h : new ≡ true). inr (up_to-from n (length (fusion_at p n st)) (mem-same (one-numbers p n st) (has-mem c (numbers (made_by (fusion_at p n st))) h))).0)
            (or-either old new (and_left (old || new) (not (consumed c (fusion_at p n st))) t));
        unused = not-true (consumed c (fusion_at p n st)) (and_right (old || new) (not (consumed c (fusion_at p n st))) t);
      }
  stays p n st k c (inr l) =
      record {
        before = inr (omega arith);
        unused = refuted (consumed c (fusion_at p n st)) (λ h. omega (arith, l, k.numbered c (one-consumed c p n st h)));
      }

  -- what is known where ps are passed next
  record Ahead (r n : ℕ) (st : List StandingBlock) (ps : List ℕ) : Type 0 where
    queue : Queue (keys ss) r all_keys ps
    paired : Paired ss r st
    kept : Kept ss n st
    named : (s : StandingBlock) → Memᴰ s st → Named ss s
    whole : (f : Fusion) → Memᴰ f (fusions n st ps) → Memᴰ f (sweep ss)
    ended : (b : ℕ) → Memᴰ b (numbers st) ⊎ (n ≤ b) → ended_by b (sweep ss) ≡ ended_by b (fusions n st ps)
    used : (b : ℕ) → Memᴰ b (numbers st) ⊎ (n ≤ b) → consumed b (sweep ss) ≡ consumed b (fusions n st ps)

  ahead-first : Ahead 0 (first_fused ss) (at_first ss) (by_rank (keys ss))
  unfolding sweep
  ahead-first =
      record {
        queue = queue-all ss g;
        paired = paired-first ss;
        kept = kept-first ss g;
        named = λ s i. first-named ss i;
        whole = λ f i. i;
        ended = λ b i. refl;
        used = λ b i. refl;
      }

  module _ (r p n : ℕ) (st : List StandingBlock) (ps : List ℕ) (k : Ahead r n st (p ∷ ps)) where
    abbrev fs : List Fusion
    fs = fusion_at p n st

    abbrev gs : List Fusion
    gs = fusions (next_number p n st) (fused_at p n st) ps

    above : (x : ℕ) → Memᴰ x ps → rank_key p < rank_key x
    above x i = rising-least (suc (rank_key p)) (rank_keys ps) (rising-rest r (rank_key p) (rank_keys ps) k.queue.rise) (rank_keys-mem ps i)

    ahead-next : Ahead (suc (rank_key p)) (next_number p n st) (fused_at p n st) ps
    ahead-next =
        let stay = stays p n st k.kept in
        record {
          queue = queue-next (keys ss) r all_keys p ps k.queue;
          paired = paired-next ss g.rise r all_keys p n ps st k.queue k.paired;
          kept = kept_next ss p n st k.kept;
          named = λ s i.
              ⊎_elim (λ j. k.named s j)
              (λ j.
              let f = made-from fs j in
              let m = made-tile ss (k.whole f.0 (mathlib.Core.List.Memᴰ.append_left gs f.1)) in
              subst (Named ss) f.2 (f.0.passed, m.some, m.is))
              (one_from p n st i);
          whole = λ f i. k.whole f (mathlib.Core.List.Memᴰ.append_right fs i);
          ended = λ b i. k.ended b (stay b i).before ∙ ended-append b fs gs ∙ ap (λ (t : Bool). cond t (ended_by b fs) (ended_by b gs)) (stay b i).unused;
          used = λ b i. k.used b (stay b i).before ∙ consumed-append b fs gs ∙ ap (λ (t : Bool). t || consumed b gs) (stay b i).unused;
        }

    next-is : Next r p n gs st fs
    next-is =
        record {
          kept = k.kept;
          pairs = k.paired.pairs;
          alone = λ x i s a.
              let low = leb-true r (rank_key x) s in
              let high = ltb-false (rank_key p) (rank_key x) a in
              ⊎_elim (λ (e : x ≡ p). e) (λ (j : Memᴰ x ps). let z : ⊥ = omega (arith, above x j) in absurd z)
              (mathlib.Core.List.Memᴰ.cases_cons (k.queue.whole x i low (omega (arith, high, k.queue.under p (mathlib.Core.List.Memᴰ.head refl)))));
          named = k.named;
          whole = k.whole;
          ended = λ b i. k.ended b (inl i);
          used = λ b i. k.used b (inl i);
          later = λ f i e. let z = above f.passed (passed-from (next_number p n st) (fused_at p n st) ps i) in omega (arith, z, ap rank_key e);
        }

  joins-from : (ps : List ℕ) (r n : ℕ) (st : List StandingBlock) → Ahead r n st ps → Joins ss (numbers (made_by (fusions n st ps))) (numbers st)
  joins-from [] r n st k = tt
  joins-from (p ∷ ps) r n st k =
      let fs = fusion_at p n st in
      let gs = fusions (next_number p n st) (fused_at p n st) ps in
      subst (λ (l : List ℕ). Joins ss l (numbers st)) (sym (ap numbers (made_by-append fs gs) ∙ numbers-append (made_by fs) (made_by gs)))
      (joins_at r p n gs (numbers (made_by gs)) st (next-is r p n st ps k) (joins-from ps (suc (rank_key p)) (next_number p n st) (fused_at p n st) (ahead-next r p n st ps k)))

  joins-all : Joins ss (up_to (suc (cuts_for (length ss))) (length (tiles ss) - cuts_for (length ss))) (up_to 1 (cuts_for (length ss)))
  unfolding sweep
  joins-all =
      let c = cuts_for (length ss) in
      let n : length (sweep ss) ≡ length (tiles ss) - c = omega (arith, tiles-length ss) in
      subst (λ (l : List ℕ). Joins ss l (up_to 1 c)) (fused-numbers ss ∙ ap (up_to (suc c)) n)
      (subst (Joins ss (numbers (made_by (sweep ss)))) (first-numbers ss) (joins-from (by_rank (keys ss)) 0 (first_fused ss) (at_first ss) ahead-first))

  pub fused : Fused ss
  fused = record { apart = tiles-apart ss g; makers = makers-rise ss g; above = tile-above ss g; joins = joins-all }
