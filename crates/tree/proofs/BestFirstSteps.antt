-- Reading best first with nothing left out: what is known of the parts read, the parts unread and the spots found, and that reading a part and giving a spot keep it.
-- Assumes nothing.
use mathlib.Core.Path.{◌≡◌, refl, ap, ◌∙◌}
use mathlib.Core.Logic.{⊎_elim}
use mathlib.Core.Bool.{Bool, true, false, not}
use mathlib.Core.List.Memᴰ
use mathlib.Core.List.{List, [], ◌∷◌, ◌++◌, Memᴰ}
use Prim.Native.Nat.{ℕ, suc, ◌+◌, ◌≤◌, ◌<◌}
use native.Mathlib.Omega.{arith}
use lib.IntN.{ℤ}
use lib.ListN.{length, length-append}
use borrow.Author.Tests.{le-leb, lt-leb}
use Rattle.octets.specs.Lists.{has, distinct}
use Rattle.octets.specs.Bitmap.{digit}
use Rattle.octets.proofs.Lists.{mem-here, mem-more, mem-three}
use Rattle.octets.proofs.Order.{less-or-not}
use Rattle.octets.proofs.Sets.{distinct_cons, not-has-mem}
use Rattle.spot.specs.declared.Spot.{Spot}
use Rattle.spot.specs.Keys.{word, rank_of, top_key}
use Rattle.spot.specs.Query.{top_query}
use Rattle.spot.proofs.TopKeys.{top-rank}
use Rattle.spot.proofs.Ranks.{tk}
use Rattle.block.specs.Header.{head_of}
use Rattle.block.specs.HeaderRules.{header_ok}
use Rattle.block.specs.Node.{store_of}
use Rattle.block.specs.NodeRules.{names, node_ok}
use Rattle.block.proofs.Facts.{head-facts}
use Rattle.tree.specs.Walk.{topped}
use Rattle.tree.specs.BestFirst.{Pending, promised, opened, shown, NonePromises, NoneAbove}
use Rattle.tree.proofs.Sources.{InTable, root_in}
use Rattle.tree.proofs.BestFirstSums.{sum, counted, counted-yes, counted-no, sum-append, sum-middle, sum-none, sum-three, Reordered}
use Rattle.tree.proofs.BestFirstSpots.{Descends, descends-join}
use Rattle.tree.proofs.BestFirstTree.{weighs, weigh-step, fault_at, fault, root_of}
use Rattle.tree.proofs.BestFirstParts.{due, admitted-rank, Fit, opened-fit, opened-under, shown-under}

-- no spot has a rank above r
abbrev pub NoneRanks : ℕ → List Spot → Type 0
NoneRanks r ss = (s : Spot) → Memᴰ s ss → rank_of s.key ≤ r

-- top keys compare ranks first
none-ranks : (k r : ℕ) (ss : List Spot) → NoneAbove (top_key k) ss → rank_of k ≤ r → NoneRanks r ss
none-ranks k r ss h l s i = let z = h s i in omega (arith, top-rank k, top-rank s.key)

abbrev pub numbers : List Pending → List ℕ
numbers [] = []
numbers (r ∷ rs) = r.part.block ∷ numbers rs

-- the last of the spots given: none that is found and left has a higher rank, what is unread promises less, and what is read promised as much
pub record Last (read unread : List Pending) (found given : List Spot) : Type 0 where
  pub before : List Spot
  pub spot : Spot
  pub is : given ≡ before ++ (spot ∷ [])
  pub left : NoneRanks (rank_of spot.key) found
  pub under : (u : Pending) → Memᴰ u unread → promised u < rank_of spot.key
  pub over : (r : Pending) → Memᴰ r read → rank_of spot.key ≤ promised r

-- Top of k spots on its way: the parts that are unread, the spots found and not given yet, those given, and the blocks read, the last first. Of the walk at
-- each least rank y, what it sums up is the sum over the parts read that promise y and over the walks of those unread that promise y.
pub record Progress (t : List ℕ) (x1 x2 : ℤ) (k : ℕ) (unread : List Pending) (found given : List Spot) (blocks : List ℕ) : Type 0 where
  pub read : List Pending
  pub head : header_ok (length t) (head_of t) ≡ true
  pub stand : blocks ≡ numbers read
  pub once : distinct blocks ≡ true
  pub fine : (r : Pending) → Memᴰ r read → fault (store_of t) r ≡ 0
  pub tree : (y : ℕ) → y ≤ word → (w : Pending → ℕ)
      → weighs w (store_of t) (top_query x1 x2 y) (root_of t)
      ≡ sum (counted (due y) w) read + sum (counted (due y) (weighs w (store_of t) (top_query x1 x2 y))) unread
  pub spots : (g : Spot → ℕ) → sum g found + sum g given ≡ sum (λ r. sum g (shown (store_of t) (top_query x1 x2 0) r)) read
  pub fit : (u : Pending) → Memᴰ u unread → Fit t (top_query x1 x2 0) u
  pub high : (r : Pending) → Memᴰ r read → NoneRanks (promised r) (shown (store_of t) (top_query x1 x2 0) r)
  pub behind : (r : Pending) → Memᴰ r read → NonePromises (promised r) unread
  pub ranked : (r : Pending) → Memᴰ r read → NoneRanks (promised r) found
  pub falls : Descends given
  pub lower : (s : Spot) → Memᴰ s given → NoneAbove (tk s) found
  pub ahead : (s : Spot) → Memᴰ s given → (u : Pending) → Memᴰ u unread → promised u < rank_of s.key
  pub few : length given ≤ k
  pub places : (b : ℕ) → Memᴰ b blocks → InTable t b
  pub last : k ≤ length given → Last read unread found given

-- ---- the beginning

-- the root alone is known of; every sum over a walk is the root's own
pub start : (t : List ℕ) (x1 x2 : ℤ) (k : ℕ) → header_ok (length t) (head_of t) ≡ true → Progress t x1 x2 (suc k) (root_of t ∷ []) [] [] []
unfolding topped
start t x1 x2 k h =
    record {
      read = [];
      head = h;
      stand = refl;
      once = refl;
      fine = λ r i. absurd (Memᴰ.not-nil i);
      tree = λ y l w. let e = counted-yes (due y) (weighs w (store_of t) (top_query x1 x2 y)) (root_of t) (le-leb y word l) in omega arith;
      spots = λ g. refl;
      fit =
          λ u i.
          ⊎_elim
          (λ (e : u ≡ root_of t).
          rw e
          (record { some = (head-facts (length t) (head_of t) h).levels-least; few = omega arith; asks = refl; inside = root_in t h }))
          (λ j. absurd (Memᴰ.not-nil j))
          (Memᴰ.cases_cons i);
      high = λ r i. absurd (Memᴰ.not-nil i);
      behind = λ r i. absurd (Memᴰ.not-nil i);
      ranked = λ r i. absurd (Memᴰ.not-nil i);
      falls = tt;
      lower = λ s i. absurd (Memᴰ.not-nil i);
      ahead = λ s i. absurd (Memᴰ.not-nil i);
      few = omega arith;
      places = λ b i. absurd (Memᴰ.not-nil i);
      last = λ l. let z : ⊥ = omega arith in absurd z;
    }

-- ---- a part is read

module _ (t : List ℕ) (x1 x2 : ℤ) (k : ℕ) (us : List Pending) (p : Pending) (vs : List Pending)
    (found given : List Spot) (blocks : List ℕ) (g : Progress t x1 x2 k (us ++ (p ∷ vs)) found given blocks)
    (most : NonePromises (promised p) (us ++ vs)) (low : NoneRanks (promised p) found) (room : length given < k)
    (l : ℕ) (e : p.levels ≡ suc l) (ok : node_ok l p.part.asked (store_of t p.part.block) ≡ true) (new : has p.part.block blocks ≡ false) where
  fitting : Fit t (top_query x1 x2 0) p
  fitting = g.fit p (mem-here us p vs)

  under : (u : Pending) → Memᴰ u (opened (store_of t) (top_query x1 x2 0) l p) → promised u ≤ promised p
  under = opened-under t (top_query x1 x2 0) l p fitting e ok

  own : NoneRanks (promised p) (shown (store_of t) (top_query x1 x2 0) p)
  own = shown-under t (top_query x1 x2 0) l p fitting e ok

  sound-here : fault (store_of t) p ≡ 0
  sound-here = ap (λ (n : ℕ). fault_at n (store_of t) p.part) e ∙ ap (λ (b : Bool). digit (not b)) ok

  -- a node with the children that become known: what a walk at least rank y sums up
  splits : (y : ℕ) → y ≤ word → (w : Pending → ℕ)
      → let f = counted (due y) (weighs w (store_of t) (top_query x1 x2 y)) in
      f p ≡ counted (due y) w p + sum f (opened (store_of t) (top_query x1 x2 0) l p)
  splits y h w =
      let m = store_of t in
      let walked_at = weighs w m (top_query x1 x2 y) in
      let cs = opened m (top_query x1 x2 0) l p in
      ⊎_elim
      (λ (d : y ≤ promised p).
      let a = counted-yes (due y) walked_at p (le-leb y (promised p) d) in
      let b = counted-yes (due y) w p (le-leb y (promised p) d) in
      omega (arith, a, b, weigh-step w m (top_query x1 x2 y) p l e, admitted-rank x1 x2 y h walked_at m (names (m p.part.block) ++ p.named) l p.part))
      (λ (d : promised p < y).
      let a = counted-no (due y) walked_at p (lt-leb y (promised p) d) in
      let b = counted-no (due y) w p (lt-leb y (promised p) d) in
      omega (
        arith,
        a,
        b,
        sum-none (counted (due y) walked_at) cs (λ u i. counted-no (due y) walked_at u (lt-leb y (promised u) (let z = under u i in omega arith))),
      ))
      (less-or-not y (promised p))

  -- what every part read has promised
  no_more : (r : Pending) → Memᴰ r (p ∷ g.read) → promised p ≤ promised r
  no_more r i =
      ⊎_elim (λ (d : r ≡ p). omega (arith, ap promised d)) (λ j. g.behind r j p (mem-here us p vs)) (Memᴰ.cases_cons i)

  -- the part that promises most is read: in every sum its node and its children stand for it, and its spots are found
  pub read-part : Progress t x1 x2 k (us ++ (opened (store_of t) (top_query x1 x2 0) l p ++ vs)) (shown (store_of t) (top_query x1 x2 0) p ++ found) given (p.part.block ∷ blocks)
  read-part =
      let m = store_of t in
      let q = top_query x1 x2 0 in
      let cs = opened m q l p in
      record {
        read = p ∷ g.read;
        head = g.head;
        stand = ap (λ (bs : List ℕ). p.part.block ∷ bs) g.stand;
        once = distinct_cons p.part.block blocks (not-has-mem p.part.block blocks new) g.once;
        fine = λ r i. ⊎_elim (λ (d : r ≡ p). ap (fault m) d ∙ sound-here) (λ j. g.fine r j) (Memᴰ.cases_cons i);
        tree =
            λ y h w.
            let f = counted (due y) (weighs w m (top_query x1 x2 y)) in
            omega (arith, g.tree y h w, splits y h w, sum-middle f us p vs, sum-three f us cs vs);
        spots = λ f. omega (arith, g.spots f, sum-append f (shown m q p) found);
        fit =
            λ u i.
            ⊎_elim (λ j. opened-fit t q l p fitting e ok u j) (λ j. g.fit u (mem-more us p vs j)) (mem-three us cs vs i);
        high =
            λ r i s j.
            ⊎_elim (λ (d : r ≡ p). rw d (own s (rw d at j))) (λ h. g.high r h s j) (Memᴰ.cases_cons i);
        behind =
            λ r i u j.
            let z = no_more r i in
            ⊎_elim (λ h. let y = under u h in omega arith) (λ h. let y = most u h in omega arith) (mem-three us cs vs j);
        ranked =
            λ r i s j.
            let z = no_more r i in
            ⊎_elim (λ h. let y = own s h in omega arith) (λ h. let y = low s h in omega arith) (Memᴰ.append_cases (shown m q p) j);
        falls = g.falls;
        lower =
            λ s i x j.
            ⊎_elim (λ h. let y = own x h in let z = g.ahead s i p (mem-here us p vs) in omega (arith, top-rank x.key, top-rank s.key)) (λ h. g.lower s i x h)
            (Memᴰ.append_cases (shown m q p) j);
        ahead =
            λ s i u j.
            let z = g.ahead s i p (mem-here us p vs) in
            ⊎_elim (λ h. let y = under u h in omega arith) (λ h. g.ahead s i u (mem-more us p vs h)) (mem-three us cs vs j);
        few = g.few;
        places = λ b i. ⊎_elim (λ (d : b ≡ p.part.block). rw d fitting.inside) (λ j. g.places b j) (Memᴰ.cases_cons i);
        last = λ h. let z : ⊥ = omega arith in absurd z;
      }

-- ---- a spot is given

module _ (t : List ℕ) (x1 x2 : ℤ) (k : ℕ) (unread : List Pending) (us : List Spot) (s : Spot) (vs : List Spot) (given : List Spot) (blocks : List ℕ) (g : Progress t x1 x2 k unread (us ++ (s ∷ vs)) given blocks) (top : NoneAbove (tk s) (us ++ vs)) (under : (u : Pending) → Memᴰ u unread → promised u < rank_of s.key) (room : length given < k) where
  -- the highest of the spots found is given: it moves from one sum to the other, and none found or unread is above it
  pub give : Progress t x1 x2 k unread (us ++ vs) (given ++ (s ∷ [])) blocks
  give =
      let here = mem-here us s vs in
      record {
        read = g.read;
        head = g.head;
        stand = g.stand;
        once = g.once;
        fine = g.fine;
        tree = g.tree;
        spots = λ f. omega (arith, g.spots f, sum-middle f us s vs, sum-append f given (s ∷ []));
        fit = g.fit;
        high = g.high;
        behind = g.behind;
        ranked = λ r i x j. g.ranked r i x (mem-more us s vs j);
        falls =
            descends-join given (s ∷ []) g.falls (λ x i. absurd (Memᴰ.not-nil i), tt)
            (λ x i y j.
            ⊎_elim (λ (d : y ≡ s). let z = g.lower x i s here in omega (arith, ap tk d)) (λ h. absurd (Memᴰ.not-nil h)) (Memᴰ.cases_cons j));
        lower =
            λ x i y j.
            ⊎_elim (λ h. g.lower x h y (mem-more us s vs j))
            (λ h. ⊎_elim (λ (d : x ≡ s). let z = top y j in omega (arith, ap tk d)) (λ n. absurd (Memᴰ.not-nil n)) (Memᴰ.cases_cons h))
            (Memᴰ.append_cases given i);
        ahead =
            λ x i u j.
            ⊎_elim (λ h. g.ahead x h u j)
            (λ h.
            ⊎_elim (λ (d : x ≡ s). let z = under u j in omega (arith, ap (λ (v : Spot). rank_of v.key) d)) (λ n. absurd (Memᴰ.not-nil n))
            (Memᴰ.cases_cons h))
            (Memᴰ.append_cases given i);
        few = omega (arith, length-append given (s ∷ []));
        places = g.places;
        last =
            λ h.
            record {
              before = given;
              spot = s;
              is = refl;
              left = none-ranks s.key (rank_of s.key) (us ++ vs) top (omega arith);
              under = under;
              over = λ r i. g.ranked r i s here;
            };
      }

-- ---- in another order

module _ (t : List ℕ) (x1 x2 : ℤ) (k : ℕ) (unread after : List Pending) (found left : List Spot) (given : List Spot) (blocks : List ℕ) (g : Progress t x1 x2 k unread found given blocks) (a : Reordered unread after) (b : Reordered found left) where
  last-reordered : Last g.read unread found given → Last g.read after left given
  last-reordered r =
      record {
        before = r.before;
        spot = r.spot;
        is = r.is;
        left = λ s i. r.left s (b.from s i);
        under = λ u i. r.under u (a.from u i);
        over = r.over;
      }

  -- sums and members are all that it speaks of
  pub reorder : Progress t x1 x2 k after left given blocks
  reorder =
      record {
        read = g.read;
        head = g.head;
        stand = g.stand;
        once = g.once;
        fine = g.fine;
        tree = λ y h w. omega (arith, g.tree y h w, a.sums (counted (due y) (weighs w (store_of t) (top_query x1 x2 y))));
        spots = λ f. omega (arith, g.spots f, b.sums f);
        fit = λ u i. g.fit u (a.from u i);
        high = g.high;
        behind = λ r i u j. g.behind r i u (a.from u j);
        ranked = λ r i s j. g.ranked r i s (b.from s j);
        falls = g.falls;
        lower = λ s i x j. g.lower s i x (b.from x j);
        ahead = λ s i u j. g.ahead s i u (a.from u j);
        few = g.few;
        places = g.places;
        last = λ h. last-reordered (g.last h);
      }
