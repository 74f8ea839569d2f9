-- What is built is sound, is looked up as the list it was built from, and stands in the blocks from the first on.
-- Assumes nothing.
use mathlib.Core.Path.{◌≡◌, refl, ap, sym, subst, ◌∙◌}
use mathlib.Core.Logic.{◌⊎◌, inl, inr, ⊎_elim}
use mathlib.Core.Bool.{Bool, true, false, cond, ◌&&◌, true≢false}
use mathlib.Core.List.Memᴰ
use mathlib.Core.List.{List, [], ◌∷◌, ◌++◌, Memᴰ}
use mathlib.Core.Option.{none, some}
use Prim.Native.Nat.{ℕ, suc, ◌+◌, ◌*◌, ◌≤◌, ◌<◌}
use native.Mathlib.Omega.{arith}
use lib.ListN.{length}
use lib.Dec.{leb, ltb, eqb}
use borrow.Author.Tests.{leb-true, ltb-true, le-leb, lt-ltb, le-ltb, eq-eqb, ne_eqb}
use Rattle.octets.specs.Lists.{all, every, is_empty, rest, rising, rising_from}
use Rattle.octets.proofs.Tests.{all_cons, all_nil, and_left, and_right, and_both, every-imp, every_two, every-left, every-right, every-join}
use Rattle.octets.proofs.Rising.{rising-rest, rising-make, rising-lower, rising-from, rising-left, rising-right, rising-before}
use Rattle.octets.proofs.UpTo.{up_to-more}
use Rattle.spot.specs.declared.Spot.{Spot}
use Rattle.spot.specs.Spots.{keys, find}
use Rattle.spot.specs.Keys.{rank_key, all_keys, within, limited}
use Rattle.spot.proofs.Places.{within-yes, within_low, within-from, within-to}
use Rattle.spot.proofs.Buffers.{keys-append, find-fails}
use Rattle.spot.proofs.Canon.{cond-none}
use Rattle.block.specs.declared.Entry.{Entry}
use Rattle.block.specs.Node.{Store}
use Rattle.block.specs.Table.{block_ok}
use Rattle.block.specs.declared.Asked.{Asked}
use Rattle.block.specs.declared.Asked.TheVariants.{Child}
use Rattle.block.specs.NodeRules.{lows, tops, child_count_ok, fewest, agrees, stands_in}
use Rattle.block.proofs.Extremes.{Shows, extremes-inside}
use Rattle.tree.specs.Part.{Part, next_low, parts, low_of}
use Rattle.tree.specs.Lookup.{down, lookup}
use Rattle.tree.specs.Reach.{gather, reach, settled}
use Rattle.tree.specs.Sound.{sound_at}
use Rattle.tree.proofs.Says.{find-append}
use Rattle.tree.proofs.Credible.{next_low_lem}
use Rattle.rebuild_theory.specs.Build.{nodes, fans_ok, band, built_node, Starts, Shares, Built}
use Rattle.rebuild_theory.proofs.Bands.{topmost, points-band, entry-low, entry-shows, Good, AllGood, Entries, or-none, node-good}

-- spots cut in two where the next entry's range begins
record Cut (lo mid hi : ℕ) (own others : List Spot) : Type 0 where
  own_in : every (within lo mid) (keys own) ≡ true
  others-in : every (within mid hi) (keys others) ≡ true
  own-up : rising (keys own) ≡ true
  others-up : rising (keys others) ≡ true

-- a part of the spots has what all have
own-limited : (own others ys : List Spot) → ys ≡ own ++ others → every limited (keys ys) ≡ true → every limited (keys own) ≡ true
own-limited own others ys e h = every-left limited (keys own) (keys others) (rw (ap keys e ∙ keys-append own others) at h)

others-limited : (own others ys : List Spot) → ys ≡ own ++ others → every limited (keys ys) ≡ true → every limited (keys others) ≡ true
others-limited own others ys e h = every-right limited (keys own) (keys others) (rw (ap keys e ∙ keys-append own others) at h)

cut : (es : List Entry) (lo hi : ℕ) (own others : List Spot) → Starts es others → rising (keys own ++ keys others) ≡ true → every (within lo hi) (keys own ++ keys others) ≡ true
    → Cut lo (next_low es hi) hi own others
cut [] lo hi own others st up inside =
    record { own_in = every-left (within lo hi) (keys own) (keys others) inside; others-in = rw st; own-up = rising-left 0 (keys own) (keys others) up; others-up = rw st }
cut (e ∷ es) lo hi own [] st up inside = absurd st
cut (e ∷ es) lo hi own (s ∷ ss) st up inside =
    record {
      own_in =
          every-imp (λ k. within lo hi k && ltb k s.key) (within lo e.low) (keys own)
          (λ k h.
          within-yes lo e.low k (within-from lo hi k (and_left (within lo hi k) (ltb k s.key) h))
          (omega (arith, st, ltb-true k s.key (and_right (within lo hi k) (ltb k s.key) h))))
          (every_two (within lo hi) (λ k. ltb k s.key) (keys own) (every-left (within lo hi) (keys own) (keys (s ∷ ss)) inside)
          (rising-before 0 s.key (keys own) (keys ss) up));
      others-in =
          every-imp (λ k. within lo hi k && leb s.key k) (within e.low hi) (keys (s ∷ ss))
          (λ k h.
          within-yes e.low hi k (omega (arith, st, leb-true s.key k (and_right (within lo hi k) (leb s.key k) h)))
          (within-to lo hi k (and_left (within lo hi k) (leb s.key k) h)))
          (every_two (within lo hi) (leb s.key) (keys (s ∷ ss)) (every-right (within lo hi) (keys own) (keys (s ∷ ss)) inside)
          (rising-from s.key (keys (s ∷ ss)) (rising-make s.key s.key (keys ss) (omega arith) (rising-rest 0 s.key (keys ss) others-rise))));
      own-up = rising-left 0 (keys own) (keys (s ∷ ss)) up;
      others-up = others-rise;
    }
  where
    others-rise : rising (keys (s ∷ ss)) ≡ true
    others-rise = rising-right 0 (keys own) (keys (s ∷ ss)) up

-- where an entry begins there are spots
pub starts-some : (e : Entry) (es : List Entry) (ss : List Spot) → Starts (e ∷ es) ss → is_empty ss ≡ false
starts-some e es [] h = absurd h
starts-some e es (s ∷ ss) h = refl

-- it begins at one of them
starts-limited : (e : Entry) (es : List Entry) (ss : List Spot) → Starts (e ∷ es) ss → every limited (keys ss) ≡ true → limited e.low ≡ true
starts-limited e es [] st h = absurd st
starts-limited e es (s ∷ ss) st h = ap limited st ∙ and_left (limited s.key) (every limited (keys ss)) h

-- spots in a range leave it no room to be empty
some-within : (lo hi : ℕ) (ss : List Spot) → is_empty ss ≡ false → every (within lo hi) (keys ss) ≡ true → lo < hi
some-within lo hi [] e h = absurd (true≢false e)
some-within lo hi (s ∷ ss) e h =
    let w = and_left (within lo hi s.key) (every (within lo hi) (keys ss)) h in
    omega (arith, within-from lo hi s.key w, within-to lo hi s.key w)

-- the entries left begin before the end
starts-before : (es : List Entry) (hi : ℕ) (ss : List Spot) → Starts es ss → every (within (next_low es hi) hi) (keys ss) ≡ true → next_low es hi ≤ hi
starts-before [] hi ss st h = omega arith
starts-before (e ∷ es) hi ss st h = let z = some-within e.low hi ss (starts-some e es ss st) h in omega arith

-- a tree has a node
pub nodes-some : (fs : List ℕ) → 1 ≤ nodes fs
nodes-some [] = omega arith
nodes-some (f ∷ fs) = omega arith

block-ok : (room b : ℕ) → 1 ≤ b → b < room → block_ok room b ≡ true
unfolding block_ok all
block-ok room b a h = rw (le-leb 1 b a, lt-ltb b room h)

-- the children, from left to right
module _ (fs : List ℕ) (room : ℕ) (m : Store) (c : ℕ) where
  record LowsUp (lo hi : ℕ) (es : List Entry) : Type 0 where
    up : rising_from (suc lo) (lows es) ≡ true
    inside : every (within lo hi) (lows es) ≡ true

  lows-up : (e : Entry) (es : List Entry) (lo hi b : ℕ) (ys : List Spot) → Shares (λ b' zs. Built fs room m b' zs c) m (nodes fs) b (e ∷ es) ys → rising (keys ys) ≡ true
      → every (within lo hi) (keys ys) ≡ true
      → LowsUp lo hi es
  lows-up e [] lo hi b ys sh up inside = record { up = refl; inside = refl }
  lows-up e (e' ∷ es) lo hi b ys sh up inside =
      let k = ap keys sh.split ∙ keys-append sh.own sh.others in
      let x = cut (e' ∷ es) lo hi sh.own sh.others sh.next (rw k at up) (rw k at inside) in
      let r = lows-up e' es e'.low hi (b + nodes fs) sh.others sh.rest x.others-up x.others-in in
      let a = some-within lo e'.low sh.own sh.some x.own_in in
      let z = some-within e'.low hi sh.others (starts-some e' es sh.others sh.next) x.others-in in
      record {
        up = rising-make (suc lo) e'.low (lows es) a r.up;
        inside =
            and_both (within lo hi e'.low) (every (within lo hi) (lows es)) (within-yes lo hi e'.low (omega arith) z)
            (every-imp (within e'.low hi) (within lo hi) (lows es) (λ j w. within-yes lo hi j (omega (arith, within-from e'.low hi j w)) (within-to e'.low hi j w)) r.inside);
      }

  -- lows are keys of spots
  lows-limited : (e : Entry) (es : List Entry) (b : ℕ) (ys : List Spot) → Shares (λ b' zs. Built fs room m b' zs c) m (nodes fs) b (e ∷ es) ys → every limited (keys ys) ≡ true
      → every limited (lows es) ≡ true
  lows-limited e [] b ys sh lim = refl
  lows-limited e (e' ∷ es) b ys sh lim =
      let later = others-limited sh.own sh.others ys sh.split lim in
      and_both (limited e'.low) (every limited (lows es)) (starts-limited e' es sh.others sh.next later)
      (lows-limited e' es (b + nodes fs) sh.others sh.rest later)

  -- and so is what entries show
  shown-limited : (es : List Entry) (b : ℕ) (ys : List Spot) → Shares (λ b' zs. Built fs room m b' zs c) m (nodes fs) b es ys → every limited (keys ys) ≡ true
      → (e : Entry) → Memᴰ e es → (e.size ≡ 0 → ⊥) → Shows e
  shown-limited [] b ys sh lim e i z = absurd (Memᴰ.not-nil i)
  shown-limited (x ∷ es) b ys sh lim e i z =
      ⊎_elim (λ (q : e ≡ x). subst Shows (sym q) (first (λ o. z (ap (λ (y : Entry). y.size) q ∙ o))))
      (λ j. shown-limited es (b + nodes fs) sh.others sh.rest (others-limited sh.own sh.others ys sh.split lim) e j z)
      (Memᴰ.cases_cons i)
    where
      first : (x.size ≡ 0 → ⊥) → Shows x
      first n =
          let t = topmost fs room m x.block sh.own c sh.built in
          entry-shows t.c c sh.own x (m x.block) (points-band room t.level m x.block sh.own c t.c t.es t.node) sh.agree
          (own-limited sh.own sh.others ys sh.split lim) n

  -- an entry's top is below c; where c is 0, there is none
  entry-under : (e : Entry) (zs : List Spot) → Built fs room m e.block zs c → agrees (Child e) (m e.block) ≡ true → (e.size ≡ 0) ⊎ (rank_key e.top < c)
  entry-under e zs h ag =
      let t = topmost fs room m e.block zs c h in
      entry-low t.c c zs e (m e.block) (points-band room t.level m e.block zs c t.c t.es t.node) ag

  tops-under : (es : List Entry) (b : ℕ) (ys : List Spot) → Shares (λ b' zs. Built fs room m b' zs c) m (nodes fs) b es ys → every (λ k. ltb (rank_key k) c) (tops es) ≡ true
  tops-under [] b ys sh = refl
  tops-under (e ∷ es) b ys sh = go (eqb e.size 0) refl (entry-under e sh.own sh.built sh.agree) (tops-under es (b + nodes fs) sh.others sh.rest)
    where
      go : (z : Bool) → eqb e.size 0 ≡ z → (e.size ≡ 0) ⊎ (rank_key e.top < c) → every (λ k. ltb (rank_key k) c) (tops es) ≡ true
          → every (λ k. ltb (rank_key k) c) (cond z (tops es) (e.top ∷ tops es)) ≡ true
      go true q x ih = ih
      go false q (inl x) ih = absurd (true≢false (sym (eq-eqb e.size 0 x) ∙ q))
      go false q (inr x) ih = and_both (ltb (rank_key e.top) c) (every (λ k. ltb (rank_key k) c) (tops es)) (lt-ltb (rank_key e.top) c x) ih

  sizes-none : (es : List Entry) (b : ℕ) (ys : List Spot) → Shares (λ b' zs. Built fs room m b' zs c) m (nodes fs) b es ys → c ≡ 0 → every (λ e. eqb e.size 0) es ≡ true
  sizes-none [] b ys sh z = refl
  sizes-none (e ∷ es) b ys sh z =
      and_both (eqb e.size 0) (every (λ x. eqb x.size 0) es)
      (⊎_elim (λ x. eq-eqb e.size 0 x) (λ (x : rank_key e.top < c). let w : ⊥ = omega arith in absurd w) (entry-under e sh.own sh.built sh.agree))
      (sizes-none es (b + nodes fs) sh.others sh.rest z)

  blocks-fit : (es : List Entry) (b : ℕ) (ys : List Spot) → Shares (λ b' zs. Built fs room m b' zs c) m (nodes fs) b es ys → 1 ≤ b → b + length es * nodes fs ≤ room
      → every (λ e. block_ok room e.block) es ≡ true
  blocks-fit [] b ys sh one fit = refl
  blocks-fit (e ∷ es) b ys sh one fit =
      let w = nodes-some fs in
      let at = sh.at in
      let d : suc (length es) * nodes fs ≡ nodes fs + length es * nodes fs = omega arith in
      and_both (block_ok room e.block) (every (λ x. block_ok room x.block) es) (block-ok room e.block (omega arith) (omega (arith, d, fit, at, w)))
      (blocks-fit es (b + nodes fs) sh.others sh.rest (omega arith) (omega (arith, d, fit)))

-- what is asked of a place for a tree of this shape, over spots that lie in the range
pub record Placed (fs : List ℕ) (room : ℕ) (m : Store) (p : Part) (ys : List Spot) : Type 0 where
  pub up : rising (keys ys) ≡ true
  pub inside : every (within p.lo p.hi) (keys ys) ≡ true
  pub limits : every limited (keys ys) ≡ true
  pub agree : agrees p.asked (m p.block) ≡ true
  pub low : low_of p.asked ≤ p.lo
  pub own : stands_in p.asked ≡ p.block
  pub order : p.lo ≤ p.hi
  pub full : p.hi ≤ all_keys
  pub fans : fans_ok (fewest p.asked) fs ≡ true
  pub first : 1 ≤ p.block
  pub last : p.block + nodes fs ≤ room

module _ (fs : List ℕ) (room : ℕ) (m : Store) (c : ℕ) (fans : fans_ok 4 fs ≡ true) (deeper : (p : Part) (ys : List Spot) → Built fs room m p.block ys c → Placed fs room m p ys → Good (suc (length fs)) m p ys c (nodes fs)) where
  parts-good : (es : List Entry) (lo hi b : ℕ) (ys : List Spot) → Shares (λ b' zs. Built fs room m b' zs c) m (nodes fs) b es ys → next_low es lo ≤ lo → hi ≤ all_keys → rising (keys ys) ≡ true
      → every (within lo hi) (keys ys) ≡ true
      → every limited (keys ys) ≡ true
      → 1 ≤ b
      → b + length es * nodes fs ≤ room
      → AllGood (suc (length fs)) m (parts lo hi es) ys c b (length es * nodes fs)
  unfolding fewest stands_in
  parts-good [] lo hi b ys sh fl full up inside lim one fit =
      let z : 0 * nodes fs ≡ 0 = omega arith in
      record { sounds = refl; looks = λ k. rw sh (sym (cond-none (ltb (rank_key k) c))); reacheds = rw z; quiets = refl }
  parts-good (e ∷ es) lo hi b ys sh fl full up inside lim one fit =
      join (parts-good es (next_low es hi) hi (b + nodes fs) sh.others sh.rest (next_low_lem es hi) full x.others-up x.others-in (others-limited sh.own sh.others ys sh.split lim) (omega arith) (omega (arith, d, fit)))
    where
      l : ℕ
      l = suc (length fs)

      mid : ℕ
      mid = next_low es hi

      q : Part
      q = record { block = e.block; asked = Child e; lo = lo; hi = mid }

      k= : keys ys ≡ keys sh.own ++ keys sh.others
      k= = ap keys sh.split ∙ keys-append sh.own sh.others

      x : Cut lo mid hi sh.own sh.others
      x = cut es lo hi sh.own sh.others sh.next (rw k= at up) (rw k= at inside)

      d : suc (length es) * nodes fs ≡ nodes fs + length es * nodes fs
      d = omega arith

      here : Good (suc (length fs)) m q sh.own c (nodes fs)
      here =
          let at = sh.at in
          let some = some-within lo mid sh.own sh.some x.own_in in
          let end = starts-before es hi sh.others sh.next x.others-in in
          deeper q sh.own sh.built
          (record { up = x.own-up; inside = x.own_in; limits = own-limited sh.own sh.others ys sh.split lim; agree = sh.agree; low = fl; own = refl; order = omega arith; full = omega arith; fans = fans; first = omega arith; last = omega (arith, d, fit, at) })

      Later : Type 0
      Later = AllGood (suc (length fs)) m (parts mid hi es) sh.others c (b + nodes fs) (length es * nodes fs)

      look : Later → (k : ℕ) (w : Bool) → within lo mid k ≡ w
          → cond w (lookup l m k q) (down (lookup l m k) k (parts mid hi es)) ≡ cond (ltb (rank_key k) c) (find k ys) none
      look later k true w =
          rw (here.look k, sh.split, find-append k sh.own sh.others, find-fails (within mid hi) k sh.others x.others-in (within_low mid hi k (within-to lo mid k w)), or-none (find k sh.own))
      look later k false w = rw (later.looks k, sh.split, find-append k sh.own sh.others, find-fails (within lo mid) k sh.own x.own_in w)

      join : Later → AllGood (suc (length fs)) m (parts lo hi (e ∷ es)) ys c b (length (e ∷ es) * nodes fs)
      join later =
          record {
            sounds = and_both (sound_at l m q) (every (sound_at l m) (parts mid hi es)) here.sound later.sounds;
            looks = λ k. look later k (within lo mid k) refl;
            reacheds = rw (here.reached, later.reacheds, sh.at, d) (up_to-more b (nodes fs) (length es * nodes fs));
            quiets = every-join (λ i. settled (m i)) (reach l m q) (gather (reach l m) (parts mid hi es)) here.quiet later.quiets;
          }

count-ok : (a : Asked) (room l f : ℕ) (fs : List ℕ) (es : List Entry) (ps : List Spot) → length es ≡ f → fans_ok (fewest a) (f ∷ fs) ≡ true
    → child_count_ok a (built_node room (suc l) es ps) ≡ true
unfolding child_count_ok built_node
count-ok a room l f fs es ps e h =
    rw (ne_eqb (suc l) 0 (λ (z : suc l ≡ 0). omega arith), e)
    (all_cons _ _ (and_left (leb (fewest a) f) (leb f 8 && fans_ok 4 fs) h)
    (all_cons _ _ (and_left (leb f 8) (fans_ok 4 fs) (and_right (leb (fewest a) f) (leb f 8 && fans_ok 4 fs) h)) all_nil))

leaf-count : (a : Asked) (room : ℕ) (ps : List Spot) → child_count_ok a (built_node room 0 [] ps) ≡ true
unfolding child_count_ok built_node
leaf-count a room ps = refl

-- what is built in a place is as it should be
pub built-good : (fs : List ℕ) (room : ℕ) (m : Store) (t : ℕ) (p : Part) (ys : List Spot) → Built fs room m p.block ys t → Placed fs room m p ys
    → Good (suc (length fs)) m p ys t (nodes fs)
built-good [] room m t p ys h pl =
    node-good room 0 m p ys t 0 0 [] h.0
    (record { sounds = refl; looks = λ k. rw (le-ltb (rank_key k) 0 (omega arith)); reacheds = refl; quiets = refl })
    pl.up
    pl.inside
    pl.limits
    (record { zero-first = refl; up = refl; inside = refl; limits = refl; shown = refl; lower = refl; last = λ e. refl; blocks = refl })
    (leaf-count p.asked room (band 0 t ys))
    pl.agree
    pl.low
    pl.own
    pl.order
    pl.full
built-good (f ∷ fs) room m t p ys h pl =
    let fit : p.block + suc (f * nodes fs) ≤ room = pl.last in
    let one = pl.first in
    let n = h.count in
    let w : length h.es * nodes fs ≡ f * nodes fs = ap (λ (i : ℕ). i * nodes fs) n in
    let fit' : p.block + 1 + length h.es * nodes fs ≤ room = omega (arith, fit, w) in
    let all-good =
    parts-good fs room m h.c
    (and_right (leb f 8) (fans_ok 4 fs) (and_right (leb (fewest p.asked) f) (leb f 8 && fans_ok 4 fs) pl.fans))
    (λ p' ys' h' pl'. built-good fs room m h.c p' ys' h' pl')
    h.es
    p.lo
    p.hi
    (p.block + 1)
    ys
    h.shares
    (first-low h.es h.first)
    pl.full
    pl.up
    pl.inside
    pl.limits
    (omega arith)
    fit' in
    subst (λ (i : ℕ). Good (suc (suc (length fs))) m p ys t i) (ap suc w)
    (node-good room (suc (length fs)) m p ys t h.c (length h.es * nodes fs) h.es h.node all-good pl.up pl.inside pl.limits
    (entries h.es h.first h.shares fit')
    (count-ok p.asked room (length fs) f fs h.es (band h.c t ys) n pl.fans)
    pl.agree
    pl.low
    pl.own
    pl.order
    pl.full)
  where
    first-low : (es : List Entry) → next_low es 0 ≡ 0 → next_low es p.lo ≤ p.lo
    first-low [] z = omega arith
    first-low (e ∷ es) z = omega arith

    entries : (es : List Entry) → next_low es 0 ≡ 0 → Shares (λ b' zs. Built fs room m b' zs h.c) m (nodes fs) (p.block + 1) es ys
        → p.block + 1 + length es * nodes fs ≤ room
        → Entries room p h.c es
    entries [] z sh fit = record { zero-first = refl; up = refl; inside = refl; limits = refl; shown = refl; lower = refl; last = λ e. refl; blocks = refl }
    entries (e ∷ es) z sh fit =
        let x = lows-up fs room m h.c e es p.lo p.hi (p.block + 1) ys sh pl.up pl.inside in
        record {
          zero-first = eq-eqb e.low 0 z;
          up = rising-lower 0 (suc p.lo) (lows es) (omega arith) x.up;
          inside = x.inside;
          limits = lows-limited fs room m h.c e es (p.block + 1) ys sh pl.limits;
          shown = extremes-inside (e ∷ es) (shown-limited fs room m h.c (e ∷ es) (p.block + 1) ys sh pl.limits);
          lower = tops-under fs room m h.c (e ∷ es) (p.block + 1) ys sh;
          last = λ o. sizes-none fs room m h.c (e ∷ es) (p.block + 1) ys sh o;
          blocks = blocks-fit fs room m h.c (e ∷ es) (p.block + 1) ys sh (omega arith) fit;
        }
