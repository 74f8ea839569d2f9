-- A walk put together of its parts: it is whole exactly where every node read keeps the rules, and then it reads `visits` and finds `gains`. Code follows
-- these one by one, so there is a law of one step for each.
-- Assumes nothing.
use mathlib.Core.Path.{◌≡◌, refl, ap, sym, ◌∙◌}
use mathlib.Core.Bool.{Bool, true, false, cond, ◌&&◌, true≢false}
use mathlib.Core.List.{List, [], ◌∷◌, ◌++◌, reverse_aux-append, Memᴰ}
use Prim.Native.Nat.{ℕ, zero, suc, ◌+◌}
use native.Mathlib.Omega.{arith}
use lib.ListN.{length}
use Rattle.octets.specs.Lists.{every, has, distinct}
use Rattle.octets.proofs.Tests.{keep_same}
use Rattle.octets.proofs.Sets.{has-append}
use Rattle.spot.specs.Spots.{put_all}
use Rattle.spot.specs.declared.Spot.{Spot}
use Rattle.spot.specs.declared.Query.{Query}
use Rattle.spot.proofs.Buffers.{length-put_all}
use Rattle.block.specs.Node.{Node, Store, store_of}
use Rattle.block.specs.NodeRules.{names, node_ok}
use Rattle.block.specs.Header.{Header, head_of}
use Rattle.block.specs.HeaderRules.{header_ok}
use Rattle.tree.specs.Part.{Part, whole}
use Rattle.tree.specs.Reach.{gather}
use Rattle.tree.specs.Walk.{Walk, broken, walked, blocks_read, is_broken, takes, takes_key, finds, through, enter, walk, once, walk_from, walk_table}
use Rattle.tree.specs.Trace.{admitted, obeys, visits, pour, gains, total, tally}
use Rattle.tree.proofs.Onto.{onto, distinct-onto}

-- ---- one level more

module _ (l : ℕ) (m : Store) (q : Query) where
  -- whether the rules are kept
  pub obeys-step : (p : Part) → obeys (suc l) m q p ≡ node_ok l p.asked (m p.block) && every (obeys l m q) (admitted q m p)
  unfolding obeys
  obeys-step p = refl

  -- the blocks read
  pub visits-step : (p : Part) → visits (suc l) m q p ≡ p.block ∷ gather (visits l m q) (admitted q m p)
  unfolding visits
  visits-step p = refl

  -- the spots found
  pub gains-step : (named : List ℕ) (p : Part) (found : List Spot)
      → gains (suc l) m q named p found
      ≡ pour (gains l m q (names (m p.block) ++ named)) (admitted q m p) (put_all (finds q named (m p.block)) found)
  unfolding gains
  gains-step named p found = refl

  -- and how many they are
  pub tally-step : (named : List ℕ) (p : Part)
      → tally (suc l) m q named p
      ≡ length (finds q named (m p.block)) + total (tally l m q (names (m p.block) ++ named)) (admitted q m p)
  unfolding tally
  tally-step named p = refl

-- ---- the walk

-- the walk where the test passes, else a broken one
abbrev pub whole_if : Bool → List Spot → List ℕ → Walk
whole_if ok found blocks = cond ok (walked found blocks) broken

-- its blocks, if it is whole
pub whole-blocks : {w : Walk} (ok : Bool) (found : List Spot) (blocks : List ℕ) → w ≡ whole_if ok found blocks → is_broken w ≡ false → blocks_read w ≡ blocks
whole-blocks true found blocks e h = ap blocks_read e
whole-blocks false found blocks e h = absurd (true≢false (sym (ap is_broken e) ∙ h))

-- a step of a walk, taken apart
pub record Traced (f : Part → Walk → Walk) (ok : Part → Bool) (g : Part → List Spot → List Spot) (v : Part → List ℕ) : Type 0 where
  pub goes : (p : Part) (found : List Spot) (blocks : List ℕ) → f p (walked found blocks) ≡ whole_if (ok p) (g p found) (onto (v p) blocks)
  pub stays : (p : Part) → f p broken ≡ broken

module _ (f : Part → Walk → Walk) (ok : Part → Bool) (g : Part → List Spot → List Spot) (v : Part → List ℕ) (h : Traced f ok g v) where
  through-broken : (ps : List Part) → through f ps broken ≡ broken
  through-broken [] = refl
  through-broken (p ∷ ps) = ap (through f ps) (h.stays p) ∙ through-broken ps

  -- such steps one after the other
  through-trace : (ps : List Part) (found : List Spot) (blocks : List ℕ)
      → through f ps (walked found blocks) ≡ whole_if (every ok ps) (pour g ps found) (onto (gather v ps) blocks)
  through-trace [] found blocks = refl
  through-trace (p ∷ ps) found blocks =
      ap (through f ps) (h.goes p found blocks) ∙ go (ok p) (through-trace ps (g p found) (onto (v p) blocks))
    where
      go : (b : Bool) → through f ps (walked (g p found) (onto (v p) blocks)) ≡ whole_if (every ok ps) (pour g ps (g p found)) (onto (gather v ps) (onto (v p) blocks))
          → through f ps (whole_if b (g p found) (onto (v p) blocks)) ≡ whole_if (b && every ok ps) (pour g ps (g p found)) (onto (v p ++ gather v ps) blocks)
      go true e = e ∙ ap (whole_if (every ok ps) (pour g ps (g p found))) (sym (reverse_aux-append (v p) (gather v ps) blocks))
      go false e = through-broken ps

  enter-trace : (fine : Bool) (ps : List Part) (own : List Spot) (b : ℕ) (found : List Spot) (blocks : List ℕ)
      → enter fine f ps own b (walked found blocks) ≡ whole_if (fine && every ok ps) (pour g ps (put_all own found)) (onto (b ∷ gather v ps) blocks)
  unfolding enter
  enter-trace true ps own b found blocks = through-trace ps (put_all own found) (b ∷ blocks)
  enter-trace false ps own b found blocks = refl

-- a walk is one
pub walk-traced : (l : ℕ) (m : Store) (q : Query) (named : List ℕ) → Traced (walk l m q named) (obeys l m q) (gains l m q named) (visits l m q)
unfolding walk enter obeys gains visits
walk-traced zero m q named = record { goes = λ p found blocks. refl; stays = λ p. refl }
walk-traced (suc l) m q named =
    record {
      goes =
          λ p found blocks.
          enter-trace _ _ _ _ (walk-traced l m q (names (m p.block) ++ named)) (node_ok l p.asked (m p.block)) (admitted q m p)
          (finds q named (m p.block))
          p.block
          found
          blocks;
      stays = λ p. refl;
    }

-- that is, for a walk that was whole
pub walk-trace : (l : ℕ) (m : Store) (q : Query) (named : List ℕ) (p : Part) (found : List Spot) (blocks : List ℕ)
    → walk l m q named p (walked found blocks) ≡ cond (obeys l m q p) (walked (gains l m q named p found) (onto (visits l m q p) blocks)) broken
walk-trace l m q named p found blocks = (walk-traced l m q named).goes p found blocks

-- ---- the walk of a table

once-trace : (ok : Bool) (found : List Spot) (xs : List ℕ) → once (whole_if ok found (onto xs [])) ≡ whole_if (ok && distinct xs) found (onto xs [])
unfolding once
once-trace true found xs = ap (λ (b : Bool). whole_if b found (onto xs [])) (distinct-onto xs)
once-trace false found xs = refl

-- from the root, where no block is read twice
from-trace : (h : Header) (m : Store) (q : Query)
    → walk_from h m q
    ≡ cond (obeys h.levels m q (whole h) && distinct (visits h.levels m q (whole h)))
    (walked (gains h.levels m q [] (whole h) []) (onto (visits h.levels m q (whole h)) []))
    broken
unfolding walk_from
from-trace h m q =
    ap once (walk-trace h.levels m q [] (whole h) [] []) ∙
    once-trace (obeys h.levels m q (whole h)) (gains h.levels m q [] (whole h) []) (visits h.levels m q (whole h))

both : (a b : Bool) (w : Walk) → cond a (cond b w broken) broken ≡ cond (a && b) w broken
both true b w = refl
both false b w = refl

-- and from a header that keeps its rules
pub table-trace : (t : List ℕ) (q : Query)
    → let L = (head_of t).levels in let m = store_of t in let W = whole (head_of t) in
    walk_table t q
    ≡ cond (header_ok (length t) (head_of t) && (obeys L m q W && distinct (visits L m q W))) (walked (gains L m q [] W []) (onto (visits L m q W) [])) broken
unfolding walk_table
table-trace t q =
    ap (λ (w : Walk). cond (header_ok (length t) (head_of t)) w broken) (from-trace (head_of t) (store_of t) q) ∙ both (header_ok (length t) (head_of t)) _ _

-- the blocks read, where it is whole
pub whole-reads : (t : List ℕ) (q : Query) → is_broken (walk_table t q) ≡ false
    → blocks_read (walk_table t q) ≡ onto (visits (head_of t).levels (store_of t) q (whole (head_of t))) []
whole-reads t q h =
    let L = (head_of t).levels in
    let m = store_of t in
    let W = whole (head_of t) in
    whole-blocks (header_ok (length t) (head_of t) && (obeys L m q W && distinct (visits L m q W))) (gains L m q [] W []) _ (table-trace t q) h

-- ---- how many are found

-- through a list of parts
pour-length : (g : Part → List Spot → List Spot) (f : Part → ℕ) → ((p : Part) (found : List Spot) → length (g p found) ≡ length found + f p)
    → (ps : List Part) (found : List Spot) → length (pour g ps found) ≡ length found + total f ps
pour-length g f h [] found = omega arith
pour-length g f h (p ∷ ps) found = pour-length g f h ps (g p found) ∙ omega (arith, h p found)

-- of one part
pub gains-length : (l : ℕ) (m : Store) (q : Query) (named : List ℕ) (p : Part) (found : List Spot)
    → length (gains l m q named p found) ≡ length found + tally l m q named p
unfolding gains tally
gains-length zero m q named p found = omega arith
gains-length (suc l) m q named p found =
    pour-length _ _ (λ c ss. gains-length l m q (names (m p.block) ++ named) c ss) (admitted q m p) (put_all (finds q named (m p.block)) found) ∙
    omega (arith, length-put_all (finds q named (m p.block)) found)

-- ---- the keys named above matter only as a set

-- two lists that have the same keys
abbrev pub SameKeys : List ℕ → List ℕ → Type 0
SameKeys a b = (k : ℕ) → has k a ≡ has k b

names_same : (a b : List ℕ) (n : Node) → SameKeys a b → SameKeys (names n ++ a) (names n ++ b)
names_same a b n h k = rw (has-append k (names n) a, has-append k (names n) b, h k)

-- what a node gives
finds-same : (q : Query) (a b : List ℕ) (n : Node) → SameKeys a b → finds q a n ≡ finds q b n
unfolding finds takes_key
finds-same q a b n h = keep_same (takes q a) (takes q b) (n.points ++ n.inserts) (λ s i. rw (h s.key))

-- steps that do the same do the same one after the other
pub pour-same : (f g : Part → List Spot → List Spot) (ps : List Part) → ((c : Part) → Memᴰ c ps → (found : List Spot) → f c found ≡ g c found)
    → (found : List Spot) → pour f ps found ≡ pour g ps found
pour-same f g [] h found = refl
pour-same f g (p ∷ ps) h found = rw (h p (Memᴰ.head refl) found) (pour-same f g ps (λ c i. h c (Memᴰ.tail i)) (g p found))

total-same : (f g : Part → ℕ) → ((p : Part) → f p ≡ g p) → (ps : List Part) → total f ps ≡ total g ps
total-same f g h [] = refl
total-same f g h (p ∷ ps) = rw (h p, total-same f g h ps)

-- what a part gives
pub gains-same : (l : ℕ) (m : Store) (q : Query) (a b : List ℕ) → SameKeys a b
    → (p : Part) (found : List Spot) → gains l m q a p found ≡ gains l m q b p found
unfolding gains
gains-same zero m q a b h p found = refl
gains-same (suc l) m q a b h p found =
    rw (finds-same q a b (m p.block) h)
    (pour-same _ _ (admitted q m p) (λ c i ss. gains-same l m q (names (m p.block) ++ a) (names (m p.block) ++ b) (names_same a b (m p.block) h) c ss) _)

-- and how much that is
pub tally-same : (l : ℕ) (m : Store) (q : Query) (a b : List ℕ) → SameKeys a b → (p : Part) → tally l m q a p ≡ tally l m q b p
unfolding tally
tally-same zero m q a b h p = refl
tally-same (suc l) m q a b h p =
    rw (
      finds-same q a b (m p.block) h,
      total-same _ _ (tally-same l m q (names (m p.block) ++ a) (names (m p.block) ++ b) (names_same a b (m p.block) h)) (admitted q m p),
    )
