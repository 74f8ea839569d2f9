-- The second-table rule: two tables of one length that agree on the blocks read, which the map marks, give the same walk.
-- Assumes nothing.
use mathlib.Core.Path.{◌≡◌, refl, ap, sym, ◌∙◌}
use mathlib.Core.Bool.{Bool, true, false, ◌&&◌}
use mathlib.Core.List.{List, [], ◌∷◌, ◌++◌, Memᴰ}
use Prim.Native.Nat.{ℕ, zero, suc}
use lib.ListN.{length}
use Rattle.octets.specs.Bitmap.{bit}
use Rattle.spot.specs.Spots.{put_all}
use Rattle.spot.specs.declared.Spot.{Spot}
use Rattle.spot.specs.declared.Query.{Query}
use Rattle.block.specs.Node.{Store, store_of}
use Rattle.block.specs.NodeRules.{names, node_ok}
use Rattle.block.specs.Table.{block}
use Rattle.block.specs.Header.{head_of}
use Rattle.block.proofs.Frames.{store_same, head-same}
use Rattle.tree.specs.Part.{Part, whole}
use Rattle.tree.specs.Walk.{blocks_read, is_broken, finds, walk_table}
use Rattle.tree.specs.Trace.{admitted, obeys, visits, gains}
use Rattle.tree.specs.ReadMap.{read_map}
use Rattle.tree.specs.Sound.{sound}
use Rattle.tree.proofs.Gather.{gather-in, gather_cong, every-cong}
use Rattle.tree.proofs.Frame.{Same}
use Rattle.tree.proofs.Onto.{onto-mem}
use Rattle.tree.proofs.Traces.{whole-reads, pour-same, table-trace}
use Rattle.tree.proofs.Marks.{zero-marked}
use Rattle.tree.proofs.Sources.{read-marked}
use Rattle.tree.proofs.Tables.{report-finds}

-- ---- two stores that agree on the blocks read in the first

module _ (x y : Store) (q : Query) where
  below : (l : ℕ) (p : Part) → Same x y (visits (suc l) x q p) → (c : Part) → Memᴰ c (admitted q x p) → Same x y (visits l x q c)
  unfolding visits
  below l p a c h z i = a z (Memᴰ.tail (gather-in (visits l x q) (admitted q x p) c h i))

  here : (l : ℕ) (p : Part) → Same x y (visits (suc l) x q p) → y p.block ≡ x p.block
  unfolding visits
  here l p a = a p.block (Memᴰ.head refl)

  -- the same blocks are read
  visits-second : (l : ℕ) (p : Part) → Same x y (visits l x q p) → visits l y q p ≡ visits l x q p
  unfolding visits
  visits-second zero p a = refl
  visits-second (suc l) p a =
      rw (here l p a) (ap (λ (b : List ℕ). p.block ∷ b) (gather_cong _ _ (admitted q x p) (λ c h. visits-second l c (below l p a c h))))

  -- the same rules are kept
  obeys-second : (l : ℕ) (p : Part) → Same x y (visits l x q p) → obeys l y q p ≡ obeys l x q p
  unfolding obeys
  obeys-second zero p a = refl
  obeys-second (suc l) p a =
      rw (here l p a) (ap (λ (b : Bool). node_ok l p.asked (x p.block) && b) (every-cong _ _ (admitted q x p) (λ c h. obeys-second l c (below l p a c h))))

  -- the same spots are found
  gains-second : (l : ℕ) (named : List ℕ) (p : Part) → Same x y (visits l x q p) → (found : List Spot) → gains l y q named p found ≡ gains l x q named p found
  unfolding gains
  gains-second zero named p a found = refl
  gains-second (suc l) named p a found =
      rw (here l p a)
      (pour-same _ _ (admitted q x p) (λ c h ss. gains-second l (names (x p.block) ++ named) c (below l p a c h) ss) (put_all (finds q named (x p.block)) found))

-- ---- tables

-- two tables of one length, with the same header and the same blocks read
pub table-second : (t u : List ℕ) (q : Query) → length u ≡ length t → block u 0 ≡ block t 0 → is_broken (walk_table t q) ≡ false
    → ((b : ℕ) → Memᴰ b (blocks_read (walk_table t q)) → block u b ≡ block t b)
    → walk_table u q ≡ walk_table t q
table-second t u q n z h a =
    let L = (head_of t).levels in
    let W = whole (head_of t) in
    let same : Same (store_of t) (store_of u) (visits L (store_of t) q W) = λ b k. store_same t u n b (a b (rw (whole-reads t q h) (onto-mem _ k))) in
    table-trace u q ∙
    rw (
      head-same t u n z,
      n,
      obeys-second (store_of t) (store_of u) q L W same,
      visits-second (store_of t) (store_of u) q L W same,
      gains-second (store_of t) (store_of u) q L [] W same [],
    )
    (sym (table-trace t q))

-- tables of one length that agree on the blocks that the map marks give the same Report
pub report-second : (t : List ℕ) (s : sound t ≡ true) (u : List ℕ) (q : Query) → length u ≡ length t
    → ((b : ℕ) → bit (read_map (blocks_read (walk_table t q))) b ≡ true → block u b ≡ block t b)
    → walk_table u q ≡ walk_table t q
report-second t s u q n a = table-second t u q n (a 0 (zero-marked _)) (ap is_broken (report-finds t s q).1) (λ b k. a b (read-marked t q b k))
