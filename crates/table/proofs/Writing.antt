-- What Top writes where it isn't held: all that is in range, sorted, or what the search finds.
-- Assumes nothing.
use mathlib.Core.Path.{◌≡◌, refl, ap, sym, subst, ◌∙◌}
use mathlib.Core.Bool.{true, not, true≢false, false≢true, false}
use mathlib.Core.List.{List, [], ◌∷◌, ◌++◌, Memᴰ}
use Prim.Native.Nat.{ℕ, suc, ◌+◌, ◌-◌, ◌*◌, ◌%◌, ◌≤◌, ◌<◌}
use native.Mathlib.Omega.{arith}
use lib.IntN.{ℤ}
use lib.ListN.{length, get_or, take, drop, take-append-drop}
use lib.Seq.{take_all, drop_at}
use Rattle.octets.specs.Lists.{every}
use Rattle.octets.proofs.Records.{length-records, records-more}
use Rattle.spot.specs.declared.Spot.{Spot}
use Rattle.spot.specs.declared.Query.{Query}
use Rattle.spot.specs.Keys.{word, rank_of, limited}
use Rattle.spot.specs.Query.{top_query}
use Rattle.spot.specs.Spots.{key_at, spot_at, spots_in, spots_bytes, keys, limited_from}
use Rattle.spot.proofs.Card.{key_at-lt}
use Rattle.spot.proofs.Halves.{rank-of-low}
use Rattle.spot.proofs.Limits.{limited-spots}
use Rattle.spot.proofs.Stored.{length-spots_bytes, spots_bytes-records}
use Rattle.tree.specs.Walk.{is_broken, spots, blocks_read, walk_table}
use Rattle.tree.specs.Top.{top_walk}
use Rattle.tree.specs.ReadMap.{read_map}
use Rattle.tree.proofs.Limited.{walk-limited}
use Rattle.tree.proofs.Sources.{read-in-table}
use Rattle.tree.proofs.BestFirstSums.{sum, Same}
use Rattle.query.specs.Walks.{TableCounted}
use Rattle.tally.specs.declared.Tally.{Tally}
use Rattle.sort.specs.Sorting.{ByTop}
use Rattle.sort.proofs.Limits.{limits-at, limits-permuted}
use Rattle.top.specs.declared.TopTally.{TopTally}
use Rattle.std.specs.Prelude.{Option, Some, None}
use Rattle.top.specs.Runs.{Based, TopFront, written}
use Rattle.table.specs.TopSizes.{AllCounted, AllWritten, Written}
use Rattle.table.proofs.Ranked.{lowest-walk, whole-there, done-there, last-low, last-ranks, last-walk}

-- ---- all that is in range

-- the r spots of a walk stand at the front of the output
abbrev Found : List ℕ → Query → ℕ → List ℕ → List ℕ → Type 0
Found t q r out out1 =
    (r ≡ length (spots (walk_table t q))) × (out1 ≡ spots_bytes (spots (walk_table t q)) ++ drop (12 * r) out) × (spots_in out1 r ≡ spots (walk_table t q))

module _ (t : List ℕ) (k n r : ℕ) (seen out out1 out2 : List ℕ) (x1 x2 : ℤ) (g : AllCounted t (top_query x1 x2 0) k seen n)
    (found : Found t (top_query x1 x2 0) r out out1) (b : ByTop n out1 out2) (bytes : (i : ℕ) → get_or out2 i 0 < 256) (long : length out1 ≡ length out) (room : 12 * n ≤ length out) where
  given : List Spot
  given = spots_in out2 n

  is-n : r ≡ n
  is-n = found.0 ∙ sym g.count

  same : Same (spots (walk_table t (top_query x1 x2 0))) given
  unfolding given
  same f = ap (sum f) (sym found.2 ∙ ap (spots_in out1) is-n) ∙ b.permuted.same f

  given-long : length given ≡ n
  unfolding given
  given-long = length-records (spot_at out2) 12 n 0

  few-given : length given ≤ k
  few-given = omega (arith, given-long, g.few)

  behind : drop (12 * n) out2 ≡ drop (12 * n) out
  behind =
      let e : length (spots_bytes (spots (walk_table t (top_query x1 x2 0)))) ≡ 12 * n = length-spots_bytes (spots (walk_table t (top_query x1 x2 0))) ∙ ap (λ (i : ℕ). 12 * i) (sym g.count) in
      b.behind ∙ ap (drop (12 * n)) found.1 ∙ drop_at (spots_bytes (spots (walk_table t (top_query x1 x2 0)))) (drop (12 * r) out) (12 * n) e ∙
      ap (λ (i : ℕ). drop (12 * i) out) is-n

  -- the bytes are those of the spots
  output-is : out2 ≡ written n given out
  unfolding given
  output-is =
      let all : take n given ≡ given = take_all n given (omega (arith, given-long)) in
      sym (take-append-drop (12 * n) out2) ∙
      ap (λ (x : List ℕ). x ++ drop (12 * n) out2) (sym (spots_bytes-records out2 bytes n 0 (omega (arith, b.permuted.long, long)))) ∙
      ap (λ (x : List ℕ). spots_bytes given ++ x) (behind ∙ ap (λ (i : ℕ). drop (12 * i) out) (sym given-long)) ∙
      ap (λ (ss : List Spot). spots_bytes ss ++ drop (12 * length ss) out) (sym all)

  -- with the map of Top's walk
  module _ (y : ℕ) (inside : y ≤ word) (is : top_walk t x1 x2 k ≡ walk_table t (top_query x1 x2 y)) (ranks : (s : Spot) → Memᴰ s given → y ≤ rank_of s.key)
      (seen' : List ℕ) (map : seen' ≡ read_map (blocks_read (walk_table t (top_query x1 x2 y)))) where
    based : Based t x1 x2 k n out seen' out2 n
    unfolding given
    based =
        record {
          base = out;
          long = refl;
          behind = refl;
          ended =
              record {
                given = given;
                blocks = blocks_read (walk_table t (top_query x1 x2 y));
                done = done-there t x1 x2 k given g.whole same b.falls few-given y inside is ranks;
                places = λ i j. (read-in-table t (top_query x1 x2 y) i j).low;
                counted = sym given-long;
                few = g.few;
                output = output-is;
                map = map;
              };
        }

  -- fewer than k: Top's walk is the walk at the lowest rank
  pub fewer-based : n < k → Based t x1 x2 k n out seen out2 n
  unfolding given
  fewer-based l =
      based 0 (omega arith) (lowest-walk t x1 x2 k given g.whole same b.falls few-given (omega (arith, given-long))) (λ s i. omega arith) seen g.map

  -- k: it is the one from the rank of the last
  module _ (full : n ≡ k) (some : 0 < k) (last : ℕ) (read : last ≡ key_at out2 (12 * (n - 1))) where
    final : Spot
    final = spot_at out2 (0 + 12 * (n - 1))

    split : given ≡ spots_in out2 (n - 1) ++ (final ∷ [])
    unfolding given final
    split = let e : n ≡ suc (n - 1) = omega arith in ap (spots_in out2) e ∙ records-more (spot_at out2) 12 (n - 1) 0

    rank-read : last % word ≡ rank_of final.key
    unfolding final spot_at
    rank-read =
        let e : 12 * (n - 1) ≡ 0 + 12 * (n - 1) = omega arith in
        ap (λ (i : ℕ). i % word) (read ∙ ap (key_at out2) e) ∙ sym (rank-of-low (key_at out2 (0 + 12 * (n - 1))) (key_at-lt out2 (0 + 12 * (n - 1))))

    full-given : length given ≡ k
    full-given = given-long ∙ full

    -- the walk from the rank of the last spot is whole
    full-whole : (q : Query) → q ≡ top_query x1 x2 (last % word) → is_broken (walk_table t q) ≡ false
    unfolding given
    full-whole q asks =
        let low = last-low t x1 x2 k given g.whole same b.falls few-given (spots_in out2 (n - 1)) final split full-given in
        let ranks = last-ranks t x1 x2 k given g.whole same b.falls few-given (spots_in out2 (n - 1)) final split full-given in
        let is = last-walk t x1 x2 k given g.whole same b.falls few-given (spots_in out2 (n - 1)) final split full-given in
        ap (λ (p : Query). is_broken (walk_table t p)) (asks ∙ ap (top_query x1 x2) rank-read)
        ∙ whole-there t x1 x2 k given g.whole same b.falls few-given (rank_of final.key) (omega arith) is ranks

    pub full-based : (seen' : List ℕ) (q : Query) (z : Option Tally) → q ≡ top_query x1 x2 (last % word) → TableCounted t q seen' z → Based t x1 x2 k n out seen' out2 n
    unfolding given
    full-based seen' q None asks counted = absurd (false≢true (counted.ok ∙ ap not (full-whole q asks)))
    full-based seen' q (Some z) asks counted =
        let low = last-low t x1 x2 k given g.whole same b.falls few-given (spots_in out2 (n - 1)) final split full-given in
        let ranks = last-ranks t x1 x2 k given g.whole same b.falls few-given (spots_in out2 (n - 1)) final split full-given in
        let is = last-walk t x1 x2 k given g.whole same b.falls few-given (spots_in out2 (n - 1)) final split full-given in
        let query : q ≡ top_query x1 x2 (rank_of final.key) = asks ∙ ap (top_query x1 x2) rank-read in
        based (rank_of final.key) (omega arith) is ranks seen' (counted.marks ∙ ap (λ (p : Query). read_map (blocks_read (walk_table t p))) query)

-- .. and they have places inside the limits, before they are sorted and after
pub found-limited : (t : List ℕ) (q : Query) (n r : ℕ) (out out1 : List ℕ) → n ≡ length (spots (walk_table t q)) → Found t q r out out1 → limited_from out1 12 n 0 ≡ true
found-limited t q n r out out1 count found =
    limited-spots out1 n 0 ∙ ap (λ (i : ℕ). every limited (keys (spots_in out1 i))) (count ∙ sym found.0) ∙ ap (λ (ss : List Spot). every limited (keys ss)) found.2
    ∙ walk-limited t q

pub last-limited : (t : List ℕ) (q : Query) (n r : ℕ) (out out1 out2 : List ℕ) → n ≡ length (spots (walk_table t q)) → Found t q r out out1 → ByTop n out1 out2 → 0 < n
    → limited (key_at out2 (12 * (n - 1))) ≡ true
last-limited t q n r out out1 out2 count found b some =
    limits-at out2 n (limits-permuted n out1 out2 b.permuted (found-limited t q n r out out1 count found)) (n - 1) (omega arith)

-- .. of a query that the code was handed
module _ (t : List ℕ) (q : Query) (k n r : ℕ) (seen out out1 out2 : List ℕ) (g : AllCounted t q k seen n) (found : Found t q r out out1) (b : ByTop n out1 out2)
    (bytes : (i : ℕ) → get_or out2 i 0 < 256) (long : length out1 ≡ length out) (room : 12 * n ≤ length out) where
  pub fewer-written : n < k → AllWritten t q k n out seen out2
  fewer-written l =
      record {
        ends = λ x1 x2 a.
            fewer-based t k n r seen out out1 out2 x1 x2 (subst (λ (p : Query). AllCounted t p k seen n) a g) (subst (λ (p : Query). Found t p r out out1) a found) b bytes long room l;
      }

  pub full-written : n ≡ k → 0 < k → (last : ℕ) → last ≡ key_at out2 (12 * (n - 1)) → (seen' : List ℕ) (p : Query) (z : Option Tally) → p ≡ top_query q.x1 q.x2 (last % word) → TableCounted t p seen' z
      → AllWritten t q k n out seen' out2
  unfolding top_query
  full-written full some last read seen' p z asks counted =
      record {
        ends = λ x1 x2 a.
            full-based t k n r seen out out1 out2 x1 x2 (subst (λ (p : Query). AllCounted t p k seen n) a g) (subst (λ (p : Query). Found t p r out out1) a found) b bytes long room full some last read seen' p z
            (asks ∙ ap (λ (s : Query). top_query s.x1 s.x2 (last % word)) a)
            counted;
      }

-- ---- what the search finds

pub run-written : (t : List ℕ) (q : Query) (k n : ℕ) (out seen out'' : List ℕ) (z : Option TopTally) → TopFront t q k n out seen out'' z → Written t q k n out seen out''
run-written t q k n out seen out'' None v = record { ends = λ x1 x2 a d. absurd (true≢false (ap is_broken (sym (v.fails x1 x2 a refl)) ∙ d.intact)) }
run-written t q k n out seen out'' (Some s) v =
    record {
      ends = λ x1 x2 a d.
          let r = v.ends x1 x2 a s refl in
          subst (λ (m : ℕ). Based t x1 x2 k n out seen out'' m) (r.ended.counted ∙ r.ended.done.many ∙ sym d.many) r;
    }
