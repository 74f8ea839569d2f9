-- Top's promise, one law for each way that the call ends.
-- Assumes nothing.
use mathlib.Core.Path.{◌≡◌, refl, ap, ap₂, sym, subst, ◌∙◌}
use mathlib.Core.Logic.{⊎_elim}
use mathlib.Core.Bool.{Bool, true, false, cond}
use mathlib.Core.List.Memᴰ
use mathlib.Core.List.{List, [], ◌++◌, Memᴰ}
use Prim.Native.Nat.{ℕ, zero, suc, ◌*◌, ◌/◌, ◌≤◌, ◌<◌}
use native.Mathlib.Omega.{arith}
use lib.ListN.{length, take, drop, replicate}
use lib.Seq.{take_all, take_at}
use lib.Dec.{eqb}
use lib.IntN.{ℤ}
use Rattle.octets.specs.Lists.{rising}
use Rattle.octets.specs.Bitmap.{set_bit}
use Rattle.spot.specs.Spots.{keys, spots_bytes}
use Rattle.spot.specs.Query.{top_query}
use Rattle.spot.specs.declared.Spot.{Spot}
use Rattle.spot.specs.declared.Query.{Query}
use Rattle.spot.proofs.Stored.{length-spots_bytes}
use Rattle.block.specs.declared.Answer.{Answer}
use Rattle.block.specs.Answers.{answer}
use Rattle.block.specs.Header.{head_of}
use Rattle.block.specs.HeaderRules.{header_ok}
use Rattle.block.specs.Table.{table_sized, blocks_of}
use Rattle.tree.specs.Walk.{Walk, broken, walked, is_broken, spots, blocks_read}
use Rattle.tree.specs.Top.{threshold, top_walk, best, top_table}
use Rattle.tree.specs.ReadMap.{read_map}
use Rattle.tree.proofs.MapBits.{marks-make}
use Rattle.tree.proofs.Sources.{read-in-table}
use Rattle.tree.proofs.BestFirstSums.{sum}
use Rattle.tree.proofs.BestFirstTop.{Done, broken-head}
use Rattle.top.specs.Runs.{Ended, Based}
use Rattle.table.specs.Calls.{top}
use Rattle.table.specs.Queries.{TopPost}
use Rattle.table.specs.NoneGiven.{NoneGiven}
use Rattle.table.specs.TopSizes.{Gives}
use Rattle.table.proofs.Searching.{search-short, search-lent, search-broken, search-many, search-given}

module _ (x1 x2 : ℤ) (k : ℕ) (t out map : List ℕ) where
  abbrev once : Bool
  once = rising (keys (spots (top_walk t x1 x2 k)))

  pub top-short : (r : Answer) → table_sized (length t) ≡ false → r ≡ answer 1 0 → TopPost x1 x2 k t out map r out map
  top-short r = search-short (top x1 x2 k) refl refl x1 x2 (top_table t x1 x2 k) once t out map r

  pub top_lent : (r : Answer) → table_sized (length t) ≡ true → eqb (length map) 512 ≡ false → r ≡ answer 2 0 → TopPost x1 x2 k t out map r out map
  top_lent r = search-lent (top x1 x2 k) refl refl x1 x2 (top_table t x1 x2 k) once t out map r

  module _ (e : table_sized (length t) ≡ true) (f : eqb (length map) 512 ≡ true) where
    table-broken : top_walk t x1 x2 k ≡ broken → is_broken (top_table t x1 x2 k) ≡ true
    unfolding top_table
    table-broken h = ap (λ (w : Walk). is_broken (best k w)) h

    -- a rule is broken
    pub top-broken : (r : Answer) → top_walk t x1 x2 k ≡ broken → r ≡ answer 3 0 → TopPost x1 x2 k t out map r out map
    top-broken r h = search-broken (top x1 x2 k) refl refl x1 x2 (top_table t x1 x2 k) once t out map r e f (table-broken h)

    table-whole : is_broken (top_walk t x1 x2 k) ≡ false → is_broken (top_table t x1 x2 k) ≡ false
    unfolding top_table
    table-whole h = go (top_walk t x1 x2 k) h
      where
        go : (w : Walk) → is_broken w ≡ false → is_broken (best k w) ≡ false
        go broken z = z
        go (walked found blocks) z = refl

    -- more spots than the output holds
    pub top-many : (r : Answer) (n : ℕ) → Gives t x1 x2 k n → length out / 12 < n → r ≡ answer 5 n
        → TopPost x1 x2 k t out map r out map
    top-many r n d = search-many (top x1 x2 k) refl refl x1 x2 (top_table t x1 x2 k) once t out map r e f n (table-whole d.intact) d.many

    -- a block that the walk reads is a node's
    node_block : (b : ℕ) → Memᴰ b (blocks_read (top_walk t x1 x2 k)) → 1 ≤ b
    unfolding top_walk
    node_block b i = go k i
      where
        none : (h : Bool) → Memᴰ b (blocks_read (cond h (walked [] []) broken)) → 1 ≤ b
        none true j = absurd (Memᴰ.not-nil j)
        none false j = absurd (Memᴰ.not-nil j)

        go : (m : ℕ) → Memᴰ b (blocks_read (top_walk t x1 x2 m)) → 1 ≤ b
        go zero j = none (header_ok (length t) (head_of t)) j
        go (suc m) j = (read-in-table t (top_query x1 x2 (threshold t x1 x2 (suc m))) b j).some

    -- accepted
    pub top-given : (r : Answer) (n : ℕ) (out'' map' : List ℕ) {given : List Spot} {blocks : List ℕ} → Done t x1 x2 k given blocks
        → ((b : ℕ) → Memᴰ b blocks → b < blocks_of (length t))
        → n ≡ length given → n ≤ length out / 12 → r ≡ answer 0 n → out'' ≡ spots_bytes given ++ drop (12 * length given) out → map' ≡ read_map blocks
        → TopPost x1 x2 k t out map r out'' map'
    top-given r n out'' map' d places =
        search-given (top x1 x2 k) refl refl x1 x2 (top_table t x1 x2 k) once t out map r e f n out'' map'
        (record {
          intact = table-whole d.intact;
          many = d.many;
          same = d.same;
          from = d.from;
          places = λ b i. record { low = places b i; some = node_block b (d.stand b i) };
          map = d.map;
        })

    -- few spots, from the small buffer
    pub top-few : (r : Answer) (n : ℕ) (base few seen out'' map' : List ℕ) → Ended t x1 x2 k 512 base seen few n → n ≤ 512 → n ≤ length out / 12 → r ≡ answer 0 n
        → out'' ≡ take (12 * n) few ++ drop (12 * n) out → map' ≡ seen
        → TopPost x1 x2 k t out map r out'' map'
    top-few r n base few seen out'' map' v small l a o w =
        let g = v.given in
        let c : n ≡ length g = v.counted in
        let all : take 512 g ≡ g = take_all 512 g (omega arith) in
        let front : take (12 * n) few ≡ spots_bytes g =
        ap (take (12 * n)) (v.output ∙ ap (λ (ss : List Spot). spots_bytes ss ++ drop (12 * length ss) base) all)
        ∙ take_at (spots_bytes g) (drop (12 * length g) base) (12 * n) (length-spots_bytes g ∙ ap (λ (i : ℕ). 12 * i) (sym c)) in
        top-given r n out'' map' v.done v.places c l a
        (o ∙ ap₂ (λ (x : List ℕ) (i : ℕ). x ++ drop (12 * i) out) front c)
        (w ∙ v.map)

    -- many, straight into the output
    pub top-wide : (r : Answer) (n : ℕ) (seen out'' map' : List ℕ) {m : ℕ} → Gives t x1 x2 k n → Based t x1 x2 k n out seen out'' m → n ≤ length out / 12 → r ≡ answer 0 n
        → map' ≡ seen
        → TopPost x1 x2 k t out map r out'' map'
    top-wide r n seen out'' map' d v l a w =
        let u = v.ended in
        let g = u.given in
        let i : n ≡ length g = d.many ∙ sym u.done.many in
        top-given r n out'' map' u.done u.places i l a
        (u.output ∙ ap (λ (ss : List Spot). spots_bytes ss ++ drop (12 * length ss) v.base) (take_all n g (omega arith))
        ∙ ap (λ (bs : List ℕ). spots_bytes g ++ bs) (subst (λ (j : ℕ). drop (12 * j) v.base ≡ drop (12 * j) out) i v.behind))
        (w ∙ u.map)

-- ---- none is asked for

module _ (x1 x2 : ℤ) (t : List ℕ) (ok : header_ok (length t) (head_of t) ≡ true) where
  walk_none : top_walk t x1 x2 0 ≡ walked [] []
  unfolding top_walk
  walk_none = rw ok

  done_none : Done t x1 x2 0 [] []
  unfolding top_table
  done_none =
      record {
        intact = ap is_broken walk_none;
        marks = λ f. ap (λ (w : Walk). sum f (blocks_read w)) walk_none;
        reads = λ b i. absurd (Memᴰ.not-nil (subst (λ (w : Walk). Memᴰ b (blocks_read w)) walk_none i));
        stand = λ b i. absurd (Memᴰ.not-nil i);
        same = λ h. sym (ap (λ (w : Walk). spots (best 0 w)) walk_none);
        many = sym (ap (λ (w : Walk). length (spots (best 0 w))) walk_none);
        from = λ s i. absurd (Memᴰ.not-nil i);
        map = ap (λ (w : Walk). read_map (blocks_read (best 0 w))) walk_none;
      }

pub top-zero : (x1 x2 : ℤ) (k : ℕ) (t out map : List ℕ) (r : Answer) (map' : List ℕ) → k ≡ 0 → table_sized (length t) ≡ true → eqb (length map) 512 ≡ true → NoneGiven t map r map'
    → TopPost x1 x2 k t out map r out map'
top-zero x1 x2 k t out map r map' z e f =
    ⊎_elim
    (λ (g : (header_ok (length t) (head_of t) ≡ false) × (r ≡ answer 3 0) × (map' ≡ map)).
    subst (λ (m : List ℕ). TopPost x1 x2 k t out map r out m) (sym g.2) (top-broken x1 x2 k t out map e f r (broken-head t x1 x2 k g.0) g.1))
    (λ (g : (header_ok (length t) (head_of t) ≡ true) × (r ≡ answer 0 0) × (map' ≡ read_map [])).
    subst (λ (i : ℕ). TopPost x1 x2 i t out map r out map') (sym z)
    (top-given x1 x2 0 t out map e f r 0 out map' (done_none x1 x2 t g.0) (λ b i. absurd (Memᴰ.not-nil i)) refl (omega arith) g.1 refl g.2))

-- a query made of numbers as the machine holds them
pub top-asks : (x1 x2 a b : ℤ) (y : ℕ) (q : Query) → a ≡ x1 → b ≡ x2 → q ≡ top_query a b y → q ≡ top_query x1 x2 y
top-asks x1 x2 a b y q e f h = rw (e, f) at h

-- the map of a Top that reads block 0 alone
pub map-none : set_bit (replicate 512 0) 0 ≡ read_map []
map-none = marks-make [] (λ b i. absurd (Memᴰ.not-nil i))
