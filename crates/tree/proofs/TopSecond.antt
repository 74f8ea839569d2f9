-- A higher least rank reads fewer blocks; so Top, too, follows the second-table rule.
-- Assumes nothing.
use mathlib.Core.Path.{◌≡◌, refl, ap, sym, ◌∙◌}
use mathlib.Core.Logic.{⊎_elim}
use mathlib.Core.Bool.{true, false}
use mathlib.Core.List.Memᴰ
use mathlib.Core.List.{List, Memᴰ}
use Prim.Native.Nat.{ℕ, zero, suc, ◌≤◌}
use native.Mathlib.Nat.{le_refl}
use native.Mathlib.Omega.{arith}
use lib.ListN.{length}
use lib.IntN.{ℤ}
use borrow.Author.Tests.{leb-true, le-leb}
use Rattle.octets.specs.Bitmap.{bit}
use Rattle.octets.proofs.Tests.{all-at, all_cons, all_nil, keep-mem, keep-there}
use Rattle.octets.proofs.UpTo.{largest-same}
use Rattle.spot.specs.Keys.{rank_of, word}
use Rattle.spot.specs.declared.Query.{Query}
use Rattle.spot.specs.Query.{top_query, from_of, last_of, least_of}
use Rattle.spot.proofs.Places.{meets-same, top_from, top-last, top_least}
use Rattle.block.specs.Node.{Store, store_of}
use Rattle.block.specs.Table.{block}
use Rattle.block.specs.Header.{head_of}
use Rattle.block.specs.declared.Asked.{Asked}
use Rattle.block.specs.declared.Asked.TheVariants.{Root, Child}
use Rattle.block.proofs.Frames.{head-same}
use Rattle.tree.specs.Part.{Part, children, whole}
use Rattle.tree.specs.Walk.{Walk, broken, walked, blocks_read, is_broken, topped, admits, walk_table}
use Rattle.tree.specs.Top.{top_walk, enough, best, threshold, top_table}
use Rattle.tree.specs.ReadMap.{read_map}
use Rattle.tree.specs.Sound.{sound}
use Rattle.tree.specs.Trace.{admitted, visits}
use Rattle.tree.proofs.Gather.{gather-mem, gather-in}
use Rattle.tree.proofs.Onto.{mem-onto, onto-mem}
use Rattle.tree.proofs.Marks.{zero-marked}
use Rattle.tree.proofs.Sources.{read-marked}
use Rattle.tree.proofs.Second.{table-second}
use Rattle.tree.proofs.Bound.{table-reads}
use Rattle.tree.proofs.Tables.{report-finds}

-- a query that asks for a higher rank, of the same places
abbrev Higher : Query → Query → Type 0
Higher r q = (from_of r ≡ from_of q) × (last_of r ≡ last_of q) × (least_of q ≤ least_of r)

higher : (x1 x2 : ℤ) (y z : ℕ) → y ≤ z → Higher (top_query x1 x2 z) (top_query x1 x2 y)
higher x1 x2 y z h = (
  top_from x1 x2 z ∙ sym (top_from x1 x2 y),
  top-last x1 x2 z ∙ sym (top-last x1 x2 y),
  omega (arith, top_least x1 x2 y, top_least x1 x2 z),
)

topped-less : (r q : Query) → Higher r q → (a : Asked) → topped r a ≡ true → topped q a ≡ true
unfolding topped
topped-less r q h (Root b) e = refl
topped-less r q h (Child e) t = all_cons _ _ (all-at _ t 0) (all_cons _ _ (le-leb (least_of q) (rank_of e.top) (omega (arith, h.2, leb-true (least_of r) (rank_of e.top) (all-at _ t 1)))) all_nil)

admits-less : (r q : Query) → Higher r q → (c : Part) → admits r c ≡ true → admits q c ≡ true
unfolding admits
admits-less r q h c e =
    all_cons _ _ (topped-less r q h c.asked (all-at _ e 0)) (all_cons _ _ (sym (meets-same r q h.0 h.1 c.lo c.hi) ∙ all-at _ e 1) all_nil)

-- it reads no other blocks
visits-less : (l : ℕ) (m : Store) (r q : Query) → Higher r q → (p : Part) {b : ℕ} → Memᴰ b (visits l m r p) → Memᴰ b (visits l m q p)
unfolding visits
visits-less zero m r q h p k = k
visits-less (suc l) m r q h p k =
    ⊎_elim (λ e. Memᴰ.head e)
    (λ j.
    let g = gather-mem (visits l m r) (admitted r m p) j in
    let i = keep-mem (admits r) (children p (m p.block)) g.1 in
    Memᴰ.tail
    (gather-in (visits l m q) (admitted q m p) g.0 (keep-there (admits q) (children p (m p.block)) i.0 (admits-less r q h g.0 i.1))
    (visits-less l m r q h g.0 g.2)))
    (Memᴰ.cases_cons k)

module _ (t : List ℕ) (s : sound t ≡ true) (x1 x2 : ℤ) where
  unfoldable pub W : ℕ → Walk
  W y = walk_table t (top_query x1 x2 y)

  W-whole : (y : ℕ) → is_broken (W y) ≡ false
  unfolding W
  W-whole y = ap is_broken (report-finds t s (top_query x1 x2 y)).1

  -- a higher rank reads no other blocks
  pub W-sub : (y z : ℕ) → y ≤ z → (b : ℕ) → Memᴰ b (blocks_read (W z)) → Memᴰ b (blocks_read (W y))
  unfolding W
  W-sub y z h b k =
      rw (table-reads t s (top_query x1 x2 y))
      (onto-mem _ (visits-less (head_of t).levels (store_of t) (top_query x1 x2 z) (top_query x1 x2 y) (higher x1 x2 y z h) (whole (head_of t)) (mem-onto _ (rw (table-reads t s (top_query x1 x2 z)) at k))))

  -- the best spots of a walk are chosen from what it found: the blocks read stay
  pub best-blocks : (k : ℕ) (w : Walk) → blocks_read (best k w) ≡ blocks_read w
  best-blocks k broken = refl
  best-blocks k (walked found blocks) = refl

  module _ (u : List ℕ) (n : length u ≡ length t) where
    -- agreement on the blocks read at rank y is agreement at every higher rank
    same_above : (y : ℕ) → ((b : ℕ) → bit (read_map (blocks_read (W y))) b ≡ true → block u b ≡ block t b) → (z : ℕ) → y ≤ z
        → walk_table u (top_query x1 x2 z) ≡ W z
    unfolding W
    same_above y a z h =
        table-second t u (top_query x1 x2 z) n (a 0 (zero-marked _)) (W-whole z) (λ b k. a b (read-marked t (top_query x1 x2 y) b (W-sub y z h b k)))

    -- the walk of Top, and so what it gives, are the same
    pub top-walk-second : (k : ℕ) → ((b : ℕ) → bit (read_map (blocks_read (top_table t x1 x2 k))) b ≡ true → block u b ≡ block t b) → top_walk u x1 x2 k ≡ top_walk t x1 x2 k
    unfolding top_table top_walk threshold W
    top-walk-second zero a = rw (n, head-same t u n (a 0 (zero-marked _)))
    top-walk-second (suc k) a =
        let y = threshold t x1 x2 (suc k) in
        let same = same_above y (λ b h. a b (rw (best-blocks (suc k) (W y)) h)) in
        let e = largest-same (λ z. enough (suc k) (W z)) (λ z. enough (suc k) (walk_table u (top_query x1 x2 z))) word (λ z h. ap (enough (suc k)) (same z h)) in
        ap (λ (z : ℕ). walk_table u (top_query x1 x2 z)) e ∙ same y (le_refl y)

    pub top-second : (k : ℕ) → ((b : ℕ) → bit (read_map (blocks_read (top_table t x1 x2 k))) b ≡ true → block u b ≡ block t b) → top_table u x1 x2 k ≡ top_table t x1 x2 k
    unfolding top_table
    top-second k a = ap (best k) (top-walk-second k a)
