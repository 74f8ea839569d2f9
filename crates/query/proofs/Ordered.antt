-- A walk finds its spots in place order, on every table, sound or not: each is put where it belongs. Their places are inside the limits.
-- Assumes nothing.
use mathlib.Core.Path.{◌≡◌, refl, ap, ◌∙◌}
use mathlib.Core.Bool.{Bool, true, false, cond, ◌&&◌}
use mathlib.Core.List.{List, [], ◌∷◌, ◌++◌}
use Prim.Native.Nat.{ℕ, zero, suc}
use lib.ListN.{length}
use Rattle.octets.specs.Lists.{ascends, distinct}
use Rattle.spot.specs.Spots.{keys, put_all}
use Rattle.spot.specs.declared.Spot.{Spot}
use Rattle.spot.specs.declared.Query.{Query}
use Rattle.block.specs.Header.{head_of}
use Rattle.block.specs.Node.{Store, store_of}
use Rattle.block.specs.NodeRules.{names}
use Rattle.block.specs.HeaderRules.{header_ok}
use Rattle.tree.specs.Part.{Part, whole}
use Rattle.tree.specs.Walk.{Walk, broken, walked, finds, spots, walk_table}
use Rattle.tree.specs.Trace.{admitted, obeys, visits, pour, gains}
use Rattle.tree.proofs.Onto.{onto}
use Rattle.tree.proofs.Traces.{table-trace}
use Rattle.tree.proofs.Limited.{walk-limited}
use Rattle.query.specs.Merging.{Orderly}
use Rattle.query.proofs.Puts.{put_all-ascends}

abbrev Ordered : List Spot → Type 0
Ordered ss = ascends 0 (keys ss) ≡ true

pour-ordered : (g : Part → List Spot → List Spot) → ((p : Part) (found : List Spot) → Ordered found → Ordered (g p found))
    → (ps : List Part) (found : List Spot) → Ordered found → Ordered (pour g ps found)
pour-ordered g h [] found o = o
pour-ordered g h (p ∷ ps) found o = pour-ordered g h ps (g p found) (h p found o)

gains-ordered : (l : ℕ) (m : Store) (q : Query) (named : List ℕ) (p : Part) (found : List Spot) → Ordered found → Ordered (gains l m q named p found)
unfolding gains
gains-ordered zero m q named p found o = o
gains-ordered (suc l) m q named p found o =
    pour-ordered (gains l m q (names (m p.block) ++ named)) (gains-ordered l m q (names (m p.block) ++ named)) (admitted q m p)
    (put_all (finds q named (m p.block)) found)
    (put_all-ascends (finds q named (m p.block)) found o)

-- a walk that is broken has none
if-ordered : (ok : Bool) (found : List Spot) (blocks : List ℕ) → Ordered found → Ordered (spots (cond ok (walked found blocks) broken))
if-ordered true found blocks o = o
if-ordered false found blocks o = refl

walk-ascends : (t : List ℕ) (q : Query) → ascends 0 (keys (spots (walk_table t q))) ≡ true
walk-ascends t q =
    let m = store_of t in
    let L = (head_of t).levels in
    let W = whole (head_of t) in
    ap (λ (w : Walk). ascends 0 (keys (spots w))) (table-trace t q)
    ∙ if-ordered (header_ok (length t) (head_of t) && (obeys L m q W && distinct (visits L m q W))) (gains L m q [] W []) (onto (visits L m q W) [])
    (gains-ordered L m q [] W [] refl)

pub walk-order : (t : List ℕ) (q : Query) → Orderly (spots (walk_table t q))
walk-order t q = record { rise = walk-ascends t q; limits = walk-limited t q }
