-- The blocks that a walk reads, as a list made by the tree alone: they are reached, and each is read once where each is reached once.
-- Assumes nothing.
use mathlib.Core.Path.{◌≡◌, ap, sym, ◌∙◌}
use mathlib.Core.Logic.{⊎_elim}
use mathlib.Core.Bool.{true, false, true≢false}
use mathlib.Core.List.Memᴰ
use mathlib.Core.List.{List, [], Memᴰ}
use Prim.Native.Nat.{ℕ, zero, suc}
use Rattle.octets.specs.Lists.{distinct}
use Rattle.octets.proofs.Once.{Once, once-distinct, distinct-once}
use Rattle.spot.specs.declared.Spot.{Spot}
use Rattle.spot.specs.declared.Query.{Query}
use Rattle.block.specs.Node.{Store}
use Rattle.tree.specs.Part.{Part, children}
use Rattle.tree.specs.Reach.{reach}
use Rattle.tree.specs.Walk.{Walk, broken, walked, blocks_read, is_broken, admits, walk, once}
use Rattle.tree.specs.Trace.{obeys, visits, gains}
use Rattle.tree.proofs.Gather.{gather-sub, gather-once}
use Rattle.tree.proofs.Onto.{onto, distinct-onto}
use Rattle.tree.proofs.Traces.{walk-traced, walk-trace, whole-blocks}

-- a walk that is whole reads the blocks of `visits`
walk-reads : (l : ℕ) (m : Store) (q : Query) (named : List ℕ) (p : Part) (w : Walk) → is_broken (walk l m q named p w) ≡ false
    → blocks_read (walk l m q named p w) ≡ onto (visits l m q p) (blocks_read w)
walk-reads l m q named p broken h = absurd (true≢false (sym (ap is_broken ((walk-traced l m q named).stays p)) ∙ h))
walk-reads l m q named p (walked found blocks) h = whole-blocks (obeys l m q p) (gains l m q named p found) _ (walk-trace l m q named p found blocks) h

-- blocks read are reached
visits-reach : (l : ℕ) (m : Store) (q : Query) (p : Part) (k : ℕ) → Memᴰ k (visits l m q p) → Memᴰ k (reach l m p)
unfolding visits reach
visits-reach zero m q p k j = j
visits-reach (suc l) m q p k j =
    ⊎_elim (λ e. Memᴰ.head e)
    (λ i. Memᴰ.tail (gather-sub (reach l m) (visits l m q) (visits-reach l m q) (admits q) (children p (m p.block)) k i))
    (Memᴰ.cases_cons j)

-- reached once, so read once
visits-once : (l : ℕ) (m : Store) (q : Query) (p : Part) → Once (reach l m p) → Once (visits l m q p)
unfolding visits reach
visits-once zero m q p a = tt
visits-once (suc l) m q p a = (
  λ k. a.0 (gather-sub (reach l m) (visits l m q) (visits-reach l m q) (admits q) (children p (m p.block)) p.block k),
  gather-once (reach l m) (visits l m q) (visits-reach l m q) (visits-once l m q) (admits q) (children p (m p.block)) a.1,
)

-- a walk that is whole, of a part whose blocks are reached once, stays as it is
pub walk-once : (l : ℕ) (m : Store) (q : Query) (named : List ℕ) (p : Part) (found : List Spot) (blocks : List ℕ) → distinct (reach l m p) ≡ true
    → walk l m q named p (walked [] []) ≡ walked found blocks
    → once (walked found blocks) ≡ walked found blocks
unfolding once
walk-once l m q named p found blocks d e =
    let v = visits l m q p in
    let reads : blocks ≡ onto v [] = ap blocks_read (sym e) ∙ walk-reads l m q named p (walked [] []) (ap is_broken e) in
    let apart : distinct blocks ≡ true = ap distinct reads ∙ distinct-onto v ∙ distinct-once v (visits-once l m q p (once-distinct (reach l m p) d)) in
    rw apart
