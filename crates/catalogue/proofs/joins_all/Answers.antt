-- `catalogue::joins_all` meets its contract: the invariant: the fused blocks that are left have the whole's answer from the row that stands.
use mathlib.Core.Path.{◌≡◌, sym, ap, ◌∙◌}
use Prim.Native.Nat.{◌+◌, ◌≤◌, ◌<◌}
use native.Mathlib.Omega.{arith}
use Rattle.catalogue.specs.declared.Entry.{Entry}
use Rattle.catalogue.specs.Catalogue.{tile_entry_at}
use Rattle.catalogue.specs.Rows.{Numbered, held, pair_at}
use Rattle.catalogue.proofs.Rows.{fused-first, fused-fails, fused-passes, fused-none, joins-short, joined-here}
use Rattle.catalogue.proofs.joins_all.Goals as goal
use Rattle.catalogue.proofs.joins_all.Goals.{In-loop-b, In-Some}

pub loop-b-init : goal.loop-b-init
loop-b-init c =
    let a = c.args in
    (omega arith, c.first_row-row.ensures.0, fused-first (tile_entry_at a.s.now) a.m a.l (held c.first_row-row.result) c.first_row-row.ensures.1)

-- what is known in a turn
module _ (c : In-loop-b) where
  more : c.loop-b.b < c.args.m
  more = omega arith

  numbered : Numbered c.loop-b.b
  numbered = (c.loop-b.invariant.0, omega (arith, c.requires.0))

-- and of the place of the pair
paired : (c : In-Some)
    → c.in-Some.i ≡ pair_at (tile_entry_at c.args.s.now) (tile_entry_at c.args.s.now c.loop-b.b).made (held c.loop-b.row)
paired c =
    c.in-Some.ensures.0 ∙ ap (λ (x : Entry). pair_at (tile_entry_at c.args.s.now) x.made (held c.loop-b.row)) c.entry_at.ensures

-- no two side by side
pub returns-in_default : goal.returns-in_default
returns-in_default c =
    let l = c.loop-b in
    let e = tile_entry_at c.args.s.now in
    let none : l.row.n ≤ pair_at e (e l.b).made (held l.row) + 1 = rw c.entry_at.ensures at c.in_default.ensures in
    sym (l.invariant.2 ∙ fused-fails e c.args.m l.b (held l.row) (omega arith) (joins-short e l.b l.row l.invariant.1 none))

pub joins-requires : goal.joins-requires
joins-requires c =
    let p = goal.at.joins-requires c in
    (c.loop-b.invariant.1, numbered p.In-loop-b, c.requires.2, c.in-Some.ensures.1, paired p.In-Some)

pub returns-then-not-joins : goal.returns-then-not-joins
returns-then-not-joins c =
    let l = c.loop-b in
    let e = tile_entry_at c.args.s.now in
    sym (l.invariant.2 ∙ fused-fails e c.args.m l.b (held l.row) (omega arith) (sym c.joins.ensures ∙ c.if-not-joins.true))

pub loop-b-preserved : goal.loop-b-preserved
loop-b-preserved c =
    let l = c.loop-b in
    let e = tile_entry_at c.args.s.now in (
      omega arith,
      c.joined-row.ensures.0,
      l.invariant.2
          ∙ fused-passes e c.args.m l.b (held l.row) (omega arith) (held c.joined-row.result) (sym c.joins.ensures ∙ c.if-not-joins.false)
          (c.joined-row.ensures.1 ∙ joined-here e l.b l.row l.invariant.1 c.in-Some.i (paired (goal.at.loop-b-preserved c).In-Some) c.in-Some.ensures.1),
    )

pub returns : goal.returns
returns c =
    let l = c.loop-b in
    let a = c.args in
    sym (l.invariant.2 ∙ fused-none (tile_entry_at a.s.now) a.m l.b (held l.row) (omega arith))
