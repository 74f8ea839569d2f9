-- `catalogue::pair_at` meets its contract: the loop's invariant: no two before the i-th were ended by p.
use mathlib.Core.Path.{◌≡◌, sym, ap, ap₂, ◌∙◌}
use mathlib.Core.List.{List}
use Prim.Native.Nat.{ℕ, ◌+◌, ◌<◌}
use native.Mathlib.Omega.{arith}
use lib.ListN.{length, get_or}
use Rattle.catalogue.specs.declared.Entry.{Entry}
use Rattle.catalogue.specs.Catalogue.{ended_both, tile_entry_at}
use Rattle.catalogue.specs.Rows.{held}
use Rattle.catalogue.proofs.Rows.{pair_end, pair-here, pair-on, held-length, held_at}
use Rattle.catalogue.proofs.pair_at.Goals as goal
use Rattle.catalogue.proofs.pair_at.Goals.{After-ended_both}

-- whether p ended both
module _ (c : After-ended_both) where
  abbrev row : List ℕ
  row = held c.args.row

  abbrev i : ℕ
  i = c.loop-i.i

  abbrev e : ℕ → Entry
  e = tile_entry_at c.args.s.now

  both : c.ended_both.result ≡ ended_both c.args.p (e (get_or row i 0)) (e (get_or row (i + 1) 0))
  both =
      c.ended_both.ensures
      ∙ ap₂ (ended_both c.args.p) (c.entry_at-x.ensures ∙ ap e (sym (held_at c.args.row i (omega arith))))
      (c.entry_at-y.ensures ∙ ap e (sym (held_at c.args.row (i + 1) (omega arith))))

  inside : i + 1 < length row
  inside = omega (arith, held-length c.args.row c.requires.0)

pub returns-then-ended_both : goal.returns-then-ended_both
returns-then-ended_both c =
    let t = (goal.at.returns-then-ended_both c).After-ended_both in
    (pair-here (e t) c.args.p (row t) (i t) (inside t) c.loop-i.invariant (sym (both t) ∙ c.if-ended_both.true), omega arith)

pub loop-i-preserved : goal.loop-i-preserved
loop-i-preserved c =
    let t = (goal.at.loop-i-preserved c).After-ended_both in
    pair-on (e t) c.args.p (row t) (i t) (inside t) c.loop-i.invariant (sym (both t) ∙ c.if-ended_both.false)

pub returns : goal.returns
returns c =
    let l = c.loop-i in
    let last = pair_end (tile_entry_at c.args.s.now) c.args.p (held c.args.row) l.i l.invariant (omega (arith, held-length c.args.row c.requires.0)) in
    omega (arith, last)
