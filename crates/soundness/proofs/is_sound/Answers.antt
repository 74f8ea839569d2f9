-- `soundness::is_sound` meets its contract: block 0, the tree and its map, then the count of live spots.
use mathlib.Core.Path.{sym, ◌∙◌}
use Rattle.visit.proofs.Roots.{sized-long}
use Rattle.query.proofs.Whole.{counted-as}
use Rattle.soundness.proofs.Sums.{no_header, no-shape, count-decides, no-broken}
use Rattle.soundness.proofs.is_sound.Goals as goal

pub header_ok-requires : goal.header_ok-requires
header_ok-requires c = sized-long c.args.t.now c.requires

pub returns-then-not-header_ok : goal.returns-then-not-header_ok
returns-then-not-header_ok c = no_header c.args.t.now (sym c.header_ok.ensures ∙ c.if-not-header_ok.true)

pub returns-then-not-tree_ok : goal.returns-then-not-tree_ok
returns-then-not-tree_ok c = no-shape c.args.t.now (sym c.tree_ok.ensures ∙ c.if-not-tree_ok.true)

pub bound_of-requires : goal.bound_of-requires
bound_of-requires c =
    sized-long c.args.t.now c.requires

pub returns-in-Some : goal.returns-in-Some
returns-in-Some c =
    count-decides c.args.t.now (sym c.header_ok.ensures ∙ c.if-not-header_ok.false) (sym c.tree_ok.ensures ∙ c.if-not-tree_ok.false) (counted-as c.everything-everything.ensures c.in-Some.ensures)
    c.bound_of.ensures.0

pub returns-in-None : goal.returns-in-None
returns-in-None c =
    absurd (no-broken c.args.t.now (sym c.header_ok.ensures ∙ c.if-not-header_ok.false) (sym c.tree_ok.ensures ∙ c.if-not-tree_ok.false) (counted-as c.everything-everything.ensures c.in-None.ensures))
