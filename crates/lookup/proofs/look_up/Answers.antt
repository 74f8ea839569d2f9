-- `lookup::look_up` meets its contract: block 0, then the lookup from the root.
use mathlib.Core.Path.{sym, ◌∙◌}
use Rattle.tree.proofs.Sources.{header-few}
use Rattle.visit.proofs.Roots.{sized-long, root-low, levels-some, levels-few, levels-are, root-part}
use Rattle.lookup.proofs.Steps.{no_header, from-root}
use Rattle.lookup.proofs.look_up.Goals as goal

pub header_ok-requires : goal.header_ok-requires
header_ok-requires c =
    sized-long c.args.t.now c.requires

pub root_of-root-requires : goal.root_of-root-requires
root_of-root-requires c =
    sized-long c.args.t.now c.requires

pub levels_of-level-requires : goal.levels_of-level-requires
levels_of-level-requires c =
    sized-long c.args.t.now c.requires

pub overflow_sub-level : goal.overflow_sub-level
overflow_sub-level c =
    let o = sym c.header_ok.ensures ∙ c.if-header_ok.true in
    levels-some c.args.t.now o c.root_of-root.ensures.0 c.levels_of-level.ensures.0

pub look_in-requires : goal.look_in-requires
look_in-requires c =
    let t = c.args.t.now in
    let o = sym c.header_ok.ensures ∙ c.if-header_ok.true in
    record {
      inside = root-low t o c.root_of-root.ensures.0 c.levels_of-level.ensures.0;
      blocks = header-few t o;
      deep = levels-few t o c.root_of-root.ensures.0 c.levels_of-level.ensures.0;
    }

pub returns-then-header_ok : goal.returns-then-header_ok
returns-then-header_ok c =
    let t = c.args.t.now in
    let o = sym c.header_ok.ensures ∙ c.if-header_ok.true in
    from-root t c.args.k o (levels-are t o c.root_of-root.ensures.0 c.levels_of-level.ensures.0)
    (root-part t c.root_span.result c.root_of-root.ensures.0 c.root_span.ensures.0 c.root_span.ensures.1)
    c.look_in.ensures

pub returns : goal.returns
returns c =
    no_header c.args.t.now c.args.k (sym c.header_ok.ensures ∙ c.if-header_ok.false)
