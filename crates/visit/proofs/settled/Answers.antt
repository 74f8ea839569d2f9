-- `visit::settled` meets its contract: a node with no inserts and no deletes has no change waiting.
use mathlib.Core.Path.{ap, ◌∙◌}
use Rattle.block.proofs.Frames.{part-is}
use Rattle.block.specs.Access.{front_of}
use Rattle.visit.proofs.Runs.{runs_of, waiting_none}
use Rattle.visit.proofs.settled.Goals as goal

pub returns : goal.returns
returns c =
    let s = c.requires in
    let a = c.args in
    waiting_none a.t.now a.b c.front_of-h.result (runs_of a.t.now a.b s (c.front_of-h.ensures.0 ∙ ap front_of (part-is a.t.now a.b))) s.inside
