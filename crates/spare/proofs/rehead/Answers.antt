-- `spare::rehead` meets its contract: block 0 put in, every other block as it was.
use Rattle.spare.proofs.Heading.{taken-fits, table-long, root-small, bound-small, levels-small, head_bytes, reheaded}
use Rattle.block.proofs.Frames.{put-part-is}
use borrow.Rule.Slice.PartMut.{mid_len}
use mathlib.Core.Path.{◌∙◌}
use Rattle.spare.proofs.rehead.Goals as goal

pub slice_bounds-turn_head-end : goal.slice_bounds-turn_head-end
slice_bounds-turn_head-end c = table-long _ _ _ _ _ _ c.requires

pub turn_head-requires : goal.turn_head-requires
turn_head-requires c =
    let t = c.args.t.now in
    let p = c.requires in
    (mid_len 0 2048 t (table-long _ _ _ _ _ _ p), taken-fits _ _ _ _ _ _ p, levels-small _ _ _ _ _ _ p, root-small _ _ _ _ _ _ p, bound-small _ _ _ _ _ _ p)

pub returns : goal.returns
returns c =
    let t = c.args.t.now in
    let p = c.requires in
    let s = c.turn_head.new.head in
    reheaded t _ _ _ _ _ p _ s (c.turn_head.auto.head ∙ mid_len 0 2048 t (table-long _ _ _ _ _ _ p)) (head_bytes _ _ _ _ _ _ p s c.turn_head.ensures) (put-part-is t 0 s)
