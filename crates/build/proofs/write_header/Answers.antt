-- `build::write_header` meets its contract: block 0 put in, every other block as it was.
use borrow.Rule.Slice.PartMut.{mid_len}
use Rattle.block.proofs.Making.{sized-most, sized-least}
use Rattle.build.proofs.Head.{header-written}
use Rattle.block.proofs.Frames.{put-part-is}
use lib.ListN.{length}
use mathlib.Core.Path.{◌∙◌}
use native.Mathlib.Omega.{arith}
use Rattle.build.proofs.write_header.Goals as goal

pub write_head-requires : goal.write_head-requires
write_head-requires c = let t = c.args.t.now in omega (arith, sized-most (length t) c.requires.sized, c.write_head-arg-1.given)

pub returns : goal.returns
returns c =
    let t = c.args.t.now in
    let s = c.write_head.new.s in
    header-written t _ s _ _ _ c.requires (c.write_head.auto.s ∙ mid_len 0 2048 t (omega (arith, sized-least (length t) c.requires.sized))) c.write_head.ensures (put-part-is t 0 s)
