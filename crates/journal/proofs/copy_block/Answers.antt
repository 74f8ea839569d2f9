-- `journal::copy_block` meets its contract: the part that is lent becomes the bytes of the other's block, and comes back as a block put in.
use mathlib.Core.Path.{ap, ◌∙◌}
use Prim.Native.Nat.{◌+◌, ◌*◌, ◌-◌}
use borrow.Rule.Slice.PartMut.{put_mid}
use Rattle.journal.proofs.Kept.{copied_is}
use Rattle.journal.proofs.copy_block.Goals as goal

pub returns : goal.returns
returns c =
    let a = c.args in
    let f = a.b * 2048 in
    ap (put_mid f (f + 2048 - f) a.to.now) c.copy.ensures
    ∙ copied_is a.to.now a.from.now a.b c.requires.0 c.requires.1
