-- `spare::spare_blocks` meets its contract: the map copied, and what is clear in it.
use Rattle.spare.proofs.Finding.{copied, map-inside, spare-in}
use Rattle.block.proofs.Facts.{head-facts}
use borrow.Author.Rules.{rules}
use Rattle.spare.proofs.spare_blocks.Goals as goal

pub slice_bounds-copy-end : goal.slice_bounds-copy-end
slice_bounds-copy-end c = map-inside c.args.t.now c.requires

pub find_clear-requires : goal.find_clear-requires
find_clear-requires c = (search rules, (head-facts _ _ c.requires).blocks-most)

pub returns : goal.returns
returns c =
    spare-in c.args.t.now c.copy.new.to _ c.requires (copied c.args.t.now _ c.copy.ensures) c.find_clear.ensures
