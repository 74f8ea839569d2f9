-- `block::bound_of` meets its contract: a number of block 0 stands at the same place of the table.
use mathlib.Core.Path.{sym, ◌∙◌}
use native.Mathlib.Omega.{arith}
use Rattle.block.specs.Header.{head_of, header_of}
use Rattle.block.proofs.Heads.{head-number}
use Rattle.block.proofs.bound_of.Goals as goal

pub returns : goal.returns
unfolding head_of header_of
returns c =
    let t = c.args.t.now in
    (c.read32.ensures.0 ∙ sym (head-number 4 t 8 (omega arith)), c.read32.ensures.1)
