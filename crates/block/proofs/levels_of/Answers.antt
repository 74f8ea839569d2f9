-- `block::levels_of` meets its contract: a number of block 0 stands at the same place of the table.
use mathlib.Core.Path.{sym, ◌∙◌}
use native.Mathlib.Omega.{arith}
use Rattle.octets.proofs.Bytes.{be-one}
use Rattle.block.specs.Header.{head_of, header_of}
use Rattle.block.proofs.Heads.{head-number}
use Rattle.block.proofs.levels_of.Goals as goal

pub returns : goal.returns
unfolding head_of header_of
returns c =
    let t = c.args.t.now in
    (c.count_at.ensures.0 ∙ sym (head-number 1 t 5 (omega arith) ∙ be-one t 5), c.count_at.ensures.1)
