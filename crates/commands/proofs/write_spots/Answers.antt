-- `commands::write_spots` meets its contract.
use Rattle.commands.proofs.Lines.{all}
use Rattle.commands.proofs.write_spots.Goals as goal

pub returns : goal.returns
returns c =
    let s = c.args in
    all s.output.now s.n c.write_count_line-at.ensures c.write_lines.ensures
