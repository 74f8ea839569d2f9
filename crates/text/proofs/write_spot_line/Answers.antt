-- `text::write_spot_line` meets its contract.
use native.Mathlib.Omega.{arith}
use mir.Syntax.{w32}
use mir.ValLaws.{to_z-of_z}
use Rattle.text.specs.Text.{spot_line}
use Rattle.text.proofs.Printed.{spot-text}
use Rattle.text.proofs.Written.{wrote_then, wrote-within}
use Rattle.text.proofs.write_spot_line.Goals as goal

pub returns : goal.returns
returns c =
    let a = c.args in
    let place = c.write_signed-a.ensures in
    let rank = c.more_signed-b.ensures in
    let track = c.more_number-c.ensures in
    wrote-within 35 (spot_line a.place a.rank a.track) (omega arith)
    (spot-text a.place a.rank a.track (to_z-of_z w32 a.place c.ranges.place) (to_z-of_z w32 a.rank c.ranges.rank))
    (wrote_then (wrote_then (wrote_then place rank) track) c.put_byte.ensures)
