-- `commands::obey` meets its contract: the command of the line, carried out with as much of the output as has room in the text.
use native.Mathlib.Omega.{arith}
use Rattle.std.specs.Prelude.{Some}
use Rattle.commands.proofs.Telling.{room-printable, obeyed, obeyed-none, not-obeyed}
use Rattle.commands.proofs.obey.Goals as goal

pub returns-then-out-lt13 : goal.returns-then-out-lt13
returns-then-out-lt13 c = not-obeyed _ _ _ _ _ _ c.if-out-lt13.true

pub returns-in_default : goal.returns-in_default
returns-in_default c =
    obeyed-none _ _ _ _ _ _ _ _ (omega arith) c.in_default.ensures c.write_refusal_line.ensures

pub carry_out-requires : goal.carry_out-requires
carry_out-requires c =
    room-printable c.args.output.now _ c.room_for-end.result c.room_for-end.ensures.0 c.room_for-end.ensures.1 (omega arith)

pub returns : goal.returns
returns c =
    let did = c.carry_out in
    let room = c.room_for-end in
    let parse = c.in-Some in
    let o = c.args.output.now in
    let long = c.if-out-lt13.false in
    obeyed _ _ _ o _ _ _ _ did.new.output _ _ _ room.result (Some parse.c) (omega arith) room.ensures.0 room.ensures.1 did.auto.output
    parse.ensures
    did.ensures
