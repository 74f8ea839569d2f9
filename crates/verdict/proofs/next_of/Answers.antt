-- `verdict::next_of` meets its contract: from what is known of the key.
use lib.ListN.{length, take}
use native.Mathlib.Omega.{arith}
use Rattle.std.proofs.lemmas.Result.{err_from_is_err_and}
use Rattle.verdict.proofs.Turns.{most-few, next-is, next-broken}
use Rattle.verdict.proofs.next_of.Goals as goal

pub returns-in_err-there : goal.returns-in_err-there
returns-in_err-there c =
    let p = err_from_is_err_and c.from_residual.result c.from_residual.ensures.1 in
    next-broken c.args.table.now (take c.args.r c.args.rows.now) c.args.x c.args.live (rw (p.1, p.2)) c.in_err-there.ensures

pub next_live-requires : goal.next_live-requires
next_live-requires c =
    omega (arith, most-few (length c.args.table.now) c.requires.0, c.capacity_of-most.ensures)

pub returns : goal.returns
returns c =
    next-is c.args.table.now (take c.args.r c.args.rows.now) c.args.x c.args.live c.next_live.ensures c.capacity_of-most.ensures c.is_some.ensures c.in_ok-there.ensures
