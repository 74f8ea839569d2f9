-- `carry::carry_many` meets its contract: the verdict first, then the rows.
use mathlib.Core.Path.{refl}
use Rattle.std.proofs.lemmas.Result.{err_from_is_err_and}
use Rattle.carry.proofs.Carried.{carried-refused, carried-stuck, carried-all}
use Rattle.carry.proofs.carry_many.Goals as goal

pub returns-in_err-r : goal.returns-in_err-r
returns-in_err-r c =
    let p = err_from_is_err_and c.from_residual.result c.from_residual.ensures.1 in
    rw (p.1, p.2) (carried-refused _ _ _ c.in_err-r.ensures)

pub carry_rows-requires : goal.carry_rows-requires
carry_rows-requires c = (c.requires.lent, c.in_ok-r.ensures.lined.rows)

pub returns-then-not-carry_rows : goal.returns-then-not-carry_rows
returns-then-not-carry_rows c = carried-stuck _ _ _ c.in_ok-r.ensures c.carry_rows.ensures c.if-not-carry_rows.true _ refl

pub returns : goal.returns
returns c = carried-all _ _ _ c.in_ok-r.ensures c.carry_rows.ensures c.if-not-carry_rows.false _ refl
