-- `table::top_size` meets its contract: what Top gives is told, or found by the search.
use Rattle.table.proofs.Sizing.{count-told, run_broken, run-held, run-sized}
use Rattle.table.proofs.top_size.Goals as goal

pub returns-in-Some : goal.returns-in-Some
returns-in-Some c = count-told _ c.in-Some.ensures

pub top_run-requires : goal.top_run-requires
top_run-requires c =
    let p = c.requires in
    record { x1 = p.x1; x2 = p.x2; asks = p.asks; sized = p.sized; clear = c.in_default.ensures.clear; some = p.some; fits = p.fits }

pub returns-in_err-found : goal.returns-in_err-found
returns-in_err-found c = rw c.from_residual.ensures (run_broken c.in_err-found.ensures)

pub returns-then-found-le512 : goal.returns-then-found-le512
returns-then-found-le512 c = run-held c.in_ok-found.ensures c.if-found-le512.true

pub returns : goal.returns
returns c = run-sized c.in_ok-found.ensures
