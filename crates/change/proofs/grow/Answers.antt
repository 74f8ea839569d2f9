-- `change::grow` meets its contract.
use Rattle.std.proofs.lemmas.Result.{err_from_is_err_and}
use Rattle.journal.proofs.Kept.{kept_trans}
use Rattle.change.proofs.Settles.{grow-fails, grow-one, grow-crowns, grow-two}
use Rattle.change.proofs.grow.Goals as goal

pub returns-in_err-r : goal.returns-in_err-r
returns-in_err-r c =
    let r = err_from_is_err_and c.from_residual.result c.from_residual.ensures.1 in
    rw (r.1, r.2) (record { kept = c.settle.ensures.kept; grown = grow-fails c.in_err-r.ensures.settled })

pub returns-in-None : goal.returns-in-None
returns-in-None c =
    let k = c.settle.ensures.kept in
    record { kept = k; grown = grow-one c.requires k c.in_ok-r.ensures.settled c.in-None.is }

pub new_root-requires : goal.new_root-requires
new_root-requires c = grow-crowns c.requires c.settle.ensures.kept c.in_ok-r.ensures.settled c.in-Some.second c.in-Some.is

pub returns-in-Some : goal.returns-in-Some
returns-in-Some c =
    let k = c.settle.ensures.kept in
    let g = c.new_root.ensures in
    record { kept = kept_trans k g.kept; grown = grow-two c.requires k c.in_ok-r.ensures.settled c.in-Some.second c.in-Some.is _ _ g.crowned }
