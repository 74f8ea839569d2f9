-- `spot::placed` meets its contract.
use Rattle.std.proofs.Common.{ℕ, ◌+◌, ◌%◌, sym, ap, ◌∙◌, arith}
use Rattle.spot.specs.Keys.{all_keys}
use Rattle.spot.proofs.Places.{counted-on}
use Rattle.spot.proofs.placed.Goals as goal

pub returns : goal.returns
returns c =
    let from = c.from_key-from in
    let last = c.last_key in
    let key = c.wrapping_sub_u64 in
    let end = c.wrapping_sub_u64-2 in
    counted-on c.args.q c.args.k key.result end.result c.ranges.k.fits (omega (arith, from.ensures, from.type_inv)) (omega (arith, last.ensures, last.type_inv))
    key.type_inv
    end.type_inv
    (ap (λ (x : ℕ). (key.result + x) % all_keys) (sym from.ensures) ∙ key.ensures.value)
    (ap (λ (x : ℕ). (end.result + x) % all_keys) (sym from.ensures) ∙ end.ensures.value ∙ last.ensures)
