-- `text::number` meets its contract. The invariant: the number so far, with the digits that are left, is the number of all.
use mathlib.Core.Path.{ap, ◌∙◌}
use Prim.Native.Nat.{ℕ, ◌+◌, ◌*◌, ◌%◌}
use native.Mathlib.Omega.{arith}
use lib.ListN.{drop}
use Rattle.text.specs.Reading.{value}
use Rattle.text.proofs.Scans.{value-next, value-end}
use Rattle.text.proofs.number.Goals as goal

pub loop-b-preserved : goal.loop-b-preserved
loop-b-preserved c =
    let w = c.args.w.now in
    let l = c.loop-b in (
      omega arith,
      ap (λ (d : ℕ). value ((10 * l.n + d) % 4294967296) (drop (l.b-index + 1) w)) c.saturating_sub.ensures
          ∙ value-next w l.b-index l.n c.loop-b-test.true
          ∙ l.invariant.1,
    )

pub returns : goal.returns
returns c =
    let l = c.loop-b in
    (value-end c.args.w.now l.b-index l.n (omega arith) ∙ l.invariant.1, l.invariant.0)
