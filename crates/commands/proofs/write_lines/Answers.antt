-- `commands::write_lines` meets its contract. The loop's invariant: the lines of the first i spots are written.
use mathlib.Core.Path.{◌≡◌, subst, ◌∙◌}
use mir.Syntax.{w32}
use mir.ValLaws.{to_z-of_z}
use Prim.Native.Nat.{ℕ, ◌*◌}
use native.Mathlib.Omega.{arith}
use Rattle.sort.proofs.Limits.{limits-at}
use Rattle.text.specs.Written.{Wrote}
use Rattle.commands.specs.Printed.{lines_of}
use Rattle.commands.proofs.Lines.{start, next}
use Rattle.commands.proofs.write_lines.Goals as goal

pub loop-i-init : goal.loop-i-init
loop-i-init c = (omega arith, start c.args.out.now c.args.output.now c.args.at (omega (arith, c.requires.2)))

pub read_spot-s-requires : goal.read_spot-s-requires
read_spot-s-requires c =
    (omega arith, limits-at c.args.output.now c.args.n c.requires.1 c.loop-i.i c.loop-i-test.true)

pub loop-i-preserved : goal.loop-i-preserved
loop-i-preserved c =
    let spot = c.read_spot-s in
    let place = c.place_of-place in
    let rank = c.rank_in-rank in
    let o = c.args.output.now in (
      omega arith,
      next spot.result o c.loop-i.i c.loop-i.invariant.1 c.write_spot_line-end.ensures
          (to_z-of_z w32 place.result (record { sfits = place.type_inv }) ∙ place.ensures)
          (to_z-of_z w32 rank.result (record { sfits = rank.type_inv }) ∙ rank.ensures)
          spot.ensures.0,
    )

pub returns : goal.returns
returns c =
    let a = c.args in
    let l = c.loop-i in
    let e : l.i ≡ a.n = omega arith in
    subst (λ (k : ℕ). Wrote a.out.now l.out a.at (35 * k) (lines_of a.output.now k) l.end) e l.invariant.1
