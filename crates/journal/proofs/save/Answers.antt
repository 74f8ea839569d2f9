-- `journal::save` meets its contract: a block that is marked is kept already; another is copied and marked.
use mathlib.Core.Path.{◌≡◌, sym, ◌∙◌}
use mathlib.Core.Bool.{false}
use native.Mathlib.Omega.{arith}
use Rattle.octets.specs.Bitmap.{bit}
use Rattle.octets.proofs.Bits.{set_bit-same}
use Rattle.journal.proofs.Kept.{kept_refl, kept-save}
use Rattle.journal.proofs.save.Goals as goal

pub returns-then-kept : goal.returns-then-kept
returns-then-kept c = (kept_refl, sym c.test_bit-kept.ensures ∙ c.if-kept.true)

pub returns : goal.returns
returns c =
    let a = c.args in
    let u = c.requires.0 in
    let m = a.map.now in
    let clear : bit m a.b ≡ false = sym c.test_bit-kept.ensures ∙ c.if-kept.false in (
      rw (c.copy_block.ensures, c.set_bit.ensures) (kept-save a.t.now a.s.now m u a.b c.requires.1 clear),
      rw c.set_bit.ensures (set_bit-same m a.b (omega (arith, u.mapped, u.most))),
    )
