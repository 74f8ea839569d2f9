-- `text::put_digits` meets its contract: the digits before the last, and then the last. The number falls.
use mathlib.Core.Path.{sym}
use native.Mathlib.Omega.{arith}
use Rattle.text.specs.Text.{decimal}
use Rattle.text.proofs.Decimal.{decimal-small, decimal-more, length-small, length_more}
use Rattle.text.proofs.Written.{wrote_then, wrote-exact}
use Rattle.text.proofs.+put_digits.Goals as goal

pub put_byte-requires : goal.put_byte-requires
put_byte-requires t c =
    omega (arith, c.requires, length-small c.args.n c.if-n-lt10.true)

pub returns-then-n-lt10 : goal.returns-then-n-lt10
returns-then-n-lt10 t c =
    let n = c.args.n in
    wrote-exact (decimal n) (sym (decimal-small n c.if-n-lt10.true)) c.put_byte.ensures

pub put_digits-p-requires : goal.put_digits-p-requires
put_digits-p-requires t c =
    (omega (arith, c.decreases), omega (arith, c.requires, length_more c.args.n c.if-n-lt10.false c.ranges.n.fits))

pub put_byte-requires-2 : goal.put_byte-requires-2
put_byte-requires-2 t c =
    let w = c.put_digits-p.ensures in
    omega (arith, c.requires, length_more c.args.n c.if-n-lt10.false c.ranges.n.fits, w.behind, w.sized)

pub returns : goal.returns
returns t c =
    let n = c.args.n in
    wrote-exact (decimal n) (sym (decimal-more n c.if-n-lt10.false c.ranges.n.fits))
    (wrote_then c.put_digits-p.ensures c.put_byte-2.ensures)
