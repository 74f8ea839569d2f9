-- `node::write_unless` meets its contract: by the test.
use mathlib.Core.Path.{◌∙◌}
use native.Mathlib.Omega.{arith}
use Rattle.node.specs.Bytes.{bytes_unless}
use Rattle.spot.proofs.PutBytes.{key-bytes}
use Rattle.node.proofs.Put.{unused-bytes}
use Rattle.node.proofs.Fits.{key_fits_lem}
use Rattle.node.proofs.write_unless.Goals as goal

pub returns-then-unused : goal.returns-then-unused
unfolding bytes_unless
returns-then-unused c =
    let a = c.args in
    (rw c.if-unused.true (unused-bytes a.s.now a.at a.k c.requires c.write32.ensures c.write32-then-unused.ensures), key_fits_lem a.k (omega (arith, c.ranges.k)))

pub returns : goal.returns
unfolding bytes_unless
returns c =
    let a = c.args in
    (rw c.if-unused.false (c.write_key.ensures ∙ key-bytes a.s.now a.at a.k c.requires), key_fits_lem a.k (omega (arith, c.ranges.k)))
