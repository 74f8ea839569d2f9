-- `visit::keep_key` meets its contract: the key is written, and counted if it lies in the range.
use mathlib.Core.Bool.{◌&&◌}
use native.Mathlib.Omega.{arith}
use lib.Dec.{leb}
use Rattle.visit.proofs.Gathering.{kept-key}
use Rattle.visit.proofs.Search.{byte-most}
use Rattle.visit.proofs.keep_key.Goals as goal

pub returns : goal.returns
returns c =
    let a = c.args in
    (kept-key a.list.now a.c a.k a.lo a.last (omega arith), omega (arith, byte-most (leb a.lo a.k && leb a.k a.last)))
