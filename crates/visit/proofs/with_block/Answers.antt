-- `visit::with_block` meets its contract: the block stands after those before it.
use borrow.Author.Rules.{rules}
use mathlib.Core.Path.{◌≡◌, refl}
use Prim.Native.Nat.{◌<◌}
use native.Mathlib.Omega.{arith}
use lib.ListN.{length}
use Rattle.octets.proofs.Lists.{take-push}
use Rattle.visit.proofs.with_block.Goals as goal

pub returns : goal.returns
returns c =
    let long : length c.args.p.blocks ≡ 8 = search rules in
    let h : c.args.p.n < length c.args.p.blocks = omega (arith, long) in
    (search rules, take-push c.args.p.blocks c.args.p.n c.args.b h, refl, refl, refl)
