-- `block::clear_from` meets its contract: the rest of one byte and the bytes after it hold the bits from b on.
use mathlib.Core.Bool.{Bool, ◌&&◌}
use mathlib.Core.Path.{ap₂, ◌∙◌}
use Prim.Native.Nat.{ℕ, ◌/◌, ◌%◌, ◌^◌}
use native.Mathlib.Omega.{arith}
use lib.Dec.{eqb}
use Rattle.block.proofs.Clear.{clear_none, clear-is}
use Rattle.block.proofs.clear_from.Goals as goal

pub returns-then-i-ge-MAP_BYTES : goal.returns-then-i-ge-MAP_BYTES
returns-then-i-ge-MAP_BYTES c = let a = c.args in clear_none a.m.now a.b c.if-i-ge-MAP_BYTES.true

pub returns : goal.returns
returns c =
    let a = c.args in
    let m = a.m.now in
    ap₂ (λ (x : ℕ) (y : Bool). eqb (x / 2 ^ (a.b % 8)) 0 && y) c.count_at.ensures.0 c.zeros.ensures
    ∙ clear-is m (λ q. omega (arith, c.shared_slice_known-1.given q)) c.requires.0 a.b (omega arith)
