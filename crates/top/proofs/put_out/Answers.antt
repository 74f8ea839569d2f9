-- `top::put_out` meets its contract.
use mathlib.Core.Bool.{Bool, cond}
use mathlib.Core.Path.{ap, sym, ◌∙◌}
use Prim.Native.Nat.{◌*◌}
use borrow.Author.Tests.{lt-ltb, le-ltb}
use Rattle.spot.specs.Spots.{put_spot}
use Rattle.top.proofs.put_out.Goals as goal

pub returns-then-j-room : goal.returns-then-j-room
returns-then-j-room c =
    let a = c.args in
    c.write_spot.ensures ∙ sym (ap (λ (b : Bool). cond b (put_spot a.out.now (12 * a.j) a.s) a.out.now) (lt-ltb a.j a.room c.if-j-room.true))

pub returns-else-j-room : goal.returns-else-j-room
returns-else-j-room c =
    let a = c.args in
    sym (ap (λ (b : Bool). cond b (put_spot a.out.now (12 * a.j) a.s) a.out.now) (le-ltb a.j a.room c.if-j-room.false))
