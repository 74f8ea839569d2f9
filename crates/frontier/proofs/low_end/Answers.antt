-- `frontier::low_end` meets its contract: the first spot, or the last one.
use native.Mathlib.Omega.{arith}
use mathlib.Core.Path.{◌≡◌, subst}
use Prim.Native.Nat.{ℕ, ◌+◌, ◌-◌, ◌*◌, ◌<◌}
use Rattle.spot.proofs.Limits.{limited-each}
use Rattle.visit.proofs.Search.{Reads}
use Rattle.frontier.proofs.low_end.Goals as goal
use Rattle.frontier.proofs.low_end.Goals.{Start}

-- a key of one of them may be read
reads : (c : Start) (i : ℕ) → i < c.args.n → Reads c.args.t.now (c.args.at + 12 * i)
reads c i l = let a = c.args in (omega (arith, c.requires.1), limited-each a.t.now 12 a.n a.at c.requires.2 i l)

pub read_key-first-requires : goal.read_key-first-requires
read_key-first-requires c =
    let a = c.args in
    let e : a.at + 12 * 0 ≡ a.at = omega arith in
    subst (Reads a.t.now) e (reads (goal.at.read_key-first-requires c).Start 0 c.requires.0)

pub read_key-last-requires : goal.read_key-last-requires
read_key-last-requires c = reads (goal.at.read_key-last-requires c).Start (c.args.n - 1) (omega (arith, c.requires.0))

pub returns-then-top_key : goal.returns-then-top_key
returns-then-top_key c =
    record { index = c.args.n - 1; inside = omega (arith, c.requires.0); is = c.read_key-last.ensures.0 }
