-- `fill::next_turn` meets its contract.
use borrow.Author.Rules.{rules}
use native.Mathlib.Omega.{arith}
use Prim.Native.Nat.{◌<◌}
use Rattle.spot.specs.Keys.{all_keys}
use Rattle.fill.proofs.Turns.{Compared, child-bare, child-above, both-same, tops-bare, tops-lower}
use Rattle.fill.proofs.next_turn.Goals as goal
use Rattle.fill.proofs.next_turn.Goals.{After-entry-e}

compared : (c : After-entry-e) → Compared c.args.n c.in-Some-best.child c.entry-e.result c.highest-high.result
compared c = record { inside = c.in-Some-best.ensures.0; best = c.in-Some-best.ensures.1; entry = c.entry-e.ensures; highest = c.highest-high.ensures }

small : (c : After-entry-e) → (c.entry-e.result.top < all_keys) × (c.highest-high.result.key < all_keys)
small c = (search rules, search rules)

pub returns-in_default : goal.returns-in_default
returns-in_default c = (c.args.n.entries.n, record { bare = c.if-n-eq0.true; best = c.in_default.ensures; outside = omega arith })

pub returns-then-n-eq0 : goal.returns-then-n-eq0
returns-then-n-eq0 c =
    (c.entry-entry.ensures, child-bare c.args.n c.in-Some.child c.in-Some.ensures.0 c.in-Some.ensures.1 c.if-n-eq0.true)

pub returns-in_default-best : goal.returns-in_default-best
returns-in_default-best c =
    record { highest = c.highest-high.ensures; tops = tops-bare c.args.n c.args.n.entries.n c.in_default-best.ensures (omega arith) }

pub returns-then-rank_key : goal.returns-then-rank_key
returns-then-rank_key c =
    let h = c.if-rank_key.true in
    (c.entry-e.ensures, child-above (compared (goal.at.returns-then-rank_key c).After-entry-e) (omega (arith, h, c.rank_key.ensures, c.rank_key-2.ensures)))

pub returns-then-high-e : goal.returns-then-high-e
returns-then-high-e c = (c.entry-e.ensures, both-same (compared (goal.at.returns-then-high-e c).After-entry-e) c.if-high-e.true)

pub returns : goal.returns
returns c =
    let h = c.if-rank_key.false in
    let m = compared (goal.at.returns c).After-entry-e in
    record {
      highest = m.highest;
      tops = tops-lower m (small (goal.at.returns c).After-entry-e).0 (small (goal.at.returns c).After-entry-e).1
          (omega (arith, h, c.rank_key.ensures, c.rank_key-2.ensures)) c.if-high-e.false;
    }

pub highest-high-requires : goal.highest-high-requires
highest-high-requires c = let h = c.if-n-eq0.false in (c.requires.0.inserts, omega (arith, h))
