-- `press::inside` meets its contract: of keys that rise the first and the last decide.
use native.Mathlib.Omega.{arith}
use Rattle.spot.specs.Keys.{start_key, end_key}
use Rattle.press.proofs.Accepting.{none-limited, ends-decide}
use Rattle.press.proofs.inside.Goals as goal

pub returns-then-n-eq0 : goal.returns-then-n-eq0
returns-then-n-eq0 c = let a = c.args in none-limited a.spots.now a.n c.if-n-eq0.true

pub returns : goal.returns
unfolding start_key end_key
returns c =
    let a = c.args in
    ends-decide a.spots.now a.n (omega arith) c.requires.1 c.raw_key.ensures c.raw_key-2.ensures
