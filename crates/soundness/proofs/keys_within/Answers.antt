-- `soundness::keys_within` meets its contract: of keys that rise the first and the last decide.
use native.Mathlib.Omega.{arith}
use Rattle.soundness.proofs.Ranges.{keys_none, keys-decide, last-ends, ends-limited}
use Rattle.soundness.proofs.keys_within.Goals as goal

pub returns-then-n-eq0 : goal.returns-then-n-eq0
returns-then-n-eq0 c =
    let a = c.args in
    keys_none a.t.now a.w a.n a.at _ _ (omega arith)

pub read_key-requires : goal.read_key-requires
read_key-requires c =
    let a = c.args in
    (omega (arith, last-ends a.w a.n (λ e. omega arith)), (ends-limited a.t.now a.w a.n a.at (λ e. omega arith) c.requires.5).0)

pub read_key-requires-2 : goal.read_key-requires-2
read_key-requires-2 c =
    let a = c.args in
    (omega (arith, last-ends a.w a.n (λ e. omega arith)), (ends-limited a.t.now a.w a.n a.at (λ e. omega arith) c.requires.5).1)

pub returns : goal.returns
returns c =
    let a = c.args in
    keys-decide a.t.now a.w a.n a.at a.span _ _ (λ e. omega arith) c.requires.4 c.read_key.ensures.0 c.read_key-2.ensures.0 c.before_end.ensures
