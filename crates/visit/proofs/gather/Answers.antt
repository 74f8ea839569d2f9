-- `visit::gather` meets its contract: the inserts and the deletes are runs of keys in the table, and the list comes after them.
use mathlib.Core.List.{◌++◌}
use mathlib.Core.Path.{ap, ◌∙◌}
use native.Mathlib.Omega.{arith}
use lib.ListN.{take}
use Rattle.octets.specs.Lists.{has}
use Rattle.block.proofs.Frames.{part-is}
use Rattle.block.specs.Access.{front_of}
use Rattle.block.specs.Node.{store_of}
use Rattle.visit.specs.Visit.{waiting}
use Rattle.visit.proofs.Gathering.{kept_full, kept_then, kept_same}
use Rattle.visit.proofs.Runs.{Runs, runs_of, inserts-ready, deletes-ready, waiting-is}
use Rattle.visit.proofs.gather.Goals as goal
use Rattle.visit.proofs.gather.Goals.{After-front_of-h}

runs : (c : After-front_of-h) → Runs c.args.t.now c.args.b c.front_of-h.result
runs c =
    let a = c.args in
    runs_of a.t.now a.b c.requires.0 (c.front_of-h.ensures.0 ∙ ap front_of (part-is a.t.now a.b))

pub inserts_from-requires : goal.inserts_from-requires
inserts_from-requires c = omega (arith, (runs (goal.at.inserts_from-requires c).After-front_of-h).used)

pub deletes_from-requires : goal.deletes_from-requires
deletes_from-requires c = omega (arith, (runs (goal.at.deletes_from-requires c).After-front_of-h).used)

pub keep_run-requires : goal.keep_run-requires
keep_run-requires c =
    let a = c.args in
    (inserts-ready a.t.now a.b c.front_of-h.result (runs (goal.at.keep_run-requires c).After-front_of-h) c.requires.0.inside c.inserts_from.ensures, c.requires.2, omega arith)

pub keep_run-requires-2 : goal.keep_run-requires-2
keep_run-requires-2 c =
    let a = c.args in
    (deletes-ready a.t.now a.b c.front_of-h.result (runs (goal.at.keep_run-requires-2 c).After-front_of-h) c.requires.0.inside c.deletes_from.ensures, omega (arith, c.keep_run.ensures.sized, c.requires.2), omega (arith, c.in_ok-i.ensures.few, c.keep_run.ensures.sized, c.requires.2))

pub keep_keys-requires : goal.keep_keys-requires
keep_keys-requires c =
    (c.requires.1, omega (arith, c.keep_run-2.ensures.sized, c.keep_run.ensures.sized, c.requires.2), omega (arith, c.in_ok-d.ensures.few, c.keep_run-2.ensures.sized, c.keep_run.ensures.sized, c.requires.2))

pub returns-in_err-i : goal.returns-in_err-i
returns-in_err-i c =
    let a = c.args in
    rw c.from_residual.ensures (kept_full (waiting (store_of a.t.now a.b) ++ take a.n a.ws.now) a.lo a.last 0 c.keep_run.ensures.sized)

pub returns-in_err-d : goal.returns-in_err-d
returns-in_err-d c =
    let a = c.args in
    rw c.from_residual-in_err-d.ensures (kept_full (waiting (store_of a.t.now a.b) ++ take a.n a.ws.now) a.lo a.last 0 (c.keep_run-2.ensures.sized ∙ c.keep_run.ensures.sized))

pub returns : goal.returns
returns c =
    let a = c.args in
    let ks = waiting-is a.t.now a.b c.front_of-h.result (runs (goal.at.returns c).After-front_of-h) c.requires.0.inside c.inserts_from.ensures c.deletes_from.ensures in
    let both = kept_then c.in_ok-i.ensures c.in_ok-d.ensures in
    kept_then {xs = waiting (store_of a.t.now a.b)} {ys = take a.n a.ws.now} (kept_same (λ k l g. ap (has k) ks) both) c.keep_keys.ensures
