-- `visit::keep_keys` meets its contract, key after key.
use Rattle.std.specs.Prelude.{Some}
use lib.ListN.{take}
use Rattle.visit.specs.Visit.{KeysKept}
use Rattle.visit.proofs.keep_keys.Given as goal

abbrev pub invariant-loop-k : goal.invariant-loop-k
invariant-loop-k l = KeysKept (take l.k-index l.k-items) l.lo l.last l.c l.initial.list l.list (Some l.l)
