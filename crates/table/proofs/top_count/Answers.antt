-- `table::top_count` meets its contract: a number is told only after a count of a walk that is whole.
use mathlib.Core.Path.{refl}
use mathlib.Core.Bool.{false≢true}
use borrow.Author.Tests.{not-false}
use native.Mathlib.Omega.{arith}
use Rattle.top.proofs.Sweeps.{zeroed}
use Rattle.table.proofs.Answering.{told-whole}
use Rattle.table.proofs.Sizing.{none_told, count_gives}
use Rattle.table.proofs.top_count.Goals as goal

pub zero-requires : goal.zero-requires
zero-requires c = omega (arith, c.count_table.ensures.sized)

-- the count breaks
pub returns-in_default : goal.returns-in_default
returns-in_default c =
    let all = c.count_table in
    none_told _ (zeroed all.new.seen all.ensures.sized c.zero.ensures)

-- all are no more than k
pub returns-then-found-k : goal.returns-then-found-k
returns-then-found-k c =
    let all = c.in-Some.ensures in
    record {
      gives = λ x1 x2 a. count_gives _ _ _ _ _ _ all.ok refl all.spots (omega arith) x1 x2 a;
      clear = tt;
      unheld = refl;
      all = λ h. record { whole = told-whole _ _ _ all.ok refl; count = all.spots; few = c.if-found-k.true; map = all.marks };
    }

-- there are more
pub returns : goal.returns
returns c =
    let all = c.in-Some.ensures in
    record {
      gives = λ x1 x2 a. count_gives _ _ _ _ _ _ all.ok refl all.spots (omega arith) x1 x2 a;
      clear = tt;
      unheld = refl;
      all = λ h. absurd (false≢true h);
    }
