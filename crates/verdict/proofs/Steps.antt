-- How the number of live spots goes on, case by case.
-- Assumes nothing.
use mathlib.Core.Path.{◌≡◌, refl, sym, ap}
use Prim.Native.Nat.{ℕ, zero, suc, ◌≤◌, ◌<◌}
use borrow.Author.Tests.{le-leb, lt-leb}
use native.Mathlib.Omega.{arith}
use Rattle.std.specs.Prelude.{Ok, Err}
use Rattle.verdict.specs.declared.Refused.TheVariants.{NoRoom, Unsound}
use Rattle.verdict.specs.Verdicts.{one_more, one_less}

pub more-full : (most live : ℕ) → most ≤ live → Err NoRoom ≡ one_more most live
unfolding one_more
more-full most live h = rw (le-leb most live h)

pub more_room : (most live n : ℕ) → live < most → n ≡ suc live → Ok n ≡ one_more most live
unfolding one_more
more_room most live n h e = rw (lt-leb most live h) (ap (λ (k : ℕ). Ok k) e)

pub less_none : (live : ℕ) → live ≡ 0 → Err Unsound ≡ one_less live
unfolding one_less
less_none zero e = refl
less_none (suc n) e = absurd (omega (arith, e))

pub less_one : (live n : ℕ) → live ≡ suc n → Ok n ≡ one_less live
unfolding one_less
less_one live n e = ap one_less (sym e)
