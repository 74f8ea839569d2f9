-- `message::recode` meets its contract. The loop's invariant: the changes so far with the others behind them make the whole.
use Rattle.message.proofs.Writing.{Recoding}
use Rattle.message.proofs.recode.Given as goal

abbrev pub invariant-loop-i : goal.invariant-loop-i
invariant-loop-i l = Recoding l.fill l.n l.s l.at l.other l.initial.out l.to l.out l.from l.next l.i
