-- `script::call_alone` meets its contract, by that of the call which the number stands for.
use borrow.Author.Rules.{rules}
use Rattle.script.proofs.Cases.{Row, made-format, made-add, made-withdraw, made-count, made-check, made-rebuild}
use Rattle.script.proofs.call_alone.Goals as goal
use Rattle.script.proofs.call_alone.Goals.{After-read32-c}

row : (c : After-read32-c)
    → let a = c.args in
    Row a.script.now a.at c.read32-op.result c.read_i32-a.result c.read_i32-b.result c.read32-c.result
row c =
    record {
      bytes = λ i. (c.shared_slice_known-1.given i).fits;
      number = c.read32-op.ensures.0;
      first = c.read_i32-a.ensures;
      second = c.read_i32-b.ensures;
      third = c.read32-c.ensures.0;
    }

pub returns-in-0 : goal.returns-in-0
returns-in-0 c =
    rw c.told.ensures (made-format (row (goal.at.returns-in-0 c).After-read32-c) _ _ _ _ c.in-0.is c.format.ensures)

pub returns-in-1 : goal.returns-in-1
returns-in-1 c =
    rw c.told-in-1.ensures (made-add (row (goal.at.returns-in-1 c).After-read32-c) _ _ _ _ _ c.in-1.is c.add.ensures)

pub returns-in-2 : goal.returns-in-2
returns-in-2 c =
    rw c.told-in-2.ensures (made-withdraw (row (goal.at.returns-in-2 c).After-read32-c) _ _ _ _ _ c.in-2.is c.withdraw.ensures)

pub returns-in-5 : goal.returns-in-5
returns-in-5 c =
    rw c.answer_of.ensures (made-count (row (goal.at.returns-in-5 c).After-read32-c) _ _ _ c.in-5.is c.count.ensures)

pub returns-in-6 : goal.returns-in-6
returns-in-6 c =
    rw c.yes_or_no.ensures (made-check (row (goal.at.returns-in-6 c).After-read32-c) _ _ _ c.in-6.is c.check.ensures)

pub returns-in_default : goal.returns-in_default
returns-in_default c =
    let pre = c.requires in
    rw c.told-in_default.ensures
    (made-rebuild (row (goal.at.returns-in_default c).After-read32-c) _ _ _ _ _ pre.1 pre.2 pre.3 (λ e. search rules) (λ e. search rules) (λ e. search rules) (λ e. search rules)
    (λ e. search rules)
    c.rebuild.ensures)
