-- `spare::find_clear` meets its contract. The loop's invariant: the blocks found so far, and the map with them marked.
use Rattle.spare.proofs.Finding.{Found}
use mathlib.Core.Path.{◌≡◌}
use Rattle.spare.proofs.find_clear.Given as goal

abbrev pub invariant-loop : goal.invariant-loop
invariant-loop l = (l.found.n ≡ l.counter) × Found l.initial.map l.blocks l.map l.found
