-- What follows a change to the tree.
-- Assumes nothing.
use Rattle.std.specs.Prelude.{⊤, Option, Some, None, Result, Ok, Err}
use Rattle.block.specs.declared.Refusal.{Refusal}
use Rattle.block.specs.declared.Refusal.TheVariants as refusal
use Rattle.fill.specs.declared.Failure.{Failure}
use Rattle.fill.specs.declared.Failure.TheVariants.{NoRoom, Broken}

-- 3: "a node block that is read, breaks a rule that it and the entry leading to it can show"; only for lack of room all is laid out anew
abbrev pub step_after : Result ⊤ Failure → Option (Result ⊤ Refusal)
step_after (Ok x) = Some (Ok tt)
step_after (Err Broken) = Some (Err refusal.Broken)
step_after (Err NoRoom) = None
