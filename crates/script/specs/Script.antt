-- A script: calls in bytes, one after the other; what they hand in, ranges and messages, in bytes too; and the log that the model has of it.
-- Assumes nothing.
use Rattle.std.specs.Prelude.{ℕ, zero, suc, ◌+◌, ◌/◌, min, cond, List, [], ◌∷◌, ◌++◌, length, take, drop, eqb, ℤ}
use Rattle.std.specs.Int.{w32}
use Rattle.std.proofs.Common.{to_z}
use Rattle.octets.specs.Bytes.{be}
use Rattle.octets.specs.Lists.{records}
use Rattle.ranges.specs.Ranges.{ranges_in}
use Rattle.ranges.specs.declared.Range.{Range}
use Rattle.table.specs.Calls.{Call, format, add, withdraw, report, top, count, check, rebuild, report_many, top_within, apply, Lengths}
use Rattle.demands.specs.Model.{Plain, reply, told_call, output_after, four_bytes, complement}

-- a call is 36 bytes; fewer at the end are no call
abbrev pub calls_in : List ℕ → ℕ
calls_in s = length s / 36

-- a range is 12 bytes; fewer at the end are no range
abbrev pub all_ranges : List ℕ → List Range
all_ranges g = ranges_in g (length g / 12) 0

-- the call of a number and four arguments, where g are the bytes that calls hand in. Signed arguments are in two's complement; those that a call has no use for
-- may be anything. Many ranges are b of all ranges in g from the a-th on, or those that there are; a message is b bytes of g from the a-th on, or those that there
-- are.
unfoldable pub call_of : List ℕ → ℕ → ℕ → ℕ → ℕ → ℕ → Call
call_of g zero a b c d = format
call_of g (suc zero) a b c d = add (to_z w32 a) (to_z w32 b) c
call_of g (suc (suc zero)) a b c d = withdraw (to_z w32 a) (to_z w32 b)
call_of g (suc (suc (suc zero))) a b c d = report (to_z w32 a) (to_z w32 b) (to_z w32 c)
call_of g (suc (suc (suc (suc zero)))) a b c d = top (to_z w32 a) (to_z w32 b) c
call_of g (suc (suc (suc (suc (suc zero))))) a b c d = count
call_of g (suc (suc (suc (suc (suc (suc zero)))))) a b c d = check
call_of g (suc (suc (suc (suc (suc (suc (suc zero))))))) a b c d = rebuild
call_of g (suc (suc (suc (suc (suc (suc (suc (suc zero)))))))) a b c d = report_many (take b (drop a (all_ranges g)))
call_of g (suc (suc (suc (suc (suc (suc (suc (suc (suc zero))))))))) a b c d = top_within (to_z w32 a) (to_z w32 b) c d
call_of g (suc (suc (suc (suc (suc (suc (suc (suc (suc (suc n)))))))))) a b c d = apply (take b (drop a g))

-- the call that begins at a byte: its number and its four arguments, 4 bytes each, big-endian
unfoldable pub call_at : List ℕ → List ℕ → ℕ → Call
call_at g s at = call_of g (be 4 s at) (be 4 s (at + 4)) (be 4 s (at + 8)) (be 4 s (at + 12)) (be 4 s (at + 16))

-- a step of a script: a call, how many bytes it is lent of the output, of the read map and of the scratch, and how many counts; all of them where there are fewer
pub record Step : Type 0 where
  pub call : Call
  pub output : ℕ
  pub read_map : ℕ
  pub scratch : ℕ
  pub counts : ℕ

-- the step that begins at a byte: its call and then the four numbers, 4 bytes each, big-endian
unfoldable pub step_at : List ℕ → List ℕ → ℕ → Step
step_at g s at =
    record { call = call_at g s at; output = be 4 s (at + 20); read_map = be 4 s (at + 24); scratch = be 4 s (at + 28); counts = be 4 s (at + 32) }

-- the first n steps
abbrev pub steps_of : List ℕ → List ℕ → ℕ → List Step
steps_of g s n = records (step_at g s) 36 n 0

-- the lengths that a step is lent of those that the run has
abbrev pub lent_to : Step → Lengths → Lengths
lent_to c l =
    record {
      table = l.table;
      output = min c.output l.output;
      read_map = min c.read_map l.read_map;
      scratch = min c.scratch l.scratch;
      counts = min c.counts l.counts;
    }

-- the log has an equal part for each call, in order: 12 bytes for the answer with its ceiling, and the output. Where there is no call the log may be of any
-- length.
unfoldable pub log_part : ℕ → ℕ → ℕ
log_part bytes n = cond (eqb n 0) 12 (bytes / n)

-- what of a call's answer hangs on the arrangement, so that the model is told it: how many spots a Top within an allowance gives, and its ceiling; 0 for other calls
pub record Telling : Type 0 where
  pub certain : ℕ
  pub ceiling : ℤ

-- the model's log of these steps with their tellings, begun with ps, where the run has the lengths l: in each part the answer's number and detail and the ceiling, then
-- the output as the call leaves it; the bytes of the part that it isn't lent stay as they were
abbrev pub log_after : Lengths → List Step → List Telling → Plain → List ℕ → List ℕ
log_after l [] xs ps log = log
log_after l (c ∷ cs) [] ps log = log
log_after l (c ∷ cs) (x ∷ xs) ps log =
    let r = reply (lent_to c l) (told_call c.call x.certain) ps in
    let output = take l.output (drop 12 log) in
    four_bytes r.answer.number ++ four_bytes r.answer.detail ++ four_bytes (complement x.ceiling) ++
    (output_after r (take c.output output) ++ drop c.output output) ++
    log_after l cs xs r.next (drop (12 + l.output) log)
