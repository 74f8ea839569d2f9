-- A run of a script over a table, call by call. t, w, m, k and log are the table, the scratch, the read map, the counts and the log as lent; t', w', m', k' and
-- log' as left.
-- Assumes nothing.
use Rattle.std.specs.Prelude.{◌≡◌, ℕ, ◌+◌, ◌-◌, Bool, true, false, ◌&&◌, List, [], ◌∷◌, ◌++◌, length, take, drop, leb, pos}
use Rattle.block.specs.declared.Answer.{Answer}
use Rattle.block.specs.Table.{table_sized}
use Rattle.block.specs.Fresh.{formatted}
use Rattle.tree.specs.Sound.{sound}
use Rattle.table.specs.Calls.{Call, kind, takes_scratch, is_query, is_counting, has_ceiling, Lengths, arguments_fit}
use Rattle.demands.specs.Model.{begun_empty, four_bytes, complement}
use Rattle.demands.specs.History.{Event, MetBy, History, AllAgreed, lengths_in, certain_in}
use Rattle.script.specs.declared.Said.{Said}
use Rattle.script.specs.Script.{Step, Telling, calls_in, call_at, steps_of, lent_to, log_part, log_after}

-- an answer without a ceiling
abbrev pub plainly : Answer → Said
plainly a = record { answer = a; ceiling = pos 0 }

-- an event of its call, what it was lent beside the table, its answer and ceiling, and what it left
abbrev pub event_of : Call → List ℕ → List ℕ → List ℕ → List ℕ → Said → List ℕ → List ℕ → List ℕ → List ℕ → List ℕ → Event
event_of c w m k out r t' w' m' k' out'' =
    record {
      call = c;
      output = out;
      read_map = m;
      scratch = w;
      counts = k;
      answer = r.answer;
      output' = out'';
      read_map' = m';
      scratch' = w';
      counts' = k';
      ceiling' = r.ceiling;
      table' = t';
    }

-- the call of an event met its post-condition on the table t, with arguments that fit, and what it has no use for stayed as it was
pub record Called (t : List ℕ) (e : Event) : Type 0 where
  pub fit : arguments_fit e.call ≡ true
  pub met : MetBy e.call t e
  pub output_kept : is_query e.call ≡ false → e.output' ≡ e.output
  pub map_kept : is_query e.call ≡ false → e.read_map' ≡ e.read_map
  pub scratch_kept : takes_scratch (kind e.call) ≡ false → e.scratch' ≡ e.scratch
  pub counts_kept : is_counting e.call ≡ false → e.counts' ≡ e.counts
  pub no_ceiling : has_ceiling e.call ≡ false → e.ceiling' ≡ pos 0

-- a call that needs the table and the scratch alone: so it is called, whatever else there is
abbrev pub CalledAlone : List ℕ → ℕ → List ℕ → List ℕ → Answer → List ℕ → List ℕ → Type 0
CalledAlone s at t w r t' w' = (g m k out : List ℕ) → Called t (event_of (call_at g s at) w m k out (plainly r) t' w' m k out)

-- the event of a step, which is lent the first bytes of scratch, read map and output, and the first counts
abbrev pub event_in : Step → List ℕ → List ℕ → List ℕ → List ℕ → Said → List ℕ → List ℕ → List ℕ → List ℕ → List ℕ → Event
event_in c w m k out r t' w' m' k' out'' =
    event_of c.call (take c.scratch w) (take c.read_map m) (take c.counts k) (take c.output out) r t' (take c.scratch w') (take c.read_map m')
    (take c.counts k')
    (take c.output out'')

-- the call of a step; what it isn't lent stayed as it was
pub record StepCalled (c : Step) (t w m k out : List ℕ) (r : Said) (t' w' m' k' out'' : List ℕ) : Type 0 where
  pub called : Called t (event_in c w m k out r t' w' m' k' out'')
  pub scratch_rest : drop c.scratch w' ≡ drop c.scratch w
  pub map_rest : drop c.read_map m' ≡ drop c.read_map m
  pub counts_rest : drop c.counts k' ≡ drop c.counts k
  pub output_rest : drop c.output out'' ≡ drop c.output out

-- one turn: the step c, and its part of the log as lent and as left
pub record Turned (c : Step) (t w m k part t' w' m' k' part' : List ℕ) : Type 0 where
  pub said : Said
  pub output' : List ℕ
  pub lent : StepCalled c t w m k (drop 12 part) said t' w' m' k' output'
  pub written : part' ≡ four_bytes said.answer.number ++ four_bytes said.answer.detail ++ four_bytes (complement said.ceiling) ++ output'

-- what a run has between two calls: table, scratch, read map and counts as the last call left them, and the rest of the log as it was lent
pub record RunState : Type 0 where
  pub table : List ℕ
  pub scratch : List ℕ
  pub read_map : List ℕ
  pub counts : List ℕ
  pub log : List ℕ

-- of its five lists
abbrev pub run_state : List ℕ → List ℕ → List ℕ → List ℕ → List ℕ → RunState
run_state t w m k log = record { table = t; scratch = w; read_map = m; counts = k; log = log }

-- the output of the next call, where the parts of the log have room for one of so many bytes
abbrev pub output_of : ℕ → RunState → List ℕ
output_of room h = take room (drop 12 h.log)

-- after an event; what it wasn't lent stayed as it was
abbrev pub passed : ℕ → RunState → Event → RunState
passed room h e =
    run_state e.table' (e.scratch' ++ drop (length e.scratch) h.scratch) (e.read_map' ++ drop (length e.read_map) h.read_map)
    (e.counts' ++ drop (length e.counts) h.counts)
    (drop (12 + room) h.log)

-- after one event and then the next
abbrev pub held_after : ℕ → RunState → List Event → RunState
held_after room h [] = h
held_after room h (e ∷ es) = held_after room (passed room h e) es

-- an event of a run: it is the call of its step, lent the first bytes of what the run has and of the output in its part of the log
pub record InTurn (l : Lengths) (h : RunState) (c : Step) (e : Event) : Type 0 where
  pub call : e.call ≡ c.call
  pub called : Called h.table e
  pub scratch : e.scratch ≡ take c.scratch h.scratch
  pub read_map : e.read_map ≡ take c.read_map h.read_map
  pub counts : e.counts ≡ take c.counts h.counts
  pub output : e.output ≡ take c.output (output_of l.output h)
  -- "the lengths of table, output, read map and work area", and of the counts
  pub lent : lengths_in h.table e ≡ lent_to c l

-- so is each, an event for each step, and gets what the last one left
abbrev pub AllInTurn : Lengths → RunState → List Step → List Event → Type 0
AllInTurn l h [] [] = Unit {0}
AllInTurn l h [] (e ∷ es) = ⊥
AllInTurn l h (c ∷ cs) [] = ⊥
AllInTurn l h (c ∷ cs) (e ∷ es) = InTurn l h c e × AllInTurn l (passed l.output h e) cs es

-- what an event leaves in its part of the log, where the output was so
abbrev pub entry : List ℕ → Event → List ℕ
entry output e =
    four_bytes e.answer.number ++ four_bytes e.answer.detail ++ four_bytes (complement e.ceiling') ++ (e.output' ++ drop (length e.output) output)

-- what the events of a run do
abbrev pub entries : ℕ → RunState → List Event → List ℕ
entries room h [] = []
entries room h (e ∷ es) = entry (output_of room h) e ++ entries room (passed room h e) es

-- the first n steps of the script were made, where g has what they hand in, and led from h to what is left
pub record Run (script g : List ℕ) (n : ℕ) (l : Lengths) (h : RunState) (t' w' m' k' log' : List ℕ) : Type 0 where
  pub events : List Event
  pub in_turn : AllInTurn l h (steps_of g script n) events
  pub table : t' ≡ (held_after l.output h events).table
  pub scratch : w' ≡ (held_after l.output h events).scratch
  pub read_map : m' ≡ (held_after l.output h events).read_map
  pub counts : k' ≡ (held_after l.output h events).counts
  pub log : log' ≡ entries l.output h events ++ (held_after l.output h events).log

-- the lengths that a run has, where a part of the log has so many bytes
abbrev pub run_lengths : List ℕ → List ℕ → List ℕ → List ℕ → ℕ → Lengths
run_lengths t w m k part = record { table = length t; output = part - 12; read_map = length m; scratch = length w; counts = length k }

-- the part of each call in the log of a script
abbrev pub part_in : List ℕ → List ℕ → ℕ
part_in script log = log_part (length log) (calls_in script)

-- what the model is told of these events, from the table t on
abbrev pub tellings : List ℕ → List Event → List Telling
tellings t [] = []
tellings t (e ∷ es) = record { certain = certain_in e.call t; ceiling = e.ceiling' } ∷ tellings e.table' es

-- the whole script, run on a formatted table, is a history; of it all of demand 3 is said, and its log is the model's
pub record Happened (script g t w m k log t' w' m' k' log' : List ℕ) : Type 0 where
  pub run : Run script g (calls_in script) (run_lengths t w m k (part_in script log)) (run_state (formatted (length t)) w m k log) t' w' m' k' log'
  pub history : History (formatted (length t)) run.events
  pub agreed : AllAgreed (formatted (length t)) begun_empty run.events
  pub answers : log' ≡
      log_after (run_lengths t w m k (part_in script log)) (steps_of g script (calls_in script)) (tellings (formatted (length t)) run.events) begun_empty log

-- every list is as long as it was; s and s' are the log
pub record SameLengths (t w m k s t' w' m' k' s' : List ℕ) : Type 0 where
  pub table : length t' ≡ length t
  pub scratch : length w' ≡ length w
  pub read_map : length m' ≡ length m
  pub counts : length k' ≡ length k
  pub log : length s' ≡ length s

-- a script was run, from an empty table on, or refused. It is refused where the table has no size that Format accepts, and where a part of the log is too
-- short for an answer.
pub record Ran (script g t w m k log t' w' m' k' log' : List ℕ) (r : Bool) : Type 0 where
  pub runs : r ≡ (table_sized (length t) && leb 12 (part_in script log))
  pub refused : r ≡ false → (t' ≡ t) × (w' ≡ w) × (m' ≡ m) × (k' ≡ k) × (log' ≡ log)
  pub stays_sound : r ≡ true → sound t' ≡ true
  pub same_lengths : SameLengths t w m k log t' w' m' k' log'
  pub happened : r ≡ true → Happened script g t w m k log t' w' m' k' log'
