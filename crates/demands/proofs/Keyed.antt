-- The plain list over keys, a stepping stone: the table is held against it first (Histories), and it against the model (Plain).
-- Assumes nothing.
use Prim.Native.Nat.{ℕ, zero, suc}
use mathlib.Core.List.{List, []}
use lib.IntN.{ℤ}
use lib.ListN.{length, take}
use Rattle.octets.specs.Lists.{keep}
use Rattle.spot.specs.declared.Spot.{Spot}
use Rattle.spot.specs.Keys.{key}
use Rattle.spot.specs.Spots.{without, find, put, by_top, from_on}
use Rattle.spot.specs.Query.{query, top_query, from_of, wants}
use Rattle.block.specs.declared.Answer.{Answer}
use Rattle.block.specs.Answers.{answer}
use Rattle.message.specs.Changes.{changes_of}
use Rattle.message.specs.Messages.{read_message}
use Rattle.message.specs.Effects.{after_all, applied_answer}
use Rattle.tree.specs.Lookup.{is_live}
use Rattle.ranges.specs.Ranges.{for_each, count_each}
use Rattle.ranges.specs.declared.Range.{Range}
use Rattle.table.specs.Calls.{Call, format, add, withdraw, report, top, count, check, rebuild, report_many, top_within, apply, Lengths}
use Rattle.revise.specs.Numbers.{add_number}
use Rattle.table.specs.Answers.{early_number, early_detail, spots_answer, counts_left}

-- what it answers, hands out (counts only where the call is accepted), and holds afterwards
pub record KeyReply : Type 0 where
  pub answer : Answer
  pub given : List Spot
  pub counts : List ℕ
  pub next : List Spot

-- an accepted call
unfoldable pub accepted : ℕ → List Spot → KeyReply
accepted detail next = record { answer = record { number = 0; detail = detail }; given = []; counts = []; next = next }

-- a refusal with its detail where the number is not 0: "A refused call leaves the list as it was"
unfoldable pub refused_or : ℕ → ℕ → List Spot → KeyReply → KeyReply
refused_or zero d ss r = r
refused_or (suc n) d ss r = record { answer = record { number = suc n; detail = d }; given = []; counts = []; next = ss }

-- a call that changes the list, with its answer: accepted, and the list is the next; or refused, and it is as it was
unfoldable pub next_by : ℕ → List Spot → List Spot → List Spot
next_by zero ss next = next
next_by (suc n) ss next = ss

unfoldable pub changed : Answer → List Spot → List Spot → KeyReply
changed due ss next = record { answer = due; given = []; counts = []; next = next_by due.number ss next }

-- "their spots are those defined above, in that order; 5 if there are more than the output holds"
unfoldable pub gives : ℕ → List Spot → List ℕ → List Spot → KeyReply
gives bytes found counts ss =
    record {
      answer = spots_answer bytes (length found);
      given = found;
      counts = counts_left (spots_answer bytes (length found)).number counts [];
      next = ss;
    }

-- the spots of a single report
abbrev pub singly : ℤ → ℤ → ℤ → List Spot → List Spot
singly x1 x2 y ss = from_on (from_of (query x1 x2 y)) (keep (wants (query x1 x2 y)) ss)

abbrev pub singly_in : List Spot → Range → List Spot
singly_in ss r = singly r.x1 r.x2 r.y ss

-- and those of a Top
abbrev pub highest_by : ℤ → ℤ → ℕ → List Spot → List Spot
highest_by x1 x2 k ss = take k (by_top (keep (wants (top_query x1 x2 0)) ss))

-- a call that lengths and arguments don't refuse
unfoldable pub reply_to : Lengths → Call → List Spot → KeyReply
reply_to l format ss = accepted 0 []
reply_to l (add place rank track) ss =
    changed (answer (add_number l.table (length ss) (is_live (find (key place rank) ss))) 0) ss
    (put (record { key = key place rank; track = track }) (without (key place rank) ss))
reply_to l (withdraw place rank) ss = changed (answer 0 0) ss (without (key place rank) ss)
reply_to l (report x1 x2 y) ss = gives l.output (singly x1 x2 y ss) [] ss
reply_to l (top x1 x2 k) ss = gives l.output (highest_by x1 x2 k ss) [] ss
reply_to l count ss = accepted (length ss) ss
reply_to l check ss = accepted 1 ss
reply_to l rebuild ss = changed (answer 0 0) ss ss
reply_to l (report_many rs) ss = gives l.output (for_each (singly_in ss) rs) (count_each (singly_in ss) rs) ss
reply_to l (top_within x1 x2 k a) ss = gives l.output (highest_by x1 x2 k ss) [] ss
reply_to l (apply m) ss = changed (applied_answer l.table (changes_of (read_message m)) ss) ss (after_all (changes_of (read_message m)) ss)

-- what the model answers, in keys
unfoldable pub key_reply : Lengths → Call → List Spot → KeyReply
key_reply l c ss = refused_or (early_number l c) (early_detail c (early_number l c)) ss (reply_to l c ss)
