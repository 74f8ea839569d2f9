-- What Format, Add, Withdraw, Rebuild and the application of a message promise, for all tables, arguments and lengths. t is the table as lent and t' as left, w the scratch (the work area)
-- as lent and w' as left.
-- Assumes nothing.
use Rattle.std.specs.Prelude.{◌≡◌, ◌≢◌, ℕ, zero, suc, ◌≤◌, ◌<◌, true, false, cond, List, [], ◌∷◌, ◌++◌, length, drop, replicate, ℤ}
use Rattle.std.proofs.Math.Option.{Option, none, some}
use Rattle.octets.specs.Lists.{every, has}
use Rattle.spot.specs.Keys.{key}
use Rattle.spot.specs.Query.{everything}
use Rattle.spot.specs.Spots.{find}
use Rattle.block.specs.Answers.{answer}
use Rattle.block.specs.declared.Answer.{Answer}
use Rattle.block.specs.Table.{table_sized, block}
use Rattle.block.specs.Header.{head_of}
use Rattle.block.specs.Node.{store_of}
use Rattle.block.specs.HeaderRules.{header_ok}
use Rattle.block.specs.Fresh.{formatted}
use Rattle.message.specs.declared.Change.{Change}
use Rattle.message.specs.Changes.{change_key, changes_of}
use Rattle.message.specs.Messages.{read_message}
use Rattle.message.specs.Effects.{after_all, applied_answer}
use Rattle.tree.specs.Part.{whole}
use Rattle.tree.specs.Lookup.{live, is_live, with_key}
use Rattle.tree.specs.Reach.{reach, settled}
use Rattle.tree.specs.Walk.{walk_table, live_spots, live_count}
use Rattle.tree.specs.Sound.{sound}
use Rattle.change.specs.Room.{roomy, root_of}
use Rattle.lookup.specs.Answers.{looked_up, broken}
use Rattle.renew.specs.Layable.{layable}
use Rattle.revise.specs.Numbers.{add_number, Full}
use Rattle.table.specs.Calls.{Call, format, add, withdraw, rebuild, apply}
use Rattle.table.specs.Answers.{of_table, with_scratch, early_number, early_detail, unless_refused, outcomes}

-- "Format makes the empty table, one leaf and one level"
pub record FormatPost (t : List ℕ) (r : Answer) (t' : List ℕ) : Type 0 where
  pub answered : r ≡ unless_refused (early_number (of_table t) format) (answer 0 0)
  pub written : t' ≡ cond (table_sized (length t)) (formatted (length t)) t

-- "once accepted, its first table-length bytes are zero and the others unchanged", and so after 3
unfoldable pub scratch_left : ℕ → ℕ → List ℕ → List ℕ
scratch_left bytes zero w = replicate bytes 0 ++ drop bytes w
scratch_left bytes (suc zero) w = w
scratch_left bytes (suc (suc zero)) w = w
scratch_left bytes (suc (suc (suc zero))) w = replicate bytes 0 ++ drop bytes w
scratch_left bytes (suc (suc (suc (suc n)))) w = w

-- a call that changes the table. On a sound one the answer is `due`, and where it is accepted `after` are the live spots.
pub record UpdatePost (c : Call) (due : Answer) (after : ℕ → Option ℕ) (t w : List ℕ) (r : Answer) (t' w' : List ℕ) : Type 0 where
  -- on every table; the detail that comes with 4, and that of a refusal by lengths and arguments, is the call's own
  pub detail : r.number ≢ 4 → early_number (with_scratch t w) c ≡ 0 → r.detail ≡ 0
  pub refusals : early_number (with_scratch t w) c ≢ 0 → r ≡ answer (early_number (with_scratch t w) c) (early_detail c (early_number (with_scratch t w) c))
  pub header : early_number (with_scratch t w) c ≡ 0 → header_ok (length t) (head_of t) ≡ false → r.number ≡ 3
  pub numbers : early_number (with_scratch t w) c ≡ 0 → has r.number (outcomes c) ≡ true
  pub unchanged : r.number ≢ 0 → t' ≡ t
  pub sized : length t' ≡ length t
  pub scratch : w' ≡ scratch_left (length t) r.number w
  -- "An accepted call leaves a sound table sound"
  pub answered : sound t ≡ true → early_number (with_scratch t w) c ≡ 0 → r ≡ due
  pub stays_sound : sound t ≡ true → sound t' ≡ true
  pub live_after : sound t ≡ true → r.number ≡ 0 → (k : ℕ) → live t' k ≡ after k

-- Add and Withdraw of the key j
pub record ChangePost (c : Call) (j : ℕ) (due : Answer) (after : ℕ → Option ℕ) (t w : List ℕ) (r : Answer) (t' w' : List ℕ) : Type 0 where
  pub update : UpdatePost c due after t w r t' w'
  -- "4, detail 0", and so with every number
  pub detail : r.detail ≡ 0
  -- on every table: 3 where block 0 or a node on the key's path, down to the first that names it, breaks a rule; 4 only where that path and a walk of
  -- everything are whole, the key is not live and no fewer spots than the capacity are counted
  pub path : early_number (with_scratch t w) c ≡ 0 → looked_up t j ≡ broken → r.number ≡ 3
  pub full : r.number ≡ 4 → Full t j
  -- the figure in block 0: exact before, exact after
  pub exact : sound t ≡ true → (head_of t).bound ≡ live_count t → (head_of t').bound ≡ live_count t'
  -- "change no blocks of the table but block 0 and the root"
  pub light : sound t ≡ true → roomy (root_of t) ≡ true → (b : ℕ) → b ≢ 0 → b ≢ (head_of t).root → block t' b ≡ block t b

-- "Add puts the spot in; one of the same identity is replaced"
abbrev pub AddPost : ℤ → ℤ → ℕ → List ℕ → List ℕ → Answer → List ℕ → List ℕ → Type 0
AddPost place rank track t =
    ChangePost (add place rank track) (key place rank) (answer (add_number (length t) (live_count t) (is_live (live t (key place rank)))) 0)
    (with_key (key place rank) (some track) (live t))
    t

-- "Withdraw takes out the spot of that identity; where there is none the set is unchanged and the call is accepted"
abbrev pub WithdrawPost : ℤ → ℤ → List ℕ → List ℕ → Answer → List ℕ → List ℕ → Type 0
WithdrawPost place rank t = ChangePost (withdraw place rank) (key place rank) (answer 0 0) (with_key (key place rank) none (live t)) t

-- "Rebuild leaves the live spots the same, track numbers included, and all waiting changes carried out"
pub record RebuildPost (t w : List ℕ) (r : Answer) (t' w' : List ℕ) : Type 0 where
  pub update : UpdatePost rebuild (answer 0 0) (live t) t w r t' w'
  pub detail : r.detail ≡ 0
  -- on every table: accepted exactly where the live spots can be laid out anew, and then they are
  pub answered : early_number (with_scratch t w) rebuild ≡ 0 → r.number ≡ cond (layable (length t) (walk_table t everything)) 0 3
  pub anew : r.number ≡ 0 → (sound t' ≡ true) × (live_spots t' ≡ live_spots t)
  pub exact : r.number ≡ 0 → (head_of t').bound ≡ live_count t'
  pub carried_out : r.number ≡ 0
      → every (λ b. settled (store_of t' b)) (reach (head_of t').levels (store_of t') (whole (head_of t'))) ≡ true

-- a message of one change, of the key j, on every table, sound or not: 3 and 4 as Add and Withdraw have them. 3: "block 0, or a node block that is read, breaks a rule
-- that it and the entry leading to it can show"; 4: "Add: capacity live spots and the identity not live".
pub record AsOne (t : List ℕ) (j : ℕ) (r : Answer) : Type 0 where
  pub path : looked_up t j ≡ broken → r.number ≡ 3
  pub full : r.number ≡ 4 → Full t j

-- a message of several changes cs, on every table, sound or not: everything is read and laid out anew, or nothing is written
pub record AllAnew (cs : List Change) (t : List ℕ) (r : Answer) (t' : List ℕ) : Type 0 where
  -- 3: "block 0, or a node block that is read, breaks a rule ..", or the spots read don't rise strictly or are more than the capacity
  pub broken : layable (length t) (walk_table t everything) ≡ false → r.number ≡ 3
  -- "leaves the live spots that the changes one after another would"
  pub anew : r.number ≡ 0 → (sound t' ≡ true) × (live_spots t' ≡ after_all cs (live_spots t))
  -- "If any would be turned down, nothing is applied and the first such one's number is returned, with its position": which one that is, a sound table alone says
  pub full : r.number ≡ 4 → sound t ≡ true

-- request 2026-06: "Applying it .. leaves the live spots that the changes one after another would. If any would be turned down, nothing is applied and the first
-- such one's number is returned, with its position from 0 as detail."
pub record ApplyPost (m t w : List ℕ) (r : Answer) (t' w' : List ℕ) : Type 0 where
  pub update : UpdatePost (apply m) (applied_answer (length t) (changes_of (read_message m)) (live_spots t))
      (λ k. find k (after_all (changes_of (read_message m)) (live_spots t)))
      t
      w
      r
      t'
      w'
  -- on every table, sound or not: the detail that comes with 4 is a position
  pub position : r.number ≡ 4 → r.detail < length (changes_of (read_message m))
  -- on every table whose block 0 keeps the rules: a message of no changes is accepted, and changes nothing
  pub none : early_number (with_scratch t w) (apply m) ≡ 0 → header_ok (length t) (head_of t) ≡ true → changes_of (read_message m) ≡ []
      → (r ≡ answer 0 0) × (t' ≡ t)
  -- on every table: one change goes the way of Add or Withdraw, several are carried out all at once
  pub one : (c : Change) → changes_of (read_message m) ≡ c ∷ [] → early_number (with_scratch t w) (apply m) ≡ 0 → AsOne t (change_key c) r
  pub several : early_number (with_scratch t w) (apply m) ≡ 0 → 2 ≤ length (changes_of (read_message m)) → AllAnew (changes_of (read_message m)) t r t'
  -- the figure in block 0: exact before, exact after
  pub exact : sound t ≡ true → (head_of t).bound ≡ live_count t → (head_of t').bound ≡ live_count t'
