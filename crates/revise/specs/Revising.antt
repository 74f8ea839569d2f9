-- What one change leaves of the table and the scratch, and the number it answers. t is the table before and t' after, w the scratch before and w' after.
-- Assumes nothing.
use Rattle.std.specs.Prelude.{◌≡◌, ◌≢◌, ℕ, ◌≤◌, true, List, [], ◌∷◌, length, drop}
use Rattle.std.proofs.Math.Option.{Option}
use Rattle.octets.specs.Lists.{has}
use Rattle.block.specs.Table.{block, table_sized}
use Rattle.block.specs.Header.{head_of}
use Rattle.tree.specs.Lookup.{live}
use Rattle.tree.specs.Sound.{sound}
use Rattle.tree.specs.Walk.{live_count}
use Rattle.lookup.specs.Answers.{looked_up, broken}
use Rattle.change.specs.Room.{roomy, root_of}
use Rattle.revise.specs.Numbers.{Full}

-- the table is 9 to 4,096 blocks, and the scratch no shorter
pub record Lent (t w : List ℕ) : Type 0 where
  pub sized : table_sized (length t) ≡ true
  pub room : length t ≤ length w

-- on every table
pub record Leaves (t t' w w' : List ℕ) (number : ℕ) : Type 0 where
  pub sized : length t' ≡ length t
  pub lent_length : length w' ≡ length w
  pub rest : drop (length t) w' ≡ drop (length t) w
  pub kept : number ≢ 0 → t' ≡ t
  pub untouched : number ≡ 4 → w' ≡ w
  pub light : sound t ≡ true → roomy (root_of t) ≡ true → (b : ℕ) → (b ≡ 0 → ⊥) → (b ≡ (head_of t).root → ⊥) → block t' b ≡ block t b

-- where the header keeps the rules and the bound was found: 0, or 3 where a rule is broken. On a sound table that the spots `spots` fit into, these are live then.
pub record WithinPost (t t' w w' : List ℕ) (bound spots : ℕ) (after : ℕ → Option ℕ) (number : ℕ) : Type 0 where
  pub leaves : Leaves t t' w w' number
  pub numbers : has number (0 ∷ 3 ∷ []) ≡ true
  pub accepted : sound t ≡ true → spots ≤ bound → number ≡ 0
  pub stays_sound : sound t ≡ true → spots ≤ bound → sound t' ≡ true
  pub live_after : sound t ≡ true → spots ≤ bound → (k : ℕ) → live t' k ≡ after k
  -- the figure in block 0 is the bound
  pub exact : sound t ≡ true → spots ≡ bound → (head_of t').bound ≡ live_count t'

-- the whole of Add and Withdraw but for the lengths: j is the key, `due` the number on a sound table, `outcomes` are all that may come
pub record Revised (t t' w w' : List ℕ) (j due : ℕ) (outcomes : List ℕ) (after : ℕ → Option ℕ) (number : ℕ) : Type 0 where
  pub leaves : Leaves t t' w w' number
  pub path : looked_up t j ≡ broken → number ≡ 3
  pub full : number ≡ 4 → Full t j
  pub numbers : has number outcomes ≡ true
  pub number_is : sound t ≡ true → number ≡ due
  pub stays_sound : sound t ≡ true → sound t' ≡ true
  pub live_after : sound t ≡ true → number ≡ 0 → (k : ℕ) → live t' k ≡ after k
  -- the figure in block 0
  pub exact : sound t ≡ true → (head_of t).bound ≡ live_count t → (head_of t').bound ≡ live_count t'
