-- A table after one change to its tree.
-- Assumes nothing.
use Rattle.std.specs.Prelude.{◌≡◌, ℕ, ◌+◌, ◌≤◌, true, List, length, drop, ⊤, Result, Ok, OnOk, OnErr, IfErr}
use Rattle.spot.specs.declared.Spot.{Spot}
use Rattle.block.specs.Table.{block, capacity}
use Rattle.block.specs.Header.{head_of}
use Rattle.block.specs.HeaderRules.{header_ok}
use Rattle.tree.specs.Lookup.{live}
use Rattle.tree.specs.Sound.{sound, Shaped}
use Rattle.change.specs.Room.{roomy, root_of}
use Rattle.batch.specs.Batches.{batch_says}
use Rattle.fill.specs.declared.Failure.{Failure}
use Rattle.fill.specs.declared.Failure.TheVariants.{NoRoom}

-- the table and the scratch, and the bound that the table shall have
pub record Changeable (t w : List ℕ) (bound : ℕ) (ni nd : ℕ) : Type 0 where
  pub header : header_ok (length t) (head_of t) ≡ true
  pub lent : length t ≤ length w
  pub few : bound ≤ capacity (length t)
  pub one : ni + nd ≤ 1

-- The inserts ss and the deletes ks were carried out, or the table is as it was. It is the caller who knows that the bound is no lower than the live count.
pub record ChangedBy (t t' w w' : List ℕ) (ss : List Spot) (ks : List ℕ) (bound : ℕ) (r : Result ⊤ Failure) : Type 0 where
  pub sized : length t' ≡ length t
  pub lent_length : length w' ≡ length w
  pub rest : drop (length t) w' ≡ drop (length t) w
  pub kept : OnErr r (t' ≡ t)
  pub header : OnOk r (header_ok (length t) (head_of t') ≡ true)
  pub bound_is : OnOk r ((head_of t').bound ≡ bound)
  pub shaped : OnOk r (sound t ≡ true → Shaped t')
  pub live_is : OnOk r (sound t ≡ true → (k : ℕ) → live t' k ≡ batch_says ss ks k (live t k))
  -- a block that breaks a rule: "never on a sound table"
  pub whole : sound t ≡ true → IfErr r (λ e. e ≡ NoRoom)
  -- "change no blocks of the table but block 0 and the root"
  pub ready : sound t ≡ true → roomy (root_of t) ≡ true → r ≡ Ok tt
  pub light : roomy (root_of t) ≡ true → (b : ℕ) → (b ≡ 0 → ⊥) → (b ≡ (head_of t).root → ⊥) → block t' b ≡ block t b
