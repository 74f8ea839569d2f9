-- An update under way at one node: where it began, the spare blocks left, and the node in memory now. The loop invariant of fill, the state between the
-- steps of settle, and what push is handed and hands back.
-- Assumes nothing.
use Rattle.std.specs.Prelude.{List, ℕ}
use Rattle.std.proofs.Math.Option.{Option}
use Rattle.octets.specs.Sets.{Apart}
use Rattle.block.specs.declared.Entry.{Entry}
use Rattle.block.specs.Node.{Store}
use Rattle.tree.specs.Part.{parts}
use Rattle.update_theory.specs.Held.{Held}
use Rattle.update_theory.specs.Change.{reaches, Changed}
use Rattle.update_theory.specs.Spare.{Taken, Within}
use Rattle.update_theory.specs.Open.{under, Open}

-- From the entries es₀ over the store x with the spare blocks s: now the store is y, the spare blocks are s', and a node in memory with the entries es and
-- the buffers b stands over y
pub record Going (l : ℕ) (lo hi : ℕ) (x : Store) (s : List ℕ) (es₀ : List Entry) (y : Store) (s' : List ℕ) (r : ℕ) (es : List Entry) (b : Held) (f : ℕ → Option ℕ) : Type 0 where
  pub node : Open l y lo hi r es b f
  pub changed : Changed l (Taken s s') x (parts lo hi es₀) y (parts lo hi es) (under l y lo hi es)
  pub spare : Apart s (reaches l x (parts lo hi es₀))
  pub less : Within s' s
