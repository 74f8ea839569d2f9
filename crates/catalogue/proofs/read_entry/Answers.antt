-- `catalogue::read_entry` meets its contract: every identity of a catalogue in order may be read.
use Prim.Native.Nat.{◌≤◌}
use native.Mathlib.Omega.{arith}
use Rattle.catalogue.specs.Catalogue.{tile_entry_at}
use Rattle.catalogue.specs.Reading.{LimitedEntry}
use Rattle.catalogue.proofs.Lengths.{sized-lengths}
use Rattle.catalogue.proofs.Facts.{listed-fine, listed-as}
use Rattle.catalogue.proofs.read_entry.Goals as goal
use Rattle.catalogue.proofs.read_entry.Goals.{Start}

-- what is known of the entry, and of the block
module _ (c : Start) where
  limits : LimitedEntry (tile_entry_at c.args.s.now c.args.b)
  limits = listed-fine c.args.s.now c.args.b c.requires

  low : c.args.b ≤ 15
  low = let l = sized-lengths c.requires.bytes c.requires.sized in omega (arith, l.few, c.requires.below)

pub read_key-requires : goal.read_key-requires
unfolding tile_entry_at
read_key-requires c = (omega (arith, low (goal.at.read_key-requires c).Start, c.requires.long), (limits (goal.at.read_key-requires c).Start).low)

pub read_key-requires-2 : goal.read_key-requires-2
unfolding tile_entry_at
read_key-requires-2 c = (omega (arith, low (goal.at.read_key-requires-2 c).Start, c.requires.long), (limits (goal.at.read_key-requires-2 c).Start).high)

pub read_key-requires-3 : goal.read_key-requires-3
unfolding tile_entry_at
read_key-requires-3 c = (omega (arith, low (goal.at.read_key-requires-3 c).Start, c.requires.long), (limits (goal.at.read_key-requires-3 c).Start).made)

pub read_key-requires-4 : goal.read_key-requires-4
unfolding tile_entry_at
read_key-requires-4 c = (omega (arith, low (goal.at.read_key-requires-4 c).Start, c.requires.long), (limits (goal.at.read_key-requires-4 c).Start).ended)

pub returns : goal.returns
unfolding tile_entry_at
returns c =
    listed-as c.args.s.now c.args.b c.requires (cc)

pub overflow_mul-at : goal.overflow_mul-at
overflow_mul-at c = omega (arith, low (goal.at.overflow_mul-at c).Start)

pub overflow_add-at : goal.overflow_add-at
overflow_add-at c = omega (arith, low (goal.at.overflow_add-at c).Start)

pub read32-requires : goal.read32-requires
read32-requires c = omega (arith, low (goal.at.read32-requires c).Start, c.requires.long)

pub overflow_add-at-2 : goal.overflow_add-at-2
overflow_add-at-2 c = omega (arith, low (goal.at.overflow_add-at-2 c).Start)

pub overflow_add-at-3 : goal.overflow_add-at-3
overflow_add-at-3 c = omega (arith, low (goal.at.overflow_add-at-3 c).Start)

pub overflow_add-at-4 : goal.overflow_add-at-4
overflow_add-at-4 c = omega (arith, low (goal.at.overflow_add-at-4 c).Start)

pub overflow_add-at-5 : goal.overflow_add-at-5
overflow_add-at-5 c = omega (arith, low (goal.at.overflow_add-at-5 c).Start)
