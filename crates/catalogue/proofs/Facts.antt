-- What an entry of a catalogue in order says, and what a block in order holds.
-- Assumes nothing.
use mathlib.Core.Path.{◌≡◌, refl, sym, ap, subst, ◌∙◌}
use mathlib.Core.Bool.{Bool, true, false, cond, ◌&&◌}
use mathlib.Core.List.{List}
use Prim.Native.Nat.{ℕ, suc, ◌-◌, ◌*◌, ◌≤◌, ◌<◌}
use native.Mathlib.Omega.{arith}
use lib.Dec.{leb, eqb}
use borrow.Author.Tests.{leb-true, eqb-true}
use Rattle.octets.specs.Lists.{rising, up_to}
use Rattle.octets.proofs.Tests.{all-at, and_left, and_right, every-mem}
use Rattle.octets.proofs.UpTo.{up_to-in}
use Rattle.spot.specs.Keys.{limited, start_key, end_key}
use Rattle.spot.specs.Spots.{key_at, keys_from}
use Rattle.spot.proofs.Limits.{limited-yes}
use Rattle.block.specs.Table.{blocks_of, block}
use Rattle.sweep.specs.Pressed.{no_key}
use Rattle.catalogue.specs.declared.Entry.{Entry}
use Rattle.catalogue.specs.Catalogue.{places_of, tile_entry_at, tile_entry, size_fine, made_fine, ended_fine, tile_entry_fine, catalogue_fine, tile_fine}
use Rattle.catalogue.specs.Reading.{Listed, LimitedEntry}

size-facts : (m b n : ℕ) → size_fine m b n ≡ true → (1 ≤ n) × (n ≤ 64)
unfolding size_fine
size-facts m b n h = go (eqb b (places_of m)) h
  where
    go : (t : Bool) → cond t (leb 1 n && leb n 64) (eqb n 64) ≡ true → (1 ≤ n) × (n ≤ 64)
    go true k = (leb-true 1 n (and_left (leb 1 n) (leb n 64) k), leb-true n 64 (and_right (leb 1 n) (leb n 64) k))
    go false k = let e = eqb-true n 64 k in (omega arith, omega arith)

-- where no passing made or ended a block, the key is that of place 0
no_key_lem : limited no_key ≡ true
unfolding start_key end_key
no_key_lem = limited-yes no_key (omega arith) (omega arith)

key-or-none : (t : Bool) (k : ℕ) → cond t (eqb k no_key) (limited k) ≡ true → limited k ≡ true
key-or-none true k h = ap limited (eqb-true k no_key h) ∙ no_key_lem
key-or-none false k h = h

entry-facts : (m b : ℕ) (e : Entry) → tile_entry_fine m b e ≡ true → LimitedEntry e
unfolding tile_entry_fine made_fine ended_fine
entry-facts m b e h =
    let n = size-facts m b e.size (all-at _ h 0) in
    record {
      some = n.0;
      few = n.1;
      low = all-at _ h 2;
      high = all-at _ h 3;
      made = key-or-none (leb b (places_of m)) e.made (all-at _ h 4);
      ended = key-or-none (eqb (suc b) m) e.ended (all-at _ h 5);
    }

-- of a catalogue in order
pub entry-limits : (bytes : ℕ) (s : List ℕ) (b : ℕ) → catalogue_fine bytes s ≡ true → 1 ≤ b → b < blocks_of bytes → LimitedEntry (tile_entry_at s b)
unfolding catalogue_fine
entry-limits bytes s b h l g =
    let m = blocks_of bytes in
    entry-facts m b (tile_entry_at s b) (every-mem _ (up_to 1 (m - 1)) (all-at _ h 3) (up_to-in 1 (m - 1) b l (omega arith)))

pub listed-fine : (s : List ℕ) (b : ℕ) → Listed s b → LimitedEntry (tile_entry_at s b)
listed-fine s b h = entry-limits h.bytes s b h.fine h.some h.below

pub listed-as : (s : List ℕ) (b : ℕ) {r : Entry} → Listed s b → r ≡ tile_entry_at s b → (r ≡ tile_entry_at s b) × LimitedEntry r
listed-as s b h e = (e, subst LimitedEntry (sym e) (listed-fine s b h))

-- the entry of block b, where the catalogue is in order
pub entry_of : (t : List ℕ) (b : ℕ) → tile_entry t b ≡ tile_entry_at (block t 0) b
unfolding tile_entry
entry_of t b = refl

pub record TileFacts (e : Entry) (s : List ℕ) : Type 0 where
  pub rise : rising (keys_from s 12 e.size 0) ≡ true
  pub first : key_at s 0 ≡ e.low
  pub last : key_at s (12 * (e.size - 1)) ≡ e.high

pub tile-facts : (m b : ℕ) (e : Entry) (s : List ℕ) → tile_fine m b e s ≡ true → TileFacts e s
unfolding tile_fine
tile-facts m b e s h = record { rise = all-at _ h 0; first = eqb-true (key_at s 0) e.low (all-at _ h 1); last = eqb-true _ e.high (all-at _ h 2) }
