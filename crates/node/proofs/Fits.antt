-- What owning a buffer tells of what it holds: each number fits its type. And entries that fit.
-- Assumes nothing.
use mathlib.Core.Path.{◌≡◌}
use mathlib.Core.Bool.{Bool, true}
use mathlib.Core.List.{List, [], ◌∷◌, Memᴰ}
use Prim.Native.Nat.{ℕ, ◌+◌, ◌≤◌, ◌<◌}
use native.Mathlib.Numerals.{add-one}
use native.Mathlib.Omega.{arith}
use lib.ListN.{length, take, get_or}
use lib.Seq.{take-suc, length-take-le, get_or-take}
use Rattle.octets.specs.Lists.{every}
use Rattle.octets.proofs.Tests.{and_both, every-join}
use Rattle.spot.specs.Keys.{all_keys, word, unsigned32}
use Rattle.spot.specs.declared.Spot.{Spot}
use Rattle.spot.proofs.Places.{within-yes}
use Rattle.block.specs.declared.Entry.{Entry}
use Rattle.block.specs.Node.{first_open}
use Rattle.block.proofs.Views.{open-all}
use Rattle.node.specs.Bytes.{key_fits, spot_fits}
use Rattle.node.specs.Memory.{EntryFits}
use borrow.Author.Tests.{le-leb}

pub key_fits_lem : (k : ℕ) → k < all_keys → key_fits k ≡ true
key_fits_lem k h = within-yes 0 all_keys k (omega arith) h

pub spot-fits : (x : Spot) → x.key < all_keys → x.track < word → spot_fits x ≡ true
unfolding unsigned32
spot-fits x h g = and_both _ _ (key_fits_lem x.key h) (le-leb x.track 4294967295 (omega arith))

pub every_more : {A : Type 0} (f : A → Bool) (i n : ℕ) (l : List A) (d : A) → i < n → n ≤ length l → every f (take i (take n l)) ≡ true → f (get_or l i d) ≡ true
    → every f (take (i + 1) (take n l)) ≡ true
every_more f i n l d h g p q =
    let m : i < length (take n l) = rw length-take-le (omega arith) in
    rw (add-one, take-suc (take n l) i d, get_or-take n l i d h) (every-join f (take i (take n l)) (get_or l i d ∷ []) p (rw q))

-- entries that fit do so with the first low put to 0
pub open-fits : (es : List Entry) → ((e : Entry) → Memᴰ e es → EntryFits e) → (e : Entry) → Memᴰ e (first_open es) → EntryFits e
open-fits = open-all EntryFits (λ e f. record { block = f.block; size = f.size; top = f.top; bottom = f.bottom })
