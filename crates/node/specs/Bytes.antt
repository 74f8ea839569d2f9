-- The bytes of a node as they are written, one part behind the other.
-- Assumes nothing.
use Rattle.std.specs.Prelude.{ℕ, ◌≡◌, Bool, true, false, ◌&&◌, List, [], ◌∷◌, ◌++◌, length, replicate, eqb, refl}
use Rattle.octets.specs.Lists.{every}
use Rattle.octets.specs.Bytes.{bytes_of, put_bytes}
use Rattle.spot.specs.Keys.{all_keys, within, unsigned32}
use Rattle.spot.specs.Spots.{key_at, spot_at, key_bytes, spot_bytes, spots_bytes}
use Rattle.spot.proofs.Card.{length-key_bytes, length-spot_bytes}
use Rattle.spot.specs.declared.Spot.{Spot}
use Rattle.block.specs.declared.Entry.{Entry}
use Rattle.block.specs.declared.Front.{Front}

-- the 8 bytes at the front of a node
unfoldable pub front_bytes : Front → List ℕ
front_bytes h =
    bytes_of 2 h.used ++ bytes_of 1 h.version ++ bytes_of 1 h.level ++ bytes_of 1 h.p ++ bytes_of 1 h.i ++ bytes_of 1 h.d ++
    bytes_of 1 h.c

-- a key's 8 bytes, which are zero where it is unused
unfoldable pub bytes_unless : Bool → ℕ → List ℕ
bytes_unless true k = replicate 8 0
bytes_unless false k = key_bytes k

-- an entry's 28 bytes. The range field of a node's first is unused, and so are the last two where the child's P is empty.
unfoldable pub entry_bytes : Bool → Entry → List ℕ
entry_bytes first e =
    bytes_of 2 e.block ++ bytes_of 1 e.size ++ bytes_of 1 0 ++ bytes_unless first e.low ++ bytes_unless (eqb e.size 0) e.top ++
    bytes_unless (eqb e.size 0) e.bottom

abbrev pub later_bytes : List Entry → List ℕ
later_bytes [] = []
later_bytes (e ∷ es) = entry_bytes false e ++ later_bytes es

abbrev pub entries_bytes : List Entry → List ℕ
entries_bytes [] = []
entries_bytes (e ∷ es) = entry_bytes true e ++ later_bytes es

abbrev pub keys_bytes : List ℕ → List ℕ
keys_bytes [] = []
keys_bytes (k ∷ ks) = key_bytes k ++ keys_bytes ks

-- keys of 64 bits, and tracks of 32
abbrev pub key_fits : ℕ → Bool
key_fits k = within 0 all_keys k

abbrev pub spot_fits : Spot → Bool
spot_fits x = key_fits x.key && unsigned32 x.track

abbrev pub keys_fit : Entry → Bool
keys_fit e = key_fits e.low && key_fits e.top && key_fits e.bottom

-- how elements lie in a block: each takes so many bytes, one behind the other
pub record Layout (A : Type 0) : Type 0 where
  pub width : ℕ
  pub at : List ℕ → ℕ → A
  pub bytes : A → List ℕ
  pub all_bytes : List A → List ℕ
  pub fits : A → Bool
  pub nil : all_bytes [] ≡ []
  pub cons : (x : A) (xs : List A) → all_bytes (x ∷ xs) ≡ bytes x ++ all_bytes xs
  pub wide : (x : A) → length (bytes x) ≡ width

abbrev pub laid_spots : Layout Spot
laid_spots = record {
  width = 12;
  at = spot_at;
  bytes = spot_bytes;
  all_bytes = spots_bytes;
  fits = spot_fits;
  nil = refl;
  cons = λ x xs. refl;
  wide = length-spot_bytes;
}

abbrev pub laid_keys : Layout ℕ
laid_keys = record {
  width = 8;
  at = key_at;
  bytes = key_bytes;
  all_bytes = keys_bytes;
  fits = key_fits;
  nil = refl;
  cons = λ x xs. refl;
  wide = length-key_bytes;
}

-- elements, and entries, written from a place on; they are of as many bits as a card holds
pub record Written {A : Type 0} (L : Layout A) (s s' : List ℕ) (at : ℕ) (xs : List A) : Type 0 where
  pub bytes : s' ≡ put_bytes s at (L.all_bytes xs)
  pub fit : every L.fits xs ≡ true

abbrev pub SpotsWritten : List ℕ → List ℕ → ℕ → List Spot → Type 0
SpotsWritten = Written laid_spots

abbrev pub KeysWritten : List ℕ → List ℕ → ℕ → List ℕ → Type 0
KeysWritten = Written laid_keys

pub record EntriesWritten (s s' : List ℕ) (es : List Entry) : Type 0 where
  pub bytes : s' ≡ put_bytes s 8 (entries_bytes es)
  pub fit : every keys_fit es ≡ true
