-- Request 2026-03: the bytes of a pressed tour, as a function of its spots.
-- Assumes nothing.
use Rattle.std.specs.Prelude.{◌≡◌, ℕ, suc, ◌-◌, ◌*◌, ◌≤◌, ◌<◌, true, cond, ◌||◌, length, replicate, eqb}
use mathlib.Core.List.{List, [], ◌∷◌, ◌++◌, Memᴰ}
use Rattle.octets.specs.Lists.{every, rising}
use Rattle.octets.specs.Bytes.{bytes_of}
use Rattle.spot.specs.Keys.{word, limited}
use Rattle.spot.specs.Spots.{keys, key_bytes, spots_bytes}
use Rattle.spot.specs.declared.Spot.{Spot}
use Rattle.sweep.specs.Sweep.{StandingBlock, Fusion, at_first, sweep}

-- "zero if none": the key whose eight bytes are zero. It is also that of place 0 and rank 0, so that a block's position says whether it is one.
abbrev pub no_key : ℕ
no_key = 9223372039002259456

-- a block of the tour behind the catalogue: its spots, "and the two whose passing made and ended it"
pub record Tile : Type 0 where
  pub spots : List Spot
  pub made : ℕ
  pub ended : ℕ

-- whose passing ended block b: that of the fusion of which it was one half
abbrev pub ended_by : ℕ → List Fusion → ℕ
ended_by b [] = no_key
ended_by b (f ∷ fs) = cond (eqb b f.first || eqb b f.second) f.passed (ended_by b fs)

abbrev pub tile_of : List Fusion → ℕ → StandingBlock → Tile
tile_of fs made s = record { spots = s.spots; made = made; ended = ended_by s.number fs }

abbrev pub place_tiles : List Fusion → List StandingBlock → List Tile
place_tiles fs [] = []
place_tiles fs (s ∷ st) = tile_of fs no_key s ∷ place_tiles fs st

abbrev pub fused_tiles : List Fusion → List Fusion → List Tile
fused_tiles fs [] = []
fused_tiles fs (f ∷ gs) = tile_of fs f.passed f.made ∷ fused_tiles fs gs

-- "a catalogue, the place blocks of 64 spots, then the fused blocks as the upward sweep in rank order makes them"
unfoldable pub tiles : List Spot → List Tile
tiles ss = place_tiles (sweep ss) (at_first ss) ++ fused_tiles (sweep ss) (sweep ss)

-- the first key and the last: "its lowest and highest identity (place order)"
abbrev pub first_key_of : List Spot → ℕ
first_key_of [] = no_key
first_key_of (s ∷ ss) = s.key

abbrev pub last_from : ℕ → List Spot → ℕ
last_from k [] = k
last_from k (s ∷ ss) = last_from s.key ss

abbrev pub last_key_of : List Spot → ℕ
last_key_of ss = last_from no_key ss

-- "blocks of 2,048 bytes", "unused bytes zero"
unfoldable pub padded : List ℕ → List ℕ
padded xs = xs ++ replicate (2048 - length xs) 0

-- "for each other block in turn four bytes with its number of spots, then its lowest and highest identity (place order) and the two whose passing made and
-- ended it, zero if none"
unfoldable pub tile_entry_bytes : Tile → List ℕ
tile_entry_bytes t =
    bytes_of 4 (length t.spots) ++ key_bytes (first_key_of t.spots) ++ key_bytes (last_key_of t.spots) ++ key_bytes t.made ++ key_bytes t.ended

abbrev pub tile_entries_bytes : List Tile → List ℕ
tile_entries_bytes [] = []
tile_entries_bytes (t ∷ ts) = tile_entry_bytes t ++ tile_entries_bytes ts

-- "The catalogue has the length in four bytes, version byte 1, three zero bytes", and the entries; "all is big-endian"
unfoldable pub catalogue : List Tile → List ℕ
catalogue ts = padded (bytes_of 4 (2048 * suc (length ts)) ++ (1 ∷ 0 ∷ 0 ∷ 0 ∷ []) ++ tile_entries_bytes ts)

-- "The others begin with their spots in place order"
abbrev pub tiles_bytes : List Tile → List ℕ
tiles_bytes [] = []
tiles_bytes (t ∷ ts) = padded (spots_bytes t.spots) ++ tiles_bytes ts

unfoldable pub tour_of : List Tile → List ℕ
tour_of ts = catalogue ts ++ tiles_bytes ts

-- the tour pressed from these spots
unfoldable pub pressed : List Spot → List ℕ
pressed ss = tour_of (tiles ss)

-- spots that pressing accepts: "up to 512 spots in place order", of 32 bits each, and inside the limits
pub record Pressable (ss : List Spot) : Type 0 where
  pub few : length ss ≤ 512
  pub rise : rising (keys ss) ≡ true
  pub limits : every limited (keys ss) ≡ true
  pub tracks : (s : Spot) → Memᴰ s ss → s.track < word
