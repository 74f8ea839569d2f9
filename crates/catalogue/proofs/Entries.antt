-- A catalogue's numbers are read back.
-- Assumes nothing.
use mathlib.Core.Path.{◌≡◌, refl, sym, ap, ap₂, ◌∙◌}
use mathlib.Core.List.{List, [], ◌∷◌, ◌++◌, append_assoc, Memᴰ}
use Prim.Native.Nat.{ℕ, zero, suc, ◌+◌, ◌-◌, ◌*◌, ◌^◌, ◌≤◌, ◌<◌}
use native.Mathlib.Nat.{le_of_suc-le-suc, not-suc-le-zero, add-zero}
use native.Mathlib.Omega.{arith}
use lib.ListN.{length, get_or, replicate, length-append}
use Rattle.octets.specs.Bytes.{be, bytes_of}
use Rattle.octets.proofs.Bytes.{length-bytes_of, be-left, be-right, be-bytes_of}
use Rattle.spot.specs.Keys.{all_keys}
use Rattle.spot.specs.Spots.{key_at, key_bytes}
use Rattle.spot.proofs.Card.{length-key_bytes}
use Rattle.spot.proofs.Stored.{key_back}
use Rattle.sweep.specs.Pressed.{Tile, first_key_of, last_key_of, tile_entry_bytes, tile_entries_bytes, catalogue}
use Rattle.sweep.specs.Laws.{no_tile}
use Rattle.catalogue.specs.declared.Entry.{Entry}
use Rattle.catalogue.specs.Catalogue.{tile_entry_at}
use Rattle.catalogue.proofs.Bytes.{padded-is, catalogue-is, front, length_front, used, length-entry}

-- numbers that a catalogue has room for
pub record Storable (t : Tile) : Type 0 where
  pub size : length t.spots ≤ 64
  pub low : first_key_of t.spots < all_keys
  pub high : last_key_of t.spots < all_keys
  pub made : t.made < all_keys
  pub ended : t.ended < all_keys

-- what the catalogue says of a tile
abbrev pub entry_for : Tile → Entry
entry_for t = record { size = length t.spots; low = first_key_of t.spots; high = last_key_of t.spots; made = t.made; ended = t.ended }

-- the entry whose bytes begin at index at
abbrev entry_from : List ℕ → ℕ → Entry
entry_from s at = record { size = be 4 s at; low = key_at s (at + 4); high = key_at s (at + 12); made = key_at s (at + 20); ended = key_at s (at + 28) }

entry-eq : (x y : Entry) → x.size ≡ y.size → x.low ≡ y.low → x.high ≡ y.high → x.made ≡ y.made → x.ended ≡ y.ended → x ≡ y
entry-eq x y p q r s t = λ i. record { size = p i; low = q i; high = r i; made = s i; ended = t i }

-- a number, and a key, behind some bytes
pub be-back : (n v : ℕ) → v < 256 ^ n → (a b : List ℕ) → be n (a ++ (bytes_of n v ++ b)) (length a) ≡ v
be-back n v h a b =
    ap (be n (a ++ (bytes_of n v ++ b))) (sym (add-zero (length a))) ∙ be-right n a (bytes_of n v ++ b) 0
    ∙ be-left n (bytes_of n v) b 0 (omega (arith, length-bytes_of n v)) ∙ be-bytes_of n v h

key-at : (k : ℕ) → k < all_keys → (s a b : List ℕ) (i : ℕ) → s ≡ a ++ (key_bytes k ++ b) → length a ≡ i → key_at s i ≡ k
key-at k h s a b i e l = ap₂ key_at e (sym l) ∙ key_back k h a b

module _ (t : Tile) (ok : Storable t) (a b : List ℕ) where
  entry-back : entry_from (a ++ (tile_entry_bytes t ++ b)) (length a) ≡ entry_for t
  unfolding tile_entry_bytes
  entry-back =
      let n = bytes_of 4 (length t.spots) in
      let k₁ = key_bytes (first_key_of t.spots) in
      let k₂ = key_bytes (last_key_of t.spots) in
      let k₃ = key_bytes t.made in
      let k₄ = key_bytes t.ended in
      let s : List ℕ = a ++ (tile_entry_bytes t ++ b) in
      let e₀ : s ≡ a ++ (n ++ (k₁ ++ (k₂ ++ (k₃ ++ (k₄ ++ b))))) = simp append_assoc in
      let e₁ : s ≡ a ++ n ++ (k₁ ++ (k₂ ++ (k₃ ++ (k₄ ++ b)))) = simp append_assoc in
      let e₂ : s ≡ a ++ n ++ k₁ ++ (k₂ ++ (k₃ ++ (k₄ ++ b))) = simp append_assoc in
      let e₃ : s ≡ a ++ n ++ k₁ ++ k₂ ++ (k₃ ++ (k₄ ++ b)) = simp append_assoc in
      let e₄ : s ≡ a ++ n ++ k₁ ++ k₂ ++ k₃ ++ (k₄ ++ b) = simp append_assoc in
      let l₁ : length (a ++ n) ≡ length a + 4 = length-append a n ∙ omega (arith, length-bytes_of 4 (length t.spots)) in
      let l₂ : length (a ++ n ++ k₁) ≡ length a + 12 = length-append (a ++ n) k₁ ∙ omega (arith, length-key_bytes (first_key_of t.spots)) in
      let l₃ : length (a ++ n ++ k₁ ++ k₂) ≡ length a + 20 = length-append (a ++ n ++ k₁) k₂ ∙ omega (arith, length-key_bytes (last_key_of t.spots)) in
      let l₄ : length (a ++ n ++ k₁ ++ k₂ ++ k₃) ≡ length a + 28 = length-append (a ++ n ++ k₁ ++ k₂) k₃ ∙ omega (arith, length-key_bytes t.made) in
      entry-eq (entry_from s (length a)) (entry_for t)
      (ap (λ (z : List ℕ). be 4 z (length a)) e₀ ∙ be-back 4 (length t.spots) (omega (arith, ok.size)) a (k₁ ++ (k₂ ++ (k₃ ++ (k₄ ++ b)))))
      (key-at (first_key_of t.spots) ok.low s (a ++ n) (k₂ ++ (k₃ ++ (k₄ ++ b))) (length a + 4) e₁ l₁)
      (key-at (last_key_of t.spots) ok.high s (a ++ n ++ k₁) (k₃ ++ (k₄ ++ b)) (length a + 12) e₂ l₂)
      (key-at t.made ok.made s (a ++ n ++ k₁ ++ k₂) (k₄ ++ b) (length a + 20) e₃ l₃)
      (key-at t.ended ok.ended s (a ++ n ++ k₁ ++ k₂ ++ k₃) b (length a + 28) e₄ l₄)

entries-back : (ts : List Tile) → ((t : Tile) → Memᴰ t ts → Storable t) → (i : ℕ) → i < length ts → (a b : List ℕ)
    → entry_from (a ++ (tile_entries_bytes ts ++ b)) (length a + 36 * i) ≡ entry_for (get_or ts i no_tile)
entries-back [] ok i l a b = absurd (not-suc-le-zero l)
entries-back (t ∷ ts) ok zero l a b =
    let e : a ++ (tile_entries_bytes (t ∷ ts) ++ b) ≡ a ++ (tile_entry_bytes t ++ (tile_entries_bytes ts ++ b)) = simp append_assoc in
    let z : length a + 36 * 0 ≡ length a = omega arith in
    ap₂ entry_from e z ∙ entry-back t (ok t (Memᴰ.head refl)) a (tile_entries_bytes ts ++ b)
entries-back (t ∷ ts) ok (suc i) l a b =
    let e : a ++ (tile_entries_bytes (t ∷ ts) ++ b) ≡ a ++ tile_entry_bytes t ++ (tile_entries_bytes ts ++ b) = simp append_assoc in
    let z : length a + 36 * suc i ≡ length (a ++ tile_entry_bytes t) + 36 * i = omega (arith, length-append a (tile_entry_bytes t), length-entry t) in
    ap₂ entry_from e z ∙ entries-back ts (λ x j. ok x (Memᴰ.tail j)) i (le_of_suc-le-suc l) (a ++ tile_entry_bytes t) b

-- the i-th entry
pub entry_at : (ts : List Tile) → ((t : Tile) → Memᴰ t ts → Storable t) → (i : ℕ) → i < length ts
    → tile_entry_at (catalogue ts) (suc i) ≡ entry_for (get_or ts i no_tile)
unfolding tile_entry_at
entry_at ts ok i l =
    let e : catalogue ts ≡ front ts ++ (tile_entries_bytes ts ++ replicate (2048 - length (used ts)) 0) =
    catalogue-is ts ∙ padded-is (used ts) ∙ append_assoc (front ts) (tile_entries_bytes ts) (replicate (2048 - length (used ts)) 0)
    in
    let z : 8 + 36 * (suc i - 1) ≡ length (front ts) + 36 * i = omega (arith, length_front ts) in
    ap₂ entry_from e z ∙ entries-back ts ok i l (front ts) (replicate (2048 - length (used ts)) 0)

-- ---- the first eight bytes

-- the catalogue's parts, one behind the other
parts : (ts : List Tile) → catalogue ts ≡ bytes_of 4 (2048 * suc (length ts)) ++ ((1 ∷ 0 ∷ 0 ∷ 0 ∷ []) ++ (tile_entries_bytes ts ++ replicate (2048 - length (used ts)) 0))
parts ts = catalogue-is ts ∙ padded-is (used ts) ∙ append_assoc (front ts) (tile_entries_bytes ts) (replicate (2048 - length (used ts)) 0)
    ∙ append_assoc (bytes_of 4 (2048 * suc (length ts))) (1 ∷ 0 ∷ 0 ∷ 0 ∷ []) (tile_entries_bytes ts ++ replicate (2048 - length (used ts)) 0)

pub front_length : (ts : List Tile) → length ts ≤ 15 → be 4 (catalogue ts) 0 ≡ 2048 * suc (length ts)
front_length ts h =
    ap (λ (s : List ℕ). be 4 s 0) (parts ts)
    ∙ be-back 4 (2048 * suc (length ts)) (omega arith) [] ((1 ∷ 0 ∷ 0 ∷ 0 ∷ []) ++ (tile_entries_bytes ts ++ replicate (2048 - length (used ts)) 0))

version : (s : List ℕ) → be 4 (1 ∷ 0 ∷ 0 ∷ 0 ∷ s) 0 ≡ 16777216
unfolding be
version s = refl

pub front-version : (ts : List Tile) → be 4 (catalogue ts) 4 ≡ 16777216
front-version ts =
    let a = bytes_of 4 (2048 * suc (length ts)) in
    let b = tile_entries_bytes ts ++ replicate (2048 - length (used ts)) 0 in
    let e : 4 ≡ length a + 0 = omega (arith, length-bytes_of 4 (2048 * suc (length ts))) in
    ap₂ (be 4) (parts ts) e ∙ be-right 4 a (1 ∷ 0 ∷ 0 ∷ 0 ∷ b) 0 ∙ version b
