-- The map of blocks read: bit b is set exactly where b is 0 or a block read, and the number of ones is at most one more than that of the blocks.
-- The map of blocks in use is exact where it is the same map of the blocks reached.
-- Assumes nothing.
use mathlib.Core.Path.{◌≡◌, refl, sym, ◌∙◌}
use mathlib.Core.Logic.{⊎_elim}
use mathlib.Core.Bool.{true, ◌||◌, beq, or-true}
use mathlib.Core.List.{List, ◌∷◌, Memᴰ}
use Prim.Native.Nat.{ℕ, ◌+◌, ◌≤◌, ◌<◌}
use native.Mathlib.Omega.{arith}
use lib.ListN.{length}
use lib.Dec.{eqb}
use borrow.Author.Tests.{ne_eqb}
use Rattle.octets.specs.Lists.{keep, has, distinct, up_to}
use Rattle.octets.specs.Bitmap.{bit, ones_below}
use Rattle.octets.proofs.Order.{same_or_not}
use Rattle.octets.proofs.Tests.{all-at, all_cons, all_nil, beq-true, true-beq, keep-mem}
use Rattle.octets.proofs.Sets.{has-mem, mem-has}
use Rattle.octets.proofs.Once.{fewer, keep-once}
use Rattle.octets.proofs.UpTo.{up_to-from, up_to-once, every-up_to, below-every}
use Rattle.octets.proofs.Marks.{marked-bit}
use Rattle.block.specs.Table.{map_bytes, map_blocks}
use Rattle.tree.specs.Sound.{map_exact}
use Rattle.tree.specs.ReadMap.{is_read, read_map, ones}

-- ---- bits

-- block 0 counts as read
pub read-header : (bs : List ℕ) → is_read bs 0 ≡ true
unfolding is_read
read-header bs = refl

-- so does each of the blocks
pub read_mem : (bs : List ℕ) (b : ℕ) → Memᴰ b bs → is_read bs b ≡ true
unfolding is_read
read_mem bs b k = rw (mem-has b bs k) (or-true (eqb b 0))

-- and no other does
pub read-in : (bs : List ℕ) (b : ℕ) → is_read bs b ≡ true → Memᴰ b (0 ∷ bs)
unfolding is_read
read-in bs b h = ⊎_elim (λ e. Memᴰ.head e) (λ (n : b ≡ 0 → ⊥). Memᴰ.tail (has-mem b bs (rw (ne_eqb b 0 n) at h))) (same_or_not b 0)

-- the bit of block b in the map
pub map-bit : (bs : List ℕ) (b : ℕ) → b < 4096 → bit (read_map bs) b ≡ is_read bs b
unfolding read_map
map-bit bs b l = marked-bit (is_read bs) map_bytes b (omega arith)

-- block 0 is marked
pub zero-marked : (bs : List ℕ) → bit (read_map bs) 0 ≡ true
zero-marked bs = map-bit bs 0 (omega arith) ∙ read-header bs

-- ---- the number of ones

ones-up-to : (bs : List ℕ) (n : ℕ) → n ≤ 4096 → length (keep (bit (read_map bs)) (up_to 0 n)) ≤ 1 + length bs
ones-up-to bs n l =
    let marks = bit (read_map bs) in
    let h = fewer (keep marks (up_to 0 n)) (0 ∷ bs) (keep-once marks (up_to 0 n) (up_to-once 0 n))
    (λ k j. let r = keep-mem marks (up_to 0 n) j in read-in bs k (sym (map-bit bs k (omega (arith, up_to-from 0 n r.0))) ∙ r.1)) in
    omega arith

-- at most one more than the blocks
pub ones-few : (bs : List ℕ) → ones (read_map bs) ≤ 1 + length bs
unfolding ones_below
ones-few bs = ones-up-to bs map_blocks (omega arith)

-- ---- the map of blocks in use, which is made in the same way

-- an exact map: no block is reached twice
pub exact-once : (m bs : List ℕ) → map_exact m bs ≡ true → distinct bs ≡ true
unfolding map_exact
exact-once m bs h = all-at _ h 0

-- and each bit is that of the map of these blocks
pub exact-bit : (m bs : List ℕ) → map_exact m bs ≡ true → (b : ℕ) → b < 4096 → bit m b ≡ is_read bs b
unfolding map_exact is_read
exact-bit m bs h b l = beq-true (bit m b) (eqb b 0 || has b bs) (below-every (λ k. beq (bit m k) (eqb k 0 || has k bs)) map_blocks (all-at _ h 1) b l)

-- that is all
pub exact-make : (m bs : List ℕ) → distinct bs ≡ true → ((b : ℕ) → b < 4096 → bit m b ≡ is_read bs b) → map_exact m bs ≡ true
unfolding map_exact is_read
exact-make m bs d h =
    all_cons _ _ d
    (all_cons _ _ (every-up_to (λ k. beq (bit m k) (eqb k 0 || has k bs)) 0 map_blocks (λ b i l. true-beq (bit m b) (eqb b 0 || has b bs) (h b (omega arith)))) all_nil)
