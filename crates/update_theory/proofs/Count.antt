-- What an update does to the map of blocks in use.
-- Assumes nothing.
use mathlib.Core.Path.{◌≡◌, ap, sym, ◌∙◌}
use mathlib.Core.Logic.{◌⊎◌, inl, inr, ⊎_elim}
use mathlib.Core.Bool.{Bool, true, ◌||◌}
use mathlib.Core.List.{List, Memᴰ}
use Prim.Native.Nat.{ℕ, ◌<◌}
use native.Mathlib.Omega.{arith}
use lib.Dec.{eqb}
use Rattle.octets.specs.Lists.{has, distinct, up_to}
use Rattle.octets.specs.Bitmap.{bit}
use Rattle.octets.proofs.Tests.{bool-ext}
use Rattle.octets.proofs.Sets.{has-mem, mem-has, in-or-not}
use Rattle.octets.proofs.UpTo.{up_to-in}
use Rattle.block.specs.Table.{map_blocks}
use Rattle.tree.specs.Sound.{map_exact}
use Rattle.tree.specs.ReadMap.{is_read}
use Rattle.tree.proofs.Marks.{read_mem, exact-bit, exact-make}
use Rattle.update_theory.specs.Spare.{Taken}

-- the map is exact again, once the blocks taken are marked in it
pub map-after : (map map' bs cs s s' : List ℕ) → map_exact map bs ≡ true → distinct cs ≡ true
    → ((z : ℕ) → Memᴰ z cs → Memᴰ z bs ⊎ Taken s s' z) → ((z : ℕ) → Memᴰ z bs ⊎ Taken s s' z → Memᴰ z cs)
    → ((z : ℕ) → Memᴰ z (up_to 0 map_blocks) → Taken s s' z → bit map' z ≡ true)
    → ((z : ℕ) → Memᴰ z (up_to 0 map_blocks) → (Taken s s' z → ⊥) → bit map' z ≡ bit map z)
    → map_exact map' cs ≡ true
unfolding is_read
map-after map map' bs cs s s' h d in-out out-in new old = exact-make map' cs d (λ z l. go z l (in-or-not z s) (in-or-not z s'))
  where
    in_map : (z : ℕ) → z < 4096 → Memᴰ z (up_to 0 map_blocks)
    in_map z l = up_to-in 0 map_blocks z (omega arith) l

    same : (z : ℕ) → (Taken s s' z → ⊥) → is_read cs z ≡ is_read bs z
    same z n =
        ap (λ (b : Bool). eqb z 0 || b)
        (bool-ext (has z cs) (has z bs) (λ e. mem-has z bs (⊎_elim (λ i. i) (λ t. absurd (n t)) (in-out z (has-mem z cs e)))) (λ e. mem-has z cs (out-in z (inl (has-mem z bs e)))))

    keep-bit : (z : ℕ) → z < 4096 → (Taken s s' z → ⊥) → bit map' z ≡ is_read cs z
    keep-bit z l n = old z (in_map z l) n ∙ exact-bit map bs h z l ∙ sym (same z n)

    go : (z : ℕ) → z < 4096 → Memᴰ z s ⊎ (Memᴰ z s → ⊥) → Memᴰ z s' ⊎ (Memᴰ z s' → ⊥) → bit map' z ≡ is_read cs z
    go z l (inl a) (inr c) = new z (in_map z l) (a, c) ∙ sym (read_mem cs z (out-in z (inr (a, c))))
    go z l (inl a) (inl c) = keep-bit z l (λ t. t.1 c)
    go z l (inr a) c = keep-bit z l (λ t. a t.0)
