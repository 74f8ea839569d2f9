-- `table::blocks_read` meets its contract: the ones below all bits of a map of 512 bytes are those of its 4,096 blocks.
use mathlib.Core.Path.{refl, ◌≡◌, sym, ap, ◌∙◌}
use mathlib.Core.Bool.{Bool, cond}
use mathlib.Core.List.{List}
use Prim.Native.Nat.{ℕ, ◌*◌}
use native.Mathlib.Omega.{arith}
use lib.ListN.{length}
use borrow.Author.Tests.{eq-eqb, ne_eqb}
use Rattle.octets.specs.Bitmap.{ones_below}
use Rattle.octets.proofs.Bits.{ones-le-bits}
use Rattle.block.specs.Answers.{answer}
use Rattle.block.specs.declared.Answer.{Answer}
use Rattle.tree.specs.ReadMap.{ones}
use Rattle.table.proofs.blocks_read.Goals as goal

-- by the length of the map
abbrev chosen : List ℕ → Bool → Answer
chosen map b = cond b (answer 0 (ones map)) (answer 2 0)

counted : (map : List ℕ) {n : ℕ} → length map ≡ 512 → n ≡ ones_below map (8 * length map) → n ≡ ones map
counted map l e = e ∙ ap (λ (k : ℕ). ones_below map (8 * k)) l

pub returns-then-read_map-ne512 : goal.returns-then-read_map-ne512
returns-then-read_map-ne512 c =
    let map = c.args.read_map.now in
    record { answered = refl ∙ sym (ap (chosen map) (ne_eqb (length map) 512 c.if-read_map-ne512.true)) }

pub overflow_cast-result : goal.overflow_cast-result
overflow_cast-result c =
    let map = c.args.read_map.now in
    let l : length map ≡ 512 = omega (arith, c.if-read_map-ne512.false) in
    omega (arith, counted map l c.ones.ensures, ones-le-bits map 4096)

pub returns : goal.returns
returns c =
    let map = c.args.read_map.now in
    let l : length map ≡ 512 = omega (arith, c.if-read_map-ne512.false) in
    record { answered = ap (answer 0) (counted map l c.ones.ensures) ∙ sym (ap (chosen map) (eq-eqb (length map) 512 l)) }
