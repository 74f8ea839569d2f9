-- `block::format` meets its contract: zeros, the length and the marks make a fresh table.
use mathlib.Core.List.{List}
use mathlib.Core.Bool.{true, false}
use mathlib.Core.Path.{◌≡◌, refl, sym, ap, ◌∙◌}
use Prim.Native.Nat.{ℕ}
use native.Mathlib.Omega.{arith}
use lib.ListN.{length}
use Rattle.octets.specs.Bytes.{put_be}
use Rattle.block.specs.Checks.{fresh_marks}
use Rattle.block.specs.Table.{table_sized}
use Rattle.block.proofs.Making.{sized-least, written_is}
use Rattle.block.proofs.format.Goals as goal

pub returns-then-not-sized : goal.returns-then-not-sized
returns-then-not-sized c =
    let t = c.args.table.now in
    let e : table_sized (length t) ≡ false = sym c.sized.ensures ∙ c.if-not-sized.true in
    rw e record { answered = refl; written = refl }

pub write32-requires : goal.write32-requires
write32-requires c =
    let t = c.args.table.now in
    let e : table_sized (length t) ≡ true = sym c.sized.ensures ∙ c.if-not-sized.false in
    omega (arith, sized-least (length t) e, c.zero.auto.s)

pub write_fresh-requires : goal.write_fresh-requires
write_fresh-requires c =
    let t = c.args.table.now in
    let e : table_sized (length t) ≡ true = sym c.sized.ensures ∙ c.if-not-sized.false in
    omega (arith, sized-least (length t) e, c.zero.auto.s, c.write32.auto.s)

pub returns : goal.returns
returns c =
    let t = c.args.table.now in
    let e : table_sized (length t) ≡ true = sym c.sized.ensures ∙ c.if-not-sized.false in
    rw e record {
      answered = refl;
      written =
          c.write_fresh.ensures
          ∙ ap (λ (l : List ℕ). fresh_marks l) (c.write32.ensures ∙ ap (λ (l : List ℕ). put_be 4 l 0 (length t)) c.zero.ensures)
          ∙ written_is t (omega (arith, sized-least (length t) e));
    }
