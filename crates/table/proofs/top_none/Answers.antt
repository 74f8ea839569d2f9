-- `table::top_none` meets its contract.
use Rattle.table.proofs.Topping.{map-none}
use Rattle.table.proofs.Answering.{map_is}
use Rattle.visit.proofs.Roots.{sized-long}
use mathlib.Core.Logic.{inl, inr}
use mathlib.Core.Path.{refl, sym, ◌∙◌}
use Prim.Native.Nat.{ℕ}
use native.Mathlib.Omega.{arith}
use lib.ListN.{length-replicate}
use Rattle.table.proofs.top_none.Goals as goal

pub header_ok-requires : goal.header_ok-requires
header_ok-requires c = sized-long c.args.table.now c.requires.0

pub returns-then-not-header_ok : goal.returns-then-not-header_ok
returns-then-not-header_ok c = inl (sym c.header_ok.ensures ∙ c.if-not-header_ok.true, refl, refl)

pub copy-requires : goal.copy-requires
copy-requires c = (omega (arith, c.set_bit.auto.map, length-replicate {A = ℕ} 512 0), omega (arith, c.requires.1))

pub returns : goal.returns
returns c =
    inr (
      sym c.header_ok.ensures ∙ c.if-not-header_ok.false,
      refl,
      map_is _ c.args.read_map.now _ (c.set_bit.auto.map ∙ length-replicate {A = ℕ} 512 0) c.requires.1 c.copy.ensures ∙
          c.set_bit.ensures ∙
          map-none,
    )
