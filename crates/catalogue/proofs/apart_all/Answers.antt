-- `catalogue::apart_all` meets its contract.
use mathlib.Core.Path.{refl}
use mathlib.Core.Bool.{true, false}
use Rattle.std.proofs.Common.{◌≡◌, ◌-◌, arith, rules, tests}
use Rattle.std.proofs.lemmas.Iterator.{cases_from_all, serves_from_Range, YieldsList-from_range}
use Rattle.catalogue.specs.Catalogue.{apart, tile_entry_at}
use Rattle.catalogue.proofs.Making.{each-of}
use Rattle.catalogue.proofs.apart_all.Goals as goal

pub all-requires : goal.all-requires
all-requires c = record { can = tt; finite = tt; callable = serves_from_Range (λ x q k. search (rules, tests)) (λ x low high. grind arith) }

pub returns : goal.returns
returns c =
    let a = c.args in
    let fine = apart (tile_entry_at a.s.now) in
    each-of fine 1 (a.l - 1) c.all.result
    (cases_from_all _ _ _ (λ b. fine b ≡ true) (λ b. fine b ≡ false) c.all.ensures.ran
    (YieldsList-from_range 1 a.l _ refl refl) (λ x q k. search (rules, tests)) (λ x q k. search (rules, tests)))
