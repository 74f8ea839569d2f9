-- `catalogue::above_maker` meets its contract.
use mathlib.Core.Path.{refl, ◌∙◌}
use mathlib.Core.Bool.{true, false, ◌||◌}
use Rattle.std.proofs.Common.{ℕ, ◌≡◌, ◌*◌, arith, rules, tests}
use Rattle.std.proofs.lemmas.Iterator.{cases_from_all, serves_from_Range, YieldsList-from_range}
use lib.Dec.{leb, ltb}
use Rattle.spot.specs.Keys.{rank_key}
use Rattle.spot.specs.Spots.{key_at}
use Rattle.catalogue.specs.Catalogue.{places_of}
use Rattle.catalogue.proofs.Making.{each-of, above-each}
use Rattle.catalogue.proofs.above_maker.Goals as goal

pub all-requires : goal.all-requires
all-requires c = record { can = tt; finite = tt; callable = serves_from_Range (λ x q k. search (rules, tests)) (λ x low high. grind arith) }

pub returns : goal.returns
returns c =
    let a = c.args in
    let above = λ (i : ℕ). leb a.b (places_of a.m) || ltb (rank_key a.e.made) (rank_key (key_at a.s.now (12 * i))) in
    each-of above 0 a.e.size c.all.result
    (cases_from_all _ _ _ (λ i. above i ≡ true) (λ i. above i ≡ false) c.all.ensures.ran
    (YieldsList-from_range 0 a.e.size a.e.size refl (omega arith)) (λ x q k. search (rules, tests)) (λ x q k. search (rules, tests)))
    ∙ above-each a.m a.b a.e a.s.now
