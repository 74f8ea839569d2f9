-- `catalogue::makers_rise_all` meets its contract.
use mathlib.Core.Path.{refl, ap, ◌∙◌}
use mathlib.Core.Bool.{true, false}
use Rattle.std.proofs.Common.{ℕ, ◌≡◌, ◌-◌, ◌+◌, arith, rules, tests}
use Rattle.std.proofs.lemmas.Iterator.{cases_from_all, serves_from_Range, YieldsList-from_range}
use Rattle.catalogue.specs.Catalogue.{makers_rise, tile_entry_at}
use Rattle.catalogue.proofs.Making.{each-of, fused-few}
use Rattle.catalogue.proofs.makers_rise_all.Goals as goal

pub all-requires : goal.all-requires
all-requires c = record { can = tt; finite = tt; callable = serves_from_Range (λ x q k. search (rules, tests)) (λ x low high. grind arith) }

pub returns : goal.returns
returns c =
    let a = c.args in
    let rise = makers_rise (tile_entry_at a.s.now) in
    each-of rise (a.l + 1) (a.m - 1 - (a.l + 1)) c.all.result
    (cases_from_all _ _ _ (λ b. rise b ≡ true) (λ b. rise b ≡ false) c.all.ensures.ran
    (YieldsList-from_range (a.l + 1) (a.m - 1) _ (ap (λ (k : ℕ). record { start = a.l + 1; end = k }) c.saturating_sub.ensures) refl) (λ x q k. search (rules, tests)) (λ x q k. search (rules, tests)))
    ∙ fused-few rise a.l a.m
