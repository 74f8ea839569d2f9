-- `build::halved_cut` meets its contract. The loop's invariant: the lower cut takes too many, the upper one too few; so there is always one between them, and
-- the loop ends by a hit alone.
use mathlib.Core.Path.{refl}
use Rattle.build.proofs.Bands.{cut_all, between_first, between-low, between-high, between-up, between-down, between-hit}
use native.Mathlib.Omega.{arith}
use Rattle.build.proofs.halved_cut.Goals as goal

pub returns-then-count_band-le-POINTS_MOST : goal.returns-then-count_band-le-POINTS_MOST
returns-then-count_band-le-POINTS_MOST c = cut_all _ _ _ _ c.requires refl c.count_band.ensures.0 c.if-count_band-le-POINTS_MOST.true

pub loop-lo-init : goal.loop-lo-init
loop-lo-init c = rw c.unwrap_or-hi.ensures (between_first _ _ _ _ c.requires c.count_band.ensures.0 c.if-count_band-le-POINTS_MOST.false)

pub overflow_add-mid : goal.overflow_add-mid
overflow_add-mid c =
    let i = c.loop-lo.invariant in
    let w = i.near in
    record { fits = omega (arith, between-high _ _ _ _ c.requires i, c.well_formed) }

pub loop-lo-smaller-then-taken-gt-POINTS_MOST : goal.loop-lo-smaller-then-taken-gt-POINTS_MOST
loop-lo-smaller-then-taken-gt-POINTS_MOST c = let i = c.loop-lo.invariant in omega (arith, between-low _ _ _ _ c.requires i, between-high _ _ _ _ c.requires i)

pub loop-lo-preserved-then-taken-gt-POINTS_MOST : goal.loop-lo-preserved-then-taken-gt-POINTS_MOST
loop-lo-preserved-then-taken-gt-POINTS_MOST c = between-up _ _ _ _ c.requires c.loop-lo.invariant c.count_band-taken.ensures.0 c.if-taken-gt-POINTS_MOST.true

pub returns-then-taken-ge-POINTS_LEAST : goal.returns-then-taken-ge-POINTS_LEAST
returns-then-taken-ge-POINTS_LEAST c = between-hit _ _ _ _ c.requires c.loop-lo.invariant c.count_band-taken.ensures.0 c.if-taken-gt-POINTS_MOST.false c.if-taken-ge-POINTS_LEAST.true

pub loop-lo-smaller : goal.loop-lo-smaller
loop-lo-smaller c = let i = c.loop-lo.invariant in omega (arith, between-low _ _ _ _ c.requires i, between-high _ _ _ _ c.requires i)

pub loop-lo-preserved : goal.loop-lo-preserved
loop-lo-preserved c = between-down _ _ _ _ c.requires c.loop-lo.invariant c.count_band-taken.ensures.0 c.if-taken-ge-POINTS_LEAST.false

pub returns : goal.returns
returns c = let o = c.loop-lo.invariant.order in let z : ⊥ = omega (arith, c.loop-lo-test.false) in absurd z
