-- `spot::ends` meets its contract.
use Rattle.std.proofs.Common.{◌≡◌, Bool, true, false, cond, ◌&&◌, ◌||◌, refl, ap, ◌∙◌}
use Rattle.spot.specs.Query.{is_ring, ends}
use Rattle.spot.proofs.ends.Goals as goal

both-or-one : (r a b : Bool) → (a && b) || (r && (a || b)) ≡ cond r (a || b) (a && b)
both-or-one true true true = refl
both-or-one true true false = refl
both-or-one true false b = refl
both-or-one false true true = refl
both-or-one false true false = refl
both-or-one false false b = refl

pub returns : goal.returns
unfolding ends
returns c =
    let a = c.args in
    ap (λ (r : Bool). (a.first && a.last) || (r && (a.first || a.last))) c.is_ring.ensures ∙ both-or-one (is_ring a.q) a.first a.last
