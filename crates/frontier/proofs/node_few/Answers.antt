-- `frontier::node_few` meets its contract: the points, then the inserts.
use mathlib.Core.Bool.{true}
use mathlib.Core.Path.{◌≡◌, sym, ap, subst, ◌∙◌}
use Prim.Native.Nat.{ℕ, ◌+◌, ◌*◌, ◌/◌, ◌<◌}
use lib.ListN.{length}
use native.Mathlib.Omega.{arith}
use Rattle.spot.specs.Keys.{rank_of}
use Rattle.spot.specs.Spots.{limited_from}
use Rattle.spot.proofs.TopKeys.{top-rank}
use Rattle.frontier.specs.Picks.{spots_at, spot_count, KeysApart, OneOf, Few, few_floor}
use Rattle.frontier.proofs.Spots.{Sizes, part-sizes, spots-apart, run-limited, limited-first, no-inserts}
use Rattle.frontier.proofs.Fews.{few-none, apart-first, inserts-past}
use Rattle.frontier.proofs.node_few.Goals as goal
use Rattle.frontier.proofs.node_few.Goals.{After-front_of-h, After-points_from, After-run_few-n}

-- the node's numbers
known : (c : After-front_of-h) → let a = c.args in Sizes a.t.now a.b c.front_of-h.result
known c = part-sizes c.args.t.now c.args.b c.requires.0 c.front_of-h.ensures.0

-- where its spots begin, and how many they are
start : (c : After-points_from) → let a = c.args in a.b * 2048 + c.points_from.result ≡ spots_at a.t.now a.b
start c = omega (arith, ((part-sizes c.args.t.now c.args.b c.requires.0 c.front_of-h.ensures.0)).children, c.points_from.ensures)

all : (c : After-points_from) → let a = c.args in c.front_of-h.result.p + c.front_of-h.result.i ≡ spot_count a.t.now a.b
all c = let z = (part-sizes c.args.t.now c.args.b c.requires.0 c.front_of-h.ensures.0) in omega (arith, z.points, z.inserts)

apart : (c : After-points_from) → let a = c.args in let h = c.front_of-h.result in KeysApart a.t.now (a.b * 2048 + c.points_from.result) (h.p + h.i)
apart c =
    let h = c.front_of-h.result in
    subst (λ (k : ℕ). KeysApart c.args.t.now k (h.p + h.i)) (sym (start c)) (spots-apart c.args.t.now c.args.b h ((part-sizes c.args.t.now c.args.b c.requires.0 c.front_of-h.ensures.0)) c.requires.0)

limits : (c : After-points_from) → let a = c.args in let h = c.front_of-h.result in limited_from a.t.now 12 (h.p + h.i) (a.b * 2048 + c.points_from.result) ≡ true
limits c =
    let h = c.front_of-h.result in
    ap (limited_from c.args.t.now 12 (h.p + h.i)) (start c) ∙ run-limited c.args.t.now c.args.b h ((part-sizes c.args.t.now c.args.b c.requires.0 c.front_of-h.ensures.0)) c.requires.0

-- those of its points
points-limits : (c : After-points_from) → let a = c.args in limited_from a.t.now 12 c.front_of-h.result.p (a.b * 2048 + c.points_from.result) ≡ true
points-limits c =
    let a = c.args in
    let h = c.front_of-h.result in
    limited-first a.t.now (a.b * 2048 + c.points_from.result) h.p (h.p + h.i) (omega arith) (limits c)

-- the rows stay as many
some : (c : After-run_few-n) → 0 < length c.run_few-n.new.few
some c = omega (arith, c.run_few-n.auto.few, c.requires.1)

pub points_from-requires : goal.points_from-requires
points_from-requires c = omega (arith, (known (goal.at.points_from-requires c).After-front_of-h).runs.used)

pub run_few-n-requires : goal.run_few-n-requires
run_few-n-requires c =
    let r = (known (goal.at.run_few-n-requires c).After-front_of-h).runs in
    let h = c.front_of-h.result in (
      c.requires.1,
      omega arith,
      omega (arith, r.p-most),
      omega (arith, r.used, c.requires.0.inside, c.points_from.ensures),
      points-limits (goal.at.run_few-n-requires c).After-points_from,
      apart-first h.p (omega arith) (apart (goal.at.run_few-n-requires c).After-points_from),
      few-none c.args.t.now (c.args.b * 2048 + c.points_from.result) c.args.q c.args.most c.args.few.now,
    )

pub low_end-low-requires : goal.low_end-low-requires
low_end-low-requires c =
    let used = (known (goal.at.low_end-low-requires c).After-front_of-h).runs.used in
    let inside = c.requires.0.inside in
    (omega (arith, c.if-h-eq0.false), omega (arith, c.points_from.ensures), points-limits (goal.at.low_end-low-requires c).After-points_from)

pub floor_few-requires : goal.floor_few-requires
floor_few-requires c =
    (some (goal.at.floor_few-requires c).After-run_few-n, c.run_few-n.ensures.room)

pub returns-then-h-eq0 : goal.returns-then-h-eq0
returns-then-h-eq0 c =
    let a = c.args in
    let h = c.front_of-h.result in
    let few = c.run_few-n.new.few in
    let n = c.run_few-n.result in
    let e : h.p ≡ spot_count a.t.now a.b = omega (arith, all (goal.at.returns-then-h-eq0 c).After-points_from, no-inserts a.t.now a.b h (known (goal.at.returns-then-h-eq0 c).After-front_of-h) c.requires.0 c.if-h-eq0.true) in
    subst (λ (k : ℕ). Few a.t.now (spots_at a.t.now a.b) k a.q a.most few n) e
    (subst (λ (k : ℕ). Few a.t.now k h.p a.q a.most few n) (start (goal.at.returns-then-h-eq0 c).After-points_from) c.run_few-n.ensures)

pub returns-then-top_key-floor_few : goal.returns-then-top_key-floor_few
returns-then-top_key-floor_few c =
    let a = c.args in
    let h = c.front_of-h.result in
    let few = c.run_few-n.new.few in
    let n = c.run_few-n.result in
    let first : Few a.t.now (spots_at a.t.now a.b) h.p a.q a.most few n =
    subst (λ (k : ℕ). Few a.t.now k h.p a.q a.most few n) (start (goal.at.returns-then-top_key-floor_few c).After-points_from) c.run_few-n.ensures in
    let low = c.low_end-low.result in
    let one : OneOf a.t.now (spots_at a.t.now a.b) h.p low = subst (λ (k : ℕ). OneOf a.t.now k h.p low) (start (goal.at.returns-then-top_key-floor_few c).After-points_from) c.low_end-low.ensures in
    let up : rank_of low < few_floor few n / 4294967296 = omega (arith, c.if-top_key-floor_few.true, c.floor_few.ensures, c.top_key.ensures, top-rank low) in
    subst (λ (k : ℕ). Few a.t.now (spots_at a.t.now a.b) k a.q a.most few n) (all (goal.at.returns-then-top_key-floor_few c).After-points_from)
    (inserts-past a.t.now a.b h (known (goal.at.returns-then-top_key-floor_few c).After-front_of-h) c.requires.0 a.q a.most first one up)

pub run_few-requires : goal.run_few-requires
run_few-requires c =
    let r = (known (goal.at.run_few-requires c).After-front_of-h).runs in (
      some (goal.at.run_few-requires c).After-run_few-n,
      omega arith,
      omega (arith, r.p-most, r.i-most),
      omega (arith, r.used, c.requires.0.inside, c.points_from.ensures),
      limits (goal.at.run_few-requires c).After-points_from,
      apart (goal.at.run_few-requires c).After-points_from,
      c.run_few-n.ensures,
    )

pub returns : goal.returns
returns c =
    let a = c.args in
    let few = c.run_few.new.few in
    let n = c.run_few.result in
    subst (λ (k : ℕ). Few a.t.now (spots_at a.t.now a.b) k a.q a.most few n) (all (goal.at.returns c).After-points_from)
    (subst (λ (k : ℕ). Few a.t.now k (c.front_of-h.result.p + c.front_of-h.result.i) a.q a.most few n) (start (goal.at.returns c).After-points_from) c.run_few.ensures)
