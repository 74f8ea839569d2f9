-- `within::say_some` meets its contract: a rule is broken, too many spots, or given with the ceiling that the search says.
use Rattle.within.specs.Within.{said_of}
use Rattle.within.proofs.Saying.{within-broken, within-many, within-given}
use Rattle.table.proofs.Topping.{top-asks}
use Rattle.table.proofs.Answering.{map_is}
use Rattle.spot.specs.Query.{top_query}
use Rattle.top.specs.Runs.{HaltedOn}
use Rattle.top.specs.declared.TopTally.{TopTally}
use Rattle.std.specs.Prelude.{Some, Ok}
use borrow.Author.Tests.{eq-eqb}
use mir.ValLaws.{to_z-of_z}
use mir.Syntax.{w32}
use lib.Dec.{eqb}
use lib.ListN.{length, replicate, length-replicate}
use Prim.Native.Nat.{ℕ, zero}
use mathlib.Core.Bool.{true}
use mathlib.Core.Path.{◌≡◌, ap, ◌∙◌}
use native.Mathlib.Omega.{arith}
use Rattle.within.proofs.say_some.Goals as goal
use Rattle.within.proofs.say_some.Goals.{After-run_within}

-- ---- once the search is made

module _ (p : After-run_within) where
  asks : p.top_query-q.result ≡ top_query p.args.x1 p.args.x2 0
  asks = top-asks _ _ _ _ 0 _ (to_z-of_z w32 _ p.ranges.x1) (to_z-of_z w32 _ p.ranges.x2) p.top_query-q.ensures

  lent : eqb (length p.args.read_map.now) 512 ≡ true
  lent = eq-eqb (length p.args.read_map.now) 512 p.requires.mapped

  mapped : length p.run_within.new.seen ≡ 512
  mapped = p.run_within.auto.seen ∙ length-replicate {A = ℕ} 512 0

  buffer : length p.run_within.new.out ≡ 6144
  buffer = p.run_within.auto.out ∙ length-replicate 6144 zero

  -- it is at its end
  halted : {s : TopTally} → p.run_within.result ≡ Some s
      → HaltedOn p.args.table.now p.args.x1 p.args.x2 p.args.k p.args.allowance 512 (replicate 6144 zero) p.run_within.new.seen p.run_within.new.out s.spots s.ceiling
  halted {s} h = p.run_within.ensures.ends p.args.x1 p.args.x2 asks s h

-- ---- the needs

pub returns-in_default : goal.returns-in_default
returns-in_default c =
    let a = c.args in
    within-broken a.x1 a.x2 a.k a.allowance a.table.now a.output.now a.read_map.now c.requires.sized (lent (goal.at.returns-in_default c).After-run_within) _
    (c.run_within.ensures.fails a.x1 a.x2 (asks (goal.at.returns-in_default c).After-run_within) c.in_default.is).within
    c.tell.ensures

pub unbias-left-requires : goal.unbias-left-requires
unbias-left-requires c = (halted (goal.at.unbias-left-requires c).After-run_within c.in-Some.is).halted.low

pub overflow_cast-given : goal.overflow_cast-given
overflow_cast-given c = omega (arith, (halted (goal.at.overflow_cast-given c).After-run_within c.in-Some.is).halted.few, c.ranges.k)

pub returns-then-output-n : goal.returns-then-output-n
returns-then-output-n c =
    let a = c.args in
    let h = (halted (goal.at.returns-then-output-n c).After-run_within c.in-Some.is).halted in
    within-many a.x1 a.x2 a.k a.allowance a.table.now a.output.now a.read_map.now c.requires.sized (lent (goal.at.returns-then-output-n c).After-run_within) _ _ h.sure.whole
    (h.counted ∙ h.sure.many)
    c.if-output-n.true
    c.tell-then-output-n.ensures

pub deliver-requires : goal.deliver-requires
deliver-requires c =
    let p = c.requires in
    record {
      x1 = c.args.x1;
      x2 = c.args.x2;
      asks = asks (goal.at.deliver-requires c).After-run_within;
      sized = p.sized;
      mapped = mapped (goal.at.deliver-requires c).After-run_within;
      buffer = buffer (goal.at.deliver-requires c).After-run_within;
      some = p.some;
      allowed = p.allowed;
      fits = omega (arith, c.if-output-n.false);
      base = _;
      ceiling = _;
      halted = halted (goal.at.deliver-requires c).After-run_within c.in-Some.is;
    }

pub returns : goal.returns
returns c =
    let a = c.args in
    let ceiling = to_z-of_z w32 c.unbias-left.result (record { sfits = c.unbias-left.type_inv }) ∙ c.unbias-left.ensures in
    within-given a.x1 a.x2 a.k a.allowance a.table.now a.output.now a.read_map.now c.requires.sized (lent (goal.at.returns c).After-run_within) _ _ _ _ _ _
    (c.deliver.ensures.ends a.x1 a.x2 (asks (goal.at.returns c).After-run_within))
    (halted (goal.at.returns c).After-run_within c.in-Some.is).halted.sure
    c.if-output-n.false
    (map_is _ a.read_map.now _ (c.deliver.auto.read ∙ mapped (goal.at.returns c).After-run_within) c.requires.mapped c.copy.ensures)
    (c.tell-2.ensures ∙ ap (said_of (Ok c.in-Some.found.spots)) ceiling)
