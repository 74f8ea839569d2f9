-- `frontier::kid_key` meets its contract: there is no such child, it is not admitted, or its promise and its block count.
use Rattle.frontier.proofs.Kids.{cell-past, cell-no, cell-yes, key-none, key-yes}
use Rattle.frontier.proofs.Spots.{part-sizes}
use Rattle.frontier.specs.Frontier.{kid_count, kid_cell}
use Rattle.block.specs.declared.Entry.{Entry}
use Rattle.spot.specs.Keys.{rank_of}
use Prim.Native.Nat.{ℕ, ◌+◌, ◌-◌, ◌*◌, ◌/◌}
use mathlib.Core.Path.{◌≡◌, ap, ◌∙◌}
use native.Mathlib.Omega.{arith}
use Rattle.frontier.proofs.kid_key.Goals as goal
use Rattle.frontier.proofs.kid_key.Goals.{After-front_of-c}

-- the number of children, as the code reads it
count : (c : After-front_of-c) → c.front_of-c.result.c ≡ kid_count c.args.t.now c.args.b
count c = (part-sizes c.args.t.now c.args.b c.requires c.front_of-c.ensures.0).children

pub returns-then-c-i : goal.returns-then-c-i
returns-then-c-i c =
    let a = c.args in
    key-none a.t.now a.b a.span a.q a.i (cell-past a.t.now a.b a.span a.q a.i (omega (arith, c.if-c-i.true, count (goal.at.returns-then-c-i c).After-front_of-c)))

pub kid_of-kid-requires : goal.kid_of-kid-requires
kid_of-kid-requires c = (c.requires, omega (arith, c.if-c-i.false, count (goal.at.kid_of-kid-requires c).After-front_of-c))

pub returns-then-not-admits_child : goal.returns-then-not-admits_child
returns-then-not-admits_child c =
    let a = c.args in
    let k = c.kid_of-kid.ensures in
    key-none a.t.now a.b a.span a.q a.i
    (cell-no a.t.now a.b a.span a.q a.i (omega (arith, c.if-c-i.false, count (goal.at.returns-then-not-admits_child c).After-front_of-c)) k.entry k.span c.admits_child.ensures
    c.if-not-admits_child.true)

pub returns : goal.returns
returns c =
    let a = c.args in
    let k = c.kid_of-kid.ensures in
    let e = c.kid_of-kid.result.entry in
    let cell : rank_of e.top + 1 ≡ kid_cell a.t.now a.b a.span a.q a.i =
    cell-yes a.t.now a.b a.span a.q a.i (omega (arith, c.if-c-i.false, count (goal.at.returns c).After-front_of-c)) k.entry k.span c.admits_child.ensures
    c.if-not-admits_child.false in
    ap (λ (x : ℕ). (x / 4294967296 + 1) * 65536 + (65535 - e.block)) c.rank_key.ensures
    ∙ key-yes a.t.now a.b a.span a.q a.i (rank_of e.top) cell (ap (λ (x : Entry). x.block) k.entry)
