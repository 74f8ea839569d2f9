-- `frontier::kid_of` meets its contract.
use Rattle.frontier.specs.Frontier.{kid_count}
use Rattle.visit.proofs.Children.{lent, lent-valid}
use Rattle.visit.specs.Visit.{child_span, entries_in}
use Rattle.block.proofs.Frames.{part-is}
use Rattle.block.specs.NodeRules.{ValidBytes}
use Rattle.block.specs.Access.{front_of, EntryIs}
use Rattle.block.specs.Table.{block}
use Rattle.block.specs.declared.Entry.{Entry}
use Rattle.block.specs.declared.Front.{Front}
use lib.Dec.{eqb}
use Rattle.octets.specs.Bytes.{be}
use Prim.Native.Nat.{ℕ}
use mathlib.Core.Bool.{cond}
use mathlib.Core.List.{List}
use mathlib.Core.Path.{◌≡◌, sym, ap, ap₂, subst, ◌∙◌}
use native.Mathlib.Omega.{arith}
use Rattle.frontier.proofs.kid_of.Goals as goal
use Rattle.frontier.proofs.kid_of.Goals.{After-front_of-c, Start}

-- the number of children, as the code reads it
count : (c : After-front_of-c) → c.front_of-c.result.c ≡ kid_count c.args.t.now c.args.b
unfolding front_of
count c =
    let a = c.args in
    ap (λ (h : Front). h.c) (c.front_of-c.ensures.0 ∙ ap front_of (part-is a.t.now a.b))

-- the bytes that are lent
valid : (c : Start) → ValidBytes (lent c.args.t.now c.args.b)
valid c = let v = c.requires.0 in lent-valid c.args.t.now c.args.b v.level v.asked v.ok (omega (arith, v.inside))

pub entry_at-entry-requires : goal.entry_at-entry-requires
entry_at-entry-requires c =
    (valid (goal.at.entry_at-entry-requires c).Start, omega (arith, c.requires.1, count (goal.at.entry_at-entry-requires c).After-front_of-c, ap (λ (h : Front). h.c) c.front_of-c.ensures.0))

pub child_span-part-requires : goal.child_span-part-requires
unfolding front_of
child_span-part-requires c =
    (valid (goal.at.child_span-part-requires c).Start, omega (arith, c.requires.1, count (goal.at.child_span-part-requires c).After-front_of-c), count (goal.at.child_span-part-requires c).After-front_of-c ∙ sym (ap (λ (x : List ℕ). be 1 x 7) (part-is c.args.t.now c.args.b)))

pub returns : goal.returns
returns c =
    let a = c.args in
    let e : EntryIs (block a.t.now a.b) a.i c.entry_at-entry.result = subst (λ (l : List ℕ). EntryIs l a.i c.entry_at-entry.result) (part-is a.t.now a.b) c.entry_at-entry.ensures in
    record {
      entry = e.same;
      span =
          c.child_span-part.ensures
          ∙ ap₂ (λ (l : List ℕ) (lo : ℕ). child_span (entries_in l) a.i lo a.span) (part-is a.t.now a.b)
          (c.low_of-lo.ensures ∙ ap (λ (x : Entry). cond (eqb a.i 0) a.span.lo x.low) e.same);
      near = e.near;
    }
