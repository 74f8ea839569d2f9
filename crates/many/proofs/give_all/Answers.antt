-- `many::give_all` meets its contract: the first i reports are written.
use mathlib.Core.Path.{◌≡◌, refl}
use Prim.Native.Nat.{◌+◌, ◌*◌, ◌-◌, ◌≤◌, ◌<◌}
use lib.ListN.{length, get_or}
use mir.Syntax.{w32}
use mir.ValLaws.{to_z-of_z}
use borrow.Author.Rules.{rules}
use native.Mathlib.Omega.{arith}
use Rattle.buffer.proofs.Lists.{length-image}
use Rattle.many.proofs.Giving.{giving-start, giving-next, giving-all, givable, numbered, room}
use Rattle.many.proofs.give_all.Goals as goal
use Rattle.many.proofs.give_all.Goals.{In-loop-i, Start}

pub loop-i-init : goal.loop-i-init
loop-i-init c = giving-start _ _ _ _ _ c.requires

long : (s : Start) → length s.args.b.all ≡ 64
long s = search (rules, length-image)

-- what is known in the loop: the i-th has its part of the buffer, its number, and room
record Within (c : In-loop-i) : Type 0 where
  few : c.loop-i.i < 64
  buffer : 1536 * c.loop-i.i + 1536 ≤ length c.args.few.now
  number : c.loop-i.i < length c.args.each.now
  left : c.loop-i.at + 12 * get_or c.args.each.now c.loop-i.i 0 ≤ length c.loop-i.output

within : (c : In-loop-i) → Within c
within c =
    let known = c.requires in
    record {
      few = omega (arith, known.many, c.loop-i-test.true);
      buffer = omega (arith, known.buffer, c.loop-i-test.true);
      number = numbered _ _ _ _ _ known (let s : length c.args.b.all ≡ 64 = search (rules, length-image) in s) c.loop-i.invariant c.loop-i-test.true;
      left = room _ _ _ _ _ known (let s : length c.args.b.all ≡ 64 = search (rules, length-image) in s) c.loop-i.invariant c.loop-i-test.true;
    }

pub give-requires : goal.give-requires
give-requires c =
    let told = c.struct_told-in-loop-i-2-1.given in
    let l = c.loop-i in
    givable _ _ _ _ _ c.requires (long (goal.at.give-requires c).Start) l.invariant c.loop-i-test.true (to_z-of_z w32 _ (record { sfits = told.0.1 })) (to_z-of_z w32 _ (record { sfits = told.1.0.1 })) (to_z-of_z w32 _ (record { sfits = told.1.1.0.1 })) _ refl
    (1536 * l.i + 1536 - 1536 * l.i)
    (omega arith)

pub overflow_mul-at : goal.overflow_mul-at
overflow_mul-at c =
    let known = c.shared_slice_known-in-loop-i-1 in
    omega (arith, known.given c.loop-i.i)

pub overflow_add-at : goal.overflow_add-at
overflow_add-at c =
    omega (arith, within (goal.at.overflow_add-at c).In-loop-i, c.loop-i.invariant.sized, c.well_formed)

pub loop-i-preserved : goal.loop-i-preserved
loop-i-preserved c =
    let told = c.struct_told-in-loop-i-2-1.given in
    giving-next _ _ _ _ _ c.requires (long (goal.at.loop-i-preserved c).Start) c.loop-i.invariant c.loop-i-test.true (to_z-of_z w32 _ (record { sfits = told.0.1 })) (to_z-of_z w32 _ (record { sfits = told.1.0.1 })) (to_z-of_z w32 _ (record { sfits = told.1.1.0.1 })) _ refl
    c.give.auto.output
    c.give.ensures

pub returns : goal.returns
returns c =
    giving-all _ _ _ _ _ c.requires c.loop-i.invariant (omega (arith, c.loop-i-test.false))

pub offset_bounds-all-i : goal.offset_bounds-all-i
offset_bounds-all-i c = omega (arith, within (goal.at.offset_bounds-all-i c).In-loop-i)

pub bounds-all-i : goal.bounds-all-i
bounds-all-i c = (within (goal.at.bounds-all-i c).In-loop-i).few

pub offset_bounds-each-i : goal.offset_bounds-each-i
offset_bounds-each-i c = omega (arith, within (goal.at.offset_bounds-each-i c).In-loop-i)

pub bounds-each-i : goal.bounds-each-i
bounds-each-i c = (within (goal.at.bounds-each-i c).In-loop-i).number

pub overflow_cast-found : goal.overflow_cast-found
overflow_cast-found c = omega (arith, c.shared_slice_known-in-loop-i-1.given c.loop-i.i)

pub overflow_mul-from : goal.overflow_mul-from
overflow_mul-from c = omega (arith, within (goal.at.overflow_mul-from c).In-loop-i)

pub overflow_add-from : goal.overflow_add-from
overflow_add-from c = omega (arith, within (goal.at.overflow_add-from c).In-loop-i)

pub slice_bounds-give-end : goal.slice_bounds-give-end
slice_bounds-give-end c = omega (arith, within (goal.at.slice_bounds-give-end c).In-loop-i)

pub slice_bounds-give-count-in-loop-i : goal.slice_bounds-give-count-in-loop-i
slice_bounds-give-count-in-loop-i c = omega (arith, within (goal.at.slice_bounds-give-count-in-loop-i c).In-loop-i)

pub slice_bounds-give-start-in-loop-i : goal.slice_bounds-give-start-in-loop-i
slice_bounds-give-start-in-loop-i c = omega (arith, within (goal.at.slice_bounds-give-start-in-loop-i c).In-loop-i)

pub shape_of-output : goal.shape_of-output
shape_of-output c = c.loop-i.invariant.sized
