-- `many::count_all` meets its contract: the first i reports are counted, unless one is broken.
use mathlib.Core.Path.{◌≡◌, refl, ap, sym, ◌∙◌}
use Prim.Native.Nat.{◌+◌, ◌*◌, ◌-◌, ◌≤◌, ◌<◌}
use mathlib.Core.List.{[]}
use lib.ListN.{length, length-set}
use borrow.Author.Rules.{rules}
use borrow.Rule.Slice.PartMut.{same_len_mid}
use native.Mathlib.Omega.{arith}
use Rattle.tree.proofs.MapBits.{read_length}
use Rattle.buffer.proofs.Lists.{length-image}
use Rattle.memo.proofs.Remembering.{still-more}
use Rattle.many.proofs.Counting.{counting-start, counting-next, counting-broken, counted-broken, counting-all}
use Rattle.many.proofs.count_all.Goals as goal
use Rattle.many.proofs.count_all.Goals.{In-loop-i, Start}

pub loop-i-init : goal.loop-i-init
loop-i-init c =
    (refl, refl, counting-start _ _ c.requires.0.header c.requires.0.mapped, record { right = c.requires.1; sized = refl })

-- what is known in the loop: the i-th has its part of the buffer and its number
record Within (c : In-loop-i) : Type 0 where
  few : c.loop-i.i < 64
  room : 1536 * c.loop-i.i + 1536 ≤ length c.loop-i.few
  number : c.loop-i.i < length c.loop-i.each

within : (c : In-loop-i) → Within c
within c =
    let pre = c.requires.0 in
    let l = c.loop-i in
    record {
      few = omega (arith, c.loop-i-test.true, pre.many);
      room = omega (arith, c.loop-i-test.true, pre.buffer, l.invariant.0);
      number = omega (arith, c.loop-i-test.true, pre.numbers, l.invariant.1);
    }

long : (s : Start) → length s.args.b.all ≡ 64
long s = search (rules, length-image)

pub slice_bounds-count_one-end : goal.slice_bounds-count_one-end
slice_bounds-count_one-end c = omega (arith, within (goal.at.slice_bounds-count_one-end c).In-loop-i)

pub count_one-requires : goal.count_one-requires
count_one-requires c =
    (c.requires.0.sized, c.loop-i.invariant.2.mapped, c.loop-i.invariant.3.right)

pub returns-in_err-one : goal.returns-in_err-one
returns-in_err-one c =
    let l = c.loop-i in
    let w = within (goal.at.returns-in_err-one c).In-loop-i in
    rw c.from_residual.ensures (counted-broken _ _ (counting-broken _ _ c.requires.0.header l.invariant.2 (omega (arith, w.few, long (goal.at.returns-in_err-one c).Start)) c.in_err-one.ensures.0 _ c.loop-i-test.true refl))

pub loop-i-preserved : goal.loop-i-preserved
loop-i-preserved c =
    let bytes = c.slice_known-in-loop-i-1 in
    let l = c.loop-i in
    let o = c.in_ok-one.ensures.0 in
    let w = within (goal.at.loop-i-preserved c).In-loop-i in
    let wide : 1536 * l.i + 1536 - 1536 * l.i ≡ 1536 = omega arith in (
      same_len_mid (1536 * l.i) (1536 * l.i + 1536 - 1536 * l.i) l.few c.count_one.new.few o.held.sized ∙ l.invariant.0,
      simp length-set l.invariant.1,
      counting-next _ _ c.requires.0.header l.invariant.2 (omega (arith, w.few, long (goal.at.loop-i-preserved c).Start)) _ wide o (λ j. omega (arith, bytes.given j)) (omega (arith, w.room, wide)) w.number,
      still-more l.invariant.3 c.in_ok-one.ensures.1,
    )

pub shape_of-seen : goal.shape_of-seen
shape_of-seen c = c.loop-i.invariant.2.mapped ∙ sym (ap length c.requires.0.mapped ∙ read_length [])

pub returns : goal.returns
returns c =
    let l = c.loop-i in
    counting-all _ _ c.requires.0.many (omega (arith, c.loop-i-test.false)) l.invariant.2

pub overflow_mul-from : goal.overflow_mul-from
overflow_mul-from c = omega (arith, within (goal.at.overflow_mul-from c).In-loop-i)

pub offset_bounds-all-i : goal.offset_bounds-all-i
offset_bounds-all-i c = omega (arith, within (goal.at.offset_bounds-all-i c).In-loop-i)

pub bounds-all-i : goal.bounds-all-i
bounds-all-i c = (within (goal.at.bounds-all-i c).In-loop-i).few

pub overflow_add-from : goal.overflow_add-from
overflow_add-from c = omega (arith, within (goal.at.overflow_add-from c).In-loop-i)

pub overflow_add-spots : goal.overflow_add-spots
overflow_add-spots c = omega (arith, c.in_ok-one.ensures.0.bounded, c.loop-i.invariant.2.bounded, within (goal.at.overflow_add-spots c).In-loop-i)

pub overflow_cast-each : goal.overflow_cast-each
overflow_cast-each c = omega (arith, c.in_ok-one.ensures.0.bounded)

pub offset_bounds-each-i : goal.offset_bounds-each-i
offset_bounds-each-i c = omega (arith, within (goal.at.offset_bounds-each-i c).In-loop-i)

pub bounds-each-i : goal.bounds-each-i
bounds-each-i c = (within (goal.at.bounds-each-i c).In-loop-i).number

pub shape_of-few : goal.shape_of-few
shape_of-few c = c.loop-i.invariant.0

pub shape_of-each : goal.shape_of-each
shape_of-each c = c.loop-i.invariant.1

pub shape_of-known : goal.shape_of-known
shape_of-known c = c.loop-i.invariant.3.sized
