-- `many::answer_with` meets its contract: all are counted, then written; their counts and the map of the blocks seen are handed out.
use mathlib.Core.Path.{refl, sym, ap, ◌∙◌}
use Prim.Native.Nat.{ℕ}
use lib.ListN.{take, length-replicate}
use borrow.Author.Tests.{not-true}
use native.Mathlib.Omega.{arith}
use Rattle.table.proofs.Answering.{map_is}
use Rattle.table.proofs.Topping.{map-none}
use Rattle.many.proofs.Answering.{all-broken, all-many, all-given}
use Rattle.many.proofs.answer_with.Goals as goal

pub count_all-requires : goal.count_all-requires
count_all-requires c =
    let pre = c.requires.0 in (
      record {
        sized = pre.sized;
        header = pre.header;
        many = pre.many;
        mapped = c.set_bit.ensures ∙ map-none;
        buffer = pre.buffer;
        numbers = omega (arith, pre.matched, c.requires.1);
      },
      c.requires.2,
    )

pub returns-in_default : goal.returns-in_default
returns-in_default c = all-broken _ _ _ _ _ _ c.in_default.ensures refl

pub returns-then-output-spots : goal.returns-then-output-spots
returns-then-output-spots c = all-many _ _ _ _ _ _ c.in-Some.ensures (omega (arith, c.if-output-spots.true)) refl

pub give_all-requires : goal.give_all-requires
give_all-requires c =
    let pre = c.requires.0 in
    let counted = c.in-Some.ensures in
    record {
      sized = pre.sized;
      many = pre.many;
      whole = not-true _ (sym counted.told);
      counts = counted.counts;
      buffer = omega (arith, pre.buffer, c.count_all.auto.few);
      held = counted.held;
      room = omega (arith, c.if-output-spots.false, counted.spots);
    }

pub copy-requires : goal.copy-requires
copy-requires c =
    (omega (arith, c.count_all.auto.seen, c.set_bit.auto.map, length-replicate {A = ℕ} 512 0), omega (arith, c.requires.0.mapped))

pub returns : goal.returns
returns c =
    all-given _ _ _ _ _ _ c.in-Some.ensures (omega (arith, c.if-output-spots.false)) refl c.give_all.ensures (c.copy_counts.ensures ∙ ap (λ (k : ℕ). take k c.count_all.new.each) c.requires.0.matched)
    (map_is _ c.args.read_map.now _ (c.count_all.auto.seen ∙ c.set_bit.auto.map ∙ length-replicate {A = ℕ} 512 0) c.requires.0.mapped c.copy.ensures)
