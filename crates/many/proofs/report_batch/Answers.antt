-- `many::report_batch` meets its contract: refused by lengths and arguments, by block 0, or answered.
use mathlib.Core.Path.{◌≡◌, refl, sym, ◌∙◌}
use mathlib.Core.Bool.{true}
use mathlib.Core.List.{List}
use Prim.Native.Nat.{ℕ, ◌*◌, ◌≤◌}
use lib.ListN.{length, length-replicate}
use native.Mathlib.Omega.{arith}
use Rattle.block.specs.Table.{table_sized}
use Rattle.visit.proofs.Roots.{sized-long}
use Rattle.many.specs.Many.{Answerable}
use Rattle.many.proofs.Answering.{lengths-right, many-short, many-lent, many-over, many-header, many-answered}
use Rattle.many.proofs.report_batch.Goals as goal
use Rattle.many.proofs.report_batch.Goals.{Else-not-header_ok, Else-read_map-counts}

pub returns-then-not-sized : goal.returns-then-not-sized
returns-then-not-sized c = many-short _ _ _ _ _ _ (sym c.sized.ensures ∙ c.if-not-sized.true) refl

pub returns-then-read_map-counts : goal.returns-then-read_map-counts
returns-then-read_map-counts c =
    many-lent _ _ _ _ _ _ (sym c.sized.ensures ∙ c.if-not-sized.false) c.if-read_map-counts.true refl

-- what is known once the lengths are right
record Fitting (c : Else-read_map-counts) : Type 0 where
  sized : table_sized (length c.args.table.now) ≡ true
  mapped : length c.args.read_map.now ≡ 512
  matched : length c.args.counts.now ≡ c.args.b.n

fitting : (c : Else-read_map-counts) → Fitting c
fitting c =
    let args = c.args in
    let lengths = lengths-right args.read_map.now args.counts.now args.b.n c.if-read_map-counts.false in
    record { sized = sym c.sized.ensures ∙ c.if-not-sized.false; mapped = lengths.0; matched = lengths.1 }

pub returns-then-b-gt64 : goal.returns-then-b-gt64
returns-then-b-gt64 c =
    let k = fitting (goal.at.returns-then-b-gt64 c).Else-read_map-counts in
    many-over _ _ _ _ _ _ k.sized k.mapped k.matched (omega (arith, c.if-b-gt64.true)) refl

pub header_ok-requires : goal.header_ok-requires
header_ok-requires c =
    sized-long c.args.table.now (fitting (goal.at.header_ok-requires c).Else-read_map-counts).sized

pub returns-then-not-header_ok : goal.returns-then-not-header_ok
returns-then-not-header_ok c =
    let k = fitting (goal.at.returns-then-not-header_ok c).Else-read_map-counts in
    many-header _ _ _ _ _ _ k.sized k.mapped k.matched (omega (arith, c.if-b-gt64.false)) (sym c.header_ok.ensures ∙ c.if-not-header_ok.true) refl

-- all can be answered, with a buffer that has room for each
answerable : (c : Else-not-header_ok) (few : List ℕ) → 1536 * c.args.b.n ≤ length few
    → Answerable c.args.b c.args.table.now few c.args.counts.now c.args.read_map.now
answerable c few room =
    let lengths = lengths-right c.args.read_map.now c.args.counts.now c.args.b.n c.if-read_map-counts.false in
    record {
      sized = sym c.sized.ensures ∙ c.if-not-sized.false;
      mapped = lengths.0;
      matched = lengths.1;
      many = omega (arith, c.if-b-gt64.false);
      header = sym c.header_ok.ensures ∙ c.if-not-header_ok.false;
      buffer = room;
    }

pub answer_in-requires : goal.answer_in-requires
answer_in-requires c =
    (answerable (goal.at.answer_in-requires c).Else-not-header_ok _ (omega (arith, c.if-b-le4.true, length-replicate {A = ℕ} 6144 0)), omega arith, omega arith)

pub returns-then-b-le4 : goal.returns-then-b-le4
returns-then-b-le4 c =
    let k = fitting (goal.at.returns-then-b-le4 c).Else-read_map-counts in
    many-answered _ _ _ _ _ _ k.sized k.mapped k.matched (omega (arith, c.if-b-gt64.false)) c.answer_in.ensures

pub answer_in-requires-then-b-le16 : goal.answer_in-requires-then-b-le16
answer_in-requires-then-b-le16 c =
    (answerable (goal.at.answer_in-requires-then-b-le16 c).Else-not-header_ok _ (omega (arith, c.if-b-le16.true, length-replicate {A = ℕ} 24576 0)), omega arith, omega arith)

pub returns-then-b-le16 : goal.returns-then-b-le16
returns-then-b-le16 c =
    let k = fitting (goal.at.returns-then-b-le16 c).Else-read_map-counts in
    many-answered _ _ _ _ _ _ k.sized k.mapped k.matched (omega (arith, c.if-b-gt64.false)) c.answer_in-then-b-le16.ensures

pub answer_in-requires-2 : goal.answer_in-requires-2
answer_in-requires-2 c =
    (answerable (goal.at.answer_in-requires-2 c).Else-not-header_ok _ (omega (arith, c.if-b-gt64.false, length-replicate {A = ℕ} 98304 0)), omega arith, omega arith)

pub returns : goal.returns
returns c =
    let k = fitting (goal.at.returns c).Else-read_map-counts in
    many-answered _ _ _ _ _ _ k.sized k.mapped k.matched (omega (arith, c.if-b-gt64.false)) c.answer_in-2.ensures
