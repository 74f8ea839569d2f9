-- `table::top` meets its contract: refused by the lengths, a rule is broken, too many spots, or given from the small buffer or straight into the output.
use Rattle.table.proofs.Topping.{top-short, top_lent, top-zero, top-broken, top-many, top-few, top-wide, top-asks}
use Rattle.table.proofs.Answering.{map_is}
use Rattle.spot.specs.Query.{top_query}
use Rattle.block.specs.Table.{table_sized}
use borrow.Author.Tests.{ne_eqb, eq-eqb}
use mir.ValLaws.{to_z-of_z}
use mir.Syntax.{w32}
use lib.Dec.{eqb}
use lib.ListN.{length, length-replicate}
use Prim.Native.Nat.{ℕ, zero}
use mathlib.Core.Bool.{true}
use mathlib.Core.Path.{◌≡◌, refl, sym, ap, ◌∙◌}
use Rattle.table.specs.TopSizes.{is_held}
use native.Mathlib.Omega.{arith}
use Rattle.table.proofs.top.Goals as goal
use Rattle.table.proofs.top.Goals.{After-top_query-q}

-- ---- once the query is made

module _ (p : After-top_query-q) where
  sized : table_sized (length p.args.table.now) ≡ true
  sized = sym p.sized.ensures ∙ p.if-not-sized.false

  mapped : length p.args.read_map.now ≡ 512
  mapped = omega (arith, p.if-read_map-ne512.false)

  lent : eqb (length p.args.read_map.now) 512 ≡ true
  lent = eq-eqb (length p.args.read_map.now) 512 mapped

  asks : p.top_query-q.result ≡ top_query p.args.x1 p.args.x2 0
  asks = top-asks _ _ _ _ 0 _ (to_z-of_z w32 _ p.ranges.x1) (to_z-of_z w32 _ p.ranges.x2) p.top_query-q.ensures

-- ---- the needs

pub returns-then-not-sized : goal.returns-then-not-sized
returns-then-not-sized c =
    let a = c.args in
    top-short a.x1 a.x2 a.k a.table.now a.output.now a.read_map.now _ (sym c.sized.ensures ∙ c.if-not-sized.true)
    refl

pub returns-then-read_map-ne512 : goal.returns-then-read_map-ne512
returns-then-read_map-ne512 c =
    let a = c.args in
    top_lent a.x1 a.x2 a.k a.table.now a.output.now a.read_map.now _ (sym c.sized.ensures ∙ c.if-not-sized.false)
    (ne_eqb (length a.read_map.now) 512 (λ h. omega (arith, c.if-read_map-ne512.true)))
    refl

pub top_none-requires : goal.top_none-requires
top_none-requires c = ((sym c.sized.ensures ∙ c.if-not-sized.false), omega arith)

pub returns-then-k-eq0 : goal.returns-then-k-eq0
returns-then-k-eq0 c =
    let a = c.args in
    top-zero a.x1 a.x2 a.k a.table.now a.output.now a.read_map.now _ _ c.if-k-eq0.true
    (sym c.sized.ensures ∙ c.if-not-sized.false)
    (eq-eqb (length a.read_map.now) 512 (omega (arith, c.if-read_map-ne512.false)))
    c.top_none.ensures

pub top_size-requires : goal.top_size-requires
top_size-requires c =
    record {
      x1 = c.args.x1;
      x2 = c.args.x2;
      asks = asks (goal.at.top_size-requires c).After-top_query-q;
      sized = sized (goal.at.top_size-requires c).After-top_query-q;
      clear = refl;
      some = omega (arith, c.if-k-eq0.false);
      fits = omega (arith, length-replicate 6144 zero);
    }

pub returns-in_default : goal.returns-in_default
returns-in_default c =
    let a = c.args in
    top-broken a.x1 a.x2 a.k a.table.now a.output.now a.read_map.now (sized (goal.at.returns-in_default c).After-top_query-q) (lent (goal.at.returns-in_default c).After-top_query-q) _
    (c.in_default.ensures.fails a.x1 a.x2 (asks (goal.at.returns-in_default c).After-top_query-q))
    refl

pub overflow_cast-given : goal.overflow_cast-given
overflow_cast-given c =
    let g = c.in-Some.ensures.gives c.args.x1 c.args.x2 (asks (goal.at.overflow_cast-given c).After-top_query-q) in
    omega (arith, g.few)

pub returns-then-output-n : goal.returns-then-output-n
returns-then-output-n c =
    let a = c.args in
    let g = c.in-Some.ensures.gives a.x1 a.x2 (asks (goal.at.returns-then-output-n c).After-top_query-q) in
    top-many a.x1 a.x2 a.k a.table.now a.output.now a.read_map.now (sized (goal.at.returns-then-output-n c).After-top_query-q) (lent (goal.at.returns-then-output-n c).After-top_query-q) _ _ g c.if-output-n.true refl

pub overflow_mul-n : goal.overflow_mul-n
overflow_mul-n c = omega (arith, c.in-Some.ensures.small (ap is_held c.in-Held.is))

pub copy-requires : goal.copy-requires
copy-requires c =
    let z = c.top_size in
    (omega (arith, z.auto.few, length-replicate 6144 zero, c.in-Some.ensures.small (ap is_held c.in-Held.is)), omega (arith, c.if-output-n.false))

pub copy-requires-in-Held : goal.copy-requires-in-Held
copy-requires-in-Held c = (omega (arith, c.top_size.auto.read, length-replicate {A = ℕ} 512 0), omega arith)

pub returns-in-Held : goal.returns-in-Held
returns-in-Held c =
    let a = c.args in
    let z = c.top_size in
    let in-few = ap is_held c.in-Held.is in
    let v = c.in-Some.ensures.held a.x1 a.x2 (asks (goal.at.returns-in-Held c).After-top_query-q) in-few in
    top-few a.x1 a.x2 a.k a.table.now a.output.now a.read_map.now (sized (goal.at.returns-in-Held c).After-top_query-q) (lent (goal.at.returns-in-Held c).After-top_query-q) _ _ _ _ _ _ _ v.ended (c.in-Some.ensures.small in-few)
    c.if-output-n.false
    refl
    c.copy.ensures
    (map_is _ a.read_map.now _ (z.auto.read ∙ length-replicate {A = ℕ} 512 0) (mapped (goal.at.returns-in-Held c).After-top_query-q) c.copy-in-Held.ensures)

pub top_write-requires : goal.top_write-requires
top_write-requires c =
    let z = c.top_size in (
      record {
        x1 = c.args.x1;
        x2 = c.args.x2;
        asks = asks (goal.at.top_write-requires c).After-top_query-q;
        sized = sized (goal.at.top_write-requires c).After-top_query-q;
        some = omega (arith, c.if-k-eq0.false);
        fits = omega (arith, c.if-output-n.false);
        mapped = z.auto.read ∙ length-replicate {A = ℕ} 512 0;
      },
      λ h. c.in-Some.ensures.all h,
    )

pub copy-requires-2 : goal.copy-requires-2
copy-requires-2 c = (omega (arith, c.top_write.auto.read, c.top_size.auto.read, length-replicate {A = ℕ} 512 0), omega arith)

pub returns : goal.returns
returns c =
    let a = c.args in
    let z = c.top_size in
    let g = c.in-Some.ensures.gives a.x1 a.x2 (asks (goal.at.returns c).After-top_query-q) in
    let w = c.top_write in
    top-wide a.x1 a.x2 a.k a.table.now a.output.now a.read_map.now (sized (goal.at.returns c).After-top_query-q) (lent (goal.at.returns c).After-top_query-q) _ _ _ _ _ g (w.ensures.ends a.x1 a.x2 (asks (goal.at.returns c).After-top_query-q) g)
    c.if-output-n.false
    refl
    (map_is _ a.read_map.now _ (w.auto.read ∙ z.auto.read ∙ length-replicate {A = ℕ} 512 0) (mapped (goal.at.returns c).After-top_query-q) c.copy-2.ensures)
