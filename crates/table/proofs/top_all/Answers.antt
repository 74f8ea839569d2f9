-- `table::top_all` meets its contract: Top's walk is the walk at the lowest rank, or the one from the rank of the last spot.
use Rattle.table.proofs.Topping.{top-asks}
use mir.ValLaws.{to_z-of_z}
use mir.Syntax.{w32}
use Rattle.table.proofs.Writing.{found-limited, last-limited, fewer-written, full-written}
use Rattle.top.proofs.Sweeps.{zeroed}
use native.Mathlib.Omega.{arith}
use Rattle.table.proofs.top_all.Goals as goal

pub by_top-requires : goal.by_top-requires
by_top-requires c =
    let a = c.args in
    (omega (arith, c.requires.0.fits, c.collect_table.auto.out), found-limited a.table.now a.q a.n _ a.output.now _ c.requires.1.count c.collect_table.ensures)

pub returns-then-n-k : goal.returns-then-n-k
returns-then-n-k c =
    let a = c.args in
    let found = c.collect_table in
    let sorted = c.by_top in
    fewer-written a.table.now a.q a.k a.n _ a.read.now a.output.now found.new.out sorted.new.out c.requires.1 found.ensures sorted.ensures
    (λ i. omega (arith, c.slice_known-4-1.given i))
    found.auto.out
    c.requires.0.fits
    c.if-n-k.true

pub read_key-last-requires : goal.read_key-last-requires
read_key-last-requires c =
    let a = c.args in
    let many = c.if-n-k.false in (
      omega (arith, c.requires.0.some, c.requires.0.fits, c.collect_table.auto.out, c.by_top.auto.out),
      last-limited a.table.now a.q a.n _ a.output.now _ _ c.requires.1.count c.collect_table.ensures c.by_top.ensures
          (omega (arith, c.requires.0.some)),
    )

pub count_table-requires : goal.count_table-requires
count_table-requires c =
    (c.requires.0.sized, zeroed c.args.read.now c.requires.0.mapped c.zero.ensures)

pub returns : goal.returns
returns c =
    let a = c.args in
    let found = c.collect_table in
    let sorted = c.by_top in
    let known = c.slice_known-4-1 in
    let last = c.read_key-last in
    let told = c.struct_told-1.given in
    let asks = c.top_query in
    full-written a.table.now a.q a.k a.n _ a.read.now a.output.now found.new.out sorted.new.out c.requires.1 found.ensures sorted.ensures
    (λ i. omega (arith, known.given i))
    found.auto.out
    c.requires.0.fits
    (omega (arith, c.if-n-k.false, c.requires.1.few))
    c.requires.0.some
    last.result
    last.ensures.0
    _
    asks.result
    _
    (top-asks a.q.x1 a.q.x2 _ _ _ _ (to_z-of_z w32 a.q.x1 (record { sfits = told.0.1 })) (to_z-of_z w32 a.q.x2 (record { sfits = told.1.0.1 })) asks.ensures)
    c.count_table.ensures
