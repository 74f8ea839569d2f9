-- `batch::pick_inserts` meets its contract.
use mathlib.Core.Path.{◌≡◌, refl, sym, ◌∙◌}
use Prim.Native.Nat.{◌≤◌, ◌/◌, ◌+◌}
use native.Mathlib.Omega.{arith}
use borrow.Author.Rules.{rules}
use lib.ListN.{length}
use lib.Seq.{length-take-le}
use Rattle.spot.specs.Spots.{keys}
use Rattle.spot.proofs.Buffers.{keys_length}
use Rattle.buffer.specs.Buffer.{held}
use Rattle.buffer.proofs.Lists.{length-image}
use Rattle.buffer.proofs.Laws.{held-length}
use Rattle.node.specs.Memory.{entries_of}
use Rattle.batch.proofs.Picks.{Share, share-of, picked-inserts}
use Rattle.batch.proofs.pick_inserts.Goals as goal
use Rattle.batch.proofs.pick_inserts.Goals.{After-end_of-end, Start}

entry-count : (c : Start) → length (entries_of c.args.n.entries) ≡ c.args.n.entries.n
entry-count c =
    let es = c.args.n.entries in
    let h : length es.list ≡ 8 = search (rules, length-image) in
    length-take-le es.n es.list (omega (arith, c.requires.2))

long : (c : Start) → length (held c.args.n.inserts) ≡ c.args.n.inserts.n
long c = held-length c.args.n.inserts (search (rules, length-image)) c.requires.0.inserts.fits

pub start_of-start-requires : goal.start_of-start-requires
start_of-start-requires c =
    (omega (arith, c.fullest-child.ensures.there, entry-count (goal.at.start_of-start-requires c).Start), c.requires.2, c.requires.0.inserts)

pub overflow_add-child : goal.overflow_add-child
overflow_add-child c = omega (arith, c.fullest-child.ensures.there, entry-count (goal.at.overflow_add-child c).Start, c.requires.2)

share : (c : After-end_of-end)
    → let n = c.args.n in
    Share n (keys (held n.inserts)) n.inserts.n c.fullest-child.result c.start_of-start.result c.end_of-end.result
share c =
    let n = c.args.n in
    share-of n c.requires.3 ((let es = c.args.n.entries in let h : length es.list ≡ 8 = search (rules, length-image) in length-take-le es.n es.list (omega (arith, c.requires.2)))) c.requires.2 (keys (held n.inserts)) n.inserts.n c.fullest-child.result c.start_of-start.result c.end_of-end.result (sym (keys_length (held n.inserts) ∙ (held-length c.args.n.inserts (search (rules, length-image)) c.requires.0.inserts.fits)))
    c.fullest-child.ensures c.start_of-start.ensures c.end_of-end.ensures

few : (c : Start) → (c.args.n.inserts.n + 7) / 8 ≤ 16
few c = omega (arith, c.requires.0.inserts.fits)

pub part_end-stop-requires : goal.part_end-stop-requires
part_end-stop-requires c = ((share (goal.at.part_end-stop-requires c).After-end_of-end).order, few (goal.at.part_end-stop-requires c).Start)

pub between-down-requires : goal.between-down-requires
between-down-requires c =
    let b = c.part_end-stop.ensures in
    (c.requires.0.inserts, b.from, omega (arith, b.to, (share (goal.at.between-down-requires c).After-end_of-end).inside))

pub outside-inserts-requires : goal.outside-inserts-requires
outside-inserts-requires c =
    let b = c.part_end-stop.ensures in
    let e = share (goal.at.outside-inserts-requires c).After-end_of-end in
    (c.requires.0.inserts, omega (arith, b.from, b.to, e.order), omega (arith, b.to, e.inside))

pub returns : goal.returns
returns c =
    let d = c.between-down in
    let o = c.outside-inserts in
    let z = c.empty-none in
    picked-inserts c.args.n c.requires.3 (entry-count (goal.at.returns c).Start) c.requires.2 c.requires.0 c.fullest-child.result c.start_of-start.result c.end_of-end.result ((c.args.n.inserts.n + 7) / 8) c.part_end-stop.result
    (few (goal.at.returns c).Start) c.part_end-stop.ensures d.result o.result z.result (long (goal.at.returns c).Start) (share (goal.at.returns c).After-end_of-end) refl c.requires.4 d.ensures.0 d.ensures.1 o.ensures.0 o.ensures.1 o.ensures.2 z.ensures.0 z.ensures.1
