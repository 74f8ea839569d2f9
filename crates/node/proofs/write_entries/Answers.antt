-- `node::write_entries` meets its contract: each entry is written behind those before it.
use mathlib.Core.Path.{◌≡◌, refl, ap, ◌∙◌}
use native.Mathlib.Omega.{arith}
use borrow.Author.Rules.{rules}
use lib.ListN.{length, take}
use lib.Seq.{take-take}
use Rattle.octets.specs.Bytes.{put_bytes}
use Rattle.node.specs.Bytes.{entries_bytes, keys_fit}
use Rattle.node.specs.Memory.{entries_of}
use Rattle.buffer.proofs.Lists.{length-image}
use Rattle.node.proofs.Listed.{blank}
use Rattle.octets.proofs.Parts.{bytes-nothing}
use Rattle.node.proofs.Put.{entry-behind}
use Rattle.node.proofs.Fits.{every_more}
use Rattle.node.proofs.write_entries.Goals as goal
use Rattle.node.proofs.write_entries.Goals.{Start}

long : (c : Start) → length c.args.es.list ≡ 8
long c = search (rules, length-image)

pub loop-i-init : goal.loop-i-init
loop-i-init c = (search rules, refl, bytes-nothing c.args.s.now 8, refl)

pub loop-i-preserved : goal.loop-i-preserved
loop-i-preserved c =
    let a = c.args in
    let l = c.loop-i in
    let es = a.es in
    let call = c.write_entry in (
      omega arith,
      call.auto.s ∙ l.invariant.1,
      entry-behind a.s.now es.n es.list l.i blank (omega arith) (omega (arith, long (goal.at.loop-i-preserved c).Start)) c.requires.1 l.invariant.2 call.ensures.0,
      every_more keys_fit l.i es.n es.list blank (omega arith) (omega (arith, long (goal.at.loop-i-preserved c).Start)) l.invariant.3 call.ensures.1,
    )

pub returns : goal.returns
returns c =
    let l = c.loop-i in
    let a = c.args in
    let es = a.es in
    let e : l.i ≡ es.n = omega arith in
    let w : take l.i (entries_of es) ≡ entries_of es = rw e (take-take es.n es.n es.list (omega arith)) in
    record {
      bytes = l.invariant.2 ∙ ap (λ k. put_bytes a.s.now 8 (entries_bytes k)) w;
      fit = rw w at l.invariant.3;
    }

pub shape_of-s : goal.shape_of-s
shape_of-s c = c.loop-i.invariant.1
