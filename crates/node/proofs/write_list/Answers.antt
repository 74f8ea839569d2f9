-- `node::write_list` meets its contract: each element is written behind those before it.
use mathlib.Core.Path.{◌≡◌, refl, sym, ap, ◌∙◌}
use mathlib.Core.Bool.{true}
use mathlib.Core.List.{[], ◌∷◌}
use Prim.Native.Nat.{suc, ◌+◌, ◌*◌, ◌≤◌, ◌<◌}
use native.Mathlib.Nat.{mul-le-mul_right}
use native.Mathlib.Numerals.{add-one}
use native.Mathlib.Omega.{arith}
use lib.ListN.{length, take, get_or}
use lib.Seq.{take-suc, take_all}
use Rattle.octets.specs.Bytes.{put_bytes}
use Rattle.octets.proofs.Parts.{bytes-nothing}
use Rattle.octets.proofs.Tests.{and_both, every-join}
use Rattle.node.proofs.Put.{nth-behind}
use Rattle.node.proofs.write_list.Goals as goal

pub loop-i-init : goal.loop-i-init
loop-i-init g c = (refl, rw g.B.Item.Laid.laid.nil (bytes-nothing c.args.s.now c.args.at), refl)

pub loop-i-preserved : goal.loop-i-preserved
loop-i-preserved g c =
    let L = g.B.Item.Laid.laid in
    let a = c.args in
    let l = c.loop-i in
    let items = c.as_slice-x-items in
    let xs = g.B.Buffer.held a.b in
    let d = c.x-item.result in
    let inside : l.i < length xs = rw items.ensures.0 at c.loop-i-test.true in
    let full : length xs ≡ g.B.Buffer.count a.b = rw items.ensures.0 at items.ensures.1 in
    let x : d ≡ get_or xs l.i d = rw items.ensures.0 at c.x-item.is in
    let m : suc l.i * L.width ≤ g.B.Buffer.count a.b * L.width = mul-le-mul_right L.width (omega arith) in
    let w : c.write.new.s ≡ put_bytes l.s (a.at + L.width * l.i) (L.bytes d) = rw c.width.ensures at c.write.ensures.0 in (
      c.write.auto.s ∙ l.invariant.0,
      nth-behind L.all_bytes L.bytes L.width L.nil L.cons L.wide a.s.now a.at xs l.i d inside (grind (arith, m)) l.invariant.1
          (w ∙ ap (λ y. put_bytes l.s (a.at + L.width * l.i) (L.bytes y)) x),
      rw (add-one l.i, take-suc xs l.i d inside)
          (every-join L.fits (take l.i xs) (get_or xs l.i d ∷ []) l.invariant.2 (and_both (L.fits (get_or xs l.i d)) true (ap L.fits (sym x) ∙ c.write.ensures.1) refl)),
    )

pub returns : goal.returns
returns g c =
    let L = g.B.Item.Laid.laid in
    let a = c.args in
    let l = c.loop-i in
    let items = c.as_slice-x-items in
    let xs = g.B.Buffer.held a.b in
    let past : length xs ≤ l.i = rw items.ensures.0 at c.loop-i-test.false in
    let all : take l.i xs ≡ xs = take_all l.i xs past in
    record { bytes = l.invariant.1 ∙ ap (λ k. put_bytes a.s.now a.at (L.all_bytes k)) all; fit = rw all at l.invariant.2 }
