-- `node::entries_from` meets its contract: what stood from k on, from the front on.
use mathlib.Core.Path.{◌≡◌, sym, ap, ◌∙◌}
use mathlib.Core.List.{[]}
use Prim.Native.Nat.{ℕ, ◌+◌, ◌-◌}
use native.Mathlib.Omega.{arith}
use borrow.Author.Rules.{rules}
use lib.ListN.{length, take, get_or, set, length-set}
use Rattle.buffer.proofs.Lists.{part, part_none, grown, length-image}
use Rattle.node.specs.Memory.{entries_of}
use Rattle.node.proofs.Listed.{blank, from_all}
use Rattle.node.proofs.entries_from.Goals as goal
use Rattle.node.proofs.entries_from.Goals.{Start}

long : (c : Start) → length c.args.es.list ≡ 8
long c = search (rules, length-image)

pub loop-j-init : goal.loop-j-init
loop-j-init c =
    let a = c.args in
    let e : a.k - a.k ≡ 0 = omega arith in
    (omega arith, omega arith, long (goal.at.loop-j-init c).Start, ap (λ (m : ℕ). take m a.es.list) e ∙ sym (part_none a.k (entries_of a.es)))

pub loop-j-preserved : goal.loop-j-preserved
loop-j-preserved c =
    let l = c.loop-j in
    let a = c.args in
    let es = a.es in
    let e : l.j + 1 - a.k ≡ l.j - a.k + 1 = omega arith in (
      omega arith,
      omega arith,
      simp length-set l.invariant.2,
      ap (λ (m : ℕ). take m (set l.next.list (l.j - a.k) (get_or es.list l.j blank))) e ∙ grown blank es.list l.next.list [] es.n (l.j - a.k) l.invariant.0 (omega arith) (omega (arith, long (goal.at.loop-j-preserved c).Start)) (omega arith) l.invariant.3,
    )

pub returns : goal.returns
returns c =
    let l = c.loop-j in
    let es = c.args.es in
    let e : es.n ≡ l.j = omega arith in (
      search rules,
      ap (λ (m : ℕ). take (m - c.args.k) l.next.list) e ∙ l.invariant.3 ∙ ap (λ (m : ℕ). part c.args.k m (entries_of es)) (sym e)
          ∙ from_all es.list es.n c.args.k (omega (arith, long (goal.at.returns c).Start)),
    )
