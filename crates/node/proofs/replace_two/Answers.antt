-- `node::replace_two` meets its contract: two stores at i, and behind them what stood after the i-th.
use mathlib.Core.Path.{◌≡◌, sym, ap, ap₂, ◌∙◌}
use mathlib.Core.List.{List, [], ◌∷◌, ◌++◌, append_assoc}
use Prim.Native.Nat.{ℕ, suc, ◌+◌, ◌≤◌}
use native.Mathlib.Numerals.{add-one}
use native.Mathlib.Omega.{arith}
use borrow.Author.Rules.{rules}
use lib.ListN.{length, take, drop, set, length-set}
use Rattle.buffer.proofs.Lists.{part, grown, grown-none, length-image}
use Rattle.block.specs.declared.Entry.{Entry}
use Rattle.node.specs.Memory.{entries_of}
use Rattle.node.proofs.Listed.{blank, two-stored, from_all}
use Rattle.node.proofs.replace_two.Goals as goal
use Rattle.node.proofs.replace_two.Goals.{Start}

long : (c : Start) → length c.args.es.list ≡ 8
long c = search (rules, length-image)

pub loop-j-init : goal.loop-j-init
loop-j-init c =
    let a = c.args in
    (omega arith, omega arith, simp length-set (long (goal.at.loop-j-init c).Start), grown-none (entries_of a.es) _ (a.i + 1))

pub loop-j-preserved : goal.loop-j-preserved
loop-j-preserved c =
    let l = c.loop-j in
    let a = c.args in
    let es = a.es in
    let two : List Entry = take (a.i + 1 + 1) (set (set es.list a.i a.e) (a.i + 1) a.f) in
    (omega arith, omega arith, simp length-set l.invariant.2, grown blank es.list l.next.list two es.n (l.j + 1) l.invariant.0 (omega arith) (omega (arith, long (goal.at.loop-j-preserved c).Start)) (omega arith) l.invariant.3)

pub returns : goal.returns
returns c =
    let l = c.loop-j in
    let a = c.args in
    let es = a.es in
    let h : es.n ≤ length es.list = omega (arith, long (goal.at.returns c).Start) in
    let e : l.j ≡ es.n = omega arith in (
      search rules,
      ap (λ (k : ℕ). take (k + 1) l.next.list) (sym e) ∙ l.invariant.3
          ∙ ap₂ (λ (x y : List Entry). x ++ y) (two-stored es.list es.n a.i h c.requires.0 a.e a.f (omega (arith, long (goal.at.returns c).Start)))
          (ap (λ (k : ℕ). part (a.i + 1) k (entries_of es)) e ∙ from_all es.list es.n (a.i + 1) h ∙ ap (λ (k : ℕ). drop k (entries_of es)) (add-one a.i))
          ∙ append_assoc (take a.i (entries_of es)) (a.e ∷ a.f ∷ []) (drop (suc a.i) (entries_of es)),
    )
