-- `edit::entry_for` meets its contract.
use mathlib.Core.Path.{◌≡◌, refl, sym, ap}
use Prim.Native.Nat.{ℕ}
use native.Mathlib.Omega.{arith}
use borrow.Author.Rules.{rules}
use lib.ListN.{length, take}
use Rattle.buffer.proofs.Lists.{length-image}
use Rattle.buffer.proofs.Laws.{held-length}
use Rattle.tree.proofs.Entries.{agree-empty}
use Rattle.node.specs.Memory.{node_in}
use Rattle.edit.proofs.Parts.{agreed}
use Rattle.edit.proofs.entry_for.Goals as goal
use Rattle.edit.proofs.entry_for.Goals.{Start}

long : (c : Start) → length c.args.n.points.spots ≡ 80
long c = search (rules, length-image)

pub returns-then-size-eq0 : goal.returns-then-size-eq0
returns-then-size-eq0 c =
    let a = c.args in
    let z : a.n.points.n ≡ 0 = omega arith in
    record {
      block = refl;
      low = refl;
      agree = λ room. agree-empty _ (node_in room a.n) z (ap (λ (k : ℕ). take k a.n.points.spots) z);
      fits = λ h. record { block = h; size = omega arith; top = λ e. refl; bottom = λ e. refl };
      size = refl;
    }

pub returns : goal.returns
returns c =
    let p = c.args.n.points in
    let h = c.highest-high in
    let l = c.lowest-deep in
    record {
      block = refl;
      low = refl;
      agree = λ room. agreed _ (node_in room c.args.n) h.result l.result (sym (held-length p (long (goal.at.returns c).Start) c.requires.points.fits)) h.ensures l.ensures refl refl;
      fits = λ b. record { block = b; size = omega (arith, c.requires.points.fits); top = λ e. absurd (omega arith); bottom = λ e. absurd (omega arith) };
      size = refl;
    }
