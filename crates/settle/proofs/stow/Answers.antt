-- `settle::stow` meets its contract: what fill promises, and then the sizes.
use mathlib.Core.Path.{refl, ap, subst⁻¹, ◌∙◌}
use Prim.Native.Nat.{ℕ, ◌<◌}
use Rattle.block.specs.Table.{blocks_of}
use Rattle.block.specs.NodeRules.{zero_first}
use Rattle.fill.proofs.Works.{work-stores}
use Rattle.settle.proofs.Ways.{sizes-right}
use Rattle.settle.proofs.stow.Goals as goal

pub returns-in-Err-clause-stowed : goal.returns-in-Err-clause-stowed
returns-in-Err-clause-stowed c = record { whole = c.in-Err.ensures.filled.whole }

pub returns-then-full-clause-stowed : goal.returns-then-full-clause-stowed
returns-then-full-clause-stowed c = record { whole = λ lo hi r f legal zero o. refl }

pub write_node-requires : goal.write_node-requires
write_node-requires c =
    let p = c.requires in
    let q = c.in-Ok.ensures.filled in
    let few = sizes-right c.in-Ok.full.inserts.n c.in-Ok.full.deletes.n c.if-full.false in
    (q.works.undoable, subst⁻¹ (λ (n : ℕ). c.args.b < blocks_of n) c.fill.ensures.kept.table p.1, work-stores q.works (ap zero_first q.same_lows ∙ p.2) few.0 few.1)

pub returns-clause-stowed : goal.returns-clause-stowed
returns-clause-stowed c =
    let few = sizes-right c.in-Ok.full.inserts.n c.in-Ok.full.deletes.n c.if-full.false in
    record {
      table = c.fill.new.t;
      scratch = c.fill.new.s;
      marks = c.fill.new.map;
      node = c.in-Ok.full;
      filled = c.in-Ok.ensures.filled;
      few_i = few.0;
      few_d = few.1;
      stored = c.write_node.ensures.1;
      entry = c.entry_for.ensures;
    }
