-- `perf::perf_change` meets its contract: the node that was loaded stays one that may be stored.
use Rattle.std.proofs.Common.{◌≡◌, ℕ, ◌<◌, true, sym, ◌∙◌, arith}
use mathlib.Core.Path.{subst⁻¹}
use Rattle.block.specs.declared.Asked.TheVariants.{Root}
use Rattle.block.specs.NodeRules.{zero_first, lows}
use Rattle.node.specs.Memory.{entries_of, EntriesFit}
use Rattle.node.specs.declared.Entries.{Entries}
use Rattle.perf.proofs.perf_change.Goals as goal

pub load-n-requires : goal.load-n-requires
load-n-requires c = record { level = _; asked = Root 1; ok = sym c.block_ok.ensures ∙ c.if-not-block_ok.false; inside = omega arith }

pub put_node-requires : goal.put_node-requires
put_node-requires c =
    let e = c.insert_one-m.ensures in
    let s = c.load-n.ensures.storable in (
      omega (arith, c.if-t-lt4096.false),
      record {
        level = subst⁻¹ (λ (l : ℕ). l < 256) e.level s.level;
        entries = subst⁻¹ EntriesFit e.entries s.entries;
        first = subst⁻¹ (λ (es : Entries). zero_first (lows (entries_of es)) ≡ true) e.entries s.first;
        points = omega (arith, c.if-m-gt-POINTS_MOST.false);
        inserts = omega (arith, c.if-m-gt-INSERTS_MOST.false);
        deletes = omega (arith, e.deletes, s.deletes);
      },
    )
