-- `block::block_ok` meets its contract: the part lent is the block.
use mathlib.Core.Path.{◌∙◌, ap}
use Prim.Native.Nat.{ℕ, ◌*◌, ◌/◌}
use native.Mathlib.Nat.{add-sub_cancel_left}
use lib.ListN.{take, drop, length}
use Rattle.block.specs.NodeRules.{node_ok}
use Rattle.block.specs.Node.{store_of, node_of}
use Rattle.block.proofs.block_ok.Goals as goal

pub returns : goal.returns
unfolding store_of
returns c =
    let a = c.args in
    c.node_ok.ensures
    ∙ ap (λ (k : ℕ). node_ok a.level a.a (node_of (length a.t.now / 2048) (take k (drop (a.b * 2048) a.t.now)))) (add-sub_cancel_left (a.b * 2048) 2048)
