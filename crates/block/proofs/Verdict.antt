-- What the calls on a node's front and on its body say of the node.
-- Assumes nothing.
use mathlib.Core.Path.{◌≡◌, ap, ◌∙◌}
use mathlib.Core.Bool.{Bool, true, false, not}
use mathlib.Core.List.{List}
use Prim.Native.Nat.{ℕ, ◌≤◌}
use borrow.Author.Tests.{eqb-true, leb-true}
use Rattle.block.specs.declared.Front.{Front}
use Rattle.block.specs.declared.Asked.{Asked}
use Rattle.block.specs.Table.{version1}
use Rattle.block.specs.Node.{node_of, used_bytes}
use Rattle.block.specs.NodeRules.{node_ok, fewest}
use Rattle.block.specs.Access.{front_of}
use Rattle.block.specs.Checks.{entry_keyed, front_fine, body_fine}
use Rattle.block.proofs.Shut.{fst, snd, and-stop, and-go}
use Rattle.block.proofs.Bridge.{node-is}

pub used-fits : (level few : ℕ) (h : Front) → front_fine level few h ≡ true → used_bytes version1 h.c h.p h.i h.d ≤ 1896
unfolding front_fine
used-fits level few h q = leb-true _ _ (snd _ _ (fst _ _ (fst _ _ (fst _ _ (fst _ _ (fst _ _ q))))))

pub used-is : (level few : ℕ) (h : Front) → front_fine level few h ≡ true → h.used ≡ used_bytes version1 h.c h.p h.i h.d
unfolding front_fine
used-is level few h q = eqb-true _ _ (fst _ _ (fst _ _ (fst _ _ (fst _ _ (fst _ _ (fst _ _ q))))))

-- a call that tests the front, and one that tests the body
module _ (s : List ℕ) (blocks level : ℕ) (a : Asked) (keys64 : entry_keyed a ≡ true) {f : ℕ} {h : Front} {r : Bool} (ef : f ≡ fewest a) (eh : h ≡ front_of s)
    (er : r ≡ front_fine level f h) where
  front-is : r ≡ front_fine level (fewest a) (front_of s)
  front-is = cc

  pub node-stop : not r ≡ true → false ≡ node_ok level a (node_of blocks s)
  node-stop t = and-stop (body_fine s blocks a (front_of s)) front-is t ∙ node-is s blocks level a keys64

  pub node-go : not r ≡ false → {q : Bool} → q ≡ body_fine s blocks a h → q ≡ node_ok level a (node_of blocks s)
  node-go t e =
      and-go (front_fine level (fewest a) (front_of s)) front-is t (e ∙ ap (λ (x : Front). body_fine s blocks a x) eh) ∙ node-is s blocks level a keys64
