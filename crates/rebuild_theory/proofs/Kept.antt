-- What is built stays built while its blocks stay as they are.
-- Assumes nothing.
use mathlib.Core.Path.{◌≡◌, ap, ◌∙◌}
use mathlib.Core.List.{List, [], ◌∷◌}
use Prim.Native.Nat.{ℕ, suc, ◌+◌, ◌*◌, ◌≤◌, ◌<◌}
use native.Mathlib.Omega.{arith}
use lib.ListN.{length}
use Rattle.spot.specs.declared.Spot.{Spot}
use Rattle.block.specs.declared.Entry.{Entry}
use Rattle.block.specs.Node.{Store}
use Rattle.rebuild_theory.specs.Build.{nodes, OwnBand, Shares, Built}
use Rattle.rebuild_theory.proofs.Built.{nodes-some}

-- two stores have the same nodes in w blocks from b on
abbrev pub Alike : Store → Store → ℕ → ℕ → Type 0
Alike m m' b w = (i : ℕ) → b ≤ i → i < b + w → m' i ≡ m i

own-kept : (room level : ℕ) (m m' : Store) (b : ℕ) (ys : List Spot) (t c : ℕ) (es : List Entry) → m' b ≡ m b → OwnBand room level m b ys t c es
    → OwnBand room level m' b ys t c es
own-kept room level m m' b ys t c es e h = record { is = e ∙ h.is; most = h.most; least = h.least; under = h.under }

module _ (g h : ℕ → List Spot → Type 0) (m m' : Store) (w : ℕ) (some : 1 ≤ w) (deeper : (b : ℕ) (ys : List Spot) → Alike m m' b w → g b ys → h b ys) where
  -- the children stay built
  pub shares-kept : (es : List Entry) (b : ℕ) (ys : List Spot) → Alike m m' b (length es * w) → Shares g m w b es ys → Shares h m' w b es ys
  shares-kept [] b ys same sh = sh
  shares-kept (e ∷ es) b ys same sh =
      let d : suc (length es) * w ≡ w + length es * w = omega arith in
      let at = sh.at in
      record {
        own = sh.own;
        others = sh.others;
        split = sh.split;
        some = sh.some;
        next = sh.next;
        at = sh.at;
        agree = rw (same e.block (omega arith) (omega (arith, d, at, some))) sh.agree;
        built = deeper e.block sh.own (λ i lo hi. same i (omega arith) (omega (arith, d, at, hi))) sh.built;
        rest = shares-kept es (b + w) sh.others (λ i lo hi. same i (omega arith) (omega (arith, d, hi))) sh.rest;
      }

-- and so does a tree
pub built-kept : (fs : List ℕ) (room : ℕ) (m m' : Store) (t b : ℕ) (ys : List Spot) → Alike m m' b (nodes fs) → Built fs room m b ys t → Built fs room m' b ys t
built-kept [] room m m' t b ys same h = (own-kept room 0 m m' b ys t 0 [] (same b (omega arith) (omega arith)) h.0, h.1)
built-kept (f ∷ fs) room m m' t b ys same h =
    let n = h.count in
    let w : length h.es * nodes fs ≡ f * nodes fs = ap (λ (i : ℕ). i * nodes fs) n in
    record {
      c = h.c;
      es = h.es;
      node = own-kept room (suc (length fs)) m m' b ys t h.c h.es (same b (omega arith) (omega arith)) h.node;
      count = h.count;
      first = h.first;
      shares =
          shares-kept (λ b' zs. Built fs room m b' zs h.c) (λ b' zs. Built fs room m' b' zs h.c) m m' (nodes fs) (nodes-some fs)
          (λ b' zs same' h'. built-kept fs room m m' h.c b' zs same' h')
          h.es
          (b + 1)
          ys
          (λ i lo hi. same i (omega arith) (omega (arith, w, hi)))
          h.shares;
    }
