-- Which child of a node: the one whose range holds a key, and the one for which most keys of a buffer wait.
-- Assumes nothing.
use Rattle.std.specs.Prelude.{ℕ, zero, suc, ◌-◌, ◌≤◌, ◌<◌, cond, List, length, drop, ltb}
use Rattle.block.specs.declared.Entry.{Entry}
use Rattle.tree.specs.Part.{next_low}
use Rattle.buffer.specs.Buffer.{below}

-- rule 3: "from its entry's lowest identity up to, and without, the next entry's". i is the child whose range holds k; the first begins, and the last ends, where
-- the parent's range does.
pub record ChildFor (es : List Entry) (k i : ℕ) : Type 0 where
  pub there : i < length es
  pub from : 0 < i → next_low (drop i es) 0 ≤ k
  pub to : suc i < length es → k < next_low (drop (suc i) es) 0

-- how many of the keys lie before the i-th child's range, and before its end
abbrev pub start_at : List Entry → List ℕ → ℕ → ℕ
start_at es ks zero = 0
start_at es ks (suc i) = below (next_low (drop (suc i) es) 0) ks

abbrev pub end_at : List Entry → List ℕ → ℕ → ℕ → ℕ
end_at es ks n i = cond (ltb i (length es)) (below (next_low (drop i es) 0) ks) n

-- how many of some rising keys, of which n there are, lie in the range of the i-th child: from the i-th low (0 for the first) up to the next
abbrev pub share : List Entry → List ℕ → ℕ → ℕ → ℕ
share es ks n i = end_at es ks n (suc i) - start_at es ks i

-- a child for which no fewer keys wait than for any other
pub record Fullest (es : List Entry) (ks : List ℕ) (n i : ℕ) : Type 0 where
  pub there : i < length es
  pub most : (j : ℕ) → j < length es → share es ks n j ≤ share es ks n i
