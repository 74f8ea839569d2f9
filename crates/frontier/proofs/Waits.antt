-- What waits in a node, and in the nodes above a slot.
-- Assumes nothing.
use mathlib.Core.Path.{◌≡◌, refl, ap, sym, ◌∙◌}
use mathlib.Core.Bool.{Bool, true, false, ◌||◌, or-false, or_comm}
use mathlib.Core.List.{List, [], ◌∷◌, append-nil}
use Prim.Native.Nat.{ℕ, ◌+◌, ◌*◌, ◌≤◌, ◌<◌}
use lib.ListN.{length}
use Rattle.octets.specs.Lists.{has}
use Rattle.octets.proofs.Sets.{has-append}
use Rattle.block.specs.declared.Front.{Front}
use Rattle.block.specs.Table.{version1}
use Rattle.block.specs.Node.{store_of, inserts_from, deletes_from}
use Rattle.visit.specs.Visit.{waiting, waiting_by, waiting_above, keys_from, above}
use Rattle.visit.proofs.Paths.{waiting-append}
use Rattle.visit.proofs.Runs.{Runs, waiting-is}
use Rattle.frontier.specs.Frontier.{Slot, parent_by, index_by, block_by, slot_by, Hangs}
use Rattle.frontier.proofs.Chains.{slot-first, child-above, hangs-block, hangs-up, hangs-child}

-- ---- in a node

module _ (t : List ℕ) (b : ℕ) (h : Front) (r : Runs t b h) (inside : b * 2048 + 2048 ≤ length t) (k : ℕ) {x : ℕ} (e : x ≡ inserts_from version1 h.c h.p) where
  either : {y : ℕ} → y ≡ deletes_from version1 h.c h.p h.i
      → has k (waiting (store_of t b)) ≡ has k (keys_from t 12 h.i (b * 2048 + x)) || has k (keys_from t 8 h.d (b * 2048 + y))
  either {y} g = ap (has k) (sym (waiting-is t b h r inside e g)) ∙ has-append k (keys_from t 12 h.i (b * 2048 + x)) (keys_from t 8 h.d (b * 2048 + y))

  -- among the inserts
  pub waits-first : has k (keys_from t 12 h.i (b * 2048 + x)) ≡ true → has k (waiting (store_of t b)) ≡ true
  waits-first f =
      either {y = deletes_from version1 h.c h.p h.i} refl ∙ ap (λ (v : Bool). v || has k (keys_from t 8 h.d (b * 2048 + deletes_from version1 h.c h.p h.i))) f

  -- or among the deletes
  pub waits-second : {y : ℕ} → y ≡ deletes_from version1 h.c h.p h.i → has k (keys_from t 12 h.i (b * 2048 + x)) ≡ false
      → has k (waiting (store_of t b)) ≡ has k (keys_from t 8 h.d (b * 2048 + y))
  waits-second {y} g f = either g ∙ ap (λ (v : Bool). v || has k (keys_from t 8 h.d (b * 2048 + y))) f

-- ---- above a slot

module _ (t : List ℕ) (rows : List (List ℕ)) (k : ℕ) where
  abbrev waits_over : ℕ → Bool
  waits_over i = has k (waiting_above t (slot_by t rows i).path)

  -- nothing is above the root
  pub over_root : waits_over 0 ≡ false
  over_root = ap (λ (s : Slot). has k (waiting_above t s.path)) (slot-first t rows)

  module _ {j : ℕ} (h : Hangs t rows j) (some : 0 < j) where
    over-step : waits_over j ≡ waits_over (parent_by rows j) || has k (waiting (store_of t (block_by rows (parent_by rows j))))
    over-step =
        let p : ℕ = parent_by rows j in
        let up = hangs-up h some in
        let s : Slot = slot_by t rows p in
        ap (λ (x : Slot). has k (waiting_above t x.path)) (hangs-child h some)
        ∙ ap (λ (l : List ℕ). has k (waiting_by (store_of t) l)) (child-above t s (index_by rows j) (up.chain.stands p up.inside).long)
        ∙ waiting-append (store_of t) k (above s.path) (s.block ∷ [])
        ∙ ap (λ (l : List ℕ). waits_over p || has k l) (append-nil (waiting (store_of t s.block)))
        ∙ ap (λ (b : ℕ). waits_over p || has k (waiting (store_of t b))) (sym (hangs-block up))

    -- the parent has it
    pub over_yes : {r : Bool} → r ≡ has k (waiting (store_of t (block_by rows (parent_by rows j)))) → r ≡ true → waits_over j ≡ true
    over_yes e f = over-step ∙ ap (λ (x : Bool). waits_over (parent_by rows j) || x) (sym e ∙ f) ∙ or_comm (waits_over (parent_by rows j)) true

    -- or one above it
    pub over_no : {r : Bool} → r ≡ has k (waiting (store_of t (block_by rows (parent_by rows j)))) → r ≡ false → waits_over j ≡ waits_over (parent_by rows j)
    over_no e f = over-step ∙ ap (λ (x : Bool). waits_over (parent_by rows j) || x) (sym e ∙ f) ∙ or-false (waits_over (parent_by rows j))
