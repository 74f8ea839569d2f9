-- Settle's own steps on a node in memory: a batch of inserts or of deletes, and the lowest of P to I.
-- Assumes nothing.
use mathlib.Core.Path.{◌≡◌, ap, ◌∙◌}
use mathlib.Core.Bool.{true, cond}
use mathlib.Core.List.{List, Memᴰ}
use mathlib.Core.Option.{Option, none, some}
use Prim.Native.Nat.{ℕ, suc, ◌≤◌}
use Rattle.octets.specs.Lists.{has}
use Rattle.spot.specs.declared.Spot.{Spot}
use Rattle.spot.specs.Spots.{keys, find, put}
use Rattle.spot.specs.Keys.{rank_key, all_keys, within}
use Rattle.spot.specs.Sorted.{only, but}
use Rattle.spot.proofs.Buffers.{find-mem}
use Rattle.block.specs.declared.Entry.{Entry}
use Rattle.block.specs.Node.{Store}
use Rattle.tree.specs.Lookup.{or_else}
use Rattle.update_theory.specs.Held.{Held, insert_all, delete_all}
use Rattle.update_theory.specs.Open.{under, Open}
use Rattle.update_theory.proofs.Moves.{insert_all_lem, delete-all, spill, spilled}
use Rattle.update_theory.proofs.Open.{open-held}

module _ (l : ℕ) (m : Store) (lo hi : ℕ) (full : hi ≤ all_keys) (r : ℕ) (es : List Entry) (b : Held) (f : ℕ → Option ℕ) (o : Open l m lo hi r es b f) where
  -- after a batch of inserts: its word, else what was found before
  pub open-inserts : (ss : List Spot) → ((k : ℕ) → Memᴰ k (keys ss) → within lo hi k ≡ true) → Open l m lo hi r es (insert_all r ss b) (λ k. or_else (find k ss) (f k))
  open-inserts ss w =
      let a = insert_all_lem lo hi full r (under l m lo hi es) ss b w o.ready in
      open-held l m lo hi r r es b (insert_all r ss b) f (λ k. or_else (find k ss) (f k)) o a.0 (λ k v. a.1 k ∙ ap (or_else (find k ss)) (o.found k v))

  -- after a batch of deletes
  pub open-deletes : (ks : List ℕ) → ((k : ℕ) → Memᴰ k ks → within lo hi k ≡ true) → Open l m lo hi r es (delete_all r ks b) (λ k. cond (has k ks) none (f k))
  open-deletes ks w =
      let a = delete-all lo hi full r (under l m lo hi es) ks b w o.ready in
      open-held l m lo hi r r es b (delete_all r ks b) f (λ k. cond (has k ks) none (f k)) o a.0 (λ k v. a.1 k ∙ ap (cond (has k ks) none) (o.found k v))

  -- P over 64
  pub open-spill : (q : Spot) → find q.key b.points ≡ some q.track → ((k : ℕ) → Memᴰ k (keys b.points) → rank_key q.key ≤ rank_key k)
      → Open l m lo hi (suc (rank_key q.key)) es (record { points = only (but q.key) b.points; inserts = put q b.inserts; deletes = b.deletes }) f
  open-spill q g least =
      let b' : Held = record { points = only (but q.key) b.points; inserts = put q b.inserts; deletes = b.deletes } in
      open-held l m lo hi r (suc (rank_key q.key)) es b b' f f o
      (spill lo hi full r (under l m lo hi es) b.points b.inserts b.deletes o.ready q (find-mem q.key b.points g) least)
      (λ k v. spilled lo hi full r (under l m lo hi es) b.points b.inserts b.deletes o.ready q g k ∙ o.found k v)
