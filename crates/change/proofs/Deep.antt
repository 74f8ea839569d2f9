-- A change settled from the root down: undone where that fails, else block 0, which was kept, is taken back and brought up to date.
-- Assumes nothing.
use mathlib.Core.Path.{◌≡◌, refl, ap, sym, ◌∙◌, subst, subst⁻¹}
use mathlib.Core.Logic.{inl, inr, ⊎_elim}
use mathlib.Core.Bool.{true, false≢true}
use mathlib.Core.List.{List, Memᴰ}
use Rattle.std.specs.Prelude.{Ok, Err}
use Prim.Native.Nat.{ℕ, ◌+◌, ◌*◌, ◌≤◌, ◌<◌}
use native.Mathlib.Omega.{arith}
use lib.ListN.{length, replicate, length-replicate}
use Rattle.octets.specs.Bitmap.{bit}
use Rattle.octets.proofs.Bits.{bit-zeros}
use Rattle.spot.specs.Keys.{start_key, end_key, within}
use Rattle.spot.specs.Spots.{keys}
use Rattle.spot.specs.declared.Spot.{Spot}
use Rattle.block.specs.Table.{block, blocks_of, capacity, table_sized, put_block}
use Rattle.block.specs.Header.{Header, head_of}
use Rattle.block.specs.HeaderRules.{header_ok}
use Rattle.block.specs.Node.{store_of}
use Rattle.block.proofs.Facts.{HeadFacts, head-facts}
use Rattle.block.proofs.Making.{sized-least, blocks-whole}
use Rattle.block.proofs.Frames.{store_same, head-same, block-length, put-length, block-put-same, block-put-other}
use Rattle.tree.proofs.Tables.{shaped}
use Rattle.journal.specs.Journal.{Undoable, Kept, Undone}
use Rattle.journal.proofs.Kept.{kept_trans, before-marked, before-clear, undone-is}
use Rattle.spare.specs.declared.Spare.{Spare}
use Rattle.spare.specs.Spares.{taken_of, SpareIn, Reheaded}
use Rattle.spare.proofs.Taking.{taken-spare}
use Rattle.settle.specs.Settling.{Settleable}
use Rattle.change.specs.declared.Grown.{Grown}
use Rattle.fill.specs.declared.Failure.{Failure}
use Rattle.change.specs.Changing.{ChangedBy}
use Rattle.change.specs.Growing.{GrowDone, GrowFailed, Finishable, HeavyAt}
use Rattle.change.proofs.After.{root-sound, root-apart, change-shaped, change-live}
use Rattle.settle.proofs.Ways.{spares-kept}

-- a table that block 0 is right of is whole blocks, nine or more
module _ (t : List ℕ) (h : header_ok (length t) (head_of t) ≡ true) where
  sizes : table_sized (length t) ≡ true
  sizes = (head-facts (length t) (head_of t) h).sized

  pub whole-blocks : length t ≡ blocks_of (length t) * 2048
  whole-blocks = blocks-whole (length t) sizes

  pub nine-blocks : 18432 ≤ length t
  nine-blocks = sized-least (length t) sizes

module _ {t w : List ℕ} {root level ni nd bound : ℕ} (a : HeavyAt t w root level ni nd bound) where
  ok : header_ok (length t) (head_of t) ≡ true
  ok = a.start.header

  head : HeadFacts (length t) (head_of t)
  head = head-facts (length t) (head_of t) ok

  -- at the start nothing is kept
  pub heavy-starts : Undoable t w (replicate 512 0)
  heavy-starts = record { whole = whole-blocks t ok; most = head.blocks-most; room = a.start.lent; mapped = length-replicate {A = ℕ} 512 0 }

  -- then block 0 is
  module _ {w₁ map₁ : List ℕ} (saved : Kept t w (replicate 512 0) t w₁ map₁) (marked : bit map₁ 0 ≡ true) {spare : Spare} (unused : SpareIn t spare) where
    -- the root may be settled
    pub heavy-settles : Settleable t w₁ map₁ root level ni nd spare spare.n
    heavy-settles =
        record {
          undoable = record { whole = whole-blocks t ok; most = head.blocks-most; room = let z = saved.scratch in let y = a.start.lent in omega arith; mapped = saved.mapped ∙ length-replicate {A = ℕ} 512 0 };
          inside = let z = head.root-most in let y = a.root_is in omega arith;
          first = let z = head.root-least in let y = a.root_is in omega arith;
          deep = let z = head.levels-most in let y = a.level_is in omega arith;
          few_i = let z = a.start.one in omega arith;
          few_d = let z = a.start.one in omega arith;
          spares = unused.fits;
          less = omega arith;
        }

    module _ {t₂ w₂ map₂ : List ℕ} (kept : Kept t w₁ map₁ t₂ w₂ map₂) where
      both : Kept t w (replicate 512 0) t₂ w₂ map₂
      both = kept_trans saved kept

      -- not as it should be
      pub heavy-undone : {t₃ : List ℕ} {ss : List Spot} {ks : List ℕ} {e : Failure} → GrowFailed t root level ss ks spare e → Undone t₂ w₂ map₂ t₃
          → ((k : ℕ) → Memᴰ k (keys ss) → within start_key end_key k ≡ true) → ((k : ℕ) → Memᴰ k ks → within start_key end_key k ≡ true) → ChangedBy t t₃ w w₂ ss ks bound (Err e)
      heavy-undone p u fitI fitD =
          record {
            sized = u.sized ∙ both.table;
            lent_length = both.scratch;
            rest = both.rest;
            kept = undone-is 512 (whole-blocks t ok) both u;
            header = tt;
            bound_is = tt;
            shaped = tt;
            live_is = tt;
            whole = λ s. let v = shaped t s in
                p.whole fitI fitD (root-sound t root level a.root_is a.level_is v) (root-apart t root level a.root_is a.level_is v spare unused);
            ready = λ s e. absurd (false≢true (sym a.room ∙ e));
            light = λ e. absurd (false≢true (sym a.room ∙ e));
          }

      -- the scratch has block 0 as it was
      zero-kept : block w₂ 0 ≡ block t 0
      zero-kept =
          sym (before-marked t₂ w₂ map₂ 0 (kept.marks 0 marked))
          ∙ both.past 0 (let z = nine-blocks t ok in omega arith)
          ∙ before-clear t w (replicate 512 0) 0 (bit-zeros 512 0)

      abbrev v : List ℕ
      v = put_block t₂ 0 (block w₂ 0)

      room : 0 * 2048 + 2048 ≤ length t₂
      room = let z = nine-blocks t ok in let y = both.table in omega arith

      put_whole : length (block w₂ 0) ≡ 2048
      put_whole = ap length zero-kept ∙ block-length t 0 (let z = nine-blocks t ok in omega arith)

      sized-v : length (put_block t₂ 0 (block w₂ 0)) ≡ length t
      sized-v = put-length t₂ 0 (block w₂ 0) room put_whole ∙ both.table

      head-v : head_of (put_block t₂ 0 (block w₂ 0)) ≡ head_of t
      head-v = head-same t v sized-v (block-put-same t₂ 0 (block w₂ 0) room put_whole ∙ zero-kept)

      else-v : (z : ℕ) → (z ≡ 0 → ⊥) → store_of (put_block t₂ 0 (block w₂ 0)) z ≡ store_of t₂ z
      else-v z d = store_same t₂ v (put-length t₂ 0 (block w₂ 0) room put_whole) z (block-put-other t₂ 0 (block w₂ 0) room put_whole z d)

      module _ {ss : List Spot} {ks : List ℕ} {g : Grown} (p : GrowDone t t₂ root level ss ks spare g) where
        -- block 0 may be brought up to date
        pub heavy-finishes : Finishable t₂ w₂ spare g.left g.levels g.root bound
        heavy-finishes =
            record {
              long = let z = room in omega arith;
              room = let z = nine-blocks t ok in let y = a.start.lent in let x = both.scratch in omega arith;
              head = record {
                ok = subst⁻¹ (λ (h : Header). header_ok (length v) h ≡ true) head-v (subst⁻¹ (λ (l : ℕ). header_ok l (head_of t) ≡ true) sized-v ok);
                spare = spares-kept t v spare sized-v unused.fits;
                less = p.fewer;
                least = p.levels.0;
                most = p.levels.1;
                first = within-table.0;
                last = subst⁻¹ (λ (l : ℕ). g.root < blocks_of l) sized-v within-table.1;
                used = ⊎_elim (λ (e : g.root ≡ root). inl (ap (λ (h : Header). bit h.in_use g.root) head-v ∙ ap (bit (head_of t).in_use) (e ∙ a.root_is) ∙ head.root-used)) inr p.top;
                few = subst⁻¹ (λ (l : ℕ). bound ≤ capacity l) sized-v a.start.few;
              };
            }
          where
            within-table : (1 ≤ g.root) × (g.root < blocks_of (length t))
            within-table =
                ⊎_elim (λ (e : g.root ≡ root). let y = a.root_is in (let z = head.root-least in omega arith, let z = head.root-most in omega arith))
                (λ i. unused.fits.inside g.root (taken-spare spare g.left g.root i)) p.top

        -- and then all is well
        pub heavy-done : {t₃ : List ℕ} → Reheaded (put_block t₂ 0 (block w₂ 0)) t₃ (taken_of spare g.left) g.levels g.root bound
            → ((k : ℕ) → Memᴰ k (keys ss) → within start_key end_key k ≡ true) → ((k : ℕ) → Memᴰ k ks → within start_key end_key k ≡ true)
            → ChangedBy t t₃ w w₂ ss ks bound (Ok tt)
        heavy-done {t₃} r fitI fitD =
            record {
              sized = r.sized ∙ sized-v;
              lent_length = both.scratch;
              rest = both.rest;
              kept = tt;
              header = subst (λ (l : ℕ). header_ok l (head_of t₃) ≡ true) sized-v r.ok;
              bound_is = r.bound_is;
              shaped = λ s. let u = shaped t s in
                  change-shaped t root level a.root_is a.level_is v t₃ spare g.left g.levels g.root bound (store_of t₂) ss ks u unused p.fewer fitI fitD
                  (p.done fitI fitD (root-sound t root level a.root_is a.level_is u) (root-apart t root level a.root_is a.level_is u spare unused)) sized-v head-v else-v r;
              live_is = λ s. let u = shaped t s in
                  change-live t root level a.root_is a.level_is v t₃ spare g.left g.levels g.root bound (store_of t₂) ss ks u unused p.fewer fitI fitD
                  (p.done fitI fitD (root-sound t root level a.root_is a.level_is u) (root-apart t root level a.root_is a.level_is u spare unused)) sized-v head-v else-v r;
              whole = λ s. tt;
              ready = λ s e. refl;
              light = λ e. absurd (false≢true (sym a.room ∙ e));
            }
