-- The buffers of a node that keeps the rules, as runs of records in the table.
-- Assumes nothing.
use mathlib.Core.Path.{◌≡◌, refl, sym, ap, ap₂, subst, ◌∙◌}
use mathlib.Core.Bool.{true, ◌&&◌}
use mathlib.Core.List.{List, [], ◌++◌}
use Prim.Native.Nat.{ℕ, ◌+◌, ◌*◌, ◌≤◌}
use native.Mathlib.Omega.{arith}
use lib.Dec.{eqb}
use lib.ListN.{length, take, drop}
use borrow.Author.Tests.{eqb-true}
use Rattle.octets.specs.Lists.{every, records, rising}
use Rattle.octets.specs.Bytes.{be}
use Rattle.octets.proofs.Order.{stride}
use Rattle.octets.proofs.Records.{records-cong}
use Rattle.octets.proofs.Tests.{and_left, and_right}
use Rattle.spot.specs.Keys.{limited}
use Rattle.spot.specs.Spots.{key_at, spot_at, keys, limited_from}
use Rattle.spot.proofs.Buffers.{keys-records}
use Rattle.spot.proofs.Card.{key_at-part, spot_at-part}
use Rattle.block.specs.declared.Front.{Front}
use Rattle.block.specs.Table.{block, blocks_of, version1}
use Rattle.block.specs.Node.{store_of, node_of, node_from, points_from, inserts_from, deletes_from}
use Rattle.block.specs.Access.{front_of, used_of}
use Rattle.block.proofs.Facts.{BlockFacts, block-facts}
use Rattle.block.specs.NodeRules.{ValidBlock}
use Rattle.visit.specs.Visit.{waiting, keys_from, Ready}

-- ---- records of a block are records of the table

module _ (t : List ℕ) (b : ℕ) where
  -- of m bytes each, w apart
  records-run : {A : Type 0} (f : List ℕ → ℕ → A) (m : ℕ) → ((a k : ℕ) (s : List ℕ) (i : ℕ) → i + m ≤ k → f (take k (drop a s)) i ≡ f s (a + i))
      → (w n x : ℕ) → m ≤ w → x + w * n ≤ 2048 → records (f t) w n (b * 2048 + x) ≡ records (f (block t b)) w n x
  records-run f m part w n x g h =
      records-cong (f t) (f (block t b)) w n (b * 2048 + x) x
      (λ i l.
      let e : b * 2048 + x + w * i ≡ b * 2048 + (x + w * i) = omega arith in
      ap (f t) e ∙ sym (part (b * 2048) 2048 t (x + w * i) (omega (arith, stride w l))))

  pub keys-run : (w n x : ℕ) → 8 ≤ w → x + w * n ≤ 2048 → keys_from t w n (b * 2048 + x) ≡ keys_from (block t b) w n x
  keys-run = records-run key_at 8 key_at-part

  spots-run : (n x : ℕ) → x + 12 * n ≤ 2048 → records (spot_at t) 12 n (b * 2048 + x) ≡ records (spot_at (block t b)) 12 n x
  spots-run n x = records-run spot_at 12 spot_at-part 12 n x (omega arith)

-- ---- the buffers of a node, from the numbers at its front

pub record Runs (t : List ℕ) (b : ℕ) (h : Front) : Type 0 where
  pub used : used_of h ≤ 1896
  pub p-most : h.p ≤ 64
  pub i-most : h.i ≤ 64
  pub d-most : h.d ≤ 16
  pub points : records (spot_at t) 12 h.p (b * 2048 + points_from version1 h.c) ≡ (store_of t b).points
  pub inserts : records (spot_at t) 12 h.i (b * 2048 + inserts_from version1 h.c h.p) ≡ (store_of t b).inserts
  pub deletes : keys_from t 8 h.d (b * 2048 + deletes_from version1 h.c h.p h.i) ≡ (store_of t b).deletes
  pub points-rise : rising (keys (store_of t b).points) ≡ true
  pub inserts-rise : rising (keys (store_of t b).inserts) ≡ true
  pub deletes-rise : rising (store_of t b).deletes ≡ true
  pub points-limited : every limited (keys (store_of t b).points) ≡ true
  pub inserts-limited : every limited (keys (store_of t b).inserts) ≡ true
  pub deletes-limited : every limited (store_of t b).deletes ≡ true

module _ (t : List ℕ) (b : ℕ) (v : ValidBlock t b) where
  facts : BlockFacts (blocks_of (length t)) v.level v.asked (block t b)
  unfolding store_of
  facts = block-facts (blocks_of (length t)) v.level v.asked (block t b) v.ok

  front-runs : Runs t b (front_of (block t b))
  unfolding store_of node_of node_from front_of
  front-runs =
      record {
        used = facts.used-most;
        p-most = facts.p-most;
        i-most = facts.i-most;
        d-most = facts.d-most;
        points = spots-run t b (be 1 (block t b) 4) (points_from version1 (be 1 (block t b) 7)) (omega (arith, facts.points-end));
        inserts = spots-run t b (be 1 (block t b) 5) (inserts_from version1 (be 1 (block t b) 7) (be 1 (block t b) 4)) (omega (arith, facts.inserts-end));
        deletes = keys-run t b 8 (be 1 (block t b) 6) (deletes_from version1 (be 1 (block t b) 7) (be 1 (block t b) 4) (be 1 (block t b) 5)) (omega arith) (omega (arith, facts.used-most));
        points-rise = facts.node.points-rise;
        inserts-rise = facts.node.inserts-rise;
        deletes-rise = facts.node.deletes-rise;
        points-limited = facts.node.points-limited;
        inserts-limited = facts.node.inserts-limited;
        deletes-limited = facts.node.deletes-limited;
      }

  pub runs_of : {h : Front} → h ≡ front_of (block t b) → Runs t b h
  runs_of e = subst (λ (h : Front). Runs t b h) (sym e) front-runs

-- ---- what a reader of a run asks

-- records whose keys are those of a buffer
run-ready : {t : List ℕ} {at w n : ℕ} {ks : List ℕ} → 8 ≤ w → w ≤ 12 → n ≤ 64 → at + w * n ≤ length t → keys_from t w n at ≡ ks → rising ks ≡ true → every limited ks ≡ true → Ready t at w n
unfolding limited_from
run-ready wide near few inside e rise limits =
    record { wide = wide; near = near; few = few; inside = inside; rise = ap rising e ∙ rise; limits = ap (every limited) e ∙ limits }

module _ (t : List ℕ) (b : ℕ) (h : Front) (r : Runs t b h) (inside : b * 2048 + 2048 ≤ length t) where
  points-keys : {x : ℕ} → x ≡ points_from version1 h.c → keys_from t 12 h.p (b * 2048 + x) ≡ keys (store_of t b).points
  points-keys {x} e =
      ap (λ (y : ℕ). keys_from t 12 h.p (b * 2048 + y)) e ∙ sym (keys-records t 12 h.p (b * 2048 + points_from version1 h.c))
      ∙ ap keys r.points

  inserts-keys : {x : ℕ} → x ≡ inserts_from version1 h.c h.p → keys_from t 12 h.i (b * 2048 + x) ≡ keys (store_of t b).inserts
  inserts-keys {x} e =
      ap (λ (y : ℕ). keys_from t 12 h.i (b * 2048 + y)) e ∙ sym (keys-records t 12 h.i (b * 2048 + inserts_from version1 h.c h.p))
      ∙ ap keys r.inserts

  deletes-keys : {x : ℕ} → x ≡ deletes_from version1 h.c h.p h.i → keys_from t 8 h.d (b * 2048 + x) ≡ (store_of t b).deletes
  deletes-keys {x} e = ap (λ (y : ℕ). keys_from t 8 h.d (b * 2048 + y)) e ∙ r.deletes

  pub points-ready : {x : ℕ} → x ≡ points_from version1 h.c → Ready t (b * 2048 + x) 12 h.p
  points-ready {x} e = run-ready (omega arith) (omega arith) r.p-most (omega (arith, r.used)) (points-keys e) r.points-rise r.points-limited

  pub inserts-ready : {x : ℕ} → x ≡ inserts_from version1 h.c h.p → Ready t (b * 2048 + x) 12 h.i
  inserts-ready {x} e = run-ready (omega arith) (omega arith) r.i-most (omega (arith, r.used)) (inserts-keys e) r.inserts-rise r.inserts-limited

  pub deletes-ready : {x : ℕ} → x ≡ deletes_from version1 h.c h.p h.i → Ready t (b * 2048 + x) 8 h.d
  deletes-ready {x} e = run-ready (omega arith) (omega arith) (omega (arith, r.d-most)) (omega (arith, r.used)) (deletes-keys e) r.deletes-rise r.deletes-limited

  pub waiting-is : {x y : ℕ} → x ≡ inserts_from version1 h.c h.p → y ≡ deletes_from version1 h.c h.p h.i
      → keys_from t 12 h.i (b * 2048 + x) ++ keys_from t 8 h.d (b * 2048 + y) ≡ waiting (store_of t b)
  waiting-is e g = ap₂ (λ (u v : List ℕ). u ++ v) (inserts-keys e) (deletes-keys g)

  -- where neither of the two has a key, none waits
  pub waiting_none : eqb h.i 0 && eqb h.d 0 ≡ true → waiting (store_of t b) ≡ []
  waiting_none q =
      sym (waiting-is refl refl)
      ∙ ap₂ (λ (i d : ℕ). keys_from t 12 i (b * 2048 + inserts_from version1 h.c h.p) ++ keys_from t 8 d (b * 2048 + deletes_from version1 h.c h.p h.i))
      (eqb-true h.i 0 (and_left (eqb h.i 0) (eqb h.d 0) q))
      (eqb-true h.d 0 (and_right (eqb h.i 0) (eqb h.d 0) q))
