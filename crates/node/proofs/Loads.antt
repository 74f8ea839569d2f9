-- The node that is read from a block that keeps the rules: it is the block's node, it can be stored, and its lists are in order.
-- Assumes nothing.
use mathlib.Core.Path.{◌≡◌, refl, sym, ap, subst, ◌∙◌}
use mathlib.Core.Bool.{true}
use mathlib.Core.List.{List}
use Prim.Native.Nat.{ℕ, ◌+◌, ◌-◌, ◌*◌, ◌≤◌, ◌<◌}
use native.Mathlib.Omega.{arith}
use lib.ListN.{length, take, drop, get_or}
use Rattle.octets.specs.Lists.{records, rising}
use Rattle.octets.proofs.Bytes.{be-one}
use Rattle.spot.specs.Spots.{key_at, spot_at, keys, limited_from}
use Rattle.spot.specs.declared.Spot.{Spot}
use Rattle.block.specs.declared.Entry.{Entry}
use Rattle.block.specs.declared.Front.{Front}
use Rattle.block.specs.Table.{version1, blocks_of, block}
use Rattle.block.specs.Node.{node_of, node_from, store_of, points_from, inserts_from, deletes_from}
use Rattle.block.specs.NodeRules.{ValidBlock, ValidBytes, zero_first, lows}
use Rattle.block.specs.Access.{front_of, used_of}
use Rattle.block.proofs.Facts.{BlockFacts, block-facts}
use Rattle.block.proofs.Frames.{part-is}
use Rattle.block.proofs.Limits.{valid-bytes, points-inside, inserts-inside, deletes-inside}
use Rattle.buffer.specs.Buffer.{held, named}
use Rattle.node.specs.declared.NodeValue.{NodeValue}
use Rattle.node.specs.Memory.{Loaded}
use Rattle.node.specs.Blocks.{EntriesLoaded, LoadedIn}
use Rattle.node.proofs.Whole.{same-node}

-- the counts of such a block
pub record Counts (h : Front) : Type 0 where
  pub c : h.c ≤ 8
  pub p : h.p ≤ 64
  pub i : h.i ≤ 64
  pub d : h.d ≤ 16
  pub used : used_of h ≤ 1896

module _ (s : List ℕ) (v : ValidBytes s) (h : Front) (e : h ≡ front_of s) where
  facts : BlockFacts v.room v.level v.asked s
  facts = block-facts v.room v.level v.asked s v.ok

  pub counts : Counts h
  counts = subst Counts (sym e) (record { c = facts.c-most; p = facts.p-most; i = facts.i-most; d = facts.d-most; used = facts.used-most })

  -- the places of its lists' keys, where the lists stand
  pub points-limited : (at : ℕ) → at ≡ points_from version1 h.c → limited_from s 12 h.p at ≡ true
  points-limited at q = ap (limited_from s 12 h.p) q ∙ ap (λ (x : Front). limited_from s 12 x.p (points_from version1 x.c)) e ∙ points-inside s v

  pub inserts-limited : (at : ℕ) → at ≡ inserts_from version1 h.c h.p → limited_from s 12 h.i at ≡ true
  inserts-limited at q =
      ap (limited_from s 12 h.i) q ∙ ap (λ (x : Front). limited_from s 12 x.i (inserts_from version1 x.c x.p)) e ∙ inserts-inside s v

  pub deletes-limited : (at : ℕ) → at ≡ deletes_from version1 h.c h.p h.i → limited_from s 8 h.d at ≡ true
  deletes-limited at q =
      ap (limited_from s 8 h.d) q ∙ ap (λ (x : Front). limited_from s 8 x.d (deletes_from version1 x.c x.p x.i)) e ∙ deletes-inside s v

  module _ (n : NodeValue) (level : n.level ≡ get_or s 3 0) (small : n.level < 256) (entries : EntriesLoaded s n.entries)
      (points : (n.points.n ≡ h.p) × (held n.points ≡ records (spot_at s) 12 h.p (points_from version1 h.c)))
      (inserts : (n.inserts.n ≡ h.i) × (held n.inserts ≡ records (spot_at s) 12 h.i (inserts_from version1 h.c h.p)))
      (deletes : (n.deletes.n ≡ h.d) × (named n.deletes ≡ records (key_at s) 8 h.d (deletes_from version1 h.c h.p h.i))) where
    points-are : (room : ℕ) → held n.points ≡ (node_of room s).points
    unfolding node_of node_from front_of
    points-are room = points.1 ∙ ap (λ (x : Front). records (spot_at s) 12 x.p (points_from version1 x.c)) e

    inserts-are : (room : ℕ) → held n.inserts ≡ (node_of room s).inserts
    unfolding node_of node_from front_of
    inserts-are room = inserts.1 ∙ ap (λ (x : Front). records (spot_at s) 12 x.i (inserts_from version1 x.c x.p)) e

    deletes-are : (room : ℕ) → named n.deletes ≡ (node_of room s).deletes
    unfolding node_of node_from front_of
    deletes-are room = deletes.1 ∙ ap (λ (x : Front). records (key_at s) 8 x.d (deletes_from version1 x.c x.p x.i)) e

    level-is : (room : ℕ) → n.level ≡ (node_of room s).level
    unfolding node_of node_from
    level-is room = level ∙ sym (be-one s 3)

    laid-is : (room : ℕ) → true ≡ (node_of room s).laid
    unfolding node_of node_from
    laid-is room = sym facts.node.laid

    room-is : (room : ℕ) → room ≡ (node_of room s).room
    unfolding node_of node_from
    room-is room = refl

    pub loaded-in : LoadedIn s n
    loaded-in =
        let f = facts.node in
        record {
          is = λ room. same-node (level-is room) (entries.is room) (points-are room) (inserts-are room) (deletes-are room) (laid-is room) (room-is room);
          storable = record {
            level = small;
            entries = entries.fit;
            first = ap (λ (l : List Entry). zero_first (lows l)) (entries.is v.room) ∙ f.first-open;
            points = omega (arith, points.0, counts);
            inserts = omega (arith, inserts.0, counts);
            deletes = omega (arith, deletes.0, counts);
          };
          points = record { fits = omega (arith, points.0, counts); up = ap (λ (l : List Spot). rising (keys l)) (points-are v.room) ∙ f.points-rise };
          inserts = record { fits = omega (arith, inserts.0, counts); up = ap (λ (l : List Spot). rising (keys l)) (inserts-are v.room) ∙ f.inserts-rise };
          deletes = record { fits = omega (arith, deletes.0, counts); up = ap rising (deletes-are v.room) ∙ f.deletes-rise };
        }

-- ---- a block of a table

module _ (t : List ℕ) (b : ℕ) (v : ValidBlock t b) where
  pub valid-part : ValidBytes (take (b * 2048 + 2048 - b * 2048) (drop (b * 2048) t))
  valid-part = subst ValidBytes (sym (part-is t b)) (valid-bytes t b v)

  pub loaded-part : (n : NodeValue) → LoadedIn (take (b * 2048 + 2048 - b * 2048) (drop (b * 2048) t)) n → Loaded t b n
  unfolding store_of
  loaded-part n l =
      let g : LoadedIn (block t b) n = subst (λ (s : List ℕ). LoadedIn s n) (part-is t b) l in
      record { is = g.is (blocks_of (length t)); storable = g.storable; points = g.points; inserts = g.inserts; deletes = g.deletes }
