-- The writes of `store`, one behind the other, make a block in which the node stands.
-- Assumes nothing.
use mathlib.Core.Path.{◌≡◌, refl, sym, ap, ap₂, subst, ◌∙◌}
use mathlib.Core.Bool.{true}
use mathlib.Core.List.{List, ◌++◌}
use Prim.Native.Nat.{ℕ, ◌+◌, ◌-◌, ◌*◌, ◌≤◌}
use native.Mathlib.Omega.{arith}
use lib.ListN.{length, take, drop, replicate, length-append, length-replicate}
use lib.Seq.{take_at, length-take-le}
use borrow.Rule.Slice.PartMut.{put_mid}
use Rattle.octets.specs.Lists.{every}
use Rattle.spot.specs.Spots.{spots_bytes}
use Rattle.spot.specs.declared.Spot.{Spot}
use Rattle.block.specs.declared.Entry.{Entry}
use Rattle.block.specs.declared.Front.{Front}
use Rattle.block.specs.Table.{blocks_of}
use Rattle.block.specs.Node.{node_of}
use Rattle.block.proofs.Frames.{put-part-is, put-length, block-put-other, store-put-same}
use Rattle.buffer.specs.Buffer.{held, named}
use Rattle.node.specs.declared.NodeValue.{NodeValue}
use Rattle.node.specs.Memory.{entries_of, Storable, Stored, StoredIn}
use Rattle.node.specs.Bytes.{front_bytes, entries_bytes, keys_bytes, key_fits, spot_fits, keys_fit, SpotsWritten, KeysWritten, EntriesWritten}
use Rattle.octets.specs.Bytes.{put_bytes}
use Rattle.octets.proofs.Parts.{bytes-length, bytes-behind}
use Rattle.node.proofs.Back.{length_front}
use Rattle.node.proofs.Whole.{Parts, whole_bytes, length-b, length-p, length-i, length-d, whole_is}

-- the numbers at the front of a node in memory
abbrev pub front_for : NodeValue → Front
front_for n =
    record {
      used = 8 + 28 * n.entries.n + 12 * n.points.n + 12 * n.inserts.n + 8 * n.deletes.n;
      version = 1;
      level = n.level;
      p = n.points.n;
      i = n.inserts.n;
      d = n.deletes.n;
      c = n.entries.n;
    }

-- the arrays are as long as their types say
pub record Long (n : NodeValue) : Type 0 where
  pub entries : length n.entries.list ≡ 8
  pub points : length n.points.spots ≡ 80
  pub inserts : length n.inserts.spots ≡ 80
  pub deletes : length n.deletes.keys ≡ 32

parts-of : (n : NodeValue) → Storable n → Long n → every keys_fit (entries_of n.entries) ≡ true → every spot_fits (held n.points) ≡ true
    → every spot_fits (held n.inserts) ≡ true → every key_fits (named n.deletes) ≡ true
    → Parts (front_for n) (entries_of n.entries) (held n.points) (held n.inserts) (named n.deletes)
parts-of n s l fe fp fi fd =
    record {
      level = s.level;
      version = refl;
      used = omega arith;
      c = sym (length-take-le n.entries.n n.entries.list (omega (arith, l.entries, s.entries.few)));
      p = sym (length-take-le n.points.n n.points.spots (omega (arith, l.points, s.points)));
      i = sym (length-take-le n.inserts.n n.inserts.spots (omega (arith, l.inserts, s.inserts)));
      d = sym (length-take-le n.deletes.n n.deletes.keys (omega (arith, l.deletes, s.deletes)));
      c-most = s.entries.few;
      p-most = s.points;
      i-most = s.inserts;
      d-most = s.deletes;
      each = s.entries.each;
      first = s.first;
      entries_fit = fe;
      points-fit = fp;
      inserts-fit = fi;
      deletes-fit = fd;
    }

module _ (n : NodeValue) (s : List ℕ) {a b c d e f : List ℕ} (sized : length s ≡ 2048) (ok : Storable n) (long : Long n)
    (pa : a ≡ put_bytes s 0 (front_bytes (front_for n)))
    (pb : EntriesWritten a b (entries_of n.entries))
    (pc : SpotsWritten b c (8 + 28 * n.entries.n) (held n.points))
    (pd : SpotsWritten c d (8 + 28 * n.entries.n + 12 * n.points.n) (held n.inserts))
    (pe : KeysWritten d e (8 + 28 * n.entries.n + 12 * n.points.n + 12 * n.inserts.n) (named n.deletes))
    (pf : f ≡ take (front_for n).used e ++ replicate (length e - (front_for n).used) 0) where
  abbrev h : Front
  h = front_for n

  abbrev es : List Entry
  es = entries_of n.entries

  abbrev ps : List Spot
  ps = held n.points

  abbrev is : List Spot
  is = held n.inserts

  abbrev ds : List ℕ
  ds = named n.deletes

  g : Parts h es ps is ds
  g = parts-of n ok long pb.fit pc.fit pd.fit pe.fit

  abbrev x : List ℕ
  x = front_bytes h ++ entries_bytes es ++ spots_bytes ps ++ spots_bytes is ++ keys_bytes ds

  written : e ≡ put_bytes s 0 x
  written =
      bytes-behind s (front_bytes h ++ entries_bytes es ++ spots_bytes ps ++ spots_bytes is) (keys_bytes ds) 0 (8 + 28 * h.c + 12 * h.p + 12 * h.i)
      (omega (arith, length-i h es ps is ds g)) (omega (arith, ok))
      (bytes-behind s (front_bytes h ++ entries_bytes es ++ spots_bytes ps) (spots_bytes is) 0 (8 + 28 * h.c + 12 * h.p)
      (omega (arith, length-p h es ps is ds g)) (omega (arith, ok))
      (bytes-behind s (front_bytes h ++ entries_bytes es) (spots_bytes ps) 0 (8 + 28 * h.c) (omega (arith, length-b h es ps is ds g)) (omega (arith, ok))
      (bytes-behind s (front_bytes h) (entries_bytes es) 0 8 (omega (arith, length_front h)) (omega arith) pa pb.bytes)
      pc.bytes)
      pd.bytes)
      pe.bytes

  long-x : length x ≡ h.used
  long-x = length-d h es ps is ds g ∙ omega arith

  same_length : length e ≡ 2048
  same_length = ap length written ∙ bytes-length s x 0 (omega (arith, long-x, ok)) ∙ sized

  whole : f ≡ whole_bytes h es ps is ds (2048 - h.used)
  unfolding whole_bytes put_bytes
  whole =
      pf
      ∙ ap₂ (λ (y : List ℕ) (k : ℕ). y ++ replicate (k - h.used) 0) (ap (take h.used) written ∙ take_at x (drop (0 + length x) s) h.used long-x) same_length

  pub stored-in : StoredIn f n
  unfolding whole_bytes
  stored-in =
      let k : ℕ = 2048 - h.used in
      record {
        is = λ room. ap (node_of room) whole ∙ whole_is h es ps is ds k g room;
        sized = ap length whole ∙ length-append x (replicate k 0) ∙ omega (arith, long-x, length-replicate {A = ℕ} k 0, ok);
      }

-- a block lent, in which the node was stored, and come back
pub block-stored : (t : List ℕ) (b : ℕ) (n : NodeValue) {s : List ℕ} → b * 2048 + 2048 ≤ length t → StoredIn s n
    → Stored t (put_mid (b * 2048) (b * 2048 + 2048 - b * 2048) t s) b n
block-stored t b n {s} h g =
    subst (λ (u : List ℕ). Stored t u b n) (sym (put-part-is t b s))
    (record {
      here = store-put-same t b s h g.sized ∙ g.is (blocks_of (length t));
      else = block-put-other t b s h g.sized;
      sized = put-length t b s h g.sized;
    })
