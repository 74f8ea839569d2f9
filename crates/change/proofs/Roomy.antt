-- Whether a node in memory has room: its numbers say what its lists do. And where keys lie that are inside the limits.
-- Assumes nothing.
use mathlib.Core.Path.{◌≡◌, ap, sym, ◌∙◌}
use mathlib.Core.Bool.{Bool, true, not, ◌&&◌, false≢true}
use mathlib.Core.List.{List, Memᴰ}
use Prim.Native.Nat.{ℕ}
use lib.ListN.{length}
use lib.Dec.{eqb, ltb}
use borrow.Author.Tests.{eq-eqb, ltb-true}
use Rattle.octets.specs.Lists.{every}
use Rattle.octets.proofs.Tests.{and_left, and_right, every-mem}
use Rattle.spot.specs.Keys.{within, limited, start_key, end_key}
use Rattle.spot.proofs.Limits.{limited-within}
use Rattle.block.proofs.Shut.{all4}
use Rattle.buffer.proofs.Laws.{held-length, named-length}
use Rattle.node.specs.declared.NodeValue.{NodeValue}
use Rattle.edit.specs.Edits.{Tidy}
use Rattle.change.specs.Room.{roomy}
use Rattle.change.specs.Growing.{HasRoom}

module _ (n : NodeValue) (longP : length n.points.spots ≡ 80) (long_i : length n.inserts.spots ≡ 80) (long_d : length n.deletes.keys ≡ 32) (tidy : Tidy n) where
  abbrev a : Bool
  a = not (eqb n.level 0)

  abbrev b : Bool
  b = ltb 32 n.points.n

  abbrev c : Bool
  c = ltb n.inserts.n 64

  abbrev d : Bool
  d = ltb n.deletes.n 16

  -- what the test says
  pub has_room : HasRoom n (((not (eqb n.level 0) && ltb 32 n.points.n) && ltb n.inserts.n 64) && ltb n.deletes.n 16)
  unfolding roomy
  has_room =
      record {
        same = λ room. rw (held-length n.points longP tidy.points.fits, held-length n.inserts long_i tidy.inserts.fits, named-length n.deletes long_d tidy.deletes.fits) (sym (all4 a b c d));
        inner = λ e z. false≢true (sym (ap not (eq-eqb n.level 0 z)) ∙ and_left a b (and_left (a && b) c (and_left ((a && b) && c) d e)));
        points = λ e. ltb-true 32 n.points.n (and_right a b (and_left (a && b) c (and_left ((a && b) && c) d e)));
        inserts = λ e. ltb-true n.inserts.n 64 (and_right (a && b) c (and_left ((a && b) && c) d e));
        deletes = λ e. ltb-true n.deletes.n 16 (and_right ((a && b) && c) d e);
      }

-- ---- keys

-- keys with a place inside the limits lie in the root's range, cut down to them
pub limited-in : (ks : List ℕ) → every limited ks ≡ true → (k : ℕ) → Memᴰ k ks → within start_key end_key k ≡ true
limited-in ks h k i = sym (limited-within k) ∙ every-mem limited ks h i
