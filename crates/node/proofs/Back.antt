-- What was written is read back: the front of a node, a key that may be unused, an entry.
-- Assumes nothing.
use mathlib.Core.Path.{◌≡◌, refl, sym, ap, ap₂, ◌∙◌}
use mathlib.Core.Bool.{Bool, true, false, true≢false, ◌&&◌}
use mathlib.Core.List.{List, ◌++◌, append_assoc}
use Prim.Native.Nat.{ℕ, ◌+◌, ◌<◌}
use native.Mathlib.Nat.{add-zero}
use native.Mathlib.Omega.{arith}
use lib.Dec.{eqb}
use lib.ListN.{length, length-append}
use Rattle.octets.specs.Bytes.{be, bytes_of}
use Rattle.octets.proofs.Bytes.{be-right}
use Rattle.octets.proofs.Tests.{and_left, and_right}
use Rattle.spot.specs.Keys.{all_keys}
use Rattle.spot.specs.Spots.{key_at}
use Rattle.spot.proofs.Places.{within-to}
use Rattle.spot.proofs.Stored.{key_back}
use Rattle.block.specs.declared.Entry.{Entry}
use Rattle.block.specs.declared.Front.{Front}
use Rattle.node.specs.Bytes.{front_bytes, bytes_unless, entry_bytes, key_fits, keys_fit}
use Rattle.node.proofs.Put.{length-unless}

-- ---- the front

pub record FrontFits (h : Front) : Type 0 where
  pub used : h.used < 65536
  pub version : h.version < 256
  pub level : h.level < 256
  pub p : h.p < 256
  pub i : h.i < 256
  pub d : h.d < 256
  pub c : h.c < 256

-- its numbers stand at the front of s
pub record FrontThere (h : Front) (s : List ℕ) : Type 0 where
  pub used : be 2 s 0 ≡ h.used
  pub version : be 1 s 2 ≡ h.version
  pub level : be 1 s 3 ≡ h.level
  pub p : be 1 s 4 ≡ h.p
  pub i : be 1 s 5 ≡ h.i
  pub d : be 1 s 6 ≡ h.d
  pub c : be 1 s 7 ≡ h.c

pub front-back : (h : Front) (b : List ℕ) → FrontFits h → FrontThere h (front_bytes h ++ b)
unfolding front_bytes be bytes_of
front-back h b f =
    record {
      used = omega (arith, f.used);
      version = omega (arith, f.version);
      level = omega (arith, f.level);
      p = omega (arith, f.p);
      i = omega (arith, f.i);
      d = omega (arith, f.d);
      c = omega (arith, f.c);
    }

pub length_front : (h : Front) → length (front_bytes h) ≡ 8
unfolding front_bytes bytes_of
length_front h = refl

-- ---- a key that may be unused

unless-back : (u : Bool) (k : ℕ) (a b : List ℕ) → k < all_keys
    → (u ≡ false → key_at (a ++ (bytes_unless u k ++ b)) (length a) ≡ k) × (u ≡ true → be 8 (a ++ (bytes_unless u k ++ b)) (length a) ≡ 0)
unfolding bytes_unless be
unless-back true k a b h =
    (λ f. absurd (true≢false f), λ f. ap (be 8 (a ++ (bytes_unless true k ++ b))) (sym (add-zero (length a))) ∙ be-right 8 a (bytes_unless true k ++ b) 0)
unless-back false k a b h = (λ f. key_back k h a b, λ f. absurd (true≢false (sym f)))

unless-there : (u : Bool) (k : ℕ) (a b : List ℕ) {s : List ℕ} {n : ℕ} → s ≡ a ++ (bytes_unless u k ++ b) → length a ≡ n → key_fits k ≡ true
    → (u ≡ false → key_at s n ≡ k) × (u ≡ true → be 8 s n ≡ 0)
unless-there u k a b e m h =
    let g = unless-back u k a b (within-to 0 all_keys k h) in
    (λ f. ap₂ key_at e (sym m) ∙ g.0 f, λ f. ap₂ (be 8) e (sym m) ∙ g.1 f)

-- ---- an entry

pub record EntryThere (first : Bool) (e : Entry) (s : List ℕ) (n : ℕ) : Type 0 where
  pub block : be 2 s n ≡ e.block
  pub size : be 1 s (n + 2) ≡ e.size
  pub bare : be 1 s (n + 3) ≡ 0
  pub low : (first ≡ false → key_at s (n + 4) ≡ e.low) × (first ≡ true → be 8 s (n + 4) ≡ 0)
  pub top : (eqb e.size 0 ≡ false → key_at s (n + 12) ≡ e.top) × (eqb e.size 0 ≡ true → be 8 s (n + 12) ≡ 0)
  pub bottom : (eqb e.size 0 ≡ false → key_at s (n + 20) ≡ e.bottom) × (eqb e.size 0 ≡ true → be 8 s (n + 20) ≡ 0)

-- the numbers before an entry's keys
numbers : Entry → List ℕ
numbers e = bytes_of 2 e.block ++ bytes_of 1 e.size ++ bytes_of 1 0

length-numbers : (a : List ℕ) (e : Entry) → length (a ++ numbers e) ≡ length a + 4
unfolding numbers bytes_of
length-numbers a e = length-append a (numbers e)

module _ (first : Bool) (e : Entry) (a b : List ℕ) where
  keys-behind : a ++ (entry_bytes first e ++ b)
      ≡ a ++ numbers e ++ (bytes_unless first e.low ++ (bytes_unless (eqb e.size 0) e.top ++ (bytes_unless (eqb e.size 0) e.bottom ++ b)))
  unfolding entry_bytes numbers
  keys-behind = simp append_assoc

  pub entry-back : e.block < 65536 → e.size < 256 → keys_fit e ≡ true → EntryThere first e (a ++ (entry_bytes first e ++ b)) (length a)
  unfolding entry_bytes bytes_of be
  entry-back near small fit =
      let l : List ℕ = bytes_unless first e.low in
      let t : List ℕ = bytes_unless (eqb e.size 0) e.top in
      let u : List ℕ = bytes_unless (eqb e.size 0) e.bottom in
      let x : List ℕ = a ++ numbers e in
      let r : List ℕ = entry_bytes first e ++ b in
      let s : List ℕ = a ++ r in
      let b0 : be 2 r 0 ≡ e.block = omega arith in
      let b2 : be 1 r 2 ≡ e.size = omega arith in
      let f = and_left (key_fits e.low && key_fits e.top) (key_fits e.bottom) fit in
      let n = length-numbers a e in
      record {
        block = ap (be 2 s) (sym (add-zero (length a))) ∙ be-right 2 a r 0 ∙ b0;
        size = be-right 1 a r 2 ∙ b2;
        bare = be-right 1 a r 3;
        low = unless-there first e.low x (t ++ (u ++ b)) keys-behind n (and_left (key_fits e.low) (key_fits e.top) f);
        top = unless-there (eqb e.size 0) e.top (x ++ l) (u ++ b) (keys-behind ∙ sym (append_assoc x l (t ++ (u ++ b))))
            (length-append x l ∙ omega (arith, n, length-unless first e.low))
            (and_right (key_fits e.low) (key_fits e.top) f);
        bottom = unless-there (eqb e.size 0) e.bottom (x ++ l ++ t) b (keys-behind ∙ simp append_assoc)
            (length-append (x ++ l) t ∙ omega (arith, n, length-append x l, length-unless first e.low, length-unless (eqb e.size 0) e.top))
            (and_right (key_fits e.low && key_fits e.top) (key_fits e.bottom) fit);
      }
