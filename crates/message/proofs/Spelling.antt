-- Changes as bytes, and read from bytes: one spelling for each.
-- Assumes nothing.
use mathlib.Core.Path.{◌≡◌, refl, sym, ap, ap₂, subst, ◌∙◌}
use mathlib.Core.Logic.{⊎_elim}
use mathlib.Core.Bool.{true}
use mathlib.Core.List.{List, [], ◌∷◌, ◌++◌, append_assoc, append-nil}
use mathlib.Core.Option.{Option, some}
use Prim.Native.Nat.{ℕ, zero, suc, ◌+◌, ◌/◌, ◌%◌, ◌≤◌, ◌<◌}
use native.Mathlib.Omega.{arith}
use lib.Dec.{ltb}
use lib.ListN.{length, get_or, take, drop, replicate, length-append, length-replicate, take-append-drop, length-drop}
use lib.Seq.{get_or-append_seam, get_or_at, drop-drop, drop-length}
use borrow.Author.Tests.{ltb-true, eq-eqb, le-leb, lt-ltb}
use Rattle.octets.specs.Lists.{every}
use Rattle.octets.specs.Bytes.{be, bytes_of}
use Rattle.octets.proofs.Tests.{and_left, and_right, and_both, all_cons, all_nil}
use Rattle.octets.proofs.Bytes.{be-lt, be-left, be-right, be-bytes_of, bytes_of-be, length-bytes_of}
use Rattle.spot.specs.declared.Spot.{Spot}
use Rattle.spot.specs.Keys.{word, all_keys, within, unsigned32}
use Rattle.spot.specs.Spots.{key_at, spot_at, key_bytes, spot_bytes}
use Rattle.spot.proofs.Card.{key_at-lt, spot-key, key_at-right, spot_at-right, length-key_bytes, length-spot_bytes}
use Rattle.spot.proofs.Places.{within-yes}
use Rattle.spot.proofs.Stored.{good_spot, key_back, spot_back, key_bytes-key_at, spot_bytes-spot_at}
use Rattle.message.specs.declared.Change.{Change}
use Rattle.message.specs.declared.Change.TheVariants.{Add, Withdraw}
use Rattle.message.specs.Changes.{change_fits, change_bytes, changes_bytes, change_size, read_change, in_front, read_changes, is_there, changes_of}
use Rattle.message.specs.Codes.{change_at}
use Rattle.message.specs.Messages.{message_of, head_fits, read_message, read_list}
use Rattle.message.specs.Promises.{Octets, Sendable, OneSpelling}
use Rattle.message.proofs.Bytes.{length-change, length-list, length_most, head_of, length-head, message-parts, length-message, zeros_of, be-zeros, cut-first}
use Rattle.message.proofs.Cursor.{OneThere, change-adds, change-withdraws, size-withdraws, one-there, next-there, end-there, none_read, count-there, MessageThere, message-there, message-count, list-there}

-- ---- a change that is read stands there

record Stands (fill : ℕ) (s : List ℕ) (at : ℕ) (c : Change) : Type 0 where
  fits : change_fits c ≡ true
  bytes : drop at s ≡ change_bytes fill c ++ drop (at + change_size fill c) s

module _ (fill : ℕ) (s : List ℕ) (octets : Octets s) (at : ℕ) where
  abbrev kind : ℕ
  kind = get_or s at 0

  key-small : (i : ℕ) → (spot_at s i).key < all_keys
  key-small i = omega (arith, key_at-lt s i, spot-key s i)

  track-small : (i : ℕ) → (spot_at s i).track < word
  unfolding spot_at
  track-small i = be-lt 4 s (i + 8) octets

  add-stands : kind ≡ 1 → at + 13 ≤ length s → Stands fill s at (Add (spot_at s (at + 1)))
  unfolding change_fits change_size change_bytes
  add-stands k h =
      let x : Spot = spot_at s (at + 1) in
      let e : at + 1 + 12 ≡ at + 13 = omega arith in
      record {
        fits = and_both (ltb x.key all_keys) (ltb x.track word) (lt-ltb x.key all_keys (key-small (at + 1))) (lt-ltb x.track word (track-small (at + 1)));
        bytes = cut-first s at 12 (omega arith) ∙ ap₂ (λ (b : ℕ) (l : List ℕ). b ∷ (l ++ drop (at + 1 + 12) s)) k (sym (spot_bytes-spot_at s octets (at + 1) (omega arith))) ∙ ap (λ (j : ℕ). 1 ∷ (spot_bytes x ++ drop j s)) e;
      }

  withdraw-stands : kind ≡ 2 → at + (9 + fill) ≤ length s → be fill s (at + 9) ≡ 0 → Stands fill s at (Withdraw (key_at s (at + 1)))
  unfolding change_fits change_size change_bytes
  withdraw-stands k h z =
      let i : ℕ = at + 1 in
      let x : ℕ = key_at s i in
      let e : i + 8 ≡ at + 9 = omega arith in
      let g : at + 9 + fill ≡ at + (9 + fill) = omega arith in
      let rest : drop (at + 9) s ≡ replicate fill 0 ++ drop (at + (9 + fill)) s =
      sym (take-append-drop fill (drop (at + 9) s))
      ∙ ap₂ (λ (l r : List ℕ). l ++ r) (sym (bytes_of-be fill s (at + 9) octets (omega arith)) ∙ ap (bytes_of fill) z ∙ zeros_of fill)
      (drop-drop fill (at + 9) s ∙ ap (λ (j : ℕ). drop j s) g)
      in
      record {
        fits = lt-ltb x all_keys (key_at-lt s i);
        bytes =
            cut-first s at 8 (omega arith) ∙ ap₂ (λ (b : ℕ) (l : List ℕ). b ∷ (l ++ drop (i + 8) s)) k (sym (key_bytes-key_at s octets i (omega arith)))
            ∙ ap (λ (l : List ℕ). 2 ∷ (key_bytes x ++ l)) (ap (λ (j : ℕ). drop j s) e ∙ rest)
            ∙ ap (λ (l : List ℕ). 2 ∷ l) (sym (append_assoc (key_bytes x) (replicate fill 0) (drop (at + (9 + fill)) s)));
      }

  one-stands : OneThere fill s at → Stands fill s at (change_at s at)
  one-stands o =
      ⊎_elim (λ (k : kind ≡ 1). subst (Stands fill s at) (sym (change-adds s at k)) (add-stands k (o.room k)))
      (λ (k : (kind ≡ 2) × (be fill s (at + 9) ≡ 0)).
      let n : kind ≡ 1 → ⊥ = λ e. omega (arith, k.0) in
      subst (Stands fill s at) (sym (change-withdraws s at n)) (withdraw-stands k.0 (omega (arith, o.inside, size-withdraws fill s at n)) k.1))
      o.sort

-- changes that are read stand there, up to the end
record Stand (fill : ℕ) (s : List ℕ) (at : ℕ) (cs : List Change) : Type 0 where
  fit : every change_fits cs ≡ true
  bytes : drop at s ≡ changes_bytes fill cs

there-stand : (fill n : ℕ) (s : List ℕ) → Octets s → (at : ℕ) → is_there (read_changes fill n s at) ≡ true → Stand fill s at (changes_of (read_changes fill n s at))
there-stand fill zero s octets at h =
    subst (Stand fill s at) (sym (none_read fill s at)) (record { fit = refl; bytes = ap (λ (i : ℕ). drop i s) (end-there fill s at h) ∙ drop-length s })
there-stand fill (suc n) s octets at h =
    let x = next-there fill n s at h in
    let c : Change = change_at s at in
    let ds : List Change = changes_of (read_changes fill n s (at + change_size fill c)) in
    let one : Stands fill s at c = one-stands fill s octets at (one-there fill n s at h) in
    let more : Stand fill s (at + change_size fill c) ds = there-stand fill n s octets (at + change_size fill c) x.rest in
    subst (Stand fill s at) (sym x.cons)
    (record {
      fit = and_both (change_fits c) (every change_fits ds) one.fits more.fit;
      bytes = one.bytes ∙ ap (λ (l : List ℕ). change_bytes fill c ++ l) more.bytes;
    })

-- ---- what is written is read back

change-back : (fill : ℕ) (c : Change) → change_fits c ≡ true → (a b : List ℕ) → read_change fill (a ++ (change_bytes fill c ++ b)) (length a) ≡ some c
unfolding read_change change_fits change_bytes unsigned32
change-back fill (Add x) h a b =
    let s : List ℕ = a ++ (1 ∷ (spot_bytes x ++ b)) in
    let one : get_or s (length a) 0 ≡ 1 = get_or-append_seam a 1 (spot_bytes x ++ b) 0 in
    let room : length a + 13 ≤ length s =
    omega (arith, length-append a (1 ∷ (spot_bytes x ++ b)), length-append (spot_bytes x) b, length-spot_bytes x)
    in
    let key : x.key < all_keys = ltb-true x.key all_keys (and_left (ltb x.key all_keys) (ltb x.track word) h) in
    let track : x.track < word = ltb-true x.track word (and_right (ltb x.key all_keys) (ltb x.track word) h) in
    let good : good_spot x ≡ true =
    and_both (within 0 all_keys x.key) (unsigned32 x.track) (within-yes 0 all_keys x.key (omega arith) key) (le-leb x.track 4294967295 (omega arith))
    in
    let back : spot_at s (length a + 1) ≡ x = spot_at-right a (1 ∷ (spot_bytes x ++ b)) 1 ∙ spot_back x good (1 ∷ []) b in
    rw (eq-eqb (get_or s (length a) 0) 1 one, le-leb (length a + 13) (length s) room, back)
change-back fill (Withdraw k) h a b =
    let z : List ℕ = replicate fill 0 ++ b in
    let t : List ℕ = 2 ∷ (key_bytes k ++ z) in
    let s : List ℕ = a ++ t in
    let two : get_or s (length a) 0 ≡ 2 = get_or-append_seam a 2 (key_bytes k ++ z) 0 in
    let room : length a + (9 + fill) ≤ length s =
    omega (arith, length-append a t, length-append (key_bytes k) z, length-append (replicate fill 0) b, length-key_bytes k, length-replicate {A = ℕ} fill 0)
    in
    let nine : 9 ≡ length (2 ∷ key_bytes k) + 0 = omega (arith, length-key_bytes k) in
    let none : be fill s (length a + 9) ≡ 0 =
    be-right fill a t 9 ∙ ap (be fill t) nine ∙ be-right fill (2 ∷ key_bytes k) z 0 ∙ be-zeros fill b
    in
    let back : key_at s (length a + 1) ≡ k = key_at-right a t 1 ∙ key_back k (ltb-true k all_keys h) (2 ∷ []) z in
    ap (λ (l : List ℕ). read_change fill (a ++ (2 ∷ l)) (length a)) (append_assoc (key_bytes k) (replicate fill 0) b)
    ∙ rw (two, le-leb (length a + (9 + fill)) (length s) room, none, back)

changes-back : (fill : ℕ) (cs : List Change) → every change_fits cs ≡ true → (a : List ℕ)
    → read_changes fill (length cs) (a ++ changes_bytes fill cs) (length a) ≡ some cs
changes-back fill [] h a = rw (append-nil a, eq-eqb (length a) (length a) refl)
changes-back fill (c ∷ cs) h a =
    let rest : List ℕ = changes_bytes fill cs in
    let n : length a + change_size fill c ≡ length (a ++ change_bytes fill c) =
    sym (length-append a (change_bytes fill c) ∙ ap (λ (k : ℕ). length a + k) (length-change fill c))
    in
    rw (change-back fill c (and_left (change_fits c) (every change_fits cs) h) a rest)
    (ap (in_front c)
    (ap₂ (read_changes fill (length cs)) (sym (append_assoc a (change_bytes fill c) rest)) n
    ∙ changes-back fill cs (and_right (change_fits c) (every change_fits cs) h) (a ++ change_bytes fill c)))

-- ---- a message

-- the length and the count that it says
message-says : (cs : List Change) → length cs ≤ 4096 → be 4 (message_of cs) 0 ≡ length (message_of cs)
unfolding message_of
message-says cs h =
    let v : ℕ = 7 + length (changes_bytes 0 cs) in
    let small : v < 4294967296 = omega (arith, length_most cs) in
    be-left 4 (bytes_of 4 v) (1 ∷ (bytes_of 2 (length cs) ++ changes_bytes 0 cs)) 0 (omega (arith, length-bytes_of 4 v)) ∙ be-bytes_of 4 v small
    ∙ sym (length-message cs)

count-says : (cs : List Change) → length cs ≤ 4096 → be 2 (message_of cs) 5 ≡ length cs
unfolding message_of
count-says cs h =
    let x : List ℕ = bytes_of 4 (7 + length (changes_bytes 0 cs)) in
    let y : List ℕ = bytes_of 2 (length cs) in
    let z : List ℕ = changes_bytes 0 cs in
    let five : 5 ≡ length x + 1 = omega (arith, length-bytes_of 4 (7 + length (changes_bytes 0 cs))) in
    let small : length cs < 65536 = omega arith in
    ap (be 2 (x ++ (1 ∷ (y ++ z)))) five ∙ be-right 2 x (1 ∷ (y ++ z)) 1 ∙ be-right 2 (1 ∷ []) (y ++ z) 0
    ∙ be-left 2 y z 0 (omega (arith, length-bytes_of 2 (length cs)))
    ∙ be-bytes_of 2 (length cs) small

message-version : (cs : List Change) → get_or (message_of cs) 4 0 ≡ 1
unfolding message_of
message-version cs =
    let v : ℕ = 7 + length (changes_bytes 0 cs) in
    get_or_at (bytes_of 4 v) 1 (bytes_of 2 (length cs) ++ changes_bytes 0 cs) 0 4 (length-bytes_of 4 v)

message-head : (cs : List Change) → length cs ≤ 4096 → head_fits (message_of cs) ≡ true
unfolding head_fits
message-head cs h =
    let m : List ℕ = message_of cs in
    all_cons _ _ (le-leb 7 (length m) (omega (arith, length-message cs)))
    (all_cons _ _ (eq-eqb (be 4 m 0) (length m) (message-says cs h))
    (all_cons _ _ (eq-eqb (get_or m 4 0) 1 (message-version cs)) (all_cons _ _ (le-leb (be 2 m 5) 4096 (omega (arith, count-says cs h))) all_nil)))

-- the first bytes say the length also where others lie behind the message
pub message-size : (cs : List Change) → length cs ≤ 4096 → (b : List ℕ) → be 4 (message_of cs ++ b) 0 ≡ length (message_of cs)
message-size cs h b = be-left 4 (message_of cs) b 0 (omega (arith, length-message cs)) ∙ message-says cs h

pub message-back : (cs : List Change) → Sendable cs → read_message (message_of cs) ≡ some cs
unfolding read_message
message-back cs h =
    let bytes : ℕ = 7 + length (changes_bytes 0 cs) in
    rw (message-head cs h.few, count-says cs h.few)
    (ap₂ (read_changes 0 (length cs)) (message-parts cs) (sym (length-head bytes (length cs))) ∙ changes-back 0 cs h.fit (head_of bytes (length cs)))

-- what the head and the changes say settles every byte
message-whole : (m : List ℕ) (cs : List Change) → Octets m → MessageThere m → length cs ≡ be 2 m 5 → drop 7 m ≡ changes_bytes 0 cs → m ≡ message_of cs
unfolding message_of
message-whole m cs octets x many rest =
    let long : 7 + length (changes_bytes 0 cs) ≡ be 4 m 0 =
    omega (arith, x.head, x.long, length-drop 7 m, ap length rest)
    in
    let size : take 4 m ≡ bytes_of 4 (7 + length (changes_bytes 0 cs)) =
    sym (ap (bytes_of 4) long ∙ bytes_of-be 4 m 0 octets (omega (arith, x.head)))
    in
    let count : take 2 (drop 5 m) ≡ bytes_of 2 (length cs) =
    sym (ap (bytes_of 2) many ∙ bytes_of-be 2 m 5 octets x.head)
    in
    sym (take-append-drop 4 m)
    ∙ ap₂ (λ (u v : List ℕ). u ++ v) size
    (cut-first m 4 2 (omega (arith, x.head))
    ∙ ap₂ (λ (b : ℕ) (l : List ℕ). b ∷ (l ++ drop 7 m)) x.version count
    ∙ ap (λ (l : List ℕ). 1 ∷ (bytes_of 2 (length cs) ++ l)) rest)

pub message-spelled : (m : List ℕ) → Octets m → is_there (read_message m) ≡ true → Sendable (changes_of (read_message m)) × (m ≡ message_of (changes_of (read_message m)))
message-spelled m octets h =
    let x = message-there m h in
    let cs : List Change = changes_of (read_message m) in
    let st : Stand 0 m 7 cs = subst (Stand 0 m 7) (ap changes_of (sym x.is)) (there-stand 0 (be 2 m 5) m octets 7 x.there) in
    (record { fit = st.fit; few = omega (arith, x.few, message-count m h) }, message-whole m cs octets x (message-count m h) st.bytes)

-- ---- a list

pub list_back : (cs : List Change) → Sendable cs → read_list (changes_bytes 4 cs) ≡ some cs
unfolding read_list
list_back cs h =
    let s : List ℕ = changes_bytes 4 cs in
    let none : length s % 13 ≡ 0 = omega (arith, length-list cs) in
    let count : length s / 13 ≡ length cs = omega (arith, length-list cs) in
    rw (none, count, le-leb (length cs) 4096 h.few, all_cons true (true ∷ []) refl (all_cons true [] refl all_nil)) (changes-back 4 cs h.fit [])

pub list-spelled : (s : List ℕ) → Octets s → is_there (read_list s) ≡ true → Sendable (changes_of (read_list s)) × (s ≡ changes_bytes 4 (changes_of (read_list s)))
list-spelled s octets h =
    let x = list-there s h in
    let cs : List Change = changes_of (read_list s) in
    let count : length cs ≡ length s / 13 =
    ap (λ (o : Option (List Change)). length (changes_of o)) x.is ∙ count-there 4 (length s / 13) s 0 x.there
    in
    let st : Stand 4 s 0 cs = subst (Stand 4 s 0) (ap changes_of (sym x.is)) (there-stand 4 (length s / 13) s octets 0 x.there) in
    (record { fit = st.fit; few = omega (arith, x.few) }, st.bytes)

-- ---- both ways

message-read : (m : List ℕ) (cs : List Change) → Octets m → read_message m ≡ some cs → Sendable cs × (m ≡ message_of cs)
message-read m cs octets e = subst (λ (ds : List Change). Sendable ds × (m ≡ message_of ds)) (ap changes_of e) (message-spelled m octets (ap is_there e))

list_read : (s : List ℕ) (cs : List Change) → Octets s → read_list s ≡ some cs → Sendable cs × (s ≡ changes_bytes 4 cs)
list_read s cs octets e = subst (λ (ds : List Change). Sendable ds × (s ≡ changes_bytes 4 ds)) (ap changes_of e) (list-spelled s octets (ap is_there e))

pub one-spelling : OneSpelling
one-spelling =
    record {
      message = λ m cs octets. (message-read m cs octets, λ h. ap read_message h.1 ∙ message-back cs h.0);
      list = λ s cs octets. (list_read s cs octets, λ h. ap read_list h.1 ∙ list_back cs h.0);
    }
