-- The model's reading of a message against the table's: the same changes, in whole numbers and in keys.
-- Assumes nothing.
use mathlib.Core.Path.{◌≡◌, refl, ap, ap₂, sym, ◌∙◌}
use mathlib.Core.Logic.{⊎_elim}
use mathlib.Core.Bool.{Bool, true, false, cond, not, ◌&&◌, ◌||◌, and-true}
use mathlib.Core.List.{List, [], ◌∷◌, map}
use mathlib.Core.Option.{Option, none, some}
use Prim.Native.Nat.{ℕ, zero, suc, ◌+◌, ◌-◌, ◌*◌, ◌%◌, ◌≤◌, ◌<◌}
use native.Mathlib.Omega.{arith}
use lib.ListN.{length, get_or, drop, length-drop, drop_of_length-le}
use lib.Seq.{get_or-drop, drop-drop}
use lib.Dec.{leb, eqb}
use lib.IntN.{pos, negsuc}
use borrow.Author.Tests.{le-ltb, lt-ltb, lt-leb, leb-true, eq-eqb, ne_eqb}
use Rattle.octets.specs.Lists.{all}
use Rattle.octets.specs.Bytes.{be}
use Rattle.octets.proofs.Lists.{drop-next}
use Rattle.octets.proofs.Order.{less-or-not, leb-same}
use Rattle.octets.proofs.Tests.{and_right}
use Rattle.spot.specs.Keys.{word, biased, turned, key, limited}
use Rattle.spot.specs.Spots.{key_at, spot_at}
use Rattle.spot.specs.declared.Spot.{Spot}
use Rattle.spot.proofs.Signed.{Fits}
use Rattle.spot.proofs.Limits.{limited-key}
use Rattle.block.specs.Answers.{answer}
use Rattle.block.specs.declared.Answer.{Answer}
use Rattle.message.specs.declared.Change.{Change}
use Rattle.message.specs.declared.Change.TheVariants.{Add, Withdraw}
use Rattle.message.specs.Changes.{change_key, change_size, read_change, read_changes, changes_of, in_front, all_limited, first_outside}
use Rattle.message.specs.Messages.{head_fits, read_message, limits_answer, changes_answer, message_answer}
use Rattle.demands.specs.Model.{PlainChange, hang, take_down, two_number, four_number, of_complement, hung_by, taken_down_by, followed_by, plain_changes, begins_right, plain_message, nothing_said, said_in, outside, place_of_change, some_outside, position_outside}
use Rattle.demands.proofs.Orders.{outside-limits}

-- ---- numbers

two_at : (s : List ℕ) (k : ℕ) → two_number (drop k s) ≡ be 2 s k
unfolding two_number be
two_at s k = rw (get_or-drop k s 0 0, get_or-drop k s 1 0) (omega arith)

four-at : (s : List ℕ) (k : ℕ) → four_number (drop k s) ≡ be 4 s k
unfolding four_number be
four-at s k = rw (get_or-drop k s 0 0, get_or-drop k s 1 0, get_or-drop k s 2 0, get_or-drop k s 3 0) (omega arith)

four-behind : (s : List ℕ) (k j : ℕ) → four_number (drop j (drop k s)) ≡ be 4 s (k + j)
four-behind s k j = ap four_number (drop-drop j k s) ∙ four-at s (k + j)

-- in two's complement
complement_low : (u : ℕ) → u % 4294967296 < 2147483648 → of_complement u ≡ pos (u % 4294967296)
unfolding of_complement
complement_low u l = rw (lt-ltb (u % 4294967296) 2147483648 l)

complement-high : (u : ℕ) → 2147483648 ≤ u % 4294967296 → of_complement u ≡ negsuc (4294967295 - u % 4294967296)
unfolding of_complement
complement-high u l = rw (le-ltb (u % 4294967296) 2147483648 l)

complement-biased : (u : ℕ) → biased (of_complement u) ≡ turned u
complement-biased u =
    ⊎_elim (λ (l : 2147483648 ≤ u % 4294967296). ap biased (complement-high u l) ∙ omega arith)
    (λ (l : u % 4294967296 < 2147483648). ap biased (complement_low u l) ∙ omega arith)
    (less-or-not 2147483648 (u % 4294967296))

complement-fits : (u : ℕ) → Fits (of_complement u)
complement-fits u =
    ⊎_elim (λ (l : 2147483648 ≤ u % 4294967296). rw (complement-high u l) (record { sfits = omega arith }))
    (λ (l : u % 4294967296 < 2147483648). rw (complement_low u l) (record { sfits = omega arith }))
    (less-or-not 2147483648 (u % 4294967296))

-- ---- changes

-- a change as the table's definitions have it
abbrev pub to_key_change : PlainChange → Change
to_key_change (hang s) = Add (record { key = key s.place s.rank; track = s.track })
to_key_change (take_down place rank) = Withdraw (key place rank)

abbrev pub keyed_changes : List PlainChange → List Change
keyed_changes cs = map to_key_change cs

-- its numbers are within their 32 bits
abbrev pub ChangeFits : PlainChange → Type 0
ChangeFits (hang s) = Fits s.place × Fits s.rank
ChangeFits (take_down place rank) = Fits place × Fits rank

abbrev pub ChangesFit : List PlainChange → Type 0
ChangesFit [] = Unit {0}
ChangesFit (c ∷ cs) = ChangeFits c × ChangesFit cs

key-read : (s : List ℕ) (k : ℕ) → key (of_complement (four_number (drop k s))) (of_complement (four_number (drop 4 (drop k s)))) ≡ key_at s k
unfolding key_at
key-read s k =
    ap₂ (λ (a b : ℕ). a * word + b) (complement-biased (four_number (drop k s)) ∙ ap turned (four-at s k))
    (complement-biased (four_number (drop 4 (drop k s))) ∙ ap turned (four-behind s k 4))

hung-read : (s : List ℕ) (k : ℕ) → to_key_change (hung_by (drop k s)) ≡ Add (spot_at s k)
unfolding hung_by spot_at
hung-read s k = ap₂ (λ (a b : ℕ). Add (record { key = a; track = b })) (key-read s k) (four-behind s k 8)

taken-read : (s : List ℕ) (k : ℕ) → to_key_change (taken_down_by (drop k s)) ≡ Withdraw (key_at s k)
unfolding taken_down_by
taken-read s k = ap Withdraw (key-read s k)

-- ---- so many of them

abbrev keyed_read : Option (List PlainChange) → Option (List Change)
keyed_read none = none
keyed_read (some cs) = some (keyed_changes cs)

keyed-followed : (c : PlainChange) (o : Option (List PlainChange)) → keyed_read (followed_by c o) ≡ in_front (to_key_change c) (keyed_read o)
keyed-followed c none = refl
keyed-followed c (some cs) = refl

keyed-either : (b : Bool) (x y : Option (List PlainChange)) → keyed_read (cond b x y) ≡ cond b (keyed_read x) (keyed_read y)
keyed-either true x y = refl
keyed-either false x y = refl

-- one step of the reading, by what the kind byte is and how many bytes follow
read_step : (a b : Bool) (s : Spot) (k : ℕ) (n : ℕ) (m : List ℕ) (at : ℕ) → read_change 0 m at ≡ cond a (some (Add s)) (cond b (some (Withdraw k)) none)
    → read_changes 0 (suc n) m at
    ≡ cond a (in_front (Add s) (read_changes 0 n m (at + 13))) (cond b (in_front (Withdraw k) (read_changes 0 n m (at + 9))) none)
unfolding change_size
read_step true b s k n m at e = rw e
read_step false true s k n m at e = rw e
read_step false false s k n m at e = rw e

long-is : (m : List ℕ) (at k : ℕ) → at < length m → leb k (length (drop (at + 1) m)) ≡ leb (at + suc k) (length m)
long-is m at k l =
    let e = length-drop (at + 1) m in
    leb-same k (length (drop (at + 1) m)) (at + suc k) (length m) (λ h. omega arith) (λ h. omega arith)

read_is : (m : List ℕ) (at : ℕ)
    → read_change 0 m at
    ≡ cond (eqb (get_or m at 0) 1 && leb (at + 13) (length m)) (some (Add (spot_at m (at + 1))))
    (cond (eqb (get_or m at 0) 2 && leb (at + 9) (length m)) (some (Withdraw (key_at m (at + 1)))) none)
unfolding read_change be
read_is m at = rw (and-true (leb (at + 9) (length m)))

-- a change, and the reading on behind it
front_same : (k n : ℕ) (m : List ℕ) (at : ℕ) (p : PlainChange) (c : Change) → to_key_change p ≡ c
    → read_changes 0 n m (at + suc k) ≡ keyed_read (plain_changes n (drop (at + suc k) m))
    → in_front c (read_changes 0 n m (at + suc k)) ≡ keyed_read (followed_by p (plain_changes n (drop k (drop (at + 1) m))))
front_same k n m at p c e ih =
    let j : at + suc k ≡ at + 1 + k = omega arith in
    ap₂ in_front (sym e) (ih ∙ ap (λ (l : List ℕ). keyed_read (plain_changes n l)) (ap (λ (i : ℕ). drop i m) j ∙ sym (drop-drop k (at + 1) m))) ∙
    sym (keyed-followed p (plain_changes n (drop k (drop (at + 1) m))))

either_same : (a b : Bool) (x y u v : Option (List Change)) → (a ≡ true → x ≡ u) → (b ≡ true → y ≡ v) → cond a x (cond b y none) ≡ cond a u (cond b v none)
either_same true b x y u v f g = f refl
either_same false true x y u v f g = g refl
either_same false false x y u v f g = refl

and-never : (a b : Bool) → b ≡ false → a && b ≡ false
and-never true b e = e
and-never false b e = refl

pub changes-read : (n : ℕ) (m : List ℕ) (at : ℕ) → at ≤ length m → read_changes 0 n m at ≡ keyed_read (plain_changes n (drop at m))
changes-read zero m at l =
    ⊎_elim
    (λ (h : length m ≤ at).
    let e : at ≡ length m = omega arith in
    rw (eq-eqb at (length m) e, drop_of_length-le m h))
    (λ (h : at < length m). rw (ne_eqb at (length m) (λ e. omega arith), drop-next m at 0 h))
    (less-or-not (length m) at)
changes-read (suc n) m at l = ⊎_elim ends (goes (changes-read n m)) (less-or-not (length m) at)
  where
    -- no byte is left
    ends : length m ≤ at → read_changes 0 (suc n) m at ≡ keyed_read (plain_changes (suc n) (drop at m))
    ends h =
        read_step false false (spot_at m (at + 1)) (key_at m (at + 1)) n m at
        (read_is m at ∙
        rw (and-never (eqb (get_or m at 0) 1) (leb (at + 13) (length m)) (lt-leb (at + 13) (length m) (omega arith)), and-never (eqb (get_or m at 0) 2) (leb (at + 9) (length m)) (lt-leb (at + 9) (length m) (omega arith)))
        refl)
        ∙ ap (λ (x : List ℕ). keyed_read (plain_changes (suc n) x)) (sym (drop_of_length-le m h))

    both : (c : ℕ) (xs : List ℕ)
        → keyed_read (plain_changes (suc n) (c ∷ xs))
        ≡ cond (eqb c 1 && leb 12 (length xs)) (keyed_read (followed_by (hung_by xs) (plain_changes n (drop 12 xs))))
        (cond (eqb c 2 && leb 8 (length xs)) (keyed_read (followed_by (taken_down_by xs) (plain_changes n (drop 8 xs)))) none)
    both c xs =
        keyed-either (eqb c 1 && leb 12 (length xs)) _ _ ∙
        ap (cond (eqb c 1 && leb 12 (length xs)) (keyed_read (followed_by (hung_by xs) (plain_changes n (drop 12 xs)))))
        (keyed-either (eqb c 2 && leb 8 (length xs)) _ none)

    goes : ((j : ℕ) → j ≤ length m → read_changes 0 n m j ≡ keyed_read (plain_changes n (drop j m))) → at < length m
        → read_changes 0 (suc n) m at ≡ keyed_read (plain_changes (suc n) (drop at m))
    goes ih h =
        let b : ℕ = get_or m at 0 in
        let bytes : List ℕ = drop (at + 1) m in
        read_step (eqb b 1 && leb (at + 13) (length m)) (eqb b 2 && leb (at + 9) (length m)) (spot_at m (at + 1)) (key_at m (at + 1)) n m at (read_is m at) ∙
        either_same (eqb b 1 && leb (at + 13) (length m)) (eqb b 2 && leb (at + 9) (length m)) _ _
        (keyed_read (followed_by (hung_by bytes) (plain_changes n (drop 12 bytes))))
        (keyed_read (followed_by (taken_down_by bytes) (plain_changes n (drop 8 bytes))))
        (λ e.
        front_same 12 n m at (hung_by bytes) (Add (spot_at m (at + 1))) (hung-read m (at + 1))
        (ih (at + 13) (leb-true (at + 13) (length m) (and_right (eqb b 1) (leb (at + 13) (length m)) e))))
        (λ e.
        front_same 8 n m at (taken_down_by bytes) (Withdraw (key_at m (at + 1))) (taken-read m (at + 1))
        (ih (at + 9) (leb-true (at + 9) (length m) (and_right (eqb b 2) (leb (at + 9) (length m)) e))))
        ∙ ap₂
        (λ (x y : Bool). cond (eqb b 1 && x) (keyed_read (followed_by (hung_by bytes) (plain_changes n (drop 12 bytes))))
        (cond (eqb b 2 && y) (keyed_read (followed_by (taken_down_by bytes) (plain_changes n (drop 8 bytes)))) none))
        (sym (long-is m at 12 h))
        (sym (long-is m at 8 h))
        ∙ sym (both b bytes)
        ∙ ap (λ (x : List ℕ). keyed_read (plain_changes (suc n) x)) (sym (drop-next m at 0 h))

-- ---- the whole message

all-four : (a b c d : Bool) → all (a ∷ b ∷ c ∷ d ∷ []) ≡ a && b && c && d
unfolding all
all-four true true true true = refl
all-four true true true false = refl
all-four true true false d = refl
all-four true false c d = refl
all-four false b c d = refl

head-is : (m : List ℕ) → head_fits m ≡ begins_right m
unfolding head_fits begins_right
head-is m =
    all-four (leb 7 (length m)) _ (eqb (get_or m 4 0) 1) _ ∙
    ap₂ (λ (a b : ℕ). leb 7 (length m) && eqb a (length m) && eqb (get_or m 4 0) 1 && leb b 4096) (sym (four-at m 0)) (sym (two_at m 5))

head-long : (m : List ℕ) → begins_right m ≡ true → 7 ≤ length m
unfolding begins_right
head-long m h =
    leb-true 7 (length m) (first (leb 7 (length m)) (eqb (four_number m) (length m)) (eqb (get_or m 4 0) 1) (leb (two_number (drop 5 m)) 4096) h)
  where
    first : (a b c d : Bool) → a && b && c && d ≡ true → a ≡ true
    first true b c d h = refl
    first false b c d h = h

-- both read the same changes
pub message-read : (m : List ℕ) → read_message m ≡ keyed_read (plain_message m)
unfolding read_message plain_message
message-read m = ap (λ (b : Bool). cond b (read_changes 0 (be 2 m 5) m 7) none) (head-is m) ∙ go (begins_right m) (head-long m)
  where
    go : (h : Bool) → (h ≡ true → 7 ≤ length m)
        → cond h (read_changes 0 (be 2 m 5) m 7) none ≡ keyed_read (cond h (plain_changes (two_number (drop 5 m)) (drop 7 m)) none)
    go true f = changes-read (be 2 m 5) m 7 (f refl) ∙ ap (λ (n : ℕ). keyed_read (plain_changes n (drop 7 m))) (sym (two_at m 5))
    go false f = refl

-- all that was read fits
abbrev ReadFit : Option (List PlainChange) → Type 0
ReadFit none = Unit {0}
ReadFit (some cs) = ChangesFit cs

followed-fit : (c : PlainChange) (o : Option (List PlainChange)) → ChangeFits c → ReadFit o → ReadFit (followed_by c o)
followed-fit c none f g = tt
followed-fit c (some cs) f g = (f, g)

either-fit : (a : Bool) (x y : Option (List PlainChange)) → ReadFit x → ReadFit y → ReadFit (cond a x y)
either-fit true x y f g = f
either-fit false x y f g = g

hung-fits : (bytes : List ℕ) → ChangeFits (hung_by bytes)
unfolding hung_by
hung-fits bytes = (complement-fits (four_number bytes), complement-fits (four_number (drop 4 bytes)))

taken-fits : (bytes : List ℕ) → ChangeFits (taken_down_by bytes)
unfolding taken_down_by
taken-fits bytes = (complement-fits (four_number bytes), complement-fits (four_number (drop 4 bytes)))

read-fit : (n : ℕ) (bytes : List ℕ) → ReadFit (plain_changes n bytes)
read-fit zero [] = tt
read-fit zero (b ∷ bytes) = tt
read-fit (suc n) [] = tt
read-fit (suc n) (b ∷ bytes) =
    either-fit (eqb b 1 && leb 12 (length bytes)) (followed_by (hung_by bytes) (plain_changes n (drop 12 bytes)))
    (cond (eqb b 2 && leb 8 (length bytes)) (followed_by (taken_down_by bytes) (plain_changes n (drop 8 bytes))) none)
    (followed-fit (hung_by bytes) (plain_changes n (drop 12 bytes)) (hung-fits bytes) (read-fit n (drop 12 bytes)))
    (either-fit (eqb b 2 && leb 8 (length bytes)) (followed_by (taken_down_by bytes) (plain_changes n (drop 8 bytes))) none
    (followed-fit (taken_down_by bytes) (plain_changes n (drop 8 bytes)) (taken-fits bytes) (read-fit n (drop 8 bytes)))
    tt)

message-fit : (m : List ℕ) → ReadFit (plain_message m)
unfolding plain_message
message-fit m = either-fit (begins_right m) (plain_changes (two_number (drop 5 m)) (drop 7 m)) none (read-fit (two_number (drop 5 m)) (drop 7 m)) tt

said-fit : (o : Option (List PlainChange)) → ReadFit o → ChangesFit (said_in o)
said-fit none f = tt
said-fit (some cs) f = f

-- its changes fit, and are the table's
pub changes-fit : (m : List ℕ) → ChangesFit (said_in (plain_message m))
changes-fit m = said-fit (plain_message m) (message-fit m)

keyed-said : (o : Option (List PlainChange)) → changes_of (keyed_read o) ≡ keyed_changes (said_in o)
keyed-said none = refl
keyed-said (some cs) = refl

pub changes-are : (m : List ℕ) → changes_of (read_message m) ≡ keyed_changes (said_in (plain_message m))
changes-are m = ap changes_of (message-read m) ∙ keyed-said (plain_message m)

-- ---- what is answered

change-outside : (c : PlainChange) → ChangeFits c → outside (place_of_change c) ≡ not (limited (change_key (to_key_change c)))
change-outside (hang s) f = outside-limits s.place ∙ ap not (sym (limited-key s.place s.rank f.0 f.1))
change-outside (take_down place rank) f = outside-limits place ∙ ap not (sym (limited-key place rank f.0 f.1))

some-step : (a b c : Bool) → b ≡ not c → not a || b ≡ not (a && c)
some-step true b c e = e
some-step false b c e = refl

some-outside : (cs : List PlainChange) → ChangesFit cs → some_outside cs ≡ not (all_limited (keyed_changes cs))
some-outside [] f = refl
some-outside (c ∷ cs) f =
    ap (λ (b : Bool). b || some_outside cs) (change-outside c f.0) ∙
    some-step (limited (change_key (to_key_change c))) (some_outside cs) (all_limited (keyed_changes cs)) (some-outside cs f.1)

position-step : (a : Bool) (n m : ℕ) → n ≡ m → cond (not a) 0 (suc n) ≡ cond a (suc m) 0
position-step true n m e = ap suc e
position-step false n m e = refl

position-outside : (cs : List PlainChange) → ChangesFit cs → position_outside cs ≡ first_outside (keyed_changes cs)
position-outside [] f = refl
position-outside (c ∷ cs) f =
    ap (λ (b : Bool). cond b 0 (suc (position_outside cs))) (change-outside c f.0) ∙
    position-step (limited (change_key (to_key_change c))) (position_outside cs) (first_outside (keyed_changes cs)) (position-outside cs f.1)

-- the answer that a message alone decides
abbrev said_answer : Option (List PlainChange) → Answer
said_answer o = cond (nothing_said o) (answer 8 0) (cond (some_outside (said_in o)) (answer 9 (position_outside (said_in o))) (answer 0 0))

message-answer : (m : List ℕ) → message_answer m ≡ said_answer (plain_message m)
unfolding message_answer changes_answer limits_answer
message-answer m = ap (changes_answer (λ _. true)) (message-read m) ∙ go (plain_message m) (message-fit m)
  where
    swap : (b : Bool) (x y : Answer) → cond b x y ≡ cond (not b) y x
    swap true x y = refl
    swap false x y = refl

    go : (o : Option (List PlainChange)) → ReadFit o → changes_answer (λ _. true) (keyed_read o) ≡ said_answer o
    go none f = refl
    go (some cs) f =
        swap (all_limited (keyed_changes cs)) (answer 0 0) (answer 9 (first_outside (keyed_changes cs))) ∙
        ap₂ (λ (b : Bool) (n : ℕ). cond b (answer 9 n) (answer 0 0)) (sym (some-outside cs f)) (sym (position-outside cs f))

-- .. its number
pub message-number : (m : List ℕ) → (message_answer m).number ≡ cond (nothing_said (plain_message m)) 8 (cond (some_outside (said_in (plain_message m))) 9 0)
message-number m = ap (λ (r : Answer). r.number) (message-answer m) ∙ go (nothing_said (plain_message m)) (some_outside (said_in (plain_message m)))
  where
    go : (a b : Bool) → (cond a (answer 8 0) (cond b (answer 9 (position_outside (said_in (plain_message m)))) (answer 0 0))).number ≡ cond a 8 (cond b 9 0)
    go true b = refl
    go false true = refl
    go false false = refl

-- and the detail of 9
pub message-detail : (m : List ℕ) → nothing_said (plain_message m) ≡ false → some_outside (said_in (plain_message m)) ≡ true
    → (message_answer m).detail ≡ position_outside (said_in (plain_message m))
message-detail m e f = ap (λ (r : Answer). r.detail) (message-answer m) ∙ rw (e, f)
