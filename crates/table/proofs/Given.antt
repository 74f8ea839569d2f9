-- Request 2026-07: what an accepted call handed out has places inside the limits, on every table.
-- Assumes nothing.
use mathlib.Core.Path.{◌≡◌, refl, sym, ap, ap₂, ◌∙◌}
use mathlib.Core.Bool.{Bool, true, false, cond}
use mathlib.Core.List.{List, [], ◌∷◌, ◌++◌, append_assoc}
use Prim.Native.Nat.{ℕ, zero, suc, ◌+◌, ◌*◌, ◌≤◌}
use native.Mathlib.Omega.{arith}
use lib.ListN.{length, drop, length-append}
use lib.Dec.{leb, ltb}
use lib.IntN.{ℤ}
use Rattle.octets.specs.Lists.{every, keep}
use Rattle.octets.specs.Bytes.{bytes_of}
use Rattle.octets.proofs.Tests.{and_left, and_right, and_both, every-join}
use Rattle.spot.specs.Keys.{limited}
use Rattle.spot.specs.Spots.{key_at, key_bytes, spot_bytes, spots_bytes, keys, from_on, limited_from}
use Rattle.spot.specs.Query.{query, from_of}
use Rattle.spot.specs.declared.Spot.{Spot}
use Rattle.spot.proofs.Buffers.{keys-append, keep-every}
use Rattle.spot.proofs.Card.{length-spot_bytes, key_at-left}
use Rattle.spot.proofs.Limits.{limited-small, limited-each, limited-all}
use Rattle.spot.proofs.Stored.{key_back, length-spots_bytes}
use Rattle.ranges.specs.declared.Range.{Range}
use Rattle.block.specs.declared.Answer.{Answer}
use Rattle.block.specs.Header.{head_of}
use Rattle.block.specs.HeaderRules.{header_ok}
use Rattle.tree.specs.Walk.{Walk, broken, walked, spots, walk_table}
use Rattle.tree.specs.Report.{report_table}
use Rattle.tree.proofs.Limited.{walk-limited}
use Rattle.report.specs.Joined.{head_walk, both, report_of, joined}
use Rattle.report.proofs.Reports.{report-spots}
use Rattle.table.specs.Answers.{unless_refused, spots_answer, output_left}
use Rattle.table.specs.Queries.{walk_answer, WalkPost, ReportPost, ManyPost, TopPost, TopWithinPost, GivenInside}

-- ---- spots in an output

-- spots as bytes: their keys are read back, whatever the tracks are
bytes-limited : (ss : List Spot) → every limited (keys ss) ≡ true → (a b : List ℕ) → limited_from (a ++ (spots_bytes ss ++ b)) 12 (length ss) (length a) ≡ true
unfolding limited_from spot_bytes
bytes-limited [] h a b = refl
bytes-limited (x ∷ xs) h a b =
    let s = a ++ (spots_bytes (x ∷ xs) ++ b) in
    let c = bytes_of 4 x.track ++ (spots_bytes xs ++ b) in
    let first = and_left (limited x.key) (every limited (keys xs)) h in
    let at_key : s ≡ a ++ (key_bytes x.key ++ c) =
    ap (λ (l : List ℕ). a ++ l) (append_assoc (spot_bytes x) (spots_bytes xs) b ∙ append_assoc (key_bytes x.key) (bytes_of 4 x.track) (spots_bytes xs ++ b))
    in
    let past : s ≡ (a ++ spot_bytes x) ++ (spots_bytes xs ++ b) =
    ap (λ (l : List ℕ). a ++ l) (append_assoc (spot_bytes x) (spots_bytes xs) b) ∙ sym (append_assoc a (spot_bytes x) (spots_bytes xs ++ b))
    in
    let n : length a + 12 ≡ length (a ++ spot_bytes x) = sym (length-append a (spot_bytes x) ∙ ap (λ (k : ℕ). length a + k) (length-spot_bytes x)) in
    and_both (limited (key_at s (length a))) (limited_from s 12 (length xs) (length a + 12))
    (ap (λ (l : List ℕ). limited (key_at l (length a))) at_key ∙ ap limited (key_back x.key (limited-small x.key first) a c) ∙ first)
    (ap₂ (λ (l : List ℕ) (k : ℕ). limited_from l 12 (length xs) k) past n ∙ bytes-limited xs (and_right (limited x.key) (every limited (keys xs)) h) (a ++ spot_bytes x) b)

-- an output left with such spots, as many as the detail says
left-inside : (given : List Spot) (out : List ℕ) (r : Answer) (out'' : List ℕ) → every limited (keys given) ≡ true → out'' ≡ output_left 0 given out → r.detail ≡ length given
    → (12 * r.detail ≤ length out'') × (limited_from out'' 12 r.detail 0 ≡ true)
unfolding output_left
left-inside given out r out'' h o d = (
  omega (arith, d, ap length o, length-append (spots_bytes given) (drop (12 * length given) out), length-spots_bytes given),
  ap₂ (λ (l : List ℕ) (n : ℕ). limited_from l 12 n 0) o d ∙ bytes-limited given h [] (drop (12 * length given) out),
)

-- the same of a longer output, of which the call was lent the front
pub inside-longer : (r : Answer) (out behind : List ℕ) → GivenInside r out → GivenInside r (out ++ behind)
inside-longer r out behind g z =
    let h = g z in (
      omega (arith, h.0, length-append out behind),
      limited-all (out ++ behind) 12 r.detail 0
          (λ i l. ap limited (key_at-left out behind (0 + 12 * i) (omega (arith, h.0))) ∙ limited-each out 12 r.detail 0 h.1 i l),
    )

-- ---- walks

-- the detail of an accepted call is the number of spots of its walk
pub walk-detail : (l bytes : ℕ) (w : Walk) (r : Answer) → r ≡ unless_refused l (walk_answer bytes w) → r.number ≡ 0 → r.detail ≡ length (spots w)
unfolding unless_refused walk_answer spots_answer
walk-detail zero bytes broken r a z = let h : ◌≡◌ {A = ℕ} 3 0 = sym (ap (λ (x : Answer). x.number) a) ∙ z in let y : ⊥ = omega arith in absurd y
walk-detail zero bytes (walked found blocks) r a z = ap (λ (x : Answer). x.detail) a
walk-detail (suc l) bytes w r a z = let h : suc l ≡ 0 = sym (ap (λ (x : Answer). x.number) a) ∙ z in let y : ⊥ = omega arith in absurd y

pub walk_inside : (early : ℕ) (w : Walk) (out map : List ℕ) (r : Answer) (out'' map' : List ℕ) → every limited (keys (spots w)) ≡ true → WalkPost early w out map r out'' map'
    → GivenInside r out''
walk_inside early w out map r out'' map' h p z =
    left-inside (spots w) out r out'' h (p.output ∙ ap (λ (n : ℕ). output_left n (spots w) out) z) (walk-detail early (length out) w r p.answered z)

pub from-on-limited : (k : ℕ) (ss : List Spot) → every limited (keys ss) ≡ true → every limited (keys (from_on k ss)) ≡ true
unfolding from_on
from-on-limited k ss h =
    let from : Spot → Bool = λ s. leb k s.key in
    let below : Spot → Bool = λ s. ltb s.key k in
    ap (every limited) (keys-append (keep from ss) (keep below ss))
    ∙ every-join limited (keys (keep from ss)) (keys (keep below ss)) (keep-every from limited ss h) (keep-every below limited ss h)

-- what a single report finds
pub report-limited : (t : List ℕ) (x1 x2 y : ℤ) → every limited (keys (spots (report_table t x1 x2 y))) ≡ true
report-limited t x1 x2 y =
    let q = query x1 x2 y in
    ap (λ (ss : List Spot). every limited (keys ss)) (report-spots t x1 x2 y) ∙ from-on-limited (from_of q) (spots (walk_table t q)) (walk-limited t q)

both-limited : (v w : Walk) → every limited (keys (spots v)) ≡ true → every limited (keys (spots w)) ≡ true → every limited (keys (spots (both v w))) ≡ true
both-limited broken w g h = refl
both-limited (walked found blocks) broken g h = refl
both-limited (walked found blocks) (walked more others) g h = ap (every limited) (keys-append found more) ∙ every-join limited (keys found) (keys more) g h

-- and those of many ranges
joined-limited : (t : List ℕ) (rs : List Range) → every limited (keys (spots (joined t rs))) ≡ true
unfolding head_walk
joined-limited t [] = go (header_ok (length t) (head_of t))
  where
    go : (ok : Bool) → every limited (keys (spots (cond ok (walked [] []) broken))) ≡ true
    go true = refl
    go false = refl
joined-limited t (r ∷ rs) = both-limited (report_of t r) (joined t rs) (report-limited t r.x1 r.x2 r.y) (joined-limited t rs)

-- ---- the calls

pub report-inside : (x1 x2 y : ℤ) (t out map : List ℕ) (r : Answer) (out'' map' : List ℕ) → ReportPost x1 x2 y t out map r out'' map' → GivenInside r out''
report-inside x1 x2 y t out map r out'' map' p = walk_inside _ (report_table t x1 x2 y) out map r out'' map' (report-limited t x1 x2 y) p

pub many-inside : (rs : List Range) (t counts out map : List ℕ) (r : Answer) (counts' out'' map' : List ℕ) → ManyPost rs t counts out map r counts' out'' map'
    → GivenInside r out''
many-inside rs t counts out map r counts' out'' map' p = walk_inside _ (joined t rs) out map r out'' map' (joined-limited t rs) p.handed

pub top-inside : (x1 x2 : ℤ) (k : ℕ) (t out map : List ℕ) (r : Answer) (out'' map' : List ℕ) → TopPost x1 x2 k t out map r out'' map' → GivenInside r out''
top-inside x1 x2 k t out map r out'' map' p z = let h = p.hands_out z in left-inside h.given out r out'' h.limits h.output h.detail

pub within-inside : (x1 x2 : ℤ) (k a : ℕ) (t out map : List ℕ) (r : Answer) (out'' map' : List ℕ) (c : ℤ) → TopWithinPost x1 x2 k a t out map r out'' map' c
    → GivenInside r out''
within-inside x1 x2 k a t out map r out'' map' c p z = let h = p.search.hands_out z in left-inside h.given out r out'' h.limits h.output h.detail
