-- The second half of a Report: spots written in place order, and turned to begin at x1.
-- Assumes nothing.
use mathlib.Core.Path.{◌≡◌, ap, ap₂, sym, subst, ◌∙◌}
use mathlib.Core.Bool.{true}
use mathlib.Core.List.{List, ◌++◌}
use Prim.Native.Nat.{ℕ, ◌+◌, ◌*◌, ◌≤◌, ◌<◌}
use native.Mathlib.Omega.{arith}
use lib.ListN.{length, get_or, take, drop, take-append-drop, length-take}
use lib.Seq.{drop_at}
use lib.IntN.{ℤ}
use Rattle.octets.specs.Lists.{ascends}
use Rattle.octets.proofs.Order.{stride}
use Rattle.octets.proofs.Records.{length-records, records-cong}
use Rattle.spot.specs.Spots.{spot_at, spots_in, spots_bytes, keys, from_on, limited_from}
use Rattle.spot.specs.Query.{query, from_of}
use Rattle.spot.specs.declared.Spot.{Spot}
use Rattle.spot.specs.declared.Query.{Query}
use Rattle.spot.proofs.Card.{spot_at-left}
use Rattle.spot.proofs.Limits.{limited-spots}
use Rattle.spot.proofs.Stored.{length-spots_bytes, spots_bytes-records}
use Rattle.tree.specs.Walk.{spots, walk_table}
use Rattle.tree.specs.Report.{report_table}
use Rattle.query.specs.Merging.{Orderly}
use Rattle.sort.specs.Turning.{Turned}
use Rattle.sort.proofs.Turning.{from-on-length}
use Rattle.report.specs.Reports.{written, Reportable, Reported, Turnable}
use Rattle.report.proofs.Reports.{report-spots, report-length}

-- a query made of numbers as the machine holds them
pub query-same : (x1 x2 y a b d : ℤ) (q : Query) → a ≡ x1 → b ≡ x2 → d ≡ y → q ≡ query a b d → q ≡ query x1 x2 y
query-same x1 x2 y a b d q e f g h = rw (e, f, g) at h

-- what is asked of n spots that are turned
pub turn-asks : (out : List ℕ) (n : ℕ) → 12 * n ≤ length out → Orderly (spots_in out n) → (12 * n ≤ length out) × (ascends 0 (keys (spots_in out n)) ≡ true) × (limited_from out 12 n 0 ≡ true)
turn-asks out n room o = (room, o.rise, limited-spots out n 0 ∙ o.limits)

-- n spots in place order stand at the front, and what lies behind them is as it was lent
turned-is : {n k : ℕ} {out1 out2 : List ℕ} (out : List ℕ) (ss : List Spot) → n ≡ length ss → spots_in out1 n ≡ ss → drop (12 * n) out1 ≡ drop (12 * n) out → 12 * n ≤ length out1
    → Turned n k out1 out2
    → ((i : ℕ) → get_or out2 i 0 < 256)
    → out2 ≡ written (from_on k ss) out
turned-is {n} {k} {out1} {out2} out ss many held behind room turn bytes =
    sym (take-append-drop (12 * n) out2) ∙
    ap₂ (λ (x y : List ℕ). x ++ y)
    (sym (spots_bytes-records out2 bytes n 0 (omega (arith, turn.long))) ∙ ap spots_bytes (turn.spots ∙ ap (from_on k) held))
    (turn.behind ∙ behind ∙ ap (λ (i : ℕ). drop (12 * i) out) (many ∙ sym (from-on-length k ss)))

-- the second half of a Report, by the name that its promise has for the query
pub reportable-as : {t out : List ℕ} {p q : Query} → q ≡ p → Reportable p t out → Reportable q t out
reportable-as {t} {out} e = subst (λ (x : Query). Reportable x t out) (sym e)

pub reported-as : {t out out1 out2 : List ℕ} {x1 x2 y : ℤ} {q : Query} {n k : ℕ} → q ≡ query x1 x2 y → k ≡ from_of q → n ≡ length (spots (walk_table t q))
    → out1 ≡ spots_bytes (spots (walk_table t q)) ++ drop (12 * n) out
    → spots_in out1 n ≡ spots (walk_table t q)
    → 12 * n ≤ length out1
    → Turned n k out1 out2
    → ((i : ℕ) → get_or out2 i 0 < 256)
    → Reported x1 x2 y t out out2 n
reported-as {t} {out} {out1} {out2} {x1} {x2} {y} {q} {n} {k} e f c o held room turn bytes =
    record {
      count = c ∙ ap (λ (p : Query). length (spots (walk_table t p))) e ∙ sym (report-length t x1 x2 y);
      output =
          turned-is out (spots (walk_table t q)) c held
          (ap (drop (12 * n)) o ∙ drop_at (spots_bytes (spots (walk_table t q))) (drop (12 * n) out) (12 * n) (length-spots_bytes (spots (walk_table t q)) ∙ ap (λ (i : ℕ). 12 * i) (sym c)))
          room
          turn
          bytes ∙
          ap (λ (i : ℕ). written (from_on i (spots (walk_table t q))) out) f ∙
          ap (λ (p : Query). written (from_on (from_of p) (spots (walk_table t p))) out) e ∙
          ap (λ (ss : List Spot). written ss out) (sym (report-spots t x1 x2 y));
    }

-- ---- spots that were gathered in a small buffer

module _ (few rest : List ℕ) (n : ℕ) (held : 12 * n ≤ length few) where
  front_long : length (take (12 * n) few) ≡ 12 * n
  front_long = let e = length-take (12 * n) few in omega arith

  -- copied, they are the same
  pub copied-spots : spots_in (take (12 * n) few ++ rest) n ≡ spots_in few n
  copied-spots =
      records-cong (spot_at (take (12 * n) few ++ rest)) (spot_at few) 12 n 0 0
      (λ i l.
      let in-front : 0 + 12 * i + 12 ≤ length (take (12 * n) few) = omega (arith, front_long, stride 12 l) in
      spot_at-left (take (12 * n) few) rest (0 + 12 * i) in-front ∙ sym (spot_at-left (take (12 * n) few) (drop (12 * n) few) (0 + 12 * i) in-front) ∙
      ap (λ (s : List ℕ). spot_at s (0 + 12 * i)) (take-append-drop (12 * n) few))

  pub copied_behind : drop (12 * n) (take (12 * n) few ++ rest) ≡ rest
  copied_behind = drop_at (take (12 * n) few) rest (12 * n) front_long

pub held-turned : {few out out1 out2 : List ℕ} {n k : ℕ} {p q : Query} → Turnable few out n → q ≡ p → k ≡ from_of q → out1 ≡ take (12 * n) few ++ drop (12 * n) out
    → Turned n k out1 out2
    → length out1 ≡ length out
    → ((i : ℕ) → get_or out2 i 0 < 256)
    → out2 ≡ written (from_on (from_of p) (spots_in few n)) out
held-turned {few} {out} {out1} {out2} {n} {k} h e f o turn long bytes =
    turned-is out (spots_in few n) (sym (length-records (spot_at few) 12 n 0)) (ap (λ (s : List ℕ). spots_in s n) o ∙ copied-spots few (drop (12 * n) out) n h.held)
    (ap (drop (12 * n)) o ∙ copied_behind few (drop (12 * n) out) n h.held)
    (omega (arith, h.room, long))
    turn
    bytes ∙
    ap (λ (i : ℕ). written (from_on i (spots_in few n)) out) (f ∙ ap from_of e)

pub held-order : {few out out1 : List ℕ} {n : ℕ} → Turnable few out n → out1 ≡ take (12 * n) few ++ drop (12 * n) out → Orderly (spots_in out1 n)
held-order {few} {out} {out1} {n} h o = subst Orderly (sym (ap (λ (s : List ℕ). spots_in s n) o ∙ copied-spots few (drop (12 * n) out) n h.held)) h.order

pub held-are : (x1 x2 y : ℤ) (t out : List ℕ) (ss : List Spot) {out'' : List ℕ} → ss ≡ spots (walk_table t (query x1 x2 y))
    → out'' ≡ written (from_on (from_of (query x1 x2 y)) ss) out
    → out'' ≡ written (spots (report_table t x1 x2 y)) out
held-are x1 x2 y t out ss e o =
    o ∙ ap (λ (xs : List Spot). written xs out) (ap (from_on (from_of (query x1 x2 y))) e ∙ sym (report-spots t x1 x2 y))
