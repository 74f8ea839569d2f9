-- Reports written, one behind the other.
-- Assumes nothing.
use mathlib.Core.Path.{◌≡◌, refl, ap, ap₂, sym, ◌∙◌}
use mathlib.Core.Bool.{true, false}
use mathlib.Core.List.{List, ◌++◌, append-nil, append_assoc}
use Prim.Native.Nat.{ℕ, ◌+◌, ◌*◌, ◌-◌, ◌≤◌, ◌<◌}
use native.Mathlib.Omega.{arith}
use lib.IntN.{ℤ}
use lib.ListN.{length, get_or, take, drop, length-append, length-take, length-drop, drop_of_length-le}
use lib.Seq.{take_all, take_at, drop_at, drop-drop, get_or-take}
use borrow.Rule.Slice.PartMut.{mid_of, put_mid, same_len_mid}
use Rattle.spot.specs.Spots.{spots_bytes}
use Rattle.spot.specs.declared.Spot.{Spot}
use Rattle.spot.proofs.Stored.{spots_bytes-append, length-spots_bytes}
use Rattle.block.specs.Header.{head_of}
use Rattle.block.specs.HeaderRules.{header_ok}
use Rattle.tree.specs.Walk.{Walk, is_broken, spots, walk_table}
use Rattle.tree.specs.Report.{report_table}
use Rattle.ranges.specs.Ranges.{range_at, no_range}
use Rattle.ranges.specs.declared.Range.{Range}
use Rattle.ranges.specs.declared.Batch.{Batch}
use Rattle.report.specs.Joined.{both, report_of, joined}
use Rattle.report.specs.Reports.{written, Givable}
use Rattle.report.proofs.Reports.{report-whole, report-length}
use Rattle.report.proofs.Both.{both-spots, second-whole}
use Rattle.report.proofs.Joined.{header-joined}
use Rattle.report.proofs.Snoc.{joined-none, joined-more, counts-at, counts-length, whole-sooner, fewer-sooner}
use Rattle.many.specs.Many.{asked_by, given, AllGivable, AllGiven}
use Rattle.many.proofs.Slots.{slot-part}

-- spots behind others
written-more : (ss more : List Spot) (out : List ℕ) {out₁ part : List ℕ} (at k : ℕ) → at ≡ 12 * length ss → k ≡ length out₁ - at → out₁ ≡ written ss out
    → part ≡ written more (mid_of at k out₁)
    → put_mid at k out₁ part ≡ written (ss ++ more) out
written-more ss more out {out₁} {part} at k a e o p =
    let long : length (spots_bytes ss) ≡ at = length-spots_bytes ss ∙ sym a in
    let left : length (drop at out₁) ≤ k = omega (arith, length-drop at out₁) in
    let front : take at out₁ ≡ spots_bytes ss = ap (take at) o ∙ take_at (spots_bytes ss) (drop (12 * length ss) out) at long in
    let behind : drop at out₁ ≡ drop (12 * length ss) out = ap (drop at) o ∙ drop_at (spots_bytes ss) (drop (12 * length ss) out) at long in
    let sum : 12 * length ss + 12 * length more ≡ 12 * length (ss ++ more) = omega (arith, length-append ss more) in
    ap₂ (λ (x y : List ℕ). x ++ y) front
    (ap₂ (λ (x y : List ℕ). x ++ y) (p ∙ ap (written more) (take_all k (drop at out₁) left ∙ behind)) (drop_of_length-le (drop at out₁) left) ∙
    append-nil (written more (drop (12 * length ss) out)))
    ∙ sym (append_assoc (spots_bytes ss) (spots_bytes more) (drop (12 * length more) (drop (12 * length ss) out)))
    ∙ ap₂ (λ (x y : List ℕ). x ++ y) (sym (spots_bytes-append ss more)) (drop-drop (12 * length more) (12 * length ss) out ∙ ap (λ (i : ℕ). drop i out) sum)

-- the first i of n are written
pub record Giving (n : ℕ) (all : List Range) (t out₀ out : List ℕ) (at i : ℕ) : Type 0 where
  pub within : i ≤ n
  pub sized : length out ≡ length out₀
  pub place : at ≡ 12 * length (spots (joined t (take i all)))
  pub output : out ≡ written (spots (joined t (take i all))) out₀

module _ (b : Batch) (t few each out₀ : List ℕ) (p : AllGivable b t few each out₀) where
  header : header_ok (length t) (head_of t) ≡ true
  header = header-joined t (given b) p.whole

  pub giving-start : Giving b.n b.all t out₀ out₀ 0 0
  giving-start =
      let none = joined-none t header in
      record {
        within = omega arith;
        sized = refl;
        place = sym (ap (λ (w : Walk). 12 * length (spots w)) none);
        output = sym (ap (λ (w : Walk). written (spots w) out₀) none);
      }

  pub giving-all : {out : List ℕ} {at i : ℕ} → Giving b.n b.all t out₀ out at i → b.n ≤ i → AllGiven b t out₀ out
  giving-all {out} {at} {i} g h =
      let e : i ≡ b.n = omega (arith, g.within) in
      record { output = g.output ∙ ap (λ (k : ℕ). written (spots (joined t (take k b.all))) out₀) e }

  module _ (long : length b.all ≡ 64) {out : List ℕ} {at i : ℕ} (g : Giving b.n b.all t out₀ out at i) (more : i < b.n) where
    -- up to the i-th, and the i-th
    abbrev J : Walk
    J = joined t (take i b.all)

    abbrev r : Range
    r = range_at b.all i

    next : joined t (take (i + 1) b.all) ≡ both J (report_of t r)
    next = joined-more t header b.all i (omega (arith, p.many))

    whole : is_broken (both J (report_of t r)) ≡ false
    whole = sym (ap is_broken next) ∙ whole-sooner t header b.all (i + 1) b.n (omega arith) p.whole

    spots-next : spots (joined t (take (i + 1) b.all)) ≡ spots J ++ spots (report_of t r)
    spots-next = ap spots next ∙ both-spots J (report_of t r) whole

    many-next : length (spots (joined t (take (i + 1) b.all))) ≡ length (spots J) + length (spots (report_of t r))
    many-next = ap length spots-next ∙ length-append (spots J) (spots (report_of t r))

    count : get_or each i 0 ≡ length (spots (report_of t r))
    count =
        sym (get_or-take b.n each i 0 more) ∙ ap (λ (l : List ℕ). get_or l i 0) p.counts ∙
        counts-at t (given b) i (omega (arith, p.many, long, length-take b.n b.all)) ∙
        ap (λ (x : Range). length (spots (report_of t x))) (get_or-take b.n b.all i no_range more)

    pub numbered : i < length each
    numbered = omega (arith, length-take b.n each, ap length p.counts ∙ counts-length t (given b), length-take b.n b.all, long, p.many)

    pub room : at + 12 * get_or each i 0 ≤ length out
    room = omega (arith, g.place, g.sized, count, many-next, fewer-sooner t header b.all (i + 1) b.n (omega arith) p.whole, p.room)

    -- the numbers of the i-th, as the machine holds them
    module _ {x1 x2 y : ℤ} (e : x1 ≡ r.x1) (f : x2 ≡ r.x2) (h : y ≡ r.y) (m : ℕ) (left : m ≡ length out - at) where
      pub givable : (k : ℕ) → k ≡ 1536 → Givable x1 x2 y t (mid_of (1536 * i) k few) (mid_of at m out) (get_or each i 0)
      givable k wide =
          let found : get_or each i 0 ≡ length (spots (walk_table t (asked_by r))) = count ∙ report-length t r.x1 r.x2 r.y in
          rw (e, f, h)
          (record {
            walk =
                record {
                  sized = p.sized;
                  whole = sym (report-whole t r.x1 r.x2 r.y) ∙ second-whole J (report_of t r) whole;
                  room = omega (arith, room, found, length-take m (drop at out), length-drop at out);
                };
            count = found;
            held = λ l.
                let small : 12 * get_or each i 0 ≤ k = omega (arith, length-take k (drop (1536 * i) few)) in
                slot-part few (1536 * i) k (get_or each i 0) small ∙ p.held.spots i more (omega arith);
          })

      pub giving-next : {part : List ℕ} → length part ≡ length (mid_of at m out) → part ≡ written (spots (report_table t x1 x2 y)) (mid_of at m out)
          → Giving b.n b.all t out₀ (put_mid at m out part) (at + 12 * get_or each i 0) (i + 1)
      giving-next {part} same o =
          record {
            within = omega arith;
            sized = same_len_mid at m out part same ∙ g.sized;
            place = omega (arith, g.place, count, many-next);
            output =
                written-more (spots J) (spots (report_of t r)) out₀ at m g.place left g.output (rw (e, f, h) at o) ∙ ap (λ (ss : List Spot). written ss out₀) (sym spots-next);
          }
