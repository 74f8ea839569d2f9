-- The call of each number: its arguments fit, and what it promises is what the event of the script's call asks for.
-- Assumes nothing.
use mathlib.Core.Path.{◌≡◌, refl, sym, ap, ap₂, subst, ◌∙◌}
use mathlib.Core.Bool.{true, false, true≢false, ◌&&◌}
use mathlib.Core.List.{List}
use Prim.Native.Nat.{ℕ, suc, ◌+◌, ◌-◌, ◌≤◌, ◌<◌}
use native.Mathlib.Omega.{arith}
use lib.ListN.{get_or, take, drop}
use lib.IntN.{ℤ, pos}
use borrow.Author.Tests.{le-leb}
use mir.Syntax.{w32}
use mir.Val.{to_z, of_z}
use mir.ValLaws.{of_z-to_z}
use Rattle.octets.specs.Bytes.{be}
use Rattle.octets.proofs.Bytes.{be-lt}
use Rattle.octets.proofs.Tests.{and_both}
use Rattle.spot.specs.Keys.{signed32, unsigned32}
use Rattle.block.specs.declared.Answer.{Answer}
use Rattle.ranges.specs.Ranges.{batch_of, Handed}
use Rattle.ranges.specs.declared.Range.{Range}
use Rattle.ranges.specs.declared.Batch.{Batch}
use Rattle.ranges.proofs.Batches.{batch-has}
use Rattle.table.specs.Calls.{Call, format, add, withdraw, report, top, count, check, rebuild, report_many, top_within, apply, kind, takes_scratch, may_change, is_query, is_counting, has_ceiling, arguments_fit}
use Rattle.table.specs.Queries.{ReportPost, ManyPost, TopPost, TopWithinPost, CountPost, CheckPost}
use Rattle.table.specs.Updates.{FormatPost, AddPost, WithdrawPost, RebuildPost, ApplyPost}
use Rattle.demands.specs.History.{Promised}
use Rattle.script.specs.declared.Said.{Said}
use Rattle.script.specs.Script.{all_ranges, call_of, call_at}
use Rattle.script.specs.Run.{plainly, event_of, Called, CalledAlone}
use Rattle.script.proofs.Ranged.{signed-fits-word, ranges-fit, message-fits}

unsigned-fits-word : (v : ℕ) → v < 4294967296 → unsigned32 v ≡ true
unfolding unsigned32
unsigned-fits-word v h = le-leb v 4294967295 (omega arith)

-- the last numbers
call-apply : (g : List ℕ) (n a b c d : ℕ) → 9 < n → call_of g n a b c d ≡ apply (take b (drop a g))
unfolding call_of
call-apply g n a b c d h =
    let e : n ≡ suc (suc (suc (suc (suc (suc (suc (suc (suc (suc (n - 10)))))))))) = omega arith in
    ap (λ (i : ℕ). call_of g i a b c d) e

-- the number that is left of those of calls without spots
three-on : (n : ℕ) → (n ≡ 0 → ⊥) → (n ≡ 1 → ⊥) → (n ≡ 2 → ⊥) → 3 ≤ n
three-on n h0 h1 h2 = omega arith

seven-left : (n : ℕ) → 3 ≤ n → n ≤ 7 → (n ≡ 3 → ⊥) → (n ≡ 4 → ⊥) → (n ≡ 5 → ⊥) → (n ≡ 6 → ⊥) → n ≡ 7
seven-left n l h h3 h4 h5 h6 = omega arith

-- a row of the script as it was read: its number and its arguments, the first two signed
pub record Row (s : List ℕ) (at n : ℕ) (x y : ℤ) (k : ℕ) : Type 0 where
  pub bytes : (i : ℕ) → get_or s i 0 < 256
  pub number : n ≡ be 4 s at
  pub first : x ≡ to_z w32 (be 4 s (at + 4))
  pub second : y ≡ to_z w32 (be 4 s (at + 8))
  pub third : k ≡ be 4 s (at + 12)

module _ {s : List ℕ} {at n : ℕ} {x y : ℤ} {k : ℕ} (row : Row s at n x y k) where
  -- ---- arguments

  word_lt : (i : ℕ) → be 4 s i < 4294967296
  word_lt i = be-lt 4 s i row.bytes

  -- a signed argument that was read is the same when it is handed on, and fits
  read_back : (i : ℕ) (a : ℤ) → a ≡ to_z w32 (be 4 s i) → to_z w32 (be 4 s i) ≡ to_z w32 (of_z w32 a)
  read_back i a e = sym (ap (to_z w32) (ap (of_z w32) e ∙ of_z-to_z w32 (be 4 s i) (record { fits = word_lt i })))

  read_fits : (i : ℕ) (a : ℤ) → a ≡ to_z w32 (be 4 s i) → signed32 (to_z w32 (of_z w32 a)) ≡ true
  read_fits i a e = ap signed32 (sym (read_back i a e)) ∙ signed-fits-word (be 4 s i) (word_lt i)

  -- and so does an unsigned one
  plain_fits : (i v : ℕ) → v ≡ be 4 s i → unsigned32 v ≡ true
  plain_fits i v e = ap unsigned32 e ∙ unsigned-fits-word (be 4 s i) (word_lt i)

  -- the first two
  abbrev x' : ℤ
  x' = to_z w32 (of_z w32 x)

  abbrev y' : ℤ
  y' = to_z w32 (of_z w32 y)

  first_back : to_z w32 (be 4 s (at + 4)) ≡ x'
  first_back = read_back (at + 4) x row.first

  second_back : to_z w32 (be 4 s (at + 8)) ≡ y'
  second_back = read_back (at + 8) y row.second

  two-fit : signed32 x' && signed32 y' ≡ true
  two-fit = and_both (signed32 x') (signed32 y') (read_fits (at + 4) x row.first) (read_fits (at + 8) y row.second)

  third-fits : unsigned32 k ≡ true
  third-fits = plain_fits (at + 12) k row.third

  -- ---- events

  module _ (g : List ℕ) where
    -- the call of this row, and the one that it would be with another number
    abbrev made : Call
    made = call_at g s at

    abbrev numbered_as : ℕ → Call
    numbered_as i = call_of g i (be 4 s (at + 4)) (be 4 s (at + 8)) (be 4 s (at + 12)) (be 4 s (at + 16))

    -- the number settles the call
    numbered : (i : ℕ) (c : Call) → n ≡ i → numbered_as i ≡ c → made ≡ c
    unfolding call_at
    numbered i c e f = ap numbered_as (sym row.number ∙ e) ∙ f

    module _ (t w m v out : List ℕ) where
      -- a call that is no query leaves output, map and counts alone
      updated : (r : Answer) (c : Call) (t' w' : List ℕ) → made ≡ c → arguments_fit c ≡ true → (takes_scratch (kind c) ≡ false → w' ≡ w)
          → (may_change (kind c) ≡ false → t' ≡ t)
          → Promised c t (event_of c w m v out (plainly r) t' w' m v out)
          → Called t (event_of made w m v out (plainly r) t' w' m v out)
      updated r c t' w' e f k n p =
          subst (λ (x : Call). Called t (event_of x w m v out (plainly r) t' w' m v out)) (sym e)
          (record {
            fit = f;
            met = record { promised = p; unchanged = n };
            output_kept = λ n. refl;
            map_kept = λ n. refl;
            scratch_kept = k;
            counts_kept = λ n. refl;
            no_ceiling = λ n. refl;
          })

      -- a query leaves table and scratch alone, and the counts unless it hands some out
      asked : (r : Said) (c : Call) (m' v' out'' : List ℕ) → made ≡ c → arguments_fit c ≡ true → is_query c ≡ true → (is_counting c ≡ false → v' ≡ v)
          → (has_ceiling c ≡ false → r.ceiling ≡ pos 0)
          → Promised c t (event_of c w m v out r t w m' v' out'')
          → Called t (event_of made w m v out r t w m' v' out'')
      asked r c m' v' out'' e f q k z p =
          subst (λ (x : Call). Called t (event_of x w m v out r t w m' v' out'')) (sym e)
          (record {
            fit = f;
            met = record { promised = p; unchanged = λ n. refl };
            output_kept = λ n. absurd (true≢false (sym q ∙ n));
            map_kept = λ n. absurd (true≢false (sym q ∙ n));
            scratch_kept = λ n. refl;
            counts_kept = k;
            no_ceiling = z;
          })

      -- one that answers without a ceiling
      module _ (r : Said) (a : Answer) (er : r ≡ plainly a) where
        answered : (c : Call) (m' v' out'' : List ℕ) → made ≡ c → arguments_fit c ≡ true → is_query c ≡ true → (is_counting c ≡ false → v' ≡ v)
            → Promised c t (event_of c w m v out (plainly a) t w m' v' out'')
            → Called t (event_of made w m v out r t w m' v' out'')
        answered c m' v' out'' e f q k p =
            subst (λ (x : Said). Called t (event_of made w m v out x t w m' v' out'')) (sym er) (asked (plainly a) c m' v' out'' e f q k (λ n. refl) p)

        pub made-report : (z : ℤ) (m' out'' : List ℕ) → n ≡ 3 → z ≡ to_z w32 (be 4 s (at + 12)) → ReportPost x' y' (to_z w32 (of_z w32 z)) t out m a out'' m'
            → Called t (event_of made w m v out r t w m' v out'')
        unfolding call_of arguments_fit
        made-report z m' out'' e ez p =
            let c : Call = report x' y' (to_z w32 (of_z w32 z)) in
            answered c m' v out'' (numbered 3 c e (rw (first_back, second_back, read_back (at + 12) z ez)))
            (and_both (signed32 x' && signed32 y') (signed32 (to_z w32 (of_z w32 z))) two-fit (read_fits (at + 12) z ez))
            refl
            (λ n. refl)
            p

        pub made-top : (m' out'' : List ℕ) → n ≡ 4 → TopPost x' y' k t out m a out'' m' → Called t (event_of made w m v out r t w m' v out'')
        unfolding call_of arguments_fit
        made-top m' out'' e p =
            let c : Call = top x' y' k in
            answered c m' v out'' (numbered 4 c e (rw (first_back, second_back, row.third)))
            (and_both (signed32 x' && signed32 y') (unsigned32 k) two-fit third-fits)
            refl
            (λ n. refl)
            p

      -- a Top within an allowance, the fourth argument; it answers with its ceiling
      pub made-within : (r : Said) (a : ℕ) (m' out'' : List ℕ) → n ≡ 9 → a ≡ be 4 s (at + 16) → TopWithinPost x' y' k a t out m r.answer out'' m' r.ceiling
          → Called t (event_of made w m v out r t w m' v out'')
      unfolding call_of arguments_fit
      made-within r a m' out'' e ea p =
          let c : Call = top_within x' y' k a in
          asked r c m' v out'' (numbered 9 c e (rw (first_back, second_back, row.third, ea)))
          (and_both (signed32 x' && signed32 y' && unsigned32 k) (unsigned32 a) (and_both (signed32 x' && signed32 y') (unsigned32 k) two-fit third-fits)
          (plain_fits (at + 16) a ea))
          refl
          (λ n. refl)
          (λ n. absurd (true≢false n))
          p

  -- many ranges: of the batch that was read
  pub made-many : (g t w m v out : List ℕ) (r : Said) (u : Answer) → r ≡ plainly u → (a b : ℕ) (h : Batch) (m' v' out'' : List ℕ) → ((i : ℕ) → get_or g i 0 < 256)
      → n ≡ 8
      → a ≡ be 4 s (at + 4)
      → b ≡ be 4 s (at + 8)
      → h ≡ batch_of (take b (drop a (all_ranges g)))
      → ((rs : List Range) → Handed h rs → ManyPost rs t v out m u v' out'' m')
      → Called t (event_of (call_at g s at) w m v out r t w m' v' out'')
  unfolding call_of arguments_fit
  made-many g t w m v out r u er a b h m' v' out'' bytes e ea eb eh p =
      let rs : List Range = take b (drop a (all_ranges g)) in
      answered g t w m v out r u er (report_many rs) m' v' out''
      (numbered g 8 (report_many rs) e (ap₂ (λ (i j : ℕ). report_many (take j (drop i (all_ranges g)))) (sym ea) (sym eb)))
      (ranges-fit g bytes a b)
      refl
      (λ n. absurd (true≢false n))
      (p rs (subst (λ (x : Batch). Handed x rs) (sym eh) (batch-has rs)))

  -- a message that was cut out
  pub made-apply : (g t w m v out : List ℕ) (r : Said) (u : Answer) → r ≡ plainly u → (t' w' : List ℕ) → ((i : ℕ) → get_or g i 0 < 256) → 9 < n
      → ApplyPost (take (be 4 s (at + 8)) (drop (be 4 s (at + 4)) g)) t w u t' w'
      → Called t (event_of (call_at g s at) w m v out r t' w' m v out)
  made-apply g t w m v out r u er t' w' bytes h p =
      let a : ℕ = be 4 s (at + 4) in
      let b : ℕ = be 4 s (at + 8) in
      let c : Call = apply (take b (drop a g)) in
      subst (λ (x : Said). Called t (event_of (call_at g s at) w m v out x t' w' m v out)) (sym er)
      (updated g t w m v out u c t' w' (numbered g n c refl (call-apply g n a b (be 4 s (at + 12)) (be 4 s (at + 16)) h))
      (message-fits g bytes a b)
      (λ n. absurd (true≢false n))
      (λ n. absurd (true≢false n))
      p)

  -- ---- the calls that hand out no spots

  module _ (t w : List ℕ) (r : Answer) where
    pub made-format : (t' : List ℕ) → n ≡ 0 → FormatPost t r t' → CalledAlone s at t w r t' w
    unfolding call_of arguments_fit
    made-format t' e p g m v out =
        updated g t w m v out r format t' w (numbered g 0 format e refl) refl (λ n. refl) (λ n. absurd (true≢false n)) p

    pub made-add : (t' w' : List ℕ) → n ≡ 1 → AddPost x' y' k t w r t' w' → CalledAlone s at t w r t' w'
    unfolding call_of arguments_fit
    made-add t' w' e p g m v out =
        let c : Call = add x' y' k in
        updated g t w m v out r c t' w' (numbered g 1 c e (rw (first_back, second_back, row.third)))
        (and_both (signed32 x' && signed32 y') (unsigned32 k) two-fit third-fits)
        (λ n. absurd (true≢false n))
        (λ n. absurd (true≢false n))
        p

    pub made-withdraw : (t' w' : List ℕ) → n ≡ 2 → WithdrawPost x' y' t w r t' w' → CalledAlone s at t w r t' w'
    unfolding call_of arguments_fit
    made-withdraw t' w' e p g m v out =
        let c : Call = withdraw x' y' in
        updated g t w m v out r c t' w' (numbered g 2 c e (rw (first_back, second_back))) two-fit (λ n. absurd (true≢false n)) (λ n. absurd (true≢false n)) p

    pub made-count : n ≡ 5 → CountPost t r → CalledAlone s at t w r t w
    unfolding call_of arguments_fit
    made-count e p g m v out = updated g t w m v out r count t w (numbered g 5 count e refl) refl (λ n. refl) (λ n. refl) p

    pub made-check : n ≡ 6 → CheckPost t r → CalledAlone s at t w r t w
    unfolding call_of arguments_fit
    made-check e p g m v out = updated g t w m v out r check t w (numbered g 6 check e refl) refl (λ n. refl) (λ n. refl) p

    -- the number that is left
    pub made-rebuild : (t' w' : List ℕ) → be 4 s at ≤ 7 → (be 4 s at ≡ 3 → ⊥) → (be 4 s at ≡ 4 → ⊥) → (n ≡ 0 → ⊥) → (n ≡ 1 → ⊥) → (n ≡ 2 → ⊥) → (n ≡ 5 → ⊥)
        → (n ≡ 6 → ⊥)
        → RebuildPost t w r t' w'
        → CalledAlone s at t w r t' w'
    unfolding call_of arguments_fit
    made-rebuild t' w' h h3 h4 h0 h1 h2 h5 h6 p g m v out =
        let same : be 4 s at ≡ n = sym row.number in
        let e : n ≡ 7 =
        seven-left n (three-on n h0 h1 h2) (subst (λ (i : ℕ). i ≤ 7) same h) (λ i. h3 (same ∙ i)) (λ i. h4 (same ∙ i)) h5 h6
        in
        updated g t w m v out r rebuild t' w' (numbered g 7 rebuild e refl) refl (λ n. absurd (true≢false n)) (λ n. absurd (true≢false n)) p

-- a call that was made with table and scratch alone
pub made-alone : (g s : List ℕ) (at : ℕ) (t w m v out : List ℕ) (r : Said) (a : Answer) → r ≡ plainly a → (t' w' : List ℕ)
    → CalledAlone s at t w a t' w'
    → Called t (event_of (call_at g s at) w m v out r t' w' m v out)
made-alone g s at t w m v out r a er t' w' p =
    subst (λ (x : Said). Called t (event_of (call_at g s at) w m v out x t' w' m v out)) (sym er) (p g m v out)
