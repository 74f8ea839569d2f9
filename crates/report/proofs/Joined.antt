-- Many ranges in one call, in terms of the single reports: whole where each of them is, with what they find in turn and what they read; and the second-table rule.
-- Assumes nothing.
use mathlib.Core.Path.{◌≡◌, refl, ap, ap₂, sym, ◌∙◌}
use mathlib.Core.Logic.{◌⊎◌, inl, inr, ⊎_elim, ◌↔◌}
use mathlib.Core.Bool.{true, false}
use mathlib.Core.List.Memᴰ
use mathlib.Core.List.{List, [], ◌∷◌, ◌++◌, map, map-append, Memᴰ}
use Prim.Native.Nat.{ℕ, suc, ◌<◌}
use native.Mathlib.Omega.{arith}
use lib.ListN.{length}
use Rattle.octets.specs.Bitmap.{bit}
use Rattle.octets.proofs.Lists.{mem-same}
use Rattle.spot.specs.Query.{query}
use Rattle.spot.specs.declared.Spot.{Spot}
use Rattle.block.specs.Header.{head_of}
use Rattle.block.specs.HeaderRules.{header_ok}
use Rattle.block.specs.Table.{block}
use Rattle.block.proofs.Frames.{head-same}
use Rattle.tree.specs.Walk.{Walk, is_broken, spots, blocks_read, Finds}
use Rattle.tree.specs.ReadMap.{read_map}
use Rattle.tree.proofs.Marks.{map-bit, read_mem, read-in, zero-marked}
use Rattle.tree.proofs.Sources.{header-few, read-in-table}
use Rattle.tree.proofs.Second.{table-second}
use Rattle.ranges.specs.Ranges.{for_each, count_each}
use Rattle.ranges.specs.declared.Range.{Range}
use Rattle.report.specs.Joined.{head_walk, both, report_of, joined, counts_of}
use Rattle.report.proofs.Both.{first-whole, second-whole, both-spots, both-blocks, head-whole, whole-head}
use Rattle.report.proofs.Reports.{report-blocks, report-whole, report-same}

-- ---- what is given for each range

module _ {A : Type 0} where
  pub for-each-same : (f g : Range → List A) (rs : List Range) → ((r : Range) → Memᴰ r rs → f r ≡ g r) → for_each f rs ≡ for_each g rs
  for-each-same f g [] h = refl
  for-each-same f g (r ∷ rs) h = ap₂ (λ (x y : List A). x ++ y) (h r (Memᴰ.head refl)) (for-each-same f g rs (λ s i. h s (Memᴰ.tail i)))

  pub for-each-mem : (f : Range → List A) (rs : List Range) {x : A} → Memᴰ x (for_each f rs) → (r : Range) × Memᴰ r rs × Memᴰ x (f r)
  for-each-mem f [] i = absurd (Memᴰ.not-nil i)
  for-each-mem f (r ∷ rs) i =
      ⊎_elim (λ j. (r, Memᴰ.head refl, j)) (λ j. let s = for-each-mem f rs j in (s.0, Memᴰ.tail s.1, s.2)) (Memᴰ.append_cases (f r) i)

  pub count-each-long : (f : Range → List A) (rs : List Range) → length (count_each f rs) ≡ length rs
  count-each-long f [] = refl
  count-each-long f (r ∷ rs) = ap suc (count-each-long f rs)

module _ {A B : Type 0} where
  pub for-each-map : (h : A → B) (f : Range → List A) (rs : List Range) → map h (for_each f rs) ≡ for_each (λ r. map h (f r)) rs
  for-each-map h f [] = refl
  for-each-map h f (r ∷ rs) = map-append h (f r) (for_each f rs) ∙ ap (λ (l : List B). map h (f r) ++ l) (for-each-map h f rs)

  pub count-each-same : (f : Range → List A) (g : Range → List B) (rs : List Range) → ((r : Range) → Memᴰ r rs → length (f r) ≡ length (g r))
      → count_each f rs ≡ count_each g rs
  count-each-same f g [] h = refl
  count-each-same f g (r ∷ rs) h = ap₂ (λ (n : ℕ) (ns : List ℕ). n ∷ ns) (h r (Memᴰ.head refl)) (count-each-same f g rs (λ s i. h s (Memᴰ.tail i)))

-- ---- whole

module _ (t : List ℕ) where
  -- where all of it is whole, block 0 keeps its rules
  pub header-joined : (rs : List Range) → is_broken (joined t rs) ≡ false → header_ok (length t) (head_of t) ≡ true
  header-joined [] h = whole-head t h
  header-joined (r ∷ rs) h = header-joined rs (second-whole (report_of t r) (joined t rs) h)

  -- and each single report is whole
  pub whole-joined : (rs : List Range) → is_broken (joined t rs) ≡ false → (r : Range) → Memᴰ r rs → is_broken (report_of t r) ≡ false
  whole-joined [] h r i = absurd (Memᴰ.not-nil i)
  whole-joined (s ∷ rs) h r i =
      ⊎_elim (λ (e : r ≡ s). ap (λ (x : Range). is_broken (report_of t x)) e ∙ first-whole (report_of t s) (joined t rs) h)
      (λ j. whole-joined rs (second-whole (report_of t s) (joined t rs) h) r j)
      (Memᴰ.cases_cons i)

  module _ (ok : header_ok (length t) (head_of t) ≡ true) where
    -- what each finds, in turn
    pub joined-finds : (found : Range → List Spot) → ((r : Range) → Finds (report_of t r) (found r)) → (rs : List Range) → Finds (joined t rs) (for_each found rs)
    joined-finds found h [] = ([], head-whole t ok)
    joined-finds found h (r ∷ rs) =
        let rest = joined-finds found h rs in
        ((h r).0 ++ rest.0, ap₂ both (h r).1 rest.1)

  -- ---- spots

  -- in the order handed in, as the single reports give them
  pub spots-joined : (rs : List Range) → is_broken (joined t rs) ≡ false → spots (joined t rs) ≡ for_each (λ r. spots (report_of t r)) rs
  spots-joined [] h = ap spots (head-whole t (whole-head t h))
  spots-joined (r ∷ rs) h =
      both-spots (report_of t r) (joined t rs) h ∙
      ap (λ (ss : List Spot). spots (report_of t r) ++ ss) (spots-joined rs (second-whole (report_of t r) (joined t rs) h))

  -- ---- blocks

  -- a block that the single report of one of the ranges reads
  abbrev pub ReadBySome : List Range → ℕ → Type 0
  ReadBySome rs b = (r : Range) × Memᴰ r rs × Memᴰ b (blocks_read (report_of t r))

  read_one : (rs : List Range) → is_broken (joined t rs) ≡ false → (b : ℕ) → Memᴰ b (blocks_read (joined t rs)) → ReadBySome rs b
  read_one [] h b i = absurd (Memᴰ.not-nil (mem-same (ap blocks_read (head-whole t (whole-head t h))) i))
  read_one (r ∷ rs) h b i =
      ⊎_elim (λ j. (r, Memᴰ.head refl, j))
      (λ j. let s = read_one rs (second-whole (report_of t r) (joined t rs) h) b j in (s.0, Memᴰ.tail s.1, s.2))
      (Memᴰ.append_cases (blocks_read (report_of t r)) (mem-same (both-blocks (report_of t r) (joined t rs) h) i))

  one-read : (rs : List Range) → is_broken (joined t rs) ≡ false → (b : ℕ) (r : Range) → Memᴰ r rs → Memᴰ b (blocks_read (report_of t r)) → Memᴰ b (blocks_read (joined t rs))
  one-read [] h b r i j = absurd (Memᴰ.not-nil i)
  one-read (s ∷ rs) h b r i j =
      mem-same (sym (both-blocks (report_of t s) (joined t rs) h))
      (⊎_elim (λ (e : r ≡ s). Memᴰ.append_left (blocks_read (joined t rs)) (mem-same (ap (λ (x : Range). blocks_read (report_of t x)) e) j))
      (λ k. Memᴰ.append_right (blocks_read (report_of t s)) (one-read rs (second-whole (report_of t s) (joined t rs) h) b r k j))
      (Memᴰ.cases_cons i))

  module _ (rs : List Range) (h : is_broken (joined t rs) ≡ false) (b : ℕ) where
    -- the blocks read are those of the single reports
    pub blocks-joined : Memᴰ b (blocks_read (joined t rs)) ↔ ReadBySome rs b
    blocks-joined = (read_one rs h b, λ r. one-read rs h b r.0 r.1 r.2)

    -- each has a bit in the map
    read_low : ReadBySome rs b → b < 4096
    read_low r =
        let x = r.0 in
        omega (arith, header-few t (header-joined rs h), (read-in-table t (query x.x1 x.x2 x.y) b (mem-same (report-blocks t x.x1 x.x2 x.y) r.2)).low)

    -- and the bit is set
    pub read-joined : Memᴰ b (blocks_read (joined t rs)) → bit (read_map (blocks_read (joined t rs))) b ≡ true
    read-joined i = map-bit (blocks_read (joined t rs)) b (read_low (blocks-joined.0 i)) ∙ read_mem (blocks_read (joined t rs)) b i

    -- "The marks are block 0 and the union of the single reports' marks"
    pub marks-joined : b < 4096
        → (bit (read_map (blocks_read (joined t rs))) b ≡ true) ↔ ((b ≡ 0) ⊎ ((r : Range) × Memᴰ r rs × (bit (read_map (blocks_read (report_of t r))) b ≡ true)))
    marks-joined l = (
      λ k. ⊎_elim inl
          (λ i. let r = blocks-joined.0 i in inr (r.0, r.1, map-bit (blocks_read (report_of t r.0)) b l ∙ read_mem (blocks_read (report_of t r.0)) b r.2))
          (Memᴰ.cases_cons (read-in (blocks_read (joined t rs)) b (sym (map-bit (blocks_read (joined t rs)) b l) ∙ k))),
      ⊎_elim (λ (e : b ≡ 0). rw e (zero-marked (blocks_read (joined t rs))))
          (λ (r : (r : Range) × Memᴰ r rs × (bit (read_map (blocks_read (report_of t r))) b ≡ true)).
          ⊎_elim (λ (e : b ≡ 0). rw e (zero-marked (blocks_read (joined t rs)))) (λ i. read-joined (one-read rs h b r.0 r.1 i))
          (Memᴰ.cases_cons (read-in (blocks_read (report_of t r.0)) b (sym (map-bit (blocks_read (report_of t r.0)) b l) ∙ r.2)))),
    )

-- ---- the second table

module _ (t u : List ℕ) (n : length u ≡ length t) where
  -- tables with the same block 0 and the same single reports
  same-joined : block u 0 ≡ block t 0 → (rs : List Range) → ((r : Range) → Memᴰ r rs → report_of u r ≡ report_of t r) → joined u rs ≡ joined t rs
  unfolding head_walk
  same-joined z [] h = rw (head-same t u n z, n)
  same-joined z (r ∷ rs) h = ap₂ both (h r (Memᴰ.head refl)) (same-joined z rs (λ s i. h s (Memᴰ.tail i)))

  module _ (rs : List Range) (whole : is_broken (joined t rs) ≡ false) (same : (b : ℕ) → bit (read_map (blocks_read (joined t rs))) b ≡ true → block u b ≡ block t b) where
    same-header : block u 0 ≡ block t 0
    same-header = same 0 (zero-marked (blocks_read (joined t rs)))

    -- each single report is the same
    pub second-each : (r : Range) → Memᴰ r rs → report_of u r ≡ report_of t r
    second-each r i =
        let q = query r.x1 r.x2 r.y in
        report-same t r.x1 r.x2 r.y u
        (table-second t u q n same-header (sym (report-whole t r.x1 r.x2 r.y) ∙ whole-joined t rs whole r i)
        (λ b k. same b (read-joined t rs whole b (one-read t rs whole b r i (mem-same (sym (report-blocks t r.x1 r.x2 r.y)) k)))))

    -- "counts, spots and marks follow the second-table rule"
    pub second-joined : joined u rs ≡ joined t rs
    second-joined = same-joined same-header rs second-each

    pub second-counts : counts_of u rs ≡ counts_of t rs
    second-counts = count-each-same (λ r. spots (report_of u r)) (λ r. spots (report_of t r)) rs (λ r i. ap (λ (w : Walk). length (spots w)) (second-each r i))
