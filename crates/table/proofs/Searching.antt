-- What a call that searches best first leaves, one law for each way that it ends. Top is such a call, and so is a Top within an allowance.
-- Assumes nothing.
use mathlib.Core.Path.{◌≡◌, ap, refl, sym, subst, ◌∙◌}
use mathlib.Core.Bool.{Bool, true, false}
use mathlib.Core.List.{List, ◌++◌, Memᴰ}
use Prim.Native.Nat.{ℕ, zero, suc, ◌*◌, ◌/◌, ◌≤◌, ◌<◌}
use native.Mathlib.Omega.{arith}
use lib.ListN.{length, drop}
use lib.Dec.{eqb}
use lib.IntN.{ℤ, pos}
use borrow.Author.Tests.{leb-true}
use Rattle.octets.specs.Bitmap.{bit}
use Rattle.octets.proofs.Tests.{all-at, every-make}
use Rattle.spot.specs.Spots.{spots_bytes}
use Rattle.spot.specs.Query.{top_query, wants}
use Rattle.spot.specs.declared.Spot.{Spot}
use Rattle.block.specs.declared.Answer.{Answer}
use Rattle.block.specs.Answers.{answer}
use Rattle.block.specs.Node.{store_of}
use Rattle.block.specs.Table.{table_sized, sized_for, blocks_of}
use Rattle.tree.specs.Walk.{Walk, is_broken, spots, blocks_read}
use Rattle.tree.specs.ReadMap.{read_map}
use Rattle.tree.proofs.Marks.{map-bit, read_mem, zero-marked}
use Rattle.tree.proofs.Sources.{Source, sources-limited, InTable}
use Rattle.report.specs.Reports.{written}
use Rattle.table.specs.Calls.{Call, queries, kind}
use Rattle.table.specs.Answers.{with_output, lent, few_enough, argument_number, early_number, output_left, ceiling_left}
use Rattle.table.specs.Queries.{QueryPost, SearchPost}
use Rattle.table.proofs.Answering.{number_short, number-lent, number-fine, walk-early, walk-broken, walk-many, walk-given}

-- what a search gives and reads is what the walk w does, in the same order where no identity is found twice
pub record Serves (t : List ℕ) (x1 x2 : ℤ) (w : Walk) (once : Bool) (given : List Spot) (blocks : List ℕ) : Type 0 where
  pub intact : is_broken w ≡ false
  pub many : length given ≡ length (spots w)
  pub same : once ≡ true → given ≡ spots w
  pub from : (s : Spot) → Memᴰ s given → Source (store_of t) (top_query x1 x2 0) blocks s
  pub places : (b : ℕ) → Memᴰ b blocks → InTable t b
  pub map : read_map (blocks_read w) ≡ read_map blocks

module _ (c : Call) (lends : kind c ≡ queries) (inside : argument_number c ≡ 0) (x1 x2 : ℤ) (w : Walk) (once : Bool) (t out map : List ℕ) (r : Answer) where
  abbrev Post : List ℕ → List ℕ → Type 0
  Post out'' map' = SearchPost c x1 x2 w once t out map r out'' map'

  -- refused: what it was lent is as it was
  refused : (n d : ℕ) → r ≡ answer (suc n) d → QueryPost c w t out map r out map → Post out map
  refused n d a p =
      record {
        answered = p.answered;
        marks = p.marks;
        output = λ h. p.output;
        unchanged = λ h. refl;
        hands_out = λ h. let i : suc n ≡ 0 = sym (ap (λ (x : Answer). x.number) a) ∙ h in let z : ⊥ = omega arith in absurd z;
      }

  lent-as : {b : Bool} → eqb (length map) 512 ≡ b → lent (with_output t out map) (kind c) ≡ b
  lent-as e = ap (lent (with_output t out map)) lends ∙ e

  pub search-short : table_sized (length t) ≡ false → r ≡ answer 1 0 → Post out map
  search-short e a = refused 0 0 a (walk-early w out map 0 r (number_short (with_output t out map) c e) a)

  module _ (e : table_sized (length t) ≡ true) where
    pub search-lent : eqb (length map) 512 ≡ false → r ≡ answer 2 0 → Post out map
    search-lent f a = refused 1 0 a (walk-early w out map 1 r (number-lent (with_output t out map) c e (lent-as f)) a)

    module _ (f : eqb (length map) 512 ≡ true) where
      fine : early_number (with_output t out map) c ≡ 0
      fine = number-fine (with_output t out map) c e (lent-as f) (ap few_enough lends) inside

      -- a rule is broken
      pub search-broken : is_broken w ≡ true → r ≡ answer 3 0 → Post out map
      search-broken h a = refused 2 0 a (walk-broken w out map fine r h a)

      -- more spots than the output holds
      pub search-many : (n : ℕ) → is_broken w ≡ false → n ≡ length (spots w) → length out / 12 < n → r ≡ answer 5 n → Post out map
      search-many n h m l a = refused 4 n a (walk-many w out map fine r h (subst (λ (j : ℕ). length out / 12 < j) m l) (a ∙ ap (answer 5) m))

      few-blocks : blocks_of (length t) ≤ 4096
      unfolding sized_for
      few-blocks = leb-true _ _ (all-at _ e 2)

      -- accepted
      pub search-given : (n : ℕ) (out'' map' : List ℕ) {given : List Spot} {blocks : List ℕ} → Serves t x1 x2 w once given blocks → n ≡ length given → n ≤ length out / 12 → r ≡ answer 0 n
          → out'' ≡ spots_bytes given ++ drop (12 * length given) out → map' ≡ read_map blocks
          → Post out'' map'
      unfolding output_left
      search-given n out'' map' {given} {blocks} d k l a o v =
          let m : n ≡ length (spots w) = k ∙ d.many in
          let p =
          walk-given w out map fine r (written (spots w) out) map' d.intact (subst (λ (j : ℕ). j ≤ length out / 12) m l) (a ∙ ap (answer 0) m) refl (v ∙ sym d.map) in
          record {
            answered = p.answered;
            marks = p.marks;
            output = λ z. o ∙ ap (λ (ss : List Spot). written ss out) (d.same z) ∙ p.output;
            unchanged = λ z. absurd (z (ap (λ (x : Answer). x.number) a));
            hands_out = λ z.
                record {
                  given = given;
                  output = o;
                  detail = ap (λ (x : Answer). x.detail) a ∙ k;
                  wanted = every-make (wants (top_query x1 x2 0)) given (λ s j. (d.from s j).wanted);
                  marked = λ s j.
                      let u = d.from s j in
                      let b = d.places u.block u.read in
                      let set : bit (read_map blocks) u.block ≡ true = map-bit blocks u.block (omega (arith, b.low, few-blocks)) ∙ read_mem blocks u.block u.read in
                      (u.block, ap (λ (x : List ℕ). bit x u.block) v ∙ set, u.held, λ y. omega (arith, b.some));
                  header = ap (λ (x : List ℕ). bit x 0) v ∙ zero-marked blocks;
                  limits = sources-limited given d.from;
                };
          }

-- ---- what a caller has of it

-- where no identity is found twice, all of it is the walk's
pub searched-exact : {c : Call} {x1 x2 : ℤ} {w : Walk} {once : Bool} {t out map : List ℕ} {r : Answer} {out'' map' : List ℕ} → SearchPost c x1 x2 w once t out map r out'' map' → once ≡ true
    → QueryPost c w t out map r out'' map'
searched-exact p h = record { answered = p.answered; output = p.output h; marks = p.marks }

-- after a refusal the ceiling is 0, whatever it would have been
pub ceiling-refused : (n : ℕ) (c : ℤ) → (n ≡ 0 → ⊥) → ceiling_left n c ≡ pos 0
unfolding ceiling_left
ceiling-refused zero c h = absurd (h refl)
ceiling-refused (suc n) c h = refl
