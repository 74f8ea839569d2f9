-- The spots of a piece, kept one after the other; what they show in the catalogue, and as a block.
-- Assumes nothing.
use mathlib.Core.Path.{◌≡◌, refl, sym, ap, ap₂, ◌∙◌}
use mathlib.Core.Bool.{Bool, true, false, cond}
use mathlib.Core.List.{List, [], ◌∷◌, ◌++◌, append-nil}
use Prim.Native.Nat.{ℕ, zero, suc, ◌+◌, ◌-◌, ◌*◌, ◌≤◌, ◌<◌}
use native.Mathlib.Numerals.{add-one}
use native.Mathlib.Omega.{arith}
use lib.Dec.{leb, eqb, eqb-suc-zero}
use lib.ListN.{length, take, drop, get_or, length-append, length-replicate}
use lib.Seq.{append_snoc}
use borrow.Author.Tests.{le-leb, lt-leb, ne_eqb}
use Rattle.octets.specs.Bytes.{put_bytes}
use Rattle.octets.proofs.Lists.{drop-next}
use Rattle.octets.proofs.Parts.{bytes-nothing, bytes-length}
use Rattle.octets.proofs.Records.{records-at, length-records}
use Rattle.spot.specs.Keys.{rank_key, limited}
use Rattle.spot.specs.Spots.{key_at, spot_at, spot_bytes, spots_bytes, put_spot}
use Rattle.spot.specs.Sorted.{only}
use Rattle.spot.specs.declared.Spot.{Spot}
use Rattle.spot.proofs.Limits.{limited-each}
use Rattle.spot.proofs.Stored.{spots_bytes-append, length-spots_bytes}
use Rattle.sweep.specs.Pressed.{no_key, padded, first_key_of, last_from, tile_entry_bytes}
use Rattle.plan.specs.declared.Piece.{Piece}
use Rattle.plan.specs.Plans.{over, stretch, piece_spots, piece_tile, made_by}
use Rattle.press.specs.Press.{count_given, spots_given}
use Rattle.press.specs.Writing.{PieceReady, extent_of, with_higher, fields_bytes}
use Rattle.press.specs.declared.Extent.{Extent}
use Rattle.press.proofs.PutBytes.{spot-behind, zeros, block_made}

-- ---- the key whose passing made a piece

pub made-is : (floor : ℕ) {r : ℕ} → (floor ≡ 0 → ⊥) → r ≡ rank_key (floor - 1) → r ≡ made_by floor
made-is zero h e = absurd (h refl)
made-is (suc f) h e = e ∙ ap rank_key (let g : suc f - 1 ≡ f = omega arith in g)

-- ---- what the catalogue says of spots, one key after the other

abbrev extent : ℕ → ℕ → ℕ → Extent
extent n low high = record { n = n; low = low; high = high }

pub with_first : (e : Extent) (k : ℕ) → e.n ≡ 0 → extent 1 k k ≡ with_higher e k
unfolding with_higher
with_first e k h = ap (λ (m : ℕ). extent (suc m) (cond (eqb m 0) k e.low) k) (sym h)

pub with-more : (e : Extent) (k : ℕ) → (e.n ≡ 0 → ⊥) → extent (e.n + 1) e.low k ≡ with_higher e k
unfolding with_higher
with-more e k h = ap₂ (λ (m l : ℕ). extent m l k) (add-one e.n) (sym (ap (λ (b : Bool). cond b k e.low) (ne_eqb e.n 0 h)))

last_more : (k : ℕ) (ss : List Spot) (x : Spot) → last_from k (ss ++ (x ∷ [])) ≡ x.key
last_more k [] x = refl
last_more k (s ∷ ss) x = last_more s.key ss x

first_more : (ss : List Spot) (x : Spot) → first_key_of (ss ++ (x ∷ [])) ≡ cond (eqb (length ss) 0) x.key (first_key_of ss)
first_more [] x = refl
first_more (s ∷ ss) x = ap (λ (b : Bool). cond b x.key s.key) (sym (eqb-suc-zero (length ss)))

extent-more : (ss : List Spot) (x : Spot) → with_higher (extent_of ss) x.key ≡ extent_of (ss ++ (x ∷ []))
unfolding with_higher
extent-more ss x =
    let n : suc (length ss) ≡ length (ss ++ (x ∷ [])) = omega (arith, length-append ss (x ∷ [])) in
    ap₂ (λ (m l : ℕ). extent m l x.key) n (sym (first_more ss x)) ∙ ap (extent (length (ss ++ (x ∷ []))) (first_key_of (ss ++ (x ∷ [])))) (sym (last_more no_key ss x))

-- what the fields hold is what the entry says
pub entry-written : (s : List ℕ) (at : ℕ) (ss : List Spot) (p : Piece) {e : Extent} {m : ℕ} {u : List ℕ} → e ≡ extent_of (piece_spots ss p) → m ≡ made_by p.floor
    → u ≡ put_bytes s at (fields_bytes e m p.ended) → u ≡ put_bytes s at (tile_entry_bytes (piece_tile ss p))
unfolding fields_bytes tile_entry_bytes
entry-written s at ss p f g q = q ∙ ap₂ (λ (x : Extent) (y : ℕ). put_bytes s at (fields_bytes x y p.ended)) f g

-- ---- the spots of a piece

module _ (s : List ℕ) (p : Piece) where
  abbrev given : List Spot
  given = spots_given s

  -- those from the i-th on that the piece keeps
  abbrev after : ℕ → List Spot
  after i = only (over p.floor) (stretch given i p.to)

  -- the spots kept from those before the i-th
  pub record Kept (kept : List Spot) (i : ℕ) : Type 0 where
    pub inside : i ≤ p.to
    pub whole : kept ++ after i ≡ piece_spots given p

  -- they show in the catalogue as e
  pub record Shown (e : Extent) (i : ℕ) : Type 0 where
    pub kept : List Spot
    pub walked : Kept kept i
    pub shows : e ≡ extent_of kept

  -- and stand in a block b of n bytes, which ends them at `at`
  pub record Laid (n : ℕ) (b : List ℕ) (at i : ℕ) : Type 0 where
    pub kept : List Spot
    pub walked : Kept kept i
    pub behind : at ≡ 12 * length kept
    pub long : length b ≡ n
    pub bytes : b ≡ put_bytes (zeros n) 0 (spots_bytes kept)

  module _ (ready : PieceReady s p) where
    given-length : length given ≡ count_given s
    given-length = length-records (spot_at s) 12 (count_given s) 0

    -- a spot of the piece lies in the bytes and inside the limits
    pub spot-inside : (i : ℕ) → i < p.to → 12 * i + 12 ≤ length s
    spot-inside i h =
        let a = ready.fits.inside in
        let b = ready.ready.inside in
        omega (arith, given-length)

    pub spot-limited : (i : ℕ) → i < p.to → limited (key_at s (12 * i)) ≡ true
    spot-limited i h =
        let a = ready.fits.inside in
        let e : 0 + 12 * i ≡ 12 * i = omega arith in
        rw e at (limited-each s 12 (count_given s) 0 ready.ready.limits i (omega (arith, given-length)))

    after_none : (i : ℕ) → p.to ≤ i → after i ≡ []
    after_none i h = ap (λ (k : ℕ). only (over p.floor) (take k (drop i given))) (let e : p.to - i ≡ 0 = omega arith in e)

    after-step : (i : ℕ) → i < p.to → after i ≡ cond (over p.floor (key_at s (12 * i))) (spot_at s (12 * i) ∷ after (i + 1)) (after (i + 1))
    unfolding spot_at
    after-step i h =
        let x : Spot = spot_at s (12 * i) in
        let a = ready.fits.inside in
        let l : i < length given = omega arith in
        let e : p.to - i ≡ suc (p.to - (i + 1)) = omega arith in
        let z : 0 + 12 * i ≡ 12 * i = omega arith in
        let g : get_or given i x ≡ x = records-at (spot_at s) 12 (count_given s) 0 i x (omega (arith, given-length)) ∙ ap (spot_at s) z in
        let d : drop i given ≡ x ∷ drop (i + 1) given = drop-next given i x l ∙ ap (λ (y : Spot). y ∷ drop (i + 1) given) g in
        ap₂ (λ (k : ℕ) (y : List Spot). only (over p.floor) (take k y)) e d

    kept-none : Kept [] p.from
    kept-none = record { inside = ready.fits.order; whole = refl }

    kept-all : {kept : List Spot} {i : ℕ} → Kept kept i → p.to ≤ i → kept ≡ piece_spots given p
    kept-all {kept} {i} r h = sym (append-nil kept) ∙ ap (λ (l : List Spot). kept ++ l) (sym (after_none i h)) ∙ r.whole

    module _ {kept : List Spot} {i k r : ℕ} (v : Kept kept i) (l : i < p.to) (key : k ≡ key_at s (12 * i)) (rank : r ≡ rank_key k) where
      told : leb p.floor r ≡ over p.floor (key_at s (12 * i))
      told = ap (leb p.floor) (rank ∙ ap rank_key key)

      step : (b : Bool) → leb p.floor r ≡ b → after i ≡ cond b (spot_at s (12 * i) ∷ after (i + 1)) (after (i + 1))
      step b e = after-step i l ∙ ap (λ (c : Bool). cond c (spot_at s (12 * i) ∷ after (i + 1)) (after (i + 1))) (sym told ∙ e)

      first-in : p.floor ≤ r → after i ≡ spot_at s (12 * i) ∷ after (i + 1)
      first-in h = step true (le-leb p.floor r h)

      kept-room : p.floor ≤ r → length kept < 64
      kept-room h =
          let f = ready.fits.few in
          let g = ap (λ (x : List Spot). length x) (first-in h) in
          let w = ap (λ (x : List Spot). length x) v.whole in
          omega (arith, length-append kept (after i))

      kept_in : p.floor ≤ r → Kept (kept ++ (spot_at s (12 * i) ∷ [])) (i + 1)
      kept_in h =
          record {
            inside = omega arith;
            whole = append_snoc kept (spot_at s (12 * i)) (after (i + 1)) ∙ ap (λ (x : List Spot). kept ++ x) (sym (first-in h)) ∙ v.whole;
          }

      kept_out : r < p.floor → Kept kept (i + 1)
      kept_out h =
          record {
            inside = omega arith;
            whole = ap (λ (x : List Spot). kept ++ x) (sym (step false (lt-leb p.floor r h))) ∙ v.whole;
          }

    -- ---- for the catalogue

    pub shown-none : Shown (extent 0 no_key no_key) p.from
    shown-none = record { kept = []; walked = kept-none; shows = refl }

    pub shown-all : {e : Extent} {i : ℕ} → Shown e i → p.to ≤ i → e ≡ extent_of (piece_spots given p)
    shown-all v h = v.shows ∙ ap extent_of (kept-all v.walked h)

    module _ {e : Extent} {i k r : ℕ} (v : Shown e i) (l : i < p.to) (key : k ≡ key_at s (12 * i)) (rank : r ≡ rank_key k) where
      pub shown-room : p.floor ≤ r → e.n < 64
      shown-room h =
          let g = ap (λ (x : Extent). x.n) v.shows in
          omega (arith, kept-room v.walked l key rank h)

      pub shown-in : p.floor ≤ r → {e' : Extent} → e' ≡ with_higher e k → Shown e' (i + 1)
      unfolding spot_at
      shown-in h q =
          record {
            kept = v.kept ++ (spot_at s (12 * i) ∷ []);
            walked = kept_in v.walked l key rank h;
            shows = q ∙ ap₂ with_higher v.shows key ∙ extent-more v.kept (spot_at s (12 * i));
          }

      pub shown-out : r < p.floor → {e' : Extent} → e' ≡ e → Shown e' (i + 1)
      shown-out h q = record { kept = v.kept; walked = kept_out v.walked l key rank h; shows = q ∙ v.shows }

    -- ---- as a block of n bytes

    module _ (n : ℕ) (sized : n ≡ 2048) where
      pub laid_none : {b : List ℕ} → b ≡ zeros n → Laid n b 0 p.from
      laid_none e =
          record {
            kept = [];
            walked = kept-none;
            behind = refl;
            long = ap length e ∙ length-replicate n 0;
            bytes = e ∙ bytes-nothing (zeros n) 0;
          }

      pub laid-all : {b : List ℕ} {at i : ℕ} → Laid n b at i → p.to ≤ i → b ≡ padded (spots_bytes (piece_spots given p))
      laid-all v h = v.bytes ∙ block_made n (spots_bytes v.kept) sized ∙ ap (λ (l : List Spot). padded (spots_bytes l)) (kept-all v.walked h)

      module _ {b : List ℕ} {at i r : ℕ} {x : Spot} (v : Laid n b at i) (l : i < p.to) (read : x ≡ spot_at s (12 * i)) (rank : r ≡ rank_key x.key) where
        key-read : x.key ≡ key_at s (12 * i)
        unfolding spot_at
        key-read = ap (λ (y : Spot). y.key) read

        pub laid-room : p.floor ≤ r → at + 12 ≤ 768
        laid-room h = omega (arith, kept-room v.walked l key-read rank h, v.behind)

        pub laid_in : p.floor ≤ r → {b' : List ℕ} {at' : ℕ} → b' ≡ put_spot b at x → at' ≡ at + 12 → Laid n b' at' (i + 1)
        laid_in h {b'} {at'} q m =
            let more : List Spot = v.kept ++ (spot_at s (12 * i) ∷ []) in
            let k : length more ≡ length v.kept + 1 = length-append v.kept (spot_at s (12 * i) ∷ []) in
            let z : length (zeros n) ≡ n = length-replicate n 0 in
            let room = laid-room h in
            let e : spots_bytes more ≡ spots_bytes v.kept ++ spot_bytes x =
            spots_bytes-append v.kept (spot_at s (12 * i) ∷ [])
            ∙ ap (λ (y : List ℕ). spots_bytes v.kept ++ y) (append-nil (spot_bytes (spot_at s (12 * i))) ∙ ap spot_bytes (sym read))
            in
            let w : b' ≡ put_bytes (zeros n) 0 (spots_bytes more) =
            spot-behind (zeros n) (spots_bytes v.kept) 0 at (omega (arith, length-spots_bytes v.kept, v.behind)) v.bytes x (omega arith) q
            ∙ ap (put_bytes (zeros n) 0) (sym e)
            in
            record {
              kept = more;
              walked = kept_in v.walked l key-read rank h;
              behind = omega (arith, v.behind);
              long = ap length w ∙ bytes-length (zeros n) (spots_bytes more) 0 (omega (arith, length-spots_bytes more, v.behind)) ∙ z;
              bytes = w;
            }

        pub laid_out_lem : r < p.floor → {b' : List ℕ} {at' : ℕ} → b' ≡ b → at' ≡ at → Laid n b' at' (i + 1)
        laid_out_lem h q m =
            record {
              kept = v.kept;
              walked = kept_out v.walked l key-read rank h;
              behind = m ∙ v.behind;
              long = ap length q ∙ v.long;
              bytes = q ∙ v.bytes;
            }
