-- The marks of a Report of a tour follow the second-table rule: a second tour of that length, equal in the marked blocks, gives the same report and marks.
-- Assumes nothing.
use mathlib.Core.Path.{◌≡◌, refl, sym, ap, ap₂, ◌∙◌}
use mathlib.Core.Bool.{Bool, true, cond, ◌&&◌}
use mathlib.Core.List.{List, [], ◌∷◌, Memᴰ}
use Prim.Native.Nat.{ℕ, ◌-◌}
use native.Mathlib.Omega.{arith}
use lib.ListN.{length}
use lib.IntN.{ℤ}
use Rattle.octets.specs.Lists.{every, keep, up_to}
use Rattle.octets.specs.Bitmap.{bit}
use Rattle.spot.specs.Query.{query, from_of, wants}
use Rattle.spot.specs.Spots.{put_all, spots_in, from_on}
use Rattle.spot.specs.declared.Spot.{Spot}
use Rattle.spot.specs.declared.Query.{Query}
use Rattle.block.specs.Table.{block, blocks_of}
use Rattle.block.specs.declared.Answer.{Answer}
use Rattle.tree.specs.Walk.{Walk, walked, broken, map_spots, spots, blocks_read}
use Rattle.tree.proofs.Marks.{map-bit, read_mem, zero-marked}
use Rattle.table.specs.Answers.{unless_refused, output_left, map_left}
use Rattle.table.specs.Queries.{walk_answer}
use Rattle.catalogue.specs.Catalogue.{catalogue_fine, tile_entry_at, tile_entry, tile_fine, tile_spots, asks, tiles_read, tour_fine}
use Rattle.catalogue.specs.declared.Entry.{Entry}
use Rattle.catalogue.proofs.Lengths.{sized-lengths}
use Rattle.tour.specs.Tour.{with_tile, gathered, tour_walk, tour_report, tour_number, TourPost}
use Rattle.tour.specs.Promises.{SameTour}
use Rattle.tour.proofs.Steps.{fine, read-inside}
use Rattle.tour.proofs.Accepted.{Accepted, accepted}

every-same : (f g : ℕ → Bool) (bs : List ℕ) → ((b : ℕ) → Memᴰ b bs → f b ≡ g b) → every f bs ≡ every g bs
every-same f g [] h = refl
every-same f g (b ∷ bs) h = ap₂ ◌&&◌ (h b (Memᴰ.head refl)) (every-same f g bs (λ c i. h c (Memᴰ.tail i)))

module _ (t u : List ℕ) (long : length u ≡ length t) (first : block u 0 ≡ block t 0) where
  entry-second : (b : ℕ) → tile_entry u b ≡ tile_entry t b
  unfolding tile_entry
  entry-second b = ap (λ (s : List ℕ). tile_entry_at s b) first

  -- the catalogue settles what is read
  read-second : (q : Query) → tiles_read u q ≡ tiles_read t q
  unfolding tiles_read tile_entry
  read-second q = ap₂ (λ (n : ℕ) (s : List ℕ). keep (λ (b : ℕ). asks q (blocks_of n) b (tile_entry_at s b)) (up_to 1 (blocks_of n - 1))) long first

  spots-second : (b : ℕ) → block u b ≡ block t b → tile_spots u b ≡ tile_spots t b
  unfolding tile_spots
  spots-second b e = ap₂ (λ (s : List ℕ) (x : Entry). spots_in s x.size) e (entry-second b)

  gathered-second : (q : Query) (bs : List ℕ) (found : List Spot) → ((b : ℕ) → Memᴰ b bs → block u b ≡ block t b) → gathered u q bs found ≡ gathered t q bs found
  unfolding with_tile
  gathered-second q [] found h = refl
  gathered-second q (b ∷ bs) found h =
      ap (λ (ss : List Spot). gathered u q bs (put_all (keep (wants q) ss) found)) (spots-second b (h b (Memᴰ.head refl)))
      ∙ gathered-second q bs (with_tile t q b found) (λ c i. h c (Memᴰ.tail i))

  module _ (q : Query) (same : (b : ℕ) → Memᴰ b (tiles_read t q) → block u b ≡ block t b) where
    fine-second : tour_fine u q ≡ tour_fine t q
    unfolding tour_fine
    fine-second =
        ap₂ ◌&&◌ (ap₂ catalogue_fine long first)
        (ap (every (fine u q)) (read-second q) ∙ every-same (fine u q) (fine t q) (tiles_read t q) (λ b i. ap (λ (n : ℕ). tile_fine (blocks_of n) b (tile_entry u b) (block u b)) long ∙ ap₂ (tile_fine (blocks_of (length t)) b) (entry-second b) (same b i)))

    walk-second : tour_walk u q ≡ tour_walk t q
    unfolding tour_walk
    walk-second =
        ap₂ (λ (b : Bool) (bs : List ℕ). cond b (walked (gathered u q bs []) bs) broken) fine-second (read-second q)
        ∙ ap (λ (ss : List Spot). cond (tour_fine t q) (walked ss (tiles_read t q)) broken) (gathered-second q (tiles_read t q) [] same)

report-second : (t u : List ℕ) (x1 x2 y : ℤ) → length u ≡ length t → block u 0 ≡ block t 0 → ((b : ℕ) → Memᴰ b (tiles_read t (query x1 x2 y)) → block u b ≡ block t b)
    → tour_report u x1 x2 y ≡ tour_report t x1 x2 y
unfolding tour_report
report-second t u x1 x2 y long first same = ap (map_spots (from_on (from_of (query x1 x2 y)))) (walk-second t u long first (query x1 x2 y) same)

pub tour-second : (x1 x2 y : ℤ) (t u out map : List ℕ) (r r₂ : Answer) (out'' map' out₂' map₂' : List ℕ) → TourPost x1 x2 y t out map r out'' map' → r.number ≡ 0
    → length u ≡ length t
    → ((b : ℕ) → bit map' b ≡ true → block u b ≡ block t b)
    → TourPost x1 x2 y u out map r₂ out₂' map₂'
    → SameTour r r₂ out'' out₂' map' map₂'
tour-second x1 x2 y t u out map r r₂ out'' map' out₂' map₂' p z long agree p₂ =
    record {
      answered = answers;
      output = p₂.output ∙ ap₂ (λ (x : Answer) (w : Walk). output_left x.number (spots w) out) answers walks ∙ sym p.output;
      marks = p₂.marks ∙ ap₂ (λ (x : Answer) (w : Walk). map_left x.number (blocks_read w) map) answers walks ∙ sym p.marks;
    }
  where
    a : Accepted x1 x2 y t r map'
    a = accepted x1 x2 y t out map r out'' map' p z

    marked : (b : ℕ) → Memᴰ b (tiles_read t (query x1 x2 y)) → bit map' b ≡ true
    marked b i =
        ap (λ (m : List ℕ). bit m b) a.marks
        ∙ map-bit (tiles_read t (query x1 x2 y)) b (omega (arith, (read-inside t (query x1 x2 y) b i).1, (sized-lengths (length t) a.sized).few))
        ∙ read_mem (tiles_read t (query x1 x2 y)) b i

    walks : tour_report u x1 x2 y ≡ tour_report t x1 x2 y
    walks =
        report-second t u x1 x2 y long (agree 0 (ap (λ (m : List ℕ). bit m 0) a.marks ∙ zero-marked (tiles_read t (query x1 x2 y)))) (λ b i. agree b (marked b i))

    answers : r₂ ≡ r
    answers = p₂.answered ∙ ap₂ (λ (n : ℕ) (w : Walk). unless_refused (tour_number n (length map)) (walk_answer (length out) w)) long walks ∙ sym p.answered
