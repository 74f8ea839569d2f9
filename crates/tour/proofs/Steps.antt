-- The blocks of a tour one after the other: what is read and found up to a block, and with it.
-- Assumes nothing.
use mathlib.Core.Path.{◌≡◌, refl, sym, ap, ap₂, subst, ◌∙◌}
use mathlib.Core.Bool.{Bool, true, false, cond, and-true, false≢true}
use mathlib.Core.List.{List, [], ◌∷◌, ◌++◌, append-nil, Memᴰ}
use Prim.Native.Nat.{ℕ, ◌+◌, ◌-◌, ◌*◌, ◌≤◌, ◌<◌}
use native.Mathlib.Omega.{arith}
use lib.ListN.{length, replicate, length-replicate}
use Rattle.octets.specs.Lists.{every, keep, up_to}
use Rattle.octets.specs.Bitmap.{set_bit}
use Rattle.octets.proofs.Tests.{and_left, every-mem, every-join, keep_append, keep-mem, keep-passes, keep-there, refuted}
use Rattle.octets.proofs.UpTo.{up_to-more, up_to-in, up_to-from, up_to-once}
use Rattle.octets.proofs.Once.{Once, keep-once}
use Rattle.spot.specs.Query.{wants}
use Rattle.spot.specs.Spots.{spots_in, put_all}
use Rattle.spot.specs.declared.Spot.{Spot}
use Rattle.spot.specs.declared.Query.{Query}
use Rattle.block.specs.Table.{blocks_of, block}
use Rattle.block.proofs.Frames.{block-length}
use Rattle.tree.specs.Trace.{marked}
use Rattle.tree.proofs.MapBits.{marked_append, marked-length, marks-make}
use Rattle.query.specs.Merging.{Orderly}
use Rattle.query.specs.Walks.{Collected}
use Rattle.sweep.specs.Report.{meets_span}
use Rattle.catalogue.specs.Catalogue.{tour_sized, tile_entry, tile_fine, tile_spots, stands, asks, tiles_read}
use Rattle.catalogue.specs.Reading.{LimitedEntry}
use Rattle.catalogue.specs.declared.Entry.{Entry}
use Rattle.catalogue.proofs.Lengths.{sized-lengths}
use Rattle.tour.specs.Tour.{with_tile, gathered}
use Rattle.tour.specs.Gathering.{Gatherable, TourReadable, blocks_fine, TourRead}

pub gathered-append : (t : List ℕ) (q : Query) (xs ys : List ℕ) (found : List Spot) → gathered t q (xs ++ ys) found ≡ gathered t q ys (gathered t q xs found)
gathered-append t q [] ys found = refl
gathered-append t q (x ∷ xs) ys found = gathered-append t q xs ys (with_tile t q x found)

module _ (t : List ℕ) (q : Query) where
  abbrev blocks : ℕ
  blocks = blocks_of (length t)

  abbrev asked : ℕ → Bool
  asked b = asks q blocks b (tile_entry t b)

  abbrev pub fine : ℕ → Bool
  fine b = tile_fine blocks b (tile_entry t b) (block t b)

  -- the blocks read before block b
  abbrev read_to : ℕ → List ℕ
  read_to b = keep asked (up_to 1 (b - 1))

  read_is : tiles_read t q ≡ read_to blocks
  unfolding tiles_read
  read_is = refl

  -- every block read is one of the tour, and not the catalogue
  pub read-inside : (b : ℕ) → Memᴰ b (tiles_read t q) → (1 ≤ b) × (b < blocks)
  unfolding tiles_read
  read-inside b i = let r = up_to-from 1 (blocks - 1) (keep-mem asked (up_to 1 (blocks - 1)) i).0 in (omega (arith, r.0), omega (arith, r.0, r.1))

  -- each once, and it stands
  pub read-once : Once (tiles_read t q)
  unfolding tiles_read
  read-once = keep-once asked (up_to 1 (blocks - 1)) (up_to-once 1 (blocks - 1))

  pub read-stands : (b : ℕ) → Memᴰ b (tiles_read t q) → stands q blocks b (tile_entry t b) ≡ true
  unfolding tiles_read asks
  read-stands b i =
      let e = tile_entry t b in
      and_left (stands q blocks b e) (meets_span q e.low e.high) (keep-passes asked (up_to 1 (blocks - 1)) i)

  read_more : (b : ℕ) → 1 ≤ b → read_to (b + 1) ≡ read_to b ++ cond (asked b) (b ∷ []) []
  read_more b h =
      let e : b + 1 - 1 ≡ b - 1 + 1 = omega arith in
      let f : 1 + (b - 1) ≡ b = omega arith in
      ap (λ (k : ℕ). keep asked (up_to 1 k)) e ∙ ap (keep asked) (sym (up_to-more 1 (b - 1) 1)) ∙ keep_append asked (up_to 1 (b - 1)) (up_to (1 + (b - 1)) 1)
      ∙ ap (λ (k : ℕ). read_to b ++ keep asked (up_to k 1)) f

  -- before block b is looked at: n spots are found, which stand at the front of the buffer
  pub record ReadTo (b n : ℕ) (seen found : List ℕ) : Type 0 where
    pub some : 1 ≤ b
    pub most : b ≤ blocks
    pub few : n ≤ 64 * (b - 1)
    pub kept : every fine (read_to b) ≡ true
    pub marks : seen ≡ marked (replicate 512 0) (read_to b)
    pub spots : spots_in found n ≡ gathered t q (read_to b) []
    pub order : Orderly (spots_in found n)
    pub buffer : length found ≡ 11520

  pub read-start : {seen found : List ℕ} → TourReadable t seen found → ReadTo 1 0 seen found
  read-start h =
      let l = sized-lengths (length t) h.sized in
      record {
        some = omega arith;
        most = l.some;
        few = omega arith;
        kept = refl;
        marks = h.blank;
        spots = refl;
        order = record { rise = refl; limits = refl };
        buffer = h.buffer;
      }

  -- by the names that the code has for them where the ways of a turn meet
  pub read_as : {b n k : ℕ} {seen found map buffer : List ℕ} → map ≡ seen → buffer ≡ found → k ≡ n → ReadTo b n seen found → ReadTo b k map buffer
  read_as {b} {n} {k} {seen} {found} {map} {buffer} e f g s =
      subst (λ (i : ℕ). ReadTo b i map buffer) (sym g) (subst (λ (l : List ℕ). ReadTo b n map l) (sym f) (subst (λ (l : List ℕ). ReadTo b n l found) (sym e) s))

  module _ {b n : ℕ} {seen found : List ℕ} (s : ReadTo b n seen found) where
    pub seen-length : length seen ≡ 512
    seen-length = ap length s.marks ∙ marked-length (replicate 512 0) (read_to b) ∙ length-replicate {A = ℕ} 512 0

    -- a block that is not asked for
    pub read-skip : {e : Entry} → b < blocks → e ≡ tile_entry t b → asks q blocks b e ≡ false → ReadTo (b + 1) n seen found
    read-skip l e a =
        let r : read_to (b + 1) ≡ read_to b = read_more b s.some ∙ ap (λ (c : Bool). read_to b ++ cond c (b ∷ []) []) (ap (asks q blocks b) (sym e) ∙ a) ∙ append-nil (read_to b) in
        record {
          some = omega arith;
          most = omega arith;
          few = omega (arith, s.few, s.some);
          kept = ap (every fine) r ∙ s.kept;
          marks = s.marks ∙ ap (marked (replicate 512 0)) (sym r);
          spots = s.spots ∙ ap (λ (bs : List ℕ). gathered t q bs []) (sym r);
          order = s.order;
          buffer = s.buffer;
        }

    module _ {e : Entry} (l : b < blocks) (p : e ≡ tile_entry t b) (a : asks q blocks b e ≡ true) where
      next-is : read_to (b + 1) ≡ read_to b ++ (b ∷ [])
      next-is = read_more b s.some ∙ ap (λ (c : Bool). read_to b ++ cond c (b ∷ []) []) (ap (asks q blocks b) (sym p) ∙ a)

      -- one that breaks its layout
      pub read-stop : tile_fine blocks b e (block t b) ≡ false → blocks_fine t q ≡ false
      unfolding tiles_read
      read-stop f =
          refuted (every fine (tiles_read t q))
          (λ h.
          false≢true
          (sym f ∙ ap (λ (x : Entry). tile_fine blocks b x (block t b)) p
          ∙ every-mem fine (tiles_read t q) h (keep-there asked (up_to 1 (blocks - 1)) (up_to-in 1 (blocks - 1) b s.some (omega arith)) (ap (asks q blocks b) (sym p) ∙ a))))

      -- one in order
      module _ (f : tile_fine blocks b e (block t b) ≡ true) where
        pub read-gatherable : tour_sized (length t) ≡ true → LimitedEntry e → Gatherable (block t b) e found n
        read-gatherable z g =
            let u = sized-lengths (length t) z in
            record {
              long = block-length t b (omega (arith, u.whole));
              entry = g;
              blocks = blocks;
              number = b;
              fine = f;
              order = s.order;
              buffer = s.buffer;
              room = omega (arith, s.few, u.few);
            }

        pub read_next : {seen' found' : List ℕ} {r : ℕ} → seen' ≡ set_bit seen b
            → Collected found found' n (put_all (keep (wants q) (spots_in (block t b) e.size)) (spots_in found n)) (n + r) × (r ≤ 64)
            → ReadTo (b + 1) (n + r) seen' found'
        unfolding tile_spots with_tile
        read_next {seen'} {found'} {r} m c =
            let own : spots_in found' (n + r) ≡ gathered t q (read_to (b + 1)) [] =
            c.0.spots ∙ ap₂ (λ (x : Entry) (xs : List Spot). put_all (keep (wants q) (spots_in (block t b) x.size)) xs) p s.spots
            ∙ sym (gathered-append t q (read_to b) (b ∷ []) []) ∙ ap (λ (bs : List ℕ). gathered t q bs []) (sym next-is)
            in
            record {
              some = omega arith;
              most = omega arith;
              few = omega (arith, s.few, s.some, c.1);
              kept = ap (every fine) next-is ∙ every-join fine (read_to b) (b ∷ []) s.kept (and-true (fine b) ∙ ap (λ (x : Entry). tile_fine blocks b x (block t b)) (sym p) ∙ f);
              marks = m ∙ ap (λ (x : List ℕ). set_bit x b) s.marks ∙ sym (marked_append (replicate 512 0) (read_to b) (b ∷ [])) ∙ ap (marked (replicate 512 0)) (sym next-is);
              spots = own;
              order = subst Orderly (sym c.0.spots) c.0.order;
              buffer = c.0.sized ∙ s.buffer;
            }

    -- all are read
    pub read-end : {seen' : List ℕ} → tour_sized (length t) ≡ true → blocks ≤ b → seen' ≡ set_bit seen 0 → TourRead t q seen' found n
    read-end {seen'} z l m =
        let u = sized-lengths (length t) z in
        let at : b ≡ blocks = omega (arith, s.most) in
        let whole : read_to b ≡ tiles_read t q = ap read_to at ∙ sym read_is in
        record {
          fine = ap (every fine) (sym whole) ∙ s.kept;
          few = omega (arith, s.few, u.few);
          marks =
              m ∙ ap (λ (x : List ℕ). set_bit x 0) (s.marks ∙ ap (marked (replicate 512 0)) whole)
              ∙ marks-make (tiles_read t q) (λ x i. omega (arith, (read-inside x i).1, u.few));
          spots = s.spots ∙ ap (λ (bs : List ℕ). gathered t q bs []) whole;
          order = s.order;
        }
