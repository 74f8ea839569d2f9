-- The marks of a Report on a sound table are exactly those of 01's words.
-- Assumes nothing.
use mathlib.Core.Path.{◌≡◌, refl, ap, sym, ◌∙◌, subst}
use mathlib.Core.Logic.{◌⊎◌, inl, inr, ⊎_elim, ◌↔◌}
use mathlib.Core.Bool.{true, false≢true}
use mathlib.Core.List.Memᴰ
use mathlib.Core.List.{List, Memᴰ}
use Prim.Native.Nat.{ℕ, zero, suc, ◌<◌}
use Rattle.octets.specs.Lists.{keep}
use Rattle.octets.specs.Bitmap.{bit}
use Rattle.octets.proofs.Tests.{all-at, all_cons, all_nil, every-mem, keep-passes, keep-in, keep-there}
use Rattle.spot.specs.declared.Query.{Query}
use Rattle.spot.proofs.Places.{meets_at, meets-some}
use Rattle.block.specs.declared.Entry.{Entry}
use Rattle.block.specs.Node.{Store, store_of}
use Rattle.block.specs.Header.{head_of}
use Rattle.block.specs.declared.Asked.TheVariants.{Child}
use Rattle.block.specs.NodeRules.{agrees}
use Rattle.tree.specs.Part.{Part, whole, children}
use Rattle.tree.specs.Sound.{sound_at, sound}
use Rattle.tree.specs.Walk.{blocks_read, topped, admits, walk_table}
use Rattle.tree.specs.ReadMap.{is_read, read_map}
use Rattle.tree.specs.Trace.{admitted, visits}
use Rattle.tree.proofs.ReadKeys.{KeyShows, KeyRead, first, next, KeyReadBlock}
use Rattle.tree.proofs.Nodes.{Inside, inside-all, inside-child}
use Rattle.tree.proofs.Entries.{agree-held}
use Rattle.tree.proofs.Live.{topped-size, topped-rank, topped-made}
use Rattle.tree.proofs.Below.{node-sound, entry_top}
use Rattle.tree.proofs.Ranges.{parts-mem}
use Rattle.tree.proofs.Marks.{map-bit, read-header, read_mem, read-in}
use Rattle.tree.proofs.Tables.{sound-tree}
use Rattle.tree.proofs.Onto.{mem-onto, onto-mem}
use Rattle.tree.proofs.Gather.{gather-mem, gather-in}
use Rattle.tree.proofs.Bound.{table-reads}

-- a next of a sound node is admitted exactly where it shows what 01 asks
module _ (q : Query) (l : ℕ) (m : Store) (c : Part) (e : Entry) (asks : c.asked ≡ Child e) (s : sound_at l m c ≡ true) where
  entry : agrees (Child e) (m c.block) ≡ true
  entry = rw asks at (node-sound l m c s).entry

  shows-admits : KeyShows m q c → admits q c ≡ true
  unfolding admits
  shows-admits h =
      let t = entry_top e (m c.block) entry h.held in
      all_cons _ _ (ap (topped q) asks ∙ topped-made q e t.0 (rw t.1 h.high))
      (all_cons _ _ (meets_at q c.lo c.hi h.meets.0 h.meets.1 h.meets.2) all_nil)

  admits-shows : admits q c ≡ true → KeyShows m q c
  unfolding admits
  admits-shows h =
      let t : topped q (Child e) ≡ true = ap (topped q) (sym asks) ∙ all-at _ h 0 in
      let held = agree-held e (m c.block) entry (topped-size q e t) in
      record {
        held = held;
        high = rw (entry_top e (m c.block) entry held).1 at (topped-rank q e t);
        meets = meets-some q c.lo c.hi (all-at _ h 1);
      }

-- a part of a part read is read
read-on : (m : Store) (q : Query) {p c d : Part} → KeyRead m q p c → KeyRead m q c d → KeyRead m q p d
read-on m q {p} r (first e) = subst (λ (x : Part). KeyRead m q p x) (sym e) r
read-on m q r (next x k h) = next (read-on m q r x) k h

-- the blocks visited are those of parts read
visits-read : (l : ℕ) (m : Store) (q : Query) (p : Part) → sound_at l m p ≡ true → (b : ℕ) → Memᴰ b (visits l m q p) → (c : Part) × KeyRead m q p c × (c.block ≡ b)
unfolding visits sound_at
visits-read zero m q p s b k = absurd (Memᴰ.not-nil k)
visits-read (suc l) m q p s b k =
    ⊎_elim (λ e. (p, first refl, sym e))
    (λ j.
    let n = m p.block in
    let g = gather-mem (visits l m q) (keep (admits q) (children p n)) j in
    let i = keep-in (admits q) (children p n) g.1 in
    let w = every-mem (sound_at l m) (children p n) (all-at _ s 2) i in
    let e = parts-mem p.lo p.hi n.entries i in
    let h = admits-shows q l m g.0 e.0 e.2 w (keep-passes (admits q) (children p n) g.1) in
    let r = visits-read l m q g.0 w b g.2 in
    (r.0, read-on m q (next (first refl) i h) r.1, r.2))
    (Memᴰ.cases_cons k)

-- a part read, with its levels: all that it visits is visited
read-visited : (l : ℕ) (m : Store) (q : Query) (p : Part) → sound_at l m p ≡ true → {c : Part} → KeyRead m q p c → Inside m (λ i x. visits i m q x) l p c
unfolding visits
read-visited l m q p s (first e) = inside-all m (λ i x. visits i m q x) l p s e
read-visited l m q p s (next {d = d} {c = c} r k h) =
    let e = parts-mem d.lo d.hi (m d.block).entries k in
    inside-child m (λ i x. visits i m q x) l p d c (read-visited l m q p s r) k
    (λ i w b j.
    Memᴰ.tail (gather-in (visits i m q) (admitted q m d) c (keep-there (admits q) (children d (m d.block)) k (shows-admits q i m c e.0 e.2 w h)) j))

visits-own : (l : ℕ) (m : Store) (q : Query) (c : Part) → sound_at l m c ≡ true → Memᴰ c.block (visits l m q c)
unfolding sound_at visits
visits-own zero m q c s = absurd (false≢true s)
visits-own (suc l) m q c s = Memᴰ.head refl

-- 01: "On a sound table an accepted Report reads and marks exactly block 0, the root, and those children of nodes read where .."
module _ (t : List ℕ) (s : sound t ≡ true) (q : Query) where
  abbrev bs : List ℕ
  bs = blocks_read (walk_table t q)

  visited : List ℕ
  visited = visits (head_of t).levels (store_of t) q (whole (head_of t))

  -- the blocks read are those of 01's words
  blocks-exact : (b : ℕ) → Memᴰ b bs ↔ KeyReadBlock t q b
  unfolding visited
  blocks-exact b = (
    λ k. visits-read (head_of t).levels (store_of t) q (whole (head_of t)) (sound-tree t s) b (mem-onto visited (rw (table-reads t s q) at k)),
    λ r.
        let v = read-visited (head_of t).levels (store_of t) q (whole (head_of t)) (sound-tree t s) r.1 in
        rw (table-reads t s q) (onto-mem visited (v.within_all b (Memᴰ.cast (sym r.2) (visits-own v.left (store_of t) q r.0 v.sound-there)))),
  )

  -- and so are the marks
  pub marks-exact : (b : ℕ) → b < 4096 → (bit (read_map bs) b ≡ true) ↔ ((b ≡ 0) ⊎ KeyReadBlock t q b)
  marks-exact b l = (
    λ h. ⊎_elim (λ e. inl e) (λ k. inr ((blocks-exact b).0 k)) (Memᴰ.cases_cons (read-in bs b (sym (map-bit bs b l) ∙ h))),
    λ o. map-bit bs b l ∙ ⊎_elim (λ e. ap (is_read bs) e ∙ read-header bs) (λ r. read_mem bs b ((blocks-exact b).1 r)) o,
  )
