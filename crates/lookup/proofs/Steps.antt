-- The lookup in a part, one node and then the child whose range holds the key: what `look_in` answers at each of its returns.
-- Assumes nothing.
use mathlib.Core.Path.{◌≡◌, refl, sym, ap, ap₂, ◌∙◌}
use mathlib.Core.Bool.{Bool, true, false, cond, ◌&&◌, ◌||◌, true≢false, false≢true}
use mathlib.Core.List.{List, ◌∷◌}
use mathlib.Core.Option.{Option, none, some}
use Prim.Native.Nat.{ℕ, suc, ◌+◌, ◌-◌, ◌≤◌, ◌<◌}
use native.Mathlib.Omega.{arith}
use lib.ListN.{length, drop}
use Rattle.octets.specs.Lists.{has}
use Rattle.spot.specs.Keys.{within}
use Rattle.spot.specs.Spots.{find}
use Rattle.block.specs.declared.Entry.{Entry}
use Rattle.block.specs.declared.Asked.{Asked}
use Rattle.block.specs.declared.Asked.TheVariants.{Child}
use Rattle.block.specs.Table.{blocks_of}
use Rattle.block.specs.Header.{head_of}
use Rattle.block.specs.HeaderRules.{header_ok}
use Rattle.block.specs.Node.{Node, Store, store_of}
use Rattle.block.specs.NodeRules.{names, node_ok}
use Rattle.block.specs.Access.{front_of, EntryIs}
use Rattle.tree.specs.Part.{Part, parts, whole}
use Rattle.tree.specs.Lookup.{or_else, is_live, node_word, down, lookup, live}
use Rattle.tree.proofs.Says.{has-names}
use Rattle.visit.specs.declared.Span.{Span}
use Rattle.visit.specs.Visit.{end_of, part_of, child_span, entries_in}
use Rattle.visit.proofs.Children.{lent, lent-parts, lent_none, lent-low, lent_level}
use Rattle.std.specs.Prelude.{Ok, Some, None, unwrap_or}
use Rattle.lookup.specs.declared.Word.{Word}
use Rattle.lookup.specs.declared.Word.TheVariants.{Live, Gone, Silent}
use Rattle.lookup.specs.Answers.{Looked, broken, told, along, path_ok, looked_up, LookupPost}
use Rattle.lookup.specs.Words.{word_in, Speaks, Lookable, looked_in}

-- the children of the node at b from the i-th on
abbrev pub left : List ℕ → ℕ → Span → ℕ → ℕ → List Part
left t b span lo i = parts lo (end_of span) (drop i (store_of t b).entries)

-- what is answered of k in the one of these parts that holds it
abbrev pub under : ℕ → Store → ℕ → List Part → Looked
under l m k ps = cond (along (path_ok l m k) k ps) (told (down (lookup l m k) k ps)) broken

-- and in one of the children from the i-th on
abbrev pub among : List ℕ → ℕ → ℕ → Span → ℕ → ℕ → ℕ → Looked
among t b level span k lo i = under level (store_of t) k (left t b span lo i)

-- ---- the node that names a key

-- what is said below counts exactly where P, I and D say nothing
said_here : (p i : Option ℕ) (d : Bool) → (is_live p || is_live i) || d ≡ true → (x y : Option ℕ)
    → or_else p (or_else i (cond d none x)) ≡ or_else p (or_else i (cond d none y))
said_here (some a) i d h x y = refl
said_here none (some a) d h x y = refl
said_here none none true h x y = refl
said_here none none false h x y = absurd (false≢true h)

said-below : (p i : Option ℕ) (d : Bool) → (is_live p || is_live i) || d ≡ false → (x : Option ℕ) → or_else p (or_else i (cond d none x)) ≡ x
said-below (some a) i d h x = absurd (true≢false h)
said-below none (some a) d h x = absurd (true≢false h)
said-below none none true h x = absurd (true≢false h)
said-below none none false h x = refl

module _ (n : Node) (k : ℕ) where
  named-word : has k (names n) ≡ true → (x y : Option ℕ) → node_word n k x ≡ node_word n k y
  named-word h = said_here (find k n.points) (find k n.inserts) (has k n.deletes) (sym (has-names k n) ∙ h)

  unnamed-word : has k (names n) ≡ false → (x : Option ℕ) → node_word n k x ≡ x
  unnamed-word h = said-below (find k n.points) (find k n.inserts) (has k n.deletes) (sym (has-names k n) ∙ h)

-- it says something
abbrev pub spoken : Word → Bool
spoken (Live a) = true
spoken Gone = true
spoken Silent = false

-- a node names the keys that it says something of
speaks-names : {t : List ℕ} {b k : ℕ} {w : Word} → Speaks t b k w → has k (names (store_of t b)) ≡ spoken w
speaks-names {t} {b} {k} {w} s = go w (has k (names (store_of t b))) s.word refl
  where
    go : (v : Word) (h : Bool) → ((x : Option ℕ) → node_word (store_of t b) k x ≡ word_in v x) → has k (names (store_of t b)) ≡ h → h ≡ spoken v
    go (Live a) true f e = refl
    go (Live a) false f e = ap is_live (sym (unnamed-word (store_of t b) k e none) ∙ f none)
    go Gone true f e = refl
    go Gone false f e = sym (ap is_live (sym (unnamed-word (store_of t b) k e (some 0)) ∙ f (some 0)))
    go Silent true f e = sym (ap is_live (sym (f none) ∙ named-word (store_of t b) k e none (some 0) ∙ f (some 0)))
    go Silent false f e = refl

-- none of the children before the i-th holds the key
pub record Going (t : List ℕ) (b level : ℕ) (span : Span) (k lo i : ℕ) : Type 0 where
  pub same : among t b level span k span.lo 0 ≡ among t b level span k lo i

pub going_start : (t : List ℕ) (b level : ℕ) (span : Span) (k : ℕ) → Going t b level span k span.lo 0
going_start t b level span k = record { same = refl }

-- the answer by a node that keeps the rules, where `below` is the one below it
abbrev pub answer : Word → Looked → Looked
answer (Live a) below = Ok (Some a)
answer Gone below = Ok None
answer Silent below = below

by_word : (w : Word) (ok : Bool) (o : Option ℕ) → cond (spoken w || ok) (told (word_in w o)) broken ≡ answer w (cond ok (told o) broken)
by_word (Live a) ok o = refl
by_word Gone ok o = refl
by_word Silent ok o = refl

module _ (t : List ℕ) (b level : ℕ) (a : Asked) (span : Span) (k : ℕ) where
  opened : looked_in (suc level) (store_of t) k (part_of b a span)
      ≡ cond (node_ok level a (store_of t b) && (has k (names (store_of t b)) || along (path_ok level (store_of t) k) k (left t b span span.lo 0)))
      (told (node_word (store_of t b) k (down (lookup level (store_of t) k) k (left t b span span.lo 0))))
      broken
  unfolding looked_in path_ok lookup
  opened = refl

  pub broken-node : node_ok level a (store_of t b) ≡ false → broken ≡ looked_in (suc level) (store_of t) k (part_of b a span)
  broken-node e = sym (opened ∙ rw e)

  -- by what the node says
  module _ (ok : node_ok level a (store_of t b) ≡ true) {w : Word} (h : Speaks t b k w) where
    abbrev ahead : Bool
    ahead = along (path_ok level (store_of t) k) k (left t b span span.lo 0)

    abbrev beneath : Option ℕ
    beneath = down (lookup level (store_of t) k) k (left t b span span.lo 0)

    answered : looked_in (suc level) (store_of t) k (part_of b a span) ≡ answer w (among t b level span k span.lo 0)
    answered =
        opened
        ∙ ap (λ (x : Bool). cond (x && (has k (names (store_of t b)) || ahead)) (told (node_word (store_of t b) k beneath)) broken) ok
        ∙ ap₂ (λ (x : Bool) (o : Option ℕ). cond (x || ahead) (told o) broken) (speaks-names h) (h.word beneath)
        ∙ by_word w ahead beneath

  module _ (ok : node_ok level a (store_of t b) ≡ true) where
    pub named_live : {track : ℕ} → Speaks t b k (Live track) → Ok (Some track) ≡ looked_in (suc level) (store_of t) k (part_of b a span)
    named_live h = sym (answered ok h)

    pub named-gone : Speaks t b k Gone → Ok None ≡ looked_in (suc level) (store_of t) k (part_of b a span)
    named-gone h = sym (answered ok h)

    module _ (h : Speaks t b k Silent) {lo i : ℕ} (g : Going t b level span k lo i) where
      silent : looked_in (suc level) (store_of t) k (part_of b a span) ≡ among t b level span k lo i
      silent = answered ok h ∙ g.same

      -- no child is left
      pub no-child : (front_of (lent t b)).c ≤ i → Ok None ≡ looked_in (suc level) (store_of t) k (part_of b a span)
      no-child l = sym (silent ∙ ap (under level (store_of t) k) (lent_none t b i lo span l))

-- ---- a child

-- the answer by the first of several parts, where it holds the key
by_first : (b x y : Bool) (o p : Option ℕ) → cond (cond b x y) (told (cond b o p)) broken ≡ cond b (cond x (told o) broken) (cond y (told p) broken)
by_first true x y o p = refl
by_first false x y o p = refl

under_first : (l : ℕ) (m : Store) (k : ℕ) (p : Part) (ps : List Part) → under l m k (p ∷ ps) ≡ cond (within p.lo p.hi k) (looked_in l m k p) (under l m k ps)
unfolding looked_in
under_first l m k p ps =
    by_first (within p.lo p.hi k) (path_ok l m k p) (along (path_ok l m k) k ps) (lookup l m k p) (down (lookup l m k) k ps)

-- the i-th child of a node that keeps the rules
pub record Kid (t : List ℕ) (b level : ℕ) (a : Asked) (span : Span) (k lo i : ℕ) (e : Entry) (part : Span) : Type 0 where
  pub few : blocks_of (length t) ≤ 4096
  pub deep : level ≤ 6
  pub ok : node_ok level a (store_of t b) ≡ true
  pub below : i < (front_of (lent t b)).c
  pub entry : EntryIs (lent t b) i e
  pub range : part ≡ child_span (entries_in (lent t b)) i lo span
  pub going : Going t b level span k lo i

module _ {t : List ℕ} {b level : ℕ} {a : Asked} {span : Span} {k lo i : ℕ} {e : Entry} {part : Span} (d : Kid t b level a span k lo i e part) where
  pub kid-level : 1 ≤ level
  kid-level = lent_level t b level a d.ok i d.below d.entry

  pub kid-asks : Lookable t e.block (level - 1)
  kid-asks = record { inside = lent-low t b level a d.ok i d.below d.entry; blocks = d.few; deep = omega (arith, d.deep) }

  abbrev kid : Part
  kid = part_of e.block (Child e) part

  -- it is the first of those left
  kid-first : among t b level span k lo i
      ≡ cond (within part.lo (end_of part) k) (looked_in level (store_of t) k kid) (among t b level span k (unwrap_or part.hi lo) (i + 1))
  kid-first =
      ap (under level (store_of t) k) (lent-parts t b i lo span d.below d.entry d.range)
      ∙ under_first level (store_of t) k kid (left t b span (unwrap_or part.hi lo) (i + 1))

  kid-if : {x : Bool} → within part.lo (end_of part) k ≡ x
      → among t b level span k lo i ≡ cond x (looked_in level (store_of t) k kid) (among t b level span k (unwrap_or part.hi lo) (i + 1))
  kid-if f = kid-first ∙ ap (λ (x : Bool). cond x (looked_in level (store_of t) k kid) (among t b level span k (unwrap_or part.hi lo) (i + 1))) f

  pub kid-next : within part.lo (end_of part) k ≡ false → Going t b level span k (unwrap_or part.hi lo) (i + 1)
  kid-next f = record { same = d.going.same ∙ kid-if f }

  pub kid-says : {r : Looked} → Speaks t b k Silent → within part.lo (end_of part) k ≡ true
      → r ≡ looked_in (suc (level - 1)) (store_of t) k kid → r ≡ looked_in (suc level) (store_of t) k (part_of b a span)
  kid-says h f p =
      let j : suc (level - 1) ≡ level = omega (arith, kid-level) in
      p ∙ ap (λ (l : ℕ). looked_in l (store_of t) k kid) j ∙ sym (silent t b level a span k d.ok h d.going ∙ kid-if f)

-- ---- a table

pub no_header : (t : List ℕ) (k : ℕ) → header_ok (length t) (head_of t) ≡ false → LookupPost t k broken
unfolding looked_up
no_header t k e = record { is = sym (rw e) }

pub from-root : (t : List ℕ) (k : ℕ) {l : ℕ} {p : Part} {r : Looked} → header_ok (length t) (head_of t) ≡ true → l ≡ (head_of t).levels → p ≡ whole (head_of t)
    → r ≡ looked_in l (store_of t) k p → LookupPost t k r
unfolding looked_up looked_in live
from-root t k {l} {p} {r} o e g h = record { is = h ∙ ap₂ (λ (n : ℕ) (q : Part). looked_in n (store_of t) k q) e g ∙ sym (rw o) }
