-- A node's entries in memory, and the entry that leads to it.
-- Assumes nothing.
use mathlib.Core.Path.{◌≡◌, refl, ap, sym, subst, ◌∙◌}
use mathlib.Core.Bool.{true}
use mathlib.Core.List.{List, [], ◌∷◌}
use Prim.Native.Nat.{ℕ, zero, suc, ◌*◌, ◌≤◌, ◌<◌}
use native.Mathlib.Omega.{arith}
use lib.ListN.{length, take, get_or, set}
use Rattle.octets.proofs.Lists.{mem-same}
use Rattle.spot.specs.declared.Spot.{Spot}
use Rattle.spot.specs.Spots.{key_at, spot_at, spots_from}
use Rattle.spot.proofs.Buffers.{find-mem}
use Rattle.buffer.specs.declared.SpotBuffer.{SpotBuffer}
use Rattle.buffer.specs.declared.KeyBuffer.{KeyBuffer}
use Rattle.buffer.specs.Buffer.{held, named, Highest, LowestIn}
use Rattle.block.specs.declared.Entry.{Entry}
use Rattle.block.specs.Node.{open_below, first_open}
use Rattle.block.specs.NodeRules.{zero_first, lows}
use Rattle.block.specs.Table.{blocks_of}
use Rattle.block.proofs.Views.{open-zero}
use Rattle.node.specs.declared.Entries.{Entries}
use Rattle.node.specs.declared.NodeValue.{NodeValue}
use Rattle.node.specs.Memory.{entries_of, EntriesFit, Storable, Stored}
use Rattle.node.proofs.Fits.{open-fits}
use Rattle.tree.proofs.Entries.{agree-make, agree-empty}
use Rattle.rebuild_theory.specs.Build.{first_spot_key, built_node}
use Rattle.build.specs.Building.{EntryOfPoints, OwnPut}

abbrev pub no_entry : Entry
no_entry = record { block = 0; size = 0; low = 0; top = 0; bottom = 0 }

-- the first of n, opened below
pub opened : (l : List Entry) (n : ℕ) → n ≤ length l → take n (set l 0 (open_below (get_or l 0 no_entry))) ≡ first_open (take n l)
opened l zero h = refl
opened [] (suc n) h = let z : ⊥ = omega arith in absurd z
opened (e ∷ l) (suc n) h = refl

-- ---- the entry of a node

pub first-none : (list : List ℕ) (from n : ℕ) → n ≡ 0 → 0 ≡ first_spot_key (spots_from list from n)
first-none list from zero e = refl
first-none list from (suc n) e = let z : ⊥ = omega arith in absurd z

pub first_some : (list : List ℕ) (from n : ℕ) → (n ≡ 0 → ⊥) → key_at list (12 * from) ≡ first_spot_key (spots_from list from n)
unfolding spot_at
first_some list from zero d = absurd (d refl)
first_some list from (suc n) d = refl

pub entry-none : (b k : ℕ) (ps : List Spot) → b < 65536 → ps ≡ [] → EntryOfPoints b k ps (record { block = b; size = 0; low = k; top = 0; bottom = 0 })
entry-none b k ps h e =
    record {
      at = refl;
      low = refl;
      agree = λ m q. agree-empty (record { block = b; size = 0; low = k; top = 0; bottom = 0 }) m refl (q ∙ e);
      fits = record { block = h; size = omega arith; top = λ z. refl; bottom = λ z. refl };
    }

pub entry-some : (b k : ℕ) (ps : List Spot) (size : ℕ) (hi lo : Spot) → b < 65536 → size ≡ length ps → (size ≡ 0 → ⊥) → size ≤ 64 → Highest ps hi → LowestIn ps lo
    → EntryOfPoints b k ps (record { block = b; size = size; low = k; top = hi.key; bottom = lo.key })
entry-some b k ps size hi lo h e d few high low =
    record {
      at = refl;
      low = refl;
      agree =
          λ m q.
          agree-make (record { block = b; size = size; low = k; top = hi.key; bottom = lo.key }) m (e ∙ ap (λ (l : List Spot). length l) (sym q))
          (rw q (find-mem hi.key ps high.there, high.most))
          (rw q (find-mem lo.key ps low.there, low.least));
      fits = record { block = h; size = omega arith; top = λ z. absurd (d z); bottom = λ z. absurd (d z) };
    }

-- ---- the node

module _ (level : ℕ) (es opened-es : Entries) (points inserts : SpotBuffer) (deletes : KeyBuffer) (count : opened-es.n ≡ es.n) (open_is : entries_of opened-es ≡ first_open (entries_of es))
    (no-inserts : inserts.n ≡ 0) (no-deletes : deletes.n ≡ 0) where
  abbrev own : NodeValue
  own = record { level = level; entries = opened-es; points = points; inserts = inserts; deletes = deletes }

  pub own-storable : level ≤ 6 → EntriesFit es → points.n ≤ 64 → Storable own
  own-storable h f p =
      record {
        level = omega arith;
        entries =
            record {
              few = let m = f.few in omega arith;
              each = λ e i. open-fits (entries_of es) f.each e (mem-same open_is i);
            };
        first = ap (λ (l : List Entry). zero_first (lows l)) open_is ∙ open-zero (entries_of es);
        points = p;
        inserts = omega arith;
        deletes = omega arith;
      }

  pub own_put : {t u : List ℕ} {b k low : ℕ} {ps : List Spot} {e : Entry} → Stored t u b own → held points ≡ ps → low ≡ k → EntryOfPoints b low (held points) e → OwnPut t u b level (entries_of es) ps k e
  unfolding built_node
  own_put {t} {u} {b} {k} {low} {ps} {e} s q l w =
      record {
        is = s.here ∙ (λ i. record { level = level; entries = open_is i; points = q i; inserts = none-held i; deletes = none_named i; laid = true; room = blocks_of (length t) });
        else = s.else;
        sized = s.sized;
        entry = subst (λ (j : ℕ). EntryOfPoints b j ps e) l (subst (λ (x : List Spot). EntryOfPoints b low x e) q w);
      }
    where
      none-held : held inserts ≡ []
      none-held = ap (λ (j : ℕ). take j inserts.spots) no-inserts

      none_named : named deletes ≡ []
      none_named = ap (λ (j : ℕ). take j deletes.keys) no-deletes
