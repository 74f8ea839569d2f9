-- What the answer of a lookup says of the table.
-- Assumes nothing.
use mathlib.Core.Path.{◌≡◌, refl, sym, ap, subst, ◌∙◌}
use mathlib.Core.Bool.{Bool, true, false, cond, ◌&&◌, true≢false}
use mathlib.Core.List.{List, [], ◌∷◌}
use mathlib.Core.Option.{Option, none, some}
use Prim.Native.Nat.{ℕ, zero, suc}
use lib.ListN.{length}
use Rattle.octets.specs.Lists.{every, has}
use Rattle.octets.proofs.Tests.{all-at, and_left, and_right, and_both}
use Rattle.spot.specs.Keys.{within}
use Rattle.block.specs.Header.{head_of}
use Rattle.block.specs.HeaderRules.{header_ok}
use Rattle.block.specs.Node.{Store, store_of}
use Rattle.block.specs.NodeRules.{names}
use Rattle.block.proofs.Shut.{in_right}
use Rattle.tree.specs.Part.{Part, whole, children}
use Rattle.tree.specs.Lookup.{live}
use Rattle.tree.specs.Sound.{sound_at, sound}
use Rattle.tree.proofs.Tables.{sound-tree, sound-header}
use Rattle.std.specs.Prelude.{Ok, Err, Some, None, is_err}
use Rattle.lookup.specs.Answers.{Looked, broken, told, along, path_ok, looked_up, LookupPost}

-- the answer, unless it is an error, is this word
abbrev pub Says : Looked → Option ℕ → Type 0
Says (Ok (Some a)) o = o ≡ some a
Says (Ok None) o = o ≡ none
Says (Err e) o = Unit {0}

says-told : (ok : Bool) (o : Option ℕ) → Says (cond ok (told o) broken) o
says-told false o = tt
says-told true none = refl
says-told true (some a) = refl

-- any answer but an error is what is live
pub looked-says : {t : List ℕ} {k : ℕ} {r : Looked} → LookupPost t k r → Says r (live t k)
unfolding looked_up
looked-says {t} {k} g =
    subst (λ (x : Looked). Says x (live t k)) (sym g.is)
    (says-told (header_ok (length t) (head_of t) && path_ok (head_of t).levels (store_of t) k (whole (head_of t))) (live t k))

-- ---- a sound table

both_ways : (b x y : Bool) → x ≡ true → y ≡ true → cond b x y ≡ true
both_ways true x y p q = p
both_ways false x y p q = q

along-every : (f g : Part → Bool) → ((p : Part) → f p ≡ true → g p ≡ true) → (k : ℕ) (ps : List Part) → every f ps ≡ true → along g k ps ≡ true
along-every f g h k [] s = refl
along-every f g h k (p ∷ ps) s =
    both_ways (within p.lo p.hi k) (g p) (along g k ps) (h p (and_left (f p) (every f ps) s)) (along-every f g h k ps (and_right (f p) (every f ps) s))

-- every path of a sound part keeps the rules
path-sound : (l : ℕ) (m : Store) (k : ℕ) (p : Part) → sound_at l m p ≡ true → path_ok l m k p ≡ true
unfolding sound_at path_ok
path-sound zero m k p s = s
path-sound (suc l) m k p s =
    and_both _ _ (all-at _ s 0)
    (in_right (has k (names (m p.block))) (along-every (sound_at l m) (path_ok l m k) (path-sound l m k) k (children p (m p.block)) (all-at _ s 2)))

told-whole : (o : Option ℕ) → is_err (told o) ≡ false
told-whole none = refl
told-whole (some a) = refl

-- of a sound table the answer is never an error
pub looked-whole : {t : List ℕ} {k : ℕ} {r : Looked} → LookupPost t k r → sound t ≡ true → r ≡ broken → ⊥
unfolding looked_up
looked-whole {t} {k} g s e =
    true≢false
    (ap is_err (sym e ∙ g.is)
    ∙ ap (λ (b : Bool). is_err (cond b (told (live t k)) broken)) (and_both _ _ (sound-header t s) (path-sound (head_of t).levels (store_of t) k (whole (head_of t)) (sound-tree t s)))
    ∙ told-whole (live t k))
