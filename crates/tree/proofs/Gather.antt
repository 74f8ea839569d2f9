-- Lists of parts: what stands in the lists gathered from them, and functions that agree at each of them.
-- Assumes nothing.
use mathlib.Core.Path.{◌≡◌, refl, ap, ap₂, sym, ◌∙◌}
use mathlib.Core.Logic.{⊎_elim}
use mathlib.Core.Bool.{Bool, true, false, cond, ◌&&◌}
use mathlib.Core.List.Memᴰ
use mathlib.Core.List.{List, [], ◌∷◌, ◌++◌, append_assoc, Memᴰ}
use mathlib.Core.Option.{Option}
use Prim.Native.Nat.{ℕ}
use Rattle.octets.specs.Lists.{every, keep}
use Rattle.octets.proofs.Tests.{keep-in}
use Rattle.octets.proofs.Once.{Once, once-append, once-first, once-second, once-cross}
use Rattle.spot.specs.Keys.{within}
use Rattle.tree.specs.Part.{Part}
use Rattle.tree.specs.Lookup.{down}
use Rattle.tree.specs.Reach.{gather}

-- what is gathered is in one of the lists
pub gather-mem : (f : Part → List ℕ) (ps : List Part) {b : ℕ} → Memᴰ b (gather f ps) → (c : Part) × Memᴰ c ps × Memᴰ b (f c)
gather-mem f [] k = absurd (Memᴰ.not-nil k)
gather-mem f (p ∷ ps) k =
    ⊎_elim (λ j. (p, Memᴰ.head refl, j)) (λ j. let r = gather-mem f ps j in (r.0, Memᴰ.tail r.1, r.2)) (Memᴰ.append_cases (f p) k)

-- and what is in one of them is gathered
pub gather-in : (f : Part → List ℕ) (ps : List Part) {b : ℕ} (c : Part) → Memᴰ c ps → Memᴰ b (f c) → Memᴰ b (gather f ps)
gather-in f [] c i j = absurd (Memᴰ.not-nil i)
gather-in f (p ∷ ps) {b} c i j =
    ⊎_elim (λ (e : c ≡ p). Memᴰ.append_left (gather f ps) (rw e at j)) (λ h. Memᴰ.append_right (f p) (gather-in f ps c h j)) (Memᴰ.cases_cons i)

-- some parts after others
pub gather_append : (f : Part → List ℕ) (ps qs : List Part) → gather f (ps ++ qs) ≡ gather f ps ++ gather f qs
gather_append f [] qs = refl
gather_append f (p ∷ ps) qs = ap (λ (b : List ℕ). f p ++ b) (gather_append f ps qs) ∙ sym (append_assoc (f p) (gather f ps) (gather f qs))

-- ---- functions that agree at each part

-- lists gathered
pub gather_cong : (f g : Part → List ℕ) (ps : List Part) → ((c : Part) → Memᴰ c ps → f c ≡ g c) → gather f ps ≡ gather g ps
gather_cong f g [] h = refl
gather_cong f g (p ∷ ps) h = ap₂ (λ (a b : List ℕ). a ++ b) (h p (Memᴰ.head refl)) (gather_cong f g ps (λ c j. h c (Memᴰ.tail j)))

-- tests
pub every-cong : (f g : Part → Bool) (ps : List Part) → ((c : Part) → Memᴰ c ps → f c ≡ g c) → every f ps ≡ every g ps
every-cong f g [] h = refl
every-cong f g (p ∷ ps) h = ap₂ (λ (a b : Bool). a && b) (h p (Memᴰ.head refl)) (every-cong f g ps (λ c j. h c (Memᴰ.tail j)))

-- what is found going down
pub down-cong : (f g : Part → Option ℕ) (k : ℕ) (ps : List Part) → ((c : Part) → Memᴰ c ps → f c ≡ g c) → down f k ps ≡ down g k ps
down-cong f g k [] h = refl
down-cong f g k (p ∷ ps) h =
    ap₂ (λ (a b : Option ℕ). cond (within p.lo p.hi k) a b) (h p (Memᴰ.head refl)) (down-cong f g k ps (λ c j. h c (Memᴰ.tail j)))

-- ---- two lists for each part, the one within the other

module _ (f g : Part → List ℕ) (sub : (p : Part) (k : ℕ) → Memᴰ k (g p) → Memᴰ k (f p)) where
  -- what is gathered of some parts by the smaller lists is gathered of all by the larger ones
  pub gather-sub : (test : Part → Bool) (ps : List Part) (k : ℕ) → Memᴰ k (gather g (keep test ps)) → Memᴰ k (gather f ps)
  gather-sub test ps k j =
      let r = gather-mem g (keep test ps) j in
      gather-in f ps r.0 (keep-in test ps r.1) (sub r.0 k r.2)

  -- and stands there once if it does so among all
  pub gather-once : ((p : Part) → Once (f p) → Once (g p)) → (test : Part → Bool) (ps : List Part) → Once (gather f ps) → Once (gather g (keep test ps))
  gather-once keeps test [] a = tt
  gather-once keeps test (p ∷ ps) a = go (test p) (gather-once keeps test ps (once-second (f p) (gather f ps) a))
    where
      go : (b : Bool) → Once (gather g (keep test ps)) → Once (gather g (cond b (p ∷ keep test ps) (keep test ps)))
      go true ih =
          once-append (g p) (gather g (keep test ps)) (keeps p (once-first (f p) (gather f ps) a)) ih
          (λ k i j. once-cross (f p) (gather f ps) a k (sub p k i) (gather-sub test ps k j))
      go false ih = ih
