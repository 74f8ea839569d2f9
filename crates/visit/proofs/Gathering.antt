-- The keys that wait above a node, gathered in a list as far as they lie near it.
-- Assumes nothing.
use mathlib.Core.Path.{◌≡◌, refl, sym, ap, ap₂, subst, ◌∙◌}
use Rattle.std.specs.Prelude.{Option, None, Some}
use mathlib.Core.Bool.{Bool, true, false, not, ◌&&◌, ◌||◌, or-false, or_assoc, or_comm, false≢true}
use mathlib.Core.List.{List, [], ◌∷◌, ◌++◌, Memᴰ}
use Prim.Native.Nat.{ℕ, ◌+◌, ◌-◌, ◌*◌, ◌≤◌, ◌<◌}
use native.Mathlib.Numerals.{add-one}
use native.Mathlib.Omega.{arith}
use lib.Dec.{leb, eqb}
use lib.ListN.{length, take, get_or, set, length-set}
use lib.Seq.{take-suc, take-set-le}
use mir.Val.{bool_byte}
use borrow.Author.Tests.{le-leb, ne_eqb}
use Rattle.octets.specs.Lists.{has, records, rising}
use Rattle.octets.proofs.Lists.{take-push, mem-at}
use Rattle.octets.proofs.Records.{length-records, records-at, records-more}
use Rattle.octets.proofs.Sets.{has-append}
use Rattle.octets.proofs.Tests.{and_both, every-make, keep_all}
use Rattle.spot.specs.Spots.{key_at, spot_at}
use Rattle.spot.specs.declared.Spot.{Spot}
use Rattle.spot.specs.declared.Query.{Query}
use Rattle.block.specs.Node.{store_of}
use Rattle.tree.specs.Walk.{takes, takes_key}
use Rattle.visit.specs.declared.Path.{Path}
use Rattle.visit.specs.Visit.{above, waiting, waiting_by, waiting_above, keys_from, below_in, taken, AllWanted, WaitsGathered, KeysKept}
use Rattle.visit.proofs.Paths.{waiting-append}
use Rattle.visit.proofs.Counts.{spot-key}
use Rattle.visit.proofs.Search.{run-rises}
use Rattle.visit.proofs.Marking.{run-skips, run-stops, takes-is}

-- ---- keys behind others

pub kept-key : (list : List ℕ) (c k lo last : ℕ) → c < length list → KeysKept (k ∷ []) lo last c list (set list c k) (Some (c + bool_byte (leb lo k && leb k last)))
kept-key list c k lo last h = go (leb lo k && leb k last) refl
  where
    go : (b : Bool) → leb lo k && leb k last ≡ b → KeysKept (k ∷ []) lo last c list (set list c k) (Some (c + bool_byte b))
    go true e = record { sized = length-set list c k; few = omega (arith, length-set list c k); same = λ x l g. ap (has x) (take-push list c k h) ∙ has-append x (take c list) (k ∷ []) }
    go false e =
        record {
          sized = length-set list c k;
          few = omega (arith, length-set list c k);
          same = λ x l g.
              let z : c + 0 ≡ c = omega arith in
              let out : has x (k ∷ []) ≡ false = or-false (eqb x k) ∙ ne_eqb x k (λ s. false≢true (sym e ∙ and_both (leb lo k) (leb k last) (le-leb lo k (omega arith)) (le-leb k last (omega arith)))) in
              ap (λ (i : ℕ). has x (take i (set list c k))) z ∙ ap (has x) (take-set-le c list c k (omega arith))
              ∙ sym (ap (λ (b : Bool). has x (take c list) || b) out ∙ or-false (has x (take c list)));
        }

-- none, and too many
pub kept-none : (lo last c : ℕ) (list : List ℕ) → c ≤ length list → KeysKept [] lo last c list list (Some c)
kept-none lo last c list h = record { sized = refl; few = h; same = λ k l g. sym (or-false (has k (take c list))) }

pub kept_full : (ks : List ℕ) (lo last c : ℕ) {list list' : List ℕ} → length list' ≡ length list → KeysKept ks lo last c list list' None
kept_full ks lo last c e = record { sized = e; few = tt; same = tt }

module _ {lo last c : ℕ} {list list' : List ℕ} where
  pub kept_then : {xs ys : List ℕ} {list'' : List ℕ} {d : ℕ} {r : Option ℕ} → KeysKept xs lo last c list list' (Some d) → KeysKept ys lo last d list' list'' r → KeysKept (xs ++ ys) lo last c list list'' r
  kept_then {r = None} a b = record { sized = b.sized ∙ a.sized; few = tt; same = tt }
  kept_then {xs} {ys} {list''} {d} {r = Some n} a b =
      record {
        sized = b.sized ∙ a.sized;
        few = b.few;
        same = λ k l g.
            b.same k l g ∙ ap (λ (x : Bool). x || has k ys) (a.same k l g) ∙ or_assoc (has k (take c list)) (has k xs) (has k ys)
            ∙ ap (λ (x : Bool). has k (take c list) || x) (sym (has-append k xs ys));
      }

  -- with others that are the same from lo to last
  pub kept_same : {xs ys : List ℕ} {r : Option ℕ} → ((k : ℕ) → lo ≤ k → k ≤ last → has k xs ≡ has k ys) → KeysKept xs lo last c list list' r → KeysKept ys lo last c list list' r
  kept_same {r = None} h a = record { sized = a.sized; few = tt; same = tt }
  kept_same {r = Some n} h a = record { sized = a.sized; few = a.few; same = λ k l g. a.same k l g ∙ ap (λ (x : Bool). has k (take c list) || x) (h k l g) }

-- ---- a run that rises

module _ (t : List ℕ) (a w n lo last c : ℕ) (r : rising (keys_from t w n a) ≡ true) where
  pub kept-start : {j : ℕ} (list : List ℕ) → j ≡ below_in lo (keys_from t w n a) → j ≤ n → c ≤ length list → KeysKept (keys_from t w j a) lo last c list list (Some c)
  kept-start list e h m = kept_same (λ k l g. sym (run-skips t a w n r lo k e h l)) (kept-none lo last c list m)

  pub kept_next : {k d d' : ℕ} {list list' list'' : List ℕ} (j : ℕ) → k ≡ key_at t (a + w * j) → KeysKept (keys_from t w j a) lo last c list list' (Some d) → KeysKept (k ∷ []) lo last d list' list'' (Some d')
      → KeysKept (keys_from t w (j + 1) a) lo last c list list'' (Some d')
  kept_next {k} {d} {d'} {list} {list'} {list''} j e s v =
      subst (λ (l : List ℕ). KeysKept l lo last c list list'' (Some d'))
      (ap (λ (x : ℕ). keys_from t w j a ++ (x ∷ [])) e ∙ sym (records-more (key_at t) w j a) ∙ ap (λ (x : ℕ). keys_from t w x a) (sym (add-one j)))
      (kept_then s v)

  pub kept-stop : {k d : ℕ} {list list' : List ℕ} (j : ℕ) → j < n → k ≡ key_at t (a + w * j) → last < k → KeysKept (keys_from t w j a) lo last c list list' (Some d)
      → KeysKept (keys_from t w n a) lo last c list list' (Some d)
  kept-stop j h e l s = kept_same (λ x f g. run-stops t a w n r j last x h (omega arith) g) s

  pub kept-end : {d : ℕ} {list list' : List ℕ} (j : ℕ) → j ≡ n → KeysKept (keys_from t w j a) lo last c list list' (Some d) → KeysKept (keys_from t w n a) lo last c list list' (Some d)
  kept-end {d} {list} {list'} j e s = subst (λ (x : ℕ). KeysKept (keys_from t w x a) lo last c list list' (Some d)) e s

-- ---- another list

pub kept_more : (ws : List ℕ) (lo last c : ℕ) {k d d' : ℕ} {list list' list'' : List ℕ} (j : ℕ) → j < length ws → k ≡ get_or ws j 0 → KeysKept (take j ws) lo last c list list' (Some d)
    → KeysKept (k ∷ []) lo last d list' list'' (Some d') → KeysKept (take (j + 1) ws) lo last c list list'' (Some d')
kept_more ws lo last c {k} {d} {d'} {list} {list'} {list''} j h e s v =
    subst (λ (l : List ℕ). KeysKept l lo last c list list'' (Some d'))
    (ap (λ (x : ℕ). take j ws ++ (x ∷ [])) e ∙ sym (ap (λ (i : ℕ). take i ws) (add-one j) ∙ take-suc ws j 0 h))
    (kept_then s v)

-- ---- a path with one node more

module _ (t : List ℕ) (p r : Path) (b : ℕ) (g : above r ≡ above p ++ (b ∷ [])) where
  waits-more : (k : ℕ) → has k (waiting_above t r) ≡ has k (waiting_above t p) || has k (waiting (store_of t b))
  waits-more k =
      ap (λ (l : List ℕ). has k (waiting_by (store_of t) l)) g ∙ waiting-append (store_of t) k (above p) (b ∷ [])
      ∙ ap (λ (x : Bool). has k (waiting_above t p) || x) (has-append k (waiting (store_of t b)) [] ∙ or-false (has k (waiting (store_of t b))))

  -- nothing is gathered, and nothing waits in the node
  pub gathered-quiet : {ws : List ℕ} (list : List ℕ) → WaitsGathered t p ws → p.waits ≡ 0 → waiting (store_of t b) ≡ [] → r.lo ≡ p.lo → r.last ≡ p.last → r.waits ≡ p.waits
      → WaitsGathered t r list
  gathered-quiet {ws} list v z e lo last few =
      record {
        few = omega arith;
        same = λ k l h.
            ap (λ (i : ℕ). has k (take i list)) (few ∙ z)
            ∙ sym (waits-more k ∙ ap (λ (l : List ℕ). has k (waiting_above t p) || has k l) e ∙ or-false (has k (waiting_above t p))
            ∙ sym (v.same k (omega arith) (omega arith)) ∙ ap (λ (i : ℕ). has k (take i ws)) z);
      }

  pub gathered-step : {ws list list' : List ℕ} {lo last c : ℕ} → WaitsGathered t p ws → KeysKept (waiting (store_of t b) ++ take p.waits ws) lo last 0 list list' (Some c)
      → p.lo ≤ lo → last ≤ p.last → r.lo ≡ lo → r.last ≡ last → r.waits ≡ c → WaitsGathered t r list'
  gathered-step {ws} {list} {list'} {lo} {last} {c} v s up down e f n =
      record {
        few = omega (arith, s.few);
        same = λ k l h.
            let own : Bool = has k (waiting (store_of t b)) in
            ap (λ (i : ℕ). has k (take i list')) n ∙ s.same k (omega arith) (omega arith) ∙ has-append k (waiting (store_of t b)) (take p.waits ws)
            ∙ ap (λ (x : Bool). own || x) (v.same k (omega arith) (omega arith)) ∙ or_comm own (has k (waiting_above t p)) ∙ sym (waits-more k);
      }

-- where nothing is gathered, no key lies in the range
pub gathered-blind : (t : List ℕ) (r : Path) {list : List ℕ} → r.lo ≡ 1 → r.last ≡ 0 → r.waits ≡ 0 → WaitsGathered t r list
gathered-blind t r lo last few = record { few = omega arith; same = λ k l h. absurd (let z : ⊥ = omega arith in z) }

-- at the root nothing waits above
pub gathered-root : (t : List ℕ) (r : Path) (list : List ℕ) → above r ≡ [] → r.waits ≡ 0 → WaitsGathered t r list
gathered-root t r list e few =
    record { few = omega arith; same = λ k l h. ap (λ (i : ℕ). has k (take i list)) few ∙ sym (ap (λ (l : List ℕ). has k (waiting_by (store_of t) l)) e) }

-- ---- spots near which nothing waits

pub all-taken : (t : List ℕ) (at n : ℕ) (q : Query) (p : Path) (ws : List ℕ) → WaitsGathered t p ws → p.waits ≡ 0 → 0 < n → rising (keys_from t 12 n at) ≡ true → AllWanted t at n q
    → p.lo ≤ key_at t at → key_at t (at + 12 * (n - 1)) ≤ p.last → length (taken t at n q p) ≡ n
all-taken t at n q p ws v z some r w f l =
    ap length (keep_all (takes q (waiting_above t p)) run (every-make (takes q (waiting_above t p)) run each)) ∙ length-records (spot_at t) 12 n at
  where
    run : List Spot
    run = records (spot_at t) 12 n at

    each : (x : Spot) → Memᴰ x run → takes q (waiting_above t p) x ≡ true
    each x i =
        let m = mem-at run (spot_at t 0) i in
        let j : ℕ = m.0 in
        let k : ℕ = key_at t (at + 12 * j) in
        let h : j < n = omega (arith, m.1, length-records (spot_at t) 12 n at) in
        let o : at + 12 * 0 ≡ at = omega arith in
        let a : key_at t at ≤ k = subst (λ (y : ℕ). key_at t y ≤ k) o (run-rises t 12 n at r 0 j (omega arith) h) in
        let e : k ≤ key_at t (at + 12 * (n - 1)) = run-rises t 12 n at r j (n - 1) (omega arith) (omega arith) in
        ap (takes_key q (waiting_above t p)) (ap (λ (s : Spot). s.key) (sym m.2 ∙ records-at (spot_at t) 12 n at j (spot_at t 0) h) ∙ spot-key t (at + 12 * j))
        ∙ takes-is q (waiting_above t p) k
        ∙ ap₂ (λ (b c : Bool). b && not c) (w j h) (sym (v.same k (omega arith) (omega arith)) ∙ ap (λ (y : ℕ). has k (take y ws)) z)
