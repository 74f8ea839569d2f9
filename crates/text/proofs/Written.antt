-- One text behind another.
-- Assumes nothing.
use mathlib.Core.Path.{◌≡◌, refl, sym, ap, subst, ◌∙◌}
use mathlib.Core.List.{List, [], ◌∷◌, ◌++◌}
use Prim.Native.Nat.{ℕ, ◌+◌, ◌≤◌}
use native.Mathlib.Omega.{arith}
use native.Mathlib.Numerals.{add-one}
use lib.ListN.{length, take, drop, set, length-append, length-set}
use lib.Seq.{take_at, set_split, append_snoc}
use Rattle.octets.specs.Bytes.{put_bytes}
use Rattle.octets.proofs.Parts.{bytes-behind}
use Rattle.text.specs.Written.{Wrote}

-- the bytes from 0 up to the end of the text are the text
pub text_of : (s s' xs : List ℕ) (most r : ℕ) → Wrote s s' 0 most xs r → take r s' ≡ xs
unfolding put_bytes
text_of s s' xs most r w = ap (take r) w.bytes ∙ take_at xs (drop (0 + length xs) s) r (omega (arith, w.behind))

-- a text written and then another right behind it
pub wrote_then : {s t u : List ℕ} {at p q m n : ℕ} {xs ys : List ℕ} → Wrote s t at m xs p → Wrote t u p n ys q → Wrote s u at (m + n) (xs ++ ys) q
wrote_then {s} {t} {u} {at} {p} {q} {m} {n} {xs} {ys} a b =
    record {
      bytes = bytes-behind s xs ys at p (sym a.behind) a.inside a.bytes b.bytes;
      behind = omega (arith, a.behind, b.behind, length-append xs ys);
      near = omega (arith, a.near, b.near);
      inside = omega (arith, b.inside, a.sized);
      sized = b.sized ∙ a.sized;
    }

-- the same text under another name, with just the room it took
pub wrote-exact : {s t : List ℕ} {at p m : ℕ} {xs : List ℕ} (ys : List ℕ) → xs ≡ ys → Wrote s t at m xs p → Wrote s t at (length ys) ys p
wrote-exact {s} {t} {at} {p} {m} {xs} ys e w =
    let v : Wrote s t at m ys p = subst (λ (l : List ℕ). Wrote s t at m l p) e w in
    record { bytes = v.bytes; behind = v.behind; near = omega (arith, v.behind); inside = v.inside; sized = v.sized }

-- the same text under another name, with more room than it took
pub wrote-within : {s t : List ℕ} {at p m : ℕ} {xs : List ℕ} (k : ℕ) (ys : List ℕ) → m ≤ k → xs ≡ ys → Wrote s t at m xs p → Wrote s t at k ys p
wrote-within {s} {t} {at} {p} {m} k ys h e w =
    let v : Wrote s t at m ys p = subst (λ (l : List ℕ). Wrote s t at m l p) e w in
    record { bytes = v.bytes; behind = v.behind; near = omega (arith, v.near); inside = v.inside; sized = v.sized }

-- one byte
pub wrote-byte : (s : List ℕ) (at b : ℕ) → at + 1 ≤ length s → Wrote s (set s at b) at 1 (b ∷ []) (at + 1)
unfolding put_bytes
wrote-byte s at b h =
    record {
      bytes =
          set_split s at b (omega arith)
          ∙ ap (λ (n : ℕ). take at s ++ (b ∷ drop n s)) (sym (add-one at))
          ∙ sym (append_snoc (take at s) b (drop (at + 1) s));
      behind = omega arith;
      near = omega arith;
      inside = omega arith;
      sized = length-set s at b;
    }

-- nothing
pub wrote_none : (s : List ℕ) (m : ℕ) → Wrote s s 0 m [] 0
unfolding put_bytes
wrote_none s m = record { bytes = refl; behind = refl; near = omega arith; inside = omega arith; sized = refl }
