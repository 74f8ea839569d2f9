-- What pick hands down, put together from its calls.
-- Assumes nothing.
use mathlib.Core.Path.{◌≡◌, refl, sym, ap, subst, ◌∙◌}
use mathlib.Core.Bool.{true}
use mathlib.Core.List.Memᴰ
use mathlib.Core.List.{List, [], ◌++◌, Memᴰ}
use Prim.Native.Nat.{ℕ, suc, ◌+◌, ◌-◌, ◌*◌, ◌/◌, ◌≤◌, ◌<◌}
use native.Mathlib.Nat.{mul-le-mul_right}
use native.Mathlib.Numerals.{add-one}
use native.Mathlib.Omega.{arith}
use lib.ListN.{length, take, drop}
use Rattle.octets.specs.Lists.{rest, rising}
use Rattle.spot.specs.declared.Spot.{Spot}
use Rattle.spot.specs.Spots.{keys}
use Rattle.block.specs.NodeRules.{lows}
use Rattle.buffer.specs.declared.SpotBuffer.{SpotBuffer}
use Rattle.buffer.specs.declared.KeyBuffer.{KeyBuffer}
use Rattle.buffer.specs.Buffer.{held, named, Ordered, OrderedKeys, blank}
use Rattle.buffer.proofs.Keyed.{spots, plain}
use Rattle.node.specs.Memory.{entries_of}
use Rattle.node.specs.declared.NodeValue.{NodeValue}
use Rattle.edit.specs.Edits.{Tidy}
use Rattle.edit.proofs.Buffered.{same-held}
use Rattle.choose.specs.Choices.{Fullest, start_at, end_at}
use Rattle.choose.proofs.Shares.{start-end, end-le, fullest-mean}
use Rattle.batch.specs.Batches.{Bound, Parted, Picking}
use Rattle.batch.proofs.Parts.{Cut, cut_of, part-for}

-- the share of one child among m keys, in order
pub record Share (n : NodeValue) (ks : List ℕ) (m c start end : ℕ) : Type 0 where
  pub there : c < n.entries.n
  pub order : start ≤ end
  pub inside : end ≤ m
  pub at-start : start ≡ start_at (entries_of n.entries) ks c
  pub at-end : end ≡ end_at (entries_of n.entries) ks m (suc c)
  pub eighth : (m + 7) / 8 ≤ end - start

module _ (n : NodeValue) (up : rising (rest (lows (entries_of n.entries))) ≡ true) (count : length (entries_of n.entries) ≡ n.entries.n) (eight : n.entries.n ≤ 8) where
  pub share-of : (ks : List ℕ) (m c start end : ℕ) → m ≡ length ks → Fullest (entries_of n.entries) ks m c → start ≡ start_at (entries_of n.entries) ks c
      → end ≡ end_at (entries_of n.entries) ks m (c + 1) → Share n ks m c start end
  share-of ks m c start end e f a b =
      let es = entries_of n.entries in
      let d : end ≡ end_at es ks m (suc c) = b ∙ ap (end_at es ks m) (add-one c) in
      record {
        there = omega (arith, f.there);
        order = omega (arith, start-end es ks m up e c);
        inside = omega (arith, end-le es ks m up e (suc c));
        at-start = a;
        at-end = d;
        eighth =
            let z : m ≤ length es * (end - start) = rw (a, d) (fullest-mean es ks m up e c f) in
            let y : length es * (end - start) ≤ 8 * (end - start) = mul-le-mul_right (end - start) (omega arith) in
            omega arith;
      }

  module _ (tidy : Tidy n) (c start end want stop : ℕ) (few : want ≤ 16) (b : Bound start end want stop) where
    pub picked-inserts : (down stay : SpotBuffer) (none : KeyBuffer) → length (held n.inserts) ≡ n.inserts.n → Share n (keys (held n.inserts)) n.inserts.n c start end
        → want ≡ (n.inserts.n + 7) / 8 → 64 < n.inserts.n → down.n ≡ stop - start → held down ≡ take (stop - start) (drop start (held n.inserts))
        → stay.n ≡ n.inserts.n - (stop - start) → held stay ≡ take start (held n.inserts) ++ drop stop (held n.inserts) → Ordered stay
        → none.n ≡ 0 → named none ≡ []
        → Picking n (record { child = c; node = record { level = n.level; entries = n.entries; points = n.points; inserts = stay; deletes = n.deletes }; inserts = down; deletes = none })
    picked-inserts down stay none long s wanted over dn d sn e o zn z =
        let I = held n.inserts in
        let k : Cut spots I tidy.inserts.up start stop = cut_of spots I tidy.inserts.up start stop b.from (omega (arith, b.to, s.inside)) in
        record {
          there = s.there;
          parted = Parted.by_inserts k.stay (d ∙ k.goes) z (same-held refl (e ∙ k.stays) refl);
          for_i = λ j i.
              part-for spots I tidy.inserts.up (entries_of n.entries) n.inserts.n c start stop blank up (sym long) (omega (arith, s.there)) s.at-start b.from
              (omega (arith, b.to, s.at-end)) (omega (arith, b.to, s.inside)) (subst (λ (l : List Spot). Memᴰ j (keys l)) d i);
          for_d = λ j i. absurd (Memᴰ.not-nil (subst (λ (l : List ℕ). Memᴰ j l) z i));
          tidy = record { points = tidy.points; inserts = o; deletes = tidy.deletes };
          entries = refl;
          level = refl;
          points = refl;
          most_i = omega arith;
          most_d = omega arith;
          few_i = omega (arith, b.most);
          few_d = omega arith;
          whole_i = omega (arith, b.to, s.inside);
          whole_d = omega arith;
          eighth_i = λ h. omega (arith, b.exact (omega (arith, s.eighth, s.order)));
          eighth_d = λ h. absurd (omega arith);
        }

    pub picked-deletes : (down stay : KeyBuffer) (none : SpotBuffer) → length (named n.deletes) ≡ n.deletes.n → Share n (named n.deletes) n.deletes.n c start end
        → want ≡ (n.deletes.n + 7) / 8 → n.inserts.n ≤ 64 → down.n ≡ stop - start → named down ≡ take (stop - start) (drop start (named n.deletes))
        → stay.n ≡ n.deletes.n - (stop - start) → named stay ≡ take start (named n.deletes) ++ drop stop (named n.deletes) → OrderedKeys stay
        → none.n ≡ 0 → held none ≡ []
        → Picking n (record { child = c; node = record { level = n.level; entries = n.entries; points = n.points; inserts = n.inserts; deletes = stay }; inserts = none; deletes = down })
    picked-deletes down stay none long s wanted over dn d sn e o zn z =
        let D = named n.deletes in
        let k : Cut plain D tidy.deletes.up start stop = cut_of plain D tidy.deletes.up start stop b.from (omega (arith, b.to, s.inside)) in
        record {
          there = s.there;
          parted = Parted.by_deletes k.stay (d ∙ k.goes) z (same-held refl refl (e ∙ k.stays));
          for_i = λ j i. absurd (Memᴰ.not-nil (subst (λ (l : List Spot). Memᴰ j (keys l)) z i));
          for_d = λ j i.
              part-for plain D tidy.deletes.up (entries_of n.entries) n.deletes.n c start stop 0 up (sym long) (omega (arith, s.there)) s.at-start b.from
              (omega (arith, b.to, s.at-end)) (omega (arith, b.to, s.inside)) (subst (λ (l : List ℕ). Memᴰ j l) d i);
          tidy = record { points = tidy.points; inserts = tidy.inserts; deletes = o };
          entries = refl;
          level = refl;
          points = refl;
          most_i = omega arith;
          most_d = omega arith;
          few_i = omega arith;
          few_d = omega (arith, b.most);
          whole_i = omega arith;
          whole_d = omega (arith, b.to, s.inside);
          eighth_i = λ h. absurd (omega arith);
          eighth_d = λ h. omega (arith, b.exact (omega (arith, s.eighth, s.order)));
        }
