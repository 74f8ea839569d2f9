-- `plan::fused` meets its contract.
use mathlib.Core.Path.{◌≡◌, ap, ap₂, ◌∙◌}
use mathlib.Core.List.{List}
use Prim.Native.Nat.{ℕ, ◌+◌}
use borrow.Author.Rules.{rules}
use lib.ListN.{get_or, set}
use Rattle.spot.specs.Keys.{rank_key}
use Rattle.plan.specs.declared.Piece.{Piece}
use Rattle.plan.specs.Plans.{piece_at, ended_at, fused_piece}
use Rattle.plan.proofs.fused.Goals as goal

pub returns : goal.returns
returns c =
    let s = c.args in
    let a = get_or s.plan.order s.i 0 in
    let b = get_or s.plan.order (s.i + 1) 0 in
    let new = fused_piece (piece_at s.plan s.i) (piece_at s.plan (s.i + 1)) s.r in
    let key : c.rank_key-key.result ≡ rank_key s.r = c.rank_key-key.ensures in
    let first : c.ended_at.result ≡ ended_at s.plan.pieces a (rank_key s.r) =
    c.ended_at.ensures ∙ ap (λ (k : ℕ). ended_at s.plan.pieces a k) key in
    record {
      count = search rules;
      stands = search rules;
      room = search rules;
      blocks =
          ap (λ (l : List Piece). set l s.plan.count new)
          (c.ended_at-pieces.ensures ∙ ap₂ (λ (l : List Piece) (k : ℕ). ended_at l b k) first key);
      standing = search rules;
    }
