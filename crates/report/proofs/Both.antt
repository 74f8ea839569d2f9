-- Two walks, one after the other, and the walk of block 0 alone.
-- Assumes nothing.
use mathlib.Core.Path.{◌≡◌, refl, ap₂}
use mathlib.Core.Bool.{Bool, true, false, cond, ◌||◌, true≢false}
use mathlib.Core.List.{List, [], ◌++◌, append-nil, append_assoc}
use Prim.Native.Nat.{ℕ}
use lib.ListN.{length}
use Rattle.block.specs.Header.{head_of}
use Rattle.block.specs.HeaderRules.{header_ok}
use Rattle.tree.specs.Walk.{Walk, broken, walked, is_broken, spots, blocks_read}
use Rattle.report.specs.Joined.{head_walk, both}

pub both-assoc : (u v w : Walk) → both (both u v) w ≡ both u (both v w)
both-assoc broken v w = refl
both-assoc (walked found blocks) broken w = refl
both-assoc (walked found blocks) (walked more others) broken = refl
both-assoc (walked found blocks) (walked more others) (walked last ends) = ap₂ walked (append_assoc found more last) (append_assoc blocks others ends)

pub none_both : (w : Walk) → both (walked [] []) w ≡ w
none_both broken = refl
none_both (walked found blocks) = refl

pub both-none : (w : Walk) → both w (walked [] []) ≡ w
both-none broken = refl
both-none (walked found blocks) = ap₂ walked (append-nil found) (append-nil blocks)

pub both-broken : (u v : Walk) → is_broken (both u v) ≡ is_broken u || is_broken v
both-broken broken v = refl
both-broken (walked found blocks) broken = refl
both-broken (walked found blocks) (walked more others) = refl

module _ (u v : Walk) (whole : is_broken (both u v) ≡ false) where
  pub first-whole : is_broken u ≡ false
  first-whole = go u whole
    where
      go : (w : Walk) → is_broken (both w v) ≡ false → is_broken w ≡ false
      go broken h = h
      go (walked found blocks) h = refl

  pub second-whole : is_broken v ≡ false
  second-whole = go u v whole
    where
      go : (w x : Walk) → is_broken (both w x) ≡ false → is_broken x ≡ false
      go broken x h = absurd (true≢false h)
      go (walked found blocks) broken h = h
      go (walked found blocks) (walked more others) h = refl

  pub both-spots : spots (both u v) ≡ spots u ++ spots v
  both-spots = go u v whole
    where
      go : (w x : Walk) → is_broken (both w x) ≡ false → spots (both w x) ≡ spots w ++ spots x
      go broken x h = absurd (true≢false h)
      go (walked found blocks) broken h = absurd (true≢false h)
      go (walked found blocks) (walked more others) h = refl

  pub both-blocks : blocks_read (both u v) ≡ blocks_read u ++ blocks_read v
  both-blocks = go u v whole
    where
      go : (w x : Walk) → is_broken (both w x) ≡ false → blocks_read (both w x) ≡ blocks_read w ++ blocks_read x
      go broken x h = absurd (true≢false h)
      go (walked found blocks) broken h = absurd (true≢false h)
      go (walked found blocks) (walked more others) h = refl

module _ (t : List ℕ) where
  -- block 0 alone is whole where it keeps its rules
  pub head-whole : header_ok (length t) (head_of t) ≡ true → head_walk t ≡ walked [] []
  unfolding head_walk
  head-whole h = rw h

  pub whole-head : is_broken (head_walk t) ≡ false → header_ok (length t) (head_of t) ≡ true
  unfolding head_walk
  whole-head = go (header_ok (length t) (head_of t))
    where
      go : (b : Bool) → is_broken (cond b (walked [] []) broken) ≡ false → b ≡ true
      go true h = refl
      go false h = absurd (true≢false h)
