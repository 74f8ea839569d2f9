-- What many ranges in one call read and find: request 2026-01.
-- Assumes nothing.
use Rattle.std.specs.Prelude.{ℕ, cond, List, [], ◌∷◌, ◌++◌, length}
use Rattle.block.specs.Header.{head_of}
use Rattle.block.specs.HeaderRules.{header_ok}
use Rattle.tree.specs.Walk.{Walk, broken, walked, spots}
use Rattle.tree.specs.Report.{report_table}
use Rattle.ranges.specs.Ranges.{count_each}
use Rattle.ranges.specs.declared.Range.{Range}

-- block 0 alone is read
unfoldable pub head_walk : List ℕ → Walk
head_walk t = cond (header_ok (length t) (head_of t)) (walked [] []) broken

-- one walk and then another: broken if one of them is, with the spots of both in turn and the blocks of both. A block that both read is not read twice by one.
abbrev pub both : Walk → Walk → Walk
both broken v = broken
both (walked found blocks) broken = broken
both (walked found blocks) (walked more others) = walked (found ++ more) (blocks ++ others)

-- the single report of a range
abbrev pub report_of : List ℕ → Range → Walk
report_of t r = report_table t r.x1 r.x2 r.y

-- "the spots to the output, in the order handed in, as the single reports give them. The marks are block 0 and the union of the single reports' marks"; with no
-- ranges block 0 is read
abbrev pub joined : List ℕ → List Range → Walk
joined t [] = head_walk t
joined t (r ∷ rs) = both (report_of t r) (joined t rs)

-- "The counts go to a lent list of 32-bit numbers, one a range"
abbrev pub counts_of : List ℕ → List Range → List ℕ
counts_of t rs = count_each (λ r. spots (report_of t r)) rs
