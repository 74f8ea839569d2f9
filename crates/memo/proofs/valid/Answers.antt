-- `memo::valid` meets its contract: the slot knows the answer, or the block is validated, and remembered if it keeps the rules.
use mathlib.Core.Path.{refl, sym, ◌∙◌}
use native.Mathlib.Omega.{arith}
use lib.ListN.{length}
use Rattle.memo.proofs.Remembering.{slot-low, known-found, known-put}
use Rattle.memo.proofs.valid.Goals as goal

pub offset_bounds-known-slot : goal.offset_bounds-known-slot
offset_bounds-known-slot c =
    let a = c.args in
    omega (arith, slot-low a.b (length a.known.now) c.if-slots-eq0.false)

pub returns-then-eq : goal.returns-then-eq
returns-then-eq c =
    let a = c.args in (
      known-found a.t.now a.known.now _ a.level a.b a.asked c.requires.3 c.requires.2 c.words-way.ensures c.eq.ensures c.if-eq.true,
      record { right = c.requires.3; sized = refl },
    )

pub returns-then-not-block_ok : goal.returns-then-not-block_ok
returns-then-not-block_ok c =
    (sym c.if-not-block_ok.true ∙ c.block_ok-2.ensures, record { right = c.requires.3; sized = refl })

pub offset_bounds-known-slot-2 : goal.offset_bounds-known-slot-2
offset_bounds-known-slot-2 c =
    let a = c.args in
    omega (arith, slot-low a.b (length a.known.now) c.if-slots-eq0.false)

pub bounds-known-slot : goal.bounds-known-slot
bounds-known-slot c =
    let a = c.args in
    omega (arith, slot-low a.b (length a.known.now) c.if-slots-eq0.false)

pub returns : goal.returns
returns c =
    let a = c.args in
    let ok = sym c.block_ok-2.ensures ∙ c.if-not-block_ok.false in
    (sym ok, known-put a.t.now a.known.now _ a.level a.b a.asked c.requires.3 c.requires.2 c.words-way.ensures ok)
