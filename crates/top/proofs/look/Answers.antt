-- `top::look` meets its contract: block 0, the root, and then the sweep.
use mathlib.Core.Path.{refl, sym, ◌∙◌}
use native.Mathlib.Omega.{arith}
use Rattle.visit.proofs.Roots.{sized-long}
use Rattle.top.proofs.Sweeps.{err-was, head-stuck, root-reads, root-stuck, root-swept, root-allowed, ok-was, searched-broken}
use Rattle.top.proofs.look.Goals as goal

pub header_ok-requires : goal.header_ok-requires
header_ok-requires c = sized-long c.args.t.now c.requires.sized

pub returns-then-not-header_ok : goal.returns-then-not-header_ok
returns-then-not-header_ok c =
    let a = c.args in
    searched-broken refl (λ y1 y2 e. head-stuck a.t.now y1 y2 a.k a.most (sym c.header_ok.ensures ∙ c.if-not-header_ok.true))

pub read_node-requires : goal.read_node-requires
read_node-requires c = root-reads c.requires (sym c.header_ok.ensures ∙ c.if-not-header_ok.false) c.root_place-root.ensures

pub returns-in_err-sizes : goal.returns-in_err-sizes
returns-in_err-sizes c =
    let valid = sym c.header_ok.ensures ∙ c.if-not-header_ok.false in
    let e = err-was _ _ c.ok_or.ensures.value c.in_err-sizes.was _ c.from_residual.ensures.1 in
    rw e.1 (searched-broken refl (root-stuck c.requires valid c.root_place-root.ensures c.read_node.ensures e.0))

pub sweep-requires : goal.sweep-requires
sweep-requires c =
    let p = c.requires in
    let valid = sym c.header_ok.ensures ∙ c.if-not-header_ok.false in
    let read = c.read_node in
    let ok = ok-was _ _ c.ok_or.ensures.value c.in_ok-sizes.was in
    let rows = read.auto.rows in
    record {
      x1 = p.x1;
      x2 = p.x2;
      asks = p.asks;
      fits = p.fits;
      few = omega (arith, rows, p.few);
      kid_rows = read.auto.kids ∙ p.kid_rows ∙ sym rows;
      head_rows = read.auto.heads ∙ p.head_rows ∙ sym rows;
      allowed = root-allowed p valid c.root_place-root.ensures read.ensures ok;
      begun = root-swept p valid c.root_place-root.ensures read.ensures ok;
    }
