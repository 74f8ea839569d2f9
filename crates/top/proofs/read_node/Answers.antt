-- `top::read_node` meets its contract: read before, a rule broken, or added to the frontier.
use mathlib.Core.Bool.{false≢true}
use mathlib.Core.Logic.{inl, inr}
use mathlib.Core.Path.{◌≡◌, sym, subst, ◌∙◌}
use Rattle.top.specs.Runs.{Added}
use Rattle.top.proofs.read_node.Goals as goal

pub returns-then-test_bit : goal.returns-then-test_bit
returns-then-test_bit c =
    record {
      broken = λ e. inl (sym c.test_bit.ensures ∙ c.if-test_bit.true);
      new = λ e. absurd (false≢true e);
      valid = λ e. absurd (false≢true e);
      marked = λ e. absurd (false≢true e);
      added = λ z' e. let y : ⊥ = cc in absurd y;
    }

pub returns-then-not-block_ok : goal.returns-then-not-block_ok
returns-then-not-block_ok c =
    record {
      broken = λ e. inr (sym c.block_ok.ensures ∙ c.if-not-block_ok.true);
      new = λ e. absurd (false≢true e);
      valid = λ e. absurd (false≢true e);
      marked = λ e. absurd (false≢true e);
      added = λ z' e. let y : ⊥ = cc in absurd y;
    }

pub returns : goal.returns
returns c =
    let a = c.args in
    record {
      broken = λ e. let y : ⊥ = cc in absurd y;
      new = λ e. sym c.test_bit.ensures ∙ c.if-test_bit.false;
      valid = λ e. sym c.block_ok.ensures ∙ c.if-not-block_ok.false;
      marked = λ e. c.set_bit.ensures;
      added = λ z' e. let y : c.join.result ≡ z' = cc in subst (λ z. Added a.t.now a.q a.rows.now c.join.new.rows a.kids.now c.join.new.kids a.heads.now c.join.new.heads a.z z a.place a.up) y c.join.ensures;
    }
