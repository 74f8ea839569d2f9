-- `vectors::batches::asked` meets its contract: the call is lent the front of the output.
use Rattle.std.proofs.Common.{◌≡◌, ℕ, ◌<◌, ◌≤◌, List, length, take, replicate, sym, refl, ⊎_elim, arith, length-take-le, rules}
use lib.ListN.{length-replicate}
use Rattle.octets.proofs.Order.{less-or-not}
use Rattle.std.proofs.Math.Path.{subst⁻¹}
use Rattle.block.specs.Answers.{answer_of}
use Rattle.block.specs.declared.Answer.{Answer}
use Rattle.buffer.proofs.Lists.{length-image}
use Rattle.ranges.specs.Ranges.{no_range}
use Rattle.ranges.specs.declared.Batch.{Batch}
use Rattle.table.specs.Queries.{GivenInside}
use Rattle.table.proofs.Given.{many-inside, inside-longer}
use Rattle.many.specs.Many.{ManyOf}
use Rattle.vectors.proofs.batches.asked.Goals as goal
use Rattle.vectors.proofs.batches.asked.Goals.{Start}

-- a batch of any number has ranges, or is of too many
batch-inside : (b : Batch) (t counts out map : List ℕ) (r : Answer) (counts' out'' map' : List ℕ) → length b.all ≡ 64
    → ManyOf b t counts out map r counts' out'' map'
    → GivenInside r out''
batch-inside b t counts out map r counts' out'' map' l p =
    ⊎_elim
    (λ (h : b.n ≤ 64).
    let few : b.n ≤ length b.all = omega arith in
    many-inside (take b.n b.all) t counts out map r counts' out'' map'
    (p (take b.n b.all) (record { count = sym (length-take-le b.n b.all few); all = λ _. refl })))
    (λ (h : 64 < b.n).
    many-inside (replicate b.n no_range) t counts out map r counts' out'' map'
    (p (replicate b.n no_range) (record { count = sym (length-replicate b.n no_range); all = λ g. let z : ⊥ = omega arith in absurd z })))
    (less-or-not b.n 64)

-- what holds of an answer, of one that is the same
inside-as : (r a : Answer) (out : List ℕ) → r ≡ a → GivenInside a out → GivenInside r out
inside-as r a out e = subst⁻¹ (λ (x : Answer). GivenInside x out) e

long : (c : Start) → length c.args.b.all ≡ 64
long c = search (rules, length-image)

pub returns : goal.returns
returns c =
    let call = c.report_batch-reported in
    let r = answer_of call.result in
    inside-as c.answer_of.result r _ c.answer_of.ensures
    (inside-longer r _ _ (batch-inside c.args.b _ _ _ _ r _ _ _ (long (goal.at.returns c).Start) call.ensures))
