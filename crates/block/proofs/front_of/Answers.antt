-- `block::front_of` meets its contract: the fields are those of `front_of`.
use borrow.Author.Rules.{rules}
use Rattle.octets.proofs.Bytes.{be-one}
use Rattle.block.specs.Access.{front_of}
use Rattle.block.proofs.front_of.Goals as goal

pub returns : goal.returns
unfolding front_of
returns c =
    let s = c.args.s.now in
    (cc (be-one s 2, be-one s 3, be-one s 4, be-one s 5, be-one s 6, be-one s 7), search rules)
