-- `memo::words` meets its contract: by the variant.
use mathlib.Core.Path.{sym, ap}
use Rattle.memo.specs.Known.{words_of}
use Rattle.memo.proofs.words.Goals as goal

pub returns-in-Root : goal.returns-in-Root
returns-in-Root c = sym (ap (words_of c.args.level) c.in-Root.is)

pub returns-in-Child : goal.returns-in-Child
returns-in-Child c = sym (ap (words_of c.args.level) c.in-Child.is)
