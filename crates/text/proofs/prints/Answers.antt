-- `text::prints` meets its contract.
use mathlib.Core.Path.{ap, ◌∙◌}
use Rattle.octets.specs.Lists.{same_list}
use Rattle.text.proofs.Written.{text_of}
use Rattle.text.proofs.Scans.{pointwise-same}
use Rattle.text.proofs.prints.Goals as goal

pub returns : goal.returns
returns c =
    let l = c.args.line.now in
    c.eq.ensures ∙ pointwise-same l _ ∙ ap (same_list l) (text_of _ _ _ 37 c.write_command-n.result c.write_command-n.ensures)
