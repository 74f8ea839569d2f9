-- `node::SpotSpotLaid::write` meets its contract.
use mathlib.Core.Path.{◌∙◌}
use borrow.Author.Rules.{rules}
use Rattle.spot.proofs.PutBytes.{spot-bytes}
use Rattle.node.proofs.Fits.{spot-fits}
use Rattle.node.proofs.SpotSpotLaid.write.Goals as goal

pub returns : goal.returns
returns c = (c.write_spot.ensures ∙ spot-bytes c.args.s.now c.args.at c.args.self c.requires, spot-fits c.args.self (search rules) (search rules))
