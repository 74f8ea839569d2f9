-- `node::U64Laid::write` meets its contract.
use mathlib.Core.Path.{◌∙◌}
use borrow.Author.Rules.{rules}
use Rattle.spot.proofs.PutBytes.{key-bytes}
use Rattle.node.proofs.Fits.{key_fits_lem}
use Rattle.node.proofs.U64Laid.write.Goals as goal

pub returns : goal.returns
returns c = (c.write_key.ensures ∙ key-bytes c.args.s.now c.args.at c.args.self c.requires, key_fits_lem c.args.self (search rules))
