-- `octets::test_bit` meets its contract: it computes what `bit` does.
use mathlib.Core.Path.{refl}
use Rattle.octets.specs.Bitmap.{bit}
use Rattle.octets.proofs.test_bit.Goals as goal

pub returns : goal.returns
unfolding bit
returns c = refl
