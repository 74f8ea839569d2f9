-- `press::pressable` meets its contract.
use mathlib.Core.Path.{sym, ap, ◌∙◌}
use mathlib.Core.Bool.{Bool, ◌&&◌}
use Prim.Native.Nat.{◌%◌}
use lib.ListN.{length}
use lib.Dec.{leb, eqb}
use Rattle.octets.specs.Lists.{rising}
use Rattle.spot.specs.Spots.{keys_from}
use Rattle.block.proofs.Shut.{all3}
use Rattle.press.specs.Press.{count_given, pressable}
use Rattle.press.proofs.pressable.Goals as goal

pub returns : goal.returns
unfolding pressable
returns c =
    let s = c.args.spots.now in
    ap (λ (b : Bool). (leb (count_given s) 512 && eqb (length s % 12) 0) && b) c.rises.ensures
    ∙ sym (all3 (leb (count_given s) 512) (eqb (length s % 12) 0) (rising (keys_from s 12 (count_given s) 0)))
