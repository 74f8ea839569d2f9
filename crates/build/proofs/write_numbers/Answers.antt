-- `build::write_numbers` meets its contract: six writes that do not meet.
use Rattle.build.proofs.Head.{numbers-are}
use Rattle.build.proofs.write_numbers.Goals as goal

pub returns : goal.returns
returns c =
    let p = c.requires in
    numbers-are _ _ _ p.1 p.2 p.3 c.args.s.now
    c.zero.new.s c.write32.new.s c.write8.new.s c.write8-2.new.s c.write16.new.s c.write32-2.new.s
    p.0 c.zero.ensures c.write32.ensures c.write8.ensures c.write8-2.ensures c.write16.ensures c.write32-2.ensures
