-- `crc::low_half` meets its contract by the rule of the tables.
use Rattle.crc.proofs.PairLaws.{pair-four}
use Rattle.crc.proofs.low_half.Goals as goal

pub returns : goal.returns
returns c =
    pair-four 16 c.args.x c.nibble.result c.nibble-2.result c.nibble-3.result c.nibble-4.result c.requires
    c.nibble.ensures
    c.nibble-2.ensures
    c.nibble-3.ensures
    c.nibble-4.ensures
