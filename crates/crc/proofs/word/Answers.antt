-- `crc::word` meets its contract: its two halves go apart.
use mathlib.Core.Path.{sym, ap₂, ◌∙◌}
use native.Mathlib.Omega.{arith}
use lib.Bits.{bit_xor}
use Rattle.crc.proofs.PairLaws.{pair_apart}
use Rattle.crc.proofs.word.Goals as goal

pub returns : goal.returns
returns c =
    let a = c.args in
    ap₂ bit_xor c.low_half.ensures c.high_half.ensures ∙ sym (pair_apart 16 16 a.x (omega arith) (omega arith))
