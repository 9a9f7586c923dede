-- `number::read_long` meets its contract: what is left, after what was read, says what the whole says.
use native.Mathlib.Omega.{arith}
use mathlib.Core.Path.{◌∙◌}
use lib.ListN.{get_or}
use Rattle.number.proofs.ReadLaws.{Digit, digit-told, read_begin, read-over, above-part}
use Rattle.number.proofs.read_long.Goals.{Else-not-is_digit}
use Rattle.number.proofs.read_long.Goals as goal

digit : (c : Else-not-is_digit)
    → Digit (get_or c.args.s.now c.loop-i.i 0)
digit c = digit-told c.is_digit.ensures c.if-not-is_digit.false-raw

pub loop-i-init : goal.loop-i-init
loop-i-init c = (read_begin c.requires, omega arith)

pub returns-then-tenth-n : goal.returns-then-tenth-n
returns-then-tenth-n c =
    c.above.ensures
    ∙ above-part c.args.s.now c.loop-i.i
    ∙ read-over c.loop-i.invariant.0 (omega arith) (digit (goal.at.returns-then-tenth-n c).Else-not-is_digit) (omega arith)

pub returns-then-most-n : goal.returns-then-most-n
returns-then-most-n c =
    c.above-then-most-n.ensures
    ∙ above-part c.args.s.now c.loop-i.i
    ∙ read-over c.loop-i.invariant.0 (omega arith) (digit (goal.at.returns-then-most-n c).Else-not-is_digit) (omega arith)
