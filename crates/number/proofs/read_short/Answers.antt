-- `number::read_short` meets its contract: what is left, after what was read, says what the whole says.
use native.Mathlib.Omega.{arith}
use lib.ListN.{get_or}
use Rattle.number.proofs.ReadLaws.{Digit, digit-told, short_begin, short-room}
use Rattle.number.proofs.read_short.Goals.{Else-not-is_digit}
use Rattle.number.proofs.read_short.Goals as goal

digit : (c : Else-not-is_digit)
    → Digit (get_or c.args.s.now c.loop-b.b-index 0)
digit c = digit-told c.is_digit.ensures c.if-not-is_digit.false-raw

pub loop-b-init : goal.loop-b-init
loop-b-init c = short_begin c.requires.0 c.requires.1

pub overflow_mul-n : goal.overflow_mul-n
overflow_mul-n c = omega (arith, short-room c.loop-b.invariant (omega arith))

pub overflow_add-n : goal.overflow_add-n
overflow_add-n c = omega (arith, digit (goal.at.overflow_add-n c).Else-not-is_digit, short-room c.loop-b.invariant (omega arith))
