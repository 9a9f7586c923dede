-- `number::decimal_length` meets its contract: the range that a number lies in says how many digits it has, but for those that are counted.
use mathlib.Core.Path.{refl}
use native.Mathlib.Omega.{arith}
use Rattle.number.proofs.DecimalLaws.{decimal-some, decimal-least, decimal-most}
use Rattle.number.proofs.PrintLaws.{count-one, digits_between, word_digits}
use Rattle.number.proofs.decimal_length.Goals as goal

pub returns-then-value-lt100 : goal.returns-then-value-lt100
returns-then-value-lt100 c =
    let v = c.args.value in
    (rw c.reached.ensures.0 (count-one 1 v 10 (omega arith) refl (decimal-some v) (decimal-most 1 v (omega arith))), omega (arith, c.reached.ensures.1))

pub returns-then-value-lt10000 : goal.returns-then-value-lt10000
returns-then-value-lt10000 c =
    let v = c.args.value in
    (rw c.reached-then-value-lt10000.ensures.0 (count-one 3 v 1000 (omega arith) refl (decimal-least 2 v (omega arith)) (decimal-most 3 v (omega arith))), omega (arith, c.reached-then-value-lt10000.ensures.1))

pub digits_from-requires : goal.digits_from-requires
digits_from-requires c = record { fact_1 = digits_between 4 c.args.value (omega arith) (omega arith); fact_2 = (refl, omega arith, omega arith) }

pub returns-then-value-lt100000000 : goal.returns-then-value-lt100000000
returns-then-value-lt100000000 c = (c.digits_from.ensures, omega (arith, c.digits_from.ensures, word_digits c.args.value (omega arith)))

pub digits_from-requires-then-value-lt1000000000000 : goal.digits_from-requires-then-value-lt1000000000000
digits_from-requires-then-value-lt1000000000000 c = record { fact_1 = digits_between 8 c.args.value (omega arith) (omega arith); fact_2 = (refl, omega arith, omega arith) }

pub returns-then-value-lt1000000000000 : goal.returns-then-value-lt1000000000000
returns-then-value-lt1000000000000 c = (c.digits_from-then-value-lt1000000000000.ensures, omega (arith, c.digits_from-then-value-lt1000000000000.ensures, word_digits c.args.value (omega arith)))

pub digits_from-requires-then-value-lt10000000000000000 : goal.digits_from-requires-then-value-lt10000000000000000
digits_from-requires-then-value-lt10000000000000000 c = record { fact_1 = digits_between 12 c.args.value (omega arith) (omega arith); fact_2 = (refl, omega arith, omega arith) }

pub returns-then-value-lt10000000000000000 : goal.returns-then-value-lt10000000000000000
returns-then-value-lt10000000000000000 c = (c.digits_from-then-value-lt10000000000000000.ensures, omega (arith, c.digits_from-then-value-lt10000000000000000.ensures, word_digits c.args.value (omega arith)))

pub digits_from-requires-2 : goal.digits_from-requires-2
digits_from-requires-2 c = record { fact_1 = digits_between 16 c.args.value (omega arith) (omega arith); fact_2 = (refl, omega arith, omega arith) }

pub returns : goal.returns
returns c = (c.digits_from-2.ensures, omega (arith, c.digits_from-2.ensures, word_digits c.args.value (omega arith)))
