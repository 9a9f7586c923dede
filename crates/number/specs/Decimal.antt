-- Plain decimal, both ways. Document 01: "Decimal without leading zeros", "Plain decimal has a digit and no leading zero
-- but "0" itself".
use Rattle.std.specs.Prelude.{ℕ, zero, suc, ◌+◌, ◌*◌, ◌-◌, ◌/◌, ◌%◌, Bool, true, false, ◌&&◌, not, cond, List, [], ◌∷◌, ◌++◌, leb, ltb, eqb, Result, Ok, Err}
use Rattle.slices.specs.Tests.{every}
use Rattle.number.specs.declared.DecimalError.TheVariants.{NotPlain, Above}
use Rattle.number.specs.declared.DecimalError.{DecimalError}

-- ---- writing

-- the digits of n: at most `fuel` of them before the last, and `fuel` = n is enough
abbrev pub digits_of : ℕ → ℕ → List ℕ
digits_of zero n = (48 + n) ∷ []
digits_of (suc fuel) n =
    elim (ltb n 10) [ true ↦ (48 + n) ∷ [] | false ↦ digits_of fuel (n / 10) ++ ((48 + n % 10) ∷ []) ]

-- decimal without leading zeros
unfoldable pub decimal : ℕ → List ℕ
decimal n = digits_of n n

-- a number below 100 as two digits, the first of which may be 0
abbrev pub two_digits : ℕ → List ℕ
two_digits n = (48 + n / 10) ∷ (48 + n % 10) ∷ []

-- ---- reading

abbrev pub is_digit : ℕ → Bool
is_digit b = leb 48 b && leb b 57

abbrev pub all_digits : List ℕ → Bool
all_digits bs = every is_digit bs

-- a digit, and no leading zero but "0" itself
abbrev pub no_leading_zero : List ℕ → Bool
no_leading_zero [] = false
no_leading_zero (b ∷ []) = true
no_leading_zero (b ∷ c ∷ bs) = not (eqb b 48)

-- document 01's "plain decimal"
unfoldable pub plain_decimal : List ℕ → Bool
plain_decimal bs = all_digits bs && no_leading_zero bs

-- what digits say after a number that was read before them
abbrev pub value_from : ℕ → List ℕ → ℕ
value_from n [] = n
value_from n (b ∷ bs) = value_from (n * 10 + (b - 48)) bs

unfoldable pub value : List ℕ → ℕ
value bs = value_from 0 bs

-- the number, if it is plain decimal and at most `most`
unfoldable pub decimal_up_to : ℕ → List ℕ → Result ℕ DecimalError
decimal_up_to most bs = cond (plain_decimal bs) (cond (leb (value bs) most) (Ok (value bs)) (Err Above)) (Err NotPlain)
