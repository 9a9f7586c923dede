-- The definitions computed at the values where a slip would show.
use Rattle.std.specs.Prelude.{Some, None, Ok, Err}
use Prim.Native.Nat.{ℕ, ◌-◌, ◌^◌}
use mathlib.Core.Path.{◌≡◌, refl}
use mathlib.Core.List.{List, [], ◌∷◌}
use Rattle.number.specs.Decimal.{plain_decimal, value, decimal, decimal_up_to}
use Rattle.number.specs.LittleEndian.{little_endian, loaded}
use Rattle.number.specs.declared.DecimalError.TheVariants.{NotPlain, Above}

zero-printed : decimal 0 ≡ 48 ∷ []
unfolding decimal
zero-printed = refl

ten_printed : decimal 10 ≡ 49 ∷ 48 ∷ []
unfolding decimal
ten_printed = refl

-- "18446744073709551615", and its last digit one up
abbrev word_most : ℕ → List ℕ
word_most last = 49 ∷ 56 ∷ 52 ∷ 52 ∷ 54 ∷ 55 ∷ 52 ∷ 52 ∷ 48 ∷ 55 ∷ 51 ∷ 55 ∷ 48 ∷ 57 ∷ 53 ∷ 53 ∷ 49 ∷ 54 ∷ 49 ∷ last ∷ []

word_printed : decimal (2 ^ 64 - 1) ≡ word_most 53
unfolding decimal
word_printed = refl

word_read : decimal_up_to (2 ^ 64 - 1) (word_most 53) ≡ Ok (2 ^ 64 - 1)
unfolding decimal_up_to plain_decimal value
word_read = refl

above_word : decimal_up_to (2 ^ 64 - 1) (word_most 54) ≡ Err Above
unfolding decimal_up_to plain_decimal value
above_word = refl

-- "0", "007", nothing, and "2048x", where the bytes win over the bound
zero-read : decimal_up_to 2047 (48 ∷ []) ≡ Ok 0
unfolding decimal_up_to plain_decimal value
zero-read = refl

leading_zeros : decimal_up_to 2047 (48 ∷ 48 ∷ 55 ∷ []) ≡ Err NotPlain
unfolding decimal_up_to plain_decimal
leading_zeros = refl

nothing_read : decimal_up_to 2047 [] ≡ Err NotPlain
unfolding decimal_up_to plain_decimal
nothing_read = refl

no_digit-behind : decimal_up_to 2047 (50 ∷ 48 ∷ 52 ∷ 56 ∷ 120 ∷ []) ≡ Err NotPlain
unfolding decimal_up_to plain_decimal
no_digit-behind = refl

low-byte-first : little_endian 2 258 ≡ 2 ∷ 1 ∷ []
low-byte-first = refl

loaded_again : loaded 2 (9 ∷ 2 ∷ 1 ∷ []) 1 ≡ Some 258
unfolding loaded
loaded_again = refl

past_the_end : loaded 2 (9 ∷ 2 ∷ 1 ∷ []) 2 ≡ None
unfolding loaded
past_the_end = refl
