-- The numbers of an input.
use Rattle.std.specs.Prelude.{ℕ, cond, List, Option, None}
use Rattle.std.specs.Result.{result_ok}
use Rattle.slices.specs.Cut.{has, before}
use Rattle.number.specs.Decimal.{decimal_up_to}

-- the number before the first stop, if it is plain decimal of at most `most`
abbrev pub number_before : ℕ → ℕ → List ℕ → Option ℕ
number_before stop most bs = cond (has stop bs) (result_ok (decimal_up_to most (before stop bs))) None
