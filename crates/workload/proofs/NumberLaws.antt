-- The number before the first stop, by the place where that stands.
use Rattle.std.proofs.Common.{◌≡◌, ℕ, ◌≤◌, Bool, true, false, cond, List, length, take, drop, suc, Option, Some, None, Result, Ok, Err, refl, sym, ◌∙◌, ap, arith}
use Rattle.std.specs.Prelude.{leb}
use Rattle.std.proofs.lemmas.Bool.{leb-true}
use Rattle.std.specs.Result.{result_ok}
use Rattle.slices.specs.Cut.{has, before, after, place}
use Rattle.slices.proofs.CutLaws.{before-take, after-drop}
use Rattle.number.specs.declared.DecimalError.{DecimalError}
use Rattle.number.specs.declared.DecimalError.TheVariants.{NotPlain, Above}
use Rattle.number.specs.Decimal.{plain_decimal, value, decimal_up_to}
use Rattle.workload.specs.Numbers.{number_before}

module _ (stop : ℕ) (s : List ℕ) (at : ℕ) (found : place stop s ≡ Some at) where
  -- it is what is read of the bytes before the place
  pub number-at : (most : ℕ) (front : List ℕ) (read : Result ℕ DecimalError) (number : Option ℕ)
      → front ≡ take at s → read ≡ decimal_up_to most front → number ≡ result_ok read → number ≡ number_before stop most s
  number-at most front read number f r n = n ∙ ap result_ok r ∙ ap (λ (bs : List ℕ). result_ok (decimal_up_to most bs)) f ∙ sym (go (has stop s) found)
    where
      go : (t : Bool) → cond t (Some (length (before stop s))) None ≡ Some at
          → cond t (result_ok (decimal_up_to most (before stop s))) None ≡ result_ok (decimal_up_to most (take at s))
      go true e = let k : length (before stop s) ≡ at = cc in rw (← k) (rw before-take refl)
      go false e = cc

  -- what stands past the place
  pub past-at : drop (suc at) s ≡ after stop s
  past-at = go (has stop s) found
    where
      go : (t : Bool) → cond t (Some (length (before stop s))) None ≡ Some at → drop (suc at) s ≡ after stop s
      go true e = let k : length (before stop s) ≡ at = cc in rw (← k) (after-drop stop s)
      go false e = cc

-- it is no larger than was asked for
pub read-most : (most n : ℕ) (bs : List ℕ) (read : Result ℕ DecimalError) → read ≡ decimal_up_to most bs → result_ok read ≡ Some n → n ≤ most
unfolding decimal_up_to
read-most most n bs read r o = go (plain_decimal bs) (leb (value bs) most) refl (sym (ap result_ok r) ∙ o)
  where
    go : (p q : Bool) → leb (value bs) most ≡ q → result_ok (cond p (cond q (Ok (value bs)) (Err Above)) (Err NotPlain)) ≡ Some n → n ≤ most
    go true true e h = let k : value bs ≡ n = cc in omega (arith, leb-true (value bs) most e, k)
    go true false e h = cc
    go false q e h = cc
