-- The hundred pairs of digits one behind the other, and their rule as one computed test.
use Prim.Native.Nat.{ℕ, ◌+◌, ◌*◌, ◌/◌, ◌%◌, ◌≤◌, ◌<◌}
use mathlib.Core.Path.{◌≡◌, refl, ap₂, ◌∙◌}
use mathlib.Core.Bool.{Bool, true, ◌&&◌}
use mathlib.Core.List.{List, ◌++◌}
use native.Mathlib.Numerals.{add-one}
use lib.Dec.{eqb}
use lib.ListN.{length, get_or, set}
use borrow.Author.Tests.{eqb-true}
use Rattle.slices.specs.Put.{put}
use Rattle.slices.specs.Quoted.{quoted}
use Rattle.slices.proofs.Bools.{and_left, and_right}
use Rattle.slices.proofs.PutLaws.{sets-put}
use Rattle.slices.proofs.Tables.{below}
use Rattle.number.specs.Decimal.{two_digits}

unfoldable pub pairs : List ℕ
pairs =
    quoted "0001020304050607080910111213141516171819202122232425262728293031323334353637383940414243444546474849"
    ++ quoted "5051525354555657585960616263646566676869707172737475767778798081828384858687888990919293949596979899"

unfoldable right : ℕ → Bool
right n = eqb (get_or pairs (2 * n) 0) (48 + n / 10) && eqb (get_or pairs (2 * n + 1) 0) (48 + n % 10)

pub put-pair : (n : ℕ) (out : List ℕ) (at : ℕ) → n < 100 → at + 2 ≤ length out
    → set (set out at (get_or pairs (2 * n) 0)) (at + 1) (get_or pairs (2 * n + 1) 0) ≡ put out at (two_digits n)
unfolding pairs right
put-pair n out at h room =
    let t : right n ≡ true = below right 100 refl n h in
    let a : Bool = eqb (get_or pairs (2 * n) 0) (48 + n / 10) in
    let b : Bool = eqb (get_or pairs (2 * n + 1) 0) (48 + n % 10) in
    ap₂ (λ (x y : ℕ). set (set out at x) (at + 1) y) (eqb-true (get_or pairs (2 * n) 0) (48 + n / 10) (and_left a b t))
    (eqb-true (get_or pairs (2 * n + 1) 0) (48 + n % 10) (and_right a b t))
    ∙ rw add-one (sets-put out at (two_digits n) room)
