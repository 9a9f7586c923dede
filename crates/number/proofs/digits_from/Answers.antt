-- `number::digits_from` meets its contract: each power that is reached is a digit more.
use Prim.Native.Nat.{ℕ, ◌*◌, ◌^◌, ◌≤◌, ◌<◌}
use mathlib.Core.Path.{◌≡◌}
use native.Mathlib.Omega.{arith}
use native.Mathlib.Nat.{pow-le-pow_right}
use Rattle.number.proofs.PrintLaws.{count_three}
use Rattle.number.proofs.digits_from.Goals as goal

-- a power of so few digits fits, and a hundred times it
small : (k power : ℕ) → power ≡ 10 ^ k → k ≤ 17 → power * 100 < 2 ^ 64
small k power e h =
    let l : 10 ^ k ≤ 10 ^ 17 = pow-le-pow_right (omega arith) h in
    omega (arith, e)

pub overflow_mul-power : goal.overflow_mul-power
overflow_mul-power c = omega (arith, small c.args.digits c.args.power c.requires.fact_2.0 c.requires.fact_2.2)

pub overflow_mul-power-2 : goal.overflow_mul-power-2
overflow_mul-power-2 c = omega (arith, small c.args.digits c.args.power c.requires.fact_2.0 c.requires.fact_2.2)

pub returns : goal.returns
returns c =
    let a = c.args in
    let p = c.requires in
    rw (c.reached.ensures.0, c.reached-2.ensures.0, c.reached-3.ensures.0)
    (count_three a.digits a.value a.power p.fact_2.1 p.fact_2.0 p.fact_1.0 p.fact_1.1)
