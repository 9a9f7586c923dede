-- `leaves::decimals::print_powers` is safe: no power is above the nineteenth.
use Rattle.std.proofs.Common.{arith, ◌<◌}
use Rattle.std.proofs.Math.Nat.{pow-le-pow_right, one-le-pow}
use Rattle.leaves.proofs.decimals.print_powers.Goals as goal

pub print_around-requires : goal.print_around-requires
print_around-requires g c =
    let ten : 0 < 10 = omega arith in
    rw (c.pow.ensures) (one-le-pow c.loop-zeros.zeros 10 ten, pow-le-pow_right ten {i = c.loop-zeros.zeros} {j = 19} (omega arith))
