-- `number::write_front` meets its contract: one digit, or a pair.
use Prim.Native.Nat.{◌+◌}
use mathlib.Core.List.{[], ◌∷◌}
use native.Mathlib.Omega.{arith}
use Rattle.slices.proofs.PutLaws.{sets-put}
use Rattle.number.proofs.DecimalLaws.{decimal_digit, decimal-some}
use Rattle.number.proofs.PrintLaws.{decimal-two}
use Rattle.number.proofs.write_front.Goals as goal

pub bounds-out-at : goal.bounds-out-at
bounds-out-at c = omega (arith, c.requires.1, decimal-some c.args.value)

pub returns-then-value-lt10 : goal.returns-then-value-lt10
returns-then-value-lt10 c =
    let a = c.args in
    let e = decimal_digit a.value (omega arith) in
    rw e (sets-put a.out.now a.at ((48 + a.value) ∷ []) (rw e at c.requires.1))

pub write_pair-requires : goal.write_pair-requires
write_pair-requires c =
    (c.requires.0, rw (decimal-two c.args.value (omega arith) c.requires.0) at c.requires.1)

pub returns : goal.returns
returns c =
    rw (decimal-two c.args.value (omega arith) c.requires.0) c.write_pair.ensures
