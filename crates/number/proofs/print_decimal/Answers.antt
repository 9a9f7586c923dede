-- `number::print_decimal` meets its contract: counted, room asked for, and written.
use Prim.Native.Nat.{◌+◌, ◌≤◌}
use native.Mathlib.Omega.{arith}
use borrow.Author.Tests.{not-true, not-false}
use lib.ListN.{length}
use Rattle.slices.proofs.PutLaws.{placed-room, no_room-counted, some-room}
use Rattle.number.specs.Decimal.{decimal}
use Rattle.number.proofs.print_decimal.Goals.{After-write_decimal-arg-1}
use Rattle.number.proofs.print_decimal.Goals as goal

-- the digits, counted, fit
fits : (c : After-write_decimal-arg-1) → c.args.at + length (decimal c.args.value) ≤ length c.args.out.now
fits c =
    let r : c.args.at + c.decimal_length-digits.result ≤ length c.args.out.now =
    some-room c.has_room.ensures (not-false _ c.if-not-has_room.false-raw) in
    omega (arith, c.decimal_length-digits.ensures.0)

pub returns-then-not-has_room : goal.returns-then-not-has_room
returns-then-not-has_room c =
    let a = c.args in
    no_room-counted a.out.now a.at (decimal a.value) c.decimal_length-digits.ensures.0 c.has_room.ensures
    (not-true _ c.if-not-has_room.true-raw)

pub returns : goal.returns
returns c =
    rw (placed-room c.args.out.now c.args.at (decimal c.args.value) (fits (goal.at.returns c).After-write_decimal-arg-1), c.decimal_length-digits.ensures.0, c.write_decimal.ensures)
