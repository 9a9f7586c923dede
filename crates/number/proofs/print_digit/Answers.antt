-- `number::print_digit` meets its contract: a number below ten is one digit.
use Prim.Native.Nat.{◌+◌, ◌≤◌}
use mathlib.Core.List.{[], ◌∷◌}
use borrow.Author.Tests.{not-true, not-false}
use lib.ListN.{length}
use Rattle.slices.proofs.PutLaws.{sets-put, placed-room, no_room, some-room}
use Rattle.number.proofs.DecimalLaws.{decimal_digit}
use Rattle.number.proofs.print_digit.Goals.{Else-not-has_room}
use Rattle.number.proofs.print_digit.Goals as goal

fits : (c : Else-not-has_room) → c.args.at + 1 ≤ length c.args.out.now
fits c = some-room c.has_room.ensures (not-false _ c.if-not-has_room.false-raw)

pub returns-then-not-has_room : goal.returns-then-not-has_room
returns-then-not-has_room c =
    rw (decimal_digit c.args.value c.requires) (no_room c.args.out.now c.args.at ((48 + c.args.value) ∷ []) c.has_room.ensures (not-true _ c.if-not-has_room.true-raw))

pub returns : goal.returns
returns c =
    let one = (48 + c.args.value) ∷ [] in
    rw (decimal_digit c.args.value c.requires, placed-room c.args.out.now c.args.at one (fits (goal.at.returns c).Else-not-has_room), sets-put c.args.out.now c.args.at one (fits (goal.at.returns c).Else-not-has_room))
