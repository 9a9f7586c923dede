use Rattle.std.proofs.Common.{◌≡◌, ◌+◌, ◌-◌, arith, length}
use Rattle.slices.proofs.PutLaws.{no_room, some-room, placed-part}
use Rattle.slices.proofs.copy.Goals as goal

pub returns-then-not-has_room : goal.returns-then-not-has_room
returns-then-not-has_room c = no_room c.args.out.now c.args.at c.args.bytes.now c.has_room.ensures c.if-not-has_room.true

pub returns : goal.returns
returns c =
    let k : c.args.at + length c.args.bytes.now - c.args.at ≡ length c.args.bytes.now = omega arith in
    rw (c.copy_from_slice.ensures.after, k) (placed-part c.args.out.now c.args.at c.args.bytes.now (some-room c.has_room.ensures c.if-not-has_room.false))
