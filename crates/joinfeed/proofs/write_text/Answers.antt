-- `joinfeed::write_text` meets its contract: each part fits behind the one before it.
use native.Mathlib.Omega.{arith}
use Prim.Native.Nat.{◌+◌, ◌≤◌}
use mathlib.Core.List.{◌∷◌, []}
use lib.ListN.{length}
use Rattle.escape.specs.Escape.{kmsg_bytes}
use Rattle.feed.specs.Printing.{field, text_end}
use Rattle.feed.proofs.WriteLaws.{written_byte, first-room, second-room, written_both}
use Rattle.joinfeed.specs.Lines.{text_line}
use Rattle.joinfeed.proofs.write_text.Goals.{After-write_escaped-end, After-write_field-from}
use Rattle.joinfeed.proofs.write_text.Goals as goal

-- what is left of the line fits behind each part
room : (c : After-write_field-from) → c.write_field-from.result + length (text_end c.args.text.now) ≤ length c.write_field-from.new.out
unfolding text_line
room c =
    let a = c.args in
    second-room (field a.facility 32) (text_end a.text.now) c.requires c.write_field-from.ensures

room_2 : (c : After-write_escaped-end) → c.write_escaped-end.result + 1 ≤ length c.write_escaped-end.new.out
unfolding text_line
room_2 c =
    let a = c.args in
    second-room (kmsg_bytes a.text.now) (10 ∷ [])
    (second-room (field a.facility 32) (text_end a.text.now) c.requires c.write_field-from.ensures)
    c.write_escaped-end.ensures

pub write_field-from-requires : goal.write_field-from-requires
unfolding text_line
write_field-from-requires c =
    let a = c.args in
    first-room a.at (length a.out.now) (field a.facility 32) (text_end a.text.now) c.requires

pub write_escaped-end-requires : goal.write_escaped-end-requires
write_escaped-end-requires c =
    first-room c.write_field-from.result (length c.write_field-from.new.out) (kmsg_bytes c.args.text.now) (10 ∷ []) (room (goal.at.write_escaped-end-requires c).After-write_field-from)

pub bounds-out-end : goal.bounds-out-end
bounds-out-end c = omega (arith, room_2 (goal.at.bounds-out-end c).After-write_escaped-end)

pub returns : goal.returns
unfolding text_line
returns c =
    let a = c.args in
    written_both (field a.facility 32) (text_end a.text.now) c.requires c.write_field-from.ensures
    (written_both (kmsg_bytes a.text.now) (10 ∷ []) (room (goal.at.returns c).After-write_field-from) c.write_escaped-end.ensures (written_byte (room_2 (goal.at.returns c).After-write_escaped-end)))
