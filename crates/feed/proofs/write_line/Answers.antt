-- `feed::write_line` meets its contract: each part fits behind the one before it.
use Rattle.std.specs.Prelude.{Option, Some}
use native.Mathlib.Omega.{arith}
use Rattle.std.proofs.Common.{ℕ, ◌≡◌, ◌+◌, ◌≤◌, List, [], ◌∷◌, ◌++◌, length}
use Rattle.std.proofs.Math.ListN.{set}
use Rattle.escape.specs.Escape.{kmsg_bytes}
use Rattle.escape.specs.Answers.{Written}
use Rattle.record.specs.declared.Seq.{Seq}
use Rattle.feed.specs.Printing.{field, text_end, number_end, shown_line}
use Rattle.feed.proofs.MeasureLaws.{line-shown, line-none}
use Rattle.feed.proofs.WriteLaws.{written_none, written_byte, first-room, second-room, written_both}
use Rattle.feed.proofs.write_line.Goals as goal

-- ---- what is left of the line fits behind each part

module _ (channel : ℕ) (text : List ℕ) (shown : Option Seq) {n : Seq} (is : shown ≡ Some n) (at : ℕ) (out : List ℕ) (fits : at + length (shown_line channel shown text) ≤ length out) where
  room : at + length (field channel 32 ++ number_end n.0 text) ≤ length out
  room = rw (line-shown channel text shown is) at fits

  module _ {second : ℕ} {out₂ : List ℕ} (w₂ : Written out at (field channel 32) second out₂) where
    room_2 : second + length (number_end n.0 text) ≤ length out₂
    room_2 = second-room (field channel 32) (number_end n.0 text) room w₂

    module _ {third : ℕ} {out₃ : List ℕ} (w₃ : Written out₂ second (field n.0 32) third out₃) where
      room-3 : third + length (text_end text) ≤ length out₃
      room-3 = second-room (field n.0 32) (text_end text) room_2 w₃

      module _ {end : ℕ} {out₄ : List ℕ} (w₄ : Written out₃ third (kmsg_bytes text) end out₄) where
        room-4 : end + 1 ≤ length out₄
        room-4 = second-room (kmsg_bytes text) (10 ∷ []) room-3 w₄

        written : Written out at (shown_line channel shown text) (end + 1) (set out₄ end 10)
        written =
            rw (line-shown channel text shown is)
            (written_both (field channel 32) (number_end n.0 text) room w₂
            (written_both (field n.0 32) (text_end text) room_2 w₃
            (written_both (kmsg_bytes text) (10 ∷ []) room-3 w₄ (written_byte room-4))))

-- ---- the goals

pub returns-in_default : goal.returns-in_default
returns-in_default c =
    let a = c.args in
    rw (line-none a.channel a.text.now a.shown c.in_default.is) (written_none (omega (arith, c.requires)))

pub write_field-second-requires : goal.write_field-second-requires
write_field-second-requires c =
    let a = c.args in
    let n = c.in-Some.number in
    first-room a.at (length a.out.now) (field a.channel 32) (number_end n.0 a.text.now) (room a.channel a.text.now a.shown c.in-Some.is a.at a.out.now c.requires)

pub write_field-third-requires : goal.write_field-third-requires
write_field-third-requires c =
    let a = c.args in
    let n = c.in-Some.number in
    let w = c.write_field-second in
    first-room w.result (length w.new.out) (field n.0 32) (text_end a.text.now) (room_2 a.channel a.text.now a.shown c.in-Some.is a.at a.out.now c.requires w.ensures)

pub write_escaped-end-requires : goal.write_escaped-end-requires
write_escaped-end-requires c =
    let a = c.args in
    let w = c.write_field-third in
    first-room w.result (length w.new.out) (kmsg_bytes a.text.now) (10 ∷ [])
    (room-3 a.channel a.text.now a.shown c.in-Some.is a.at a.out.now c.requires c.write_field-second.ensures w.ensures)

pub bounds-out-end : goal.bounds-out-end
bounds-out-end c =
    let a = c.args in
    omega (
      arith,
      room-4 a.channel a.text.now a.shown c.in-Some.is a.at a.out.now c.requires c.write_field-second.ensures c.write_field-third.ensures c.write_escaped-end.ensures,
    )

pub returns : goal.returns
returns c =
    let a = c.args in
    written a.channel a.text.now a.shown c.in-Some.is a.at a.out.now c.requires c.write_field-second.ensures c.write_field-third.ensures c.write_escaped-end.ensures
