-- `feed::print` meets its contract: what was measured is what is written.
use native.Mathlib.Omega.{arith}
use Prim.Native.Nat.{◌+◌, ◌≤◌}
use mathlib.Core.Path.{◌≡◌, sym, ◌∙◌}
use mathlib.Core.List.{◌++◌}
use lib.ListN.{length}
use Rattle.board.specs.Board.{channels, state}
use Rattle.feed.specs.Feed.{channel_lines}
use Rattle.feed.specs.Printing.{refused_line}
use Rattle.feed.proofs.WriteLaws.{first-room, second-room}
use Rattle.feed.proofs.ReportLaws.{last-over, lines-over, report-room, report-written}
use Rattle.feed.proofs.print.Goals.{In_ok-lines_length}
use Rattle.feed.proofs.print.Goals as goal

-- all of it fits
room : (c : In_ok-lines_length) → let a = c.args in
    0 + length (channel_lines (state a.board.slots a.buffer.now) 0 channels ++ refused_line a.refused) ≤ length a.out.now
room c =
    let a = c.args in
    let r : c.in_ok-checked_sub.field-0 + (c.decimal_length-last.result + 9) ≡ length a.out.now = omega (arith, c.in_ok-checked_sub.ensures) in
    report-room (state a.board.slots a.buffer.now) a.refused a.out.now c.decimal_length-last.ensures.0 c.in_ok-checked_sub.field-0 r (sym c.lines_length.ensures ∙ c.in_ok-lines_length.was)

pub returns-in_err-checked_sub : goal.returns-in_err-checked_sub
returns-in_err-checked_sub c =
    let a = c.args in
    rw c.from_residual.ensures
    (last-over (state a.board.slots a.buffer.now) a.refused a.out.now c.decimal_length-last.ensures.0 (omega (arith, c.in_err-checked_sub.ensures)))

pub returns-in_err-lines_length : goal.returns-in_err-lines_length
returns-in_err-lines_length c =
    let a = c.args in
    let r : c.in_ok-checked_sub.field-0 + (c.decimal_length-last.result + 9) ≡ length a.out.now = omega (arith, c.in_ok-checked_sub.ensures) in
    rw c.from_residual-in_err-lines_length.ensures
    (lines-over (state a.board.slots a.buffer.now) a.refused a.out.now c.decimal_length-last.ensures.0 c.in_ok-checked_sub.field-0 r (sym c.lines_length.ensures ∙ c.in_err-lines_length.was))

pub write_lines-at-requires : goal.write_lines-at-requires
write_lines-at-requires c =
    let a = c.args in
    omega (arith, first-room 0 (length a.out.now) (channel_lines (state a.board.slots a.buffer.now) 0 channels) (refused_line a.refused) (room (goal.at.write_lines-at-requires c).In_ok-lines_length))

pub write_refused-requires : goal.write_refused-requires
write_refused-requires c =
    let a = c.args in
    second-room (channel_lines (state a.board.slots a.buffer.now) 0 channels) (refused_line a.refused) (room (goal.at.write_refused-requires c).In_ok-lines_length) c.write_lines-at.ensures

pub returns : goal.returns
returns c =
    let a = c.args in
    report-written (state a.board.slots a.buffer.now) a.refused (room (goal.at.returns c).In_ok-lines_length) c.write_lines-at.ensures c.write_refused.ensures
