-- `feed::lines_length` meets its contract: the lines so far have taken their lengths of the room.
use native.Mathlib.Omega.{arith}
use Rattle.board.specs.Board.{state}
use mathlib.Core.Path.{◌≡◌, sym, ap, ◌∙◌}
use Rattle.feed.specs.Feed.{channel_line}
use Rattle.feed.specs.Printing.{measured}
use Rattle.feed.proofs.MeasureLaws.{length-said, channel-line, measure_on, measure_over, measure_end}
use Rattle.feed.proofs.lines_length.Goals.{After-line_length}
use Rattle.feed.proofs.lines_length.Goals as goal

-- the answer is of this channel's line
line : (c : After-line_length) → let a = c.args in let l = c.loop-i in
    c.line_length.result ≡ measured l.room (channel_line (state a.slots a.buffer.now) l.i)
line c =
    let a = c.args in
    let l = c.loop-i in
    c.line_length.ensures ∙ ap (measured l.room) (channel-line (state a.slots a.buffer.now) l.i c.slot_text-text.ensures)

pub returns-in_err-room : goal.returns-in_err-room
returns-in_err-room c = c.from_residual.ensures ∙ measure_over c.loop-i.invariant (omega arith) (sym (line (goal.at.returns-in_err-room c).After-line_length) ∙ c.in_err-room.was)

pub overflow_sub-room : goal.overflow_sub-room
overflow_sub-room c =
    let i = c.loop-i.i in
    let room = c.loop-i.room in
    let a = c.args in
    omega (arith, length-said room (channel_line (state a.slots a.buffer.now) i) (sym (line (goal.at.overflow_sub-room c).After-line_length) ∙ c.in_ok-room.was))

pub loop-i-preserved : goal.loop-i-preserved
loop-i-preserved c = measure_on c.loop-i.invariant (omega arith) (sym (line (goal.at.loop-i-preserved c).After-line_length) ∙ c.in_ok-room.was)

pub returns : goal.returns
returns c = measure_end c.loop-i.invariant (omega arith)
