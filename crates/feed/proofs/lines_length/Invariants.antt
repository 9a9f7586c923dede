-- `feed::lines_length` meets its contract: the lines so far have taken their lengths of the room.
use Rattle.board.specs.Board.{state}
use Rattle.feed.proofs.MeasureLaws.{Measuring}
use Rattle.feed.proofs.lines_length.Given as goal

abbrev pub invariant-loop-i : goal.invariant-loop-i
invariant-loop-i l = Measuring (state l.slot-items l.buffer) l.most l.room l.i
