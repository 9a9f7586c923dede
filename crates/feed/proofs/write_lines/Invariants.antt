-- `feed::write_lines` meets its contract: the lines that are left fit behind those that were written.
use Rattle.board.specs.Board.{state}
use Rattle.feed.proofs.WriteLaws.{Writing}
use Rattle.feed.proofs.write_lines.Given as goal

abbrev pub invariant-loop-i : goal.invariant-loop-i
invariant-loop-i l = Writing (state l.slot-items l.buffer) l.initial.out l.out l.at l.i
