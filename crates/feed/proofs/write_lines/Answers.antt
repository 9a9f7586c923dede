-- `feed::write_lines` meets its contract: the lines that are left fit behind those that were written.
use native.Mathlib.Omega.{arith}
use Rattle.board.specs.Board.{state}
use Rattle.feed.proofs.MeasureLaws.{channel-line}
use Rattle.feed.proofs.WriteLaws.{write_fits, write_on, write_end}
use Rattle.feed.proofs.write_lines.Goals as goal

pub write_line-at-requires : goal.write_line-at-requires
write_line-at-requires c =
    let a = c.args in
    let l = c.loop-i in
    rw (channel-line (state a.slots a.buffer.now) l.i c.slot_text-text.ensures) (write_fits l.invariant (omega arith))

pub loop-i-preserved : goal.loop-i-preserved
loop-i-preserved c =
    let a = c.args in
    let l = c.loop-i in
    write_on l.invariant (omega arith) (rw (channel-line (state a.slots a.buffer.now) l.i c.slot_text-text.ensures) at c.write_line-at.ensures)

pub returns : goal.returns
returns c = write_end c.loop-i.invariant (omega arith)
