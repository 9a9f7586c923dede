-- `receiver::answer` meets its contract: no report is longer than the longest, so there is room, and what stands in front is what was put there.
use Rattle.std.proofs.Common.{arith}
use Rattle.feed.specs.Feed.{output}
use Rattle.feed.proofs.WriteLaws.{written_front, placed_end, placed-some}
use Rattle.feed.proofs.LongestLaws.{longest-report}
use Rattle.receiver.proofs.answer.Goals as goal

pub unwrap-requires : goal.unwrap-requires
unwrap-requires c =
    let a = c.args in
    placed-some a.out.now 0 (output a.buffer.now a.input.now) c.run.ensures.out_after (omega (arith, longest-report a.buffer.now a.input.now, c.requires))

pub returns : goal.returns
returns c =
    let a = c.args in
    let bytes = output a.buffer.now a.input.now in
    let w = placed_end a.out.now 0 bytes c.run.ensures.out_after c.unwrap.ensures in
    written_front a.out.now bytes (omega (arith, longest-report a.buffer.now a.input.now, c.requires)) w
