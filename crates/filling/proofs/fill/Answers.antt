-- `filling::fill`: each write is a step of the filling.
use Rattle.std.proofs.Common.{sym, ◌∙◌}
use Rattle.writes.specs.Write.{left as wrote}
use Rattle.filling.specs.Filling.{left}
use Rattle.filling.proofs.FillLaws.{over, onward, full}
use Rattle.filling.proofs.fill.Goals as goal

pub loop-n-preserved : goal.loop-n-preserved
loop-n-preserved c =
    sym (onward c.args.text.now c.loop-n.n (left c.loop-n.log c.loop-n.buffer) (wrote c.write_box-written.result c.write_box-written.new.buffer)
    c.write_box-written.ensures 2049 c.loop-n-test.true c.if-written-gt0.false) ∙ c.loop-n.invariant

pub returns-after-loop-n : goal.returns-after-loop-n
returns-after-loop-n c = sym (full c.args.text.now 2049 c.loop-n.n (left c.loop-n.log c.loop-n.buffer) c.loop-n-test.false) ∙ c.loop-n.invariant

pub returns-then-written-gt0 : goal.returns-then-written-gt0
returns-then-written-gt0 c =
    sym (over c.args.text.now c.loop-n.n (left c.loop-n.log c.loop-n.buffer) (wrote c.write_box-written.result c.write_box-written.new.buffer)
    c.write_box-written.ensures 2049 c.loop-n-test.true c.if-written-gt0.true) ∙ c.loop-n.invariant
