-- `feed::message_length` meets its contract: no message ends before the place that the loop has come to.
use native.Mathlib.Omega.{arith}
use Rattle.feed.proofs.GroupLaws.{group_begin, group_on, group_splits, group_end}
use Rattle.feed.proofs.message_length.Goals as goal

pub loop-i-init : goal.loop-i-init
loop-i-init c = λ h. group_begin h

pub returns-then-s-i : goal.returns-then-s-i
returns-then-s-i c = group_splits (c.loop-i.invariant (omega arith)) (omega arith) c.if-s-i.true

pub loop-i-preserved : goal.loop-i-preserved
loop-i-preserved c = λ h. group_on (c.loop-i.invariant h) (omega arith) c.if-s-i.false

pub returns : goal.returns
returns c = group_end c.args.s.now c.loop-i.invariant (omega arith)
