-- `feed::message_length` meets its contract: no message ends before the place that the loop has come to.
use Prim.Native.Nat.{◌<◌}
use lib.ListN.{length}
use Rattle.feed.proofs.GroupLaws.{Grouping}
use Rattle.feed.proofs.message_length.Given as goal

abbrev pub invariant-loop-i : goal.invariant-loop-i
invariant-loop-i l = 0 < length l.s → Grouping l.s l.i
