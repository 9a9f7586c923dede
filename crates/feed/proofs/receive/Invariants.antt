-- `feed::receive` meets its contract: what is left to deliver, on the board as it stands, leaves what the whole feed leaves.
use Rattle.feed.specs.Feed.{messages}
use Rattle.feed.proofs.FeedLaws.{Feeding}
use Rattle.feed.proofs.receive.Given as goal

abbrev pub invariant-loop-message : goal.invariant-loop-message
invariant-loop-message l = Feeding l.input l.initial.buffer l.board.slots l.buffer l.refused (messages l.message-iterator.0.now)
