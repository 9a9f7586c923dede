-- `joinfeed::take_all` meets its contract: what is left to join, on the joiner as it stands, gives the lines that are left.
use Rattle.feed.specs.Feed.{messages}
use Rattle.joinfeed.proofs.StepLaws.{Taking}
use Rattle.joinfeed.proofs.take_all.Given as goal

abbrev pub invariant-loop-message : goal.invariant-loop-message
invariant-loop-message l = Taking l.input l.initial.texts l.initial.out l.joiner l.texts l.refused l.out l.end (messages l.message-iterator.0.now)
