-- `joinfeed::take_all` meets its contract: what is left to join, on the joiner as it stands, gives the lines that are left.
use Rattle.joinfeed.proofs.StepLaws.{take_begin, take-fits, take_on, take-end}
use Rattle.joinfeed.proofs.take_all.Goals as goal

pub loop-message-init : goal.loop-message-init
loop-message-init c = rw c.into_iter-message-iterator.ensures.into_iter_gives (take_begin c.new-joiner.ensures c.requires)

pub take-step-requires : goal.take-step-requires
take-step-requires c = take-fits c.loop-message.invariant c.in-Some.ensures.steps

pub loop-message-preserved : goal.loop-message-preserved
loop-message-preserved c =
    let t = c.take-step in
    take_on c.loop-message.invariant c.in-Some.ensures.steps t.result t.ensures t.auto.texts

pub returns : goal.returns
returns c = take-end c.loop-message.invariant c.in-None.ensures.steps.0
