-- `feed::receive` meets its contract: what is left to deliver, on the board as it stands, leaves what the whole feed leaves.
use mir.Val.{bool_byte}
use mathlib.Core.Path.{ap, ◌∙◌}
use Rattle.feed.proofs.FeedLaws.{feed_begin, feed_on, feed_end}
use Rattle.feed.proofs.receive.Goals as goal

pub loop-message-init : goal.loop-message-init
loop-message-init c = rw c.into_iter-message-iterator.ensures.into_iter_gives (feed_begin c.new-board.ensures)

pub loop-message-preserved : goal.loop-message-preserved
loop-message-preserved c =
    let d = c.deliver-told in
    feed_on c.loop-message.invariant d.result c.in-Some.ensures.steps d.ensures.buffer_after (c.from-refused.ensures ∙ ap bool_byte c.is_err.ensures.value) d.auto.buffer

pub returns : goal.returns
returns c = feed_end c.loop-message.invariant c.in-None.ensures.steps.0
