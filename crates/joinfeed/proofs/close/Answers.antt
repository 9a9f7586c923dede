-- `joinfeed::close` meets its contract: the joiner's call, and the line of what it gave.
use mathlib.Core.Path.{◌≡◌}
use mathlib.Core.List.{[]}
use lib.ListN.{length}
use Rattle.joiner.specs.Joiner.{state}
use Rattle.joiner.specs.Whole.{closing, called}
use Rattle.joinfeed.specs.Lines.{result}
use Rattle.joinfeed.proofs.StepLaws.{called_by, closed_is, step_room, stepped}
use Rattle.joinfeed.proofs.close.Goals.{After-close-told}
use Rattle.joinfeed.proofs.close.Goals as goal

-- what the joiner left; there is no second result
closed : (c : After-close-told) → let a = c.args in
    called_by c.close-told.result a.texts.now c.close-told.new.res []
    ≡ called (state a.joiner.slots a.joiner.last a.texts.now) (closing result)
closed c =
    let a = c.args in
    closed_is (state a.joiner.slots a.joiner.last a.texts.now) result c.close-told.result c.close-told.ensures.res_after

pub write_answer-requires : goal.write_answer-requires
write_answer-requires c =
    let a = c.args in
    step_room (state a.joiner.slots a.joiner.last a.texts.now) (closing result) a.at (length a.out.now) c.close-told.result c.close-told.new.res [] (closed (goal.at.write_answer-requires c).After-close-told) c.requires

pub returns : goal.returns
returns c = stepped c.close-told.result c.close-told.new.res [] (closed (goal.at.returns c).After-close-told) c.write_answer.ensures c.count_refused.ensures
