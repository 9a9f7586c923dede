-- `joinfeed::take` meets its contract: the joiner's call, and the lines of what it gave.
use mathlib.Core.Path.{◌≡◌}
use lib.ListN.{length}
use Rattle.joiner.specs.Joiner.{state}
use Rattle.joiner.specs.Whole.{joining, called}
use Rattle.joinfeed.specs.Lines.{result}
use Rattle.joinfeed.proofs.StepLaws.{called_by, joined_is, step_room, stepped}
use Rattle.joinfeed.proofs.take.Goals.{After-join-told}
use Rattle.joinfeed.proofs.take.Goals as goal

-- what the joiner left
joined : (c : After-join-told) → let a = c.args in
    called_by c.join-told.result c.join-told.new.texts c.join-told.new.first c.join-told.new.second
    ≡ called (state a.joiner.slots a.joiner.last a.texts.now) (joining a.m.now result result)
joined c =
    let a = c.args in
    joined_is (state a.joiner.slots a.joiner.last a.texts.now) a.m.now result result c.join-told.result c.join-told.ensures.second_after

pub write_answer-requires : goal.write_answer-requires
write_answer-requires c =
    let a = c.args in
    step_room (state a.joiner.slots a.joiner.last a.texts.now) (joining a.m.now result result) a.at (length a.out.now) c.join-told.result c.join-told.new.first c.join-told.new.second (joined (goal.at.write_answer-requires c).After-join-told) c.requires

pub returns : goal.returns
returns c = stepped c.join-told.result c.join-told.new.first c.join-told.new.second (joined (goal.at.returns c).After-join-told) c.write_answer.ensures c.count_refused.ensures
