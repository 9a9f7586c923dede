-- `feed::print_or_restore` meets its contract.
use mathlib.Core.Path.{◌∙◌, ap}
use mathlib.Core.Bool.{not}
use Rattle.board.specs.Board.{state}
use Rattle.feed.specs.Feed.{fed}
use Rattle.feed.proofs.KeptLaws.{settled-room, settled-full}
use Rattle.feed.proofs.print_or_restore.Goals as goal

pub returns-else-is_none-clause-buffer_after : goal.returns-else-is_none-clause-buffer_after
returns-else-is_none-clause-buffer_after c =
    let a = c.args in
    settled-room a.kept.now a.out.now (fed (state a.r.board.slots a.buffer.now) a.r.refused) c.print-end.ensures (c.is_none.ensures ∙ ap not c.if-is_none.false)

pub returns-then-is_none-clause-buffer_after : goal.returns-then-is_none-clause-buffer_after
returns-then-is_none-clause-buffer_after c =
    let a = c.args in
    c.restore.ensures
    ∙ settled-full a.kept.now a.out.now (fed (state a.r.board.slots a.buffer.now) a.r.refused) c.print-end.ensures (c.is_none.ensures ∙ ap not c.if-is_none.true)
