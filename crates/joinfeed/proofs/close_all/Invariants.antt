-- `joinfeed::close_all` meets its contract: the lines of the closings that are left fit behind those that were written.
use Prim.Native.Nat.{◌-◌, ◌≤◌}
use mathlib.Core.List.{map}
use lib.ListN.{replicate}
use Rattle.joiner.specs.Joiner.{state}
use Rattle.joiner.specs.Whole.{closing}
use Rattle.joinfeed.specs.Lines.{result, closings}
use Rattle.joinfeed.proofs.StepLaws.{Running}
use Rattle.joinfeed.proofs.close_all.Given as goal

abbrev pub invariant-loop : goal.invariant-loop
invariant-loop l =
    (l.counter ≤ 8) × Running (state l.initial.left.slots l.initial.left.last l.texts) closings l.initial.out l.at (state l.left.slots l.left.last l.texts) (map closing (replicate (8 - l.counter) result)) l.out l.end
