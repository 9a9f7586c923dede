-- `joinfeed::close_all` meets its contract: the lines of the closings that are left fit behind those that were written.
use native.Mathlib.Omega.{arith}
use Rattle.joinfeed.proofs.StepLaws.{run_fits, run_on, run-written, closings-first, closings-none}
use Rattle.joinfeed.proofs.close_all.Goals as goal

pub close-step-requires : goal.close-step-requires
close-step-requires c = let l = c.loop in run_fits (rw (closings-first l.counter (omega arith)) at l.invariant.1)

pub loop-preserved : goal.loop-preserved
loop-preserved c =
    let l = c.loop in
    (omega arith, run_on (rw (closings-first l.counter (omega arith)) at l.invariant.1) c.close-step.ensures)

pub returns : goal.returns
returns c = let l = c.loop in run-written (rw (closings-none l.counter (omega arith)) at l.invariant.1)
