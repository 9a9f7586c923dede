use Rattle.std.proofs.Common.{◌≡◌, ◌+◌, length}
use Rattle.slices.specs.Cut.{occurrences}
use Rattle.slices.proofs.occurrences.Given as goal

abbrev pub invariant-loop-block : goal.invariant-loop-block
invariant-loop-block l = l.n + occurrences l.c l.rest ≡ occurrences l.c l.s

abbrev pub decreases-loop-block : goal.decreases-loop-block
decreases-loop-block l = length l.rest
