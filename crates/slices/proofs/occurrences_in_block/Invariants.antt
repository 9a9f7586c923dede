use Rattle.std.proofs.Common.{◌≡◌, take}
use Rattle.slices.specs.Cut.{occurrences}
use Rattle.slices.proofs.occurrences_in_block.Given as goal

abbrev pub invariant-loop-b : goal.invariant-loop-b
invariant-loop-b l = l.n ≡ occurrences l.c (take l.b-index l.block)
