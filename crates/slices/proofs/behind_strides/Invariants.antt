use Rattle.std.proofs.Common.{◌≡◌, ◌+◌, ◌-◌, ◌≤◌, length, drop}
use Rattle.slices.specs.Cut.{before}
use Rattle.slices.proofs.behind_strides.Given as goal

abbrev pub invariant-loop-stride : goal.invariant-loop-stride
invariant-loop-stride l = record {
  size : l.at ≤ length l.s;
  left : l.at + length (before l.c (drop l.at l.s)) ≡ length (before l.c l.s);
}

abbrev pub decreases-loop-stride : goal.decreases-loop-stride
decreases-loop-stride l = length l.s - l.at
