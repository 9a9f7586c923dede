-- `filling::fill`: what is still to be written from the records so far is the whole.
use Rattle.std.proofs.Common.{◌≡◌, ◌-◌}
use Rattle.filling.specs.Filling.{left, filled_from, filled}
use Rattle.filling.proofs.fill.Given as goal

abbrev pub invariant-loop-n : goal.invariant-loop-n
invariant-loop-n l = filled_from l.text (2049 - l.n) l.n (left l.log l.buffer) ≡ filled l.initial.buffer l.text
