use Rattle.std.proofs.Common.{◌≡◌, ℕ, ◌<◌, true, false, get_or}
use Rattle.slices.proofs.all_in_stride.Given as goal

abbrev pub invariant-loop-b : goal.invariant-loop-b
invariant-loop-b g l = record {
  yes : l.all ≡ true → (i : ℕ) → i < l.b-index → goal.F-post g l.test (get_or l.stride i 0) true;
  no : l.all ≡ false → (i : ℕ) × (i < l.b-index) × goal.F-post g l.test (get_or l.stride i 0) false;
}
