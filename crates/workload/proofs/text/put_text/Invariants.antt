-- `workload::text::put_text`: the bytes before the place are put.
use Rattle.std.proofs.Common.{◌≡◌, ℕ, ◌<◌, slice_index}
use Rattle.workload.specs.Text.{text_byte}
use Rattle.workload.proofs.text.put_text.Given as goal

abbrev pub invariant-loop-i : goal.invariant-loop-i
invariant-loop-i l = (k : ℕ) → k < l.i → slice_index l.text k ≡ text_byte l.every k
