-- The most that the program writes: a buffer of that length always has room.
use Rattle.std.specs.Prelude.{ℕ, ◌+◌, ◌*◌, ◌≤◌, List, length}
use Rattle.feed.specs.Feed.{input_most}
use Rattle.joinfeed.specs.Lines.{output}

-- each byte of the input escaped; then eight bytes, twenty digits and a newline
abbrev pub output_most : ℕ
output_most = 4 * input_most + (8 + 20 + 1)

-- whatever is read, over whatever buffer
abbrev pub LongestOutput : Type 0
LongestOutput = (buffer input : List ℕ) → length (output buffer input) ≤ output_most
