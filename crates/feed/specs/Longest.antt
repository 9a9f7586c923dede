-- The longest report of the receiver program: a buffer of that length always has room.
use Rattle.std.specs.Prelude.{ℕ, ◌+◌, ◌*◌, ◌≤◌, List, length}
use Rattle.board.specs.Board.{channels, slot_size}
use Rattle.feed.specs.Feed.{output}

-- two digits, a space, twenty digits, a space, a full slot with every byte escaped, and a newline
abbrev pub line_most : ℕ
line_most = 2 + 1 + 20 + 1 + 4 * slot_size + 1

-- a line for each channel; then eight bytes, twenty digits and a newline
abbrev pub report_most : ℕ
report_most = channels * line_most + (8 + 20 + 1)

-- whatever is read, over whatever buffer
abbrev pub LongestReport : Type 0
LongestReport = (buffer input : List ℕ) → length (output buffer input) ≤ report_most
