-- No piece is dropped or written twice: of each facility, the texts in the lines are the texts of the messages taken, in their order.
use Rattle.std.specs.Prelude.{ℕ, ◌+◌, ◌≤◌, ◌<◌, ◌≡◌, List, ◌++◌, length, None}
use Rattle.feed.specs.Feed.{input_most, messages}
use Rattle.feed.specs.Printing.{refused_line}
use Rattle.channel.specs.Channel.{channels, buffer_size, facility_first}
use Rattle.joiner.specs.Joiner.{fresh, open_text}
use Rattle.joiner.specs.Ledger.{texts}
use Rattle.joiner.specs.Whole.{all_taken, after_all, bytes_on, taken_on}
use Rattle.joinfeed.specs.Lines.{joinings, calls, text_lines, all_refused, given, output}

pub record Accounted (buffer input : List ℕ) : Type 0 where
  -- the lines of the texts given, then the last line
  pub written : output buffer input ≡ text_lines (given buffer (messages input)) ++ refused_line (all_refused (fresh buffer) (joinings (messages input)))
  pub each : (i : ℕ) → i < channels
      → bytes_on (facility_first + i) (given buffer (messages input)) ≡ texts (taken_on (facility_first + i) (all_taken (fresh buffer) (joinings (messages input))))
  -- the closings are enough
  pub nothing_open : (i : ℕ) → i < channels → open_text (after_all (fresh buffer) (calls (messages input))) i ≡ None

abbrev pub NoneLost : Type 0
NoneLost = (buffer input : List ℕ) → length buffer ≡ buffer_size → length input ≤ input_most → Accounted buffer input
