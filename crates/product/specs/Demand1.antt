-- Demand 1, as one statement: over every call of the product, any log, board, joiner, console setting and trail reader, and any buffers, bytes and numbers, every answer
-- is a count or a number of document 01's tables, and a refusal leaves everything as it was; one thing may move: a reader told -32 is set to
-- the oldest record left.
use Rattle.std.specs.Prelude.{ℕ, zero, suc, ◌≤◌, ◌≡◌, cond, List, ltb, pos, negsuc, length}
use Rattle.message.specs.Message.{BULK}
use Rattle.board.specs.Board.{LATE}
use Rattle.feed.specs.Feed.{output}
use Rattle.feed.specs.Longest.{report_most}
use Rattle.history.specs.Demand1.{left_by}
use Rattle.history.specs.Demand1.{Known as InTable}
use Rattle.product.specs.Calls.{Box, Call, on_log, turn_off, turn_on, set_level, set_minimum, line, delivery, joining, closing, receiver, join_lines, trail_next, Answer, number, by_reader, by_board, by_joiner, printed, no_room, other, with_log, called, handed}

-- a count, or a number of the tables: -77 .. -11 of the log, 1 to 8 of the line reader, 1 to 10 of the board and of the joiner
abbrev pub Known : Answer → Type 0
Known (number n) = InTable n
Known (by_reader n) = n ≤ BULK
Known (by_board n) = n ≤ LATE
Known (by_joiner n) = (1 ≤ n) × (n ≤ LATE)
Known (printed n) = Unit {0}
Known no_room = Unit {0}
Known other = Unit {0}

-- the answer refuses: a number below 0; of the receiving end, any but 0; no room
abbrev pub Refuses : Answer → Type 0
Refuses (number (pos n)) = ⊥
Refuses (number (negsuc n)) = Unit {0}
Refuses (by_reader zero) = ⊥
Refuses (by_reader (suc n)) = Unit {0}
Refuses (by_board zero) = ⊥
Refuses (by_board (suc n)) = Unit {0}
Refuses (by_joiner n) = Unit {0}
Refuses (printed n) = ⊥
Refuses no_room = Unit {0}
Refuses other = ⊥

-- what a refusal leaves: all, but for the reader that is told -32
abbrev pub left : Box → Call → Answer → Box
left b (on_log c) (number n) = with_log b (left_by b.log c n)
left b (on_log c) (by_reader n) = b
left b (on_log c) (by_board n) = b
left b (on_log c) (by_joiner n) = b
left b (on_log c) (printed n) = b
left b (on_log c) no_room = b
left b (on_log c) other = b
left b turn_off a = b
left b turn_on a = b
left b (set_level level) a = b
left b (set_minimum level) a = b
left b (line m result numbers) a = b
left b (delivery m) a = b
left b (joining m first second) a = b
left b (closing result) a = b
left b (receiver input buffer out) a = b
left b (join_lines input texts out) a = b
left b (trail_next file result) a = b

pub record Demand1 : Type 0 where
  pub known : (b : Box) (c : Call) → Known (called b c).answer
  pub box : (b : Box) (c : Call) → Refuses (called b c).answer → (called b c).box ≡ left b c (called b c).answer
  pub lent : (b : Box) (c : Call) → Refuses (called b c).answer → (called b c).lent ≡ handed c
  -- the receiver has no room only in a buffer that is shorter than the longest report, which its program never lends
  pub room : (b : Box) (input buffer out : List ℕ) → report_most ≤ length out
      → (called b (receiver input buffer out)).answer ≡ printed (length (output buffer input))
  -- the trail reader has no room exactly in a result buffer under 960 bytes
  pub short : (b : Box) (file result : List ℕ) → (called b (trail_next file result)).answer ≡ cond (ltb (length result) 960) no_room other
