-- The worked case, computed from the definitions.
use mathlib.Core.Path.{refl}
use Rattle.number.specs.Decimal.{decimal, plain_decimal, value}
use Rattle.escape.specs.Escape.{well_escaped, unescape}
use Rattle.header.specs.Header.{header, fields, field, lacks_header, lacks_number}
use Rattle.message.specs.Message.{body, lines, text, continuations, dictionary, is_long, is_unended, has_wrong_byte, has_wrong_entry, is_bulky, refusal, reading}
use Rattle.board.specs.Board.{fresh, lacks_room, board_refusal, show, deliver}
use Rattle.feed.specs.Feed.{feed_all, channel_line, channel_lines, report, output}
use Rattle.feed.specs.Cases.{WorkedCase}

pub worked_case : WorkedCase
unfolding decimal plain_decimal value well_escaped unescape header fields field body lines text continuations dictionary is_long is_unended lacks_header lacks_number has_wrong_byte has_wrong_entry is_bulky refusal reading fresh lacks_room board_refusal show deliver feed_all channel_line channel_lines report output
worked_case = refl
