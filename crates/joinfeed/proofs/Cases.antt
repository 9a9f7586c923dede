-- The worked cases, computed from the definitions.
use mathlib.Core.Path.{refl}
use Rattle.number.specs.Decimal.{decimal, plain_decimal, value}
use Rattle.escape.specs.Escape.{well_escaped, unescape}
use Rattle.header.specs.Header.{header, fields, field, lacks_header, lacks_number}
use Rattle.message.specs.Message.{body, lines, text, continuations, dictionary, is_long, is_unended, has_wrong_byte, has_wrong_entry, is_bulky, refusal, reading}
use Rattle.feed.specs.Printing.{refused_line}
use Rattle.joiner.specs.Joiner.{fresh, lacks_room, join_refusal, turned, hold, give, taking, join, lowest, give_back, close_lowest, close}
use Rattle.joiner.specs.Whole.{called, all_shown}
use Rattle.joinfeed.specs.Lines.{text_line, all_refused, report, output}
use Rattle.joinfeed.specs.Cases.{Cases}

pub cases : Cases
unfolding decimal plain_decimal value well_escaped unescape header fields field body lines text continuations dictionary is_long is_unended lacks_header lacks_number has_wrong_byte has_wrong_entry is_bulky refusal reading refused_line fresh lacks_room join_refusal turned hold give taking join lowest give_back close_lowest close called all_shown text_line all_refused report output
cases = record { nothing = refl; pieces = refl; between = refl; escaped = refl; closes = refl }
