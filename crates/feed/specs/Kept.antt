-- The board's buffer, kept for the case that there is no room for the report.
use Rattle.std.specs.Prelude.{ℕ, cond, List, leb, eqb, length}
use Rattle.feed.specs.Feed.{Fed, report}

-- kept bytes put back over a buffer of their length; one of another length stays
abbrev pub restored : List ℕ → List ℕ → List ℕ
restored kept buffer = cond (eqb (length buffer) (length kept)) kept buffer

-- the buffer behind a feed, where so many bytes may be written: it stays if the report fits
abbrev pub settled : List ℕ → Fed → ℕ → List ℕ
settled kept f room = cond (leb (length (report f)) room) f.board.buffer (restored kept f.board.buffer)
