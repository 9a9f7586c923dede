-- Document 01's "When the log says no" and the refusals 1 to 10 of the receiving end: a row at least for each number, and those that stand at
-- its edge.
use Rattle.std.specs.Prelude.{ℕ, true, false, List, [], ◌∷◌, ◌++◌, pos, replicate, set as set_at, None, Ok, Err}
use Rattle.slices.specs.Quoted.{quoted}
use Rattle.history.specs.Calls.{make, place, read, seek, command, check, State, wrote, made, set, gave, sought, told, verdict, nobody}
use Rattle.board.specs.Board.{fresh, empty_slot, state}
use Rattle.board.specs.Board.{State as Board}
use Rattle.moments.specs.Case.{outside, box, ◌gives◌, new, hand, Calls, dots, shows, slot_of, board₀, board_after, Case, calls, line_answers, board_answers, minus, blank, asked, poor}
use Rattle.eventlog.specs.declared.Misfit.TheVariants.{Numbers, Heading}

-- ---- when the log says no

-- a log by hand with these numbers; its buffer holds zeros
abbrev pub set_by_hand : ℕ → ℕ → ℕ → ℕ → State
set_by_hand used first next level =
    record {
      log = record {
        start = record { 0 = 0 };
        used = used;
        first = record { 0 = first };
        next = record { 0 = next };
        clear = record { 0 = 0 };
        position = record { 0 = first };
        offset = 0;
        console = record { level = level; minimum = 1; saved = None };
      };
      buffer = blank 1024;
      readers = 0 ∷ [];
    }

-- 2^64 - 1
abbrev pub last : ℕ
last = 18446744073709551615

-- -77 EBADFD: the log check fails, at the first heading; whatever else is wrong
abbrev pub heading_fails : Calls
heading_fails =
    record {
      before = hand (set_by_hand 32 0 1 7);
      earlier = [];
      steps = outside 0 [] gives wrote (minus 77) 0
          ∷ outside 0 (quoted "\0") gives wrote (minus 77) 0
          ∷ box 1 0 0 [] [] gives wrote (minus 77) 0
          ∷ read 0 (quoted "x") gives gave (minus 77) 0 0 (quoted "x")
          ∷ seek 0 (pos 1) (pos 3) gives sought (minus 77) 0
          ∷ asked 2 1 (quoted "x") gives told (minus 77) (quoted "x")
          ∷ poor 2 0 true [] gives told (minus 77) []
          ∷ check gives verdict (Err (Heading 0))
          ∷ [];
      after = record { used = 32; first = 0; next = 1; level = 7 };
    }

-- -77 EBADFD: the standing numbers don't fit; making a reader only copies first
abbrev pub numbers-misfit : Calls
numbers-misfit =
    record {
      before = hand (set_by_hand 0 5 5 9);
      earlier = [];
      steps = outside 0 [] gives wrote (minus 77) 0
          ∷ box 1 0 0 [] [] gives wrote (minus 77) 0
          ∷ read 0 (quoted "x") gives gave (minus 77) 0 0 (quoted "x")
          ∷ seek 0 (pos 1) (pos 3) gives sought (minus 77) 0
          ∷ asked 2 1 (quoted "x") gives told (minus 77) (quoted "x")
          ∷ poor 2 0 true [] gives told (minus 77) []
          ∷ check gives verdict (Err Numbers)
          ∷ make gives made 5
          ∷ [];
      after = record { used = 0; first = 5; next = 5; level = 9 };
    }

-- -75 EOVERFLOW: no number is left; -22 comes first. -32 EPIPE: a reader at 0, whatever it lends
abbrev pub numbers-over : Calls
numbers-over =
    record {
      before = hand (set_by_hand 0 last last 7);
      earlier = [];
      steps = check gives verdict (Ok tt)
          ∷ outside 0 [] gives wrote (minus 75) 0
          ∷ box 1 0 0 [] [] gives wrote (minus 75) 0
          ∷ outside 0 (replicate 961 97) gives wrote (minus 22) 0
          ∷ outside 0 (quoted "\0") gives wrote (minus 22) 0
          ∷ box 256 0 0 [] [] gives wrote (minus 22) 0
          ∷ read 0 [] gives gave (minus 32) last last []
          ∷ [];
      after = record { used = 0; first = last; next = last; level = 7 };
    }

-- the last number but one is given, and then -75 EOVERFLOW
abbrev pub last-number : Calls
last-number =
    record {
      before = hand (set_by_hand 0 18446744073709551614 18446744073709551614 7);
      earlier = [];
      steps = outside 0 [] gives wrote (pos 0) 0 ∷ outside 0 [] gives wrote (minus 75) 0 ∷ [];
      after = record { used = 32; first = 18446744073709551614; next = last; level = 7 };
    }

-- -77 EBADFD: a reader above next. -11 EAGAIN: one at next. -22 EINVAL: line longer than the lent buffer; other whence. -29 ESPIPE: offset not 0.
-- There is no reader 1
abbrev pub readers-refused : Calls
readers-refused =
    record {
      before = new;
      earlier = [];
      steps = make gives made 0
          ∷ place 0 1 gives set
          ∷ read 0 (quoted "x") gives gave (minus 77) 0 1 (quoted "x")
          ∷ place 0 0 gives set
          ∷ read 0 (quoted "x") gives gave (minus 11) 0 0 (quoted "x")
          ∷ read 1 (quoted "x") gives nobody
          ∷ outside 0 (quoted "x") gives wrote (pos 1) 0
          ∷ read 0 (blank 19) gives gave (minus 22) 0 0 (blank 19)
          ∷ seek 0 (minus 1) (pos 0) gives sought (minus 29) 0
          ∷ seek 0 (pos 0) (pos 1) gives sought (minus 22) 0
          ∷ seek 0 (pos 0) (minus 1) gives sought (minus 22) 0
          ∷ [];
      after = record { used = 33; first = 0; next = 1; level = 7 };
    }

-- -22 EINVAL: facility, level, size and dictionary of a write from the box
abbrev pub writes_refused : Calls
writes_refused =
    record {
      before = new;
      earlier = [];
      steps = box 256 0 0 [] [] gives wrote (minus 22) 0
          ∷ box 0 8 0 [] [] gives wrote (minus 22) 0
          ∷ box 255 7 0 [] [] gives wrote (pos 0) 0
          ∷ box 0 0 0 (replicate 958 97) (quoted "a=b") gives wrote (minus 22) 0
          ∷ box 0 0 0 [] (quoted "=") gives wrote (minus 22) 0
          ∷ box 0 0 0 [] (quoted "a") gives wrote (minus 22) 0
          ∷ box 0 0 0 [] (quoted "a=\0") gives wrote (minus 22) 0
          ∷ box 0 0 0 [] (quoted "a=") gives wrote (pos 2) 0
          ∷ [];
      after = record { used = 66; first = 0; next = 2; level = 7 };
    }

-- -22 EINVAL, as document 02's ticket 1 amends it: a zero byte from outside, as the only byte, at either end and in the middle, in the prefix, behind it,
-- before a final newline and behind it, among 960 bytes and 961. The box writes zeros; 960 bytes without one are taken
abbrev pub zeros_refused : Calls
zeros_refused =
    record {
      before = new;
      earlier = [];
      steps = make gives made 0
          ∷ box 1 4 0 (quoted "\0") [] gives wrote (pos 1) 0
          ∷ box 1 4 0 (quoted "a\0b") (quoted "a=\0b=") gives wrote (pos 8) 0
          ∷ outside 0 (quoted "\0") gives wrote (minus 22) 0
          ∷ outside 0 (quoted "<1" ++ (0 ∷ quoted "3>x")) gives wrote (minus 22) 0
          ∷ outside 0 (quoted "<13>\0") gives wrote (minus 22) 0
          ∷ outside 0 (quoted "\0\n") gives wrote (minus 22) 0
          ∷ outside 0 (quoted "x\n\0") gives wrote (minus 22) 0
          ∷ outside 0 (0 ∷ replicate 959 97) gives wrote (minus 22) 0
          ∷ outside 0 (replicate 480 97 ++ (0 ∷ replicate 479 97)) gives wrote (minus 22) 0
          ∷ outside 0 (replicate 959 97 ++ (0 ∷ [])) gives wrote (minus 22) 0
          ∷ outside 0 (replicate 960 97 ++ (0 ∷ [])) gives wrote (minus 22) 0
          ∷ outside 0 (replicate 961 97) gives wrote (minus 22) 0
          ∷ read 0 (blank 25) gives gave (pos 23) 0 1 (quoted "12,0,0,-,caller=0;\\x00\n" ++ blank 2)
          ∷ read 0 (blank 35) gives gave (pos 33) 0 2 (quoted "12,1,0,-,caller=0;a\\x00b\n a=\n b=\n" ++ blank 2)
          ∷ read 0 (blank 1) gives gave (minus 11) 0 2 (blank 1)
          ∷ outside 0 (replicate 960 97) gives wrote (pos 960) 2
          ∷ [];
      after = record { used = 992; first = 2; next = 3; level = 7 };
    }

-- -1 EPERM: without privilege, but for 3 and 10 with restriction off. -22 EINVAL: unknown type; len below 0; level. -14 EFAULT: len above the
-- lent buffer. -11 EAGAIN: nothing unread, but for len 0
abbrev pub commands_refused : Calls
commands_refused =
    record {
      before = new;
      earlier = [];
      steps = poor 2 0 false [] gives told (minus 1) []
          ∷ poor 3 1 true (blank 1) gives told (minus 1) (blank 1)
          ∷ poor 3 1 false (blank 1) gives told (pos 0) (blank 1)
          ∷ poor 10 0 true [] gives told (minus 1) []
          ∷ poor 10 0 false [] gives told (pos 1024) []
          ∷ asked 11 0 [] gives told (minus 22) []
          ∷ command (record { command = minus 1; len = pos 0; privilege = true; restriction = false }) [] gives told (minus 22) []
          ∷ command (record { command = pos 2; len = minus 1; privilege = true; restriction = false }) (blank 1) gives told (minus 22) (blank 1)
          ∷ command (record { command = pos 8; len = minus 1; privilege = true; restriction = false }) [] gives told (minus 22) []
          ∷ asked 2 2 (blank 1) gives told (minus 14) (blank 1)
          ∷ asked 3 2 (blank 1) gives told (minus 14) (blank 1)
          ∷ asked 4 2 (blank 1) gives told (minus 14) (blank 1)
          ∷ asked 2 1 (blank 1) gives told (minus 11) (blank 1)
          ∷ asked 2 0 [] gives told (pos 0) []
          ∷ [];
      after = record { used = 0; first = 0; next = 0; level = 7 };
    }

-- ---- the refusals of the receiving end, 2 to 8 in the line reader and on a board

-- 2 LONG: over 8,192 bytes, though it is unended too
abbrev pub long : List (List ℕ)
long = dots 8193 ∷ []

-- 3 UNENDED: empty, or no final newline, though it has no header; 8,192 bytes are not too long
abbrev pub unended : List (List ℕ)
unended = [] ∷ quoted "1,2,3,-;x" ∷ quoted "6,7,1,-;1-0" ∷ quoted "abc" ∷ dots 8192 ∷ []

-- 4 HEADER: no ';' before the first newline, under four fields, an empty flag field, though a number is wrong; a comma in the text parts no fields
abbrev pub headless : List (List ℕ)
headless =
    quoted "1,2,3,-\n;x\n"
    ∷ quoted "\n"
    ∷ quoted "01,2,3;x,y\n"
    ∷ quoted "1,2,3,;x\n"
    ∷ quoted "1,2,3,,-;x\n"
    ∷ []

-- 5 NUMBER: no plain decimal, or too large, though a byte is wrong
abbrev pub misnumbered : List (List ℕ)
misnumbered =
    quoted "01,2,3,-;\t\n"
    ∷ quoted ",2,3,-;x\n"
    ∷ quoted "1, 2,3,-;x\n"
    ∷ quoted "1,2,3a,-;x\n"
    ∷ quoted "2048,2,3,-;x\n"
    ∷ quoted "1,18446744073709551616,3,-;x\n"
    ∷ quoted "1,2,18446744073709551616,-;x\n"
    ∷ []

-- 6 BYTE: a byte below 32 or above 126, and what starts no escape, though a continuation has no space
abbrev pub misspelled : List (List ℕ)
misspelled =
    quoted "1,2,3,-;\t\nx\n"
    ∷ quoted "1,2,3,-;\u{7f}\n"
    ∷ quoted "1,2,3,-;\\x4A\n"
    ∷ quoted "1,2,3,-;\\x4\na\n"
    ∷ quoted "1,2,3,-;\\y41\n"
    ∷ quoted "1,2,3,-;\\\n"
    ∷ quoted "1,2,3,-;x\n a=\\x\n"
    ∷ []

-- 7 ENTRY: a continuation without its space, with \x00, without '=' or with '=' first, though the text is bulky
abbrev pub misentered : List (List ℕ)
misentered =
    quoted "1,2,3,-;x\n\n"
    ∷ quoted "1,2,3,-;x\na=b\n"
    ∷ quoted "1,2,3,-;x\n\\x20a=b\n"
    ∷ quoted "1,2,3,-;x\n a=b\\x00c=d\n"
    ∷ quoted "1,2,3,-;x\n ab\n"
    ∷ quoted "1,2,3,-;x\n =ab\n"
    ∷ quoted "1,2,3,-;x\n \\x3dab\n"
    ∷ quoted "1,2,3,-;x\n a=b\n c\n"
    ∷ (quoted "1,2,3,-;" ++ (dots 961 ++ quoted "\n a\n"))
    ∷ []

-- 8 BULK: text and joined dictionary over 960
abbrev pub bulky : List (List ℕ)
bulky =
    (quoted "1,2,3,-;" ++ (dots 961 ++ quoted "\n"))
    ∷ (quoted "1,2,3,-;" ++ (dots 956 ++ quoted "\n a=\n b=\n"))
    ∷ []

-- none of 2 to 8, each at the edge of one; their facilities are no channel's
abbrev pub well_shaped : List (List ℕ)
well_shaped =
    quoted "2047,18446744073709551615,18446744073709551615,-;x\n"
    ∷ quoted "0,0,0,-;\n"
    ∷ quoted "1,2,3,-; ~\n"
    ∷ quoted "1,2,3,-;\\x41\\x0a\\x00\n"
    ∷ quoted "1,2,3,-;x\n a\\x3db\n c==\n"
    ∷ (quoted "1,2,3,-;" ++ (dots 960 ++ quoted "\n"))
    ∷ (quoted "1,2,3,-;" ++ (dots 955 ++ quoted "\n a=\n b=\n"))
    ∷ []

-- ---- the refusals of a board alone

-- one message of channel 16
abbrev goal : List (List ℕ)
goal = quoted "134,7,1,-;1-0\n" ∷ []

-- a board of which slot 3 has this text length
abbrev sized : ℕ → Board
sized size = state (set_at (replicate 8 empty_slot) 3 (slot_of (shows 1 (dots size)))) (dots 7680)

-- the board after record 5 of channel 23 was shown
abbrev pub board₁ : Board
board₁ = board_after board₀ (quoted "191,5,1,-;up\n" ∷ [])

-- ---- the table

abbrev pub refusals : List Case
refusals =
    calls heading_fails
    ∷ calls numbers-misfit
    ∷ calls numbers-over
    ∷ calls last-number
    ∷ calls readers-refused
    ∷ calls writes_refused
    ∷ calls zeros_refused
    ∷ calls commands_refused
    -- 1 ROOM: result buffer under 960 bytes, numbers block not 48, though the message is empty
    ∷ line_answers 959 48 1 ([] ∷ goal)
    ∷ line_answers 960 47 1 ([] ∷ goal)
    ∷ line_answers 960 49 1 ([] ∷ goal)
    ∷ line_answers 961 48 0 goal
    -- 1 ROOM: board buffer not 7,680 or a slot's text length over 960, though the message is empty
    ∷ board_answers (fresh (dots 7679)) 1 ([] ∷ goal)
    ∷ board_answers (fresh (dots 7681)) 1 ([] ∷ goal)
    ∷ board_answers (sized 961) 1 ([] ∷ goal)
    ∷ board_answers (sized 960) 0 goal
    -- 2 to 8
    ∷ line_answers 960 48 2 long
    ∷ board_answers board₀ 2 long
    ∷ line_answers 960 48 3 unended
    ∷ board_answers board₀ 3 unended
    ∷ line_answers 960 48 4 headless
    ∷ board_answers board₀ 4 headless
    ∷ line_answers 960 48 5 misnumbered
    ∷ board_answers board₀ 5 misnumbered
    ∷ line_answers 960 48 6 misspelled
    ∷ board_answers board₀ 6 misspelled
    ∷ line_answers 960 48 7 misentered
    ∷ board_answers board₀ 7 misentered
    ∷ line_answers 960 48 8 bulky
    ∷ board_answers board₀ 8 bulky
    ∷ line_answers 960 48 0 well_shaped
    -- 9 CHANNEL: facility outside 16 to 23
    ∷ board_answers board₀ 9 well_shaped
    ∷ board_answers board₀ 9 (quoted "127,7,1,-;1-0\n" ∷ quoted "192,7,1,-;1-0\n" ∷ [])
    ∷ board_answers board₀ 0 (quoted "128,7,1,-;1-0\n" ∷ quoted "191,7,1,-;1-0\n" ∷ [])
    -- 10 LATE: that channel has shown this number or a higher one; another channel, or a higher number, is not late
    ∷ board_answers board₁ 10 (quoted "184,4,9,-;1-0\n" ∷ quoted "184,5,9,-;1-0\n" ∷ [])
    ∷ board_answers board₁ 0 (quoted "184,6,0,-;1-0\n" ∷ quoted "176,4,9,-;1-0\n" ∷ [])
    ∷ []
