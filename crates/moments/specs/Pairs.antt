-- Two refusals at once: which of them is the answer, in the log by the order of "When the log says no", at the receiving end by "lowest number wins".
use Rattle.std.specs.Prelude.{ℕ, true, false, List, [], ◌∷◌, ◌++◌, pos, replicate}
use Rattle.slices.specs.Quoted.{quoted}
use Rattle.history.specs.Calls.{place, read, seek, wrote, set, gave, sought, told}
use Rattle.board.specs.Board.{fresh, state}
use Rattle.moments.specs.Case.{outside, box, ◌gives◌, new, hand, Calls, dots, board₀, board_after, Pair, both, Case, calls, board_answers, line_pairs, board_pairs, minus, blank, asked, unprivileged, poor}
use Rattle.moments.specs.Refusals.{set_by_hand, last, board₁}

-- ---- the log

-- -77 before every other: console level 9 doesn't fit, and besides: -22 (961 bytes, a zero byte, facility 256, whence 1, type 11), -75 (next is
-- 2^64 - 1), -29 (offset 1), -32 (a reader at 0), -11 (one at next; nothing unread), -1, -14
abbrev pub ebadfd_first : Calls
ebadfd_first =
    record {
      before = hand (set_by_hand 0 last last 9);
      earlier = [];
      steps = outside 0 (replicate 961 97) gives wrote (minus 77) 0
          ∷ outside 0 (quoted "\0") gives wrote (minus 77) 0
          ∷ box 256 0 0 [] [] gives wrote (minus 77) 0
          ∷ outside 0 [] gives wrote (minus 77) 0
          ∷ seek 0 (pos 1) (pos 0) gives sought (minus 77) 0
          ∷ seek 0 (pos 0) (pos 1) gives sought (minus 77) 0
          ∷ read 0 [] gives gave (minus 77) 0 0 []
          ∷ place 0 last gives set
          ∷ read 0 [] gives gave (minus 77) 0 last []
          ∷ poor 9 0 true [] gives told (minus 77) []
          ∷ asked 11 0 [] gives told (minus 77) []
          ∷ asked 2 2 (blank 1) gives told (minus 77) (blank 1)
          ∷ asked 2 1 (blank 1) gives told (minus 77) (blank 1)
          ∷ [];
      after = record { used = 0; first = last; next = last; level = 9 };
    }

-- -1 before -22: unknown type, len below 0, level outside 1..8; with restriction on and off, but for 3
abbrev pub eperm_before_einval : Calls
eperm_before_einval =
    record {
      before = new;
      earlier = [];
      steps = poor 11 0 true [] gives told (minus 1) []
          ∷ poor 11 0 false [] gives told (minus 1) []
          ∷ unprivileged (minus 1) (pos 0) true [] gives told (minus 1) []
          ∷ unprivileged (minus 1) (pos 0) false [] gives told (minus 1) []
          ∷ unprivileged (pos 2) (minus 1) true (blank 1) gives told (minus 1) (blank 1)
          ∷ unprivileged (pos 2) (minus 1) false (blank 1) gives told (minus 1) (blank 1)
          ∷ unprivileged (pos 3) (minus 1) true (blank 1) gives told (minus 1) (blank 1)
          ∷ unprivileged (pos 4) (minus 1) true (blank 1) gives told (minus 1) (blank 1)
          ∷ unprivileged (pos 4) (minus 1) false (blank 1) gives told (minus 1) (blank 1)
          ∷ unprivileged (pos 8) (minus 1) true [] gives told (minus 1) []
          ∷ poor 8 0 false [] gives told (minus 1) []
          ∷ poor 8 9 true [] gives told (minus 1) []
          ∷ poor 8 9 false [] gives told (minus 1) []
          -- type 3 with restriction off is permitted, and refused for its len; 10 has no use for a len
          ∷ unprivileged (pos 3) (minus 1) false (blank 1) gives told (minus 22) (blank 1)
          ∷ unprivileged (pos 10) (minus 1) false [] gives told (pos 1024) []
          ∷ [];
      after = record { used = 0; first = 0; next = 0; level = 7 };
    }

-- -1 before -14 and -11, and -14 before -11, with nothing unread. -22 meets neither: a len below 0 is not above the lent buffer and not above 0, and an
-- unknown type or 8 is none of 2, 3, 4
abbrev pub efault_between : Calls
efault_between =
    record {
      before = new;
      earlier = [];
      steps = outside 0 (quoted "x") gives wrote (pos 1) 0
          ∷ poor 2 2 true (blank 1) gives told (minus 1) (blank 1)
          ∷ poor 2 2 false (blank 1) gives told (minus 1) (blank 1)
          ∷ poor 3 2 true (blank 1) gives told (minus 1) (blank 1)
          ∷ poor 4 2 true (blank 1) gives told (minus 1) (blank 1)
          ∷ poor 4 2 false (blank 1) gives told (minus 1) (blank 1)
          ∷ poor 3 2 false (blank 1) gives told (minus 14) (blank 1)
          ∷ poor 3 6 false (blank 6) gives told (pos 6) (quoted "<12>x\n")
          ∷ asked 2 6 (blank 6) gives told (pos 6) (quoted "<12>x\n")
          ∷ poor 2 1 true (blank 1) gives told (minus 1) (blank 1)
          ∷ poor 2 1 false (blank 1) gives told (minus 1) (blank 1)
          ∷ asked 2 2 (blank 1) gives told (minus 14) (blank 1)
          ∷ asked 2 1 (blank 1) gives told (minus 11) (blank 1)
          ∷ [];
      after = record { used = 33; first = 0; next = 1; level = 7 };
    }

-- -1 for each type of 0 to 9 but 3 with restriction off, though nothing else is wrong; none of them sets or moves anything: the record is unread and
-- not cleared, the level is 7
abbrev pub eperm_alone : Calls
eperm_alone =
    record {
      before = new;
      earlier = [];
      steps = outside 0 (quoted "x") gives wrote (pos 1) 0
          ∷ poor 0 0 false [] gives told (minus 1) []
          ∷ poor 1 0 false [] gives told (minus 1) []
          ∷ poor 2 1 false (blank 1) gives told (minus 1) (blank 1)
          ∷ poor 4 1 false (blank 1) gives told (minus 1) (blank 1)
          ∷ poor 5 0 false [] gives told (minus 1) []
          ∷ poor 6 0 false [] gives told (minus 1) []
          ∷ poor 7 0 false [] gives told (minus 1) []
          ∷ poor 8 1 false [] gives told (minus 1) []
          ∷ poor 9 0 false [] gives told (minus 1) []
          ∷ asked 9 0 [] gives told (pos 6) []
          ∷ asked 3 6 (blank 6) gives told (pos 6) (quoted "<12>x\n")
          ∷ [];
      after = record { used = 33; first = 0; next = 1; level = 7 };
    }

-- ---- the receiving end

-- What makes each: 2 an added field of 8,192 bytes; 3 no final newline; 4 an empty flag field; 5 a time with a leading zero; 6 a tab in the text;
-- 7 a continuation without its space; 8 a text of 961 bytes; 9 facility 15; 10 record 5 of channel 23 again. Any two of 1 to 8 can meet.

abbrev added : List ℕ
added = dots 8192

-- 1 ROOM, which is the buffers', with each of 2 to 8
abbrev with_room : List Pair
with_room =
    both 1 2 (quoted "134,7,1,-," ++ (added ++ quoted ";1-0\n"))
    ∷ both 1 3 (quoted "134,7,1,-;1-0")
    ∷ both 1 4 (quoted "134,7,1,;1-0\n")
    ∷ both 1 5 (quoted "134,7,01,-;1-0\n")
    ∷ both 1 6 (quoted "134,7,1,-;1-0\t\n")
    ∷ both 1 7 (quoted "134,7,1,-;1-0\na=b\n")
    ∷ both 1 8 (quoted "134,7,1,-;" ++ (dots 961 ++ quoted "\n"))
    ∷ []

-- two of 2 to 8
abbrev misshapen : List Pair
misshapen =
    both 2 3 (quoted "134,7,1,-," ++ (added ++ quoted ";1-0"))
    ∷ both 2 4 (quoted "134,7,1,," ++ (added ++ quoted ";1-0\n"))
    ∷ both 2 5 (quoted "134,7,01,-," ++ (added ++ quoted ";1-0\n"))
    ∷ both 2 6 (quoted "134,7,1,-," ++ (added ++ quoted ";1-0\t\n"))
    ∷ both 2 7 (quoted "134,7,1,-," ++ (added ++ quoted ";1-0\na=b\n"))
    ∷ both 2 8 (quoted "134,7,1,-," ++ (added ++ (quoted ";" ++ (dots 961 ++ quoted "\n"))))
    ∷ both 3 4 (quoted "134,7,1,;1-0")
    ∷ both 3 5 (quoted "134,7,01,-;1-0")
    ∷ both 3 6 (quoted "134,7,1,-;1-0\t")
    ∷ both 3 7 (quoted "134,7,1,-;1-0\na=b")
    ∷ both 3 8 (quoted "134,7,1,-;" ++ dots 961)
    ∷ both 4 5 (quoted "134,7,01,;1-0\n")
    ∷ both 4 6 (quoted "134,7,1,;1-0\t\n")
    ∷ both 4 7 (quoted "134,7,1,;1-0\na=b\n")
    ∷ both 4 8 (quoted "134,7,1,;" ++ (dots 961 ++ quoted "\n"))
    ∷ both 5 6 (quoted "134,7,01,-;1-0\t\n")
    ∷ both 5 7 (quoted "134,7,01,-;1-0\na=b\n")
    ∷ both 5 8 (quoted "134,7,01,-;" ++ (dots 961 ++ quoted "\n"))
    ∷ both 6 7 (quoted "134,7,1,-;1-0\t\na=b\n")
    ∷ both 6 8 (quoted "134,7,1,-;" ++ (dots 961 ++ quoted "\t\n"))
    ∷ both 7 8 (quoted "134,7,1,-;" ++ (dots 961 ++ quoted "\na=b\n"))
    ∷ []

-- 9 CHANNEL with each of 2 to 8
abbrev with_channel : List Pair
with_channel =
    both 2 9 (quoted "127,7,1,-," ++ (added ++ quoted ";1-0\n"))
    ∷ both 3 9 (quoted "127,7,1,-;1-0")
    ∷ both 4 9 (quoted "127,7,1,;1-0\n")
    ∷ both 5 9 (quoted "127,7,01,-;1-0\n")
    ∷ both 6 9 (quoted "127,7,1,-;1-0\t\n")
    ∷ both 7 9 (quoted "127,7,1,-;1-0\na=b\n")
    ∷ both 8 9 (quoted "127,7,1,-;" ++ (dots 961 ++ quoted "\n"))
    ∷ []

-- 10 LATE with each of 2 to 8. Never with 9: a message without a channel meets no slot
abbrev with_late : List Pair
with_late =
    both 2 10 (quoted "184,5,1,-," ++ (added ++ quoted ";1-0\n"))
    ∷ both 3 10 (quoted "184,5,1,-;1-0")
    ∷ both 4 10 (quoted "184,5,1,;1-0\n")
    ∷ both 5 10 (quoted "184,5,01,-;1-0\n")
    ∷ both 6 10 (quoted "184,5,1,-;1-0\t\n")
    ∷ both 7 10 (quoted "184,5,1,-;1-0\na=b\n")
    ∷ both 8 10 (quoted "184,5,1,-;" ++ (dots 961 ++ quoted "\n"))
    ∷ []

abbrev pub together : List Case
together =
    calls ebadfd_first
    ∷ calls eperm_before_einval
    ∷ calls efault_between
    ∷ calls eperm_alone
    -- the line reader: result buffer of 959 bytes, then buffers as they should be
    ∷ line_pairs 959 48 with_room
    ∷ line_pairs 960 48 misshapen
    -- the board: buffer of 7,679 bytes, also of a board that has shown record 5; then boards as they should be
    ∷ board_pairs (fresh (dots 7679)) (with_room ++ (both 1 9 (quoted "127,7,1,-;1-0\n") ∷ []))
    ∷ board_pairs (state board₁.slots (dots 7679)) (both 1 10 (quoted "184,5,1,-;1-0\n") ∷ [])
    ∷ board_pairs board₀ misshapen
    ∷ board_pairs board₀ with_channel
    ∷ board_pairs board₁ with_late
    -- facilities 15 and 24 beside the slots that have shown a higher number
    ∷ board_answers (board_after board₁ (quoted "128,9,1,-;up\n" ∷ [])) 9 (quoted "127,5,1,-;1-0\n" ∷ quoted "192,5,1,-;1-0\n" ∷ [])
    ∷ []
