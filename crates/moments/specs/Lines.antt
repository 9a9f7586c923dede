-- Document 02's ticket 5: each line of a text carries its prefix in the syslog form; worked out by hand from the ticket.
use Rattle.std.specs.Prelude.{ℕ, zero, suc, List, [], ◌∷◌, ◌++◌, ℤ, pos, replicate, Result, Ok, Err, ⊤}
use Rattle.slices.specs.Quoted.{quoted}
use Rattle.console.specs.Console.{setting_fresh}
use Rattle.history.specs.Calls.{make, read, check, State, wrote, made, gave, told, verdict}
use Rattle.moments.specs.Case.{outside, box, ◌gives◌, new, hand, Calls, calls_of, Case, calls, minus, blank, asked}
use Rattle.eventlog.specs.declared.Misfit.TheVariants.{Numbers}
use Rattle.eventlog.specs.declared.Misfit.{Misfit}

-- "", newline, "a" newline, newline "a", two newlines: 6, 12, 13, 13 and 18 bytes
abbrev pub five_texts : Calls
five_texts =
    record {
      before = new;
      earlier = [];
      steps = box 16 6 0 [] [] gives wrote (pos 0) 0
          ∷ asked 9 0 [] gives told (pos 6) []
          ∷ box 16 6 0 (quoted "\n") [] gives wrote (pos 1) 0
          ∷ asked 9 0 [] gives told (pos 18) []
          ∷ box 16 6 0 (quoted "a\n") [] gives wrote (pos 2) 0
          ∷ asked 9 0 [] gives told (pos 31) []
          ∷ box 16 6 0 (quoted "\na") [] gives wrote (pos 2) 0
          ∷ asked 9 0 [] gives told (pos 44) []
          ∷ box 16 6 0 (quoted "\n\n") [] gives wrote (pos 2) 0
          ∷ asked 9 0 [] gives told (pos 62) []
          ∷ asked 3 62 (blank 63) gives told (pos 62) (quoted "<134>\n<134>\n<134>\n<134>a\n<134>\n<134>\n<134>a\n<134>\n<134>\n<134>\n" ++ blank 1)
          ∷ [];
      after = record { used = 167; first = 0; next = 5; level = 7 };
    }

-- from outside one final newline is dropped; the kmsg line does not change
abbrev pub team_sheet : Calls
team_sheet =
    record {
      before = new;
      earlier = [];
      steps = outside 0 (quoted "<134>home 1\naway 0\n") gives wrote (pos 19) 0
          ∷ asked 9 0 [] gives told (pos 24) []
          ∷ asked 4 24 (blank 24) gives told (pos 24) (quoted "<134>home 1\n<134>away 0\n")
          ∷ asked 3 24 (blank 24) gives told (pos 0) (blank 24)
          ∷ asked 9 0 [] gives told (pos 24) []
          ∷ make gives made 0
          ∷ read 0 (blank 49) gives gave (pos 36) 0 1 (quoted "134,0,0,-,caller=0;home 1\\x0aaway 0\n" ++ blank 13)
          ∷ [];
      after = record { used = 45; first = 0; next = 1; level = 7 };
    }

-- command 2 cut on each border of a later line, and inside its prefix
abbrev pub cut-lines : Calls
cut-lines =
    record {
      before = new;
      earlier = [];
      steps = outside 0 (quoted "a\nb") gives wrote (pos 3) 0
          ∷ asked 2 5 (blank 5) gives told (pos 5) (quoted "<12>a")
          ∷ asked 2 1 (blank 1) gives told (pos 1) (quoted "\n")
          ∷ asked 9 0 [] gives told (pos 6) []
          ∷ asked 2 2 (blank 2) gives told (pos 2) (quoted "<1")
          ∷ asked 2 2 (blank 3) gives told (pos 2) (quoted "2>" ++ blank 1)
          ∷ asked 9 0 [] gives told (pos 2) []
          ∷ asked 2 1 (blank 1) gives told (pos 1) (quoted "b")
          ∷ asked 2 9 (blank 9) gives told (pos 1) (quoted "\n" ++ blank 8)
          ∷ asked 2 1 (blank 1) gives told (minus 11) (blank 1)
          ∷ [];
      after = record { used = 35; first = 0; next = 1; level = 7 };
    }

-- command 3 likewise, from the end
abbrev pub last-lines : Calls
last-lines =
    record {
      before = new;
      earlier = calls_of cut-lines;
      steps = asked 3 2 (blank 2) gives told (pos 2) (quoted "b\n")
          ∷ asked 3 4 (blank 4) gives told (pos 4) (quoted "2>b\n")
          ∷ asked 3 6 (blank 6) gives told (pos 6) (quoted "<12>b\n")
          ∷ asked 3 7 (blank 7) gives told (pos 7) (quoted "\n<12>b\n")
          ∷ asked 3 12 (blank 12) gives told (pos 12) (quoted "<12>a\n<12>b\n")
          ∷ [];
      after = record { used = 35; first = 0; next = 1; level = 7 };
    }

-- so many empty lines with a prefix of four digits
abbrev empty_lines : ℕ → List ℕ
empty_lines zero = []
empty_lines (suc n) = quoted "<2047>\n" ++ empty_lines n

-- the longest form: 961 of them, 6,727 bytes; its record goes while command 2 is at its last byte, the largest offset
abbrev pub longest_form : Calls
longest_form =
    record {
      before = new;
      earlier = [];
      steps = box 255 7 0 (replicate 960 10) [] gives wrote (pos 960) 0
          ∷ asked 9 0 [] gives told (pos 6727) []
          ∷ asked 3 9 (blank 9) gives told (pos 9) (quoted ">\n<2047>\n")
          ∷ asked 2 6726 (blank 6726) gives told (pos 6726) (empty_lines 960 ++ quoted "<2047>")
          ∷ asked 9 0 [] gives told (pos 1) []
          ∷ box 255 7 0 (quoted "goal withdrawn 0-0") [] gives wrote (pos 18) 1
          ∷ check gives verdict (Ok tt)
          ∷ asked 9 0 [] gives told (pos 25) []
          ∷ [];
      after = record { used = 50; first = 1; next = 2; level = 7 };
    }

-- ---- by hand: record 5 of prefix 12 and text "a" newline "b", whose form has 12 bytes, and a position

abbrev set_by_hand : ℕ → ℕ → State
set_by_hand position offset =
    record {
      log = record {
        start = record { 0 = 0 };
        used = 35;
        first = record { 0 = 5 };
        next = record { 0 = 6 };
        clear = record { 0 = 0 };
        position = record { 0 = position };
        offset = offset;
        console = setting_fresh;
      };
      buffer = blank 8 ++ (5 ∷ (blank 7 ++ (3 ∷ 0 ∷ 0 ∷ 0 ∷ 12 ∷ 0 ∷ 45 ∷ 0 ∷ (blank 8 ++ (quoted "a\nb" ++ blank 989)))));
      readers = 5 ∷ [];
    }

-- what the log check says of it, and command 9
abbrev placed : ℕ → ℕ → Result ⊤ Misfit → ℤ → Case
placed position offset fits unread =
    calls (record {
      before = hand (set_by_hand position offset);
      earlier = [];
      steps = check gives verdict fits ∷ asked 9 0 [] gives told unread [] ∷ [];
      after = record { used = 35; first = 5; next = 6; level = 7 };
    })

abbrev pub sheets : List Case
sheets =
    calls five_texts
    ∷ calls team_sheet
    ∷ calls cut-lines
    ∷ calls last-lines
    ∷ calls longest_form
    -- in the second line's prefix, at the form's last byte, and behind it
    ∷ placed 5 8 (Ok tt) (pos 4)
    ∷ placed 5 11 (Ok tt) (pos 1)
    ∷ placed 5 12 (Err Numbers) (minus 77)
    -- the position's record is gone: 6,726 and 6,727
    ∷ placed 4 6726 (Ok tt) (pos 12)
    ∷ placed 4 6727 (Err Numbers) (minus 77)
    ∷ []
