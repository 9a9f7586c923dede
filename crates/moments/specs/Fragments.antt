-- Document 02's ticket 6, on the log: a write from the box that says it is a fragment; worked out by hand from the ticket.
use Rattle.std.specs.Prelude.{ℕ, List, [], ◌∷◌, ◌++◌, pos, drop, replicate, None, Ok, Err}
use Rattle.slices.specs.Quoted.{quoted}
use Rattle.console.specs.Console.{setting_fresh}
use Rattle.history.specs.Calls.{make, read, seek, check, State, wrote, made, gave, sought, told, verdict}
use Rattle.moments.specs.Case.{outside, box, fragment, ◌gives◌, new, hand, Calls, Leaves, Case, calls, leaves, minus, blank, asked}
use Rattle.eventlog.specs.declared.Misfit.TheVariants.{Heading}

-- its line has 'c'; one that doesn't say so has '-', and so has every write from outside. The syslog form shows no flag
abbrev pub in_pieces : Calls
in_pieces =
    record {
      before = new;
      earlier = [];
      steps = fragment 16 6 0 (quoted "1-") [] gives wrote (pos 2) 0
          ∷ box 16 6 1000 (quoted "0") [] gives wrote (pos 1) 0
          ∷ outside 2000 (quoted "<134>c;c") gives wrote (pos 8) 0
          ∷ fragment 16 6 3000 [] (quoted "k=v") gives wrote (pos 3) 0
          ∷ make gives made 0
          ∷ read 0 (blank 23) gives gave (pos 22) 0 1 (quoted "134,0,0,c,caller=0;1-\n" ++ blank 1)
          ∷ read 0 (blank 21) gives gave (pos 21) 0 2 (quoted "134,1,1,-,caller=0;0\n")
          ∷ read 0 (blank 23) gives gave (pos 23) 0 3 (quoted "134,2,2,-,caller=0;c;c\n")
          ∷ read 0 (blank 24) gives gave (minus 22) 0 3 (blank 24)
          ∷ read 0 (blank 25) gives gave (pos 25) 0 4 (quoted "134,3,3,c,caller=0;\n k=v\n")
          ∷ asked 3 30 (blank 30) gives told (pos 30) (quoted "<134>1-\n<134>0\n<134>c;c\n<134>\n")
          ∷ check gives verdict (Ok tt)
          ∷ [];
      after = record { used = 137; first = 0; next = 4; level = 7 };
    }

-- it is refused as any write from the box
abbrev pub fragments-refused : Calls
fragments-refused =
    record {
      before = new;
      earlier = [];
      steps = fragment 256 0 0 [] [] gives wrote (minus 22) 0
          ∷ fragment 0 8 0 [] [] gives wrote (minus 22) 0
          ∷ fragment 255 7 0 [] [] gives wrote (pos 0) 0
          ∷ fragment 0 0 0 (replicate 961 97) [] gives wrote (minus 22) 0
          ∷ fragment 0 0 0 [] (quoted "=") gives wrote (minus 22) 0
          ∷ fragment 0 0 0 (replicate 960 97) [] gives wrote (pos 960) 0
          ∷ [];
      after = record { used = 1024; first = 0; next = 2; level = 7 };
    }

-- its heading has 99: 32 + 2 = 34 bytes, prefix 16 x 8 + 6 = 134
abbrev pub flag-stored : Leaves
flag-stored =
    record {
      steps = fragment 16 6 0 (quoted "1-") [] gives wrote (pos 2) 0 ∷ [];
      numbers = record { start = 0; used = 34; first = 0; next = 1; clear = 0; position = 0; offset = 0; level = 7; minimum = 1; saved = None };
      buffer = λ held. blank 16 ++ ((2 ∷ 0 ∷ 0 ∷ 0 ∷ 134 ∷ 0 ∷ 99 ∷ 0 ∷ []) ++ (blank 8 ++ (quoted "1-" ++ drop 34 held)));
    }

-- ---- by hand: record 5 of prefix 12 and text "x", whose heading has this flag

abbrev flagged : ℕ → State
flagged flag =
    record {
      log = record {
        start = record { 0 = 0 };
        used = 33;
        first = record { 0 = 5 };
        next = record { 0 = 6 };
        clear = record { 0 = 0 };
        position = record { 0 = 5 };
        offset = 0;
        console = setting_fresh;
      };
      buffer = blank 8 ++ (5 ∷ (blank 7 ++ (1 ∷ 0 ∷ 0 ∷ 0 ∷ 12 ∷ 0 ∷ flag ∷ 0 ∷ (blank 8 ++ (quoted "x" ++ blank 991)))));
      readers = 5 ∷ [];
    }

-- with 'c' it is read, though from outside none comes
abbrev pub c_fits : Calls
c_fits =
    record {
      before = hand (flagged 99);
      earlier = [];
      steps = check gives verdict (Ok tt)
          ∷ read 0 (blank 20) gives gave (pos 20) 0 6 (quoted "12,5,0,c,caller=0;x\n")
          ∷ [];
      after = record { used = 33; first = 5; next = 6; level = 7 };
    }

-- '+' is no flag of a record, nor any other byte
abbrev misfits : ℕ → Case
misfits flag =
    calls
    record {
      before = hand (flagged flag);
      earlier = [];
      steps = check gives verdict (Err (Heading 0))
          ∷ fragment 16 6 0 [] [] gives wrote (minus 77) 0
          ∷ read 0 (blank 11) gives gave (minus 77) 0 5 (blank 11)
          ∷ seek 0 (pos 0) (pos 0) gives sought (minus 77) 5
          ∷ [];
      after = record { used = 33; first = 5; next = 6; level = 7 };
    }

abbrev pub fragments : List Case
fragments =
    calls in_pieces
    ∷ calls fragments-refused
    ∷ leaves flag-stored
    ∷ calls c_fits
    ∷ misfits 43
    ∷ misfits 98
    ∷ misfits 100
    ∷ misfits 0
    ∷ []
