-- Document 02's ticket 7, on the log: every write states its caller; worked out by hand from the ticket.
use Rattle.std.specs.Prelude.{ℕ, true, false, List, [], ◌∷◌, ◌++◌, pos, drop, replicate, None, Ok, Err}
use Rattle.slices.specs.Quoted.{quoted}
use Rattle.console.specs.Console.{setting_fresh}
use Rattle.history.specs.Calls.{outside, box, make, read, seek, check, State, wrote, made, gave, sought, told, verdict}
use Rattle.moments.specs.Case.{◌gives◌, new, hand, Calls, Leaves, Case, calls, leaves, minus, blank, asked}
use Rattle.eventlog.specs.declared.Misfit.TheVariants.{Heading}

-- callers 0, 1 and 2^32 - 1, from outside and from the box, a fragment among them. The syslog form shows none
abbrev pub who_wrote : Calls
who_wrote =
    record {
      before = new;
      earlier = [];
      steps = outside 0 (quoted "<134>1-0") 4294967295 gives wrote (pos 8) 0
          ∷ box 16 6 1000 (quoted "0") [] false 1 gives wrote (pos 1) 0
          ∷ box 16 6 2000 (quoted "1-") (quoted "k=v") true 305419896 gives wrote (pos 5) 0
          ∷ outside 3000 (quoted "<134>,caller=9;") 0 gives wrote (pos 15) 0
          ∷ make gives made 0
          ∷ read 0 (blank 31) gives gave (minus 22) 0 0 (blank 31)
          ∷ read 0 (blank 32) gives gave (pos 32) 0 1 (quoted "134,0,0,-,caller=4294967295;1-0\n")
          ∷ read 0 (blank 22) gives gave (pos 21) 0 2 (quoted "134,1,1,-,caller=1;0\n" ++ blank 1)
          ∷ read 0 (blank 35) gives gave (pos 35) 0 3 (quoted "134,2,2,c,caller=305419896;1-\n k=v\n")
          ∷ read 0 (blank 30) gives gave (pos 30) 0 4 (quoted "134,3,3,-,caller=0;,caller=9;\n")
          ∷ asked 3 40 (blank 40) gives told (pos 40) (quoted "<134>1-0\n<134>0\n<134>1-\n<134>,caller=9;\n")
          ∷ check gives verdict (Ok tt)
          ∷ [];
      after = record { used = 147; first = 0; next = 4; level = 7 };
    }

-- the caller's bytes, lowest first, and four zeros: 1 + 2 x 256 + 3 x 256^2 + 4 x 256^3 = 67,305,985; 32 + 1 bytes, prefix 16 x 8 + 6 = 134
abbrev pub caller-stored : Leaves
caller-stored =
    record {
      steps = box 16 6 0 (quoted "1") [] false 67305985 gives wrote (pos 1) 0 ∷ [];
      numbers = record { start = 0; used = 33; first = 0; next = 1; clear = 0; position = 0; offset = 0; level = 7; minimum = 1; saved = None };
      buffer = λ held.
          blank 16
          ++ ((1 ∷ 0 ∷ 0 ∷ 0 ∷ 134 ∷ 0 ∷ 45 ∷ 0 ∷ []) ++ ((1 ∷ 2 ∷ 3 ∷ 4 ∷ 0 ∷ 0 ∷ 0 ∷ 0 ∷ []) ++ (quoted "1" ++ drop 33 held)));
    }

-- 966 + 32 = 998: two bytes of the third record's caller lie before the buffer's end, the other two and the zeros at 0 to 5; text of 934 = 166 + 3 x 256
abbrev pub caller-over : Leaves
caller-over =
    record {
      steps = outside 0 (replicate 934 97) 0 gives wrote (pos 934) 0
          ∷ outside 0 [] 0 gives wrote (pos 0) 0
          ∷ outside 0 (quoted "x") 67305985 gives wrote (pos 1) 1
          ∷ [];
      numbers = record { start = 966; used = 65; first = 1; next = 3; clear = 0; position = 0; offset = 0; level = 7; minimum = 1; saved = None };
      buffer = λ held.
          (3 ∷ 4 ∷ blank 4)
          ++ (quoted "x"
          ++ (blank 9
          ++ ((166 ∷ 3 ∷ 0 ∷ 0 ∷ 12 ∷ 0 ∷ 45 ∷ 0 ∷ [])
          ++ (blank 8
          ++ (replicate 934 97
          ++ (blank 8
          ++ ((1 ∷ blank 7)
          ++ ((0 ∷ 0 ∷ 0 ∷ 0 ∷ 12 ∷ 0 ∷ 45 ∷ 0 ∷ [])
          ++ (blank 8 ++ (blank 8 ++ ((2 ∷ blank 7) ++ ((1 ∷ 0 ∷ 0 ∷ 0 ∷ 12 ∷ 0 ∷ 45 ∷ 0 ∷ []) ++ (1 ∷ 2 ∷ [])))))))))))));
    }

-- ---- by hand: so many bytes used of these, the records' numbers from 5 up to next

abbrev holding : ℕ → ℕ → List ℕ → State
holding used next bytes =
    record {
      log = record {
        start = record { 0 = 0 };
        used = used;
        first = record { 0 = 5 };
        next = record { 0 = next };
        clear = record { 0 = 0 };
        position = record { 0 = next };
        offset = 0;
        console = setting_fresh;
      };
      buffer = bytes;
      readers = 5 ∷ [];
    }

-- a record of this number, prefix 12 and a text of so many bytes: document 01's 24 bytes of its heading
abbrev first24 : ℕ → ℕ → List ℕ
first24 number text = blank 8 ++ (number ∷ (blank 7 ++ (text ∷ 0 ∷ 0 ∷ 0 ∷ 12 ∷ 0 ∷ 45 ∷ 0 ∷ [])))

-- record 5 of text "x", with these eight bytes behind the first 24
abbrev with8 : List ℕ → State
with8 eight = holding 33 6 (first24 5 1 ++ (eight ++ (quoted "x" ++ blank 991)))

-- any caller fits, and is shown
abbrev pub largest-fits : Calls
largest-fits =
    record {
      before = hand (with8 (255 ∷ 255 ∷ 255 ∷ 255 ∷ 0 ∷ 0 ∷ 0 ∷ 0 ∷ []));
      earlier = [];
      steps = check gives verdict (Ok tt)
          ∷ read 0 (blank 29) gives gave (pos 29) 0 6 (quoted "12,5,0,-,caller=4294967295;x\n")
          ∷ [];
      after = record { used = 33; first = 5; next = 6; level = 7 };
    }

-- a log that the check finds wrong at this heading, and every call with it
abbrev misfits : State → ℕ → ℕ → ℕ → Case
misfits s heading used next =
    calls
    record {
      before = hand s;
      earlier = [];
      steps = check gives verdict (Err (Heading heading))
          ∷ outside 0 [] 1 gives wrote (minus 77) 0
          ∷ box 1 0 0 [] [] false 1 gives wrote (minus 77) 0
          ∷ read 0 (blank 29) gives gave (minus 77) 0 5 (blank 29)
          ∷ seek 0 (pos 0) (pos 0) gives sought (minus 77) 5
          ∷ asked 9 0 [] gives told (minus 77) []
          ∷ [];
      after = record { used = used; first = 5; next = next; level = 7 };
    }

-- headings of 24 bytes, as they were: record 5 of text "x", and record 6 of text "y" behind it. The first passes, with x for its caller, record 6's time for
-- its zeros and the time's last byte for its text; behind that there is no room for a heading
abbrev older : State
older = holding 50 7 (first24 5 1 ++ (quoted "x" ++ (first24 6 1 ++ (quoted "y" ++ blank 974))))

-- the same alone: 25 bytes are no heading
abbrev older_alone : State
older_alone = holding 25 6 (first24 5 1 ++ (quoted "x" ++ blank 999))

-- and with a text that is no zeros: the first one's four are its letters
abbrev older_text : State
older_text = holding 64 7 (first24 5 8 ++ (quoted "Kick-off" ++ (first24 6 8 ++ (quoted "Kick-off" ++ blank 960))))

-- ---- empty writes in 1,055 and 1,056 bytes: 32 and 33 are held

abbrev empty_of : ℕ → State
empty_of capacity = record { log = (holding 0 5 []).log; buffer = blank capacity; readers = 5 ∷ [] }

abbrev pub holds32 : Calls
holds32 =
    record {
      before = hand (empty_of 1055);
      earlier = replicate 32 (outside 0 [] 1);
      steps = outside 0 [] 1 gives wrote (pos 0) 1 ∷ read 0 [] gives gave (minus 32) 1 6 [] ∷ check gives verdict (Ok tt) ∷ [];
      after = record { used = 1024; first = 6; next = 38; level = 7 };
    }

abbrev pub holds33 : Calls
holds33 =
    record {
      before = hand (empty_of 1056);
      earlier = replicate 32 (outside 0 [] 1);
      steps = outside 0 [] 1 gives wrote (pos 0) 0 ∷ outside 0 (replicate 960 97) 1 gives wrote (pos 960) 31 ∷ check gives verdict (Ok tt) ∷ [];
      after = record { used = 1056; first = 36; next = 39; level = 7 };
    }

abbrev pub callers : List Case
callers =
    calls who_wrote
    ∷ leaves caller-stored
    ∷ leaves caller-over
    ∷ calls largest-fits
    -- each of the four bytes that are to be zero
    ∷ misfits (with8 (0 ∷ 0 ∷ 0 ∷ 0 ∷ 1 ∷ 0 ∷ 0 ∷ 0 ∷ [])) 0 33 6
    ∷ misfits (with8 (0 ∷ 0 ∷ 0 ∷ 0 ∷ 0 ∷ 1 ∷ 0 ∷ 0 ∷ [])) 0 33 6
    ∷ misfits (with8 (0 ∷ 0 ∷ 0 ∷ 0 ∷ 0 ∷ 0 ∷ 1 ∷ 0 ∷ [])) 0 33 6
    ∷ misfits (with8 (0 ∷ 0 ∷ 0 ∷ 0 ∷ 0 ∷ 0 ∷ 0 ∷ 255 ∷ [])) 0 33 6
    ∷ misfits older 1 50 7
    ∷ misfits older_alone 0 25 6
    ∷ misfits older_text 0 64 7
    ∷ calls holds32
    ∷ calls holds33
    ∷ []
