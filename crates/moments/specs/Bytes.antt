-- Where document 01 says that a write puts its bytes: heading, text and dictionary as they lie in the buffer, the start place, and the bytes that stay
-- as they were. A heading: time 8, sequence 8, text length 2, dictionary length 2, prefix 2, flag 45, zero, caller 4, four
-- zeros; each number's lowest byte first.
use Rattle.std.specs.Prelude.{ℕ, List, [], ◌∷◌, ◌++◌, pos, drop, replicate, Some, None}
use Rattle.slices.specs.Quoted.{quoted}
use Rattle.history.specs.Calls.{make, read, seek, minimum, wrote, made, gave, sought, told}
use Rattle.moments.specs.Case.{outside, box, Step, ◌gives◌, Leaves, Case, leaves, minus, blank, asked}

-- 0x0102030405060708 and 0x1112131415161718 ns: no two bytes alike
abbrev time₁ : ℕ
time₁ = 72623859790382856

abbrev time₂ : ℕ
time₂ = 1230066625199609624

-- ---- one write in a fresh log: it lies at place 0, and the bytes behind it stay

-- T1's write at time₁: 32 + 11 = 43 bytes, prefix 134
abbrev goal : List ℕ → List ℕ
goal held =
    (8 ∷ 7 ∷ 6 ∷ 5 ∷ 4 ∷ 3 ∷ 2 ∷ 1 ∷ [])
    ++ (blank 8 ++ ((11 ∷ 0 ∷ 0 ∷ 0 ∷ 134 ∷ 0 ∷ 45 ∷ 0 ∷ []) ++ (blank 8 ++ (quoted "GOAL home 1" ++ drop 43 held))))

abbrev pub in_front : Leaves
in_front =
    record {
      steps = outside time₁ (quoted "<134>GOAL home 1") gives wrote (pos 16) 0 ∷ [];
      numbers = record { start = 0; used = 43; first = 0; next = 1; clear = 0; position = 0; offset = 0; level = 7; minimum = 1; saved = None };
      buffer = goal;
    }

-- from the box: 9 bytes of text and behind it 6 of dictionary, zero byte and all; prefix 255 x 8 + 7 = 2,047 = 255 + 7 x 256
abbrev pub with_dictionary : Leaves
with_dictionary =
    record {
      steps = box 255 7 time₂ (quoted "bridge up") (quoted "k=1\0l=") gives wrote (pos 15) 0 ∷ [];
      numbers = record { start = 0; used = 47; first = 0; next = 1; clear = 0; position = 0; offset = 0; level = 7; minimum = 1; saved = None };
      buffer = λ held.
          (24 ∷ 23 ∷ 22 ∷ 21 ∷ 20 ∷ 19 ∷ 18 ∷ 17 ∷ [])
          ++ (blank 8 ++ ((9 ∷ 0 ∷ 6 ∷ 0 ∷ 255 ∷ 7 ∷ 45 ∷ 0 ∷ []) ++ (blank 8 ++ (quoted "bridge upk=1\0l=" ++ drop 47 held))));
    }

-- no other call touches a byte: 2 moves its position alone, 5 the mark, 8 the level, seek and read the reader, and a refused write nothing
abbrev pub only-marks : Leaves
only-marks =
    record {
      steps = outside time₁ (quoted "<134>GOAL home 1") gives wrote (pos 16) 0
          ∷ make gives made 0
          ∷ asked 2 5 (blank 5) gives told (pos 5) (quoted "<134>")
          ∷ asked 5 0 [] gives told (pos 0) []
          ∷ asked 8 3 [] gives told (pos 0) []
          ∷ outside time₂ (replicate 961 97) gives wrote (minus 22) 0
          ∷ seek 0 (pos 0) (pos 2) gives sought (pos 0) 1
          ∷ read 0 [] gives gave (minus 11) 0 1 []
          ∷ [];
      numbers = record { start = 0; used = 43; first = 0; next = 1; clear = 1; position = 0; offset = 5; level = 3; minimum = 1; saved = None };
      buffer = goal;
    }

-- 6 moves the level and the save alone, 8 the level, and the box's call the minimum; a refused one nothing (document 02, ticket 4)
abbrev pub only-setting : Leaves
only-setting =
    record {
      steps = outside time₁ (quoted "<134>GOAL home 1") gives wrote (pos 16) 0
          ∷ asked 6 0 [] gives told (pos 0) []
          ∷ asked 8 3 [] gives told (pos 0) []
          ∷ minimum (pos 2) gives told (pos 0) []
          ∷ minimum (pos 9) gives told (minus 22) []
          ∷ [];
      numbers = record { start = 0; used = 43; first = 0; next = 1; clear = 0; position = 0; offset = 0; level = 3; minimum = 2; saved = Some 7 };
      buffer = goal;
    }

-- ---- a record that runs past the buffer's end and goes on at its start

-- 976 bytes at time₁, up to place 976: text of 944 = 176 + 3 x 256; then 32 + 20 = 52 bytes at time₂, of which 48 lie before the end
abbrev over_the_end : List Step
over_the_end =
    outside time₁ (replicate 944 97) gives wrote (pos 944) 0
    ∷ outside time₂ (quoted "<134>GOAL home 1, away 0!") gives wrote (pos 25) 1
    ∷ []

-- start is 976; the last 4 bytes lie at 0 to 3, and 4 to 975 stay what the dropped record left there
abbrev pub text-over : Leaves
text-over =
    record {
      steps = over_the_end;
      numbers = record { start = 976; used = 52; first = 1; next = 2; clear = 0; position = 0; offset = 0; level = 7; minimum = 1; saved = None };
      buffer = λ held.
          quoted "y 0!"
          ++ ((4 ∷ 3 ∷ 2 ∷ 1 ∷ [])
          ++ (blank 8
          ++ ((176 ∷ 3 ∷ 0 ∷ 0 ∷ 12 ∷ 0 ∷ 45 ∷ 0 ∷ [])
          ++ (blank 8
          ++ (replicate 944 97
          ++ ((24 ∷ 23 ∷ 22 ∷ 21 ∷ 20 ∷ 19 ∷ 18 ∷ 17 ∷ [])
          ++ ((1 ∷ blank 7) ++ ((20 ∷ 0 ∷ 0 ∷ 0 ∷ 134 ∷ 0 ∷ 45 ∷ 0 ∷ []) ++ (blank 8 ++ quoted "GOAL home 1, awa")))))))));
    }

-- then 976 bytes more: start goes on from 976 by 52, which is 4; they lie at 4 to 979, and 0 to 3 and 980 to 1,023 stay
abbrev pub start-over : Leaves
start-over =
    record {
      steps = over_the_end ++ (outside 0 (replicate 944 98) gives wrote (pos 944) 1 ∷ []);
      numbers = record { start = 4; used = 976; first = 2; next = 3; clear = 0; position = 0; offset = 0; level = 7; minimum = 1; saved = None };
      buffer = λ held.
          quoted "y 0!"
          ++ (blank 8
          ++ ((2 ∷ blank 7)
          ++ ((176 ∷ 3 ∷ 0 ∷ 0 ∷ 12 ∷ 0 ∷ 45 ∷ 0 ∷ [])
          ++ (blank 8
          ++ (replicate 944 98
          ++ ((20 ∷ 19 ∷ 18 ∷ 17 ∷ [])
          ++ ((1 ∷ blank 7) ++ ((20 ∷ 0 ∷ 0 ∷ 0 ∷ 134 ∷ 0 ∷ 45 ∷ 0 ∷ []) ++ (blank 8 ++ quoted "GOAL home 1, awa")))))))));
    }

-- 976 + 45 = 1,021: three bytes of the third record's time lie before the end, the other 30 bytes of it at 0 to 29
abbrev pub heading-over : Leaves
heading-over =
    record {
      steps = outside time₂ (replicate 944 97) gives wrote (pos 944) 0
          ∷ outside 256 (quoted "Kick-off 0-0.") gives wrote (pos 13) 0
          ∷ outside time₁ (quoted "<134>x") gives wrote (pos 6) 1
          ∷ [];
      numbers = record { start = 976; used = 78; first = 1; next = 3; clear = 0; position = 0; offset = 0; level = 7; minimum = 1; saved = None };
      buffer = λ held.
          (5 ∷ 4 ∷ 3 ∷ 2 ∷ 1 ∷ [])
          ++ ((2 ∷ blank 7)
          ++ ((1 ∷ 0 ∷ 0 ∷ 0 ∷ 134 ∷ 0 ∷ 45 ∷ 0 ∷ [])
          ++ (blank 8
          ++ (quoted "x"
          ++ (blank 2
          ++ (replicate 944 97
          ++ ((0 ∷ 1 ∷ blank 6)
          ++ ((1 ∷ blank 7) ++ ((13 ∷ 0 ∷ 0 ∷ 0 ∷ 12 ∷ 0 ∷ 45 ∷ 0 ∷ []) ++ (blank 8 ++ (quoted "Kick-off 0-0." ++ (8 ∷ 7 ∷ 6 ∷ []))))))))))));
    }

-- 32 + 12 = 44: the dictionary's first four bytes, its zero byte the last, lie at 1,020 to 1,023, the other two at 0 and 1; prefix 3 x 8 + 6 = 30
abbrev pub dictionary-over : Leaves
dictionary-over =
    record {
      steps = outside time₁ (replicate 944 97) gives wrote (pos 944) 0
          ∷ box 3 6 time₂ (quoted "bridge 12 up") (quoted "k=1\0l=") gives wrote (pos 18) 1
          ∷ [];
      numbers = record { start = 976; used = 50; first = 1; next = 2; clear = 0; position = 0; offset = 0; level = 7; minimum = 1; saved = None };
      buffer = λ held.
          quoted "l="
          ++ ((6 ∷ 5 ∷ 4 ∷ 3 ∷ 2 ∷ 1 ∷ [])
          ++ (blank 8
          ++ ((176 ∷ 3 ∷ 0 ∷ 0 ∷ 12 ∷ 0 ∷ 45 ∷ 0 ∷ [])
          ++ (blank 8
          ++ (replicate 944 97
          ++ ((24 ∷ 23 ∷ 22 ∷ 21 ∷ 20 ∷ 19 ∷ 18 ∷ 17 ∷ [])
          ++ ((1 ∷ blank 7) ++ ((12 ∷ 0 ∷ 6 ∷ 0 ∷ 30 ∷ 0 ∷ 45 ∷ 0 ∷ []) ++ (blank 8 ++ quoted "bridge 12 upk=1\0")))))))));
    }

-- 976 + 48 = 1,024: nothing is dropped, and the log is full up to its end
abbrev to_the_end : List Step
to_the_end =
    outside time₁ (replicate 944 97) gives wrote (pos 944) 0
    ∷ outside time₂ (quoted "GOAL home 1-0 no") gives wrote (pos 16) 0
    ∷ []

abbrev pub just_full : Leaves
just_full =
    record {
      steps = to_the_end;
      numbers = record { start = 0; used = 1024; first = 0; next = 2; clear = 0; position = 0; offset = 0; level = 7; minimum = 1; saved = None };
      buffer = λ held.
          (8 ∷ 7 ∷ 6 ∷ 5 ∷ 4 ∷ 3 ∷ 2 ∷ 1 ∷ [])
          ++ (blank 8
          ++ ((176 ∷ 3 ∷ 0 ∷ 0 ∷ 12 ∷ 0 ∷ 45 ∷ 0 ∷ [])
          ++ (blank 8
          ++ (replicate 944 97
          ++ ((24 ∷ 23 ∷ 22 ∷ 21 ∷ 20 ∷ 19 ∷ 18 ∷ 17 ∷ [])
          ++ ((1 ∷ blank 7) ++ ((16 ∷ 0 ∷ 0 ∷ 0 ∷ 12 ∷ 0 ∷ 45 ∷ 0 ∷ []) ++ (blank 8 ++ quoted "GOAL home 1-0 no"))))))));
    }

-- then an empty write: the first record goes, its text stays where it lay, and the new heading lies at 0 to 31
abbrev pub full_goes_on : Leaves
full_goes_on =
    record {
      steps = to_the_end ++ (outside 0 [] gives wrote (pos 0) 1 ∷ []);
      numbers = record { start = 976; used = 80; first = 1; next = 3; clear = 0; position = 0; offset = 0; level = 7; minimum = 1; saved = None };
      buffer = λ held.
          blank 8
          ++ ((2 ∷ blank 7)
          ++ ((0 ∷ 0 ∷ 0 ∷ 0 ∷ 12 ∷ 0 ∷ 45 ∷ 0 ∷ [])
          ++ (blank 8
          ++ (replicate 944 97
          ++ ((24 ∷ 23 ∷ 22 ∷ 21 ∷ 20 ∷ 19 ∷ 18 ∷ 17 ∷ [])
          ++ ((1 ∷ blank 7) ++ ((16 ∷ 0 ∷ 0 ∷ 0 ∷ 12 ∷ 0 ∷ 45 ∷ 0 ∷ []) ++ (blank 8 ++ quoted "GOAL home 1-0 no"))))))));
    }

-- ---- command 2 with len 0

-- its record was dropped, and the position stays there, at byte 5 of record 0, below first. 32 + 17 = 49 bytes: the last of them lies at 0
abbrev pub position-stays : Leaves
position-stays =
    record {
      steps = outside 0 (replicate 944 97) gives wrote (pos 944) 0
          ∷ asked 2 5 (blank 5) gives told (pos 5) (quoted "<12>a")
          ∷ outside 0 (quoted "GOAL home 1-0 now") gives wrote (pos 17) 1
          ∷ asked 2 0 [] gives told (pos 0) []
          ∷ [];
      numbers = record { start = 976; used = 49; first = 1; next = 2; clear = 0; position = 0; offset = 5; level = 7; minimum = 1; saved = None };
      buffer = λ held.
          quoted "w"
          ++ (blank 7
          ++ (blank 8
          ++ ((176 ∷ 3 ∷ 0 ∷ 0 ∷ 12 ∷ 0 ∷ 45 ∷ 0 ∷ [])
          ++ (blank 8
          ++ (replicate 944 97
          ++ (blank 8 ++ ((1 ∷ blank 7) ++ ((17 ∷ 0 ∷ 0 ∷ 0 ∷ 12 ∷ 0 ∷ 45 ∷ 0 ∷ []) ++ (blank 8 ++ quoted "GOAL home 1-0 no")))))))));
    }

abbrev pub stored : List Case
stored =
    leaves in_front
    ∷ leaves with_dictionary
    ∷ leaves only-marks
    ∷ leaves only-setting
    ∷ leaves text-over
    ∷ leaves start-over
    ∷ leaves heading-over
    ∷ leaves dictionary-over
    ∷ leaves just_full
    ∷ leaves full_goes_on
    ∷ leaves position-stays
    ∷ []
