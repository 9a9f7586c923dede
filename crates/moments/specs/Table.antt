-- Document 01's "Moments to try": a row for each of T1 to T16, then the section's last line. T1, T7, T11 and T12 as document 02's ticket 7 amends them.
use Rattle.std.specs.Prelude.{List, [], ◌∷◌, ◌++◌, pos, replicate}
use Rattle.slices.specs.Quoted.{quoted}
use Rattle.history.specs.Calls.{make, read, seek, wrote, made, gave, sought, told}
use Rattle.moments.specs.Case.{outside, ◌gives◌, new, Calls, calls_of, Reads, shows, empty, Delivery, messages_of, Case, calls, reads, delivers, AllAgree, minus, blank, asked}

-- T1 fresh, outside "<134>GOAL home 1" at 5,000,999 ns: answer 16, cost 43, line "134,0,5000,-,caller=0;GOAL home 1" of 34 bytes with newline
abbrev pub t1 : Calls
t1 =
    record {
      before = new;
      earlier = [];
      steps = make gives made 0
          ∷ outside 5000999 (quoted "<134>GOAL home 1") gives wrote (pos 16) 0
          ∷ read 0 (blank 39) gives gave (pos 34) 0 1 (quoted "134,0,5000,-,caller=0;GOAL home 1\n" ++ blank 5)
          ∷ [];
      after = record { used = 43; first = 0; next = 1; level = 7 };
    }

-- T2 then command 9: 17; 2 with len 5: "<134>"; 9: 12
abbrev pub t2 : Calls
t2 =
    record {
      before = new;
      earlier = calls_of t1;
      steps = asked 9 0 [] gives told (pos 17) []
          ∷ asked 2 5 (blank 6) gives told (pos 5) (quoted "<134>" ++ blank 1)
          ∷ asked 9 0 [] gives told (pos 12) []
          ∷ [];
      after = record { used = 43; first = 0; next = 1; level = 7 };
    }

-- T3 then 3 with len 4: "e 1" and newline
abbrev pub t3 : Calls
t3 =
    record {
      before = new;
      earlier = calls_of t2;
      steps = asked 3 4 (blank 4) gives told (pos 4) (quoted "e 1\n") ∷ [];
      after = record { used = 43; first = 0; next = 1; level = 7 };
    }

-- T4 command 5, then 3: 0, and 9 still 12
abbrev pub t4 : Calls
t4 =
    record {
      before = new;
      earlier = calls_of t3;
      steps = asked 5 0 [] gives told (pos 0) []
          ∷ asked 3 4 (blank 4) gives told (pos 0) (blank 4)
          ∷ asked 9 0 [] gives told (pos 12) []
          ∷ [];
      after = record { used = 43; first = 0; next = 1; level = 7 };
    }

-- T5 "<3>x": prefix 11
abbrev pub t5 : Calls
t5 =
    record {
      before = new;
      earlier = [];
      steps = make gives made 0
          ∷ outside 0 (quoted "<3>x") gives wrote (pos 4) 0
          ∷ read 0 (blank 20) gives gave (pos 20) 0 1 (quoted "11,0,0,-,caller=0;x\n")
          ∷ [];
      after = record { used = 33; first = 0; next = 1; level = 7 };
    }

-- T6 "<2047>x": 2047; "<2048>x" is all text, prefix 12
abbrev pub t6 : Calls
t6 =
    record {
      before = new;
      earlier = [];
      steps = make gives made 0
          ∷ outside 0 (quoted "<2047>x") gives wrote (pos 7) 0
          ∷ outside 0 (quoted "<2048>x") gives wrote (pos 7) 0
          ∷ read 0 (blank 22) gives gave (pos 22) 0 1 (quoted "2047,0,0,-,caller=0;x\n")
          ∷ read 0 (blank 26) gives gave (pos 26) 0 2 (quoted "12,1,0,-,caller=0;<2048>x\n")
          ∷ [];
      after = record { used = 72; first = 0; next = 2; level = 7 };
    }

-- T7 empty write at time 0: "12,0,0,-,caller=0;"
abbrev pub t7 : Calls
t7 =
    record {
      before = new;
      earlier = [];
      steps = make gives made 0
          ∷ outside 0 [] gives wrote (pos 0) 0
          ∷ read 0 (blank 19) gives gave (pos 19) 0 1 (quoted "12,0,0,-,caller=0;\n")
          ∷ [];
      after = record { used = 32; first = 0; next = 1; level = 7 };
    }

-- T8 two newlines: text line "\x0a"
abbrev pub t8 : Calls
t8 =
    record {
      before = new;
      earlier = [];
      steps = make gives made 0
          ∷ outside 0 (quoted "\n\n") gives wrote (pos 2) 0
          ∷ read 0 (blank 23) gives gave (pos 23) 0 1 (quoted "12,0,0,-,caller=0;\\x0a\n")
          ∷ [];
      after = record { used = 33; first = 0; next = 1; level = 7 };
    }

-- T9 byte 126 stands, 127 and '\' become \x7f and \x5c
abbrev pub t9 : Calls
t9 =
    record {
      before = new;
      earlier = [];
      steps = make gives made 0
          ∷ outside 0 (126 ∷ 127 ∷ 92 ∷ []) gives wrote (pos 3) 0
          ∷ read 0 (blank 28) gives gave (pos 28) 0 1 (quoted "12,0,0,-,caller=0;~\\x7f\\x5c\n")
          ∷ [];
      after = record { used = 35; first = 0; next = 1; level = 7 };
    }

-- T10 999 ns is 0, 1,000 ns is 1
abbrev pub t10 : Calls
t10 =
    record {
      before = new;
      earlier = [];
      steps = make gives made 0
          ∷ outside 999 [] gives wrote (pos 0) 0
          ∷ outside 1000 [] gives wrote (pos 0) 0
          ∷ read 0 (blank 19) gives gave (pos 19) 0 1 (quoted "12,0,0,-,caller=0;\n")
          ∷ read 0 (blank 19) gives gave (pos 19) 0 2 (quoted "12,1,1,-,caller=0;\n")
          ∷ [];
      after = record { used = 64; first = 0; next = 2; level = 7 };
    }

-- T11 capacity 1,024: 33 empty writes leave 32, first 1; a reader at 0 gets -32, lost 1
abbrev pub t11 : Calls
t11 =
    record {
      before = new;
      earlier = [];
      steps = make gives made 0
          ∷ (replicate 32 (outside 0 [] gives wrote (pos 0) 0)
          ++ (outside 0 [] gives wrote (pos 0) 1
          ∷ read 0 [] gives gave (minus 32) 1 1 []
          ∷ []));
      after = record { used = 1024; first = 1; next = 33; level = 7 };
    }

-- T12 then 960 plain bytes: 31 dropped, first 32. 961: -22
abbrev pub t12 : Calls
t12 =
    record {
      before = new;
      earlier = calls_of t11;
      steps = outside 0 (replicate 960 97) gives wrote (pos 960) 31
          ∷ make gives made 32
          ∷ outside 0 (replicate 961 97) gives wrote (minus 22) 0
          ∷ [];
      after = record { used = 1024; first = 32; next = 34; level = 7 };
    }

-- T13 "6,339,5140900,-;NET: Registered protocol family 10" (001), and the same with ",caller=T1" before ';', read alike
abbrev pub t13 : Reads
t13 =
    record {
      messages = quoted "6,339,5140900,-;NET: Registered protocol family 10\n"
          ∷ quoted "6,339,5140900,-,caller=T1;NET: Registered protocol family 10\n"
          ∷ [];
      prefix = 6;
      sequence = 339;
      time = 5140900;
      flag = 0;
      text = quoted "NET: Registered protocol family 10";
      dictionary = [];
    }

-- T14 "134,7,1,-;1-0" shown
abbrev pub t14 : Delivery
t14 =
    record {
      earlier = [];
      message = quoted "134,7,1,-;1-0\n";
      answer = 0;
      channels = shows 7 (quoted "1-0") ∷ replicate 7 empty;
    }

-- T15 "134,9,3,-;0-0" shown
abbrev pub t15 : Delivery
t15 =
    record {
      earlier = messages_of t14;
      message = quoted "134,9,3,-;0-0\n";
      answer = 0;
      channels = shows 9 (quoted "0-0") ∷ replicate 7 empty;
    }

-- T16 "134,8,2,-;1-0" gives 10
abbrev pub t16 : Delivery
t16 =
    record {
      earlier = messages_of t15;
      message = quoted "134,8,2,-;1-0\n";
      answer = 10;
      channels = shows 9 (quoted "0-0") ∷ replicate 7 empty;
    }

-- Command 8 with 0 or 9: -22. Seek with offset 1 and whence 1: -29
abbrev pub last_line : Calls
last_line =
    record {
      before = new;
      earlier = [];
      steps = make gives made 0
          ∷ asked 8 0 [] gives told (minus 22) []
          ∷ asked 8 9 [] gives told (minus 22) []
          ∷ seek 0 (pos 1) (pos 1) gives sought (minus 29) 0
          ∷ [];
      after = record { used = 0; first = 0; next = 0; level = 7 };
    }

abbrev pub table : List Case
table =
    calls t1
    ∷ calls t2
    ∷ calls t3
    ∷ calls t4
    ∷ calls t5
    ∷ calls t6
    ∷ calls t7
    ∷ calls t8
    ∷ calls t9
    ∷ calls t10
    ∷ calls t11
    ∷ calls t12
    ∷ reads t13
    ∷ delivers t14
    ∷ delivers t15
    ∷ delivers t16
    ∷ calls last_line
    ∷ []

-- the definitions give in each row what document 01 says
abbrev pub TableAgrees : Type 0
TableAgrees = AllAgree table
