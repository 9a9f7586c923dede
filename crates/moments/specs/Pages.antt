-- What else the pages give to compute: prefixes, a record with a dictionary, seeks, command 2 over a dropped record, the console level, messages
-- of a newer writer, a slot far in the board.
use Rattle.std.specs.Prelude.{true, false, List, [], ◌∷◌, ◌++◌, pos, replicate}
use Rattle.slices.specs.Quoted.{quoted}
use Rattle.history.specs.Calls.{make, read, seek, console, wrote, made, gave, sought, told, shown}
use Rattle.moments.specs.Case.{outside, box, ◌gives◌, new, Calls, calls_of, Reads, shows, empty, Delivery, Case, calls, reads, delivers, minus, blank, asked}
use Rattle.moments.specs.Table.{t11}

-- prefixes at their limits: facility 0 becomes 1; one to four digits, and '>'
abbrev pub prefixes : Calls
prefixes =
    record {
      before = new;
      earlier = [];
      steps = make gives made 0
          ∷ outside 0 (quoted "<7>x") gives wrote (pos 4) 0
          ∷ outside 0 (quoted "<8>x") gives wrote (pos 4) 0
          ∷ outside 0 (quoted "<0000>\n") gives wrote (pos 7) 0
          ∷ outside 0 (quoted "<00000>") gives wrote (pos 7) 0
          ∷ outside 0 (quoted "<>") gives wrote (pos 2) 0
          ∷ outside 0 (quoted "<1") gives wrote (pos 2) 0
          ∷ outside 0 (quoted "x<1>\n\n") gives wrote (pos 6) 0
          ∷ read 0 (blank 29) gives gave (pos 20) 0 1 (quoted "15,0,0,-,caller=0;x\n" ++ blank 9)
          ∷ read 0 (blank 29) gives gave (pos 19) 0 2 (quoted "8,1,0,-,caller=0;x\n" ++ blank 10)
          ∷ read 0 (blank 29) gives gave (pos 18) 0 3 (quoted "8,2,0,-,caller=0;\n" ++ blank 11)
          ∷ read 0 (blank 29) gives gave (pos 26) 0 4 (quoted "12,3,0,-,caller=0;<00000>\n" ++ blank 3)
          ∷ read 0 (blank 29) gives gave (pos 21) 0 5 (quoted "12,4,0,-,caller=0;<>\n" ++ blank 8)
          ∷ read 0 (blank 29) gives gave (pos 21) 0 6 (quoted "12,5,0,-,caller=0;<1\n" ++ blank 8)
          ∷ read 0 (blank 29) gives gave (pos 27) 0 7 (quoted "12,6,0,-,caller=0;x<1>\\x0a\n" ++ blank 2)
          ∷ [];
      after = record { used = 242; first = 0; next = 7; level = 7 };
    }

-- 001's record with continuation lines
abbrev pub from-box : Calls
from-box =
    record {
      before = new;
      earlier = [];
      steps = make gives made 0
          ∷ box 0 7 424069000 (quoted "pci_root PNP0A03:00: host bridge window [io  0x0000-0x0cf7] (ignored)") (quoted "SUBSYSTEM=acpi\0DEVICE=+acpi:PNP0A03:00") gives wrote (pos 107) 0
          ∷ read 0 (blank 133) gives gave (pos 133) 0 1 (quoted "7,0,424069,-,caller=0;pci_root PNP0A03:00: host bridge window [io  0x0000-0x0cf7] (ignored)\n SUBSYSTEM=acpi\n DEVICE=+acpi:PNP0A03:00\n")
          ∷ asked 9 0 [] gives told (pos 73) []
          ∷ [];
      after = record { used = 139; first = 0; next = 1; level = 7 };
    }

-- seek: SET first, END next, DATA the clear mark, 0 before any clear; command 4 with len 0 sets it
abbrev pub seeks : Calls
seeks =
    record {
      before = new;
      earlier = [];
      steps = make gives made 0
          ∷ outside 0 (quoted "a") gives wrote (pos 1) 0
          ∷ outside 0 (quoted "b") gives wrote (pos 1) 0
          ∷ seek 0 (pos 0) (pos 2) gives sought (pos 0) 2
          ∷ seek 0 (pos 0) (pos 3) gives sought (pos 0) 0
          ∷ asked 4 0 [] gives told (pos 0) []
          ∷ seek 0 (pos 0) (pos 3) gives sought (pos 0) 2
          ∷ outside 0 (quoted "c") gives wrote (pos 1) 0
          ∷ asked 3 9 (blank 9) gives told (pos 6) (quoted "<12>c\n" ++ blank 3)
          ∷ seek 0 (pos 0) (pos 0) gives sought (pos 0) 0
          ∷ asked 4 3 (blank 4) gives told (pos 3) (quoted ">c\n" ++ blank 1)
          ∷ asked 3 9 (blank 9) gives told (pos 0) (blank 9)
          ∷ [];
      after = record { used = 99; first = 0; next = 3; level = 7 };
    }

-- command 2: its record dropped, it goes on from the oldest record's first byte; a record read to its end leaves it at the next
abbrev pub goes_on : Calls
goes_on =
    record {
      before = new;
      earlier = [];
      steps = outside 0 (replicate 960 97) gives wrote (pos 960) 0
          ∷ asked 2 5 (blank 5) gives told (pos 5) (quoted "<12>a")
          ∷ asked 9 0 [] gives told (pos 960) []
          ∷ outside 0 (replicate 944 98) gives wrote (pos 944) 1
          ∷ asked 9 0 [] gives told (pos 949) []
          ∷ asked 2 5 (blank 5) gives told (pos 5) (quoted "<12>b")
          ∷ outside 0 (quoted "c") gives wrote (pos 1) 0
          ∷ asked 2 944 (blank 944) gives told (pos 944) (replicate 943 98 ++ (10 ∷ []))
          ∷ asked 2 9 (blank 9) gives told (pos 6) (quoted "<12>c\n" ++ blank 3)
          ∷ asked 9 0 [] gives told (pos 0) []
          ∷ [];
      after = record { used = 1009; first = 1; next = 3; level = 7 };
    }

-- the clear mark below first: command 5 sets it to 1, then 0 to 3 are dropped, two by two (33 + 33 + 33 + 976 = 1,075 is 51 too many). 3 gives the forms of 4 and 5
-- whole, 949 + 6 bytes; DATA leaves the reader at 1, which the next read tells: first - 1 are lost. 4 gives the same, and sets the mark to next
abbrev pub mark_passed : Calls
mark_passed =
    record {
      before = new;
      earlier = [];
      steps = make gives made 0
          ∷ outside 0 (quoted "a") gives wrote (pos 1) 0
          ∷ asked 5 0 [] gives told (pos 0) []
          ∷ outside 0 (quoted "b") gives wrote (pos 1) 0
          ∷ outside 0 (quoted "c") gives wrote (pos 1) 0
          ∷ outside 0 (replicate 944 100) gives wrote (pos 944) 2
          ∷ seek 0 (pos 0) (pos 3) gives sought (pos 0) 1
          ∷ read 0 (blank 9) gives gave (minus 32) 1 2 (blank 9)
          ∷ outside 0 (replicate 944 101) gives wrote (pos 944) 2
          ∷ outside 0 (quoted "f") gives wrote (pos 1) 0
          ∷ asked 3 980 (blank 980) gives told (pos 955) (quoted "<12>" ++ (replicate 944 101 ++ (quoted "\n<12>f\n" ++ blank 25)))
          ∷ asked 3 8 (blank 8) gives told (pos 8) (quoted "e\n<12>f\n")
          ∷ seek 0 (pos 0) (pos 3) gives sought (pos 0) 1
          ∷ read 0 [] gives gave (minus 32) 3 4 []
          ∷ asked 4 980 (blank 980) gives told (pos 955) (quoted "<12>" ++ (replicate 944 101 ++ (quoted "\n<12>f\n" ++ blank 25)))
          ∷ seek 0 (pos 0) (pos 3) gives sought (pos 0) 6
          ∷ asked 3 8 (blank 8) gives told (pos 0) (blank 8)
          ∷ [];
      after = record { used = 1009; first = 4; next = 6; level = 7 };
    }

-- the same with the mark that command 4 set, with len 0: 2, and first is 3
abbrev pub mark_passed_by_4 : Calls
mark_passed_by_4 =
    record {
      before = new;
      earlier = [];
      steps = make gives made 0
          ∷ outside 0 (quoted "a") gives wrote (pos 1) 0
          ∷ outside 0 (quoted "b") gives wrote (pos 1) 0
          ∷ asked 4 0 [] gives told (pos 0) []
          ∷ outside 0 (replicate 944 99) gives wrote (pos 944) 1
          ∷ outside 0 (replicate 944 100) gives wrote (pos 944) 2
          ∷ seek 0 (pos 0) (pos 3) gives sought (pos 0) 2
          ∷ asked 3 5 (blank 6) gives told (pos 5) (quoted "dddd\n" ++ blank 1)
          ∷ asked 4 949 (blank 949) gives told (pos 949) (quoted "<12>" ++ (replicate 944 100 ++ quoted "\n"))
          ∷ asked 3 5 (blank 6) gives told (pos 0) (blank 6)
          ∷ read 0 [] gives gave (minus 32) 1 3 []
          ∷ seek 0 (pos 0) (pos 3) gives sought (pos 0) 4
          ∷ [];
      after = record { used = 976; first = 3; next = 4; level = 7 };
    }

-- command 2 with len 0, its record dropped: 0, and nothing moves; 9 counts from the oldest record's first byte, and a later 2 goes on there
abbrev pub none_of_dropped : Calls
none_of_dropped =
    record {
      before = new;
      earlier = [];
      steps = outside 0 (replicate 960 97) gives wrote (pos 960) 0
          ∷ asked 2 5 (blank 5) gives told (pos 5) (quoted "<12>a")
          ∷ outside 0 (replicate 960 98) gives wrote (pos 960) 1
          ∷ asked 2 0 [] gives told (pos 0) []
          ∷ asked 9 0 [] gives told (pos 965) []
          ∷ asked 2 0 (blank 3) gives told (pos 0) (blank 3)
          ∷ asked 2 5 (blank 5) gives told (pos 5) (quoted "<12>b")
          ∷ asked 9 0 [] gives told (pos 960) []
          ∷ [];
      after = record { used = 992; first = 1; next = 2; level = 7 };
    }

-- the console level: 8 sets it to len; the console question
abbrev pub console_8 : Calls
console_8 =
    record {
      before = new;
      earlier = [];
      steps = asked 0 0 [] gives told (pos 0) []
          ∷ asked 1 0 [] gives told (pos 0) []
          ∷ asked 8 4 [] gives told (pos 0) []
          ∷ console (pos 3) (pos 4) gives shown true
          ∷ console (pos 4) (pos 4) gives shown false
          ∷ console (minus 1) (pos 0) gives shown true
          ∷ [];
      after = record { used = 0; first = 0; next = 0; level = 4 };
    }

-- 6 sets it to the minimum, 1 (003 and document 02, ticket 4)
abbrev pub console_6 : Calls
console_6 =
    record {
      before = new;
      earlier = calls_of console_8;
      steps = asked 6 0 [] gives told (pos 0) [] ∷ [];
      after = record { used = 0; first = 0; next = 0; level = 1 };
    }

-- 7 restores it
abbrev pub console_7 : Calls
console_7 =
    record {
      before = new;
      earlier = calls_of console_6;
      steps = asked 7 0 [] gives told (pos 0) [] ∷ [];
      after = record { used = 0; first = 0; next = 0; level = 4 };
    }

-- after T11 a new reader is at 1, and END is 33
abbrev pub overtaken_end : Calls
overtaken_end =
    record {
      before = new;
      earlier = calls_of t11;
      steps = make gives made 1 ∷ seek 1 (pos 0) (pos 2) gives sought (pos 0) 33 ∷ [];
      after = record { used = 1024; first = 1; next = 33; level = 7 };
    }

-- any legal escape is read, needed or not; entries are joined by zero bytes; fields after the fourth are ignored; flag 'c' is 1
abbrev pub newer_writer : Reads
newer_writer =
    record {
      messages = quoted "30,4,5,c,,=,x=1;a\\x41,;\\x0a\n k\\x3d1\n l=\n" ∷ [];
      prefix = 30;
      sequence = 4;
      time = 5;
      flag = 1;
      text = quoted "aA,;\n";
      dictionary = quoted "k=1\0l=";
    }

-- flag '+' is 2
abbrev pub flag_plus : Reads
flag_plus =
    record {
      messages = quoted "1,2,3,+;x\n" ∷ [];
      prefix = 1;
      sequence = 2;
      time = 3;
      flag = 2;
      text = quoted "x";
      dictionary = [];
    }

-- any other flag is 3
abbrev pub flag-other : Reads
flag-other =
    record {
      messages = quoted "1,2,3,--;x\n" ∷ [];
      prefix = 1;
      sequence = 2;
      time = 3;
      flag = 3;
      text = quoted "x";
      dictionary = [];
    }

-- channel 23: the text lies in front of its own slot, and nowhere else
abbrev pub last-slot : Delivery
last-slot =
    record {
      earlier = [];
      message = quoted "191,5,1,-;up\n";
      answer = 0;
      channels = replicate 7 empty ++ (shows 5 (quoted "up") ∷ []);
    }

abbrev pub pages : List Case
pages =
    calls prefixes
    ∷ calls from-box
    ∷ calls seeks
    ∷ calls goes_on
    ∷ calls mark_passed
    ∷ calls mark_passed_by_4
    ∷ calls none_of_dropped
    ∷ calls console_8
    ∷ calls console_6
    ∷ calls console_7
    ∷ calls overtaken_end
    ∷ reads newer_writer
    ∷ reads flag_plus
    ∷ reads flag-other
    ∷ delivers last-slot
    ∷ []
