-- Document 02's ticket 4: the console level kept over off and on, and the minimum; the setting after each call, worked out by hand from 003 and the ticket.
use Rattle.std.specs.Prelude.{ℕ, true, List, [], ◌∷◌, ℤ, pos, Option, Some, None, Ok, Err}
use Rattle.history.specs.Calls.{read, seek, save, minimum, check, State, wrote, gave, sought, told, verdict}
use Rattle.moments.specs.Case.{outside, box, ◌gives◌, hand, Calls, Change, change, setting, Case, calls, changes, minus, blank, asked, poor}
use Rattle.eventlog.specs.declared.Misfit.TheVariants.{Numbers}

-- a command that is done, by type and len; then level, minimum and save
abbrev done : ℕ → ℕ → ℕ → ℕ → Option ℕ → Change
done type len level least saved = change (asked type len [] gives told (pos 0) []) (setting level least saved)

-- one without privilege
abbrev barred : ℕ → ℕ → ℕ → ℕ → Option ℕ → Change
barred type len level least saved = change (poor type len true [] gives told (minus 1) []) (setting level least saved)

-- command 8 with a len that is no level
abbrev refused : ℕ → ℕ → ℕ → Option ℕ → Change
refused len level least saved = change (asked 8 len [] gives told (minus 22) []) (setting level least saved)

-- the minimum set; then the level and the save
abbrev least : ℕ → ℕ → Option ℕ → Change
least n level saved = change (minimum (pos n) gives told (pos 0) []) (setting level n saved)

-- a minimum that is no level, on a fresh log
abbrev none : ℤ → Change
none n = change (minimum n gives told (minus 22) []) (setting 7 1 None)

-- "We set 4, switch off for the anthem, switch on": 4 again
abbrev pub anthem : List Change
anthem = done 8 4 4 1 None ∷ done 6 0 1 1 (Some 4) ∷ done 7 0 4 1 None ∷ []

-- 7 with nothing saved leaves the level alone, whatever it is
abbrev pub nothing-saved : List Change
nothing-saved = done 7 0 7 1 None ∷ done 8 2 2 1 None ∷ done 7 0 2 1 None ∷ []

-- 6, 6, 7, 7: a second 6 does not overwrite the save, and a 7 uses it up
abbrev pub twice : List Change
twice =
    done 8 5 5 1 None
    ∷ done 6 0 1 1 (Some 5)
    ∷ done 6 0 1 1 (Some 5)
    ∷ done 7 0 5 1 None
    ∷ done 7 0 5 1 None
    ∷ done 8 3 3 1 None
    ∷ done 7 0 3 1 None
    ∷ []

-- 6, 8 4, 7: an 8 leaves the save alone
abbrev pub set-between : List Change
set-between = done 6 0 1 1 (Some 7) ∷ done 8 4 4 1 (Some 7) ∷ done 7 0 7 1 None ∷ []

-- and so does one that is refused, and a second 6 behind it
abbrev pub more_between : List Change
more_between =
    done 6 0 1 1 (Some 7) ∷ done 8 4 4 1 (Some 7) ∷ refused 9 4 1 (Some 7) ∷ refused 0 4 1 (Some 7) ∷ done 6 0 1 1 (Some 7) ∷ done 7 0 7 1 None ∷ []

-- a minimum of 5: 8 raises 3 and 4 to it, and neither 5 nor 8; 0 and 9 are none; 6 sets it
abbrev pub under_five : List Change
under_five =
    least 5 7 None
    ∷ done 8 3 5 5 None
    ∷ done 8 8 8 5 None
    ∷ done 8 4 5 5 None
    ∷ done 8 5 5 5 None
    ∷ done 8 6 6 5 None
    ∷ refused 0 6 5 None
    ∷ refused 9 6 5 None
    ∷ done 6 0 5 5 (Some 6)
    ∷ done 8 1 5 5 (Some 6)
    ∷ done 7 0 6 5 None
    ∷ []

-- setting the minimum leaves a level that is below it, and the save; restoring does not look at it
abbrev pub below_it : List Change
below_it =
    done 8 3 3 1 None
    ∷ least 6 3 None
    ∷ done 6 0 6 6 (Some 3)
    ∷ least 8 6 (Some 3)
    ∷ done 7 0 3 8 None
    ∷ done 7 0 3 8 None
    ∷ least 1 3 None
    ∷ []

-- the minimum is 1 to 8: 0, 9, -1, 2^63 - 1, -2^63 are refused and leave everything
abbrev pub minimum-refused : List Change
minimum-refused =
    none (pos 0) ∷ none (pos 9) ∷ none (minus 1) ∷ none (pos 9223372036854775807) ∷ none (minus 9223372036854775808) ∷ least 1 7 None ∷ least 8 7 None ∷ []

-- without privilege 6, 7 and 8 are refused: no level is saved, restored or set. Any len does for 6 and 7
abbrev pub without_privilege : List Change
without_privilege =
    barred 6 0 7 1 None
    ∷ done 6 9 1 1 (Some 7)
    ∷ barred 7 0 1 1 (Some 7)
    ∷ barred 8 4 1 1 (Some 7)
    ∷ done 7 2 7 1 None
    ∷ []

-- ---- by hand: a minimum or a saved level of 0 or 9 doesn't fit, and every call says -77

abbrev set_by_hand : ℕ → Option ℕ → State
set_by_hand least saved =
    record {
      log = record {
        start = record { 0 = 0 };
        used = 0;
        first = record { 0 = 5 };
        next = record { 0 = 5 };
        clear = record { 0 = 0 };
        position = record { 0 = 5 };
        offset = 0;
        console = setting 7 least saved;
      };
      buffer = blank 1024;
      readers = 5 ∷ [];
    }

abbrev pub misfit : ℕ → Option ℕ → Calls
misfit least saved =
    record {
      before = hand (set_by_hand least saved);
      earlier = [];
      steps = check gives verdict (Err Numbers)
          ∷ outside 0 [] gives wrote (minus 77) 0
          ∷ box 1 0 0 [] [] gives wrote (minus 77) 0
          ∷ read 0 [] gives gave (minus 77) 0 5 []
          ∷ seek 0 (pos 0) (pos 0) gives sought (minus 77) 5
          ∷ asked 0 0 [] gives told (minus 77) []
          ∷ asked 1 0 [] gives told (minus 77) []
          ∷ asked 2 1 (blank 1) gives told (minus 77) (blank 1)
          ∷ asked 3 1 (blank 1) gives told (minus 77) (blank 1)
          ∷ asked 4 1 (blank 1) gives told (minus 77) (blank 1)
          ∷ asked 5 0 [] gives told (minus 77) []
          ∷ asked 6 0 [] gives told (minus 77) []
          ∷ asked 7 0 [] gives told (minus 77) []
          ∷ asked 8 4 [] gives told (minus 77) []
          ∷ asked 9 0 [] gives told (minus 77) []
          ∷ asked 10 0 [] gives told (minus 77) []
          ∷ save 0 (blank 512) gives told (minus 77) (blank 512)
          ∷ minimum (pos 1) gives told (minus 77) []
          ∷ minimum (pos 0) gives told (minus 77) []
          ∷ [];
      after = record { used = 0; first = 5; next = 5; level = 7 };
    }

-- 1 and 8 fit
abbrev pub fitting : ℕ → Option ℕ → Calls
fitting least saved =
    record {
      before = hand (set_by_hand least saved);
      earlier = [];
      steps = check gives verdict (Ok tt) ∷ [];
      after = record { used = 0; first = 5; next = 5; level = 7 };
    }

-- a heading that fails besides: the standing numbers come first
abbrev pub both-wrong : ℕ → Option ℕ → Calls
both-wrong least saved =
    record {
      before =
          hand (record {
            log = record {
              start = record { 0 = 0 };
              used = 32;
              first = record { 0 = 0 };
              next = record { 0 = 1 };
              clear = record { 0 = 0 };
              position = record { 0 = 0 };
              offset = 0;
              console = setting 7 least saved;
            };
            buffer = blank 1024;
            readers = [];
          });
      earlier = [];
      steps = check gives verdict (Err Numbers) ∷ minimum (pos 5) gives told (minus 77) [] ∷ [];
      after = record { used = 32; first = 0; next = 1; level = 7 };
    }

abbrev pub levels : List Case
levels =
    changes anthem
    ∷ changes nothing-saved
    ∷ changes twice
    ∷ changes set-between
    ∷ changes more_between
    ∷ changes under_five
    ∷ changes below_it
    ∷ changes minimum-refused
    ∷ changes without_privilege
    ∷ calls (misfit 0 None)
    ∷ calls (misfit 9 None)
    ∷ calls (misfit 1 (Some 0))
    ∷ calls (misfit 1 (Some 9))
    ∷ calls (fitting 8 (Some 1))
    ∷ calls (fitting 1 (Some 8))
    ∷ calls (both-wrong 9 None)
    ∷ calls (both-wrong 1 (Some 0))
    ∷ []
