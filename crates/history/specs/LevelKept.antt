-- Document 02's ticket 4 over whole runs of calls: off and on keep our level. Command 7 restores the level from before command 6, whatever calls come
-- between the two, on the history and on the log itself.
use Rattle.std.specs.Prelude.{ℕ, ◌≤◌, ◌≡◌, Bool, true, false, List, [], ◌∷◌, ◌++◌, ℤ, pos, length, None}
use Rattle.record.specs.Limits.{capacity_least, capacity_most}
use Rattle.history.specs.Calls.{Call, outside, box, make, place, read, seek, command, save, minimum, check, console, state_after}
use Rattle.history.specs.Past.{Past, past_after}
use Rattle.history.specs.Demand2.{fresh, AllTimed}

-- a command with privilege, but for its type: len, restriction and lent buffer are any
pub record Order : Type 0 where
  pub len : ℤ
  pub restriction : Bool
  pub lent : List ℕ

abbrev pub ordered : ℕ → Order → Call
ordered type o = command (record { command = pos type; len = o.len; privilege = true; restriction = o.restriction }) o.lent

-- any call but a command 7 with privilege; one without is refused
abbrev pub NotOn : Call → Type 0
NotOn (outside time bytes caller) = Unit {0}
NotOn (box facility level time text dictionary fragment caller) = Unit {0}
NotOn make = Unit {0}
NotOn (place i n) = Unit {0}
NotOn (read i lent) = Unit {0}
NotOn (seek i offset whence) = Unit {0}
NotOn (command a lent) = a.command ≡ pos 7 → a.privilege ≡ false
NotOn (save number lent) = Unit {0}
NotOn (minimum wanted) = Unit {0}
NotOn check = Unit {0}
NotOn (console level setting) = Unit {0}

abbrev pub NoneOn : List Call → Type 0
NoneOn [] = Unit {0}
NoneOn (c ∷ cs) = NotOn c × NoneOn cs

-- off, these calls, and on
abbrev pub off_and_on : Order → List Call → Order → List Call
off_and_on off cs on = ordered 6 off ∷ (cs ++ (ordered 7 on ∷ []))

-- the level is restored, and the save used up
abbrev pub KeepsLevel : Type 0
KeepsLevel = (p : Past) → p.marks.setting.saved ≡ None → (off : Order) (cs : List Call) → NoneOn cs → (on : Order)
    → let q = past_after p (off_and_on off cs on) in
    (q.marks.setting.level ≡ p.marks.setting.level) × (q.marks.setting.saved ≡ None)

-- from a fresh log, after any calls that leave no level saved
abbrev pub LogKeepsLevel : Type 0
LogKeepsLevel = (buffer : List ℕ) → capacity_least ≤ length buffer → length buffer ≤ capacity_most → (before : List Call) → AllTimed before
    → let s = state_after (fresh buffer) before in
    s.log.console.saved ≡ None → (off : Order) (cs : List Call) → AllTimed cs → NoneOn cs → (on : Order)
    → let t = state_after s (off_and_on off cs on) in
    (t.log.console.level ≡ s.log.console.level) × (t.log.console.saved ≡ None)
