-- What a reader gets, on the history and on the log itself.
use Rattle.std.specs.Prelude.{ℕ, ◌+◌, ◌-◌, ◌<◌, ◌≤◌, ◌≡◌, cond, List, [], ◌∷◌, ◌++◌, eqb, ℤ, pos, negsuc, length, get_or, take, drop}
use Rattle.record.specs.Limits.{capacity_least, capacity_most}
use Rattle.record.specs.Record.{Record}
use Rattle.record.specs.Forms.{kmsg_line}
use Rattle.eventlog.specs.Answer.{refusal_number}
use Rattle.eventlog.specs.View.{Marks, no_record}
use Rattle.eventlog.specs.declared.Refusal.TheVariants.{EPIPE}
use Rattle.writes.specs.FineLog.{dropped_most}
use Rattle.kmsg.specs.Read.{reader_at, AfterRead, read_ruling, read_by, reading}
use Rattle.syslog.specs.Command.{unread, marks_after}
use Rattle.history.specs.Calls.{Call, outside, box, make, place, read, seek, command, save, minimum, check, console, Reply, wrote, made, set, gave, sought, told, verdict, shown, nobody, run, state_after}
use Rattle.history.specs.Past.{Past, first_held, held, past_step, past_run, past_after, fresh_past}
use Rattle.history.specs.Demand1.{tells_overtaken}
use Rattle.history.specs.Demand2.{fresh, AllTimed}

-- ---- told "overtaken" exactly when the next record is gone, with the number lost equal to the gap

pub record Overtaken (p : Past) (number : ℕ) (r : AfterRead) : Type 0 where
  pub only : r.answer ≡ refusal_number EPIPE → number < first_held p
  pub always : number < first_held p → r.answer ≡ refusal_number EPIPE
  pub gap : number < first_held p → r.lost ≡ first_held p - number
  pub moved : number < first_held p → r.reader ≡ reader_at (first_held p)
  pub none : first_held p ≤ number → r.lost ≡ 0

abbrev pub OvertakenExactly : Type 0
OvertakenExactly = (p : Past) (number : ℕ) (lent : List ℕ) → Overtaken p number (read_by (held p) number lent (read_ruling (held p) number lent))

-- ---- between seeks, records whole and in number order

-- what a reader hears: a line, or that so many records are lost
pub data Heard : Type 0 where
  got : List ℕ → Heard
  lost : ℕ → Heard

-- by a read's answer: a count, or a number below 0 (negsuc k is -(k + 1))
abbrev pub answer_heard : ℕ → List ℕ → ℤ → List Heard
answer_heard n lent (pos k) = got (take k lent) ∷ []
answer_heard n lent (negsuc k) = cond (tells_overtaken (negsuc k)) (lost n ∷ []) []

abbrev pub reply_heard : Reply → List Heard
reply_heard (wrote a dropped) = []
reply_heard (made n) = []
reply_heard set = []
reply_heard (gave a n number lent) = answer_heard n lent a
reply_heard (sought a n) = []
reply_heard (told a lent) = []
reply_heard (verdict x) = []
reply_heard (shown b) = []
reply_heard nobody = []

-- what reader i hears of a call
abbrev pub call_heard : ℕ → Call → Reply → List Heard
call_heard i (outside time bytes caller) r = []
call_heard i (box facility level time text dictionary fragment caller) r = []
call_heard i make r = []
call_heard i (place j n) r = []
call_heard i (read j lent) r = cond (eqb j i) (reply_heard r) []
call_heard i (seek j offset whence) r = []
call_heard i (command a lent) r = []
call_heard i (save number lent) r = []
call_heard i (minimum wanted) r = []
call_heard i check r = []
call_heard i (console level setting) r = []

abbrev pub heard : ℕ → List Call → List Reply → List Heard
heard i [] rs = []
heard i (c ∷ cs) [] = []
heard i (c ∷ cs) (r ∷ rs) = call_heard i c r ++ heard i cs rs

-- no seek of reader i, and its number is not set by hand
abbrev pub Leaves : ℕ → Call → Type 0
Leaves i (outside time bytes caller) = Unit {0}
Leaves i (box facility level time text dictionary fragment caller) = Unit {0}
Leaves i make = Unit {0}
Leaves i (place j n) = i ≡ j → ⊥
Leaves i (read j lent) = Unit {0}
Leaves i (seek j offset whence) = i ≡ j → ⊥
Leaves i (command a lent) = Unit {0}
Leaves i (save number lent) = Unit {0}
Leaves i (minimum wanted) = Unit {0}
Leaves i check = Unit {0}
Leaves i (console level setting) = Unit {0}

abbrev pub AllLeave : ℕ → List Call → Type 0
AllLeave i [] = Unit {0}
AllLeave i (c ∷ cs) = Leaves i c × AllLeave i cs

-- from number n on: each line is the whole line of the record with the next number, and a gap is told by its size
abbrev pub InOrder : List Record → ℕ → List Heard → Type 0
InOrder all n [] = Unit {0}
InOrder all n (got bytes ∷ hs) = (n < length all) × (bytes ≡ kmsg_line (get_or all n no_record)) × InOrder all (n + 1) hs
InOrder all n (lost k ∷ hs) = (0 < k) × InOrder all (n + k) hs

-- record n is the n-th that was ever accepted
abbrev pub ReadsInOrder : Type 0
ReadsInOrder = (p : Past) (i : ℕ) → i < length p.readers → (cs : List Call) → AllLeave i cs
    → InOrder (past_after p cs).all (get_or p.readers i 0) (heard i cs (past_run p cs))

-- after any run on a fresh log that record's own number is n
abbrev pub NumberedInOrder : Type 0
NumberedInOrder = (capacity : ℕ) → capacity_least ≤ capacity → (cs : List Call) → AllTimed cs
    → let p = past_after (fresh_past capacity) cs in
    (n : ℕ) → n < length p.all → (get_or p.all n no_record).sequence ≡ n

-- ---- writes, commands and other readers don't move a reader

abbrev pub OnlyReads : ℕ → Call → Type 0
OnlyReads i (outside time bytes caller) = Unit {0}
OnlyReads i (box facility level time text dictionary fragment caller) = Unit {0}
OnlyReads i make = Unit {0}
OnlyReads i (place j n) = i ≡ j → ⊥
OnlyReads i (read j lent) = i ≡ j → ⊥
OnlyReads i (seek j offset whence) = i ≡ j → ⊥
OnlyReads i (command a lent) = Unit {0}
OnlyReads i (save number lent) = Unit {0}
OnlyReads i (minimum wanted) = Unit {0}
OnlyReads i check = Unit {0}
OnlyReads i (console level setting) = Unit {0}

abbrev pub Unmoved : Type 0
Unmoved = (p : Past) (i : ℕ) → i < length p.readers → (c : Call) → OnlyReads i c
    → get_or (past_step p c).past.readers i 0 ≡ get_or p.readers i 0

-- ---- a write drops at most 31 records

abbrev pub FewDropped : Reply → Type 0
FewDropped (wrote a dropped) = dropped ≤ dropped_most
FewDropped (made n) = Unit {0}
FewDropped set = Unit {0}
FewDropped (gave a n number lent) = Unit {0}
FewDropped (sought a n) = Unit {0}
FewDropped (told a lent) = Unit {0}
FewDropped (verdict x) = Unit {0}
FewDropped (shown b) = Unit {0}
FewDropped nobody = Unit {0}

abbrev pub DropsFew : Type 0
DropsFew = (p : Past) → capacity_least ≤ p.capacity → (c : Call) → FewDropped (past_step p c).reply

-- ---- command 2 gives the unread bytes one after the other

abbrev pub with_past_marks : Past → Marks → Past
with_past_marks p m = record { capacity = p.capacity; all = p.all; marks = m; readers = p.readers }

-- after any run on a fresh log, command 2 leaves unread what it did not copy
abbrev pub ReadsOn : Type 0
ReadsOn = (capacity : ℕ) → capacity_least ≤ capacity → capacity ≤ capacity_most → (cs : List Call) → AllTimed cs → (len : ℕ)
    → let p = past_after (fresh_past capacity) cs in
    unread (held (with_past_marks p (marks_after (held p) (pos 2) len))) ≡ drop len (unread (held p))

-- ---- the same of the log itself: a fresh log, any calls before, then calls that neither seek nor set reader i

abbrev pub LogReads : Type 0
LogReads = (buffer : List ℕ) → capacity_least ≤ length buffer → length buffer ≤ capacity_most → (before : List Call) → AllTimed before
    → let s = state_after (fresh buffer) before in
    let p = past_after (fresh_past (length buffer)) before in
    (i : ℕ) → i < length s.readers → (cs : List Call) → AllTimed cs → AllLeave i cs
    → InOrder (past_after p cs).all (get_or s.readers i 0) (heard i cs (run s cs))

-- told -32 exactly when the number is below the log's first
abbrev pub LogOvertakes : Type 0
LogOvertakes = (buffer : List ℕ) → capacity_least ≤ length buffer → length buffer ≤ capacity_most → (before : List Call) → AllTimed before
    → let s = state_after (fresh buffer) before in
    let p = past_after (fresh_past (length buffer)) before in
    (s.log.first.0 ≡ first_held p)
    × ((number : ℕ) (lent : List ℕ) → Overtaken p number (reading s.log s.buffer (reader_at number) lent))
