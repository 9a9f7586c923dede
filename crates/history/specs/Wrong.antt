-- Logs that refuse otherwise than document 01 lists: each is like ours in everything but one ruling, and the table's statement refuses it. A log
-- whose code and definition were both wrong in such a way would meet its promises, and demand 2 with them; it does not meet this.
use Rattle.std.specs.Prelude.{ℕ, ◌+◌, ◌≡◌, not, ◌&&◌, List, [], ◌∷◌, ltb, eqb, ℤ, length}
use Rattle.slices.specs.Cut.{has}
use Rattle.record.specs.Limits.{payload_most}
use Rattle.eventlog.specs.Answer.{Ruling, allowed, refused, ruling_of, is, is_negative, natural}
use Rattle.eventlog.specs.View.{View}
use Rattle.eventlog.specs.Check.{view_of, ruled}
use Rattle.eventlog.specs.declared.Refusal.TheVariants.{EPERM, EINVAL, EFAULT, EAGAIN}
use Rattle.savedtrail.specs.Save.{save_ruling, save_by}
use Rattle.writes.specs.Write.{outside_record, box_record, numbers_over, box_tests, outside_ruling, box_ruling, write_by}
use Rattle.syslog.specs.Command.{copies, is_known, is_permitted, wants_level, unread, command_ruling, command_by, on_log}
use Rattle.syslog.specs.Minimum.{minimum_ruling, minimum_by, on_numbers}
use Rattle.syslog.specs.declared.Asked.{Asked}
use Rattle.history.specs.Calls.{Call, outside, box, make, place, read, seek, command, save, minimum, check, console, Reply, State, after_write, after_command, after_save, after_minimum}
use Rattle.history.specs.Listed.{AsListed, answered}

-- our log, but for the rulings on a write from outside, on one from the box and on a command
abbrev pub ruled_by : (View → List ℕ → Ruling) → (View → ℕ → ℕ → List ℕ → List ℕ → Ruling) → (View → Asked → List ℕ → Ruling) → State → Call → Reply
ruled_by onWrite onBox onCommand s (outside time bytes caller) =
    (after_write s.readers
    (write_by s.log s.buffer (outside_record s.log.next.0 time bytes caller) (length bytes) (ruled s.log s.buffer (λ v. onWrite v bytes)))
    ).reply
ruled_by onWrite onBox onCommand s (box facility level time text dictionary fragment caller) =
    (after_write s.readers
    (write_by s.log s.buffer (box_record s.log.next.0 time facility level text dictionary fragment caller) (length text + length dictionary)
    (ruled s.log s.buffer (λ v. onBox v facility level text dictionary)))
    ).reply
ruled_by onWrite onBox onCommand s make = answered s make
ruled_by onWrite onBox onCommand s (place i n) = answered s (place i n)
ruled_by onWrite onBox onCommand s (read i lent) = answered s (read i lent)
ruled_by onWrite onBox onCommand s (seek i offset whence) = answered s (seek i offset whence)
ruled_by onWrite onBox onCommand s (command a lent) =
    (after_command s
    (on_log s.log (command_by (view_of s.log s.buffer) a lent (ruled s.log s.buffer (λ v. onCommand v a lent))))
    ).reply
ruled_by onWrite onBox onCommand s (save number lent) = answered s (save number lent)
ruled_by onWrite onBox onCommand s (minimum wanted) = answered s (minimum wanted)
ruled_by onWrite onBox onCommand s check = answered s check
ruled_by onWrite onBox onCommand s (console level setting) = answered s (console level setting)

-- every write refused
abbrev pub refuse_all : View → List ℕ → Ruling
refuse_all v bytes = refused EINVAL

-- -75 before -22
abbrev pub overflow_first : View → List ℕ → Ruling
overflow_first v bytes = ruling_of (numbers_over v ∷ (ltb payload_most (length bytes), EINVAL) ∷ (has 0 bytes, EINVAL) ∷ [])

-- 961 bytes taken
abbrev pub one_byte_more : View → List ℕ → Ruling
one_byte_more v bytes = ruling_of ((ltb 961 (length bytes), EINVAL) ∷ (has 0 bytes, EINVAL) ∷ numbers_over v ∷ [])

-- a zero byte taken from outside
abbrev pub zero_taken : View → List ℕ → Ruling
zero_taken v bytes = ruling_of ((ltb payload_most (length bytes), EINVAL) ∷ numbers_over v ∷ [])

-- a zero byte refused from the box too
abbrev pub zero_from_box : View → ℕ → ℕ → List ℕ → List ℕ → Ruling
zero_from_box v facility level text dictionary = ruling_of ((has 0 text, EINVAL) ∷ box_tests v facility level text dictionary)

-- -22 before -1
abbrev pub invalid_first : View → Asked → List ℕ → Ruling
invalid_first v a lent =
    ruling_of
    ((not (is_known a.command), EINVAL)
    ∷ (copies a.command && is_negative a.len, EINVAL)
    ∷ (is a.command 8 && not (wants_level a.len), EINVAL)
    ∷ (not (is_permitted a), EPERM)
    ∷ (copies a.command && ltb (length lent) (natural a.len), EFAULT)
    ∷ (is a.command 2 && ltb 0 (natural a.len) && eqb (length (unread v)) 0, EAGAIN)
    ∷ [])

-- our log, but for the ruling on saving
abbrev pub saves_by : (View → ℕ → List ℕ → Ruling) → State → Call → Reply
saves_by onSave s (outside time bytes caller) = answered s (outside time bytes caller)
saves_by onSave s (box facility level time text dictionary fragment caller) = answered s (box facility level time text dictionary fragment caller)
saves_by onSave s make = answered s make
saves_by onSave s (place i n) = answered s (place i n)
saves_by onSave s (read i lent) = answered s (read i lent)
saves_by onSave s (seek i offset whence) = answered s (seek i offset whence)
saves_by onSave s (command a lent) = answered s (command a lent)
saves_by onSave s (save number lent) =
    (after_save s (save_by (view_of s.log s.buffer) number lent (ruled s.log s.buffer (λ v. onSave v number lent)))).reply
saves_by onSave s (minimum wanted) = answered s (minimum wanted)
saves_by onSave s check = answered s check
saves_by onSave s (console level setting) = answered s (console level setting)

-- -14 left out: saved into any buffer
abbrev pub any_buffer : View → ℕ → List ℕ → Ruling
any_buffer v number lent = allowed

-- our log, but for the ruling on the minimum
abbrev pub minimum_ruled_by : (ℤ → Ruling) → State → Call → Reply
minimum_ruled_by onMinimum s (outside time bytes caller) = answered s (outside time bytes caller)
minimum_ruled_by onMinimum s (box facility level time text dictionary fragment caller) = answered s (box facility level time text dictionary fragment caller)
minimum_ruled_by onMinimum s make = answered s make
minimum_ruled_by onMinimum s (place i n) = answered s (place i n)
minimum_ruled_by onMinimum s (read i lent) = answered s (read i lent)
minimum_ruled_by onMinimum s (seek i offset whence) = answered s (seek i offset whence)
minimum_ruled_by onMinimum s (command a lent) = answered s (command a lent)
minimum_ruled_by onMinimum s (save number lent) = answered s (save number lent)
minimum_ruled_by onMinimum s (minimum wanted) =
    (after_minimum s (on_numbers s.log (minimum_by (view_of s.log s.buffer) wanted (ruled s.log s.buffer (λ v. onMinimum wanted))))).reply
minimum_ruled_by onMinimum s check = answered s check
minimum_ruled_by onMinimum s (console level setting) = answered s (console level setting)

-- 9 taken, as one more than the levels
abbrev pub nine_taken : ℤ → Ruling
nine_taken wanted = ruling_of ((not (wants_level wanted) && not (is wanted 9), EINVAL) ∷ [])

pub record WrongRefused : Type 0 where
  -- with our own rulings it is our log
  pub ours : (s : State) (c : Call) → ruled_by outside_ruling box_ruling command_ruling s c ≡ answered s c
  pub all : AsListed (ruled_by refuse_all box_ruling command_ruling) → ⊥
  pub overflow : AsListed (ruled_by overflow_first box_ruling command_ruling) → ⊥
  pub byte : AsListed (ruled_by one_byte_more box_ruling command_ruling) → ⊥
  pub zero : AsListed (ruled_by zero_taken box_ruling command_ruling) → ⊥
  pub from-box : AsListed (ruled_by outside_ruling zero_from_box command_ruling) → ⊥
  pub invalid : AsListed (ruled_by outside_ruling box_ruling invalid_first) → ⊥
  pub ours-saving : (s : State) (c : Call) → saves_by save_ruling s c ≡ answered s c
  pub short : AsListed (saves_by any_buffer) → ⊥
  pub ours-minimum : (s : State) (c : Call) → minimum_ruled_by minimum_ruling s c ≡ answered s c
  pub nine : AsListed (minimum_ruled_by nine_taken) → ⊥
