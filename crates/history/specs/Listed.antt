-- Document 01's table "When the log says no", as it is written and as document 02 amends it: a line for each phrase, in the words of what the log holds, the reader's number
-- and what is handed in. None of the tests that the calls' definitions are made of is in it, so that a log which refuses more, less or in
-- another order does not meet it. The figures are the paper's own, as in the tables of cases: a limit that is moved in its definition is refused here.
use Rattle.std.specs.Prelude.{ℕ, ◌+◌, ◌-◌, ◌*◌, ◌^◌, ◌<◌, ◌≤◌, ◌≡◌, ◌⊎◌, Bool, true, false, List, [], ◌∷◌, ℤ, pos, negsuc, length, get_or, Ok}
use Rattle.slices.specs.Tests.{all_bytes}
use Rattle.slices.specs.Listed.{In, Exactly}
use Rattle.record.specs.Limits.{capacity_least, capacity_most}
use Rattle.record.specs.Dictionary.{Dictionary}
use Rattle.record.specs.Forms.{kmsg_line}
use Rattle.eventlog.specs.View.{View, next_of, record_at}
use Rattle.eventlog.specs.Check.{checked, view_of}
use Rattle.eventlog.specs.Excess.{total}
use Rattle.eventlog.specs.declared.Refusal.{Refusal}
use Rattle.eventlog.specs.declared.Refusal.TheVariants.{EBADFD, EPERM, ESPIPE, EINVAL, EFAULT, EOVERFLOW, EPIPE, EAGAIN}
use Rattle.syslog.specs.declared.Asked.{Asked}
use Rattle.history.specs.Calls.{Call, outside, box, make, place, read, seek, command, save, minimum, check, console, Reply, State, step, state_after}
use Rattle.history.specs.Past.{held, past_after, fresh_past}
use Rattle.history.specs.Demand1.{Answers, table, table_number}
use Rattle.history.specs.Demand2.{fresh, AllTimed}

-- ---- the rows

-- types 2, 3, 4
abbrev pub Copying : ℤ → Type 0
Copying type = (type ≡ pos 2) ⊎ ((type ≡ pos 3) ⊎ (type ≡ pos 4))

-- type 3 or 10 with restriction off
pub record Open (a : Asked) : Type 0 where
  pub type : (a.command ≡ pos 3) ⊎ (a.command ≡ pos 10)
  pub restriction : a.restriction ≡ false

-- when a row applies to a call: `fails` says that the log check fails, `v` is what the log holds
pub data Applies (fails : Type 0) (v : View) (readers : List ℕ) : Call → Refusal → Type 0 where
  -- -77 EBADFD: log check fails,
  check_fails : {c : Call} → fails → Applies fails v readers c EBADFD
  -- or on a read the reader's number is above next
  above-next : {i : ℕ} {lent : List ℕ} → next_of v < get_or readers i 0 → Applies fails v readers (read i lent) EBADFD
  -- -1 EPERM: command without privilege, unless type 3 or 10 with restriction off
  without_privilege : {a : Asked} {lent : List ℕ} → a.privilege ≡ false → (Open a → ⊥) → Applies fails v readers (command a lent) EPERM
  -- -29 ESPIPE: seek offset not 0
  offset-not_0 : {i : ℕ} {offset whence : ℤ} → (offset ≡ pos 0 → ⊥) → Applies fails v readers (seek i offset whence) ESPIPE
  -- -22 EINVAL: other whence;
  other_whence : {i : ℕ} {offset whence : ℤ} → (whence ≡ pos 0 → ⊥) → (whence ≡ pos 2 → ⊥) → (whence ≡ pos 3 → ⊥)
      → Applies fails v readers (seek i offset whence) EINVAL
  -- unknown type;
  unknown_type : {a : Asked} {lent : List ℕ} → ((n : ℕ) → n ≤ 10 → a.command ≡ pos n → ⊥) → Applies fails v readers (command a lent) EINVAL
  -- len below 0 (2, 3, 4);
  len-below_0 : {a : Asked} {lent : List ℕ} {n : ℕ} → Copying a.command → a.len ≡ negsuc n → Applies fails v readers (command a lent) EINVAL
  -- level outside 1..8 (8);
  level-outside : {a : Asked} {lent : List ℕ} → a.command ≡ pos 8 → ((n : ℕ) → 1 ≤ n → n ≤ 8 → a.len ≡ pos n → ⊥)
      → Applies fails v readers (command a lent) EINVAL
  -- a minimum outside 1..8 (document 02, ticket 4);
  minimum-outside : {wanted : ℤ} → ((n : ℕ) → 1 ≤ n → n ≤ 8 → wanted ≡ pos n → ⊥) → Applies fails v readers (minimum wanted) EINVAL
  -- over 960 bytes;
  over_960 : {time : ℕ} {bytes : List ℕ} {caller : ℕ} → 960 < length bytes → Applies fails v readers (outside time bytes caller) EINVAL
  over_960_together : {facility level time : ℕ} {text dictionary : List ℕ} {fragment : Bool} {caller : ℕ} → 960 < length text + length dictionary
      → Applies fails v readers (box facility level time text dictionary fragment caller) EINVAL
  -- a zero byte among the bytes handed in from outside (document 02, ticket 1);
  zero-byte : {time : ℕ} {bytes : List ℕ} {caller : ℕ} → In 0 bytes → Applies fails v readers (outside time bytes caller) EINVAL
  -- bad facility, level or dictionary;
  bad_facility : {facility level time : ℕ} {text dictionary : List ℕ} {fragment : Bool} {caller : ℕ} → 255 < facility
      → Applies fails v readers (box facility level time text dictionary fragment caller) EINVAL
  bad_level : {facility level time : ℕ} {text dictionary : List ℕ} {fragment : Bool} {caller : ℕ} → 7 < level
      → Applies fails v readers (box facility level time text dictionary fragment caller) EINVAL
  bad_dictionary : {facility level time : ℕ} {text dictionary : List ℕ} {fragment : Bool} {caller : ℕ} → (Dictionary dictionary → ⊥)
      → Applies fails v readers (box facility level time text dictionary fragment caller) EINVAL
  -- line longer than reader's buffer
  line_longer : {i : ℕ} {lent : List ℕ} → length lent < length (kmsg_line (record_at v (get_or readers i 0)))
      → Applies fails v readers (read i lent) EINVAL
  -- -14 EFAULT: len above the lent buffer (2, 3, 4)
  above-lent : {a : Asked} {lent : List ℕ} {n : ℕ} → Copying a.command → a.len ≡ pos n → length lent < n
      → Applies fails v readers (command a lent) EFAULT
  -- saving into too short a buffer (document 02, ticket 3): shorter than any blocks of 512 bytes, one or more, that take the records held, 496 bytes in each
  short_of_image : {number : ℕ} {lent : List ℕ}
      → ((blocks : ℕ) → 1 ≤ blocks → total v.records ≤ 496 * blocks → length lent < 512 * blocks)
      → Applies fails v readers (save number lent) EFAULT
  -- -75 EOVERFLOW: write when next is 2^64 - 1
  outside_at_last : {time : ℕ} {bytes : List ℕ} {caller : ℕ} → next_of v ≡ 2 ^ 64 - 1 → Applies fails v readers (outside time bytes caller) EOVERFLOW
  box_at_last : {facility level time : ℕ} {text dictionary : List ℕ} {fragment : Bool} {caller : ℕ} → next_of v ≡ 2 ^ 64 - 1
      → Applies fails v readers (box facility level time text dictionary fragment caller) EOVERFLOW
  -- -32 EPIPE: reader's number below first
  below-first : {i : ℕ} {lent : List ℕ} → get_or readers i 0 < v.first → Applies fails v readers (read i lent) EPIPE
  -- -11 EAGAIN: reader at next;
  at_next : {i : ℕ} {lent : List ℕ} → get_or readers i 0 ≡ next_of v → Applies fails v readers (read i lent) EAGAIN
  -- command 2 with len > 0 and nothing unread: its position is at next, or no record is held
  nothing-unread : {a : Asked} {lent : List ℕ} {n : ℕ} → a.command ≡ pos 2 → a.len ≡ pos n → 0 < n
      → (v.marks.position ≡ next_of v) ⊎ (length v.records ≡ 0) → Applies fails v readers (command a lent) EAGAIN

-- ---- their order

-- as listed, but a read tries -32, -11, then -22
abbrev pub read_table : List Refusal
read_table = EBADFD ∷ EPERM ∷ ESPIPE ∷ EFAULT ∷ EOVERFLOW ∷ EPIPE ∷ EAGAIN ∷ EINVAL ∷ []

abbrev pub order : Call → List Refusal
order (outside time bytes caller) = table
order (box facility level time text dictionary fragment caller) = table
order make = table
order (place i n) = table
order (read i lent) = read_table
order (seek i offset whence) = table
order (command a lent) = table
order (save number lent) = table
order (minimum wanted) = table
order check = table
order (console level setting) = table

-- ---- the statement

-- the calls that answer a number, by a reader that there is
abbrev pub Asking : List ℕ → Call → Type 0
Asking readers (outside time bytes caller) = Unit {0}
Asking readers (box facility level time text dictionary fragment caller) = Unit {0}
Asking readers make = ⊥
Asking readers (place i n) = ⊥
Asking readers (read i lent) = i < length readers
Asking readers (seek i offset whence) = i < length readers
Asking readers (command a lent) = Unit {0}
Asking readers (save number lent) = Unit {0}
Asking readers (minimum wanted) = Unit {0}
Asking readers check = ⊥
Asking readers (console level setting) = ⊥

-- done: a count is answered
abbrev pub IsCount : ℤ → Type 0
IsCount (pos n) = Unit {0}
IsCount (negsuc n) = ⊥

-- a reply answers each number of the table if and only if its row applies and no earlier row does; otherwise the call is done
pub record Listed (fails : Type 0) (v : View) (readers : List ℕ) (c : Call) (reply : Reply) : Type 0 where
  pub answer : ℤ
  pub answers : Answers reply answer
  pub exactly : Exactly (order c) table_number (Applies fails v readers c) (IsCount answer) answer

-- for every log over bytes, whatever its numbers, all readers and every call, of a log that answers so
abbrev pub AsListed : (State → Call → Reply) → Type 0
AsListed reply = (s : State) → all_bytes s.buffer ≡ true → (c : Call) → Asking s.readers c
    → Listed (checked s.log s.buffer ≡ Ok tt → ⊥) (view_of s.log s.buffer) s.readers c (reply s c)

abbrev pub answered : State → Call → Reply
answered s c = (step s c).reply

abbrev pub RefusedAsListed : Type 0
RefusedAsListed = AsListed answered

-- for every call in every run from a fresh log: the log check never fails, and the rows speak of the history of calls
abbrev pub RunsAsListed : Type 0
RunsAsListed = (buffer : List ℕ) → capacity_least ≤ length buffer → length buffer ≤ capacity_most → (before : List Call) → AllTimed before
    → let s = state_after (fresh buffer) before in
    let p = past_after (fresh_past (length buffer)) before in
    (checked s.log s.buffer ≡ Ok tt)
    × ((c : Call) → Asking p.readers c → Listed ⊥ (held p) p.readers c (answered s c))
