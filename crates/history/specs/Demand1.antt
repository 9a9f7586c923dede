-- Demand 1, of the log: over every log, every buffer, all readers and every call, an answer is a count or a number of document 01's table, and
-- a refusal leaves the log, the marks and all buffers as they were; one thing may move: a reader told that it was overtaken is set to the
-- oldest record left.
use Rattle.std.specs.Prelude.{ℕ, ◌≡◌, Bool, false, cond, List, [], ◌∷◌, map, eqb, ℤ, pos, negsuc}
use lib.ListN
use Rattle.slices.specs.Listed.{In}
use Rattle.eventlog.specs.declared.Refusal.{Refusal}
use Rattle.eventlog.specs.declared.Refusal.TheVariants.{EBADFD, EPERM, ESPIPE, EINVAL, EFAULT, EOVERFLOW, EPIPE, EAGAIN}
use Rattle.history.specs.Calls.{Call, outside, box, make, place, read, seek, command, save, minimum, check, console, Reply, wrote, made, set, gave, sought, told, verdict, shown, nobody, State, with_readers, step}

-- the reply answers this number; a call that only makes a reader, sets one, checks the log or asks the console question answers none
abbrev pub Answers : Reply → ℤ → Type 0
Answers (wrote a dropped) n = a ≡ n
Answers (made m) n = ⊥
Answers set n = ⊥
Answers (gave a lost m lent) n = a ≡ n
Answers (sought a m) n = a ≡ n
Answers (told a lent) n = a ≡ n
Answers (verdict x) n = ⊥
Answers (shown b) n = ⊥
Answers nobody n = ⊥

-- document 01's table "When the log says no", in its order
abbrev pub table : List Refusal
table = EBADFD ∷ EPERM ∷ ESPIPE ∷ EINVAL ∷ EFAULT ∷ EOVERFLOW ∷ EPIPE ∷ EAGAIN ∷ []

-- its numbers: -77, -1, -29, -22, -14, -75, -32, -11 (negsuc n is -(n + 1))
abbrev pub table_number : Refusal → ℤ
table_number EBADFD = negsuc 76
table_number EPERM = negsuc 0
table_number ESPIPE = negsuc 28
table_number EINVAL = negsuc 21
table_number EFAULT = negsuc 13
table_number EOVERFLOW = negsuc 74
table_number EPIPE = negsuc 31
table_number EAGAIN = negsuc 10

-- a count, or a number of the table
abbrev pub Known : ℤ → Type 0
Known (pos n) = Unit {0}
Known (negsuc n) = In (negsuc n) (map table_number table)

-- -32
abbrev pub tells_overtaken : ℤ → Bool
tells_overtaken (pos n) = false
tells_overtaken (negsuc n) = eqb n 31

-- the lent buffer that is handed over, and as it comes back
abbrev pub lent_to : Call → List ℕ
lent_to (outside time bytes caller) = []
lent_to (box facility level time text dictionary fragment caller) = []
lent_to make = []
lent_to (place i n) = []
lent_to (read i lent) = lent
lent_to (seek i offset whence) = []
lent_to (command a lent) = lent
lent_to (save number lent) = lent
lent_to (minimum wanted) = []
lent_to check = []
lent_to (console level setting) = []

abbrev pub lent_back : Reply → List ℕ
lent_back (wrote a dropped) = []
lent_back (made n) = []
lent_back set = []
lent_back (gave a lost n lent) = lent
lent_back (sought a n) = []
lent_back (told a lent) = lent
lent_back (verdict x) = []
lent_back (shown b) = []
lent_back nobody = []

-- what a refusal leaves: a reader told -32 on a read is set to first
abbrev pub left_by : State → Call → ℤ → State
left_by s (outside time bytes caller) n = s
left_by s (box facility level time text dictionary fragment caller) n = s
left_by s make n = s
left_by s (place i m) n = s
left_by s (read i lent) n = cond (tells_overtaken n) (with_readers s (lib.ListN.set s.readers i s.log.first.0)) s
left_by s (seek i offset whence) n = s
left_by s (command a lent) n = s
left_by s (save number lent) n = s
left_by s (minimum wanted) n = s
left_by s check n = s
left_by s (console level setting) n = s

-- a call on this state, which answers this number
pub record Kept (s : State) (c : Call) (n : ℤ) : Type 0 where
  pub known : Known n
  -- below 0
  pub state : (k : ℕ) → n ≡ negsuc k → (step s c).state ≡ left_by s c n
  pub lent : (k : ℕ) → n ≡ negsuc k → lent_back (step s c).reply ≡ lent_to c

abbrev pub Demand1 : Type 0
Demand1 = (s : State) (c : Call) (n : ℤ) → Answers (step s c).reply n → Kept s c n
