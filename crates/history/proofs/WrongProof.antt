-- Each of the wrong logs answers one call otherwise than the table lists, on a log that holds nothing.
use Rattle.std.specs.Prelude.{Ok}
use Prim.Native.Nat.{ℕ, ◌+◌, ◌-◌, ◌<◌}
use mathlib.Core.Path.{◌≡◌, refl, ap, sym, ◌∙◌}
use mathlib.Core.Logic.{inl, inr}
use mathlib.Core.Bool.{true, false}
use mathlib.Core.List.{List, [], ◌∷◌}
use native.Mathlib.Omega.{arith}
use lib.IntN.{pos}
use lib.ListN.{length, replicate}
use Rattle.slices.specs.Tests.{all_bytes}
use Rattle.slices.specs.Listed.{Earlier}
use Rattle.console.specs.Console.{setting_fresh, saved_fits, setting_fits}
use Rattle.record.specs.Limits.{payload_most, word_most}
use Rattle.ring.specs.Ring.{unrolled}
use Rattle.eventlog.specs.Answer.{refusal_number, Ruling, allowed, refused, natural}
use Rattle.eventlog.specs.View.{View, next_of}
use Rattle.eventlog.specs.Check.{checked, view_of, marks_of, records_in, ruled}
use Rattle.eventlog.specs.declared.Refusal.{Refusal}
use Rattle.eventlog.specs.declared.Refusal.TheVariants.{EBADFD, EPERM, ESPIPE, EINVAL, EFAULT, EOVERFLOW, EPIPE, EAGAIN}
use Rattle.store.proofs.MarkLaws.{fine}
use Rattle.savedtrail.specs.Save.{image_for, save_ruling, saving}
use Rattle.writes.specs.Write.{outside_ruling, box_ruling, outside_write, box_write}
use Rattle.syslog.specs.Command.{command_ruling, count, commanding}
use Rattle.syslog.specs.Minimum.{minimum_ruling, setting_minimum}
use Rattle.syslog.specs.declared.Asked.{Asked}
use Rattle.history.specs.Calls.{Call, outside, box, make, place, read, seek, command, save, minimum, check, console, State, step}
use Rattle.history.specs.Demand1.{table}
use Rattle.history.specs.Listed.{Open, Applies, check_fails, without_privilege, over_960, over_960_together, zero-byte, bad_facility, bad_level, bad_dictionary, short_of_image, minimum-outside, outside_at_last, Listed, AsListed, answered}
use Rattle.history.specs.Wrong.{ruled_by, refuse_all, overflow_first, one_byte_more, zero_taken, zero_from_box, invalid_first, saves_by, any_buffer, minimum_ruled_by, nine_taken, WrongRefused}
use Rattle.history.proofs.Demand1.{never}
use Rattle.history.proofs.ListedProof.{number_by, rows_apart, by_check, write_number, command-number, save-number, minimum-number}

-- a log that holds nothing, with n its next number
empty : ℕ → State
empty n =
    record {
      log = record {
        start = record { 0 = 0 };
        used = 0;
        first = record { 0 = n };
        next = record { 0 = n };
        clear = record { 0 = n };
        position = record { 0 = n };
        offset = 0;
        console = setting_fresh;
      };
      buffer = replicate 1024 0;
      readers = [];
    }

empty-fine : (n : ℕ) → checked (empty n).log (empty n).buffer ≡ Ok tt
unfolding empty marks_of unrolled setting_fits saved_fits
empty-fine n =
    fine (empty n).log (empty n).buffer []
    (record { within = record { start_in = omega arith; used_in = omega arith }; bytes = refl; numbered = tt; next = omega arith })
    (record {
      clear_in = omega arith;
      position-fits = record { in_range_lem = omega arith; at_next = λ e. refl; inside = λ l h. absurd (omega arith); small = omega arith };
      setting-fits = refl;
    })
    (omega arith) (omega arith)

abbrev view : ℕ → View
view n = view_of (empty n).log (empty n).buffer

next-is : (n : ℕ) → next_of (view n) ≡ n
unfolding empty next_of view_of records_in
next-is n =
    let z : n - n ≡ 0 = omega arith in
    rw z (omega arith)

-- its log check passes, so that the ruling decides
by_ruling : (n : ℕ) (ruling : View → Ruling) → ruled (empty n).log (empty n).buffer ruling ≡ ruling (view n)
by_ruling n ruling = rw (by_check (empty n).log (empty n).buffer ruling, empty-fine n)

bytes_of : (n : ℕ) → all_bytes (empty n).buffer ≡ true
unfolding empty
bytes_of n = refl

-- numbers that differ stay so
other : (n k : ℕ) → pos n ≡ pos k → (n ≡ k → ⊥) → ⊥
other n k e h =
    let z : n ≡ k = cc in
    h z

module _ (onWrite : View → List ℕ → Ruling) (onBox : View → ℕ → ℕ → List ℕ → List ℕ → Ruling) (onCommand : View → Asked → List ℕ → Ruling)
    (f : AsListed (ruled_by onWrite onBox onCommand)) (n : ℕ) where
  -- what a call there is listed to answer
  abbrev At : Call → Type 0
  At c = Listed (checked (empty n).log (empty n).buffer ≡ Ok tt → ⊥) (view n) (empty n).readers c (ruled_by onWrite onBox onCommand (empty n) c)

  -- what the writes and a command do answer
  module _ (bytes : List ℕ) (q : Ruling) (e : onWrite (view n) bytes ≡ q) where
    abbrev written : At (outside 0 bytes 0)
    written = f (empty n) (bytes_of n) (outside 0 bytes 0) tt

    write_answers : number_by (pos (length bytes)) q ≡ written.answer
    write_answers =
        ap (number_by (pos (length bytes))) (sym e ∙ sym (by_ruling n (λ v. onWrite v bytes)))
        ∙ sym (write_number (empty n).log (empty n).buffer _ (length bytes) _)
        ∙ written.answers

  module _ (text : List ℕ) (q : Ruling) (e : onBox (view n) 0 0 text [] ≡ q) where
    abbrev boxed : At (box 0 0 0 text [] false 0)
    boxed = f (empty n) (bytes_of n) (box 0 0 0 text [] false 0) tt

    box-answers : number_by (pos (length text + 0)) q ≡ boxed.answer
    box-answers =
        ap (number_by (pos (length text + 0))) (sym e ∙ sym (by_ruling n (λ v. onBox v 0 0 text [])))
        ∙ sym (write_number (empty n).log (empty n).buffer _ (length text + 0) _)
        ∙ boxed.answers

  module _ (a : Asked) (q : Ruling) (e : onCommand (view n) a [] ≡ q) where
    abbrev commanded : At (command a [])
    commanded = f (empty n) (bytes_of n) (command a []) tt

    command-answers : number_by (pos (count (view n) a.command (natural a.len))) q ≡ commanded.answer
    command-answers =
        ap (number_by (pos (count (view n) a.command (natural a.len)))) (sym e ∙ sym (by_ruling n (λ v. onCommand v a [])))
        ∙ sym (command-number (view n) a [] _)
        ∙ commanded.answers

-- ---- each of them

no_write_over : {failing : Type 0} {v : View} {readers : List ℕ} → Applies failing v readers (outside 0 [] 0) EINVAL → ⊥
no_write_over h = elim h [ over_960 g ↦ absurd (omega arith) | zero-byte g ↦ g ]

all-refused : AsListed (ruled_by refuse_all box_ruling command_ruling) → ⊥
all-refused f =
    let x = written refuse_all box_ruling command_ruling f 0 [] (refused EINVAL) refl in
    no_write_over (x.exactly.only EINVAL (inr (inr (inr (inl refl)))) (sym (write_answers refuse_all box_ruling command_ruling f 0 [] (refused EINVAL) refl))).0

long : List ℕ
long = replicate 961 97

long-over : {failing : Type 0} {v : View} {readers : List ℕ} → Applies failing v readers (outside 0 long 0) EINVAL
unfolding long
long-over =
    let h : payload_most < length long = omega arith in
    over_960 h

overflow-refused : AsListed (ruled_by overflow_first box_ruling command_ruling) → ⊥
overflow-refused f =
    let e : overflow_first (view word_most) long ≡ refused EOVERFLOW = rw (next-is word_most) in
    let x = written overflow_first box_ruling command_ruling f word_most long (refused EOVERFLOW) e in
    (x.exactly.only EOVERFLOW (inr (inr (inr (inr (inr (inl refl))))))
    (sym (write_answers overflow_first box_ruling command_ruling f word_most long (refused EOVERFLOW) e))
    ).1 EINVAL (inr (inr (inr (inl (refl, inr (inl refl)))))) long-over

module _ (bytes : List ℕ) where
  abbrev Row : Refusal → Type 0
  Row e = Applies (checked (empty 0).log (empty 0).buffer ≡ Ok tt → ⊥) (view 0) (empty 0).readers (outside 0 bytes 0) e

  -- no row before -22 applies to a write from outside, on the log whose next number is 0
  none_before : (e : Refusal) → Earlier e EINVAL table → Row e → ⊥
  none_before EBADFD k h = elim h [ check_fails g ↦ g (empty-fine 0) ]
  none_before EPERM k h = elim h [ ]
  none_before ESPIPE k h = elim h [ ]
  none_before EINVAL k h = (rows_apart (outside 0 bytes 0) 0).once EINVAL k
  none_before EFAULT k h = elim h [ ]
  none_before EOVERFLOW k h = elim h [ outside_at_last e ↦ absurd (omega (arith, e, next-is 0)) ]
  none_before EPIPE k h = elim h [ ]
  none_before EAGAIN k h = elim h [ ]

  -- so that a log which takes bytes that the row names is wrong
  taken_refused : (onWrite : View → List ℕ → Ruling) → onWrite (view 0) bytes ≡ allowed → Row EINVAL
      → AsListed (ruled_by onWrite box_ruling command_ruling) → ⊥
  taken_refused onWrite e r f =
      let x = written onWrite box_ruling command_ruling f 0 bytes allowed e in
      let y : x.answer ≡ refusal_number EINVAL = x.exactly.always EINVAL (inr (inr (inr (inl refl)))) r none_before in
      never (length bytes) 21 (write_answers onWrite box_ruling command_ruling f 0 bytes allowed e ∙ y)

byte-refused : AsListed (ruled_by one_byte_more box_ruling command_ruling) → ⊥
unfolding long
byte-refused = taken_refused long one_byte_more (rw (next-is 0)) long-over

zero-refused : AsListed (ruled_by zero_taken box_ruling command_ruling) → ⊥
zero-refused = taken_refused (0 ∷ []) zero_taken (rw (next-is 0)) (zero-byte (inl refl))

box_right : {failing : Type 0} {v : View} {readers : List ℕ} → Applies failing v readers (box 0 0 0 (0 ∷ []) [] false 0) EINVAL → ⊥
box_right h = elim h [
  | over_960_together g ↦ absurd (omega arith)
  | bad_facility g ↦ absurd (omega arith)
  | bad_level g ↦ absurd (omega arith)
  | bad_dictionary g ↦ g (inl refl)
]

from-box-refused : AsListed (ruled_by outside_ruling zero_from_box command_ruling) → ⊥
from-box-refused f =
    let x = boxed outside_ruling zero_from_box command_ruling f 0 (0 ∷ []) (refused EINVAL) refl in
    box_right (x.exactly.only EINVAL (inr (inr (inr (inl refl)))) (sym (box-answers outside_ruling zero_from_box command_ruling f 0 (0 ∷ []) (refused EINVAL) refl))).0

poor : Asked
poor = record { command = pos 11; len = pos 0; privilege = false; restriction = true }

not_open : Open poor → ⊥
unfolding poor
not_open o = elim o.type [
  | inl e ↦ other 11 3 e (omega arith)
  | inr e ↦ other 11 10 e (omega arith)
]

invalid-refused : AsListed (ruled_by outside_ruling box_ruling invalid_first) → ⊥
unfolding poor
invalid-refused f =
    let x = commanded outside_ruling box_ruling invalid_first f 0 poor (refused EINVAL) refl in
    (x.exactly.only EINVAL (inr (inr (inr (inl refl)))) (sym (command-answers outside_ruling box_ruling invalid_first f 0 poor (refused EINVAL) refl))
    ).1 EPERM (inr (inl (refl, inr (inl refl)))) (without_privilege refl not_open)

-- 511 bytes for the one block of a log that holds nothing
short-lent : List ℕ
short-lent = replicate 511 0

abbrev SaveRow : Refusal → Type 0
SaveRow e = Applies (checked (empty 0).log (empty 0).buffer ≡ Ok tt → ⊥) (view 0) (empty 0).readers (save 0 short-lent) e

none-before-short : (e : Refusal) → Earlier e EFAULT table → SaveRow e → ⊥
none-before-short EBADFD k h = elim h [ check_fails g ↦ g (empty-fine 0) ]
none-before-short EPERM k h = elim h [ ]
none-before-short ESPIPE k h = elim h [ ]
none-before-short EINVAL k h = elim h [ ]
none-before-short EFAULT k h = (rows_apart (save 0 short-lent) 0).once EFAULT k
none-before-short EOVERFLOW k h = elim h [ ]
none-before-short EPIPE k h = elim h [ ]
none-before-short EAGAIN k h = elim h [ ]

short-refused : AsListed (saves_by any_buffer) → ⊥
unfolding short-lent
short-refused f =
    let k = length (image_for (view 0) 0) in
    let x = f (empty 0) (bytes_of 0) (save 0 short-lent) tt in
    let a : pos k ≡ x.answer =
    ap (number_by (pos k)) (sym (by_ruling 0 (λ v. any_buffer v 0 short-lent))) ∙ sym (save-number (view 0) 0 short-lent _) ∙ x.answers
    in
    let y : x.answer ≡ refusal_number EFAULT =
    x.exactly.always EFAULT (inr (inr (inr (inr (inl refl))))) (short_of_image (λ blocks some fits. omega arith)) none-before-short
    in
    never k 13 (a ∙ y)

abbrev MinimumRow : Refusal → Type 0
MinimumRow e = Applies (checked (empty 0).log (empty 0).buffer ≡ Ok tt → ⊥) (view 0) (empty 0).readers (minimum (pos 9)) e

none-before-outside : (e : Refusal) → Earlier e EINVAL table → MinimumRow e → ⊥
none-before-outside EBADFD k h = elim h [ check_fails g ↦ g (empty-fine 0) ]
none-before-outside EPERM k h = elim h [ ]
none-before-outside ESPIPE k h = elim h [ ]
none-before-outside EINVAL k h = (rows_apart (minimum (pos 9)) 0).once EINVAL k
none-before-outside EFAULT k h = elim h [ ]
none-before-outside EOVERFLOW k h = elim h [ ]
none-before-outside EPIPE k h = elim h [ ]
none-before-outside EAGAIN k h = elim h [ ]

nine-refused : AsListed (minimum_ruled_by nine_taken) → ⊥
nine-refused f =
    let x = f (empty 0) (bytes_of 0) (minimum (pos 9)) tt in
    let a : pos 0 ≡ x.answer =
    ap (number_by (pos 0)) (sym (by_ruling 0 (λ v. nine_taken (pos 9)))) ∙ sym (minimum-number (view 0) (pos 9) _) ∙ x.answers
    in
    let y : x.answer ≡ refusal_number EINVAL =
    x.exactly.always EINVAL (inr (inr (inr (inl refl)))) (minimum-outside (λ n l h e. other 9 n e (omega arith))) none-before-outside
    in
    never 0 21 (a ∙ y)

ours : (s : State) (c : Call) → ruled_by outside_ruling box_ruling command_ruling s c ≡ answered s c
unfolding step outside_write box_write commanding
ours s (outside time bytes caller) = refl
ours s (box facility level time text dictionary fragment caller) = refl
ours s make = refl
ours s (place i n) = refl
ours s (read i lent) = refl
ours s (seek i offset whence) = refl
ours s (command a lent) = refl
ours s (save number lent) = refl
ours s (minimum wanted) = refl
ours s check = refl
ours s (console level setting) = refl

ours-saving : (s : State) (c : Call) → saves_by save_ruling s c ≡ answered s c
unfolding step saving
ours-saving s (outside time bytes caller) = refl
ours-saving s (box facility level time text dictionary fragment caller) = refl
ours-saving s make = refl
ours-saving s (place i n) = refl
ours-saving s (read i lent) = refl
ours-saving s (seek i offset whence) = refl
ours-saving s (command a lent) = refl
ours-saving s (save number lent) = refl
ours-saving s (minimum wanted) = refl
ours-saving s check = refl
ours-saving s (console level setting) = refl

ours-minimum : (s : State) (c : Call) → minimum_ruled_by minimum_ruling s c ≡ answered s c
unfolding step setting_minimum
ours-minimum s (outside time bytes caller) = refl
ours-minimum s (box facility level time text dictionary fragment caller) = refl
ours-minimum s make = refl
ours-minimum s (place i n) = refl
ours-minimum s (read i lent) = refl
ours-minimum s (seek i offset whence) = refl
ours-minimum s (command a lent) = refl
ours-minimum s (save number lent) = refl
ours-minimum s (minimum wanted) = refl
ours-minimum s check = refl
ours-minimum s (console level setting) = refl

pub wrong-refused : WrongRefused
wrong-refused =
    record {
      ours = ours;
      all = all-refused;
      overflow = overflow-refused;
      byte = byte-refused;
      zero = zero-refused;
      from-box = from-box-refused;
      invalid = invalid-refused;
      ours-saving = ours-saving;
      short = short-refused;
      ours-minimum = ours-minimum;
      nine = nine-refused;
    }
