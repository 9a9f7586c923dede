-- Demand 1 of the log: an answer is a count or a number of the table, and a refusal leaves all as it was. Every call is made by its ruling, so
-- the proof is a case on the ruling.
use Prim.Native.Nat.{ℕ}
use mathlib.Core.Path.{◌≡◌, refl, ap, ◌∙◌, subst}
use mathlib.Core.Logic.{inl, inr}
use mathlib.Core.Bool.{Bool, true, false, cond}
use mathlib.Core.List.{List, []}
use native.Mathlib.Omega.{arith}
use lib.Dec.{ltb}
use lib.IntN.{ℤ, pos, negsuc}
use lib.ListN
use lib.ListN.{length, get_or}
use lib.Seq.{set-get_or}
use Rattle.record.specs.Record.{Record}
use Rattle.eventlog.specs.Answer.{refusal_number, Ruling, allowed, refused}
use Rattle.eventlog.specs.Check.{marks_of, view_of, with_marks, ruled}
use Rattle.eventlog.specs.declared.Log.{Log}
use Rattle.eventlog.specs.declared.Refusal.{Refusal}
use Rattle.eventlog.specs.declared.Refusal.TheVariants.{EBADFD, EPERM, ESPIPE, EINVAL, EFAULT, EOVERFLOW, EPIPE, EAGAIN}
use Rattle.savedtrail.specs.Save.{save_by, saving}
use Rattle.writes.specs.Write.{write_by, outside_write, box_write}
use Rattle.kmsg.specs.Read.{AfterRead, read_refused, read_done, read_by, reading, AfterSeek, seek_ruling, seek_by, seeking}
use Rattle.syslog.specs.Command.{command_by, commanding}
use Rattle.syslog.specs.Minimum.{minimum_by, setting_minimum}
use Rattle.syslog.specs.declared.Asked.{Asked}
use Rattle.history.specs.Calls.{outside, box, make, place, read, seek, command, save, minimum, check, console, State, Stepped, stepped, nobody, with_readers, reader_of, if_there, after_write, reply_read, reply_seek, step}
use Rattle.history.specs.Demand1.{Answers, Known, tells_overtaken, lent_back, Demand1}

-- a count is not below 0
pub never : {X : Type 0} (n k : ℕ) → pos n ≡ negsuc k → X
never n k e =
    let z : ◌≡◌ {A = ℕ} 0 1 = cc in
    absurd (omega arith)

pub known-refusal : (r : Refusal) → Known (refusal_number r)
known-refusal EBADFD = inl refl
known-refusal EPERM = inr (inl refl)
known-refusal ESPIPE = inr (inr (inl refl))
known-refusal EINVAL = inr (inr (inr (inl refl)))
known-refusal EFAULT = inr (inr (inr (inr (inl refl))))
known-refusal EOVERFLOW = inr (inr (inr (inr (inr (inl refl)))))
known-refusal EPIPE = inr (inr (inr (inr (inr (inr (inl refl))))))
known-refusal EAGAIN = inr (inr (inr (inr (inr (inr (inr (inl refl)))))))

-- a known number, and what holds where it is below 0
abbrev Fits : ℤ → Type 0 → Type 0
Fits n A = Known n × ((k : ℕ) → n ≡ negsuc k → A)

fits_at : {A : Type 0} {a n : ℤ} → a ≡ n → Fits a A → Fits n A
fits_at e f = (subst Known e f.0, λ k z. f.1 k (e ∙ z))

-- ---- writes

write_left : (s : State) (w : Record) (bytes : ℕ) (q : Ruling)
    → Fits (write_by s.log s.buffer w bytes q).answer ((after_write s.readers (write_by s.log s.buffer w bytes q)).state ≡ s)
unfolding write_by
write_left s w bytes allowed = (tt, λ k e. never bytes k e)
write_left s w bytes (refused why) = (known-refusal why, λ k e. refl)

-- ---- reads and seeks

same-readers : (s : State) (i : ℕ) → with_readers s (lib.ListN.set s.readers i (get_or s.readers i 0)) ≡ s
same-readers s i = rw set-get_or

module _ (s : State) (i : ℕ) (lent : List ℕ) where
  abbrev given : Ruling → AfterRead
  given q = read_by (view_of s.log s.buffer) (get_or s.readers i 0) lent q

  abbrev moved : ℤ → State
  moved n = cond (tells_overtaken n) (with_readers s (lib.ListN.set s.readers i s.log.first.0)) s

  read_left : (q : Ruling)
      → Fits (given q).answer
      ((with_readers s (lib.ListN.set s.readers i (given q).reader.next.0) ≡ moved (given q).answer) × ((given q).lent ≡ lent))
  unfolding read_by read_refused read_done view_of
  read_left allowed = (tt, λ k e. never _ k e)
  read_left (refused EPIPE) = (known-refusal EPIPE, λ k e. (refl, refl))
  read_left (refused EBADFD) = (known-refusal EBADFD, λ k e. (same-readers s i, refl))
  read_left (refused EPERM) = (known-refusal EPERM, λ k e. (same-readers s i, refl))
  read_left (refused ESPIPE) = (known-refusal ESPIPE, λ k e. (same-readers s i, refl))
  read_left (refused EINVAL) = (known-refusal EINVAL, λ k e. (same-readers s i, refl))
  read_left (refused EFAULT) = (known-refusal EFAULT, λ k e. (same-readers s i, refl))
  read_left (refused EOVERFLOW) = (known-refusal EOVERFLOW, λ k e. (same-readers s i, refl))
  read_left (refused EAGAIN) = (known-refusal EAGAIN, λ k e. (same-readers s i, refl))

  abbrev read-leaves : Bool → Ruling → Stepped
  read-leaves there q =
      if_there there (stepped (reply_read (given q)) (with_readers s (lib.ListN.set s.readers i (given q).reader.next.0))) (stepped nobody s)

  read_step : (there : Bool) (q : Ruling) (n : ℤ) → Answers (read-leaves there q).reply n
      → Fits n (((read-leaves there q).state ≡ moved n) × (lent_back (read-leaves there q).reply ≡ lent))
  read_step true q n e =
      subst
      (λ (m : ℤ). Fits m (((read-leaves true q).state ≡ moved m) × (lent_back (read-leaves true q).reply ≡ lent))) e
      (read_left q)
  read_step false q n e = absurd e

module _ (s : State) (i : ℕ) (whence : ℤ) where
  abbrev seeks : Ruling → AfterSeek
  seeks q = seek_by (view_of s.log s.buffer) (reader_of s i) whence q

  seek-left : (q : Ruling) → Fits (seeks q).answer (with_readers s (lib.ListN.set s.readers i (seeks q).reader.next.0) ≡ s)
  unfolding seek_by
  seek-left allowed = (tt, λ k e. never _ k e)
  seek-left (refused why) = (known-refusal why, λ k e. same-readers s i)

  abbrev seek-leaves : Bool → Ruling → Stepped
  seek-leaves there q =
      if_there there (stepped (reply_seek (seeks q)) (with_readers s (lib.ListN.set s.readers i (seeks q).reader.next.0))) (stepped nobody s)

  seek-step : (there : Bool) (q : Ruling) (n : ℤ) → Answers (seek-leaves there q).reply n
      → Fits n (((seek-leaves there q).state ≡ s) × (lent_back (seek-leaves there q).reply ≡ []))
  seek-step true q n e =
      let f = fits_at e (seek-left q) in
      (f.0, λ k z. (f.1 k z, refl))
  seek-step false q n e = absurd e

-- ---- commands

same-marks : (log : Log) → with_marks log (marks_of log) ≡ log
unfolding with_marks marks_of
same-marks log = refl

command-left : (log : Log) (buffer : List ℕ) (a : Asked) (lent : List ℕ) (q : Ruling)
    → let c = command_by (view_of log buffer) a lent q in
    Fits c.answer ((with_marks log c.marks ≡ log) × (c.lent ≡ lent))
unfolding command_by view_of
command-left log buffer a lent allowed = (tt, λ k e. never _ k e)
command-left log buffer a lent (refused why) = (known-refusal why, λ k e. (same-marks log, refl))

-- ---- saving

save-left : (log : Log) (buffer : List ℕ) (number : ℕ) (lent : List ℕ) (q : Ruling)
    → let r = save_by (view_of log buffer) number lent q in
    Fits r.answer (r.lent ≡ lent)
unfolding save_by
save-left log buffer number lent allowed = (tt, λ k e. never _ k e)
save-left log buffer number lent (refused why) = (known-refusal why, λ k e. refl)

-- ---- the minimum

minimum-left : (log : Log) (buffer : List ℕ) (wanted : ℤ) (q : Ruling)
    → let m = minimum_by (view_of log buffer) wanted q in
    Fits m.answer (with_marks log m.marks ≡ log)
unfolding minimum_by view_of
minimum-left log buffer wanted allowed = (tt, λ k e. never _ k e)
minimum-left log buffer wanted (refused why) = (known-refusal why, λ k e. same-marks log)

-- ---- every call

pub demand_1 : Demand1
unfolding step outside_write box_write reading seeking commanding saving setting_minimum
demand_1 s (outside time bytes caller) n e =
    let f = fits_at e (write_left s _ _ _) in
    record { known = f.0; state = f.1; lent = λ k z. refl }
demand_1 s (box facility level time text dictionary fragment caller) n e =
    let f = fits_at e (write_left s _ _ _) in
    record { known = f.0; state = f.1; lent = λ k z. refl }
demand_1 s make n e = absurd e
demand_1 s (place i m) n e = absurd e
demand_1 s (read i lent) n e =
    let f = read_step s i lent (ltb i (length s.readers)) _ n e in
    record { known = f.0; state = λ k z. (f.1 k z).0; lent = λ k z. (f.1 k z).1 }
demand_1 s (seek i offset whence) n e =
    let f = seek-step s i whence (ltb i (length s.readers)) (ruled s.log s.buffer (λ v. seek_ruling offset whence)) n e in
    record { known = f.0; state = λ k z. (f.1 k z).0; lent = λ k z. (f.1 k z).1 }
demand_1 s (command a lent) n e =
    let f = fits_at e (command-left s.log s.buffer a lent _) in
    record {
      known = f.0;
      state = λ k z. ap (λ (l : Log). record { log = l; buffer = s.buffer; readers = s.readers }) (f.1 k z).0;
      lent = λ k z. (f.1 k z).1;
    }
demand_1 s (save number lent) n e =
    let f = fits_at e (save-left s.log s.buffer number lent _) in
    record { known = f.0; state = λ k z. refl; lent = f.1 }
demand_1 s (minimum wanted) n e =
    let f = fits_at e (minimum-left s.log s.buffer wanted _) in
    record {
      known = f.0;
      state = λ k z. ap (λ (l : Log). record { log = l; buffer = s.buffer; readers = s.readers }) (f.1 k z);
      lent = λ k z. refl;
    }
demand_1 s check n e = absurd e
demand_1 s (console level setting) n e = absurd e
