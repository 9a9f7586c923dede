-- Demand 2: the log and the history agree, call after call. The log's view is what the history holds; only a write touches the
-- ring, and its laws know no history.
use Rattle.std.specs.Prelude.{Ok}
use Prim.Native.Nat.{ℕ, ◌+◌, ◌-◌, ◌≤◌}
use mathlib.Core.Path.{◌≡◌, refl, ap, ap₂, sym, ◌∙◌}
use mathlib.Core.Bool.{Bool, true, false}
use mathlib.Core.List.{List, [], ◌∷◌, ◌++◌}
use native.Mathlib.Omega.{arith}
use lib.Dec.{ltb}
use lib.IntN.{pos}
use lib.ListN
use lib.ListN.{length, get_or}
use Rattle.record.specs.Limits.{capacity_least, capacity_most}
use Rattle.record.specs.Record.{Record, cost}
use Rattle.ring.specs.Ring.{unrolled}
use Rattle.eventlog.specs.Answer.{Ruling, allowed, refused}
use Rattle.eventlog.specs.View.{Marks, View, next_of}
use Rattle.eventlog.specs.Check.{fresh_log, records_in, checked, marks_of, view_of, with_marks, ruled}
use Rattle.eventlog.specs.Excess.{excess}
use Rattle.store.specs.Write.{dropped_by, written_log, written_buffer}
use Rattle.store.proofs.StoredLaws.{Storable}
use Rattle.store.proofs.HoldsLaws.{Holds, goes, grown, dropped-is, length-written, holds_written, written_view}
use Rattle.store.proofs.MarkLaws.{fine}
use Rattle.savedtrail.specs.Save.{save_ruling, saving}
use Rattle.writes.specs.Write.{outside_record, box_record, outside_ruling, box_ruling, write_by, outside_write, box_write}
use Rattle.kmsg.specs.Read.{reader_at, read_ruling, read_by, reading, seek_ruling, seek_by, seeking}
use Rattle.syslog.specs.Command.{OnView, on_log, command_ruling, command_by, commanding}
use Rattle.syslog.specs.Minimum.{minimum_ruling, minimum_by, setting_minimum}
use Rattle.history.specs.Calls.{Call, outside, box, make, place, read, seek, command, save, minimum, check, console, Reply, wrote, made, verdict, nobody, State, Stepped, stepped, with_readers, after_write, reply_read, reply_seek, after_command, if_there, step, run, state_after}
use Rattle.history.specs.Past.{Past, first_held, held, next_number, Told, telling, readers_at, accept, past_write, past_command, past_step, past_run, past_after, fresh_past}
use Rattle.history.specs.Demand2.{fresh, Timed, AllTimed, Demand2}
use Rattle.history.specs.Readers.{with_past_marks}
use Rattle.history.proofs.HeldLaws.{next-held, first_grown, held_grown}
use Rattle.history.proofs.SoundLaws.{Sound, Ready, ready_cost, outside_ready, box_ready, sound-step, sound-fresh}

pub record Agrees (s : State) (p : Past) : Type 0 where
  pub holds : Holds s.log s.buffer (held p).records
  pub small : length s.buffer ≤ capacity_most
  pub same : view_of s.log s.buffer ≡ held p
  pub readers : s.readers ≡ p.readers

module _ (s : State) (p : Past) (a : Agrees s p) (ok : Sound p) where
  pub first-is : s.log.first.0 ≡ first_held p
  unfolding view_of held
  first-is = ap (λ (v : View). v.first) a.same

  view_capacity : length s.buffer ≡ (held p).capacity
  unfolding view_of
  view_capacity = ap (λ (v : View). v.capacity) a.same

  capacity-is : length s.buffer ≡ p.capacity
  unfolding held
  capacity-is = view_capacity

  marks_are : marks_of s.log ≡ (held p).marks
  unfolding view_of
  marks_are = ap (λ (v : View). v.marks) a.same

  pub next-is : s.log.next.0 ≡ next_number p
  unfolding next_of held
  next-is = a.holds.next ∙ ap (λ (n : ℕ). n + length (held p).records) first-is ∙ next-held p

  pub setting-is : s.log.console ≡ p.marks.setting
  unfolding marks_of held
  setting-is = ap (λ (m : Marks). m.setting) marks_are

  -- the log check passes, and the call goes on from what the history holds
  pub is-fine : checked s.log s.buffer ≡ Ok tt
  unfolding held
  is-fine = fine s.log s.buffer (held p).records a.holds (rw (marks_are, first-is) ok.marked) (rw capacity-is ok.large) a.small

  pub ruled-is : (ruling : View → Ruling) → ruled s.log s.buffer ruling ≡ ruling (held p)
  unfolding ruled
  ruled-is ruling = rw (is-fine, a.same)

  -- ---- readers

  agree_readers : (rs rp : List ℕ) → rs ≡ rp → Agrees (with_readers s rs) (readers_at p rp)
  unfolding held first_held
  agree_readers rs rp e = record { holds = a.holds; small = a.small; same = a.same; readers = e }

  agree_set : (i n : ℕ) → Agrees (with_readers s (lib.ListN.set s.readers i n)) (readers_at p (lib.ListN.set p.readers i n))
  agree_set i n = agree_readers _ _ (ap (λ (l : List ℕ). lib.ListN.set l i n) a.readers)

  -- a read or a seek by reader i, which leaves it at n
  module _ (i n : ℕ) (r : Reply) where
    abbrev left-log : Bool → Stepped
    left-log there = if_there there (stepped r (with_readers s (lib.ListN.set s.readers i n))) (stepped nobody s)

    abbrev left-past : Bool → Told
    left-past there = if_there there (telling r (readers_at p (lib.ListN.set p.readers i n))) (telling nobody p)

    agree_either : (there : Bool) → ((left-log there).reply ≡ (left-past there).reply) × Agrees (left-log there).state (left-past there).past
    agree_either true = (refl, agree_set i n)
    agree_either false = (refl, a)

    agree_there : let t = ltb i (length s.readers) in
        let u = ltb i (length p.readers) in
        ((left-log t).reply ≡ (left-past u).reply) × Agrees (left-log t).state (left-past u).past
    agree_there = rw (ap (λ (l : List ℕ). ltb i (length l)) a.readers) (agree_either (ltb i (length p.readers)))

  -- ---- writes

  module _ (r : Record) (w : Ready p r) where
    fits : cost r ≤ length s.buffer
    fits = rw capacity-is (ready_cost p r ok w)

    storable : Storable s.log.next.0 r
    storable = rw next-is w.storable

    told-dropped : dropped_by s.log s.buffer (cost r) ≡ first_held (accept p r) - first_held p
    told-dropped =
        let e : dropped_by s.log s.buffer (cost r) ≡ goes (held p) r =
        rw view_capacity at (dropped-is s.log s.buffer (held p).records a.holds r fits storable) in
        omega (arith, e, first_grown p r (ready_cost p r ok w))

    agree_write : Agrees
        (record { log = written_log s.log s.buffer r; buffer = written_buffer s.log s.buffer r; readers = s.readers })
        (accept p r)
    agree_write =
        let g : held (accept p r) ≡ grown (held p) r = held_grown p r (ready_cost p r ok w) in
        record {
          holds = rw (g, ← view_capacity) (holds_written s.log s.buffer (held p).records a.holds r fits storable);
          small = rw (length-written s.log s.buffer (held p).records a.holds r fits storable) a.small;
          same = written_view s.log s.buffer (held p).records a.holds r fits storable ∙ ap (λ (v : View). grown v r) a.same ∙ sym g;
          readers = a.readers;
        }

  write_step : (r : Record) (bytes : ℕ) (q : Ruling) → (q ≡ allowed → Ready p r)
      → let x = after_write s.readers (write_by s.log s.buffer r bytes q) in
      let y = past_write p r bytes q in
      (x.reply ≡ y.reply) × Agrees x.state y.past
  unfolding write_by past_write
  write_step r bytes allowed h = (ap (wrote (pos bytes)) (told-dropped r (h refl)), agree_write r (h refl))
  write_step r bytes (refused why) h = (refl, a)

  -- ---- commands

  agree_marks : (m : Marks) → Agrees (record { log = with_marks s.log m; buffer = s.buffer; readers = s.readers }) (with_past_marks p m)
  unfolding with_marks view_of marks_of held first_held
  agree_marks m =
      let h = a.holds in
      record {
        holds = record { within = h.within; bytes = h.bytes; numbered = h.numbered; next = h.next };
        small = a.small;
        same = ap (λ (v : View). record { capacity = v.capacity; first = v.first; records = v.records; marks = m }) a.same;
        readers = a.readers;
      }

  command-step : (c : OnView)
      → let x = after_command s (on_log s.log c) in let y = past_command p c in (x.reply ≡ y.reply) × Agrees x.state y.past
  command-step c = (refl, agree_marks c.marks)

-- ---- every call

pub agree_step : (s : State) (p : Past) (c : Call) → Agrees s p → Sound p → Timed c
    → ((step s c).reply ≡ (past_step p c).reply) × Agrees (step s c).state (past_step p c).past
unfolding step past_step outside_write box_write reading seeking commanding saving setting_minimum
agree_step s p (outside time bytes caller) a ok t =
    rw (ruled-is s p a ok (λ v. outside_ruling v bytes), ap (λ (n : ℕ). outside_record n time bytes caller) (next-is s p a ok))
    (write_step s p a ok (outside_record (next_number p) time bytes caller) (length bytes) (outside_ruling (held p) bytes) (outside_ready p ok time bytes caller t))
agree_step s p (box facility level time text dictionary fragment caller) a ok t =
    rw (
      ruled-is s p a ok (λ v. box_ruling v facility level text dictionary),
      ap (λ (n : ℕ). box_record n time facility level text dictionary fragment caller) (next-is s p a ok),
    )
    (write_step s p a ok (box_record (next_number p) time facility level text dictionary fragment caller) (length text + length dictionary)
    (box_ruling (held p) facility level text dictionary) (box_ready p ok facility level time text dictionary fragment caller t))
agree_step s p make a ok t =
    let e = first-is s p a ok in
    (ap made e, agree_readers s p a ok _ _ (ap₂ (λ (l : List ℕ) (n : ℕ). l ++ (n ∷ [])) a.readers e))
agree_step s p (place i n) a ok t = (refl, agree_set s p a ok i n)
agree_step s p (read i lent) a ok t =
    let n = get_or p.readers i 0 in
    let g = read_by (held p) n lent (read_ruling (held p) n lent) in
    rw (ruled-is s p a ok (λ v. read_ruling v (get_or s.readers i 0) lent), a.same, ap (λ (l : List ℕ). get_or l i 0) a.readers)
    (agree_there s p a ok i g.reader.next.0 (reply_read g))
agree_step s p (seek i offset whence) a ok t =
    let g = seek_by (held p) (reader_at (get_or p.readers i 0)) whence (seek_ruling offset whence) in
    rw (ruled-is s p a ok (λ v. seek_ruling offset whence), a.same, ap (λ (l : List ℕ). get_or l i 0) a.readers)
    (agree_there s p a ok i g.reader.next.0 (reply_seek g))
agree_step s p (command x lent) a ok t =
    rw (ruled-is s p a ok (λ v. command_ruling v x lent), a.same)
    (command-step s p a ok (command_by (held p) x lent (command_ruling (held p) x lent)))
agree_step s p (save number lent) a ok t = rw (ruled-is s p a ok (λ v. save_ruling v number lent), a.same) (refl, a)
agree_step s p (minimum wanted) a ok t =
    rw (ruled-is s p a ok (λ v. minimum_ruling wanted), a.same) (refl, agree_marks s p a ok (minimum_by (held p) wanted (minimum_ruling wanted)).marks)
agree_step s p check a ok t = (ap verdict (is-fine s p a ok), a)
agree_step s p (console level setting) a ok t = (refl, a)

pub agree_run : (cs : List Call) (s : State) (p : Past) → Agrees s p → Sound p → AllTimed cs → run s cs ≡ past_run p cs
unfolding run past_run
agree_run [] s p a ok t = refl
agree_run (c ∷ cs) s p a ok t =
    let n = agree_step s p c a ok t.0 in
    let rest = agree_run cs (step s c).state (past_step p c).past n.1 (sound-step p c ok t.0) t.1 in
    ap₂ (λ (r : Reply) (rs : List Reply). r ∷ rs) n.0 rest

pub agree_after : (cs : List Call) (s : State) (p : Past) → Agrees s p → Sound p → AllTimed cs → Agrees (state_after s cs) (past_after p cs)
unfolding state_after past_after
agree_after [] s p a ok t = a
agree_after (c ∷ cs) s p a ok t =
    agree_after cs (step s c).state (past_step p c).past (agree_step s p c a ok t.0).1 (sound-step p c ok t.0) t.1

-- ---- a fresh log and an empty history

pub agree_fresh : (buffer : List ℕ) → capacity_least ≤ length buffer → length buffer ≤ capacity_most
    → Agrees (fresh buffer) (fresh_past (length buffer))
unfolding fresh fresh_past fresh_log view_of marks_of records_in unrolled held first_held excess
agree_fresh buffer l h =
    record {
      holds = record { within = record { start_in = omega arith; used_in = omega arith }; bytes = refl; numbered = tt; next = refl };
      small = h;
      same = refl;
      readers = refl;
    }

pub demand_2 : Demand2
demand_2 buffer l h cs t =
    agree_run cs (fresh buffer) (fresh_past (length buffer)) (agree_fresh buffer l h) (sound-fresh (length buffer) l) t
