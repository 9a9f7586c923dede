-- A sound history: records of consecutive numbers from 0 by the rules, and marks that fit what is held. Every call keeps it so.
use Prim.Native.Nat.{ℕ, ◌+◌, ◌<◌, ◌≤◌}
use mathlib.Core.Path.{◌≡◌, refl}
use mathlib.Core.Bool.{Bool, true, false}
use mathlib.Core.List.{List, [], ◌∷◌, ◌++◌}
use native.Mathlib.Omega.{arith}
use native.Mathlib.Nat.{zero-add}
use lib.Dec.{ltb}
use lib.IntN.{ℤ, pos}
use lib.ListN
use lib.ListN.{length, length-append}
use Rattle.console.specs.Console.{saved_fits, setting_fits}
use Rattle.record.specs.Limits.{capacity_least, word_most, caller_most}
use Rattle.record.specs.Record.{Record, cost}
use Rattle.eventlog.specs.Answer.{Ruling, allowed, refused}
use Rattle.eventlog.specs.View.{Marks, View, next_of}
use Rattle.eventlog.specs.Excess.{excess}
use Rattle.eventlog.proofs.ExcessLaws.{excess-some}
use Rattle.store.proofs.StoredLaws.{Storable, Numbered, numbered_drop, numbered_append, numbered_at}
use Rattle.store.proofs.HoldsLaws.{goes}
use Rattle.store.proofs.MarkLaws.{Marked, marked_grown}
use Rattle.writes.specs.Write.{outside_record, box_record, outside_ruling, box_ruling}
use Rattle.writes.proofs.StorableLaws.{outside_storable, outside-next, box_storable, box-next}
use Rattle.syslog.specs.Command.{command_ruling, marks_after, command_by}
use Rattle.syslog.specs.declared.Asked.{Asked}
use Rattle.syslog.proofs.CommandLaws.{with_view_marks, command_marked, command-on}
use Rattle.syslog.specs.Minimum.{minimum_ruling, minimum_by}
use Rattle.syslog.proofs.MinimumLaws.{minimum_marked}
use Rattle.history.specs.Calls.{Call, outside, box, make, place, read, seek, command, save, minimum, check, console, Reply, nobody, if_there}
use Rattle.history.specs.Past.{Past, first_held, held, next_number, Told, telling, readers_at, accept, past_write, past_step, past_after, fresh_past}
use Rattle.history.specs.Demand2.{Timed, AllTimed}
use Rattle.history.specs.Readers.{with_past_marks, NumberedInOrder, ReadsOn}
use Rattle.history.proofs.HeldLaws.{next-held, held_grown}

pub record Sound (p : Past) : Type 0 where
  pub large : capacity_least ≤ p.capacity
  pub numbered : Numbered 0 p.all
  pub word : length p.all ≤ word_most
  pub marked : Marked (held p).first (held p).records (held p).marks

-- the records that are held have consecutive numbers from first
pub numbered_held : (p : Past) → Sound p → Numbered (held p).first (held p).records
unfolding held
numbered_held p s = rw zero-add at (numbered_drop (first_held p) 0 p.all s.numbered)

pub goes_some : (v : View) (r : Record) → goes v r ≤ length v.records
goes_some v r = excess-some v.capacity (cost r) v.records

-- a record that a write may store
pub record Ready (p : Past) (r : Record) : Type 0 where
  pub storable : Storable (next_number p) r
  pub last : next_number p < word_most

pub ready_cost : (p : Past) (r : Record) → Sound p → Ready p r → cost r ≤ p.capacity
unfolding cost
ready_cost p r s w = omega (arith, s.large, w.storable.payload)

module _ (p : Past) (s : Sound p) where
  below : (next_of (held p) ≡ word_most → ⊥) → next_number p < word_most
  below h = omega (arith, next-held p, s.word, h)

  pub outside_ready : (time : ℕ) (bytes : List ℕ) (caller : ℕ) → (time ≤ word_most) × (caller ≤ caller_most) → outside_ruling (held p) bytes ≡ allowed
      → Ready p (outside_record (next_number p) time bytes caller)
  outside_ready time bytes caller t e =
      record {
        storable = outside_storable (held p) (next_number p) time bytes caller e t.0 t.1 s.word;
        last = below (outside-next (held p) (next_number p) time bytes caller e);
      }

  pub box_ready : (facility level time : ℕ) (text dictionary : List ℕ) (fragment : Bool) (caller : ℕ) → (time ≤ word_most) × (caller ≤ caller_most) → box_ruling (held p) facility level text dictionary ≡ allowed
      → Ready p (box_record (next_number p) time facility level text dictionary fragment caller)
  box_ready facility level time text dictionary fragment caller t e =
      record {
        storable = box_storable (held p) (next_number p) facility level time text dictionary fragment caller e t.0 t.1 s.word;
        last = below (box-next (held p) (next_number p) facility level time text dictionary fragment caller e);
      }

  -- ---- writes

  marked_accept : (r : Record) → Ready p r → Marked (held (accept p r)).first (held (accept p r)).records (held (accept p r)).marks
  marked_accept r w =
      rw (held_grown p r (ready_cost p r s w))
      (marked_grown (held p).first (held p).records r (goes (held p) r) (goes_some (held p) r) (held p).marks s.marked)

  sound-accept : (r : Record) → Ready p r → Sound (accept p r)
  sound-accept r w =
      record {
        large = s.large;
        numbered = numbered_append 0 p.all r s.numbered (rw zero-add w.storable);
        word = simp length-append (omega (arith, w.last));
        marked = marked_accept r w;
      }

  sound_write : (r : Record) (bytes : ℕ) (q : Ruling) → (q ≡ allowed → Ready p r) → Sound (past_write p r bytes q).past
  unfolding past_write
  sound_write r bytes allowed h = sound-accept r (h refl)
  sound_write r bytes (refused why) h = s

  -- ---- reads and seeks

  sound-readers : (readers : List ℕ) → Sound (readers_at p readers)
  unfolding held first_held
  sound-readers readers = record { large = s.large; numbered = s.numbered; word = s.word; marked = s.marked }

  sound-there : (t : Bool) (r : Reply) (readers : List ℕ) → Sound (if_there {A = Told} t (telling r (readers_at p readers)) (telling nobody p)).past
  sound-there true r readers = sound-readers readers
  sound-there false r readers = s

  -- ---- commands

  pub sound-marks : (m : Marks) → Marked (held p).first (held p).records m → Sound (with_past_marks p m)
  unfolding held first_held
  sound-marks m k = record { large = s.large; numbered = s.numbered; word = s.word; marked = k }

  pub marked_by : (a : Asked) (lent : List ℕ) (q : Ruling) → command_ruling (held p) a lent ≡ q
      → Marked (held p).first (held p).records (command_by (held p) a lent q).marks
  unfolding command_by
  marked_by a lent allowed e = command_marked (held p) s.marked (numbered_held p s) a lent e
  marked_by a lent (refused why) e = s.marked

  pub minimum_marked_by : (wanted : ℤ) (q : Ruling) → Marked (held p).first (held p).records (minimum_by (held p) wanted q).marks
  unfolding minimum_by
  minimum_marked_by wanted allowed = minimum_marked (held p) wanted s.marked
  minimum_marked_by wanted (refused why) = s.marked

-- ---- every call

pub sound-step : (p : Past) (c : Call) → Sound p → Timed c → Sound (past_step p c).past
unfolding past_step
sound-step p (outside time bytes caller) s t =
    sound_write p s (outside_record (next_number p) time bytes caller) (length bytes) (outside_ruling (held p) bytes) (outside_ready p s time bytes caller t)
sound-step p (box facility level time text dictionary fragment caller) s t =
    sound_write p s (box_record (next_number p) time facility level text dictionary fragment caller) (length text + length dictionary)
    (box_ruling (held p) facility level text dictionary) (box_ready p s facility level time text dictionary fragment caller t)
sound-step p make s t = sound-readers p s (p.readers ++ (first_held p ∷ []))
sound-step p (place i n) s t = sound-readers p s (lib.ListN.set p.readers i n)
sound-step p (read i lent) s t = sound-there p s (ltb i (length p.readers)) _ _
sound-step p (seek i offset whence) s t = sound-there p s (ltb i (length p.readers)) _ _
sound-step p (command a lent) s t =
    let c = command_by (held p) a lent (command_ruling (held p) a lent) in
    sound-marks p s c.marks (marked_by p s a lent _ refl)
sound-step p (save number lent) s t = s
sound-step p (minimum wanted) s t =
    let m = minimum_by (held p) wanted (minimum_ruling wanted) in
    sound-marks p s m.marks (minimum_marked_by p s wanted _)
sound-step p check s t = s
sound-step p (console level setting) s t = s

pub sound-after : (cs : List Call) (p : Past) → Sound p → AllTimed cs → Sound (past_after p cs)
unfolding past_after
sound-after [] p s t = s
sound-after (c ∷ cs) p s t = sound-after cs (past_step p c).past (sound-step p c s t.0) t.1

pub sound-fresh : (capacity : ℕ) → capacity_least ≤ capacity → Sound (fresh_past capacity)
unfolding fresh_past held first_held excess setting_fits saved_fits
sound-fresh capacity l =
    record {
      large = l;
      numbered = tt;
      word = omega arith;
      marked = record {
        clear_in = omega arith;
        position-fits = record { in_range_lem = omega arith; at_next = λ e. refl; inside = λ x y. absurd (omega arith); small = omega arith };
        setting-fits = refl;
      };
    }

-- ---- record n bears the number n

pub numbered_in_order : NumberedInOrder
numbered_in_order capacity l cs t n h =
    let p = past_after (fresh_past capacity) cs in
    let s = sound-after cs (fresh_past capacity) (sound-fresh capacity l) t in
    rw zero-add at (numbered_at n 0 p.all s.numbered h).sequence

-- ---- command 2 gives the unread bytes one after the other

held-marks : (p : Past) (m : Marks) → held (with_past_marks p m) ≡ with_view_marks (held p) m
unfolding held first_held
held-marks p m = refl

pub reads_on : ReadsOn
reads_on capacity l h cs t len =
    let p = past_after (fresh_past capacity) cs in
    let s = sound-after cs (fresh_past capacity) (sound-fresh capacity l) t in
    rw (held-marks p (marks_after (held p) (pos 2) len)) (command-on (held p) s.marked (numbered_held p s) len)
