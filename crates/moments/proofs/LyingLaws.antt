-- Where the records of a history lie: the start place and the buffer after each call, told from the history, with which the log agrees. A record's
-- bytes are put in one part or two, and not byte by byte: so the rows on bytes compute little.
use Prim.Native.Nat.{ℕ, ◌+◌, ◌-◌, ◌<◌, ◌≤◌}
use mathlib.Core.Path.{◌≡◌, refl, ap, sym, ◌∙◌}
use mathlib.Core.Bool.{Bool, true, false}
use mathlib.Core.List.{List, [], ◌∷◌}
use native.Mathlib.Omega.{arith}
use native.Mathlib.Decide.{dec_le}
use lib.Dec.{ltb}
use lib.ListN.{length, take, drop, length-take, length-drop, take-append-drop, drop_of_length-le}
use Rattle.slices.specs.Put.{put}
use Rattle.record.specs.Record.{Record, cost}
use Rattle.record.specs.Heading.{record_bytes}
use Rattle.record.proofs.HeadingLaws.{length-record_bytes}
use Rattle.ring.specs.Ring.{wrapped, ring_put}
use Rattle.ring.proofs.RingLaws.{wrapped_near, wrapped_far, wrapped_in, length-ring_put, ring_put-append, ring_put-place, ring_put_straight}
use Rattle.eventlog.specs.Answer.{Ruling, allowed, refused}
use Rattle.eventlog.specs.View.{View}
use Rattle.eventlog.specs.Check.{view_of, with_marks}
use Rattle.eventlog.specs.Excess.{total}
use Rattle.store.specs.Write.{kept_by, written_log, written_buffer}
use Rattle.store.proofs.StoredLaws.{Storable}
use Rattle.store.proofs.HoldsLaws.{grown, used-is, holds_written}
use Rattle.writes.specs.Write.{outside_record, box_record, outside_ruling, box_ruling, write_by, outside_write, box_write}
use Rattle.syslog.specs.Command.{commanding}
use Rattle.syslog.specs.Minimum.{setting_minimum}
use Rattle.history.specs.Calls.{Call, outside, box, make, place, read, seek, command, save, minimum, check, console, State, Stepped, after_write, if_there, step, state_after}
use Rattle.history.specs.Past.{Past, held, next_number, past_step}
use Rattle.history.specs.Demand2.{Timed, AllTimed}
use Rattle.history.proofs.SoundLaws.{Sound, Ready, ready_cost, outside_ready, box_ready, sound-step}
use Rattle.history.proofs.Demand2.{Agrees, next-is, ruled-is, agree_step}

-- ---- bytes put into a ring in two parts

-- from a place in a ring of n bytes up to its end, and the rest from its start on
unfoldable pub laid : ℕ → List ℕ → ℕ → List ℕ → List ℕ
laid n b p xs = put (put b p (take (n - p) xs)) 0 (drop (n - p) xs)

module _ (b xs : List ℕ) (p : ℕ) (inside : p < length b) (some : length xs ≤ length b) where
  abbrev k : ℕ
  k = length b - p

  first : ring_put b p (take k xs) ≡ put b p (take k xs)
  first = ring_put_straight (take k xs) b p (simp length-take (omega arith))

  -- the rest lies at the start
  rest : (c : List ℕ) → length c ≡ length b → ring_put c (p + length (take k xs)) (drop k xs) ≡ put c 0 (drop k xs)
  unfolding ring_put
  rest c l = elim (dec_le (length xs) k) [
    | yes h ↦ rw (drop_of_length-le xs h)
    | no h ↦
        let e : p + length (take k xs) ≡ length c = simp length-take (omega arith) in
        let none : length c - length c ≡ 0 = omega arith in
        let z : wrapped (length c) (length c) ≡ wrapped (length c) 0 =
        wrapped_far (length c) (length c) (omega arith) (omega arith) ∙ none ∙ sym (wrapped_near (length c) 0 (omega arith)) in
        rw e (ring_put-place (drop k xs) c (length c) 0 (omega arith) z ∙ ring_put_straight (drop k xs) c 0 (simp length-drop (omega arith)))
  ]

  laid-is : ring_put b p xs ≡ laid (length b) b p xs
  unfolding laid
  laid-is =
      ap (ring_put b p) (sym (take-append-drop k xs))
      ∙ sym (ring_put-append (take k xs) (drop k xs) b p)
      ∙ rest (ring_put b p (take k xs)) (length-ring_put (take k xs) b p)
      ∙ ap (λ (c : List ℕ). put c 0 (drop k xs)) first

-- ---- the start place and the buffer

pub record Lying : Type 0 where
  pub start : ℕ
  pub buffer : List ℕ

abbrev pub lying_in : State → Lying
lying_in s = record { start = s.log.start.0; buffer = s.buffer }

-- a write: start moves past the records that go, and the new one lies where the last ended
unfoldable pub lying_write : View → Lying → Record → Ruling → Lying
lying_write v y r allowed =
    let used = total v.records in
    let kept = total (grown v r).records - cost r in
    record {
      start = wrapped v.capacity (y.start + (used - kept));
      buffer = laid v.capacity y.buffer (wrapped v.capacity (y.start + used)) (record_bytes r);
    }
lying_write v y r (refused why) = y

unfoldable pub lying_step : Past → Lying → Call → Lying
lying_step p y (outside time bytes caller) = lying_write (held p) y (outside_record (next_number p) time bytes caller) (outside_ruling (held p) bytes)
lying_step p y (box facility level time text dictionary fragment caller) =
    lying_write (held p) y (box_record (next_number p) time facility level text dictionary fragment caller)
    (box_ruling (held p) facility level text dictionary)
lying_step p y make = y
lying_step p y (place i n) = y
lying_step p y (read i lent) = y
lying_step p y (seek i offset whence) = y
lying_step p y (command a lent) = y
lying_step p y (save number lent) = y
lying_step p y (minimum wanted) = y
lying_step p y check = y
lying_step p y (console level setting) = y

unfoldable pub lying_after : Past → Lying → List Call → Lying
lying_after p y [] = y
lying_after p y (c ∷ cs) = lying_after (past_step p c).past (lying_step p y c) cs

-- ---- the log's are the same

module _ (s : State) (p : Past) (a : Agrees s p) (ok : Sound p) where
  capacity-is : length s.buffer ≡ (held p).capacity
  unfolding view_of
  capacity-is = ap (λ (v : View). v.capacity) a.same

  module _ (r : Record) (w : Ready p r) where
    fits : cost r ≤ length s.buffer
    unfolding held
    fits = rw capacity-is (ready_cost p r ok w)

    storable : Storable s.log.next.0 r
    storable = rw (next-is s p a ok) w.storable

    abbrev used : ℕ
    used = total (held p).records

    used-before : s.log.used ≡ used
    used-before = used-is s.log s.buffer (held p).records a.holds

    kept : kept_by s.log s.buffer (cost r) ≡ total (grown (held p) r).records - cost r
    unfolding written_log
    kept =
        let u = used-is _ _ _ (holds_written s.log s.buffer (held p).records a.holds r fits storable) in
        omega (arith, rw capacity-is at u)

    start_is : (written_log s.log s.buffer r).start.0 ≡ (lying_write (held p) (lying_in s) r allowed).start
    unfolding written_log lying_write
    start_is = rw (kept, used-before, capacity-is)

    buffer-is : written_buffer s.log s.buffer r ≡ (lying_write (held p) (lying_in s) r allowed).buffer
    unfolding written_buffer lying_write
    buffer-is =
        let n = length s.buffer in
        let at = s.log.start.0 + s.log.used in
        let some : 0 < n = omega (arith, a.holds.within.start_in) in
        let in-it : wrapped n at < n = wrapped_in n at some in
        let e = ring_put-place (record_bytes r) s.buffer at (wrapped n at) some (sym (wrapped_near n (wrapped n at) in-it)) in
        let f = laid-is s.buffer (record_bytes r) (wrapped n at) in-it (rw length-record_bytes fits) in
        rw used-before (rw (used-before, capacity-is) at (e ∙ f))

  lies_write : (r : Record) (bytes : ℕ) (q : Ruling) → (q ≡ allowed → Ready p r)
      → lying_in (after_write s.readers (write_by s.log s.buffer r bytes q)).state ≡ lying_write (held p) (lying_in s) r q
  unfolding write_by lying_write
  lies_write r bytes allowed h = rw (start_is r (h refl), buffer-is r (h refl))
  lies_write r bytes (refused why) h = refl

-- whether or not there is such a reader
lies_either : (t : Bool) (x y : Stepped) → lying_in x.state ≡ lying_in y.state → lying_in (if_there t x y).state ≡ lying_in y.state
lies_either true x y e = e
lies_either false x y e = refl

pub lies_step : (s : State) (p : Past) (c : Call) → Agrees s p → Sound p → Timed c → lying_in (step s c).state ≡ lying_step p (lying_in s) c
unfolding step lying_step outside_write box_write commanding setting_minimum with_marks
lies_step s p (outside time bytes caller) a ok t =
    rw (ruled-is s p a ok (λ v. outside_ruling v bytes), ap (λ (n : ℕ). outside_record n time bytes caller) (next-is s p a ok))
    (lies_write s p a ok (outside_record (next_number p) time bytes caller) (length bytes) (outside_ruling (held p) bytes) (outside_ready p ok time bytes caller t))
lies_step s p (box facility level time text dictionary fragment caller) a ok t =
    rw (
      ruled-is s p a ok (λ v. box_ruling v facility level text dictionary),
      ap (λ (n : ℕ). box_record n time facility level text dictionary fragment caller) (next-is s p a ok),
    )
    (lies_write s p a ok (box_record (next_number p) time facility level text dictionary fragment caller) (length text + length dictionary)
    (box_ruling (held p) facility level text dictionary) (box_ready p ok facility level time text dictionary fragment caller t))
lies_step s p make a ok t = refl
lies_step s p (place i n) a ok t = refl
lies_step s p (read i lent) a ok t = lies_either (ltb i (length s.readers)) _ _ refl
lies_step s p (seek i offset whence) a ok t = lies_either (ltb i (length s.readers)) _ _ refl
lies_step s p (command x lent) a ok t = refl
lies_step s p (save number lent) a ok t = refl
lies_step s p (minimum wanted) a ok t = refl
lies_step s p check a ok t = refl
lies_step s p (console level setting) a ok t = refl

pub lies_after : (cs : List Call) (s : State) (p : Past) → Agrees s p → Sound p → AllTimed cs
    → lying_in (state_after s cs) ≡ lying_after p (lying_in s) cs
unfolding state_after lying_after
lies_after [] s p a ok t = refl
lies_after (c ∷ cs) s p a ok t =
    lies_after cs (step s c).state (past_step p c).past (agree_step s p c a ok t.0).1 (sound-step p c ok t.0) t.1
    ∙ ap (λ (y : Lying). lying_after (past_step p c).past y cs) (lies_step s p c a ok t.0)
