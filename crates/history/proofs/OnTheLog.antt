-- What was shown of a reader on the history, of the log itself: the two agree after any calls on a fresh log.
use Prim.Native.Nat.{ℕ, ◌<◌}
use mathlib.Core.List.{List}
use lib.ListN.{length, get_or}
use Rattle.kmsg.specs.Read.{reader_at, read_ruling, reading}
use Rattle.history.specs.Calls.{Call, State, run}
use Rattle.history.specs.Past.{Past, past_after, fresh_past}
use Rattle.history.specs.Demand2.{fresh, AllTimed}
use Rattle.history.specs.Readers.{Overtaken, heard, AllLeave, InOrder, LogReads, LogOvertakes}
use Rattle.history.proofs.Readers.{overtaken_exactly, reads_in_order}
use Rattle.history.proofs.SoundLaws.{Sound, sound-after, sound-fresh}
use Rattle.history.proofs.Demand2.{Agrees, first-is, ruled-is, agree_run, agree_after, agree_fresh}

module _ (s : State) (p : Past) (a : Agrees s p) (ok : Sound p) where
  reads : (i : ℕ) → i < length s.readers → (cs : List Call) → AllTimed cs → AllLeave i cs
      → InOrder (past_after p cs).all (get_or s.readers i 0) (heard i cs (run s cs))
  reads i h cs t l = rw (agree_run cs s p a ok t, a.readers) (reads_in_order p i (rw a.readers at h) cs l)

  overtakes : (number : ℕ) (lent : List ℕ) → Overtaken p number (reading s.log s.buffer (reader_at number) lent)
  unfolding reading
  overtakes number lent = rw (ruled-is s p a ok (λ v. read_ruling v number lent), a.same) (overtaken_exactly p number lent)

pub log-reads : LogReads
log-reads buffer l h before t i g cs u k =
    let ok = sound-fresh (length buffer) l in
    let a = agree_fresh buffer l h in
    reads _ _ (agree_after before (fresh buffer) (fresh_past (length buffer)) a ok t) (sound-after before (fresh_past (length buffer)) ok t) i g cs u k

pub log_overtakes : LogOvertakes
log_overtakes buffer l h before t =
    let ok = sound-fresh (length buffer) l in
    let a = agree_after before (fresh buffer) (fresh_past (length buffer)) (agree_fresh buffer l h) ok t in
    let ok = sound-after before (fresh_past (length buffer)) ok t in
    (first-is _ _ a ok, λ number lent. overtakes _ _ a ok number lent)
